-- How long a connection secret is, and where it begins to count.
use Rattle.std.proofs.Common.{◌≡◌, ℕ, ◌+◌, ◌≤◌, List, ◌++◌, length, drop, length-append, refl, sym, ap, subst, ◌∙◌, append_assoc, arith}
use Rattle.std.specs.Prelude.{slice_index}
use Rattle.std.proofs.lemmas.List.{get_or-append-add, length-drop, length-take}
use Rattle.cx_rules.specs.cx_dice.specs.Draws.{connection_of, counter_0, nonce_start, part}
use Rattle.cx_rules.specs.cx_frame.specs.Banners.{number64}

length-part : (place count : ℕ) (draw : List ℕ) → length (part place count draw) ≤ count
length-part place count draw = omega (arith, length-take count (drop place draw))

pub length-connection : (draw : List ℕ) → length (connection_of draw) ≤ 64
length-connection draw =
    let key : List ℕ = part 16 16 draw in
    let out : List ℕ = nonce_start 0 32 draw in
    let into : List ℕ = nonce_start 128 44 draw in
    let rest : List ℕ = part 56 24 draw in
    let third : List ℕ = into ++ (counter_0 ++ rest) in
    omega (
      arith,
      length-append key (out ++ (counter_0 ++ third)),
      length-append out (counter_0 ++ third),
      length-append counter_0 third,
      length-append into (counter_0 ++ rest),
      length-append counter_0 rest,
      length-part 16 16 draw,
      length-part 33 3 draw,
      length-part 45 3 draw,
      length-part 56 24 draw,
    )

-- it counts from 0 on
index-behind : (front more : List ℕ) (j : ℕ) → length front ≡ 20 → slice_index (front ++ more) (20 + j) ≡ slice_index more j
index-behind front more j size = subst (λ n. slice_index (front ++ more) (n + j) ≡ slice_index more j) size (get_or-append-add front more j 0)

pub counts-from-0 : (draw : List ℕ) → length draw ≡ 384 → number64 (connection_of draw) 20 ≡ 0
counts-from-0 draw size =
    let key : List ℕ = part 16 16 draw in
    let out : List ℕ = nonce_start 0 32 draw in
    let front : List ℕ = key ++ out in
    let more : List ℕ = counter_0 ++ (nonce_start 128 44 draw ++ (counter_0 ++ part 56 24 draw)) in
    let whole : connection_of draw ≡ front ++ more = sym (append_assoc key out more) in
    let twenty : length front ≡ 20 =
    omega (arith, size, length-append key out, length-take 16 (drop 16 draw), length-drop 16 draw, length-take 3 (drop 33 draw), length-drop 33 draw)
    in
    let at : (j : ℕ) → slice_index (front ++ more) (20 + j) ≡ slice_index more j = λ j. index-behind front more j twenty in
    ap (λ secret. number64 secret 20) whole ∙ rw (at 0, at 1, at 2, at 3, at 4, at 5, at 6, at 7) refl
