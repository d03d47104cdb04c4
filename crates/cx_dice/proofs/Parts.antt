-- Parts of a part of a draw.
use Rattle.std.proofs.Common.{◌≡◌, ℕ, ◌+◌, ◌-◌, ◌≤◌, List, take, drop, refl, sym, ap, ◌∙◌, arith, take-take, drop-drop, get_or-take, get_or-drop}
use Rattle.std.specs.Prelude.{slice_index}
use Rattle.std.proofs.lemmas.List.{drop-take}
use Rattle.cx_dice.specs.Draws.{nonce_start, part, three_keys}

pub part_part : (place many more count : ℕ) (draw : List ℕ) → more + count ≤ many → part more count (part place many draw) ≡ part (place + more) count draw
part_part place many more count draw within =
    let from = drop place draw in
    let split : more + (many - more) ≡ many = omega arith in
    let behind : drop more (take many from) ≡ take (many - more) (drop more from) =
    ap (λ (n : ℕ). drop more (take n from)) (sym split) ∙ drop-take more (many - more) from in
    ap (take count) behind ∙ take-take count (many - more) (drop more from) (omega arith) ∙ ap (take count) (drop-drop more place draw)

pub keys_in : (place : ℕ) (draw : List ℕ) → three_keys 0 (part place 48 draw) ≡ three_keys place draw
keys_in place draw =
    let e : place + 0 ≡ place = omega arith in
    rw (part_part place 48 0 16 draw (omega arith), part_part place 48 16 16 draw (omega arith), part_part place 48 32 16 draw (omega arith), e) refl

pub nonce_in : (place many more high : ℕ) (draw : List ℕ) → more + 4 ≤ many → nonce_start high more (part place many draw) ≡ nonce_start high (place + more) draw
nonce_in place many more high draw within =
    let first : slice_index (part place many draw) more ≡ slice_index draw (place + more) =
    get_or-take many (drop place draw) more 0 (omega arith) ∙ get_or-drop place draw more 0 in
    let e : place + (more + 1) ≡ (place + more) + 1 = omega arith in
    rw (first, part_part place many (more + 1) 3 draw (omega arith), e) refl

-- a part of the first bytes
pub part_first : (many place count : ℕ) (draw : List ℕ) → place + count ≤ many → part place count (part 0 many draw) ≡ part place count draw
part_first many place count draw within =
    let e : 0 + place ≡ place = omega arith in
    part_part 0 many place count draw within ∙ ap (λ (n : ℕ). part n count draw) e
