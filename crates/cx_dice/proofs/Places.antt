-- Where the draws of a seed stand in its stream.
use Rattle.std.proofs.Common.{◌≡◌, ℕ, zero, suc, ◌+◌, ◌-◌, ◌*◌, ◌/◌, ◌%◌, ◌^◌, ◌≤◌, List, ◌++◌, length, take, drop, refl, sym, ap, ◌∙◌, arith, append_assoc, append-nil, length-append, drop_at}
use Rattle.std.proofs.lemmas.List.{take-append-le}
use Rattle.std.specs.Int.{w32, to_le_bytes}
use Rattle.std.proofs.Math.Seq.{take-length}
use Rattle.rand_core.specs.Steps.{fill_via_u32, word_bytes}
use Rattle.rand_chacha.specs.ChaCha.{ChaCha, next_word, key_of}
use Rattle.cx_dice.specs.Draws.{part}
use Rattle.cx_dice.specs.Rolls.{AreSeedDraws, draws_of, generator_at, rolled, seed_bytes, seed_draw, words_from}

-- the generator of a key at a place

abbrev at : List ℕ → ℕ → ChaCha
at key place = record { key = key; stream = 0; word_pos = place % 2 ^ 68 }

one_more : (place : ℕ) → (place % 2 ^ 68 + 1) % 2 ^ 68 ≡ (place + 1) % 2 ^ 68
one_more place = omega arith

-- so many words, and the place behind them
words : (key : List ℕ) (place n : ℕ) → word_bytes (to_le_bytes w32) (next_word 10) n (at key place) ≡ (words_from key place n, at key (place + n))
unfolding word_bytes words_from
words key place zero = let e : place + 0 ≡ place = omega arith in rw e refl
words key place (suc n) =
    let e : place + suc n ≡ (place + n) + 1 = omega arith in
    rw (words key place n, e, ← one_more (place + n)) refl

length-words : (key : List ℕ) (place n : ℕ) → length (words_from key place n) ≡ 4 * n
unfolding words_from
length-words key place zero = refl
length-words key place (suc n) = omega (arith, length-append {A = ℕ}, length-words key place n)

-- a draw, and the place behind it
draw_at : (key : List ℕ) (place : ℕ) → rolled (at key place) ≡ (words_from key place 96, at key (place + 96))
draw_at key place =
    let full : take 384 (words_from key place 96) ≡ words_from key place 96 = rw (← length-words key place 96) (take-length (words_from key place 96)) in
    rw (words key place 96) (ap (λ (b : List ℕ). (b, at key (place + 96))) full)

draws : (key : List ℕ) (place n : ℕ) → draws_of (at key place) n ≡ words_from key (place + 96 * n) 96
unfolding draws_of
draws key place zero = let e : place + 96 * 0 ≡ place = omega arith in rw e (ap (λ (p : List ℕ × ChaCha). p.0) (draw_at key place))
draws key place (suc n) =
    let e : place + 96 * suc n ≡ (place + 96) + 96 * n = omega arith in
    rw e (ap (λ (p : List ℕ × ChaCha). draws_of p.1 n) (draw_at key place) ∙ draws key (place + 96) n)

pub seed_draws : AreSeedDraws
seed_draws seed number =
    let e : 96 * number ≡ 0 + 96 * number = omega arith in
    rw e (draws (key_of (seed_bytes seed)) 0 number)

pub length-seed_draw : (seed number : ℕ) → length (seed_draw seed number) ≡ 384
length-seed_draw seed number = length-words (key_of (seed_bytes seed)) (96 * number) 96

-- the generator of a seed before a draw of a number gives that draw, and is then the one before the next
pub numbered : (seed number : ℕ) → (seed_draw seed number, generator_at seed (96 * ((number + 1) % 2 ^ 64))) ≡ rolled (generator_at seed (96 * number))
numbered seed number =
    let key = key_of (seed_bytes seed) in
    let next : 96 * ((number + 1) % 2 ^ 64) % 2 ^ 68 ≡ (96 * number + 96) % 2 ^ 68 = omega arith in
    rw next (sym (draw_at key (96 * number)))

-- words, and those behind them

joined : (key : List ℕ) (place m n : ℕ) → words_from key place (m + n) ≡ words_from key place m ++ words_from key (place + m) n
unfolding words_from
joined key place m zero = let e : m + 0 ≡ m = omega arith in rw e (sym (append-nil (words_from key place m)))
joined key place m (suc n) =
    let e : m + suc n ≡ suc (m + n) = omega arith in
    let f : place + (m + n) ≡ (place + m) + n = omega arith in
    rw (e, joined key place m n, f) (append_assoc (words_from key place m) (words_from key (place + m) n) _)

-- a part of a draw is what the generator before its first word gives
pub part_drawn : (seed number place count : ℕ) → place % 4 ≡ 0 → place + count ≤ 384
    → (fill_via_u32 (next_word 10) count (generator_at seed (96 * number + place / 4))).0 ≡ part place count (seed_draw seed number)
part_drawn seed number place count word within =
    let key = key_of (seed_bytes seed) in
    let start = 96 * number in
    let before = place / 4 in
    let many = (count + 3) / 4 in
    let behind = 96 - (before + many) in
    let front = words_from key start before in
    let drawn = words_from key (start + before) many in
    let rest = words_from key (start + before + many) behind in
    let all : before + (many + behind) ≡ 96 = omega arith in
    let whole : words_from key start 96 ≡ front ++ (drawn ++ rest) =
    ap (words_from key start) (sym all) ∙ joined key start before (many + behind) ∙ ap (λ (b : List ℕ). front ++ b) (joined key (start + before) many behind) in
    let dropped : drop place (words_from key start 96) ≡ drawn ++ rest =
    ap (drop place) whole ∙ drop_at front (drawn ++ rest) place (omega (arith, length-words key start before)) in
    let taken : take count (drawn ++ rest) ≡ take count drawn = take-append-le count drawn rest (omega (arith, length-words key (start + before) many)) in
    ap (λ (p : List ℕ × ChaCha). take count p.0) (words key (start + before) many) ∙ sym (ap (take count) dropped ∙ taken)
