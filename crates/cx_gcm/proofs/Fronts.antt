-- Sums of products before they are reduced, as fronts of longer polynomials.
use Rattle.std.proofs.Common.{◌≡◌, ℕ, suc, ◌<◌, ◌+◌, ◌*◌, ◌^◌, List, [], ◌∷◌, ◌++◌, All, map, length, get_or, take, bit_xor, refl, sym, ap, ◌∙◌, arith}
use Rattle.std.specs.Int.Bits.{xor_assoc, xor_zero_l, xor_zero_r}
use Rattle.std.proofs.lemmas.Nat.{xor_comm, xor_block}
use Rattle.std.proofs.lemmas.List.Elements.{All-head, All-tail}
use Rattle.std.proofs.Common.{length-take}
use Rattle.std.proofs.lemmas.List.{get_or-map, length-map}
use Rattle.std.proofs.lemmas.Simd.{length-zip2}
use lib.Lanes.{zip2}
use Rattle.cx_aes.proofs.BytePlaces.{same_at_bytes}
use Rattle.cx_aes.proofs.Cells.{cells-is}
use Rattle.cx_gcm.specs.Blocks.{shifted, shifted_by}
use Rattle.cx_gcm.specs.Fronts.{across, carried, front}
use Rattle.cx_gcm.proofs.Shifts.{shifted_by-xor, shifted_by-zero, xor_exchange}

-- a byte at the front of a block
pub first-xor : (a b : ℕ) → bit_xor a b * 2 ^ 120 ≡ bit_xor (a * 2 ^ 120) (b * 2 ^ 120)
first-xor a b =
    let a0 : a * 2 ^ 120 + 0 ≡ a * 2 ^ 120 = omega arith in
    let b0 : b * 2 ^ 120 + 0 ≡ b * 2 ^ 120 = omega arith in
    let ab : bit_xor a b * 2 ^ 120 + 0 ≡ bit_xor a b * 2 ^ 120 = omega arith in
    sym ab ∙ sym (xor_block 120 a b 0 0 (omega arith) (omega arith)) ∙ ap (λ v. bit_xor v (b * 2 ^ 120 + 0)) a0 ∙ ap (λ v. bit_xor (a * 2 ^ 120) v) b0

pub front-xor : (a b : List ℕ) → length a ≡ length b → front (zip2 bit_xor a b) ≡ bit_xor (front a) (front b)
unfolding front
front-xor [] [] e = refl
front-xor [] (y ∷ ys) e = cc
front-xor (x ∷ xs) [] e = cc
front-xor (x ∷ xs) (y ∷ ys) e =
    let tails : length xs ≡ length ys = omega (arith, e) in
    ap (λ v. bit_xor v (shifted_by (front (zip2 bit_xor xs ys)) 8)) (first-xor x y)
    ∙ ap (λ v. bit_xor (bit_xor (x * 2 ^ 120) (y * 2 ^ 120)) (shifted_by v 8)) (front-xor xs ys tails)
    ∙ ap (λ v. bit_xor (bit_xor (x * 2 ^ 120) (y * 2 ^ 120)) v) (shifted_by-xor (front xs) (front ys) 8)
    ∙ xor_exchange (x * 2 ^ 120) (y * 2 ^ 120) (shifted_by (front xs) 8) (shifted_by (front ys) 8)

front-later : (l : List ℕ) → front (0 ∷ l) ≡ shifted_by (front l) 8
unfolding front
front-later l = xor_zero_l (shifted_by (front l) 8)

eight_more : (y m n : ℕ) → n ≡ m + 8 → shifted_by (shifted_by y m) 8 ≡ shifted_by y n
unfolding shifted_by
eight_more y m n e = let sucs : n ≡ suc (suc (suc (suc (suc (suc (suc (suc m))))))) = omega (arith, e) in ap (shifted_by y) (sym sucs)

front-append : (l : List ℕ) (z m : ℕ) → m ≡ 8 * length l → front (l ++ z ∷ []) ≡ bit_xor (front l) (shifted_by (z * 2 ^ 120) m)
unfolding front shifted_by
front-append [] z m e =
    let none : 0 ≡ m = omega (arith, e) in
    ap (λ v. bit_xor (z * 2 ^ 120) v) (shifted_by-zero 8) ∙ xor_comm (z * 2 ^ 120) 0 ∙ ap (λ n. bit_xor 0 (shifted_by (z * 2 ^ 120) n)) none
front-append (x ∷ l) z m e =
    let tail = front-append l z (8 * length l) refl in
    ap (λ v. bit_xor (x * 2 ^ 120) (shifted_by v 8)) tail
    ∙ ap (λ v. bit_xor (x * 2 ^ 120) v) (shifted_by-xor (front l) (shifted_by (z * 2 ^ 120) (8 * length l)) 8)
    ∙ ap (λ v. bit_xor (x * 2 ^ 120) (bit_xor (shifted_by (front l) 8) v)) (eight_more (z * 2 ^ 120) (8 * length l) m (omega (arith, e)))
    ∙ sym (xor_assoc (x * 2 ^ 120) (shifted_by (front l) 8) (shifted_by (z * 2 ^ 120) m))

-- sixteen bytes are fifteen and the last
front-last : (l : List ℕ) → length l ≡ 16 → front l ≡ bit_xor (front (take 15 l)) (shifted_by (get_or l 15 0 * 2 ^ 120) 120)
front-last l len =
    let cs = cells-is 16 l len in
    let split : l ≡ take 15 l ++ get_or l 15 0 ∷ [] = sym cs ∙ ap (λ v. take 15 v ++ get_or v 15 0 ∷ []) cs in
    ap front split ∙ front-append (take 15 l) (get_or l 15 0) 120 (omega (arith, length-take 15 l, len))

-- all go one place on, and a column is added
pub next_front : (lower upper column : List ℕ) → length lower ≡ 16 → length upper ≡ 16 → length column ≡ 16 → get_or upper 15 0 ≡ 0
    → bit_xor (front (zip2 bit_xor (0 ∷ take 15 lower) column)) (shifted_by (front (get_or lower 15 0 ∷ take 15 upper)) 128)
    ≡ bit_xor (front column) (shifted_by (bit_xor (front lower) (shifted_by (front upper) 128)) 8)
unfolding front shifted_by
next_front lower upper column llen ulen clen none =
    let z = get_or lower 15 0 * 2 ^ 120 in
    let l = front (take 15 lower) in
    let u = front (take 15 upper) in
    let f = front column in
    let long : length (0 ∷ take 15 lower) ≡ length column = omega (arith, length-take 15 lower, llen, clen) in
    let no_last : front upper ≡ u =
    front-last upper ulen ∙ ap (λ v. bit_xor u (shifted_by (v * 2 ^ 120) 120)) none ∙ ap (bit_xor u) (shifted_by-zero 120) ∙ xor_zero_r u in
    let left = ap (λ v. bit_xor v (shifted_by (bit_xor z (shifted_by u 8)) 128)) (front-xor (0 ∷ take 15 lower) column long ∙ ap (λ v. bit_xor v f) (front-later (take 15 lower)))
    ∙ ap (bit_xor (bit_xor (shifted_by l 8) f)) (shifted_by-xor z (shifted_by u 8) 128) in
    let right = ap (λ v. bit_xor f (shifted_by v 8)) (ap (λ v. bit_xor v (shifted_by (front upper) 128)) (front-last lower llen) ∙ ap (λ v. bit_xor (bit_xor l (shifted_by z 120)) (shifted_by v 128)) no_last)
    ∙ ap (bit_xor f) (shifted_by-xor (bit_xor l (shifted_by z 120)) (shifted_by u 128) 8 ∙ ap (λ v. bit_xor v (shifted_by (shifted_by u 128) 8)) (shifted_by-xor l (shifted_by z 120) 8)) in
    left ∙ turned (shifted_by l 8) f (shifted_by z 128) (shifted_by (shifted_by u 8) 128) ∙ sym right
  where
    turned : (a f b c : ℕ) → bit_xor (bit_xor a f) (bit_xor b c) ≡ bit_xor f (bit_xor (bit_xor a b) c)
    turned a f b c =
        ap (λ v. bit_xor v (bit_xor b c)) (xor_comm a f) ∙ xor_assoc f a (bit_xor b c) ∙ ap (bit_xor f) (sym (xor_assoc a b c))

-- a byte that is shifted out
out_of_sight : (b : ℕ) → b < 256 → shifted_by (b * 2 ^ 120) 128 ≡ bit_xor (across b * 2 ^ 120) (shifted_by (carried b * 2 ^ 120) 8)
unfolding shifted shifted_by across carried
out_of_sight b lt =
    same_at_bytes (λ b. shifted_by (b * 2 ^ 120) 128) (λ b. bit_xor (across b * 2 ^ 120) (shifted_by (carried b * 2 ^ 120) 8)) refl b lt

-- all of sixteen, or of any number
all_out : (u : List ℕ) → All (λ b. b < 256) u → shifted_by (front u) 128 ≡ bit_xor (front (map across u)) (shifted_by (front (map carried u)) 8)
unfolding front shifted_by
all_out [] h = shifted_by-zero 128 ∙ sym (xor_zero_l (shifted_by 0 8) ∙ shifted_by-zero 8)
all_out (x ∷ u) h =
    let a = across x * 2 ^ 120 in
    let c = carried x * 2 ^ 120 in
    let fa = front (map across u) in
    let fc = front (map carried u) in
    shifted_by-xor (x * 2 ^ 120) (shifted_by (front u) 8) 128
    ∙ ap (λ v. bit_xor v (shifted_by (shifted_by (front u) 8) 128)) (out_of_sight x (All-head (λ b. b < 256) x u h))
    ∙ ap (λ v. bit_xor (bit_xor a (shifted_by c 8)) (shifted_by v 8)) (all_out u (All-tail (λ b. b < 256) x u h))
    ∙ ap (bit_xor (bit_xor a (shifted_by c 8))) (shifted_by-xor fa (shifted_by fc 8) 8)
    ∙ xor_exchange a (shifted_by c 8) (shifted_by fa 8) (shifted_by (shifted_by fc 8) 8)
    ∙ ap (bit_xor (bit_xor a (shifted_by fa 8))) (sym (shifted_by-xor c (shifted_by fc 8) 8))

-- the sum of what stays and of what becomes of the rest, whose last byte is 0
pub reduced_front : (lower upper : List ℕ) → length lower ≡ 16 → length upper ≡ 16 → All (λ b. b < 256) upper → get_or upper 15 0 ≡ 0
    → front (zip2 bit_xor lower (zip2 bit_xor (map across upper) (0 ∷ take 15 (map carried upper)))) ≡ bit_xor (front lower) (shifted_by (front upper) 128)
unfolding carried
reduced_front lower upper llen ulen fits none =
    let a = map across upper in
    let c = map carried upper in
    let alen : length a ≡ 16 = length-map upper across ∙ ulen in
    let clen : length c ≡ 16 = length-map upper carried ∙ ulen in
    let moved : List ℕ = 0 ∷ take 15 c in
    let mlen : length moved ≡ 16 = omega (arith, length-take 15 c, clen) in
    let zlen : length (zip2 bit_xor a moved) ≡ 16 = length-zip2 bit_xor a moved (alen ∙ sym mlen) ∙ alen in
    let last : get_or c 15 0 ≡ 0 = get_or-map carried upper 15 0 0 (omega (arith, ulen)) ∙ ap carried none in
    let no_last : front c ≡ front (take 15 c) =
    front-last c clen ∙ ap (λ v. bit_xor (front (take 15 c)) (shifted_by (v * 2 ^ 120) 120)) last
    ∙ ap (bit_xor (front (take 15 c))) (shifted_by-zero 120) ∙ xor_zero_r (front (take 15 c)) in
    front-xor lower (zip2 bit_xor a moved) (llen ∙ sym zlen)
    ∙ ap (bit_xor (front lower))
    (front-xor a moved (alen ∙ sym mlen) ∙ ap (bit_xor (front a)) (front-later (take 15 c) ∙ ap (λ v. shifted_by v 8) (sym no_last))
    ∙ sym (all_out upper fits))
