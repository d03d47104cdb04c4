-- The first and the last sum of the cipher and of its inverse, which bring a block into a basis and out of it.
use Rattle.std.proofs.Common.{◌≡◌, ℕ, List, [], ◌∷◌, All, map, length, bit_xor, refl, sym, ap, ◌∙◌}
use Rattle.std.proofs.lemmas.List.{length-map}
use Rattle.std.proofs.lemmas.List.Elements.{All-head, All-tail}
use Rattle.std.proofs.lemmas.Simd.{pick_l_left}
use lib.Lanes.{zip2}
use Rattle.cx_aes.specs.Field.{inverse_sbox, sbox}
use Rattle.cx_aes.specs.Cipher.{IsBlock, add, shift_rows, sub_bytes}
use Rattle.cx_aes.specs.Inverse.{inverse_shift_rows, inverse_sub_bytes}
use Rattle.cx_aes.specs.Basis.{into, last}
use Rattle.cx_aes.specs.InverseBasis.{back, linear, undone}
use Rattle.cx_aes.proofs.Blocks.{IsByte}
use Rattle.cx_aes.proofs.Mixing.{Moves, back_moves, into_moves, swizzled}
use Rattle.cx_aes.proofs.Places.{cells-is}
use Rattle.cx_aes.proofs.Substitutions.{last-state, undone-state}

-- a sum of vectors is the sum of blocks
pub zip2-add : (s t : List ℕ) → zip2 bit_xor s t ≡ add s t
unfolding add
zip2-add [] t = refl
zip2-add (x ∷ xs) [] = refl
zip2-add (x ∷ xs) (y ∷ ys) = ap (λ l. bit_xor x y ∷ l) (zip2-add xs ys)

-- f of a list and g of a key are g of their sum
moved : (f g : ℕ → ℕ) → Moves f g → (s k : List ℕ) → All IsByte s → All IsByte k → zip2 bit_xor (map f s) (map g k) ≡ map g (add s k)
unfolding add
moved f g h [] k hs hk = refl
moved f g h (x ∷ xs) [] hs hk = refl
moved f g h (x ∷ xs) (y ∷ ys) hs hk =
    cc (h.key x y (All-head IsByte x xs hs) (All-head IsByte y ys hk), moved f g h xs ys (All-tail IsByte x xs hs) (All-tail IsByte y ys hk))

pub into-sum : (s k state key : List ℕ) → IsBlock s → IsBlock k → state ≡ map into s → key ≡ map into k → zip2 bit_xor state key ≡ map into (add s k)
into-sum s k state key hs hk e ek =
    ap (λ v. zip2 bit_xor v key) e ∙ ap (λ v. zip2 bit_xor (map into s) v) ek ∙ moved into into into_moves s k hs.bytes hk.bytes

pub back-sum : (s k state key : List ℕ) → IsBlock s → IsBlock k → state ≡ map linear s → key ≡ map back k → zip2 bit_xor state key ≡ map back (add s k)
back-sum s k state key hs hk e ek =
    ap (λ v. zip2 bit_xor v key) e ∙ ap (λ v. zip2 bit_xor (map linear s) v) ek ∙ moved linear back back_moves s k hs.bytes hk.bytes

-- the swizzles that shift rows
shifted : (v : List ℕ) → length v ≡ 16
    → swizzled v (0 ∷ 5 ∷ 10 ∷ 15 ∷ 4 ∷ 9 ∷ 14 ∷ 3 ∷ 8 ∷ 13 ∷ 2 ∷ 7 ∷ 12 ∷ 1 ∷ 6 ∷ 11 ∷ []) ≡ shift_rows v
unfolding shift_rows
shifted v len = pick_l_left 0 v v 16 (0 ∷ 5 ∷ 10 ∷ 15 ∷ 4 ∷ 9 ∷ 14 ∷ 3 ∷ 8 ∷ 13 ∷ 2 ∷ 7 ∷ 12 ∷ 1 ∷ 6 ∷ 11 ∷ []) len tt

unshifted : (v : List ℕ) → length v ≡ 16
    → swizzled v (0 ∷ 13 ∷ 10 ∷ 7 ∷ 4 ∷ 1 ∷ 14 ∷ 11 ∷ 8 ∷ 5 ∷ 2 ∷ 15 ∷ 12 ∷ 9 ∷ 6 ∷ 3 ∷ []) ≡ inverse_shift_rows v
unfolding inverse_shift_rows
unshifted v len = pick_l_left 0 v v 16 (0 ∷ 13 ∷ 10 ∷ 7 ∷ 4 ∷ 1 ∷ 14 ∷ 11 ∷ 8 ∷ 5 ∷ 2 ∷ 15 ∷ 12 ∷ 9 ∷ 6 ∷ 3 ∷ []) len tt

-- the last round
pub last_sum : (s k state out key : List ℕ) → IsBlock s → length state ≡ 16 → state ≡ map into s → out ≡ map last state → key ≡ k
    → zip2 bit_xor (swizzled out (0 ∷ 5 ∷ 10 ∷ 15 ∷ 4 ∷ 9 ∷ 14 ∷ 3 ∷ 8 ∷ 13 ∷ 2 ∷ 7 ∷ 12 ∷ 1 ∷ 6 ∷ 11 ∷ [])) key
    ≡ add (shift_rows (sub_bytes s)) k
unfolding sub_bytes
last_sum s k state out key hs len is e ek =
    ap (λ v. zip2 bit_xor v key) (shifted out (ap length e ∙ length-map state last ∙ len) ∙ ap shift_rows (last-state s state out hs.bytes is e))
    ∙ ap (λ v. zip2 bit_xor (shift_rows (map sbox s)) v) ek ∙ zip2-add (shift_rows (map sbox s)) k

change_places : (s : List ℕ) → length s ≡ 16 → inverse_shift_rows (map inverse_sbox s) ≡ inverse_sub_bytes (inverse_shift_rows s)
unfolding inverse_sub_bytes inverse_shift_rows
change_places s len =
    ap (λ v. inverse_shift_rows (map inverse_sbox v)) (sym (cells-is 16 s len)) ∙ ap (λ v. inverse_sub_bytes (inverse_shift_rows v)) (cells-is 16 s len)

-- the last inverse round; the two steps may change places
pub undone_sum : (s k state out key : List ℕ) → IsBlock s → length state ≡ 16 → state ≡ map back s → out ≡ map undone state → key ≡ k
    → zip2 bit_xor (swizzled out (0 ∷ 13 ∷ 10 ∷ 7 ∷ 4 ∷ 1 ∷ 14 ∷ 11 ∷ 8 ∷ 5 ∷ 2 ∷ 15 ∷ 12 ∷ 9 ∷ 6 ∷ 3 ∷ [])) key
    ≡ add (inverse_sub_bytes (inverse_shift_rows s)) k
undone_sum s k state out key hs len is e ek =
    ap (λ v. zip2 bit_xor v key)
    (unshifted out (ap length e ∙ length-map state undone ∙ len) ∙ ap inverse_shift_rows (undone-state s state out hs.bytes is e) ∙ change_places s hs.len)
    ∙ ap (λ v. zip2 bit_xor (inverse_sub_bytes (inverse_shift_rows s)) v) ek ∙ zip2-add (inverse_sub_bytes (inverse_shift_rows s)) k
