-- The multiples of a block by four bits are sums of its multiples by one.
use Rattle.std.proofs.Common.{◌≡◌, ℕ, ◌<◌, ◌==◌, Bool, true, false, if◌then◌else◌, List, [], ◌∷◌, length, map, get_or, bit_xor, refl, sym, ap, ◌∙◌, arith}
use Rattle.std.specs.Int.{bit_at}
use Rattle.std.specs.Int.Bits.{xor_assoc, xor_zero_l}
use Rattle.std.specs.List.{range_with_len}
use Rattle.std.proofs.lemmas.List.FromFn.{fill_by_all}
use Rattle.std.proofs.lemmas.Nat.{xor_comm}
use Rattle.std.proofs.lemmas.Simd.{get_or-zip2}
use lib.Lanes.{zip2}
use Rattle.cx_gcm.specs.Blocks.{shifted, shifted_by, spelled}
use Rattle.cx_gcm.specs.Multiples.{byte_of, chosen_by, columns, from_last, sum_of}
use Rattle.cx_gcm.proofs.Digits.{length-spelled, spelled-xor}
use Rattle.cx_gcm.proofs.Shifts.{shifted-xor, shifted_by-xor, shifted_by-zero}
use Rattle.cx_gcm.proofs.Steps.{no_rest}

-- ---- shifts of sums

shifted-chosen : (b : Bool) (v : ℕ) → shifted (if b then v else 0) ≡ (if b then shifted v else 0)
unfolding shifted
shifted-chosen true v = refl
shifted-chosen false v = refl

shifted_by-chosen : (b : Bool) (v n : ℕ) → shifted_by (if b then v else 0) n ≡ (if b then shifted_by v n else 0)
shifted_by-chosen true v n = refl
shifted_by-chosen false v n = shifted_by-zero n

pub sum_of-shifted : (bits e f t o n : ℕ) → shifted_by (sum_of bits e f t o) n ≡ sum_of bits (shifted_by e n) (shifted_by f n) (shifted_by t n) (shifted_by o n)
unfolding sum_of
sum_of-shifted bits e f t o n =
    let a = chosen_by bits 3 e in
    let b = chosen_by bits 2 f in
    let c = chosen_by bits 1 t in
    let d = chosen_by bits 0 o in
    shifted_by-xor (bit_xor a b) (bit_xor c d) n
    ∙ ap (λ v. bit_xor v (shifted_by (bit_xor c d) n)) (shifted_by-xor a b n)
    ∙ ap (λ v. bit_xor (bit_xor (shifted_by a n) (shifted_by b n)) v) (shifted_by-xor c d n)
    ∙ ap (λ v. bit_xor (bit_xor v (shifted_by b n)) (bit_xor (shifted_by c n) (shifted_by d n))) (shifted_by-chosen (bit_at bits 3 == 1) e n)
    ∙ ap (λ v. bit_xor (bit_xor (chosen_by bits 3 (shifted_by e n)) v) (bit_xor (shifted_by c n) (shifted_by d n))) (shifted_by-chosen (bit_at bits 2 == 1) f n)
    ∙ ap (λ v. bit_xor (bit_xor (chosen_by bits 3 (shifted_by e n)) (chosen_by bits 2 (shifted_by f n))) (bit_xor v (shifted_by d n))) (shifted_by-chosen (bit_at bits 1 == 1) t n)
    ∙ ap (λ v. bit_xor (bit_xor (chosen_by bits 3 (shifted_by e n)) (chosen_by bits 2 (shifted_by f n))) (bit_xor (chosen_by bits 1 (shifted_by t n)) v)) (shifted_by-chosen (bit_at bits 0 == 1) o n)

-- three sums one in the other, the other way round
turned_round : (a b c d : ℕ) → bit_xor (bit_xor (bit_xor a b) c) d ≡ bit_xor (bit_xor d c) (bit_xor b a)
turned_round a b c d =
    xor_assoc (bit_xor a b) c d
    ∙ xor_comm (bit_xor a b) (bit_xor c d)
    ∙ ap (λ v. bit_xor v (bit_xor a b)) (xor_comm c d)
    ∙ ap (λ v. bit_xor (bit_xor d c) v) (xor_comm a b)

pub from_last-sum : (bits y : ℕ) → from_last bits y 4 ≡ sum_of bits y (shifted y) (shifted (shifted y)) (shifted (shifted (shifted y)))
unfolding from_last sum_of
from_last-sum bits y =
    let b0 = bit_at bits 0 == 1 in
    let b1 = bit_at bits 1 == 1 in
    let b2 = bit_at bits 2 == 1 in
    let c0 = chosen_by bits 0 y in
    let c1 = chosen_by bits 1 y in
    let c2 = chosen_by bits 2 y in
    let c3 = chosen_by bits 3 y in
    let s = shifted y in
    let none : bit_xor (shifted 0) c0 ≡ c0 = ap (λ v. bit_xor v c0) (shifted-chosen false 0) ∙ xor_zero_l c0 in
    let one : shifted c0 ≡ chosen_by bits 0 s = shifted-chosen b0 y in
    let two : shifted (bit_xor (chosen_by bits 0 s) c1) ≡ bit_xor (chosen_by bits 0 (shifted s)) (chosen_by bits 1 s) =
    shifted-xor (chosen_by bits 0 s) c1 ∙ ap (λ v. bit_xor v (shifted c1)) (shifted-chosen b0 s) ∙ ap (λ v. bit_xor (chosen_by bits 0 (shifted s)) v) (shifted-chosen b1 y) in
    let d0 = chosen_by bits 0 (shifted s) in
    let d1 = chosen_by bits 1 s in
    let three : shifted (bit_xor (bit_xor d0 d1) c2) ≡ bit_xor (bit_xor (chosen_by bits 0 (shifted (shifted s))) (chosen_by bits 1 (shifted s))) (chosen_by bits 2 s) =
    shifted-xor (bit_xor d0 d1) c2 ∙ ap (λ v. bit_xor v (shifted c2)) (shifted-xor d0 d1)
    ∙ ap (λ v. bit_xor (bit_xor v (shifted d1)) (shifted c2)) (shifted-chosen b0 (shifted s))
    ∙ ap (λ v. bit_xor (bit_xor (chosen_by bits 0 (shifted (shifted s))) v) (shifted c2)) (shifted-chosen b1 s)
    ∙ ap (λ v. bit_xor (bit_xor (chosen_by bits 0 (shifted (shifted s))) (chosen_by bits 1 (shifted s))) v) (shifted-chosen b2 y) in
    ap (λ v. bit_xor (shifted (bit_xor (shifted (bit_xor (shifted v) c1)) c2)) c3) none
    ∙ ap (λ v. bit_xor (shifted (bit_xor (shifted (bit_xor v c1)) c2)) c3) one
    ∙ ap (λ v. bit_xor (shifted (bit_xor v c2)) c3) two
    ∙ ap (λ v. bit_xor v c3) three
    ∙ turned_round (chosen_by bits 0 (shifted (shifted s))) (chosen_by bits 1 (shifted s)) (chosen_by bits 2 s) c3

-- ---- bytes of sums

byte-xor : (p a b : ℕ) → p < 16 → byte_of p (spelled (bit_xor a b)) ≡ bit_xor (byte_of p (spelled a)) (byte_of p (spelled b))
byte-xor p a b lt =
    ap (byte_of p) (spelled-xor a b)
    ∙ get_or-zip2 bit_xor (spelled a) (spelled b) p 0 0 0 (omega (arith, lt, length-spelled a)) (omega (arith, lt, length-spelled b))

byte-zero : (p : ℕ) → byte_of p (spelled 0) ≡ 0
unfolding spelled
byte-zero p = no_rest p

byte-chosen : (b : Bool) (v p : ℕ) → byte_of p (spelled (if b then v else 0)) ≡ (if b then byte_of p (spelled v) else 0)
byte-chosen true v p = refl
byte-chosen false v p = byte-zero p

byte-sum : (bits e f t o p : ℕ) → p < 16
    → byte_of p (spelled (sum_of bits e f t o)) ≡ sum_of bits (byte_of p (spelled e)) (byte_of p (spelled f)) (byte_of p (spelled t)) (byte_of p (spelled o))
unfolding sum_of
byte-sum bits e f t o p lt =
    let a = chosen_by bits 3 e in
    let b = chosen_by bits 2 f in
    let c = chosen_by bits 1 t in
    let d = chosen_by bits 0 o in
    let at : ℕ → ℕ = λ v. byte_of p (spelled v) in
    byte-xor p (bit_xor a b) (bit_xor c d) lt
    ∙ ap (λ v. bit_xor v (at (bit_xor c d))) (byte-xor p a b lt)
    ∙ ap (λ v. bit_xor (bit_xor (at a) (at b)) v) (byte-xor p c d lt)
    ∙ ap (λ v. bit_xor (bit_xor v (at b)) (bit_xor (at c) (at d))) (byte-chosen (bit_at bits 3 == 1) e p)
    ∙ ap (λ v. bit_xor (bit_xor (chosen_by bits 3 (at e)) v) (bit_xor (at c) (at d))) (byte-chosen (bit_at bits 2 == 1) f p)
    ∙ ap (λ v. bit_xor (bit_xor (chosen_by bits 3 (at e)) (chosen_by bits 2 (at f))) (bit_xor v (at d))) (byte-chosen (bit_at bits 1 == 1) t p)
    ∙ ap (λ v. bit_xor (bit_xor (chosen_by bits 3 (at e)) (chosen_by bits 2 (at f))) (bit_xor (chosen_by bits 1 (at t)) v)) (byte-chosen (bit_at bits 0 == 1) o p)

-- ---- columns of sums

map_same : {X : Type 0} (f g : ℕ → X) → ((n : ℕ) → f n ≡ g n) → (ns : List ℕ) → map f ns ≡ map g ns
map_same f g same [] = refl
map_same f g same (n ∷ ns) = ap (λ x. x ∷ map f ns) (same n) ∙ ap (λ xs. g n ∷ xs) (map_same f g same ns)

pub columns_same : (f g : ℕ → ℕ) → ((n : ℕ) → f n ≡ g n) → columns f ≡ columns g
unfolding columns
columns_same f g same =
    map_same (λ place. map (λ n. byte_of place (spelled (f n))) (range_with_len 0 16)) (λ place. map (λ n. byte_of place (spelled (g n))) (range_with_len 0 16))
    (λ place. map_same (λ n. byte_of place (spelled (f n))) (λ n. byte_of place (spelled (g n))) (λ n. ap (λ v. byte_of place (spelled v)) (same n)) (range_with_len 0 16))
    (range_with_len 0 16)

sums_at : ℕ → List ℕ → List ℕ → List ℕ → List ℕ → List ℕ
sums_at i a b c d = map (λ n. sum_of n (byte_of i a) (byte_of i b) (byte_of i c) (byte_of i d)) (range_with_len 0 16)

pub columns_of_sums : (e f t o : ℕ) (a b c d : List ℕ) (made : List (List ℕ)) → a ≡ spelled e → b ≡ spelled f → c ≡ spelled t → d ≡ spelled o → length made ≡ 16
    → ((i : ℕ) → i < 16 → get_or made i [] ≡ map (λ n. sum_of n (byte_of i a) (byte_of i b) (byte_of i c) (byte_of i d)) (range_with_len 0 16))
    → made ≡ columns (λ n. sum_of n e f t o)
unfolding columns sums_at
columns_of_sums e f t o a b c d made ea eb ec ed len places =
    fill_by_all (λ place. map (λ n. byte_of place (spelled (sum_of n e f t o))) (range_with_len 0 16)) made 16 [] len
    (λ i lt. places i lt
    ∙ ap (λ v. sums_at i v b c d) ea ∙ ap (λ v. sums_at i (spelled e) v c d) eb ∙ ap (λ v. sums_at i (spelled e) (spelled f) v d) ec
    ∙ ap (λ v. sums_at i (spelled e) (spelled f) (spelled t) v) ed
    ∙ sym (map_same (λ n. byte_of i (spelled (sum_of n e f t o)))
    (λ n. sum_of n (byte_of i (spelled e)) (byte_of i (spelled f)) (byte_of i (spelled t)) (byte_of i (spelled o)))
    (λ n. byte-sum n e f t o i lt) (range_with_len 0 16)))

-- ---- the tables that are made

pub upper_columns : (h f t o : ℕ) (upper : List (List ℕ)) → f ≡ shifted h → t ≡ shifted f → o ≡ shifted t
    → upper ≡ columns (λ n. sum_of n h f t o) → upper ≡ columns (λ n. from_last n h 4)
upper_columns h f t o upper ef et eo e =
    let second : t ≡ shifted (shifted h) = et ∙ ap shifted ef in
    let third : o ≡ shifted (shifted (shifted h)) = eo ∙ ap shifted second in
    e ∙ columns_same (λ n. sum_of n h f t o) (λ n. from_last n h 4)
    (λ n.
    ap (λ v. sum_of n h v t o) ef ∙ ap (λ v. sum_of n h (shifted h) v o) second ∙ ap (λ v. sum_of n h (shifted h) (shifted (shifted h)) v) third
    ∙ sym (from_last-sum n h))

pub lower_columns : (h o e f t u : ℕ) (lower : List (List ℕ)) → o ≡ shifted (shifted (shifted h)) → e ≡ shifted o → f ≡ shifted e → t ≡ shifted f → u ≡ shifted t
    → lower ≡ columns (λ n. sum_of n e f t u) → lower ≡ columns (λ n. shifted_by (from_last n h 4) 4)
unfolding shifted_by
lower_columns h o e f t u lower eo ee ef et eu el =
    let s : ℕ = shifted (shifted (shifted h)) in
    let first : e ≡ shifted_by h 4 = ee ∙ ap shifted eo in
    let second : f ≡ shifted_by (shifted h) 4 = ef ∙ ap shifted first in
    let third : t ≡ shifted_by (shifted (shifted h)) 4 = et ∙ ap shifted second in
    let fourth : u ≡ shifted_by s 4 = eu ∙ ap shifted third in
    el ∙ columns_same (λ n. sum_of n e f t u) (λ n. shifted_by (from_last n h 4) 4)
    (λ n.
    ap (λ v. sum_of n v f t u) first ∙ ap (λ v. sum_of n (shifted_by h 4) v t u) second ∙ ap (λ v. sum_of n (shifted_by h 4) (shifted_by (shifted h) 4) v u) third
    ∙ ap (λ v. sum_of n (shifted_by h 4) (shifted_by (shifted h) 4) (shifted_by (shifted (shifted h)) 4) v) fourth
    ∙ sym (ap (λ v. shifted_by v 4) (from_last-sum n h) ∙ sum_of-shifted n h (shifted h) (shifted (shifted h)) s 4))
