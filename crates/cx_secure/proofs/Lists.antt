-- Lists whose length is known.
use Rattle.std.proofs.Common.{◌≡◌, ℕ, List, [], ◌∷◌, ◌++◌, length, slice_index, take, drop, ◌-◌, ◌≤◌, min, ap, ◌∙◌, zero, suc, length-drop, append-nil, arith, refl}
use Rattle.std.specs.Prelude.{replicate}
use Rattle.cx_secure.specs.Plains.{filled, up16}
use Rattle.std.proofs.lemmas.List.{drop-replicate, nil_from_length, take-replicate}
use Rattle.std.proofs.lemmas.List.{take_all}

pub four_front : (xs ys : List ℕ) → length xs ≡ 4 → xs ++ ys ≡ slice_index xs 0 ∷ slice_index xs 1 ∷ slice_index xs 2 ∷ slice_index xs 3 ∷ ys
four_front (a ∷ b ∷ c ∷ d ∷ []) ys len = refl
four_front _ ys len = absurd (omega arith)

pub all_taken : (n : ℕ) (xs : List ℕ) → length xs ≡ n → take n xs ≡ xs
all_taken n xs len = take_all n xs (omega arith)

pub take_min : (n : ℕ) (xs : List ℕ) → take (min (length xs) n) xs ≡ take n xs
take_min zero [] = refl
take_min zero (x ∷ xs) = let e : min (length (x ∷ xs)) 0 ≡ 0 = omega arith in ap (λ k. take k (x ∷ xs)) e
take_min (suc n) [] = let e : min (length {A = ℕ} []) (suc n) ≡ 0 = omega arith in ap (λ k. take k []) e
take_min (suc n) (x ∷ xs) =
    let e : min (length (x ∷ xs)) (suc n) ≡ suc (min (length xs) n) = omega arith in
    ap (λ k. take k (x ∷ xs)) e ∙ ap (λ t. x ∷ t) (take_min n xs)

pub zeros_taken : (k n : ℕ) → k ≤ n → take {A = ℕ} k (replicate n 0) ≡ replicate k 0
zeros_taken k n le = take-replicate k n 0 le

-- zeros stand behind the bytes that were put behind a preamble
pub zeros_left : (k : ℕ) (room : List ℕ) → room ≡ drop 32 (replicate 80 0) → drop k room ≡ replicate (48 - k) 0
zeros_left k room is = ap (drop k) (is ∙ drop-replicate {X = ℕ} 32 80 0) ∙ drop-replicate {X = ℕ} k 48 0

-- nothing stands in a second part where the first has room for all
pub nothing_filled : (bytes : List ℕ) → length bytes ≤ 48 → filled (up16 (length bytes - 48)) (drop 48 bytes) ≡ []
unfolding filled up16
nothing_filled bytes le =
    let none : drop 48 bytes ≡ [] = nil_from_length (drop 48 bytes) (omega (arith, length-drop 48 bytes)) in
    let zero_len : length bytes - 48 ≡ 0 = omega arith in
    rw (none, zero_len) refl

-- then bytes before it stand alone
pub front_alone : (front bytes : List ℕ) → length bytes ≤ 48 → front ++ filled (up16 (length bytes - 48)) (drop 48 bytes) ≡ front
front_alone front bytes le = ap (λ t. front ++ t) (nothing_filled bytes le) ∙ append-nil front
