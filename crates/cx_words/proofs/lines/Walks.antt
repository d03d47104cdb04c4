-- Steps along the places and the words of a line.
use Rattle.std.proofs.Common.{◌≡◌, ℕ, ◌+◌, ◌<◌, ◌≤◌, ◌-◌, suc, replicate, slice_set, append_assoc, Bool, List, [], ◌∷◌, ◌++◌, map, length, get_or, take, refl, arith}
use Rattle.std.specs.List.{list_any}
use Rattle.std.proofs.lemmas.List.{take_more, length-take, set-append_right}

-- a test of what is seen of each item
pub any_seen : {A B : Type 0} (f : A → B) (test : B → Bool) (xs : List A) → list_any (λ x. test (f x)) xs ≡ list_any test (map f xs)
any_seen f test [] = refl
any_seen f test (x ∷ xs) = rw (any_seen f test xs) refl

-- one byte more of a word that is shown
pub shown_more : (w : List ℕ) (i : ℕ) → i < length w → i < 40 → slice_set (take i w ++ replicate (40 - i) 0) i (get_or w i 0) ≡ take (i + 1) w ++ replicate (40 - (i + 1)) 0
shown_more w i h small =
    let e : 40 - i ≡ suc (39 - i) = omega arith in
    let f : 40 - (i + 1) ≡ 39 - i = omega arith in
    let n : length (take i w) ≡ i = simp length-take (omega arith) in
    let z : i - i ≡ 0 = omega arith in
    let low : i ≤ i = omega arith in
    rw (e, f, set-append_right (take i w) (0 ∷ replicate (39 - i) 0) i i (get_or w i 0) n low, z, take_more w i 0 h, append_assoc) refl
