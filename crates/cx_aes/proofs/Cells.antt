-- A list written out place by place.
use Rattle.std.proofs.Common.{◌≡◌, ℕ, List, map, length, get_or, refl, sym}
use Rattle.std.specs.List.{range_with_len}
use Rattle.std.proofs.lemmas.List.FromFn.{fill_by_all}

abbrev pub cells : ℕ → List ℕ → List ℕ
cells n s = map (λ i. get_or s i 0) (range_with_len 0 n)

-- a list is its elements, written out where n is a numeral
pub cells-is : (n : ℕ) (s : List ℕ) → length s ≡ n → cells n s ≡ s
cells-is n s len = sym (fill_by_all (λ i. get_or s i 0) s n 0 len (λ k lt. refl))
