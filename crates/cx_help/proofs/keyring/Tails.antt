-- Ends of a text.
use Rattle.std.proofs.Common.{◌≡◌, ℕ, ◌≤◌, List, [], length, drop, take}
use Rattle.std.proofs.Math.ListN.{drop_of_length-le}
use Rattle.std.proofs.lemmas.List.{take_all}

-- nothing stands behind all of it
pub none_behind : (text : List ℕ) (count : ℕ) → length text ≤ count → drop count text ≡ []
none_behind text count h = drop_of_length-le text {i = count} h

-- and all of it in front
pub all_of : (text : List ℕ) (count : ℕ) → length text ≤ count → take count text ≡ text
all_of text count h = take_all count text h
