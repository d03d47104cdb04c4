-- A word of the code's own, beside the standard's steps.
use Rattle.std.specs.Prelude.{ℕ, ◌+◌, ◌*◌, List, [], ◌∷◌, slice_index}
use Rattle.std.specs.List.{flat_map, range_with_len}

-- each column turned by one place, up
unfoldable pub turned_columns : List ℕ → List ℕ
turned_columns s =
    flat_map
    (λ c. slice_index s (4 * c + 1) ∷ slice_index s (4 * c + 2) ∷ slice_index s (4 * c + 3) ∷ slice_index s (4 * c) ∷ [])
    (range_with_len 0 4)
