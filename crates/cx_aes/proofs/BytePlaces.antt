-- A law of one byte, by computing both sides at all 256 of them.
use Rattle.std.proofs.Common.{◌≡◌, ℕ, ◌<◌, List, map, get_or, sym, ap, ◌∙◌, arith}
use Rattle.std.specs.List.{range_with_len}
use Rattle.std.proofs.lemmas.List.FromFn.{get_or-map-range_with_len}

abbrev pub bytes : List ℕ
bytes = range_with_len 0 256

-- two functions that give equal lists over all bytes are equal at a byte
pub same_at_bytes : {X : Type 0} (f g : ℕ → X) → map f bytes ≡ map g bytes → (a : ℕ) → a < 256 → f a ≡ g a
same_at_bytes f g e a lt =
    sym (get_or-map-range_with_len f 0 256 a a (f a) lt (omega arith)) ∙ ap (λ xs. get_or xs a (f a)) e
    ∙ get_or-map-range_with_len g 0 256 a a (f a) lt (omega arith)
