-- Lists place by place.
use Rattle.std.proofs.Common.{◌≡◌, ℕ, ◌<◌, List, length, get_or, bit_xor, ap, ◌∙◌}
use Rattle.std.proofs.lemmas.List.FromFn.{fill_by_all}
use Rattle.cx_aes.specs.Cipher.{add}
pub use Rattle.cx_aes.proofs.Cells.{cells, cells-is}

-- a list of 16 that is the sum at each place is the sum
pub add_by_places : (s t out : List ℕ) → length s ≡ 16 → length t ≡ 16 → length out ≡ 16
    → ((k : ℕ) → k < 16 → get_or out k 0 ≡ bit_xor (get_or s k 0) (get_or t k 0)) → out ≡ add s t
unfolding add
add_by_places s t out len tlen outlen each =
    fill_by_all (λ k. bit_xor (get_or s k 0) (get_or t k 0)) out 16 0 outlen each
    ∙ ap (λ xs. add xs (cells 16 t)) (cells-is 16 s len) ∙ ap (λ ys. add s ys) (cells-is 16 t tlen)
