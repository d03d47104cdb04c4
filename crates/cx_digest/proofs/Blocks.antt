-- The sum over blocks of eight bytes.
use Rattle.std.proofs.Common.{◌≡◌, ℕ, zero, suc, ◌<◌, ◌+◌, ◌*◌, ◌/◌, List, [], length, drop, take, get_or, refl, sym, ap, ◌∙◌, arith}
use Rattle.std.specs.Simd.{first_chunks}
use Rattle.std.proofs.lemmas.List.{drop-drop, take-append-drop}
use Rattle.cx_digest.specs.Checksum.{crc32c}
use Rattle.cx_digest.proofs.Sums.{goes_on}

chunk_at : (k i : ℕ) (xs : List ℕ) → i < k → get_or (first_chunks 8 k xs) i [] ≡ take 8 (drop (8 * i) xs)
chunk_at zero i xs lt = absurd (omega arith)
chunk_at (suc k) zero xs lt = refl
chunk_at (suc k) (suc i) xs lt =
    let e : 8 + 8 * i ≡ 8 * suc i = omega arith in
    chunk_at k i (drop 8 xs) (omega arith) ∙ ap (take 8) (drop-drop (8 * i) 8 xs ∙ ap (λ m. drop m xs) e)

-- one more block of the bytes
pub eight_more : (state i : ℕ) (bytes block : List ℕ) (blocks : List (List ℕ)) → blocks ≡ first_chunks 8 (length bytes / 8) bytes
    → block ≡ get_or blocks i [] → i < length bytes / 8
    → crc32c (crc32c state block) (drop (8 * (i + 1)) bytes) ≡ crc32c state (drop (8 * i) bytes)
eight_more state i bytes block blocks eb e lt =
    let rest = drop (8 * i) bytes in
    let next : 8 * i + 8 ≡ 8 * (i + 1) = omega arith in
    let is : block ≡ take 8 rest = e ∙ ap (λ b. get_or b i []) eb ∙ chunk_at (length bytes / 8) i bytes lt in
    ap (λ b. crc32c (crc32c state b) (drop (8 * (i + 1)) bytes)) is
    ∙ ap (crc32c (crc32c state (take 8 rest))) (sym (drop-drop 8 (8 * i) bytes ∙ ap (λ m. drop m bytes) next))
    ∙ sym (goes_on state (take 8 rest) (drop 8 rest)) ∙ ap (crc32c state) (take-append-drop 8 rest)
