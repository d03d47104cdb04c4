-- An envelope is no longer than 25 bytes more than its content.
use Rattle.std.proofs.Common.{◌≡◌, ℕ, ◌+◌, ◌-◌, ◌*◌, ◌/◌, ◌%◌, ◌≤◌, List, [], ◌∷◌, ◌++◌, length, replicate, get_or, length-append, ap, arith}
use Rattle.std.specs.List.{concat}
use Rattle.std.proofs.lemmas.List.{length-replicate}
use Rattle.std.proofs.lemmas.List.FromFn.{length-map-range_with_len}
use Rattle.cx_aes.specs.Cipher.{add, aes, round_key, rounds, shift_rows, sub_bytes}
use Rattle.cx_cbc.proofs.Blocks.{length-first_chunks}
use Rattle.cx_cbc.specs.Chain.{blocks_of, cbc}
use Rattle.cx_cbc.specs.Envelope.{enveloped, head, initial_vector, padded, padding, sealed}
use Rattle.cx_enc.specs.Forms.{Form}
use Rattle.cx_sealed.specs.Sealing.{OpensTo}

length-add : (s t : List ℕ) → length (add s t) ≤ length s
unfolding add
length-add [] t = omega arith
length-add (x ∷ xs) [] = omega arith
length-add (x ∷ xs) (y ∷ ys) = omega (arith, length-add xs ys)

length-shift_rows : (s : List ℕ) → length (shift_rows s) ≡ 16
unfolding shift_rows
length-shift_rows s = length-map-range_with_len (λ i. get_or s ((i + 4 * (i % 4)) % 16) 0) 0 16

length-aes : (key block : List ℕ) → length (aes key block) ≤ 16
unfolding aes
length-aes key block =
    let last : List ℕ = shift_rows (sub_bytes (rounds key block 9)) in
    omega (arith, length-add last (round_key key 10), length-shift_rows (sub_bytes (rounds key block 9)))

length-chained : (key before : List ℕ) (blocks : List (List ℕ)) → length (concat (cbc key before blocks)) ≤ 16 * length blocks
unfolding cbc
length-chained key before [] = omega arith
length-chained key before (block ∷ blocks) =
    let first : List ℕ = aes key (add block before) in
    omega (arith, length-append first (concat (cbc key first blocks)), length-aes key (add block before), length-chained key first blocks)

length-enveloped : (content : List ℕ) → length (enveloped content) ≤ length content + 25
unfolding enveloped padded padding
length-enveloped content =
    let missing : ℕ = 16 - length (head ++ content) % 16 in
    omega (arith, length-append (head ++ content) (replicate missing missing), length-append head content, length-replicate missing missing)

pub length-sealed : (key content : List ℕ) → length (sealed key content) ≤ length content + 25
unfolding sealed
length-sealed key content =
    let plain : List ℕ = enveloped content in
    omega (arith, length-chained key initial_vector (blocks_of plain), length-first_chunks (length plain / 16) plain, length-enveloped content)

pub length-opens : {X : Type 0} (form : Form X) (key bytes : List ℕ) (x : X) → OpensTo form key bytes x → length bytes ≤ 1048601
length-opens form key bytes x (content, opens, spells) = let size = opens.size in omega (arith, ap length opens.is_sealed, length-sealed key content)
