-- What opens, and that it opens to one content.
use Rattle.std.proofs.Common.{◌≡◌, ℕ, ◌+◌, ◌-◌, ◌/◌, ◌%◌, ◌<◌, ◌≤◌, List, [], ◌∷◌, ◌++◌, All, length, take, drop, replicate, length-append, length-drop, refl, ap, sym, ◌∙◌, subst, arith}
use Rattle.std.specs.List.{AllByRecursion, concat, copy_within}
use Rattle.std.proofs.lemmas.List.{append_cancel_left, take_at, length-replicate}
use Rattle.std.proofs.Math.Seq.{paste}
use Rattle.std.proofs.lemmas.List.Edits.{take-paste}
use Rattle.std.proofs.lemmas.List.Elements.{All-append, All-take, All-drop, All-replicate, All-from_recursion}
use Rattle.cx_aes.specs.Cipher.{IsBlock}
use Rattle.cx_cbc.specs.Chain.{blocks_of, cbc, uncbc}
use Rattle.cx_cbc.specs.Envelope.{head, initial_vector, padding, padded, enveloped, sealed, Opens, OpensOne}
use Rattle.cx_cbc.proofs.Blocks.{AreBlocks, AreBlocks-blocks_of, concat-blocks_of, blocks_of-concat, whole-concat, length-concat, length-first_chunks}
use Rattle.cx_cbc.proofs.Chaining.{uncbc-cbc, cbc-uncbc, AreBlocks-cbc, AreBlocks-uncbc, length-cbc}
use Rattle.cx_cbc.proofs.Padding.{padded-one, whole-padded}

abbrev pub IsByte : ℕ → Type 0
IsByte b = b < 256

pub IsBlock-initial_vector : IsBlock initial_vector
IsBlock-initial_vector =
    let octets : AllByRecursion IsByte initial_vector = omega arith in
    record { len = refl; bytes = All-from_recursion IsByte initial_vector octets }

octets-padding : (n : ℕ) → All IsByte (padding n)
unfolding padding
octets-padding n = All-replicate IsByte (16 - n % 16) (16 - n % 16) (omega arith)

pub octets-enveloped : (content : List ℕ) → All IsByte content → All IsByte (enveloped content)
unfolding enveloped padded
octets-enveloped content octets =
    let front : AllByRecursion IsByte head = omega arith in
    All-append IsByte (head ++ content) (padding (length (head ++ content)))
    (All-append IsByte head content (All-from_recursion IsByte head front) octets) (octets-padding (length (head ++ content)))

pub enveloped-one : (first second : List ℕ) → enveloped first ≡ enveloped second → first ≡ second
unfolding enveloped
enveloped-one first second e = append_cancel_left head first second (padded-one (head ++ first) (head ++ second) e)

pub whole-enveloped : (content : List ℕ) → length (enveloped content) % 16 ≡ 0
unfolding enveloped
whole-enveloped content = whole-padded (head ++ content)

-- the blocks of bytes that open are the cipher texts of the envelope's blocks
blocks_of-opens : (key bytes content : List ℕ) → IsBlock key → Opens key bytes content →
    blocks_of bytes ≡ cbc key initial_vector (blocks_of (enveloped content))
unfolding sealed
blocks_of-opens key bytes content k opens =
    let blocks = blocks_of (enveloped content) in
    ap blocks_of opens.is_sealed
    ∙ blocks_of-concat (cbc key initial_vector blocks)
    (AreBlocks-cbc key initial_vector blocks k IsBlock-initial_vector (AreBlocks-blocks_of (enveloped content) (octets-enveloped content opens.octets)))

-- bytes that open are whole blocks
pub whole-opens : (key bytes content : List ℕ) → IsBlock key → Opens key bytes content → length bytes % 16 ≡ 0
unfolding sealed
whole-opens key bytes content k opens =
    let blocks = blocks_of (enveloped content) in
    ap (λ xs. length xs % 16) opens.is_sealed
    ∙ whole-concat (cbc key initial_vector blocks)
    (AreBlocks-cbc key initial_vector blocks k IsBlock-initial_vector (AreBlocks-blocks_of (enveloped content) (octets-enveloped content opens.octets)))

length-enveloped : (content : List ℕ) → length (enveloped content) ≤ length content + 25
unfolding enveloped padded padding
length-enveloped content =
    let missing : ℕ = 16 - length (head ++ content) % 16 in
    omega (arith, length-append (head ++ content) (replicate missing missing), length-append head content, length-replicate missing missing)

pub head-enveloped : (plain content : List ℕ) → plain ≡ enveloped content → length content + 9 ≤ length plain
unfolding enveloped padded
head-enveloped plain content e =
    let nine : length head ≡ 9 = refl in
    omega (arith, ap length e, length-append (head ++ content) (padding (length (head ++ content))), length-append head content)

-- the content stands behind the head, and so at the front where it is copied there
pub behind_head : (plain content : List ℕ) → plain ≡ enveloped content → take (length content) (copy_within plain 9 (9 + length content) 0) ≡ content
unfolding enveloped padded
behind_head plain content e =
    let fill : List ℕ = padding (length (head ++ content)) in
    let enough : length content + 9 ≤ length plain = head-enveloped plain content e in
    let count : 9 + length content - 9 ≡ length content = omega arith in
    let from_nothing : length content ≡ 0 + length content = omega arith in
    ap (λ n. take (length content) (paste plain 0 (drop 9 plain) n)) count
    ∙ ap (λ n. take n (paste plain 0 (drop 9 plain) (length content))) from_nothing
    ∙ take-paste plain 0 (drop 9 plain) (length content) (omega arith) (omega (arith, length-drop 9 plain))
    ∙ ap (λ xs. take (length content) (drop 9 xs)) e ∙ take_at content fill (length content) refl

-- bytes that open are no longer than the longest envelope
pub length-opens : (key bytes content : List ℕ) → IsBlock key → Opens key bytes content → length bytes ≤ 1048592
unfolding sealed
length-opens key bytes content k opens =
    let blocks : List (List ℕ) = blocks_of (enveloped content) in
    let are = AreBlocks-cbc key initial_vector blocks k IsBlock-initial_vector (AreBlocks-blocks_of (enveloped content) (octets-enveloped content opens.octets)) in
    let size = opens.size in
    omega (arith, ap length opens.is_sealed, length-concat (cbc key initial_vector blocks) are, length-cbc key initial_vector blocks, length-first_chunks (length (enveloped content) / 16) (enveloped content), length-enveloped content)

-- what bytes that open decrypt to
pub decrypted-opens : (key bytes content : List ℕ) → IsBlock key → Opens key bytes content →
    concat (uncbc key initial_vector (blocks_of bytes)) ≡ enveloped content
decrypted-opens key bytes content k opens =
    let are = AreBlocks-blocks_of (enveloped content) (octets-enveloped content opens.octets) in
    ap (λ blocks. concat (uncbc key initial_vector blocks)) (blocks_of-opens key bytes content k opens)
    ∙ ap concat (uncbc-cbc key initial_vector (blocks_of (enveloped content)) k IsBlock-initial_vector are)
    ∙ concat-blocks_of (enveloped content) (whole-enveloped content)

-- what bytes decrypt to is whole blocks
pub whole-decrypted : (key bytes : List ℕ) → IsBlock key → All IsByte bytes → length (concat (uncbc key initial_vector (blocks_of bytes))) % 16 ≡ 0
whole-decrypted key bytes k octets =
    whole-concat (uncbc key initial_vector (blocks_of bytes))
    (AreBlocks-uncbc key initial_vector (blocks_of bytes) k IsBlock-initial_vector (AreBlocks-blocks_of bytes octets))

-- bytes that decrypt to an envelope are its content sealed
sealed-decrypted : (key bytes content : List ℕ) → IsBlock key → All IsByte bytes → length bytes % 16 ≡ 0 →
    concat (uncbc key initial_vector (blocks_of bytes)) ≡ enveloped content → bytes ≡ sealed key content
unfolding sealed
sealed-decrypted key bytes content k octets whole e =
    let blocks = blocks_of bytes in
    let are = AreBlocks-blocks_of bytes octets in
    let decrypted = uncbc key initial_vector blocks in
    sym (concat-blocks_of bytes whole)
    ∙ ap concat (sym (cbc-uncbc key initial_vector blocks k IsBlock-initial_vector are))
    ∙ ap (λ plain. concat (cbc key initial_vector plain))
    (sym (blocks_of-concat decrypted (AreBlocks-uncbc key initial_vector blocks k IsBlock-initial_vector are)) ∙ ap blocks_of e)

octets-concat : (blocks : List (List ℕ)) → AreBlocks blocks → All IsByte (concat blocks)
octets-concat [] are = All-from_recursion IsByte [] tt
octets-concat (block ∷ blocks) are = All-append IsByte block (concat blocks) are.0.bytes (octets-concat blocks are.1)

octets-content : (content : List ℕ) → All IsByte (enveloped content) → All IsByte content
unfolding enveloped padded
octets-content content octets =
    let fill = padding (length (head ++ content)) in
    subst (All IsByte) (take_at content fill (length content) refl)
    (All-take IsByte (length content) (content ++ fill) (All-drop IsByte 9 ((head ++ content) ++ fill) octets))

-- bytes that decrypt to an envelope open to its content
pub opens_found : (key bytes content : List ℕ) → IsBlock key → All IsByte bytes → length bytes % 16 ≡ 0 → length content ≤ 1048576 →
    concat (uncbc key initial_vector (blocks_of bytes)) ≡ enveloped content → Opens key bytes content
opens_found key bytes content k octets whole size e = record {
  size = size;
  octets = octets-content content (subst (All IsByte) e (octets-concat (uncbc key initial_vector (blocks_of bytes))
      (AreBlocks-uncbc key initial_vector (blocks_of bytes) k IsBlock-initial_vector (AreBlocks-blocks_of bytes octets))));
  is_sealed = sealed-decrypted key bytes content k octets whole e;
}

pub opens_one : OpensOne
opens_one key bytes first second k a b =
    enveloped-one first second (sym (decrypted-opens key bytes first k a) ∙ decrypted-opens key bytes second k b)
