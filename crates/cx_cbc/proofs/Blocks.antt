-- Bytes and their blocks.
use Rattle.std.proofs.Common.{◌≡◌, ℕ, zero, suc, ◌+◌, ◌*◌, ◌/◌, ◌%◌, ◌<◌, ◌≤◌, List, [], ◌∷◌, ◌++◌, All, length, take, drop, refl, ap, sym, ◌∙◌, arith, append_assoc, length-append, length-drop}
use Rattle.std.specs.List.{AllByRecursion, concat, flat_map}
use Rattle.std.specs.Simd.{first_chunks}
use Rattle.std.proofs.lemmas.List.{nil_from_length, take-append-drop, length-take-le, take_at, drop_at, drop-drop}
use Rattle.std.proofs.lemmas.List.Elements.{All-take, All-drop}
use Rattle.cx_aes.specs.Cipher.{IsBlock}
use Rattle.cx_cbc.specs.Chain.{blocks_of}

-- each of them is 16 bytes
abbrev pub AreBlocks : List (List ℕ) → Type 0
AreBlocks = AllByRecursion IsBlock

pub concat-first_chunks : (n : ℕ) (bytes : List ℕ) → length bytes ≡ n * 16 → concat (first_chunks 16 n bytes) ≡ bytes
concat-first_chunks zero bytes len = sym (nil_from_length bytes (len ∙ omega arith))
concat-first_chunks (suc n) bytes len =
    ap (λ rest. take 16 bytes ++ rest) (concat-first_chunks n (drop 16 bytes) (omega (arith, length-drop 16 bytes))) ∙ take-append-drop 16 bytes

pub first_chunks-concat : (blocks : List (List ℕ)) → AreBlocks blocks → first_chunks 16 (length blocks) (concat blocks) ≡ blocks
first_chunks-concat [] are = refl
first_chunks-concat (block ∷ blocks) are =
    ap (λ first. first ∷ first_chunks 16 (length blocks) (drop 16 (block ++ concat blocks))) (take_at block (concat blocks) 16 are.0.len)
    ∙ ap (λ rest. block ∷ first_chunks 16 (length blocks) rest) (drop_at block (concat blocks) 16 are.0.len)
    ∙ ap (λ rest. block ∷ rest) (first_chunks-concat blocks are.1)

pub length-concat : (blocks : List (List ℕ)) → AreBlocks blocks → length (concat blocks) ≡ length blocks * 16
length-concat [] are = refl
length-concat (block ∷ blocks) are =
    let first : length block ≡ 16 = are.0.len in
    length-append block (concat blocks) ∙ ap (λ n. length block + n) (length-concat blocks are.1) ∙ omega arith

pub length-first_chunks : (n : ℕ) (bytes : List ℕ) → length (first_chunks 16 n bytes) ≡ n
length-first_chunks zero bytes = refl
length-first_chunks (suc n) bytes = ap suc (length-first_chunks n (drop 16 bytes))

pub AreBlocks-first_chunks : (n : ℕ) (bytes : List ℕ) → n * 16 ≤ length bytes → All (λ b. b < 256) bytes → AreBlocks (first_chunks 16 n bytes)
AreBlocks-first_chunks zero bytes enough octets = tt
AreBlocks-first_chunks (suc n) bytes enough octets = (
  record { len = length-take-le 16 bytes (omega arith); bytes = All-take (λ b. b < 256) 16 bytes octets },
  AreBlocks-first_chunks n (drop 16 bytes) (omega (arith, length-drop 16 bytes)) (All-drop (λ b. b < 256) 16 bytes octets),
)

pub AreBlocks-blocks_of : (bytes : List ℕ) → All (λ b. b < 256) bytes → AreBlocks (blocks_of bytes)
AreBlocks-blocks_of bytes octets = AreBlocks-first_chunks (length bytes / 16) bytes (omega arith) octets

-- whole blocks, joined
pub concat-blocks_of : (bytes : List ℕ) → length bytes % 16 ≡ 0 → concat (blocks_of bytes) ≡ bytes
concat-blocks_of bytes whole = concat-first_chunks (length bytes / 16) bytes (omega arith)

-- the blocks of joined blocks
pub blocks_of-concat : (blocks : List (List ℕ)) → AreBlocks blocks → blocks_of (concat blocks) ≡ blocks
blocks_of-concat blocks are =
    let len : length (concat blocks) ≡ length blocks * 16 = length-concat blocks are in
    let count : length (concat blocks) / 16 ≡ length blocks = omega arith in
    ap (λ n. first_chunks 16 n (concat blocks)) count ∙ first_chunks-concat blocks are

pub whole-concat : (blocks : List (List ℕ)) → AreBlocks blocks → length (concat blocks) % 16 ≡ 0
whole-concat blocks are = let len : length (concat blocks) ≡ length blocks * 16 = length-concat blocks are in omega arith

-- fours of blocks and the blocks behind them are the blocks
pub fours-and-rest : (n : ℕ) (blocks : List (List ℕ)) → n * 4 ≤ length blocks → flat_map (λ x. x) (first_chunks 4 n blocks) ++ drop (n * 4) blocks ≡ blocks
fours-and-rest zero blocks enough = refl
fours-and-rest (suc n) blocks enough =
    let more : List (List ℕ) = flat_map (λ x. x) (first_chunks 4 n (drop 4 blocks)) in
    let e : suc n * 4 ≡ 4 + n * 4 = omega arith in
    append_assoc (take 4 blocks) more (drop (suc n * 4) blocks)
    ∙ ap (λ rest. take 4 blocks ++ (more ++ rest)) (ap (λ k. drop k blocks) e ∙ sym (drop-drop (n * 4) 4 blocks))
    ∙ ap (λ rest. take 4 blocks ++ rest) (fours-and-rest n (drop 4 blocks) (omega (arith, length-drop 4 blocks)))
    ∙ take-append-drop 4 blocks
