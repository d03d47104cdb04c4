-- The key expansion, round key by round key.
use Rattle.std.proofs.Common.{◌≡◌, ℕ, suc, ◌<◌, ◌+◌, List, [], ◌++◌, length, map, get_or, refl, ap, ◌∙◌, arith}
use Rattle.std.specs.List.{range_with_len}
use Rattle.std.proofs.lemmas.List.FromFn.{get_or-map-range_with_len}
use Rattle.cx_aes.specs.Field.{xtimes}
use Rattle.std.proofs.lemmas.List.Elements.{All-from_get_or}
use Rattle.cx_aes.specs.Inverse.{inverse_mix_columns, inverse_rounds, inverse_shift_rows, inverse_sub_bytes}
use Rattle.cx_aes.specs.Cipher.{IsBlock, add, aes, mix_columns, shift_rows, sub_bytes, next_key, round_constant, round_key, rounds, turned_word, word}
use Rattle.cx_aes.proofs.Places.{cells}
use Rattle.cx_aes.proofs.Blocks.{IsByte}

pub next_key-words : (k t a b c d : List ℕ) (n : ℕ) → t ≡ turned_word (word k 3) n → a ≡ add (word k 0) t
    → b ≡ add (word k 1) a → c ≡ add (word k 2) b → d ≡ add (word k 3) c
    → cells 4 a ++ cells 4 b ++ cells 4 c ++ cells 4 d ≡ next_key k n
unfolding add next_key turned_word word
next_key-words k t a b c d n et ea eb ec ed = rw (ed, ec, eb, ea, et) refl

-- the round keys in a list of them
pub key_at : (k : List ℕ) (keys : List (List ℕ)) → keys ≡ map (round_key k) (range_with_len 0 11) → (i : ℕ) → i < 11
    → get_or keys i [] ≡ round_key k i
key_at k keys e i lt = ap (λ xs. get_or xs i []) e ∙ get_or-map-range_with_len (round_key k) 0 11 i i [] lt (omega arith)

pub round_constant_more : (n : ℕ) → round_constant (n + 1 + 1) ≡ xtimes (round_constant (n + 1))
unfolding round_constant
round_constant_more n = let e : n + 1 + 1 ≡ suc (suc n) = omega arith in let d : n + 1 ≡ suc n = omega arith in rw (e, d) refl

pub round_key_more : (k : List ℕ) (n : ℕ) → round_key k (n + 1) ≡ next_key (round_key k n) (n + 1)
unfolding round_key
round_key_more k n = let e : n + 1 ≡ suc n = omega arith in rw e refl

pub round_key_none : (k : List ℕ) → round_key k 0 ≡ k
unfolding round_key
round_key_none k = refl

pub rounds_more : (k s : List ℕ) (n : ℕ) → rounds k s (n + 1) ≡ add (mix_columns (shift_rows (sub_bytes (rounds k s n)))) (round_key k (n + 1))
unfolding rounds
rounds_more k s n = let e : n + 1 ≡ suc n = omega arith in rw e refl

pub rounds_none : (k s : List ℕ) → rounds k s 0 ≡ add s (round_key k 0)
unfolding rounds
rounds_none k s = refl

pub aes_is : (k s : List ℕ) → aes k s ≡ add (shift_rows (sub_bytes (rounds k s 9))) (round_key k 10)
unfolding aes
aes_is k s = refl

pub inverse_rounds_more : (k s : List ℕ) (n : ℕ)
    → inverse_rounds k s (n + 1)
    ≡ inverse_rounds k (inverse_sub_bytes (inverse_shift_rows (inverse_mix_columns (add s (round_key k (n + 1)))))) n
unfolding inverse_rounds
inverse_rounds_more k s n = let e : n + 1 ≡ suc n = omega arith in rw e refl

pub inverse_rounds_none : (k s : List ℕ) → inverse_rounds k s 0 ≡ add s k
unfolding inverse_rounds round_key
inverse_rounds_none k s = refl

-- an array of 16 bytes is a block
pub IsBlock-array : (s : List ℕ) → length s ≡ 16 → ((i : ℕ) → get_or s i 0 < 256) → IsBlock s
IsBlock-array s len fits = record { len = len; bytes = All-from_get_or IsByte s 0 (λ i lt. fits i) }
