-- The masked key, byte by byte.
use Rattle.std.proofs.Common.{◌≡◌, ℕ, ◌+◌, ◌-◌, ◌<◌, ◌≤◌, List, ◌++◌, length, map, replicate, get_or, refl, ap, sym, ◌∙◌, bit_xor, arith, length-append, inl, inr}
use Rattle.std.proofs.lemmas.Bool.{cases_lt}
use Rattle.std.proofs.lemmas.List.{ext_get_or, get_or-map, get_or_append_left, get_or-append_right, get_or-replicate, get_or_past, length-replicate, length-map}
use Rattle.cx_digest.specs.Code.{masked}

length-filled : (key : List ℕ) → length key ≤ 64 → length (key ++ replicate (64 - length key) 0) ≡ 64
length-filled key le = length-append key (replicate (64 - length key) 0) ∙ ap (λ n. length key + n) (length-replicate (64 - length key) 0) ∙ omega arith

get_or-filled : (key : List ℕ) (k : ℕ) → k < 64 → length key ≤ 64 → get_or (key ++ replicate (64 - length key) 0) k 0 ≡ get_or key k 0
get_or-filled key k lt le = elim (cases_lt k (length key)) [
  | inl low ↦ get_or_append_left key (replicate (64 - length key) 0) 0 k low
  | inr high ↦ get_or-append_right key (replicate (64 - length key) 0) (length key) k 0 refl high
      ∙ get_or-replicate {A = ℕ} (64 - length key) (k - length key) 0 0 (omega arith) ∙ sym (get_or_past key k 0 high)
]

pub masked_by_place : (pad : ℕ) (key block : List ℕ) → length key ≤ 64 → length block ≡ 64 →
    ((k : ℕ) → k < 64 → get_or block k 0 ≡ bit_xor pad (get_or key k 0)) → block ≡ masked pad key
unfolding masked
masked_by_place pad key block le size at =
    let filled : List ℕ = key ++ replicate (64 - length key) 0 in
    let whole : length filled ≡ 64 = length-filled key le in
    ext_get_or 0 block (map (bit_xor pad) filled) (size ∙ sym (length-map filled (bit_xor pad) ∙ whole))
    (λ k lt. at k (omega arith) ∙ ap (bit_xor pad) (sym (get_or-filled key k (omega arith) le)) ∙ sym (get_or-map (bit_xor pad) filled k 0 0 (omega arith)))
