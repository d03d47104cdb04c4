-- Each step of the cipher is undone by its inverse, and so are the rounds and the whole cipher.
use Rattle.std.proofs.Common.{◌≡◌, ℕ, zero, suc, List, [], ◌∷◌, All, map, length, get_or, refl, sym, ap, ◌∙◌}
use Rattle.std.proofs.lemmas.List.Elements.{All-head, All-tail}
use Rattle.cx_aes.specs.Field.{sbox, inverse_sbox}
use Rattle.cx_aes.specs.Cipher.{IsBlock, add, sub_bytes, shift_rows, mix_column, mix_columns, round_key, rounds, aes}
use Rattle.cx_aes.specs.Inverse.{inverse_shift_rows, inverse_sub_bytes, inverse_mix_column, inverse_mix_columns, inverse_rounds, inverse_aes}
use Rattle.cx_aes.proofs.Bytes.{inverse_sbox-sbox, sbox-inverse_sbox}
use Rattle.cx_aes.proofs.Sums.{sum_twice}
use Rattle.cx_aes.proofs.Columns.{unmixed-column, remixed-column}
use Rattle.cx_aes.proofs.Places.{cells-is}
use Rattle.cx_aes.proofs.Blocks.{IsByte, byte_at, IsBlock-add, IsBlock-sub_bytes, IsBlock-inverse_sub_bytes, IsBlock-shift_rows, IsBlock-inverse_shift_rows, IsBlock-mix_columns, IsBlock-inverse_mix_columns, IsBlock-round_key}

-- what is added twice is gone
pub add-add : (s t : List ℕ) → length s ≡ length t → add (add s t) t ≡ s
unfolding add
add-add [] t e = refl
add-add (x ∷ xs) [] e = cc
add-add (x ∷ xs) (y ∷ ys) e = let tails : length xs ≡ length ys = cc in cc (sum_twice x y, add-add xs ys tails)

undone : (f g : ℕ → ℕ) → ((a : ℕ) → IsByte a → f (g a) ≡ a) → (s : List ℕ) → All IsByte s → map f (map g s) ≡ s
undone f g e [] h = refl
undone f g e (x ∷ xs) h = cc (e x (All-head IsByte x xs h), undone f g e xs (All-tail IsByte x xs h))

inverse_sub_bytes-sub_bytes : (s : List ℕ) → IsBlock s → inverse_sub_bytes (sub_bytes s) ≡ s
unfolding inverse_sub_bytes sub_bytes
inverse_sub_bytes-sub_bytes s h = undone inverse_sbox sbox inverse_sbox-sbox s h.bytes

sub_bytes-inverse_sub_bytes : (s : List ℕ) → IsBlock s → sub_bytes (inverse_sub_bytes s) ≡ s
unfolding inverse_sub_bytes sub_bytes
sub_bytes-inverse_sub_bytes s h = undone sbox inverse_sbox sbox-inverse_sbox s h.bytes

inverse_shift_rows-shift_rows : (s : List ℕ) → IsBlock s → inverse_shift_rows (shift_rows s) ≡ s
unfolding inverse_shift_rows shift_rows
inverse_shift_rows-shift_rows s h = cells-is 16 s h.len

shift_rows-inverse_shift_rows : (s : List ℕ) → IsBlock s → shift_rows (inverse_shift_rows s) ≡ s
unfolding inverse_shift_rows shift_rows
shift_rows-inverse_shift_rows s h = cells-is 16 s h.len

inverse_mix_columns-mix_columns : (s : List ℕ) → IsBlock s → inverse_mix_columns (mix_columns s) ≡ s
unfolding inverse_mix_column inverse_mix_columns mix_column mix_columns
inverse_mix_columns-mix_columns s h =
    let x : ℕ → ℕ = λ i. get_or s i 0 in
    let b = byte_at s h.bytes in
    unmixed-column (x 0) (x 1) (x 2) (x 3) (b 0) (b 1) (b 2) (b 3)
    (unmixed-column (x 4) (x 5) (x 6) (x 7) (b 4) (b 5) (b 6) (b 7)
    (unmixed-column (x 8) (x 9) (x 10) (x 11) (b 8) (b 9) (b 10) (b 11)
    (unmixed-column (x 12) (x 13) (x 14) (x 15) (b 12) (b 13) (b 14) (b 15) refl)))
    ∙ cells-is 16 s h.len

mix_columns-inverse_mix_columns : (s : List ℕ) → IsBlock s → mix_columns (inverse_mix_columns s) ≡ s
unfolding inverse_mix_column inverse_mix_columns mix_column mix_columns
mix_columns-inverse_mix_columns s h =
    let x : ℕ → ℕ = λ i. get_or s i 0 in
    let b = byte_at s h.bytes in
    remixed-column (x 0) (x 1) (x 2) (x 3) (b 0) (b 1) (b 2) (b 3)
    (remixed-column (x 4) (x 5) (x 6) (x 7) (b 4) (b 5) (b 6) (b 7)
    (remixed-column (x 8) (x 9) (x 10) (x 11) (b 8) (b 9) (b 10) (b 11)
    (remixed-column (x 12) (x 13) (x 14) (x 15) (b 12) (b 13) (b 14) (b 15) refl)))
    ∙ cells-is 16 s h.len

add-key : (s t : List ℕ) → IsBlock s → IsBlock t → add (add s t) t ≡ s
add-key s t hs ht = add-add s t (hs.len ∙ sym ht.len)

inverse_round-round : (key s : List ℕ) → IsBlock key → IsBlock s
    → inverse_sub_bytes (inverse_shift_rows (inverse_mix_columns (add (add (mix_columns (shift_rows (sub_bytes s))) key) key))) ≡ s
inverse_round-round key s hk hs =
    let h1 = IsBlock-sub_bytes s hs in
    let h2 = IsBlock-shift_rows (sub_bytes s) h1 in
    let h3 = IsBlock-mix_columns (shift_rows (sub_bytes s)) h2 in
    ap (λ v. inverse_sub_bytes (inverse_shift_rows (inverse_mix_columns v))) (add-key (mix_columns (shift_rows (sub_bytes s))) key h3 hk)
    ∙ ap (λ v. inverse_sub_bytes (inverse_shift_rows v)) (inverse_mix_columns-mix_columns (shift_rows (sub_bytes s)) h2)
    ∙ ap inverse_sub_bytes (inverse_shift_rows-shift_rows (sub_bytes s) h1)
    ∙ inverse_sub_bytes-sub_bytes s hs

round-inverse_round : (key s : List ℕ) → IsBlock key → IsBlock s
    → add (mix_columns (shift_rows (sub_bytes (inverse_sub_bytes (inverse_shift_rows (inverse_mix_columns (add s key))))))) key ≡ s
round-inverse_round key s hk hs =
    let a = add s key in
    let h1 = IsBlock-add s key hs hk in
    let h2 = IsBlock-inverse_mix_columns a h1 in
    let h3 = IsBlock-inverse_shift_rows (inverse_mix_columns a) h2 in
    ap (λ v. add (mix_columns (shift_rows v)) key) (sub_bytes-inverse_sub_bytes (inverse_shift_rows (inverse_mix_columns a)) h3)
    ∙ ap (λ v. add (mix_columns v) key) (shift_rows-inverse_shift_rows (inverse_mix_columns a) h2)
    ∙ ap (λ v. add v key) (mix_columns-inverse_mix_columns a h1)
    ∙ add-key s key hs hk

IsBlock-inverse_round : (key s : List ℕ) → IsBlock key → IsBlock s
    → IsBlock (inverse_sub_bytes (inverse_shift_rows (inverse_mix_columns (add s key))))
IsBlock-inverse_round key s hk hs =
    let h1 = IsBlock-add s key hs hk in
    let h2 = IsBlock-inverse_mix_columns (add s key) h1 in
    let h3 = IsBlock-inverse_shift_rows (inverse_mix_columns (add s key)) h2 in
    IsBlock-inverse_sub_bytes (inverse_shift_rows (inverse_mix_columns (add s key))) h3

pub IsBlock-rounds : (k s : List ℕ) (n : ℕ) → IsBlock k → IsBlock s → IsBlock (rounds k s n)
unfolding rounds
IsBlock-rounds k s zero hk hs = IsBlock-add s (round_key k 0) hs (IsBlock-round_key k 0 hk)
IsBlock-rounds k s (suc n) hk hs =
    let r = rounds k s n in
    let h1 = IsBlock-sub_bytes r (IsBlock-rounds k s n hk hs) in
    let h2 = IsBlock-shift_rows (sub_bytes r) h1 in
    let h3 = IsBlock-mix_columns (shift_rows (sub_bytes r)) h2 in
    IsBlock-add (mix_columns (shift_rows (sub_bytes r))) (round_key k (suc n)) h3 (IsBlock-round_key k (suc n) hk)

pub IsBlock-inverse_rounds : (k s : List ℕ) (n : ℕ) → IsBlock k → IsBlock s → IsBlock (inverse_rounds k s n)
unfolding inverse_rounds
IsBlock-inverse_rounds k s zero hk hs = IsBlock-add s (round_key k 0) hs (IsBlock-round_key k 0 hk)
IsBlock-inverse_rounds k s (suc n) hk hs =
    IsBlock-inverse_rounds k (inverse_sub_bytes (inverse_shift_rows (inverse_mix_columns (add s (round_key k (suc n)))))) n hk
    (IsBlock-inverse_round (round_key k (suc n)) s (IsBlock-round_key k (suc n) hk) hs)

inverse_rounds-rounds : (k s : List ℕ) (n : ℕ) → IsBlock k → IsBlock s → inverse_rounds k (rounds k s n) n ≡ s
unfolding rounds inverse_rounds
inverse_rounds-rounds k s zero hk hs = add-key s (round_key k 0) hs (IsBlock-round_key k 0 hk)
inverse_rounds-rounds k s (suc n) hk hs =
    ap (λ v. inverse_rounds k v n)
    (inverse_round-round (round_key k (suc n)) (rounds k s n) (IsBlock-round_key k (suc n) hk) (IsBlock-rounds k s n hk hs))
    ∙ inverse_rounds-rounds k s n hk hs

rounds-inverse_rounds : (k s : List ℕ) (n : ℕ) → IsBlock k → IsBlock s → rounds k (inverse_rounds k s n) n ≡ s
unfolding rounds inverse_rounds
rounds-inverse_rounds k s zero hk hs = add-key s (round_key k 0) hs (IsBlock-round_key k 0 hk)
rounds-inverse_rounds k s (suc n) hk hs =
    let key = round_key k (suc n) in
    let hkey = IsBlock-round_key k (suc n) hk in
    let t = inverse_sub_bytes (inverse_shift_rows (inverse_mix_columns (add s key))) in
    ap (λ v. add (mix_columns (shift_rows (sub_bytes v))) key) (rounds-inverse_rounds k t n hk (IsBlock-inverse_round key s hkey hs))
    ∙ round-inverse_round key s hkey hs

pub IsBlock-aes : (k s : List ℕ) → IsBlock k → IsBlock s → IsBlock (aes k s)
unfolding aes
IsBlock-aes k s hk hs =
    let r = rounds k s 9 in
    let h1 = IsBlock-sub_bytes r (IsBlock-rounds k s 9 hk hs) in
    let h2 = IsBlock-shift_rows (sub_bytes r) h1 in
    IsBlock-add (shift_rows (sub_bytes r)) (round_key k 10) h2 (IsBlock-round_key k 10 hk)

pub length-aes : (k s : List ℕ) → IsBlock k → IsBlock s → length (aes k s) ≡ 16
length-aes k s hk hs = let h = IsBlock-aes k s hk hs in h.len

pub IsBlock-inverse_aes : (k s : List ℕ) → IsBlock k → IsBlock s → IsBlock (inverse_aes k s)
unfolding inverse_aes
IsBlock-inverse_aes k s hk hs =
    let a = add s (round_key k 10) in
    let h1 = IsBlock-add s (round_key k 10) hs (IsBlock-round_key k 10 hk) in
    let h2 = IsBlock-inverse_shift_rows a h1 in
    IsBlock-inverse_rounds k (inverse_sub_bytes (inverse_shift_rows a)) 9 hk (IsBlock-inverse_sub_bytes (inverse_shift_rows a) h2)

-- the inverse cipher takes a cipher text back
pub inverse_aes-aes : (k s : List ℕ) → IsBlock k → IsBlock s → inverse_aes k (aes k s) ≡ s
unfolding aes inverse_aes
inverse_aes-aes k s hk hs =
    let r = rounds k s 9 in
    let hr = IsBlock-rounds k s 9 hk hs in
    let h1 = IsBlock-sub_bytes r hr in
    let h2 = IsBlock-shift_rows (sub_bytes r) h1 in
    ap (λ v. inverse_rounds k (inverse_sub_bytes (inverse_shift_rows v)) 9)
    (add-key (shift_rows (sub_bytes r)) (round_key k 10) h2 (IsBlock-round_key k 10 hk))
    ∙ ap (λ v. inverse_rounds k (inverse_sub_bytes v) 9) (inverse_shift_rows-shift_rows (sub_bytes r) h1)
    ∙ ap (λ v. inverse_rounds k v 9) (inverse_sub_bytes-sub_bytes r hr)
    ∙ inverse_rounds-rounds k s 9 hk hs

-- each block is the cipher text of what the inverse cipher takes it to
pub aes-inverse_aes : (k s : List ℕ) → IsBlock k → IsBlock s → aes k (inverse_aes k s) ≡ s
unfolding aes inverse_aes
aes-inverse_aes k s hk hs =
    let key = round_key k 10 in
    let hkey = IsBlock-round_key k 10 hk in
    let a = add s key in
    let h1 = IsBlock-add s key hs hkey in
    let h2 = IsBlock-inverse_shift_rows a h1 in
    let h3 = IsBlock-inverse_sub_bytes (inverse_shift_rows a) h2 in
    ap (λ v. add (shift_rows (sub_bytes v)) key) (rounds-inverse_rounds k (inverse_sub_bytes (inverse_shift_rows a)) 9 hk h3)
    ∙ ap (λ v. add (shift_rows v) key) (sub_bytes-inverse_sub_bytes (inverse_shift_rows a) h2)
    ∙ ap (λ v. add v key) (shift_rows-inverse_shift_rows a h1)
    ∙ add-key s key hs hkey

-- and so of no other block
pub aes-one : (k b s : List ℕ) → IsBlock k → IsBlock b → aes k b ≡ s → b ≡ inverse_aes k s
aes-one k b s hk hb e = sym (inverse_aes-aes k b hk hb) ∙ ap (λ v. inverse_aes k v) e
