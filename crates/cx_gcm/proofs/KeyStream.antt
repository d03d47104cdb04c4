-- The counter blocks, and the text with the key stream added, place by place.
use Rattle.std.proofs.Common.{◌≡◌, ℕ, zero, suc, ◌<◌, ◌≤◌, ◌+◌, ◌-◌, ◌*◌, ◌/◌, ◌%◌, ◌^◌, List, [], ◌∷◌, ◌++◌, All, drop, length, get_or, take, bit_xor, refl, sym, ap, ◌∙◌, inl, inr, arith, length-append, length-take}
use Rattle.std.specs.Int.{w32, from_be_bytes, to_be_bytes}
use Rattle.std.specs.List.{flat_map, range_with_len}
use Rattle.std.proofs.lemmas.Bool.{cases_lt}
use Rattle.std.proofs.lemmas.Nat.{from_be_bytes-to_be_bytes_4}
use Rattle.std.proofs.lemmas.List.{drop_at, ext_get_or, get_or_append_left, get_or-append_right, take_at}
use Rattle.std.proofs.lemmas.List.Elements.{All-append, All-from_get_or, All-from_recursion, All-take}
use Rattle.cx_aes.specs.Cipher.{IsBlock, add, aes}
use Rattle.cx_aes.proofs.Rounds.{length-aes}
use Rattle.cx_aes.proofs.Sums.{sum_twice}
use Rattle.cx_gcm.specs.Gcm.{GcmSealed, IsNonce, counted, counter_block, gctr, nonce_block, raised}

abbrev pub IsByte : ℕ → Type 0
IsByte b = b < 256

bytes_of_count : (n : ℕ) → All IsByte (to_be_bytes w32 n)
bytes_of_count n = All-from_recursion IsByte (to_be_bytes w32 n) (omega arith, (omega arith, (omega arith, (omega arith, tt))))

pub IsBlock-counted : (nonce : List ℕ) (n : ℕ) → IsNonce nonce → IsBlock (counted nonce n)
unfolding counted
IsBlock-counted nonce n h = record {
  len = length-append nonce (to_be_bytes w32 n) ∙ ap (λ m. m + 4) h.len;
  bytes = All-append IsByte nonce (to_be_bytes w32 n) h.bytes (bytes_of_count n);
}

pub raised-counted : (nonce : List ℕ) (n : ℕ) → IsNonce nonce → n + 1 < 2 ^ 32 → raised (counted nonce n) ≡ counted nonce (n + 1)
unfolding raised counted
raised-counted nonce n h lt =
    let counts = to_be_bytes w32 n in
    let small : (n + 1) % 2 ^ 32 ≡ n + 1 = omega arith in
    ap (λ front. front ++ to_be_bytes w32 ((from_be_bytes w32 (drop 12 (nonce ++ counts)) + 1) % 2 ^ 32)) (take_at nonce counts 12 h.len)
    ∙ ap (λ back. nonce ++ to_be_bytes w32 ((from_be_bytes w32 back + 1) % 2 ^ 32)) (drop_at nonce counts 12 h.len)
    ∙ ap (λ m. nonce ++ to_be_bytes w32 ((m + 1) % 2 ^ 32)) (from_be_bytes-to_be_bytes_4 n (omega arith))
    ∙ ap (λ m. nonce ++ to_be_bytes w32 m) small

pub nonce_block-counted : (nonce : List ℕ) → nonce_block nonce ≡ counted nonce 1
unfolding nonce_block counted
nonce_block-counted nonce = refl

pub counter_block-counted : (nonce : List ℕ) (first i : ℕ) → IsNonce nonce → first + i < 2 ^ 32
    → counter_block (counted nonce first) i ≡ counted nonce (first + i)
unfolding counter_block
counter_block-counted nonce first zero h lt = let e : first ≡ first + 0 = omega arith in ap (counted nonce) e
counter_block-counted nonce first (suc i) h lt =
    let e : first + i + 1 ≡ first + suc i = omega arith in
    ap raised (counter_block-counted nonce first i h (omega arith)) ∙ raised-counted nonce (first + i) h (omega arith)
    ∙ ap (counted nonce) e

-- blocks of 16, one after another
pub length-blocks : (f : ℕ → List ℕ) (a n : ℕ) → ((i : ℕ) → i < a + n → length (f i) ≡ 16)
    → length (flat_map f (range_with_len a n)) ≡ 16 * n
length-blocks f a zero each = refl
length-blocks f a (suc n) each =
    length-append (f a) (flat_map f (range_with_len (a + 1) n))
    ∙ ap (λ m. m + length (flat_map f (range_with_len (a + 1) n))) (each a (omega arith))
    ∙ ap (λ m. 16 + m) (length-blocks f (a + 1) n (λ i lt. each i (omega arith)))
    ∙ omega arith

pub get_or-blocks : (f : ℕ → List ℕ) (a n j : ℕ) → ((i : ℕ) → i < a + n → length (f i) ≡ 16) → j < 16 * n
    → get_or (flat_map f (range_with_len a n)) j 0 ≡ get_or (f (a + j / 16)) (j % 16) 0
get_or-blocks f a zero j each lt = absurd (omega arith)
get_or-blocks f a (suc n) j each lt =
    let rest = flat_map f (range_with_len (a + 1) n) in
    let first : length (f a) ≡ 16 = each a (omega arith) in
    elim (cases_lt j 16) [
      | inl small ↦
          let e : a ≡ a + j / 16 = omega arith in
          let d : j ≡ j % 16 = omega arith in
          get_or_append_left (f a) rest 0 j (omega arith) ∙ ap (λ i. get_or (f i) j 0) e ∙ ap (λ k. get_or (f (a + j / 16)) k 0) d
      | inr big ↦
          let e : a + 1 + (j - 16) / 16 ≡ a + j / 16 = omega arith in
          let d : (j - 16) % 16 ≡ j % 16 = omega arith in
          get_or-append_right (f a) rest 16 j 0 first big
          ∙ get_or-blocks f (a + 1) n (j - 16) (λ i lt. each i (omega arith)) (omega arith)
          ∙ ap (λ i. get_or (f i) ((j - 16) % 16) 0) e ∙ ap (λ k. get_or (f (a + j / 16)) k 0) d
    ]

-- a sum is as long as its shorter part, and is known at each place
pub length-add : (s t : List ℕ) → length s ≤ length t → length (add s t) ≡ length s
unfolding add
length-add [] t le = refl
length-add (x ∷ xs) [] le = absurd (omega arith)
length-add (x ∷ xs) (y ∷ ys) le = ap suc (length-add xs ys (omega arith))

pub get_or-add : (s t : List ℕ) (j : ℕ) → j < length s → length s ≤ length t
    → get_or (add s t) j 0 ≡ bit_xor (get_or s j 0) (get_or t j 0)
unfolding add
get_or-add [] t j lt le = absurd (omega arith)
get_or-add (x ∷ xs) [] j lt le = absurd (omega arith)
get_or-add (x ∷ xs) (y ∷ ys) zero lt le = refl
get_or-add (x ∷ xs) (y ∷ ys) (suc j) lt le = get_or-add xs ys j (omega arith) (omega arith)

add_twice : (s t : List ℕ) → length s ≤ length t → add (add s t) t ≡ s
unfolding add
add_twice [] t le = refl
add_twice (x ∷ xs) [] le = absurd (omega arith)
add_twice (x ∷ xs) (y ∷ ys) le = cc (sum_twice x y, add_twice xs ys (omega arith))

-- byte j of the key stream
unfoldable pub stream_at : List ℕ → List ℕ → ℕ → ℕ → ℕ
stream_at k nonce first j = get_or (aes k (counted nonce (first + j / 16))) (j % 16) 0

-- the first n blocks of the key stream
unfoldable pub stream : List ℕ → List ℕ → ℕ → List ℕ
stream k first n = flat_map (λ i. aes k (counter_block first i)) (range_with_len 0 n)

IsBlock-raised : (b : List ℕ) → IsBlock b → IsBlock (raised b)
unfolding raised
IsBlock-raised b h =
    let count = (from_be_bytes w32 (drop 12 b) + 1) % 2 ^ 32 in
    record {
      len = omega (arith, length-append (take 12 b) (to_be_bytes w32 count), length-take 12 b, h.len);
      bytes = All-append IsByte (take 12 b) (to_be_bytes w32 count) (All-take IsByte 12 b h.bytes) (bytes_of_count count);
    }

IsBlock-counter_block : (first : List ℕ) (i : ℕ) → IsBlock first → IsBlock (counter_block first i)
unfolding counter_block
IsBlock-counter_block first zero h = h
IsBlock-counter_block first (suc i) h = IsBlock-raised (counter_block first i) (IsBlock-counter_block first i h)

each_length : (k first : List ℕ) (i : ℕ) → IsBlock k → IsBlock first → length (aes k (counter_block first i)) ≡ 16
each_length k first i hk hf = length-aes k (counter_block first i) hk (IsBlock-counter_block first i hf)

pub length-stream : (k first : List ℕ) (n : ℕ) → IsBlock k → IsBlock first → length (stream k first n) ≡ 16 * n
unfolding stream
length-stream k first n hk hf = length-blocks (λ i. aes k (counter_block first i)) 0 n (λ i small. each_length k first i hk hf)

pub get_or-stream : (k nonce : List ℕ) (first n j : ℕ) → IsBlock k → IsNonce nonce → first + n < 2 ^ 32 → j < 16 * n
    → get_or (stream k (counted nonce first) n) j 0 ≡ stream_at k nonce first j
unfolding stream stream_at
get_or-stream k nonce first n j hk hn lt small =
    let icb = counted nonce first in
    let e : 0 + j / 16 ≡ j / 16 = omega arith in
    get_or-blocks (λ i. aes k (counter_block icb i)) 0 n j
    (λ i small. each_length k icb i hk (IsBlock-counted nonce first hn)) small
    ∙ ap (λ i. get_or (aes k (counter_block icb i)) (j % 16) 0) e
    ∙ ap (λ b. get_or (aes k b) (j % 16) 0) (counter_block-counted nonce first (j / 16) hn (omega arith))

pub gctr_is : (k first text : List ℕ) → gctr k first text ≡ add text (stream k first ((length text + 15) / 16))
unfolding gctr stream
gctr_is k first text = refl

enough : (k first text : List ℕ) → IsBlock k → IsBlock first → length text ≤ length (stream k first ((length text + 15) / 16))
enough k first text hk hf = omega (arith, length-stream k first ((length text + 15) / 16) hk hf)

pub length-gctr : (k first text : List ℕ) → IsBlock k → IsBlock first → length (gctr k first text) ≡ length text
length-gctr k first text hk hf =
    ap length (gctr_is k first text) ∙ length-add text (stream k first ((length text + 15) / 16)) (enough k first text hk hf)

-- the key stream added twice is gone
pub gctr-gctr : (k first text : List ℕ) → IsBlock k → IsBlock first → gctr k first (gctr k first text) ≡ text
gctr-gctr k first text hk hf =
    let n = (length text + 15) / 16 in
    let s = stream k first n in
    gctr_is k first (gctr k first text)
    ∙ ap (λ m. add (gctr k first text) (stream k first ((m + 15) / 16))) (length-gctr k first text hk hf)
    ∙ ap (λ c. add c s) (gctr_is k first text)
    ∙ add_twice text s (enough k first text hk hf)

pub raised_nonce_block : (nonce : List ℕ) → IsNonce nonce → raised (nonce_block nonce) ≡ counted nonce 2
raised_nonce_block nonce h = ap raised (nonce_block-counted nonce) ∙ raised-counted nonce 1 h (omega arith)

-- a text with the key stream added at each place
pub gctr_by_places : (k nonce text out : List ℕ) (first : ℕ) → IsBlock k → IsNonce nonce → first + length text < 2 ^ 31
    → length out ≡ length text → ((j : ℕ) → j < length text → get_or out j 0 ≡ bit_xor (get_or text j 0) (stream_at k nonce first j))
    → out ≡ gctr k (counted nonce first) text
gctr_by_places k nonce text out first hk hn lt len each =
    let n = (length text + 15) / 16 in
    let s = stream k (counted nonce first) n in
    let long = enough k (counted nonce first) text hk (IsBlock-counted nonce first hn) in
    ext_get_or 0 out (add text s) (len ∙ sym (length-add text s long))
    (λ j small.
    let inside : j < length text = omega arith in
    each j inside
    ∙ ap (λ b. bit_xor (get_or text j 0) b) (sym (get_or-stream k nonce first n j hk hn (omega arith) (omega arith)))
    ∙ sym (get_or-add text s j inside long))
    ∙ sym (gctr_is k (counted nonce first) text)

pub IsNonce-array : (nonce : List ℕ) → length nonce ≡ 12 → ((i : ℕ) → get_or nonce i 0 < 256) → IsNonce nonce
IsNonce-array nonce len fits = record { len = len; bytes = All-from_get_or IsByte nonce 0 (λ i lt. fits i) }

pub stream_at_is : (k nonce mask : List ℕ) (first j : ℕ) → mask ≡ aes k (counted nonce (first + j / 16))
    → get_or mask (j % 16) 0 ≡ stream_at k nonce first j
unfolding stream_at
stream_at_is k nonce mask first j e = ap (λ b. get_or b (j % 16) 0) e

IsBlock-first : (nonce : List ℕ) → IsNonce nonce → IsBlock (raised (nonce_block nonce))
IsBlock-first nonce h = let first : nonce_block nonce ≡ counted nonce 1 = nonce_block-counted nonce in rw first (IsBlock-raised (counted nonce 1) (IsBlock-counted nonce 1 h))

-- the plain text is the cipher text with the key stream added again, and the other way round
pub plain_of : (k nonce plain cipher t : List ℕ) → IsBlock k → IsNonce nonce → GcmSealed k nonce plain cipher t
    → gctr k (raised (nonce_block nonce)) cipher ≡ plain
plain_of k nonce plain cipher t hk hn h =
    let first = raised (nonce_block nonce) in
    ap (λ c. gctr k first c) h.is_ciphered ∙ gctr-gctr k first plain hk (IsBlock-first nonce hn)

pub cipher_of : (k nonce plain cipher : List ℕ) → IsBlock k → IsNonce nonce → plain ≡ gctr k (counted nonce 2) cipher
    → cipher ≡ gctr k (raised (nonce_block nonce)) plain
cipher_of k nonce plain cipher hk hn e =
    let first = raised (nonce_block nonce) in
    sym
    (ap (λ p. gctr k first p) (e ∙ ap (λ b. gctr k b cipher) (sym (raised_nonce_block nonce hn)))
    ∙ gctr-gctr k first cipher hk (IsBlock-first nonce hn))
