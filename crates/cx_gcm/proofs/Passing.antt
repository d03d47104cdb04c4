-- The key stream is added from the front on.
use Rattle.std.proofs.Common.{◌≡◌, ℕ, ◌<◌, ◌≤◌, ◌+◌, ◌-◌, ◌/◌, ◌%◌, List, [], length, map, get_or, bit_xor, sym, ap, ◌∙◌, inl, inr, arith, get_or-set_other, get_or-set_same, length-set, slice_set}
use Rattle.std.specs.List.{range_with_len}
use Rattle.std.proofs.lemmas.Bool.{cases_lt}
use Rattle.std.proofs.lemmas.List.FromFn.{get_or-map-range_with_len}
use Rattle.std.proofs.lemmas.Simd.{get_or-chunk, get_or-put_chunk_above, get_or-put_chunk_at, get_or-put_chunk_below, get_or-zip2, length-chunk, length-put_chunk, length-zip2}
use lib.Lanes.{chunk, put_chunk, zip2}
use Rattle.cx_aes.specs.Cipher.{aes}
use Rattle.cx_gcm.specs.Gcm.{counted}
use Rattle.cx_gcm.specs.Masks.{IsMasked}
use Rattle.cx_gcm.proofs.KeyStream.{stream_at, stream_at_is}

-- it is added at the first n places, and at no other
pub record IsPassed (k nonce : List ℕ) (first : ℕ) (before after : List ℕ) (n : ℕ) : Type 0 where
  pub len : length after ≡ length before
  pub done : (j : ℕ) → j < n → get_or after j 0 ≡ bit_xor (get_or before j 0) (stream_at k nonce first j)
  pub left : (j : ℕ) → n ≤ j → get_or after j 0 ≡ get_or before j 0

-- a mask in a list of four
pub mask_at : (k nonce : List ℕ) (count i : ℕ) (masks : List (List ℕ)) → i < 4
    → masks ≡ map (λ i. aes k (counted nonce (count + i))) (range_with_len 0 4) → get_or masks i [] ≡ aes k (counted nonce (count + i))
mask_at k nonce count i masks lt e =
    ap (λ m. get_or m i []) e ∙ get_or-map-range_with_len (λ i. aes k (counted nonce (count + i))) 0 4 i i [] lt (omega arith)

-- sixteen places more, from n on
pub sixteen_passed : (k nonce : List ℕ) (first : ℕ) (before after next mask : List ℕ) (n m : ℕ) → n % 16 ≡ 0 → m ≡ n + 16
    → mask ≡ aes k (counted nonce (first + n / 16)) → IsPassed k nonce first before after n → IsMasked after n mask next
    → IsPassed k nonce first before next m
sixteen_passed k nonce first before after next mask n m whole em e h added = record {
  len = added.len ∙ h.len;
  done = λ j lt.
      elim (cases_lt j n) [
        | inl below ↦ added.ahead j below ∙ h.done j below
        | inr above ↦
            let block : n / 16 ≡ j / 16 = omega (arith, above, lt, em, whole) in
            let place : j - n ≡ j % 16 = omega (arith, above, lt, em, whole) in
            added.within j above (omega (arith, lt, em))
            ∙ ap (λ b. bit_xor b (get_or mask (j - n) 0)) (h.left j above)
            ∙ ap (λ i. bit_xor (get_or before j 0) (get_or mask i 0)) place
            ∙ ap (bit_xor (get_or before j 0)) (stream_at_is k nonce mask first j (e ∙ ap (λ i. aes k (counted nonce (first + i))) block))
      ];
  left = λ j le. added.behind j (omega (arith, le, em)) ∙ h.left j (omega (arith, le, em));
}

-- one place more
pub one_passed : (k nonce : List ℕ) (first : ℕ) (before after mask : List ℕ) (n byte : ℕ) → n < length before
    → mask ≡ aes k (counted nonce (first + n / 16)) → byte ≡ bit_xor (get_or after n 0) (get_or mask (n % 16) 0)
    → IsPassed k nonce first before after n → IsPassed k nonce first before (slice_set after n byte) (n + 1)
one_passed k nonce first before after mask n byte lt e eb h = record {
  len = length-set after n byte ∙ h.len;
  done = λ j small.
      elim (cases_lt j n) [
        | inl below ↦ get_or-set_other after n j byte 0 (omega arith) ∙ h.done j below
        | inr above ↦
            let here : j ≡ n = omega (arith, above, small) in
            rw here
            (get_or-set_same after n byte 0 (omega (arith, lt, h.len)) ∙ eb ∙ ap (λ b. bit_xor b (get_or mask (n % 16) 0)) (h.left n (omega arith))
            ∙ ap (bit_xor (get_or before n 0)) (stream_at_is k nonce mask first n e))
      ];
  left = λ j le. get_or-set_other after n j byte 0 (omega (arith, le)) ∙ h.left j (omega (arith, le));
}

-- a vector that is added in place
pub masked : (bytes mask : List ℕ) (at : ℕ) → at + 16 ≤ length bytes → length mask ≡ 16
    → IsMasked bytes at mask (put_chunk at bytes (zip2 bit_xor (chunk at 16 bytes) mask))
masked bytes mask at le mlen =
    let front = chunk at 16 bytes in
    let sum = zip2 bit_xor front mask in
    let flen : length front ≡ 16 = length-chunk at 16 bytes le in
    let slen : length sum ≡ 16 = length-zip2 bit_xor front mask (flen ∙ sym mlen) ∙ flen in
    record {
      len = length-put_chunk at bytes sum;
      ahead = λ k lt. get_or-put_chunk_below at bytes sum k 0 lt;
      within = λ k low high.
          let e : at + (k - at) ≡ k = omega (arith, low) in
          let small : k - at < 16 = omega (arith, low, high) in
          ap (λ i. get_or (put_chunk at bytes sum) i 0) (sym e)
          ∙ get_or-put_chunk_at at bytes sum (k - at) 0 (omega (arith, small, slen)) (omega (arith, le, slen))
          ∙ get_or-zip2 bit_xor front mask (k - at) 0 0 0 (omega (arith, small, flen)) (omega (arith, small, mlen))
          ∙ ap (λ b. bit_xor b (get_or mask (k - at) 0)) (get_or-chunk at 16 bytes (k - at) 0 small ∙ ap (λ i. get_or bytes i 0) e);
      behind = λ k high. get_or-put_chunk_above at bytes sum k 0 (omega (arith, high, slen));
    }
