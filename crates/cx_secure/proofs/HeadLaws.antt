-- What is read as a head was sealed so, and what was sealed so is read.
use Rattle.std.proofs.Common.{◌≡◌, ℕ, ◌+◌, ◌<◌, List, ◌++◌, length, take, drop, Some, Ok, sym, ap, ◌∙◌, arith, length-append}
use Rattle.std.proofs.lemmas.List.{take_at, drop_at}
use Rattle.std.proofs.Common.{get_or}
use Rattle.std.specs.Int.{w64, to_le_bytes}
use Rattle.std.proofs.lemmas.List.Elements.{All-append, All-from_get_or, All-from_recursion}
use Rattle.cx_gcm.proofs.KeyStream.{IsByte}
use Rattle.cx_gcm.specs.cx_aes.specs.Cipher.{IsBlock}
use Rattle.cx_gcm.specs.Gcm.{IsNonce}
use Rattle.cx_frame.specs.Preambles.{IsAllowed, preamble_at, preamble_text}
use Rattle.cx_frame.proofs.FrameLaws.{length-preamble_text}
use Rattle.cx_frame.proofs.PreambleLaws.{preamble_again}
use Rattle.cx_secure.specs.declared.sealing.Head.{Head}
use Rattle.cx_secure.specs.Opening.{IsHead, IsPlainHead, head_of, with_inline}
use Rattle.cx_secure.specs.Parts.{nonce_at, opened, part}
use Rattle.cx_secure.proofs.PartLaws.{opened_part, part_opened}

pub head_sealed : (key nonce bytes plain : List ℕ) (h : Head) → IsBlock key → IsNonce nonce → length bytes ≡ 96 → Some plain ≡ opened key nonce 80 bytes → IsPlainHead plain h → IsHead key nonce bytes h
head_sealed key nonce bytes plain h block is_nonce len open_ed is =
    let both = opened_part key nonce 80 bytes plain block is_nonce (omega arith) (sym open_ed) in
    record { allowed = is.allowed; inline = is.inline; text = both.0 ∙ ap (part key nonce) is.text }

plain_again : (h : Head) → IsAllowed 1048576 h.preamble → head_of (Some (preamble_text h.preamble ++ h.inline)) ≡ Ok h
unfolding head_of with_inline
plain_again h fine =
    let front : List ℕ = preamble_text h.preamble in
    let len : length front ≡ 32 = length-preamble_text h.preamble fine.four_lengths fine.four_aligns in
    let read : preamble_at 1048576 (take 32 (front ++ h.inline)) ≡ Ok h.preamble = preamble_again 1048576 (take 32 (front ++ h.inline)) h.preamble fine (take_at front h.inline 32 len) in
    ap (with_inline (drop 32 (front ++ h.inline))) read ∙ ap (λ i. with_inline i (Ok h.preamble)) (drop_at front h.inline 32 len)

pub opened_again : (key nonce bytes : List ℕ) (h : Head) → IsBlock key → IsNonce nonce → IsHead key nonce bytes h → head_of (opened key nonce 80 bytes) ≡ Ok h
opened_again key nonce bytes h block is_nonce is =
    let plain : List ℕ = preamble_text h.preamble ++ h.inline in
    let len : length plain ≡ 80 = omega (arith, length-append (preamble_text h.preamble) h.inline, is.inline, length-preamble_text h.preamble is.allowed.four_lengths is.allowed.four_aligns) in
    ap (λ b. head_of (opened key nonce 80 b)) is.text ∙ ap head_of (part_opened key nonce plain 80 block is_nonce len) ∙ plain_again h is.allowed

-- the nonce of four bytes and a counter
pub nonce_is : (fixed : List ℕ) (counter : ℕ) → length fixed ≡ 4 → ((i : ℕ) → get_or fixed i 0 < 256) → IsNonce (nonce_at fixed counter)
unfolding nonce_at
nonce_is fixed counter len are = record {
  len = length-append fixed (to_le_bytes w64 counter) ∙ ap (λ n. n + 8) len;
  bytes = All-append IsByte fixed (to_le_bytes w64 counter) (All-from_get_or IsByte fixed 0 (λ i lt. are i))
      (All-from_recursion IsByte (to_le_bytes w64 counter) (omega arith, (omega arith, (omega arith, (omega arith, (omega arith, (omega arith, (omega arith, (omega arith, tt)))))))));
}
