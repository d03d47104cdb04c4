-- A secure frame is a head and what stands behind it, and one frame at most begins given bytes.
use Rattle.std.proofs.Common.{◌≡◌, ℕ, ◌+◌, List, [], ◌∷◌, ◌++◌, length, Result, Ok, refl, sym, ap, ◌∙◌, arith, append_assoc, length-append}
use Rattle.cx_gcm.specs.cx_aes.specs.Cipher.{IsBlock}
use Rattle.cx_frame.specs.declared.frame.Segment.{Segment}
use Rattle.cx_frame.specs.declared.frame.Frame.{Frame}
use Rattle.cx_frame.specs.declared.preamble.Preamble.{Preamble}
use Rattle.cx_frame.specs.Preambles.{IsAllowed, preamble_of, preamble_text}
use Rattle.cx_frame.proofs.FrameLaws.{length-preamble_text, same_fronts}
use Rattle.cx_frame.proofs.RestLaws.{few_others, framed, no_frame}
use Rattle.cx_secure.specs.declared.sealing.Head.{Head}
use Rattle.cx_secure.specs.declared.sealing.Sealing.{Sealing}
use Rattle.cx_secure.specs.declared.refusals.SecureRefusal.{SecureRefusal}
use Rattle.cx_secure.specs.Opening.{IsSplit, head_of, rest_of}
use Rattle.cx_secure.specs.Parts.{IsFixed, nonce_at, opened, part, sealed_parts}
use Rattle.cx_secure.specs.Plains.{inline_of, last_len, last_plain, nonempty, one_if, rest_len, second_len, second_plain, secure_text, tagged}
use Rattle.cx_secure.specs.Sealings.{connection_key}
use Rattle.cx_secure.proofs.HeadLaws.{nonce_is, opened_again}
use Rattle.cx_secure.proofs.PartLaws.{sealed-append}
use Rattle.cx_secure.proofs.PlainLaws.{inline_len}
use Rattle.cx_secure.proofs.SealedLaws.{last_is, length-part, length-sealed, parts_is, rest_again, second_is}

-- the key of a sealing has 16 bytes, and its nonces four fixed ones
pub sealing_keyed : (s : Sealing) → IsBlock (connection_key s) × IsFixed s.out.fixed × IsFixed s.into.fixed
sealing_keyed s = (s.key.schedule.expanded.block, s.out.four, s.into.four)

framed_split : (key fixed : List ℕ) (counter t : ℕ) (s : Segment) (ss : List Segment) → IsBlock key → IsFixed fixed → IsAllowed 1048576 (preamble_of (framed t s ss)) → IsSplit key fixed counter (framed t s ss)
unfolding sealed_parts rest_len
framed_split key fixed counter t s ss block is_fixed fine =
    let f : Frame = framed t s ss in
    let p : Preamble = preamble_of f in
    let second : List ℕ = second_plain s.bytes in
    let last : List ℕ = last_plain ss in
    let plain : List ℕ = preamble_text p ++ inline_of s.bytes in
    let others : List (List ℕ) = nonempty second ++ nonempty last in
    let after : ℕ = counter + 1 + length (nonempty second) in
    let plain_len : length plain ≡ 80 = length-append (preamble_text p) (inline_of s.bytes) ∙ omega (arith, length-preamble_text p fine.four_lengths fine.four_aligns, inline_len s.bytes) in
    let a : List ℕ = sealed_parts key fixed (counter + 1) (nonempty second) in
    let b : List ℕ = sealed_parts key fixed after (nonempty last) in
    let a_len : length a ≡ tagged (second_len p) = length-sealed key fixed (counter + 1) second block (nonce_is fixed (counter + 1) is_fixed.len is_fixed.bytes) ∙ ap tagged (sym (second_is t s ss)) in
    let b_len : length b ≡ tagged (last_len p) = length-sealed key fixed after last block (nonce_is fixed after is_fixed.len is_fixed.bytes) ∙ ap tagged (sym (last_is t s ss (few_others 1048576 t s ss fine))) in
    record {
      head = record { preamble = p; inline = inline_of s.bytes };
      first = part key (nonce_at fixed counter) plain;
      rest = sealed_parts key fixed (counter + 1) others;
      text = ap (sealed_parts key fixed counter) (parts_is t s ss);
      first_len = length-part key (nonce_at fixed counter) plain block (nonce_is fixed counter is_fixed.len is_fixed.bytes) ∙ omega arith;
      rest_is = ap length (sealed-append key fixed (counter + 1) (nonempty second) (nonempty last)) ∙ length-append a b ∙ omega (arith, a_len, b_len);
      is_head = record { allowed = fine; inline = inline_len s.bytes; text = refl };
      is_rest = record { head = refl; others = others; parts = parts_is t s ss; text = refl };
    }

by_segments : (key fixed : List ℕ) (counter t : ℕ) (ss : List Segment) → IsBlock key → IsFixed fixed
    → (let f : Frame = record { tag = t; segments = ss } in IsAllowed 1048576 (preamble_of f) → IsSplit key fixed counter f)
by_segments key fixed counter t [] block is_fixed = λ fine. absurd (no_frame 1048576 t fine)
by_segments key fixed counter t (s ∷ ss) block is_fixed = λ fine. framed_split key fixed counter t s ss block is_fixed fine

pub frame_split : (key fixed : List ℕ) (counter : ℕ) (f : Frame) → IsBlock key → IsFixed fixed → IsAllowed 1048576 (preamble_of f) → IsSplit key fixed counter f
frame_split key fixed counter f block is_fixed fine = by_segments key fixed counter f.tag f.segments block is_fixed fine

head_is : (h g : Head) → (let r : Result Head SecureRefusal = Ok h in let q : Result Head SecureRefusal = Ok g in r ≡ q) → h ≡ g
head_is h g e = cc

frame_is : (f g : Frame) → (let r : Result Frame SecureRefusal = Ok f in let q : Result Frame SecureRefusal = Ok g in r ≡ q) → f ≡ g
frame_is f g e = cc

pub one_secure : (key fixed : List ℕ) (counter : ℕ) (f g : Frame) (more rest : List ℕ) → IsBlock key → IsFixed fixed → IsAllowed 1048576 (preamble_of f) → IsAllowed 1048576 (preamble_of g)
    → secure_text key fixed counter f ++ more ≡ secure_text key fixed counter g ++ rest → (f ≡ g) × (more ≡ rest)
one_secure key fixed counter f g more rest block is_fixed ff fg e =
    let x = frame_split key fixed counter f block is_fixed ff in
    let y = frame_split key fixed counter g block is_fixed fg in
    let nonce : List ℕ = nonce_at fixed counter in
    let first_nonce = nonce_is fixed counter is_fixed.len is_fixed.bytes in
    let split : x.first ++ (x.rest ++ more) ≡ y.first ++ (y.rest ++ rest) =
    sym (append_assoc x.first x.rest more) ∙ ap (λ t. t ++ more) (sym x.text) ∙ e ∙ ap (λ t. t ++ rest) y.text ∙ append_assoc y.first y.rest rest
    in
    let fronts = same_fronts x.first (x.rest ++ more) y.first (y.rest ++ rest) 96 x.first_len y.first_len split in
    let heads : x.head ≡ y.head =
    head_is x.head y.head (sym (opened_again key nonce x.first x.head block first_nonce x.is_head) ∙ ap (λ b. head_of (opened key nonce 80 b)) fronts.0 ∙ opened_again key nonce y.first y.head block first_nonce y.is_head)
    in
    let rests = same_fronts x.rest more y.rest rest (rest_len x.head.preamble) x.rest_is (y.rest_is ∙ ap (λ (h : Head). rest_len h.preamble) (sym heads)) fronts.1 in
    let read : Head → List ℕ → Result Frame SecureRefusal = λ h b. rest_of key (nonce_at fixed (counter + 1)) (nonce_at fixed (counter + 1 + one_if (second_len h.preamble))) h b in
    let next = nonce_is fixed (counter + 1) is_fixed.len is_fixed.bytes in
    let read_f : read x.head x.rest ≡ Ok f =
    rest_again key fixed (counter + 1) x.head x.rest f block next (nonce_is fixed (counter + 1 + one_if (second_len x.head.preamble)) is_fixed.len is_fixed.bytes) x.is_head.allowed x.is_rest
    in
    let read_g : read y.head y.rest ≡ Ok g =
    rest_again key fixed (counter + 1) y.head y.rest g block next (nonce_is fixed (counter + 1 + one_if (second_len y.head.preamble)) is_fixed.len is_fixed.bytes) y.is_head.allowed y.is_rest
    in
    (frame_is f g (sym read_f ∙ ap (λ h. read h x.rest) heads ∙ ap (read y.head) rests.0 ∙ read_g), rests.1)
