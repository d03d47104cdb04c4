-- The secure frame at the front of some bytes: what was put is read again, and what is answered stays so.
use Rattle.std.proofs.Common.{◌≡◌, ℕ, ◌+◌, ◌-◌, ◌≤◌, ◌<◌, ◌^◌, false, List, [], ◌∷◌, ◌++◌, length, take, drop, Option, Some, None, Result, Ok, Err, refl, sym, ap, subst, ◌∙◌, inl, inr, arith, append_assoc, length-append}
use Rattle.std.specs.Prelude.{nat_lt}
use Rattle.std.specs.List.{flat_map}
use Rattle.std.proofs.lemmas.Bool.{le-ltb, lt-ltb, cases_lt}
use Rattle.std.proofs.lemmas.List.{take_at, drop_at, take-append-le, drop-append-le}
use Rattle.std.proofs.lemmas.List.Elements.{All-head, All-tail}
use Rattle.cx_secure.specs.cx_aes.specs.Cipher.{IsBlock}
use Rattle.cx_secure.specs.cx_gcm.specs.Gcm.{IsNonce}
use Rattle.cx_frame.specs.declared.frame.Frame.{Frame}
use Rattle.cx_frame.specs.declared.preamble.Preamble.{Preamble}
use Rattle.cx_frame.specs.Preambles.{IsAllowed}
use Rattle.cx_secure.specs.declared.sealing.Head.{Head}
use Rattle.cx_secure.specs.declared.refusals.SecureRefusal.{SecureRefusal}
use Rattle.cx_secure.specs.Opening.{IsHead, IsRestBehind, head_step, rest_step}
use Rattle.cx_secure.specs.Parts.{nonce_at, sealed_parts}
use Rattle.cx_secure.specs.Plains.{one_if, plains, rest_len, rest_parts, second_len, secure_text}
use Rattle.cx_secure.specs.Sealings.{unless_kept}
use Rattle.cx_secure.proofs.HeadLaws.{nonce_is, opened_again}
use Rattle.cx_secure.proofs.PartLaws.{sealed-append}
use Rattle.cx_secure.proofs.SealedLaws.{rest_again}
use Rattle.cx_secure.proofs.WholeLaws.{frame_split, sealing_keyed}
use Rattle.cx_stream.specs.Fronts.{frame_in, with_length}
use Rattle.cx_stream.specs.Held.{Held}
use Rattle.cx_stream.specs.SecureStreams.{AgreesSecure, Ahead, BeginsNoSecure, IsKeyed, IsSecure, IsSecureStream, ahead, behind_head, secure_frame_at}
use Rattle.cx_stream.proofs.Sealed.{parts_behind}
use Rattle.cx_stream.proofs.SecureTurns.{Answer, Read, at_head, behind_all, free_answer, short_of, sized, there}

-- each stream of secure frames has a key of 16 bytes, and four fixed bytes of its nonces
pub stream_keyed : (s : Held) → IsKeyed (ahead s)
stream_keyed s = let keyed = sealing_keyed s.sealing in record { key = keyed.0; fixed = keyed.2 }

-- ---- again

head_again : (key fixed : List ℕ) (n : ℕ) (bytes : List ℕ) (h : Head) → IsBlock key → IsNonce (nonce_at fixed n) → n + 1 < 2 ^ 64 → IsHead key (nonce_at fixed n) bytes h
    → head_step key fixed n bytes ≡ Ok h
unfolding head_step
head_again key fixed n bytes h block is_nonce below is =
    let free : nat_lt (2 ^ 64 - 1) (n + 1) ≡ false = le-ltb (2 ^ 64 - 1) (n + 1) (omega arith) in
    rw free (opened_again key (nonce_at fixed n) bytes h block is_nonce is)

behind_again : (key fixed : List ℕ) (n : ℕ) (h : Head) (bytes : List ℕ) (f : Frame) → IsBlock key → ((m : ℕ) → IsNonce (nonce_at fixed m)) → IsAllowed 1048576 h.preamble
    → n + rest_parts h.preamble < 2 ^ 64 → IsRestBehind key fixed n h bytes f → rest_step key fixed n h bytes ≡ Ok f
unfolding rest_step
behind_again key fixed n h bytes f block nonces fine below is =
    let free : nat_lt (2 ^ 64 - 1) (n + rest_parts h.preamble) ≡ false = le-ltb (2 ^ 64 - 1) (n + rest_parts h.preamble) (omega arith) in
    rw free (rest_again key fixed n h bytes f block (nonces n) (nonces (n + one_if (second_len h.preamble))) fine is)

pub secure_again : (a : Ahead) (f : Frame) (more : List ℕ) → IsKeyed a → IsSecure f → a.counter + length (plains f) < 2 ^ 64 → a.bytes ≡ secure_text a.key a.fixed a.counter f ++ more
    → secure_frame_at a ≡ Ok (Some (f, length (secure_text a.key a.fixed a.counter f)))
secure_again a f more keyed fine below text =
    let n : ℕ = a.counter in
    let is = frame_split a.key a.fixed n f keyed.key keyed.fixed fine in
    let p : Preamble = is.head.preamble in
    let nonces : (m : ℕ) → IsNonce (nonce_at a.fixed m) = λ m. nonce_is a.fixed m keyed.fixed.len keyed.fixed.bytes in
    let parts : length (plains f) ≡ 1 + rest_parts p = parts_behind f p is.is_rest.head is.is_head.allowed in
    let b : Ahead = record a { counter = n + 1; bytes = is.rest ++ more } in
    let opened_head : head_step a.key a.fixed n is.first ≡ Ok is.head = head_again a.key a.fixed n is.first is.head keyed.key (nonces n) (omega (arith, parts)) is.is_head in
    let behind_read : rest_step a.key a.fixed (n + 1) is.head is.rest ≡ Ok f =
    behind_again a.key a.fixed (n + 1) is.head is.rest f keyed.key nonces is.is_head.allowed (omega (arith, parts)) is.is_rest
    in
    let long : rest_len p ≤ length (is.rest ++ more) = omega (arith, length-append is.rest more, is.rest_is) in
    let behind_is : behind_head b (Ok is.head) ≡ with_length (96 + rest_len p) (let r : Result Frame SecureRefusal = Ok f in r) =
    behind_all b is.head (Ok f) long (ap (λ c. rest_step a.key a.fixed (n + 1) is.head c) (take_at is.rest more (rest_len p) is.rest_is) ∙ behind_read)
    in
    let size : 96 + rest_len p ≡ length (secure_text a.key a.fixed n f) = sym (ap length is.text ∙ length-append is.first is.rest ∙ omega (arith, is.first_len, is.rest_is)) in
    let whole : ℕ → Read = λ k. Ok (Some (f, k)) in
    at_head a is.first (is.rest ++ more) (Ok is.head) (text ∙ ap (λ c. c ++ more) is.text ∙ append_assoc is.first is.rest more) is.first_len opened_head
    ∙ behind_is ∙ sized (96 + rest_len p) f ∙ ap whole size

-- ---- settled

settled_behind : (a : Ahead) (more : List ℕ) (r : Result Head SecureRefusal) → (behind_head a r ≡ Ok None → ⊥) → behind_head (record a { bytes = a.bytes ++ more }) r ≡ behind_head a r
unfolding behind_head
settled_behind a more (Err e) some = refl
settled_behind a more (Ok h) some = elim (cases_lt (length a.bytes) (rest_len h.preamble)) [
  | inl short ↦ absurd (some (short_of _ _ (lt-ltb (length a.bytes) (rest_len h.preamble) short)))
  | inr long ↦
      let longer : rest_len h.preamble ≤ length (a.bytes ++ more) = omega (arith, length-append a.bytes more) in
      there _ _ (le-ltb (length (a.bytes ++ more)) (rest_len h.preamble) longer)
      ∙ ap (λ b. with_length (96 + rest_len h.preamble) (rest_step a.key a.fixed a.counter h b)) (take-append-le (rest_len h.preamble) a.bytes more long)
      ∙ sym (there _ _ (le-ltb (length a.bytes) (rest_len h.preamble) long))
]

pub settled : (a : Ahead) (more : List ℕ) → (secure_frame_at a ≡ Ok None → ⊥) → secure_frame_at (record a { bytes = a.bytes ++ more }) ≡ secure_frame_at a
unfolding secure_frame_at
settled a more some = elim (cases_lt (length a.bytes) 96) [
  | inl short ↦ absurd (some (short_of _ _ (lt-ltb (length a.bytes) 96 short)))
  | inr long ↦
      let longer : 96 ≤ length (a.bytes ++ more) = omega (arith, length-append a.bytes more) in
      let read : Result Head SecureRefusal = head_step a.key a.fixed a.counter (take 96 a.bytes) in
      let with : List ℕ → Ahead = λ b. record a { counter = a.counter + 1; bytes = b } in
      let here : secure_frame_at a ≡ behind_head (with (drop 96 a.bytes)) read = there _ _ (le-ltb (length a.bytes) 96 long) in
      there _ _ (le-ltb (length (a.bytes ++ more)) 96 longer)
      ∙ ap (λ b. behind_head (with (drop 96 (a.bytes ++ more))) (head_step a.key a.fixed a.counter b)) (take-append-le 96 a.bytes more long)
      ∙ ap (λ b. behind_head (with b) read) (drop-append-le 96 a.bytes more long)
      ∙ settled_behind (with (drop 96 a.bytes)) more read (λ none. some (here ∙ none))
      ∙ sym here
]

-- ---- one way

none_there_of : (r : Result (Option Frame) SecureRefusal) (f : Frame) → r ≡ Ok None → r ≡ Ok (Some f) → ⊥
none_there_of r f none some = cc

-- where nothing is given, no frame is there
pub none_there : (a : Ahead) (kept : Option SecureRefusal) (r : Answer) → IsKeyed a → AgreesSecure r (unless_kept kept (frame_in (secure_frame_at a))) → r ≡ Ok None → BeginsNoSecure a
none_there a kept r keyed agrees is = λ f more fine below text.
    let answer : unless_kept kept (frame_in (secure_frame_at a)) ≡ Ok None = subst (λ (x : Answer). AgreesSecure x (unless_kept kept (frame_in (secure_frame_at a)))) is agrees in
    none_there_of (frame_in (secure_frame_at a)) f (free_answer kept (frame_in (secure_frame_at a)) answer) (ap frame_in (secure_again a f more keyed fine below text))

-- the front of a stream that begins with a frame
front_of : (a : Ahead) (f : Frame) (fs : List Frame) (rest : List ℕ) → a.bytes ≡ sealed_parts a.key a.fixed a.counter (flat_map plains (f ∷ fs)) ++ rest
    → a.bytes ≡ secure_text a.key a.fixed a.counter f ++ (sealed_parts a.key a.fixed (a.counter + length (plains f)) (flat_map plains fs) ++ rest)
front_of a f fs rest text =
    let behind : List ℕ = sealed_parts a.key a.fixed (a.counter + length (plains f)) (flat_map plains fs) in
    text ∙ ap (λ b. b ++ rest) (sealed-append a.key a.fixed a.counter (plains f) (flat_map plains fs)) ∙ append_assoc (secure_text a.key a.fixed a.counter f) behind rest

fits_front : (n : ℕ) (f : Frame) (fs : List Frame) → n + length (flat_map plains (f ∷ fs)) < 2 ^ 64 → (n + length (plains f) < 2 ^ 64) × (n + length (plains f) + length (flat_map plains fs) < 2 ^ 64)
fits_front n f fs below = (omega (arith, length-append (plains f) (flat_map plains fs)), omega (arith, length-append (plains f) (flat_map plains fs)))

-- the stream behind its first frame
tail_of : (a : Ahead) (f : Frame) (fs : List Frame) (rest behind : List ℕ) → IsSecureStream a (f ∷ fs) rest
    → behind ≡ sealed_parts a.key a.fixed (a.counter + length (plains f)) (flat_map plains fs) ++ rest
    → IsSecureStream (record a { counter = a.counter + length (plains f); bytes = behind }) fs rest
tail_of a f fs rest behind s is =
    let count : a.counter + length (flat_map plains (f ∷ fs)) ≡ a.counter + length (plains f) + length (flat_map plains fs) = omega (arith, length-append (plains f) (flat_map plains fs)) in
    record {
      secure = All-tail IsSecure f fs s.secure;
      counters = (fits_front a.counter f fs s.counters).1;
      text = is;
      ended = subst (λ n. BeginsNoSecure (record a { counter = n; bytes = rest })) count s.ended;
    }

nothing_before : (a : Ahead) (rest : List ℕ) → IsSecureStream a [] rest → (f : Frame) (fs : List Frame) (left : List ℕ) → IsSecureStream a (f ∷ fs) left → ⊥
unfolding sealed_parts
nothing_before a rest s f fs left t =
    let same : a.counter + length (flat_map plains []) ≡ a.counter = omega arith in
    let ended : BeginsNoSecure (record a { bytes = rest }) = subst (λ n. BeginsNoSecure (record a { counter = n; bytes = rest })) same s.ended in
    let front = front_of a f fs left t.text in
    ended f (sealed_parts a.key a.fixed (a.counter + length (plains f)) (flat_map plains fs) ++ left) (All-head IsSecure f fs t.secure) (fits_front a.counter f fs t.counters).0 (sym s.text ∙ front)

some_is : (f g : Frame) → (let r : Result (Option Frame) SecureRefusal = Ok (Some f) in let q : Result (Option Frame) SecureRefusal = Ok (Some g) in r ≡ q) → f ≡ g
some_is f g e = cc

frame_is : (f g : Frame) (m n : ℕ) → (let r : Read = Ok (Some (f, m)) in let q : Read = Ok (Some (g, n)) in r ≡ q) → f ≡ g
frame_is f g m n e = some_is f g (ap frame_in e)

pub one_way : (a : Ahead) (fs gs : List Frame) (rest left : List ℕ) → IsKeyed a → IsSecureStream a fs rest → IsSecureStream a gs left → (fs ≡ gs) × (rest ≡ left)
unfolding sealed_parts
one_way a [] [] rest left keyed s t = (refl, sym s.text ∙ t.text)
one_way a [] (g ∷ gs) rest left keyed s t = absurd (nothing_before a rest s g gs left t)
one_way a (f ∷ fs) [] rest left keyed s t = absurd (nothing_before a left t f fs rest s)
one_way a (f ∷ fs) (g ∷ gs) rest left keyed s t =
    let n : ℕ = a.counter in
    let text : Frame → List ℕ = λ h. secure_text a.key a.fixed n h in
    let behind_f : List ℕ = sealed_parts a.key a.fixed (n + length (plains f)) (flat_map plains fs) ++ rest in
    let behind_g : List ℕ = sealed_parts a.key a.fixed (n + length (plains g)) (flat_map plains gs) ++ left in
    let front_f : a.bytes ≡ text f ++ behind_f = front_of a f fs rest s.text in
    let front_g : a.bytes ≡ text g ++ behind_g = front_of a g gs left t.text in
    let read_f = secure_again a f behind_f keyed (All-head IsSecure f fs s.secure) (fits_front n f fs s.counters).0 front_f in
    let read_g = secure_again a g behind_g keyed (All-head IsSecure g gs t.secure) (fits_front n g gs t.counters).0 front_g in
    let same : f ≡ g = frame_is f g (length (text f)) (length (text g)) (sym read_f ∙ read_g) in
    let texts : text f ≡ text g = ap text same in
    let behind : behind_f ≡ behind_g =
    sym (drop_at (text f) behind_f (length (text f)) refl) ∙ ap (drop (length (text f))) (sym front_f ∙ front_g) ∙ drop_at (text g) behind_g (length (text f)) (sym (ap length texts))
    in
    let behind_at : behind_f ≡ sealed_parts a.key a.fixed (n + length (plains f)) (flat_map plains gs) ++ left =
    behind ∙ ap (λ (h : Frame). sealed_parts a.key a.fixed (n + length (plains h)) (flat_map plains gs) ++ left) (sym same)
    in
    let other : IsSecureStream a (f ∷ gs) left = subst (λ (h : Frame). IsSecureStream a (h ∷ gs) left) (sym same) t in
    let more = one_way (record a { counter = n + length (plains f); bytes = behind_f }) fs gs rest left (record { key = keyed.key; fixed = keyed.fixed })
    (tail_of a f fs rest behind_f s refl) (tail_of a f gs left behind_f other behind_at)
    in
    (ap (λ h. h ∷ fs) same ∙ ap (λ hs. g ∷ hs) more.0, more.1)
