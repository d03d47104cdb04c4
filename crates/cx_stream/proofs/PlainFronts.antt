-- The plain frame at the front of some bytes: what is read there stands there, what was put is read again, and what is answered stays so.
use Rattle.std.proofs.Common.{◌≡◌, ℕ, ◌+◌, ◌≤◌, Bool, false, List, [], ◌∷◌, ◌++◌, length, take, drop, Option, Some, None, Result, Ok, Err, refl, sym, ap, subst, ◌∙◌, inl, inr, arith, append_assoc, length-append, length-drop}
use Rattle.std.specs.Prelude.{if◌then◌else◌, IfOk, IfSome}
use Rattle.std.specs.List.{flat_map}
use Rattle.std.proofs.Math.Seq.{take-add}
use Rattle.std.proofs.lemmas.Bool.{le-ltb, lt-ltb, cases_lt}
use Rattle.std.proofs.lemmas.List.{take_at, drop_at, take-append-le, drop-append-le}
use Rattle.std.proofs.lemmas.List.Elements.{All-head, All-tail}
use Rattle.cx_frame.specs.declared.frame.Frame.{Frame}
use Rattle.cx_frame.specs.declared.preamble.Preamble.{Preamble}
use Rattle.cx_frame.specs.declared.refusals.FrameRefusal.{FrameRefusal}
use Rattle.cx_frame.specs.declared.refusals.FrameRefusal.TheVariants.{BadCrc, BadShape, TooLong, Aborted, OutOfMemory}
use Rattle.cx_frame.specs.Preambles.{IsAllowed, preamble_at, preamble_of, preamble_text}
use Rattle.cx_frame.specs.Frames.{Agrees, frame_text, rest_at, rest_len, rest_text}
use Rattle.cx_frame.proofs.FrameLaws.{length-preamble_text, one_frame}
use Rattle.cx_frame.proofs.PreambleLaws.{preamble_again}
use Rattle.cx_frame.proofs.RestLaws.{length-rest_text, rest_again}
use Rattle.cx_stream.specs.Fronts.{with_length}
use Rattle.cx_stream.specs.PlainStreams.{IsPlain, IsPlainAt, IsPlainBehind, IsPlainStream, behind_preamble, plain_frame_at}

abbrev pub Read : Type 0
Read = Result (Option (Frame × ℕ)) FrameRefusal

there : (short : Bool) (r : Read) → short ≡ false → (if short then Ok None else r) ≡ r
there short r e = rw e refl

-- ---- found

at_front : (bytes front left : List ℕ) (p : Preamble) (f : Frame) (n : ℕ) → 32 ≤ length bytes → front ≡ take 32 bytes → left ≡ drop 32 bytes
    → IsAllowed 65536 p → front ≡ preamble_text p → IsPlainBehind p left f n → IsPlainAt bytes f n
unfolding frame_text
at_front bytes front left p f n le front_is left_is fine text is =
    let len_left : length left ≡ length (drop 32 bytes) = ap length left_is in
    let head : take 32 bytes ≡ preamble_text (preamble_of f) = sym front_is ∙ text ∙ ap preamble_text (sym is.behind.head) in
    let rest : take (rest_len p) (drop 32 bytes) ≡ rest_text f.segments = ap (take (rest_len p)) (sym left_is) ∙ is.behind.text in
    record {
      plain = subst (IsAllowed 65536) (sym is.behind.head) fine;
      there = omega (arith, is.len, is.there, length-drop 32 bytes);
      text = ap (λ k. take k bytes) is.len ∙ take-add 32 (rest_len p) bytes ∙ ap (λ t. t ++ take (rest_len p) (drop 32 bytes)) head ∙ ap (λ t. preamble_text (preamble_of f) ++ t) rest;
    }

pub found_whole : (bytes front left : List ℕ) (p : Preamble) (r : Read) → 32 ≤ length bytes → front ≡ take 32 bytes → left ≡ drop 32 bytes
    → IsAllowed 65536 p → front ≡ preamble_text p
    → IfOk r (λ read. IfSome read (λ x. IsPlainBehind p left x.0 x.1)) → IfOk r (λ read. IfSome read (λ x. IsPlainAt bytes x.0 x.1))
found_whole bytes front left p (Ok (Some x)) le front_is left_is fine text is = at_front bytes front left p x.0 x.1 le front_is left_is fine text is
found_whole bytes front left p (Ok None) le front_is left_is fine text is = tt
found_whole bytes front left p (Err e) le front_is left_is fine text is = tt

agrees_err : (e : FrameRefusal) (r : Read) → r ≡ Err e → (let answer : Read = Err e in Agrees answer r)
agrees_err BadCrc r is = is
agrees_err BadShape r is = is
agrees_err (TooLong n) r is = is
agrees_err Aborted r is = is
agrees_err OutOfMemory r is = tt

pub refused_front : (bytes front left : List ℕ) (e : FrameRefusal) → 32 ≤ length bytes → front ≡ take 32 bytes
    → (let read : Result Preamble FrameRefusal = Err e in read ≡ preamble_at 65536 front) → (let answer : Read = Err e in Agrees answer (plain_frame_at bytes))
unfolding plain_frame_at behind_preamble
refused_front bytes front left e le front_is is =
    agrees_err e (plain_frame_at bytes)
    (there _ _ (le-ltb (length bytes) 32 le) ∙ ap (λ b. behind_preamble (drop 32 bytes) (preamble_at 65536 b)) (sym front_is) ∙ ap (behind_preamble (drop 32 bytes)) (sym is))

-- ---- again

behind : (bytes front left : List ℕ) (p : Preamble) → 32 ≤ length bytes → take 32 bytes ≡ front → drop 32 bytes ≡ left → preamble_at 65536 front ≡ Ok p
    → plain_frame_at bytes ≡ behind_preamble left (Ok p)
unfolding plain_frame_at
behind bytes front left p le front_is left_is read =
    there _ _ (le-ltb (length bytes) 32 le) ∙ ap (λ b. behind_preamble b (preamble_at 65536 (take 32 bytes))) left_is
    ∙ ap (λ b. behind_preamble left (preamble_at 65536 b)) front_is ∙ ap (behind_preamble left) read

all_behind : (left rest : List ℕ) (p : Preamble) (f : Frame) → rest_len p ≤ length left → take (rest_len p) left ≡ rest → rest_at p rest ≡ Ok f
    → behind_preamble left (Ok p) ≡ Ok (Some (f, 32 + rest_len p))
unfolding behind_preamble with_length
all_behind left rest p f le is read =
    there _ _ (le-ltb (length left) (rest_len p) le) ∙ ap (λ b. with_length (32 + rest_len p) (rest_at p b)) is ∙ ap (with_length (32 + rest_len p)) read

pub plain_again : (f : Frame) (more : List ℕ) → IsPlain f → plain_frame_at (frame_text f ++ more) ≡ Ok (Some (f, length (frame_text f)))
unfolding frame_text
plain_again f more fine =
    let p : Preamble = preamble_of f in
    let front : List ℕ = preamble_text p in
    let rest : List ℕ = rest_text f.segments in
    let text : List ℕ = (front ++ rest) ++ more in
    let front_len : length front ≡ 32 = length-preamble_text p fine.four_lengths fine.four_aligns in
    let rest_is : length rest ≡ rest_len p = length-rest_text 65536 f fine in
    let split : text ≡ front ++ (rest ++ more) = append_assoc front rest more in
    let size : 32 + rest_len p ≡ length (front ++ rest) = omega (arith, length-append front rest) in
    let long : 32 ≤ length text = omega (arith, length-append (front ++ rest) more) in
    let sized : ℕ → Read = λ n. Ok (Some (f, n)) in
    behind text front (rest ++ more) p long (ap (take 32) split ∙ take_at front (rest ++ more) 32 front_len) (ap (drop 32) split ∙ drop_at front (rest ++ more) 32 front_len)
    (preamble_again 65536 front p fine refl)
    ∙ all_behind (rest ++ more) rest p f (omega (arith, length-append rest more)) (take_at rest more (rest_len p) rest_is) (rest_again 65536 p rest f fine (record { head = refl; text = refl }))
    ∙ ap sized size

-- ---- settled

settled_behind : (left more : List ℕ) (r : Result Preamble FrameRefusal) → (behind_preamble left r ≡ Ok None → ⊥) → behind_preamble (left ++ more) r ≡ behind_preamble left r
unfolding behind_preamble
settled_behind left more (Err e) some = refl
settled_behind left more (Ok p) some = elim (cases_lt (length left) (rest_len p)) [
  | inl short ↦ absurd (some (rw (lt-ltb (length left) (rest_len p) short) refl))
  | inr long ↦
      let longer : rest_len p ≤ length (left ++ more) = omega (arith, length-append left more) in
      there _ _ (le-ltb (length (left ++ more)) (rest_len p) longer)
      ∙ ap (λ b. with_length (32 + rest_len p) (rest_at p b)) (take-append-le (rest_len p) left more long)
      ∙ sym (there _ _ (le-ltb (length left) (rest_len p) long))
]

pub settled : (bytes more : List ℕ) → (plain_frame_at bytes ≡ Ok None → ⊥) → plain_frame_at (bytes ++ more) ≡ plain_frame_at bytes
unfolding plain_frame_at
settled bytes more some = elim (cases_lt (length bytes) 32) [
  | inl short ↦ absurd (some (rw (lt-ltb (length bytes) 32 short) refl))
  | inr long ↦
      let longer : 32 ≤ length (bytes ++ more) = omega (arith, length-append bytes more) in
      let read : Result Preamble FrameRefusal = preamble_at 65536 (take 32 bytes) in
      let here : plain_frame_at bytes ≡ behind_preamble (drop 32 bytes) read = there _ _ (le-ltb (length bytes) 32 long) in
      there _ _ (le-ltb (length (bytes ++ more)) 32 longer)
      ∙ ap (λ b. behind_preamble (drop 32 (bytes ++ more)) (preamble_at 65536 b)) (take-append-le 32 bytes more long)
      ∙ ap (λ b. behind_preamble b read) (drop-append-le 32 bytes more long)
      ∙ settled_behind (drop 32 bytes) more read (λ none. some (here ∙ none))
      ∙ sym here
]

-- ---- one way

pub one_way : (bytes : List ℕ) (fs gs : List Frame) (rest left : List ℕ) → IsPlainStream bytes fs rest → IsPlainStream bytes gs left → (fs ≡ gs) × (rest ≡ left)
one_way bytes [] [] rest left s t = (refl, sym s.text ∙ t.text)
one_way bytes [] (g ∷ gs) rest left s t =
    absurd (s.ended g (flat_map frame_text gs ++ left) (All-head IsPlain g gs t.plain) (sym s.text ∙ t.text ∙ append_assoc (frame_text g) (flat_map frame_text gs) left))
one_way bytes (f ∷ fs) [] rest left s t =
    absurd (t.ended f (flat_map frame_text fs ++ rest) (All-head IsPlain f fs s.plain) (sym t.text ∙ s.text ∙ append_assoc (frame_text f) (flat_map frame_text fs) rest))
one_way bytes (f ∷ fs) (g ∷ gs) rest left s t =
    let behind_f : List ℕ = flat_map frame_text fs ++ rest in
    let behind_g : List ℕ = flat_map frame_text gs ++ left in
    let texts : frame_text f ++ behind_f ≡ frame_text g ++ behind_g =
    sym (append_assoc (frame_text f) (flat_map frame_text fs) rest) ∙ sym s.text ∙ t.text ∙ append_assoc (frame_text g) (flat_map frame_text gs) left
    in
    let same = one_frame 65536 f g behind_f behind_g (All-head IsPlain f fs s.plain) (All-head IsPlain g gs t.plain) texts in
    let more = one_way behind_f fs gs rest left
    (record { plain = All-tail IsPlain f fs s.plain; text = refl; ended = s.ended })
    (record { plain = All-tail IsPlain g gs t.plain; text = same.1; ended = t.ended })
    in
    (ap (λ h. h ∷ fs) same.0 ∙ ap (λ hs. g ∷ hs) more.0, more.1)
