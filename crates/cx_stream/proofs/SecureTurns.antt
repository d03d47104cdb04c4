-- A turn of secure frames: the head, then what stands behind it.
use Rattle.std.proofs.Common.{◌≡◌, ℕ, ◌+◌, ◌-◌, ◌≤◌, ◌<◌, ◌^◌, Bool, false, true, List, [], ◌∷◌, ◌++◌, length, take, drop, Option, Some, None, Result, Ok, Err, refl, sym, ap, subst, ◌∙◌, inl, inr, arith, append_assoc, append-nil, length-append}
use Rattle.std.specs.Prelude.{if◌then◌else◌}
use Rattle.std.specs.List.{flat_map}
use Rattle.std.proofs.Math.Seq.{take-add}
use Rattle.std.proofs.lemmas.Bool.{le-ltb, lt-ltb, cases_lt}
use Rattle.std.proofs.lemmas.Grind.{flat_map-append}
use Rattle.std.proofs.lemmas.List.{take-append-drop, drop-drop, take_at, drop_at}
use Rattle.std.proofs.lemmas.List.Elements.{All-append, All-cons, All-nil}
use Rattle.cx_frame.specs.declared.frame.Frame.{Frame}
use Rattle.cx_frame.specs.Preambles.{IsAllowed, preamble_text}
use Rattle.cx_secure.specs.declared.sealing.Head.{Head}
use Rattle.cx_secure.specs.declared.sealing.Sealing.{Sealing}
use Rattle.cx_secure.specs.declared.refusals.SecureRefusal.{SecureRefusal}
use Rattle.cx_secure.specs.declared.refusals.SecureRefusal.TheVariants.{CounterSpent, BadTag, BadCrc, BadShape, TooLong, Aborted, OutOfMemory}
use Rattle.cx_secure.specs.Opening.{IsHead, IsRestBehind, head_step, rest_of, rest_step}
use Rattle.cx_secure.specs.Parts.{nonce_at, part, sealed_parts}
use Rattle.cx_secure.specs.Plains.{one_if, plains, rest_len, rest_parts, second_len}
use Rattle.cx_secure.specs.Refusing.{Agrees}
use Rattle.cx_secure.specs.Sealings.{after_opened, after_opening, connection_key, open_head_at, open_rest_at, unless_kept}
use Rattle.cx_stream.specs.Fronts.{frame_in, given_by, with_length}
use Rattle.cx_stream.specs.Held.{Held, IsOpen, IsSteady, sealed_head}
use Rattle.cx_stream.specs.SecureStreams.{Ahead, Holds, IsSecure, IsSecureAt, Passes, PassesGiven, ahead, behind_frame, behind_head, secure_frame_at}
use Rattle.cx_stream.specs.Turning.{Finished, Given, Opened, Readied, behind_open, refusing}
use Rattle.cx_secure.proofs.PartLaws.{sealed-append}
use Rattle.cx_stream.proofs.Sealed.{parts_behind}
use Rattle.cx_stream.specs.declared.faults.StreamFault.{StreamFault}

abbrev pub Read : Type 0
Read = Result (Option (Frame × ℕ)) SecureRefusal

abbrev pub Answer : Type 0
Answer = Result (Option Frame) StreamFault

pub there : (short : Bool) (r : Read) → short ≡ false → (if short then Ok None else r) ≡ r
there short r e = rw e refl

pub short_of : (short : Bool) (r : Read) → short ≡ true → (if short then Ok None else r) ≡ Ok None
short_of short r e = rw e refl

-- ---- the head

-- what a turn reads where 96 bytes are there
pub at_head : (a : Ahead) (front left : List ℕ) (r : Result Head SecureRefusal) → a.bytes ≡ front ++ left → length front ≡ 96 → head_step a.key a.fixed a.counter front ≡ r
    → secure_frame_at a ≡ behind_head (record a { counter = a.counter + 1; bytes = left }) r
unfolding secure_frame_at
at_head a front left r bytes_are len read =
    let whole : ℕ = length a.bytes in
    let long : 96 ≤ whole = omega (arith, ap length bytes_are, length-append front left) in
    let front_is : take 96 a.bytes ≡ front = ap (take 96) bytes_are ∙ take_at front left 96 len in
    let left_is : drop 96 a.bytes ≡ left = ap (drop 96) bytes_are ∙ drop_at front left 96 len in
    let with : List ℕ → Result Head SecureRefusal → Read = λ b h. behind_head (record a { counter = a.counter + 1; bytes = b }) h in
    there _ _ (le-ltb whole 96 long) ∙ ap (λ b. with b (head_step a.key a.fixed a.counter (take 96 a.bytes))) left_is
    ∙ ap (λ b. with left (head_step a.key a.fixed a.counter b)) front_is ∙ ap (with left) read

pub no_head : (a : Ahead) → length a.bytes < 96 → secure_frame_at a ≡ Ok None
unfolding secure_frame_at
no_head a short = short_of _ _ (lt-ltb (length a.bytes) 96 short)

-- ---- what stands behind it

pub behind_short : (a : Ahead) (h : Head) → length a.bytes < rest_len h.preamble → behind_head a (Ok h) ≡ Ok None
unfolding behind_head
behind_short a h short = short_of _ _ (lt-ltb (length a.bytes) (rest_len h.preamble) short)

pub behind_all : (a : Ahead) (h : Head) (r : Result Frame SecureRefusal) → rest_len h.preamble ≤ length a.bytes
    → rest_step a.key a.fixed a.counter h (take (rest_len h.preamble) a.bytes) ≡ r → behind_head a (Ok h) ≡ with_length (96 + rest_len h.preamble) r
unfolding behind_head
behind_all a h r long read = there _ _ (le-ltb (length a.bytes) (rest_len h.preamble) long) ∙ ap (with_length (96 + rest_len h.preamble)) read

-- ---- the step of the head

abbrev pub held : Sealing → Option Head → List ℕ → Held
held s head rest = record { sealing = s; head = head; rest = rest }

unkept : {X : Type 0} (kept : Option SecureRefusal) (r : Result X SecureRefusal) → kept ≡ None → unless_kept kept r ≡ r
unkept kept r e = rw e refl

pub free_answer : (kept : Option SecureRefusal) (r : Result (Option Frame) SecureRefusal) → unless_kept kept r ≡ Ok None → r ≡ Ok None
free_answer None r e = e
free_answer (Some x) r e = absurd cc

open_still : (s : Sealing) (h : Head) (rest : List ℕ) → s.kept ≡ None → IsOpen s h → Opened (held s (Some h) rest) (held s (Some h) rest) h
open_still s h rest free is =
    let with : ℕ → Ahead = λ c. record { key = connection_key s; fixed = s.into.fixed; counter = c; bytes = rest } in
    let back : s.into.counter - 1 + 1 ≡ s.into.counter = omega (arith, is.low) in
    record {
      head = refl;
      free = free;
      free_still = free;
      same = refl;
      next = at_head (ahead (held s (Some h) rest)) (sealed_head s (Some h)) rest (Ok h) refl is.len is.read ∙ ap (λ c. behind_head (with c) (Ok h)) back;
      steady = is;
    }

pub already_open : (old : Held) (s : Sealing) (o : Option Head) (h : Head) (rest : List ℕ) → held s o rest ≡ old → o ≡ Some h → s.kept ≡ None → IsSteady s o → Opened old old h
already_open old s o h rest seen is free steady =
    let still : Opened (held s (Some h) rest) (held s (Some h) rest) h = open_still s h rest free (subst (IsSteady s) is steady) in
    subst (λ (x : Held). Opened x x h) seen (subst (λ (p : Option Head). Opened (held s p rest) (held s p rest) h) (sym is) still)

-- a head that was just opened
pub steady_now : (s : Sealing) (front : List ℕ) (h : Head) → length front ≡ 96 → head_step (connection_key s) s.into.fixed s.into.counter front ≡ Ok h
    → IsHead (connection_key s) (nonce_at s.into.fixed s.into.counter) front h → IsOpen (after_opened s 1) h
steady_now s front h len read is =
    let n : ℕ = s.into.counter in
    let plain : List ℕ = preamble_text h.preamble ++ h.inline in
    let back : n + 1 - 1 ≡ n = omega arith in
    let text : part (connection_key s) (nonce_at s.into.fixed (n + 1 - 1)) plain ≡ front = ap (λ c. part (connection_key s) (nonce_at s.into.fixed c) plain) back ∙ sym is.text in
    record {
      low = omega arith;
      allowed = is.allowed;
      inline = is.inline;
      len = ap length text ∙ len;
      read = ap (head_step (connection_key s) s.into.fixed (n + 1 - 1)) text ∙ ap (λ c. head_step (connection_key s) s.into.fixed c front) back ∙ read;
    }

opens : (s : Sealing) (front left : List ℕ) (h : Head) → s.kept ≡ None → length front ≡ 96 → head_step (connection_key s) s.into.fixed s.into.counter front ≡ Ok h
    → IsHead (connection_key s) (nonce_at s.into.fixed s.into.counter) front h → Opened (held s None (front ++ left)) (held (after_opened s 1) (Some h) left) h
opens s front left h free len read is =
    let n : ℕ = s.into.counter in
    let plain : List ℕ = preamble_text h.preamble ++ h.inline in
    let back : n + 1 - 1 ≡ n = omega arith in
    let with : ℕ → List ℕ → Ahead = λ c b. record { key = connection_key s; fixed = s.into.fixed; counter = c; bytes = b } in
    record {
      head = refl;
      free = free;
      free_still = free;
      same = ap (λ c. with c (part (connection_key s) (nonce_at s.into.fixed c) plain ++ left)) back ∙ ap (λ b. with n (b ++ left)) (sym is.text);
      next = at_head (ahead (held s None (front ++ left))) front left (Ok h) refl len read;
      steady = steady_now s front h len read is;
    }

pub now_open : (old new : Held) (s t : Sealing) (o : Option Head) (rest front left : List ℕ) (h : Head) → held s o rest ≡ old → o ≡ None → held t (Some h) left ≡ new
    → rest ≡ front ++ left → length front ≡ 96 → s.kept ≡ None → t ≡ after_opened s 1
    → head_step (connection_key s) s.into.fixed s.into.counter front ≡ Ok h → IsHead (connection_key s) (nonce_at s.into.fixed s.into.counter) front h
    → Opened old new h
now_open old new s t o rest front left h seen none made rest_is len free after read is =
    let opened_now : Opened (held s None (front ++ left)) (held (after_opened s 1) (Some h) left) h = opens s front left h free len read is in
    let old_is : held s None (front ++ left) ≡ old = ap (λ b. held s None b) (sym rest_is) ∙ ap (λ (p : Option Head). held s p rest) (sym none) ∙ seen in
    let new_is : held (after_opened s 1) (Some h) left ≡ new = ap (λ (x : Sealing). held x (Some h) left) (sym after) ∙ made in
    subst (λ (x : Held). Opened x new h) old_is (subst (λ (x : Held). Opened (held s None (front ++ left)) x h) new_is opened_now)

pub none_ready : (old : Held) (s : Sealing) (o : Option Head) (rest : List ℕ) → held s o rest ≡ old → o ≡ None → s.kept ≡ None → length rest < 96
    → (old.sealing.kept ≡ None) × (secure_frame_at (ahead old) ≡ Ok None)
none_ready old s o rest seen none free short =
    let seen_none : held s None rest ≡ old = ap (λ (p : Option Head). held s p rest) (sym none) ∙ seen in
    (ap (λ (x : Held). x.sealing.kept) (sym seen_none) ∙ free, ap (λ (x : Held). secure_frame_at (ahead x)) (sym seen_none) ∙ no_head (ahead (held s None rest)) short)

head_refused : (a : Ahead) (e : SecureRefusal) → behind_head a (Err e) ≡ Err e
unfolding behind_head
head_refused a e = refl

read_free : {X : Type 0} (kept : Option SecureRefusal) (r answer : Result X SecureRefusal) → kept ≡ None → unless_kept kept r ≡ answer → r ≡ answer
read_free kept r answer free e = sym (unkept kept r free) ∙ e

pub head_read : (s : Sealing) (front : List ℕ) (answer : Result Head SecureRefusal) → s.kept ≡ None → open_head_at s front ≡ answer
    → head_step (connection_key s) s.into.fixed s.into.counter front ≡ answer
head_read s front answer free e = read_free s.kept (head_step (connection_key s) s.into.fixed s.into.counter front) answer free e

-- a head that is refused is what stands at the front
pub refused_answer : (old : Held) (s : Sealing) (o : Option Head) (rest front left : List ℕ) (e : SecureRefusal) → held s o rest ≡ old → o ≡ None
    → rest ≡ front ++ left → length front ≡ 96 → s.kept ≡ None → (let r : Result Head SecureRefusal = Err e in open_head_at s front ≡ r)
    → (old.sealing.kept ≡ None) × (secure_frame_at (ahead old) ≡ Err e)
refused_answer old s o rest front left e seen none rest_is len free read =
    let before : Held = held s None rest in
    let seen_none : before ≡ old = ap (λ (p : Option Head). held s p rest) (sym none) ∙ seen in
    let next : secure_frame_at (ahead before) ≡ Err e = at_head (ahead before) front left (Err e) rest_is len (head_read s front (Err e) free read) ∙ head_refused _ e in
    (ap (λ (x : Held). x.sealing.kept) (sym seen_none) ∙ free, ap (λ (x : Held). secure_frame_at (ahead x)) (sym seen_none) ∙ next)

pub refused_unkept : (old : Held) (e : SecureRefusal) → (old.sealing.kept ≡ None) × (secure_frame_at (ahead old) ≡ Err e)
    → unless_kept old.sealing.kept (secure_frame_at (ahead old)) ≡ Err e
refused_unkept old e is = unkept old.sealing.kept (secure_frame_at (ahead old)) is.0 ∙ is.1

head_keeps : (old new : Held) (s t : Sealing) (o : Option Head) (rest front left : List ℕ) (e : SecureRefusal) → held s o rest ≡ old → o ≡ None → held t o rest ≡ new
    → rest ≡ front ++ left → length front ≡ 96 → s.kept ≡ None → t ≡ record s { kept = Some e }
    → (let r : Result Head SecureRefusal = Err e in open_head_at s front ≡ r)
    → (new ≡ refusing old e) × (unless_kept old.sealing.kept (secure_frame_at (ahead old)) ≡ Err e)
head_keeps old new s t o rest front left e seen none made rest_is len free after read =
    (sym made ∙ ap (λ (x : Sealing). held x o rest) after ∙ ap (λ (x : Held). refusing x e) seen, refused_unkept old e (refused_answer old s o rest front left e seen none rest_is len free read))

pub refuses_head : (old new : Held) (s t : Sealing) (o : Option Head) (rest front left : List ℕ) (e : SecureRefusal) → held s o rest ≡ old → o ≡ None → held t o rest ≡ new
    → rest ≡ front ++ left → length front ≡ 96 → s.kept ≡ None
    → (let r : Result Head SecureRefusal = Err e in t ≡ after_opening s 1 r) → (let r : Result Head SecureRefusal = Err e in open_head_at s front ≡ r)
    → (let r : Result (Option Head) SecureRefusal = Err e in Readied old new r)
refuses_head old new s t o rest front left CounterSpent seen none made rest_is len free after read = head_keeps old new s t o rest front left CounterSpent seen none made rest_is len free after read
refuses_head old new s t o rest front left BadTag seen none made rest_is len free after read = head_keeps old new s t o rest front left BadTag seen none made rest_is len free after read
refuses_head old new s t o rest front left BadCrc seen none made rest_is len free after read = head_keeps old new s t o rest front left BadCrc seen none made rest_is len free after read
refuses_head old new s t o rest front left BadShape seen none made rest_is len free after read = head_keeps old new s t o rest front left BadShape seen none made rest_is len free after read
refuses_head old new s t o rest front left (TooLong n) seen none made rest_is len free after read = head_keeps old new s t o rest front left (TooLong n) seen none made rest_is len free after read
refuses_head old new s t o rest front left Aborted seen none made rest_is len free after read = head_keeps old new s t o rest front left Aborted seen none made rest_is len free after read
refuses_head old new s t o rest front left OutOfMemory seen none made rest_is len free after read = sym made ∙ ap (λ (x : Sealing). held x o rest) after ∙ seen

-- ---- the step of the rest

pub free_of : (old : Held) (s : Sealing) (o : Option Head) (rest : List ℕ) → held s o rest ≡ old → old.sealing.kept ≡ None → s.kept ≡ None
free_of old s o rest seen free = ap (λ (x : Held). x.sealing.kept) seen ∙ free

pub sized : (n : ℕ) (f : Frame) → (let r : Result Frame SecureRefusal = Ok f in with_length n r) ≡ Ok (Some (f, n))
unfolding with_length
sized n f = refl

refused_length : (n : ℕ) (e : SecureRefusal) → (let r : Result Frame SecureRefusal = Err e in with_length n r) ≡ Err e
unfolding with_length
refused_length n e = refl

pub gives : (old new : Held) (s t : Sealing) (o : Option Head) (rest left behind : List ℕ) (h : Head) (f : Frame) → held s o rest ≡ old → held t None left ≡ new
    → rest_len h.preamble ≤ length rest → behind ≡ take (rest_len h.preamble) rest → left ≡ drop (rest_len h.preamble) rest → s.kept ≡ None → t ≡ after_opened s (rest_parts h.preamble)
    → (let answer : Result Frame SecureRefusal = Ok f in open_rest_at s h behind ≡ answer)
    → IsRestBehind (connection_key s) s.into.fixed s.into.counter h behind f → Given old new h f
gives old new s t o rest left behind h f seen made long behind_is left_is free after read found =
    let n : ℕ = rest_len h.preamble in
    let step : List ℕ → Result Frame SecureRefusal = λ b. rest_step (connection_key s) s.into.fixed s.into.counter h b in
    let given : Given (held s o rest) new h f = record {
      there = long;
      read = ap step (sym behind_is) ∙ sym (unkept s.kept (step behind) free) ∙ read;
      found = subst (λ (b : List ℕ). IsRestBehind (connection_key s) s.into.fixed s.into.counter h b f) behind_is found;
      after = sym made ∙ ap (λ (x : Sealing). held x None left) after ∙ ap (λ b. held (after_opened s (rest_parts h.preamble)) None b) left_is;
    } in
    subst (λ (x : Held). Given x new h f) seen given

agrees_keeps : (old new : Held) (s t : Sealing) (o : Option Head) (rest : List ℕ) (h : Head) (e : SecureRefusal) → held s o rest ≡ old → held t o rest ≡ new
    → (t ≡ record s { kept = Some e }) → behind_head (behind_open (held s o rest)) (Ok h) ≡ Err e
    → (new ≡ refusing old e) × (behind_head (behind_open old) (Ok h) ≡ Err e)
agrees_keeps old new s t o rest h e seen made after read =
    (sym made ∙ ap (λ (x : Sealing). held x o rest) after ∙ ap (λ (x : Held). refusing x e) seen, ap (λ (x : Held). behind_head (behind_open x) (Ok h)) (sym seen) ∙ read)

rest_refused : (s : Sealing) (o : Option Head) (rest behind : List ℕ) (h : Head) (e : SecureRefusal) → rest_len h.preamble ≤ length rest → behind ≡ take (rest_len h.preamble) rest → s.kept ≡ None
    → (let answer : Result Frame SecureRefusal = Err e in open_rest_at s h behind ≡ answer) → behind_head (behind_open (held s o rest)) (Ok h) ≡ Err e
rest_refused s o rest behind h e long behind_is free read =
    let n : ℕ = rest_len h.preamble in
    let step : List ℕ → Result Frame SecureRefusal = λ b. rest_step (connection_key s) s.into.fixed s.into.counter h b in
    behind_all (behind_open (held s o rest)) h (Err e) long (ap step (sym behind_is) ∙ sym (unkept s.kept (step behind) free) ∙ read) ∙ refused_length (96 + n) e

pub refuses_rest : (old new : Held) (s t : Sealing) (o : Option Head) (rest behind : List ℕ) (h : Head) (e : SecureRefusal) → held s o rest ≡ old → held t o rest ≡ new
    → rest_len h.preamble ≤ length rest → behind ≡ take (rest_len h.preamble) rest → s.kept ≡ None
    → (let r : Result Frame SecureRefusal = Err e in Agrees r (open_rest_at s h behind)) → (let r : Result Frame SecureRefusal = Err e in t ≡ after_opening s (rest_parts h.preamble) r)
    → (let r : Result (Option Frame) SecureRefusal = Err e in Finished old new h r)
refuses_rest old new s t o rest behind h CounterSpent seen made long behind_is free read after = agrees_keeps old new s t o rest h CounterSpent seen made after (rest_refused s o rest behind h CounterSpent long behind_is free read)
refuses_rest old new s t o rest behind h BadTag seen made long behind_is free read after = agrees_keeps old new s t o rest h BadTag seen made after (rest_refused s o rest behind h BadTag long behind_is free read)
refuses_rest old new s t o rest behind h BadCrc seen made long behind_is free read after = agrees_keeps old new s t o rest h BadCrc seen made after (rest_refused s o rest behind h BadCrc long behind_is free read)
refuses_rest old new s t o rest behind h BadShape seen made long behind_is free read after = agrees_keeps old new s t o rest h BadShape seen made after (rest_refused s o rest behind h BadShape long behind_is free read)
refuses_rest old new s t o rest behind h (TooLong n) seen made long behind_is free read after = agrees_keeps old new s t o rest h (TooLong n) seen made after (rest_refused s o rest behind h (TooLong n) long behind_is free read)
refuses_rest old new s t o rest behind h Aborted seen made long behind_is free read after = agrees_keeps old new s t o rest h Aborted seen made after (rest_refused s o rest behind h Aborted long behind_is free read)
refuses_rest old new s t o rest behind h OutOfMemory seen made long behind_is free read after = sym made ∙ ap (λ (x : Sealing). held x o rest) after ∙ seen

-- ---- both

pub finished_exact : (old mid new : Held) (h : Head) (given : Option Frame) → Opened old mid h → (let r : Result (Option Frame) SecureRefusal = Ok given in Finished mid new h r)
    → (let answer : Result (Option Frame) SecureRefusal = Ok given in unless_kept old.sealing.kept (frame_in (secure_frame_at (ahead old))) ≡ answer)
finished_exact old mid new h None o f = unkept _ _ o.free ∙ ap frame_in (o.next ∙ behind_short (behind_open mid) h f.1)
finished_exact old mid new h (Some x) o g = unkept _ _ o.free ∙ ap frame_in (o.next ∙ behind_all (behind_open mid) h (Ok x) g.there g.read ∙ sized (96 + rest_len h.preamble) x)

counter_fits : (key fixed : List ℕ) (n : ℕ) (h : Head) (b : List ℕ) (f : Frame) → rest_step key fixed n h b ≡ Ok f → n + rest_parts h.preamble < 2 ^ 64
unfolding rest_step
counter_fits key fixed n h b f read = elim (cases_lt (2 ^ 64 - 1) (n + rest_parts h.preamble)) [
  | inl spent ↦
      let both : Err CounterSpent ≡ Ok f = ap (λ (x : Bool). let r : Result Frame SecureRefusal = if x then Err CounterSpent else rest_of key (nonce_at fixed n) (nonce_at fixed (n + one_if (second_len h.preamble))) h b in r) (sym (lt-ltb (2 ^ 64 - 1) (n + rest_parts h.preamble) spent)) ∙ read in
      absurd cc
  | inr fits ↦ omega arith
]

passes_one : (s : Sealing) (h : Head) (rest : List ℕ) (f : Frame) (new : Held) → IsOpen s h → Given (held s (Some h) rest) new h f → Passes (ahead (held s (Some h) rest)) (ahead new) f
unfolding sealed_parts
passes_one s h rest f new is g =
    let n : ℕ = s.into.counter in
    let k : ℕ = rest_len h.preamble in
    let key : List ℕ = connection_key s in
    let fixed : List ℕ = s.into.fixed in
    let front : List ℕ = sealed_head s (Some h) in
    let back : n - 1 + 1 ≡ n = omega (arith, is.low) in
    let parts : length (plains f) ≡ 1 + rest_parts h.preamble = parts_behind f h.preamble g.found.head is.allowed in
    let fits : n + rest_parts h.preamble < 2 ^ 64 = counter_fits key fixed n h (take k rest) f g.read in
    let whole : List ℕ = front ++ rest in
    let split : take (96 + k) whole ≡ front ++ take k rest =
    take-add 96 k whole ∙ ap (λ t. t ++ take k (drop 96 whole)) (take_at front rest 96 is.len) ∙ ap (λ t. front ++ take k t) (drop_at front rest 96 is.len)
    in
    let with : ℕ → List ℕ → Ahead = λ c b. record { key = key; fixed = fixed; counter = c; bytes = b } in
    record {
      len = 96 + k;
      front = record {
        secure = subst (IsAllowed 1048576) (sym g.found.head) is.allowed;
        counters = omega (arith, parts, is.low);
        there = omega (arith, length-append front rest, is.len, g.there);
        text =
            split ∙ ap (λ t. front ++ t) g.found.text ∙ ap (λ c. front ++ sealed_parts key fixed c g.found.others) (sym back)
            ∙ ap (λ (ps : List (List ℕ)). sealed_parts key fixed (n - 1) ps) (sym g.found.parts);
      };
      behind =
          ap (λ (x : Held). ahead x) g.after
          ∙ ap (λ c. with c (drop k rest)) (let e : n + rest_parts h.preamble ≡ n - 1 + length (plains f) = omega (arith, parts, is.low) in e)
          ∙ ap (λ b. with (n - 1 + length (plains f)) b) (ap (drop k) (sym (drop_at front rest 96 is.len)) ∙ drop-drop k 96 whole);
    }

passes_mid : (mid new : Held) (h : Head) (f : Frame) → mid.head ≡ Some h → IsOpen mid.sealing h → Given mid new h f → Passes (ahead mid) (ahead new) f
passes_mid mid new h f there_is is g =
    let same : mid ≡ held mid.sealing (Some h) mid.rest = ap (λ (p : Option Head). held mid.sealing p mid.rest) there_is in
    subst (λ (x : Held). Passes (ahead x) (ahead new) f) (sym same) (passes_one mid.sealing h mid.rest f new is (subst (λ (x : Held). Given x new h f) same g))

pub finished_passes : (old mid new : Held) (h : Head) (given : Option Frame) → Opened old mid h → (let r : Result (Option Frame) SecureRefusal = Ok given in Finished mid new h r)
    → (let answer : Answer = Ok given in PassesGiven (ahead old) (ahead new) answer)
finished_passes old mid new h None o f = ap (λ (x : Held). ahead x) f.0 ∙ o.same
finished_passes old mid new h (Some x) o g = subst (λ (a : Ahead). Passes a (ahead new) x) o.same (passes_mid mid new h x o.head o.steady g)

-- ---- what a stream stands for behind a turn

given_one : (old : Ahead) (f : Frame) (n : ℕ) (fed : List ℕ) (given : List Frame) → IsSecureAt old f n → Holds old fed given → Holds (behind_frame old f n) fed (given ++ f ∷ [])
given_one old f n fed given front s =
    let ps : List (List ℕ) = flat_map plains given in
    let more : flat_map plains (given ++ f ∷ []) ≡ ps ++ plains f = flat_map-append plains given (f ∷ []) ∙ ap (λ t. ps ++ t) (append-nil (plains f)) in
    let first : List ℕ = sealed_parts old.key old.fixed s.start ps in
    record {
      start = s.start;
      secure = All-append IsSecure given (f ∷ []) s.secure (All-cons IsSecure f [] front.secure (All-nil IsSecure));
      count = ap (λ (t : List (List ℕ)). s.start + length t) more ∙ omega (arith, length-append ps (plains f), s.count);
      whole =
          s.whole ∙ ap (λ t. first ++ t) (sym (take-append-drop n old.bytes)) ∙ sym (append_assoc first (take n old.bytes) (drop n old.bytes))
          ∙ ap (λ t. (first ++ t) ++ drop n old.bytes) (front.text ∙ ap (λ c. sealed_parts old.key old.fixed c (plains f)) (sym s.count))
          ∙ ap (λ t. t ++ drop n old.bytes) (sym (ap (λ (t : List (List ℕ)). sealed_parts old.key old.fixed s.start t) more ∙ sealed-append old.key old.fixed s.start ps (plains f)));
    }

as_before : (new old : Ahead) (fed : List ℕ) (given : List Frame) → new ≡ old → Holds old fed given → Holds new fed (given ++ [])
as_before new old fed given same s = subst (λ gs. Holds new fed gs) (sym (append-nil given)) (subst (λ (a : Ahead). Holds a fed given) (sym same) s)

pub turned_holds : (old new : Ahead) (r : Answer) → PassesGiven old new r → (fed : List ℕ) (given : List Frame) → Holds old fed given → Holds new fed (given ++ given_by r)
turned_holds old new (Ok (Some f)) passed fed given s = subst (λ (a : Ahead). Holds a fed (given ++ f ∷ [])) (sym passed.behind) (given_one old f passed.len fed given passed.front s)
turned_holds old new (Ok None) same fed given s = as_before new old fed given same s
turned_holds old new (Err e) same fed given s = as_before new old fed given same s

-- ---- a frame that is put
