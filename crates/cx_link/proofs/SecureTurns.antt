-- A turn of a stream of secure frames, as one of its link.
use Rattle.std.proofs.Common.{◌≡◌, ℕ, List, [], ◌++◌, length, drop, map, Option, Some, None, Result, Ok, Err, sym, ap, ◌∙◌}
use Rattle.std.proofs.lemmas.List.{take-append-drop, length-take-le}
use Rattle.cx_frame.specs.declared.frame.Frame.{Frame}
use Rattle.cx_journal.specs.declared.faults.BytesFault.{BytesFault}
use Rattle.cx_rules.specs.Fronts.{opened_parts, secure_fault}
use Rattle.cx_rules.specs.cx_secure.specs.Plains.{secure_text}
use Rattle.cx_rules.specs.cx_secure.specs.Sealings.{connection_key, unless_kept}
use Rattle.cx_rules.specs.cx_secure.specs.declared.refusals.SecureRefusal.{SecureRefusal}
use Rattle.cx_rules.specs.cx_secure.specs.declared.refusals.SecureRefusal.TheVariants as secure
use Rattle.cx_rules.specs.cx_secure.specs.declared.sealing.Way.{Way}
use Rattle.cx_steps.specs.declared.seals.SealEntry.{SealEntry}
use Rattle.cx_rules.specs.cx_stream.specs.Fronts.{frame_in}
use Rattle.cx_rules.specs.cx_stream.specs.Held.{Held}
use Rattle.cx_rules.specs.cx_stream.specs.Openings.{front_contents}
use Rattle.cx_rules.specs.cx_stream.specs.SecureStreams.{AgreesSecure, Ahead, IsKeyed, IsSecureAt, Passes, ahead, behind_frame, secure_frame_at}
use Rattle.cx_rules.specs.cx_stream.specs.declared.faults.StreamFault.{StreamFault}
use Rattle.cx_rules.specs.cx_stream.specs.declared.faults.StreamFault.TheVariants.{Banner, Plain, Secure}
use Rattle.cx_rules.specs.cx_stream.proofs.SecureFronts.{secure_again, stream_keyed}
use Rattle.cx_link.specs.Refusing.{stream_refusal}
use Rattle.cx_link.specs.Sending.{opened_entry}
use Rattle.cx_link.specs.Turning.{RefusesSecure, TakesSecure}
use Rattle.cx_link.specs.Wires.{IsLive, SecureWire, secure_wire}
use Rattle.cx_link.specs.declared.refusals.LinkRefusal.{LinkRefusal}
use Rattle.cx_link.specs.declared.refusals.LinkRefusal.TheVariants.{Fault}

abbrev Read : Type 0
Read = Result (Option (Frame × ℕ)) SecureRefusal

abbrev Answer : Type 0
Answer = Result (Option Frame) SecureRefusal

wire : Ahead → Way → SecureWire
wire a out = record {
  keys = record { key = a.key; out = record { fixed = out.fixed; counter = out.counter }; into = record { fixed = a.fixed; counter = a.counter } };
  ahead = a.bytes;
}

front_of : (a : Ahead) (f : Frame) (n : ℕ) → IsKeyed a → IsSecureAt a f n → secure_frame_at a ≡ Ok (Some (f, n))
front_of a f n keyed is =
    let text : List ℕ = secure_text a.key a.fixed a.counter f in
    let len : length text ≡ n = ap length (sym is.text) ∙ length-take-le n a.bytes is.there in
    let bytes_are : a.bytes ≡ text ++ drop n a.bytes = sym (take-append-drop n a.bytes) ∙ ap (λ b. b ++ drop n a.bytes) is.text in
    secure_again a f (drop n a.bytes) keyed is.secure is.counters bytes_are ∙ ap (λ k. let r : Read = Ok (Some (f, k)) in r) len

-- what opened, as it is logged
logged : (s : Held) (key : List ℕ) (contents : List (List ℕ)) (before after : List SealEntry) → connection_key s.sealing ≡ key → contents ≡ [] ++ front_contents (ahead s)
    → after ≡ before ++ map (opened_entry key) contents → after ≡ before ++ opened_parts (ahead s)
logged s key contents before after same handed log =
    log ∙ ap (λ cs. before ++ map (opened_entry key) cs) handed ∙ ap (λ k. before ++ map (opened_entry k) (front_contents (ahead s))) (sym same)

pub takes_secure : (old new : Held) (key : List ℕ) (f : Frame) (contents : List (List ℕ)) (before after : List SealEntry) → IsLive key old
    → Passes (ahead old) (ahead new) f → new.sealing.out ≡ old.sealing.out → contents ≡ [] ++ front_contents (ahead old) → after ≡ before ++ map (opened_entry key) contents
    → TakesSecure (secure_wire old) (secure_wire new) f before after
unfolding wire
takes_secure old new key f contents before after live passes out handed log = record {
  len = passes.len;
  front = front_of (ahead old) f passes.len (stream_keyed old) passes.front;
  there = passes.front.there;
  behind = ap (λ (a : Ahead). wire a new.sealing.out) passes.behind ∙ ap (wire (behind_frame (ahead old) f passes.len)) out;
  opened = logged old key contents before after live.same handed log;
}

refused_at : (r : Read) (e : SecureRefusal) → frame_in r ≡ Err e → r ≡ Err e
refused_at (Ok (Some x)) e is = absurd cc
refused_at (Ok None) e is = absurd cc
refused_at (Err f) e is = let same : f ≡ e = cc in ap (λ (x : SecureRefusal). let r : Read = Err x in r) same

free_of : (kept : Option SecureRefusal) (answer : Answer) → kept ≡ None → unless_kept kept answer ≡ answer
free_of kept answer is = ap (λ (k : Option SecureRefusal). unless_kept k answer) is

why_is : (a b : BytesFault) → (let r : LinkRefusal = Fault a in r ≡ Fault b) → a ≡ b
why_is a b e = cc

refuses : (s : Held) (key : List ℕ) (e : SecureRefusal) (why : BytesFault) (contents : List (List ℕ)) (before after : List SealEntry) → IsLive key s
    → unless_kept s.sealing.kept (frame_in (secure_frame_at (ahead s))) ≡ Err e → why ≡ secure_fault e → contents ≡ [] ++ front_contents (ahead s)
    → after ≡ before ++ map (opened_entry key) contents → RefusesSecure (secure_wire s) why before after
refuses s key e why contents before after live is fault handed log = record {
  refusal = e;
  front = refused_at (secure_frame_at (ahead s)) e (sym (free_of s.sealing.kept (frame_in (secure_frame_at (ahead s))) live.free) ∙ is);
  fault = fault;
  opened = logged s key contents before after live.same handed log;
}

abbrev Given : Type 0
Given = Result (Option Frame) StreamFault

pub refuses_secure : (s : Held) (key : List ℕ) (fault : StreamFault) (why : BytesFault) (contents : List (List ℕ)) (before after : List SealEntry) → IsLive key s
    → (let r : Given = Err fault in AgreesSecure r (unless_kept s.sealing.kept (frame_in (secure_frame_at (ahead s)))))
    → (let r : Given = Err fault in s.sealing.kept ≡ None → (r ≡ Ok None → ⊥) → (r ≡ Err (Secure secure.OutOfMemory) → ⊥) → contents ≡ [] ++ front_contents (ahead s))
    → after ≡ before ++ map (opened_entry key) contents → Fault why ≡ stream_refusal fault → RefusesSecure (secure_wire s) why before after
refuses_secure s key (Banner e) why contents before after live agrees handed log is = absurd agrees
refuses_secure s key (Plain e) why contents before after live agrees handed log is = absurd agrees
refuses_secure s key (Secure secure.CounterSpent) why contents before after live agrees handed log is =
    refuses s key secure.CounterSpent why contents before after live agrees (why_is why _ is) (handed live.free (λ e. cc) (λ e. cc)) log
refuses_secure s key (Secure secure.BadTag) why contents before after live agrees handed log is =
    refuses s key secure.BadTag why contents before after live agrees (why_is why _ is) (handed live.free (λ e. cc) (λ e. cc)) log
refuses_secure s key (Secure secure.BadCrc) why contents before after live agrees handed log is =
    refuses s key secure.BadCrc why contents before after live agrees (why_is why _ is) (handed live.free (λ e. cc) (λ e. cc)) log
refuses_secure s key (Secure secure.BadShape) why contents before after live agrees handed log is =
    refuses s key secure.BadShape why contents before after live agrees (why_is why _ is) (handed live.free (λ e. cc) (λ e. cc)) log
refuses_secure s key (Secure (secure.TooLong n)) why contents before after live agrees handed log is =
    refuses s key (secure.TooLong n) why contents before after live agrees (why_is why _ is) (handed live.free (λ e. cc) (λ e. cc)) log
refuses_secure s key (Secure secure.Aborted) why contents before after live agrees handed log is =
    refuses s key secure.Aborted why contents before after live agrees (why_is why _ is) (handed live.free (λ e. cc) (λ e. cc)) log
refuses_secure s key (Secure secure.OutOfMemory) why contents before after live agrees handed log is = absurd cc
