-- A turn of a banner or of a stream of plain frames, as one of its link.
use Rattle.std.proofs.Common.{◌≡◌, ℕ, ◌+◌, List, [], ◌++◌, length, take, drop, Option, Some, None, Result, Ok, Err, refl, sym, ap, ◌∙◌, arith, append_assoc, length-append, zero-add}
use Rattle.std.proofs.lemmas.List.{take-append-drop, length-take-le, drop_at}
use Rattle.cx_frame.specs.Banners.{banner_at}
use Rattle.cx_frame.specs.Frames.{frame_text}
use Rattle.cx_frame.specs.declared.banner.Banner.{Banner}
use Rattle.cx_frame.specs.declared.frame.Frame.{Frame}
use Rattle.cx_frame.specs.declared.refusals.FrameRefusal.{FrameRefusal}
use Rattle.cx_frame.specs.declared.refusals.FrameRefusal.TheVariants as plain
use Rattle.cx_journal.specs.declared.faults.BytesFault.{BytesFault}
use Rattle.cx_rules.specs.Fronts.{plain_fault}
use Rattle.cx_rules.specs.cx_stream.specs.Fronts.{frame_in}
use Rattle.cx_rules.specs.cx_stream.specs.PlainStreams.{AgreesPlain, IsPlainAt, Stands, Takes, plain_frame_at}
use Rattle.cx_rules.specs.cx_stream.specs.Received.{Received}
use Rattle.cx_rules.specs.cx_stream.specs.declared.faults.StreamFault.{StreamFault}
use Rattle.cx_rules.specs.cx_stream.specs.declared.faults.StreamFault.TheVariants.{Banner as OfBanner, Plain, Secure}
use Rattle.cx_rules.specs.cx_stream.proofs.PlainFronts.{Read, plain_again}
use Rattle.cx_link.specs.Refusing.{stream_refusal}
use Rattle.cx_link.specs.Turning.{RefusesPlain, TakesBanner, TakesPlain}
use Rattle.cx_link.specs.Wires.{Wire, plain_wire}
use Rattle.cx_link.specs.declared.refusals.LinkRefusal.{LinkRefusal}
use Rattle.cx_link.specs.declared.refusals.LinkRefusal.TheVariants.{Fault}

wire : List ℕ → ℕ → List ℕ → Wire
wire received taken sent = record { received = received; taken = taken; sent = sent }

-- ---- the banner

pub takes_banner : (s : Received) (fed sent : List ℕ) (b : Banner) → banner_at fed ≡ Ok (Some (b, length s.taken)) → Stands s fed []
    → TakesBanner (record { received = fed; taken = 0; sent = sent }) (plain_wire s sent)
unfolding wire
takes_banner s fed sent b front stands = record {
  peer = b;
  len = length s.taken;
  front = front;
  there = omega (arith, ap length stands.whole, length-append s.taken s.rest);
  behind = ap (λ r. wire r (length s.taken) sent) (sym stands.whole) ∙ ap (λ n. wire fed n sent) (sym (zero-add (length s.taken)));
}

-- ---- plain frames

front_of : (rest : List ℕ) (f : Frame) (n : ℕ) → IsPlainAt rest f n → plain_frame_at rest ≡ Ok (Some (f, n))
front_of rest f n is =
    let len : length (frame_text f) ≡ n = ap length (sym is.text) ∙ length-take-le n rest is.there in
    let bytes_are : rest ≡ frame_text f ++ drop n rest = sym (take-append-drop n rest) ∙ ap (λ b. b ++ drop n rest) is.text in
    ap plain_frame_at bytes_are ∙ plain_again f (drop n rest) is.plain ∙ ap (λ k. let r : Read = Ok (Some (f, k)) in r) len

pub takes_plain : (old new : Received) (sent : List ℕ) (f : Frame) → Takes old new f → TakesPlain (plain_wire old sent) (plain_wire new sent) f
unfolding wire
takes_plain old new sent f t =
    let n : ℕ = t.len in
    let same : new.taken ++ new.rest ≡ old.taken ++ old.rest =
    ap (λ b. b ++ new.rest) t.taken ∙ ap (λ b. (old.taken ++ take n old.rest) ++ b) t.rest ∙ append_assoc old.taken (take n old.rest) (drop n old.rest)
    ∙ ap (λ b. old.taken ++ b) (take-append-drop n old.rest)
    in
    let len : length new.taken ≡ length old.taken + n =
    ap length t.taken ∙ length-append old.taken (take n old.rest) ∙ ap (λ k. length old.taken + k) (length-take-le n old.rest t.front.there)
    in
    record {
      len = n;
      front = ap plain_frame_at (drop_at old.taken old.rest (length old.taken) refl) ∙ front_of old.rest f n t.front;
      there = omega (arith, length-append old.taken old.rest, t.front.there);
      behind = ap (λ r. wire r (length new.taken) sent) same ∙ ap (λ k. wire (old.taken ++ old.rest) k sent) len;
    }

refused_at : (r : Read) (e : FrameRefusal) → frame_in r ≡ Err e → r ≡ Err e
refused_at (Ok (Some x)) e is = absurd cc
refused_at (Ok None) e is = absurd cc
refused_at (Err f) e is = let same : f ≡ e = cc in ap (λ (x : FrameRefusal). let r : Read = Err x in r) same

why_is : (a b : BytesFault) → (let r : LinkRefusal = Fault a in r ≡ Fault b) → a ≡ b
why_is a b e = cc

behind_taken : (s : Received) → drop (length s.taken) (s.taken ++ s.rest) ≡ s.rest
behind_taken s = drop_at s.taken s.rest (length s.taken) refl

refuses : (s : Received) (sent : List ℕ) (e : FrameRefusal) (why : BytesFault) → frame_in (plain_frame_at s.rest) ≡ Err e → why ≡ plain_fault e → RefusesPlain (plain_wire s sent) why
refuses s sent e why is fault = record { refusal = e; front = ap plain_frame_at (behind_taken s) ∙ refused_at (plain_frame_at s.rest) e is; fault = fault }

pub refuses_plain : (s : Received) (sent : List ℕ) (fault : StreamFault) (why : BytesFault)
    → (let r : Result (Option Frame) StreamFault = Err fault in AgreesPlain r (frame_in (plain_frame_at s.rest))) → Fault why ≡ stream_refusal fault → RefusesPlain (plain_wire s sent) why
refuses_plain s sent (OfBanner e) why agrees is = absurd agrees
refuses_plain s sent (Plain plain.BadCrc) why agrees is = refuses s sent plain.BadCrc why agrees (why_is why _ is)
refuses_plain s sent (Plain plain.BadShape) why agrees is = refuses s sent plain.BadShape why agrees (why_is why _ is)
refuses_plain s sent (Plain (plain.TooLong n)) why agrees is = refuses s sent (plain.TooLong n) why agrees (why_is why _ is)
refuses_plain s sent (Plain plain.Aborted) why agrees is = refuses s sent plain.Aborted why agrees (why_is why _ is)
refuses_plain s sent (Plain plain.OutOfMemory) why agrees is = absurd cc
refuses_plain s sent (Secure e) why agrees is = absurd agrees
