use Rattle.std.proofs.Common.{◌≡◌, ◌<◌, ◌∙◌, ap, arith, length, subst, sym, Result, Err}
use Rattle.cx_frame.specs.declared.frame.Segment.{Segment}
use Rattle.cx_journal.specs.declared.faults.BytesFault.{BytesFault}
use Rattle.cx_rules.specs.Secured.{SealedFrame, secure_frame}
use Rattle.cx_link.specs.Sending.{logged_behind}
use Rattle.cx_link.specs.Wires.{SecureWire}
use Rattle.cx_link.proofs.SealedFrames.{refuses_long}
use Rattle.cx_link.proofs.links.SecureLink.put_behind.Goals as goal

abbrev Sealed : Type 0
Sealed = Result SealedFrame BytesFault

pub returns-then-bytes-gt-MAX_SECURE : goal.returns-then-bytes-gt-MAX_SECURE
returns-then-bytes-gt-MAX_SECURE c =
    let same : c.bytes.result.now ≡ c.index-all-0.result.bytes = c.bytes.ensures ∙ ap (λ (s : Segment). s.bytes) (sym c.index-all-0.is) in
    let long : 1048576 < length c.index-all-0.result.bytes = omega (arith, c.if-bytes-gt-MAX_SECURE.true, ap length same) in
    subst (λ (w : SecureWire). logged_behind c.args.before (secure_frame w.keys c.args.frame.now) ≡ (let r : Sealed = Err c.long_fault.result in r)) c.self.view_is
    (refuses_long c.self.inside.stream.value c.args.frame.now c.all.result.now c.index-all-0.result c.args.before c.parts_left.result c.long_fault.result
    c.requires.one c.all.ensures c.index-all-0.is long (rw c.deref.ensures at c.parts_left.ensures) c.long_fault.ensures)
