use Rattle.std.proofs.Common.{◌++◌, List, ℕ, ap, ◌∙◌, subst}
use Rattle.cx_rules.specs.cx_stream.specs.Openings.{front_contents}
use Rattle.cx_rules.specs.cx_stream.specs.SecureStreams.{ahead}
use Rattle.cx_link.specs.Turning.{RefusesSecure, TakesSecure}
use Rattle.cx_link.specs.Wires.{SecureWire, secure_wire}
use Rattle.cx_link.proofs.SecureTurns.{refuses_secure, takes_secure}
use Rattle.cx_link.proofs.links.SecureLink.turn.Goals as goal

pub returns-in-Ok-Some : goal.returns-in-Ok-Some
returns-in-Ok-Some c =
    let key : List ℕ = c.self.inside.key in
    let held = c.deref_mut.ensures.value in
    let passes = rw (c.in-Ok-Some.field-0-is, held) at c.in-Ok-Some.ensures.passes in
    let handed = rw (c.in-Ok-Some.field-0-is, held) at c.in-Ok-Some.ensures.opened in
    let out = rw held at c.in-Ok-Some.ensures.out in
    subst (λ (w : SecureWire). TakesSecure w (secure_wire c.turn.new.self) c.in-Ok-Some.frame c.args.seals.now c.log_opened.new.seals) c.self.view_is
    (takes_secure c.self.inside.stream.value c.turn.new.self key c.in-Ok-Some.frame c.turn.new.opened c.args.seals.now c.log_opened.new.seals c.self.invariant passes out
    (handed c.self.invariant.free (λ e. cc) (λ e. cc) ∙ ap (λ (cs : List (List ℕ)). cs ++ front_contents (ahead c.self.inside.stream.value)) c.new-contents.ensures)
    c.in_ok-log_opened-in-Ok-Some.ensures)

pub returns-in-Fault : goal.returns-in-Fault
returns-in-Fault c =
    let key : List ℕ = c.self.inside.key in
    let held = c.deref_mut.ensures.value in
    let exact = rw held at c.in-Err.ensures.exact in
    let opened = rw held at c.in-Err.ensures.opened in
    subst (λ (w : SecureWire). RefusesSecure w c.in-Fault.why c.args.seals.now c.log_opened-in-Fault.new.seals) c.self.view_is
    (refuses_secure c.self.inside.stream.value key c.in-Err.fault c.in-Fault.why c.turn.new.opened c.args.seals.now c.log_opened-in-Fault.new.seals c.self.invariant exact
    (λ free some not. opened free some not ∙ ap (λ (cs : List (List ℕ)). cs ++ front_contents (ahead c.self.inside.stream.value)) c.new-contents.ensures)
    c.in_ok-log_opened-in-Fault.ensures
    c.in-Fault.ensures)
