use Rattle.std.proofs.Common.{subst}
use Rattle.cx_link.specs.Turning.{RefusesPlain, TakesPlain}
use Rattle.cx_link.specs.Wires.{Wire, plain_wire}
use Rattle.cx_link.proofs.PlainTurns.{refuses_plain, takes_plain}
use Rattle.cx_link.proofs.links.PlainLink.turn.Goals as goal

pub returns-in-Ok-Some : goal.returns-in-Ok-Some
returns-in-Ok-Some c =
    let taken = rw c.in-Ok-Some.field-0-is at c.in-Ok-Some.ensures.taken in
    subst (λ (w : Wire). TakesPlain w (plain_wire c.turn.new.self c.self.inside.sent) c.in-Ok-Some.frame) c.self.view_is
    (takes_plain c.self.inside.stream c.turn.new.self c.self.inside.sent c.in-Ok-Some.frame taken)

pub returns-in-Fault : goal.returns-in-Fault
returns-in-Fault c =
    subst (λ (w : Wire). RefusesPlain w c.in-Fault.why) c.self.view_is
    (refuses_plain c.self.inside.stream c.self.inside.sent c.in-Err.fault c.in-Fault.why c.in-Err.ensures.exact c.in-Fault.ensures)
