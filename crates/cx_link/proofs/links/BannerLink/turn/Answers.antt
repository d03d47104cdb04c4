use Rattle.std.proofs.Common.{subst}
use Rattle.cx_link.specs.Turning.{TakesBanner}
use Rattle.cx_link.specs.Wires.{Wire, plain_wire}
use Rattle.cx_link.proofs.PlainTurns.{takes_banner}
use Rattle.cx_link.proofs.links.BannerLink.turn.Goals as goal

pub returns-in-Done : goal.returns-in-Done
returns-in-Done c =
    let sent = c.self.inside.sent in
    subst (λ (w : Wire). TakesBanner w (plain_wire c.in-Done.stream sent)) c.self.view_is
    (takes_banner c.in-Done.stream c.self.inside.stream sent c.in-Done.field-0 c.in-Done.ensures.0 c.in-Done.ensures.1)
