use Rattle.std.proofs.Common.{◌≡◌, ◌∙◌, ap, subst}
use Rattle.cx_rules.specs.cx_stream.specs.Held.{Held}
use Rattle.cx_link.specs.Wires.{Wire, ahead_in, keys_of_side, secure_wire}
use Rattle.cx_link.proofs.Securing.{secures}
use Rattle.cx_link.proofs.links.PlainLink.secured.Goals as goal

pub returns-clause-link : goal.returns-clause-link
returns-clause-link c =
    subst (λ (w : Wire). secure_wire c.in_ok-stream.stream.value ≡ record { keys = keys_of_side c.args.connector c.args.secret.now; ahead = ahead_in w }) c.self.view_is
    (ap (λ (s : Held). secure_wire s) (c.in_ok-stream.ensures.ok ∙ c.secure.ensures) ∙ secures c.self.inside.stream c.self.inside.sent c.args.secret.now c.args.connector c.new.result c.new.ensures)
