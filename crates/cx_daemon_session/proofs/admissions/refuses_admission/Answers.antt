-- The link is refused behind the drawn cookie.
use Rattle.std.proofs.Common.{◌≡◌, ◌∷◌, [], refl}
use Rattle.cx_node.specs.cx_rules.specs.Rows.{refuses}
use Rattle.cx_daemon_session.specs.cx_rules_session.specs.IncomingLinks.{IncomingArrival}
use Rattle.cx_daemon_session.specs.cx_rules_session.specs.Hosting.{cookie_drawn}
use Rattle.cx_daemon_session.specs.cx_verifying.specs.Rows.{arrived}
use Rattle.cx_daemon_session.specs.cx_verifying.specs.Stages.{IncomingLink}
use Rattle.cx_daemon_session.proofs.admissions.refuses_admission.Goals as goal

pub returns : goal.returns
returns c = λ (link : IncomingLink) (e : link.number ≡ c.args.at.now.number).
    let a : IncomingArrival = arrived c.args.mon_client.now c.args.at.now link in
    c.come.ensures link (refuses a c.args.why (cookie_drawn a ∷ [])) e (record {
      row = rw (c.keeping.ensures, c.in_ok-row.ensures, c.in_ok-me.ensures, c.in_ok-drawn.ensures c.args.mon_client.now link, e) refl;
      number_is = rw (c.keeping.ensures, c.in_ok-row.ensures) tt;
    })
