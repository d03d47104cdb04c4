-- The tickets can be handed out, and what is decided of them is what the rules decide.
use Rattle.std.proofs.Common.{List, refl, sym, ap, ◌∙◌}
use Rattle.cx_base.specs.declared.kinds.EntityType.{EntityType}
use Rattle.cx_keyserver.specs.Issuing.{Asked}
use Rattle.cx_rules.specs.Tickets.{issued_for}
use Rattle.cx_rules.specs.Verdicts.{decided}
use Rattle.cx_rules.specs.declared.verdicts.HandedOut.{HandedOut}
use Rattle.cx_rules.specs.declared.verdicts.Verdict.TheVariants.{Denied, Granted}
use Rattle.cx_mon_grants.specs.Occasions.{asking_by}
use Rattle.cx_mon_grants.proofs.Ordered.{can_be_handed_out}
use Rattle.cx_mon_grants.proofs.Steps.{issued_decides}
use Rattle.cx_mon_grants.proofs.logins.issues_to.Goals as goal

pub handed_out-requires-clause-tickets : goal.handed_out-requires-clause-tickets
handed_out-requires-clause-tickets c =
    let e = c.args.entrant.now in
    let ask : EntityType → Asked = asking_by e in
    let issued = sym c.in-Ok.is ∙ c.in_ok-tickets.ensures.issued ∙ ap (λ (services : List EntityType). issued_for c.args.server.now ask services) (c.all.ensures ∙ c.in_ok-services.ensures) in
    let whole = rw c.in-Ok.is at c.in_ok-tickets.ensures.whole in
    can_be_handed_out c.args.server.now e e.asked c.in-Ok.tickets (sym issued) whole

pub returns-in-Err-clause-decides : goal.returns-in-Err-clause-decides
returns-in-Err-clause-decides c =
    issued_decides c.args.entrant.now c.args.server.now c.issued_for.new.server c.args.seals _ c.in-Some.own _ _ (Denied c.in-Err.why c.args.seals)
    c.requires.session (sym c.key_of.ensures ∙ c.in-Some.is) (c.all.ensures ∙ c.in_ok-services.ensures) (sym c.in-Err.is ∙ c.in_ok-tickets.ensures.issued)
    c.issued_for.ensures.server refl

pub returns-clause-decides : goal.returns-clause-decides
returns-clause-decides c =
    issued_decides c.args.entrant.now c.args.server.now c.issued_for.new.server c.args.seals _ c.in-Some.own _ _ (Granted c.in_ok-handed-in-Ok.handed)
    c.requires.session (sym c.key_of.ensures ∙ c.in-Some.is) (c.all.ensures ∙ c.in_ok-services.ensures) (sym c.in-Ok.is ∙ c.in_ok-tickets.ensures.issued)
    c.issued_for.ensures.server
    (ap (λ (h : HandedOut). decided c.args.server.now (Granted h)) (sym (rw c.issued_for.ensures.server at c.in_ok-handed-in-Ok.ensures)))
