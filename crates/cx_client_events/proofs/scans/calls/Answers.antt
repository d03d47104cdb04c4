use Rattle.std.proofs.Common.{◌∙◌, sym}
use Rattle.cx_node.proofs.kinds.Scanning.{none_more, one_passes}
use Rattle.cx_node.specs.cx_rules_session.specs.ClientRule.{is_to}
use Rattle.cx_client_events.specs.linking.Kinds.{ClientLink}
use Rattle.cx_client_events.proofs.scans.calls.Goals as goal

pub returns-then-is_to : goal.returns-then-is_to
returns-then-is_to c =
    sym (one_passes (λ (l : ClientLink). is_to c.args.daemon.now l.stage) c.args.links.now.links c.loop-place.place c.in-Some.link.now c.in-Some.ensures
    (sym c.is_to.ensures ∙ c.if-is_to.true))

pub loop-place-preserved : goal.loop-place-preserved
loop-place-preserved c =
    none_more (λ (l : ClientLink). is_to c.args.daemon.now l.stage) c.args.links.now.links c.loop-place.place c.in-Some.link.now c.loop-place.invariant
    c.in-Some.ensures (sym c.is_to.ensures ∙ c.if-is_to.false)
