use Rattle.std.proofs.Common.{◌∙◌, sym}
use Rattle.cx_node.proofs.kinds.Scanning.{more_pass, one_fails}
use Rattle.cx_node.specs.cx_rules_session.specs.ClientRule.{is_at_rest}
use Rattle.cx_client_events.specs.linking.Kinds.{ClientLink}
use Rattle.cx_client_events.proofs.scans.are_at_rest.Goals as goal

pub returns-then-not-is_at_rest : goal.returns-then-not-is_at_rest
returns-then-not-is_at_rest c =
    sym (one_fails (λ (l : ClientLink). is_at_rest c.args.sessions.now.sessions l.stage) c.args.links.now.links c.loop-place.place c.in-Some.link.now c.in-Some.ensures
    (sym c.is_at_rest.ensures ∙ c.if-not-is_at_rest.true))

pub loop-place-preserved : goal.loop-place-preserved
loop-place-preserved c =
    more_pass (λ (l : ClientLink). is_at_rest c.args.sessions.now.sessions l.stage) c.args.links.now.links c.loop-place.place c.in-Some.link.now c.loop-place.invariant
    c.in-Some.ensures (sym c.is_at_rest.ensures ∙ c.if-not-is_at_rest.false)
