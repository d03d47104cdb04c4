use Rattle.std.proofs.Common.{◌∙◌, sym}
use Rattle.cx_verifying.specs.cx_rules_session.specs.DaemonRule.{is_for_fetch}
use Rattle.cx_daemon_events.specs.Kinds.{DaemonLink}
use Rattle.cx_daemon_events.proofs.Scanning.{none_more, one_passes}
use Rattle.cx_daemon_events.proofs.scans.is_fetching.Goals as goal

pub returns-then-is_for_fetch : goal.returns-then-is_for_fetch
returns-then-is_for_fetch c =
    sym (one_passes (λ (l : DaemonLink). is_for_fetch l.stage) c.args.links.now.links c.loop-place.place c.in-Some.link.now c.in-Some.ensures
    (sym c.is_for_fetch.ensures ∙ c.if-is_for_fetch.true))

pub loop-place-preserved : goal.loop-place-preserved
loop-place-preserved c =
    none_more (λ (l : DaemonLink). is_for_fetch l.stage) c.args.links.now.links c.loop-place.place c.in-Some.link.now c.loop-place.invariant
    c.in-Some.ensures (sym c.is_for_fetch.ensures ∙ c.if-is_for_fetch.false)
