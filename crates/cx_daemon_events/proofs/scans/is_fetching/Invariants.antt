-- A fetch is under way on none of the links so far.
use Rattle.std.proofs.Common.{◌≡◌, false, take}
use Rattle.std.specs.List.{list_any}
use Rattle.cx_verifying.specs.cx_rules_session.specs.DaemonRule.{is_for_fetch}
use Rattle.cx_daemon_events.proofs.scans.is_fetching.Given as goal

abbrev pub invariant-loop-place : goal.invariant-loop-place
invariant-loop-place l = list_any (λ link. is_for_fetch link.stage) (take l.place l.links.links) ≡ false
