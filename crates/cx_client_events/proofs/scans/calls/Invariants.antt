-- None of the links so far is to the daemon.
use Rattle.std.proofs.Common.{◌≡◌, false, take}
use Rattle.std.specs.List.{list_any}
use Rattle.cx_node.specs.cx_rules_session.specs.ClientRule.{is_to}
use Rattle.cx_client_events.proofs.scans.calls.Given as goal

abbrev pub invariant-loop-place : goal.invariant-loop-place
invariant-loop-place l = list_any (λ link. is_to l.daemon link.stage) (take l.place l.links.links) ≡ false
