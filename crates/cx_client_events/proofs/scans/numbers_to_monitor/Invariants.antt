-- The numbers of those so far.
use Rattle.std.proofs.Common.{◌≡◌, map, take}
use Rattle.std.specs.Prelude.{filter}
use Rattle.cx_node.specs.cx_rules_session.specs.ClientRule.{is_to_monitor}
use Rattle.cx_client_events.proofs.scans.numbers_to_monitor.Given as goal

abbrev pub invariant-loop-place : goal.invariant-loop-place
invariant-loop-place l = l.numbers ≡ map (λ link. link.number) (filter (λ link. is_to_monitor link.stage) (take l.place l.links.links))
