-- Nothing is waited for on the links so far.
use Rattle.std.proofs.Common.{◌≡◌, true, take}
use Rattle.std.specs.List.{list_all}
use Rattle.cx_node.specs.cx_rules_session.specs.ClientRule.{is_at_rest}
use Rattle.cx_client_events.proofs.scans.are_at_rest.Given as goal

abbrev pub invariant-loop-place : goal.invariant-loop-place
invariant-loop-place l = list_all (λ link. is_at_rest l.sessions.sessions link.stage) (take l.place l.links.links) ≡ true
