-- No link so far is an open one to the daemon.
use Rattle.std.proofs.Common.{◌≡◌, drop}
use Rattle.cx_node.specs.cx_rules_session.specs.ClientRule.{first_call}
use Rattle.cx_client_events.proofs.scans.first_call.Given as goal

abbrev pub invariant-loop-place : goal.invariant-loop-place
invariant-loop-place l = first_call l.daemon (drop l.place l.links.links) ≡ first_call l.daemon l.links.links
