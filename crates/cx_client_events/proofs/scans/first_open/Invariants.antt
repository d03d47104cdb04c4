-- No link so far is an open one to the monitor.
use Rattle.std.proofs.Common.{◌≡◌, drop}
use Rattle.cx_node.specs.cx_rules.specs.Requests.{first_open}
use Rattle.cx_node.specs.cx_rules_session.specs.ClientRule.{asking_open}
use Rattle.cx_client_events.proofs.scans.first_open.Given as goal

abbrev pub invariant-loop-place : goal.invariant-loop-place
invariant-loop-place l = first_open asking_open (drop l.place l.links.links) ≡ first_open asking_open l.links.links
