-- The links of the numbers so far are given up.
use Rattle.std.proofs.Common.{◌≡◌, take}
use Rattle.cx_node.proofs.kinds.Shutting.{left_by}
use Rattle.cx_client_events.proofs.scans.shut_all.Given as goal

abbrev pub invariant-loop-number : goal.invariant-loop-number
invariant-loop-number l = (l.links.links ≡ left_by (take l.number-index l.numbers) l.initial.links.links) × (l.links.room ≡ l.initial.links.room)
