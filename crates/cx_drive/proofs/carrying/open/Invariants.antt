use Rattle.std.proofs.Common.{◌≡◌, ◌≤◌, ◌+◌, ◌++◌, List}
use Rattle.std.specs.VecDeque.{deque_len, deque_capacity}
use Rattle.cx_drive.specs.Stops.{Opens}
use Rattle.cx_steps.specs.declared.events.Peer.{Peer}
use Rattle.cx_drive.proofs.carrying.open.Given as goal

abbrev pub invariant-loop-peer : goal.invariant-loop-peer
invariant-loop-peer g l =
    ((done : List Peer) × (done ++ l.asked.items ≡ l.fn.asked.items) × Opens g.S.Site.follows l.peers done l.fn.site l.site l.fn.dues.items l.dues.items)
    × (deque_len l.dues + deque_len l.asked ≤ deque_capacity l.dues)

abbrev pub decreases-loop-peer : goal.decreases-loop-peer
decreases-loop-peer g l = deque_len l.asked
