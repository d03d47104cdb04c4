use Rattle.std.proofs.Common.{◌≡◌, ◌≤◌, length, take}
use Rattle.std.specs.VecDeque.{deque_len, deque_capacity}
use Rattle.cx_drive.proofs.carrying.copies.Given as goal

abbrev pub invariant-loop-peer : goal.invariant-loop-peer
invariant-loop-peer l =
    (l.copied.items ≡ take l.peer-index l.peers) × (deque_len l.copied ≡ l.peer-index) × (length l.peers ≤ deque_capacity l.copied)
