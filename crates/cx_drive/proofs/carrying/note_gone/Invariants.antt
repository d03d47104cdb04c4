use Rattle.std.proofs.Common.{◌≡◌, ◌++◌, ◌+◌, take}
use Rattle.std.specs.VecDeque.{deque_len, deque_capacity}
use Rattle.cx_drive.specs.Steps.{gone_dues}
use Rattle.cx_drive.proofs.carrying.note_gone.Given as goal

abbrev pub invariant-loop-link : goal.invariant-loop-link
invariant-loop-link l =
    (l.dues.items ≡ l.fn.dues.items ++ gone_dues (take l.link-index l.gone))
    × (deque_len l.dues ≡ deque_len l.fn.dues + l.link-index) × (deque_capacity l.dues ≡ deque_capacity l.fn.dues)
