use Rattle.std.proofs.Common.{◌≡◌, ◌≤◌, ◌*◌, ◌+◌, ◌^◌, take, sum_by}
use Rattle.cx_secure.specs.Plains.{up16}
use Rattle.cx_secure.proofs.rooms.sum_of_rooms.Given as goal

abbrev pub invariant-loop-n : goal.invariant-loop-n
invariant-loop-n l = record { sum : l.sum ≡ sum_by up16 (take l.n-index l.lengths); few : l.sum ≤ l.n-index * (2 ^ 32 + 15) }
