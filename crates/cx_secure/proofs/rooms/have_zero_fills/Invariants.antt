use Rattle.std.proofs.Common.{◌≡◌, ◌≤◌, drop, length, sum_by}
use Rattle.cx_secure.specs.Plains.{have_zero_fills, up16}
use Rattle.cx_secure.proofs.rooms.have_zero_fills.Given as goal

abbrev pub invariant-loop-n : goal.invariant-loop-n
invariant-loop-n l = record {
  whole : have_zero_fills (drop l.n-index l.lengths) l.left ≡ have_zero_fills l.lengths l.fn.bytes;
  room : sum_by up16 (drop l.n-index l.lengths) ≤ length l.left;
}
