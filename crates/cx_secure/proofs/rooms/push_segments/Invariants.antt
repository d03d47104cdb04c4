use Rattle.std.proofs.Common.{◌≡◌, ◌≤◌, ◌++◌, drop, length, sum_by}
use Rattle.cx_secure.specs.Plains.{cut_of, up16}
use Rattle.cx_secure.proofs.rooms.push_segments.Given as goal

abbrev pub invariant-loop-i : goal.invariant-loop-i
invariant-loop-i l = record {
  whole : l.segments ++ cut_of (drop l.i l.lengths) (drop l.i l.aligns) l.left ≡ l.initial.segments ++ cut_of l.lengths l.aligns l.fn.bytes;
  room : sum_by up16 (drop l.i l.lengths) ≤ length l.left;
}
