use Rattle.std.proofs.Common.{◌≡◌, ◌≤◌, ◌++◌, drop, length, sum}
use Rattle.cx_frame.specs.Frames.{segments_of}
use Rattle.cx_frame.proofs.reading.push_segments.Given as goal

abbrev pub invariant-loop-i : goal.invariant-loop-i
invariant-loop-i l = record {
  whole : l.segments ++ segments_of (drop l.i l.lengths) (drop l.i l.aligns) l.left ≡ l.initial.segments ++ segments_of l.lengths l.aligns l.fn.bytes;
  room : sum (drop l.i l.lengths) ≤ length l.left;
}
