use Rattle.std.proofs.Common.{◌≡◌, ◌++◌, take}
use Rattle.std.specs.List.{flat_map}
use Rattle.cx_frame.specs.Frames.{bytes_of}
use Rattle.cx_frame.proofs.plain.put_bodies.Given as goal

abbrev pub invariant-loop-segment : goal.invariant-loop-segment
invariant-loop-segment l = l.into ≡ l.initial.into ++ flat_map bytes_of (take l.segment-index l.others)
