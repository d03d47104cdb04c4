-- What was read so far is what the source gave, at most one byte more than the limit.
use Rattle.std.proofs.Common.{◌≤◌, ◌≡◌, ◌-◌, length, vec_len}
use Rattle.cx_top.specs.Replays.{Gave}
use Rattle.cx_top.proofs.input.read_all.Given as goal

abbrev pub invariant-read : goal.invariant-read
invariant-read g l = record {
  gave : Gave (g.I.Source.left l.fn.input) (g.I.Source.left l.input) l.all;
  few : length l.all ≤ 1048577;
  room : vec_len l.chunk ≡ 65536;
  later : g.I.Source.faults l.fn.input ≤ g.I.Source.faults l.input;
}

abbrev pub decreases-read : goal.decreases-read
decreases-read g l = 1048577 - length l.all
