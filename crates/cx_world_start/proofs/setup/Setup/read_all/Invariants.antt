use Rattle.std.proofs.Common.{◌≡◌, ◌+◌, ◌≤◌, length, drop}
use Rattle.cx_run.specs.Opening.{set_up}
use Rattle.cx_run.specs.Runs.{setup_of}
use Rattle.cx_world_start.specs.head.Beginning.{unhandled}
use Rattle.cx_world_start.proofs.head.Following.{AllFollow}
use Rattle.cx_world_start.proofs.setup.Setup.read_all.Given as goal

abbrev pub invariant-loop-line : goal.invariant-loop-line
invariant-loop-line l = record {
  read : set_up l.setup (drop l.line-index l.lines) ≡ setup_of unhandled l.lines;
  follow : AllFollow l.setup (drop l.line-index l.lines);
  few : length l.setup.entities + length (drop l.line-index l.lines) ≤ 20000;
}
