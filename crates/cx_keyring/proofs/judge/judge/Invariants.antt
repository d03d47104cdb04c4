use Rattle.std.proofs.Common.{◌≡◌, take, drop, []}
use Rattle.cx_keyring.specs.Faults.{first_bad}
use Rattle.cx_keyring.specs.Judged.{Judges}
use Rattle.cx_keyring.proofs.judge.judge.Given as goal

abbrev pub invariant-loop-i : goal.invariant-loop-i
invariant-loop-i l = record {
  judges : Judges l.judged (take l.i l.lines);
  same : first_bad [] l.lines ≡ first_bad (take l.i l.lines) (drop l.i l.lines);
}
