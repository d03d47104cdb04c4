use Rattle.std.proofs.Common.{◌≡◌, drop}
use Rattle.cx_premises.specs.Findings.{first_of}
use Rattle.cx_premises.proofs.findings.Findings.first.Given as goal

abbrev pub invariant-loop-suspect : goal.invariant-loop-suspect
invariant-loop-suspect l = first_of l.kept (drop l.suspect-index l.self.suspects) l.self.breach ≡ first_of l.kept l.self.suspects l.self.breach
