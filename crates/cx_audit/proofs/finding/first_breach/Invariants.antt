use Rattle.std.proofs.Common.{[], take}
use Rattle.cx_journal.specs.Behind.{EachBehind}
use Rattle.cx_audit.specs.ruled.Rules.{KeepsAll}
use Rattle.cx_audit.specs.ruled.Tests.{Knows}
use Rattle.cx_audit.proofs.finding.first_breach.Given as goal

abbrev pub invariant-loop-place : goal.invariant-loop-place
invariant-loop-place l = record {
  knows : Knows l.entries (take l.place l.entries) l.known;
  kept : EachBehind (KeepsAll l.entries) [] (take l.place l.entries);
}
