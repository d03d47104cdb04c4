use Rattle.std.proofs.Common.{drop}
use Rattle.std.specs.List.{AllByRecursion}
use Rattle.cx_journal.specs.declared.entries.Entry.{Entry}
use Rattle.cx_audit_text.specs.lines.Lines.{entry_items}
use Rattle.cx_laws_text.specs.printed.Tellable.{AreOfTypes, IsOfType}
use Rattle.cx_laws_text.proofs.types.have_types.Given as goal

abbrev pub invariant-loop-i : goal.invariant-loop-i
invariant-loop-i l = record {
  so_far : AllByRecursion (λ (e : Entry). AllByRecursion IsOfType (entry_items e)) (drop l.i l.entries) → AreOfTypes l.entries;
}
