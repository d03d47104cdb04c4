use Rattle.std.proofs.Common.{◌≡◌, ◌+◌, ◌++◌, drop}
use Rattle.std.specs.List.{filter_map}
use Rattle.cx_audit.specs.Verdicts.{entry_numbers, entry_of}
use Rattle.cx_audit.proofs.audits.entries_in.Given as goal

abbrev pub invariant-loop-i : goal.invariant-loop-i
invariant-loop-i l = record {
  entries : l.entries.items ++ filter_map entry_of (drop l.i l.said) ≡ filter_map entry_of l.said;
  numbers : l.numbers.items ++ entry_numbers (l.i + 1) (drop l.i l.said) ≡ entry_numbers 1 l.said;
}
