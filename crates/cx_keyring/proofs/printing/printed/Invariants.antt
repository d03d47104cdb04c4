use Rattle.std.proofs.Common.{◌≡◌, ◌++◌, drop, take}
use Rattle.std.specs.List.{AllByRecursion}
use Rattle.cx_keyring.specs.Rings.{IsPrintable, printed_keyring}
use Rattle.cx_keyring.proofs.printing.printed.Given as goal

abbrev pub invariant-loop-entry : goal.invariant-loop-entry
invariant-loop-entry l = record {
  text : l.text ++ printed_keyring (drop l.entry-index l.entries) ≡ printed_keyring l.entries;
  good : AllByRecursion IsPrintable (take l.entry-index l.entries);
}
