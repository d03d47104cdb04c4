-- The first wrong one of the words that are left is the first of all.
use Rattle.std.proofs.Common.{◌≡◌, drop}
use Rattle.cx_help.specs.command.Wrong.{wrong_seen}
use Rattle.cx_help.proofs.command_wrong.wrong_seen.Given as goal

abbrev pub invariant-loop-word : goal.invariant-loop-word
invariant-loop-word l = record {
  first : wrong_seen l.form l.number (drop l.word-index l.values) ≡ wrong_seen l.form 0 l.values;
  count : l.number ≡ l.word-index;
}
