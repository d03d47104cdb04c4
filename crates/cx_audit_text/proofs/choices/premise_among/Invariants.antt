use Rattle.std.proofs.Common.{◌≡◌, drop}
use Rattle.cx_words.specs.lines.Choices.{chosen}
use Rattle.cx_journal.specs.Words.{premise_word}
use Rattle.cx_audit_text.proofs.choices.premise_among.Given as goal

abbrev pub invariant-loop-value : goal.invariant-loop-value
invariant-loop-value l = chosen premise_word (drop l.value-index l.all) l.word ≡ chosen premise_word l.all l.word
