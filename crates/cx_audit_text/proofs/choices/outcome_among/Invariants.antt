use Rattle.std.proofs.Common.{◌≡◌, drop}
use Rattle.cx_words.specs.lines.Choices.{chosen}
use Rattle.cx_journal.specs.Words.{outcome_word}
use Rattle.cx_audit_text.proofs.choices.outcome_among.Given as goal

abbrev pub invariant-loop-value : goal.invariant-loop-value
invariant-loop-value l = chosen outcome_word (drop l.value-index l.all) l.word ≡ chosen outcome_word l.all l.word
