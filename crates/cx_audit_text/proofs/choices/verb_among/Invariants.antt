use Rattle.std.proofs.Common.{◌≡◌, drop}
use Rattle.cx_words.specs.lines.Choices.{chosen}
use Rattle.cx_audit_text.specs.words.Choices.{verb_word}
use Rattle.cx_audit_text.proofs.choices.verb_among.Given as goal

abbrev pub invariant-loop-value : goal.invariant-loop-value
invariant-loop-value l = chosen verb_word (drop l.value-index l.all) l.word ≡ chosen verb_word l.all l.word
