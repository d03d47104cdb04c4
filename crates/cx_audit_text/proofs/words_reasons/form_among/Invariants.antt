use Rattle.std.proofs.Common.{◌≡◌, drop}
use Rattle.cx_words.specs.lines.Choices.{chosen}
use Rattle.cx_audit_text.specs.words.Reasons.{reason_word}
use Rattle.cx_audit_text.proofs.words_reasons.form_among.Given as goal

abbrev pub invariant-loop-value : goal.invariant-loop-value
invariant-loop-value l = chosen reason_word (drop l.value-index l.all) l.word ≡ chosen reason_word l.all l.word
