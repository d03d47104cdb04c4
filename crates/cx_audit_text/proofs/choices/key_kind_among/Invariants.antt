use Rattle.std.proofs.Common.{◌≡◌, drop}
use Rattle.cx_words.specs.lines.Choices.{chosen}
use Rattle.cx_journal.specs.Words.{key_kind_word}
use Rattle.cx_audit_text.proofs.choices.key_kind_among.Given as goal

abbrev pub invariant-loop-value : goal.invariant-loop-value
invariant-loop-value l = chosen key_kind_word (drop l.value-index l.all) l.word ≡ chosen key_kind_word l.all l.word
