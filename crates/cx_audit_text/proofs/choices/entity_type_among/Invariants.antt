use Rattle.std.proofs.Common.{◌≡◌, drop}
use Rattle.cx_words.specs.lines.Choices.{chosen}
use Rattle.cx_base.specs.Names.{type_word}
use Rattle.cx_audit_text.proofs.choices.entity_type_among.Given as goal

abbrev pub invariant-loop-value : goal.invariant-loop-value
invariant-loop-value l = chosen type_word (drop l.value-index l.all) l.word ≡ chosen type_word l.all l.word
