-- The text of what a line says: its words, each two parted by one blank.
use Rattle.std.specs.Prelude.{ℕ, ◌∷◌, List, map}
use Rattle.std.specs.List.{join_with_byte}
use Rattle.cx_audit_text.specs.words.Choices.{head_word}
use Rattle.cx_audit_text.specs.words.Items.{item_word}
use Rattle.cx_audit_text.specs.lines.Lines.{line_head, line_items}
use Rattle.cx_audit_text.specs.declared.entries.JournalLine.{JournalLine}

-- without its LF: the word of its kind, and the printed forms of its values
abbrev pub said_text : JournalLine → List ℕ
said_text said = join_with_byte 32 (head_word (line_head said) ∷ map item_word (line_items said))
