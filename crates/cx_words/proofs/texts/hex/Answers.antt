use Rattle.std.proofs.Common.{sym, ◌∙◌}
use Rattle.cx_words.proofs.HexWords.{hex_read, hex_spelled}
use Rattle.cx_words.proofs.texts.hex.Goals as goal

pub returns-in-Ok-clause-read : goal.returns-in-Ok-clause-read
returns-in-Ok-clause-read c =
    hex_read c.args.word.now c.in-Ok.bytes.items c.some_bytes.result (sym c.is_word.ensures.same ∙ c.if-is_word.false) c.in-Ok.ensures.ok
    (rw c.as_slice.ensures.value at c.some_bytes.ensures)

pub returns-in-Ok-clause-spelled : goal.returns-in-Ok-clause-spelled
returns-in-Ok-clause-spelled c = hex_spelled c.args.word.now c.some_bytes.result (returns-in-Ok-clause-read c)
