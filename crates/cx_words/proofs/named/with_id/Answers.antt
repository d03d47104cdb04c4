use Rattle.cx_words.proofs.NameWords.{not_ascii}
use Rattle.cx_words.proofs.named.with_id.Goals as goal

pub returns-in-Err-NotAscii : goal.returns-in-Err-NotAscii
returns-in-Err-NotAscii c =
    rw c.in-Some.is (not_ascii c.args.id.now c.in-Some.kind c.in-Err-NotAscii.field-0-0 (rw c.in-Err-NotAscii.field-0-is at c.in-Err-NotAscii.ensures.err))
