use Rattle.std.proofs.Common.{sym, ◌∙◌, ◌<◌, length, arith}
use Rattle.std.proofs.lemmas.Bool.Decides.{nat_tests}
use Rattle.cx_words.proofs.FirstPlace.{take_rest}
use Rattle.cx_words.proofs.Pieces.{lines_cut, lines_last}
use Rattle.cx_words.proofs.cut.first_line.Goals as goal

pub returns-in-Some-clause-cut : goal.returns-in-Some-clause-cut
returns-in-Some-clause-cut c =
    rw (take_rest _ _) (lines_cut c.args.bytes.now c.in-Some.place (sym c.line_end.ensures.place ∙ c.in-Some.is))

pub returns-in-None-clause-cut : goal.returns-in-None-clause-cut
returns-in-None-clause-cut c =
    let some : 0 < length c.args.bytes.now = grind (arith, nat_tests, c.if-is_empty.false, c.is_empty.ensures) in
    rw (take_rest _ _) (lines_last c.args.bytes.now (sym c.line_end.ensures.place ∙ c.in-None.is) some)
