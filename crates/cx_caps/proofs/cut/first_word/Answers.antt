use Rattle.std.proofs.Common.{◌<◌, ◌-◌, length, take, drop, sym, ◌∙◌, arith}
use Rattle.std.proofs.lemmas.Bool.Decides.{nat_tests, Decides-eqb}
use Rattle.cx_caps.proofs.Words.{cut_words, no_words}
use Rattle.cx_caps.proofs.cut.first_word.Goals as goal

pub returns-then-is_empty-clause-cut : goal.returns-then-is_empty-clause-cut
returns-then-is_empty-clause-cut c =
    no_words c.args.clause.now c.spaces.result c.spaces.ensures.value
    ((Decides-eqb _ 0).0 (sym c.is_empty.ensures ∙ c.if-is_empty.true))

pub returns-clause-cut : goal.returns-clause-cut
returns-clause-cut c =
    let some : 0 < length (take (length c.args.clause.now - c.spaces.result) (drop c.spaces.result c.args.clause.now)) =
    grind (arith, nat_tests, c.is_empty.ensures, c.if-is_empty.false) in
    cut_words c.args.clause.now c.spaces.result c.word_len.result c.split_at.result.0.now c.split_at.result.1.now c.spaces.ensures.value
    c.word_len.ensures.value some c.split_at.ensures.front c.split_at.ensures.back
