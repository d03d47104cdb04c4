use Rattle.std.proofs.Common.{rules, sym, ◌∙◌}
use Rattle.cx_words.specs.Words.{name_of}
use Rattle.cx_words.proofs.NameWords.{name_spelled, point_name}
use Rattle.cx_words.proofs.named.name.Goals as goal

pub returns-in-Some-clause-read : goal.returns-in-Some-clause-read
returns-in-Some-clause-read c =
    point_name c.args.word.now c.in-Some.place c.type_of.result c.with_id.result (sym c.point.ensures.place ∙ c.in-Some.is) c.type_of.ensures c.with_id.ensures

pub returns-in-Some-clause-spelled : goal.returns-in-Some-clause-spelled
returns-in-Some-clause-spelled c = name_spelled c.args.word.now c.with_id.result (returns-in-Some-clause-read c)

pub returns-in-None-clause-read : goal.returns-in-None-clause-read
unfolding name_of
returns-in-None-clause-read c = search rules
