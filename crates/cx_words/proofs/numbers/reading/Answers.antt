use Rattle.std.proofs.Common.{rules, sym, ◌∙◌}
use Rattle.cx_words.specs.Words.{reading_of}
use Rattle.cx_words.proofs.NumberWords.{point_read, reading_bound, reading_spelled}
use Rattle.cx_words.proofs.numbers.reading.Goals as goal

pub returns-in-Some-clause-read : goal.returns-in-Some-clause-read
returns-in-Some-clause-read c =
    point_read c.args.word.now c.in-Some.place c.number.result c.with_nine.result (sym c.point.ensures.place ∙ c.in-Some.is) c.number.ensures.read c.with_nine.ensures

pub returns-in-Some-clause-spelled : goal.returns-in-Some-clause-spelled
returns-in-Some-clause-spelled c = reading_spelled c.args.word.now c.with_nine.result (returns-in-Some-clause-read c)

pub returns-in-Some-clause-bound : goal.returns-in-Some-clause-bound
returns-in-Some-clause-bound c = reading_bound c.args.word.now c.with_nine.result (returns-in-Some-clause-read c)

pub returns-in-None-clause-read : goal.returns-in-None-clause-read
unfolding reading_of
returns-in-None-clause-read c = search rules

pub returns-in-None-clause-spelled : goal.returns-in-None-clause-spelled
returns-in-None-clause-spelled c = reading_spelled c.args.word.now c.whole_seconds.result (returns-in-None-clause-read c)

pub returns-in-None-clause-bound : goal.returns-in-None-clause-bound
returns-in-None-clause-bound c = reading_bound c.args.word.now c.whole_seconds.result (returns-in-None-clause-read c)
