use Rattle.std.proofs.Common.{rules}
use Rattle.cx_words.specs.Words.{number_of}
use Rattle.cx_words.proofs.NumberWords.{number_spelled}
use Rattle.cx_words.proofs.numbers.number.Goals as goal

pub returns-then-not-is_plain-clause-read : goal.returns-then-not-is_plain-clause-read
unfolding number_of
returns-then-not-is_plain-clause-read c = search rules

pub returns-clause-read : goal.returns-clause-read
unfolding number_of
returns-clause-read c = search rules

pub returns-clause-spelled : goal.returns-clause-spelled
unfolding number_of
returns-clause-spelled c = number_spelled c.args.word.now c.digits.result (returns-clause-read c)
