use Rattle.std.proofs.Common.{rules}
use Rattle.cx_words.specs.Words.{caps_of}
use Rattle.cx_words.proofs.TextWords.{caps_spelled}
use Rattle.cx_words.proofs.texts.caps.Goals as goal

pub returns-then-not-is_in_marks-clause-read : goal.returns-then-not-is_in_marks-clause-read
unfolding caps_of
returns-then-not-is_in_marks-clause-read c = search rules

pub returns-then-not-is_caps-clause-read : goal.returns-then-not-is_caps-clause-read
unfolding caps_of
returns-then-not-is_caps-clause-read c = search rules

pub returns-clause-read : goal.returns-clause-read
unfolding caps_of
returns-clause-read c = search rules

pub returns-clause-spelled : goal.returns-clause-spelled
returns-clause-spelled c = caps_spelled c.args.word.now _ (returns-clause-read c)
