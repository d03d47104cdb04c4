use Rattle.std.proofs.Common.{rules, sym}
use Rattle.cx_words.specs.Words.{services_of}
use Rattle.cx_words.proofs.ListWords.{services_of-is}
use Rattle.cx_words.proofs.lists.services.Goals as goal

pub returns-clause-read : goal.returns-clause-read
unfolding services_of
returns-clause-read c = search rules

pub returns-clause-spelled : goal.returns-clause-spelled
returns-clause-spelled c = services_of-is c.args.word.now c.in-Some.kinds (sym (returns-clause-read c))
