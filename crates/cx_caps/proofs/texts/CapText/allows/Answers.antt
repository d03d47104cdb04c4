use Rattle.std.proofs.Common.{rules}
use Rattle.cx_caps.specs.Reading.{cap_allows}
use Rattle.cx_caps.proofs.Laws.{allows_exactly}
use Rattle.cx_caps.proofs.texts.CapText.allows.Goals as goal

pub returns-clause-value : goal.returns-clause-value
unfolding cap_allows
returns-clause-value c = search rules

pub returns-clause-says : goal.returns-clause-says
returns-clause-says c = allows_exactly c.args.self.now c.args.ask.now c.text_allows.result (returns-clause-value c)
