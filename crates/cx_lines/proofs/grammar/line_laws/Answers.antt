use Rattle.cx_lines.proofs.Laws.{clean, spelled, unique}
use Rattle.cx_lines.proofs.grammar.line_laws.Goals as goal

pub returns-clause-faultless : goal.returns-clause-faultless
returns-clause-faultless c = λ known words. (spelled known words, λ found. clean known found.0 words found.1)

pub returns-clause-one : goal.returns-clause-one
returns-clause-one c = λ known words line other p q. unique known known line other words p q
