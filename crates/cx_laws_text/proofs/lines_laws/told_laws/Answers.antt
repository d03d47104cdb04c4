use Rattle.cx_laws_text.proofs.told.Legal.{legal-told}
use Rattle.cx_laws_text.proofs.lines_laws.told_laws.Goals as goal

pub returns : goal.returns
returns c = legal-told
