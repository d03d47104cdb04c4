use Rattle.cx_audit_text.proofs.lines.Texts.{prints}
use Rattle.cx_audit_text.proofs.lines_laws.text_laws.Goals as goal

pub returns : goal.returns
returns c = λ counted said line spelled. prints counted said line spelled
