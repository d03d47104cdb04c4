use Rattle.std.proofs.Common.{sym}
use Rattle.cx_keyring.proofs.SectionLines.{section_cut, section_whole}
use Rattle.cx_keyring.proofs.sections.section_lines.Goals as goal

pub returns-in-Some : goal.returns-in-Some
returns-in-Some c = section_cut c.args.lines.now c.in-Some.place (sym c.in-Some.ensures.place)

pub returns-in-None : goal.returns-in-None
returns-in-None c = section_whole c.args.lines.now (sym c.in-None.ensures.place)
