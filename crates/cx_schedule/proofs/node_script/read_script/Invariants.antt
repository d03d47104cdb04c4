use Rattle.std.proofs.Common.{length}
use Rattle.cx_words.specs.Cutting.{lines_of}
use Rattle.cx_schedule.specs.NodeFiles.{bad_anywhere, itself, SpellsAnywhere}
use Rattle.cx_schedule.proofs.Grammars.{Reads}
use Rattle.cx_schedule.proofs.NodeLaws.{scripts}
use Rattle.cx_schedule.proofs.node_script.read_script.Given as goal

abbrev pub invariant-lines : goal.invariant-lines
invariant-lines l = Reads (SpellsAnywhere l.fn.names) itself (bad_anywhere l.fn.names) (scripts l.fn.names) (lines_of l.fn.bytes) l.script l.number (lines_of l.rest)

abbrev pub decreases-lines : goal.decreases-lines
decreases-lines l = length l.rest
