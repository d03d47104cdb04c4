use Rattle.std.proofs.Common.{length}
use Rattle.cx_audit_text.proofs.lines.Wholes.{Reads}
use Rattle.cx_audit_text.proofs.reading.said_in.Given as goal

abbrev pub invariant-lines : goal.invariant-lines
invariant-lines l = Reads l.fn.bytes l.said.items l.counted l.number l.rest

abbrev pub decreases-lines : goal.decreases-lines
decreases-lines l = length l.rest
