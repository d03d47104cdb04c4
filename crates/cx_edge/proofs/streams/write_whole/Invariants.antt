-- The writer has taken all of the bytes but the rest.
use Rattle.std.proofs.Common.{length}
use Rattle.cx_edge.proofs.Edges.{Wrote}
use Rattle.cx_edge.proofs.streams.write_whole.Given as goal

abbrev pub invariant-parts : goal.invariant-parts
invariant-parts g l = Wrote (g.W.Write.contents l.fn.writer) (g.W.Write.contents l.writer) l.fn.bytes l.rest

abbrev pub decreases-parts : goal.decreases-parts
decreases-parts g l = length l.rest
