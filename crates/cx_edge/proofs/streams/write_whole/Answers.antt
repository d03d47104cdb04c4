-- Each end of the loop leaves a front of the bytes written.
use Rattle.cx_edge.proofs.Edges.{front_kept, front_more, on_err, rest_is, wrote_more}
use Rattle.cx_edge.proofs.streams.write_whole.Goals as goal

pub returns-in_err-count-clause-front : goal.returns-in_err-count-clause-front
returns-in_err-count-clause-front g c = on_err c.from_residual.result _ (front_kept _ _ _ _ _ c.parts.invariant c.in_err-count.ensures.wrote)

pub returns-then-count-eq0-clause-front : goal.returns-then-count-eq0-clause-front
returns-then-count-eq0-clause-front g c = front_more _ _ _ _ _ _ c.parts.invariant c.in_ok-count.ensures.wrote

pub parts-preserved : goal.parts-preserved
parts-preserved g c = wrote_more _ _ _ _ _ _ c.in_ok-count.count c.parts.invariant c.in_ok-count.ensures.wrote (rest_is c.in_ok-count.count c.parts.rest.now)

pub returns-clause-front : goal.returns-clause-front
returns-clause-front g c = on_err c.flushed.result _ (front_kept _ _ _ _ _ c.parts.invariant c.flushed.ensures)
