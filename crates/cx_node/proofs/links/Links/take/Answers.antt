use Rattle.cx_node.proofs.Lists.{found_number}
use Rattle.cx_node.proofs.links.Links.take.Goals as goal

pub returns-then-is_some-clause-number : goal.returns-then-is_some-clause-number
returns-then-is_some-clause-number g c = rw c.take_out-taken.ensures.link (found_number g.L.Numbered.number_of c.args.number _)
