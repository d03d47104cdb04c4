use Rattle.std.proofs.Common.{ap, ◌∙◌}
use Rattle.cx_node.specs.Tables.{Table}
use Rattle.cx_node.proofs.Lists.{put_among}
use Rattle.cx_node.proofs.links.Links.settle.Goals as goal

pub returns-in-Some-clause-links : goal.returns-in-Some-clause-links
returns-in-Some-clause-links g c = λ links was.
    rw c.in-Some.is
    (ap (λ (t : Table g.row.L.Denot). t.links) c.put_back.ensures
    ∙ put_among g.L.Numbered.number_of c.args.number c.in-Some.link c.args.self.now.links links (rw c.in-Some.is at c.requires.same) was)
