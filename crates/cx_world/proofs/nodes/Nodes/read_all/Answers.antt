use Rattle.std.proofs.Common.{refl}
use Rattle.cx_world.proofs.actors.Reading.{all_read_stands}
use Rattle.cx_world.proofs.nodes.Nodes.read_all.Goals as goal

pub returns : goal.returns
returns c = λ handlers w k. all_read_stands c.args.reading w c.args.self.now _ k refl c.set.ensures refl c.read_members.ensures
