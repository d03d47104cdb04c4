use Rattle.std.proofs.Common.{refl}
use Rattle.cx_mon.proofs.Steps.{without_held}
use Rattle.cx_mon.proofs.events.goes.Goals as goal

pub returns-clause-held : goal.returns-clause-held
returns-clause-held c = without_held c.args.number c.args.links.now.links c.remove.new.self.links c.requires.held (rw c.remove.ensures refl)
