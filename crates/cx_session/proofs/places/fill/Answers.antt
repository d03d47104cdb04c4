use Rattle.std.proofs.Common.{refl}
use Rattle.cx_session.proofs.Placing.{keys_rise, filled_is, filled-placed}
use Rattle.cx_session.proofs.places.fill.Goals as goal

pub returns-clause-sessions : goal.returns-clause-sessions
returns-clause-sessions g c =
    rw c.put.ensures.entries (filled_is _ 0 c.args.session _ c.requires.placed (keys_rise _ c.requires.was_ordered) c.requires.there)

pub returns-clause-placed : goal.returns-clause-placed
returns-clause-placed g c =
    rw c.put.ensures.entries (filled-placed _ 0 c.args.session _ refl c.requires.placed (keys_rise _ c.requires.was_ordered))
