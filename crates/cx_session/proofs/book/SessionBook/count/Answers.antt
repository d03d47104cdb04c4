use Rattle.cx_session.proofs.Placing.{keys_rise, stands_in_order}
use Rattle.cx_session.proofs.book.SessionBook.count.Goals as goal

pub returns-clause-order : goal.returns-clause-order
returns-clause-order g c =
    rw (← c.self.view_is) (stands_in_order c.self.inside.next 0 c.self.inside.places.entries c.self.invariant.placed (keys_rise c.self.inside.places.entries c.self.invariant.ordered))
