use Rattle.std.proofs.Common.{refl}
use Rattle.cx_session.proofs.Keeping.{kept-filled, admits_is}
use Rattle.cx_session.proofs.book.SessionBook.admit_reserved.Goals as goal

pub invariant_of-self : goal.invariant_of-self
invariant_of-self g c =
    let reply = rw (← c.self.view_is) at c.requires.reply in
    let free = admits_is _ _ _ reply in
    kept-filled _ _ c.self.inside.places c.fill.new.places c.self.inside.numbers c.note.new.numbers c.self.inside.room _ c.self.invariant refl free.0 free.1 c.fill.ensures.sessions c.fill.ensures.placed c.fill.ensures.ordered c.note.ensures.here c.note.ensures.others
