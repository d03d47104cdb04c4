use Rattle.cx_session.proofs.Keeping.{kept-readied, kept-reserved}
use Rattle.cx_session.proofs.book.SessionBook.change_room.Goals as goal

pub invariant_of-self-in_err-make_known : goal.invariant_of-self-in_err-make_known
invariant_of-self-in_err-make_known g c =
    kept-readied _ _ c.self.inside.places c.make_ready.new.places c.self.inside.numbers c.make_known.new.numbers c.self.inside.room c.self.invariant c.make_ready.ensures.sessions c.make_ready.ensures.placed c.make_ready.ensures.ordered c.make_ready.ensures.stays c.make_known.ensures.kept

pub invariant_of-self-2 : goal.invariant_of-self-2
invariant_of-self-2 g c =
    let readied = kept-readied _ _ c.self.inside.places c.make_ready.new.places c.self.inside.numbers c.make_known.new.numbers c.self.inside.room c.self.invariant c.make_ready.ensures.sessions c.make_ready.ensures.placed c.make_ready.ensures.ordered c.make_ready.ensures.stays c.make_known.ensures.kept in
    let free = rw (← c.self.view_is) at c.stale-stale.ensures.free in
    kept-reserved _ _ c.args.client_cookie c.make_ready.new.places c.make_known.new.numbers c.forget.new.numbers c.self.inside.room c.stale-stale.result readied c.in_ok-make_ready.ensures.there c.in_ok-make_known.ensures.there c.stale-stale.ensures.other (rw c.make_ready.ensures.sessions free) c.forget.ensures.others
