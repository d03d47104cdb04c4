use Rattle.std.proofs.Common.{refl}
use Rattle.cx_session.proofs.Keeping.{kept-removed}
use Rattle.cx_session.proofs.book.SessionBook.give_up.Goals as goal

pub invariant_of-self : goal.invariant_of-self
invariant_of-self g c =
    let lives = rw (← c.self.view_is) at c.requires in
    let both = kept-removed _ c.self.inside.count c.args.number c.args.client_cookie c.self.inside.places c.remove.new.self c.self.inside.numbers c.forget.new.numbers c.self.inside.room c.unless_reserved-gone.result c.self.invariant lives c.remove.ensures.entries c.remove.ensures.ordered c.unless_reserved-gone.ensures.cookie c.unless_reserved-gone.ensures.other c.forget.ensures.others in
    both.0

pub returns : goal.returns
returns g c =
    let lives = rw (← c.self.view_is) at c.requires in
    let both = kept-removed _ c.self.inside.count c.args.number c.args.client_cookie c.self.inside.places c.remove.new.self c.self.inside.numbers c.forget.new.numbers c.self.inside.room c.unless_reserved-gone.result c.self.invariant lives c.remove.ensures.entries c.remove.ensures.ordered c.unless_reserved-gone.ensures.cookie c.unless_reserved-gone.ensures.other c.forget.ensures.others in
    rw (← c.self.view_is, both.1) refl
