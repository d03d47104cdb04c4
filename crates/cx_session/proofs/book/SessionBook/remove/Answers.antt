use Rattle.std.proofs.Common.{◌≡◌, None, refl}
use Rattle.cx_session.specs.Book.{with_number}
use Rattle.cx_session.proofs.Finding.{drops_absent}
use Rattle.cx_session.proofs.book.SessionBook.remove.Goals as goal

pub returns-in_default : goal.returns-in_default
returns-in_default g c =
    let none : with_number c.args.number c.args.self.now.book.live ≡ None = rw (← c.session.ensures.found, c.in_default.is) refl in
    rw (drops_absent c.args.number c.args.self.now.book.live none) refl
