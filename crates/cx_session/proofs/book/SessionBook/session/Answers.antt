use Rattle.std.proofs.Common.{ℕ, ◌≡◌, Some, refl, ap, ◌∙◌}
use Rattle.cx_session.specs.Book.{with_number}
use Rattle.cx_session.proofs.Finding.{number_of}
use Rattle.cx_session.proofs.Placing.{number_is, keys_rise}
use Rattle.cx_session.proofs.book.SessionBook.session.Goals as goal

pub returns-in-None-clause-found : goal.returns-in-None-clause-found
returns-in-None-clause-found g c =
    rw (← c.self.view_is, number_is _ 0 c.args.number _ c.self.invariant.placed (keys_rise _ c.self.invariant.ordered), ← c.get.ensures.value, c.in-None.is) refl

pub returns-in-Some-None-clause-found : goal.returns-in-Some-None-clause-found
returns-in-Some-None-clause-found g c =
    rw (← c.self.view_is, number_is _ 0 c.args.number _ c.self.invariant.placed (keys_rise _ c.self.invariant.ordered), ← c.get.ensures.value, c.in-Some-None.is, c.in-Some-None.field-0-is) refl

pub returns-in-Some-Some-clause-found : goal.returns-in-Some-Some-clause-found
returns-in-Some-Some-clause-found g c =
    rw (← c.self.view_is, number_is _ 0 c.args.number _ c.self.invariant.placed (keys_rise _ c.self.invariant.ordered), ← c.get.ensures.value, c.in-Some-Some.is, c.in-Some-Some.field-0-is) refl

pub returns-in-Some-Some-clause-numbered : goal.returns-in-Some-Some-clause-numbered
returns-in-Some-Some-clause-numbered g c =
    let found : with_number c.args.number c.args.self.now.book.live ≡ Some c.in-Some-Some.session =
    rw (← c.self.view_is, number_is _ 0 c.args.number _ c.self.invariant.placed (keys_rise _ c.self.invariant.ordered), ← c.get.ensures.value, c.in-Some-Some.is, c.in-Some-Some.field-0-is) refl in
    ap (λ (number : ℕ). with_number number c.args.self.now.book.live) (number_of c.args.number c.in-Some-Some.session c.args.self.now.book.live found) ∙ found
