use Rattle.std.proofs.Common.{◌≡◌, ◌==◌, true, false, refl, arith}
use Rattle.std.proofs.lemmas.Bool.Decides.{nat_tests}
use Rattle.std.specs.BTreeMap.{get}
use Rattle.std.specs.Ordering.{nat_cmp}
use Rattle.cx_session.specs.Book.{with_client_cookie}
use Rattle.cx_session.proofs.Finding.{of_client, by_number, kept_client_is}
use Rattle.cx_session.proofs.book.SessionBook.session_of_client.Goals as goal

pub returns-in_err-number-clause-found : goal.returns-in_err-number-clause-found
returns-in_err-number-clause-found g c =
    let is : with_client_cookie c.args.client_cookie c.args.self.now.book.live ≡ of_client c.args.client_cookie (by_number (get nat_cmp c.self.inside.numbers c.args.client_cookie) c.args.self.now.book.live) =
    rw (← c.self.view_is) (kept_client_is _ _ c.args.client_cookie _ _ _ c.self.invariant) in
    rw (c.from_residual.ensures, is, ← c.get.ensures.value, c.in_err-number.was) refl

pub returns-in_err-session-clause-found : goal.returns-in_err-session-clause-found
returns-in_err-session-clause-found g c =
    let is : with_client_cookie c.args.client_cookie c.args.self.now.book.live ≡ of_client c.args.client_cookie (by_number (get nat_cmp c.self.inside.numbers c.args.client_cookie) c.args.self.now.book.live) =
    rw (← c.self.view_is) (kept_client_is _ _ c.args.client_cookie _ _ _ c.self.invariant) in
    rw (c.from_residual-in_err-session.ensures, is, ← c.get.ensures.value, c.in_ok-number.was, ← c.session.ensures.found, c.in_err-session.was) refl

pub returns-then-session-client_cookie-clause-found : goal.returns-then-session-client_cookie-clause-found
returns-then-session-client_cookie-clause-found g c =
    let is : with_client_cookie c.args.client_cookie c.args.self.now.book.live ≡ of_client c.args.client_cookie (by_number (get nat_cmp c.self.inside.numbers c.args.client_cookie) c.args.self.now.book.live) =
    rw (← c.self.view_is) (kept_client_is _ _ c.args.client_cookie _ _ _ c.self.invariant) in
    let other : (c.in_ok-session.session.now.client_cookie == c.args.client_cookie) ≡ false = grind (arith, nat_tests) in
    rw (is, ← c.get.ensures.value, c.in_ok-number.was, ← c.session.ensures.found, c.in_ok-session.was, other) refl

pub returns-clause-found : goal.returns-clause-found
returns-clause-found g c =
    let is : with_client_cookie c.args.client_cookie c.args.self.now.book.live ≡ of_client c.args.client_cookie (by_number (get nat_cmp c.self.inside.numbers c.args.client_cookie) c.args.self.now.book.live) =
    rw (← c.self.view_is) (kept_client_is _ _ c.args.client_cookie _ _ _ c.self.invariant) in
    let same : (c.in_ok-session.session.now.client_cookie == c.args.client_cookie) ≡ true = grind (arith, nat_tests) in
    rw (is, ← c.get.ensures.value, c.in_ok-number.was, ← c.session.ensures.found, c.in_ok-session.was, same) refl
