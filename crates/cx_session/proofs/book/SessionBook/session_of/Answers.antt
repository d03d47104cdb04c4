use Rattle.std.proofs.Common.{◌≡◌, ◌==◌, true, false, refl, arith}
use Rattle.std.proofs.lemmas.Bool.Decides.{nat_tests}
use Rattle.cx_session.specs.Book.{with_client_cookie, with_cookies}
use Rattle.cx_session.proofs.Finding.{of_server, kept_cookies_is}
use Rattle.cx_session.proofs.book.SessionBook.session_of.Goals as goal

pub returns-in_err-session-clause-found : goal.returns-in_err-session-clause-found
returns-in_err-session-clause-found g c =
    let is : with_cookies c.args.client_cookie c.args.server_cookie c.args.self.now.book.live ≡ of_server c.args.server_cookie (with_client_cookie c.args.client_cookie c.args.self.now.book.live) =
    rw (← c.self.view_is) (kept_cookies_is _ _ c.args.client_cookie c.args.server_cookie _ _ _ c.self.invariant) in
    rw (c.from_residual.ensures, is, ← c.session_of_client.ensures.found, c.in_err-session.was) refl

pub returns-then-session-server_cookie-clause-found : goal.returns-then-session-server_cookie-clause-found
returns-then-session-server_cookie-clause-found g c =
    let is : with_cookies c.args.client_cookie c.args.server_cookie c.args.self.now.book.live ≡ of_server c.args.server_cookie (with_client_cookie c.args.client_cookie c.args.self.now.book.live) =
    rw (← c.self.view_is) (kept_cookies_is _ _ c.args.client_cookie c.args.server_cookie _ _ _ c.self.invariant) in
    let other : (c.in_ok-session.session.now.server_cookie == c.args.server_cookie) ≡ false = grind (arith, nat_tests) in
    rw (is, ← c.session_of_client.ensures.found, c.in_ok-session.was, other) refl

pub returns-clause-found : goal.returns-clause-found
returns-clause-found g c =
    let is : with_cookies c.args.client_cookie c.args.server_cookie c.args.self.now.book.live ≡ of_server c.args.server_cookie (with_client_cookie c.args.client_cookie c.args.self.now.book.live) =
    rw (← c.self.view_is) (kept_cookies_is _ _ c.args.client_cookie c.args.server_cookie _ _ _ c.self.invariant) in
    let same : (c.in_ok-session.session.now.server_cookie == c.args.server_cookie) ≡ true = grind (arith, nat_tests) in
    rw (is, ← c.session_of_client.ensures.found, c.in_ok-session.was, same) refl
