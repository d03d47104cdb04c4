-- The bytes of authorizers, and frames that are too long for a plain one.
use Rattle.std.proofs.Common.{◌≡◌, ◌∙◌, ◌<◌, ◌+◌, ℕ, true, List, ◌++◌, Option, Some, None, Result, Ok, Err, IfOk, refl, ap, length, arith, length-append}
use Rattle.std.proofs.lemmas.Bool.{lt-ltb}
use Rattle.std.specs.Int.{w32}
use Rattle.std.specs.Prelude.{nat_lt}
use Rattle.cx_authorize.specs.Answers.{IsAuthorizer, authorizer_of, shown_as}
use Rattle.cx_authorize.specs.Client.{Presented, Presents}
use Rattle.cx_control.specs.Auth.{auth_request_layout, auth_request_more_layout}
use Rattle.cx_control.specs.cx_enc.specs.Forms.{little}
use Rattle.cx_frame.specs.Frames.{total}
use Rattle.cx_frame.specs.declared.frame.Frame.{Frame}
use Rattle.cx_journal.specs.declared.faults.BytesFault.TheVariants.{TooLong}
use Rattle.cx_login.specs.Held.{Held}
use Rattle.cx_node.specs.cx_rules.specs.Holdings.{MonClient}
use Rattle.cx_node.specs.cx_rules.specs.Payloads.{control}
use Rattle.cx_node.specs.cx_rules.specs.Secured.{plain_frame}
use Rattle.cx_client_connect.specs.cx_rules_session.specs.Presenter.{authorizer_bytes, presented}
use Rattle.cx_client_connect.specs.cx_rules_session.specs.Sessions.{Called, held_gid, ticket_for}
use Rattle.cx_login.specs.cx_wire.specs.Logins.{authorizer_layout}
use Rattle.cx_client_connect.specs.presenting.Rows.{IsShown}

pub authorizer_is : (p : Presented) (challenge : Option ℕ) (bytes : List ℕ) → IsAuthorizer p.held p.gid (shown_as p.nonce challenge) bytes → bytes ≡ authorizer_bytes p challenge
authorizer_is p challenge bytes (seal, is, spells) =
    spells.1 ∙ ap (λ (s : List ℕ). authorizer_layout.form.text (authorizer_of p.held p.gid s)) is.envelope

shown_is : (p : Presented) (made : Presented × List ℕ) → Presents p.held p.gid p.nonce made → IsShown p made
shown_is p (shown, bytes) (e, is) = (e, authorizer_is p None bytes is)

-- the ticket that is held now, or the one with which the link was asked for
pub shows_held : {E : Type 0} (called : Called) (mon_client : MonClient) (nonce : ℕ) (held : Held) (r : Result (Presented × List ℕ) E)
    → ticket_for called.callee.daemon.kind mon_client.holdings ≡ Some held → IfOk r (Presents held (held_gid mon_client.holdings) nonce)
    → IfOk r (IsShown (presented called mon_client nonce))
shows_held called mon_client nonce held (Err e) is p = tt
shows_held called mon_client nonce held (Ok made) is p =
    rw is (shown_is (record { held = held; gid = held_gid mon_client.holdings; nonce = nonce }) made p)

pub shows_called : {E : Type 0} (called : Called) (mon_client : MonClient) (nonce : ℕ) (r : Result (Presented × List ℕ) E)
    → ticket_for called.callee.daemon.kind mon_client.holdings ≡ None → IfOk r (Presents called.held called.gid nonce)
    → IfOk r (IsShown (presented called mon_client nonce))
shows_called called mon_client nonce (Err e) is p = tt
shows_called called mon_client nonce (Ok made) is p = rw is (shown_is (record { held = called.held; gid = called.gid; nonce = nonce }) made p)

-- a payload of the method that is too long for a plain frame
pub more_long : (payload : List ℕ) → 65536 < length payload → plain_frame (control 5 auth_request_more_layout.form (record { payload = payload })) ≡ Err TooLong
more_long payload long =
    let f : Frame = control 5 auth_request_more_layout.form (record { payload = payload }) in
    let text : length (little w32 (length payload) ++ payload) ≡ length (little w32 (length payload)) + length payload = length-append (little w32 (length payload)) payload in
    let longer : 65536 < total f = omega (arith, long, text) in
    let above : nat_lt 65536 (total f) ≡ true = lt-ltb 65536 (total f) longer in
    rw above refl

pub request_long : (modes payload : List ℕ) → 65536 < length payload
    → plain_frame (control 2 auth_request_layout.form (record { method = 2; modes = modes; payload = payload })) ≡ Err TooLong
request_long modes payload long =
    let f : Frame = control 2 auth_request_layout.form (record { method = 2; modes = modes; payload = payload }) in
    let longer : 65536 < total f = simp length-append (omega (arith, long)) in
    let above : nat_lt 65536 (total f) ≡ true = lt-ltb 65536 (total f) longer in
    rw above refl
