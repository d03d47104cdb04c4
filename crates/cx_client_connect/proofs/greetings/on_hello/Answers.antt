-- What was made is shown, with the nonce that was drawn.
use Rattle.std.proofs.Common.{◌≡◌, ◌∙◌, ℕ, List, Option, Some, None, Result, Ok, refl, sym, ap}
use Rattle.cx_authorize.specs.Client.{Presented}
use Rattle.cx_control.specs.declared.hello.Hello.{Hello}
use Rattle.cx_node.specs.cx_dice.specs.Draws.{challenge_of}
use Rattle.cx_journal.specs.declared.faults.BytesFault.{BytesFault}
use Rattle.cx_link.specs.Wires.{wired}
use Rattle.cx_login.specs.Held.{Held}
use Rattle.cx_node.specs.cx_rules.specs.Holdings.{MonClient}
use Rattle.cx_client_connect.specs.cx_rules_session.specs.Forgets.{abridged_call_link}
use Rattle.cx_client_connect.specs.cx_rules_session.specs.Presenter.{AwaitsHello, CallArrival, CallRow, authorizer_bytes, on_hello, presented, presented_by, presents}
use Rattle.cx_client_connect.specs.cx_rules_session.specs.Sessions.{Called, Callee, HeldSession, ticket_for}
use Rattle.cx_node.proofs.steps.MadeRows.{makes_as}
use Rattle.cx_node.specs.steps.Making.{row_due}
use Rattle.cx_client_connect.specs.presenting.Rows.{arrived, caller, changed}
use Rattle.cx_client_connect.proofs.greetings.on_hello.Goals as goal

nonce_by : (called : Called) (mon_client : MonClient) (held : Option Held) (nonce : ℕ) → (presented_by called mon_client held nonce).nonce ≡ nonce
nonce_by called mon_client (Some held) nonce = refl
nonce_by called mon_client None nonce = refl

hello_is : (a : CallArrival) (called : Called) (callee : Callee) (p : Presented) (read : Result Hello BytesFault) (hello : Hello) → read ≡ Ok hello → callee ≡ called.callee
    → p ≡ presented called a.own.mon_client (challenge_of a.draw) → on_hello a called read ≡ presents a callee p
hello_is a called callee p read hello r k e =
    ap (on_hello a called) r ∙ ap (λ (c : Callee). presents a c (presented called a.own.mon_client (challenge_of a.draw))) (sym k) ∙ ap (presents a callee) (sym e)

pub returns : goal.returns
returns c =
    λ (session : Option HeldSession).
    let a : CallArrival = arrived (caller c.args.mon_client.now session) c.args.at.now (wired c.args.at.now.number c.args.link (AwaitsHello c.args.called)) in
    let callee_in : Called → Callee = λ k. k.callee in
    let nonce_in : Presented → ℕ = λ p. p.nonce in
    let bytes_of : Presented → List ℕ = λ p. authorizer_bytes p None in
    let callee = ap callee_in c.called.view_is in
    let shown = rw c.challenge.ensures at c.in_ok-presenting.ensures in
    let drew = ap nonce_in shown.0
    ∙ nonce_by c.args.called c.args.mon_client.now (ticket_for c.args.called.callee.daemon.kind c.args.mon_client.now.holdings) (challenge_of c.args.at.now.draw.now.bytes)
    in
    let shows = shown.1 ∙ sym (ap bytes_of shown.0) in
    makes_as abridged_call_link changed a (presents a c.called.inside.callee c.in_ok-presenting.presenting) (on_hello a c.args.called c.args.read) c.present.result
    (ap (λ (row : CallRow). row_due abridged_call_link row)
    (hello_is a c.args.called c.called.inside.callee c.in_ok-presenting.presenting c.args.read c.in_ok-read.field-0 c.in_ok-read.was callee shown.0))
    (c.present.ensures (AwaitsHello c.args.called) drew shows session)
