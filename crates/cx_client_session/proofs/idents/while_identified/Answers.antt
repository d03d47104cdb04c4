use Rattle.std.proofs.lemmas.Bool.{ne_eqb}
use Rattle.std.proofs.Common.{◌==◌, Option, ap}
use Rattle.cx_control.specs.Idents.{ident_missing_features_layout, server_ident_layout}
use Rattle.cx_node.specs.cx_rules.specs.Payloads.{due, payload}
use Rattle.cx_client_connect.specs.cx_rules_session.specs.Forgets.{abridged_call_link}
use Rattle.cx_client_connect.specs.cx_rules_session.specs.Presenter.{AwaitsIdent, CallArrival, CallRow, on_missing_features, on_server_ident, while_identified}
use Rattle.cx_client_connect.specs.cx_rules_session.specs.Sessions.{HeldSession}
use Rattle.cx_node.proofs.steps.MadeRows.{makes_as}
use Rattle.cx_node.specs.steps.Making.{row_due}
use Rattle.cx_node.specs.steps.Stages.{keys_alone}
use Rattle.cx_client_connect.specs.presenting.Rows.{arrived, caller, changed}
use Rattle.cx_client_connect.specs.presenting.Stages.{awaiting_ident}
use Rattle.cx_client_connect.proofs.presenting.Behind.{first_of, same_number, second_of}
use Rattle.cx_client_session.proofs.idents.while_identified.Goals as goal

pub returns-in_ok-read : goal.returns-in_ok-read
returns-in_ok-read c =
    λ (session : Option HeldSession).
    let a : CallArrival = arrived (caller c.args.mon_client.now session) c.args.at.now (awaiting_ident c.args.at.now.number c.args.link c.args.callee c.args.cookie) in
    let m = rw c.in_ok-read.ensures at (c.on_missing_features.ensures session c.args.link.ahead (AwaitsIdent (keys_alone c.args.link.keys) c.args.callee c.args.cookie)) in
    makes_as abridged_call_link changed a (on_missing_features a (payload ident_missing_features_layout.form c.args.frame.now))
    (while_identified a (keys_alone c.args.link.keys) c.args.callee c.args.cookie c.args.frame.now) c.on_missing_features.result
    (ap (λ (row : CallRow). row_due abridged_call_link row) (first_of (c.args.frame.now.tag == 10) (on_missing_features a (payload ident_missing_features_layout.form c.args.frame.now))
    (on_server_ident a (keys_alone c.args.link.keys) c.args.callee c.args.cookie (due 9 server_ident_layout.form c.args.frame.now)) (same_number c.args.frame.now.tag 10 c.if-frame-eq-IDENT_MISSING_FEATURES.true))) m

pub returns-in_ok-read-2 : goal.returns-in_ok-read-2
returns-in_ok-read-2 c =
    λ (session : Option HeldSession).
    let a : CallArrival = arrived (caller c.args.mon_client.now session) c.args.at.now (awaiting_ident c.args.at.now.number c.args.link c.args.callee c.args.cookie) in
    let m = rw c.in_ok-read-2.ensures at (c.on_server_ident.ensures session) in
    makes_as abridged_call_link changed a (on_server_ident a (keys_alone c.args.link.keys) c.args.callee c.args.cookie (due 9 server_ident_layout.form c.args.frame.now))
    (while_identified a (keys_alone c.args.link.keys) c.args.callee c.args.cookie c.args.frame.now) c.on_server_ident.result
    (ap (λ (row : CallRow). row_due abridged_call_link row) (second_of (c.args.frame.now.tag == 10) (on_missing_features a (payload ident_missing_features_layout.form c.args.frame.now))
    (on_server_ident a (keys_alone c.args.link.keys) c.args.callee c.args.cookie (due 9 server_ident_layout.form c.args.frame.now)) (ne_eqb c.args.frame.now.tag 10 c.if-frame-eq-IDENT_MISSING_FEATURES.false))) m
