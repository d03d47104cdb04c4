-- Which row it is, by what was read and checked.
use Rattle.std.proofs.Common.{◌≡◌, ◌≢◌, ◌∙◌, ℕ, ◌==◌, Bool, true, false, List, Result, Ok, Err, refl, sym, ap}
use Rattle.std.proofs.lemmas.Bool.{ne_eqb}
use Rattle.std.specs.Prelude.{if◌then◌else◌}
use Rattle.cx_base.specs.Names.{is_daemon_type}
use Rattle.cx_control.specs.Auth.{auth_done_layout, auth_reply_more_layout, auth_request_more_layout}
use Rattle.cx_control.specs.BadMethod.{bad_method_layout, kept_method}
use Rattle.cx_control.specs.Idents.{ident_missing_features_layout, server_ident_layout}
use Rattle.cx_control.specs.declared.auth.AuthDone.{AuthDone}
use Rattle.cx_control.specs.declared.bad_method.AuthBadMethod.{AuthBadMethod}
use Rattle.cx_control.specs.declared.idents.IdentMissingFeatures.{IdentMissingFeatures}
use Rattle.cx_node.specs.cx_dice.specs.Draws.{challenge_of}
use Rattle.cx_frame.specs.declared.frame.Frame.{Frame}
use Rattle.cx_journal.specs.declared.faults.BytesFault.{BytesFault}
use Rattle.cx_login.specs.Client.{authenticate}
use Rattle.cx_node.specs.Parts.{part_of}
use Rattle.cx_node.specs.cx_rules.specs.Connector.{MonClientArrival, MonClientRow, Open, on_bad_method, on_challenge, on_done, on_missing_features, on_reply_more, proves, while_challenged, while_identified, while_proved}
use Rattle.cx_node.specs.cx_rules.specs.Holdings.{unexpired}
use Rattle.cx_node.specs.cx_rules.specs.Payloads as payload
use Rattle.cx_node.specs.cx_rules.specs.Requests.{Requests, asks_rotating, on_server_ident, opens_to}
use Rattle.cx_node.specs.cx_rules.specs.Payloads.{control}
use Rattle.cx_node.specs.cx_rules.specs.Secured.{Secured, plain_frame}
use Rattle.cx_login.specs.cx_wire.specs.Logins.{authenticate_layout}
use Rattle.cx_login.specs.cx_wire.specs.declared.logins.ServerChallenge.{ServerChallenge}
use Rattle.cx_node.specs.cx_rules.specs.Abridged.{abridged_mon_client_link}
use Rattle.cx_node.specs.steps.Making.{row_due}
use Rattle.cx_monclient.specs.connector.Rows.{denied}

abbrev pub due : MonClientRow → MonClientRow
due row = row_due abridged_mon_client_link row

first_of : (b : Bool) (x y z : MonClientRow) → b ≡ true → x ≡ z → due (if b then x else y) ≡ due z
first_of b x y z holds same = rw (holds, same) refl

second_of : (b : Bool) (x y z : MonClientRow) → b ≡ false → y ≡ z → due (if b then x else y) ≡ due z
second_of b x y z fails same = rw (fails, same) refl

-- ---- AUTH_BAD_METHOD

denied_is : (a : MonClientArrival) (r : Result (ℕ × (ℕ × (List ℕ × List ℕ))) BytesFault) → on_bad_method a r ≡ denied a (part_of kept_method r)
denied_is a (Ok fields) = refl
denied_is a (Err why) = refl

read_denied : (a : MonClientArrival) (r : Result (ℕ × (ℕ × (List ℕ × List ℕ))) BytesFault) (read : Result AuthBadMethod BytesFault)
    → read ≡ part_of kept_method r → on_bad_method a r ≡ denied a read
read_denied a r read e = denied_is a r ∙ ap (denied a) (sym e)

pub challenge_denied : (a : MonClientArrival) (asked : ℕ) (f : Frame) (read : Result AuthBadMethod BytesFault) → f.tag ≡ 3
    → read ≡ part_of kept_method (payload.payload bad_method_layout.form f) → due (while_challenged a asked f) ≡ due (denied a read)
challenge_denied a asked f read t r =
    first_of (f.tag == 3) (on_bad_method a (payload.payload bad_method_layout.form f)) (on_reply_more a asked (payload.due 4 auth_reply_more_layout.form f))
    (denied a read) (rw t refl) (read_denied a (payload.payload bad_method_layout.form f) read r)

pub proof_denied : (a : MonClientArrival) (f : Frame) (read : Result AuthBadMethod BytesFault) → f.tag ≡ 3
    → read ≡ part_of kept_method (payload.payload bad_method_layout.form f) → due (while_proved a f) ≡ due (denied a read)
proof_denied a f read t r =
    first_of (f.tag == 3) (on_bad_method a (payload.payload bad_method_layout.form f)) (on_done a (payload.due 6 auth_done_layout.form f))
    (denied a read) (rw t refl) (read_denied a (payload.payload bad_method_layout.form f) read r)

-- ---- AUTH_REPLY_MORE, AUTH_DONE

pub challenge_answered : (a : MonClientArrival) (asked : ℕ) (read : Result ServerChallenge BytesFault) (server : ServerChallenge) (bytes : List ℕ) → read ≡ Ok server
    → bytes ≡ authenticate_layout.form.text (authenticate (record { secret = a.own.secret; old = unexpired a.reading a.own.holdings.auth; other_keys = asked })
    server.challenge (challenge_of a.draw))
    → due (on_challenge a asked read) ≡ due (proves a server.challenge (plain_frame (control 5 auth_request_more_layout.form (record { payload = bytes }))))
challenge_answered a asked read server bytes r b = rw (r, b) refl

pub proof_done : (a : MonClientArrival) (f : Frame) (read : Result AuthDone BytesFault) → f.tag ≢ 3 → read ≡ payload.due 6 auth_done_layout.form f
    → due (while_proved a f) ≡ due (on_done a read)
proof_done a f read t r =
    second_of (f.tag == 3) (on_bad_method a (payload.payload bad_method_layout.form f)) (on_done a (payload.due 6 auth_done_layout.form f))
    (on_done a read) (ne_eqb f.tag 3 t) (ap (on_done a) (sym r))

-- ---- IDENT_MISSING_FEATURES

pub features_missing : (a : MonClientArrival) (s : Secured) (session : List ℕ) (f : Frame) (read : Result IdentMissingFeatures BytesFault) → f.tag ≡ 10
    → read ≡ payload.payload ident_missing_features_layout.form f → due (while_identified a s session f) ≡ due (on_missing_features a read)
features_missing a s session f read t r =
    first_of (f.tag == 10) (on_missing_features a (payload.payload ident_missing_features_layout.form f)) (on_server_ident Open a s session (payload.due 9 server_ident_layout.form f))
    (on_missing_features a read) (rw t refl) (ap (on_missing_features a) (sym r))

-- ---- SERVER_IDENT

-- a daemon asks at once
pub daemon_asks : (a : MonClientArrival) (s : Secured) (r : Requests) → is_daemon_type a.own.name.kind ≡ true → due (opens_to Open a s r) ≡ due (asks_rotating Open a s r)
daemon_asks a s r is = rw is refl
