-- What a client or a daemon does on its link to the monitor ("msgr2 protocol"; "detailed cephx protocol"): the rows of a login, in the order
-- of a connection.
use Rattle.std.specs.Prelude.{ℕ, ◌==◌, not, Bool, true, false, List, [], ◌∷◌, ◌++◌, take, Option, Some, None, Result, if◌then◌else◌}
use Rattle.std.specs.Int.{w64, to_le_bytes}
use Rattle.cx_login.specs.cx_control.specs.Auth.{auth_done_layout, auth_reply_more_layout, auth_request_layout, auth_request_more_layout, auth_signature_layout}
use Rattle.cx_login.specs.cx_control.specs.BadMethod.{bad_method_layout, kept_method}
use Rattle.cx_login.specs.cx_control.specs.Hello.{hello_layout}
use Rattle.cx_login.specs.cx_control.specs.Idents.{client_ident_layout, ident_missing_features_layout, server_ident_layout}
use Rattle.cx_login.specs.cx_control.specs.declared.auth.AuthDone.{AuthDone}
use Rattle.cx_login.specs.cx_control.specs.declared.auth.AuthReplyMore.{AuthReplyMore}
use Rattle.cx_login.specs.cx_control.specs.declared.auth.AuthSignature.{AuthSignature}
use Rattle.cx_login.specs.cx_control.specs.declared.hello.Hello.{Hello}
use Rattle.cx_login.specs.cx_control.specs.declared.idents.IdentMissingFeatures.{IdentMissingFeatures}
use Rattle.cx_keyserver.specs.cx_dice.specs.Draws.{challenge_of, cookie_of}
use Rattle.cx_stream.specs.cx_frame.specs.declared.frame.Frame.{Frame}
use Rattle.cx_login.specs.cx_journal.specs.declared.faults.BytesFault.{BytesFault}
use Rattle.cx_login.specs.cx_journal.specs.declared.faults.BytesFault.TheVariants.{Features}
use Rattle.cx_login.specs.cx_journal.specs.declared.faults.LoginFault.TheVariants.{Mode, Unopened}
use Rattle.cx_login.specs.cx_journal.specs.declared.outcomes.Reason.TheVariants as reason
use Rattle.cx_login.specs.cx_journal.specs.declared.premises.KeyKind.TheVariants as kind
use Rattle.cx_login.specs.Client.{Ask, authenticate}
use Rattle.cx_login.specs.Unlocking.{login_in}
use Rattle.cx_login.specs.declared.client.LoggedIn.{LoggedIn}
use Rattle.cx_login.specs.cx_steps.specs.declared.seals.DrawMark.TheVariants as draw
use Rattle.cx_login.specs.cx_steps.specs.declared.seals.SealEntry.{SealEntry}
use Rattle.cx_login.specs.cx_steps.specs.declared.seals.SealEntry.TheVariants as entry
use Rattle.cx_login.specs.cx_wire.specs.Logins.{authenticate_layout, login_done_layout, login_hello_layout, server_challenge_layout}
use Rattle.cx_login.specs.cx_wire.specs.declared.logins.LoginDone.{LoginDone}
use Rattle.cx_login.specs.cx_wire.specs.declared.logins.ServerChallenge.{ServerChallenge}
use Rattle.cx_rules.specs.Fronts.{banner_next, plain_next, secure_next}
use Rattle.cx_rules.specs.Holdings.{MonClient, Holdings, hello_gid, held_login, holds_nothing, unexpired}
use Rattle.cx_rules.specs.Payloads.{control, due, payload, whole}
use Rattle.cx_rules.specs.Requests.{Requests, is_waiting, on_open, on_server_ident}
use Rattle.cx_rules.specs.Rows.{Arrival, Row, Turned, at, goes_on, refuses, refuses_bytes, sends_plain, sends_secure, turned_by, unless_refused, with_opened}
use Rattle.cx_rules.specs.Secured.{SealedFrame, Secured, plain_frame, under, connector_keys, signature_found, signed_frame}
use Rattle.cx_rules.specs.Signatures.{unless_unsigned}
use Rattle.cx_rules.specs.Greetings.{no_addr, own_hello}

-- a login that was opened, and its global id, until the monitor's signature is found right
pub record Login : Type 0 where
  pub gid : ℕ
  pub opened : LoggedIn

-- how far a link to the monitor has come: what it waits for. A number is the sum of the services for which tickets are asked;
-- the session key of the ticket for AUTH opens what is told on the link later
pub data Stage : Type 0 where
  AwaitsBanner : ℕ → Stage
  AwaitsHello : ℕ → Stage
  AwaitsChallenge : ℕ → Stage
  AwaitsDone : Stage
  AwaitsSignature : Secured → Login → Stage
  AwaitsIdent : Secured → List ℕ → Stage
  Open : Secured → Requests → Stage

abbrev pub MonClientArrival : Type 0
MonClientArrival = Arrival MonClient Stage

abbrev pub MonClientRow : Type 0
MonClientRow = Row MonClient Stage

-- with what it holds from now on
abbrev pub holding : MonClientArrival → Holdings → MonClientArrival
holding a holdings = record a { own = record a.own { holdings = holdings } }

-- ---- banner, HELLO

-- the peer's banner: HELLO is sent
abbrev pub on_banner : MonClientArrival → ℕ → MonClientRow
on_banner a asked = sends_plain a (AwaitsHello asked) [] (own_hello a.own.name.kind)

-- AUTH_REQUEST with a LoginHello: method 2, cephx; the modes; the name, and the global id that is held
abbrev pub login_request : MonClient → Frame
login_request mon_client = control 2 auth_request_layout.form (record {
  method = 2;
  modes = mon_client.modes;
  payload = login_hello_layout.form.text (record { name = mon_client.name; gid = hello_gid mon_client.holdings.auth mon_client.holdings.gid });
})

abbrev pub on_hello : MonClientArrival → ℕ → Result Hello BytesFault → MonClientRow
on_hello a asked read = unless_refused a [] read (λ hello. sends_plain a (AwaitsChallenge asked) [] (login_request a.own))

-- ---- AUTH_REPLY_MORE

-- both challenges, which a proof signs
abbrev pub proof_made : List ℕ → ℕ → ℕ → SealEntry
proof_made secret server client = entry.Signed (record { key = secret; kind = kind.Proof; content = to_le_bytes w64 server ++ to_le_bytes w64 client })

-- one's own challenge is drawn, and the proof of both is sent
abbrev pub proves : MonClientArrival → ℕ → Result (List ℕ) BytesFault → MonClientRow
proves a server made = unless_refused a (entry.Drawn (draw.Challenge (challenge_of a.draw)) ∷ []) made (λ bytes.
    goes_on a AwaitsDone bytes (entry.Drawn (draw.Challenge (challenge_of a.draw)) ∷ proof_made a.own.secret server (challenge_of a.draw) ∷ []))

-- the challenge is answered by an Authenticate, with the ticket for AUTH that is held as old ticket while it is good
abbrev pub on_challenge : MonClientArrival → ℕ → Result ServerChallenge BytesFault → MonClientRow
on_challenge a asked read = unless_refused a [] read (λ server.
    let ask : Ask = record { secret = a.own.secret; old = unexpired a.reading a.own.holdings.auth; other_keys = asked } in
    proves a server.challenge (plain_frame (control 5 auth_request_more_layout.form
    (record { payload = authenticate_layout.form.text (authenticate ask server.challenge (challenge_of a.draw)) }))))

abbrev pub on_reply_more : MonClientArrival → ℕ → Result AuthReplyMore BytesFault → MonClientRow
on_reply_more a asked read = unless_refused a [] read (λ more. on_challenge a asked (whole server_challenge_layout.form more.payload))

-- ---- AUTH_BAD_METHOD

-- at the code 13 the global id and all tickets are forgotten
abbrev pub on_denial : MonClientArrival → ℕ → MonClientRow
on_denial a code = refuses (if code == 13 then holding a holds_nothing else a) (reason.Denied code) []

abbrev pub on_bad_method : MonClientArrival → Result (ℕ × (ℕ × (List ℕ × List ℕ))) BytesFault → MonClientRow
on_bad_method a read = unless_refused a [] read (λ fields. on_denial a (kept_method fields).result)

-- ---- AUTH_DONE

-- AUTH_SIGNATURE is sent; the peer's has to cover all that was sent before
abbrev pub signs : MonClientArrival → Login → List SealEntry → Result SealedFrame BytesFault → MonClientRow
signs a login opened made = unless_refused a opened made (λ sealed.
    goes_on a (AwaitsSignature (record { keys = sealed.keys; session = login.opened.auth.session; covered = a.link.sent }) login)
    sealed.bytes (opened ++ sealed.seals))

-- the parts of a LoginDone were opened, each to its record, or one wasn't
abbrev pub on_opened : MonClientArrival → ℕ → List SealEntry → Option LoggedIn → MonClientRow
on_opened a gid opened None = refuses a (reason.Login Unopened) opened
on_opened a gid opened (Some logged_in) =
    signs a (record { gid = gid; opened = logged_in }) opened
    (signed_frame (connector_keys logged_in.secret) logged_in.auth.session (take a.link.taken a.link.received))

abbrev pub on_login_done : MonClientArrival → ℕ → Result LoginDone BytesFault → MonClientRow
on_login_done a gid read = unless_refused a [] read (λ done. let unlocked = login_in a.own.secret done in on_opened a gid unlocked.seals unlocked.value)

abbrev pub on_done : MonClientArrival → Result AuthDone BytesFault → MonClientRow
on_done a read = unless_refused a [] read (λ done.
    if not (done.mode == 2) then refuses a (reason.Login Mode) []
    else on_login_done a done.gid (whole login_done_layout.form done.payload))

-- ---- AUTH_SIGNATURE

-- CLIENT_IDENT under a global id, with flags (1 for a lossy session) and a cookie
abbrev pub client_ident : MonClient → ℕ → ℕ → ℕ → Frame
client_ident mon_client gid flags cookie = control 8 client_ident_layout.form (record {
  addr = mon_client.address;
  target = no_addr;
  gid = gid;
  global_seq = mon_client.global_seq;
  supported = 0;
  required = 0;
  flags = flags;
  cookie = cookie;
})

-- the login is held, and CLIENT_IDENT is sent with a drawn cookie: the session with the monitor is lossy
abbrev pub identifies : MonClientArrival → Secured → Login → MonClientRow
identifies a s login =
    let cookie = cookie_of a.draw in
    sends_secure (holding a (held_login a.own.holdings login.gid login.opened)) s (λ behind. AwaitsIdent behind login.opened.auth.session)
    (signature_found s ∷ entry.Drawn (draw.Cookie cookie) ∷ []) (client_ident a.own login.gid 1 cookie)

abbrev pub on_signature : MonClientArrival → Secured → Login → Result AuthSignature BytesFault → MonClientRow
on_signature a s login read = unless_unsigned a s read (identifies a s login)

-- ---- SERVER_IDENT, IDENT_MISSING_FEATURES

abbrev pub on_missing_features : MonClientArrival → Result IdentMissingFeatures BytesFault → MonClientRow
on_missing_features a read = unless_refused a [] read (λ missing. refuses_bytes a (Features missing.features) [])

-- ---- a turn

abbrev pub while_challenged : MonClientArrival → ℕ → Frame → MonClientRow
while_challenged a asked f =
    if f.tag == 3 then on_bad_method a (payload bad_method_layout.form f)
    else on_reply_more a asked (due 4 auth_reply_more_layout.form f)

abbrev pub while_proved : MonClientArrival → Frame → MonClientRow
while_proved a f =
    if f.tag == 3 then on_bad_method a (payload bad_method_layout.form f)
    else on_done a (due 6 auth_done_layout.form f)

abbrev pub while_identified : MonClientArrival → Secured → List ℕ → Frame → MonClientRow
while_identified a s session f =
    if f.tag == 10 then on_missing_features a (payload ident_missing_features_layout.form f)
    else on_server_ident Open a s session (due 9 server_ident_layout.form f)

-- by the stage of the link
abbrev pub turned_at : MonClientArrival → Stage → Turned MonClient Stage
turned_at a (AwaitsBanner asked) = turned_by (λ link _. on_banner (at a link) asked) (banner_next a.link)
turned_at a (AwaitsHello asked) = turned_by (λ (link, f) _. on_hello (at a link) asked (due 1 hello_layout.form f)) (plain_next a.link)
turned_at a (AwaitsChallenge asked) = turned_by (λ (link, f) _. while_challenged (at a link) asked f) (plain_next a.link)
turned_at a AwaitsDone = turned_by (λ (link, f) _. while_proved (at a link) f) (plain_next a.link)
turned_at a (AwaitsSignature s login) =
    turned_by (λ (link, f, keys) opened. with_opened opened (on_signature (at a link) (under s keys) login (due 7 auth_signature_layout.form f))) (secure_next s.keys a.link)
turned_at a (AwaitsIdent s session) =
    turned_by (λ (link, f, keys) opened. with_opened opened (while_identified (at a link) (under s keys) session f)) (secure_next s.keys a.link)
turned_at a (Open s requests) =
    turned_by (λ (link, f, keys) opened. with_opened opened (on_open Open (at a link) (under s keys) requests f)) (secure_next s.keys a.link)

-- whether a link is open
abbrev pub is_open : Stage → Bool
is_open (Open s requests) = true
is_open _ = false

-- what an open link keeps
abbrev pub kept_open : Stage → Option (Secured × Requests)
kept_open (Open s requests) = Some (s, requests)
kept_open _ = None

-- whether a link is open and no request waits on it
abbrev pub is_quiet : Stage → Bool
is_quiet (Open s requests) = not (is_waiting requests)
is_quiet _ = false
