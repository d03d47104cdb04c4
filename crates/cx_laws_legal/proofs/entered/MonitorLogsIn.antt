-- What the monitor enters until a login is done: no operation, and no refusal of a ticket.
use Rattle.std.proofs.Common.{ℕ, ◌==◌, Bool, true, false, List, [], ◌∷◌, Option, Some, None, Result, Ok, Err}
use Rattle.std.specs.Prelude.{not, if◌then◌else◌}
use Rattle.std.specs.List.{AllByRecursion, list_any}
use Rattle.cx_control.specs.Idents.{client_ident_layout}
use Rattle.cx_control.specs.Reconnects.{session_reconnect_layout}
use Rattle.cx_control.specs.declared.auth.AuthRequest.{AuthRequest}
use Rattle.cx_control.specs.declared.auth.AuthRequestMore.{AuthRequestMore}
use Rattle.cx_control.specs.declared.auth.AuthSignature.{AuthSignature}
use Rattle.cx_control.specs.declared.hello.Hello.{Hello}
use Rattle.cx_control.specs.declared.idents.ClientIdent.{ClientIdent}
use Rattle.cx_control.specs.declared.reconnects.SessionReconnect.{SessionReconnect}
use Rattle.cx_frame.specs.declared.frame.Frame.{Frame}
use Rattle.cx_journal.specs.declared.faults.BytesFault.{BytesFault}
use Rattle.cx_journal.specs.declared.faults.BytesFault.TheVariants.{Unexpected}
use Rattle.cx_journal.specs.declared.faults.LoginFault.TheVariants.{Method, Mode, SignatureWrong}
use Rattle.cx_journal.specs.declared.outcomes.Reason.TheVariants.{Login}
use Rattle.cx_keyring.specs.declared.entries.Entry.{Entry as Principal}
use Rattle.cx_login.specs.Monitor.{Proven}
use Rattle.cx_login.specs.declared.refusals.WrongProof.{WrongProof}
use Rattle.cx_wire.specs.declared.logins.Authenticate.{Authenticate}
use Rattle.cx_wire.specs.declared.logins.LoginHello.{LoginHello}
use Rattle.cx_laws_run.specs.cx_rules.specs.Acceptor.{AwaitsIdent, Open, Finished, denies, finished, misses, missing_told, on_auth_request, on_hello, on_signature, server_ident}
use Rattle.cx_laws_run.specs.cx_rules.specs.Monitor.{MonitorArrival, MonitorStage, Offered}
use Rattle.cx_laws_run.specs.cx_rules.specs.MonitorLogin.{challenges, done_frame, hands_over, occasion, on_authenticate, on_login_hello, proves, row_by, with_server}
use Rattle.cx_laws_run.specs.cx_rules.specs.MonitorRule.{on_auth_request_more, on_client_ident, on_ident, on_request_payload, on_session_reconnect}
use Rattle.cx_laws_run.specs.cx_rules.specs.Payloads.{payload}
use Rattle.cx_laws_run.specs.cx_rules.specs.Rows.{goes_on, plain_sent, refuses, refuses_bytes, secure_sent, sends_secure}
use Rattle.cx_laws_run.specs.cx_rules.specs.Secured.{SealedFrame, Secured, is_signed, signature_found}
use Rattle.cx_laws_run.specs.cx_rules.specs.Verdicts.{Decided, rotates}
use Rattle.cx_laws_run.specs.cx_rules.specs.declared.verdicts.HandedOut.{HandedOut}
use Rattle.cx_laws_run.specs.cx_rules.specs.declared.verdicts.Verdict.{Verdict}
use Rattle.cx_laws_run.specs.cx_rules.specs.declared.verdicts.Verdict.TheVariants.{Denied, Granted}
use Rattle.cx_laws_run.specs.cx_rules.specs.declared.responses.Bearer.{Bearer}
use Rattle.cx_steps.specs.declared.seals.SealEntry.{SealEntry}
use Rattle.cx_laws_legal.proofs.entered.MonitorHands.{VerdictIsPlain, rotates-plain}
use Rattle.cx_laws_legal.proofs.entered.Shown.{IsPlain, RowIsPlain}

-- ---- rows

pub sent-plain : (a : MonitorArrival) (stage : MonitorStage) (seals : List SealEntry) (r : Result (List ℕ) BytesFault) → RowIsPlain (plain_sent a stage seals r)
sent-plain a stage seals (Ok bytes) = tt
sent-plain a stage seals (Err why) = (tt, tt)

pub secure_sent-plain : (a : MonitorArrival) (s : Secured) (stage : Secured → MonitorStage) (seals : List SealEntry) (r : Result SealedFrame BytesFault) → RowIsPlain (secure_sent a s stage seals r)
secure_sent-plain a s stage seals (Ok sealed) = tt
secure_sent-plain a s stage seals (Err why) = (tt, tt)

-- ---- HELLO, AUTH_REQUEST

pub hello-plain : (a : MonitorArrival) (hello : Result Hello BytesFault) → RowIsPlain (on_hello a hello)
hello-plain a (Ok hello) = tt
hello-plain a (Err why) = (tt, tt)

challenges-plain : (a : MonitorArrival) (hello : LoginHello) (principal : Option Principal) → RowIsPlain (challenges a hello principal)
challenges-plain a hello None = (tt, tt)
challenges-plain a hello (Some principal) = sent-plain a _ _ _

login_hello-plain : (a : MonitorArrival) (hello : Result LoginHello BytesFault) → RowIsPlain (on_login_hello a hello)
login_hello-plain a (Err why) = (tt, tt)
login_hello-plain a (Ok hello) = challenges-plain a hello _

pub request-plain : (a : MonitorArrival) (request : Result AuthRequest BytesFault) → RowIsPlain (on_auth_request on_request_payload a request)
request-plain a (Err why) = (tt, tt)
request-plain a (Ok request) = by_tests (not (request.method == 2)) (not (list_any (λ mode. mode == 2) request.modes))
  where
    by_tests : (other plain : Bool) → RowIsPlain (if other then denies a 95 Method [] else if plain then denies a 95 Mode [] else on_request_payload a request.payload)
    by_tests true plain = (tt, tt)
    by_tests false true = (tt, tt)
    by_tests false false = login_hello-plain a _

-- ---- AUTH_REQUEST_MORE

hands_over-plain : (a : MonitorArrival) (h : HandedOut) (done : Result Finished BytesFault) → AllByRecursion IsPlain h.entries → RowIsPlain (hands_over a h done)
hands_over-plain a h (Err why) plain = (tt, tt)
hands_over-plain a h (Ok done) plain = plain

verdict-plain : (a : MonitorArrival) (v : Verdict) → VerdictIsPlain v → RowIsPlain (row_by a v)
verdict-plain a (Denied why seals) plain = (tt, tt)
verdict-plain a (Granted h) plain = hands_over-plain a h (finished a.link h.session h.secret (done_frame h.payload)) plain

proves-plain : (a : MonitorArrival) (gid : ℕ) (r : Result Proven WrongProof) → RowIsPlain (proves a gid r)
proves-plain a gid (Err wrong) = (tt, tt)
proves-plain a gid (Ok proven) =
    let d : Decided = rotates (occasion a) a.own.server gid proven in
    verdict-plain (with_server a d.server) d.verdict (rotates-plain (occasion a) a.own.server gid proven)

authenticate-plain : (a : MonitorArrival) (offered : Offered) (ask : Result Authenticate BytesFault) → RowIsPlain (on_authenticate a offered ask)
authenticate-plain a offered (Err why) = (tt, tt)
authenticate-plain a offered (Ok ask) = proves-plain a offered.gid _

pub request_more-plain : (a : MonitorArrival) (offered : Offered) (more : Result AuthRequestMore BytesFault) → RowIsPlain (on_auth_request_more a offered more)
request_more-plain a offered (Err why) = (tt, tt)
request_more-plain a offered (Ok more) = authenticate-plain a offered _

-- ---- AUTH_SIGNATURE, CLIENT_IDENT, SESSION_RECONNECT

pub signature-plain : (a : MonitorArrival) (s : Secured) (bearer : Bearer) (found : Result AuthSignature BytesFault) → RowIsPlain (on_signature a s bearer found)
signature-plain a s bearer (Err why) = (tt, tt)
signature-plain a s bearer (Ok found) = by_test (is_signed s found.signature)
  where
    by_test : (right : Bool) → RowIsPlain (if right then goes_on a (AwaitsIdent s bearer) [] (signature_found s ∷ []) else refuses a (Login SignatureWrong) [])
    by_test true = tt
    by_test false = (tt, tt)

missing-plain : (a : MonitorArrival) (features : ℕ) (sealed : Result SealedFrame BytesFault) → RowIsPlain (missing_told a features sealed)
missing-plain a features (Err why) = (tt, tt)
missing-plain a features (Ok sealed) = (tt, tt)

client_ident-plain : (a : MonitorArrival) (s : Secured) (bearer : Bearer) (ident : Result ClientIdent BytesFault) → RowIsPlain (on_client_ident a s bearer ident)
client_ident-plain a s bearer (Err why) = (tt, tt)
client_ident-plain a s bearer (Ok ident) = by_test (ident.required == 0)
  where
    by_test : (plain : Bool) → RowIsPlain (if plain then sends_secure a s (λ behind. Open behind bearer) [] (server_ident a.own.address 1 0) else misses a s ident.required)
    by_test true = secure_sent-plain a s (λ behind. Open behind bearer) [] _
    by_test false = missing-plain a ident.required _

reconnect-plain : (a : MonitorArrival) (s : Secured) (bearer : Bearer) (reconnect : Result SessionReconnect BytesFault) → RowIsPlain (on_session_reconnect a s bearer reconnect)
reconnect-plain a s bearer (Err why) = (tt, tt)
reconnect-plain a s bearer (Ok reconnect) = secure_sent-plain a s (λ behind. AwaitsIdent behind bearer) [] _

pub ident-plain : (a : MonitorArrival) (s : Secured) (bearer : Bearer) (f : Frame) → RowIsPlain (on_ident a s bearer f)
ident-plain a s bearer f = by_tests (f.tag == 8) (f.tag == 11)
  where
    by_tests : (client reconnect : Bool) → RowIsPlain (if client then on_client_ident a s bearer (payload client_ident_layout.form f)
        else if reconnect then on_session_reconnect a s bearer (payload session_reconnect_layout.form f) else refuses_bytes a (Unexpected f.tag) [])
    by_tests true reconnect = client_ident-plain a s bearer (payload client_ident_layout.form f)
    by_tests false true = reconnect-plain a s bearer (payload session_reconnect_layout.form f)
    by_tests false false = (tt, tt)
