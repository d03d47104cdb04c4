-- What a row says of a secured link hangs on the bytes that are left on it alone, and not on those that were taken, and on its keys alone once
-- the peer's signature was found right.
use Rattle.std.proofs.Common.{◌≡◌, ℕ, ◌==◌, Bool, true, false, List, [], ◌∷◌, Result, Ok, Err, refl, sym, ap, ◌∙◌}
use Rattle.std.specs.Prelude.{if◌then◌else◌}
use Rattle.cx_control.specs.Idents.{ident_missing_features_layout, server_ident_layout}
use Rattle.cx_control.specs.declared.auth.AuthSignature.{AuthSignature}
use Rattle.cx_control.specs.declared.idents.IdentMissingFeatures.{IdentMissingFeatures}
use Rattle.cx_control.specs.declared.idents.ServerIdent.{ServerIdent}
use Rattle.cx_node.specs.cx_dice.specs.Draws.{cookie_of}
use Rattle.cx_node.proofs.steps.Keeping.{keepalive-row, other-row}
use Rattle.cx_node.specs.steps.Stages.{keys_alone}
use Rattle.cx_node.specs.steps.Upkeep.{is_keepalive, upkept}
use Rattle.cx_frame.specs.declared.frame.Frame.{Frame}
use Rattle.cx_journal.specs.declared.faults.BytesFault.{BytesFault}
use Rattle.cx_journal.specs.declared.faults.LoginFault.TheVariants.{SignatureWrong}
use Rattle.cx_base.specs.Names.{is_daemon_type}
use Rattle.cx_journal.specs.declared.outcomes.Reason.{Reason}
use Rattle.cx_journal.specs.declared.outcomes.Reason.TheVariants as reason
use Rattle.cx_login.specs.cx_wire.specs.declared.bodies.Request.TheVariants as asked
use Rattle.cx_node.specs.cx_rules.specs.Connector.{MonClientArrival, MonClientRow, Stage, AwaitsIdent, Open, Login, client_ident, holding, identifies, on_missing_features, on_signature, while_identified}
use Rattle.cx_node.specs.cx_rules.specs.Holdings.{MonClient, Holdings, held_login}
use Rattle.cx_node.specs.cx_rules.specs.Payloads as payload
use Rattle.cx_node.specs.cx_rules.specs.Abridged.{abridged_mon_client_link}
use Rattle.cx_node.specs.cx_rules.specs.Requests.{Requests, asks_rotating, no_requests, on_open, on_reply, on_server_ident, sealed_request, sends_request, taken as taken_of, takes}
use Rattle.cx_node.specs.cx_rules.specs.Rows.{goes_on, refuses, secure_sent}
use Rattle.cx_node.specs.cx_rules.specs.Secured.{Keys, SealedFrame, Secured, is_signed, secure_frame, signature_found}
use Rattle.cx_node.specs.cx_rules.specs.declared.requests.Taken.{Taken}
use Rattle.cx_node.specs.cx_rules.specs.declared.requests.Taken.TheVariants.{Refuses, Holds, Views}
use Rattle.cx_node.specs.cx_rules.specs.declared.requests.Want.{Want}
use Rattle.cx_node.specs.cx_rules.specs.declared.requests.Want.TheVariants.{Rotating}
use Rattle.cx_steps.specs.declared.seals.DrawMark.TheVariants as draw
use Rattle.cx_steps.specs.declared.seals.SealEntry.{SealEntry}
use Rattle.cx_steps.specs.declared.seals.SealEntry.TheVariants.{Drawn}
use Rattle.cx_node.proofs.steps.Handling.{Coming, Same, left, taken}
use Rattle.cx_node.specs.steps.Making.{row_due}
use Rattle.cx_monclient.specs.connector.Rows.{identified}

abbrev pub MonClientComing : Type 0
MonClientComing = Coming MonClient Stage

abbrev pub SameRow : MonClientComing → (MonClientArrival → MonClientRow) → Type 0
SameRow h row = Same abridged_mon_client_link h row

abbrev due : MonClientRow → MonClientRow
due row = row_due abridged_mon_client_link row

-- ---- AUTH_SIGNATURE

-- what is logged before CLIENT_IDENT
abbrev ident_seals : Secured → List ℕ → List SealEntry
ident_seals s drawn = signature_found s ∷ Drawn (draw.Cookie (cookie_of drawn)) ∷ []

ident_sent : (h : MonClientComing) (s : Secured) (session : List ℕ) (holdings : Holdings) (seals : List SealEntry) (r : Result SealedFrame BytesFault)
    → SameRow h (λ a. secure_sent (holding a holdings) s (λ behind. AwaitsIdent behind session) seals r)
ident_sent h s session holdings seals (Ok sealed) = refl
ident_sent h s session holdings seals (Err why) = refl

signed : (h : MonClientComing) (s : Secured) (login : Login) (b : Bool)
    → SameRow h (λ a. if b then identifies a s login else refuses a (reason.Login SignatureWrong) [])
signed h s login true =
    ident_sent h s login.opened.auth.session (held_login h.a.own.holdings login.gid login.opened) (ident_seals s h.a.draw)
    (secure_frame s.keys (client_ident h.a.own login.gid 1 (cookie_of h.a.draw)))
signed h s login false = refl

pub signature-same : (h : MonClientComing) (s : Secured) (login : Login) (read : Result AuthSignature BytesFault) → SameRow h (λ a. on_signature a s login read)
signature-same h s login (Err why) = refl
signature-same h s login (Ok found) = signed h s login (is_signed s found.signature)

-- only the keys of the link matter
keys_matter : (a : MonClientArrival) (s : Secured) (session : List ℕ) (seals : List SealEntry) (r : Result SealedFrame BytesFault)
    → due (secure_sent a s (λ behind. AwaitsIdent behind session) seals r) ≡ due (secure_sent a (keys_alone s.keys) (λ behind. AwaitsIdent behind session) seals r)
keys_matter a s session seals (Ok sealed) = refl
keys_matter a s session seals (Err why) = refl

pub identified-is : (a : MonClientArrival) (s : Secured) (login : Login)
    → row_due abridged_mon_client_link (identifies a s login) ≡ row_due abridged_mon_client_link (identified a s.keys (signature_found s) login)
identified-is a s login =
    keys_matter (holding a (held_login a.own.holdings login.gid login.opened)) s login.opened.auth.session (ident_seals s a.draw)
    (secure_frame s.keys (client_ident a.own login.gid 1 (cookie_of a.draw)))

-- ---- SERVER_IDENT, IDENT_MISSING_FEATURES

request-same : (h : MonClientComing) (s : Secured) (r : Requests) (want : Want) (sealed : Result SealedFrame Reason) → SameRow h (λ a. sends_request Open a s r want sealed)
request-same h s r want (Ok sealed) = refl
request-same h s r want (Err why) = refl

opens-same : (h : MonClientComing) (s : Secured) (r : Requests) (b : Bool) → SameRow h (λ a. if b then asks_rotating Open a s r else goes_on a (Open s r) [] [])
opens-same h s r true = request-same h s r (Rotating h.a.reading) (sealed_request s.keys r asked.Rotating)
opens-same h s r false = refl

server-same : (h : MonClientComing) (s : Secured) (session : List ℕ) (read : Result ServerIdent BytesFault) → SameRow h (λ a. on_server_ident Open a s session read)
server-same h s session (Err why) = refl
server-same h s session (Ok ident) = opens-same h s (no_requests session) (is_daemon_type h.a.own.name.kind)

missing-same : (h : MonClientComing) (read : Result IdentMissingFeatures BytesFault) → SameRow h (λ a. on_missing_features a read)
missing-same h (Err why) = refl
missing-same h (Ok missing) = refl

tags-same : (h : MonClientComing) (s : Secured) (session : List ℕ) (f : Frame) (b : Bool) → SameRow h (λ a.
    if b then on_missing_features a (payload.payload ident_missing_features_layout.form f)
    else on_server_ident Open a s session (payload.due 9 server_ident_layout.form f))
tags-same h s session f true = missing-same h (payload.payload ident_missing_features_layout.form f)
tags-same h s session f false = server-same h s session (payload.due 9 server_ident_layout.form f)

pub ident-same : (h : MonClientComing) (s : Secured) (session : List ℕ) (f : Frame) → SameRow h (λ a. while_identified a s session f)
ident-same h s session f = tags-same h s session f (f.tag == 10)

-- ---- a frame on an open link

open_sent : (h : MonClientComing) (s : Secured) (requests : Requests) (r : Result SealedFrame BytesFault)
    → SameRow h (λ a. secure_sent a s (λ behind. Open behind requests) [] r)
open_sent h s requests (Ok sealed) = refl
open_sent h s requests (Err why) = refl

takes-same : (h : MonClientComing) (s : Secured) (requests : Requests) (taken : Taken) → SameRow h (λ a. takes Open a s requests taken)
takes-same h s requests (Refuses why opened) = refl
takes-same h s requests (Holds held opened) = refl
takes-same h s requests (Views reading generations opened) = refl

-- the row of a frame that may be a keepalive
open-by : (h : MonClientComing) (keys : Keys) (requests : Requests) (f : Frame) (b : Bool) → is_keepalive f ≡ b → SameRow h (λ a. on_open Open a (keys_alone keys) requests f)
open-by h keys requests f true is =
    ap due (keepalive-row (taken h) keys (λ behind. Open behind requests) (on_reply Open (taken h) (keys_alone keys) requests) f is)
    ∙ open_sent h (keys_alone keys) requests (upkept keys f)
    ∙ sym (ap due (keepalive-row (left h) keys (λ behind. Open behind requests) (on_reply Open (left h) (keys_alone keys) requests) f is))
open-by h keys requests f false is =
    ap due (other-row (taken h) (keys_alone keys) (λ behind. Open behind requests) (on_reply Open (taken h) (keys_alone keys) requests) f is)
    ∙ takes-same h (keys_alone keys) requests (taken_of h.a.own.secret requests f)
    ∙ sym (ap due (other-row (left h) (keys_alone keys) (λ behind. Open behind requests) (on_reply Open (left h) (keys_alone keys) requests) f is))

pub open-same : (h : MonClientComing) (keys : Keys) (requests : Requests) (f : Frame) → SameRow h (λ a. on_open Open a (keys_alone keys) requests f)
open-same h keys requests f = open-by h keys requests f (is_keepalive f) refl
