-- What a row says of a secured link hangs on the bytes that are left on it alone, and not on those that were taken.
use Rattle.std.proofs.Common.{◌≡◌, ℕ, ◌==◌, Bool, true, false, [], ◌∷◌, Result, Ok, Err, refl, sym, ap, ◌∙◌}
use Rattle.std.specs.Prelude.{if◌then◌else◌}
use Rattle.cx_control.specs.Idents.{client_ident_layout, ident_missing_features_layout}
use Rattle.cx_control.specs.Reconnects.{session_reconnect_layout}
use Rattle.cx_control.specs.declared.auth.AuthSignature.{AuthSignature}
use Rattle.cx_control.specs.declared.idents.ClientIdent.{ClientIdent}
use Rattle.cx_control.specs.declared.reconnects.SessionReconnect.{SessionReconnect}
use Rattle.cx_node.proofs.steps.Keeping.{keepalive-row, other-row}
use Rattle.cx_node.specs.steps.Stages.{keys_alone}
use Rattle.cx_node.specs.steps.Upkeep.{is_keepalive, upkept}
use Rattle.cx_frame.specs.declared.frame.Frame.{Frame}
use Rattle.cx_journal.specs.declared.faults.BytesFault.{BytesFault}
use Rattle.cx_journal.specs.declared.faults.BytesFault.TheVariants.{Unexpected}
use Rattle.cx_journal.specs.declared.faults.LoginFault.TheVariants.{SignatureWrong}
use Rattle.cx_journal.specs.declared.outcomes.Reason.{Reason}
use Rattle.cx_journal.specs.declared.outcomes.Reason.TheVariants.{Login}
use Rattle.cx_keyserver.specs.Servers.{Server}
use Rattle.cx_rules.specs.Acceptor.{AwaitsIdent, Open, missing_told, misses, on_signature, server_ident}
use Rattle.cx_rules.specs.Abridged.{abridged_link}
use Rattle.cx_rules.specs.Monitor.{Monitor, MonitorArrival, MonitorRow, MonitorStage}
use Rattle.cx_rules.specs.MonitorRule.{on_client_ident, on_ident, on_session_reconnect, session_reset}
use Rattle.cx_rules.specs.MonitorRequests.{heard, on_demand, on_message, on_open, reply_message, request_occasion, responds, row_responding, sends_reply, serving}
use Rattle.cx_rules.specs.Replies.{Responded, answers}
use Rattle.cx_rules.specs.declared.responses.Bearer.{Bearer}
use Rattle.cx_rules.specs.declared.responses.Demand.{Demand}
use Rattle.cx_rules.specs.declared.responses.ReplyMade.{ReplyMade}
use Rattle.cx_rules.specs.declared.responses.Response.{Response}
use Rattle.cx_rules.specs.declared.responses.Response.TheVariants.{Refuses, Replies}
use Rattle.cx_rules.specs.Payloads.{control, payload}
use Rattle.cx_rules.specs.Rows.{goes_on, refuses, refuses_bytes, secure_sent, sends_secure}
use Rattle.cx_rules.specs.Secured.{Keys, SealedFrame, Secured, is_signed, secure_frame, signature_found}
use Rattle.cx_node.proofs.steps.Handling.{Coming, Same, left, taken}
use Rattle.cx_node.specs.steps.Making.{row_due}

abbrev pub MonitorComing : Type 0
MonitorComing = Coming Monitor MonitorStage

abbrev pub SameRow : MonitorComing → (MonitorArrival → MonitorRow) → Type 0
SameRow h row = Same abridged_link h row

-- ---- AUTH_SIGNATURE

signed : (h : MonitorComing) (s : Secured) (bearer : Bearer) (b : Bool)
    → SameRow h (λ a. if b then goes_on a (AwaitsIdent s bearer) [] (signature_found s ∷ []) else refuses a (Login SignatureWrong) [])
signed h s bearer true = refl
signed h s bearer false = refl

pub signature-same : (h : MonitorComing) (s : Secured) (bearer : Bearer) (read : Result AuthSignature BytesFault) → SameRow h (λ a. on_signature a s bearer read)
signature-same h s bearer (Err why) = refl
signature-same h s bearer (Ok found) = signed h s bearer (is_signed s found.signature)

-- ---- CLIENT_IDENT, SESSION_RECONNECT

opens-same : (h : MonitorComing) (s : Secured) (bearer : Bearer) (r : Result SealedFrame BytesFault) → SameRow h (λ a. secure_sent a s (λ behind. Open behind bearer) [] r)
opens-same h s bearer (Ok sealed) = refl
opens-same h s bearer (Err why) = refl

waits-same : (h : MonitorComing) (s : Secured) (bearer : Bearer) (r : Result SealedFrame BytesFault) → SameRow h (λ a. secure_sent a s (λ behind. AwaitsIdent behind bearer) [] r)
waits-same h s bearer (Ok sealed) = refl
waits-same h s bearer (Err why) = refl

told-same : (h : MonitorComing) (features : ℕ) (r : Result SealedFrame BytesFault) → SameRow h (λ a. missing_told a features r)
told-same h features (Ok sealed) = refl
told-same h features (Err why) = refl

features-same : (h : MonitorComing) (s : Secured) (bearer : Bearer) (required : ℕ) (b : Bool)
    → SameRow h (λ a. if b then sends_secure a s (λ behind. Open behind bearer) [] (server_ident a.own.address 1 0) else misses a s required)
features-same h s bearer required true = opens-same h s bearer (secure_frame s.keys (server_ident h.a.own.address 1 0))
features-same h s bearer required false =
    told-same h required (secure_frame s.keys (control 10 ident_missing_features_layout.form (record { features = required })))

client-same : (h : MonitorComing) (s : Secured) (bearer : Bearer) (read : Result ClientIdent BytesFault) → SameRow h (λ a. on_client_ident a s bearer read)
client-same h s bearer (Err why) = refl
client-same h s bearer (Ok ident) = features-same h s bearer ident.required (ident.required == 0)

reconnect-same : (h : MonitorComing) (s : Secured) (bearer : Bearer) (read : Result SessionReconnect BytesFault) → SameRow h (λ a. on_session_reconnect a s bearer read)
reconnect-same h s bearer (Err why) = refl
reconnect-same h s bearer (Ok reconnect) = waits-same h s bearer (secure_frame s.keys session_reset)

tags-same : (h : MonitorComing) (s : Secured) (bearer : Bearer) (f : Frame) (b c : Bool) → SameRow h (λ a.
    if b then on_client_ident a s bearer (payload client_ident_layout.form f)
    else if c then on_session_reconnect a s bearer (payload session_reconnect_layout.form f)
    else refuses_bytes a (Unexpected f.tag) [])
tags-same h s bearer f true c = client-same h s bearer (payload client_ident_layout.form f)
tags-same h s bearer f false true = reconnect-same h s bearer (payload session_reconnect_layout.form f)
tags-same h s bearer f false false = refl

pub ident-same : (h : MonitorComing) (s : Secured) (bearer : Bearer) (f : Frame) → SameRow h (λ a. on_ident a s bearer f)
ident-same h s bearer f = tags-same h s bearer f (f.tag == 8) (f.tag == 11)

-- ---- keepalives, and messages

reply-same : (h : MonitorComing) (s : Secured) (bearer : Bearer) (seq : ℕ) (made : ReplyMade) (r : Result SealedFrame BytesFault)
    → SameRow h (λ a. sends_reply Open a s bearer seq made r)
reply-same h s bearer seq made (Ok sealed) = refl
reply-same h s bearer seq made (Err why) = refl

responds-same : (h : MonitorComing) (s : Secured) (bearer : Bearer) (demand : Demand) (server : Server) (response : Response)
    → SameRow h (λ a. responds Open (serving a server) s bearer demand response)
responds-same h s bearer demand server (Refuses why drawn) = refl
responds-same h s bearer demand server (Replies made) =
    reply-same (record h { a = serving h.a server }) s bearer demand.seq made (secure_frame s.keys (reply_message demand.tid made.body))

message-same : (h : MonitorComing) (s : Secured) (bearer : Bearer) (heard : Result Demand Reason) → SameRow h (λ a. on_demand Open a s bearer heard)
message-same h s bearer (Err why) = refl
message-same h s bearer (Ok demand) = by_response (answers (request_occasion h.a) h.a.own.server bearer demand.request)
  where
    by_response : (r : Responded) → SameRow h (λ a. row_responding Open a s bearer demand r)
    by_response r = responds-same h s bearer demand r.server r.response

pub open-same : (h : MonitorComing) (keys : Keys) (bearer : Bearer) (f : Frame) → SameRow h (λ a. on_open Open a (keys_alone keys) bearer f)
open-same h keys bearer f = by_tag (is_keepalive f) refl
  where
    due : MonitorRow → MonitorRow
    due row = row_due abridged_link row

    open_under : Secured → MonitorStage
    open_under behind = Open behind bearer

    other : MonitorArrival → Frame → MonitorRow
    other a g = on_message Open a (keys_alone keys) bearer g

    by_tag : (is : Bool) → is_keepalive f ≡ is → SameRow h (λ a. on_open Open a (keys_alone keys) bearer f)
    by_tag true is =
        ap due (keepalive-row (taken h) keys open_under (other (taken h)) f is) ∙ opens-same h (keys_alone keys) bearer (upkept keys f)
        ∙ sym (ap due (keepalive-row (left h) keys open_under (other (left h)) f is))
    by_tag false is =
        ap due (other-row (taken h) (keys_alone keys) open_under (other (taken h)) f is) ∙ message-same h (keys_alone keys) bearer (heard bearer f)
        ∙ sym (ap due (other-row (left h) (keys_alone keys) open_under (other (left h)) f is))
