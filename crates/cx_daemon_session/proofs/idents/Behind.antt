-- What a frame behind the peer's signature decides hangs on the bytes that are left on the link alone, and not on those that were taken.
use Rattle.std.proofs.Common.{◌≡◌, ℕ, ◌==◌, Bool, true, false, [], ◌∷◌, Option, Some, Result, Ok, Err, inl, inr, refl}
use Rattle.std.proofs.lemmas.Bool.Decides.{eqb_tells}
use Rattle.std.specs.Prelude.{if◌then◌else◌}
use Rattle.cx_daemon_session.specs.cx_authorize.specs.Daemon.{Authority}
use Rattle.cx_control.specs.Idents.{client_ident_layout, ident_missing_features_layout}
use Rattle.cx_control.specs.Reconnects.{session_reconnect_layout}
use Rattle.cx_control.specs.declared.idents.ClientIdent.{ClientIdent}
use Rattle.cx_control.specs.declared.reconnects.SessionReconnect.{SessionReconnect}
use Rattle.cx_dice.specs.Draws.{cookie_of}
use Rattle.cx_frame.specs.declared.frame.Frame.{Frame}
use Rattle.cx_journal.specs.declared.entries.Entry.TheVariants as entry
use Rattle.cx_journal.specs.declared.faults.BytesFault.{BytesFault}
use Rattle.cx_journal.specs.declared.faults.BytesFault.TheVariants.{Unexpected}
use Rattle.cx_journal.specs.declared.faults.SessionFault.TheVariants as session
use Rattle.cx_journal.specs.declared.outcomes.Reason.{Reason}
use Rattle.cx_journal.specs.declared.outcomes.Reason.TheVariants as reason
use Rattle.cx_node.specs.cx_rules.specs.Acceptor.{AwaitsIdent, Open, missing_told, misses, server_ident}
use Rattle.cx_node.specs.cx_rules.specs.MonitorRule.{session_reset}
use Rattle.cx_node.specs.cx_rules.specs.Payloads.{control, payload}
use Rattle.cx_node.specs.cx_rules.specs.Rows.{Handles, refused_entry, refuses_bytes, secure_sent}
use Rattle.cx_node.specs.cx_rules.specs.Secured.{SealedFrame, Secured, secure_frame}
use Rattle.cx_daemon_session.specs.cx_rules_session.specs.Asks.{Finished}
use Rattle.cx_daemon_session.specs.cx_rules_session.specs.IncomingLinks.{IncomingRow, IncomingStage, Served}
use Rattle.cx_daemon_session.specs.cx_rules_session.specs.Hosting.{Deciding, Hosted, admission_of, asks_admission, comes_to, cookie_drawn, on_admission, on_client_ident, on_ident, on_reconnect, on_resumption, reconnect_ok, served_as, session_retry, session_retry_global, tells_why}
use Rattle.cx_daemon_session.specs.cx_rules_session.specs.Kinds.{entered_before}
use Rattle.cx_daemon_session.specs.cx_rules_session.specs.Lossy.{is_lossy, lossy_flags}
use Rattle.cx_session.specs.declared.call.BookFault.TheVariants as fault
use Rattle.cx_session.specs.declared.call.BookReply.{BookReply}
use Rattle.cx_session.specs.declared.call.BookReply.TheVariants as reply
use Rattle.cx_daemon_session.proofs.coming.Deciding.{IncomingComing, SameDecided}

-- ---- CLIENT_IDENT

admitted-same : (h : IncomingComing) (s : Secured) (owner : Authority) (ident : ClientIdent) (number epoch : ℕ) (served : Served) (r : Result SealedFrame BytesFault)
    → SameDecided h (λ a. comes_to (entered_before (entry.Admitted (admission_of a owner number epoch ident.cookie))
    (secure_sent a s (λ behind. Open behind served) (cookie_drawn a ∷ []) r)))
admitted-same h s owner ident number epoch served (Ok sealed) opened = refl
admitted-same h s owner ident number epoch served (Err why) opened = refl

admission-same : (h : IncomingComing) (s : Secured) (owner : Authority) (ident : ClientIdent) (r : BookReply) → SameDecided h (λ a. on_admission a s owner ident r)
admission-same h s owner ident (reply.Admitted number epoch) opened =
    admitted-same h s owner ident number epoch (served_as owner number epoch ident.cookie (is_lossy ident.flags))
    (secure_frame s.keys (server_ident h.a.own.address (lossy_flags (is_lossy ident.flags)) (cookie_of h.a.draw))) opened
admission-same h s owner ident (reply.Refused (fault.CookieInUse number)) opened = refl
admission-same h s owner ident (reply.Refused (fault.BookFull limit)) opened = refl
admission-same h s owner ident (reply.Refused fault.Spent) opened = refl
admission-same h s owner ident _ opened = refl

missing-same : (h : IncomingComing) (features : ℕ) (r : Result SealedFrame BytesFault) → SameDecided h (λ a. comes_to (missing_told a features r))
missing-same h features (Ok sealed) opened = refl
missing-same h features (Err why) opened = refl

required-same : (h : IncomingComing) (s : Secured) (owner : Authority) (ident : ClientIdent) (none : Bool)
    → SameDecided h (λ a. if none then asks_admission a s owner ident else comes_to (misses a s ident.required))
required-same h s owner ident true opened = (refl, λ r. admission-same h s owner ident r opened)
required-same h s owner ident false opened =
    missing-same h ident.required (secure_frame s.keys (control 10 ident_missing_features_layout.form (record { features = ident.required }))) opened

client-same : (h : IncomingComing) (s : Secured) (owner : Authority) (read : Result ClientIdent BytesFault) → SameDecided h (λ a. on_client_ident a s owner read)
client-same h s owner (Ok ident) opened = required-same h s owner ident (ident.required == 0) opened
client-same h s owner (Err why) opened = refl

-- ---- SESSION_RECONNECT

resumed-same : (h : IncomingComing) (s : Secured) (owner : Authority) (reconnect : SessionReconnect) (number epoch : ℕ) (served : Served) (r : Result SealedFrame BytesFault)
    → SameDecided h (λ a. let hosted : Hosted = record {
      turned = Handles (entered_before (entry.Resumed (admission_of a owner number epoch reconnect.client_cookie)) (secure_sent a s (λ behind. Open behind served) [] r));
      moved = Some number;
    } in let rule : Deciding Hosted = Finished hosted in rule)
resumed-same h s owner reconnect number epoch served (Ok sealed) opened = refl
resumed-same h s owner reconnect number epoch served (Err why) opened = refl

told-same : (h : IncomingComing) (s : Secured) (owner : Authority) (why : Reason) (r : Result SealedFrame BytesFault)
    → SameDecided h (λ a. comes_to (entered_before (refused_entry a.me a.link.number why) (secure_sent a s (λ behind. AwaitsIdent behind owner) [] r)))
told-same h s owner why (Ok sealed) opened = refl
told-same h s owner why (Err fault) opened = refl

why-same : (h : IncomingComing) (s : Secured) (owner : Authority) (why : Reason) (f : Frame) → SameDecided h (λ a. tells_why a s owner why f)
why-same h s owner why f = told-same h s owner why (secure_frame s.keys f)

resumption-same : (h : IncomingComing) (s : Secured) (owner : Authority) (reconnect : SessionReconnect) (r : BookReply)
    → SameDecided h (λ a. on_resumption a s owner reconnect r)
resumption-same h s owner reconnect (reply.Resumed number epoch last lossy) opened =
    resumed-same h s owner reconnect number epoch (served_as owner number epoch reconnect.client_cookie lossy) (secure_frame s.keys (reconnect_ok last)) opened
resumption-same h s owner reconnect (reply.Refused fault.Unknown) opened = why-same h s owner (reason.Session session.UnknownSession) session_reset opened
resumption-same h s owner reconnect (reply.Refused (fault.OwnerDiffers entity gid)) opened =
    why-same h s owner (reason.Session (session.OwnerDiffers entity gid)) session_reset opened
resumption-same h s owner reconnect (reply.Refused fault.Spent) opened = why-same h s owner reason.Spent session_reset opened
resumption-same h s owner reconnect (reply.Refused (fault.StaleConnect kept)) opened =
    why-same h s owner (reason.Session (session.StaleConnect kept)) (session_retry kept) opened
resumption-same h s owner reconnect (reply.Refused (fault.StaleGlobal kept)) opened =
    why-same h s owner (reason.Session (session.StaleGlobal kept)) (session_retry_global kept) opened
resumption-same h s owner reconnect _ opened = refl

reconnect-same : (h : IncomingComing) (s : Secured) (owner : Authority) (read : Result SessionReconnect BytesFault) → SameDecided h (λ a. on_reconnect a s owner read)
reconnect-same h s owner (Ok reconnect) opened = (refl, λ r. resumption-same h s owner reconnect r opened)
reconnect-same h s owner (Err why) opened = refl

-- ---- by the tag

pub unequal : (a b : ℕ) → (a ≡ b → ⊥) → (a == b) ≡ false
unequal a b other = elim (eqb_tells a b) [ inl same ↦ absurd (other same.1) | inr differ ↦ differ.0 ]

pub ident-same : (h : IncomingComing) (s : Secured) (owner : Authority) (f : Frame) → SameDecided h (λ a. on_ident a s owner f)
ident-same h s owner f = by_tests (f.tag == 8) (f.tag == 11)
  where
    by_tests : (client reconnect : Bool) → SameDecided h (λ a.
        if client then on_client_ident a s owner (payload client_ident_layout.form f)
        else if reconnect then on_reconnect a s owner (payload session_reconnect_layout.form f)
        else comes_to (refuses_bytes a (Unexpected f.tag) []))
    by_tests true reconnect opened = client-same h s owner (payload client_ident_layout.form f) opened
    by_tests false true opened = reconnect-same h s owner (payload session_reconnect_layout.form f) opened
    by_tests false false opened = refl
