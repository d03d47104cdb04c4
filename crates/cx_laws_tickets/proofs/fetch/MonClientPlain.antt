-- What a link to the monitor of one that logs in logs behind its AUTH_SIGNATURE has nothing to do with logins: frames are sealed under the link's key, and a reply is
-- opened.
use Rattle.std.proofs.Common.{◌≡◌, ◌==◌, ◌+◌, ◌-◌, ◌^◌, ℕ, Bool, true, false, List, [], ◌∷◌, Result, Ok, Err, refl}
use Rattle.std.specs.Prelude.{if◌then◌else◌}
use Rattle.std.specs.List.{AllByRecursion}
use Rattle.cx_base.specs.Names.{is_daemon_type}
use Rattle.cx_control.specs.Idents.{ident_missing_features_layout, server_ident_layout}
use Rattle.cx_control.specs.Upkeep.{keepalive2_ack_layout, keepalive2_layout}
use Rattle.cx_control.specs.declared.auth.AuthSignature.{AuthSignature}
use Rattle.cx_control.specs.declared.idents.IdentMissingFeatures.{IdentMissingFeatures}
use Rattle.cx_control.specs.declared.idents.ServerIdent.{ServerIdent}
use Rattle.cx_control.specs.declared.upkeep.Keepalive2.{Keepalive2}
use Rattle.cx_control.specs.declared.upkeep.Keepalive2Ack.{Keepalive2Ack}
use Rattle.cx_dice.specs.Draws.{cookie_of}
use Rattle.cx_frame.specs.declared.frame.Frame.{Frame}
use Rattle.cx_journal.specs.declared.faults.BytesFault.{BytesFault}
use Rattle.cx_journal.specs.declared.faults.LoginFault.TheVariants.{SignatureWrong}
use Rattle.cx_journal.specs.declared.outcomes.Reason.TheVariants as reason
use Rattle.cx_laws_tickets.specs.cx_laws_keys.proofs.keys.Uses.{Means, Use, Uses}
use Rattle.cx_laws_keys.specs.cx_rules.specs.Connector.{MonClientArrival, MonClientRow, AwaitsIdent, Login, Open, client_ident, holding, identifies, on_missing_features, on_signature, while_identified}
use Rattle.cx_laws_keys.specs.cx_rules.specs.Holdings.{MonClient, held_login}
use Rattle.cx_laws_keys.specs.cx_rules.specs.Payloads.{due, payload}
use Rattle.cx_laws_keys.specs.cx_rules.specs.Requests.{Requests, asks_rotating, no_requests, on_open, on_reply, on_server_ident, request_message, taken as reply_in, sealed_request, sends_request, takes, unless_unsealed}
use Rattle.cx_laws_keys.specs.cx_rules.specs.Rows.{Arrival, goes_on, refuses}
use Rattle.cx_laws_keys.specs.cx_rules.specs.Secured.{SealedFrame, Secured, is_signed, secure_frame, signature_found}
use Rattle.cx_laws_keys.specs.cx_rules.specs.Upkeep.{on_keepalive, on_keepalive_ack}
use Rattle.cx_laws_keys.specs.cx_rules.specs.declared.requests.Taken.{Taken}
use Rattle.cx_laws_keys.specs.cx_rules.specs.declared.requests.Taken.TheVariants as taken
use Rattle.cx_laws_keys.specs.cx_rules.specs.declared.requests.Want.{Want}
use Rattle.cx_laws_keys.specs.cx_rules.specs.declared.requests.Want.TheVariants as want
use Rattle.cx_steps.specs.declared.seals.DrawMark.TheVariants as draw
use Rattle.cx_steps.specs.declared.seals.SealEntry.{SealEntry}
use Rattle.cx_steps.specs.declared.seals.SealEntry.TheVariants as entry
use Rattle.cx_wire.specs.declared.bodies.Request.{Request}
use Rattle.cx_wire.specs.declared.bodies.Request.TheVariants as asked
use Rattle.cx_laws_tickets.proofs.fetch.Handed.{IsNoLogin, IsPlain}
use Rattle.cx_laws_tickets.proofs.fetch.MonitorHands.{AreSilent, IsSilent, silent-plain}
use Rattle.cx_laws_tickets.proofs.fetch.MonitorPlain.{frame-plain, secure-plain}
use Rattle.cx_laws_tickets.proofs.fetch.Opens.{opened-all, seals_of, taken-opened}

-- ---- rows

module _ (us : Uses) (s : Secured) (linked : Use) (means : Means us s.keys.key linked) (none : IsNoLogin linked) where
  abbrev AllPlain : List SealEntry → Type 0
  AllPlain es = AllByRecursion (IsPlain us) es

  -- a request, however the open stage is called
  pub request-plain : {S : Type 0} (open_with : Secured → Requests → S) (a : Arrival MonClient S) (requests : Requests) (asks : Want) (request : Request)
      → AllPlain (sends_request open_with a s requests asks (sealed_request s.keys requests request)).seals
  request-plain {S} open_with a requests asks request = by_count (requests.count == 2 ^ 64 - 1)
    where
      f : Frame
      f = request_message (requests.count + 1) request

      by_sent : (r : Result SealedFrame BytesFault) → secure_frame s.keys f ≡ r → AllPlain (sends_request open_with a s requests asks (unless_unsealed r)).seals
      by_sent (Ok sealed) is = frame-plain us s linked means none f sealed is
      by_sent (Err why) is = tt

      by_count : (spent : Bool)
          → AllPlain (sends_request open_with a s requests asks (if spent then Err reason.Spent else unless_unsealed (secure_frame s.keys (request_message (requests.count + 1) request)))).seals
      by_count true = tt
      by_count false = by_sent (secure_frame s.keys f) refl

  module _ (a : MonClientArrival) where
    -- AUTH_SIGNATURE
    pub signature-plain : (login : Login) (read : Result AuthSignature BytesFault) → AllPlain (on_signature a s login read).seals
    signature-plain login (Err why) = tt
    signature-plain login (Ok found) = by_test (is_signed s found.signature)
      where
        by_test : (right : Bool) → AllPlain (let row : MonClientRow = (if right then identifies a s login else refuses a (reason.Login SignatureWrong) []) in row.seals)
        by_test true =
            secure-plain us s linked means none (holding a (held_login a.own.holdings login.gid login.opened)) (λ behind. AwaitsIdent behind login.opened.auth.session)
            (signature_found s ∷ entry.Drawn (draw.Cookie (cookie_of a.draw)) ∷ []) (client_ident a.own login.gid 1 (cookie_of a.draw)) (tt, (tt, tt))
        by_test false = tt

    -- SERVER_IDENT, IDENT_MISSING_FEATURES
    server_ident-plain : (session : List ℕ) (read : Result ServerIdent BytesFault) → AllPlain (on_server_ident Open a s session read).seals
    server_ident-plain session (Err why) = tt
    server_ident-plain session (Ok ident) = by_test (is_daemon_type a.own.name.kind)
      where
        by_test : (daemon : Bool) → AllPlain (let row : MonClientRow = (if daemon then asks_rotating Open a s (no_requests session) else goes_on a (Open s (no_requests session)) [] []) in row.seals)
        by_test true = request-plain Open a (no_requests session) (want.Rotating a.reading) asked.Rotating
        by_test false = tt

    missing-plain : (read : Result IdentMissingFeatures BytesFault) → AllPlain (on_missing_features a read).seals
    missing-plain (Err why) = tt
    missing-plain (Ok missing) = tt

    pub identified-plain : (session : List ℕ) (f : Frame) → AllPlain (while_identified a s session f).seals
    identified-plain session f = by_test (f.tag == 10)
      where
        by_test : (lacks : Bool) → AllPlain (let row : MonClientRow = (if lacks then on_missing_features a (payload ident_missing_features_layout.form f)
            else on_server_ident Open a s session (due 9 server_ident_layout.form f)) in row.seals)
        by_test true = missing-plain (payload ident_missing_features_layout.form f)
        by_test false = server_ident-plain session (due 9 server_ident_layout.form f)

    -- a frame on an open link
    keepalive-plain : (requests : Requests) (read : Result Keepalive2 BytesFault) → AllPlain (on_keepalive a s (λ behind. Open behind requests) read).seals
    keepalive-plain requests (Err why) = tt
    keepalive-plain requests (Ok keepalive) = secure-plain us s linked means none a (λ behind. Open behind requests) [] _ tt

    keepalive_ack-plain : (requests : Requests) (read : Result Keepalive2Ack BytesFault) → AllPlain (on_keepalive_ack a s (λ behind. Open behind requests) read).seals
    keepalive_ack-plain requests (Err why) = tt
    keepalive_ack-plain requests (Ok ack) = tt

    takes-plain : (requests : Requests) (t : Taken) → AreSilent (seals_of t) → AllPlain (takes Open a s requests t).seals
    takes-plain requests (taken.Refuses why opened) silent = silent-plain us opened silent
    takes-plain requests (taken.Holds held opened) silent = silent-plain us opened silent
    takes-plain requests (taken.Views reading generations opened) silent = silent-plain us opened silent

    pub open-plain : (requests : Requests) (f : Frame) → AllPlain (on_open Open a s requests f).seals
    open-plain requests f = by_tests (f.tag == 18) (f.tag == 19)
      where
        by_tests : (ask ack : Bool) → AllPlain (let row : MonClientRow = (if ask then on_keepalive a s (λ behind. Open behind requests) (payload keepalive2_layout.form f)
            else if ack then on_keepalive_ack a s (λ behind. Open behind requests) (payload keepalive2_ack_layout.form f) else on_reply Open a s requests f) in row.seals)
        by_tests true ack = keepalive-plain requests (payload keepalive2_layout.form f)
        by_tests false true = keepalive_ack-plain requests (payload keepalive2_ack_layout.form f)
        by_tests false false = takes-plain requests (reply_in a.own.secret requests f) (opened-all IsSilent (λ mark. tt) (seals_of (reply_in a.own.secret requests f)) (taken-opened a.own.secret requests f))
