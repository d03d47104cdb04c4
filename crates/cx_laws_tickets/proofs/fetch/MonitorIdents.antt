-- What the monitor says to CLIENT_IDENT and SESSION_RECONNECT: SERVER_IDENT, IDENT_MISSING_FEATURES or SESSION_RESET.
use Rattle.std.proofs.Common.{◌≡◌, ◌==◌, ◌⊎◌, ℕ, Bool, true, false, List, [], Option, Result, Ok, Err, inl, inr, refl}
use Rattle.std.specs.Prelude.{if◌then◌else◌}
use Rattle.cx_control.specs.Idents.{client_ident_layout}
use Rattle.cx_control.specs.Reconnects.{session_reconnect_layout}
use Rattle.cx_control.specs.declared.idents.ClientIdent.{ClientIdent}
use Rattle.cx_control.specs.declared.reconnects.SessionReconnect.{SessionReconnect}
use Rattle.cx_frame.specs.declared.frame.Frame.{Frame}
use Rattle.cx_journal.specs.declared.faults.BytesFault.{BytesFault}
use Rattle.cx_journal.specs.declared.faults.BytesFault.TheVariants.{Unexpected}
use Rattle.cx_journal.specs.declared.outcomes.Reason.TheVariants.{Bytes}
use Rattle.cx_laws_keys.specs.cx_rules.specs.Acceptor.{AwaitsIdent, Open, missing_told, misses}
use Rattle.cx_laws_keys.specs.cx_rules.specs.Links.{Link}
use Rattle.cx_laws_keys.specs.cx_rules.specs.Monitor.{MonitorArrival, MonitorRow, MonitorStage}
use Rattle.cx_laws_keys.specs.cx_rules.specs.MonitorRule.{on_client_ident, on_ident, on_session_reconnect}
use Rattle.cx_laws_keys.specs.cx_rules.specs.Payloads.{payload}
use Rattle.cx_laws_keys.specs.cx_rules.specs.Rows.{refuses_bytes, sends_secure}
use Rattle.cx_laws_keys.specs.cx_rules.specs.Secured.{SealedFrame, Secured, secure_frame}
use Rattle.cx_laws_keys.specs.cx_rules.specs.declared.responses.Bearer.{Bearer}
use Rattle.cx_laws_tickets.proofs.fetch.AskedWords.{Confirms, Given, Greets, Lacks, Replies, Resets, given_frame}
use Rattle.cx_laws_tickets.proofs.fetch.RowWords.{RowSays, refuses-says, secure-says}

-- no reply
abbrev pub IsNoReply : Given → Type 0
IsNoReply (Greets address) = Unit {0}
IsNoReply Resets = Unit {0}
IsNoReply (Lacks features) = Unit {0}
IsNoReply (Replies tid reply) = ⊥
IsNoReply (Confirms ack) = ⊥

-- the link is open, or waits on
abbrev pub StaysBearing : ℕ → Bearer → Option Given → Secured → Link MonitorStage → Type 0
StaysBearing number bearer word s link = (link.number ≡ number) × ((link.stage ≡ Open s bearer) ⊎ (link.stage ≡ AwaitsIdent s bearer))

module _ (P : List ℕ → Type 0) (a : MonitorArrival) (s : Secured) (bearer : Bearer) where
  abbrev Kept : Option Given → Secured → Link MonitorStage → Type 0
  Kept = StaysBearing a.link.number bearer

  abbrev pub IdentSays : MonitorRow → Type 0
  IdentSays row = RowSays given_frame P Kept IsNoReply s row

  misses-says : (features : ℕ) → IdentSays (misses a s features)
  misses-says features = by_sealed (secure_frame s.keys (given_frame (Lacks features))) refl
    where
      by_sealed : (r : Result SealedFrame BytesFault) → secure_frame s.keys (given_frame (Lacks features)) ≡ r → IdentSays (missing_told a features r)
      by_sealed (Err why) e = refuses-says given_frame P Kept IsNoReply a s (Bytes why) [] (λ key test p. refl)
      by_sealed (Ok sealed) e =
          inr (record { word = Lacks features; told = tt; before = []; still = λ key test p. refl; sealed = sealed; made = e; seals = refl; link = tt })

  client-says : (read : Result ClientIdent BytesFault) → IdentSays (on_client_ident a s bearer read)
  client-says (Err why) = refuses-says given_frame P Kept IsNoReply a s (Bytes why) [] (λ key test p. refl)
  client-says (Ok ident) = by_test (ident.required == 0)
    where
      by_test : (none : Bool) → IdentSays (if none then sends_secure a s (λ behind. Open behind bearer) [] (given_frame (Greets a.own.address)) else misses a s ident.required)
      by_test true =
          secure-says given_frame P Kept IsNoReply a s (λ behind. Open behind bearer) [] (Greets a.own.address) (λ key test p. refl) tt (λ t. (refl, inl refl))
      by_test false = misses-says ident.required

  reconnect-says : (read : Result SessionReconnect BytesFault) → IdentSays (on_session_reconnect a s bearer read)
  reconnect-says (Err why) = refuses-says given_frame P Kept IsNoReply a s (Bytes why) [] (λ key test p. refl)
  reconnect-says (Ok again) = secure-says given_frame P Kept IsNoReply a s (λ behind. AwaitsIdent behind bearer) [] Resets (λ key test p. refl) tt (λ t. (refl, inr refl))

  -- whatever was read
  pub ident-says : (f : Frame) → IdentSays (on_ident a s bearer f)
  ident-says f = by_tests (f.tag == 8) (f.tag == 11)
    where
      by_tests : (ident again : Bool) → IdentSays (if ident then on_client_ident a s bearer (payload client_ident_layout.form f)
          else if again then on_session_reconnect a s bearer (payload session_reconnect_layout.form f) else refuses_bytes a (Unexpected f.tag) [])
      by_tests true again = client-says (payload client_ident_layout.form f)
      by_tests false true = reconnect-says (payload session_reconnect_layout.form f)
      by_tests false false = refuses-says given_frame P Kept IsNoReply a s (Bytes (Unexpected f.tag)) [] (λ key test p. refl)
