-- What a daemon seals on an incoming link behind authentication, whatever its book replies, is under the key of that very link; so it has nothing to do with logins.
use Rattle.std.proofs.Common.{◌≡◌, ℕ, Bool, true, false, List, [], ◌∷◌, Result, Ok, Err}
use Rattle.std.specs.List.{AllByRecursion}
use Rattle.std.specs.Prelude.{if◌then◌else◌}
use Rattle.cx_base.specs.Names.{Name, is_daemon_type}
use Rattle.cx_base.specs.declared.kinds.EntityType.{EntityType}
use Rattle.cx_base.specs.declared.kinds.EntityType.TheVariants.{Mon, Mds, Osd, Client, Mgr, Auth}
use Rattle.cx_control.specs.Idents.{ident_missing_features_layout}
use Rattle.cx_control.specs.declared.auth.AuthSignature.{AuthSignature}
use Rattle.cx_desk.specs.Handlers.{Handlers}
use Rattle.cx_frame.specs.declared.frame.Frame.{Frame}
use Rattle.cx_journal.specs.declared.faults.BytesFault.{BytesFault}
use Rattle.cx_journal.specs.declared.faults.LoginFault.TheVariants.{SignatureWrong}
use Rattle.cx_journal.specs.declared.outcomes.Reason.{Reason}
use Rattle.cx_journal.specs.declared.outcomes.Reason.TheVariants as reason
use Rattle.cx_laws_run.proofs.cover.Elsewhere.{ArePutElsewhere, IsElsewhere, IsPutElsewhere, IsUsedElsewhere, SealedElsewhere, frame-elsewhere, frames-elsewhere}
use Rattle.cx_laws_run.specs.cx_authorize.specs.Daemon.{Authority}
use Rattle.cx_laws_run.specs.cx_laws_tickets.proofs.authorize.Opened.{IsOpening}
use Rattle.cx_laws_run.specs.cx_laws_keys.proofs.keys.Lists.{all-append, all-map}
use Rattle.cx_laws_run.specs.cx_laws_keys.proofs.keys.Uses.{Uses, session_use}
use Rattle.cx_laws_run.specs.cx_rules.specs.Acceptor.{AwaitsIdent, Open, missing_told, on_signature}
use Rattle.cx_laws_run.specs.cx_rules.specs.Holdings.{MonClient}
use Rattle.cx_laws_run.specs.cx_rules.specs.Messages.{acknowledgement, secure_frames}
use Rattle.cx_laws_run.specs.cx_rules.specs.Payloads.{control}
use Rattle.cx_laws_run.specs.cx_rules.specs.Rows.{Turned, goes_on, refuses, secure_sent}
use Rattle.cx_laws_run.specs.cx_rules.specs.Secured.{SealedFrame, Secured, is_signed, secure_frame, signature_found}
use Rattle.cx_laws_run.specs.cx_rules_session.specs.IncomingLinks.{IncomingArrival, IncomingRow, IncomingStage, Served}
use Rattle.cx_laws_run.specs.cx_rules_session.specs.Hosting.{Deciding, Hosted, answer_message, cookie_drawn, on_ident, on_open, outcome_of, reconnect_ok, served_as}
use Rattle.cx_laws_run.specs.cx_rules_session.specs.Lossy.{is_lossy}
use Rattle.cx_laws_run.specs.cx_run.proofs.Always.{Always, TurnOf}
use Rattle.cx_laws_run.specs.cx_run.proofs.IncomingWalk.{ShutsIdent, Unadmitted, UnreadIdent, ident-so, open-so}
use Rattle.cx_steps.specs.declared.seals.SealEntry.{SealEntry}
use Rattle.cx_steps.specs.declared.seals.SealEntry.TheVariants as seal

-- what opens is put nowhere
pub openings-elsewhere : (us : Uses) (es : List SealEntry) → AllByRecursion IsOpening es → ArePutElsewhere us es
openings-elsewhere us es h = all-map IsOpening (IsPutElsewhere us) one-opens es h
  where
    one-opens : (e : SealEntry) → IsOpening e → IsPutElsewhere us e
    one-opens (seal.Opened mark) h = tt
    one-opens (seal.Sealed mark) h = absurd h
    one-opens (seal.Signed mark) h = absurd h
    one-opens (seal.Checked mark) h = tt
    one-opens (seal.Drawn mark) h = tt

-- the session key of a ticket for a daemon
pub session-elsewhere : (name : Name) (service : EntityType) → is_daemon_type service ≡ true → IsElsewhere (session_use name service)
session-elsewhere name Mds of = tt
session-elsewhere name Osd of = tt
session-elsewhere name Mgr of = tt
session-elsewhere name Mon of = absurd cc
session-elsewhere name Client of = absurd cc
session-elsewhere name Auth of = absurd cc

-- ---- behind authentication

module _ (us : Uses) where
  abbrev Puts : IncomingRow → Type 0
  Puts row = ArePutElsewhere us row.seals

  abbrev pub PutsTurned : Turned MonClient IncomingStage → Type 0
  PutsTurned turned = TurnOf (ArePutElsewhere us) Puts turned

  abbrev pub StaysPut : Deciding Hosted → Type 0
  StaysPut d = Always (λ (h : Hosted). PutsTurned h.turned) d

  module _ (b : IncomingArrival) (s : Secured) (used : IsUsedElsewhere us s.keys.key) where
    -- frames that are sealed on the link
    sent-puts : (stage : Secured → IncomingStage) (before : List SealEntry) (r : Result SealedFrame BytesFault) → ArePutElsewhere us before → SealedElsewhere us s.keys.key r
        → Puts (secure_sent b s stage before r)
    sent-puts stage before (Err why) first sealed = first
    sent-puts stage before (Ok sealed) first h = all-append (IsPutElsewhere us) before sealed.seals first h.0

    one-puts : (stage : Secured → IncomingStage) (before : List SealEntry) (f : Frame) → ArePutElsewhere us before → Puts (secure_sent b s stage before (secure_frame s.keys f))
    one-puts stage before f first = sent-puts stage before (secure_frame s.keys f) first (frame-elsewhere us s.keys f used)

    pub signature-puts : (owner : Authority) (read : Result AuthSignature BytesFault) → Puts (on_signature b s owner read)
    signature-puts owner (Err why) = tt
    signature-puts owner (Ok found) = by_test (is_signed s found.signature)
      where
        by_test : (right : Bool) → Puts (if right then goes_on b (AwaitsIdent s owner) [] (signature_found s ∷ []) else refuses b (reason.Login SignatureWrong) [])
        by_test true = (tt, tt)
        by_test false = tt

    -- ---- idents and reconnections

    module _ (owner : Authority) where
      missing-puts : (features : ℕ) (r : Result SealedFrame BytesFault) → SealedElsewhere us s.keys.key r → Puts (missing_told b features r)
      missing-puts features (Err why) h = tt
      missing-puts features (Ok sealed) h = h.0

      drawn-puts : (why : Reason) (seals : List SealEntry) → ShutsIdent b why seals → ArePutElsewhere us seals
      drawn-puts _ _ (UnreadIdent why) = tt
      drawn-puts _ _ (Unadmitted why of) = (tt, tt)

      pub ident-puts : (f : Frame) → StaysPut (on_ident b s owner f)
      ident-puts f = ident-so b s owner f (ArePutElsewhere us) Puts (record {
        shut = λ why seals by. drawn-puts why seals by;
        missed = λ features. missing-puts features _
            (frame-elsewhere us s.keys (control 10 ident_missing_features_layout.form (record { features = features })) used);
        admitted = λ ident tag is number epoch.
            one-puts (λ behind. Open behind (served_as owner number epoch ident.cookie (is_lossy ident.flags))) (cookie_drawn b ∷ []) _ (tt, tt);
        resumed = λ again tag is number epoch last lossy.
            one-puts (λ behind. Open behind (served_as owner number epoch again.client_cookie lossy)) [] (reconnect_ok last) tt;
        told = λ again tag is why x by. one-puts (λ behind. AwaitsIdent behind owner) [] x tt;
      })

    -- ---- messages

    module _ (handlers : Handlers) (served : Served) where
      pub open-puts : (f : Frame) → StaysPut (on_open handlers b s served f)
      open-puts f = open-so handlers b s served f (ArePutElsewhere us) Puts (record {
        shut = λ why by. tt;
        kept_up = λ other x by. one-puts (λ behind. Open behind served) [] x tt;
        idled = λ other. tt;
        handled = λ tag i is.
            let fs : List Frame = answer_message i (outcome_of handlers served.caps i.operation) ∷ acknowledgement i.seq ∷ [] in
            sent-puts (λ behind. Open behind served) [] (secure_frames s.keys fs) tt (frames-elsewhere us s.keys fs used);
      })
