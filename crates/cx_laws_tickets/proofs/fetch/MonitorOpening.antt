-- A link of the monitor from its entity's signature until it is open: behind the signature, of one part, nothing was taken; and SERVER_IDENT,
-- IDENT_MISSING_FEATURES or SESSION_RESET is what the monitor says to an ident.
use Rattle.std.proofs.Common.{◌≡◌, ℕ, Bool, true, false, List, [], ◌∷◌, Option, Some, None, Result, Ok, Err, refl}
use Rattle.std.specs.Prelude.{IfSome, if◌then◌else◌}
use Rattle.cx_base.specs.Names.{Name}
use Rattle.cx_base.specs.declared.nodes.NodeName.{NodeName}
use Rattle.cx_base.specs.declared.nodes.NodeName.TheVariants as node
use Rattle.cx_control.specs.Auth.{auth_signature_layout}
use Rattle.cx_control.specs.declared.auth.AuthSignature.{AuthSignature}
use Rattle.cx_frame.specs.declared.frame.Frame.{Frame}
use Rattle.cx_journal.specs.declared.entries.Entry.{Entry}
use Rattle.cx_journal.specs.declared.faults.BytesFault.{BytesFault}
use Rattle.cx_journal.specs.declared.faults.LoginFault.TheVariants.{SignatureWrong}
use Rattle.cx_journal.specs.declared.outcomes.Reason.TheVariants as reason
use Rattle.cx_laws_tickets.specs.cx_laws_keys.proofs.keys.Known.{Inv}
use Rattle.cx_laws_tickets.specs.cx_laws_keys.proofs.keys.Premises.{AreGranted, behind}
use Rattle.cx_laws_tickets.specs.cx_laws_keys.proofs.keys.Uses.{AtMonitor, Connected, Grows, Means, Use, Uses, WholeRun}
use Rattle.cx_laws_keys.specs.cx_rules.specs.Acceptor.{AwaitsIdent, on_signature}
use Rattle.cx_laws_keys.specs.cx_rules.specs.Fronts.{keys_behind, opened_parts, sealed_ahead, taking}
use Rattle.cx_laws_keys.specs.cx_rules.specs.Links.{Link}
use Rattle.cx_laws_keys.specs.cx_rules.specs.Monitor.{MonitorArrival, MonitorRow, MonitorStage}
use Rattle.cx_laws_keys.specs.cx_rules.specs.MonitorRule.{on_ident}
use Rattle.cx_laws_keys.specs.cx_rules.specs.Payloads.{due}
use Rattle.cx_laws_keys.specs.cx_rules.specs.Rows.{at, goes_on, refuses, with_opened}
use Rattle.cx_laws_keys.specs.cx_rules.specs.Secured.{Secured, is_signed, signature_found, under}
use Rattle.cx_laws_keys.specs.cx_rules.specs.declared.responses.Bearer.{Bearer}
use Rattle.cx_steps.specs.declared.seals.Logged.{Logged}
use Rattle.cx_steps.specs.declared.seals.SealEntry.{SealEntry}
use Rattle.cx_laws_keys.specs.cx_stream.specs.SecureStreams.{secure_frame_at}
use Rattle.cx_laws_tickets.proofs.fetch.AskedKnown.{AreAnswers, AreTold, Events, IsBearing, IsBearingFirst, MoreEvents, Told}
use Rattle.cx_laws_tickets.proofs.fetch.AskedMoving.{Quiets, bearing-stays}
use Rattle.cx_laws_tickets.proofs.fetch.AskedWords.{Asked, Confirms, Given, Greets, Lacks, Replies, Resets, given_frame}
use Rattle.cx_laws_tickets.proofs.fetch.Later.{of_acceptor, of_connector}
use Rattle.cx_laws_tickets.proofs.fetch.MonitorIdents.{IsNoReply, StaysBearing, ident-says}
use Rattle.cx_laws_tickets.proofs.fetch.MonitorMoves.{IsAnyLogin, MonitorMoves, bearer-moves, bearer-takes, if-some}
use Rattle.cx_laws_tickets.proofs.fetch.RowWords.{AreQuiet, AreStill, opened-quiet, opened-says, quiet-still, still-append}
use Rattle.cx_laws_tickets.proofs.fetch.Signed.{bearing-begins, signature-part}
use Rattle.cx_laws_tickets.proofs.fetch.ToldStays.{told-stays}
use Rattle.cx_laws_tickets.proofs.fetch.Words.{said_under}

-- the link waits for an ident
abbrev pub StaysSigned : ℕ → Bearer → Option Given → Secured → Link MonitorStage → Type 0
StaysSigned number bearer word s link = (link.number ≡ number) × (link.stage ≡ AwaitsIdent s bearer)

-- nothing is sealed; and where the link goes on it waits for an ident, behind a signature that was read
record IsSilent (number : ℕ) (bearer : Bearer) (k : Secured) (g : Frame) (row : MonitorRow) : Type 0 where
  quiet : AreQuiet row.seals
  link : IfSome row.link (λ (l : Link MonitorStage). StaysSigned number bearer None k l × ((found : AuthSignature) × (due 7 auth_signature_layout.form g ≡ Ok found)))

signature-silent : (a : MonitorArrival) (k : Secured) (bearer : Bearer) (g : Frame) → IsSilent a.link.number bearer k g (on_signature a k bearer (due 7 auth_signature_layout.form g))
signature-silent a k bearer g = by_read (due 7 auth_signature_layout.form g) refl
  where
    by_test : (found : AuthSignature) → due 7 auth_signature_layout.form g ≡ Ok found → (t : Bool)
        → IsSilent a.link.number bearer k g (if t then goes_on a (AwaitsIdent k bearer) [] (signature_found k ∷ []) else refuses a (reason.Login SignatureWrong) [])
    by_test found e true = record { quiet = (tt, tt); link = ((refl, refl), (found, e)) }
    by_test found e false = record { quiet = tt; link = tt }

    by_read : (r : Result AuthSignature BytesFault) → due 7 auth_signature_layout.form g ≡ r → IsSilent a.link.number bearer k g (on_signature a k bearer r)
    by_read (Err why) e = record { quiet = tt; link = tt }
    by_read (Ok found) e = by_test found e (is_signed k found.signature)

module _ (run : WholeRun) (whole : List Logged) (us vs : Uses) (log : List Logged) (J : List Entry) (n : NodeName) (line : ℕ)
    (one : (k : List ℕ) (u v : Use) → Means vs k u → Means vs k v → u ≡ v) (f : Grows us vs) (i : Inv run whole us log J) (E F : Events) (more : MoreEvents E F) (told : Told)
    (t : AreTold run E us told log) (number : ℕ) (s : Secured) (bearer : Bearer) (l : Link MonitorStage) (g : Frame) (m : ℕ) where
  abbrev k : Secured
  k = under s (keys_behind s.keys g)

  abbrev opened : List SealEntry
  opened = opened_parts (sealed_ahead s.keys l)

  -- behind the entity's signature nothing is said, and nothing was taken
  pub signature-moves : IsBearingFirst us told log number s bearer.name → (a : MonitorArrival)
      → (let row : MonitorRow = with_opened opened (on_signature (at a (taking l m)) k bearer (due 7 auth_signature_layout.form g)) in
      MonitorMoves (StaysSigned l.number bearer) run F vs told (behind n line row.seals log) number bearer.name s.keys.key row)
  signature-moves first a =
      let inner : MonitorRow = on_signature (at a (taking l m)) k bearer (due 7 auth_signature_layout.form g) in
      let row : MonitorRow = with_opened opened inner in
      let silent = signature-silent (at a (taking l m)) k bearer g in
      let still : AreStill (IsAnyLogin vs) row.seals =
      still-append (IsAnyLogin vs) opened inner.seals (quiet-still (IsAnyLogin vs) opened (opened-quiet (sealed_ahead s.keys l))) (quiet-still (IsAnyLogin vs) inner.seals silent.quiet) in
      let later : List Logged = behind n line row.seals log in
      record {
        next = told;
        moved = Quiets;
        only = tt;
        known = told-stays run whole us vs log J n line row.seals one f i E F more told t (λ key is. (still key of_connector is, still key of_acceptor is));
        link = if-some (λ (x : Link MonitorStage). StaysSigned l.number bearer None k x × ((found : AuthSignature) × (due 7 auth_signature_layout.form g ≡ Ok found)))
            (λ (x : Link MonitorStage). (word : Option Given) × (u : Secured) × StaysSigned l.number bearer word u x × IsBearing run vs told later number u bearer.name) row.link
            (λ x kept. (None, k, kept.0, bearing row.seals still kept.1.0 kept.1.1)) silent.link;
      }
    where
      bearing : (seals : List SealEntry) → AreStill (IsAnyLogin vs) seals → (found : AuthSignature) → due 7 auth_signature_layout.form g ≡ Ok found
          → IsBearing run vs told (behind n line seals log) number k bearer.name
      bearing seals still found read =
          let b : IsBearing run us told log number k bearer.name = bearing-begins run us told log number s bearer.name g first (signature-part g found read) in
          let there : IsAnyLogin vs s.keys.key =
          (bearer.name, b.challenge, record { number = number; means = f.means s.keys.key (Connected node.Monitor number bearer.name (AtMonitor b.challenge)) b.means }) in
          bearing-stays told told Quiets run E F more us vs f log n line seals number k bearer.name tt (still s.keys.key of_acceptor there) b

  -- no answer is due to what isn't a reply
  no-answers : (name : Name) (requests : List Asked) (word : Given) → IsNoReply word → AreAnswers F name requests (word ∷ [])
  no-answers name requests (Greets address) h = tt
  no-answers name requests Resets h = tt
  no-answers name requests (Lacks features) h = tt
  no-answers name requests (Replies tid reply) h = absurd h
  no-answers name requests (Confirms ack) h = absurd h

  -- behind an ident
  pub ident-moves : IsBearing run us told log number s bearer.name → AreGranted run.leaked whole n line log opened → secure_frame_at (sealed_ahead s.keys l) ≡ Ok (Some (g, m))
      → (a : MonitorArrival)
      → (let row : MonitorRow = with_opened opened (on_ident (at a (taking l m)) k bearer g) in
      MonitorMoves (StaysBearing l.number bearer) run F vs told (behind n line row.seals log) number bearer.name s.keys.key row)
  ident-moves b granted read a =
      let row : MonitorRow = with_opened opened (on_ident (at a (taking l m)) k bearer g) in
      bearer-moves run whole us vs log J n line one f i E F more told t number bearer.name s b g (StaysBearing l.number bearer) IsNoReply row
      (λ free. (bearer-takes run whole us vs log J n line one f i E F more told t number bearer.name s b free l g m granted read).behind)
      (λ free word tells made. no-answers bearer.name (said_under s.keys.key told.asked) word tells)
      (opened-says given_frame (IsAnyLogin vs) (StaysBearing l.number bearer) IsNoReply opened k (on_ident (at a (taking l m)) k bearer g) (opened-quiet (sealed_ahead s.keys l))
      (ident-says (IsAnyLogin vs) (at a (taking l m)) k bearer g))
