-- What each row of an incoming link keeps once it has signed, whatever the book of sessions replies.
use Rattle.std.proofs.Common.{ℕ, List, [], ◌∷◌, Result, Ok, Err, refl}
use Rattle.cx_base.specs.declared.nodes.NodeName.{NodeName}
use Rattle.cx_control.specs.Auth.{auth_request_layout, auth_request_more_layout, auth_signature_layout}
use Rattle.cx_control.specs.Hello.{hello_layout}
use Rattle.cx_frame.specs.declared.frame.Frame.{Frame}
use Rattle.cx_journal.specs.declared.entries.Entry.TheVariants as entry
use Rattle.cx_journal.specs.declared.faults.BytesFault.{BytesFault}
use Rattle.cx_journal.specs.declared.outcomes.Reason.{Reason}
use Rattle.cx_laws_tickets.proofs.authorize.IncomingLinks.{AuthorizedRow, StillRow, more-authorized, still-authorized, still-banner, still-entered, still-goes_on, still-hello, still-refuses, request-authorized, still-secure, still-signature}
use Rattle.cx_laws_tickets.specs.authorize.Admission.{IsOwnedIn}
use Rattle.cx_laws_keys.proofs.login.Proving.{RowOf}
use Rattle.cx_laws_keys.specs.cx_rules.specs.Acceptor.{AwaitsBanner, AwaitsHello, AwaitsRequest, AwaitsProof, AwaitsSignature, AwaitsIdent, Open, missing_told, misses}
use Rattle.cx_laws_keys.specs.cx_rules.specs.Fronts.{keys_behind, opened_parts, sealed_ahead, taking}
use Rattle.cx_laws_keys.specs.cx_rules.specs.Holdings.{MonClient}
use Rattle.cx_laws_keys.specs.cx_rules.specs.Payloads.{due}
use Rattle.cx_laws_keys.specs.cx_rules.specs.Rows.{Turned, Waits, Refuses, Handles, at, refused_entry, secure_sent, with_opened, goes_on, refuses, sends_secure}
use Rattle.cx_laws_keys.specs.cx_rules.specs.Secured.{SealedFrame, Secured, secure_frame, under}
use Rattle.cx_laws_keys.specs.cx_steps.specs.declared.seals.SealEntry.{SealEntry}
use Rattle.cx_run.proofs.Always.{Always, Anything, TurnOf, always-weaker}
use Rattle.cx_run.proofs.Outcomes.{IsNoTicket}
use Rattle.cx_run.proofs.IncomingWalk.{ClosesIdent, ClosesOpen, ClosesTurn, OfBook, OfSession, OfSpent, ShutsIdent, ShutsOpen, TellsReset, TellsRetry, TellsRetryGlobal, TellsWhy, Unadmitted, UnreadIdent, UnreadMessage, Untaken, incoming-turn, ident-so, open-so}
use Rattle.cx_run.specs.cx_authorize.specs.Daemon.{Authority}
use Rattle.cx_run.specs.cx_desk.specs.Handlers.{Handlers}
use Rattle.cx_run.specs.cx_rules_session.specs.IncomingLinks.{IncomingArrival, IncomingStage, Served, IncomingRow}
use Rattle.cx_run.specs.cx_rules_session.specs.Hosting.{Hosted, admission_of, admits, cookie_drawn, incoming_turned, handled_entry, handles, outcome_of, resumes, served_as}
use Rattle.cx_run.specs.cx_rules_session.specs.Kinds.{entered_before}
use Rattle.cx_run.specs.cx_rules_session.specs.Lossy.{is_lossy}

abbrev pub AuthorizedHosted : MonClient → NodeName → ℕ → ℕ → IncomingStage → Hosted → Type 0
AuthorizedHosted daemon me number reading before hosted = RowOf (AuthorizedRow daemon me number reading before) hosted.turned

-- ---- why a link is refused, which is no ticket

of-book : (why : Reason) → OfBook why → IsNoTicket why
of-book _ (OfSession why) = tt
of-book _ OfSpent = tt

shut-ident : (b : IncomingArrival) (why : Reason) (seals : List SealEntry) → ShutsIdent b why seals → IsNoTicket why
shut-ident b _ _ (UnreadIdent why) = tt
shut-ident b _ _ (Unadmitted why of) = of-book why of

shut-open : (why : Reason) → ShutsOpen why → IsNoTicket why
shut-open _ (UnreadMessage why) = tt
shut-open _ (Untaken why) = tt

told-why : (why : Reason) (x : Frame) → TellsWhy why x → IsNoTicket why
told-why _ _ (TellsReset why of) = of-book why of
told-why _ _ (TellsRetry kept) = tt
told-why _ _ (TellsRetryGlobal kept) = tt

-- ---- behind what opened

module _ (b : IncomingArrival) (before : IncomingStage) (parts : List SealEntry) where
  abbrev Owned : IncomingRow → Type 0
  Owned row = AuthorizedRow b.own b.me b.link.number b.reading before (with_opened parts row)

  owned : (row : IncomingRow) → StillRow b.own b.link.number before row → Owned row
  owned row h = still-authorized b.own b.me b.link.number b.reading before (with_opened parts row) (record { link = h.link; entries = h.entries })

-- an ident on a link that has an authority
module _ (b : IncomingArrival) (s t : Secured) (owner : Authority) (f : Frame) (parts : List SealEntry) where
  abbrev waiting : IncomingStage
  waiting = AwaitsIdent t owner

  missing-still : (features : ℕ) (r : Result SealedFrame BytesFault) → StillRow b.own b.link.number waiting (missing_told b features r)
  missing-still features (Err why) = record { link = tt; entries = (tt, tt) }
  missing-still features (Ok sealed) = record { link = tt; entries = (tt, tt) }

  owned-in : (number epoch cookie : ℕ) → IsOwnedIn b.own waiting (admission_of b owner number epoch cookie)
  owned-in number epoch cookie =
      record { secured = t; authority = owner; stage_is = refl; daemon_is = refl; entity = refl; gid = refl; caps = refl; at = refl }

  closes-ident : ClosesIdent b s owner f (Owned b waiting parts)
  closes-ident = record {
    shut = λ why seals by. owned b waiting parts (refuses b why seals) (still-refuses b waiting why seals (shut-ident b why seals by));
    missed = λ features. owned b waiting parts (misses b s features) (missing-still features _);
    admitted = λ ident tag is number epoch. owned b waiting parts (admits b s owner ident number epoch)
        (still-entered b waiting (entry.Admitted (admission_of b owner number epoch ident.cookie)) _ (owned-in number epoch ident.cookie)
        (still-secure b waiting s (λ behind. Open behind (served_as owner number epoch ident.cookie (is_lossy ident.flags))) (cookie_drawn b ∷ []) _ (λ k x has. absurd has)));
    resumed = λ again tag is number epoch last lossy. owned b waiting parts (resumes b s owner again number epoch last lossy)
        (still-entered b waiting (entry.Resumed (admission_of b owner number epoch again.client_cookie)) _ (owned-in number epoch again.client_cookie)
        (still-secure b waiting s (λ behind. Open behind (served_as owner number epoch again.client_cookie lossy)) [] _ (λ k x has. absurd has)));
    told = λ again tag is why x by.
        owned b waiting parts (entered_before (refused_entry b.me b.link.number why) (sends_secure b s (λ behind. AwaitsIdent behind owner) [] x))
        (still-entered b waiting (refused_entry b.me b.link.number why) _ (told-why why x by)
        (still-secure b waiting s (λ behind. AwaitsIdent behind owner) [] (secure_frame s.keys x) (λ k y has. has)));
  }

-- a frame of an open link
module _ (handlers : Handlers) (b : IncomingArrival) (s t : Secured) (served : Served) (f : Frame) (parts : List SealEntry) where
  abbrev talking : IncomingStage
  talking = Open t served

  sends-still : (r : Result SealedFrame BytesFault) → StillRow b.own b.link.number talking (secure_sent b s (λ behind. Open behind served) [] r)
  sends-still r = still-secure b talking s (λ behind. Open behind served) [] r (λ k x has. absurd has)

  closes-open : ClosesOpen handlers b s served f (Owned b talking parts)
  closes-open = record {
    shut = λ why by. owned b talking parts (refuses b why []) (still-refuses b talking why [] (shut-open why by));
    kept_up = λ other x by. owned b talking parts (sends_secure b s (λ behind. Open behind served) [] x) (sends-still (secure_frame s.keys x));
    idled = λ other. owned b talking parts (goes_on b (Open s served) [] []) (still-goes_on b talking (Open s served) [] [] (λ x has. absurd has));
    handled = λ tag i is. owned b talking parts (handles b s served i (outcome_of handlers served.caps i.operation))
        (still-entered b talking (handled_entry b served i (outcome_of handlers served.caps i.operation)) _ tt (sends-still _));
  }

-- ---- a turn

row-of : (P : IncomingRow → Type 0) (turned : Turned MonClient IncomingStage) → TurnOf Anything P turned → RowOf P turned
row-of P Waits h = tt
row-of P (Refuses why opened) h = tt
row-of P (Handles row) h = h

module _ (handlers : Handlers) (a : IncomingArrival) where
  abbrev Told_ : IncomingStage → IncomingRow → Type 0
  Told_ before row = AuthorizedRow a.own a.me a.link.number a.reading before row

  closes-turn : (stage : IncomingStage) → ClosesTurn handlers a Anything (Told_ stage) stage
  closes-turn AwaitsBanner = λ n ahead.
      still-authorized a.own a.me a.link.number a.reading AwaitsBanner _ (still-banner (at a (taking a.link n)) AwaitsBanner a.own.name.kind)
  closes-turn AwaitsHello = λ f n ahead.
      still-authorized a.own a.me a.link.number a.reading AwaitsHello _ (still-hello (at a (taking a.link n)) AwaitsHello (due 1 hello_layout.form f))
  closes-turn AwaitsRequest = λ f n ahead. request-authorized (at a (taking a.link n)) AwaitsRequest (due 2 auth_request_layout.form f)
  closes-turn (AwaitsProof awaited) = λ f n ahead. more-authorized (at a (taking a.link n)) awaited (due 5 auth_request_more_layout.form f)
  closes-turn (AwaitsSignature s owner) = λ f n is.
      owned (at a (taking a.link n)) (AwaitsSignature s owner) (opened_parts (sealed_ahead s.keys a.link)) _
      (still-signature (at a (taking a.link n)) (under s (keys_behind s.keys f)) s owner (due 7 auth_signature_layout.form f))
  closes-turn (AwaitsIdent s owner) = λ f n is.
      let b : IncomingArrival = at a (taking a.link n) in
      let k : Secured = under s (keys_behind s.keys f) in
      let parts : List SealEntry = opened_parts (sealed_ahead s.keys a.link) in
      ident-so b k owner f Anything (Owned b (AwaitsIdent s owner) parts) (closes-ident b k s owner f parts)
  closes-turn (Open s served) = λ f n is.
      let b : IncomingArrival = at a (taking a.link n) in
      let k : Secured = under s (keys_behind s.keys f) in
      let parts : List SealEntry = opened_parts (sealed_ahead s.keys a.link) in
      open-so handlers b k served f Anything (Owned b (Open s served) parts) (closes-open handlers b k s served f parts)

  pub incoming-authorized : (stage : IncomingStage) → Always (AuthorizedHosted a.own a.me a.link.number a.reading stage) (incoming_turned handlers a stage)
  incoming-authorized stage =
      always-weaker (λ (h : Hosted). TurnOf Anything (Told_ stage) h.turned) (AuthorizedHosted a.own a.me a.link.number a.reading stage)
      (λ h. row-of (Told_ stage) h.turned) (incoming_turned handlers a stage)
      (incoming-turn handlers a Anything (Told_ stage) tt (λ keys. tt) stage (closes-turn stage))
