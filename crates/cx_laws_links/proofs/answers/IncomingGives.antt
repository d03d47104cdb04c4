-- What each row of an incoming link gives behind authentication, whatever the book of sessions replies: some words, each sealed in its order, behind what opened
-- and was drawn; an ident is replied to with its cookie, and an answer tells what was handled in the same row. The link goes on under the keys behind them.
use Rattle.std.proofs.Common.{◌≡◌, ℕ, Bool, List, [], ◌∷◌, ◌++◌, map, Option, Some, None, Result, Ok, Err, refl, sym, ap, ◌∙◌, subst, append-nil, append_assoc}
use Rattle.std.specs.List.{AllByRecursion}
use Rattle.cx_base.specs.Names.{Name}
use Rattle.cx_control.specs.Auth.{auth_signature_layout}
use Rattle.cx_control.specs.Idents.{client_ident_layout}
use Rattle.cx_control.specs.Reconnects.{session_reconnect_layout}
use Rattle.cx_control.specs.declared.idents.ClientIdent.{ClientIdent}
use Rattle.cx_control.specs.declared.reconnects.SessionReconnect.{SessionReconnect}
use Rattle.cx_desk.specs.Handlers.{Handlers}
use Rattle.cx_dice.specs.Draws.{cookie_of}
use Rattle.cx_frame.specs.declared.frame.Frame.{Frame}
use Rattle.cx_journal.specs.declared.entries.Entry.{Entry}
use Rattle.cx_journal.specs.declared.entries.Entry.TheVariants as journal
use Rattle.cx_journal.specs.declared.entries.Handled.{Handled}
use Rattle.cx_journal.specs.declared.faults.BytesFault.{BytesFault}
use Rattle.cx_journal.specs.declared.faults.SessionFault.TheVariants as session
use Rattle.cx_journal.specs.declared.outcomes.Outcome.{Outcome}
use Rattle.cx_journal.specs.declared.outcomes.Reason.{Reason}
use Rattle.cx_journal.specs.declared.outcomes.Reason.TheVariants as reason
use Rattle.cx_laws_links.proofs.answers.Given.{Acks, Admits, Answers, Given, KeepsUp, Misses, Replies, Reply, Resets, Resumes, Retries, RetriesGlobal, given_frame, reply_frame}
use Rattle.cx_laws_links.proofs.links.CallWords.{AreQuiet, quiet-append}
use Rattle.cx_laws_links.specs.cx_authorize.specs.Daemon.{Authority}
use Rattle.cx_laws_links.specs.cx_rules.specs.Acceptor.{AwaitsIdent, Open, missing_told, misses, on_signature}
use Rattle.cx_laws_links.specs.cx_rules.specs.Holdings.{MonClient}
use Rattle.cx_laws_links.specs.cx_rules.specs.Links.{Link}
use Rattle.cx_laws_links.specs.cx_rules.specs.Messages.{message_in, sealed_behind, sealed_then, secure_frames}
use Rattle.cx_laws_links.specs.cx_rules.specs.Payloads.{due, payload}
use Rattle.cx_laws_links.specs.cx_rules.specs.Rows.{goes_on, refused_entry, refuses, secure_sent, sends_secure, with_opened, Turned}
use Rattle.cx_laws_links.specs.cx_rules.specs.Secured.{SealedFrame, Secured, secure_frame, signature_found}
use Rattle.cx_laws_links.specs.cx_rules_session.specs.IncomingLinks.{IncomingArrival, IncomingRow, IncomingStage, Served}
use Rattle.cx_laws_links.specs.cx_rules_session.specs.Hosting.{Deciding, Hosted, Instruction, admission_of, admits, cookie_drawn, handled_entry, handles, instruction_of, on_ident, on_open, outcome_of, resumes, served_as}
use Rattle.cx_laws_links.specs.cx_rules_session.specs.Kinds.{entered_before}
use Rattle.cx_laws_links.specs.cx_rules_session.specs.Lossy.{is_lossy, lossy_flags}
use Rattle.cx_laws_links.specs.cx_run.proofs.Always.{Always, TurnOf}
use Rattle.cx_laws_links.specs.cx_run.proofs.IncomingWalk.{Acknowledges, IsNoIdent, IsUpkeep, SendsBack, ShutsIdent, TellsReset, TellsRetry, TellsRetryGlobal, TellsWhy, Unadmitted, UnreadIdent, ident-so, open-so, signature-so}
use Rattle.cx_steps.specs.declared.seals.SealEntry.{SealEntry}

-- the keys of a link that goes on behind authentication
pub data KeyedIncoming : IncomingStage → Secured → Type 0 where
  WaitsOn : (s : Secured) (owner : Authority) → KeyedIncoming (AwaitsIdent s owner) s
  Serves : (s : Secured) (served : Served) → KeyedIncoming (Open s served) s

-- what a row gives from these keys on, of which this is so: these words, sealed in their order behind what opened and was drawn; the link goes on under the
-- keys behind them
pub record RowGives (P : List Given → List Entry → Option (Link IncomingStage) → Type 0) (number : ℕ) (s : Secured) (row : IncomingRow) : Type 0 where
  pub words : List Given
  pub quiet : List SealEntry
  pub silent : AreQuiet quiet
  pub sealed : SealedFrame
  pub made : secure_frames s.keys (map given_frame words) ≡ Ok sealed
  pub seals : row.seals ≡ quiet ++ sealed.seals
  pub link : (link : Link IncomingStage) → row.link ≡ Some link → (t : Secured) × KeyedIncoming link.stage t × (t.keys ≡ sealed.keys) × (link.number ≡ number)
  pub so : P words row.entries row.link

abbrev nothing_sealed : Secured → SealedFrame
nothing_sealed s = record { bytes = []; seals = []; keys = s.keys }

module _ (P : List Given → List Entry → Option (Link IncomingStage) → Type 0) (b : IncomingArrival) (s : Secured) where
  abbrev R : IncomingRow → Type 0
  R row = RowGives P b.link.number s row

  -- a link is shut without a word
  shuts-gives : (why : Reason) (seals : List SealEntry) → AreQuiet seals → P [] (refused_entry b.me b.link.number why ∷ []) None → R (refuses b why seals)
  shuts-gives why seals quiet so = record {
    words = [];
    quiet = seals;
    silent = quiet;
    sealed = nothing_sealed s;
    made = refl;
    seals = sym (append-nil seals);
    link = λ link is. absurd cc;
    so = so;
  }

  -- it goes on without a word
  goes-gives : (stage : IncomingStage) (seals : List SealEntry) → KeyedIncoming stage s → AreQuiet seals → P [] [] (Some (record b.link { stage = stage })) → R (goes_on b stage [] seals)
  goes-gives stage seals keyed quiet so = record {
    words = [];
    quiet = seals;
    silent = quiet;
    sealed = nothing_sealed s;
    made = refl;
    seals = sym (append-nil seals);
    link = λ link is.
        let it : record b.link { stage = stage } ≡ link = cc in
        (s, subst (λ (l : Link IncomingStage). KeyedIncoming l.stage s) it keyed, refl, ap (λ (l : Link IncomingStage). l.number) (sym it));
    so = so;
  }

  -- where nothing can be sealed the link is shut
  cant-gives : (stage : Secured → IncomingStage) (quiet : List SealEntry) (why : BytesFault) → AreQuiet quiet → P [] (refused_entry b.me b.link.number (reason.Bytes why) ∷ []) None
      → R (secure_sent b s stage quiet (Err why))
  cant-gives stage quiet why silent shut = shuts-gives (reason.Bytes why) quiet silent shut

  -- some words in one piece
  some-gives : (stage : Secured → IncomingStage) (quiet : List SealEntry) (words : List Given) (sealed : SealedFrame) → secure_frames s.keys (map given_frame words) ≡ Ok sealed
      → ((t : Secured) → KeyedIncoming (stage t) t) → AreQuiet quiet → ((t : Secured) → P words [] (Some (record b.link { stage = stage t })))
      → (bytes : List ℕ) (seals : List SealEntry) → seals ≡ quiet ++ sealed.seals → R (goes_on b (stage (record s { keys = sealed.keys })) bytes seals)
  some-gives stage quiet words sealed made keyed silent so bytes seals is = record {
    words = words;
    quiet = quiet;
    silent = silent;
    sealed = sealed;
    made = made;
    seals = is;
    link = λ link e.
        let it : record b.link { stage = stage (record s { keys = sealed.keys }) } ≡ link = cc in (
          record s { keys = sealed.keys },
          subst (λ (l : Link IncomingStage). KeyedIncoming l.stage (record s { keys = sealed.keys })) it (keyed (record s { keys = sealed.keys })),
          refl,
          ap (λ (l : Link IncomingStage). l.number) (sym it),
        );
    so = so (record s { keys = sealed.keys });
  }

  sends-gives : (stage : Secured → IncomingStage) (quiet : List SealEntry) (words : List Given) → ((t : Secured) → KeyedIncoming (stage t) t) → AreQuiet quiet
      → ((t : Secured) → P words [] (Some (record b.link { stage = stage t }))) → ((why : Reason) → P [] (refused_entry b.me b.link.number why ∷ []) None)
      → R (secure_sent b s stage quiet (secure_frames s.keys (map given_frame words)))
  sends-gives stage quiet words keyed silent so shut = by_sealed (secure_frames s.keys (map given_frame words)) refl
    where
      by_sealed : (r : Result SealedFrame BytesFault) → secure_frames s.keys (map given_frame words) ≡ r → R (secure_sent b s stage quiet r)
      by_sealed (Err why) e = cant-gives stage quiet why silent (shut (reason.Bytes why))
      by_sealed (Ok sealed) e = some-gives stage quiet words sealed e keyed silent so sealed.bytes (quiet ++ sealed.seals) refl

  -- one word
  one-gives : (stage : Secured → IncomingStage) (quiet : List SealEntry) (x : Given) → ((t : Secured) → KeyedIncoming (stage t) t) → AreQuiet quiet
      → ((t : Secured) → P (x ∷ []) [] (Some (record b.link { stage = stage t }))) → ((why : Reason) → P [] (refused_entry b.me b.link.number why ∷ []) None)
      → R (secure_sent b s stage quiet (secure_frame s.keys (given_frame x)))
  one-gives stage quiet x keyed silent so shut = by_sealed (secure_frame s.keys (given_frame x)) refl
    where
      by_sealed : (r : Result SealedFrame BytesFault) → secure_frame s.keys (given_frame x) ≡ r → R (secure_sent b s stage quiet r)
      by_sealed (Err why) e = cant-gives stage quiet why silent (shut (reason.Bytes why))
      by_sealed (Ok one) e =
          some-gives stage quiet (x ∷ []) (record { bytes = one.bytes ++ []; seals = one.seals ++ []; keys = one.keys })
          (ap (λ (q : Result SealedFrame BytesFault). sealed_then q (λ first. sealed_behind first (secure_frames first.keys []))) e) keyed silent so
          one.bytes (quiet ++ one.seals) (ap (λ (es : List SealEntry). quiet ++ es) (sym (append-nil one.seals)))

  -- behind an entry
  entered-gives : (e : Entry) (row : IncomingRow) → RowGives (λ words es link. P words (e ∷ es) link) b.link.number s row → R (entered_before e row)
  entered-gives e row h = record { words = h.words; quiet = h.quiet; silent = h.silent; sealed = h.sealed; made = h.made; seals = h.seals; link = h.link; so = h.so }

  -- behind what opened
  pub opened-gives : (opened : List SealEntry) (row : IncomingRow) → AreQuiet opened → R row → R (with_opened opened row)
  opened-gives opened row quiet h = record {
    words = h.words;
    quiet = opened ++ h.quiet;
    silent = quiet-append opened h.quiet quiet h.silent;
    sealed = h.sealed;
    made = h.made;
    seals = ap (λ (es : List SealEntry). opened ++ es) h.seals ∙ sym (append_assoc opened h.quiet h.sealed.seals);
    link = h.link;
    so = h.so;
  }

abbrev pub TurnedGives : (List Given → List Entry → Option (Link IncomingStage) → Type 0) → ℕ → Secured → Turned MonClient IncomingStage → Type 0
TurnedGives P number s turned = TurnOf AreQuiet (RowGives P number s) turned

abbrev pub AlwaysGives : (List Given → List Entry → Option (Link IncomingStage) → Type 0) → ℕ → Secured → Deciding Hosted → Type 0
AlwaysGives P number s rule = Always (λ (h : Hosted). TurnedGives P number s h.turned) rule

-- ---- a link that waits for the signature

-- a link that waits for an ident is this owner's
abbrev pub WaitsFor : Authority → IncomingStage → Type 0
WaitsFor owner (AwaitsIdent s other) = other ≡ owner
WaitsFor owner _ = ⊥

-- nothing is given; where it goes on, the signature was read
pub data SignedGives (owner : Authority) (f : Frame) : List Given → List Entry → Option (Link IncomingStage) → Type 0 where
  SignedShut : (es : List Entry) → SignedGives owner f [] es None
  SignedOn : (link : Link IncomingStage) → f.tag ≡ 7 → WaitsFor owner link.stage → SignedGives owner f [] [] (Some link)

pub signature-gives : (b : IncomingArrival) (s : Secured) (owner : Authority) (f : Frame) → RowGives (SignedGives owner f) b.link.number s (on_signature b s owner (due 7 auth_signature_layout.form f))
signature-gives b s owner f =
    signature-so b s owner f (RowGives (SignedGives owner f) b.link.number s) (record {
      shut = λ why by. shuts-gives (SignedGives owner f) b s why [] tt (SignedShut _);
      waits = λ tag. goes-gives (SignedGives owner f) b s (AwaitsIdent s owner) (signature_found s ∷ []) (WaitsOn s owner) (tt, tt)
          (SignedOn (record b.link { stage = AwaitsIdent s owner }) tag refl);
    })

-- ---- a link that waits for an ident

-- the cookie of the session that this frame asks for
pub data AsksWith (f : Frame) (cookie : ℕ) : Type 0 where
  ByIdent : (ident : ClientIdent) → f.tag ≡ 8 → payload client_ident_layout.form f ≡ Ok ident → ident.cookie ≡ cookie → AsksWith f cookie
  ByReconnect : (again : SessionReconnect) → f.tag ≡ 11 → payload session_reconnect_layout.form f ≡ Ok again → again.client_cookie ≡ cookie → AsksWith f cookie

-- a link that is open serves the session of this cookie; one that waits for an ident is this owner's
abbrev pub IsServedAs : Authority → ℕ → IncomingStage → Type 0
IsServedAs owner cookie (Open s served) = served.cookie ≡ cookie
IsServedAs owner cookie (AwaitsIdent s other) = other ≡ owner
IsServedAs owner cookie _ = Unit {0}

-- one reply, with the cookie that was asked for; or the link is shut, and at most the features that are missing are told
pub data IdentGives (owner : Authority) (f : Frame) : List Given → List Entry → Option (Link IncomingStage) → Type 0 where
  IdentShut : (es : List Entry) → IdentGives owner f [] es None
  IdentMisses : (features : ℕ) (es : List Entry) → IdentGives owner f (Misses features ∷ []) es None
  IdentReplies : (cookie : ℕ) (told : Reply) (es : List Entry) (link : Link IncomingStage) → AsksWith f cookie → IsServedAs owner cookie link.stage
      → IdentGives owner f (Replies cookie told ∷ []) es (Some link)

module _ (b : IncomingArrival) (s : Secured) (owner : Authority) (f : Frame) where
  abbrev I : IncomingRow → Type 0
  I row = RowGives (IdentGives owner f) b.link.number s row

  refuses-ident : (why : Reason) (seals : List SealEntry) → AreQuiet seals → I (refuses b why seals)
  refuses-ident why seals quiet = shuts-gives (IdentGives owner f) b s why seals quiet (IdentShut _)

  admits-gives : (ident : ClientIdent) (number epoch : ℕ) → AsksWith f ident.cookie → I (admits b s owner ident number epoch)
  admits-gives ident number epoch asks =
      entered-gives (IdentGives owner f) b s (journal.Admitted (admission_of b owner number epoch ident.cookie)) _
      (one-gives (λ words es link. IdentGives owner f words (journal.Admitted (admission_of b owner number epoch ident.cookie) ∷ es) link) b s
      (λ behind. Open behind (served_as owner number epoch ident.cookie (is_lossy ident.flags))) (cookie_drawn b ∷ [])
      (Replies ident.cookie (Admits b.own.address (lossy_flags (is_lossy ident.flags)) (cookie_of b.draw)))
      (λ t. Serves t (served_as owner number epoch ident.cookie (is_lossy ident.flags))) (tt, tt)
      (λ t. IdentReplies ident.cookie _ _ _ asks refl) (λ why. IdentShut _))

  misses-gives : (features : ℕ) → I (misses b s features)
  misses-gives features = by_sealed (secure_frame s.keys (given_frame (Misses features))) refl
    where
      by_sealed : (r : Result SealedFrame BytesFault) → secure_frame s.keys (given_frame (Misses features)) ≡ r → I (missing_told b features r)
      by_sealed (Err why) e = refuses-ident (reason.Bytes why) [] tt
      by_sealed (Ok one) e = record {
        words = Misses features ∷ [];
        quiet = [];
        silent = tt;
        sealed = record { bytes = one.bytes ++ []; seals = one.seals ++ []; keys = one.keys };
        made = ap (λ (q : Result SealedFrame BytesFault). sealed_then q (λ first. sealed_behind first (secure_frames first.keys []))) e;
        seals = sym (append-nil one.seals);
        link = λ link is. absurd cc;
        so = IdentMisses features _;
      }

  tells-gives : (cookie : ℕ) → AsksWith f cookie → (why : Reason) (told : Reply)
      → I (entered_before (refused_entry b.me b.link.number why) (sends_secure b s (λ behind. AwaitsIdent behind owner) [] (reply_frame told)))
  tells-gives cookie asks why told =
      entered-gives (IdentGives owner f) b s (refused_entry b.me b.link.number why) _
      (one-gives (λ words es link. IdentGives owner f words (refused_entry b.me b.link.number why ∷ es) link) b s (λ behind. AwaitsIdent behind owner) [] (Replies cookie told)
      (λ t. WaitsOn t owner) tt (λ t. IdentReplies cookie told _ _ asks refl) (λ other. IdentShut _))

  resumes-gives : (again : SessionReconnect) (number epoch last : ℕ) (lossy : Bool) → AsksWith f again.client_cookie → I (resumes b s owner again number epoch last lossy)
  resumes-gives again number epoch last lossy asks =
      entered-gives (IdentGives owner f) b s (journal.Resumed (admission_of b owner number epoch again.client_cookie)) _
      (one-gives (λ words es link. IdentGives owner f words (journal.Resumed (admission_of b owner number epoch again.client_cookie) ∷ es) link) b s
      (λ behind. Open behind (served_as owner number epoch again.client_cookie lossy)) [] (Replies again.client_cookie (Resumes last))
      (λ t. Serves t (served_as owner number epoch again.client_cookie lossy)) tt (λ t. IdentReplies again.client_cookie (Resumes last) _ _ asks refl) (λ why. IdentShut _))

  told-gives : (again : SessionReconnect) → AsksWith f again.client_cookie → (why : Reason) (x : Frame) → TellsWhy why x
      → I (entered_before (refused_entry b.me b.link.number why) (sends_secure b s (λ behind. AwaitsIdent behind owner) [] x))
  told-gives again asks _ _ (TellsReset why of) = tells-gives again.client_cookie asks why Resets
  told-gives again asks _ _ (TellsRetry kept) = tells-gives again.client_cookie asks (reason.Session (session.StaleConnect kept)) (Retries kept)
  told-gives again asks _ _ (TellsRetryGlobal kept) = tells-gives again.client_cookie asks (reason.Session (session.StaleGlobal kept)) (RetriesGlobal kept)

  shut-gives : (why : Reason) (seals : List SealEntry) → ShutsIdent b why seals → I (refuses b why seals)
  shut-gives _ _ (UnreadIdent why) = refuses-ident (reason.Bytes why) [] tt
  shut-gives _ _ (Unadmitted why of) = refuses-ident why (cookie_drawn b ∷ []) (tt, tt)

  pub ident-gives : AlwaysGives (IdentGives owner f) b.link.number s (on_ident b s owner f)
  ident-gives = ident-so b s owner f AreQuiet I (record {
    shut = shut-gives;
    missed = misses-gives;
    admitted = λ ident tag is number epoch. admits-gives ident number epoch (ByIdent ident tag is refl);
    resumed = λ again tag is number epoch last lossy. resumes-gives again number epoch last lossy (ByReconnect again tag is refl);
    told = λ again tag is why x by. told-gives again (ByReconnect again tag is refl) why x by;
  })

-- ---- an open link

-- the link is open in the same session
abbrev pub StillServes : Served → IncomingStage → Type 0
StillServes served (Open s other) = other ≡ served
StillServes served _ = ⊥

-- an acknowledgement, or KEEPALIVE2_ACK
abbrev pub IsUpkeepWord : Given → Type 0
IsUpkeepWord (Acks seq) = Unit {0}
IsUpkeepWord (KeepsUp ack) = Unit {0}
IsUpkeepWord _ = ⊥

abbrev pub AreUpkeep : List Given → Type 0
AreUpkeep xs = AllByRecursion IsUpkeepWord xs

-- what is entered of an operation that a daemon handles in a session
abbrev pub handled_by : Name → Served → Instruction → Outcome → Handled
handled_by daemon served i outcome = record {
  daemon = daemon;
  session = served.number;
  epoch = served.epoch;
  cookie = served.cookie;
  seq = i.seq;
  operation = i.operation;
  outcome = outcome;
}

-- the link is shut without a word; or it goes on, in its session, and what was read is no ident: it may tell how the operation that was read ended, which the row
-- has as handled
pub data OpenGives (daemon : Name) (served : Served) (f : Frame) : List Given → List Entry → Option (Link IncomingStage) → Type 0 where
  OpenShut : (es : List Entry) → OpenGives daemon served f [] es None
  OpenUpkeep : (words : List Given) (link : Link IncomingStage) → AreUpkeep words → (f.tag ≡ 8 → ⊥) → (f.tag ≡ 11 → ⊥) → StillServes served link.stage
      → OpenGives daemon served f words [] (Some link)
  OpenAnswers : (i : Instruction) (outcome : Outcome) (link : Link IncomingStage) → f.tag ≡ 17 → instruction_of (message_in f) ≡ Ok i → StillServes served link.stage
      → OpenGives daemon served f (Answers served.cookie i outcome ∷ Acks i.seq ∷ []) (journal.Handled (handled_by daemon served i outcome) ∷ []) (Some link)

module _ (handlers : Handlers) (b : IncomingArrival) (s : Secured) (served : Served) (f : Frame) where
  abbrev O : IncomingRow → Type 0
  O row = RowGives (OpenGives b.own.name served f) b.link.number s row

  refuses-open : (why : Reason) → O (refuses b why [])
  refuses-open why = shuts-gives (OpenGives b.own.name served f) b s why [] tt (OpenShut _)

  upkeep-gives : IsNoIdent f → (x : Given) → IsUpkeepWord x → O (secure_sent b s (λ behind. Open behind served) [] (secure_frame s.keys (given_frame x)))
  upkeep-gives other x keeps =
      one-gives (OpenGives b.own.name served f) b s (λ behind. Open behind served) [] x (λ t. Serves t served) tt (λ t. OpenUpkeep (x ∷ []) _ (keeps, tt) other.0 other.1 refl) (λ why. OpenShut _)

  handles-gives : f.tag ≡ 17 → (i : Instruction) (outcome : Outcome) → instruction_of (message_in f) ≡ Ok i → O (handles b s served i outcome)
  handles-gives tag i outcome read =
      entered-gives (OpenGives b.own.name served f) b s (handled_entry b served i outcome) _
      (sends-gives (λ words es link. OpenGives b.own.name served f words (handled_entry b served i outcome ∷ es) link) b s (λ behind. Open behind served) []
      (Answers served.cookie i outcome ∷ Acks i.seq ∷ []) (λ t. Serves t served) tt (λ t. OpenAnswers i outcome _ tag read refl) (λ why. OpenShut _))

  kept-gives : IsNoIdent f → (x : Frame) → IsUpkeep x → O (sends_secure b s (λ behind. Open behind served) [] x)
  kept-gives other _ (Acknowledges last) = upkeep-gives other (Acks last) tt
  kept-gives other _ (SendsBack ack) = upkeep-gives other (KeepsUp ack) tt

  pub open-gives : AlwaysGives (OpenGives b.own.name served f) b.link.number s (on_open handlers b s served f)
  open-gives = open-so handlers b s served f AreQuiet O (record {
    shut = λ why by. refuses-open why;
    kept_up = kept-gives;
    idled = λ other. goes-gives (OpenGives b.own.name served f) b s (Open s served) [] (Serves s served) tt (OpenUpkeep [] _ tt other.0 other.1 refl);
    handled = λ tag i is. handles-gives tag i (outcome_of handlers served.caps i.operation) is;
  })
