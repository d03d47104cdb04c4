-- What a daemon draws and seals on an incoming link once it has signed is as the uses of its keys allow, whatever the book of sessions replies; and so is
-- what it does at each turn of such a link.
use Rattle.std.proofs.Common.{◌≡◌, ◌∙◌, length, ℕ, true, List, [], ◌∷◌, Result, Ok, Err, refl}
use Rattle.cx_base.specs.Names.{is_daemon_type, Name}
use Rattle.cx_base.specs.declared.nodes.NodeName.{NodeName}
use Rattle.cx_control.specs.Auth.{auth_request_layout, auth_request_more_layout, auth_signature_layout}
use Rattle.cx_control.specs.Hello.{hello_layout}
use Rattle.cx_frame.specs.declared.frame.Frame.{Frame}
use Rattle.cx_journal.specs.declared.entries.Entry.{Entry}
use Rattle.cx_journal.specs.declared.entries.Entry.TheVariants as entry
use Rattle.cx_journal.specs.declared.faults.BytesFault.{BytesFault}
use Rattle.cx_journal.specs.declared.outcomes.Reason.{Reason}
use Rattle.cx_laws_tickets.proofs.authorize.Keys.{HostKeys, KeptKeys, KeysRow, StageKeys, host-moves, host-seals, keys-banner, keys-entered, keys-hello, keys-kept, keys-refuses, keys-secure, keys-signature, more-keys, request-keys}
use Rattle.cx_laws_keys.proofs.login.Facts.{IsSameWay}
use Rattle.cx_laws_keys.proofs.login.Rows.{Allowed, FrameOk, frame-ok, opened-allowed}
use Rattle.cx_laws_keys.proofs.keys.Known.{Inv, IsAllowed, IsOfKind}
use Rattle.cx_laws_keys.proofs.keys.Lists.{all-append}
use Rattle.cx_laws_keys.proofs.keys.Premises.{AreGranted}
use Rattle.cx_laws_keys.proofs.keys.Uses.{Uses, WholeRun, AreGenerated}
use Rattle.cx_laws_keys.specs.cx_rules.specs.Acceptor.{AwaitsBanner, AwaitsHello, AwaitsRequest, AwaitsProof, AwaitsSignature, AwaitsIdent, Open, missing_told, on_auth_request}
use Rattle.cx_laws_keys.specs.cx_rules.specs.Fronts.{keys_behind, opened_parts, sealed_ahead, taking}
use Rattle.cx_laws_keys.specs.cx_rules.specs.Holdings.{MonClient}
use Rattle.cx_laws_keys.specs.cx_rules.specs.Messages.{acknowledgement, sealed_behind, sealed_then, secure_frames}
use Rattle.cx_laws_keys.specs.cx_rules.specs.Payloads.{due}
use Rattle.cx_laws_keys.specs.cx_rules.specs.Rows.{Turned, at, refused_entry, secure_sent, with_opened}
use Rattle.cx_laws_keys.specs.cx_rules.specs.Secured.{Keys, SealedFrame, Secured, secure_frame, under}
use Rattle.cx_laws_keys.specs.cx_steps.specs.declared.seals.Logged.{Logged}
use Rattle.cx_laws_keys.specs.cx_steps.specs.declared.seals.SealEntry.{SealEntry}
use Rattle.cx_run.proofs.Always.{Always, TurnOf, always-weaker, turn-weaker}
use Rattle.cx_run.proofs.IncomingWalk.{ClosesIdent, ClosesOpen, ClosesTurn, ShutsIdent, Unadmitted, UnreadIdent, incoming-turn, ident-so, open-so}
use Rattle.cx_run.specs.cx_authorize.specs.Daemon.{Authority}
use Rattle.cx_run.specs.cx_desk.specs.Handlers.{Handlers}
use Rattle.cx_run.specs.cx_rules_session.specs.IncomingLinks.{IncomingArrival, IncomingRow, IncomingStage, Served, on_first}
use Rattle.cx_run.specs.cx_rules_session.specs.Hosting.{Deciding, Hosted, admission_of, answer_message, cookie_drawn, incoming_turned, handled_entry, on_ident, on_open, outcome_of, served_as}
use Rattle.cx_run.specs.cx_rules_session.specs.Lossy.{is_lossy}

-- what comes of a turn is allowed, and its link goes on under good keys
abbrev pub TurnedKeys : Uses → List Entry → NodeName → Turned MonClient IncomingStage → Type 0
TurnedKeys us J n turned = TurnOf (Allowed us J n) (KeysRow us J n) turned

-- ---- idents and reconnections, on a link that has an authority

module _ (us : Uses) (J : List Entry) (n : NodeName) (b : IncomingArrival) (s : Secured) (owner : Authority) (host : HostKeys us n b.link.number s.keys owner.ticket.name) where
  -- a frame that is sealed on the link
  sealed-frame : (f : Frame) → FrameOk us J n s.keys (secure_frame s.keys f)
  sealed-frame f = frame-ok us J n s.keys f (host-seals us n b.link.number s.keys owner.ticket.name host)

  moves : (t : Secured) → IsSameWay t.keys s.keys → HostKeys us n b.link.number t.keys owner.ticket.name
  moves t same = host-moves us n b.link.number t.keys s.keys owner.ticket.name same host

  opens : (t : Secured) → IsSameWay t.keys s.keys → (name : Name) × HostKeys us n b.link.number t.keys name
  opens t same = (owner.ticket.name, moves t same)

  missing-still : (features : ℕ) (r : Result SealedFrame BytesFault) → FrameOk us J n s.keys r → KeysRow us J n (missing_told b features r)
  missing-still features (Err why) ok = record { seals = tt; entries = (tt, tt); link = tt }
  missing-still features (Ok sealed) ok = record { seals = ok.0; entries = (tt, tt); link = tt }

  drawn : (why : Reason) (seals : List SealEntry) → ShutsIdent b why seals → Allowed us J n seals
  drawn _ _ (UnreadIdent why) = tt
  drawn _ _ (Unadmitted why of) = (tt, tt)

  closes-ident : (f : Frame) → ClosesIdent b s owner f (KeysRow us J n)
  closes-ident f = record {
    shut = λ why seals by. keys-refuses us J n b why seals (drawn why seals by);
    missed = λ features. missing-still features _ (sealed-frame _);
    admitted = λ ident tag is number epoch. keys-entered us J n b (entry.Admitted (admission_of b owner number epoch ident.cookie)) _ tt
        (keys-secure us J n b s (λ behind. Open behind (served_as owner number epoch ident.cookie (is_lossy ident.flags))) (cookie_drawn b ∷ []) _ (sealed-frame _) opens (tt, tt));
    resumed = λ again tag is number epoch last lossy. keys-entered us J n b (entry.Resumed (admission_of b owner number epoch again.client_cookie)) _ tt
        (keys-secure us J n b s (λ behind. Open behind (served_as owner number epoch again.client_cookie lossy)) [] _ (sealed-frame _) opens tt);
    told = λ again tag is why x by. keys-entered us J n b (refused_entry b.me b.link.number why) _ tt
        (keys-secure us J n b s (λ behind. AwaitsIdent behind owner) [] (secure_frame s.keys x) (sealed-frame x) moves tt);
  }

  pub frame-stays : (f : Frame) → Always (λ (h : Hosted). TurnedKeys us J n h.turned) (on_ident b s owner f)
  frame-stays f = ident-so b s owner f (Allowed us J n) (KeysRow us J n) (closes-ident f)

-- ---- messages, on a link that is open

module _ (us : Uses) (J : List Entry) (n : NodeName) (handlers : Handlers) (b : IncomingArrival) (s : Secured) (served : Served) (name : Name) (host : HostKeys us n b.link.number s.keys name) where
  -- some frames that are sealed on the link
  frames-ok : (keys : Keys) (fs : List Frame) → HostKeys us n b.link.number keys name → FrameOk us J n keys (secure_frames keys fs)
  frames-ok keys [] h = (tt, record { key = refl; out = refl; into = refl })
  frames-ok keys (f ∷ fs) h = by_first (secure_frame keys f) (frame-ok us J n keys f (host-seals us n b.link.number keys name h)) (λ k moved. frames-ok k fs moved)
    where
      by_rest : (one : SealedFrame) → Allowed us J n one.seals × IsSameWay one.keys keys → (r : Result SealedFrame BytesFault) → FrameOk us J n one.keys r → FrameOk us J n keys (sealed_behind one r)
      by_rest one ok (Err why) rest = tt
      by_rest one ok (Ok more) rest = (
        all-append (IsAllowed us J n) one.seals more.seals ok.0 rest.0,
        record { key = rest.1.key ∙ ok.1.key; out = rest.1.out ∙ ok.1.out; into = rest.1.into ∙ ok.1.into },
      )

      by_first : (r : Result SealedFrame BytesFault) → FrameOk us J n keys r → ((k : Keys) → HostKeys us n b.link.number k name → FrameOk us J n k (secure_frames k fs)) → FrameOk us J n keys (sealed_then r (λ one. sealed_behind one (secure_frames one.keys fs)))
      by_first (Err why) ok rest = tt
      by_first (Ok one) ok rest = by_rest one ok (secure_frames one.keys fs) (rest one.keys (host-moves us n b.link.number one.keys keys name ok.1 h))

  sends-still : (r : Result SealedFrame BytesFault) → FrameOk us J n s.keys r → KeysRow us J n (secure_sent b s (λ behind. Open behind served) [] r)
  sends-still r ok = keys-secure us J n b s (λ behind. Open behind served) [] r ok (λ t same. (name, host-moves us n b.link.number t.keys s.keys name same host)) tt

  closes-open : (f : Frame) → ClosesOpen handlers b s served f (KeysRow us J n)
  closes-open f = record {
    shut = λ why by. keys-refuses us J n b why [] tt;
    kept_up = λ other x by. sends-still (secure_frame s.keys x) (frame-ok us J n s.keys x (host-seals us n b.link.number s.keys name host));
    idled = λ other. record { seals = tt; entries = tt; link = (name, host) };
    handled = λ tag i is. keys-entered us J n b (handled_entry b served i (outcome_of handlers served.caps i.operation)) _ tt
        (sends-still _ (frames-ok s.keys (answer_message i (outcome_of handlers served.caps i.operation) ∷ acknowledgement i.seq ∷ []) host));
  }

  pub open-stays : (f : Frame) → Always (λ (h : Hosted). TurnedKeys us J n h.turned) (on_open handlers b s served f)
  open-stays f = open-so handlers b s served f (Allowed us J n) (KeysRow us J n) (closes-open f)

-- ---- a turn

module _ (run : WholeRun) (whole : List Logged) (n : NodeName) (line : ℕ) (us : Uses) (log : List Logged) (J : List Entry) (a : IncomingArrival)
    (i : Inv run whole us log J) (of : is_daemon_type a.own.name.kind ≡ true) (placed : IsOfKind n a.own.name.kind) (generated : AreGenerated us a.own.name.kind a.own.view.generations) (drawn : length a.draw ≡ 384) where
  -- where what a row logs is granted, it keeps what is known
  abbrev pub KeepsRow : IncomingRow → Type 0
  KeepsRow row = AreGranted run.leaked whole n line log row.seals → KeptKeys run whole n line us log J a i of placed generated row

  abbrev pub KeepsTurned : Turned MonClient IncomingStage → Type 0
  KeepsTurned turned = TurnOf (Allowed us J n) KeepsRow turned

  abbrev pub KeepsHosted : Hosted → Type 0
  KeepsHosted hosted = KeepsTurned hosted.turned

  simple : (row : IncomingRow) → KeysRow us J n row → KeepsRow row
  simple row h g = keys-kept run whole n line us log J a i of placed generated row h

  behind-opened : (opened : List SealEntry) → Allowed us J n opened → (row : IncomingRow) → KeysRow us J n row → KeepsRow (with_opened opened row)
  behind-opened opened al row h =
      simple (with_opened opened row) (record { seals = all-append (IsAllowed us J n) opened row.seals al h.seals; entries = h.entries; link = h.link })

  still-host : (s : Secured) (f : Frame) (name : Name) → HostKeys us n a.link.number s.keys name → HostKeys us n a.link.number (keys_behind s.keys f) name
  still-host s f name host = host-moves us n a.link.number (keys_behind s.keys f) s.keys name (record { key = refl; out = refl; into = refl }) host

  behind-rule : (s : Secured) (rule : Deciding Hosted) → Always (λ (h : Hosted). TurnedKeys us J n h.turned) rule
      → Always (λ (h : Hosted). TurnOf (Allowed us J n) (λ (row : IncomingRow). KeepsRow (with_opened (opened_parts (sealed_ahead s.keys a.link)) row)) h.turned) rule
  behind-rule s rule =
      let parts : List SealEntry = opened_parts (sealed_ahead s.keys a.link) in
      always-weaker (λ (h : Hosted). TurnedKeys us J n h.turned) (λ (h : Hosted). TurnOf (Allowed us J n) (λ (row : IncomingRow). KeepsRow (with_opened parts row)) h.turned)
      (λ h. turn-weaker (Allowed us J n) (KeysRow us J n) (λ (row : IncomingRow). KeepsRow (with_opened parts row))
      (behind-opened parts (opened-allowed us J n (sealed_ahead s.keys a.link))) h.turned) rule

  closes-turn : (handlers : Handlers) (stage : IncomingStage) → StageKeys us n a.link.number stage → ClosesTurn handlers a (Allowed us J n) KeepsRow stage
  closes-turn handlers AwaitsBanner st = λ m ahead. simple _ (keys-banner us J n (at a (taking a.link m)) a.own.name.kind)
  closes-turn handlers AwaitsHello st = λ f m ahead. simple _ (keys-hello us J n (at a (taking a.link m)) (due 1 hello_layout.form f))
  closes-turn handlers AwaitsRequest st = λ f m ahead g.
      keys-kept run whole n line us log J a i of placed generated (on_auth_request on_first (at a (taking a.link m)) (due 2 auth_request_layout.form f))
      (request-keys run whole n line us log J (at a (taking a.link m)) i of placed generated (due 2 auth_request_layout.form f) g)
  closes-turn handlers (AwaitsProof awaited) st = λ f m ahead g.
      let h = more-keys run whole n line us log J (at a (taking a.link m)) i of placed generated awaited (due 5 auth_request_more_layout.form f) drawn g in
      record { uses = h.uses; grows = h.grows; inv = h.inv; entries = h.entries; link = h.link }
  closes-turn handlers (AwaitsSignature s owner) st = λ f m is.
      behind-opened (opened_parts (sealed_ahead s.keys a.link)) (opened-allowed us J n (sealed_ahead s.keys a.link)) _
      (keys-signature us J n (at a (taking a.link m)) (under s (keys_behind s.keys f)) owner (due 7 auth_signature_layout.form f) (still-host s f owner.ticket.name st))
  closes-turn handlers (AwaitsIdent s owner) st = λ f m is.
      behind-rule s _ (frame-stays us J n (at a (taking a.link m)) (under s (keys_behind s.keys f)) owner (still-host s f owner.ticket.name st) f)
  closes-turn handlers (Open s served) st = λ f m is.
      behind-rule s _ (open-stays us J n handlers (at a (taking a.link m)) (under s (keys_behind s.keys f)) served st.0 (still-host s f st.0 st.1) f)

  pub incoming-keeps : (handlers : Handlers) (stage : IncomingStage) → StageKeys us n a.link.number stage → Always KeepsHosted (incoming_turned handlers a stage)
  incoming-keeps handlers stage st =
      incoming-turn handlers a (Allowed us J n) KeepsRow tt (λ keys. opened-allowed us J n (sealed_ahead keys a.link)) stage (closes-turn handlers stage st)
