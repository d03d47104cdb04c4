-- What a row of a daemon's link to a client does behind authentication, whatever the book of sessions replies: the link has taken the next of what its client
-- spoke, where that one didn't leak; a session is admitted or resumed under the cookie that was spoken of; an operation is handled that was sent in the
-- session; and nothing is sealed as by a connector.
use Rattle.std.proofs.Common.{◌≡◌, ℕ, Bool, false, List, [], ◌∷◌, ◌++◌, length, Option, Some, None, Result, Ok, Err, inl, inr, ◌⊎◌, refl, sym, ap, ◌∙◌, subst, arith}
use Rattle.std.proofs.lemmas.Bool.Decides.{nat_tests}
use Rattle.std.proofs.lemmas.List.Elements.{Contains-append_right, Contains-push}
use Rattle.std.specs.Prelude.{Contains}
use Rattle.std.specs.List.{AllByRecursion}
use Rattle.cx_base.specs.Names.{Name}
use Rattle.cx_base.specs.declared.nodes.NodeName.{NodeName}
use Rattle.cx_control.specs.Idents.{client_ident_layout, ident_missing_features_layout}
use Rattle.cx_control.specs.Reconnects.{session_reconnect_layout}
use Rattle.cx_control.specs.declared.idents.ClientIdent.{ClientIdent}
use Rattle.cx_control.specs.declared.reconnects.SessionReconnect.{SessionReconnect}
use Rattle.cx_desk.specs.Handlers.{Handlers}
use Rattle.cx_dice.specs.Draws.{cookie_of}
use Rattle.cx_frame.specs.declared.frame.Frame.{Frame}
use Rattle.cx_journal.specs.declared.entries.Admitted.{Admitted}
use Rattle.cx_journal.specs.declared.entries.Entry.{Entry}
use Rattle.cx_journal.specs.declared.entries.Entry.TheVariants as journal
use Rattle.cx_journal.specs.declared.entries.Handled.{Handled}
use Rattle.cx_journal.specs.declared.faults.BytesFault.{BytesFault}
use Rattle.cx_journal.specs.declared.faults.SessionFault.TheVariants as session
use Rattle.cx_journal.specs.declared.outcomes.Outcome.{Outcome}
use Rattle.cx_journal.specs.declared.outcomes.Reason.{Reason}
use Rattle.cx_journal.specs.declared.premises.KeyKind.TheVariants as kind
use Rattle.cx_laws_links.proofs.links.CallTells.{by-append, quiet-none}
use Rattle.cx_laws_links.proofs.links.CallWords.{IsQuiet}
use Rattle.cx_laws_links.proofs.links.IncomingJoins.{incoming-joins}
use Rattle.cx_laws_links.proofs.links.IncomingWords.{AreSpelled, Heard, heard-next}
use Rattle.cx_laws_links.proofs.links.Hearing.{hears-else, hears-ident, hears-order, hears-reconnect}
use Rattle.cx_laws_links.proofs.links.Known.{AreTold, AsksFor, IncomingTold, HasTaken, IsIncoming, IsTrueWord, Told}
use Rattle.cx_laws_links.proofs.links.Since.{since}
use Rattle.cx_laws_links.proofs.links.Spoken.{Orders, Reconnects, Spoken, cookie_after, is_connectors, said_under}
use Rattle.cx_laws_keys.proofs.keys.Known.{Inv, IsOfAcceptor, IsOfConnector}
use Rattle.cx_laws_keys.proofs.keys.Lists.{all-of-map}
use Rattle.cx_laws_keys.proofs.keys.Premises.{AreGranted, granted-first}
use Rattle.cx_laws_keys.proofs.keys.Uses.{AtDaemon, Connected, Means, Uses, WholeRun}
use Rattle.cx_laws_keys.specs.cx_stream.specs.Openings.{front_contents}
use Rattle.cx_laws_keys.specs.cx_stream.specs.SecureStreams.{Ahead}
use Rattle.cx_laws_keys.proofs.series.Contents.{contents_by, parts-others}
use Rattle.cx_laws_keys.proofs.series.Frames.{frame-sealed}
use Rattle.cx_laws_keys.specs.cx_rules.specs.Acceptor.{AwaitsBanner, AwaitsHello, AwaitsRequest, AwaitsProof, AwaitsSignature, AwaitsIdent, Open, missing_told, server_ident}
use Rattle.cx_laws_keys.specs.cx_rules.specs.Fronts.{keys_behind, opened_parts, sealed_ahead, taking}
use Rattle.cx_laws_keys.specs.cx_rules.specs.Holdings.{MonClient}
use Rattle.cx_laws_keys.specs.cx_rules.specs.Links.{Link}
use Rattle.cx_laws_keys.specs.cx_rules.specs.Messages.{acknowledgement, message_in, sealed_behind, sealed_then, secure_frames}
use Rattle.cx_laws_keys.specs.cx_rules.specs.Payloads.{control, payload}
use Rattle.cx_laws_keys.specs.cx_rules.specs.Rows.{Turned, Waits, Refuses, Handles, at, refused_entry, refuses, secure_sent, with_opened}
use Rattle.cx_laws_keys.specs.cx_rules.specs.Secured.{Keys, SealedFrame, Secured, Way, secure_frame, under}
use Rattle.cx_laws_tickets.specs.cx_run.proofs.Always.{Always, always-weaker, TurnOf, always-unit, turn-weaker}
use Rattle.cx_laws_tickets.specs.cx_run.proofs.IncomingWalk.{ClosesIdent, ClosesOpen, ClosesSignature, ClosesTurn, IsNoIdent, ShutsIdent, Unadmitted, UnreadIdent, incoming-turn, ident-so, open-so, signature-so}
use Rattle.cx_laws_tickets.specs.cx_run.specs.cx_authorize.specs.Daemon.{Authority}
use Rattle.cx_laws_tickets.specs.cx_run.specs.cx_rules_session.specs.IncomingLinks.{IncomingArrival, IncomingRow, IncomingStage, Served}
use Rattle.cx_laws_tickets.specs.cx_run.specs.cx_rules_session.specs.Hosting.{Deciding, Hosted, Instruction, admission_of, admits, answer_message, cookie_drawn, incoming_turned, handled_entry, handles, instruction_of, on_ident, on_open, outcome_of, reconnect_ok, resumes, served_as}
use Rattle.cx_laws_tickets.specs.cx_run.specs.cx_rules_session.specs.Kinds.{entered_before}
use Rattle.cx_laws_tickets.specs.cx_run.specs.cx_rules_session.specs.Lossy.{is_lossy, lossy_flags}
use Rattle.cx_laws_tickets.specs.cx_run.specs.cx_rules_session.specs.Sessions.{HeldSession}
use Rattle.cx_secure.specs.Parts.{nonce_at}
use Rattle.cx_secure.specs.Plains.{plains}
use Rattle.cx_steps.specs.declared.seals.Logged.{Logged}
use Rattle.cx_steps.specs.declared.seals.SealEntry.{SealEntry}
use Rattle.cx_steps.specs.declared.seals.SealEntry.TheVariants as entry

-- ---- keys of a link that goes on

-- the same key, taken as far, under the same nonce
pub record IsTakenSo (t s : Keys) : Type 0 where
  pub key : t.key ≡ s.key
  pub into : t.into ≡ s.into
  pub out : t.out.fixed ≡ s.out.fixed

taken-so : (told : Told) (t s : Secured) (cookie : Option ℕ) → IsTakenSo t.keys s.keys → HasTaken told s cookie → HasTaken told t cookie
taken-so told t s cookie same h = record {
  taken = h.taken;
  rest = h.rest;
  front = ap (λ (k : List ℕ). said_under k told.said) same.key ∙ h.front;
  counter = let into : t.keys.into.counter ≡ s.keys.into.counter = ap (λ (w : Way). w.counter) same.into in into ∙ h.counter;
  session = h.session;
}

incoming-moves : (run : WholeRun) (us : Uses) (told : Told) (n : NodeName) (number : ℕ) (t s : Secured) (name : Name) → t.keys.key ≡ s.keys.key → t.keys.into.fixed ≡ s.keys.into.fixed
    → IsIncoming run us told n number s name → IsIncoming run us told n number t name
incoming-moves run us told n number t s name key fixed g = record {
  service = g.service;
  tie = g.tie;
  means = subst (λ (k : List ℕ). Means us k (Connected n number name (AtDaemon g.service g.tie))) (sym key) g.means;
  connector = subst IsOfConnector (sym fixed) g.connector;
  four = ap (λ (l : List ℕ). length l) fixed ∙ g.four;
}

incoming-so : (run : WholeRun) (us : Uses) (told : Told) (n : NodeName) (number : ℕ) (t s : Secured) (name : Name) → IsTakenSo t.keys s.keys → IsIncoming run us told n number s name
    → IsIncoming run us told n number t name
incoming-so run us told n number t s name same g = incoming-moves run us told n number t s name same.key (ap (λ (w : Way). w.fixed) same.into) g

-- ---- what an acceptor seals is nothing of a connector

abbrev pub IsOfNoConnector : List SealEntry → Type 0
IsOfNoConnector es = (key : List ℕ) → contents_by key is_connectors es ≡ []

fails-acceptor : (fixed : List ℕ) → IsOfAcceptor fixed → (m : ℕ) (plain : List ℕ) → is_connectors (nonce_at fixed m ++ plain) ≡ false
unfolding nonce_at
fails-acceptor [] h m plain = absurd h
fails-acceptor (b ∷ bytes) h m plain = grind (arith, nat_tests)

-- a frame, or some in one piece, where they were sealed
abbrev pub IsSealedSo : Keys → Result SealedFrame BytesFault → Type 0
IsSealedSo keys (Ok s) = IsTakenSo s.keys keys × IsOfNoConnector s.seals
IsSealedSo keys (Err why) = Unit {0}

pub frame-so : (keys : Keys) (f : Frame) → IsOfAcceptor keys.out.fixed → IsSealedSo keys (secure_frame keys f)
frame-so keys f acceptor = by_sealed (secure_frame keys f) refl
  where
    by_sealed : (r : Result SealedFrame BytesFault) → secure_frame keys f ≡ r → IsSealedSo keys r
    by_sealed (Err why) e = tt
    by_sealed (Ok s) e =
        let is = (frame-sealed keys f s e).0 in (
          record {
            key = ap (λ (x : SealedFrame). x.keys.key) is;
            into = ap (λ (x : SealedFrame). x.keys.into) is;
            out = ap (λ (x : SealedFrame). x.keys.out.fixed) is;
          },
          λ key. ap (λ (x : SealedFrame). contents_by key is_connectors x.seals) is
              ∙ parts-others key is_connectors keys.key keys.out.fixed (inr (fails-acceptor keys.out.fixed acceptor)) keys.out.counter (plains f),
        )

frames-so : (keys : Keys) (fs : List Frame) → IsOfAcceptor keys.out.fixed → IsSealedSo keys (secure_frames keys fs)
frames-so keys [] acceptor = (record { key = refl; into = refl; out = refl }, λ key. refl)
frames-so keys (f ∷ fs) acceptor = by_first (secure_frame keys f) (frame-so keys f acceptor) (λ k own. frames-so k fs own)
  where
    by_rest : (one : SealedFrame) → IsSealedSo keys (Ok one) → (r : Result SealedFrame BytesFault) → IsSealedSo one.keys r → IsSealedSo keys (sealed_behind one r)
    by_rest one ok (Err why) rest = tt
    by_rest one ok (Ok more) rest = (
      record { key = rest.0.key ∙ ok.0.key; into = rest.0.into ∙ ok.0.into; out = rest.0.out ∙ ok.0.out },
      λ key. by-append key is_connectors one.seals more.seals (ok.1 key) (rest.1 key),
    )

    by_first : (r : Result SealedFrame BytesFault) → IsSealedSo keys r → ((k : Keys) → IsOfAcceptor k.out.fixed → IsSealedSo k (secure_frames k fs))
        → IsSealedSo keys (sealed_then r (λ one. sealed_behind one (secure_frames one.keys fs)))
    by_first (Err why) ok rest = tt
    by_first (Ok one) ok rest = by_rest one ok (secure_frames one.keys fs) (rest one.keys (subst IsOfAcceptor (sym ok.0.out) acceptor))

-- ---- rows

-- the operation was sent by this entity, under the cookie of the session, with its seq
abbrev pub WasSentAs : List Entry → Name → Handled → Type 0
WasSentAs J name h = (daemon : Name) × Contains J (journal.Sent (record { client = name; daemon = daemon; cookie = h.cookie; seq = h.seq; operation = h.operation }))

-- it is handled in a session of this entity, which was opened since the daemon's last restart
pub record IsServedIn (J : List Entry) (name : Name) (h : Handled) : Type 0 where
  pub session : Admitted
  pub opens : Contains (since h.daemon J) (journal.Admitted session) ⊎ Contains (since h.daemon J) (journal.Resumed session)
  pub daemon_is : session.daemon ≡ h.daemon
  pub entity : session.entity ≡ name
  pub number : session.session ≡ h.session
  pub epoch : session.epoch ≡ h.epoch
  pub cookie : session.cookie ≡ h.cookie

-- the session of this cookie was taken up again on a link with this key
pub record TakesUp (said : List (List ℕ × Spoken)) (key : List ℕ) (cookie : ℕ) : Type 0 where
  pub mon_client : MonClient
  pub session : HeldSession
  pub is : session.client_cookie ≡ cookie
  pub says : Contains said (key, Reconnects mon_client session)

-- what an entry of a row tells of an entity's link with this key
abbrev pub EntryHeard : WholeRun → List (List ℕ × Spoken) → List Entry → List ℕ → Name → Entry → Type 0
EntryHeard run said J key name (journal.Handled h) = IsServedIn J name h × ((Contains run.leaked name → ⊥) → WasSentAs J name h)
EntryHeard run said J key name (journal.Admitted a) = (a.entity ≡ name) × ((Contains run.leaked name → ⊥) → AsksFor said key a.cookie)
EntryHeard run said J key name (journal.Resumed a) = (a.entity ≡ name) × ((Contains run.leaked name → ⊥) → TakesUp said key a.cookie)
EntryHeard run said J key name (journal.Restarted at) = ⊥
EntryHeard run said J key name _ = Unit {0}

-- the sessions that are admitted by these entries are joined to the link's key
abbrev pub joins_by : List (List ℕ × ℕ) → List ℕ → Entry → List (List ℕ × ℕ)
joins_by joins key (journal.Admitted a) = joins ++ (key, a.cookie) ∷ []
joins_by joins key _ = joins

abbrev pub joins_behind : List (List ℕ × ℕ) → List ℕ → List Entry → List (List ℕ × ℕ)
joins_behind joins key [] = joins
joins_behind joins key (e ∷ es) = joins_behind (joins_by joins key e) key es

abbrev pub told_by : Told → List ℕ → List Entry → Told
told_by told key es = record told { joins = joins_behind told.joins key es }

abbrev pub LinkHeard : WholeRun → Uses → Told → NodeName → Option (Link IncomingStage) → Type 0
LinkHeard run us told n (Some link) = IncomingTold run us told n link.number link.stage
LinkHeard run us told n None = Unit {0}

-- an entry stands in a journal, or among those of a row
abbrev pub StandsIn : List Entry → List Entry → Entry → Type 0
StandsIn J es e = Contains J e ⊎ Contains es e

-- a session of this entity was opened at a daemon, which serves it, since its last restart
pub record OpenedFor (J es : List Entry) (daemon name : Name) (served : Served) : Type 0 where
  pub session : Admitted
  pub opens : StandsIn (since daemon J) es (journal.Admitted session) ⊎ StandsIn (since daemon J) es (journal.Resumed session)
  pub daemon_is : session.daemon ≡ daemon
  pub entity : session.entity ≡ name
  pub number : session.session ≡ served.number
  pub epoch : session.epoch ≡ served.epoch
  pub cookie : session.cookie ≡ served.cookie

-- a link that is open has this key, and serves such a session
abbrev pub ServedFor : List Entry → List Entry → Name → List ℕ → Name → IncomingStage → Type 0
ServedFor J es daemon key name (Open s served) = (s.keys.key ≡ key) × OpenedFor J es daemon name served
ServedFor J es daemon key name _ = Unit {0}

abbrev pub LinkServes : List Entry → List Entry → Name → List ℕ → Name → Option (Link IncomingStage) → Type 0
LinkServes J es daemon key name (Some link) = ServedFor J es daemon key name link.stage
LinkServes J es daemon key name None = Unit {0}

opened-so : (J es fs : List Entry) (daemon name : Name) (served : Served) → ((e : Entry) → StandsIn (since daemon J) es e → StandsIn (since daemon J) fs e) → OpenedFor J es daemon name served → OpenedFor J fs daemon name served
opened-so J es fs daemon name served more h = record {
  session = h.session;
  opens = by_kind h.opens;
  daemon_is = h.daemon_is;
  entity = h.entity;
  number = h.number;
  epoch = h.epoch;
  cookie = h.cookie;
}
  where
    by_kind : StandsIn (since daemon J) es (journal.Admitted h.session) ⊎ StandsIn (since daemon J) es (journal.Resumed h.session)
        → StandsIn (since daemon J) fs (journal.Admitted h.session) ⊎ StandsIn (since daemon J) fs (journal.Resumed h.session)
    by_kind (inl was) = inl (more (journal.Admitted h.session) was)
    by_kind (inr was) = inr (more (journal.Resumed h.session) was)

stands-more : (J es : List Entry) (e x : Entry) → StandsIn J es x → StandsIn J (e ∷ es) x
stands-more J es e x (inl was) = inl was
stands-more J es e x (inr now) = inr (Contains-append_right (e ∷ []) es x now)

served-so : (J es : List Entry) (e : Entry) (daemon : Name) (key : List ℕ) (name : Name) (stage : IncomingStage) → ServedFor J es daemon key name stage → ServedFor J (e ∷ es) daemon key name stage
served-so J es e daemon key name (Open s served) h = (h.0, opened-so J es (e ∷ es) daemon name served (λ x has. stands-more (since daemon J) es e x has) h.1)
served-so J es e daemon key name AwaitsBanner h = tt
served-so J es e daemon key name AwaitsHello h = tt
served-so J es e daemon key name AwaitsRequest h = tt
served-so J es e daemon key name (AwaitsProof awaited) h = tt
served-so J es e daemon key name (AwaitsSignature s owner) h = tt
served-so J es e daemon key name (AwaitsIdent s owner) h = tt

serves-so : (J es : List Entry) (e : Entry) (daemon : Name) (key : List ℕ) (name : Name) (link : Option (Link IncomingStage)) → LinkServes J es daemon key name link → LinkServes J (e ∷ es) daemon key name link
serves-so J es e daemon key name (Some link) h = served-so J es e daemon key name link.stage h
serves-so J es e daemon key name None h = tt

-- what a row does that heard this entity on its link: where this is given, it goes on with what is known of it, and its entries tell what was spoken; a link
-- that is open serves a session of the entity; and nothing is sealed as by a connector
pub record HearsRow (run : WholeRun) (us : Uses) (told : Told) (J : List Entry) (n : NodeName) (daemon : Name) (key : List ℕ) (name : Name) (Given : Type 0) (row : IncomingRow) : Type 0 where
  pub link : Given → LinkHeard run us (told_by told key row.entries) n row.link
  pub entries : Given → AllByRecursion (EntryHeard run told.said J key name) row.entries
  pub serves : LinkServes J row.entries daemon key name row.link
  pub seals : IsOfNoConnector row.seals

abbrev pub HearsTurned : WholeRun → Uses → Told → List Entry → NodeName → Name → List ℕ → Name → Type 0 → Turned MonClient IncomingStage → Type 0
HearsTurned run us told J n daemon key name Given Waits = Unit {0}
HearsTurned run us told J n daemon key name Given (Refuses why opened) = IsOfNoConnector opened
HearsTurned run us told J n daemon key name Given (Handles row) = HearsRow run us told J n daemon key name Given row

module _ (run : WholeRun) (us : Uses) (told : Told) (J : List Entry) (n : NodeName) (daemon : Name) (key : List ℕ) (name : Name) (Given : Type 0) where
  abbrev H : IncomingRow → Type 0
  H row = HearsRow run us told J n daemon key name Given row

  heard-refuses : (b : IncomingArrival) (why : Reason) (seals : List SealEntry) → IsOfNoConnector seals → H (refuses b why seals)
  heard-refuses b why seals quiet = record { link = λ given. tt; serves = tt; entries = λ given. (tt, tt); seals = quiet }

  heard-secure : (b : IncomingArrival) (s : Secured) (stage : Secured → IncomingStage) (seals : List SealEntry) (r : Result SealedFrame BytesFault) → IsSealedSo s.keys r
      → (Given → (t : Secured) → IsTakenSo t.keys s.keys → IncomingTold run us told n b.link.number (stage t)) → ((t : Secured) → IsTakenSo t.keys s.keys → ServedFor J [] daemon key name (stage t)) → IsOfNoConnector seals
      → H (secure_sent b s stage seals r)
  heard-secure b s stage seals (Ok sealed) ok st serves quiet = record {
    serves = serves (record s { keys = sealed.keys }) ok.0;
    link = λ given. st given (record s { keys = sealed.keys }) ok.0;
    entries = λ given. tt;
    seals = λ k. by-append k is_connectors seals sealed.seals (quiet k) (ok.1 k);
  }
  heard-secure b s stage seals (Err why) ok st serves quiet = record { link = λ given. tt; serves = tt; entries = λ given. (tt, tt); seals = quiet }

  heard-entered : (e : Entry) (row : IncomingRow) → ((joins : List (List ℕ × ℕ)) → joins_by joins key e ≡ joins) → (Given → EntryHeard run told.said J key name e) → H row → H (entered_before e row)
  heard-entered e row same says h = record {
    link = λ given. subst (λ (joins : List (List ℕ × ℕ)). LinkHeard run us (record told { joins = joins_behind joins key row.entries }) n row.link) (sym (same told.joins)) (h.link given);
    entries = λ given. (says given, h.entries given);
    serves = serves-so J row.entries e daemon key name row.link h.serves;
    seals = h.seals;
  }

  -- behind what opened, where that gives it
  heard-opened : (Whole : Type 0) (opened : List SealEntry) (row : IncomingRow) → (Whole → Given) → IsOfNoConnector opened → H row → HearsRow run us told J n daemon key name Whole (with_opened opened row)
  heard-opened Whole opened row gives quiet h = record {
    link = λ whole. h.link (gives whole);
    entries = λ whole. h.entries (gives whole);
    serves = h.serves;
    seals = λ k. by-append k is_connectors opened row.seals (quiet k) (h.seals k);
  }

-- ---- a link that waits for the signature or an ident

module _ (run : WholeRun) (us : Uses) (told : Told) (J : List Entry) (n : NodeName) (b : IncomingArrival) (s : Secured) (owner : Authority) (f : Frame)
    (g : IsIncoming run us told n b.link.number s owner.ticket.name) (own : IsOfAcceptor s.keys.out.fixed)
    (Given : Type 0) (heard : Given → (Contains run.leaked owner.ticket.name → ⊥) → (before : Option ℕ) × Heard told J owner.ticket.name s before f)
    (unjoined : (cookie : ℕ) → Contains told.joins (s.keys.key, cookie) → ⊥) where
  abbrev name : Name
  name = owner.ticket.name

  abbrev Free : Type 0
  Free = Contains run.leaked name → ⊥

  abbrev HI : IncomingRow → Type 0
  HI row = HearsRow run us told J n b.own.name s.keys.key name Given row

  -- it waits on, with what it has taken
  waits : Given → (t : Secured) → IsTakenSo t.keys s.keys → IncomingTold run us told n b.link.number (AwaitsIdent t owner)
  waits given t same = (
    incoming-so run us told n b.link.number t s name same g,
    λ free. let h = heard given free in (cookie_after h.0 h.1.word, taken-so told t s (cookie_after h.0 h.1.word) same h.1.taken),
    λ cookie has. unjoined cookie (subst (λ (k : List ℕ). Contains told.joins (k, cookie)) same.key has),
  )

  itself : IsTakenSo s.keys s.keys
  itself = record { key = refl; into = refl; out = refl }

  closes-signature : ClosesSignature b s owner f HI
  closes-signature = record {
    shut = λ why by. record { link = λ given. tt; serves = tt; entries = λ given. (tt, tt); seals = λ k. refl };
    waits = λ tag. record { link = λ given. waits given s itself; serves = tt; entries = λ given. tt; seals = λ k. refl };
  }

  sealed-frame : (x : Frame) → IsSealedSo s.keys (secure_frame s.keys x)
  sealed-frame x = frame-so s.keys x own

  -- it is open in a session of this cookie, where that was spoken of
  opens : (served : Served) → (Given → Free → HasTaken told s (Some served.cookie)) → Given → (t : Secured) → IsTakenSo t.keys s.keys → IncomingTold run us told n b.link.number (Open t served)
  opens served taken given t same = (name, incoming-so run us told n b.link.number t s name same g, λ free. taken-so told t s (Some served.cookie) same (taken given free))

  -- ---- CLIENT_IDENT

  ident-asks : (ident : ClientIdent) → f.tag ≡ 8 → payload client_ident_layout.form f ≡ Ok ident → Given → Free → HasTaken told s (Some ident.cookie) × AsksFor told.said s.keys.key ident.cookie
  ident-asks ident tag read given free =
      let h = heard given free in
      let w = hears-ident h.1.word f ident h.1.frame tag h.1.spelled read in (
        subst (λ (o : Option ℕ). HasTaken told s o) (ap (λ (x : Spoken). cookie_after h.0 x) w.3) h.1.taken,
        record { mon_client = w.0; gid = w.1; flags = w.2; asks = subst (λ (x : Spoken). Contains told.said (s.keys.key, x)) w.3 h.1.said },
      )

  admits-heard : (ident : ClientIdent) (number epoch : ℕ) → (Given → Free → HasTaken told s (Some ident.cookie) × AsksFor told.said s.keys.key ident.cookie) → HI (admits b s owner ident number epoch)
  admits-heard ident number epoch asks =
      by_sealed (secure_frame s.keys (server_ident b.own.address (lossy_flags (is_lossy ident.flags)) (cookie_of b.draw))) (sealed-frame (server_ident b.own.address (lossy_flags (is_lossy ident.flags)) (cookie_of b.draw)))
    where
      served : Served
      served = served_as owner number epoch ident.cookie (is_lossy ident.flags)

      by_sealed : (r : Result SealedFrame BytesFault) → IsSealedSo s.keys r → HI (entered_before (journal.Admitted (admission_of b owner number epoch ident.cookie))
          (secure_sent b s (λ behind. Open behind (served_as owner number epoch ident.cookie (is_lossy ident.flags))) (cookie_drawn b ∷ []) r))
      by_sealed (Ok sealed) ok = record {
        link = λ given.
            incoming-joins run us told n b.link.number (told.joins ++ (s.keys.key, ident.cookie) ∷ []) (Open (record s { keys = sealed.keys }) served) tt
            (opens served (λ given free. (asks given free).0) given (record s { keys = sealed.keys }) ok.0);
        entries = λ given. ((refl, λ free. (asks given free).1), tt);
        serves = (
          ok.0.key,
          record {
            session = admission_of b owner number epoch ident.cookie;
            opens = inl (inr (Contains-push [] (journal.Admitted (admission_of b owner number epoch ident.cookie))));
            daemon_is = refl;
            entity = refl;
            number = refl;
            epoch = refl;
            cookie = refl;
          },
        );
        seals = λ k. by-append k is_connectors (cookie_drawn b ∷ []) sealed.seals refl (ok.1 k);
      }
      by_sealed (Err why) ok = record { link = λ given. tt; serves = tt; entries = λ given. ((refl, λ free. (asks given free).1), (tt, tt)); seals = λ k. refl }

  missing-heard : (features : ℕ) (r : Result SealedFrame BytesFault) → IsSealedSo s.keys r → HI (missing_told b features r)
  missing-heard features (Err why) ok = record { link = λ given. tt; serves = tt; entries = λ given. (tt, tt); seals = λ k. refl }
  missing-heard features (Ok sealed) ok = record { link = λ given. tt; serves = tt; entries = λ given. (tt, tt); seals = ok.1 }

  -- ---- SESSION_RECONNECT

  reconnect-takes : (reconnect : SessionReconnect) → f.tag ≡ 11 → payload session_reconnect_layout.form f ≡ Ok reconnect → Given → Free
      → HasTaken told s (Some reconnect.client_cookie) × TakesUp told.said s.keys.key reconnect.client_cookie
  reconnect-takes reconnect tag read given free =
      let h = heard given free in
      let w = hears-reconnect h.1.word f reconnect h.1.frame tag h.1.spelled read in
      let cookie : cookie_after h.0 h.1.word ≡ Some reconnect.client_cookie = ap (λ (x : Spoken). cookie_after h.0 x) w.2 ∙ ap (λ (k : ℕ). Some k) w.3 in (
        subst (λ (o : Option ℕ). HasTaken told s o) cookie h.1.taken,
        record { mon_client = w.0; session = w.1; is = w.3; says = subst (λ (x : Spoken). Contains told.said (s.keys.key, x)) w.2 h.1.said },
      )

  resumes-heard : (reconnect : SessionReconnect) (number epoch last : ℕ) (lossy : Bool)
      → (Given → Free → HasTaken told s (Some reconnect.client_cookie) × TakesUp told.said s.keys.key reconnect.client_cookie) → HI (resumes b s owner reconnect number epoch last lossy)
  resumes-heard reconnect number epoch last lossy takes = by_sealed (secure_frame s.keys (reconnect_ok last)) (sealed-frame (reconnect_ok last))
    where
      served : Served
      served = served_as owner number epoch reconnect.client_cookie lossy

      by_sealed : (r : Result SealedFrame BytesFault) → IsSealedSo s.keys r → HI (entered_before (journal.Resumed (admission_of b owner number epoch reconnect.client_cookie))
          (secure_sent b s (λ behind. Open behind (served_as owner number epoch reconnect.client_cookie lossy)) [] r))
      by_sealed (Ok sealed) ok = record {
        link = λ given. opens served (λ given free. (takes given free).0) given (record s { keys = sealed.keys }) ok.0;
        entries = λ given. ((refl, λ free. (takes given free).1), tt);
        serves = (
          ok.0.key,
          record {
            session = admission_of b owner number epoch reconnect.client_cookie;
            opens = inr (inr (Contains-push [] (journal.Resumed (admission_of b owner number epoch reconnect.client_cookie))));
            daemon_is = refl;
            entity = refl;
            number = refl;
            epoch = refl;
            cookie = refl;
          },
        );
        seals = λ k. ok.1 k;
      }
      by_sealed (Err why) ok = record { link = λ given. tt; serves = tt; entries = λ given. ((refl, λ free. (takes given free).1), (tt, tt)); seals = λ k. refl }

  closes-ident : ClosesIdent b s owner f HI
  closes-ident = record {
    shut = λ why seals by. heard-refuses run us told J n b.own.name s.keys.key name Given b why seals (drawn-quiet why seals by);
    missed = λ features. missing-heard features _ (sealed-frame (control 10 ident_missing_features_layout.form (record { features = features })));
    admitted = λ ident tag is number epoch. admits-heard ident number epoch (ident-asks ident tag is);
    resumed = λ again tag is number epoch last lossy. resumes-heard again number epoch last lossy (reconnect-takes again tag is);
    told = λ again tag is why x by.
        heard-entered run us told J n b.own.name s.keys.key name Given (refused_entry b.me b.link.number why) _ (λ joins. refl) (λ given. tt)
        (heard-secure run us told J n b.own.name s.keys.key name Given b s (λ behind. AwaitsIdent behind owner) [] (secure_frame s.keys x) (sealed-frame x) waits (λ t same. tt) (λ k. refl));
  }
    where
      drawn-quiet : (why : Reason) (seals : List SealEntry) → ShutsIdent b why seals → IsOfNoConnector seals
      drawn-quiet _ _ (UnreadIdent why) = λ k. refl
      drawn-quiet _ _ (Unadmitted why of) = λ k. refl

-- ---- an open link

module _ (run : WholeRun) (us : Uses) (told : Told) (J : List Entry) (n : NodeName) (handlers : Handlers) (b : IncomingArrival) (s : Secured) (served : Served) (name : Name) (f : Frame)
    (g : IsIncoming run us told n b.link.number s name) (own : IsOfAcceptor s.keys.out.fixed)
    (serves : OpenedFor J [] b.own.name name served) (Given : Type 0) (heard : Given → (Contains run.leaked name → ⊥) → Heard told J name s (Some served.cookie) f) where
  abbrev FreeO : Type 0
  FreeO = Contains run.leaked name → ⊥

  abbrev HO : IncomingRow → Type 0
  HO row = HearsRow run us told J n b.own.name s.keys.key name Given row

  still : IsNoIdent f → Given → (t : Secured) → IsTakenSo t.keys s.keys → IncomingTold run us told n b.link.number (Open t served)
  still other given t same = (
    name,
    incoming-so run us told n b.link.number t s name same g,
    λ free. let h = heard given free in
        taken-so told t s (Some served.cookie) same
        (subst (λ (o : Option ℕ). HasTaken told s o) (hears-else h.word f (Some served.cookie) h.frame other.0 other.1) h.taken),
  )

  sends-heard : IsNoIdent f → (r : Result SealedFrame BytesFault) → IsSealedSo s.keys r → HO (secure_sent b s (λ behind. Open behind served) [] r)
  sends-heard other r ok = heard-secure run us told J n b.own.name s.keys.key name Given b s (λ behind. Open behind served) [] r ok (still other) (λ t same. (same.key, serves)) (λ k. refl)

  one-heard : IsNoIdent f → (x : Frame) → HO (secure_sent b s (λ behind. Open behind served) [] (secure_frame s.keys x))
  one-heard other x = sends-heard other (secure_frame s.keys x) (frame-so s.keys x own)

  shut-heard : (why : Reason) → HO (refuses b why [])
  shut-heard why = heard-refuses run us told J n b.own.name s.keys.key name Given b why [] (λ k. refl)

  -- an operation that was read was sent in the session
  was-sent : (i : Instruction) (outcome : Outcome) → f.tag ≡ 17 → instruction_of (message_in f) ≡ Ok i → Given → FreeO
      → WasSentAs J name (record { daemon = b.own.name; session = served.number; epoch = served.epoch; cookie = served.cookie; seq = i.seq; operation = i.operation; outcome = outcome })
  was-sent i outcome tag read given free =
      let h = heard given free in
      let w = hears-order h.word f i h.frame tag h.spelled read in
      let says : IsTrueWord J name (Some served.cookie) (Orders (i.seq, i.operation)) = subst (λ (x : Spoken). IsTrueWord J name (Some served.cookie) x) w.0 h.says in
      let same : says.0 ≡ served.cookie = some-number says.0 served.cookie (sym says.2) in
      (says.1, subst (λ (k : ℕ). Contains J (journal.Sent (record { client = name; daemon = says.1; cookie = k; seq = i.seq; operation = i.operation }))) same says.3)
    where
      some-number : (x y : ℕ) → (let o : Option ℕ = Some x in let p : Option ℕ = Some y in o ≡ p) → x ≡ y
      some-number x y e = cc

  -- it is handled in the session that the link serves
  is-served : (i : Instruction) (outcome : Outcome)
      → IsServedIn J name (record { daemon = b.own.name; session = served.number; epoch = served.epoch; cookie = served.cookie; seq = i.seq; operation = i.operation; outcome = outcome })
  is-served i outcome = record {
    session = serves.session;
    opens = by_kind serves.opens;
    daemon_is = serves.daemon_is;
    entity = serves.entity;
    number = serves.number;
    epoch = serves.epoch;
    cookie = serves.cookie;
  }
    where
      stood : (e : Entry) → StandsIn (since b.own.name J) [] e → Contains (since b.own.name J) e
      stood e (inl was) = was
      stood e (inr none) = absurd (omega (arith, none.1))

      by_kind : StandsIn (since b.own.name J) [] (journal.Admitted serves.session) ⊎ StandsIn (since b.own.name J) [] (journal.Resumed serves.session)
          → Contains (since b.own.name J) (journal.Admitted serves.session) ⊎ Contains (since b.own.name J) (journal.Resumed serves.session)
      by_kind (inl has) = inl (stood (journal.Admitted serves.session) has)
      by_kind (inr has) = inr (stood (journal.Resumed serves.session) has)

  handles-heard : IsNoIdent f → f.tag ≡ 17 → (i : Instruction) (outcome : Outcome) → instruction_of (message_in f) ≡ Ok i → HO (handles b s served i outcome)
  handles-heard other tag i outcome read =
      heard-entered run us told J n b.own.name s.keys.key name Given (handled_entry b served i outcome) _ (λ joins. refl) (λ given. (is-served i outcome, was-sent i outcome tag read given))
      (sends-heard other (secure_frames s.keys (answer_message i outcome ∷ acknowledgement i.seq ∷ [])) (frames-so s.keys (answer_message i outcome ∷ acknowledgement i.seq ∷ []) own))

  closes-open : ClosesOpen handlers b s served f HO
  closes-open = record {
    shut = λ why by. shut-heard why;
    kept_up = λ other x by. one-heard other x;
    idled = λ other.
        record { link = λ given. still other given s (record { key = refl; into = refl; out = refl }); serves = (refl, serves); entries = λ given. tt; seals = λ k. refl };
    handled = λ tag i is. handles-heard ((λ e. omega (arith, e, tag)), (λ e. omega (arith, e, tag))) tag i (outcome_of handlers served.caps i.operation) is;
  }

-- ---- a turn

-- what is logged by a turn
abbrev pub turned_seals : Turned MonClient IncomingStage → List SealEntry
turned_seals Waits = []
turned_seals (Refuses why opened) = opened
turned_seals (Handles row) = row.seals

module _ (run : WholeRun) (whole : List Logged) (us : Uses) (told : Told) (log : List Logged) (J : List Entry) (n : NodeName) (line : ℕ) (i : Inv run whole us log J) (t : AreTold run us told log J)
    (spelled : AreSpelled told) (a : IncomingArrival) where
  abbrev Granted : List SealEntry → Type 0
  Granted es = AreGranted run.leaked whole n line log es

  -- where what a turn logs is granted, its row heard this entity
  abbrev pub HearsHosted : List ℕ → Name → Hosted → Type 0
  HearsHosted key name hosted = HearsTurned run us told J n a.own.name key name (Granted (turned_seals hosted.turned)) hosted.turned

  opened-quiet : (ahead : Ahead) → IsOfNoConnector (opened_parts ahead)
  opened-quiet ahead k =
      quiet-none k is_connectors (opened_parts ahead)
      (all-of-map IsQuiet (λ (content : List ℕ). entry.Opened (record { key = ahead.key; kind = kind.Connection; content = content })) (front_contents ahead) (λ content. tt))

  -- of a row, and of one behind what opened
  abbrev Row_ : List ℕ → Name → IncomingRow → Type 0
  Row_ key name row = HearsRow run us told J n a.own.name key name (Granted row.seals) row

  abbrev parts : Secured → List SealEntry
  parts s = opened_parts (sealed_ahead s.keys a.link)

  behind-opened : (s : Secured) (key : List ℕ) (name : Name) (row : IncomingRow) → HearsRow run us told J n a.own.name key name (Granted (parts s)) row → Row_ key name (with_opened (parts s) row)
  behind-opened s key name row h =
      heard-opened run us told J n a.own.name key name (Granted (parts s)) (Granted (parts s ++ row.seals)) (parts s) row
      (granted-first run.leaked whole n line log (parts s) row.seals) (opened-quiet (sealed_ahead s.keys a.link)) h

  behind-rule : (s : Secured) (key : List ℕ) (name : Name) (rule : Deciding Hosted)
      → Always (λ (x : Hosted). TurnOf IsOfNoConnector (HearsRow run us told J n a.own.name key name (Granted (parts s))) x.turned) rule
      → Always (λ (x : Hosted). TurnOf IsOfNoConnector (λ (row : IncomingRow). Row_ key name (with_opened (parts s) row)) x.turned) rule
  behind-rule s key name rule =
      always-weaker (λ (x : Hosted). TurnOf IsOfNoConnector (HearsRow run us told J n a.own.name key name (Granted (parts s))) x.turned)
      (λ (x : Hosted). TurnOf IsOfNoConnector (λ (row : IncomingRow). Row_ key name (with_opened (parts s) row)) x.turned)
      (λ x. turn-weaker IsOfNoConnector (HearsRow run us told J n a.own.name key name (Granted (parts s))) (λ (row : IncomingRow). Row_ key name (with_opened (parts s) row))
      (behind-opened s key name) x.turned) rule

  signature-turn : (handlers : Handlers) (s : Secured) (owner : Authority) → IncomingTold run us told n a.link.number (AwaitsSignature s owner) → IsOfAcceptor s.keys.out.fixed
      → ClosesTurn handlers a IsOfNoConnector (Row_ s.keys.key owner.ticket.name) (AwaitsSignature s owner)
  signature-turn handlers s owner h own f m is =
      let name : Name = owner.ticket.name in
      let k : Secured = under s (keys_behind s.keys f) in
      let b : IncomingArrival = at a (taking a.link m) in
      behind-opened s s.keys.key name _
      (signature-so b k owner f (HearsRow run us told J n a.own.name s.keys.key name (Granted (parts s)))
      (closes-signature run us told J n b k owner f (incoming-moves run us told n a.link.number k s name refl refl h.0) own (Granted (parts s))
      (λ given free. let so = h.1 free in (so.0, heard-next run whole us told log J n line i t spelled a.link.number name s h.0 free a.link so.0 f m so.1 given is.read)) h.2))

  ident-turn : (handlers : Handlers) (s : Secured) (owner : Authority) → IncomingTold run us told n a.link.number (AwaitsIdent s owner) → IsOfAcceptor s.keys.out.fixed
      → ClosesTurn handlers a IsOfNoConnector (Row_ s.keys.key owner.ticket.name) (AwaitsIdent s owner)
  ident-turn handlers s owner h own f m is =
      let name : Name = owner.ticket.name in
      let k : Secured = under s (keys_behind s.keys f) in
      let b : IncomingArrival = at a (taking a.link m) in
      behind-rule s s.keys.key name (on_ident b k owner f)
      (ident-so b k owner f IsOfNoConnector (HearsRow run us told J n a.own.name s.keys.key name (Granted (parts s)))
      (closes-ident run us told J n b k owner f (incoming-moves run us told n a.link.number k s name refl refl h.0) own (Granted (parts s))
      (λ given free. let so = h.1 free in (so.0, heard-next run whole us told log J n line i t spelled a.link.number name s h.0 free a.link so.0 f m so.1 given is.read)) h.2))

  open-turn : (handlers : Handlers) (s : Secured) (served : Served) → (h : IncomingTold run us told n a.link.number (Open s served)) → OpenedFor J [] a.own.name h.0 served → IsOfAcceptor s.keys.out.fixed
      → ClosesTurn handlers a IsOfNoConnector (Row_ s.keys.key h.0) (Open s served)
  open-turn handlers s served h serves own f m is =
      let name : Name = h.0 in
      let k : Secured = under s (keys_behind s.keys f) in
      let b : IncomingArrival = at a (taking a.link m) in
      behind-rule s s.keys.key name (on_open handlers b k served f)
      (open-so handlers b k served f IsOfNoConnector (HearsRow run us told J n a.own.name s.keys.key name (Granted (parts s)))
      (closes-open run us told J n handlers b k served name f (incoming-moves run us told n a.link.number k s name refl refl h.1) own serves (Granted (parts s))
      (λ given free. heard-next run whole us told log J n line i t spelled a.link.number name s h.1 free a.link (Some served.cookie) f m (h.2 free) given is.read)))

  of-turned : (key : List ℕ) (name : Name) (turned : Turned MonClient IncomingStage) → TurnOf IsOfNoConnector (Row_ key name) turned
      → HearsTurned run us told J n a.own.name key name (Granted (turned_seals turned)) turned
  of-turned key who Waits h = tt
  of-turned key who (Refuses why opened) h = h
  of-turned key who (Handles row) h = h

  keyed-turn : (handlers : Handlers) (stage : IncomingStage) (key : List ℕ) (name : Name) → ClosesTurn handlers a IsOfNoConnector (Row_ key name) stage
      → Always (HearsHosted key name) (incoming_turned handlers a stage)
  keyed-turn handlers stage key name closes =
      always-weaker (λ (x : Hosted). TurnOf IsOfNoConnector (Row_ key name) x.turned) (HearsHosted key name) (λ x. of-turned key name x.turned) (incoming_turned handlers a stage)
      (incoming-turn handlers a IsOfNoConnector (Row_ key name) (λ k. refl) (λ keys. opened-quiet (sealed_ahead keys a.link)) stage closes)

  -- a link behind authentication seals as an acceptor
  abbrev pub SealsAsAcceptor : IncomingStage → Type 0
  SealsAsAcceptor (AwaitsSignature s owner) = IsOfAcceptor s.keys.out.fixed
  SealsAsAcceptor (AwaitsIdent s owner) = IsOfAcceptor s.keys.out.fixed
  SealsAsAcceptor (Open s served) = IsOfAcceptor s.keys.out.fixed
  SealsAsAcceptor _ = Unit {0}

  -- the key and the entity of a link behind authentication
  abbrev pub HearsAt : (stage : IncomingStage) → IncomingTold run us told n a.link.number stage → Hosted → Type 0
  HearsAt (AwaitsSignature s owner) h = HearsHosted s.keys.key owner.ticket.name
  HearsAt (AwaitsIdent s owner) h = HearsHosted s.keys.key owner.ticket.name
  HearsAt (Open s served) h = HearsHosted s.keys.key h.0
  HearsAt _ h = λ hosted. Unit {0}

  -- an open link serves a session of its entity
  abbrev pub ServesAt : (stage : IncomingStage) → IncomingTold run us told n a.link.number stage → Type 0
  ServesAt (Open s served) h = OpenedFor J [] a.own.name h.0 served
  ServesAt _ h = Unit {0}

  -- so it is at each turn
  pub incoming-hears : (handlers : Handlers) (stage : IncomingStage) → (h : IncomingTold run us told n a.link.number stage) → ServesAt stage h → SealsAsAcceptor stage
      → Always (HearsAt stage h) (incoming_turned handlers a stage)
  incoming-hears handlers AwaitsBanner h serves own = always-unit (incoming_turned handlers a AwaitsBanner)
  incoming-hears handlers AwaitsHello h serves own = always-unit (incoming_turned handlers a AwaitsHello)
  incoming-hears handlers AwaitsRequest h serves own = always-unit (incoming_turned handlers a AwaitsRequest)
  incoming-hears handlers (AwaitsProof awaited) h serves own = always-unit (incoming_turned handlers a (AwaitsProof awaited))
  incoming-hears handlers (AwaitsSignature s owner) h serves own = keyed-turn handlers (AwaitsSignature s owner) s.keys.key owner.ticket.name (signature-turn handlers s owner h own)
  incoming-hears handlers (AwaitsIdent s owner) h serves own = keyed-turn handlers (AwaitsIdent s owner) s.keys.key owner.ticket.name (ident-turn handlers s owner h own)
  incoming-hears handlers (Open s served) h serves own = keyed-turn handlers (Open s served) s.keys.key h.0 (open-turn handlers s served h serves own)
