-- Each step of a daemon: what it signs under the session keys of tickets of clients covers an authorizer for its own type, and what its links have taken behind it.
use Rattle.std.proofs.Common.{◌≡◌, ℕ, ◌==◌, Bool, true, false, List, ◌++◌, filter, nat_lt, Option, Some, None, Result, Ok, Err, inl, inr, ◌⊎◌, refl, sym, ap, ◌∙◌, subst}
use Rattle.std.specs.Prelude.{Contains, if◌then◌else◌, not}
use Rattle.std.specs.List.{AllByRecursion}
use Rattle.std.specs.Option.{option_map}
use Rattle.cx_laws_run.specs.cx_authorize.specs.Daemon.{Authority}
use Rattle.cx_base.specs.Names.{Name, is_daemon_type}
use Rattle.cx_base.specs.declared.kinds.EntityType.{EntityType}
use Rattle.cx_base.specs.declared.nodes.NodeName.{NodeName}
use Rattle.cx_base.specs.declared.nodes.NodeName.TheVariants as node
use Rattle.cx_control.specs.Auth.{auth_signature_layout}
use Rattle.cx_desk.specs.Handlers.{Handlers}
use Rattle.cx_frame.specs.declared.frame.Frame.{Frame}
use Rattle.cx_journal.specs.declared.entries.Entry.{Entry}
use Rattle.cx_journal.specs.declared.outcomes.Reason.{Reason}
use Rattle.cx_laws_run.specs.cx_laws_tickets.proofs.fetch.MonClientFacts.{found-open}
use Rattle.cx_laws_run.specs.cx_laws_keys.proofs.keys.Journal.{entered}
use Rattle.cx_laws_run.specs.cx_laws_keys.proofs.keys.Known.{Inv, IsAllowed, IsOfKind, SignedAt}
use Rattle.cx_laws_run.specs.cx_laws_keys.proofs.keys.Lists.{all-append, all-map, found_all}
use Rattle.cx_laws_run.specs.cx_laws_keys.proofs.keys.Premises.{AreGranted}
use Rattle.cx_laws_run.specs.cx_laws_keys.proofs.keys.Uses.{AtDaemon, Connected, Grows, Means, Ticketed, Use, Uses, WholeRun}
use Rattle.cx_laws_run.specs.cx_laws_links.proofs.links.Known.{Told}
use Rattle.cx_laws_run.specs.cx_laws_links.proofs.links.Written.{all-behind}
use Rattle.cx_laws_run.specs.cx_laws_keys.proofs.login.MonClientRows.{NeverExcepted}
use Rattle.cx_laws_run.specs.cx_laws_keys.proofs.login.MonClientTurns as mon_client_turns
use Rattle.cx_laws_run.specs.cx_laws_keys.proofs.login.Facts.{MonClientStageOk, HasMonitorKey, monitor_key-grows}
use Rattle.cx_laws_run.proofs.run.Events.{DaemonOk}
use Rattle.cx_laws_run.specs.cx_laws_tickets.proofs.authorize.DaemonRows.{DaemonStageOk, daemon_stage-grows}
use Rattle.cx_laws_run.specs.cx_laws_tickets.proofs.authorize.HostingKeys.{TurnedKeys, frame-stays, open-stays}
use Rattle.cx_laws_run.specs.cx_laws_tickets.proofs.authorize.Keys.{HostKeys, StageKeys, keys-signature}
use Rattle.cx_laws_run.specs.cx_rules.specs.Acceptor.{AwaitsBanner, AwaitsHello, AwaitsRequest, AwaitsProof, AwaitsSignature, AwaitsIdent, Open, on_signature}
use Rattle.cx_laws_run.specs.cx_rules.specs.Connector as connector
use Rattle.cx_laws_run.specs.cx_rules.specs.Fronts.{keys_behind, opened_parts, sealed_ahead, secure_read, taking}
use Rattle.cx_laws_run.specs.cx_rules.specs.Holdings.{MonClient}
use Rattle.cx_laws_run.specs.cx_rules.specs.Inputs.{Input}
use Rattle.cx_laws_run.specs.cx_rules.specs.Links.{Link, link_of}
use Rattle.cx_laws_run.specs.cx_rules.specs.Payloads.{due}
use Rattle.cx_laws_run.specs.cx_rules.specs.Requests.{Requests, first_open, sealed_request, sends_request}
use Rattle.cx_laws_run.specs.cx_rules.specs.Rows.{Arrival, Handles, Outcome, Refuses, Turned, Waits, arrival, at, idles, links_behind, turned_by, turns, with_opened}
use Rattle.cx_laws_run.specs.cx_rules.specs.Secured.{Keys, SealedFrame, Secured, under}
use Rattle.cx_laws_run.specs.cx_rules.specs.declared.requests.Want.TheVariants as want
use Rattle.cx_laws_run.specs.cx_rules_session.specs.Asks.{Asking, Asks, Finished}
use Rattle.cx_laws_run.specs.cx_rules_session.specs.DaemonRule.{AsAcceptor, AsConnector, Daemon, DaemonNode, DaemonStage, DaemonState, asking_open, book_after, book_reply, daemon_rule, daemon_step, fetches, fetches_on, hosts, is_fetching, is_older, me, moved_to, open_to_ask, turn, turned_at, with_mon_client}
use Rattle.cx_laws_run.specs.cx_rules_session.specs.IncomingLinks.{IncomingArrival, IncomingRow, IncomingStage}
use Rattle.cx_laws_run.specs.cx_rules_session.specs.Hosting.{Deciding, Hosted, decided_by, incoming_turned, hosted_behind, no_session_moves, on_ident, on_open}
use Rattle.cx_laws_run.specs.cx_rules_session.specs.Kinds.{arrival_in, of_kind, turn_of_kind}
use Rattle.cx_laws_run.specs.cx_run.proofs.DaemonNamed.{daemon-named}
use Rattle.cx_laws_run.specs.cx_run.proofs.Always.{Always, always-book, always-map, always-weaker}
use Rattle.cx_laws_run.specs.cx_secure.specs.declared.refusals.SecureRefusal.{SecureRefusal}
use Rattle.cx_steps.specs.declared.seals.Logged.{Logged}
use Rattle.cx_steps.specs.declared.seals.SealEntry.{SealEntry}
use Rattle.cx_steps.specs.declared.seals.SealEntry.TheVariants as entry
use Rattle.cx_steps.specs.declared.seals.SealMark.{SealMark}
use Rattle.cx_laws_run.specs.cx_stream.specs.SecureStreams.{secure_frame_at}
use Rattle.cx_laws_run.specs.cx_wire.specs.declared.bodies.Request.TheVariants as asked
use Rattle.cx_laws_run.specs.cx_laws_links.proofs.answers.IncomingFirst.{IsEarly}
use Rattle.cx_laws_run.specs.cx_laws_links.proofs.answers.IncomingGives.{IdentGives, KeyedIncoming, OpenGives, Serves, SignedGives, WaitsOn}
use Rattle.cx_laws_run.specs.cx_laws_links.proofs.answers.IncomingHeard.{Signs}
use Rattle.cx_laws_run.specs.cx_laws_links.proofs.answers.IncomingReads.{EachReads, IncomingRead, incoming-reads, incoming_read-grows}
use Rattle.cx_laws_run.specs.cx_laws_links.proofs.answers.IncomingTurn.{EachGives, Said, incoming-gives}
use Rattle.cx_laws_run.specs.cx_laws_links.proofs.answers.Signed.{SignedSo, heard-signed}
use Rattle.cx_laws_run.proofs.sent.Steps.{DaemonReady}
use Rattle.cx_laws_run.proofs.truth.MonClientSigns.{mon_client-signs, request-signs}
use Rattle.cx_laws_run.proofs.truth.DaemonWalk.{IsFed, IsNew, IsRest, all-some, one-of, walk}
use Rattle.cx_laws_run.proofs.truth.Named.{HostRead, LinkRead, LinksRead}
use Rattle.cx_laws_run.proofs.truth.Signing.{AllSigned, TurnSigns, allowed-signed, alone, link-no_ticket, parts-signed}

always-both : {C R X : Type 0} (P Q : X → Type 0) (rule : Asks C R X) → Always P rule → Always Q rule → Always (λ (x : X). P x × Q x) rule
always-both P Q (Finished x) h g = (h, g)
always-both P Q (Asking call next) h g = λ r. always-both P Q (next r) (h r) (g r)

-- behind a step that comes to this
pub record StepRead (vs : Uses) (kind : EntityType) (o : Outcome DaemonNode) : Type 0 where
  pub signs : AllSigned vs o.out.seals
  pub links : LinksRead kind o.state.links

-- ---- an incoming link

-- behind a row: the link that goes on; and what is signed, where it is allowed
pub record IncomingNamed (vs : Uses) (n : NodeName) (kind : EntityType) (row : IncomingRow) : Type 0 where
  pub signs : (K : List Entry) → AllByRecursion (IsAllowed vs K n) row.seals → AllSigned vs row.seals
  pub link : (l : Link IncomingStage) → row.link ≡ Some l → IncomingRead kind l.received l.taken l.stage

abbrev pub TurnNamed : Uses → NodeName → EntityType → Turned MonClient IncomingStage → Type 0
TurnNamed vs n kind Waits = Unit {0}
TurnNamed vs n kind (Refuses why opened) = (K : List Entry) → AllByRecursion (IsAllowed vs K n) opened → AllSigned vs opened
TurnNamed vs n kind (Handles row) = IncomingNamed vs n kind row

module _ (vs : Uses) (one : (k : List ℕ) (u v : Use) → Means vs k u → Means vs k v → u ≡ v) (a : IncomingArrival) (n : NodeName) (here : n ≡ node.Entity a.own.name)
    (of : is_daemon_type a.own.name.kind ≡ true) where
  -- ---- until its signature

  -- under the session key of a ticket of a client only the daemons of the ticket's service sign, and that client
  own-service : (K : List Entry) (es : List SealEntry) → AllByRecursion (IsAllowed vs K n) es → (mark : SealMark) (name : Name) (other : EntityType) → Contains es (entry.Signed mark)
      → Means vs mark.key (Ticketed name other) → is_daemon_type name.kind ≡ false → other ≡ a.own.name.kind
  own-service K es allowed mark name other has means client =
      let al : IsAllowed vs K n (entry.Signed mark) = one-of (IsAllowed vs K n) es (entry.Signed mark) allowed has in
      by_place (subst (λ (u : Use). SignedAt n u) (one mark.key al.0 (Ticketed name other) al.1 means) al.2)
    where
      by_kind : IsOfKind n other → other ≡ a.own.name.kind
      by_kind kind = sym (subst (λ (m : NodeName). IsOfKind m other) here kind)

      by_place : (n ≡ node.Entity name) ⊎ IsOfKind n other → other ≡ a.own.name.kind
      by_place (inl own) =
          let both : node.Entity a.own.name ≡ node.Entity name = sym here ∙ own in
          let same : a.own.name ≡ name = cc in
          let no : true ≡ false = sym of ∙ ap (λ (m : Name). is_daemon_type m.kind) same ∙ client in
          absurd cc
      by_place (inr kind) = by_kind kind

  heard-named : (es : List SealEntry) → Signs a.own.name.kind es → (K : List Entry) → AllByRecursion (IsAllowed vs K n) es → AllSigned vs es
  heard-named es h K allowed = heard-signed vs a.own.name.kind es (own-service K es allowed) h

  early-turn : (turned : Turned MonClient IncomingStage) → EachReads a turned → TurnNamed vs n a.own.name.kind turned
  early-turn Waits h = tt
  early-turn (Refuses why opened) h = heard-named opened h
  early-turn (Handles row) h = record { signs = heard-named row.seals h.signs; link = h.link }

  abbrev Comes : Hosted → Type 0
  Comes hosted = TurnNamed vs n a.own.name.kind hosted.turned

  early-named : (handlers : Handlers) (stage : IncomingStage) → IsEarly stage → IncomingRead a.own.name.kind a.link.received a.link.taken stage → Always Comes (incoming_turned handlers a stage)
  early-named handlers stage early read =
      always-weaker (λ (hosted : Hosted). EachReads a hosted.turned) Comes (λ hosted h. early-turn hosted.turned h) (incoming_turned handlers a stage) (incoming-reads a handlers stage early read)

  -- ---- behind it

  module _ (J : List Entry) (s : Secured) (name : Name) (host : HostKeys vs n a.link.number s.keys name) where
    abbrev linked : Use
    linked = Connected n a.link.number name (AtDaemon host.service host.tie)

    -- one who knows the link's key alone
    alone-signed : (es : List SealEntry) → AllByRecursion (IsAllowed (alone s.keys.key linked) J n) es → AllSigned vs es
    alone-signed es al = allowed-signed vs one s.keys.key linked (link-no_ticket n a.link.number name (AtDaemon host.service host.tie)) host.means J n es al

    abbrev Signs_ : Turned MonClient IncomingStage → Type 0
    Signs_ turned = TurnSigns vs (λ (row : IncomingRow). AllSigned vs row.seals) turned

    turned-signs : (turned : Turned MonClient IncomingStage) → TurnedKeys (alone s.keys.key linked) J n turned → Signs_ turned
    turned-signs Waits h = tt
    turned-signs (Refuses why opened) h = alone-signed opened h
    turned-signs (Handles row) h = alone-signed row.seals h.seals

    opened-signs : (opened : List SealEntry) → AllSigned vs opened → (hosted : Hosted) → Signs_ hosted.turned → Signs_ (hosted_behind opened hosted).turned
    opened-signs opened quiet hosted h = by_turned hosted.turned h
      where
        by_turned : (turned : Turned MonClient IncomingStage) → Signs_ turned → Signs_ (hosted_behind opened (record { turned = turned; moved = hosted.moved })).turned
        by_turned Waits h = tt
        by_turned (Refuses why broken) h = h
        by_turned (Handles row) h = all-append (SignedSo vs) opened row.seals quiet h

    asked-signs : (rule : Link IncomingStage → Frame → Keys → Deciding Hosted)
        → ((f : Frame) (m : ℕ) → Always (λ (hosted : Hosted). TurnedKeys (alone s.keys.key linked) J n hosted.turned) (rule (taking a.link m) f (keys_behind s.keys f)))
        → (r : Result (Option (Frame × ℕ)) SecureRefusal)
        → Always (λ (hosted : Hosted). Signs_ hosted.turned) (decided_by (λ (link, f, keys). rule link f keys) (secure_read s.keys a.link (opened_parts (sealed_ahead s.keys a.link)) r))
    asked-signs rule each (Ok None) = tt
    asked-signs rule each (Ok (Some (f, m))) =
        let opened : List SealEntry = opened_parts (sealed_ahead s.keys a.link) in
        let decided : Deciding Hosted = rule (taking a.link m) f (keys_behind s.keys f) in
        always-map (λ (hosted : Hosted). Signs_ hosted.turned) (hosted_behind opened) decided
        (always-weaker (λ (hosted : Hosted). TurnedKeys (alone s.keys.key linked) J n hosted.turned) (λ (hosted : Hosted). Signs_ (hosted_behind opened hosted).turned)
        (λ hosted k. opened-signs opened (parts-signed vs (sealed_ahead s.keys a.link)) hosted (turned-signs hosted.turned k)) decided (each f m))
    asked-signs rule each (Err why) = parts-signed vs (sealed_ahead s.keys a.link)

    signature-signs : (owner : Authority) → owner.ticket.name ≡ name → (r : Result (Option (Frame × ℕ)) SecureRefusal) → Always (λ (hosted : Hosted). Signs_ hosted.turned) (no_session_moves (turned_by
        (λ (link, f, keys) opened. with_opened opened (on_signature (at a link) (under s keys) owner (due 7 auth_signature_layout.form f)))
        (secure_read s.keys a.link (opened_parts (sealed_ahead s.keys a.link)) r)))
    signature-signs owner named (Ok None) = tt
    signature-signs owner named (Ok (Some (f, m))) =
        let k : Secured = under s (keys_behind s.keys f) in
        let row : IncomingRow = on_signature (at a (taking a.link m)) k owner (due 7 auth_signature_layout.form f) in
        let keys : HostKeys (alone s.keys.key linked) n a.link.number k.keys owner.ticket.name =
        subst (λ (w : Name). HostKeys (alone s.keys.key linked) n a.link.number (under s (keys_behind s.keys f)).keys w) (sym named)
        (record { service = host.service; tie = host.tie; means = inl (refl, refl); out = host.out; into = host.into }) in
        all-append (SignedSo vs) (opened_parts (sealed_ahead s.keys a.link)) row.seals (parts-signed vs (sealed_ahead s.keys a.link))
        (alone-signed row.seals (keys-signature (alone s.keys.key linked) J n (at a (taking a.link m)) k owner (due 7 auth_signature_layout.form f) keys).seals)
    signature-signs owner named (Err why) = parts-signed vs (sealed_ahead s.keys a.link)

  -- of the link that goes on nothing is said any more
  keyed-read : (stage : IncomingStage) (t : Secured) → KeyedIncoming stage t → (received : List ℕ) (taken : ℕ) → IncomingRead a.own.name.kind received taken stage
  keyed-read _ _ (WaitsOn t owner) received taken = tt
  keyed-read _ _ (Serves t served) received taken = tt

  late-turn : (P : Said) (s : Secured) (turned : Turned MonClient IncomingStage) → EachGives P a.link s turned → TurnSigns vs (λ (row : IncomingRow). AllSigned vs row.seals) turned
      → TurnNamed vs n a.own.name.kind turned
  late-turn P s Waits e h = tt
  late-turn P s (Refuses why opened) e h = λ K al. h
  late-turn P s (Handles row) e h = record { signs = λ K al. h; link = λ l is. let g = e.gives.link l is in keyed-read l.stage g.0 g.1 l.received l.taken }

  late-named : (handlers : Handlers) (P : Said) (s : Secured) (stage : IncomingStage) → Always (λ (hosted : Hosted). EachGives P a.link s hosted.turned) (incoming_turned handlers a stage)
      → Always (λ (hosted : Hosted). TurnSigns vs (λ (row : IncomingRow). AllSigned vs row.seals) hosted.turned) (incoming_turned handlers a stage) → Always Comes (incoming_turned handlers a stage)
  late-named handlers P s stage gives signs =
      always-weaker (λ (hosted : Hosted). EachGives P a.link s hosted.turned × TurnSigns vs (λ (row : IncomingRow). AllSigned vs row.seals) hosted.turned) Comes
      (λ hosted h. late-turn P s hosted.turned h.0 h.1) (incoming_turned handlers a stage)
      (always-both (λ (hosted : Hosted). EachGives P a.link s hosted.turned) (λ (hosted : Hosted). TurnSigns vs (λ (row : IncomingRow). AllSigned vs row.seals) hosted.turned) (incoming_turned handlers a stage) gives signs)

-- ---- any stage

module _ (vs : Uses) (one : (k : List ℕ) (u v : Use) → Means vs k u → Means vs k v → u ≡ v) (J : List Entry) (handlers : Handlers) (a : IncomingArrival) (n : NodeName) (here : n ≡ node.Entity a.own.name)
    (of : is_daemon_type a.own.name.kind ≡ true) where
  abbrev Named_ : Deciding Hosted → Type 0
  Named_ rule = Always (λ (hosted : Hosted). TurnNamed vs n a.own.name.kind hosted.turned) rule

  pub incoming-named : (stage : IncomingStage) → StageKeys vs n a.link.number stage → IncomingRead a.own.name.kind a.link.received a.link.taken stage → Named_ (incoming_turned handlers a stage)
  incoming-named AwaitsBanner keys read = early-named vs one a n here of handlers AwaitsBanner tt read
  incoming-named AwaitsHello keys read = early-named vs one a n here of handlers AwaitsHello tt read
  incoming-named AwaitsRequest keys read = early-named vs one a n here of handlers AwaitsRequest tt read
  incoming-named (AwaitsProof awaited) keys read = early-named vs one a n here of handlers (AwaitsProof awaited) tt read
  incoming-named (AwaitsSignature s owner) keys read =
      late-named vs one a n here of handlers (SignedGives owner) s (AwaitsSignature s owner) (incoming-gives handlers a (AwaitsSignature s owner))
      (signature-signs vs one a n here of J s owner.ticket.name keys owner refl (secure_frame_at (sealed_ahead s.keys a.link)))
  incoming-named (AwaitsIdent s owner) keys read =
      late-named vs one a n here of handlers (IdentGives owner) s (AwaitsIdent s owner) (incoming-gives handlers a (AwaitsIdent s owner))
      (asked-signs vs one a n here of J s owner.ticket.name keys (λ link f k. on_ident (at a link) (under s k) owner f)
      (λ f m. frame-stays (alone s.keys.key (linked vs one a n here of J s owner.ticket.name keys)) J n (at a (taking a.link m)) (under s (keys_behind s.keys f)) owner
      (host-taken s f m owner.ticket.name keys) f) (secure_frame_at (sealed_ahead s.keys a.link)))
    where
      host-taken : (t : Secured) (f : Frame) (m : ℕ) (name : Name) → (keys : HostKeys vs n a.link.number t.keys name)
          → HostKeys (alone t.keys.key (linked vs one a n here of J t name keys)) n a.link.number (under t (keys_behind t.keys f)).keys name
      host-taken t f m name keys = record { service = keys.service; tie = keys.tie; means = inl (refl, refl); out = keys.out; into = keys.into }
  incoming-named (Open s served) keys read =
      late-named vs one a n here of handlers (OpenGives a.own.name served) s (Open s served) (incoming-gives handlers a (Open s served))
      (asked-signs vs one a n here of J s keys.0 keys.1 (λ link f k. on_open handlers (at a link) (under s k) served f)
      (λ f m. open-stays (alone s.keys.key (linked vs one a n here of J s keys.0 keys.1)) J n handlers (at a (taking a.link m)) (under s (keys_behind s.keys f)) served keys.0
      (record { service = keys.1.service; tie = keys.1.tie; means = inl (refl, refl); out = keys.1.out; into = keys.1.into }) f) (secure_frame_at (sealed_ahead s.keys a.link)))

-- the link that is found open has this key
asked-key : (run : WholeRun) (us : Uses) (n : NodeName) (number : ℕ) (stage : DaemonStage) (s : Secured) (requests : Requests) → DaemonStageOk run us n number stage
    → asking_open stage ≡ Some (s, requests) → HasMonitorKey us n s.keys.key
asked-key run us n number (AsConnector (connector.Open t others)) s requests ok is =
    let same : (t, others) ≡ (s, requests) = cc in
    subst (λ (k : List ℕ). HasMonitorKey us n k) (ap (λ (x : Secured × Requests). x.0.keys.key) same) ok
asked-key run us n number (AsConnector (connector.AwaitsBanner asked)) s requests ok is = absurd cc
asked-key run us n number (AsConnector (connector.AwaitsHello asked)) s requests ok is = absurd cc
asked-key run us n number (AsConnector (connector.AwaitsChallenge asked)) s requests ok is = absurd cc
asked-key run us n number (AsConnector connector.AwaitsDone) s requests ok is = absurd cc
asked-key run us n number (AsConnector (connector.AwaitsSignature t login)) s requests ok is = absurd cc
asked-key run us n number (AsConnector (connector.AwaitsIdent t session)) s requests ok is = absurd cc
asked-key run us n number (AsAcceptor stage) s requests ok is = absurd cc

-- ---- a step

module _ (run : WholeRun) (whole : List Logged) (us vs : Uses) (log : List Logged) (J : List Entry) (line : ℕ) (d : DaemonNode) (reading : ℕ) (draw : List ℕ) (i : Inv run whole us log J) (f : Grows us vs)
    (one : (k : List ℕ) (u v : Use) → Means vs k u → Means vs k v → u ≡ v) (ok : DaemonOk run us J d) (read : LinksRead d.own.mon_client.name.kind d.links) where
  abbrev n : NodeName
  n = node.Entity d.own.mon_client.name

  abbrev kind : EntityType
  kind = d.own.mon_client.name.kind

  -- where what it logs is granted, and is allowed
  abbrev pub Reads : Outcome DaemonNode → Type 0
  Reads o = AreGranted run.leaked whole (node.Entity d.own.mon_client.name) line log o.out.seals → (K : List Entry) → AllByRecursion (IsAllowed vs K (node.Entity d.own.mon_client.name)) o.out.seals
      → StepRead vs d.own.mon_client.name.kind o

  free : NeverExcepted run whole n us d.own.mon_client.name
  free = mon_client_turns.mon_client-free run whole n line us log J J d.own.mon_client refl i (record { known = ok.known; quiet = λ s has. has; count = refl })

  fed-read : (l : Link DaemonStage) → IsFed d.links l → LinkRead kind l
  fed-read l (inl (new, none)) = by_stage l.stage new
    where
      by_stage : (stage : DaemonStage) → IsNew stage → HostRead kind l.received l.taken stage
      by_stage (AsConnector stage) is = tt
      by_stage (AsAcceptor AwaitsBanner) is = none
      by_stage (AsAcceptor AwaitsHello) is = absurd is
      by_stage (AsAcceptor AwaitsRequest) is = absurd is
      by_stage (AsAcceptor (AwaitsProof awaited)) is = absurd is
      by_stage (AsAcceptor (AwaitsSignature s owner)) is = absurd is
      by_stage (AsAcceptor (AwaitsIdent s owner)) is = absurd is
      by_stage (AsAcceptor (Open s served)) is = absurd is
  fed-read l (inr (was, has, stage, taken, more)) =
      subst (λ (r : List ℕ). HostRead kind r l.taken l.stage) (sym more.1)
      (subst (λ (t : ℕ). HostRead kind (was.received ++ more.0) t l.stage) taken
      (subst (λ (st : DaemonStage). HostRead kind (was.received ++ more.0) was.taken st) stage (by_stage was.stage (one-of (LinkRead kind) d.links was read has))))
    where
      by_stage : (st : DaemonStage) → HostRead kind was.received was.taken st → HostRead kind (was.received ++ more.0) was.taken st
      by_stage (AsConnector st) h = tt
      by_stage (AsAcceptor st) h = incoming_read-grows kind was.received more.0 was.taken st h

  rests : (o : Outcome DaemonNode) → IsRest d o → Reads o
  rests o r = λ g K al. record {
    signs = subst (λ (es : List SealEntry). AllSigned vs es) (sym r.seals) tt;
    links = all-map (IsFed d.links) (LinkRead kind) fed-read o.state.links r.fed;
  }

  -- ---- links behind a row

  without : (number : ℕ) → LinksRead kind (filter (λ (l : Link DaemonStage). not (l.number == number)) d.links)
  without number = all-some (LinkRead kind) (λ (l : Link DaemonStage). not (l.number == number)) d.links read

  left : (number : ℕ) (bytes : List ℕ) (link : Option (Link DaemonStage)) → ((l : Link DaemonStage) → link ≡ Some l → HostRead kind l.received l.taken l.stage)
      → LinksRead kind (links_behind d.links number bytes link)
  left number bytes None is = without number
  left number bytes (Some link) is =
      all-append (LinkRead kind) (filter (λ (l : Link DaemonStage). nat_lt l.number link.number) d.links) _
      (all-some (LinkRead kind) (λ (l : Link DaemonStage). nat_lt l.number link.number) d.links read)
      (is link refl, all-some (LinkRead kind) (λ (l : Link DaemonStage). nat_lt link.number l.number) d.links read)

  abbrev at_link : Link DaemonStage → Arrival Daemon DaemonStage
  at_link link = arrival (me d.own) d.own link reading draw

  -- ---- its own link to the monitor

  own-left : (found : Option (Link connector.Stage)) (l : Link DaemonStage) → option_map (of_kind AsConnector) found ≡ Some l → HostRead kind l.received l.taken l.stage
  own-left None l e = absurd cc
  own-left (Some link) l e = let same : of_kind AsConnector link ≡ l = cc in subst (λ (x : Link DaemonStage). HostRead kind x.received x.taken x.stage) same tt

  own-reads : (link : Link DaemonStage) (stage : connector.Stage) → MonClientStageOk us n stage
      → Reads (turns d (at_link link) (turn_of_kind (with_mon_client d.own) AsConnector (connector.turned_at (arrival_in (at_link link) d.own.mon_client stage) stage)))
  own-reads link stage st =
      by_turned (connector.turned_at (arrival_in (at_link link) d.own.mon_client stage) stage)
      (mon_client-signs vs one run whole n line us log J d.own.mon_client.name free refl i f (arrival_in (at_link link) d.own.mon_client stage) stage ok.known.own st)
    where
      by_turned : (t : Turned MonClient connector.Stage) → TurnSigns vs (λ (row : connector.MonClientRow). AreGranted run.leaked whole n line log row.seals → AllSigned vs row.seals) t
          → Reads (turns d (arrival (me d.own) d.own link reading draw) (turn_of_kind (with_mon_client d.own) AsConnector t))
      by_turned Waits s = λ g K al. record { signs = tt; links = read }
      by_turned (Refuses why opened) s = λ g K al. record { signs = s; links = without link.number }
      by_turned (Handles row) s = λ g K al. record { signs = s g; links = left link.number row.sends (option_map (of_kind AsConnector) row.link) (own-left row.link) }

  asks-reads : Reads (fetches d reading draw)
  asks-reads = by_test (is_fetching d)
    where
      sent-left : (a : Arrival MonClient DaemonStage) (s : Secured) (requests : Requests) (r : Result SealedFrame Reason) (l : Link DaemonStage)
          → (sends_request open_to_ask a s requests (want.Rotating reading) r).link ≡ Some l → HostRead kind l.received l.taken l.stage
      sent-left a s requests (Err why) l e = absurd cc
      sent-left a s requests (Ok sealed) l e = subst (λ (x : Link DaemonStage). HostRead kind x.received x.taken x.stage) (some-link _ l e) tt
        where
          some-link : (x y : Link DaemonStage) → (let o : Option (Link DaemonStage) = Some x in let q : Option (Link DaemonStage) = Some y in o ≡ q) → x ≡ y
          some-link x y e = cc

      by_open : (found : Option (Link DaemonStage × (Secured × Requests))) → first_open asking_open d.links ≡ found → Reads (fetches_on d reading draw found)
      by_open None is = λ g K al. record { signs = tt; links = read }
      by_open (Some (link, (s, requests))) is = λ g K al.
          let a : Arrival MonClient DaemonStage = arrival (me d.own) d.own.mon_client link reading draw in
          let found = found-open (λ (l : Link DaemonStage). DaemonStageOk run us n l.number l.stage) asking_open d.links link s requests is ok.links in
          let has : HasMonitorKey vs n s.keys.key = monitor_key-grows us vs n s.keys.key f (asked-key run us n link.number link.stage s requests found.0 found.1) in
          let r : Result SealedFrame Reason = sealed_request s.keys requests asked.Rotating in
          record {
            signs = request-signs vs one n s has open_to_ask a requests (want.Rotating reading) asked.Rotating;
            links = left link.number (sends_request open_to_ask a s requests (want.Rotating reading) r).sends (sends_request open_to_ask a s requests (want.Rotating reading) r).link (sent-left a s requests r);
          }

      by_test : (under_way : Bool) → Reads (if under_way then idles d else fetches_on d reading draw (first_open asking_open d.links))
      by_test true = λ g K al. record { signs = tt; links = read }
      by_test false = by_open (first_open asking_open d.links) refl

  -- ---- an incoming link

  moved-reads : (number : ℕ) (moved : Option ℕ) (o : Outcome DaemonNode) → Reads o → Reads (moved_to number moved o)
  moved-reads number None o k = k
  moved-reads number (Some session) o k = λ g K al.
      let h = k g K al in
      record { signs = h.signs; links = all-some (LinkRead kind) (λ (l : Link DaemonStage). not (is_older number session l)) o.state.links h.links }

  incoming-left : (found : Option (Link IncomingStage)) → ((l : Link IncomingStage) → found ≡ Some l → IncomingRead kind l.received l.taken l.stage) → (l : Link DaemonStage)
      → option_map (of_kind AsAcceptor) found ≡ Some l → HostRead kind l.received l.taken l.stage
  incoming-left None is l e = absurd cc
  incoming-left (Some found) is l e = let same : of_kind AsAcceptor found ≡ l = cc in subst (λ (x : Link DaemonStage). HostRead kind x.received x.taken x.stage) same (is found refl)

  hosted-reads : (link : Link DaemonStage) (hosted : Hosted) → TurnNamed vs n kind hosted.turned → Reads (hosts d (at_link link) hosted)
  hosted-reads link hosted h = moved-reads link.number hosted.moved (turns d (at_link link) (turn_of_kind (with_mon_client d.own) AsAcceptor hosted.turned)) (by_turned hosted.turned h)
    where
      by_turned : (turned : Turned MonClient IncomingStage) → TurnNamed vs (node.Entity d.own.mon_client.name) d.own.mon_client.name.kind turned
          → Reads (turns d (arrival (me d.own) d.own link reading draw) (turn_of_kind (with_mon_client d.own) AsAcceptor turned))
      by_turned Waits h = λ g K al. record { signs = tt; links = read }
      by_turned (Refuses why opened) h = λ g K al. record { signs = h K al; links = without link.number }
      by_turned (Handles row) h = λ g K al. record { signs = h.signs K al; links = left link.number row.sends (option_map (of_kind AsAcceptor) row.link) (incoming-left row.link h.link) }

  stage_keys : (number : ℕ) (stage : IncomingStage) → DaemonStageOk run us n number (AsAcceptor stage) → StageKeys vs n number stage
  stage_keys number stage st = (daemon_stage-grows run us vs n number (AsAcceptor stage) f st).0

  incoming-reads_at : (handlers : Handlers) (link : Link DaemonStage) (stage : IncomingStage) → DaemonStageOk run us n link.number (AsAcceptor stage) → IncomingRead kind link.received link.taken stage
      → Always Reads (turned_at handlers d (at_link link) (AsAcceptor stage))
  incoming-reads_at handlers link stage st h =
      let a : IncomingArrival = arrival_in (at_link link) d.own.mon_client stage in
      let rule : Deciding Hosted = incoming_turned handlers a stage in
      always-map Reads (hosts d (at_link link)) rule
      (always-weaker (λ (hosted : Hosted). TurnNamed vs n kind hosted.turned) (λ (hosted : Hosted). Reads (hosts d (at_link link) hosted)) (hosted-reads link) rule
      (incoming-named vs one J handlers a n refl ok.of stage (stage_keys link.number stage st) h))

  -- ---- any event

  turns-read : (handlers : Handlers) (number : ℕ) (found : Option (Link DaemonStage)) → link_of number d.links ≡ found → Always Reads (turn handlers d reading draw found)
  turns-read handlers number None is = λ g K al. record { signs = tt; links = read }
  turns-read handlers number (Some link) is =
      by_stage link.stage (found_all (λ (l : Link DaemonStage). DaemonStageOk run us n l.number l.stage) (λ (l : Link DaemonStage). l.number == number) d.links link ok.links is)
      (found_all (LinkRead kind) (λ (l : Link DaemonStage). l.number == number) d.links link read is)
    where
      by_stage : (stage : DaemonStage) → DaemonStageOk run us (node.Entity d.own.mon_client.name) link.number stage → HostRead d.own.mon_client.name.kind link.received link.taken stage
          → Always Reads (turned_at handlers d (arrival (me d.own) d.own link reading draw) stage)
      by_stage (AsAcceptor stage) st h = incoming-reads_at handlers link stage st h
      by_stage (AsConnector stage) st h = own-reads link stage st

  pub rule-reads : (handlers : Handlers) (input : Input) → Always Reads (daemon_rule handlers d input reading draw)
  rule-reads handlers = walk d reading draw handlers Reads rests (λ number. turns-read handlers number (link_of number d.links) refl) asks-reads

-- a step of a daemon of this name
pub daemon-names : (run : WholeRun) (whole : List Logged) (us vs : Uses) (told : Told) (log : List Logged) (line : ℕ) (J : List Entry) (name : Name) (handlers : Handlers) (d : DaemonState) (input : Input)
    (reading : ℕ) (draw : List ℕ) → DaemonReady run whole us vs told log line J name d input draw (daemon_step handlers d input reading draw) → LinksRead d.node.own.mon_client.name.kind d.node.links
    → AllSigned vs (daemon_step handlers d input reading draw).out.seals
    × LinksRead (daemon_step handlers d input reading draw).state.node.own.mon_client.name.kind (daemon_step handlers d input reading draw).state.node.links
daemon-names run whole us vs told log line J name handlers d input reading draw r h =
    let o : Outcome DaemonState = daemon_step handlers d input reading draw in
    let K : List Entry = entered J o.out.entries in
    let n : NodeName = node.Entity d.node.own.mon_client.name in
    let g : AreGranted run.leaked whole (node.Entity d.node.own.mon_client.name) line log (daemon_step handlers d input reading draw).out.seals =
    subst (λ (m : Name). AreGranted run.leaked whole (node.Entity m) line log (daemon_step handlers d input reading draw).out.seals) (sym r.named) r.granted in
    let allowed : AllByRecursion (IsAllowed vs K n) o.out.seals =
    subst (λ (m : Name). AllByRecursion (IsAllowed vs K (node.Entity m)) o.out.seals) (sym r.named)
    (all-behind (λ (x : Logged). IsAllowed vs K x.node x.entry) (node.Entity name) line o.out.seals log r.inv_behind.allowed).0 in
    let s : StepRead vs d.node.own.mon_client.name.kind (record { state = o.state.node; out = o.out }) =
    always-book (Reads run whole us vs log J line d.node reading draw r.inv r.grows r.inv_behind.one r.ok h) book_reply book_after d.book (daemon_rule handlers d.node input reading draw)
    (rule-reads run whole us vs log J line d.node reading draw r.inv r.grows r.inv_behind.one r.ok h handlers input) g K allowed in
    (s.signs, subst (λ (m : Name). LinksRead m.kind o.state.node.links) (sym (daemon-named handlers d input reading draw)) s.links)
