-- Each step of a client: what it signs, and what its links have sent and taken behind it.
use Rattle.std.proofs.Common.{◌≡◌, ℕ, ◌==◌, false, List, [], ◌∷◌, ◌++◌, Option, Some, None, Result, Ok, Err, refl, sym, ap, subst}
use Rattle.std.specs.Prelude.{not}
use Rattle.std.specs.Option.{option_map}
use Rattle.cx_base.specs.Names.{Name, is_daemon_type}
use Rattle.cx_base.specs.declared.nodes.NodeName.{NodeName}
use Rattle.cx_base.specs.declared.nodes.NodeName.TheVariants as node
use Rattle.cx_base.specs.declared.operations.Operation.{Operation}
use Rattle.cx_journal.specs.declared.entries.Entry.{Entry}
use Rattle.cx_journal.specs.declared.faults.BytesFault.{BytesFault}
use Rattle.cx_journal.specs.declared.outcomes.Reason.{Reason}
use Rattle.cx_laws_run.specs.cx_laws_tickets.proofs.fetch.MonClientFacts.{found-open, heard-grows}
use Rattle.cx_laws_run.specs.cx_laws_tickets.proofs.fetch.WrittenFrames.{written-first}
use Rattle.cx_laws_run.specs.cx_laws_keys.proofs.keys.Known.{Inv}
use Rattle.cx_laws_run.specs.cx_laws_keys.proofs.keys.Lists.{found_all, some-of}
use Rattle.cx_laws_run.specs.cx_laws_keys.proofs.keys.Premises.{AreGranted}
use Rattle.cx_laws_run.specs.cx_laws_keys.proofs.keys.Uses.{Grows, Means, Use, Uses, WholeRun}
use Rattle.cx_laws_run.specs.cx_laws_links.proofs.links.Known.{IsOfSession, StageTold, Told}
use Rattle.cx_laws_run.specs.cx_laws_keys.proofs.login.MonClientRows.{NeverExcepted}
use Rattle.cx_laws_run.specs.cx_laws_keys.proofs.login.MonClientTurns as mon_client_turns
use Rattle.cx_laws_run.specs.cx_laws_keys.proofs.login.Facts.{MonClientStageOk, HasMonitorKey, monitor_key-grows}
use Rattle.cx_laws_run.specs.cx_laws_keys.proofs.login.Rows.{all-filter}
use Rattle.cx_laws_run.specs.cx_laws_keys.proofs.series.Frames.{frame-sealed}
use Rattle.cx_laws_run.specs.cx_laws_tickets.proofs.calling.Between.{ClientOk}
use Rattle.cx_laws_run.specs.cx_laws_tickets.proofs.calling.Sessions.{CallKeys, ClientStageOk}
use Rattle.cx_laws_run.specs.cx_rules.specs.Connector as connector
use Rattle.cx_laws_run.specs.cx_rules.specs.Holdings.{MonClient}
use Rattle.cx_laws_run.specs.cx_rules.specs.Inputs.{Input}
use Rattle.cx_laws_run.specs.cx_rules.specs.Links.{Link, link_of, put_link, without_link}
use Rattle.cx_laws_run.specs.cx_rules.specs.Requests.{Requests, first_open, sealed_request, sends_request}
use Rattle.cx_laws_run.specs.cx_rules.specs.Rows.{Handles, Outcome, Refuses, Turned, Waits, arrival, carried_out, fed, idles, links_behind, secure_sent, turns}
use Rattle.cx_laws_run.specs.cx_rules.specs.Secured.{SealedFrame, Secured, secure_frame}
use Rattle.cx_laws_run.specs.cx_rules.specs.declared.requests.Want.TheVariants as want
use Rattle.cx_laws_run.specs.cx_rules_session.specs.ClientRule.{ClientStage, Dial, ForCall, ForLogin, ToDaemon, ToMonitor, WholeClientNode, asking_open, call_open, caller_to, first_call, having_session, is_to_monitor, me, open_to_ask, opens_dialled, restarted, sent_entry, whole_client_rule, with_mon_client, with_caller}
use Rattle.cx_laws_run.specs.cx_rules_session.specs.Kinds.{arrival_in, entered_before, of_kind, turn_of_kind}
use Rattle.cx_laws_run.specs.cx_rules_session.specs.Presenter as call
use Rattle.cx_laws_run.specs.cx_rules_session.specs.Presenter.{CallArrival, CallRow, CallStage, Caller, callee_of}
use Rattle.cx_laws_run.specs.cx_rules_session.specs.Sessions.{Callee, HeldSession, operation_message, session_with}
use Rattle.cx_laws_run.specs.cx_run.proofs.ClientKept.{whole-named}
use Rattle.cx_laws_run.specs.cx_run.proofs.Outcomes.{mon_client_turn, call_turn, on_link, renewed, sent_in}
use Rattle.cx_session.specs.Queue.{pushed}
use Rattle.cx_steps.specs.Onto.{SomeOf}
use Rattle.cx_steps.specs.declared.events.Peer.{Peer}
use Rattle.cx_steps.specs.declared.seals.Logged.{Logged}
use Rattle.cx_steps.specs.declared.seals.SealEntry.{SealEntry}
use Rattle.cx_laws_run.specs.cx_wire.specs.declared.bodies.Request.TheVariants as asked
use Rattle.cx_laws_run.specs.cx_laws_links.proofs.answers.CallSent.{CallRead}
use Rattle.cx_laws_run.specs.cx_laws_links.proofs.answers.Signed.{AreSigned}
use Rattle.cx_laws_run.proofs.sent.ClientEvents.{all-put}
use Rattle.cx_laws_run.proofs.sent.EachStep.{EachStep, each-step}
use Rattle.cx_laws_run.proofs.sent.Sends.{found-call, open-stage}
use Rattle.cx_laws_run.proofs.sent.State.{ClientKnown}
use Rattle.cx_laws_run.proofs.sent.Steps.{ClientReady}
use Rattle.cx_laws_run.proofs.truth.MonClientSigns.{mon_client-signs, request-signs}
use Rattle.cx_laws_run.proofs.truth.CallNames.{IsHeldStage, RowNamed, call-named}
use Rattle.cx_laws_run.proofs.truth.Named.{CallNamed, ClientNamed, IsOfCalled, LinkNamed, LinksNamed, StageNamed, links-grow}
use Rattle.cx_laws_run.proofs.truth.Signing.{AllSigned, TurnSigns, frame-signed}

-- behind a step that comes to this
pub record StepNamed (vs : Uses) (o : Outcome WholeClientNode) : Type 0 where
  pub signs : AllSigned vs o.out.seals
  pub links : LinksNamed vs o.state.links

-- what came is all that changes
call_read-grows : (stage : CallStage) (received more : List ℕ) (taken : ℕ) → CallRead stage received taken → CallRead stage (received ++ more) taken
call_read-grows (call.AwaitsBanner called) received more taken h = h
call_read-grows (call.AwaitsHello called) received more taken h = heard-grows received more taken [] h
call_read-grows (call.AwaitsChallenge callee p) received more taken h = heard-grows received more taken (1 ∷ []) h
call_read-grows (call.AwaitsDone callee answered) received more taken h = heard-grows received more taken (1 ∷ 4 ∷ []) h
call_read-grows (call.AwaitsSignature s callee) received more taken h = tt
call_read-grows (call.AwaitsIdent s callee cookie) received more taken h = tt
call_read-grows (call.AwaitsReconnect s callee cookie) received more taken h = tt
call_read-grows (call.Open s callee cookie) received more taken h = tt

stage-fed : (us : Uses) (received more : List ℕ) (taken : ℕ) (sent : List ℕ) (stage : ClientStage) → StageNamed us received taken sent stage → StageNamed us (received ++ more) taken sent stage
stage-fed us received more taken sent (ToMonitor stage) h = tt
stage-fed us received more taken sent (ToDaemon stage) h = (h.0, call_read-grows stage received more taken h.1, h.2)

-- the link that is found open is one of these keys
asked-key : (run : WholeRun) (us : Uses) (n : NodeName) (stage : ClientStage) (s : Secured) (requests : Requests) → ClientStageOk run us n stage → asking_open stage ≡ Some (s, requests)
    → HasMonitorKey us n s.keys.key
asked-key run us n (ToMonitor (connector.Open t others)) s requests ok is =
    let same : (t, others) ≡ (s, requests) = cc in
    subst (λ (k : List ℕ). HasMonitorKey us n k) (ap (λ (x : Secured × Requests). x.0.keys.key) same) ok.0
asked-key run us n (ToMonitor (connector.AwaitsBanner asked)) s requests ok is = absurd cc
asked-key run us n (ToMonitor (connector.AwaitsHello asked)) s requests ok is = absurd cc
asked-key run us n (ToMonitor (connector.AwaitsChallenge asked)) s requests ok is = absurd cc
asked-key run us n (ToMonitor connector.AwaitsDone) s requests ok is = absurd cc
asked-key run us n (ToMonitor (connector.AwaitsSignature t login)) s requests ok is = absurd cc
asked-key run us n (ToMonitor (connector.AwaitsIdent t session)) s requests ok is = absurd cc
asked-key run us n (ToDaemon stage) s requests ok is = absurd cc

-- a link that takes a session up, or has it open, is that of the session with its daemon
held-of : (sessions : List HeldSession) (stage : CallStage) → IsOfSession sessions stage → (session : HeldSession) → session_with (callee_of stage).daemon sessions ≡ Some session → IsHeldStage stage session
held-of sessions (call.AwaitsReconnect s callee cookie) h session is = h session is
held-of sessions (call.Open s callee cookie) h session is = h session is
held-of sessions (call.AwaitsBanner called) h session is = tt
held-of sessions (call.AwaitsHello called) h session is = tt
held-of sessions (call.AwaitsChallenge callee p) h session is = tt
held-of sessions (call.AwaitsDone callee answered) h session is = tt
held-of sessions (call.AwaitsSignature s callee) h session is = tt
held-of sessions (call.AwaitsIdent s callee cookie) h session is = tt

-- ---- a step

module _ (run : WholeRun) (whole : List Logged) (us vs : Uses) (told : Told) (log : List Logged) (J : List Entry) (line : ℕ) (c : WholeClientNode) (reading : ℕ) (draw : List ℕ)
    (i : Inv run whole us log J) (f : Grows us vs) (one : (k : List ℕ) (u v : Use) → Means vs k u → Means vs k v → u ≡ v) (signed : AreSigned us log) (ok : ClientOk run us c)
    (known : ClientKnown us told log c) (h : ClientNamed us c) where
  abbrev n : NodeName
  n = node.Entity c.own.mon_client.name

  abbrev Grants : List SealEntry → Type 0
  Grants es = AreGranted run.leaked whole n line log es

  -- where what it logs is granted
  abbrev Names : Outcome WholeClientNode → Type 0
  Names o = Grants o.out.seals → StepNamed vs o

  free : NeverExcepted run whole n us c.own.mon_client.name
  free = mon_client_turns.mon_client-free run whole n line us log J J c.own.mon_client refl i (record { known = ok.known; quiet = λ s has. has; count = refl })

  links : LinksNamed vs c.links
  links = links-grow us vs f c.links h.links

  without : (number : ℕ) → LinksNamed vs (without_link number c.links)
  without number = all-filter (LinkNamed vs) (λ (l : Link ClientStage). not (l.number == number)) c.links links

  put : (link : Link ClientStage) → LinkNamed vs link → LinksNamed vs (put_link link c.links)
  put link is = all-put (LinkNamed vs) link c.links is links

  -- nothing is logged
  still : (o : Outcome WholeClientNode) → o.out.seals ≡ [] → LinksNamed vs o.state.links → Names o
  still o none is = λ g. record { signs = subst (λ (es : List SealEntry). AllSigned vs es) (sym none) tt; links = is }

  comes-named : (number : ℕ) (link : Link ClientStage) (bytes : List ℕ) → link_of number c.links ≡ Some link → Names (fed c bytes (Some link))
  comes-named number link bytes is =
      still (fed c bytes (Some link)) refl
      (put (record link { received = link.received ++ bytes })
      (stage-fed vs link.received bytes link.taken link.sent link.stage (found_all (LinkNamed vs) (λ (l : Link ClientStage). l.number == number) c.links link links is)))

  -- ---- links to the monitor

  monitor-links : (number : ℕ) (bytes : List ℕ) (l : Option (Link connector.Stage)) → LinksNamed vs (links_behind c.links number bytes (option_map (of_kind ToMonitor) l))
  monitor-links number bytes (Some l) = put (record (of_kind ToMonitor l) { sent = l.sent ++ bytes }) tt
  monitor-links number bytes None = without number

  abbrev RowSigns_ : connector.MonClientRow → Type 0
  RowSigns_ row = AreGranted run.leaked whole n line log row.seals → AllSigned vs row.seals

  asks-named : (link : Link ClientStage) (stage : connector.Stage) → MonClientStageOk us n stage → Names (mon_client_turn c reading draw link stage)
  asks-named link stage st =
      by_turned (connector.turned_at (arrival_in (on_link c reading draw link) c.own.mon_client stage) stage)
      (mon_client-signs vs one run whole n line us log J c.own.mon_client.name free refl i f (arrival_in (on_link c reading draw link) c.own.mon_client stage) stage ok.known.own st)
    where
      by_turned : (t : Turned MonClient connector.Stage) → TurnSigns vs RowSigns_ t → Names (turns c (on_link c reading draw link) (turn_of_kind (with_mon_client c.own) ToMonitor t))
      by_turned Waits s = λ g. record { signs = tt; links = links }
      by_turned (Refuses why opened) s = λ g. record { signs = s; links = without link.number }
      by_turned (Handles row) s = λ g. record { signs = s g; links = monitor-links link.number row.sends row.link }

  renews-named : (services : ℕ) (link : Link ClientStage) (s : Secured) (requests : Requests) → first_open asking_open c.links ≡ Some (link, (s, requests))
      → Names (renewed c reading draw services link s requests)
  renews-named services link s requests is = λ g.
      let found = found-open (λ (l : Link ClientStage). ClientStageOk run us n l.stage) asking_open c.links link s requests is ok.links in
      let has : HasMonitorKey vs n s.keys.key = monitor_key-grows us vs n s.keys.key f (asked-key run us n link.stage s requests found.0 found.1) in
      record {
        signs = request-signs vs one n s has open_to_ask (arrival (me c.own) c.own.mon_client link reading draw) requests want.Tickets (asked.Tickets services);
        links = by_sealed (sealed_request s.keys requests (asked.Tickets services));
      }
    where
      by_sealed : (r : Result SealedFrame Reason) →
          let row = sends_request open_to_ask (arrival (me c.own) c.own.mon_client link reading draw) s requests want.Tickets r in
          LinksNamed vs (links_behind c.links link.number row.sends row.link)
      by_sealed (Ok sealed) = put _ tt
      by_sealed (Err why) = without link.number

  -- ---- links to daemons

  call-links : (number : ℕ) (bytes : List ℕ) (left : Option (Link CallStage)) → ((l : Link CallStage) → left ≡ Some l → CallNamed vs l.received l.taken (l.sent ++ bytes) l.stage)
      → LinksNamed vs (links_behind c.links number bytes (option_map (of_kind ToDaemon) left))
  call-links number bytes (Some l) is = put (record (of_kind ToDaemon l) { sent = l.sent ++ bytes }) (is l refl)
  call-links number bytes None is = without number

  presents-named : (link : Link ClientStage) (stage : CallStage) → CallKeys us n stage → CallNamed vs link.received link.taken link.sent stage → IsOfSession c.own.sessions stage
      → Names (call_turn c reading draw link stage)
  presents-named link stage keys named of =
      by_turned (call.turned_at a stage)
      (call-named run whole us vs log J n line c.own.mon_client.name refl h.client free i f one signed a stage ok.holds keys named (held-of c.own.sessions stage of))
    where
      a : CallArrival
      a = arrival_in (on_link c reading draw link) (caller_to (callee_of stage).daemon c.own) stage

      by_turned : (t : Turned Caller CallStage) → TurnSigns vs (λ (row : CallRow). AreGranted run.leaked whole n line log row.seals → RowNamed vs row) t
          → Names (turns c (on_link c reading draw link) (turn_of_kind (with_caller (callee_of stage).daemon c.own) ToDaemon t))
      by_turned Waits s = λ g. record { signs = tt; links = links }
      by_turned (Refuses why opened) s = λ g. record { signs = s; links = without link.number }
      by_turned (Handles row) s = λ g. let k = s g in record { signs = k.signs; links = call-links link.number row.sends row.link k.link }

  begins-named : (number : ℕ) (to : Peer) (dial : Dial) → Names (opens_dialled c reading draw number to (Some dial))
  begins-named number to (ForLogin services) = still (opens_dialled c reading draw number to (Some (ForLogin services))) refl (put _ tt)
  begins-named number to (ForCall called) = still (opens_dialled c reading draw number to (Some (ForCall called))) refl (put _ (written-first, refl, tt))

  sends-named : (session : HeldSession) (operation : Operation) (seq : ℕ) (link : Link ClientStage) (s : Secured) (callee : Callee) (cookie : ℕ)
      → first_call session.daemon c.links ≡ Some (link, (s, (callee, cookie))) → Names (sent_in c reading draw session operation seq (Some (link, (s, (callee, cookie)))))
  sends-named session operation seq link s callee cookie found = λ g. by_sealed (secure_frame s.keys (operation_message (seq, operation))) refl
    where
      there : SomeOf (λ (l : Link ClientStage). l ≡ link) c.links × (call_open session.daemon link.stage ≡ Some (s, (callee, cookie)))
      there = found-call session.daemon c.links link (s, (callee, cookie)) found

      of : IsOfCalled vs s.keys.key callee
      of =
          let stands = open-stage session.daemon link.stage (s, (callee, cookie)) there.1 in
          let named : LinkNamed vs link = some-of (λ (l : Link ClientStage). l ≡ link) (LinkNamed vs) (LinkNamed vs link) (λ l same p. subst (LinkNamed vs) same p) c.links there.0 links in
          (subst (λ (st : ClientStage). StageNamed vs link.received link.taken link.sent st) stands.0 named).2

      by_sealed : (r : Result SealedFrame BytesFault) → secure_frame s.keys (operation_message (seq, operation)) ≡ r →
          let m : WholeClientNode = having_session c (record session { queue = pushed session.queue operation }) in
          StepNamed vs (carried_out m link.number false (entered_before (sent_entry c.own session seq operation)
          (secure_sent (arrival (me m.own) m.own link reading draw) s (λ behind. ToDaemon (call.Open behind callee cookie)) [] r)))
      by_sealed (Ok sealed) made =
          let key : sealed.keys.key ≡ s.keys.key = ap (λ (x : SealedFrame). x.keys.key) (frame-sealed s.keys (operation_message (seq, operation)) sealed made).0 in
          record {
            signs = frame-signed vs s.keys (operation_message (seq, operation)) sealed made;
            links = put _ (tt, tt, subst (λ (k : List ℕ). IsOfCalled vs k callee) (sym key) of);
          }
      by_sealed (Err why) made = record { signs = tt; links = without link.number }

  -- ---- any event

  stage-of : (number : ℕ) (link : Link ClientStage) (stage : ClientStage) → link_of number c.links ≡ Some link → link.stage ≡ stage → ClientStageOk run us n stage
  stage-of number link stage is of =
      subst (λ (st : ClientStage). ClientStageOk run us n st) of (found_all (λ (l : Link ClientStage). ClientStageOk run us n l.stage) (λ (l : Link ClientStage). l.number == number) c.links link ok.links is)

  named-of : (number : ℕ) (link : Link ClientStage) (stage : CallStage) → link_of number c.links ≡ Some link → link.stage ≡ ToDaemon stage → CallNamed vs link.received link.taken link.sent stage
  named-of number link stage is of =
      subst (λ (st : ClientStage). StageNamed vs link.received link.taken link.sent st) of (found_all (LinkNamed vs) (λ (l : Link ClientStage). l.number == number) c.links link links is)

  session-of : (number : ℕ) (link : Link ClientStage) (stage : CallStage) → link_of number c.links ≡ Some link → link.stage ≡ ToDaemon stage → IsOfSession c.own.sessions stage
  session-of number link stage is of =
      (subst (λ (st : ClientStage). StageTold us told log c.own link.number st) of
      (found_all (λ (l : Link ClientStage). StageTold us told log c.own l.number l.stage) (λ (l : Link ClientStage). l.number == number) c.links link known.links.links is)).1

  each : (input : Input) → EachStep c reading draw input Names
  each input = record {
    idle = still (idles c) refl links;
    comes = λ number link bytes is. comes-named number link bytes is;
    asks = λ number link stage is of. asks-named link stage (stage-of number link (ToMonitor stage) is of).0;
    presents = λ number link stage is of. presents-named link stage (stage-of number link (ToDaemon stage) is of).0 (named-of number link stage is of) (session-of number link stage is of);
    refuses = λ why none. still _ refl links;
    begins = λ number to dial is. begins-named number to dial;
    reaches_none = λ to. still _ refl links;
    goes = λ number link is. still _ refl (without link.number);
    logs = λ services. still _ refl (all-filter (LinkNamed vs) (λ (l : Link ClientStage). not (is_to_monitor l.stage)) c.links links);
    renews_there = λ services link s requests is. renews-named services link s requests is;
    dials = λ daemon lossy held is of. still _ refl links;
    sends_later = λ daemon session operation seq is of gives. still _ refl links;
    sends_there = λ daemon session operation seq link s callee cookie is of gives found. sends-named session operation seq link s callee cookie found;
    restarts = still (restarted c) refl tt;
  }

  pub step-named : (input : Input) → Grants (whole_client_rule c input reading draw).out.seals → StepNamed vs (whole_client_rule c input reading draw)
  step-named input = each-step c reading draw Names input (each input)

-- a step of a client of this name
pub client-names : (run : WholeRun) (whole : List Logged) (us vs : Uses) (told : Told) (log : List Logged) (line : ℕ) (J : List Entry) (name : Name) (c : WholeClientNode) (input : Input) (reading : ℕ)
    (draw : List ℕ) → ClientReady run whole us vs told log line J name c input draw (whole_client_rule c input reading draw) → AreSigned us log → ClientNamed us c
    → AllSigned vs (whole_client_rule c input reading draw).out.seals × ClientNamed vs (whole_client_rule c input reading draw).state
client-names run whole us vs told log line J name c input reading draw r signed h =
    let g : AreGranted run.leaked whole (node.Entity c.own.mon_client.name) line log (whole_client_rule c input reading draw).out.seals =
    subst (λ (m : Name). AreGranted run.leaked whole (node.Entity m) line log (whole_client_rule c input reading draw).out.seals) (sym r.named) r.granted in
    let s = step-named run whole us vs told log J line c reading draw r.inv r.grows r.inv_behind.one signed r.ok r.client h input g in (
      s.signs,
      record { client = subst (λ (m : Name). is_daemon_type m.kind ≡ false) (sym (whole-named c input reading draw)) h.client; links = s.links },
    )
