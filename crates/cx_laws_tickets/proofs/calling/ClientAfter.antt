-- A step of a client with links to the monitor and to daemons, at any event: what is known of a run's keys stays so, and what it enters keeps its laws.
use Rattle.std.proofs.Common.{◌≡◌, ℕ, ◌+◌, Bool, true, false, List, [], ◌∷◌, ◌++◌, Option, Some, None, Result, Ok, Err, sym, subst}
use Rattle.std.specs.Prelude.{IfSome, ◌==◌, ◌-◌, ◌^◌, ◌&&◌, filter, not, if◌then◌else◌}
use Rattle.std.specs.List.{AllByRecursion}
use Rattle.std.specs.Option.{option_map}
use Rattle.cx_base.specs.Names.{Name, same_name}
use Rattle.cx_base.specs.declared.nodes.NodeName.{NodeName}
use Rattle.cx_base.specs.declared.nodes.NodeName.TheVariants as node
use Rattle.cx_base.specs.declared.operations.Operation.{Operation}
use Rattle.cx_laws_keys.specs.cx_journal.specs.Behind.{EachBehind}
use Rattle.cx_laws_keys.specs.cx_journal.specs.declared.entries.Entry.{Entry}
use Rattle.cx_laws_keys.specs.cx_journal.specs.declared.entries.Entry.TheVariants as journal
use Rattle.cx_laws_keys.specs.cx_journal.specs.declared.faults.BytesFault.{BytesFault}
use Rattle.cx_laws_keys.specs.cx_journal.specs.declared.outcomes.Reason.{Reason}
use Rattle.cx_laws_keys.specs.cx_journal.specs.declared.outcomes.Reason.TheVariants as reason
use Rattle.cx_laws_keys.specs.cx_login.specs.Held.{Held}
use Rattle.cx_laws_keys.specs.cx_rules.specs.Connector as connector
use Rattle.cx_laws_keys.specs.cx_rules.specs.Connector.{MonClientArrival, MonClientRow}
use Rattle.cx_laws_keys.specs.cx_rules.specs.Greetings.{own_banner}
use Rattle.cx_laws_keys.specs.cx_rules.specs.Holdings.{MonClient}
use Rattle.cx_laws_keys.specs.cx_rules.specs.Inputs.{Input, Submit}
use Rattle.cx_laws_keys.specs.cx_rules.specs.Links.{Link, link_of}
use Rattle.cx_laws_keys.specs.cx_rules.specs.Requests.{Requests, first_open, open_or, request_message, sealed_request, sends_request, unless_unsealed}
use Rattle.cx_laws_keys.specs.cx_rules.specs.Rows.{Arrival, Outcome, Row, Turned, Waits, Refuses, Handles, arrival, fed, forgotten, goes_on, lifted, new_link, refused_entry, secure_sent}
use Rattle.cx_laws_keys.specs.cx_rules.specs.Secured.{SealedFrame, Secured, secure_frame}
use Rattle.cx_laws_keys.specs.cx_rules.specs.declared.requests.Want.TheVariants as want
use Rattle.cx_run.specs.cx_rules_session.specs.ClientRule.{ClientStage, ToMonitor, ToDaemon, Dial, ForLogin, ForCall, WholeClient, WholeClientNode, asking_open, call_open, call_or, caller_to, calls, dial_of, first_call, first_stage, having_session, is_for, is_for_login, is_open, is_to_monitor, logs_in, loses, me, open_to_ask, opens_dialled, own_behind_gone, restarted, sent_entry, undialled, whole_client_rule, with_mon_client, with_caller}
use Rattle.cx_run.specs.cx_rules_session.specs.Kinds.{arrival_in, entered_before, of_kind, row_of_kind, turn_of_kind}
use Rattle.cx_run.specs.cx_rules_session.specs.Presenter as call
use Rattle.cx_run.specs.cx_rules_session.specs.Presenter.{CallArrival, CallRow, CallStage, Caller, callee_of}
use Rattle.cx_run.specs.cx_rules_session.specs.Sessions.{Called, Callee, HeldSession, held_gid, operation_message, put_session, session_with, ticket_for, with_session}
use Rattle.cx_session.specs.Queue.{pushed}
use Rattle.cx_laws_keys.specs.cx_steps.specs.declared.events.Command.TheVariants as command
use Rattle.cx_laws_keys.specs.cx_steps.specs.declared.events.Peer.{Peer}
use Rattle.cx_laws_keys.specs.cx_steps.specs.declared.seals.Logged.{Logged}
use Rattle.cx_laws_keys.specs.cx_wire.specs.declared.bodies.Request.TheVariants as asked
use Rattle.cx_run.proofs.Taking.{EachRow}
use Rattle.cx_laws_tickets.proofs.calling.Asking.{Holds, HoldsWhere, LinkSessions, mon_client-holds}
use Rattle.cx_laws_tickets.proofs.calling.CallSeals.{LinkCalls, Seals, TurnSeals, call-seals}
use Rattle.cx_laws_tickets.proofs.calling.Sessions.{CallKeys, ClientStageOk, DialOk, IncomingLinksCome, HeldOk, HoldingsOk, IsLoginKey, IsShownFor, SessionsIn, client_stage-grows, dial-grows, found-ticket, holdings-grow, stage_sessions-grow}
use Rattle.cx_run.proofs.CallKeeps.{IsCallEntry, Leaves, call-takes}
use Rattle.cx_run.proofs.Outcomes.{EachOutcome, IsNoTicket, mon_client_turn, call_turn, on_link, renewed, sent_in, step-keeps}
use Rattle.cx_run.specs.Calling.{IsNoCall}
use Rattle.cx_laws_keys.proofs.keys.Journal.{After, EntryLaw, IsNotIssued, IsOfLogin, entered, login-law, own-other}
use Rattle.cx_laws_keys.proofs.keys.Known.{Inv}
use Rattle.cx_laws_keys.proofs.keys.Lists.{all-append, all-map, found_all}
use Rattle.cx_laws_keys.proofs.keys.Premises.{AreGranted, behind}
use Rattle.cx_laws_keys.proofs.keys.Steps.{inv-all, inv-entered}
use Rattle.cx_laws_keys.proofs.keys.Uses.{Grows, Uses, WholeRun, stays}
use Rattle.cx_laws_keys.proofs.login.MonClientRows.{NeverExcepted, mon_client_says}
use Rattle.cx_laws_keys.proofs.login.MonClientTurns as mon_client_turns
use Rattle.cx_laws_keys.proofs.login.Facts.{MonClientOk, MonClientStageOk, HasConnection, HasMonitorKey, mon_client-entered, none-fetched, seals-monitor, seals-own}
use Rattle.cx_laws_keys.proofs.login.Rows.{AfterRow, AfterStep, Allowed, FrameOk, LinkOk, LinksOk, NodeOk, Saying, TurnOk, all-filter, all-put, all-without, carried, frame-ok, idle, turned-ok}

-- ---- what is known of a client

-- itself as one that asks, with the session keys that it holds; and where it waits for a link to a daemon, or has a session, such links are asked for in
-- this run
pub record OwnOk (run : WholeRun) (first : List Entry) (n : NodeName) (us : Uses) (J : List Entry) (own : WholeClient) : Type 0 where
  pub mon_client : MonClientOk run first us J own.mon_client
  pub holds : HoldingsOk us n own.mon_client.holdings
  pub dials : AllByRecursion (DialOk run us n) own.dials
  pub sessions : AllByRecursion (λ (session : HeldSession). IncomingLinksCome run) own.sessions

pub own-enters : (run : WholeRun) (first : List Entry) (n : NodeName) (us : Uses) (J : List Entry) (own : WholeClient) (e : Entry) → IsNotIssued e → OwnOk run first n us J own
    → OwnOk run first n us (J ++ e ∷ []) own
own-enters run first n us J own e other h =
    record { mon_client = mon_client-entered run first us J own.mon_client e other h.mon_client; holds = h.holds; dials = h.dials; sessions = h.sessions }

abbrev pub whole_client_says : WholeRun → List Entry → NodeName → Saying WholeClient ClientStage
whole_client_says run first n = record {
  Owns = OwnOk run first n;
  Stands = λ us stage. ClientStageOk run us n stage;
  own_enters = own-enters run first n;
  stage_grows = λ us vs stage f st. client_stage-grows run us vs n stage f st;
}

-- with another count of connections it is as good
counted : (run : WholeRun) (first : List Entry) (us : Uses) (J : List Entry) (mon_client : MonClient) (global : ℕ) → MonClientOk run first us J mon_client
    → MonClientOk run first us J (record mon_client { global_seq = global })
counted run first us J mon_client global ok = record { known = ok.known; quiet = ok.quiet; count = ok.count }

-- ---- sessions

put-all : (P : HeldSession → Type 0) (session : HeldSession) (sessions : List HeldSession) → P session → AllByRecursion P sessions → AllByRecursion P (put_session session sessions)
put-all P session [] h all = (h, tt)
put-all P session (other ∷ others) h all = by_test (same_name other.daemon session.daemon) (put-all P session others h all.1)
  where
    by_test : (t : Bool) → AllByRecursion P (put_session session others) → AllByRecursion P (if t then session ∷ others else other ∷ put_session session others)
    by_test true rest = (h, all.1)
    by_test false rest = (all.0, rest)

with-all : (C : Type 0) (daemon : Name) (session : Option HeldSession) (sessions : List HeldSession) → C → AllByRecursion (λ (s : HeldSession). C) sessions
    → AllByRecursion (λ (s : HeldSession). C) (with_session daemon session sessions)
with-all C daemon (Some session) sessions h all = put-all (λ (s : HeldSession). C) session sessions h all
with-all C daemon None sessions h all = all-filter (λ (s : HeldSession). C) (λ (s : HeldSession). not (same_name s.daemon daemon)) sessions all

-- ---- entries

pub of-login : (why : Reason) → IsNoTicket why → IsOfLogin why
of-login (reason.Ticket why blob) h = h
of-login _ h = tt

module _ (run : WholeRun) where
  -- it issues nothing, and keeps its law behind whatever was entered before
  pub record IsLawful (e : Entry) : Type 0 where
    pub none : IsNotIssued e
    pub law : (K : List Entry) → EntryLaw run K e

  lawful-refused : (at : NodeName) (number : ℕ) (why : Reason) → IsNoTicket why → IsLawful (refused_entry at number why)
  lawful-refused at number why h = record { none = tt; law = λ K. login-law run K (refused_entry at number why) (of-login why h) tt }

  -- what a session with a daemon brings, where links to daemons are asked for
  lawful-answer : (e : Entry) (mon_client : MonClient) → IncomingLinksCome run → IsCallEntry mon_client e → IsLawful e
  lawful-answer (journal.Refused r) mon_client come h = lawful-refused r.node r.link r.reason h
  lawful-answer (journal.Answered x) mon_client come h =
      record { none = tt; law = λ K. record { login = λ none. absurd (come none); told = λ known. record { backed = tt; keeps_keys = tt; keeps_expiry = tt }; gid_once = tt } }
  lawful-answer (journal.Saved x) mon_client come h = absurd h
  lawful-answer (journal.Issued x) mon_client come h = absurd h
  lawful-answer (journal.Fetched x) mon_client come h = absurd h
  lawful-answer (journal.Looked x) mon_client come h = absurd h
  lawful-answer (journal.Admitted x) mon_client come h = absurd h
  lawful-answer (journal.Resumed x) mon_client come h = absurd h
  lawful-answer (journal.Sent x) mon_client come h = absurd h
  lawful-answer (journal.Handled x) mon_client come h = absurd h
  lawful-answer (journal.Ended x) mon_client come h = absurd h
  lawful-answer (journal.Restarted x) mon_client come h = absurd h
  lawful-answer (journal.Broken x) mon_client come h = absurd h
  lawful-answer (journal.Leaked x) mon_client come h = absurd h

  lawful-sent : (client : WholeClient) (session : HeldSession) (seq : ℕ) (operation : Operation) → IncomingLinksCome run → IsLawful (sent_entry client session seq operation)
  lawful-sent client session seq operation come =
      record { none = tt; law = λ K. record { login = λ none. absurd (come none); told = λ known. record { backed = tt; keeps_keys = tt; keeps_expiry = tt }; gid_once = tt } }

  all-laws : (J es : List Entry) → AllByRecursion IsLawful es → EachBehind (EntryLaw run) J es
  all-laws J [] h = tt
  all-laws J (e ∷ es) h = (h.0.law J, all-laws (J ++ e ∷ []) es h.1)

  entered-inv : (whole : List Logged) (us : Uses) (log : List Logged) (J es : List Entry) → AllByRecursion IsLawful es → Inv run whole us log J → Inv run whole us log (entered J es)
  entered-inv whole us log J [] h i = i
  entered-inv whole us log J (e ∷ es) h i = entered-inv whole us log (J ++ e ∷ []) es h.1 (inv-entered run whole us log J e i (own-other J e h.0.none i.own))

  entered-own : (first : List Entry) (n : NodeName) (us : Uses) (J es : List Entry) (own : WholeClient) → AllByRecursion IsLawful es → OwnOk run first n us J own
      → OwnOk run first n us (entered J es) own
  entered-own first n us J [] own h ok = ok
  entered-own first n us J (e ∷ es) own h ok = entered-own first n us (J ++ e ∷ []) es own h.1 (own-enters run first n us J own e h.0.none ok)

-- ---- a step

module _ (run : WholeRun) (whole : List Logged) (n : NodeName) (line : ℕ) (us : Uses) (log : List Logged) (J first : List Entry) (c : WholeClientNode) (input : Input) (reading : ℕ) (draw : List ℕ) where
  abbrev Says : Saying WholeClient ClientStage
  Says = whole_client_says run first n

  -- what is known of the client before the step
  pub record IsReady : Type 0 where
    pub inv : Inv run whole us log J
    pub ok : NodeOk Says c us J
    pub here : n ≡ node.Entity c.own.mon_client.name
    pub comes : run.incoming_links ≡ false → IsNoCall input

  -- where what a step logs is granted, all stays known
  abbrev Keeps : Outcome WholeClientNode → Type 0
  Keeps o = AreGranted run.leaked whole n line log o.out.seals → AfterStep Says run whole n line us log J o

  module _ (r : IsReady) where
    abbrev mon_client : MonClient
    mon_client = c.own.mon_client

    -- nothing is excepted here under its keys
    never : NeverExcepted run whole n us c.own.mon_client.name
    never = mon_client_turns.mon_client-free run whole n line us log J first mon_client r.here r.inv r.ok.own.mon_client

    -- a row that draws no key
    row-after : (row : Row WholeClient ClientStage) → Allowed us J n row.seals → AllByRecursion (IsLawful run) row.entries → OwnOk run first n us J row.own → LinkOk Says us row.link
        → AfterRow Says run whole n line us log J row
    row-after row al lawful own link = record {
      uses = us;
      grows = stays us;
      inv = entered-inv run whole us (behind n line row.seals log) J row.entries lawful (inv-all run whole us log J n line row.seals r.inv al);
      laws = all-laws run J row.entries lawful;
      good = record { own = entered-own run first n us J row.entries row.own lawful own; link = link };
    }

    -- one entry, where nothing is logged
    entry-after : (m : WholeClientNode) (e : Entry) → IsLawful run e → NodeOk Says m us J → After run whole n line us log J [] (e ∷ []) (NodeOk Says m)
    entry-after m e lawful ok = record {
      uses = us;
      grows = stays us;
      inv = inv-entered run whole us log J e r.inv (own-other J e lawful.none r.inv.own);
      laws = (lawful.law J, tt);
      good = record { own = own-enters run first n us J m.own e lawful.none ok.own; links = ok.links };
    }

    -- nothing is logged or entered
    state-after : (m : WholeClientNode) → NodeOk Says m us J → After run whole n line us log J [] [] (NodeOk Says m)
    state-after m ok = record { uses = us; grows = stays us; inv = r.inv; laws = tt; good = ok }

    -- ---- a turn of a link to the monitor

    module _ (link : Link ClientStage) where
      abbrev here : Arrival WholeClient ClientStage
      here = on_link c reading draw link

      link-grows : (vs : Uses) → Grows us vs → (l : Option (Link connector.Stage)) → LinkOk (mon_client_says run first n) vs l → LinkSessions us n l → LinkOk Says vs (option_map (of_kind ToMonitor) l)
      link-grows vs f (Some l) st s = (st, stage_sessions-grow us vs n l.stage f s)
      link-grows vs f None st s = tt

      lifted-after : (row : MonClientRow) → AfterRow (mon_client_says run first n) run whole n line us log J row → Holds us n row
          → AfterRow Says run whole n line us log J (row_of_kind (with_mon_client c.own) ToMonitor row)
      lifted-after row h x = record {
        uses = h.uses;
        grows = h.grows;
        inv = h.inv;
        laws = h.laws;
        good = record {
          own = record {
            mon_client = h.good.own;
            holds = holdings-grow us h.uses n row.own.holdings h.grows x.holds;
            dials = all-map (DialOk run us n) (DialOk run h.uses n) (λ dial d. dial-grows run us h.uses n dial h.grows d) c.own.dials r.ok.own.dials;
            sessions = r.ok.own.sessions;
          };
          link = link-grows h.uses h.grows row.link h.good.link x.link;
        };
      }

      lifted-turn : (a : MonClientArrival) (turned : Turned MonClient connector.Stage) → TurnOk (mon_client_says run first n) run whole n line us log J a turned
          → EachRow (HoldsWhere run whole n line us log) turned → TurnOk Says run whole n line us log J here (turn_of_kind (with_mon_client c.own) ToMonitor turned)
      lifted-turn a Waits t k = tt
      lifted-turn a (Refuses why opened) t k = t
      lifted-turn a (Handles row) t k = λ g. lifted-after row (t g) (k g)

      asks-keeps : (stage : connector.Stage) → MonClientStageOk us n stage × SessionsIn us n stage → Keeps (mon_client_turn c reading draw link stage)
      asks-keeps stage st g =
          let a : MonClientArrival = arrival_in here mon_client stage in
          let turned : Turned MonClient connector.Stage = connector.turned_at a stage in
          turned-ok Says run whole n line us log J c here (turn_of_kind (with_mon_client c.own) ToMonitor turned) r.inv r.ok r.ok.own
          (lifted-turn a turned (mon_client_turns.turn-ok run whole n line us log J first a stage r.inv r.ok.own.mon_client r.here st.0)
          (mon_client-holds run whole n line us log J mon_client.name never r.here r.inv a stage r.ok.own.mon_client.known.own r.ok.own.holds st.1)) g

      -- ---- a turn of a link to a daemon

      link-calls : IncomingLinksCome run → (l : Option (Link CallStage)) → LinkCalls us n l → LinkOk Says us (option_map (of_kind ToDaemon) l)
      link-calls come (Some l) h = (h, come)
      link-calls come None h = tt

      all-lawful : IncomingLinksCome run → (es : List Entry) → AllByRecursion (IsCallEntry mon_client) es → AllByRecursion (IsLawful run) es
      all-lawful come es h = all-map (IsCallEntry mon_client) (IsLawful run) (λ e is. lawful-answer run e mon_client come is) es h

      call-own : (daemon : Name) (row : CallRow) → Leaves mon_client row → IncomingLinksCome run → OwnOk run first n us J (with_caller daemon c.own row.own)
      call-own daemon row leaves come =
          let same : record mon_client { global_seq = leaves.still.0 } ≡ row.own.mon_client = sym leaves.still.1 in
          record {
            mon_client = subst (λ (a : MonClient). MonClientOk run first us J a) same (counted run first us J mon_client leaves.still.0 r.ok.own.mon_client);
            holds = subst (λ (a : MonClient). HoldingsOk us n a.holdings) same r.ok.own.holds;
            dials = r.ok.own.dials;
            sessions = with-all (IncomingLinksCome run) daemon row.own.session c.own.sessions come r.ok.own.sessions;
          }

      call-after : (daemon : Name) (row : CallRow) → Seals us J n row → Leaves mon_client row → IncomingLinksCome run
          → AfterRow Says run whole n line us log J (row_of_kind (with_caller daemon c.own) ToDaemon row)
      call-after daemon row h leaves come =
          row-after (row_of_kind (with_caller daemon c.own) ToDaemon row) h.seals (all-lawful come row.entries leaves.enters) (call-own daemon row leaves come) (link-calls come row.link h.link)

      call-turned : (daemon : Name) (turned : Turned Caller CallStage) → TurnSeals run whole n line us log J mon_client.name never r.here r.inv turned → EachRow (Leaves mon_client) turned → IncomingLinksCome run
          → TurnOk Says run whole n line us log J here (turn_of_kind (with_caller daemon c.own) ToDaemon turned)
      call-turned daemon Waits t k come = tt
      call-turned daemon (Refuses why opened) t k come = t
      call-turned daemon (Handles row) t k come = λ g. call-after daemon row (t g) k come

      presents-keeps : (stage : CallStage) → CallKeys us n stage × IncomingLinksCome run → Keeps (call_turn c reading draw link stage)
      presents-keeps stage st g =
          let daemon : Name = (callee_of stage).daemon in
          let a : CallArrival = arrival_in here (caller_to daemon c.own) stage in
          let turned : Turned Caller CallStage = call.turned_at a stage in
          turned-ok Says run whole n line us log J c here (turn_of_kind (with_caller daemon c.own) ToDaemon turned) r.inv r.ok r.ok.own
          (call-turned daemon turned (call-seals run whole n line us log J mon_client.name never r.here r.inv a stage r.ok.own.holds st.0) (call-takes a stage).leaves st.1) g

    -- ---- the other events

    found-ok : (number : ℕ) (link : Link ClientStage) → link_of number c.links ≡ Some link → ClientStageOk run us n link.stage
    found-ok number link is =
        found_all (λ (l : Link ClientStage). ClientStageOk run us n l.stage) (λ (l : Link ClientStage). l.number == number) c.links link r.ok.links is

    staged : (link : Link ClientStage) (stage : ClientStage) → link.stage ≡ stage → ClientStageOk run us n link.stage → ClientStageOk run us n stage
    staged link stage is st = subst (λ (s : ClientStage). ClientStageOk run us n s) is st

    -- bytes come on a link
    fed-after : (link : Link ClientStage) (bytes : List ℕ) → ClientStageOk run us n link.stage → Keeps (fed c bytes (Some link))
    fed-after link bytes st g =
        state-after (fed c bytes (Some link)).state (record { own = r.ok.own; links = all-put Says us (record link { received = link.received ++ bytes }) c.links r.ok.links st })

    refused-after : (m : WholeClientNode) (number : ℕ) (why : Reason) → IsNoTicket why → NodeOk Says m us J
        → After run whole n line us log J [] (refused_entry (me c.own) number why ∷ []) (NodeOk Says m)
    refused-after m number why told ok = entry-after m (refused_entry (me c.own) number why) (lawful-refused run (me c.own) number why told) ok

    -- a link that was waited for, and one that isn't any more
    first-ok : (dial : Dial) → DialOk run us n dial → ClientStageOk run us n (first_stage dial)
    first-ok (ForLogin services) h = (tt, tt)
    first-ok (ForCall called) h = h

    undialled-own : (to : Peer) → OwnOk run first n us J (undialled c to).own
    undialled-own to = record {
      mon_client = r.ok.own.mon_client;
      holds = r.ok.own.holds;
      dials = all-filter (DialOk run us n) (λ (dial : Dial). not (dial_of to dial)) c.own.dials r.ok.own.dials;
      sessions = r.ok.own.sessions;
    }

    begins-keeps : (number : ℕ) (to : Peer) (dial : Dial) → DialOk run us n dial → Keeps (opens_dialled c reading draw number to (Some dial))
    begins-keeps number to dial h g =
        let b : Arrival WholeClient ClientStage = arrival (me c.own) (undialled c to).own (new_link number (first_stage dial)) reading draw in
        let row : Row WholeClient ClientStage = goes_on b (first_stage dial) own_banner [] in
        carried Says run whole n line us log J (undialled c to) number false row r.ok.links (row-after row tt tt (undialled-own to) (first-ok dial h))

    -- a link is gone
    gone-own : (stage : ClientStage) → OwnOk run first n us J (own_behind_gone c.own stage)
    gone-own (ToMonitor stage) = r.ok.own
    gone-own (ToDaemon stage) = record {
      mon_client = r.ok.own.mon_client;
      holds = r.ok.own.holds;
      dials = r.ok.own.dials;
      sessions = all-filter (λ (s : HeldSession). IncomingLinksCome run) (λ (s : HeldSession). not (s.lossy && same_name s.daemon (callee_of stage).daemon)) c.own.sessions r.ok.own.sessions;
    }

    goes-keeps : (link : Link ClientStage) → Keeps (loses c (Some link))
    goes-keeps link g = by_test (is_open link.stage)
      where
        by_test : (open_ : Bool) → After run whole n line us log J [] (if open_ then [] else refused_entry (me c.own) link.number reason.Lost ∷ [])
            (NodeOk Says (record (forgotten c link.number) { own = own_behind_gone c.own link.stage }))
        by_test true =
            state-after (record (forgotten c link.number) { own = own_behind_gone c.own link.stage }) (record { own = gone-own link.stage; links = all-without Says us link.number c.links r.ok.links })
        by_test false =
            refused-after (record (forgotten c link.number) { own = own_behind_gone c.own link.stage }) link.number reason.Lost tt
            (record { own = gone-own link.stage; links = all-without Says us link.number c.links r.ok.links })

    -- Login
    logs-keeps : (services : ℕ) → Keeps (logs_in c services)
    logs-keeps services g = state-after (logs_in c services).state (record {
      own = record {
        mon_client = r.ok.own.mon_client;
        holds = r.ok.own.holds;
        dials = all-append (DialOk run us n) (filter (λ (dial : Dial). not (is_for_login dial)) c.own.dials) (ForLogin services ∷ [])
            (all-filter (DialOk run us n) (λ (dial : Dial). not (is_for_login dial)) c.own.dials r.ok.own.dials) (tt, tt);
        sessions = r.ok.own.sessions;
      };
      links = all-filter (λ (l : Link ClientStage). ClientStageOk run us n l.stage) (λ (l : Link ClientStage). not (is_to_monitor l.stage)) c.links r.ok.links;
    })

    -- Renew
    abbrev Asks_ : Link ClientStage × (Secured × Requests) → Type 0
    Asks_ f = HasMonitorKey us n f.1.0.keys.key × IsLoginKey us n f.1.1.session

    found-open : (links : List (Link ClientStage)) → LinksOk Says us links → IfSome (first_open asking_open links) Asks_
    found-open [] all = tt
    found-open (l ∷ links) all = by_kind l.stage all.0 (first_open asking_open links) (found-open links all.1)
      where
        by_stage : (stage : connector.Stage) → MonClientStageOk us n stage × SessionsIn us n stage → (behind : Option (Link ClientStage × (Secured × Requests)))
            → IfSome behind Asks_ → IfSome (open_or l (connector.kept_open stage) behind) Asks_
        by_stage (connector.AwaitsBanner asked) st behind rest = rest
        by_stage (connector.AwaitsHello asked) st behind rest = rest
        by_stage (connector.AwaitsChallenge asked) st behind rest = rest
        by_stage connector.AwaitsDone st behind rest = rest
        by_stage (connector.AwaitsSignature s login) st behind rest = rest
        by_stage (connector.AwaitsIdent s session) st behind rest = rest
        by_stage (connector.Open s requests) st behind rest = st

        by_kind : (stage : ClientStage) → ClientStageOk run us n stage → (behind : Option (Link ClientStage × (Secured × Requests))) → IfSome behind Asks_
            → IfSome (open_or l (asking_open stage) behind) Asks_
        by_kind (ToMonitor stage) st behind rest = by_stage stage st behind rest
        by_kind (ToDaemon stage) st behind rest = rest

    renewed-keyed : (key other : List ℕ) → other ≡ key → HasMonitorKey us n key → HasMonitorKey us n other
    renewed-keyed key other same h = subst (λ (k : List ℕ). HasMonitorKey us n k) (sym same) h

    abbrev renew_row : Link ClientStage → Secured → Requests → Result SealedFrame Reason → Row WholeClient ClientStage
    renew_row link s requests sealed = lifted (with_mon_client c.own) (sends_request open_to_ask (arrival (me c.own) c.own.mon_client link reading draw) s requests want.Tickets sealed)

    renews-keeps : (services : ℕ) (link : Link ClientStage) (s : Secured) (requests : Requests) → HasMonitorKey us n s.keys.key → IsLoginKey us n requests.session
        → Keeps (renewed c reading draw services link s requests)
    renews-keeps services link s requests has auth g =
        carried Says run whole n line us log J c link.number false (renew_row link s requests (sealed_request s.keys requests (asked.Tickets services))) r.ok.links
        (by_count (requests.count == 2 ^ 64 - 1))
      where
        by_sent : (made : Result SealedFrame BytesFault) → FrameOk us J n s.keys made → AfterRow Says run whole n line us log J (renew_row link s requests (unless_unsealed made))
        by_sent (Ok sealed) h =
            row-after (renew_row link s requests (Ok sealed)) h.0 tt r.ok.own (renewed-keyed s.keys.key sealed.keys.key h.1.key has, auth)
        by_sent (Err why) h =
            row-after (renew_row link s requests (Err (reason.Bytes why))) tt (lawful-refused run (me c.own) link.number (reason.Bytes why) tt, tt) r.ok.own tt

        by_count : (spent : Bool) → AfterRow Says run whole n line us log J (renew_row link s requests
            (if spent then Err reason.Spent else unless_unsealed (secure_frame s.keys (request_message (requests.count + 1) (asked.Tickets services)))))
        by_count true =
            row-after (renew_row link s requests (Err reason.Spent)) tt (lawful-refused run (me c.own) link.number reason.Spent tt, tt) r.ok.own tt
        by_count false =
            by_sent (secure_frame s.keys (request_message (requests.count + 1) (asked.Tickets services)))
            (frame-ok us J n s.keys (request_message (requests.count + 1) (asked.Tickets services)) (seals-monitor us n s.keys has))

    -- Connect
    calls-come : (daemon : Name) (lossy : Bool) → input ≡ Submit (command.Connect daemon lossy) → IncomingLinksCome run
    calls-come daemon lossy is = λ none. subst IsNoCall is (r.comes none)

    held-session : (callee : Callee) (held : Option Held) (found : Held) → held ≡ Some found → HeldOk us n callee.daemon.kind held → IsShownFor us n callee found
    held-session callee held found is h = subst (λ (o : Option Held). HeldOk us n callee.daemon.kind o) is h

    dials-keeps : (callee : Callee) (held : Held) → IsShownFor us n callee held → IncomingLinksCome run
        → Keeps (calls c (record { callee = callee; held = held; gid = held_gid c.own.mon_client.holdings }))
    dials-keeps callee held session come g =
        let called : Called = record { callee = callee; held = held; gid = held_gid c.own.mon_client.holdings } in
        state-after (calls c called).state (record {
          own = record {
            mon_client = counted run first us J mon_client (c.own.mon_client.global_seq + 1) r.ok.own.mon_client;
            holds = r.ok.own.holds;
            dials = all-append (DialOk run us n) (filter (λ (dial : Dial). not (is_for callee.daemon dial)) c.own.dials) (ForCall called ∷ [])
                (all-filter (DialOk run us n) (λ (dial : Dial). not (is_for callee.daemon dial)) c.own.dials r.ok.own.dials) ((session, come), tt);
            sessions = r.ok.own.sessions;
          };
          links = r.ok.links;
        })

    -- Send
    session-come : (daemon : Name) (session : HeldSession) → session_with daemon c.own.sessions ≡ Some session → IncomingLinksCome run
    session-come daemon session is =
        found_all (λ (s : HeldSession). IncomingLinksCome run) (λ (s : HeldSession). same_name s.daemon daemon) c.own.sessions session r.ok.own.sessions is

    abbrev pushed_node : HeldSession → Operation → WholeClientNode
    pushed_node session operation = having_session c (record session { queue = pushed session.queue operation })

    having-own : (session : HeldSession) → IncomingLinksCome run → OwnOk run first n us J (having_session c session).own
    having-own session come = record {
      mon_client = r.ok.own.mon_client;
      holds = r.ok.own.holds;
      dials = r.ok.own.dials;
      sessions = put-all (λ (s : HeldSession). IncomingLinksCome run) session c.own.sessions come r.ok.own.sessions;
    }

    sends_later-keeps : (session : HeldSession) (operation : Operation) (seq : ℕ) → IncomingLinksCome run → Keeps (sent_in c reading draw session operation seq None)
    sends_later-keeps session operation seq come g =
        entry-after (pushed_node session operation) (sent_entry c.own session seq operation) (lawful-sent run c.own session seq operation come)
        (record { own = having-own (record session { queue = pushed session.queue operation }) come; links = r.ok.links })

    abbrev Called_ : Link ClientStage × (Secured × (Callee × ℕ)) → Type 0
    Called_ f = HasConnection us n f.1.0.keys.key

    found-call : (daemon : Name) (links : List (Link ClientStage)) → LinksOk Says us links → IfSome (first_call daemon links) Called_
    found-call daemon [] all = tt
    found-call daemon (l ∷ links) all = by_kind l.stage all.0 (first_call daemon links) (found-call daemon links all.1)
      where
        by_name : (same : Bool) (s : Secured) (callee : Callee) (cookie : ℕ) → HasConnection us n s.keys.key → (behind : Option (Link ClientStage × (Secured × (Callee × ℕ))))
            → IfSome behind Called_ → IfSome (call_or l (if same then Some (s, (callee, cookie)) else None) behind) Called_
        by_name true s callee cookie has behind rest = has
        by_name false s callee cookie has behind rest = rest

        by_stage : (stage : CallStage) → CallKeys us n stage → (behind : Option (Link ClientStage × (Secured × (Callee × ℕ)))) → IfSome behind Called_
            → IfSome (call_or l (call_open daemon (ToDaemon stage)) behind) Called_
        by_stage (call.AwaitsBanner called) st behind rest = rest
        by_stage (call.AwaitsHello called) st behind rest = rest
        by_stage (call.AwaitsChallenge callee p) st behind rest = rest
        by_stage (call.AwaitsDone callee answered) st behind rest = rest
        by_stage (call.AwaitsSignature s callee) st behind rest = rest
        by_stage (call.AwaitsIdent s callee cookie) st behind rest = rest
        by_stage (call.AwaitsReconnect s callee cookie) st behind rest = rest
        by_stage (call.Open s callee cookie) st behind rest = by_name (same_name callee.daemon daemon) s callee cookie st behind rest

        by_kind : (stage : ClientStage) → ClientStageOk run us n stage → (behind : Option (Link ClientStage × (Secured × (Callee × ℕ)))) → IfSome behind Called_
            → IfSome (call_or l (call_open daemon stage) behind) Called_
        by_kind (ToMonitor stage) st behind rest = rest
        by_kind (ToDaemon stage) st behind rest = by_stage stage st.0 behind rest

    abbrev sent_row : HeldSession → Operation → ℕ → Link ClientStage → Secured → Callee → ℕ → Result SealedFrame BytesFault → Row WholeClient ClientStage
    sent_row session operation seq link s callee cookie made =
        let m : WholeClientNode = pushed_node session operation in
        entered_before (sent_entry c.own session seq operation)
        (secure_sent (arrival (me m.own) m.own link reading draw) s (λ behind. ToDaemon (call.Open behind callee cookie)) [] made)

    keyed : (key other : List ℕ) → other ≡ key → HasConnection us n key → HasConnection us n other
    keyed key other same h = subst (λ (k : List ℕ). HasConnection us n k) (sym same) h

    sends_there-keeps : (session : HeldSession) (operation : Operation) (seq : ℕ) (link : Link ClientStage) (s : Secured) (callee : Callee) (cookie : ℕ) → IncomingLinksCome run
        → HasConnection us n s.keys.key → Keeps (sent_in c reading draw session operation seq (Some (link, (s, (callee, cookie)))))
    sends_there-keeps session operation seq link s callee cookie come has g =
        carried Says run whole n line us log J (pushed_node session operation) link.number false
        (sent_row session operation seq link s callee cookie (secure_frame s.keys (operation_message (seq, operation)))) r.ok.links
        (by_sent (secure_frame s.keys (operation_message (seq, operation))) (frame-ok us J n s.keys (operation_message (seq, operation)) (seals-own us n s.keys has)))
      where
        by_sent : (made : Result SealedFrame BytesFault) → FrameOk us J n s.keys made → AfterRow Says run whole n line us log J (sent_row session operation seq link s callee cookie made)
        by_sent (Ok sealed) h =
            row-after (sent_row session operation seq link s callee cookie (Ok sealed)) h.0 (lawful-sent run c.own session seq operation come, tt)
            (having-own (record session { queue = pushed session.queue operation }) come) (keyed s.keys.key sealed.keys.key h.1.key has, come)
        by_sent (Err why) h =
            row-after (sent_row session operation seq link s callee cookie (Err why)) tt
            (lawful-sent run c.own session seq operation come, (lawful-refused run (me c.own) link.number (reason.Bytes why) tt, tt))
            (having-own (record session { queue = pushed session.queue operation }) come) tt

    restarts-keeps : Keeps (restarted c)
    restarts-keeps g = entry-after (restarted c).state (journal.Restarted (me c.own)) (record { none = tt; law = λ K. login-law run K (journal.Restarted (me c.own)) tt tt }) (record {
      own = record {
        mon_client = record {
          known = record { trusted = r.ok.own.mon_client.known.trusted; own = r.ok.own.mon_client.known.own; fetched = none-fetched run us mon_client.name.kind };
          quiet = r.ok.own.mon_client.quiet;
          count = r.ok.own.mon_client.count;
        };
        holds = record { auth = tt; mds = tt; osd = tt; mgr = tt };
        dials = tt;
        sessions = tt;
      };
      links = tt;
    })

    -- ---- any event

    each-keeps : EachOutcome c reading draw input Keeps
    each-keeps = record {
      idle = λ g. idle Says run whole n line us log J c r.inv r.ok;
      comes = λ number link bytes is. fed-after link bytes (found-ok number link is);
      asks = λ number link stage is of. asks-keeps link stage (staged link (ToMonitor stage) of (found-ok number link is));
      presents = λ number link stage is of. presents-keeps link stage (staged link (ToDaemon stage) of (found-ok number link is));
      refuses = λ why told g. refused-after c 0 why told r.ok;
      begins = λ number to dial is. begins-keeps number to dial (found_all (DialOk run us n) (dial_of to) c.own.dials dial r.ok.own.dials is);
      reaches_none = λ to g. refused-after (undialled c to) 0 reason.NoLink tt (record { own = undialled-own to; links = r.ok.links });
      goes = λ number link is. goes-keeps link;
      logs = λ services. logs-keeps services;
      renews_there = λ services link s requests is.
          let h = subst (λ (o : Option (Link ClientStage × (Secured × Requests))). IfSome o Asks_) is (found-open c.links r.ok.links) in renews-keeps services link s requests h.0 h.1;
      dials = λ daemon lossy held is of.
          dials-keeps (record { daemon = daemon; lossy = lossy }) held
          (held-session (record { daemon = daemon; lossy = lossy }) (ticket_for daemon.kind c.own.mon_client.holdings) held of (found-ticket us n c.own.mon_client.holdings daemon.kind r.ok.own.holds)) (calls-come daemon lossy is);
      sends_later = λ daemon session operation seq of. sends_later-keeps session operation seq (session-come daemon session of);
      sends_there = λ daemon session operation seq link s callee cookie of is.
          sends_there-keeps session operation seq link s callee cookie (session-come daemon session of)
          (subst (λ (o : Option (Link ClientStage × (Secured × (Callee × ℕ)))). IfSome o Called_) is (found-call session.daemon c.links r.ok.links));
      restarts = restarts-keeps;
    }

    pub client-after : AreGranted run.leaked whole n line log (whole_client_rule c input reading draw).out.seals → AfterStep Says run whole n line us log J (whole_client_rule c input reading draw)
    client-after g = step-keeps c reading draw Keeps input each-keeps g
