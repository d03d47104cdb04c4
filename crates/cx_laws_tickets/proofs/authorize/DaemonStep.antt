-- A step of a daemon, at any event and with any book: what is known of a run's keys stays so, and what it enters keeps its laws.
use Rattle.std.proofs.Common.{◌≡◌, ℕ, Bool, true, false, List, [], ◌∷◌, ◌++◌, length, Option, Some, None, refl, sym, subst}
use Rattle.std.specs.Prelude.{nat_le, not, if◌then◌else◌, IfSome}
use Rattle.std.specs.List.{AllByRecursion}
use Rattle.std.specs.Option.{option_map}
use Rattle.cx_base.specs.Names.{is_daemon_type}
use Rattle.cx_base.specs.declared.nodes.NodeName.{NodeName}
use Rattle.cx_base.specs.declared.nodes.NodeName.TheVariants as node
use Rattle.cx_journal.specs.declared.entries.Entry.{Entry}
use Rattle.cx_journal.specs.declared.entries.Entry.TheVariants as journal
use Rattle.cx_journal.specs.declared.outcomes.Reason.TheVariants as reason
use Rattle.cx_laws_tickets.proofs.authorize.Backing.{AllGood}
use Rattle.cx_laws_tickets.proofs.authorize.DaemonRows.{DaemonHas, DaemonStageOk, IncomingLinksCome, LinkHas, RowAfter, RowHas, StepAfter, TurnHas, daemon_says, kind_says, link-found, links-filtered, links-put, links-without, open-found, row-anywhere, row-carried, stays-idle, turn-carried}
use Rattle.cx_laws_tickets.proofs.authorize.HostingKeys.{KeepsHosted, KeepsTurned, incoming-keeps}
use Rattle.cx_laws_tickets.proofs.authorize.Keys.{KeptKeys, LinkKeys}
use Rattle.cx_laws_tickets.proofs.authorize.Steps.{all-authorize}
use Rattle.cx_laws_tickets.proofs.authorize.Telling.{IsBackedLink, backed-behind, told-laws}
use Rattle.cx_laws_tickets.specs.authorize.Admission.{Authorizes, EntryTold}
use Rattle.cx_laws_tickets.specs.authorize.Coming.{IsNoIncoming}
use Rattle.cx_laws_keys.proofs.login.MonClientRows.{mon_client_says, request-sends}
use Rattle.cx_laws_keys.proofs.login.MonClientTurns as mon_client_turns
use Rattle.cx_laws_keys.proofs.login.Facts.{MonClientKnown, MonClientOk, MonClientStageOk, HasMonitorKey, mon_client-entered, known-grows, none-fetched}
use Rattle.cx_laws_keys.proofs.login.Rows.{AfterRow, IsQuietEntry, LinkOk, Saying, TurnOk, after-quiet, after-simple, none-given, reached-allowed, simple-goes_on, simple-refuses}
use Rattle.cx_laws_keys.proofs.keys.Journal.{After, EntryLaw, IsNotIssued, entered, login-law, own-other}
use Rattle.cx_laws_keys.proofs.keys.Known.{Inv, IsOfKind}
use Rattle.cx_laws_keys.proofs.keys.Premises.{AreGranted, behind}
use Rattle.cx_laws_keys.proofs.keys.Steps.{inv-entered}
use Rattle.cx_laws_keys.proofs.keys.Uses.{Uses, WholeRun, stays}
use Rattle.cx_laws_keys.specs.cx_rules.specs.Acceptor.{AwaitsBanner, AwaitsHello, AwaitsRequest, AwaitsProof, AwaitsSignature, AwaitsIdent, Open}
use Rattle.cx_laws_keys.specs.cx_rules.specs.Connector as connector
use Rattle.cx_laws_keys.specs.cx_rules.specs.Connector.{MonClientArrival}
use Rattle.cx_laws_keys.specs.cx_rules.specs.Greetings.{own_banner}
use Rattle.cx_laws_keys.specs.cx_rules.specs.Holdings.{MonClient}
use Rattle.cx_laws_keys.specs.cx_rules.specs.Inputs.{Input, Opened, NoLink, Bytes, Turn, Gone, Look, Tick, Submit, Restart}
use Rattle.cx_laws_keys.specs.cx_rules.specs.Links.{Link, link_of}
use Rattle.cx_laws_keys.specs.cx_rules.specs.Requests.{Requests, asks_rotating, first_open, is_outdated}
use Rattle.cx_laws_keys.specs.cx_rules.specs.Rows.{Arrival, Outcome, Row, Turned, Waits, Refuses, Handles, arrival, carried_out, fed, forgotten, goes_on, idles, lifted, new_link, refused_entry, refuses, refuses_bytes, turns}
use Rattle.cx_laws_keys.specs.cx_rules.specs.Secured.{Secured}
use Rattle.cx_laws_keys.specs.cx_rules.specs.declared.requests.Want.TheVariants as want
use Rattle.cx_laws_keys.specs.cx_steps.specs.declared.events.Command.{Command}
use Rattle.cx_laws_keys.specs.cx_steps.specs.declared.events.Command.TheVariants as command
use Rattle.cx_laws_keys.specs.cx_steps.specs.declared.events.Peer.{Peer}
use Rattle.cx_laws_keys.specs.cx_steps.specs.declared.events.Peer.TheVariants as peer
use Rattle.cx_laws_keys.specs.cx_steps.specs.declared.seals.Logged.{Logged}
use Rattle.cx_laws_keys.specs.cx_wire.specs.declared.bodies.Request.TheVariants as asked
use Rattle.cx_run.proofs.Always.{Always, always-book, always-both, always-map, always-weaker}
use Rattle.cx_run.proofs.IncomingTakes.{StaysIncoming, TakesHosted, incoming-takes}
use Rattle.cx_run.proofs.Taking.{EachRow}
use Rattle.cx_run.specs.Visits.{IsNoLook}
use Rattle.cx_run.specs.cx_desk.specs.Handlers.{Handlers}
use Rattle.cx_run.specs.cx_rules_session.specs.Asks.{Finished, Asking}
use Rattle.cx_run.specs.cx_rules_session.specs.DaemonRule.{AsAcceptor, AsConnector, Daemon, DaemonNode, DaemonStage, DaemonState, asking_open, book_after, book_reply, daemon_rule, daemon_step, ended_entry, fetches, fetches_on, gone, gone_by_kind, incoming_gone, hosts, is_fetching, is_in, is_older, loses, lossy_gone, me, moved_to, on_dropped, open_to_ask, opens, restarted, opens_incoming, opens_own, shut_where, submits, ticks, turn, turned_at, undialled, unreached, with_mon_client}
use Rattle.cx_run.specs.cx_rules_session.specs.IncomingLinks.{IncomingRow, IncomingStage}
use Rattle.cx_run.specs.cx_rules_session.specs.Hosting.{Deciding, Hosted, incoming_turned}
use Rattle.cx_run.specs.cx_rules_session.specs.Kinds.{arrival_in, of_kind, row_of_kind, turn_of_kind}
use Rattle.cx_session.specs.declared.call.BookCall.TheVariants.{End}
use Rattle.cx_session.specs.declared.call.BookReply.{BookReply}
use Rattle.cx_session.specs.declared.call.BookReply.TheVariants as reply

-- ---- entries that issue nothing, under their laws

module _ (run : WholeRun) (whole : List Logged) where
  entered-inv : (us : Uses) (log : List Logged) (J js : List Entry) → AllByRecursion IsNotIssued js → Inv run whole us log J → Inv run whole us log (entered J js)
  entered-inv us log J [] none i = i
  entered-inv us log J (e ∷ js) none i = entered-inv us log (J ++ e ∷ []) js none.1 (inv-entered run whole us log J e i (own-other J e none.0 i.own))

entered-mon_client : (run : WholeRun) (first : List Entry) (us : Uses) (J js : List Entry) (mon_client : MonClient) → AllByRecursion IsNotIssued js → MonClientOk run first us J mon_client
    → MonClientOk run first us (entered J js) mon_client
entered-mon_client run first us J [] mon_client none ok = ok
entered-mon_client run first us J (e ∷ js) mon_client none ok = entered-mon_client run first us (J ++ e ∷ []) js mon_client none.1 (mon_client-entered run first us J mon_client e none.0 ok)

-- ---- a step

module _ (run : WholeRun) (whole : List Logged) (n : NodeName) (line : ℕ) (us : Uses) (log : List Logged) (J : List Entry) (d : DaemonState) (input : Input) (reading : ℕ) where
  abbrev Says : Saying Daemon DaemonStage
  Says = daemon_says run J n

  -- what is known of the daemon before the step
  pub record IsReady : Type 0 where
    pub inv : Inv run whole us log J
    pub ok : DaemonHas run J n d.node us J
    pub here : n ≡ node.Entity d.node.own.mon_client.name
    pub of : is_daemon_type d.node.own.mon_client.name.kind ≡ true
    pub backed : run.good ≡ true → AllByRecursion (IsBackedLink J d.node.own.mon_client.name.kind) d.node.links
    pub good : AllGood run J
    pub comes : run.incoming_links ≡ false → IsNoIncoming input
    pub looks : IsNoLook input

  -- where what a step logs is granted, and it authorizes as each does, all stays known
  abbrev Keeps : Outcome DaemonNode → Type 0
  Keeps o = AreGranted run.leaked whole n line log o.out.seals → Authorizes d input reading o.out.entries o.out.seals o.state.links
      → StepAfter run J n whole line us log J o

  module _ (r : IsReady) where
    abbrev mon_client : MonClient
    mon_client = d.node.own.mon_client

    own-kind : IsOfKind n d.node.own.mon_client.name.kind
    own-kind = subst (λ (m : NodeName). IsOfKind m d.node.own.mon_client.name.kind) (sym r.here) refl

    -- ---- a turn of an incoming link

    module _ (draw : List ℕ) (drawn : length draw ≡ 384) (link : Link DaemonStage) (stage : IncomingStage) (st : DaemonStageOk run us n link.number (AsAcceptor stage)) where
      abbrev at_link : Arrival Daemon DaemonStage
      at_link = arrival (me d.node.own) d.node.own link reading draw

      abbrev incoming : Arrival MonClient IncomingStage
      incoming = arrival_in at_link mon_client stage

      abbrev Hosts_ : Hosted → Type 0
      Hosts_ hosted = Keeps (hosts d.node at_link hosted)

      -- older links of a session are shut
      shut-keeps : (is_shut : Link DaemonStage → Bool) (o : Outcome DaemonNode) → StepAfter run J n whole line us log J o → StepAfter run J n whole line us log J (shut_where is_shut o)
      shut-keeps is_shut o a = record {
        uses = a.uses;
        grows = a.grows;
        inv = a.inv;
        laws = a.laws;
        good = record { own = a.good.own; links = links-filtered run n a.uses (λ (l : Link DaemonStage). not (is_shut l)) o.state.links a.good.links };
      }

      moved-keeps : (number : ℕ) (moved : Option ℕ) (o : Outcome DaemonNode) → StepAfter run J n whole line us log J o → StepAfter run J n whole line us log J (moved_to number moved o)
      moved-keeps number None o a = a
      moved-keeps number (Some session) o a = shut-keeps (is_older number session) o a

      link-ok : (vs : Uses) (l : Option (Link IncomingStage)) → LinkKeys vs n l → LinkHas run n vs (option_map (of_kind AsAcceptor) l)
      link-ok vs (Some l) h = (h, st.1)
      link-ok vs None h = tt

      row-after : (row : IncomingRow) → KeptKeys run whole n line us log J incoming r.inv r.of own-kind r.ok.own.known.fetched.generated row → StaysIncoming incoming row
          → AllByRecursion (EntryTold d input reading row.entries row.seals) row.entries → AreGranted run.leaked whole n line log row.seals
          → RowAfter run J n whole line us log J (row_of_kind (with_mon_client d.node.own) AsAcceptor row)
      row-after row k stays told g =
          let known : MonClientKnown run k.uses mon_client.name mon_client.secret mon_client.view = known-grows run us k.uses mon_client.name mon_client.secret mon_client.view k.grows r.ok.own.known in
          let own : MonClientOk run J k.uses J mon_client = record { known = known; quiet = r.ok.own.quiet; count = r.ok.own.count } in
          record {
            uses = k.uses;
            grows = k.grows;
            inv = entered-inv run whole k.uses (behind n line row.seals log) J row.entries k.entries k.inv;
            laws = told-laws run whole n line us log J d input reading row.entries row.seals r.inv r.ok.own.known.fetched r.good r.backed st.1 g k.entries told;
            good = record {
              own = entered-mon_client run J k.uses J row.entries row.own k.entries (subst (λ (a : MonClient). MonClientOk run J k.uses J a) (sym stays.0) own);
              link = link-ok k.uses row.link k.link;
            };
          }

      hosted-keeps : (hosted : Hosted) → KeepsHosted run whole n line us log J incoming r.inv r.of own-kind r.ok.own.known.fetched.generated drawn hosted → TakesHosted incoming hosted → Hosts_ hosted
      hosted-keeps hosted k takes = by_turned hosted.turned k takes.stays
        where
          by_turned : (turned : Turned MonClient IncomingStage) → KeepsTurned run whole n line us log J incoming r.inv r.of own-kind r.ok.own.known.fetched.generated drawn turned → EachRow (StaysIncoming incoming) turned
              → Keeps (moved_to link.number hosted.moved (turns d.node at_link (turn_of_kind (with_mon_client d.node.own) AsAcceptor turned)))
          by_turned Waits k stays g au =
              moved-keeps link.number hosted.moved (turns d.node at_link Waits) (stays-idle run J n whole line us log J d.node r.inv r.ok)
          by_turned (Refuses why opened) k stays g au =
              moved-keeps link.number hosted.moved (turns d.node at_link (Refuses why opened))
              (row-carried run J n whole line us log J d.node link.number false (refuses_bytes at_link why opened) r.ok.links
              (after-quiet run whole n line us log J opened (refused_entry (me d.node.own) link.number (reason.Bytes why) ∷ []) (λ vs. Unit {0})
              (RowHas run J n (refuses_bytes at_link why opened)) (λ vs K e other h. record { own = mon_client-entered run J vs K mon_client e other h.own; link = tt }) ((tt, tt), tt)
              (reached-allowed run whole n line us log J opened (λ vs. Unit {0}) r.inv k tt) (record { own = r.ok.own; link = tt })))
          by_turned (Handles row) k stays g au =
              moved-keeps link.number hosted.moved (turns d.node at_link (turn_of_kind (with_mon_client d.node.own) AsAcceptor (Handles row)))
              (row-carried run J n whole line us log J d.node link.number true (row_of_kind (with_mon_client d.node.own) AsAcceptor row) r.ok.links
              (row-after row (k (granted-of hosted.moved row g)) stays (told-of hosted.moved row au) (granted-of hosted.moved row g)))
            where
              granted-of : (moved : Option ℕ) (row : IncomingRow)
                  → AreGranted run.leaked whole n line log (moved_to link.number moved (turns d.node at_link (turn_of_kind (with_mon_client d.node.own) AsAcceptor (Handles row)))).out.seals
                  → AreGranted run.leaked whole n line log row.seals
              granted-of None row g = g
              granted-of (Some session) row g = g

              told-of : (moved : Option ℕ) (row : IncomingRow) →
                  let o = moved_to link.number moved (turns d.node at_link (turn_of_kind (with_mon_client d.node.own) AsAcceptor (Handles row))) in
                  Authorizes d input reading o.out.entries o.out.seals o.state.links → AllByRecursion (EntryTold d input reading row.entries row.seals) row.entries
              told-of None row au = au.told
              told-of (Some session) row au = au.told

      incoming-turn : (handlers : Handlers) → Always Keeps (turned_at handlers d.node at_link (AsAcceptor stage))
      incoming-turn handlers =
          let rule : Deciding Hosted = incoming_turned handlers incoming stage in
          let KeepsIt : Hosted → Type 0 = KeepsHosted run whole n line us log J incoming r.inv r.of own-kind r.ok.own.known.fetched.generated drawn in
          always-map Keeps (hosts d.node at_link) rule
          (always-weaker (λ (h : Hosted). KeepsHosted run whole n line us log J incoming r.inv r.of own-kind r.ok.own.known.fetched.generated drawn h × TakesHosted incoming h)
          (λ (h : Hosted). Keeps (hosts d.node at_link h)) (λ h both. hosted-keeps h both.0 both.1) rule
          (always-both (KeepsHosted run whole n line us log J incoming r.inv r.of own-kind r.ok.own.known.fetched.generated drawn) (TakesHosted incoming) rule
          (incoming-keeps run whole n line us log J incoming r.inv r.of own-kind r.ok.own.known.fetched.generated drawn handlers stage st.0) (incoming-takes handlers incoming stage)))

    -- ---- a turn of its own link

    lifted-after : (row : Row MonClient connector.Stage) → AfterRow (mon_client_says run J n) run whole n line us log J row
        → RowAfter run J n whole line us log J (row_of_kind (with_mon_client d.node.own) AsConnector row)
    lifted-after row h =
        record { uses = h.uses; grows = h.grows; inv = h.inv; laws = h.laws; good = record { own = h.good.own; link = link h.uses row.link h.good.link } }
      where
        link : (vs : Uses) (l : Option (Link connector.Stage)) → LinkOk (mon_client_says run J n) vs l → LinkHas run n vs (option_map (of_kind AsConnector) l)
        link vs (Some l) st = st
        link vs None st = tt

    lifted-turn : (a : MonClientArrival) (turned : Turned MonClient connector.Stage) → TurnOk (mon_client_says run J n) run whole n line us log J a turned
        → TurnHas run J n whole line us log J (turn_of_kind (with_mon_client d.node.own) AsConnector turned)
    lifted-turn a Waits t = tt
    lifted-turn a (Refuses why opened) t = t
    lifted-turn a (Handles row) t = λ g. lifted-after row (t g)

    own-turn : (draw : List ℕ) (link : Link DaemonStage) (stage : connector.Stage) → MonClientStageOk us n stage →
        let b = arrival (me d.node.own) d.node.own link reading draw in
        Keeps (turns d.node b (turn_of_kind (with_mon_client d.node.own) AsConnector (connector.turned_at (arrival_in b mon_client stage) stage)))
    own-turn draw link stage st g au =
        let b : Arrival Daemon DaemonStage = arrival (me d.node.own) d.node.own link reading draw in
        let a : MonClientArrival = arrival_in b mon_client stage in
        turn-carried run J n whole line us log J d.node b (turn_of_kind (with_mon_client d.node.own) AsConnector (connector.turned_at a stage)) r.inv r.ok r.ok.own
        (lifted-turn a (connector.turned_at a stage) (mon_client_turns.turn-ok run whole n line us log J J a stage r.inv r.ok.own r.here st)) g

    turn-keeps : (handlers : Handlers) (draw : List ℕ) → length draw ≡ 384 → (found : Option (Link DaemonStage)) → LinkHas run n us found → Always Keeps (turn handlers d.node reading draw found)
    turn-keeps handlers draw drawn None st = λ g au. stays-idle run J n whole line us log J d.node r.inv r.ok
    turn-keeps handlers draw drawn (Some link) st = by_stage link.stage st
      where
        by_stage : (stage : DaemonStage) → DaemonStageOk run us n link.number stage → Always Keeps (turned_at handlers d.node (arrival (me d.node.own) d.node.own link reading draw) stage)
        by_stage (AsAcceptor stage) st = incoming-turn draw drawn link stage st handlers
        by_stage (AsConnector stage) st = own-turn draw link stage st

    -- ---- the other events

    idle-keeps : Keeps (idles d.node)
    idle-keeps g au = stays-idle run J n whole line us log J d.node r.inv r.ok

    -- one entry, where nothing is logged
    entry-keeps : (node_behind : DaemonNode) (e : Entry) → IsNotIssued e → EntryLaw run J e → DaemonHas run J n node_behind us J
        → After run whole n line us log J [] (e ∷ []) (DaemonHas run J n node_behind)
    entry-keeps m e none law ok = record {
      uses = us;
      grows = stays us;
      inv = inv-entered run whole us log J e r.inv (own-other J e none r.inv.own);
      laws = (law, tt);
      good = record { own = mon_client-entered run J us J m.own.mon_client e none ok.own; links = ok.links };
    }

    quiet-keeps : (node_behind : DaemonNode) (e : Entry) → IsQuietEntry e → DaemonHas run J n node_behind us J → After run whole n line us log J [] (e ∷ []) (DaemonHas run J n node_behind)
    quiet-keeps m e q ok = entry-keeps m e q.1 (login-law run J e q.0 (none-given J e q.1)) ok

    forgotten-ok : (number : ℕ) → DaemonHas run J n (forgotten d.node number) us J
    forgotten-ok number = record { own = r.ok.own; links = links-without run n us number d.node.links r.ok.links }

    forgotten-keeps : (number : ℕ) → Keeps (idles (forgotten d.node number))
    forgotten-keeps number g au = stays-idle run J n whole line us log J (forgotten d.node number) r.inv (forgotten-ok number)

    -- a session has ended, where clients come
    ended-law : (session : ℕ) → IncomingLinksCome run → EntryLaw run J (ended_entry d.node session)
    ended-law session come = record { login = λ none. absurd (come none); told = λ known. record { backed = tt; keeps_keys = tt; keeps_expiry = tt }; gid_once = tt }

    incoming-opens : (draw : List ℕ) (number : ℕ) → IncomingLinksCome run → Keeps (opens_incoming d.node reading draw number)
    incoming-opens draw number come g au = by_test (nat_le 1024 (length d.node.links))
      where
        a : Arrival Daemon DaemonStage
        a = arrival (me d.node.own) d.node.own (new_link number (AsAcceptor AwaitsBanner)) reading draw

        by_row : (row : Row Daemon DaemonStage) → RowAfter run J n whole line us log J row → StepAfter run J n whole line us log J (carried_out d.node number false row)
        by_row row h = row-carried run J n whole line us log J d.node number false row r.ok.links h

        by_test : (full : Bool) → StepAfter run J n whole line us log J (carried_out d.node number false
            (if full then refuses (arrival (me d.node.own) d.node.own (new_link number (AsAcceptor AwaitsBanner)) reading draw) reason.LinksFull []
            else goes_on (arrival (me d.node.own) d.node.own (new_link number (AsAcceptor AwaitsBanner)) reading draw) (AsAcceptor AwaitsBanner) own_banner []))
        by_test true =
            let b : Arrival Daemon DaemonStage = arrival (me d.node.own) d.node.own (new_link number (AsAcceptor AwaitsBanner)) reading draw in
            by_row (refuses b reason.LinksFull []) (row-anywhere run J n whole line us log J (refuses b reason.LinksFull [])
            (after-simple Says run whole n line us log J (refuses b reason.LinksFull []) r.inv (simple-refuses Says us J n b reason.LinksFull [] tt r.ok.own tt)))
        by_test false =
            let b : Arrival Daemon DaemonStage = arrival (me d.node.own) d.node.own (new_link number (AsAcceptor AwaitsBanner)) reading draw in
            by_row (goes_on b (AsAcceptor AwaitsBanner) own_banner []) (row-anywhere run J n whole line us log J (goes_on b (AsAcceptor AwaitsBanner) own_banner [])
            (after-simple Says run whole n line us log J (goes_on b (AsAcceptor AwaitsBanner) own_banner []) r.inv
            (simple-goes_on Says us J n b (AsAcceptor AwaitsBanner) own_banner [] r.ok.own (λ at. (tt, come)) tt)))

    undialled-ok : DaemonHas run J n (undialled d.node) us J
    undialled-ok = record { own = r.ok.own; links = r.ok.links }

    opens-keeps : (draw : List ℕ) (number : ℕ) (to : Option Peer) → (run.incoming_links ≡ false → IsNoIncoming (Opened number to)) → Keeps (opens d.node reading draw number to)
    opens-keeps draw number None comes = incoming-opens draw number comes
    opens-keeps draw number (Some peer.Monitor) comes = by_test d.node.own.dials
      where
        by_test : (dials : Bool) → Keeps (if dials then opens_own (undialled d.node) reading draw number else idles d.node)
        by_test true g au =
            let stage : DaemonStage = AsConnector (connector.AwaitsBanner 0) in
            let b : Arrival Daemon DaemonStage = arrival (me d.node.own) (undialled d.node).own (new_link number stage) reading draw in
            row-carried run J n whole line us log J (undialled d.node) number false (goes_on b stage own_banner []) r.ok.links
            (row-anywhere run J n whole line us log J (goes_on b stage own_banner [])
            (after-simple Says run whole n line us log J (goes_on b stage own_banner []) r.inv (simple-goes_on Says us J n b stage own_banner [] r.ok.own (λ at. tt) tt)))
        by_test false g au = idle-keeps g au
    opens-keeps draw number (Some (peer.Daemon daemon)) comes = idle-keeps

    unreached-keeps : (to : Peer) → Keeps (unreached d.node to)
    unreached-keeps peer.Monitor g au = quiet-keeps (undialled d.node) (refused_entry (me d.node.own) 0 reason.NoLink) (tt, tt) undialled-ok
    unreached-keeps (peer.Daemon daemon) g au = quiet-keeps d.node (refused_entry (me d.node.own) 0 reason.NoLink) (tt, tt) r.ok

    fed-keeps : (bytes : List ℕ) (found : Option (Link DaemonStage)) → LinkHas run n us found → Keeps (fed d.node bytes found)
    fed-keeps bytes None st g au = idle-keeps g au
    fed-keeps bytes (Some link) st g au = record {
      uses = us;
      grows = stays us;
      inv = r.inv;
      laws = tt;
      good = record { own = r.ok.own; links = links-put run n us (record link { received = link.received ++ bytes }) d.node.links r.ok.links st };
    }

    lossy-keeps : (number session : ℕ) → IncomingLinksCome run → (answer : BookReply) → Always Keeps (lossy_gone d.node number session answer)
    lossy-keeps number session come (reply.Ended true) = λ g au. entry-keeps (forgotten d.node number) (ended_entry d.node session) tt (ended-law session come) (forgotten-ok number)
    lossy-keeps number session come (reply.Ended false) = forgotten-keeps number
    lossy-keeps number session come (reply.Admitted k epoch) = idle-keeps
    lossy-keeps number session come (reply.Resumed k epoch last lossy) = idle-keeps
    lossy-keeps number session come reply.Fine = idle-keeps
    lossy-keeps number session come (reply.Refused why) = idle-keeps
    lossy-keeps number session come reply.OutOfMemory = idle-keeps

    incoming-gone : (number : ℕ) (stage : IncomingStage) → IncomingLinksCome run → Always Keeps (incoming_gone d.node number stage)
    incoming-gone number AwaitsBanner come = forgotten-keeps number
    incoming-gone number AwaitsHello come = forgotten-keeps number
    incoming-gone number AwaitsRequest come = forgotten-keeps number
    incoming-gone number (AwaitsProof awaited) come = forgotten-keeps number
    incoming-gone number (AwaitsSignature s owner) come = forgotten-keeps number
    incoming-gone number (AwaitsIdent s owner) come = forgotten-keeps number
    incoming-gone number (Open s served) come = by_test served.lossy
      where
        by_test : (lossy : Bool) → Always Keeps (if lossy then Asking (End served.number) (lossy_gone d.node number served.number) else Finished (idles (forgotten d.node number)))
        by_test true = λ answer. lossy-keeps number served.number come answer
        by_test false = forgotten-keeps number

    loses-keeps : (number : ℕ) (stage : connector.Stage) → Keeps (loses d.node number stage)
    loses-keeps number stage g au = by_test (connector.is_open stage)
      where
        by_test : (is_open : Bool)
            → After run whole n line us log J [] (if is_open then [] else refused_entry (me d.node.own) number reason.Lost ∷ []) (DaemonHas run J n (forgotten d.node number))
        by_test true = stays-idle run J n whole line us log J (forgotten d.node number) r.inv (forgotten-ok number)
        by_test false = quiet-keeps (forgotten d.node number) (refused_entry (me d.node.own) number reason.Lost) (tt, tt) (forgotten-ok number)

    gone-keeps : (found : Option (Link DaemonStage)) → LinkHas run n us found → Always Keeps (gone d.node found)
    gone-keeps None st = idle-keeps
    gone-keeps (Some link) st = by_kind link.stage st
      where
        by_kind : (stage : DaemonStage) → DaemonStageOk run us n link.number stage → Always Keeps (gone_by_kind d.node link.number stage)
        by_kind (AsAcceptor stage) st = incoming-gone link.number stage st.1
        by_kind (AsConnector stage) st = loses-keeps link.number stage

    -- a row of the daemon as one that asks is one of its own
    as-daemon : (row : Row MonClient DaemonStage) → AfterRow (kind_says run J n) run whole n line us log J row → RowAfter run J n whole line us log J (lifted (with_mon_client d.node.own) row)
    as-daemon row h = record { uses = h.uses; grows = h.grows; inv = h.inv; laws = h.laws; good = record { own = h.good.own; link = link h.uses row.link h.good.link } }
      where
        link : (vs : Uses) (l : Option (Link DaemonStage)) → LinkOk (kind_says run J n) vs l → LinkHas run n vs l
        link vs (Some l) st = st l.number
        link vs None st = tt

    fetches-keeps : (draw : List ℕ) → Keeps (fetches d.node reading draw)
    fetches-keeps draw = by_test (is_fetching d.node)
      where
        by_open : (found : Option (Link DaemonStage × (Secured × Requests))) → IfSome found (λ (f : Link DaemonStage × (Secured × Requests)). HasMonitorKey us n f.1.0.keys.key)
            → Keeps (fetches_on d.node reading draw found)
        by_open None has g au = record { uses = us; grows = stays us; inv = r.inv; laws = tt; good = record { own = r.ok.own; links = r.ok.links } }
        by_open (Some (link, (s, requests))) has g au =
            let a : Arrival MonClient DaemonStage = arrival (me d.node.own) mon_client link reading draw in
            let row : Row MonClient DaemonStage = asks_rotating open_to_ask a s requests in
            let simple = request-sends run whole n line us log J J (kind_says run J n) open_to_ask a s requests (want.Rotating reading) asked.Rotating r.ok.own has (λ t k h at. h) in
            row-carried run J n whole line us log J d.node link.number false (lifted (with_mon_client d.node.own) row) r.ok.links
            (as-daemon row (after-simple (kind_says run J n) run whole n line us log J row r.inv simple))

        by_test : (under_way : Bool) → Keeps (if under_way then idles d.node else fetches_on d.node reading draw (first_open asking_open d.node.links))
        by_test true = idle-keeps
        by_test false = by_open (first_open asking_open d.node.links) (open-found run n us d.node.links r.ok.links)

    ticks-keeps : (draw : List ℕ) → Keeps (ticks d.node reading draw)
    ticks-keeps draw = by_test (is_outdated reading mon_client.view)
      where
        by_test : (outdated : Bool) → Keeps (if outdated then fetches d.node reading draw else idles d.node)
        by_test true = fetches-keeps draw
        by_test false = idle-keeps

    dropped-keeps : (session : ℕ) → IncomingLinksCome run → (answer : BookReply) → Always Keeps (on_dropped d.node session answer)
    dropped-keeps session come (reply.Ended true) = λ g au. record {
      uses = us;
      grows = stays us;
      inv = inv-entered run whole us log J (ended_entry d.node session) r.inv (own-other J (ended_entry d.node session) tt r.inv.own);
      laws = (ended-law session come, tt);
      good = record {
        own = mon_client-entered run J us J mon_client (ended_entry d.node session) tt r.ok.own;
        links = links-filtered run n us (λ (l : Link DaemonStage). not (is_in session l.stage)) d.node.links r.ok.links;
      };
    }
    dropped-keeps session come (reply.Ended false) = idle-keeps
    dropped-keeps session come (reply.Admitted k epoch) = idle-keeps
    dropped-keeps session come (reply.Resumed k epoch last lossy) = idle-keeps
    dropped-keeps session come reply.Fine = idle-keeps
    dropped-keeps session come (reply.Refused why) = idle-keeps
    dropped-keeps session come reply.OutOfMemory = idle-keeps

    submits-keeps : (draw : List ℕ) (said : Command) → (run.incoming_links ≡ false → IsNoIncoming (Submit said)) → Always Keeps (submits d.node reading draw said)
    submits-keeps draw command.Fetch comes = fetches-keeps draw
    submits-keeps draw (command.Drop session) comes = λ answer. dropped-keeps session comes answer
    submits-keeps draw (command.Login services) comes = idle-keeps
    submits-keeps draw (command.Renew services) comes = idle-keeps
    submits-keeps draw (command.Connect daemon lossy) comes = idle-keeps
    submits-keeps draw (command.Send daemon operation) comes = idle-keeps

    -- ---- any event

    restarted-keeps : Keeps (restarted d.node)
    restarted-keeps g au = quiet-keeps (restarted d.node).state (journal.Restarted (me d.node.own)) (tt, tt) (record {
      own = record {
        known = record { trusted = r.ok.own.known.trusted; own = r.ok.own.known.own; fetched = none-fetched run us mon_client.name.kind };
        quiet = r.ok.own.quiet;
        count = r.ok.own.count;
      };
      links = tt;
    })

module _ (run : WholeRun) (whole : List Logged) (n : NodeName) (line : ℕ) (us : Uses) (log : List Logged) (J : List Entry) (handlers : Handlers) (d : DaemonState) (reading : ℕ)
    (draw : List ℕ) (drawn : length draw ≡ 384) where
  abbrev Ready : Input → Type 0
  Ready input = IsReady run whole n line us log J d input reading

  rule-keeps : (input : Input) → Ready input → Always (Keeps run whole n line us log J d input reading) (daemon_rule handlers d.node input reading draw)
  rule-keeps (Opened number to) r = opens-keeps run whole n line us log J d (Opened number to) reading r draw number to r.comes
  rule-keeps (NoLink to) r = unreached-keeps run whole n line us log J d (NoLink to) reading r to
  rule-keeps (Bytes number bytes) r =
      fed-keeps run whole n line us log J d (Bytes number bytes) reading r bytes (link_of number d.node.links) (link-found run n us number d.node.links r.ok.links)
  rule-keeps (Turn number) r =
      turn-keeps run whole n line us log J d (Turn number) reading r handlers draw drawn (link_of number d.node.links) (link-found run n us number d.node.links r.ok.links)
  rule-keeps (Gone number) r =
      gone-keeps run whole n line us log J d (Gone number) reading r (link_of number d.node.links) (link-found run n us number d.node.links r.ok.links)
  rule-keeps (Submit said) r = submits-keeps run whole n line us log J d (Submit said) reading r draw said r.comes
  rule-keeps Tick r = ticks-keeps run whole n line us log J d Tick reading r draw
  rule-keeps (Look view) r = absurd r.looks
  rule-keeps Restart r = restarted-keeps run whole n line us log J d Restart reading r

  -- what is known behind a step: of the daemon, and of the authority of each of its links
  pub record AfterDaemon (o : Outcome DaemonState) : Type 0 where
    pub after : After run whole n line us log J o.out.seals o.out.entries (DaemonHas run J n o.state.node)
    pub backed : run.good ≡ true → AllByRecursion (IsBackedLink (entered J o.out.entries) d.node.own.mon_client.name.kind) o.state.node.links

  pub daemon-after : (input : Input) → Ready input → AreGranted run.leaked whole n line log (daemon_step handlers d input reading draw).out.seals
      → AfterDaemon (daemon_step handlers d input reading draw)
  daemon-after input r g =
      let au : Authorizes d input reading (daemon_step handlers d input reading draw).out.entries (daemon_step handlers d input reading draw).out.seals
      (daemon_step handlers d input reading draw).state.node.links = all-authorize handlers d input reading draw in
      record {
        after = always-book (Keeps run whole n line us log J d input reading) book_reply book_after d.book (daemon_rule handlers d.node input reading draw) (rule-keeps input r) g au;
        backed = λ known. backed-behind run whole n line us log J d input reading (daemon_step handlers d input reading draw).out.entries
            (daemon_step handlers d input reading draw).out.seals r.inv r.ok.own.known.fetched (r.good known) (r.backed known) g (daemon_step handlers d input reading draw).state.node.links au.authorized;
      }
