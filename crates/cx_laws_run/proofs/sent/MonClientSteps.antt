-- A turn of a link to the monitor, and a request that is sent on an open one, of a client or a daemon: nothing is sealed that either end of a link to a daemon could have said.
use Rattle.std.proofs.Common.{◌≡◌, ℕ, Bool, true, false, nat_lt, List, [], ◌∷◌, ◌++◌, Option, Some, None, refl, subst}
use Rattle.std.specs.Option.{option_map}
use Rattle.std.specs.Prelude.{filter, if◌then◌else◌}
use Rattle.std.specs.List.{AllByRecursion}
use Rattle.cx_base.specs.Names.{Name}
use Rattle.cx_base.specs.declared.nodes.NodeName.{NodeName}
use Rattle.cx_laws_sessions.specs.cx_rules.specs.Connector.{MonClientArrival, Stage, Open, turned_at}
use Rattle.cx_laws_sessions.specs.cx_rules.specs.Holdings.{MonClient}
use Rattle.cx_laws_sessions.specs.cx_rules.specs.Links.{Link, put_link}
use Rattle.cx_laws_sessions.specs.cx_rules.specs.Requests.{Requests, first_open}
use Rattle.cx_laws_sessions.specs.cx_rules.specs.Rows.{Arrival, Node, Row, Turned, Waits, Refuses, Handles, arrival, carried_out, idles, lifted, links_behind, turns}
use Rattle.cx_laws_sessions.specs.cx_rules.specs.Secured.{Secured}
use Rattle.cx_laws_sessions.specs.cx_rules.specs.declared.requests.Want.TheVariants as want
use Rattle.cx_laws_sessions.specs.cx_rules_session.specs.ClientRule as client
use Rattle.cx_laws_sessions.specs.cx_rules_session.specs.ClientRule.{ClientStage, ToMonitor, WholeClientNode}
use Rattle.cx_laws_sessions.specs.cx_rules_session.specs.DaemonRule as daemon
use Rattle.cx_laws_sessions.specs.cx_rules_session.specs.DaemonRule.{AsAcceptor, AsConnector, DaemonNode, Daemon, DaemonStage, asking_open, fetches, fetches_on, is_fetching}
use Rattle.cx_laws_sessions.specs.cx_rules_session.specs.Kinds.{arrival_in, of_kind, turn_of_kind}
use Rattle.cx_laws_sessions.specs.cx_run.proofs.Outcomes.{mon_client_turn, renewed}
use Rattle.cx_laws_sessions.specs.cx_wire.specs.declared.bodies.Request.TheVariants as asked
use Rattle.cx_laws_run.specs.cx_laws_tickets.proofs.calling.Sessions.{ClientStageOk}
use Rattle.cx_laws_run.specs.cx_laws_keys.proofs.keys.Uses.{Means, Use, Uses, WholeRun}
use Rattle.cx_laws_run.specs.cx_laws_keys.proofs.login.Facts.{MonClientStageOk, HasMonitorKey}
use Rattle.cx_laws_links.specs.cx_laws_keys.proofs.series.Contents.{contents_by}
use Rattle.cx_laws_links.proofs.links.CallTells.{quiet-none}
use Rattle.cx_laws_links.proofs.links.Written.{IsLinkKey}
use Rattle.cx_laws_run.proofs.sent.MonClientSeals.{MonClientSeals, HasKey, SealsOwn, TurnSeals, mon_client-seals, monitor_key-of, request-seals, row-none}

-- what holds of all links holds of the one that was put among them
pub all-put_one : {S : Type 0} (P : Link S → Type 0) (link : Link S) (links : List (Link S)) → AllByRecursion P (put_link link links) → P link
all-put_one {S} P link links all = middle (filter (λ (l : Link S). nat_lt l.number link.number) links) (filter (λ (l : Link S). nat_lt link.number l.number) links) all
  where
    middle : (xs ys : List (Link S)) → AllByRecursion P (xs ++ link ∷ ys) → P link
    middle [] ys h = h.0
    middle (x ∷ xs) ys h = middle xs ys h.1

-- a daemon's own link is known as one that logs in knows it
abbrev pub OwnStands : Uses → NodeName → DaemonStage → Type 0
OwnStands vs n (AsConnector stage) = MonClientStageOk vs n stage
OwnStands vs n (AsAcceptor stage) = Unit {0}

module _ (vs : Uses) (n : NodeName) (one : (k : List ℕ) (u v : Use) → Means vs k u → Means vs k v → u ≡ v) (other : List ℕ) (whose : Name) (tie : ℕ) (is : IsLinkKey vs other whose tie)
    (test : List ℕ → Bool) where
  -- at a node whose links are known, those to the monitor as one that logs in knows them
  module _ {Own S : Type 0} (part : MonClient → Own) (kind : Stage → S) (node : Node Own S) (Stands : S → Type 0) (known : (stage : Stage) → Stands (kind stage) → MonClientStageOk vs n stage) where
    abbrev AllStand : List (Link S) → Type 0
    AllStand links = AllByRecursion (λ (l : Link S). Stands l.stage) links

    pub turn-none : (b : Arrival Own S) (a : MonClientArrival) (stage : Stage) → AllStand (turns node b (turn_of_kind part kind (turned_at a stage))).state.links
        → contents_by other test (turns node b (turn_of_kind part kind (turned_at a stage))).out.seals ≡ []
    turn-none b a stage links = by_turned (turned_at a stage) (mon_client-seals a stage) links
      where
        stands : (l : Option (Link Stage)) (bytes : List ℕ) (link : Link Stage) → l ≡ Some link → AllStand (links_behind node.links b.link.number bytes (option_map (of_kind kind) l))
            → Stands (kind link.stage)
        stands l bytes link goes all =
            let here : Link S = record (of_kind kind link) { sent = link.sent ++ bytes } in
            all-put_one (λ (l : Link S). Stands l.stage) here node.links
            (subst (λ (o : Option (Link Stage)). AllStand (links_behind node.links b.link.number bytes (option_map (of_kind kind) o))) goes all)

        by_turned : (t : Turned MonClient Stage) → TurnSeals MonClientSeals t → AllStand (turns node b (turn_of_kind part kind t)).state.links
            → contents_by other test (turns node b (turn_of_kind part kind t)).out.seals ≡ []
        by_turned Waits h all = refl
        by_turned (Refuses why opened) h all = quiet-none other test opened h
        by_turned (Handles row) h all =
            row-none vs n one other whose tie is test HasKey row h
            (λ link key goes keyed. monitor_key-of vs n link.stage key (known link.stage (stands row.link row.sends link goes all)) keyed)

    -- the key of an open link to the monitor
    abbrev pub HasOpenKey : S → List ℕ → Type 0
    HasOpenKey stage key = (s : Secured) × (requests : Requests) × (stage ≡ kind (Open s requests)) × (s.keys.key ≡ key)

    pub request-none : (number : ℕ) (turned : Bool) (row : Row MonClient S) → SealsOwn HasOpenKey row → AllStand (carried_out node number turned (lifted part row)).state.links
        → contents_by other test row.seals ≡ []
    request-none number turned row h all = row-none vs n one other whose tie is test HasOpenKey row h (λ link key goes keyed. by_stage link key goes keyed)
      where
        by_stage : (link : Link S) (key : List ℕ) → row.link ≡ Some link → HasOpenKey link.stage key → HasMonitorKey vs n key
        by_stage link key goes (s, requests, stage, same) =
            let here : Link S = record link { sent = link.sent ++ row.sends } in
            let stands : Stands link.stage = all-put_one (λ (l : Link S). Stands l.stage) here node.links
            (subst (λ (o : Option (Link S)). AllStand (links_behind node.links number row.sends o)) goes all) in
            subst (λ (k : List ℕ). HasMonitorKey vs n k) same (known (Open s requests) (subst Stands stage stands))

  -- ---- a client

  module _ (run : WholeRun) (c : WholeClientNode) (reading : ℕ) (draw : List ℕ) where
    abbrev ClientStands : List (Link ClientStage) → Type 0
    ClientStands links = AllByRecursion (λ (l : Link ClientStage). ClientStageOk run vs n l.stage) links

    pub asks-none : (link : Link ClientStage) (stage : Stage) → ClientStands (mon_client_turn c reading draw link stage).state.links
        → contents_by other test (mon_client_turn c reading draw link stage).out.seals ≡ []
    asks-none link stage all =
        let b = arrival (client.me c.own) c.own link reading draw in
        turn-none (client.with_mon_client c.own) ToMonitor c (ClientStageOk run vs n) (λ stage h. h.0) b (arrival_in b c.own.mon_client stage) stage all

    pub renewed-none : (services : ℕ) (link : Link ClientStage) (s : Secured) (requests : Requests) → ClientStands (renewed c reading draw services link s requests).state.links
        → contents_by other test (renewed c reading draw services link s requests).out.seals ≡ []
    renewed-none services link s requests all =
        let a : Arrival MonClient ClientStage = arrival (client.me c.own) c.own.mon_client link reading draw in
        request-none (client.with_mon_client c.own) ToMonitor c (ClientStageOk run vs n) (λ stage h. h.0) link.number false _
        (request-seals (HasOpenKey (client.with_mon_client c.own) ToMonitor c (ClientStageOk run vs n) (λ stage h. h.0)) client.open_to_ask (λ t r. (t, r, refl, refl)) a s requests want.Tickets (asked.Tickets services)) all

  -- ---- a daemon

  module _ (d : DaemonNode) (reading : ℕ) (draw : List ℕ) where
    abbrev DaemonStands : List (Link DaemonStage) → Type 0
    DaemonStands links = AllByRecursion (λ (l : Link DaemonStage). OwnStands vs n l.stage) links

    -- its own link to the monitor
    pub own_turn-none : (b : Arrival Daemon DaemonStage) (a : MonClientArrival) (stage : Stage) → DaemonStands (turns d b (turn_of_kind (daemon.with_mon_client d.own) AsConnector (turned_at a stage))).state.links
        → contents_by other test (turns d b (turn_of_kind (daemon.with_mon_client d.own) AsConnector (turned_at a stage))).out.seals ≡ []
    own_turn-none b a stage all = turn-none (daemon.with_mon_client d.own) AsConnector d (OwnStands vs n) (λ stage h. h) b a stage all

    -- generations are asked for
    pub fetches_on-none : (found : Option (Link DaemonStage × (Secured × Requests))) → DaemonStands (fetches_on d reading draw found).state.links
        → contents_by other test (fetches_on d reading draw found).out.seals ≡ []
    fetches_on-none None all = refl
    fetches_on-none (Some (link, (s, requests))) all =
        let a : Arrival MonClient DaemonStage = arrival (daemon.me d.own) d.own.mon_client link reading draw in
        request-none (daemon.with_mon_client d.own) AsConnector d (OwnStands vs n) (λ stage h. h) link.number false _
        (request-seals (HasOpenKey (daemon.with_mon_client d.own) AsConnector d (OwnStands vs n) (λ stage h. h)) daemon.open_to_ask (λ t r. (t, r, refl, refl)) a s requests (want.Rotating reading) asked.Rotating) all

    pub fetches-none : DaemonStands (fetches d reading draw).state.links → contents_by other test (fetches d reading draw).out.seals ≡ []
    fetches-none all = by_test (is_fetching d) all
      where
        by_test : (under_way : Bool) → DaemonStands (if under_way then idles d else fetches_on d reading draw (first_open asking_open d.links)).state.links
            → contents_by other test (if under_way then idles d else fetches_on d reading draw (first_open asking_open d.links)).out.seals ≡ []
        by_test true all = refl
        by_test false all = fetches_on-none (first_open asking_open d.links) all
