-- What each link of its own to the monitor tells of a daemon, behind an event.
use Rattle.std.proofs.Common.{◌≡◌, ◌==◌, ℕ, Bool, true, false, List, [], ◌∷◌, ◌++◌, Option, Some, None, Result, Ok, Err, inl, inr, refl, sym, subst}
use Rattle.std.specs.Option.{option_map}
use Rattle.std.specs.Prelude.{IfSome, not}
use Rattle.std.specs.List.{AllByRecursion}
use Rattle.cx_desk.specs.Handlers.{Handlers}
use Rattle.cx_frame.specs.declared.frame.Frame.{Frame}
use Rattle.cx_journal.specs.declared.outcomes.Reason.{Reason}
use Rattle.cx_journal.specs.declared.outcomes.Reason.TheVariants.{LinksFull}
use Rattle.cx_laws_tickets.specs.cx_laws_keys.proofs.keys.Lists.{all-map, found_all}
use Rattle.cx_laws_tickets.specs.cx_rules_session.specs.DaemonRule.{AsAcceptor, AsConnector, Daemon, DaemonNode, DaemonStage, DaemonState, asking_open, book_after, book_reply, daemon_rule, daemon_step, ended_entry, fetches_on, hosts, is_in, is_older, loses, me, moved_to, open_to_ask, opens_own, shut_where, turned_at, undialled, unreached, with_mon_client}
use Rattle.cx_laws_tickets.specs.cx_rules_session.specs.IncomingLinks.{IncomingStage}
use Rattle.cx_laws_tickets.specs.cx_rules_session.specs.Hosting.{Hosted}
use Rattle.cx_laws_tickets.specs.cx_rules_session.specs.Kinds.{arrival_in, of_kind, row_of_kind, turn_of_kind}
use Rattle.cx_laws_tickets.specs.cx_rules_session.specs.cx_rules.specs.Acceptor.{AwaitsBanner, Open}
use Rattle.cx_laws_tickets.specs.cx_rules_session.specs.cx_rules.specs.Connector as connector
use Rattle.cx_laws_tickets.specs.cx_rules_session.specs.cx_rules.specs.Connector.{MonClientArrival, MonClientRow}
use Rattle.cx_laws_tickets.specs.cx_rules_session.specs.cx_rules.specs.Greetings.{own_banner}
use Rattle.cx_laws_tickets.specs.cx_rules_session.specs.cx_rules.specs.Holdings.{MonClient}
use Rattle.cx_laws_tickets.specs.cx_rules_session.specs.cx_rules.specs.Inputs.{Input}
use Rattle.cx_laws_tickets.specs.cx_rules_session.specs.cx_rules.specs.Links.{Link, link_of, without_link}
use Rattle.cx_laws_tickets.specs.cx_rules_session.specs.cx_rules.specs.Requests.{Requests, behind_request, first_open, sealed_request, sends_request}
use Rattle.cx_laws_tickets.specs.cx_rules_session.specs.cx_rules.specs.Rows.{Outcome, Turned, Waits, Refuses, Handles, arrival, carried_out, fed, forgotten, goes_on, idles, lifted, new_link, refuses, refuses_bytes, turns}
use Rattle.cx_laws_tickets.specs.cx_rules_session.specs.cx_rules.specs.Secured.{SealedFrame, Secured, under}
use Rattle.cx_laws_tickets.specs.cx_rules_session.specs.cx_rules.specs.cx_steps.specs.Nothing.{nothing}
use Rattle.cx_laws_tickets.specs.cx_rules_session.specs.cx_rules.specs.cx_steps.specs.declared.effects.Effects.{Effects}
use Rattle.cx_laws_tickets.specs.cx_rules_session.specs.cx_rules.specs.cx_steps.specs.declared.events.Peer.{Peer}
use Rattle.cx_laws_tickets.specs.cx_rules_session.specs.cx_rules.specs.cx_steps.specs.declared.events.Peer.TheVariants as peer
use Rattle.cx_laws_tickets.specs.cx_rules_session.specs.cx_rules.specs.declared.requests.Want.TheVariants as want
use Rattle.cx_laws_tickets.specs.cx_run.proofs.Always.{always-book, always-unit, always-weaker}
use Rattle.cx_laws_tickets.specs.cx_run.proofs.DaemonOutcomes.{EachOfDaemon, came, ended_with, incoming_rule, rule-keeps}
use Rattle.cx_laws_tickets.specs.cx_run.proofs.Taking.{EachRow}
use Rattle.cx_laws_tickets.proofs.fetch.MonClientFacts.{AskedBehind, Drew, DrewBehind, StageTold, first-told, found-open, kept-is, request-told, row-behind, told-grows, told-map}
use Rattle.cx_laws_tickets.proofs.fetch.MonClientTells.{RowTold, turned-told}
use Rattle.cx_laws_tickets.proofs.fetch.Turns.{behind-row, filtered, left_out, placed}
use Rattle.cx_wire.specs.declared.bodies.Request.TheVariants as asked

-- ---- a link

-- an incoming link tells nothing
abbrev pub DaemonStageTold : (ℕ → ℕ → Frame → Type 0) → (ℕ → Type 0) → ℕ → List ℕ → ℕ → List ℕ → DaemonStage → Type 0
DaemonStageTold D A number received taken sent (AsConnector stage) = StageTold (D number) A received taken sent stage
DaemonStageTold D A number received taken sent (AsAcceptor stage) = Unit {0}

abbrev pub DaemonLinkTold : (ℕ → ℕ → Frame → Type 0) → (ℕ → Type 0) → Link DaemonStage → Type 0
DaemonLinkTold D A l = DaemonStageTold D A l.number l.received l.taken l.sent l.stage

pub daemon-map : (D E : ℕ → ℕ → Frame → Type 0) (A B : ℕ → Type 0) → ((number challenge : ℕ) (f : Frame) → D number challenge f → E number challenge f)
    → ((reading : ℕ) → A reading → B reading) → (l : Link DaemonStage) → DaemonLinkTold D A l → DaemonLinkTold E B l
daemon-map D E A B drew asking l = by_kind l.stage
  where
    by_kind : (stage : DaemonStage) → DaemonStageTold D A l.number l.received l.taken l.sent stage → DaemonStageTold E B l.number l.received l.taken l.sent stage
    by_kind (AsConnector stage) h = told-map (D l.number) (E l.number) A B (drew l.number) asking l.received l.taken l.sent stage h
    by_kind (AsAcceptor stage) h = tt

-- ---- an event

module _ (D : ℕ → ℕ → Frame → Type 0) (A : ℕ → Type 0) (d : DaemonNode) (reading : ℕ) (draw : List ℕ) where
  abbrev B : ℕ → Type 0
  B = AskedBehind A reading

  abbrev Behind : Effects → Link DaemonStage → Type 0
  Behind out l = DaemonLinkTold (DrewBehind D draw out) B l

  abbrev pub DaemonTells : Outcome DaemonNode → Type 0
  DaemonTells o = AllByRecursion (Behind o.out) o.state.links

  stays : (out : Effects) (l : Link DaemonStage) → DaemonLinkTold D A l → Behind out l
  stays out l h = daemon-map D (DrewBehind D draw out) A B (λ number challenge f e. inl e) (λ r e. inl e) l h

  module _ (ok : AllByRecursion (DaemonLinkTold D A) d.links) where
    all-stay : (out : Effects) → AllByRecursion (Behind out) d.links
    all-stay out = all-map (DaemonLinkTold D A) (Behind out) (stays out) d.links ok

    found-stays : (out : Effects) (number : ℕ) (link : Link DaemonStage) → link_of number d.links ≡ Some link → Behind out link
    found-stays out number link is = found_all (Behind out) (λ (l : Link DaemonStage). l.number == number) d.links link (all-stay out) is

    idle-tells : DaemonTells (idles d)
    idle-tells = all-stay nothing

    -- where no link changes, or one is shut
    still-tells : (o : Outcome DaemonNode) → o.state.links ≡ d.links → DaemonTells o
    still-tells o same = subst (λ (links : List (Link DaemonStage)). AllByRecursion (Behind o.out) links) (sym same) (all-stay o.out)

    gone-number : (o : Outcome DaemonNode) (number : ℕ) → o.state.links ≡ without_link number d.links → DaemonTells o
    gone-number o number same = subst (λ (links : List (Link DaemonStage)). AllByRecursion (Behind o.out) links) (sym same) (left_out (Behind o.out) number d.links (all-stay o.out))

    -- ---- a turn of its own link

    module _ (link : Link DaemonStage) (stage : connector.Stage) where
      abbrev own_arrival : MonClientArrival
      own_arrival = arrival_in (arrival (me d.own) d.own link reading draw) d.own.mon_client stage

      abbrev row_out : MonClientRow → Effects
      row_out row = (carried_out d link.number true (row_of_kind (with_mon_client d.own) AsConnector row)).out

      row-tells : (row : MonClientRow) (left : Option (Link connector.Stage))
          → IfSome left (λ (l : Link connector.Stage). (l.number ≡ link.number) × StageTold (Drew (D link.number) draw row.seals row.sends) B l.received l.taken (l.sent ++ row.sends) l.stage)
          → IfSome (option_map (of_kind AsConnector) left) (λ (l : Link DaemonStage). Behind (row_out row) (record l { sent = l.sent ++ row.sends }))
      row-tells row None h = tt
      row-tells row (Some l) h =
          row-behind D B draw link.number (row_out row) row.seals row.sends refl refl l.number h.0 l.received l.taken (l.sent ++ row.sends) l.stage h.1

      own-tells : (t : Turned MonClient connector.Stage) → EachRow (RowTold (D link.number) B own_arrival) t
          → DaemonTells (turns d (arrival (me d.own) d.own link reading draw) (turn_of_kind (with_mon_client d.own) AsConnector t))
      own-tells Waits h = all-stay nothing
      own-tells (Refuses why opened) h = gone-number (carried_out d link.number false (refuses_bytes (arrival (me d.own) d.own link reading draw) why opened)) link.number refl
      own-tells (Handles row) h =
          behind-row (Behind (row_out row)) d.links link.number row.sends (option_map (of_kind AsConnector) row.link) (row-tells row row.link h) (all-stay (row_out row))

    asks-tells : (number : ℕ) (link : Link DaemonStage) (stage : connector.Stage) → link_of number d.links ≡ Some link → link.stage ≡ AsConnector stage
        → DaemonTells (turns d (arrival (me d.own) d.own link reading draw) (turn_of_kind (with_mon_client d.own) AsConnector (connector.turned_at (own_arrival link stage) stage)))
    asks-tells number link stage is of =
        let here : DaemonLinkTold D A link = found_all (DaemonLinkTold D A) (λ (l : Link DaemonStage). l.number == number) d.links link ok is in
        let there : StageTold (D link.number) A link.received link.taken link.sent stage =
        subst (λ (s : DaemonStage). DaemonStageTold D A link.number link.received link.taken link.sent s) of here in
        let told : StageTold (D link.number) B link.received link.taken link.sent stage =
        told-map (D link.number) (D link.number) A B (λ challenge f e. e) (λ r e. inl e) link.received link.taken link.sent stage there in
        own-tells link stage (connector.turned_at (own_arrival link stage) stage) (turned-told (D link.number) B (own_arrival link stage) (inr refl) stage told)

    -- ---- a turn of an incoming link

    -- links that are shut
    shut-tells : (is_shut : Link DaemonStage → Bool) (o : Outcome DaemonNode) → DaemonTells o → DaemonTells (shut_where is_shut o)
    shut-tells is_shut o h = filtered (Behind o.out) (λ (l : Link DaemonStage). not (is_shut l)) o.state.links h

    moved-tells : (number : ℕ) (moved : Option ℕ) (o : Outcome DaemonNode) → DaemonTells o → DaemonTells (moved_to number moved o)
    moved-tells number None o h = h
    moved-tells number (Some session) o h = shut-tells (is_older number session) o h

    incoming-tells : (link : Link DaemonStage) (hosted : Hosted) → DaemonTells (hosts d (arrival (me d.own) d.own link reading draw) hosted)
    incoming-tells link hosted =
        moved-tells link.number hosted.moved (turns d (arrival (me d.own) d.own link reading draw) (turn_of_kind (with_mon_client d.own) AsAcceptor hosted.turned)) (by_turned hosted.turned)
      where
        by_link : (out : Effects) (bytes : List ℕ) (left : Option (Link IncomingStage)) → IfSome (option_map (of_kind AsAcceptor) left) (λ (l : Link DaemonStage). Behind out (record l { sent = l.sent ++ bytes }))
        by_link out bytes None = tt
        by_link out bytes (Some l) = tt

        by_turned : (t : Turned MonClient IncomingStage) → DaemonTells (turns d (arrival (me d.own) d.own link reading draw) (turn_of_kind (with_mon_client d.own) AsAcceptor t))
        by_turned Waits = all-stay nothing
        by_turned (Refuses why opened) = gone-number (carried_out d link.number false (refuses_bytes (arrival (me d.own) d.own link reading draw) why opened)) link.number refl
        by_turned (Handles row) =
            let out : Effects = (carried_out d link.number true (row_of_kind (with_mon_client d.own) AsAcceptor row)).out in
            behind-row (Behind out) d.links link.number row.sends (option_map (of_kind AsAcceptor) row.link) (by_link out row.sends row.link) (all-stay out)

    -- ---- links that open, and bytes

    incoming-opens : (number : ℕ) →
        DaemonTells (carried_out d number false (goes_on (arrival (me d.own) d.own (new_link number (AsAcceptor AwaitsBanner)) reading draw) (AsAcceptor AwaitsBanner) own_banner []))
    incoming-opens number =
        let out : Effects =
        (carried_out d number false (goes_on (arrival (me d.own) d.own (new_link number (AsAcceptor AwaitsBanner)) reading draw) (AsAcceptor AwaitsBanner) own_banner [])).out in
        placed (Behind out) (record { number = number; received = []; taken = 0; sent = [] ++ own_banner; stage = AsAcceptor AwaitsBanner }) d.links tt (all-stay out)

    own-opens : (number : ℕ) → DaemonTells (opens_own (undialled d) reading draw number)
    own-opens number =
        let out : Effects = (opens_own (undialled d) reading draw number).out in
        placed (Behind out) (record { number = number; received = []; taken = 0; sent = [] ++ own_banner; stage = AsConnector (connector.AwaitsBanner 0) }) d.links
        (first-told (DrewBehind D draw out number) B 0) (all-stay out)

    unreached-tells : (to : Peer) → DaemonTells (unreached d to)
    unreached-tells peer.Monitor = still-tells (unreached d peer.Monitor) refl
    unreached-tells (peer.Daemon daemon) = still-tells (unreached d (peer.Daemon daemon)) refl

    fed-tells : (number : ℕ) (link : Link DaemonStage) (bytes : List ℕ) → link_of number d.links ≡ Some link → DaemonTells (fed d bytes (Some link))
    fed-tells number link bytes is =
        placed (Behind nothing) (record link { received = link.received ++ bytes }) d.links (by_kind link.stage (found-stays nothing number link is)) (all-stay nothing)
      where
        by_kind : (stage : DaemonStage) → DaemonStageTold (DrewBehind D draw nothing) B link.number link.received link.taken link.sent stage
            → DaemonStageTold (DrewBehind D draw nothing) B link.number (link.received ++ bytes) link.taken link.sent stage
        by_kind (AsConnector stage) h = told-grows (DrewBehind D draw nothing link.number) B link.received bytes link.taken link.sent stage h
        by_kind (AsAcceptor stage) h = tt

    -- ---- links that are gone

    forgotten-tells : (number : ℕ) → DaemonTells (idles (forgotten d number))
    forgotten-tells number = left_out (Behind nothing) number d.links (all-stay nothing)

    -- ---- fetches

    open-told : (out : Effects) (number : ℕ) (received : List ℕ) (taken : ℕ) (sent : List ℕ) (stage : DaemonStage) (s : Secured) (r : Requests) → asking_open stage ≡ Some (s, r)
        → DaemonStageTold (DrewBehind D draw out) B number received taken sent stage → StageTold (DrewBehind D draw out number) B received taken sent (connector.Open s r)
    open-told out number received taken sent (AsConnector stage) s r is h = subst (λ (k : connector.Stage). StageTold (DrewBehind D draw out number) B received taken sent k) (kept-is stage s r is) h
    open-told out number received taken sent (AsAcceptor stage) s r is h = absurd cc

    made-tells : (link : Link DaemonStage) (s : Secured) (r : Requests) → first_open asking_open d.links ≡ Some (link, (s, r)) → (made : Result SealedFrame Reason)
        → DaemonTells (carried_out d link.number false
        (lifted (with_mon_client d.own) (sends_request open_to_ask (arrival (me d.own) d.own.mon_client link reading draw) s r (want.Rotating reading) made)))
    made-tells link s r is (Ok sealed) =
        let out : Effects = (carried_out d link.number false
        (lifted (with_mon_client d.own) (sends_request open_to_ask (arrival (me d.own) d.own.mon_client link reading draw) s r (want.Rotating reading) (Ok sealed)))).out in
        let found = found-open (Behind out) asking_open d.links link s r is (all-stay out) in
        let open_is : StageTold (DrewBehind D draw out link.number) B link.received link.taken link.sent (connector.Open s r) =
        open-told out link.number link.received link.taken link.sent link.stage s r found.1 found.0 in
        behind-row (Behind out) d.links link.number sealed.bytes (Some (record link { stage = open_to_ask (under s sealed.keys) (behind_request r (want.Rotating reading)) }))
        (request-told (DrewBehind D draw out link.number) B link.received link.taken link.sent sealed.bytes s sealed.keys r (want.Rotating reading) open_is (inr refl)) (all-stay out)
    made-tells link s r is (Err why) = gone-number (carried_out d link.number false
        (lifted (with_mon_client d.own) (sends_request open_to_ask (arrival (me d.own) d.own.mon_client link reading draw) s r (want.Rotating reading) (Err why)))) link.number refl

    -- ---- any event

    each-tells : (handlers : Handlers) (input : Input) → EachOfDaemon handlers d reading draw input DaemonTells
    each-tells handlers input = record {
      idle = idle-tells;
      comes = fed-tells;
      hosting = λ number link stage at is of.
          always-weaker (λ (h : Hosted). Unit {0}) (λ (h : Hosted). DaemonTells (hosts d (came handlers d reading draw link) h)) (λ h any. incoming-tells link h)
          (incoming_rule handlers d reading draw link stage) (always-unit (incoming_rule handlers d reading draw link stage));
      asking = λ number link stage at is of. asks-tells number link stage is of;
      full = λ number.
          gone-number (carried_out d number false (refuses (arrival (me d.own) d.own (new_link number (AsAcceptor AwaitsBanner)) reading draw) LinksFull [])) number refl;
      begins = incoming-opens;
      begins_own = own-opens;
      reaches_none = unreached-tells;
      leaves = forgotten-tells;
      loses_own = λ number stage. gone-number (loses d number stage) number refl;
      ends = λ number session. gone-number (ended_with handlers d reading draw number session) number refl;
      drops_all = λ session.
          let before : Outcome DaemonNode = record { state = d; out = record nothing { entries = ended_entry d session ∷ [] } } in
          shut-tells (λ (l : Link DaemonStage). is_in session l.stage) before (still-tells before refl);
      dials = still-tells (fetches_on d reading draw None) refl;
      fetches_there = λ link s r is. made-tells link s r is (sealed_request s.keys r asked.Rotating);
      shown = λ view is. all-stay nothing;
      restarts = tt;
    }

-- with its book
pub daemon-tells : (D : ℕ → ℕ → Frame → Type 0) (A : ℕ → Type 0) (handlers : Handlers) (d : DaemonState) (input : Input) (reading : ℕ) (draw : List ℕ)
    → AllByRecursion (DaemonLinkTold D A) d.node.links
    → let o = daemon_step handlers d input reading draw in AllByRecursion (DaemonLinkTold (DrewBehind D draw o.out) (AskedBehind A reading)) o.state.node.links
daemon-tells D A handlers d input reading draw ok =
    always-book (DaemonTells D A d.node reading draw) book_reply book_after d.book (daemon_rule handlers d.node input reading draw)
    (rule-keeps handlers d.node reading draw input (DaemonTells D A d.node reading draw) (each-tells D A d.node reading draw ok handlers input))
