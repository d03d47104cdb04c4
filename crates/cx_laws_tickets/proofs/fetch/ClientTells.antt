-- What each link to the monitor tells of a client, behind an event.
use Rattle.std.proofs.Common.{◌≡◌, ◌==◌, ℕ, true, false, List, [], ◌++◌, Option, Some, None, Result, Ok, Err, inl, inr, refl, sym, subst}
use Rattle.std.specs.Option.{option_map}
use Rattle.std.specs.Prelude.{IfSome, not}
use Rattle.std.specs.List.{AllByRecursion}
use Rattle.cx_base.specs.declared.operations.Operation.{Operation}
use Rattle.cx_frame.specs.declared.frame.Frame.{Frame}
use Rattle.cx_journal.specs.declared.faults.BytesFault.{BytesFault}
use Rattle.cx_journal.specs.declared.outcomes.Reason.{Reason}
use Rattle.cx_laws_tickets.specs.cx_rules_session.specs.ClientRule.{ClientStage, ToMonitor, ToDaemon, Dial, ForLogin, ForCall, WholeClientNode, asking_open, caller_to, calls, first_stage, having_session, is_to_monitor, logs_in, loses, me, open_to_ask, opens_dialled, refuses_command, sent_entry, unreached, whole_client_rule, with_mon_client, with_caller}
use Rattle.cx_laws_tickets.specs.cx_rules_session.specs.Kinds.{arrival_in, entered_before, of_kind, row_of_kind, turn_of_kind}
use Rattle.cx_laws_tickets.specs.cx_rules_session.specs.Presenter as call
use Rattle.cx_laws_tickets.specs.cx_rules_session.specs.Presenter.{CallStage, Caller, callee_of}
use Rattle.cx_laws_tickets.specs.cx_rules_session.specs.Sessions.{Callee, HeldSession, held_gid, operation_message}
use Rattle.cx_laws_tickets.specs.cx_rules_session.specs.cx_rules.specs.Connector as connector
use Rattle.cx_laws_tickets.specs.cx_rules_session.specs.cx_rules.specs.Connector.{MonClientArrival, MonClientRow}
use Rattle.cx_laws_tickets.specs.cx_rules_session.specs.cx_rules.specs.Greetings.{own_banner}
use Rattle.cx_laws_tickets.specs.cx_rules_session.specs.cx_rules.specs.Holdings.{MonClient}
use Rattle.cx_laws_tickets.specs.cx_rules_session.specs.cx_rules.specs.Inputs.{Input}
use Rattle.cx_laws_tickets.specs.cx_rules_session.specs.cx_rules.specs.Links.{Link, link_of, without_link}
use Rattle.cx_laws_tickets.specs.cx_rules_session.specs.cx_rules.specs.Requests.{Requests, behind_request, first_open, sealed_request, sends_request}
use Rattle.cx_laws_tickets.specs.cx_rules_session.specs.cx_rules.specs.Rows.{Outcome, Turned, Waits, Refuses, Handles, arrival, carried_out, fed, lifted, refuses_bytes, secure_sent, turns}
use Rattle.cx_laws_tickets.specs.cx_rules_session.specs.cx_rules.specs.Secured.{SealedFrame, Secured, secure_frame, under}
use Rattle.cx_laws_tickets.specs.cx_rules_session.specs.cx_rules.specs.declared.requests.Want.TheVariants.{Tickets}
use Rattle.cx_laws_tickets.specs.cx_rules_session.specs.cx_rules.specs.cx_steps.specs.Nothing.{nothing}
use Rattle.cx_laws_tickets.specs.cx_rules_session.specs.cx_rules.specs.cx_steps.specs.declared.effects.Effects.{Effects}
use Rattle.cx_laws_tickets.specs.cx_rules_session.specs.cx_rules.specs.cx_steps.specs.declared.events.Peer.{Peer}
use Rattle.cx_session.specs.Queue.{pushed}
use Rattle.cx_wire.specs.declared.bodies.Request.TheVariants as asked
use Rattle.cx_laws_tickets.specs.cx_run.proofs.Outcomes.{EachOutcome, mon_client_turn, call_turn, on_link, renewed, sent_in, step-keeps}
use Rattle.cx_laws_tickets.specs.cx_run.proofs.Taking.{EachRow}
use Rattle.cx_laws_tickets.specs.cx_laws_keys.proofs.keys.Lists.{all-map, found_all}
use Rattle.cx_laws_tickets.proofs.fetch.MonClientFacts.{AskedBehind, Drew, DrewBehind, StageTold, first-told, found-open, kept-is, request-told, row-behind, told-grows, told-map}
use Rattle.cx_laws_tickets.proofs.fetch.MonClientTells.{RowTold, turned-told}
use Rattle.cx_laws_tickets.proofs.fetch.Turns.{behind-row, filtered, left_out, placed}

-- ---- a link

-- a link to a daemon tells nothing
abbrev pub ClientStageTold : (ℕ → ℕ → Frame → Type 0) → (ℕ → Type 0) → ℕ → List ℕ → ℕ → List ℕ → ClientStage → Type 0
ClientStageTold D A number received taken sent (ToMonitor stage) = StageTold (D number) A received taken sent stage
ClientStageTold D A number received taken sent (ToDaemon stage) = Unit {0}

abbrev pub ClientLinkTold : (ℕ → ℕ → Frame → Type 0) → (ℕ → Type 0) → Link ClientStage → Type 0
ClientLinkTold D A l = ClientStageTold D A l.number l.received l.taken l.sent l.stage

pub client-map : (D E : ℕ → ℕ → Frame → Type 0) (A B : ℕ → Type 0) → ((number challenge : ℕ) (f : Frame) → D number challenge f → E number challenge f)
    → ((reading : ℕ) → A reading → B reading) → (l : Link ClientStage) → ClientLinkTold D A l → ClientLinkTold E B l
client-map D E A B drew asking l = by_kind l.stage
  where
    by_kind : (stage : ClientStage) → ClientStageTold D A l.number l.received l.taken l.sent stage → ClientStageTold E B l.number l.received l.taken l.sent stage
    by_kind (ToMonitor stage) h = told-map (D l.number) (E l.number) A B (drew l.number) asking l.received l.taken l.sent stage h
    by_kind (ToDaemon stage) h = tt

-- ---- an event

module _ (D : ℕ → ℕ → Frame → Type 0) (A : ℕ → Type 0) (c : WholeClientNode) (reading : ℕ) (draw : List ℕ) where
  abbrev B : ℕ → Type 0
  B = AskedBehind A reading

  abbrev Behind : Effects → Link ClientStage → Type 0
  Behind out l = ClientLinkTold (DrewBehind D draw out) B l

  abbrev pub ClientTells : Outcome WholeClientNode → Type 0
  ClientTells o = AllByRecursion (Behind o.out) o.state.links

  stays : (out : Effects) (l : Link ClientStage) → ClientLinkTold D A l → Behind out l
  stays out l h = client-map D (DrewBehind D draw out) A B (λ number challenge f d. inl d) (λ r d. inl d) l h

  module _ (ok : AllByRecursion (ClientLinkTold D A) c.links) where
    all-stay : (out : Effects) → AllByRecursion (Behind out) c.links
    all-stay out = all-map (ClientLinkTold D A) (Behind out) (stays out) c.links ok

    found-stays : (out : Effects) (number : ℕ) (link : Link ClientStage) → link_of number c.links ≡ Some link → Behind out link
    found-stays out number link is = found_all (Behind out) (λ (l : Link ClientStage). l.number == number) c.links link (all-stay out) is

    -- where no link changes, or one is shut
    still-tells : (o : Outcome WholeClientNode) → o.state.links ≡ c.links → ClientTells o
    still-tells o same = subst (λ (links : List (Link ClientStage)). AllByRecursion (Behind o.out) links) (sym same) (all-stay o.out)

    shut-tells : (o : Outcome WholeClientNode) (number : ℕ) → o.state.links ≡ without_link number c.links → ClientTells o
    shut-tells o number same = subst (λ (links : List (Link ClientStage)). AllByRecursion (Behind o.out) links) (sym same) (left_out (Behind o.out) number c.links (all-stay o.out))

    -- a turn of a link to the monitor
    module _ (link : Link ClientStage) (stage : connector.Stage) where
      abbrev a : MonClientArrival
      a = arrival_in (on_link c reading draw link) c.own.mon_client stage

      abbrev row_out : MonClientRow → Effects
      row_out row = (carried_out c link.number true (row_of_kind (with_mon_client c.own) ToMonitor row)).out

      row-tells : (row : MonClientRow) (left : Option (Link connector.Stage))
          → IfSome left (λ (l : Link connector.Stage). (l.number ≡ link.number) × StageTold (Drew (D link.number) draw row.seals row.sends) B l.received l.taken (l.sent ++ row.sends) l.stage)
          → IfSome (option_map (of_kind ToMonitor) left) (λ (l : Link ClientStage). Behind (row_out row) (record l { sent = l.sent ++ row.sends }))
      row-tells row None h = tt
      row-tells row (Some l) h =
          row-behind D B draw link.number (row_out row) row.seals row.sends refl refl l.number h.0 l.received l.taken (l.sent ++ row.sends) l.stage h.1

      turn-tells : (t : Turned MonClient connector.Stage) → EachRow (RowTold (D link.number) B a) t → ClientTells (turns c (on_link c reading draw link) (turn_of_kind (with_mon_client c.own) ToMonitor t))
      turn-tells Waits h = all-stay nothing
      turn-tells (Refuses why opened) h = shut-tells (carried_out c link.number false (refuses_bytes (on_link c reading draw link) why opened)) link.number refl
      turn-tells (Handles row) h =
          behind-row (Behind (row_out row)) c.links link.number row.sends (option_map (of_kind ToMonitor) row.link) (row-tells row row.link h) (all-stay (row_out row))

    asks-tells : (number : ℕ) (link : Link ClientStage) (stage : connector.Stage) → link_of number c.links ≡ Some link → link.stage ≡ ToMonitor stage
        → ClientTells (mon_client_turn c reading draw link stage)
    asks-tells number link stage is of =
        let here : ClientLinkTold D A link = found_all (ClientLinkTold D A) (λ (l : Link ClientStage). l.number == number) c.links link ok is in
        let there : StageTold (D link.number) A link.received link.taken link.sent stage =
        subst (λ (s : ClientStage). ClientStageTold D A link.number link.received link.taken link.sent s) of here in
        let told : StageTold (D link.number) B link.received link.taken link.sent stage =
        told-map (D link.number) (D link.number) A B (λ challenge f d. d) (λ r d. inl d) link.received link.taken link.sent stage there in
        turn-tells link stage (connector.turned_at (a link stage) stage) (turned-told (D link.number) B (a link stage) (inr refl) stage told)

    -- a turn of a link to a daemon
    presents-tells : (number : ℕ) (link : Link ClientStage) (stage : CallStage) → link_of number c.links ≡ Some link → link.stage ≡ ToDaemon stage
        → ClientTells (call_turn c reading draw link stage)
    presents-tells number link stage is of =
        by_turned (call.turned_at (arrival_in (on_link c reading draw link) (caller_to (callee_of stage).daemon c.own) stage) stage)
      where
        by_link : (out : Effects) (bytes : List ℕ) (left : Option (Link CallStage)) → IfSome (option_map (of_kind ToDaemon) left) (λ (l : Link ClientStage). Behind out (record l { sent = l.sent ++ bytes }))
        by_link out bytes None = tt
        by_link out bytes (Some l) = tt

        by_turned : (t : Turned Caller CallStage) → ClientTells (turns c (on_link c reading draw link) (turn_of_kind (with_caller (callee_of stage).daemon c.own) ToDaemon t))
        by_turned Waits = all-stay nothing
        by_turned (Refuses why opened) = shut-tells (carried_out c link.number false (refuses_bytes (on_link c reading draw link) why opened)) link.number refl
        by_turned (Handles row) =
            let out : Effects = (carried_out c link.number true (row_of_kind (with_caller (callee_of stage).daemon c.own) ToDaemon row)).out in
            behind-row (Behind out) c.links link.number row.sends (option_map (of_kind ToDaemon) row.link) (by_link out row.sends row.link) (all-stay out)

    -- a link that opens
    begins-tells : (number : ℕ) (to : Peer) (dial : Dial) → ClientTells (opens_dialled c reading draw number to (Some dial))
    begins-tells number to dial =
        let out : Effects = (opens_dialled c reading draw number to (Some dial)).out in
        placed (Behind out) (record { number = number; received = []; taken = 0; sent = [] ++ own_banner; stage = first_stage dial }) c.links (by_dial out dial) (all-stay out)
      where
        by_dial : (out : Effects) (dial : Dial) → ClientStageTold (DrewBehind D draw out) B number [] 0 ([] ++ own_banner) (first_stage dial)
        by_dial out (ForLogin services) = first-told (DrewBehind D draw out number) B services
        by_dial out (ForCall called) = tt

    comes-tells : (number : ℕ) (link : Link ClientStage) (bytes : List ℕ) → link_of number c.links ≡ Some link → ClientTells (fed c bytes (Some link))
    comes-tells number link bytes is = placed (Behind nothing) (record link { received = link.received ++ bytes }) c.links (by_kind link.stage (found-stays nothing number link is)) (all-stay nothing)
      where
        by_kind : (stage : ClientStage) → ClientStageTold (DrewBehind D draw nothing) B link.number link.received link.taken link.sent stage
            → ClientStageTold (DrewBehind D draw nothing) B link.number (link.received ++ bytes) link.taken link.sent stage
        by_kind (ToMonitor stage) h = told-grows (DrewBehind D draw nothing link.number) B link.received bytes link.taken link.sent stage h
        by_kind (ToDaemon stage) h = tt

    -- tickets that are asked for on an open link to the monitor
    open-told : (out : Effects) (number : ℕ) (received : List ℕ) (taken : ℕ) (sent : List ℕ) (stage : ClientStage) (s : Secured) (r : Requests) → asking_open stage ≡ Some (s, r)
        → ClientStageTold (DrewBehind D draw out) B number received taken sent stage → StageTold (DrewBehind D draw out number) B received taken sent (connector.Open s r)
    open-told out number received taken sent (ToMonitor stage) s r is h = subst (λ (k : connector.Stage). StageTold (DrewBehind D draw out number) B received taken sent k) (kept-is stage s r is) h
    open-told out number received taken sent (ToDaemon stage) s r is h = absurd cc

    renews-tells : (services : ℕ) (link : Link ClientStage) (s : Secured) (r : Requests) → first_open asking_open c.links ≡ Some (link, (s, r)) → ClientTells (renewed c reading draw services link s r)
    renews-tells services link s r is = by_made (sealed_request s.keys r (asked.Tickets services))
      where
        by_made : (made : Result SealedFrame Reason) → ClientTells (carried_out c link.number false
            (lifted (with_mon_client c.own) (sends_request open_to_ask (arrival (me c.own) c.own.mon_client link reading draw) s r Tickets made)))
        by_made (Ok sealed) =
            let out : Effects = (carried_out c link.number false
            (lifted (with_mon_client c.own) (sends_request open_to_ask (arrival (me c.own) c.own.mon_client link reading draw) s r Tickets (Ok sealed)))).out in
            let found = found-open (Behind out) asking_open c.links link s r is (all-stay out) in
            let open_is : StageTold (DrewBehind D draw out link.number) B link.received link.taken link.sent (connector.Open s r) =
            open-told out link.number link.received link.taken link.sent link.stage s r found.1 found.0 in
            behind-row (Behind out) c.links link.number sealed.bytes (Some (record link { stage = open_to_ask (under s sealed.keys) (behind_request r Tickets) }))
            (request-told (DrewBehind D draw out link.number) B link.received link.taken link.sent sealed.bytes s sealed.keys r Tickets open_is tt) (all-stay out)
        by_made (Err why) = shut-tells (carried_out c link.number false
            (lifted (with_mon_client c.own) (sends_request open_to_ask (arrival (me c.own) c.own.mon_client link reading draw) s r Tickets (Err why)))) link.number refl

    -- an operation that is sent to a daemon
    abbrev sent_behind : HeldSession → Operation → WholeClientNode
    sent_behind session operation = having_session c (record session { queue = pushed session.queue operation })

    abbrev sends_there : HeldSession → Operation → ℕ → Link ClientStage → Secured → Callee → ℕ → Result SealedFrame BytesFault → Outcome WholeClientNode
    sends_there session operation seq link s callee cookie r =
        carried_out (sent_behind session operation) link.number false (entered_before (sent_entry c.own session seq operation)
        (secure_sent (arrival (me (sent_behind session operation).own) (sent_behind session operation).own link reading draw) s (λ t. ToDaemon (call.Open t callee cookie)) [] r))

    sends-tells : (session : HeldSession) (operation : Operation) (seq : ℕ) (link : Link ClientStage) (s : Secured) (callee : Callee) (cookie : ℕ)
        → ClientTells (sent_in c reading draw session operation seq (Some (link, (s, (callee, cookie)))))
    sends-tells session operation seq link s callee cookie = by_sent (secure_frame s.keys (operation_message (seq, operation)))
      where
        by_sent : (r : Result SealedFrame BytesFault) → ClientTells (sends_there session operation seq link s callee cookie r)
        by_sent (Ok sealed) =
            let out : Effects = (sends_there session operation seq link s callee cookie (Ok sealed)).out in
            placed (Behind out) (record link { stage = ToDaemon (call.Open (record s { keys = sealed.keys }) callee cookie); sent = link.sent ++ sealed.bytes }) c.links tt (all-stay out)
        by_sent (Err why) = shut-tells (sends_there session operation seq link s callee cookie (Err why)) link.number refl

    each-tells : (input : Input) → EachOutcome c reading draw input ClientTells
    each-tells input = record {
      idle = all-stay nothing;
      comes = λ number link bytes is. comes-tells number link bytes is;
      asks = λ number link stage is of. asks-tells number link stage is of;
      presents = λ number link stage is of. presents-tells number link stage is of;
      refuses = λ why told. still-tells (refuses_command c why) refl;
      begins = λ number to dial is. begins-tells number to dial;
      reaches_none = λ to. still-tells (unreached c to) refl;
      goes = λ number link is. shut-tells (loses c (Some link)) link.number refl;
      logs = λ services. filtered (Behind (logs_in c services).out) (λ (l : Link ClientStage). not (is_to_monitor l.stage)) c.links (all-stay (logs_in c services).out);
      renews_there = λ services link s requests is. renews-tells services link s requests is;
      dials = λ daemon lossy held is of. still-tells (calls c (record { callee = record { daemon = daemon; lossy = lossy }; held = held; gid = held_gid c.own.mon_client.holdings })) refl;
      sends_later = λ daemon session operation seq of. still-tells (sent_in c reading draw session operation seq None) refl;
      sends_there = λ daemon session operation seq link s callee cookie of is. sends-tells session operation seq link s callee cookie;
      restarts = tt;
    }

    pub client-tells : (input : Input) → ClientTells (whole_client_rule c input reading draw)
    client-tells input = step-keeps c reading draw ClientTells input (each-tells input)
