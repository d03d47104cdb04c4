-- What a client's step comes to, with links to the monitor and to daemons: what holds of each outcome of a row holds of each step.
use Rattle.std.proofs.Common.{◌≡◌, ℕ, ◌==◌, ◌-◌, ◌^◌, Bool, true, false, List, Option, Some, None, Result, Ok, Err, refl}
use Rattle.std.specs.List.{list_any}
use Rattle.std.specs.Prelude.{find, if◌then◌else◌}
use Rattle.cx_base.specs.Names.{Name}
use Rattle.cx_base.specs.declared.operations.Operation.{Operation}
use Rattle.cx_rules_session.specs.cx_journal.specs.declared.outcomes.Reason.{Reason}
use Rattle.cx_rules_session.specs.cx_journal.specs.declared.outcomes.Reason.TheVariants as reason
pub use Rattle.cx_rules_session.specs.cx_rules.proofs.MonClientWalk.{IsNoTicket}
use Rattle.cx_rules_session.specs.cx_login.specs.Held.{Held}
use Rattle.cx_rules_session.specs.cx_rules.specs.Connector as connector
use Rattle.cx_rules_session.specs.cx_rules.specs.Inputs.{Input, Opened, NoLink, Bytes, Turn, Gone, Look, Tick, Submit, Restart}
use Rattle.cx_rules_session.specs.cx_rules.specs.Links.{Link, link_of}
use Rattle.cx_rules_session.specs.cx_rules.specs.Requests.{Requests, asks_tickets, first_open}
use Rattle.cx_rules_session.specs.cx_rules.specs.Rows.{Arrival, Outcome, arrival, carried_out, fed, idles, lifted, turns}
use Rattle.cx_rules_session.specs.cx_rules.specs.Secured.{Secured}
use Rattle.cx_rules_session.specs.ClientRule.{ClientStage, ToMonitor, ToDaemon, Dial, WholeClient, WholeClientNode, asking_open, caller_to, calls, calls_with, connects, dial_of, first_call, having_session, is_to, logs_in, loses, me, open_to_ask, opens, opens_dialled, pushes, queue_reason, refuses_command, renews, renews_on, restarted, sends, sends_in, sends_on, sent_entry, submits, turn, turned_at, unreached, whole_client_rule, with_mon_client, with_caller}
use Rattle.cx_rules_session.specs.Kinds.{arrival_in, turn_of_kind}
use Rattle.cx_rules_session.specs.Presenter as call
use Rattle.cx_rules_session.specs.Presenter.{CallStage, callee_of}
use Rattle.cx_rules_session.specs.Sessions.{Callee, HeldSession, held_gid, session_with, ticket_for}
use Rattle.cx_rules_session.specs.cx_session.specs.Queue.{pushed, push_reply}
use Rattle.cx_rules_session.specs.cx_session.specs.declared.outbox.QueueFault.{QueueFault}
use Rattle.cx_rules_session.specs.cx_session.specs.declared.outbox.QueueFault.TheVariants as queue
use Rattle.cx_rules_session.specs.cx_steps.specs.declared.events.Command.{Command}
use Rattle.cx_rules_session.specs.cx_steps.specs.declared.events.Command.TheVariants as command
use Rattle.cx_rules_session.specs.cx_steps.specs.declared.events.Peer.{Peer}

module _ (c : WholeClientNode) (reading : ℕ) (draw : List ℕ) where
  -- what comes on a link of the client
  abbrev pub on_link : Link ClientStage → Arrival WholeClient ClientStage
  on_link link = arrival (me c.own) c.own link reading draw

  -- a turn of a link to the monitor, and of one to a daemon
  abbrev pub mon_client_turn : Link ClientStage → connector.Stage → Outcome WholeClientNode
  mon_client_turn link stage =
      turns c (on_link link) (turn_of_kind (with_mon_client c.own) ToMonitor (connector.turned_at (arrival_in (on_link link) c.own.mon_client stage) stage))

  abbrev pub call_turn : Link ClientStage → CallStage → Outcome WholeClientNode
  call_turn link stage =
      let daemon = (callee_of stage).daemon in
      turns c (on_link link) (turn_of_kind (with_caller daemon c.own) ToDaemon (call.turned_at (arrival_in (on_link link) (caller_to daemon c.own) stage) stage))

  -- tickets are asked for on an open link to the monitor
  abbrev pub renewed : ℕ → Link ClientStage → Secured → Requests → Outcome WholeClientNode
  renewed services link s requests =
      carried_out c link.number false
      (lifted (with_mon_client c.own) (asks_tickets open_to_ask (arrival (me c.own) c.own.mon_client link reading draw) s requests services))

  -- a session is the one with a daemon, and an operation is sent in it
  abbrev pub sent_in : HeldSession → Operation → ℕ → Option (Link ClientStage × (Secured × (Callee × ℕ))) → Outcome WholeClientNode
  sent_in session operation seq found =
      sends_on (having_session c (record session { queue = pushed session.queue operation })) (sent_entry c.own session seq operation) (seq, operation) reading draw found

  module _ (input : Input) (P : Outcome WholeClientNode → Type 0) where
    -- what is due of each outcome, and what is known where it comes about
    pub record EachOutcome : Type 0 where
      pub idle : P (idles c)
      pub comes : (number : ℕ) (link : Link ClientStage) (bytes : List ℕ) → link_of number c.links ≡ Some link → P (fed c bytes (Some link))
      pub asks : (number : ℕ) (link : Link ClientStage) (stage : connector.Stage) → link_of number c.links ≡ Some link → link.stage ≡ ToMonitor stage → P (mon_client_turn link stage)
      pub presents : (number : ℕ) (link : Link ClientStage) (stage : CallStage) → link_of number c.links ≡ Some link → link.stage ≡ ToDaemon stage → P (call_turn link stage)
      pub refuses : (why : Reason) → IsNoTicket why → P (refuses_command c why)
      pub begins : (number : ℕ) (peer : Peer) (dial : Dial) → find (dial_of peer) c.own.dials ≡ Some dial → P (opens_dialled c reading draw number peer (Some dial))
      pub reaches_none : (peer : Peer) → P (unreached c peer)
      pub goes : (number : ℕ) (link : Link ClientStage) → link_of number c.links ≡ Some link → P (loses c (Some link))
      pub logs : (services : ℕ) → P (logs_in c services)
      pub renews_there : (services : ℕ) (link : Link ClientStage) (s : Secured) (requests : Requests) → first_open asking_open c.links ≡ Some (link, (s, requests))
          → P (renewed services link s requests)
      pub dials : (daemon : Name) (lossy : Bool) (held : Held) → input ≡ Submit (command.Connect daemon lossy) → ticket_for daemon.kind c.own.mon_client.holdings ≡ Some held
          → P (calls c (record { callee = record { daemon = daemon; lossy = lossy }; held = held; gid = held_gid c.own.mon_client.holdings }))
      pub sends_later : (daemon : Name) (session : HeldSession) (operation : Operation) (seq : ℕ) → session_with daemon c.own.sessions ≡ Some session
          → P (sent_in session operation seq None)
      pub sends_there : (daemon : Name) (session : HeldSession) (operation : Operation) (seq : ℕ) (link : Link ClientStage) (s : Secured) (callee : Callee) (cookie : ℕ)
          → session_with daemon c.own.sessions ≡ Some session → first_call session.daemon c.links ≡ Some (link, (s, (callee, cookie)))
          → P (sent_in session operation seq (Some (link, (s, (callee, cookie)))))
      pub restarts : P (restarted c)

  module _ (P : Outcome WholeClientNode → Type 0) where
    turn-keeps : (input : Input) → EachOutcome input P → (number : ℕ) (found : Option (Link ClientStage)) → link_of number c.links ≡ found → P (turn c reading draw found)
    turn-keeps input k number None is = k.idle
    turn-keeps input k number (Some link) is = by_stage link.stage refl
      where
        by_stage : (stage : ClientStage) → link.stage ≡ stage → P (turns c (on_link link) (turned_at (on_link link) stage))
        by_stage (ToMonitor stage) of = k.asks number link stage is of
        by_stage (ToDaemon stage) of = k.presents number link stage is of

    fed-keeps : (input : Input) → EachOutcome input P → (number : ℕ) (bytes : List ℕ) (found : Option (Link ClientStage)) → link_of number c.links ≡ found → P (fed c bytes found)
    fed-keeps input k number bytes None is = k.idle
    fed-keeps input k number bytes (Some link) is = k.comes number link bytes is

    gone-keeps : (input : Input) → EachOutcome input P → (number : ℕ) (found : Option (Link ClientStage)) → link_of number c.links ≡ found → P (loses c found)
    gone-keeps input k number None is = k.idle
    gone-keeps input k number (Some link) is = k.goes number link is

    opens-keeps : (input : Input) → EachOutcome input P → (number : ℕ) (to : Option Peer) → P (opens c reading draw number to)
    opens-keeps input k number None = k.idle
    opens-keeps input k number (Some peer) = by_dial (find (dial_of peer) c.own.dials) refl
      where
        by_dial : (found : Option Dial) → find (dial_of peer) c.own.dials ≡ found → P (opens_dialled c reading draw number peer found)
        by_dial None is = k.idle
        by_dial (Some dial) is = k.begins number peer dial is

    renews-keeps : (input : Input) → EachOutcome input P → (services : ℕ) → P (renews c services reading draw)
    renews-keeps input k services = by_open (first_open asking_open c.links) refl
      where
        by_open : (found : Option (Link ClientStage × (Secured × Requests))) → first_open asking_open c.links ≡ found → P (renews_on c services reading draw found)
        by_open None is = k.refuses reason.NoSession tt
        by_open (Some (link, (s, requests))) is = k.renews_there services link s requests is

    connects-keeps : (daemon : Name) (lossy : Bool) → EachOutcome (Submit (command.Connect daemon lossy)) P → P (connects c daemon lossy)
    connects-keeps daemon lossy k = by_busy (list_any (λ link. is_to daemon link.stage) c.links)
      where
        by_count : (held : Held) → ticket_for daemon.kind c.own.mon_client.holdings ≡ Some held → (spent : Bool)
            → P (if spent then refuses_command c reason.Spent
            else calls c (record { callee = record { daemon = daemon; lossy = lossy }; held = held; gid = held_gid c.own.mon_client.holdings }))
        by_count held is true = k.refuses reason.Spent tt
        by_count held is false = k.dials daemon lossy held refl is

        by_ticket : (found : Option Held) → ticket_for daemon.kind c.own.mon_client.holdings ≡ found → P (calls_with c (record { daemon = daemon; lossy = lossy }) found)
        by_ticket None is = k.refuses (reason.NoTicket daemon.kind) tt
        by_ticket (Some held) is = by_count held is (c.own.mon_client.global_seq == 2 ^ 64 - 1)

        by_busy : (busy : Bool) → P (if busy then refuses_command c reason.Busy
            else calls_with c (record { daemon = daemon; lossy = lossy }) (ticket_for daemon.kind c.own.mon_client.holdings))
        by_busy true = k.refuses reason.Busy tt
        by_busy false = by_ticket (ticket_for daemon.kind c.own.mon_client.holdings) refl

    full-keeps : (input : Input) → EachOutcome input P → (why : QueueFault) → P (refuses_command c (queue_reason why))
    full-keeps input k (queue.QueueFull limit) = k.refuses reason.QueueFull tt
    full-keeps input k queue.Spent = k.refuses reason.Spent tt
    full-keeps input k queue.OutOfMemory = k.refuses reason.Spent tt

    sends-keeps : (input : Input) → EachOutcome input P → (daemon : Name) (operation : Operation) → P (sends c daemon operation reading draw)
    sends-keeps input k daemon operation = by_session (session_with daemon c.own.sessions) refl
      where
        by_call : (session : HeldSession) → session_with daemon c.own.sessions ≡ Some session → (seq : ℕ) (found : Option (Link ClientStage × (Secured × (Callee × ℕ))))
            → first_call session.daemon c.links ≡ found → P (sent_in session operation seq found)
        by_call session of seq None is = k.sends_later daemon session operation seq of
        by_call session of seq (Some (link, (s, (callee, cookie)))) is = k.sends_there daemon session operation seq link s callee cookie of is

        by_push : (session : HeldSession) → session_with daemon c.own.sessions ≡ Some session → (r : Result ℕ QueueFault) → P (pushes c session operation reading draw r)
        by_push session of (Err why) = full-keeps input k why
        by_push session of (Ok seq) = by_call session of seq (first_call session.daemon c.links) refl

        by_session : (found : Option HeldSession) → session_with daemon c.own.sessions ≡ found → P (sends_in c operation reading draw found)
        by_session None is = k.refuses reason.NoSession tt
        by_session (Some session) is = by_push session is (push_reply session.queue)

    submits-keeps : (said : Command) → EachOutcome (Submit said) P → P (submits c reading draw said)
    submits-keeps (command.Login services) k = k.logs services
    submits-keeps (command.Renew services) k = renews-keeps (Submit (command.Renew services)) k services
    submits-keeps (command.Connect daemon lossy) k = connects-keeps daemon lossy k
    submits-keeps (command.Send daemon operation) k = sends-keeps (Submit (command.Send daemon operation)) k daemon operation
    submits-keeps command.Fetch k = k.idle
    submits-keeps (command.Drop session) k = k.idle

    -- what each outcome keeps, a step keeps, at any event
    pub step-keeps : (input : Input) → EachOutcome input P → P (whole_client_rule c input reading draw)
    step-keeps (Opened number to) k = opens-keeps (Opened number to) k number to
    step-keeps (NoLink to) k = k.reaches_none to
    step-keeps (Bytes number bytes) k = fed-keeps (Bytes number bytes) k number bytes (link_of number c.links) refl
    step-keeps (Turn number) k = turn-keeps (Turn number) k number (link_of number c.links) refl
    step-keeps (Gone number) k = gone-keeps (Gone number) k number (link_of number c.links) refl
    step-keeps (Submit said) k = submits-keeps said k
    step-keeps Restart k = k.restarts
    step-keeps (Look view) k = k.idle
    step-keeps Tick k = k.idle
