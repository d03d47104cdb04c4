-- What a client's step comes to, with links to the monitor and to daemons: what holds of each outcome of a row holds of each step, where of an operation that
-- is sent it is known that the client was told to send it, and that the queue of its session gave it its seq.
use Rattle.std.proofs.Common.{◌≡◌, ℕ, ◌==◌, ◌-◌, ◌^◌, Bool, true, false, List, Option, Some, None, Result, Ok, Err, refl}
use Rattle.std.specs.List.{list_any}
use Rattle.std.specs.Prelude.{find, if◌then◌else◌}
use Rattle.cx_base.specs.Names.{Name}
use Rattle.cx_base.specs.declared.operations.Operation.{Operation}
use Rattle.cx_journal.specs.declared.outcomes.Reason.{Reason}
use Rattle.cx_journal.specs.declared.outcomes.Reason.TheVariants as reason
use Rattle.cx_laws_sessions.specs.cx_login.specs.Held.{Held}
use Rattle.cx_laws_sessions.specs.cx_rules.specs.Connector as connector
use Rattle.cx_laws_sessions.specs.cx_rules.specs.Inputs.{Input, Opened, NoLink, Bytes, Turn, Gone, Look, Tick, Submit, Restart}
use Rattle.cx_laws_sessions.specs.cx_rules.specs.Links.{Link, link_of}
use Rattle.cx_laws_sessions.specs.cx_rules.specs.Requests.{Requests, first_open}
use Rattle.cx_laws_sessions.specs.cx_rules.specs.Rows.{Outcome, fed, idles, turns}
use Rattle.cx_laws_sessions.specs.cx_rules.specs.Secured.{Secured}
use Rattle.cx_laws_sessions.specs.cx_rules_session.specs.ClientRule.{ClientStage, ToMonitor, ToDaemon, Dial, WholeClientNode, asking_open, calls, calls_with, connects, dial_of, first_call, is_to, logs_in, loses, opens, opens_dialled, pushes, queue_reason, refuses_command, renews, renews_on, restarted, sends, sends_in, submits, turn, turned_at, unreached, whole_client_rule}
use Rattle.cx_laws_sessions.specs.cx_rules_session.specs.Presenter.{CallStage}
use Rattle.cx_laws_sessions.specs.cx_rules_session.specs.Sessions.{Callee, HeldSession, held_gid, session_with, ticket_for}
use Rattle.cx_session.specs.Queue.{push_reply}
use Rattle.cx_session.specs.declared.outbox.QueueFault.{QueueFault}
use Rattle.cx_session.specs.declared.outbox.QueueFault.TheVariants as queue
use Rattle.cx_steps.specs.declared.events.Command.{Command}
use Rattle.cx_steps.specs.declared.events.Command.TheVariants as command
use Rattle.cx_steps.specs.declared.events.Peer.{Peer}
use Rattle.cx_laws_sessions.specs.cx_run.proofs.Outcomes.{IsNoTicket, mon_client_turn, call_turn, on_link, renewed, sent_in}

module _ (c : WholeClientNode) (reading : ℕ) (draw : List ℕ) where
  module _ (input : Input) (P : Outcome WholeClientNode → Type 0) where
    -- what is due of each outcome, and what is known where it comes about
    pub record EachStep : Type 0 where
      pub idle : P (idles c)
      pub comes : (number : ℕ) (link : Link ClientStage) (bytes : List ℕ) → link_of number c.links ≡ Some link → P (fed c bytes (Some link))
      pub asks : (number : ℕ) (link : Link ClientStage) (stage : connector.Stage) → link_of number c.links ≡ Some link → link.stage ≡ ToMonitor stage → P (mon_client_turn c reading draw link stage)
      pub presents : (number : ℕ) (link : Link ClientStage) (stage : CallStage) → link_of number c.links ≡ Some link → link.stage ≡ ToDaemon stage → P (call_turn c reading draw link stage)
      pub refuses : (why : Reason) → IsNoTicket why → P (refuses_command c why)
      pub begins : (number : ℕ) (peer : Peer) (dial : Dial) → find (dial_of peer) c.own.dials ≡ Some dial → P (opens_dialled c reading draw number peer (Some dial))
      pub reaches_none : (peer : Peer) → P (unreached c peer)
      pub goes : (number : ℕ) (link : Link ClientStage) → link_of number c.links ≡ Some link → P (loses c (Some link))
      pub logs : (services : ℕ) → P (logs_in c services)
      pub renews_there : (services : ℕ) (link : Link ClientStage) (s : Secured) (requests : Requests) → first_open asking_open c.links ≡ Some (link, (s, requests))
          → P (renewed c reading draw services link s requests)
      pub dials : (daemon : Name) (lossy : Bool) (held : Held) → input ≡ Submit (command.Connect daemon lossy) → ticket_for daemon.kind c.own.mon_client.holdings ≡ Some held
          → P (calls c (record { callee = record { daemon = daemon; lossy = lossy }; held = held; gid = held_gid c.own.mon_client.holdings }))
      pub sends_later : (daemon : Name) (session : HeldSession) (operation : Operation) (seq : ℕ) → input ≡ Submit (command.Send daemon operation) → session_with daemon c.own.sessions ≡ Some session
          → push_reply session.queue ≡ Ok seq → P (sent_in c reading draw session operation seq None)
      pub sends_there : (daemon : Name) (session : HeldSession) (operation : Operation) (seq : ℕ) (link : Link ClientStage) (s : Secured) (callee : Callee) (cookie : ℕ)
          → input ≡ Submit (command.Send daemon operation) → session_with daemon c.own.sessions ≡ Some session → push_reply session.queue ≡ Ok seq
          → first_call session.daemon c.links ≡ Some (link, (s, (callee, cookie))) → P (sent_in c reading draw session operation seq (Some (link, (s, (callee, cookie)))))
      pub restarts : P (restarted c)

  module _ (P : Outcome WholeClientNode → Type 0) where
    turn-keeps : (input : Input) → EachStep input P → (number : ℕ) (found : Option (Link ClientStage)) → link_of number c.links ≡ found → P (turn c reading draw found)
    turn-keeps input k number None is = k.idle
    turn-keeps input k number (Some link) is = by_stage link.stage refl
      where
        by_stage : (stage : ClientStage) → link.stage ≡ stage → P (turns c (on_link c reading draw link) (turned_at (on_link c reading draw link) stage))
        by_stage (ToMonitor stage) of = k.asks number link stage is of
        by_stage (ToDaemon stage) of = k.presents number link stage is of

    fed-keeps : (input : Input) → EachStep input P → (number : ℕ) (bytes : List ℕ) (found : Option (Link ClientStage)) → link_of number c.links ≡ found → P (fed c bytes found)
    fed-keeps input k number bytes None is = k.idle
    fed-keeps input k number bytes (Some link) is = k.comes number link bytes is

    gone-keeps : (input : Input) → EachStep input P → (number : ℕ) (found : Option (Link ClientStage)) → link_of number c.links ≡ found → P (loses c found)
    gone-keeps input k number None is = k.idle
    gone-keeps input k number (Some link) is = k.goes number link is

    opens-keeps : (input : Input) → EachStep input P → (number : ℕ) (to : Option Peer) → P (opens c reading draw number to)
    opens-keeps input k number None = k.idle
    opens-keeps input k number (Some peer) = by_dial (find (dial_of peer) c.own.dials) refl
      where
        by_dial : (found : Option Dial) → find (dial_of peer) c.own.dials ≡ found → P (opens_dialled c reading draw number peer found)
        by_dial None is = k.idle
        by_dial (Some dial) is = k.begins number peer dial is

    renews-keeps : (input : Input) → EachStep input P → (services : ℕ) → P (renews c services reading draw)
    renews-keeps input k services = by_open (first_open asking_open c.links) refl
      where
        by_open : (found : Option (Link ClientStage × (Secured × Requests))) → first_open asking_open c.links ≡ found → P (renews_on c services reading draw found)
        by_open None is = k.refuses reason.NoSession tt
        by_open (Some (link, (s, requests))) is = k.renews_there services link s requests is

    connects-keeps : (daemon : Name) (lossy : Bool) → EachStep (Submit (command.Connect daemon lossy)) P → P (connects c daemon lossy)
    connects-keeps daemon lossy k = by_busy (list_any (λ link. is_to daemon link.stage) c.links)
      where
        by_count : (held : Held) → ticket_for daemon.kind c.own.mon_client.holdings ≡ Some held → (spent : Bool)
            → P (if spent then refuses_command c reason.Spent
            else calls c (record { callee = record { daemon = daemon; lossy = lossy }; held = held; gid = held_gid c.own.mon_client.holdings }))
        by_count held is true = k.refuses reason.Spent tt
        by_count held is false = k.dials daemon lossy held refl is

        by_ticket : (found : Option Held) → ticket_for daemon.kind c.own.mon_client.holdings ≡ found → P (calls_with c (record { daemon = daemon; lossy = lossy }) found)
        by_ticket None is = k.refuses (reason.NoTicket daemon.kind) tt
        by_ticket (Some held) is = by_count held is (c.own.mon_client.global_seq == 2 ^ 64 - 1)

        by_busy : (busy : Bool) → P (if busy then refuses_command c reason.Busy
            else calls_with c (record { daemon = daemon; lossy = lossy }) (ticket_for daemon.kind c.own.mon_client.holdings))
        by_busy true = k.refuses reason.Busy tt
        by_busy false = by_ticket (ticket_for daemon.kind c.own.mon_client.holdings) refl

    full-keeps : (input : Input) → EachStep input P → (why : QueueFault) → P (refuses_command c (queue_reason why))
    full-keeps input k (queue.QueueFull limit) = k.refuses reason.QueueFull tt
    full-keeps input k queue.Spent = k.refuses reason.Spent tt
    full-keeps input k queue.OutOfMemory = k.refuses reason.Spent tt

    sends-keeps : (daemon : Name) (operation : Operation) → EachStep (Submit (command.Send daemon operation)) P → P (sends c daemon operation reading draw)
    sends-keeps daemon operation k = by_session (session_with daemon c.own.sessions) refl
      where
        by_call : (session : HeldSession) → session_with daemon c.own.sessions ≡ Some session → (seq : ℕ) → push_reply session.queue ≡ Ok seq
            → (found : Option (Link ClientStage × (Secured × (Callee × ℕ)))) → first_call session.daemon c.links ≡ found → P (sent_in c reading draw session operation seq found)
        by_call session of seq gives None is = k.sends_later daemon session operation seq refl of gives
        by_call session of seq gives (Some (link, (s, (callee, cookie)))) is = k.sends_there daemon session operation seq link s callee cookie refl of gives is

        by_push : (session : HeldSession) → session_with daemon c.own.sessions ≡ Some session → (r : Result ℕ QueueFault) → push_reply session.queue ≡ r → P (pushes c session operation reading draw r)
        by_push session of (Err why) gives = full-keeps (Submit (command.Send daemon operation)) k why
        by_push session of (Ok seq) gives = by_call session of seq gives (first_call session.daemon c.links) refl

        by_session : (found : Option HeldSession) → session_with daemon c.own.sessions ≡ found → P (sends_in c operation reading draw found)
        by_session None is = k.refuses reason.NoSession tt
        by_session (Some session) is = by_push session is (push_reply session.queue) refl

    submits-keeps : (said : Command) → EachStep (Submit said) P → P (submits c reading draw said)
    submits-keeps (command.Login services) k = k.logs services
    submits-keeps (command.Renew services) k = renews-keeps (Submit (command.Renew services)) k services
    submits-keeps (command.Connect daemon lossy) k = connects-keeps daemon lossy k
    submits-keeps (command.Send daemon operation) k = sends-keeps daemon operation k
    submits-keeps command.Fetch k = k.idle
    submits-keeps (command.Drop session) k = k.idle

    -- what each outcome keeps, a step keeps, at any event
    pub each-step : (input : Input) → EachStep input P → P (whole_client_rule c input reading draw)
    each-step (Opened number to) k = opens-keeps (Opened number to) k number to
    each-step (NoLink to) k = k.reaches_none to
    each-step (Bytes number bytes) k = fed-keeps (Bytes number bytes) k number bytes (link_of number c.links) refl
    each-step (Turn number) k = turn-keeps (Turn number) k number (link_of number c.links) refl
    each-step (Gone number) k = gone-keeps (Gone number) k number (link_of number c.links) refl
    each-step (Submit said) k = submits-keeps said k
    each-step Restart k = k.restarts
    each-step (Look view) k = k.idle
    each-step Tick k = k.idle
