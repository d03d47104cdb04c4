-- What a client does at each event, with links to the monitor and to daemons.
use Rattle.std.specs.Prelude.{ℕ, ◌==◌, ◌+◌, ◌-◌, ◌^◌, ◌&&◌, not, Bool, true, false, List, [], ◌∷◌, ◌++◌, filter, find, map, Option, Some, None, Result, Ok, Err, if◌then◌else◌}
use Rattle.std.specs.List.{list_all, list_any}
use Rattle.cx_session.specs.cx_base.specs.Names.{Name, same_name}
use Rattle.cx_session.specs.cx_base.specs.declared.nodes.NodeName.{NodeName}
use Rattle.cx_session.specs.cx_base.specs.declared.nodes.NodeName.TheVariants as node
use Rattle.cx_session.specs.cx_base.specs.declared.operations.Operation.{Operation}
use Rattle.cx_authorize.specs.cx_journal.specs.declared.entries.Entry.{Entry}
use Rattle.cx_authorize.specs.cx_journal.specs.declared.entries.Entry.TheVariants as entry
use Rattle.cx_authorize.specs.cx_journal.specs.declared.outcomes.Reason.{Reason}
use Rattle.cx_authorize.specs.cx_journal.specs.declared.outcomes.Reason.TheVariants as reason
use Rattle.cx_rules.specs.cx_login.specs.Held.{Held}
use Rattle.cx_session.specs.Queue.{push_reply, pushed}
use Rattle.cx_session.specs.declared.outbox.QueueFault.{QueueFault}
use Rattle.cx_session.specs.declared.outbox.QueueFault.TheVariants as queue
use Rattle.cx_rules.specs.cx_steps.specs.Nothing.{nothing}
use Rattle.cx_rules.specs.cx_steps.specs.declared.events.Command.{Command}
use Rattle.cx_rules.specs.cx_steps.specs.declared.events.Command.TheVariants as command
use Rattle.cx_rules.specs.cx_steps.specs.declared.events.Peer.{Peer}
use Rattle.cx_rules.specs.cx_steps.specs.declared.events.Peer.TheVariants as peer
use Rattle.cx_rules.specs.Connector as connector
use Rattle.cx_rules.specs.Greetings.{own_banner}
use Rattle.cx_rules.specs.Holdings.{MonClient, afresh}
use Rattle.cx_rules.specs.Inputs.{Input, Opened, NoLink, Bytes, Turn, Gone, Look, Tick, Submit, Restart}
use Rattle.cx_rules.specs.Links.{Link, link_of}
use Rattle.cx_rules.specs.Requests.{Requests, asks_tickets, first_open}
use Rattle.cx_rules.specs.Rows.{Arrival, Node, Outcome, Turned, arrival, carried_out, fed, forgotten, goes_on, idles, lifted, new_link, opens_none, refused_entry, sends_secure, turns}
use Rattle.cx_rules.specs.Secured.{Secured}
use Rattle.cx_rules_session.specs.Kinds.{arrival_in, entered_before, turn_of_kind}
use Rattle.cx_rules_session.specs.Presenter as call
use Rattle.cx_rules_session.specs.Presenter.{CallStage, Caller, callee_of}
use Rattle.cx_rules_session.specs.Sessions.{Called, Callee, HeldSession, held_gid, is_unacknowledged, operation_message, put_session, session_with, ticket_for, with_session}

-- ---- a client

-- a link is to the monitor, or to a daemon
pub data ClientStage : Type 0 where
  ToMonitor : connector.Stage → ClientStage
  ToDaemon : CallStage → ClientStage

-- a link that is waited for: to the monitor, for a login that asks tickets by the sum of their services; or to a daemon
pub data Dial : Type 0 where
  ForLogin : ℕ → Dial
  ForCall : Called → Dial

-- what it has of its own: itself as one that asks the monitor, the links that it waits for, and its sessions
pub record WholeClient : Type 0 where
  pub mon_client : MonClient
  pub dials : List Dial
  pub sessions : List HeldSession

abbrev pub WholeClientNode : Type 0
WholeClientNode = Node WholeClient ClientStage

abbrev pub me : WholeClient → NodeName
me client = node.Entity client.mon_client.name

abbrev pub with_mon_client : WholeClient → MonClient → WholeClient
with_mon_client client mon_client = record client { mon_client = mon_client }

-- ---- a turn

-- the part that a link to a daemon reads and changes
abbrev pub caller_to : Name → WholeClient → Caller
caller_to daemon client = record { mon_client = client.mon_client; session = session_with daemon client.sessions }

abbrev pub with_caller : Name → WholeClient → Caller → WholeClient
with_caller daemon client caller =
    record client { mon_client = caller.mon_client; sessions = with_session daemon caller.session client.sessions }

-- by the kind of the link
abbrev pub turned_at : Arrival WholeClient ClientStage → ClientStage → Turned WholeClient ClientStage
turned_at a (ToMonitor stage) =
    turn_of_kind (with_mon_client a.own) ToMonitor (connector.turned_at (arrival_in a a.own.mon_client stage) stage)
turned_at a (ToDaemon stage) =
    let daemon = (callee_of stage).daemon in
    turn_of_kind (with_caller daemon a.own) ToDaemon (call.turned_at (arrival_in a (caller_to daemon a.own) stage) stage)

abbrev pub turn : WholeClientNode → ℕ → List ℕ → Option (Link ClientStage) → Outcome WholeClientNode
turn c reading draw None = idles c
turn c reading draw (Some link) = let a = arrival (me c.own) c.own link reading draw in turns c a (turned_at a link.stage)

-- a command is refused, which shuts nothing
abbrev pub refuses_command : WholeClientNode → Reason → Outcome WholeClientNode
refuses_command c why = record { state = c; out = record nothing { entries = refused_entry (me c.own) 0 why ∷ [] } }

-- ---- Login, Renew

abbrev pub is_to_monitor : ClientStage → Bool
is_to_monitor (ToMonitor stage) = true
is_to_monitor (ToDaemon stage) = false

abbrev pub is_for_login : Dial → Bool
is_for_login (ForLogin services) = true
is_for_login (ForCall called) = false

-- one waits for one link to the monitor at most, and for one to each daemon
abbrev pub waits_for_login : List Dial → ℕ → List Dial
waits_for_login dials services = filter (λ dial. not (is_for_login dial)) dials ++ ForLogin services ∷ []

-- the older links to the monitor are shut, and a new one is opened
abbrev pub logs_in : WholeClientNode → ℕ → Outcome WholeClientNode
logs_in c services = record {
  state = record {
    own = record c.own { dials = waits_for_login c.own.dials services };
    links = filter (λ link. not (is_to_monitor link.stage)) c.links;
  };
  out = record nothing {
    opens = peer.Monitor ∷ [];
    shuts = map (λ link. link.number) (filter (λ link. is_to_monitor link.stage) c.links);
  };
}

-- what an open link to the monitor keeps
abbrev pub asking_open : ClientStage → Option (Secured × Requests)
asking_open (ToMonitor stage) = connector.kept_open stage
asking_open (ToDaemon stage) = None

abbrev pub open_to_ask : Secured → Requests → ClientStage
open_to_ask s requests = ToMonitor (connector.Open s requests)

-- tickets are asked for on the link to the monitor that is open
abbrev pub renews_on : WholeClientNode → ℕ → ℕ → List ℕ → Option (Link ClientStage × (Secured × Requests)) → Outcome WholeClientNode
renews_on c services reading draw None = refuses_command c reason.NoSession
renews_on c services reading draw (Some (link, (s, requests))) =
    carried_out c link.number false
    (lifted (with_mon_client c.own) (asks_tickets open_to_ask (arrival (me c.own) c.own.mon_client link reading draw) s requests services))

abbrev pub renews : WholeClientNode → ℕ → ℕ → List ℕ → Outcome WholeClientNode
renews c services reading draw = renews_on c services reading draw (first_open asking_open c.links)

-- ---- Connect

abbrev pub is_to : Name → ClientStage → Bool
is_to daemon (ToMonitor stage) = false
is_to daemon (ToDaemon stage) = same_name (callee_of stage).daemon daemon

abbrev pub is_for : Name → Dial → Bool
is_for daemon (ForLogin services) = false
is_for daemon (ForCall called) = same_name called.callee.daemon daemon

abbrev pub waits_for_call : List Dial → Called → List Dial
waits_for_call dials called = filter (λ dial. not (is_for called.callee.daemon dial)) dials ++ ForCall called ∷ []

-- a link to the daemon is opened, and the client's connections to daemons are counted
abbrev pub calls : WholeClientNode → Called → Outcome WholeClientNode
calls c called = record {
  state = record c {
    own = record c.own {
      mon_client = record c.own.mon_client { global_seq = c.own.mon_client.global_seq + 1 };
      dials = waits_for_call c.own.dials called;
    };
  };
  out = record nothing { opens = peer.Daemon called.callee.daemon ∷ [] };
}

abbrev pub calls_with : WholeClientNode → Callee → Option Held → Outcome WholeClientNode
calls_with c callee None = refuses_command c (reason.NoTicket callee.daemon.kind)
calls_with c callee (Some held) =
    if c.own.mon_client.global_seq == 2 ^ 64 - 1 then refuses_command c reason.Spent
    else calls c (record { callee = callee; held = held; gid = held_gid c.own.mon_client.holdings })

-- while a link to that daemon lives there is no other
abbrev pub connects : WholeClientNode → Name → Bool → Outcome WholeClientNode
connects c daemon lossy =
    if list_any (λ link. is_to daemon link.stage) c.links then refuses_command c reason.Busy
    else calls_with c (record { daemon = daemon; lossy = lossy }) (ticket_for daemon.kind c.own.mon_client.holdings)

-- ---- Send

-- why an operation can't wait; want of memory is no refusal of a definition
abbrev pub queue_reason : QueueFault → Reason
queue_reason (queue.QueueFull limit) = reason.QueueFull
queue_reason queue.Spent = reason.Spent
queue_reason queue.OutOfMemory = reason.Spent

-- what an open link to this daemon keeps
abbrev pub call_open : Name → ClientStage → Option (Secured × (Callee × ℕ))
call_open daemon (ToDaemon (call.Open s callee cookie)) = if same_name callee.daemon daemon then Some (s, (callee, cookie)) else None
call_open daemon _ = None

abbrev pub call_or : Link ClientStage → Option (Secured × (Callee × ℕ)) → Option (Link ClientStage × (Secured × (Callee × ℕ)))
    → Option (Link ClientStage × (Secured × (Callee × ℕ)))
call_or link None behind = behind
call_or link (Some kept) behind = Some (link, kept)

-- the first link to it that is open
abbrev pub first_call : Name → List (Link ClientStage) → Option (Link ClientStage × (Secured × (Callee × ℕ)))
first_call daemon [] = None
first_call daemon (link ∷ links) = call_or link (call_open daemon link.stage) (first_call daemon links)

abbrev pub sent_entry : WholeClient → HeldSession → ℕ → Operation → Entry
sent_entry client session seq operation = entry.Sent (record {
  client = client.mon_client.name;
  daemon = session.daemon;
  cookie = session.client_cookie;
  seq = seq;
  operation = operation;
})

-- that it was sent is entered; the message is sent where a link is open, else with the next one that is
abbrev pub sends_on : WholeClientNode → Entry → ℕ × Operation → ℕ → List ℕ → Option (Link ClientStage × (Secured × (Callee × ℕ))) → Outcome WholeClientNode
sends_on c sent ask reading draw None = record { state = c; out = record nothing { entries = sent ∷ [] } }
sends_on c sent ask reading draw (Some (link, (s, (callee, cookie)))) =
    carried_out c link.number false (entered_before sent
    (sends_secure (arrival (me c.own) c.own link reading draw) s (λ behind. ToDaemon (call.Open behind callee cookie)) [] (operation_message ask)))

abbrev pub having_session : WholeClientNode → HeldSession → WholeClientNode
having_session c session = record c { own = record c.own { sessions = put_session session c.own.sessions } }

-- the operation waits until it is acknowledged
abbrev pub pushes : WholeClientNode → HeldSession → Operation → ℕ → List ℕ → Result ℕ QueueFault → Outcome WholeClientNode
pushes c session operation reading draw (Err why) = refuses_command c (queue_reason why)
pushes c session operation reading draw (Ok seq) =
    sends_on (having_session c (record session { queue = pushed session.queue operation })) (sent_entry c.own session seq operation)
    (seq, operation) reading draw (first_call session.daemon c.links)

abbrev pub sends_in : WholeClientNode → Operation → ℕ → List ℕ → Option HeldSession → Outcome WholeClientNode
sends_in c operation reading draw None = refuses_command c reason.NoSession
sends_in c operation reading draw (Some session) = pushes c session operation reading draw (push_reply session.queue)

abbrev pub sends : WholeClientNode → Name → Operation → ℕ → List ℕ → Outcome WholeClientNode
sends c daemon operation reading draw = sends_in c operation reading draw (session_with daemon c.own.sessions)

abbrev pub submits : WholeClientNode → ℕ → List ℕ → Command → Outcome WholeClientNode
submits c reading draw (command.Login services) = logs_in c services
submits c reading draw (command.Renew services) = renews c services reading draw
submits c reading draw (command.Connect daemon lossy) = connects c daemon lossy
submits c reading draw (command.Send daemon operation) = sends c daemon operation reading draw
submits c reading draw command.Fetch = idles c
submits c reading draw (command.Drop session) = idles c

-- ---- links that open, that can't be opened, and that are gone

-- what a link to a peer is waited for
abbrev pub dial_of : Peer → Dial → Bool
dial_of peer.Monitor dial = is_for_login dial
dial_of (peer.Daemon daemon) dial = is_for daemon dial

abbrev pub first_stage : Dial → ClientStage
first_stage (ForLogin services) = ToMonitor (connector.AwaitsBanner services)
first_stage (ForCall called) = ToDaemon (call.AwaitsBanner called)

-- a link to this peer isn't waited for any more
abbrev pub undialled : WholeClientNode → Peer → WholeClientNode
undialled c peer = record c { own = record c.own { dials = filter (λ dial. not (dial_of peer dial)) c.own.dials } }

-- the banner is sent on a link that is waited for; any other is passed over
abbrev pub opens_dialled : WholeClientNode → ℕ → List ℕ → ℕ → Peer → Option Dial → Outcome WholeClientNode
opens_dialled c reading draw number peer None = idles c
opens_dialled c reading draw number peer (Some dial) =
    carried_out (undialled c peer) number false
    (goes_on (arrival (me c.own) (undialled c peer).own (new_link number (first_stage dial)) reading draw) (first_stage dial) own_banner [])

abbrev pub opens : WholeClientNode → ℕ → List ℕ → ℕ → Option Peer → Outcome WholeClientNode
opens c reading draw number None = idles c
opens c reading draw number (Some peer) = opens_dialled c reading draw number peer (find (dial_of peer) c.own.dials)

abbrev pub unreached : WholeClientNode → Peer → Outcome WholeClientNode
unreached c peer = opens_none (undialled c peer) (me c.own)

-- whether a link is open
abbrev pub is_open : ClientStage → Bool
is_open (ToMonitor stage) = connector.is_open stage
is_open (ToDaemon stage) = call.is_open stage

-- a lossy session with a daemon is forgotten with a link to it
abbrev pub own_behind_gone : WholeClient → ClientStage → WholeClient
own_behind_gone client (ToMonitor stage) = client
own_behind_gone client (ToDaemon stage) =
    record client { sessions = filter (λ session. not (session.lossy && same_name session.daemon (callee_of stage).daemon)) client.sessions }

-- that a link is lost is entered where it wasn't open yet
abbrev pub loses : WholeClientNode → Option (Link ClientStage) → Outcome WholeClientNode
loses c None = idles c
loses c (Some link) = record {
  state = record (forgotten c link.number) { own = own_behind_gone c.own link.stage };
  out = record nothing { entries = if is_open link.stage then [] else refused_entry (me c.own) link.number reason.Lost ∷ [] };
}

-- a client as it begins
abbrev pub opening_whole_client : MonClient → WholeClientNode
opening_whole_client mon_client = record { own = record { mon_client = afresh mon_client; dials = []; sessions = [] }; links = [] }

-- a client begins anew, with its name, its secret, its address and its modes
abbrev pub restarted : WholeClientNode → Outcome WholeClientNode
restarted c = record {
  state = opening_whole_client c.own.mon_client;
  out = record nothing { entries = entry.Restarted (me c.own) ∷ [] };
}

-- ---- events

-- what a client does at an event with this reading and this draw
abbrev pub whole_client_rule : WholeClientNode → Input → ℕ → List ℕ → Outcome WholeClientNode
whole_client_rule c (Opened number peer) reading draw = opens c reading draw number peer
whole_client_rule c (NoLink peer) reading draw = unreached c peer
whole_client_rule c (Bytes number bytes) reading draw = fed c bytes (link_of number c.links)
whole_client_rule c (Turn number) reading draw = turn c reading draw (link_of number c.links)
whole_client_rule c (Gone number) reading draw = loses c (link_of number c.links)
whole_client_rule c (Submit command) reading draw = submits c reading draw command
whole_client_rule c Restart reading draw = restarted c
whole_client_rule c (Look view) reading draw = idles c
whole_client_rule c Tick reading draw = idles c

-- whether nothing is waited for on a link: it is open, no request waits on it, and no operation of the session with its daemon
abbrev pub is_at_rest : List HeldSession → ClientStage → Bool
is_at_rest sessions (ToMonitor stage) = connector.is_quiet stage
is_at_rest sessions (ToDaemon (call.Open s callee cookie)) = not (is_unacknowledged (session_with callee.daemon sessions))
is_at_rest sessions (ToDaemon stage) = false

-- a client is idle where nothing is waited for on any live link
abbrev pub is_idle : WholeClientNode → Bool
is_idle c = list_all (λ link. is_at_rest c.own.sessions link.stage) c.links
