-- What a daemon does at each event: as acceptor of its clients, and as one that asks the monitor for the generations of its own type.
use Rattle.std.specs.Prelude.{ℕ, ◌==◌, ◌&&◌, ◌||◌, not, Bool, true, false, List, [], ◌∷◌, ◌++◌, filter, length, map, nat_le, Option, Some, None, if◌then◌else◌}
use Rattle.std.specs.List.{list_any}
use Rattle.cx_authorize.specs.Daemon.{Authority}
use Rattle.cx_session.specs.cx_base.specs.Names.{Name}
use Rattle.cx_session.specs.cx_base.specs.declared.nodes.NodeName.{NodeName}
use Rattle.cx_session.specs.cx_base.specs.declared.nodes.NodeName.TheVariants as node
use Rattle.cx_desk.specs.Handlers.{Handlers}
use Rattle.cx_authorize.specs.cx_journal.specs.declared.entries.Entry.{Entry}
use Rattle.cx_authorize.specs.cx_journal.specs.declared.entries.Entry.TheVariants as entry
use Rattle.cx_authorize.specs.cx_journal.specs.declared.outcomes.Reason.TheVariants.{LinksFull, Lost}
use Rattle.cx_rules.specs.cx_rotate.specs.declared.views.View.{View}
use Rattle.cx_session.specs.Answers.{after, replied}
use Rattle.cx_session.specs.Book.{Book, empty_book}
use Rattle.cx_session.specs.declared.call.BookCall.{BookCall}
use Rattle.cx_session.specs.declared.call.BookCall.TheVariants.{End}
use Rattle.cx_session.specs.declared.call.BookReply.{BookReply}
use Rattle.cx_session.specs.declared.call.BookReply.TheVariants.{Ended}
use Rattle.cx_rules.specs.cx_steps.specs.Nothing.{nothing}
use Rattle.cx_rules.specs.cx_steps.specs.declared.events.Command.{Command}
use Rattle.cx_rules.specs.cx_steps.specs.declared.events.Command.TheVariants as command
use Rattle.cx_rules.specs.cx_steps.specs.declared.events.Peer.{Peer}
use Rattle.cx_rules.specs.cx_steps.specs.declared.events.Peer.TheVariants as peer
use Rattle.cx_rules.specs.Acceptor as acceptor
use Rattle.cx_rules.specs.Connector as connector
use Rattle.cx_rules.specs.Greetings.{own_banner}
use Rattle.cx_rules.specs.Holdings.{MonClient, afresh}
use Rattle.cx_rules.specs.Inputs.{Input, Opened, NoLink, Bytes, Turn, Gone, Look, Tick, Submit, Restart}
use Rattle.cx_rules.specs.Links.{Link, link_of}
use Rattle.cx_rules.specs.Requests.{Requests, asks_rotating, carries_fetch, first_open, is_outdated}
use Rattle.cx_rules.specs.Rows.{Arrival, Node, Outcome, arrival, carried_out, fed, forgotten, goes_on, idles, lifted, new_link, opens_none, refused_entry, refuses, turns}
use Rattle.cx_rules.specs.Secured.{Secured}
use Rattle.cx_rules_session.specs.Asks.{Finished, Asking, answered, asks_map, with_book}
use Rattle.cx_rules_session.specs.IncomingLinks.{IncomingStage}
use Rattle.cx_rules_session.specs.Hosting.{Deciding, Hosted, incoming_turned}
use Rattle.cx_rules_session.specs.Kinds.{arrival_in, turn_of_kind}

-- ---- a daemon

-- a link is a client's, or the daemon's own to the monitor
pub data DaemonStage : Type 0 where
  AsAcceptor : IncomingStage → DaemonStage
  AsConnector : connector.Stage → DaemonStage

-- what it has of its own: itself as one that asks the monitor, and whether it waits for a link to the monitor that it opens
pub record Daemon : Type 0 where
  pub mon_client : MonClient
  pub dials : Bool

abbrev pub DaemonNode : Type 0
DaemonNode = Node Daemon DaemonStage

abbrev pub me : Daemon → NodeName
me daemon = node.Entity daemon.mon_client.name

abbrev pub with_mon_client : Daemon → MonClient → Daemon
with_mon_client daemon mon_client = record daemon { mon_client = mon_client }

-- ---- a session's links

-- whether a link is open in this session
abbrev pub is_in : ℕ → DaemonStage → Bool
is_in session (AsAcceptor (acceptor.Open s served)) = served.number == session
is_in session _ = false

-- and is another link than this one
abbrev pub is_older : ℕ → ℕ → Link DaemonStage → Bool
is_older number session link = is_in session link.stage && not (link.number == number)

-- what comes of a step, with these links shut
abbrev pub shut_where : (Link DaemonStage → Bool) → Outcome DaemonNode → Outcome DaemonNode
shut_where is_shut o = record {
  state = record o.state { links = filter (λ link. not (is_shut link)) o.state.links };
  out = record o.out { shuts = map (λ link. link.number) (filter is_shut o.state.links) ++ o.out.shuts };
}

-- a session that moved to a link has its older ones shut
abbrev pub moved_to : ℕ → Option ℕ → Outcome DaemonNode → Outcome DaemonNode
moved_to number None o = o
moved_to number (Some session) o = shut_where (is_older number session) o

-- ---- a turn

abbrev pub hosts : DaemonNode → Arrival Daemon DaemonStage → Hosted → Outcome DaemonNode
hosts d a hosted = moved_to a.link.number hosted.moved (turns d a (turn_of_kind (with_mon_client d.own) AsAcceptor hosted.turned))

-- by the kind of the link
abbrev pub turned_at : Handlers → DaemonNode → Arrival Daemon DaemonStage → DaemonStage → Deciding (Outcome DaemonNode)
turned_at handlers d a (AsAcceptor stage) = asks_map (hosts d a) (incoming_turned handlers (arrival_in a a.own.mon_client stage) stage)
turned_at handlers d a (AsConnector stage) =
    Finished (turns d a (turn_of_kind (with_mon_client d.own) AsConnector (connector.turned_at (arrival_in a a.own.mon_client stage) stage)))

abbrev pub turn : Handlers → DaemonNode → ℕ → List ℕ → Option (Link DaemonStage) → Deciding (Outcome DaemonNode)
turn handlers d reading draw None = Finished (idles d)
turn handlers d reading draw (Some link) = turned_at handlers d (arrival (me d.own) d.own link reading draw) link.stage

-- ---- fetches

-- a daemon opens a link to the monitor in order to fetch: on such a link a fetch is under way until it is open, and then while its request for
-- generations waits
abbrev pub is_for_fetch : DaemonStage → Bool
is_for_fetch (AsAcceptor stage) = false
is_for_fetch (AsConnector (connector.Open s requests)) = carries_fetch requests
is_for_fetch (AsConnector stage) = true

abbrev pub is_fetching : DaemonNode → Bool
is_fetching d = d.own.dials || list_any (λ link. is_for_fetch link.stage) d.links

-- what an open link to the monitor keeps
abbrev pub asking_open : DaemonStage → Option (Secured × Requests)
asking_open (AsAcceptor stage) = None
asking_open (AsConnector stage) = connector.kept_open stage

abbrev pub open_to_ask : Secured → Requests → DaemonStage
open_to_ask s requests = AsConnector (connector.Open s requests)

-- the generations are asked for on the link to the monitor that is open; where none is, one is opened
abbrev pub fetches_on : DaemonNode → ℕ → List ℕ → Option (Link DaemonStage × (Secured × Requests)) → Outcome DaemonNode
fetches_on d reading draw None =
    record { state = record d { own = record d.own { dials = true } }; out = record nothing { opens = peer.Monitor ∷ [] } }
fetches_on d reading draw (Some (link, (s, requests))) =
    carried_out d link.number false
    (lifted (with_mon_client d.own) (asks_rotating open_to_ask (arrival (me d.own) d.own.mon_client link reading draw) s requests))

-- while a fetch is under way there is no other
abbrev pub fetches : DaemonNode → ℕ → List ℕ → Outcome DaemonNode
fetches d reading draw = if is_fetching d then idles d else fetches_on d reading draw (first_open asking_open d.links)

-- at a tick a daemon fetches where it holds no generations, or the second of them has expired
abbrev pub ticks : DaemonNode → ℕ → List ℕ → Outcome DaemonNode
ticks d reading draw = if is_outdated reading d.own.mon_client.view then fetches d reading draw else idles d

-- ---- links that open, that can't be opened, and that are gone

-- an incoming link: the banner is sent, unless 1,024 links live
abbrev pub opens_incoming : DaemonNode → ℕ → List ℕ → ℕ → Outcome DaemonNode
opens_incoming d reading draw number =
    let stage : DaemonStage = AsAcceptor acceptor.AwaitsBanner in
    let a = arrival (me d.own) d.own (new_link number stage) reading draw in
    carried_out d number false (if nat_le 1024 (length d.links) then refuses a LinksFull [] else goes_on a stage own_banner [])

-- no link is waited for any more
abbrev pub undialled : DaemonNode → DaemonNode
undialled d = record d { own = record d.own { dials = false } }

-- the daemon's own link: the banner is sent on it, for a login that asks for no tickets but the one for AUTH
abbrev pub opens_own : DaemonNode → ℕ → List ℕ → ℕ → Outcome DaemonNode
opens_own d reading draw number =
    let stage : DaemonStage = AsConnector (connector.AwaitsBanner 0) in
    carried_out d number false (goes_on (arrival (me d.own) d.own (new_link number stage) reading draw) stage own_banner [])

-- a link that isn't waited for is passed over
abbrev pub opens : DaemonNode → ℕ → List ℕ → ℕ → Option Peer → Outcome DaemonNode
opens d reading draw number None = opens_incoming d reading draw number
opens d reading draw number (Some peer.Monitor) = if d.own.dials then opens_own (undialled d) reading draw number else idles d
opens d reading draw number (Some (peer.Daemon daemon)) = idles d

abbrev pub unreached : DaemonNode → Peer → Outcome DaemonNode
unreached d peer.Monitor = opens_none (undialled d) (me d.own)
unreached d (peer.Daemon daemon) = opens_none d (me d.own)

-- that the daemon's own link is lost is entered where it wasn't open yet
abbrev pub loses : DaemonNode → ℕ → connector.Stage → Outcome DaemonNode
loses d number stage = record {
  state = forgotten d number;
  out = record nothing { entries = if connector.is_open stage then [] else refused_entry (me d.own) number Lost ∷ [] };
}

abbrev pub ended_entry : DaemonNode → ℕ → Entry
ended_entry d session = entry.Ended (record { daemon = d.own.mon_client.name; session = session })

-- an incoming link is forgotten, and that its session ended is entered where that lived
abbrev pub lossy_gone : DaemonNode → ℕ → ℕ → BookReply → Deciding (Outcome DaemonNode)
lossy_gone d number session (Ended true) = Finished (record { state = forgotten d number; out = record nothing { entries = ended_entry d session ∷ [] } })
lossy_gone d number session (Ended false) = Finished (idles (forgotten d number))
lossy_gone d number session _ = Finished (idles d)

-- an open link that is gone ends a lossy session
abbrev pub incoming_gone : DaemonNode → ℕ → IncomingStage → Deciding (Outcome DaemonNode)
incoming_gone d number (acceptor.Open s served) =
    if served.lossy then Asking (End served.number) (lossy_gone d number served.number) else Finished (idles (forgotten d number))
incoming_gone d number _ = Finished (idles (forgotten d number))

abbrev pub gone_by_kind : DaemonNode → ℕ → DaemonStage → Deciding (Outcome DaemonNode)
gone_by_kind d number (AsAcceptor stage) = incoming_gone d number stage
gone_by_kind d number (AsConnector stage) = Finished (loses d number stage)

abbrev pub gone : DaemonNode → Option (Link DaemonStage) → Deciding (Outcome DaemonNode)
gone d None = Finished (idles d)
gone d (Some link) = gone_by_kind d link.number link.stage

-- ---- commands

-- a session that lived has ended, and its links are shut
abbrev pub on_dropped : DaemonNode → ℕ → BookReply → Deciding (Outcome DaemonNode)
on_dropped d session (Ended true) =
    Finished (shut_where (λ link. is_in session link.stage) (record { state = d; out = record nothing { entries = ended_entry d session ∷ [] } }))
on_dropped d session _ = Finished (idles d)

abbrev pub drops : DaemonNode → ℕ → Deciding (Outcome DaemonNode)
drops d session = Asking (End session) (on_dropped d session)

abbrev pub submits : DaemonNode → ℕ → List ℕ → Command → Deciding (Outcome DaemonNode)
submits d reading draw command.Fetch = Finished (fetches d reading draw)
submits d reading draw (command.Drop session) = drops d session
submits d reading draw (command.Login services) = Finished (idles d)
submits d reading draw (command.Renew services) = Finished (idles d)
submits d reading draw (command.Connect daemon lossy) = Finished (idles d)
submits d reading draw (command.Send daemon operation) = Finished (idles d)

-- ---- looks, and beginning anew

-- the view is another one from now on
abbrev pub looks : DaemonNode → View → Outcome DaemonNode
looks d view = idles (record d { own = record d.own { mon_client = record d.own.mon_client { view = view } } })

-- a daemon as it begins
abbrev pub opening_daemon : MonClient → DaemonNode
opening_daemon mon_client = record { own = record { mon_client = afresh mon_client; dials = false }; links = [] }

-- a daemon begins anew, with its name, its secret, its address and its modes
abbrev pub restarted : DaemonNode → Outcome DaemonNode
restarted d = record {
  state = opening_daemon d.own.mon_client;
  out = record nothing { entries = entry.Restarted (me d.own) ∷ [] };
}

-- ---- events

-- what a daemon does at an event with this reading and this draw, by the replies of a book
abbrev pub daemon_rule : Handlers → DaemonNode → Input → ℕ → List ℕ → Deciding (Outcome DaemonNode)
daemon_rule handlers d (Opened number peer) reading draw = Finished (opens d reading draw number peer)
daemon_rule handlers d (NoLink peer) reading draw = Finished (unreached d peer)
daemon_rule handlers d (Bytes number bytes) reading draw = Finished (fed d bytes (link_of number d.links))
daemon_rule handlers d (Turn number) reading draw = turn handlers d reading draw (link_of number d.links)
daemon_rule handlers d (Gone number) reading draw = gone d (link_of number d.links)
daemon_rule handlers d (Submit command) reading draw = submits d reading draw command
daemon_rule handlers d Tick reading draw = Finished (ticks d reading draw)
daemon_rule handlers d (Look view) reading draw = Finished (looks d view)
daemon_rule handlers d Restart reading draw = Finished (restarted d)

-- a daemon is idle where no fetch is under way
abbrev pub is_idle : DaemonNode → Bool
is_idle d = not (is_fetching d)

-- ---- with a book of its own, and by the replies of another one

pub record DaemonState : Type 0 where
  pub node : DaemonNode
  pub book : Book Authority

-- of an owner of a session the entity and the global id of the ticket count
abbrev pub owner_entity : Authority → Name
owner_entity owner = owner.ticket.name

abbrev pub owner_gid : Authority → ℕ
owner_gid owner = owner.ticket.gid

abbrev pub book_reply : Book Authority → BookCall Authority → BookReply
book_reply = replied owner_entity owner_gid

abbrev pub book_after : Book Authority → BookCall Authority → Book Authority
book_after = after owner_entity owner_gid

-- no session outlives a daemon that begins anew
abbrev pub book_behind : Input → Book Authority → Book Authority
book_behind Restart book = empty_book
book_behind _ book = book

abbrev pub state_behind : Input → Outcome DaemonNode × Book Authority → Outcome DaemonState
state_behind input (o, book) = record { state = record { node = o.state; book = book_behind input book }; out = o.out }

-- what a daemon does at an event, with its book
abbrev pub daemon_step : Handlers → DaemonState → Input → ℕ → List ℕ → Outcome DaemonState
daemon_step handlers d input reading draw = state_behind input (with_book book_reply book_after d.book (daemon_rule handlers d.node input reading draw))

-- what it comes to by the replies so far of a book that is kept elsewhere
abbrev pub daemon_told : Handlers → DaemonNode → Input → ℕ → List ℕ → List BookReply → Deciding (Outcome DaemonNode)
daemon_told handlers d input reading draw replies = answered (daemon_rule handlers d input reading draw) replies
