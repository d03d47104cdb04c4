-- The daemon as its machine holds it.
use Rattle.std.specs.Prelude.{ℕ, ◌≡◌, Bool, true, List, [], Some, if◌then◌else◌}
use Rattle.std.specs.Option.{option_map}
use Rattle.cx_verifying.specs.cx_authorize.specs.Daemon.{Authority}
use Rattle.cx_base.specs.Names.{Name}
use Rattle.cx_base.specs.declared.addresses.Addr.{Addr}
use Rattle.cx_enc.specs.declared.keys.Key.{Key}
use Rattle.cx_holdings.specs.declared.offers.OfferedModes.{OfferedModes}
use Rattle.cx_journal.specs.declared.outcomes.Reason.TheVariants.{LinksFull}
use Rattle.cx_node.specs.cx_rules.specs.Acceptor as acceptor
use Rattle.cx_node.specs.cx_rules.specs.Connector as connector
use Rattle.cx_node.specs.cx_rules.specs.Greetings.{own_banner}
use Rattle.cx_node.specs.cx_rules.specs.Holdings.{MonClient, holds_nothing, modes_of, no_view}
use Rattle.cx_node.specs.cx_rules.specs.Inputs.{Input, Opened, NoLink}
use Rattle.cx_node.specs.cx_rules.specs.Links.{Link}
use Rattle.cx_node.specs.cx_rules.specs.Requests.{Requests, asks_rotating, first_open}
use Rattle.cx_node.specs.cx_rules.specs.Rows.{Outcome, Row, arrival, goes_on, lifted, new_link, refuses}
use Rattle.cx_node.specs.cx_rules.specs.Secured.{Secured}
use Rattle.cx_verifying.specs.cx_rules_session.specs.Asks.{with_book}
use Rattle.cx_verifying.specs.cx_rules_session.specs.DaemonRule.{AsAcceptor, AsConnector, Daemon, DaemonNode, DaemonStage, DaemonState, asking_open, book_after, book_reply, opening_daemon, me, open_to_ask, undialled, with_mon_client}
use Rattle.cx_verifying.specs.cx_rules_session.specs.Forgets.{abridged_daemon_link, abridged_state}
use Rattle.cx_verifying.specs.cx_rules_session.specs.Hosting.{Deciding}
use Rattle.cx_verifying.specs.cx_rules_session.specs.Kinds.{of_kind}
use Rattle.cx_session.specs.Book.{Book, empty_book}
use Rattle.cx_steps.specs.declared.effects.Effects.{Effects}
use Rattle.cx_steps.specs.declared.events.Peer.TheVariants as peer
use Rattle.cx_node.specs.steps.Events.{link_in}
use Rattle.cx_node.specs.steps.Steps as steps
use Rattle.cx_node.specs.steps.Steps.{without_lost}
use Rattle.cx_daemon_events.specs.Kinds.{DaemonLink}

abbrev pub DaemonRow : Type 0
DaemonRow = Row Daemon DaemonStage

-- one that asks the monitor as it begins, with its name, its key, its modes and its address: it holds nothing yet
abbrev pub opening_mon_client : Name → Key → OfferedModes → Addr → MonClient
opening_mon_client name key modes address = record {
  name = name;
  secret = key.secret;
  address = address;
  modes = modes_of modes.crc modes.secure;
  global_seq = 0;
  holdings = holds_nothing;
  view = no_view;
}

-- how a daemon holds its links
abbrev pub AreHeld : List DaemonLink → Type 0
AreHeld links = steps.AreHeld abridged_daemon_link links

-- a link to the monitor isn't waited for any more at the event that tells of one, whatever comes of it
abbrev pub undialled_at : Input → DaemonNode → DaemonNode
undialled_at (Opened number (Some peer.Monitor)) d = undialled d
undialled_at (NoLink peer.Monitor) d = undialled d
undialled_at _ d = d

-- where memory is wanting, the event's link is forgotten, a link that is waited for is given up at the event that tells of one, and nothing else
-- happens
abbrev pub lost : DaemonNode → Input → DaemonNode
lost d input = without_lost (link_in input) (undialled_at input d)

-- what a step gave, and the daemon behind it, are those of the rules, abridged
abbrev pub IsStep : DaemonNode → Outcome DaemonNode → Effects → Type 0
IsStep d due given = steps.IsStep abridged_daemon_link d due given

-- the same with its book of sessions, which is that of the rules behind the step
abbrev pub IsBookStep : DaemonNode → Book Authority → Book Authority → Deciding (Outcome DaemonNode) → Effects → Type 0
IsBookStep d old new rule given = IsStep d (with_book book_reply book_after old rule).0 given × (new ≡ (with_book book_reply book_after old rule).1)

-- the state of a daemon with this book
abbrev pub state_of : Daemon → List DaemonLink → Book Authority → DaemonState
state_of own links book = record { node = record { own = own; links = links }; book = book }

-- as it begins
abbrev pub opening_state : MonClient → DaemonState
opening_state mon_client = record { node = opening_daemon mon_client; book = empty_book }

-- where memory is wanting, the sessions are as before
abbrev pub lost_state : Input → DaemonState → DaemonState
lost_state input s = record s { node = lost s.node input }

-- what a step gave, and the state behind it, are those of the rules, abridged
pub record IsStateStep (new : DaemonState) (due : Outcome DaemonState) (given : Effects) : Type 0 where
  pub out : given ≡ due.out
  pub state : new ≡ abridged_state due.state

-- ---- a link of its own opens

-- the banner is sent on a link of this number, for a login that asks for no tickets but the one for AUTH
abbrev pub banner_sent : Daemon → ℕ → ℕ → List ℕ → DaemonRow
banner_sent own number reading draw =
    let stage : DaemonStage = AsConnector (connector.AwaitsBanner 0) in goes_on (arrival (me own) own (new_link number stage) reading draw) stage own_banner []

-- the banner is sent on an incoming link of this number, unless there is no place for it
abbrev pub incoming_greeted : Bool → Daemon → ℕ → ℕ → List ℕ → DaemonRow
incoming_greeted full own number reading draw =
    let stage : DaemonStage = AsAcceptor acceptor.AwaitsBanner in
    let a = arrival (me own) own (new_link number stage) reading draw in
    if full then refuses a LinksFull [] else goes_on a stage own_banner []

-- ---- a fetch

-- the first of these links that is an open one to the monitor
pub record IsFirstOpen (links : List DaemonLink) (link : Link connector.Stage) : Type 0 where
  pub opened : connector.is_open link.stage ≡ true
  pub first : first_open asking_open links ≡ option_map (λ kept. (of_kind AsConnector link, kept)) (connector.kept_open link.stage)

-- generations are asked for on a link that is open, and keeps this
abbrev pub generations_asked : Daemon → ℕ → List ℕ → Link connector.Stage → Secured → Requests → DaemonRow
generations_asked own reading draw link s requests =
    lifted (with_mon_client own) (asks_rotating open_to_ask (arrival (me own) own.mon_client (of_kind AsConnector link) reading draw) s requests)
