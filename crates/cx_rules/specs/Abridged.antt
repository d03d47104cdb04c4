-- What a machine may forget of its links once they are secured: the bytes that it took and those that it sent, and, behind the peer's
-- signature, what signatures cover. As long as frames are plain it forgets nothing: AUTH_SIGNATURE covers all that came and was sent.
use Rattle.std.specs.Prelude.{◌≡◌, ◌≤◌, [], length, map}
use Rattle.std.specs.List.{AllByRecursion}
use Rattle.std.specs.Option.{option_map}
use Rattle.cx_rules.specs.Acceptor.{Stage, AwaitsSignature, AwaitsIdent, Open}
use Rattle.cx_rules.specs.Connector as connector
use Rattle.cx_rules.specs.Fronts.{ahead_of}
use Rattle.cx_rules.specs.Links.{Link}
use Rattle.cx_rules.specs.Monitor.{MonitorNode}
use Rattle.cx_rules.specs.Rows.{Node, Row}
use Rattle.cx_rules.specs.Secured.{Secured}

-- ---- a link

-- with its keys alone: nothing is left to be signed, or to be found signed
abbrev pub unsigned : Secured → Secured
unsigned s = record s { session = []; covered = [] }

module _ {Stage : Type 0} where
  -- a link in this stage, of whose bytes those are left that came and weren't taken
  abbrev pub cut : Link Stage → Stage → Link Stage
  cut link stage = record { number = link.number; received = ahead_of link; taken = 0; sent = []; stage = stage }

  -- no more was taken of it than came
  abbrev pub IsWithin : Link Stage → Type 0
  IsWithin link = link.taken ≤ length link.received

-- a link of an acceptor, in its stage
module _ {Pending Proven Peer : Type 0} where
  abbrev pub abridged_at : Link (Stage Pending Proven Peer) → Stage Pending Proven Peer → Link (Stage Pending Proven Peer)
  abridged_at link (AwaitsSignature s peer) = cut link (AwaitsSignature s peer)
  abridged_at link (AwaitsIdent s peer) = cut link (AwaitsIdent (unsigned s) peer)
  abridged_at link (Open s peer) = cut link (Open (unsigned s) peer)
  abridged_at link _ = link

  abbrev pub abridged_link : Link (Stage Pending Proven Peer) → Link (Stage Pending Proven Peer)
  abridged_link link = abridged_at link link.stage

-- a link of one that logs in, in its stage
abbrev pub abridged_mon_client_at : Link connector.Stage → connector.Stage → Link connector.Stage
abridged_mon_client_at link (connector.AwaitsSignature s login) = cut link (connector.AwaitsSignature s login)
abridged_mon_client_at link (connector.AwaitsIdent s session) = cut link (connector.AwaitsIdent (unsigned s) session)
abridged_mon_client_at link (connector.Open s requests) = cut link (connector.Open (unsigned s) requests)
abridged_mon_client_at link _ = link

abbrev pub abridged_mon_client_link : Link connector.Stage → Link connector.Stage
abridged_mon_client_link link = abridged_mon_client_at link link.stage

-- ---- a node

module _ {Own Stage : Type 0} where
  abbrev pub abridged_row : (Link Stage → Link Stage) → Row Own Stage → Row Own Stage
  abridged_row abridged row = record row { link = option_map abridged row.link }

  abbrev pub abridged_node : (Link Stage → Link Stage) → Node Own Stage → Node Own Stage
  abridged_node abridged node = record node { links = map abridged node.links }

abbrev pub abridged_monitor : MonitorNode → MonitorNode
abridged_monitor m = abridged_node abridged_link m

-- what a machine holds stands for a state of the rules, which forget nothing: it is that state, abridged
pub record StandsFor {Own Stage : Type 0} (abridged : Link Stage → Link Stage) (m s : Node Own Stage) : Type 0 where
  pub held : m ≡ abridged_node abridged s
  pub within : AllByRecursion IsWithin s.links

abbrev pub MonitorStandsFor : MonitorNode → MonitorNode → Type 0
MonitorStandsFor m s = StandsFor abridged_link m s
