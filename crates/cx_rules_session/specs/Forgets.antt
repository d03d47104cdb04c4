-- What a machine may forget of a daemon's links and of a client's, as the rules' `Abridged` says it of the monitor's: once a link is secured, the
-- bytes that it took and those that it sent, and, behind the peer's signature, what signatures cover. And when two rules that ask a book come to
-- the same.
use Rattle.std.specs.Prelude.{◌≡◌}
use Rattle.cx_rules.specs.Abridged.{StandsFor, abridged_mon_client_at, abridged_at, abridged_node, cut, unsigned}
use Rattle.cx_rules.specs.Links.{Link}
use Rattle.cx_rules.specs.Rows.{Outcome}
use Rattle.cx_rules_session.specs.Asks.{Asks, Finished, Asking}
use Rattle.cx_rules_session.specs.ClientRule.{ClientStage, ToMonitor, ToDaemon, WholeClientNode}
use Rattle.cx_rules_session.specs.DaemonRule.{DaemonNode, DaemonStage, AsAcceptor, AsConnector, DaemonState}
use Rattle.cx_rules_session.specs.Kinds.{in_stage, of_kind}
use Rattle.cx_rules_session.specs.Presenter.{CallStage, AwaitsSignature, AwaitsIdent, AwaitsReconnect, Open}

-- ---- two rules

-- they make the same calls, and by each reply they go on alike, to what is related
abbrev pub AskAlike : {C R X Y : Type 0} → (X → Y → Type 0) → Asks C R X → Asks C R Y → Type 0
AskAlike Related (Finished x) (Finished y) = Related x y
AskAlike {R = R} Related (Asking call next) (Asking other after) = (call ≡ other) × ((reply : R) → AskAlike Related (next reply) (after reply))
AskAlike Related _ _ = ⊥

-- ---- a daemon

-- a link of either kind
abbrev pub abridged_daemon_at : Link DaemonStage → DaemonStage → Link DaemonStage
abridged_daemon_at link (AsAcceptor stage) = of_kind AsAcceptor (abridged_at (in_stage link stage) stage)
abridged_daemon_at link (AsConnector stage) = of_kind AsConnector (abridged_mon_client_at (in_stage link stage) stage)

abbrev pub abridged_daemon_link : Link DaemonStage → Link DaemonStage
abridged_daemon_link link = abridged_daemon_at link link.stage

abbrev pub abridged_daemon : DaemonNode → DaemonNode
abridged_daemon d = abridged_node abridged_daemon_link d

abbrev pub DaemonNodeStandsFor : DaemonNode → DaemonNode → Type 0
DaemonNodeStandsFor m s = StandsFor abridged_daemon_link m s

-- two outcomes with the same effects, of which what is left of the one stands for the other
abbrev pub AreSameDaemon : Outcome DaemonNode → Outcome DaemonNode → Type 0
AreSameDaemon o p = (o.out ≡ p.out) × DaemonNodeStandsFor (abridged_daemon o.state) p.state

-- a book forgets nothing
pub record DaemonStandsFor (m s : DaemonState) : Type 0 where
  pub node : DaemonNodeStandsFor m.node s.node
  pub book : m.book ≡ s.book

-- what is left of a daemon with its book
abbrev pub abridged_state : DaemonState → DaemonState
abridged_state d = record d { node = abridged_daemon d.node }

-- ---- a client

-- a link to a daemon, in its stage
abbrev pub abridged_call_at : Link CallStage → CallStage → Link CallStage
abridged_call_at link (AwaitsSignature s callee) = cut link (AwaitsSignature s callee)
abridged_call_at link (AwaitsIdent s callee cookie) = cut link (AwaitsIdent (unsigned s) callee cookie)
abridged_call_at link (AwaitsReconnect s callee cookie) = cut link (AwaitsReconnect (unsigned s) callee cookie)
abridged_call_at link (Open s callee cookie) = cut link (Open (unsigned s) callee cookie)
abridged_call_at link _ = link

abbrev pub abridged_call_link : Link CallStage → Link CallStage
abridged_call_link link = abridged_call_at link link.stage

-- a link of either kind
abbrev pub abridged_client_at : Link ClientStage → ClientStage → Link ClientStage
abridged_client_at link (ToMonitor stage) = of_kind ToMonitor (abridged_mon_client_at (in_stage link stage) stage)
abridged_client_at link (ToDaemon stage) = of_kind ToDaemon (abridged_call_at (in_stage link stage) stage)

abbrev pub abridged_client_link : Link ClientStage → Link ClientStage
abridged_client_link link = abridged_client_at link link.stage

abbrev pub abridged_whole_client : WholeClientNode → WholeClientNode
abridged_whole_client c = abridged_node abridged_client_link c

abbrev pub WholeClientStandsFor : WholeClientNode → WholeClientNode → Type 0
WholeClientStandsFor m s = StandsFor abridged_client_link m s
