-- What a daemon with its desk stands for.
use Rattle.std.proofs.Common.{ℕ, ◌≡◌, List, Option, Some, None, sym, subst}
use Rattle.cx_drive_commands.specs.daemon.Held.{lost_daemon, regard_daemon, rests_daemon, serving_lost, serving_regards, serving_rests, serving_rule}
use Rattle.cx_drive_commands.specs.declared.serving.Serving.{Serving}
use Rattle.cx_daemon.proofs.Regarding.{regard_stands}
use Rattle.cx_daemon.specs.cx_daemon_events.specs.Machine.{undialled_at}
use Rattle.cx_desk.specs.Handlers.{Handlers}
use Rattle.cx_desk.specs.Held.{handlers_of}
use Rattle.cx_holdings.specs.cx_rules.specs.Inputs as input
use Rattle.cx_holdings.specs.cx_rules.specs.Inputs.{Input}
use Rattle.cx_holdings.specs.cx_rules.specs.Rows.{forgotten}
use Rattle.cx_rules_session.specs.DaemonRule.{DaemonNode, DaemonState, daemon_step, is_idle, undialled}
use Rattle.cx_rules_session.specs.Forgets.{DaemonNodeStandsFor, DaemonStandsFor, abridged_state}
use Rattle.cx_steps.specs.declared.events.Peer.TheVariants as peer
use Rattle.cx_daemon.specs.cx_node.specs.steps.Events.{link_in}
use Rattle.cx_daemon.specs.cx_node.specs.steps.Steps.{without_lost}

-- ---- where memory is wanting

module _ (loses : (m s : DaemonNode) (n : ℕ) → DaemonNodeStandsFor m s → DaemonNodeStandsFor (forgotten m n) (forgotten s n))
    (gives_up : (m s : DaemonNode) → DaemonNodeStandsFor m s → DaemonNodeStandsFor (undialled m) (undialled s)) where
  by_link : (link : Option ℕ) (m s : DaemonNode) → DaemonNodeStandsFor m s → DaemonNodeStandsFor (without_lost link m) (without_lost link s)
  by_link None m s st = st
  by_link (Some number) m s st = loses m s number st

  undials : (i : Input) (m s : DaemonNode) → DaemonNodeStandsFor m s → DaemonNodeStandsFor (undialled_at i m) (undialled_at i s)
  undials (input.Opened number (Some peer.Monitor)) m s st = gives_up m s st
  undials (input.Opened number (Some (peer.Daemon name))) m s st = st
  undials (input.Opened number None) m s st = st
  undials (input.NoLink peer.Monitor) m s st = gives_up m s st
  undials (input.NoLink (peer.Daemon name)) m s st = st
  undials (input.Bytes number bytes) m s st = st
  undials (input.Turn number) m s st = st
  undials (input.Gone number) m s st = st
  undials (input.Look view) m s st = st
  undials input.Tick m s st = st
  undials (input.Submit command) m s st = st
  undials input.Restart m s st = st

  daemon_loses : (m s : DaemonState) (i : Input) → DaemonStandsFor m s → DaemonStandsFor (lost_daemon m i) (lost_daemon s i)
  daemon_loses m s i st = record { node = by_link (link_in i) (undialled_at i m.node) (undialled_at i s.node) (undials i m.node s.node st.node); book = st.book }

-- ---- with its desk

-- it serves by these handlers, and its daemon stands for that of the rules
abbrev pub ServingStandsFor : {X : Type 0} {F : X → Type 0} {g : _} → Handlers → Serving X F g → DaemonState → Type 0
ServingStandsFor handlers m s = (handlers_of m.desk.now ≡ handlers) × DaemonStandsFor m.daemon s

pub serving_forgets : {X : Type 0} {F : X → Type 0} {g : _} (handlers : Handlers)
    → ((handlers : Handlers) (m s : DaemonState) (i : Input) (reading : ℕ) (draw : List ℕ) → DaemonStandsFor m s
    → ((daemon_step handlers m i reading draw).out ≡ (daemon_step handlers s i reading draw).out)
    × DaemonStandsFor (abridged_state (daemon_step handlers m i reading draw).state) (daemon_step handlers s i reading draw).state)
    → (m : Serving X F g) (s : DaemonState) (i : Input) (reading : ℕ) (draw : List ℕ) → ServingStandsFor handlers m s
    → ((serving_rule m i reading draw).out ≡ (daemon_step handlers s i reading draw).out)
    × ServingStandsFor handlers (serving_rule m i reading draw).state (daemon_step handlers s i reading draw).state
serving_forgets handlers laws m s i reading draw (same, st) =
    let forgets = laws handlers m.daemon s i reading draw st in
    let held : Handlers → Type 0 = λ served. ((daemon_step served m.daemon i reading draw).out ≡ (daemon_step handlers s i reading draw).out)
    × DaemonStandsFor (abridged_state (daemon_step served m.daemon i reading draw).state) (daemon_step handlers s i reading draw).state in
    let by = subst held (sym same) forgets in
    (by.0, (same, by.1))

pub serving_loses : {X : Type 0} {F : X → Type 0} {g : _} (handlers : Handlers)
    → ((m s : DaemonNode) (n : ℕ) → DaemonNodeStandsFor m s → DaemonNodeStandsFor (forgotten m n) (forgotten s n))
    → ((m s : DaemonNode) → DaemonNodeStandsFor m s → DaemonNodeStandsFor (undialled m) (undialled s))
    → (m : Serving X F g) (s : DaemonState) (i : Input) → ServingStandsFor handlers m s → ServingStandsFor handlers (serving_lost m i) (lost_daemon s i)
serving_loses handlers loses gives_up m s i (same, st) = (same, daemon_loses loses gives_up m.daemon s i st)

pub serving_rests_so : {X : Type 0} {F : X → Type 0} {g : _} (handlers : Handlers) → ((m s : DaemonNode) → DaemonNodeStandsFor m s → is_idle m ≡ is_idle s)
    → (m : Serving X F g) (s : DaemonState) → ServingStandsFor handlers m s → serving_rests m ≡ rests_daemon s
serving_rests_so handlers idle m s (same, st) = idle m.daemon.node s.node st.node

pub serving_regards_so : {X : Type 0} {F : X → Type 0} {g : _} (handlers : Handlers) (m : Serving X F g) (s : DaemonState) (link : ℕ) → ServingStandsFor handlers m s
    → serving_regards m link ≡ regard_daemon s link
serving_regards_so handlers m s link (same, st) = regard_stands m.daemon.node s.node link st.node
