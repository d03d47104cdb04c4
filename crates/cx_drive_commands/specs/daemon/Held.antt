-- What a daemon does at a step, on what it holds: its written rule, and behind each step it forgets of its links what no later step reads; and a
-- daemon with the desk by which it serves.
use Rattle.std.specs.Prelude.{ℕ, Bool, List, Option}
use Rattle.cx_drive_commands.specs.declared.serving.Serving.{Serving}
use Rattle.cx_daemon.specs.cx_daemon_events.specs.Machine.{lost_state}
use Rattle.cx_daemon.specs.cx_daemon_events.specs.Regards.{regard_of}
use Rattle.cx_desk.specs.Handlers.{Handlers}
use Rattle.cx_desk.specs.Held.{handlers_of}
use Rattle.cx_holdings.specs.cx_rules.specs.Inputs.{Input}
use Rattle.cx_holdings.specs.cx_rules.specs.Rows.{Outcome}
use Rattle.cx_outside.specs.declared.regard.Regard.{Regard}
use Rattle.cx_rules_session.specs.DaemonRule.{DaemonState, daemon_step, is_idle}
use Rattle.cx_rules_session.specs.Forgets.{abridged_state}

-- ---- a daemon

abbrev pub held_daemon : Handlers → DaemonState → Input → ℕ → List ℕ → Outcome DaemonState
held_daemon handlers s input reading draw = record {
  state = abridged_state (daemon_step handlers s input reading draw).state;
  out = (daemon_step handlers s input reading draw).out;
}

-- what is left where memory is wanting, and whether it waits for nothing: of what it holds as of what the rules have
abbrev pub lost_daemon : DaemonState → Input → DaemonState
lost_daemon s input = lost_state input s

abbrev pub rests_daemon : DaemonState → Bool
rests_daemon s = is_idle s.node

-- how it regards a link
abbrev pub regard_daemon : DaemonState → ℕ → Option Regard
regard_daemon s link = regard_of s.node link

-- ---- with its desk, which stays

abbrev pub serving_rule : {X : Type 0} {F : X → Type 0} {g : _} → Serving X F g → Input → ℕ → List ℕ → Outcome (Serving X F g)
serving_rule s input reading draw = record {
  state = record s { daemon = (held_daemon (handlers_of s.desk.now) s.daemon input reading draw).state };
  out = (held_daemon (handlers_of s.desk.now) s.daemon input reading draw).out;
}

abbrev pub serving_lost : {X : Type 0} {F : X → Type 0} {g : _} → Serving X F g → Input → Serving X F g
serving_lost s input = record s { daemon = lost_daemon s.daemon input }

abbrev pub serving_rests : {X : Type 0} {F : X → Type 0} {g : _} → Serving X F g → Bool
serving_rests s = rests_daemon s.daemon

abbrev pub serving_regards : {X : Type 0} {F : X → Type 0} {g : _} → Serving X F g → ℕ → Option Regard
serving_regards s link = regard_daemon s.daemon link
