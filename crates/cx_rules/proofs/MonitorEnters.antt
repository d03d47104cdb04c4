-- What a step of the monitor enters.
use Rattle.std.proofs.Common.{ℕ, Bool, true, false, List, [], ◌∷◌, Option, Some, None, refl, ◌≡◌}
use Rattle.std.specs.Prelude.{if◌then◌else◌, ◌-◌, length, nat_le}
use Rattle.std.specs.List.{AllByRecursion}
use Rattle.cx_login.specs.cx_journal.specs.declared.outcomes.Reason.TheVariants.{LinksFull}
use Rattle.cx_rules.specs.Greetings.{own_banner}
use Rattle.cx_login.specs.cx_steps.specs.declared.seals.SealEntry.TheVariants.{Opened}
use Rattle.cx_rules.specs.Acceptor.{AwaitsBanner}
use Rattle.cx_rules.specs.Judged.{IsHandedOut}
use Rattle.cx_rules.specs.Links.{Link, link_of}
use Rattle.cx_rules.specs.Monitor.{Monitor, MonitorArrival, MonitorRow, MonitorStage, MonitorNode}
use Rattle.cx_rules.specs.MonitorRule.{turned_at, monitor_step, opens, turn}
use Rattle.cx_rules.specs.Rows.{at, goes_on, refuses, Turned, Waits, Refuses, Handles, arrival, fed, new_link, turns, Outcome}
use Rattle.cx_keyserver.specs.cx_cbc.specs.Envelope.{sealed}
use Rattle.cx_rules.specs.Inputs.{Input, Opened, NoLink, Bytes, Turn, Gone, Look, Tick, Submit, Restart}
use Rattle.cx_login.specs.cx_journal.specs.declared.entries.Entry.{Entry}
use Rattle.cx_rules.proofs.MonClientWalk.{IsNoTicket}
use Rattle.cx_rules.proofs.RowWalk.{EachRow}
use Rattle.cx_rules.proofs.MonitorWalk.{MonitorWays, monitor-walk}
use Rattle.cx_base.specs.declared.nodes.NodeName.TheVariants as node
use Rattle.cx_login.specs.cx_journal.specs.declared.entries.Entry.TheVariants as entry

-- that a ticket was issued or the state was saved; that it refused a link, for no ticket; or that it began anew
abbrev pub IsOfMonitor : Entry → Type 0
IsOfMonitor (entry.Issued ticket) = Unit {0}
IsOfMonitor (entry.Saved gid) = Unit {0}
IsOfMonitor (entry.Refused r) = (r.node ≡ node.Monitor) × IsNoTicket r.reason
IsOfMonitor (entry.Restarted at) = at ≡ node.Monitor
IsOfMonitor _ = ⊥

-- so it is of each row of the monitor
abbrev Enters : MonitorArrival → MonitorRow → Type 0
Enters a row = a.me ≡ node.Monitor → AllByRecursion IsOfMonitor row.entries

handed-entered : (es : List Entry) → AllByRecursion IsHandedOut es → AllByRecursion IsOfMonitor es
handed-entered [] h = tt
handed-entered (e ∷ es) h = (by_entry e h.0, handed-entered es h.1)
  where
    by_entry : (e : Entry) → IsHandedOut e → IsOfMonitor e
    by_entry (entry.Issued ticket) g = tt
    by_entry (entry.Saved gid) g = tt
    by_entry _ g = absurd g

enters-ways : MonitorWays Enters
enters-ways = record {
  refused = λ a why seals fine me. ((me, fine), tt);
  denied = λ a code why seals me. ((me, tt), tt);
  missed = λ a features sealed me. ((me, tt), tt);
  gone_on = λ a stage bytes seals me. tt;
  granted = λ a h done handed me. handed-entered h.entries handed;
  replied = λ a s bearer seq made sent handed me. handed-entered made.entries handed;
  served = λ a server row h me. h me;
  behind = λ a opened row h me. h me;
}

-- ---- a step

module _ (m : MonitorNode) where
  abbrev IsEntered : Outcome MonitorNode → Type 0
  IsEntered o = AllByRecursion IsOfMonitor o.out.entries

  turn-enters : (reading : ℕ) (draw : List ℕ) (found : Option (Link MonitorStage)) → IsEntered (turn m reading draw found)
  turn-enters reading draw None = tt
  turn-enters reading draw (Some link) = by_turned (turned_at a link.stage) (monitor-walk Enters enters-ways (λ b l row h. h) a link.stage)
    where
      a : MonitorArrival
      a = arrival node.Monitor m.own link reading draw

      by_turned : (t : Turned Monitor MonitorStage) → EachRow (Enters (arrival node.Monitor m.own link reading draw)) t → IsEntered (turns m (arrival node.Monitor m.own link reading draw) t)
      by_turned Waits h = tt
      by_turned (Refuses why opened) h = ((refl, tt), tt)
      by_turned (Handles row) h = h refl

  opens-enters : (reading : ℕ) (draw : List ℕ) (link : Link MonitorStage) → IsEntered (opens m reading draw link)
  opens-enters reading draw link = by_test (nat_le 1024 (length m.links))
    where
      by_test : (full : Bool) → (let a : MonitorArrival = arrival node.Monitor m.own link reading draw in
          let row : MonitorRow = (if full then refuses a LinksFull [] else goes_on a AwaitsBanner own_banner []) in AllByRecursion IsOfMonitor row.entries)
      by_test true = ((refl, tt), tt)
      by_test false = tt

  bytes-enters : (bytes : List ℕ) (found : Option (Link MonitorStage)) → IsEntered (fed m bytes found)
  bytes-enters bytes None = tt
  bytes-enters bytes (Some link) = tt

  pub step-enters : (input : Input) (reading : ℕ) (draw : List ℕ) → IsEntered (monitor_step m input reading draw)
  step-enters (Opened number to) reading draw = opens-enters reading draw (new_link number AwaitsBanner)
  step-enters (NoLink to) reading draw = ((refl, tt), tt)
  step-enters (Bytes number bytes) reading draw = bytes-enters bytes (link_of number m.links)
  step-enters (Turn number) reading draw = turn-enters reading draw (link_of number m.links)
  step-enters (Gone number) reading draw = tt
  step-enters (Submit said) reading draw = tt
  step-enters Tick reading draw = tt
  step-enters (Look view) reading draw = tt
  step-enters Restart reading draw = (refl, tt)
