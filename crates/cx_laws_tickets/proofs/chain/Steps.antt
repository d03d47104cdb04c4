-- What each event does to the generations of the monitor, whether a save fails at it or not.
use Rattle.std.proofs.Common.{◌≡◌, ◌⊎◌, ℕ, Bool, true, false, List, [], length, Option, Some, None, inl, inr, refl}
use Rattle.std.specs.Prelude.{nat_le, if◌then◌else◌}
use Rattle.std.specs.List.{AllByRecursion}
use Rattle.cx_base.specs.declared.nodes.NodeName.TheVariants as node
use Rattle.cx_laws_tickets.specs.cx_journal.specs.declared.entries.Entry.{Entry}
use Rattle.cx_laws_tickets.specs.cx_journal.specs.declared.outcomes.Reason.TheVariants.{LinksFull}
use Rattle.cx_laws_tickets.specs.cx_words.specs.declared.choices.LeftState.{LeftState}
use Rattle.cx_laws_tickets.specs.cx_words.specs.declared.choices.LeftState.TheVariants as left
use Rattle.cx_rotate.specs.declared.states.KeptState.{KeptState}
use Rattle.cx_laws_tickets.specs.cx_rules.specs.Acceptor.{AwaitsBanner}
use Rattle.cx_laws_tickets.specs.cx_rules.specs.Greetings.{own_banner}
use Rattle.cx_laws_tickets.specs.cx_rules.specs.Inputs.{Input, Opened, NoLink, Bytes, Turn, Gone, Look, Tick, Submit, Restart}
use Rattle.cx_laws_tickets.specs.cx_rules.specs.Links.{Link, link_of}
use Rattle.cx_laws_tickets.specs.cx_rules.specs.Monitor.{Monitor, MonitorArrival, MonitorNode, MonitorStage}
use Rattle.cx_laws_tickets.specs.cx_rules.specs.MonitorRule.{monitor_rule, monitor_step, noted, opens, turn, turned_at}
use Rattle.cx_laws_tickets.specs.cx_rules.specs.Rows.{Outcome, Turned, Waits, Refuses, Handles, arrival, carried_out, fed, goes_on, new_link, refuses, turns}
use Rattle.cx_laws_tickets.specs.cx_run.specs.Happenings.{Nodes, monitor_steps}
use Rattle.cx_laws_tickets.proofs.chain.Rows.{AreUnder, GoesOn, RowGoesOn, StateGoesOn, still-goes_on, turned-row}
use Rattle.cx_laws_tickets.specs.cx_laws_keys.proofs.keys.Journal.{IsNotIssued}
use Rattle.cx_laws_tickets.specs.cx_laws_keys.proofs.login.Proving.{RowOf, none-issued}

-- ---- steps

-- the monitor begins anew, from what it saved last
pub record BeginsAnew (before behind : Monitor) (entries : List Entry) : Type 0 where
  pub state : behind.server.state ≡ before.saved
  pub ring : behind.server.ring ≡ before.server.ring
  pub saved : behind.saved ≡ before.saved
  pub before_is : behind.saved_before ≡ before.saved_before
  pub none : AllByRecursion IsNotIssued entries

abbrev StepGoesOn : ℕ → List ℕ → Monitor → Outcome MonitorNode → Type 0
StepGoesOn reading draw before o = GoesOn reading draw before o.state.own o.out.entries ⊎ BeginsAnew before o.state.own o.out.entries

module _ (m : MonitorNode) (reading : ℕ) (draw : List ℕ) where
  still-step : (o : Outcome MonitorNode) → o.state.own ≡ m.own → AllByRecursion IsNotIssued o.out.entries → StepGoesOn reading draw m.own o
  still-step o same none = inl (still-goes_on reading draw m.own o.state.own o.out.entries same none)

  turn-step : (link : Option (Link MonitorStage)) → StepGoesOn reading draw m.own (turn m reading draw link)
  turn-step None = still-step (turn m reading draw None) refl tt
  turn-step (Some link) =
      let a : MonitorArrival = arrival node.Monitor m.own link reading draw in
      by_turned (turned_at a link.stage) (turned-row a link.stage)
    where
      by_turned : (turned : Turned Monitor MonitorStage) → RowOf (RowGoesOn (arrival node.Monitor m.own link reading draw)) turned
          → StepGoesOn reading draw m.own (turns m (arrival node.Monitor m.own link reading draw) turned)
      by_turned Waits h = still-step (turns m (arrival node.Monitor m.own link reading draw) Waits) refl tt
      by_turned (Refuses why opened) h = still-step (turns m (arrival node.Monitor m.own link reading draw) (Refuses why opened)) refl (tt, tt)
      by_turned (Handles row) h = inl h

  opens-step : (link : Link MonitorStage) → StepGoesOn reading draw m.own (opens m reading draw link)
  opens-step link = by_test (nat_le 1024 (length m.links))
    where
      by_test : (full : Bool) → StepGoesOn reading draw m.own (carried_out m link.number false
          (if full then refuses (arrival node.Monitor m.own link reading draw) LinksFull [] else goes_on (arrival node.Monitor m.own link reading draw) AwaitsBanner own_banner []))
      by_test true = still-step (carried_out m link.number false (refuses (arrival node.Monitor m.own link reading draw) LinksFull [])) refl (tt, tt)
      by_test false = still-step (carried_out m link.number false (goes_on (arrival node.Monitor m.own link reading draw) AwaitsBanner own_banner [])) refl tt

  fed-step : (bytes : List ℕ) (link : Option (Link MonitorStage)) → StepGoesOn reading draw m.own (fed m bytes link)
  fed-step bytes None = still-step (fed m bytes None) refl tt
  fed-step bytes (Some link) = still-step (fed m bytes (Some link)) refl tt

  step-goes_on : (input : Input) → StepGoesOn reading draw m.own (monitor_step m input reading draw)
  step-goes_on (Opened number peer) = opens-step (new_link number AwaitsBanner)
  step-goes_on (Bytes number bytes) = fed-step bytes (link_of number m.links)
  step-goes_on (Turn number) = turn-step (link_of number m.links)
  step-goes_on (Gone number) = still-step (monitor_step m (Gone number) reading draw) refl tt
  step-goes_on Restart = inr (record { state = refl; ring = refl; saved = refl; before_is = refl; none = (tt, tt) })
  step-goes_on (NoLink peer) = still-step (monitor_step m (NoLink peer) reading draw) refl (tt, tt)
  step-goes_on (Look view) = still-step (monitor_step m (Look view) reading draw) refl tt
  step-goes_on Tick = still-step (monitor_step m Tick reading draw) refl tt
  step-goes_on (Submit command) = still-step (monitor_step m (Submit command) reading draw) refl tt

-- ---- events

-- what an event saves: nothing, and nothing is issued; or what there is then, and each ticket is under it; or it begins anew
pub record EventGoesOn (reading : ℕ) (draw : List ℕ) (before behind : Monitor) (entries : List Entry) : Type 0 where
  pub state : StateGoesOn reading draw before.server.state behind.server.state
  pub ring : behind.server.ring ≡ before.server.ring
  pub saves : ((behind.saved ≡ before.saved) × AllByRecursion IsNotIssued entries) ⊎ ((behind.saved ≡ behind.server.state) × AreUnder reading draw behind.server entries)

pub record EventBegins (before behind : Monitor) (entries : List Entry) : Type 0 where
  pub state : behind.server.state ≡ before.saved
  pub ring : behind.server.ring ≡ before.server.ring
  pub saved : behind.saved ≡ before.saved
  pub none : AllByRecursion IsNotIssued entries

abbrev pub ComesOn : ℕ → List ℕ → Monitor → Monitor → List Entry → Type 0
ComesOn reading draw before behind entries = EventGoesOn reading draw before behind entries ⊎ EventBegins before behind entries

-- no save fails
goes-saved : (reading : ℕ) (draw : List ℕ) (m : MonitorNode) (o : Outcome MonitorNode) → StepGoesOn reading draw (noted m).own o
    → ComesOn reading draw m.own o.state.own o.out.entries
goes-saved reading draw m o (inl h) = inl (record { state = h.state; ring = h.ring; saves = h.saves })
goes-saved reading draw m o (inr h) = inr (record { state = h.state; ring = h.ring; saved = h.saved; none = h.none })

-- one fails: nothing is entered, and what was saved last is the state of before, or the new one
goes-failed : (reading : ℕ) (draw : List ℕ) (m : MonitorNode) (o : Outcome MonitorNode) (l : LeftState) (saved : KeptState) (nodes : Nodes) → StepGoesOn reading draw (noted m).own o
    → ComesOn reading draw m.own (monitor_steps nodes o (Some l) (Some saved)).nodes.monitor.own (monitor_steps nodes o (Some l) (Some saved)).out.entries
goes-failed reading draw m o left.Old saved nodes (inl h) = inl (record { state = h.state; ring = h.ring; saves = inl (h.before_is, tt) })
goes-failed reading draw m o left.New saved nodes (inl h) = by_saves h.saves
  where
    by_saves : ((o.state.own.saved ≡ m.own.saved) × AllByRecursion IsNotIssued o.out.entries) ⊎ ((o.state.own.saved ≡ o.state.own.server.state) × AreUnder reading draw o.state.own.server o.out.entries)
        → ComesOn reading draw m.own (monitor_steps nodes o (Some left.New) (Some saved)).nodes.monitor.own (monitor_steps nodes o (Some left.New) (Some saved)).out.entries
    by_saves (inl (same, none)) = inl (record { state = h.state; ring = h.ring; saves = inl (same, tt) })
    by_saves (inr (same, tickets)) = inl (record { state = h.state; ring = h.ring; saves = inr (same, λ t has. absurd (none-issued [] tt t has)) })
goes-failed reading draw m o left.Old saved nodes (inr h) = inr (record { state = h.state; ring = h.ring; saved = h.before_is; none = tt })
goes-failed reading draw m o left.New saved nodes (inr h) = inr (record { state = h.state; ring = h.ring; saved = h.saved; none = tt })

goes-either : (reading : ℕ) (draw : List ℕ) (nodes : Nodes) (o : Outcome MonitorNode) (l : Option LeftState) (saved : Option KeptState) → StepGoesOn reading draw (noted nodes.monitor).own o
    → ComesOn reading draw nodes.monitor.own (monitor_steps nodes o l saved).nodes.monitor.own (monitor_steps nodes o l saved).out.entries
goes-either reading draw nodes o (Some l) (Some saved) h = goes-failed reading draw nodes.monitor o l saved nodes h
goes-either reading draw nodes o None saved h = goes-saved reading draw nodes.monitor o h
goes-either reading draw nodes o (Some l) None h = goes-saved reading draw nodes.monitor o h

-- an event of the monitor
pub event-goes_on : (nodes : Nodes) (input : Input) (reading : ℕ) (draw : List ℕ) (l : Option LeftState) →
    let o = monitor_rule nodes.monitor input reading draw in
    let s = monitor_steps nodes o l o.out.save in
    ComesOn reading draw nodes.monitor.own s.nodes.monitor.own s.out.entries
event-goes_on nodes input reading draw l =
    let o : Outcome MonitorNode = monitor_rule nodes.monitor input reading draw in
    goes-either reading draw nodes o l o.out.save (step-goes_on (noted nodes.monitor) reading draw input)
