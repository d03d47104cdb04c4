-- How a node command runs its node, and how it ends.
use Rattle.std.specs.Prelude.{ℕ, ◌≡◌, ◌⊎◌, Bool, true, false, if◌then◌else◌, List, [], ◌∷◌, ◌++◌, Option}
use Rattle.cx_base.specs.Streams.{Rose}
use Rattle.cx_base.specs.declared.addresses.Addr.{Addr}
use Rattle.cx_drive.specs.Agendas.{opening_agenda}
use Rattle.cx_drive.specs.Courses.{IsNodeRun}
use Rattle.cx_drive.specs.declared.ends.Driven.{Driven}
use Rattle.cx_drive.specs.declared.ends.Ended.{Ended}
use Rattle.cx_drive.specs.declared.ends.Ended.TheVariants as ended
use Rattle.cx_drive.specs.declared.flow.Order.{Order}
use Rattle.cx_drive.specs.declared.peers.Peers.{Peers}
use Rattle.cx_drive.specs.declared.stops.Stop.TheVariants as stop
use Rattle.cx_journal.specs.declared.entries.Entry.{Entry}
use Rattle.cx_outside.specs.linking.Acts.{LinkAct, Listened}
use Rattle.cx_outside.specs.declared.regard.Regard.{Regard}
use Rattle.cx_loading.specs.Loading.{Rises}
use Rattle.cx_loading.specs.declared.ends.NodeEnd.{NodeEnd}
use Rattle.cx_loading.specs.declared.ends.NodeEnd.TheVariants as end
use Rattle.cx_loading.specs.declared.unloaded.Unloaded.{Unloaded}
use Rattle.cx_loading.specs.declared.unloaded.Unloaded.TheVariants as unloaded
use Rattle.cx_rules.specs.Inputs.{Input}
use Rattle.cx_rules.specs.Rows.{Outcome}
use Rattle.cx_outside.specs.site.Acts.{Act, Linked}
use Rattle.cx_drive_commands.specs.nodes.Outside.{Outside, Tells}

-- ---- how it ends

abbrev pub end_by : Ended → NodeEnd
end_by ended.Done = end.Done
end_by ended.Links = end.Links
end_by (ended.Stopped stop.Dice) = end.Dice
end_by (ended.Stopped stop.Keeper) = end.Keeper
end_by (ended.Stopped stop.Memory) = end.OutOfMemory

-- where memory was wanting in one of its steps, in place of any other end
abbrev pub end_of : Driven → NodeEnd
end_of driven = if driven.short then end.OutOfMemory else end_by driven.ended

-- what failed is counted
abbrev pub HasCause : {L : Type 0} → Outside L → Outside L → NodeEnd → Type 0
HasCause a b end.Links = Rises a.link_faults b.link_faults
HasCause a b end.Dice = Rises a.dice_faults b.dice_faults
HasCause a b end.Keeper = Rises a.keeper_faults b.keeper_faults
HasCause a b (end.Unloaded unloaded.Keeper) = Rises a.keeper_faults b.keeper_faults
HasCause a b _ = Unit {0}

-- no count of faults rose
abbrev pub IsFaultless : {L : Type 0} → Outside L → Outside L → Type 0
IsFaultless a b =
    ¬ Rose a.keeper_faults b.keeper_faults × ¬ Rose a.link_faults b.link_faults × ¬ Rose a.dice_faults b.dice_faults

-- it ran to its end, or memory was wanting
abbrev pub IsServed : NodeEnd → Type 0
IsServed end.Done = Unit {0}
IsServed end.OutOfMemory = Unit {0}
IsServed (end.Unloaded unloaded.OutOfMemory) = Unit {0}
IsServed _ = ⊥

-- it didn't run for this cause, or memory was wanting
abbrev pub IsRefusedFor : Unloaded → NodeEnd → Type 0
IsRefusedFor why ending = (ending ≡ end.Unloaded why) ⊎ (ending ≡ end.Unloaded unloaded.OutOfMemory)

-- what is kept as the monitor's state is none, from some byte on; or memory was wanting
abbrev pub IsStatelessCause : Unloaded → Type 0
IsStatelessCause (unloaded.State bad) = Unit {0}
IsStatelessCause unloaded.OutOfMemory = Unit {0}
IsStatelessCause _ = ⊥

abbrev pub IsStateless : NodeEnd → Type 0
IsStateless (end.Unloaded why) = IsStatelessCause why
IsStateless _ = ⊥

-- ---- how it runs

-- it could not listen, and did nothing else
pub record IsDeaf {L : Type 0} (follows : L → L → List LinkAct → Type 0) (at : Addr) (a b : Outside L) (ending : NodeEnd) (entries : List Entry) : Type 0 where
  pub ended : ending ≡ end.Links
  pub acts : Tells follows a b (Linked (Listened at false) ∷ [])
  pub none : entries ≡ []

module _ {L S : Type 0} (follows : L → L → List LinkAct → Type 0) (rule : S → Input → ℕ → List ℕ → Outcome S) (lost : S → Input → S) (rests : S → Bool) (regards : S → ℕ → Option Regard) (peers : Peers) where
  -- from a state, by its orders, for so many events: all that was told behind these first acts is the run of its rule, and so is what was entered
  pub record Runs (first : List Act) (a b : Outside L) (s : S) (orders : List Order) (events : ℕ) (ending : NodeEnd) (entries : List Entry) : Type 0 where
    pub node : S
    pub driven : Driven
    pub ended : ending ≡ end_of driven
    pub run : IsNodeRun rule lost rests regards peers (λ acts. Tells follows a b (first ++ acts)) s node [] entries (opening_agenda orders events) driven

  -- it listens there, and runs if it can
  abbrev pub Listens : Addr → Outside L → Outside L → S → List Order → ℕ → NodeEnd → List Entry → Type 0
  Listens at a b s orders events ending entries =
      Runs (Linked (Listened at true) ∷ []) a b s orders events ending entries ⊎ IsDeaf follows at a b ending entries
