-- A monitor that ended since a save failed, and the monitor that starts behind it in the same folder.
use Rattle.std.specs.Prelude.{ℕ, ◌≡◌, ◌⊎◌, true, false, List, [], ◌∷◌, ◌++◌, Option, Some, None}
use Rattle.cx_command_line.specs.declared.commands.MonitorCommand.{MonitorCommand}
use Rattle.cx_drive.specs.Agendas.{next_input, opening_agenda}
use Rattle.cx_drive.specs.Courses.{IsCourse, Taken, acts_from, agenda_after, entries_from, node_after}
use Rattle.cx_drive.specs.Held.{lost_monitor, no_peers, regard_monitor}
use Rattle.cx_drive.specs.declared.flow.Order.{Order}
use Rattle.cx_enc.specs.Whole.{Spells}
use Rattle.cx_journal.specs.declared.entries.Entry.{Entry as JournalEntry}
use Rattle.cx_keep.specs.Formats.{Stored, state_text, stored_layout}
use Rattle.cx_keep.specs.Slots.{Kept, with_slot}
use Rattle.cx_keep.specs.declared.keeper.Slot.TheVariants.{State}
use Rattle.cx_keyserver.specs.Servers.{Server}
use Rattle.cx_outside.specs.linking.Acts.{LinkAct, Listened}
use Rattle.cx_loading.specs.Loading.{IsStateOf}
use Rattle.cx_rotate.specs.declared.states.KeptState.{KeptState}
use Rattle.cx_rules.specs.Inputs.{Input}
use Rattle.cx_rules.specs.MonitorRule.{is_idle, monitor_rule, opening_monitor}
use Rattle.cx_outside.specs.site.Acts.{Act, Linked, Read, Rolled, Saved}
use Rattle.cx_outside.specs.site.Telling.{IsSpelled}
use Rattle.cx_drive_commands.specs.nodes.Monitors.{MonitorLoad, lives_of}
use Rattle.cx_drive_commands.specs.nodes.Outside.{Outside, Tells}

-- ---- what is kept behind acts

-- the state that was saved last, or this one where none was
abbrev pub last_saved : KeptState → List Act → KeptState
last_saved state [] = state
last_saved state (Saved next true ∷ acts) = last_saved next acts
last_saved state (Saved next false ∷ acts) = last_saved state acts
last_saved state (Linked act ∷ acts) = last_saved state acts
last_saved state (Read reading ∷ acts) = last_saved state acts
last_saved state (Rolled draw ∷ acts) = last_saved state acts

-- what is kept, of saves that went well
abbrev pub kept_behind : Kept → List Act → Kept
kept_behind kept [] = kept
kept_behind kept (Saved state true ∷ acts) = kept_behind (with_slot State (state_text state) kept) acts
kept_behind kept (Saved state false ∷ acts) = kept_behind kept acts
kept_behind kept (Linked act ∷ acts) = kept_behind kept acts
kept_behind kept (Read reading ∷ acts) = kept_behind kept acts
kept_behind kept (Rolled draw ∷ acts) = kept_behind kept acts

-- ---- at each moment

-- whatever was done of a run until a moment: what is kept then spells the state that was saved last, and before the first save what was loaded
abbrev pub KeepsUp : ℕ × ℕ → Kept → KeptState → List Act → Type 0
KeepsUp lives kept state acts = (front rest : List Act) → acts ≡ front ++ rest → IsStateOf lives (kept_behind kept front).state (last_saved state front)

-- ---- a save that failed

module _ {L : Type 0} (follows : L → L → List LinkAct → Type 0) (command : MonitorCommand) (bytes : List ℕ) (a b : Outside L) where
  -- the monitor ended since the save of a step failed; what was kept at first was this
  pub record IsStopped (kept : Kept) (entries : List JournalEntry) : Type 0 where
    pub orders : List Order
    pub server : Server
    pub load : MonitorLoad command bytes a.kept orders server
    -- the steps before, each thing in its turn
    pub trace : List Taken
    pub course : IsCourse monitor_rule lost_monitor is_idle no_peers (opening_monitor server command.listen) (opening_agenda orders command.events) trace
    -- the step at the input that was next, and the state that it saves
    pub input : Input
    pub reading : ℕ
    pub draw : List ℕ
    pub state : KeptState
    pub turn : next_input (agenda_after monitor_rule lost_monitor is_idle no_peers (opening_monitor server command.listen) (opening_agenda orders command.events) trace) ≡ Some input
    pub spelled : IsSpelled state
    pub due : (monitor_rule (node_after monitor_rule lost_monitor no_peers (opening_monitor server command.listen) trace) input reading draw).out.save ≡ Some state
    -- what was done and entered is that of the steps before, and of this step nothing but the save that failed
    pub acts : Tells follows a b
        (Linked (Listened command.listen true)
        ∷ (acts_from monitor_rule lost_monitor regard_monitor no_peers (opening_monitor server command.listen) trace ++ (Rolled (Some draw) ∷ Read reading ∷ Saved state false ∷ [])))
    pub entered : entries ≡ entries_from monitor_rule lost_monitor no_peers (opening_monitor server command.listen) trace
    -- until then what is kept spelled the state that was saved last
    pub keeps : KeepsUp (lives_of command) kept server.state (acts_from monitor_rule lost_monitor regard_monitor no_peers (opening_monitor server command.listen) trace)
    -- and it does so now, or it spells the state of this step
    pub left :
        (b.kept ≡ Some (kept_behind kept (acts_from monitor_rule lost_monitor regard_monitor no_peers (opening_monitor server command.listen) trace)))
        ⊎ (b.kept ≡ Some (with_slot State (state_text state) (kept_behind kept (acts_from monitor_rule lost_monitor regard_monitor no_peers (opening_monitor server command.listen) trace))))

-- ---- the monitor that starts behind it

-- what is kept as the state is of format 2, which holds its own lives
abbrev pub HoldsLives : Option (List ℕ) → Type 0
HoldsLives None = ⊥
HoldsLives (Some bytes) = (stored : Stored) × Spells stored_layout.form bytes stored × (stored.format ≡ 2)

-- both are given the same lives, or what is kept has its own
abbrev pub AreAlike : MonitorCommand → MonitorCommand → Kept → Type 0
AreAlike first second left = (lives_of first ≡ lives_of second) ⊎ HoldsLives left.state

-- it begins with the state that was saved last before the step in which the first one's save failed, or with the one that this step saves
abbrev pub BeginsWith : Server → KeptState → KeptState → Type 0
BeginsWith server last state = (server.state ≡ last) ⊎ (server.state ≡ state)
