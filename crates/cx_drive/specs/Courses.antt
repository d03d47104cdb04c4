-- The run of a node: what it takes, one thing after the other, and what it does outside.
use Rattle.std.specs.Prelude.{ℕ, ◌≡◌, Bool, false, List, [], ◌∷◌, ◌++◌, Option, Some, None}
use Rattle.cx_drive.specs.Agendas.{Agenda, AwaitsLinks, IsOver, after_event, after_step, next_input, noting}
use Rattle.cx_drive.specs.Steps.{IsCarried, Went, carried_dues, node_behind, step_acts, went_effects, went_node}
use Rattle.cx_drive.specs.Stops.{Scene, StepGoes}
use Rattle.cx_drive.specs.declared.ends.Driven.{Driven}
use Rattle.cx_drive.specs.declared.ends.Ended.{Ended}
use Rattle.cx_drive.specs.declared.ends.Ended.TheVariants as ended
use Rattle.cx_drive.specs.declared.peers.Peers.{Peers}
use Rattle.cx_drive.specs.declared.stops.Stop.TheVariants as stop
use Rattle.cx_journal.specs.declared.entries.Entry.{Entry}
use Rattle.cx_outside.specs.linking.Acts.{Broke, Gave}
use Rattle.cx_outside.specs.declared.events.LinkEvent.{LinkEvent}
use Rattle.cx_outside.specs.declared.regard.Regard.{Regard}
use Rattle.cx_rotate.specs.declared.states.KeptState.{KeptState}
use Rattle.cx_client.specs.cx_rules_session.specs.cx_rules.specs.Inputs.{Input}
use Rattle.cx_client.specs.cx_rules_session.specs.cx_rules.specs.Rows.{Outcome}
use Rattle.cx_outside.specs.site.Acts.{Act, Linked, Read, Rolled, Saved}

-- one thing of a run: what comes on the links of the node, with its bytes, or a step and how it went
pub data Taken : Type 0 where
  Came : LinkEvent → List ℕ → Taken
  Took : Input → Went → Taken

-- what a run ends with, behind all that it takes
pub data Ending : Type 0 where
  -- nothing more was to be taken
  Through : Ending
  -- a wait on the links failed
  Unlinked : Ending
  -- the dice failed in the step at this input
  Undrawn : Input → Ending
  -- in the step at this input, with its reading and its draw, this state couldn't be saved
  Unsaved : Input → ℕ → List ℕ → KeptState → Ending
  -- whoever drives the node wanted memory, between two steps
  Wanting : Ending
  -- or in the step at this input, before its save, with its reading and its draw, and whether the node wanted memory too
  WantingIn : Input → ℕ → List ℕ → Bool → Ending

-- the acts of that
abbrev pub ending_acts : Ending → List Act
ending_acts Through = []
ending_acts Unlinked = Linked Broke ∷ []
ending_acts (Undrawn input) = Rolled None ∷ []
ending_acts (Unsaved input reading draw state) = Rolled (Some draw) ∷ Read reading ∷ Saved state false ∷ []
ending_acts Wanting = []
ending_acts (WantingIn input reading draw short) = Rolled (Some draw) ∷ Read reading ∷ []

module _ {S : Type 0} (rule : S → Input → ℕ → List ℕ → Outcome S) (lost : S → Input → S) where
  -- the node behind it
  abbrev pub ending_node : S → Ending → S
  ending_node s Through = s
  ending_node s Unlinked = s
  ending_node s (Undrawn input) = s
  ending_node s (Unsaved input reading draw state) = (rule s input reading draw).state
  ending_node s Wanting = s
  ending_node s (WantingIn input reading draw short) = node_behind rule lost s input reading draw short

  -- a run in which this is next ends so
  abbrev pub IsEnding : S → Agenda → Ending → Ended → Type 0
  IsEnding s a Through how = (how ≡ ended.Done) × IsOver a
  IsEnding s a Unlinked how = (how ≡ ended.Links) × AwaitsLinks a
  IsEnding s a (Undrawn input) how = (how ≡ ended.Stopped stop.Dice) × (next_input a ≡ Some input)
  IsEnding s a (Unsaved input reading draw state) how =
      (how ≡ ended.Stopped stop.Keeper) × (next_input a ≡ Some input) × ((rule s input reading draw).out.save ≡ Some state)
  IsEnding s a Wanting how = how ≡ ended.Stopped stop.Memory
  IsEnding s a (WantingIn input reading draw short) how = (how ≡ ended.Stopped stop.Memory) × (next_input a ≡ Some input)

module _ {S : Type 0} (rule : S → Input → ℕ → List ℕ → Outcome S) (lost : S → Input → S) (peers : Peers) where
  -- the node behind it
  abbrev pub node_after : S → List Taken → S
  node_after s [] = s
  node_after s (Came event bytes ∷ ts) = node_after s ts
  node_after s (Took input went ∷ ts) = node_after (went_node rule lost s input went) ts

  -- what is entered
  abbrev pub entries_from : S → List Taken → List Entry
  entries_from s [] = []
  entries_from s (Came event bytes ∷ ts) = entries_from s ts
  entries_from s (Took input went ∷ ts) = (went_effects rule lost s input went).entries ++ entries_from (went_node rule lost s input went) ts

  -- what is to come behind a step that went so
  abbrev pub after_took : S → Input → Went → Agenda → Agenda
  after_took s input went a =
      after_step input went.short (went_effects rule lost s input went).turned (carried_dues peers went.sends went.opens) a

module _ {S : Type 0} (rule : S → Input → ℕ → List ℕ → Outcome S) (lost : S → Input → S) (regards : S → ℕ → Option Regard) (peers : Peers) where
  -- the acts of all of it, in their order
  abbrev pub acts_from : S → List Taken → List Act
  acts_from s [] = []
  acts_from s (Came event bytes ∷ ts) = Linked (Gave event bytes) ∷ acts_from s ts
  acts_from s (Took input went ∷ ts) = step_acts rule lost regards peers s input went ++ acts_from (went_node rule lost s input went) ts

module _ {S : Type 0} (rule : S → Input → ℕ → List ℕ → Outcome S) (lost : S → Input → S) (rests : S → Bool) (peers : Peers) where
  -- what is to come behind it
  abbrev pub agenda_after : S → Agenda → List Taken → Agenda
  agenda_after s a [] = a
  agenda_after s a (Came event bytes ∷ ts) = agenda_after s (after_event (rests s) event bytes a) ts
  agenda_after s a (Took input went ∷ ts) = agenda_after (went_node rule lost s input went) (after_took rule lost peers s input went a) ts

  -- all of it came in its turn: an event where nothing else was next, a step at the input that was next; and each step sent and opened what
  -- its rule gives
  abbrev pub IsCourse : S → Agenda → List Taken → Type 0
  IsCourse s a [] = Unit {0}
  IsCourse s a (Came event bytes ∷ ts) = AwaitsLinks a × IsCourse s (after_event (rests s) event bytes a) ts
  IsCourse s a (Took input went ∷ ts) =
      (next_input a ≡ Some input)
      × IsCarried (went_effects rule lost s input went) went.sends went.opens
      × IsCourse (went_node rule lost s input went) (after_took rule lost peers s input went a) ts

module _ {S : Type 0} (rule : S → Input → ℕ → List ℕ → Outcome S) (lost : S → Input → S) (rests : S → Bool) (regards : S → ℕ → Option Regard) (peers : Peers) where
  -- the run of a node to its end: what was told of its acts, the node and the entries before and behind it, what was to come at first, and how it
  -- ended
  pub record IsNodeRun (tells : List Act → Type 0) (s t : S) (entries entered : List Entry) (from : Agenda) (driven : Driven) : Type 0 where
    pub trace : List Taken
    pub course : IsCourse rule lost rests peers s from trace
    pub ending : Ending
    pub ends : IsEnding rule lost (node_after rule lost peers s trace) (agenda_after rule lost rests peers s from trace) ending driven.ended
    pub acts : tells (acts_from rule lost regards peers s trace ++ ending_acts ending)
    pub node : t ≡ ending_node rule lost (node_after rule lost peers s trace) ending
    pub more : entered ≡ entries ++ entries_from rule lost peers s trace
    -- whether memory was wanting in one of its steps
    pub short : driven.short ≡ (agenda_after rule lost rests peers s from trace).short

module _ {D S : Type 0} (follows : D → D → List Act → Type 0) (rule : S → Input → ℕ → List ℕ → Outcome S) (lost : S → Input → S) (rests : S → Bool) (regards : S → ℕ → Option Regard) (peers : Peers) where
  -- a step was taken at this input, and what comes of it is noted
  pub record StepsOn (input : Input) (old new : Scene D S) (from to : Agenda) (turned : Bool) : Type 0 where
    pub went : Went
    pub goes : StepGoes follows rule lost regards peers input went old new
    pub handles : turned ≡ (went_effects rule lost old.node input went).turned
    pub agenda : to ≡ noting input went.short (carried_dues peers went.sends went.opens) from

  -- the run of some things, from here to there
  pub record Ran (old new : Scene D S) (from to : Agenda) : Type 0 where
    pub trace : List Taken
    pub course : IsCourse rule lost rests peers old.node from trace
    pub acts : follows old.site new.site (acts_from rule lost regards peers old.node trace)
    pub node : new.node ≡ node_after rule lost peers old.node trace
    pub entries : new.entries ≡ old.entries ++ entries_from rule lost peers old.node trace
    pub agenda : to ≡ agenda_after rule lost rests peers old.node from trace

  -- a run to its end
  abbrev pub RanTo : Scene D S → Scene D S → Agenda → Driven → Type 0
  RanTo old new from driven =
      IsNodeRun rule lost rests regards peers (follows old.site new.site) old.node new.node old.entries new.entries from driven

  -- the run goes on, or ended so
  abbrev pub RanOn : Scene D S → Scene D S → Agenda → Agenda → Option Ended → Type 0
  RanOn old new from to None = Ran old new from to
  RanOn old new from to (Some how) = RanTo old new from (record { ended = how; short = to.short })
