-- What stands behind a step, whether it was carried out or the run stopped in it.
use Rattle.std.specs.Prelude.{ℕ, ◌≡◌, Bool, false, List, [], ◌∷◌, ◌++◌, map, Option, Some, None}
use Rattle.cx_drive.specs.Steps.{IsCarried, Opening, Sending, Went, carried_acts, carried_dues, gone_behind, handed_acts, node_behind, open_acts, open_dues, send_acts, step_acts, went_effects, went_node}
use Rattle.cx_drive.specs.declared.dues.Due.{Due}
use Rattle.cx_drive.specs.declared.peers.Peers.{Peers}
use Rattle.cx_drive.specs.declared.steps.Stepped.{Stepped}
use Rattle.cx_drive.specs.declared.stops.Stop.{Stop}
use Rattle.cx_drive.specs.declared.stops.Stop.TheVariants as stop
use Rattle.cx_journal.specs.declared.entries.Entry.{Entry}
use Rattle.cx_outside.specs.declared.regard.Regard.{Regard}
use Rattle.cx_rotate.specs.declared.states.KeptState.{KeptState}
use Rattle.cx_client.specs.cx_rules_session.specs.cx_rules.specs.Inputs.{Input}
use Rattle.cx_client.specs.cx_rules_session.specs.cx_rules.specs.Rows.{Outcome}
use Rattle.cx_outside.specs.site.Acts.{Act, Read, Rolled, Saved}
use Rattle.cx_steps.specs.declared.effects.Effects.{Effects}
use Rattle.cx_steps.specs.declared.effects.Piece.{Piece}
use Rattle.cx_steps.specs.declared.events.Peer.{Peer}

module _ {D : Type 0} (follows : D → D → List Act → Type 0) where
  -- these pieces were sent, and these links are gone since
  pub record Sends (pieces : List Piece) (from to : D) (gone : List ℕ) : Type 0 where
    pub sends : List Sending
    pub sent : map (λ s. s.piece) sends ≡ pieces
    pub acts : follows from to (send_acts [] sends)
    pub behind : gone ≡ gone_behind [] sends

  -- links to these were opened, or couldn't be, and more is due since
  pub record Opens (peers : Peers) (asked : List Peer) (from to : D) (old new : List Due) : Type 0 where
    pub opens : List Opening
    pub tried : map (λ o. o.peer) opens ≡ asked
    pub acts : follows from to (open_acts peers opens)
    pub behind : new ≡ old ++ open_dues peers opens

  -- all of a step behind its save was carried out, and more is due since
  pub record HandedOut (peers : Peers) (out : Effects) (from to : D) (old new : List Due) : Type 0 where
    pub sends : List Sending
    pub opens : List Opening
    pub carried : IsCarried out sends opens
    pub acts : follows from to (handed_acts peers out sends opens)
    pub behind : new ≡ old ++ carried_dues peers sends opens

  -- all of a step was carried out, and more is due since
  pub record Carried (peers : Peers) (out : Effects) (from to : D) (old new : List Due) : Type 0 where
    pub sends : List Sending
    pub opens : List Opening
    pub carried : IsCarried out sends opens
    pub acts : follows from to (carried_acts peers out sends opens)
    pub behind : new ≡ old ++ carried_dues peers sends opens

  -- a save failed, and nothing else was done
  pub record FailsToSave (save : Option KeptState) (from to : D) : Type 0 where
    pub state : KeptState
    pub due : save ≡ Some state
    pub acts : follows from to (Saved state false ∷ [])

  -- why a save, and all behind it, was given up: where memory is wanting nothing was done
  abbrev pub GivesUp : Option KeptState → D → D → Stop → Type 0
  GivesUp save from to stop.Dice = ⊥
  GivesUp save from to stop.Keeper = FailsToSave save from to
  GivesUp save from to stop.Memory = follows from to []

-- what there is before or behind a step: the site, the node, and the entries of the journal
pub record Scene (D S : Type 0) : Type 0 where
  pub site : D
  pub node : S
  pub entries : List Entry

abbrev pub scene : {D S : Type 0} → D → S → List Entry → Scene D S
scene site node entries = record { site = site; node = node; entries = entries }

module _ {D S : Type 0} (follows : D → D → List Act → Type 0) (rule : S → Input → ℕ → List ℕ → Outcome S) (lost : S → Input → S) where
  -- the dice failed: nothing else came, and nothing changed
  pub record FailsToRoll (old new : Scene D S) : Type 0 where
    pub acts : follows old.site new.site (Rolled None ∷ [])
    pub node : new.node ≡ old.node
    pub entries : new.entries ≡ old.entries

  -- the save of a step failed: nothing of it was sent, opened, shut or entered
  pub record FailsInStep (input : Input) (old new : Scene D S) : Type 0 where
    pub reading : ℕ
    pub draw : List ℕ
    pub state : KeptState
    pub due : (rule old.node input reading draw).out.save ≡ Some state
    pub acts : follows old.site new.site (Rolled (Some draw) ∷ Read reading ∷ Saved state false ∷ [])
    pub node : new.node ≡ (rule old.node input reading draw).state
    pub entries : new.entries ≡ old.entries

  -- memory was wanting to carry a step out: nothing of it was saved, sent, opened, shut or entered
  pub record WantsInStep (input : Input) (old new : Scene D S) : Type 0 where
    pub reading : ℕ
    pub draw : List ℕ
    pub short : Bool
    pub acts : follows old.site new.site (Rolled (Some draw) ∷ Read reading ∷ [])
    pub node : new.node ≡ node_behind rule lost old.node input reading draw short
    pub entries : new.entries ≡ old.entries

  -- the run stopped in a step
  abbrev pub Stopped : Input → Scene D S → Scene D S → Stop → Type 0
  Stopped input old new stop.Dice = FailsToRoll old new
  Stopped input old new stop.Keeper = FailsInStep input old new
  Stopped input old new stop.Memory = WantsInStep input old new

module _ {D S : Type 0} (follows : D → D → List Act → Type 0) (rule : S → Input → ℕ → List ℕ → Outcome S) (lost : S → Input → S) (regards : S → ℕ → Option Regard) where
  -- a step at this input went so: its acts came, the node is behind it, and its entries were entered
  pub record StepGoes (peers : Peers) (input : Input) (went : Went) (old new : Scene D S) : Type 0 where
    pub carried : IsCarried (went_effects rule lost old.node input went) went.sends went.opens
    pub acts : follows old.site new.site (step_acts rule lost regards peers old.node input went)
    pub node : new.node ≡ went_node rule lost old.node input went
    pub entries : new.entries ≡ old.entries ++ (went_effects rule lost old.node input went).entries

  -- a step was carried out, and what is due of it stands behind what was due before
  pub record Performed (peers : Peers) (input : Input) (old new : Scene D S) (before behind : List Due) (stepped : Stepped) : Type 0 where
    pub went : Went
    pub goes : StepGoes peers input went old new
    pub short : stepped.short ≡ went.short
    pub turned : stepped.turned ≡ (went_effects rule lost old.node input went).turned
    pub dues : behind ≡ before ++ carried_dues peers went.sends went.opens
