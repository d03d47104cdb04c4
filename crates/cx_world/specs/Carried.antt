-- What the code of a run holds, and which worlds of the rules it carries.
use Rattle.std.specs.Prelude.{ℕ, ◌≡◌, ◌≤◌, ◌==◌, ◌||◌, not, Bool, List, [], ◌++◌, length, map, Option, Some, None}
use Rattle.cx_base.specs.Names.{Name}
use Rattle.cx_desk.specs.Handlers.{Handlers}
use Rattle.cx_journal.specs.declared.entries.Entry.{Entry}
use Rattle.cx_base.specs.declared.nodes.NodeName.{NodeName}
use Rattle.cx_world.specs.actors.Held.{StandFor}
use Rattle.cx_world.specs.declared.made.Made.{Made}
use Rattle.cx_premises.specs.Ledgers.{StandsFor}
use Rattle.cx_world_start.specs.cx_run.specs.Deliveries.{Given}
use Rattle.cx_world_start.specs.cx_run.specs.Happenings.{Happening, Nodes, journal_from, nodes_behind, seals_from}
use Rattle.cx_world_start.specs.cx_run.specs.Worlds.{World}
use Rattle.cx_steps.specs.declared.effects.Effects.{Effects}
use Rattle.cx_steps.specs.declared.seals.Logged.{Logged}
use Rattle.cx_steps.specs.declared.seals.SealEntry.{SealEntry}
use Rattle.cx_world.specs.Logs.{logged_at}
use Rattle.cx_world.specs.declared.records.Record.{Record}
use Rattle.cx_world.specs.declared.world.World.{World as Held}

-- where a run began whose daemons have these handlers: its nodes, what stood in journal and log before all events, and the clients that leaked
pub record Began (handlers : Handlers) : Type 0 where
  pub nodes : Nodes
  pub journal : List Entry
  pub log : List Logged
  pub leaked : List Name

-- journal and log so far are those of these events
pub record IsRecord {handlers : Handlers} (b : Began handlers) (held : Record) (past : List Happening) : Type 0 where
  pub journal : held.journal ≡ b.journal ++ map (λ e. e.entry) (journal_from b.nodes past)
  pub ledger : StandsFor held.ledger b.leaked (b.log ++ seals_from b.nodes past)

-- something happened since there were so many events, where that is asked
abbrev pub HasStirred : Bool → Option ℕ → List Happening → Type 0
HasStirred stirred None past = Unit {0}
HasStirred stirred (Some seen) past = (seen ≤ length past) × (stirred ≡ not (length past == seen))

-- the code carries this world of a run that began so, and tells whether something happened since there were so many events
pub record Carries {handlers : Handlers} (b : Began handlers) (seen : Option ℕ) (held : Held) (w : World) : Type 0 where
  pub nodes : StandFor handlers held.nodes w.nodes w.posts
  pub led : w.nodes ≡ nodes_behind b.nodes w.past
  pub wires : held.wires ≡ w.wires
  pub left : held.left ≡ w.left
  pub line : held.line ≡ w.line
  pub told : IsRecord b held.told w.past
  pub stirred : HasStirred held.stirred seen w.past

-- each world whose daemons have these handlers, and that the code carries before, is this one behind
abbrev pub Makes : Handlers → Held → Held → (World → World) → Type 0
Makes handlers old new change = (b : Began handlers) (seen : Option ℕ) (w : World) → Carries b seen old w → Carries b seen new (change w)

-- the same where it isn't asked whether something happened
abbrev pub MakesAlone : Handlers → Held → Held → (World → World) → Type 0
MakesAlone handlers old new change = (b : Began handlers) (w : World) → Carries b None old w → Carries b None new (change w)

-- the effects of an event without what is entered and logged
abbrev pub without_told : Effects → Effects
without_told out = record out { entries = []; seals = [] }

-- what an event came to is what the definition gives, of which entries and seals were told, and the world behind it is carried
pub record IsGivenTo {handlers : Handlers} (b : Began handlers) (seen : Option ℕ) (held : Held) (made : Made) (g : Given) : Type 0 where
  pub world : Carries b seen held g.world
  pub out : made.out ≡ without_told g.out
  pub failed : made.failed ≡ g.failed

-- what an event came to is entered and logged; the nodes are those behind it
pub record IsNoted (who : NodeName) (made : Made) (old new : Held) : Type 0 where
  pub nodes : new.nodes ≡ old.nodes
  pub wires : new.wires ≡ old.wires
  pub left : new.left ≡ old.left
  pub line : new.line ≡ old.line
  pub journal : new.told.journal ≡ old.told.journal ++ made.out.entries
  pub ledger : (leaked : List Name) (log : List Logged) → StandsFor old.told.ledger leaked log
      → StandsFor new.told.ledger leaked (log ++ map (λ (e : SealEntry). logged_at who old.line e) made.out.seals)
  pub stirred : new.stirred ≡ (made.happened || old.stirred)
