-- Coverage by time ("The Ceph authentication protocol", rotating service secrets: a service keeps the last three, so that a ticket opens for as long as it
-- lives): how long a daemon holds the generation of each unexpired ticket of its service after it asked for the generations that it has.
use Rattle.std.specs.Prelude.{ℕ, ◌≡◌, ◌⊎◌, ◌<◌, ◌≤◌, ◌+◌, ◌||◌, Bool, true, List, [], ◌∷◌, ◌++◌, map, filter, Some, Contains}
use Rattle.cx_base.specs.Names.{Name}
use Rattle.cx_base.specs.declared.nodes.NodeName.TheVariants as node
use Rattle.cx_journal.specs.KeepsKeys.{has_generation}
use Rattle.cx_journal.specs.declared.entries.Entry.TheVariants as entry
use Rattle.cx_journal.specs.declared.entries.Fetched.{Fetched}
use Rattle.cx_journal.specs.declared.entries.Issued.{Issued}
use Rattle.cx_journal.specs.declared.entries.Looked.{Looked}
use Rattle.cx_rotate.specs.declared.generations.Generation.{Generation}
use Rattle.cx_laws_tickets.specs.cx_run.specs.Happenings.{Happening}
use Rattle.cx_laws_tickets.specs.cx_run.specs.Opening.{Setup, first_state}
use Rattle.cx_laws_tickets.specs.cx_run.specs.Points.{EachPoint, Point, WasEntered, entries_at}
use Rattle.cx_laws_tickets.specs.cx_run.specs.Wires.{same_node}

-- ---- clocks

-- none of these readings is below the one before it
abbrev pub NeverFall : List ℕ → Type 0
NeverFall [] = Unit {0}
NeverFall (x ∷ []) = Unit {0}
NeverFall (x ∷ y ∷ readings) = (x ≤ y) × NeverFall (y ∷ readings)

-- the event is one of the monitor, or of this daemon
abbrev pub is_of_either : Name → Happening → Bool
is_of_either daemon h = same_node h.node node.Monitor || same_node h.node (node.Entity daemon)

-- the readings of the monitor and of this daemon never fall, in the order of their events; those of other nodes may
abbrev pub IsSteadyFor : Name → List Happening → Type 0
IsSteadyFor daemon hs = NeverFall (map (λ (h : Happening). h.reading) (filter (is_of_either daemon) hs))

-- ---- looks

-- the reading is before the expiry of the newest of these
abbrev pub IsBeforeNewest : ℕ → List Generation → Type 0
IsBeforeNewest reading generations =
    (older : List Generation) × (newest : Generation) × (generations ≡ older ++ newest ∷ []) × (reading < newest.expires)

-- a look at this reading, behind these points: while less than a life has passed since the view was asked for, and as long as its newest generation is
-- unexpired, it lists the generation of each ticket that was issued for the daemon's service and is unexpired
abbrev pub Covers : ℕ → List Point → ℕ → Looked → Type 0
Covers life older reading look =
    (asked : ℕ) → look.view.asked ≡ Some asked → ((reading < asked + life) ⊎ IsBeforeNewest reading look.view.generations)
    → (t : Issued) → WasEntered older (entry.Issued t) → t.service ≡ look.daemon.kind → reading < t.expires
    → has_generation look.view.generations t.generation ≡ true

-- so does each look of this daemon, at each of these points. The life is that of tickets and secrets of services
abbrev pub IsCovered : Setup → Name → List Point → Type 0
IsCovered setup daemon past = EachPoint (λ older p. (look : Looked) → Contains (entries_at p) (entry.Looked look) → look.daemon ≡ daemon
    → Covers (first_state setup).life older p.happening.reading look) past

-- ---- pace

-- of three, the second expires a life or more before the newest: so a daemon that asks again once the second has expired can have its answer a life long
abbrev pub ArePaced : ℕ → List Generation → Type 0
ArePaced life (_ ∷ second ∷ newest ∷ []) = second.expires + life ≤ newest.expires
ArePaced life _ = Unit {0}

-- so is what a daemon fetched, at each of these points
abbrev pub FetchesPaced : Setup → List Point → Type 0
FetchesPaced setup past = EachPoint (λ older p. (f : Fetched) → Contains (entries_at p) (entry.Fetched f) → ArePaced (first_state setup).life f.generations) past
