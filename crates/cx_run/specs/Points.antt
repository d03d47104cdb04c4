-- A run as its points: each event together with the nodes to which it comes. What is said of a run is said of its points, the newest first, so that
-- "on that link" and "at that event" can be said.
use Rattle.std.specs.Prelude.{ℕ, ◌≡◌, ◌==◌, ◌&&◌, ◌⊎◌, Bool, false, List, [], ◌∷◌, ◌++◌, map, Contains}
use Rattle.cx_base.specs.declared.nodes.NodeName.{NodeName}
use Rattle.cx_rules_session.specs.cx_journal.specs.declared.entries.Entry.{Entry}
use Rattle.cx_rules_session.specs.cx_journal.specs.declared.entries.Entry.TheVariants as entry
use Rattle.cx_rules_session.specs.cx_rules.specs.Inputs.{Input, Opened, NoLink, Bytes, Turn, Gone, Look, Tick, Submit, Restart}
use Rattle.cx_run.specs.Happenings.{Happening, Nodes, Stepped, journal_from, logged_by, seals_from, steps}
use Rattle.cx_run.specs.Opening.{Setup, leaks_entered, nodes_of, secrets_drawn}
use Rattle.cx_run.specs.Wires.{same_node}
use Rattle.cx_rules_session.specs.cx_steps.specs.declared.seals.Logged.{Logged}
use Rattle.cx_rules_session.specs.cx_steps.specs.declared.seals.SealEntry.{SealEntry}

-- ---- log and journal of a list of events

-- the log of these events, from the nodes of an opening on: the entities' secrets stand first
abbrev pub log_since : Setup → List Happening → List Logged
log_since setup hs = secrets_drawn setup ++ seals_from (nodes_of setup) hs

-- their journal: the leaked clients stand first
abbrev pub journal_since : Setup → List Happening → List Entry
journal_since setup hs = map (λ e. e.entry) (leaks_entered setup ++ journal_from (nodes_of setup) hs)

-- ---- points

-- an event, and the nodes to which it comes
pub record Point : Type 0 where
  pub nodes : Nodes
  pub happening : Happening

-- behind these points, those of these events, from these nodes on
abbrev pub points_onto : List Point → Nodes → List Happening → List Point
points_onto past nodes [] = past
points_onto past nodes (h ∷ hs) = points_onto (record { nodes = nodes; happening = h } ∷ past) (steps nodes h).nodes hs

-- those of these events, from an opening on
abbrev pub points : Setup → List Happening → List Point
points setup hs = points_onto [] (nodes_of setup) hs

-- what a point comes to: the nodes behind it, what is entered and what is logged
abbrev pub stepped_at : Point → Stepped
stepped_at p = steps p.nodes p.happening

abbrev pub nodes_past : Point → Nodes
nodes_past p = (stepped_at p).nodes

abbrev pub entries_at : Point → List Entry
entries_at p = (stepped_at p).out.entries

abbrev pub seals_at : Point → List SealEntry
seals_at p = (stepped_at p).out.seals

-- ---- journal and log until a point

-- the journal of these points: the leaked clients stand first
abbrev pub entered_until : Setup → List Point → List Entry
entered_until setup [] = map (λ e. e.entry) (leaks_entered setup)
entered_until setup (p ∷ older) = entered_until setup older ++ entries_at p

-- these entries of a log, and then the earlier ones, the newest first
abbrev pub onto : List Logged → List Logged → List Logged
onto [] earlier = earlier
onto (x ∷ xs) earlier = onto xs (x ∷ earlier)

-- their log, the newest entry first: the entities' secrets were drawn before
abbrev pub logged_until : Setup → List Point → List Logged
logged_until setup [] = onto (secrets_drawn setup) []
logged_until setup (p ∷ older) = onto (logged_by p.happening (stepped_at p).out) (logged_until setup older)

-- ---- what is said of points

-- at each of these points, behind the older ones
abbrev pub EachPoint : (List Point → Point → Type 0) → List Point → Type 0
EachPoint P [] = Unit {0}
EachPoint P (p ∷ older) = P older p × EachPoint P older

-- at one of them
abbrev pub Before : (List Point → Point → Type 0) → List Point → Type 0
Before P [] = ⊥
Before P (p ∷ older) = P older p ⊎ Before P older

-- a link of this number is opened
abbrev pub is_opened : ℕ → Input → Bool
is_opened number (Opened n peer) = n == number
is_opened number (NoLink peer) = false
is_opened number (Bytes n bytes) = false
is_opened number (Turn n) = false
is_opened number (Gone n) = false
is_opened number (Look view) = false
is_opened number Tick = false
is_opened number (Submit command) = false
is_opened number Restart = false

-- such a link is opened at this node
abbrev pub opens_at : NodeName → ℕ → Point → Bool
opens_at who number p = same_node p.happening.node who && is_opened number p.happening.input

-- at one of them, and since then no link of this number was opened at this node: what lives there under this number is still that link
abbrev pub Since : NodeName → ℕ → (List Point → Point → Type 0) → List Point → Type 0
Since who number P [] = ⊥
Since who number P (p ∷ older) = P older p ⊎ ((opens_at who number p ≡ false) × Since who number P older)

-- the entry was made at one of them
abbrev pub WasEntered : List Point → Entry → Type 0
WasEntered past e = Before (λ older p. Contains (entries_at p) e) past

-- an event makes such an entry; that a client is leaked is said before all events
abbrev pub IsOfEvent : Entry → Type 0
IsOfEvent (entry.Leaked name) = ⊥
IsOfEvent _ = Unit {0}
