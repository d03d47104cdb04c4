-- What may come to the entities of a run, and doesn't: a view that is told by hand, which no schedule brings about, and clients.
use Rattle.std.specs.Prelude.{List, None}
use Rattle.std.specs.List.{AllByRecursion}
use Rattle.cx_base.specs.declared.nodes.NodeName.{NodeName}
use Rattle.cx_base.specs.declared.nodes.NodeName.TheVariants as node
use Rattle.cx_rules_session.specs.cx_rules.specs.Inputs.{Input, Opened, Look, Submit}
use Rattle.cx_rules_session.specs.cx_steps.specs.declared.events.Command.TheVariants as told
use Rattle.cx_run.specs.Happenings.{Happening}

-- ---- views

-- no view is told but by a reply
abbrev pub IsNoLook : Input → Type 0
IsNoLook (Look view) = ⊥
IsNoLook _ = Unit {0}

-- so it is at each of these events
abbrev pub AreUntold : List Happening → Type 0
AreUntold hs = AllByRecursion (λ (h : Happening). IsNoLook h.input) hs

-- ---- clients

-- no view is told but by a reply, no client is told to connect, no session is dropped, and no link opens at an entity but one that it opens itself
abbrev pub IsUnvisited : NodeName → Input → Type 0
IsUnvisited (node.Entity name) (Opened number None) = ⊥
IsUnvisited who (Submit (told.Drop session)) = ⊥
IsUnvisited who (Submit (told.Connect daemon lossy)) = ⊥
IsUnvisited who (Look view) = ⊥
IsUnvisited who input = Unit {0}

-- so is each of these events
abbrev pub AreUnvisited : List Happening → Type 0
AreUnvisited hs = AllByRecursion (λ (h : Happening). IsUnvisited h.node h.input) hs
