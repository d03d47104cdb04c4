-- The monitor's lives are those of the opening, at each event.
use Rattle.std.proofs.Common.{◌≡◌, ◌⊎◌, ℕ, Bool, true, false, List, [], ◌∷◌, Option, Some, None, inl, inr, refl, sym, ◌∙◌, subst}
use Rattle.std.specs.Prelude.{if◌then◌else◌}
use Rattle.cx_base.specs.Names.{Name, same_kind}
use Rattle.cx_base.specs.declared.kinds.EntityType.{EntityType}
use Rattle.cx_base.specs.declared.kinds.EntityType.TheVariants.{Auth}
use Rattle.cx_base.specs.declared.nodes.NodeName.{NodeName}
use Rattle.cx_base.specs.declared.nodes.NodeName.TheVariants as node
use Rattle.cx_journal.specs.declared.entries.Entry.{Entry}
use Rattle.cx_laws_tickets.specs.cx_keyserver.specs.Servers.{life_of}
use Rattle.cx_rotate.specs.declared.states.KeptState.{KeptState}
use Rattle.cx_laws_tickets.specs.cx_rules_session.specs.cx_rules.specs.Monitor.{Monitor}
use Rattle.cx_laws_tickets.specs.cx_run.specs.Happenings.{EntityNode, Happening, Nodes, Stepped, entity_of, entity_steps, steps, steps_of}
use Rattle.cx_laws_tickets.specs.cx_run.specs.Opening.{Setup, first_state, nodes_of}
use Rattle.cx_laws_tickets.specs.cx_run.specs.Points.{EachPoint, Point, points, points_onto}
use Rattle.cx_laws_tickets.proofs.chain.Steps.{ComesOn, event-goes_on}
use Rattle.cx_laws_tickets.specs.chain.Chain.{life_in}

-- the lives of this state are those of the opening
record HasLives (setup : Setup) (state : KeptState) : Type 0 where
  life : state.life ≡ (first_state setup).life
  auth_life : state.auth_life ≡ (first_state setup).auth_life

lives-of : (setup : Setup) (state : KeptState) (service : EntityType) → HasLives setup state → life_of state service ≡ life_in setup service
lives-of setup state service h = by_test (same_kind service Auth)
  where
    by_test : (t : Bool) → (if t then state.auth_life else state.life) ≡ (if t then (first_state setup).auth_life else (first_state setup).life)
    by_test true = h.auth_life
    by_test false = h.life

-- what the monitor has, and what it saved last, are so
record LivesOn (setup : Setup) (own : Monitor) : Type 0 where
  present : HasLives setup own.server.state
  saved : HasLives setup own.saved

module _ (setup : Setup) where
  comes-lived : (reading : ℕ) (draw : List ℕ) (before behind : Monitor) (es : List Entry) → ComesOn reading draw before behind es → LivesOn setup before → LivesOn setup behind
  comes-lived reading draw before behind es (inl e) h = by_saves e.saves
    where
      present : HasLives setup behind.server.state
      present = record { life = e.state.life ∙ h.present.life; auth_life = e.state.auth_life ∙ h.present.auth_life }

      by_saves : {A B : Type 0} → ((behind.saved ≡ before.saved) × A) ⊎ ((behind.saved ≡ behind.server.state) × B) → LivesOn setup behind
      by_saves (inl (same, none)) = record { present = present; saved = subst (HasLives setup) (sym same) h.saved }
      by_saves (inr (same, tickets)) = record { present = present; saved = subst (HasLives setup) (sym same) present }
  comes-lived reading draw before behind es (inr e) h =
      record { present = subst (HasLives setup) (sym e.state) h.saved; saved = subst (HasLives setup) (sym e.saved) h.saved }

  entity-lived : (nodes : Nodes) (h : Happening) (name : Name) (found : Option EntityNode) → LivesOn setup nodes.monitor.own → LivesOn setup (entity_steps nodes h name found).nodes.monitor.own
  entity-lived nodes h name None lived = lived
  entity-lived nodes h name (Some entity) lived = lived

  node-lived : (nodes : Nodes) (h : Happening) (n : NodeName) → LivesOn setup nodes.monitor.own → LivesOn setup (steps_of nodes h n).nodes.monitor.own
  node-lived nodes h node.Monitor lived =
      let s : Stepped = steps_of nodes h node.Monitor in
      comes-lived h.reading h.draw nodes.monitor.own s.nodes.monitor.own s.out.entries (event-goes_on nodes h.input h.reading h.draw h.left) lived
  node-lived nodes h (node.Entity name) lived = entity-lived nodes h name (entity_of name nodes) lived

  -- so it is before each event
  abbrev IsLived : List Point → Point → Type 0
  IsLived older p = LivesOn setup p.nodes.monitor.own

  lived-onto : (hs : List Happening) (past : List Point) (nodes : Nodes) → LivesOn setup nodes.monitor.own → EachPoint IsLived past → EachPoint IsLived (points_onto past nodes hs)
  lived-onto [] past nodes lived so_far = so_far
  lived-onto (h ∷ hs) past nodes lived so_far =
      lived-onto hs (record { nodes = nodes; happening = h } ∷ past) (steps nodes h).nodes (node-lived nodes h h.node lived) (lived, so_far)

  each-life : (past : List Point) → EachPoint IsLived past
      → EachPoint (λ (older : List Point) (p : Point). (service : EntityType) → life_of p.nodes.monitor.own.server.state service ≡ life_in setup service) past
  each-life [] lived = tt
  each-life (p ∷ past) lived = (λ service. lives-of setup p.nodes.monitor.own.server.state service lived.0.present, each-life past lived.1)

  -- at each event the lives of the services are those of the opening
  pub all-lived : (hs : List Happening)
      → EachPoint (λ (older : List Point) (p : Point). (service : EntityType) → life_of p.nodes.monitor.own.server.state service ≡ life_in setup service) (points setup hs)
  all-lived hs =
      let first : HasLives setup (first_state setup) = record { life = refl; auth_life = refl } in
      each-life (points setup hs) (lived-onto hs [] (nodes_of setup) (record { present = first; saved = first }) tt)
