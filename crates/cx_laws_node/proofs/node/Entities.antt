-- An entity of a run does what it does alone.
use Rattle.std.proofs.Common.{◌≡◌, Bool, true, false, List, [], ◌∷◌, ◌++◌, map, Option, Some, None, refl, sym, ap, ◌∙◌}
use Rattle.std.specs.Option.{option_map}
use Rattle.std.specs.Prelude.{cond, find}
use Rattle.cx_base.proofs.Names.{same_name_is}
use Rattle.cx_base.specs.Names.{Name, same_name}
use Rattle.cx_base.specs.declared.nodes.NodeName.{NodeName}
use Rattle.cx_base.specs.declared.nodes.NodeName.TheVariants as node
use Rattle.cx_laws_keys.proofs.keys.Lists.{found_passes}
use Rattle.cx_run.proofs.EntityNamed.{entity-named}
use Rattle.cx_desk.specs.Handlers.{Handlers}
use Rattle.cx_laws_node.specs.node.Alone.{client_behind, client_outs, client_steps_alone, daemon_behind, daemon_outs, daemon_steps_alone, entity_behind, entity_outs, entity_steps_alone, given_at, given_if, of_node}
use Rattle.cx_words.specs.declared.choices.LeftState.{LeftState}
use Rattle.cx_rotate.specs.declared.states.KeptState.{KeptState}
use Rattle.cx_run.specs.cx_rules_session.specs.ClientRule.{WholeClientNode}
use Rattle.cx_laws_keys.specs.cx_rules.specs.Monitor.{MonitorNode}
use Rattle.cx_laws_keys.specs.cx_rules.specs.MonitorRule.{monitor_rule}
use Rattle.cx_laws_keys.specs.cx_rules.specs.Rows.{Outcome}
use Rattle.cx_run.specs.cx_rules_session.specs.DaemonRule.{DaemonState}
use Rattle.cx_run.specs.Happenings.{EntityNode, OfClient, OfDaemon, Happening, Nodes, mon_client_in, entity_of, entity_steps, is_of, monitor_steps, nodes_behind, steps}
use Rattle.cx_run.specs.Wires.{same_node}
use Rattle.cx_steps.specs.declared.effects.Effects.{Effects}

-- ---- finding an item where one was put in place of others

module _ {X : Type 0} where
  put_first : (p : X → Bool) (new c : X) (rest other : Option X) (b : Bool) → p c ≡ b → p new ≡ true → rest ≡ option_map (λ (_ : X). new) other
      → cond (p (cond b new c)) (Some (cond b new c)) rest ≡ option_map (λ (_ : X). new) (cond b (Some c) other)
  put_first p new c rest other true is of more = ap (λ (k : Bool). cond k (Some new) rest) of
  put_first p new c rest other false is of more = ap (λ (k : Bool). cond k (Some c) rest) is ∙ more

  -- those that pass the test are replaced by one that does
  put_finds : (p : X → Bool) (new : X) (xs : List X) → p new ≡ true → find p (map (λ c. cond (p c) new c) xs) ≡ option_map (λ (_ : X). new) (find p xs)
  put_finds p new [] of = refl
  put_finds p new (c ∷ xs) of = put_first p new c (find p (map (λ c. cond (p c) new c) xs)) (find p xs) (p c) refl of (put_finds p new xs of)

  other_first : (p q : X → Bool) (new c : X) (rest other : Option X) (b : Bool) → q c ≡ b → (q c ≡ true → p c ≡ false) → p new ≡ false → rest ≡ other
      → cond (p (cond b new c)) (Some (cond b new c)) rest ≡ cond (p c) (Some c) other
  other_first p q new c rest other true is apart not more =
      ap (λ (k : Bool). cond k (Some new) rest) not ∙ more ∙ sym (ap (λ (k : Bool). cond k (Some c) other) (apart is))
  other_first p q new c rest other false is apart not more = ap (λ (r : Option X). cond (p c) (Some c) r) more

  -- others are replaced by one that doesn't
  other_finds : (p q : X → Bool) (new : X) (xs : List X) → ((c : X) → q c ≡ true → p c ≡ false) → p new ≡ false → find p (map (λ c. cond (q c) new c) xs) ≡ find p xs
  other_finds p q new [] apart not = refl
  other_finds p q new (c ∷ xs) apart not =
      other_first p q new c (find p (map (λ c. cond (q c) new c) xs)) (find p xs) (q c) refl (apart c) not (other_finds p q new xs apart not)

  itself : (o : Option X) → o ≡ option_map (λ (c : X). c) o
  itself None = refl
  itself (Some c) = refl

  twice : {Y : Type 0} → (f : X → Y) (g : X → X) (o : Option X) → option_map f (option_map g o) ≡ option_map (λ (c : X). f (g c)) o
  twice f g None = refl
  twice f g (Some c) = refl

-- ---- one step

abbrev stepped : Handlers → Happening → EntityNode → EntityNode
stepped handlers h e = (entity_steps_alone handlers e h).state

-- its name stays
same_test : (handlers : Handlers) (name : Name) (h : Happening) (e : EntityNode) → is_of name (stepped handlers h e) ≡ is_of name e
same_test handlers name h e = ap (λ (n : Name). same_name n name) (entity-named handlers e h.input h.reading h.draw)

-- an event that comes to this entity
own_step : (nodes : Nodes) (h : Happening) (name : Name) (found : Option EntityNode) → entity_of name nodes ≡ found
    → entity_of name (entity_steps nodes h name found).nodes ≡ option_map (stepped nodes.handlers h) found
own_step nodes h name None is = is
own_step nodes h name (Some e) is =
    put_finds (is_of name) (stepped nodes.handlers h e) nodes.entities (same_test nodes.handlers name h e ∙ found_passes (is_of name) nodes.entities e is)
    ∙ ap (λ (o : Option EntityNode). option_map (λ (_ : EntityNode). stepped nodes.handlers h e) o) is

-- an event that comes to another one
other_step : (nodes : Nodes) (h : Happening) (name other : Name) (found : Option EntityNode) → same_name other name ≡ false → entity_of other nodes ≡ found
    → entity_of name (entity_steps nodes h other found).nodes ≡ entity_of name nodes
other_step nodes h name other None apart is = refl
other_step nodes h name other (Some e) apart is =
    let differs : (d : EntityNode) → is_of other d ≡ true → is_of name d ≡ false =
    λ d e. ap (λ (n : Name). same_name n name) (same_name_is (mon_client_in d).name other e) ∙ apart in
    other_finds (is_of name) (is_of other) (stepped nodes.handlers h e) nodes.entities differs
    (differs (stepped nodes.handlers h e) (same_test nodes.handlers other h e ∙ found_passes (is_of other) nodes.entities e is))

-- an event that comes to the monitor
monitor_step : (nodes : Nodes) (name : Name) (o : Outcome MonitorNode) (left : Option LeftState) (save : Option KeptState)
    → entity_of name (monitor_steps nodes o left save).nodes ≡ entity_of name nodes
monitor_step nodes name o (Some left) (Some saved) = refl
monitor_step nodes name o (Some left) None = refl
monitor_step nodes name o None save = refl

-- the handlers stay
monitor_handlers : (nodes : Nodes) (o : Outcome MonitorNode) (left : Option LeftState) (save : Option KeptState) → (monitor_steps nodes o left save).nodes.handlers ≡ nodes.handlers
monitor_handlers nodes o (Some left) (Some saved) = refl
monitor_handlers nodes o (Some left) None = refl
monitor_handlers nodes o None save = refl

entity_handlers : (nodes : Nodes) (h : Happening) (name : Name) (found : Option EntityNode) → (entity_steps nodes h name found).nodes.handlers ≡ nodes.handlers
entity_handlers nodes h name None = refl
entity_handlers nodes h name (Some e) = refl

-- ---- all steps

abbrev at : Happening → NodeName → Happening
at h who = record h { node = who }

abbrev of_entity : Name → List Happening → List Happening
of_entity name hs = of_node (node.Entity name) hs

handlers_stay : (nodes : Nodes) (h : Happening) (who : NodeName) → (steps nodes (at h who)).nodes.handlers ≡ nodes.handlers
handlers_stay nodes h node.Monitor =
    let o : Outcome MonitorNode = monitor_rule nodes.monitor h.input h.reading h.draw in monitor_handlers nodes o h.left o.out.save
handlers_stay nodes h (node.Entity name) = entity_handlers nodes (at h (node.Entity name)) name (entity_of name nodes)

-- an event of an entity, which is this one or another
by_name : (nodes : Nodes) (h : Happening) (hs : List Happening) (name other : Name) (b : Bool) → same_name other name ≡ b
    → option_map (λ e. entity_behind nodes.handlers e (of_entity name hs)) (entity_of name (entity_steps nodes h other (entity_of other nodes)).nodes)
    ≡ option_map (λ e. entity_behind nodes.handlers e (cond b (at h (node.Entity other) ∷ of_entity name hs) (of_entity name hs))) (entity_of name nodes)
by_name nodes h hs name other true is =
    let same : other ≡ name = same_name_is other name is in
    ap (λ (n : Name). option_map (λ e. entity_behind nodes.handlers e (of_entity name hs)) (entity_of name (entity_steps nodes h n (entity_of n nodes)).nodes)) same
    ∙ ap (λ (o : Option EntityNode). option_map (λ e. entity_behind nodes.handlers e (of_entity name hs)) o) (own_step nodes h name (entity_of name nodes) refl)
    ∙ twice (λ e. entity_behind nodes.handlers e (of_entity name hs)) (stepped nodes.handlers h) (entity_of name nodes)
by_name nodes h hs name other false is =
    ap (λ (o : Option EntityNode). option_map (λ e. entity_behind nodes.handlers e (of_entity name hs)) o) (other_step nodes h name other (entity_of other nodes) is refl)

behind_of : (nodes : Nodes) (h : Happening) (hs : List Happening) (name : Name) (who : NodeName)
    → option_map (λ e. entity_behind nodes.handlers e (of_entity name hs)) (entity_of name (steps nodes (at h who)).nodes)
    ≡ option_map (λ e. entity_behind nodes.handlers e (of_entity name (at h who ∷ hs))) (entity_of name nodes)
behind_of nodes h hs name node.Monitor =
    let o : Outcome MonitorNode = monitor_rule nodes.monitor h.input h.reading h.draw in
    ap (λ (k : Option EntityNode). option_map (λ e. entity_behind nodes.handlers e (of_entity name hs)) k) (monitor_step nodes name o h.left o.out.save)
behind_of nodes h hs name (node.Entity other) = by_name nodes h hs name other (same_name other name) refl

pub entity_is : (nodes : Nodes) (name : Name) (hs : List Happening)
    → entity_of name (nodes_behind nodes hs) ≡ option_map (λ e. entity_behind nodes.handlers e (of_entity name hs)) (entity_of name nodes)
entity_is nodes name [] = itself (entity_of name nodes)
entity_is nodes name (h ∷ hs) =
    entity_is (steps nodes h).nodes name hs
    ∙ ap (λ (handlers : Handlers). option_map (λ e. entity_behind handlers e (of_entity name hs)) (entity_of name (steps nodes h).nodes)) (handlers_stay nodes h h.node)
    ∙ behind_of nodes h hs name h.node

-- ---- what it gives

own_out : (nodes : Nodes) (h : Happening) (hs : List Happening) (name : Name) (found : Option EntityNode)
    → (entity_steps nodes h name found).out ∷ entity_outs nodes.handlers (option_map (stepped nodes.handlers h) found) hs ≡ entity_outs nodes.handlers found (at h (node.Entity name) ∷ hs)
own_out nodes h hs name None = refl
own_out nodes h hs name (Some e) = refl

outs_by_name : (nodes : Nodes) (h : Happening) (hs : List Happening) (name other : Name) (b : Bool) → same_name other name ≡ b
    → given_if b (entity_steps nodes h other (entity_of other nodes)).out
    ++ entity_outs nodes.handlers (entity_of name (entity_steps nodes h other (entity_of other nodes)).nodes) (of_entity name hs)
    ≡ entity_outs nodes.handlers (entity_of name nodes) (cond b (at h (node.Entity other) ∷ of_entity name hs) (of_entity name hs))
outs_by_name nodes h hs name other true is =
    let same : other ≡ name = same_name_is other name is in
    ap (λ (n : Name). (entity_steps nodes h n (entity_of n nodes)).out ∷ entity_outs nodes.handlers (entity_of name (entity_steps nodes h n (entity_of n nodes)).nodes) (of_entity name hs)) same
    ∙ ap (λ (o : Option EntityNode). (entity_steps nodes h name (entity_of name nodes)).out ∷ entity_outs nodes.handlers o (of_entity name hs)) (own_step nodes h name (entity_of name nodes) refl)
    ∙ own_out nodes h (of_entity name hs) name (entity_of name nodes)
    ∙ ap (λ (n : Name). entity_outs nodes.handlers (entity_of name nodes) (at h (node.Entity n) ∷ of_entity name hs)) (sym same)
outs_by_name nodes h hs name other false is =
    ap (λ (o : Option EntityNode). entity_outs nodes.handlers o (of_entity name hs)) (other_step nodes h name other (entity_of other nodes) is refl)

outs_of : (nodes : Nodes) (h : Happening) (hs : List Happening) (name : Name) (who : NodeName)
    → given_if (same_node who (node.Entity name)) (steps nodes (at h who)).out ++ entity_outs nodes.handlers (entity_of name (steps nodes (at h who)).nodes) (of_entity name hs)
    ≡ entity_outs nodes.handlers (entity_of name nodes) (of_entity name (at h who ∷ hs))
outs_of nodes h hs name node.Monitor =
    let o : Outcome MonitorNode = monitor_rule nodes.monitor h.input h.reading h.draw in
    ap (λ (k : Option EntityNode). entity_outs nodes.handlers k (of_entity name hs)) (monitor_step nodes name o h.left o.out.save)
outs_of nodes h hs name (node.Entity other) = outs_by_name nodes h hs name other (same_name other name) refl

none_given : (handlers : Handlers) (e : Option EntityNode) → [] ≡ entity_outs handlers e []
none_given handlers e = refl

pub entity_gives : (nodes : Nodes) (name : Name) (hs : List Happening)
    → given_at (node.Entity name) nodes hs ≡ entity_outs nodes.handlers (entity_of name nodes) (of_entity name hs)
entity_gives nodes name [] = none_given nodes.handlers (entity_of name nodes)
entity_gives nodes name (h ∷ hs) =
    ap (λ (outs : List Effects). given_if (same_node h.node (node.Entity name)) (steps nodes h).out ++ outs) (entity_gives (steps nodes h).nodes name hs)
    ∙ ap (λ (handlers : Handlers). given_if (same_node h.node (node.Entity name)) (steps nodes h).out ++ entity_outs handlers (entity_of name (steps nodes h).nodes) (of_entity name hs))
    (handlers_stay nodes h h.node)
    ∙ outs_of nodes h hs name h.node

-- ---- by its kind

pub client_is : (handlers : Handlers) (c : WholeClientNode) (hs : List Happening) → entity_behind handlers (OfClient c) hs ≡ OfClient (client_behind c hs)
client_is handlers c [] = refl
client_is handlers c (h ∷ hs) = client_is handlers (client_steps_alone c h).state hs

pub client_gives : (handlers : Handlers) (c : WholeClientNode) (hs : List Happening) → entity_outs handlers (Some (OfClient c)) hs ≡ client_outs c hs
client_gives handlers c [] = refl
client_gives handlers c (h ∷ hs) = ap (λ (outs : List Effects). (client_steps_alone c h).out ∷ outs) (client_gives handlers (client_steps_alone c h).state hs)

pub daemon_is : (handlers : Handlers) (d : DaemonState) (hs : List Happening) → entity_behind handlers (OfDaemon d) hs ≡ OfDaemon (daemon_behind handlers d hs)
daemon_is handlers d [] = refl
daemon_is handlers d (h ∷ hs) = daemon_is handlers (daemon_steps_alone handlers d h).state hs

pub daemon_gives : (handlers : Handlers) (d : DaemonState) (hs : List Happening) → entity_outs handlers (Some (OfDaemon d)) hs ≡ daemon_outs handlers d hs
daemon_gives handlers d [] = refl
daemon_gives handlers d (h ∷ hs) = ap (λ (outs : List Effects). (daemon_steps_alone handlers d h).out ∷ outs) (daemon_gives handlers (daemon_steps_alone handlers d h).state hs)
