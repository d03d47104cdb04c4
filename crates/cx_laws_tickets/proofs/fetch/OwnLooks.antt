-- A look is entered at the daemon's own node.
use Rattle.std.proofs.Common.{◌≡◌, List, [], Option, Some, None, refl, sym, ap, ◌∙◌, subst, arith}
use Rattle.std.specs.Prelude.{Contains}
use Rattle.std.specs.List.{AllByRecursion}
use Rattle.std.proofs.lemmas.List.Elements.{All-contains, All-from_recursion}
use Rattle.cx_base.proofs.Names.{same_name_is}
use Rattle.cx_base.specs.Names.{Name}
use Rattle.cx_base.specs.declared.nodes.NodeName.{NodeName}
use Rattle.cx_base.specs.declared.nodes.NodeName.TheVariants as node
use Rattle.cx_journal.specs.declared.entries.Entry.{Entry}
use Rattle.cx_journal.specs.declared.entries.Entry.TheVariants as journal
use Rattle.cx_journal.specs.declared.entries.Looked.{Looked}
use Rattle.cx_laws_tickets.specs.cx_rules_session.specs.DaemonRule.{daemon_step}
use Rattle.cx_laws_tickets.specs.cx_run.specs.Happenings.{EntityNode, OfClient, OfDaemon, Happening, Nodes, Stepped, entity_of, entity_steps, is_of, steps, steps_of}
use Rattle.cx_laws_tickets.specs.cx_run.specs.Points.{Point, entries_at}
use Rattle.cx_laws_tickets.proofs.authorize.Steps.{all-authorize}
use Rattle.cx_laws_tickets.specs.authorize.Admission.{EntryTold}
use Rattle.cx_laws_tickets.specs.cx_rules.proofs.MonitorEnters.{IsOfMonitor}
use Rattle.cx_laws_tickets.specs.cx_run.proofs.MonitorEnters.{monitor-enters}
use Rattle.cx_laws_tickets.proofs.calling.Entering.{IsOfClient, whole-enters}
use Rattle.cx_laws_tickets.specs.cx_laws_keys.proofs.keys.Lists.{found_passes}

one-of : (P : Entry → Type 0) (es : List Entry) (e : Entry) → AllByRecursion P es → Contains es e → P e
one-of P es e all has = All-contains P es e (All-from_recursion P es all) has

module _ (nodes : Nodes) (h : Happening) (look : Looked) where
  abbrev point : Point
  point = record { nodes = nodes; happening = h }

  stepped-is : (name : Name) (found : Option EntityNode) → h.node ≡ node.Entity name → entity_of name nodes ≡ found → steps nodes h ≡ entity_steps nodes h name found
  stepped-is name found here is = ap (λ (n : NodeName). steps_of nodes h n) here ∙ ap (λ (f : Option EntityNode). entity_steps nodes h name f) is

  by-entity : (name : Name) (found : Option EntityNode) → h.node ≡ node.Entity name → entity_of name nodes ≡ found → Contains (entries_at point) (journal.Looked look)
      → h.node ≡ node.Entity look.daemon
  by-entity name None here is has =
      let none : Contains {X = Entry} [] (journal.Looked look) = subst (λ (s : Stepped). Contains s.out.entries (journal.Looked look)) (stepped-is name None here is) has in
      absurd (nothing none)
    where
      nothing : Contains {X = Entry} [] (journal.Looked look) → ⊥
      nothing (k, below, at) = omega arith
  by-entity name (Some (OfClient c)) here is has =
      let there = subst (λ (s : Stepped). Contains s.out.entries (journal.Looked look)) (stepped-is name (Some (OfClient c)) here is) has in
      absurd (one-of (IsOfClient c.own.mon_client.name) _ (journal.Looked look) (whole-enters c h.input h.reading h.draw).enters there)
  by-entity name (Some (OfDaemon d)) here is has =
      let there = subst (λ (s : Stepped). Contains s.out.entries (journal.Looked look)) (stepped-is name (Some (OfDaemon d)) here is) has in
      let step = daemon_step nodes.handlers d h.input h.reading h.draw in
      let told : EntryTold d h.input h.reading step.out.entries step.out.seals (journal.Looked look) =
      one-of (EntryTold d h.input h.reading step.out.entries step.out.seals) step.out.entries (journal.Looked look) (all-authorize nodes.handlers d h.input h.reading h.draw).told there in
      let own : d.node.own.mon_client.name ≡ name = same_name_is d.node.own.mon_client.name name (found_passes (is_of name) nodes.entities (OfDaemon d) is) in
      here ∙ ap (λ (n : Name). node.Entity n) (sym (told.0 ∙ own))

  by-node : (n : NodeName) → h.node ≡ n → Contains (entries_at point) (journal.Looked look) → h.node ≡ node.Entity look.daemon
  by-node node.Monitor here has =
      let there : Contains (steps_of nodes h node.Monitor).out.entries (journal.Looked look) =
      subst (λ (n : NodeName). Contains (steps_of nodes h n).out.entries (journal.Looked look)) here has in
      absurd (one-of IsOfMonitor _ (journal.Looked look) (monitor-enters nodes h.input h.reading h.draw h.left) there)
  by-node (node.Entity name) here has = by-entity name (entity_of name nodes) here refl has

pub look-own : (p : Point) (look : Looked) → Contains (entries_at p) (journal.Looked look) → p.happening.node ≡ node.Entity look.daemon
look-own p look has = by-node p.nodes p.happening look p.happening.node refl has
