-- A ticket is refused as expired at the reading of the event alone: at each event of every list.
use Rattle.std.proofs.Common.{◌≡◌, ◌≤◌, ℕ, List, [], ◌∷◌, Option, Some, None, subst}
use Rattle.std.specs.Prelude.{Contains}
use Rattle.std.specs.List.{AllByRecursion}
use Rattle.std.proofs.lemmas.List.Elements.{All-contains, All-from_recursion}
use Rattle.cx_base.specs.Names.{Name}
use Rattle.cx_base.specs.declared.nodes.NodeName.{NodeName}
use Rattle.cx_base.specs.declared.nodes.NodeName.TheVariants as node
use Rattle.cx_rotate.specs.declared.views.View.{View}
use Rattle.cx_laws_tickets.specs.cx_journal.specs.declared.entries.Entry.{Entry}
use Rattle.cx_laws_tickets.specs.cx_journal.specs.declared.entries.Entry.TheVariants as entry
use Rattle.cx_laws_tickets.specs.cx_journal.specs.declared.entries.Refused.{Refused}
use Rattle.cx_laws_tickets.specs.cx_journal.specs.declared.outcomes.Reason.{Reason}
use Rattle.cx_laws_tickets.specs.cx_journal.specs.declared.outcomes.Reason.TheVariants as reason
use Rattle.cx_laws_tickets.specs.cx_journal.specs.declared.outcomes.TicketFault.{TicketFault}
use Rattle.cx_laws_tickets.specs.cx_journal.specs.declared.outcomes.TicketFault.TheVariants as fault
use Rattle.cx_laws_tickets.specs.cx_laws_keys.proofs.keys.Journal.{IsOfLogin}
use Rattle.cx_laws_tickets.specs.cx_laws_keys.proofs.keys.Lists.{all-map}
use Rattle.cx_laws_tickets.specs.cx_rules.proofs.MonClientWalk.{IsNoTicket}
use Rattle.cx_laws_tickets.specs.cx_rules.proofs.MonitorEnters.{IsOfMonitor}
use Rattle.cx_laws_tickets.specs.cx_rules.specs.Inputs.{Input}
use Rattle.cx_laws_tickets.specs.cx_rules_session.specs.DaemonRule.{DaemonState, daemon_step}
use Rattle.cx_laws_tickets.specs.cx_run.proofs.MonitorEnters.{monitor-enters}
use Rattle.cx_laws_tickets.specs.cx_run.specs.Happenings.{EntityNode, OfClient, OfDaemon, Happening, Nodes, entity_of, entity_rule, entity_steps, steps, steps_of}
use Rattle.cx_laws_tickets.specs.cx_run.specs.Opening.{Setup, nodes_of}
use Rattle.cx_laws_tickets.specs.cx_run.specs.Points.{Point, points, points_onto}
use Rattle.cx_laws_tickets.specs.cx_steps.specs.declared.seals.SealEntry.{SealEntry}
use Rattle.cx_laws_tickets.proofs.authorize.Steps.{all-authorize}
use Rattle.cx_laws_tickets.proofs.calling.Entering.{IsOfClient, whole-enters}
use Rattle.cx_laws_tickets.specs.authorize.Admission.{EntryTold, FaultTells, RefusalTold}
use Rattle.cx_laws_tickets.specs.authorize.Expiring.{ExpireAtReadings, ExpiresAt}

-- ---- an entry

abbrev Expires : ℕ → Entry → Type 0
Expires reading (entry.Refused r) = ExpiresAt reading r.reason
Expires reading _ = Unit {0}

fault-expires : (view : View) (reading : ℕ) (why : TicketFault) (blob : List ℕ) (seals : List SealEntry) → FaultTells view reading why blob seals
    → ExpiresAt reading (reason.Ticket why blob)
fault-expires view reading (fault.Expired expires now) blob seals h =
    let same : now ≡ reading = h.10 in
    let by : expires ≤ now = h.11 in
    (same, subst (λ (at : ℕ). expires ≤ at) same by)
fault-expires view reading _ blob seals h = tt

login-expires : (reading : ℕ) (why : Reason) → IsOfLogin why → ExpiresAt reading why
login-expires reading (reason.Ticket why blob) h = absurd h
login-expires reading _ h = tt

plain-expires : (reading : ℕ) (why : Reason) → IsNoTicket why → ExpiresAt reading why
plain-expires reading (reason.Ticket why blob) h = absurd h
plain-expires reading _ h = tt

monitor-expires : (reading : ℕ) (e : Entry) → IsOfMonitor e → Expires reading e
monitor-expires reading (entry.Refused r) h = plain-expires reading r.reason h.1
monitor-expires reading _ h = tt

client-expires : (reading : ℕ) (name : Name) (e : Entry) → IsOfClient name e → Expires reading e
client-expires reading name (entry.Refused r) h = login-expires reading r.reason h
client-expires reading name _ h = tt

module _ (d : DaemonState) (input : Input) (reading : ℕ) (es : List Entry) (seals : List SealEntry) where
  refusal-expires : (r : Refused) (why : Reason) → RefusalTold d input reading es seals r why → ExpiresAt reading why
  refusal-expires r (reason.Ticket why blob) h = fault-expires d.node.own.mon_client.view reading why blob seals h.told_at.tells
  refusal-expires r _ h = tt

  daemon-expires : (e : Entry) → EntryTold d input reading es seals e → Expires reading e
  daemon-expires (entry.Refused r) h = refusal-expires r r.reason h
  daemon-expires _ h = tt

-- ---- an event

module _ (nodes : Nodes) (h : Happening) where
  abbrev Expire : List Entry → Type 0
  Expire es = AllByRecursion (Expires h.reading) es

  rule-expires : (e : EntityNode) → Expire (entity_rule nodes.handlers e h.input h.reading h.draw).out.entries
  rule-expires (OfClient c) =
      all-map (IsOfClient c.own.mon_client.name) (Expires h.reading) (client-expires h.reading c.own.mon_client.name)
      (entity_rule nodes.handlers (OfClient c) h.input h.reading h.draw).out.entries (whole-enters c h.input h.reading h.draw).enters
  rule-expires (OfDaemon d) =
      let o = daemon_step nodes.handlers d h.input h.reading h.draw in
      all-map (EntryTold d h.input h.reading o.out.entries o.out.seals) (Expires h.reading) (daemon-expires d h.input h.reading o.out.entries o.out.seals) o.out.entries
      (all-authorize nodes.handlers d h.input h.reading h.draw).told

  entity-expires : (name : Name) (found : Option EntityNode) → Expire (entity_steps nodes h name found).out.entries
  entity-expires name None = tt
  entity-expires name (Some e) = rule-expires e

  node-expires : (n : NodeName) → Expire (steps_of nodes h n).out.entries
  node-expires node.Monitor =
      all-map IsOfMonitor (Expires h.reading) (monitor-expires h.reading) (steps_of nodes h node.Monitor).out.entries (monitor-enters nodes h.input h.reading h.draw h.left)
  node-expires (node.Entity name) = entity-expires name (entity_of name nodes)

  here-expires : (r : Refused) → Contains (steps nodes h).out.entries (entry.Refused r) → ExpiresAt h.reading r.reason
  here-expires r has = All-contains (Expires h.reading) (steps nodes h).out.entries (entry.Refused r) (All-from_recursion (Expires h.reading) (steps nodes h).out.entries (node-expires h.node)) has

-- ---- every list of events

expire-onto : (hs : List Happening) (past : List Point) (nodes : Nodes) → ExpireAtReadings past → ExpireAtReadings (points_onto past nodes hs)
expire-onto [] past nodes each = each
expire-onto (h ∷ hs) past nodes each = expire-onto hs (record { nodes = nodes; happening = h } ∷ past) (steps nodes h).nodes (here-expires nodes h, each)

-- whatever was forged
pub all-expire : (setup : Setup) (hs : List Happening) → ExpireAtReadings (points setup hs)
all-expire setup hs = expire-onto hs [] (nodes_of setup) tt
