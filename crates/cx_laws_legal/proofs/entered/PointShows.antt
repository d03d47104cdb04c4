-- What each event of a run shows of what it enters.
use Rattle.std.proofs.Common.{◌≡◌, ◌<◌, ℕ, List, [], ◌∷◌, Option, Some, None, sym, subst}
use Rattle.std.specs.List.{AllByRecursion}
use Rattle.cx_base.specs.Names.{Name}
use Rattle.cx_base.specs.declared.nodes.NodeName.{NodeName}
use Rattle.cx_base.specs.declared.nodes.NodeName.TheVariants as node
use Rattle.cx_desk.specs.Handlers.{Handlers}
use Rattle.cx_journal.specs.declared.entries.Entry.{Entry}
use Rattle.cx_journal.specs.declared.entries.Entry.TheVariants as journal
use Rattle.cx_journal.specs.declared.outcomes.Reason.{Reason}
use Rattle.cx_journal.specs.declared.outcomes.Reason.TheVariants as reason
use Rattle.cx_journal.specs.declared.entries.Refused.{Refused}
use Rattle.cx_journal.specs.declared.outcomes.TicketFault.{TicketFault}
use Rattle.cx_journal.specs.declared.outcomes.TicketFault.TheVariants as fault
use Rattle.cx_rotate.specs.declared.views.View.{View}
use Rattle.cx_laws_run.specs.cx_laws_tickets.proofs.authorize.Steps.{all-authorize}
use Rattle.cx_laws_run.specs.cx_laws_tickets.specs.authorize.Admission.{EntryTold, FaultTells, IsTold, RefusalTold, StepAuthorizes}
use Rattle.cx_laws_run.specs.cx_rules.specs.Inputs.{Input}
use Rattle.cx_laws_run.specs.cx_rules_session.specs.DaemonRule.{DaemonState, daemon_step}
use Rattle.cx_laws_run.specs.cx_run.specs.Happenings.{EntityNode, OfClient, OfDaemon, Happening, Nodes, entity_of, entity_steps, steps_of}
use Rattle.cx_laws_run.specs.cx_run.specs.Points.{EachPoint, Point, entries_at}
use Rattle.cx_laws_run.specs.cx_run.specs.Sending.{IsWrittenInput}
use Rattle.cx_steps.specs.declared.seals.SealEntry.{SealEntry}
use Rattle.cx_laws_legal.proofs.entered.ClientShows.{client-shows}
use Rattle.cx_laws_legal.proofs.entered.DaemonParts.{daemon-parts}
use Rattle.cx_laws_legal.proofs.entered.MonitorShows.{monitor-shows}
use Rattle.cx_laws_legal.proofs.entered.Shown.{FaultShows, HasParts, IsEntity, ReasonShows, Shows}

-- ---- a daemon

fault-shows : (view : View) (reading : ℕ) (at : NodeName) (name : Name) → at ≡ node.Entity name → (why : TicketFault) (blob : List ℕ) (seals : List SealEntry) → reading < 4000000000000000000
    → FaultTells view reading why blob seals → FaultShows at why
fault-shows view reading at name is (fault.Expired expires now) blob seals low (id, key, content, ticket, rest, known, opens, opened, says, until, now_is, over) =
    (subst IsEntity (sym is) tt, subst (λ (n : ℕ). n < 4000000000000000000) (sym now_is) low)
fault-shows view reading at name is _ blob seals low h = tt

module _ (d : DaemonState) (input : Input) (reading : ℕ) (es : List Entry) (seals : List SealEntry) (low : reading < 4000000000000000000) where
  reason-shows : (r : Refused) (why : Reason) → RefusalTold d input reading es seals r why → ReasonShows r.node why
  reason-shows r (reason.Ticket why blob) h = by_told h
    where
      by_told : IsTold d input reading es seals r why blob → FaultShows r.node why
      by_told told = fault-shows d.node.own.mon_client.view reading r.node d.node.own.mon_client.name told.told_at.node_is why blob seals low told.told_at.tells
  reason-shows r _ h = tt

  entry-shows : (e : Entry) → EntryTold d input reading es seals e → HasParts e → Shows e
  entry-shows (journal.Sent x) told parts = parts
  entry-shows (journal.Handled x) told parts = parts
  entry-shows (journal.Refused r) told parts = reason-shows r r.reason told
  entry-shows _ told parts = tt

  all-show : (xs : List Entry) → AllByRecursion (EntryTold d input reading es seals) xs → AllByRecursion HasParts xs → AllByRecursion Shows xs
  all-show [] told parts = tt
  all-show (x ∷ xs) told parts = (entry-shows x told.0 parts.0, all-show xs told.1 parts.1)

daemon-shows : (handlers : Handlers) (d : DaemonState) (input : Input) (reading : ℕ) (draw : List ℕ) → reading < 4000000000000000000
    → AllByRecursion Shows (daemon_step handlers d input reading draw).out.entries
daemon-shows handlers d input reading draw low =
    let o = daemon_step handlers d input reading draw in
    let a : StepAuthorizes handlers d input reading draw = all-authorize handlers d input reading draw in
    all-show d input reading o.out.entries o.out.seals low o.out.entries a.told (daemon-parts handlers d input reading draw)

-- ---- any node

entity-shows : (nodes : Nodes) (h : Happening) (name : Name) (found : Option EntityNode) → h.reading < 4000000000000000000 → IsWrittenInput h.input
    → AllByRecursion Shows (entity_steps nodes h name found).out.entries
entity-shows nodes h name None low written = tt
entity-shows nodes h name (Some (OfClient c)) low written = client-shows c h.input h.reading h.draw written
entity-shows nodes h name (Some (OfDaemon d)) low written = daemon-shows nodes.handlers d h.input h.reading h.draw low

node-shows : (nodes : Nodes) (h : Happening) (n : NodeName) → h.reading < 4000000000000000000 → IsWrittenInput h.input → AllByRecursion Shows (steps_of nodes h n).out.entries
node-shows nodes h node.Monitor low written = monitor-shows nodes h.input h.reading h.draw h.left
node-shows nodes h (node.Entity name) low written = entity-shows nodes h name (entity_of name nodes) low written

-- at each point
pub point-shows : (past : List Point) → EachPoint (λ older p. p.happening.reading < 4000000000000000000) past → EachPoint (λ older p. IsWrittenInput p.happening.input) past
    → EachPoint (λ older p. AllByRecursion Shows (entries_at p)) past
point-shows [] low written = tt
point-shows (p ∷ past) low written = (node-shows p.nodes p.happening p.happening.node low.0 written.0, point-shows past low.1 written.1)
