-- What a step by itself shows of what it enters: an operation has an address, and a ticket that is refused as expired is so at a reading that is low.
use Rattle.std.specs.Prelude.{◌<◌, IsTrue}
use Rattle.std.specs.List.{AllByRecursion}
use Rattle.cx_base.specs.Texts.{is_part}
use Rattle.cx_base.specs.declared.nodes.NodeName.{NodeName}
use Rattle.cx_base.specs.declared.nodes.NodeName.TheVariants as node
use Rattle.cx_base.specs.declared.operations.Operation.{Operation}
use Rattle.cx_journal.specs.declared.entries.Entry.{Entry}
use Rattle.cx_journal.specs.declared.entries.Entry.TheVariants as entry
use Rattle.cx_journal.specs.declared.outcomes.Reason.{Reason}
use Rattle.cx_journal.specs.declared.outcomes.Reason.TheVariants as reason
use Rattle.cx_journal.specs.declared.outcomes.TicketFault.{TicketFault}
use Rattle.cx_journal.specs.declared.outcomes.TicketFault.TheVariants as fault
use Rattle.cx_laws_run.specs.cx_rules.specs.Rows.{Row}
use Rattle.cx_laws_keys.proofs.keys.Journal.{IsOfLogin}

-- its pool, namespace and object are parts of an address
abbrev pub AreParts : Operation → Type 0
AreParts o = IsTrue (is_part o.pool) × IsTrue (is_part o.namespace) × IsTrue (is_part o.object)

-- so are those of an operation that is entered
abbrev pub HasParts : Entry → Type 0
HasParts (entry.Sent s) = AreParts s.operation
HasParts (entry.Handled h) = AreParts h.operation
HasParts _ = Unit {0}

abbrev pub RowHasParts : {Own Stage : Type 0} → Row Own Stage → Type 0
RowHasParts row = AllByRecursion HasParts row.entries

-- ---- refusals

-- a daemon or a client
abbrev pub IsEntity : NodeName → Type 0
IsEntity node.Monitor = ⊥
IsEntity (node.Entity name) = Unit {0}

-- it is an entity that says of a ticket that it has expired, at a reading of a run
abbrev pub FaultShows : NodeName → TicketFault → Type 0
FaultShows at (fault.Expired expires now) = IsEntity at × (now < 4000000000000000000)
FaultShows at _ = Unit {0}

abbrev pub ReasonShows : NodeName → Reason → Type 0
ReasonShows at (reason.Ticket why blob) = FaultShows at why
ReasonShows at _ = Unit {0}

-- ---- entries

-- all that a step shows
abbrev pub Shows : Entry → Type 0
Shows (entry.Sent s) = AreParts s.operation
Shows (entry.Handled h) = AreParts h.operation
Shows (entry.Refused r) = ReasonShows r.node r.reason
Shows _ = Unit {0}

-- no operation is entered, and no refusal of a ticket
abbrev pub IsPlain : Entry → Type 0
IsPlain (entry.Sent s) = ⊥
IsPlain (entry.Handled h) = ⊥
IsPlain (entry.Refused r) = IsOfLogin r.reason
IsPlain _ = Unit {0}

abbrev pub RowIsPlain : {Own Stage : Type 0} → Row Own Stage → Type 0
RowIsPlain row = AllByRecursion IsPlain row.entries

-- what is refused at a login is no ticket
pub login-shows : (at : NodeName) (why : Reason) → IsOfLogin why → ReasonShows at why
login-shows at (reason.Ticket why blob) h = absurd h
login-shows at _ h = tt

pub plain-shows : (e : Entry) → IsPlain e → Shows e
plain-shows (entry.Sent s) h = absurd h
plain-shows (entry.Handled s) h = absurd h
plain-shows (entry.Refused r) h = login-shows r.node r.reason h
plain-shows _ h = tt
