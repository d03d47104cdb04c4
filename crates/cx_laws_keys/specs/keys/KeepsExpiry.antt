-- The law of expiries: a daemon says that a ticket has expired only of one that the monitor issued, and once that has.
use Rattle.std.specs.Prelude.{◌≡◌, ◌≤◌, ℕ, List, [], Contains}
use Rattle.cx_base.specs.Names.{Name}
use Rattle.cx_base.specs.declared.nodes.NodeName.{NodeName}
use Rattle.cx_base.specs.declared.nodes.NodeName.TheVariants as node
use Rattle.cx_steps.specs.cx_journal.specs.Behind.{EachBehind}
use Rattle.cx_steps.specs.cx_journal.specs.declared.entries.Entry.{Entry}
use Rattle.cx_steps.specs.cx_journal.specs.declared.entries.Entry.TheVariants as entry
use Rattle.cx_steps.specs.cx_journal.specs.declared.entries.Issued.{Issued}
use Rattle.cx_steps.specs.cx_journal.specs.declared.outcomes.Reason.{Reason}
use Rattle.cx_steps.specs.cx_journal.specs.declared.outcomes.Reason.TheVariants as reason
use Rattle.cx_steps.specs.cx_journal.specs.declared.outcomes.TicketFault.{TicketFault}
use Rattle.cx_steps.specs.cx_journal.specs.declared.outcomes.TicketFault.TheVariants as fault

-- one of the entries issued a ticket with this blob, for this daemon's type as its service, which expires then
pub record WasIssuedUntil (entries : List Entry) (daemon : Name) (expires : ℕ) (blob : List ℕ) : Type 0 where
  pub ticket : Issued
  pub issued : Contains entries (entry.Issued ticket)
  pub has_blob : ticket.blob ≡ blob
  pub service : ticket.service ≡ daemon.kind
  pub until : ticket.expires ≡ expires

-- what a refusal of the ticket of this blob for this fault needs: where it is said to have expired, such a ticket was issued, and it has
abbrev pub NeedsExpired : List Entry → Name → TicketFault → List ℕ → Type 0
NeedsExpired earlier daemon (fault.Expired expires now) blob = WasIssuedUntil earlier daemon expires blob × (expires ≤ now)
NeedsExpired earlier daemon _ blob = Unit {0}

-- what a refusal by this node for this reason needs: only daemons refuse tickets
abbrev pub ExpiredFor : List Entry → NodeName → Reason → Type 0
ExpiredFor earlier (node.Entity daemon) (reason.Ticket why blob) = NeedsExpired earlier daemon why blob
ExpiredFor earlier _ _ = Unit {0}

abbrev pub KeepsExpiryBy : List Entry → Entry → Type 0
KeepsExpiryBy earlier (entry.Refused r) = ExpiredFor earlier r.node r.reason
KeepsExpiryBy earlier _ = Unit {0}

-- each refusal of the journal for an expiry keeps this law
abbrev pub KeepsExpiry : List Entry → Type 0
KeepsExpiry entries = EachBehind KeepsExpiryBy [] entries
