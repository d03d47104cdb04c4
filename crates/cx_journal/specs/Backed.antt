-- The law of admission: each session that is admitted or resumed rests on a ticket that the monitor issued before and that
-- had not expired.
use Rattle.std.specs.Prelude.{◌≡◌, ◌<◌, List, [], Contains}
use Rattle.cx_journal.specs.Behind.{EachBehind}
use Rattle.cx_journal.specs.declared.entries.Entry.{Entry}
use Rattle.cx_journal.specs.declared.entries.Entry.TheVariants as entry
use Rattle.cx_journal.specs.declared.entries.Issued.{Issued}
use Rattle.cx_journal.specs.declared.entries.Admitted.{Admitted}

-- the ticket is for the session's entity, with its global id and caps, and for the daemon's type as its service, and the
-- session was admitted or resumed strictly before it expires
pub record Backs (ticket : Issued) (session : Admitted) : Type 0 where
  pub entity : ticket.entity ≡ session.entity
  pub gid : ticket.gid ≡ session.gid
  pub caps : ticket.caps ≡ session.caps
  pub service : ticket.service ≡ session.daemon.kind
  pub live : session.at < ticket.expires

-- one of the earlier entries issued a ticket that backs the session
abbrev pub HasTicket : List Entry → Admitted → Type 0
HasTicket earlier session = (ticket : Issued) × Contains earlier (entry.Issued ticket) × Backs ticket session

-- where the entry admits or resumes a session, it has such a ticket
abbrev pub IsBackedBy : List Entry → Entry → Type 0
IsBackedBy earlier (entry.Admitted session) = HasTicket earlier session
IsBackedBy earlier (entry.Resumed session) = HasTicket earlier session
IsBackedBy earlier _ = Unit {0}

-- each session that the journal admits or resumes is backed by an earlier ticket
abbrev pub IsBacked : List Entry → Type 0
IsBacked entries = EachBehind IsBackedBy [] entries
