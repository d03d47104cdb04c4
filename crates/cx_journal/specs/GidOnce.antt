-- The law of global ids: no two entities share one, over all restarts, and a login keeps one only beside a live ticket.
use Rattle.std.specs.Prelude.{◌≡◌, ◌<◌, List, [], Contains}
use Rattle.cx_base.specs.declared.kinds.EntityType.TheVariants.{Auth}
use Rattle.cx_journal.specs.Behind.{EachBehind}
use Rattle.cx_journal.specs.declared.entries.Entry.{Entry}
use Rattle.cx_journal.specs.declared.entries.Entry.TheVariants as entry
use Rattle.cx_journal.specs.declared.entries.Issued.{Issued}

-- an earlier ticket for the monitor's own service has this one's entity and global id, and was unexpired when this one was
-- created
pub record Renews (earlier : List Entry) (ticket : Issued) : Type 0 where
  pub old : Issued
  pub issued : Contains earlier (entry.Issued old)
  pub service : old.service ≡ Auth
  pub entity : old.entity ≡ ticket.entity
  pub gid : old.gid ≡ ticket.gid
  pub live : ticket.created < old.expires

-- where an earlier ticket has this one's global id, it has its entity; and where this one is for the monitor's own service, it
-- renews one
abbrev pub SharesGid : List Entry → Issued → Type 0
SharesGid earlier ticket =
    (other : Issued) → Contains earlier (entry.Issued other) → other.gid ≡ ticket.gid
    → (other.entity ≡ ticket.entity) × (ticket.service ≡ Auth → Renews earlier ticket)

abbrev pub GivesGidOnceBy : List Entry → Entry → Type 0
GivesGidOnceBy earlier (entry.Issued ticket) = SharesGid earlier ticket
GivesGidOnceBy earlier _ = Unit {0}

-- each issued ticket of the journal shares its global id with its entity's alone, and keeps it by renewal
abbrev pub GivesGidOnce : List Entry → Type 0
GivesGidOnce entries = EachBehind GivesGidOnceBy [] entries
