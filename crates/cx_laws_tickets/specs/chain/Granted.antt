-- What each issued ticket grants, and for how long ("The Ceph authentication protocol": a ticket has the capabilities that the keyring gives its entity for the
-- service; `auth_mon_ticket_ttl` and `auth_service_ticket_ttl` say how long it lives).
use Rattle.std.specs.Prelude.{◌≡◌, ◌+◌, ℕ, List, find, Contains, Some}
use Rattle.cx_laws_tickets.specs.cx_journal.specs.declared.entries.Entry.TheVariants as entry
use Rattle.cx_laws_tickets.specs.cx_journal.specs.declared.entries.Issued.{Issued}
use Rattle.cx_laws_tickets.specs.cx_keyring.specs.Entries.{is_named}
use Rattle.cx_laws_tickets.specs.cx_keyring.specs.declared.entries.Entry.{Entry as Principal}
use Rattle.cx_laws_tickets.specs.cx_keyserver.specs.Issuing.{caps_for}
use Rattle.cx_laws_tickets.specs.cx_run.specs.Opening.{Setup}
use Rattle.cx_laws_tickets.specs.cx_run.specs.Points.{EachPoint, Point, entries_at}
use Rattle.cx_laws_tickets.specs.chain.Chain.{life_in, ring_in}

-- the ticket was made at this reading and expires one life of its service later; and it is for an entity of the keyring, with the capabilities that this one has
-- there for the service
pub record IsOfKeyring (setup : Setup) (reading : ℕ) (t : Issued) : Type 0 where
  pub created : t.created ≡ reading
  pub expires : t.expires ≡ reading + life_in setup t.service
  pub entity : Principal
  pub named : find (is_named t.entity) (ring_in setup) ≡ Some entity
  pub caps : caps_for t.service entity ≡ Some t.caps

-- so is each ticket of each of these points, at the reading of its event
abbrev pub AreOfKeyring : Setup → List Point → Type 0
AreOfKeyring setup past = EachPoint (λ older p. (t : Issued) → Contains (entries_at p) (entry.Issued t) → IsOfKeyring setup p.happening.reading t) past
