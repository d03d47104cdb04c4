-- What is said of the journal of every run.
use Rattle.std.specs.Prelude.{◌≡◌, ◌<◌, ℕ, Bool, IsTrue, List, length}
use Rattle.std.specs.List.{AllByRecursion}
use Rattle.cx_base.specs.declared.kinds.Access.{Access}
use Rattle.cx_journal.specs.Enforced.{IsEnforced}
use Rattle.cx_journal.specs.Legal.{IsLegal}
use Rattle.cx_journal.specs.Truthful.{IsTruthful}
use Rattle.cx_journal.specs.declared.entries.Entry.{Entry}
use Rattle.cx_base.specs.Texts.{is_caps}
use Rattle.cx_base.specs.declared.grants.Grant.{Grant}
use Rattle.cx_base.specs.declared.kinds.EntityType.TheVariants.{Client}
use Rattle.cx_journal.specs.Backed.{IsBacked}
use Rattle.cx_journal.specs.GidOnce.{GivesGidOnce}
use Rattle.cx_journal.specs.KeepsKeys.{KeepsKeys}
use Rattle.cx_words.specs.lines.Named.{is_name}
use Rattle.cx_words.specs.lines.Values.{is_life}
use Rattle.cx_laws_links.specs.cx_laws_tickets.specs.cx_run.specs.Happenings.{Happening}
use Rattle.cx_laws_links.specs.cx_laws_tickets.specs.cx_run.specs.Opening.{Declared, Leak, Setup}
use Rattle.cx_laws_links.specs.cx_laws_tickets.specs.cx_run.specs.Visits.{AreUntold}
pub use Rattle.cx_laws_links.specs.cx_laws_tickets.specs.cx_laws_keys.specs.keys.KeepsExpiry.{KeepsExpiry}
pub use Rattle.cx_laws_links.specs.cx_laws_tickets.specs.cx_laws_keys.specs.keys.LooksLast.{LooksLast}

-- only clients leak
abbrev pub AreClients : Setup → Type 0
AreClients setup = AllByRecursion (λ (l : Leak). l.client.kind ≡ Client) setup.leaks

-- each event has a draw of 384 bytes, as every draw has. A shorter one could make a session key of fewer than 16, which isn't read again as it was
-- written
abbrev pub AreDrawn : List Happening → Type 0
AreDrawn hs = AllByRecursion (λ (h : Happening). length h.draw ≡ 384) hs

-- all of them are bytes
abbrev pub AreBytes : List ℕ → Type 0
AreBytes bytes = AllByRecursion (λ (b : ℕ). b < 256) bytes

-- with what a run may begin, so that each ticket of it can be written: both lives are those of a schedule, at most a year; each entity has a name that can
-- be written, and its caps can; and only clients leak
pub record MayBegin (setup : Setup) : Type 0 where
  pub life : IsTrue (is_life setup.life)
  pub auth_life : IsTrue (is_life setup.auth_life)
  pub names : AllByRecursion (λ (e : Declared). IsTrue (is_name e.name)) setup.entities
  pub caps : AllByRecursion (λ (e : Declared). AllByRecursion (λ (g : Grant). IsTrue (is_caps g.caps)) e.grants) setup.entities
  pub clients : AreClients setup

-- what is so of the events of every schedule, from its opening: it is one with which a run may begin; each event has a draw, of bytes, and a reading below
-- 4,000,000,000 s, so that all times of a run have a spelling; and no daemon is told a view but by a reply. A daemon that is leaked, or is told a view
-- by hand, could take generations for those of its service that are none
pub record MayHappen (setup : Setup) (hs : List Happening) : Type 0 where
  pub begins : MayBegin setup
  pub drawn : AreDrawn hs
  pub bytes : AllByRecursion (λ (h : Happening). AreBytes h.draw) hs
  pub readings : AllByRecursion (λ (h : Happening). h.reading < 4000000000000000000) hs
  pub looks : AreUntold hs

-- the laws of a journal that speak of tickets alone: each session that is admitted or resumed is backed by one that was issued; no issued ticket is
-- refused for its key while the daemon's look lists its generation, nor as expired before it has; and a global id is given once
pub record KeepsTickets (entries : List Entry) : Type 0 where
  pub backed : IsBacked entries
  pub keeps_keys : KeepsKeys entries
  pub keeps_expiry : KeepsExpiry entries
  pub gid_once : GivesGidOnce entries

-- the laws of a journal. No entry speaks of sessions, operations or answers, where no client comes to a daemon
pub record KeepsLaws (has_handler : Access → Bool) (entries : List Entry) : Type 0 where
  pub legal : IsLegal entries
  pub enforced : IsEnforced has_handler entries
  pub truthful : IsTruthful entries
