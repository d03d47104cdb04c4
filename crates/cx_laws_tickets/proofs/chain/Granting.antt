-- Each ticket is of the keyring, made at the reading of its event and for one life: read off the chain of its service.
use Rattle.std.proofs.Common.{◌≡◌, ◌+◌, ℕ, List, [], ◌∷◌, refl, sym, ap, ◌∙◌}
use Rattle.std.specs.Prelude.{Contains}
use Rattle.cx_base.specs.declared.kinds.EntityType.{EntityType}
use Rattle.cx_laws_tickets.specs.cx_journal.specs.declared.entries.Entry.TheVariants as journal
use Rattle.cx_laws_tickets.specs.cx_journal.specs.declared.entries.Issued.{Issued}
use Rattle.cx_laws_tickets.specs.cx_run.specs.Happenings.{Happening}
use Rattle.cx_laws_tickets.specs.cx_run.specs.Opening.{Setup}
use Rattle.cx_laws_tickets.specs.cx_run.specs.Points.{EachPoint, Point, entries_at, points}
use Rattle.cx_laws_tickets.specs.chain.Chain.{Chain, IsChained, KeepsGenerations, life_in}
use Rattle.cx_laws_tickets.specs.chain.Granted.{AreOfKeyring, IsOfKeyring}

module _ (setup : Setup) where
  -- of one service
  abbrev Grants : EntityType → List Point → Point → Type 0
  Grants service older p = (t : Issued) → Contains (entries_at p) (journal.Issued t) → t.service ≡ service → IsOfKeyring setup p.happening.reading t

  grants-points : (service : EntityType) (past : List Point) (c : Chain) → IsChained setup service past c → EachPoint (Grants service) past
  grants-points service [] c is = tt
  grants-points service (p ∷ older) c (before, earlier, m) = (
    λ t has of. record {
      created = (m.issued t has of).1.created;
      expires = (m.issued t has of).0.expires
          ∙ ap (λ (at : ℕ). at + life_in setup service) (m.issued t has of).1.created
          ∙ ap (λ (s : EntityType). p.happening.reading + life_in setup s) (sym of);
      entity = (m.issued t has of).1.principal;
      named = (m.issued t has of).1.named;
      caps = (m.issued t has of).1.caps;
    },
    grants-points service older before earlier,
  )

  -- of each
  all-services : (past : List Point) → ((service : EntityType) → EachPoint (Grants service) past) → AreOfKeyring setup past
  all-services [] each = tt
  all-services (p ∷ older) each = (λ t has. (each t.service).0 t has refl, all-services older (λ service. (each service).1))

-- whatever was forged
pub of-keyring : (setup : Setup) (hs : List Happening) → KeepsGenerations setup hs → AreOfKeyring setup (points setup hs)
of-keyring setup hs keeps = all-services setup (points setup hs) (λ service. let c = keeps.chained service in grants-points setup service (points setup hs) c.chain c.chained)
