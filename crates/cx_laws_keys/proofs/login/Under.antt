-- Each ticket that is issued is of the generation of its service that is current, and its blob is sealed under that one's key; it lives for one life, has
-- the session key that was drawn for its service, and is for an entity of the keyring, with the caps that this one has for the service.
use Rattle.std.proofs.Common.{◌≡◌, ℕ, ◌+◌, Bool, true, false, cond, List, [], ◌∷◌, Option, Some, None, Result, Ok, Err, refl, ap}
use Rattle.std.specs.Prelude.{find}
use Rattle.std.specs.List.{AllByRecursion}
use Rattle.cx_base.specs.declared.kinds.EntityType.{EntityType}
use Rattle.cx_laws_keys.specs.cx_cbc.specs.Envelope.{sealed}
use Rattle.cx_rules.specs.cx_dice.specs.Draws.{has_keys, session_of}
use Rattle.cx_laws_keys.specs.cx_enc.specs.Forms.{passed}
use Rattle.cx_laws_keys.specs.cx_journal.specs.declared.faults.LoginFault.{LoginFault}
use Rattle.cx_rules.specs.cx_keyring.specs.Entries.{is_named}
use Rattle.cx_rules.specs.cx_keyring.specs.declared.entries.Entry.{Entry as Principal}
use Rattle.cx_rules.specs.cx_keyserver.specs.Issuing.{Asked, ◌>>=◌, caps_for, current_at, fields_of, issued, or_else, sealed_by, service_ticket_of, telling_key}
use Rattle.cx_rules.specs.cx_keyserver.specs.Servers.{Server, generations_of, life_of}
use Rattle.cx_rules.specs.cx_keyserver.specs.declared.refusals.IssueRefusal.{IssueRefusal}
use Rattle.cx_rules.specs.cx_keyserver.specs.declared.refusals.IssueRefusal.TheVariants as issue
use Rattle.cx_rules.specs.cx_keyserver.specs.declared.tickets.Ticket.{Ticket}
use Rattle.cx_rules.specs.cx_rotate.specs.declared.generations.Generation.{Generation}
use Rattle.cx_rules.specs.Tickets.{issued_before, issued_for}
use Rattle.cx_laws_keys.specs.cx_sealed.specs.Records.{service_ticket_layout}

-- made at this reading, with this draw
pub record IsOfCurrent (server : Server) (reading : ℕ) (draw : List ℕ) (t : Ticket) : Type 0 where
  pub of : Generation
  pub current : current_at t.created (generations_of server.state t.service) ≡ Some of
  pub id : t.generation ≡ of.id
  pub created : t.created ≡ reading
  pub expires : t.expires ≡ t.created + life_of server.state t.service
  pub blob : t.blob ≡ sealed of.key (service_ticket_layout.form.text (service_ticket_of t))
  pub keyed : has_keys t.service ≡ true
  pub session : t.session ≡ session_of t.service draw
  pub principal : Principal
  pub named : find (is_named t.entity) server.ring ≡ Some principal
  pub caps : caps_for t.service principal ≡ Some t.caps

module _ (server : Server) (reading : ℕ) (draw : List ℕ) where
  abbrev ResultOfCurrent : Result Ticket IssueRefusal → Type 0
  ResultOfCurrent (Ok t) = IsOfCurrent server reading draw t
  ResultOfCurrent (Err why) = Unit {0}

  issued-under : (asked : Asked) → asked.reading ≡ reading → asked.draw ≡ draw → ResultOfCurrent (issued server asked)
  issued-under asked at drawn = by_found (find (is_named asked.name) server.ring) refl
    where
      by_current : (entry : Principal) → find (is_named asked.name) server.ring ≡ Some entry → has_keys asked.service ≡ true → (caps : List ℕ) (current : Option Generation)
          → caps_for asked.service entry ≡ Some caps → current_at asked.reading (generations_of server.state asked.service) ≡ current
          → ResultOfCurrent (or_else issue.IdsSpent current >>= λ generation. Ok (sealed_by generation.key (telling_key entry asked) (fields_of server.state asked caps generation)))
      by_current entry named keyed caps None has is = tt
      by_current entry named keyed caps (Some g) has is = record {
        of = g;
        current = is;
        id = refl;
        created = at;
        expires = refl;
        blob = refl;
        keyed = keyed;
        session = ap (λ (d : List ℕ). session_of asked.service d) drawn;
        principal = entry;
        named = named;
        caps = has;
      }

      by_caps : (entry : Principal) → find (is_named asked.name) server.ring ≡ Some entry → has_keys asked.service ≡ true → (caps : Option (List ℕ))
          → caps_for asked.service entry ≡ caps → ResultOfCurrent
          (or_else issue.NoCaps caps >>= λ caps. or_else issue.IdsSpent (current_at asked.reading (generations_of server.state asked.service)) >>= λ generation.
          Ok (sealed_by generation.key (telling_key entry asked) (fields_of server.state asked caps generation)))
      by_caps entry named keyed None has = tt
      by_caps entry named keyed (Some caps) has = by_current entry named keyed caps (current_at asked.reading (generations_of server.state asked.service)) has refl

      by_keys : (entry : Principal) → find (is_named asked.name) server.ring ≡ Some entry → (t : Bool) → has_keys asked.service ≡ t → ResultOfCurrent
          (or_else issue.NotAService (cond t (Some asked.service) None) >>= λ service.
          or_else issue.NoCaps (caps_for service entry) >>= λ caps.
          or_else issue.IdsSpent (current_at asked.reading (generations_of server.state service)) >>= λ generation.
          Ok (sealed_by generation.key (telling_key entry asked) (fields_of server.state asked caps generation)))
      by_keys entry named true keyed = by_caps entry named keyed (caps_for asked.service entry) refl
      by_keys entry named false keyed = tt

      by_found : (found : Option Principal) → find (is_named asked.name) server.ring ≡ found → ResultOfCurrent
          (or_else issue.UnknownEntity found >>= λ entry.
          or_else issue.NotAService (passed has_keys asked.service) >>= λ service.
          or_else issue.NoCaps (caps_for service entry) >>= λ caps.
          or_else issue.IdsSpent (current_at asked.reading (generations_of server.state service)) >>= λ generation.
          Ok (sealed_by generation.key (telling_key entry asked) (fields_of server.state asked caps generation)))
      by_found None named = tt
      by_found (Some entry) named = by_keys entry named (has_keys asked.service) refl

  abbrev pub AreOfCurrent : Result (List Ticket) LoginFault → Type 0
  AreOfCurrent (Ok ts) = AllByRecursion (IsOfCurrent server reading draw) ts
  AreOfCurrent (Err why) = Unit {0}

  before-under : (first : Result Ticket IssueRefusal) (rest : Result (List Ticket) LoginFault) → ResultOfCurrent first → AreOfCurrent rest → AreOfCurrent (issued_before first rest)
  before-under (Ok t) (Ok ts) is h = (is, h)
  before-under (Ok t) (Err why) is h = tt
  before-under (Err issue.NoCaps) rest is h = h
  before-under (Err issue.IdsSpent) rest is h = tt
  before-under (Err issue.UnknownEntity) rest is h = tt
  before-under (Err issue.NotAService) rest is h = h
  before-under (Err issue.OutOfMemory) rest is h = h

  -- where all are asked for at this reading, with this draw
  pub all-under : (ask : EntityType → Asked) → ((s : EntityType) → ((ask s).reading ≡ reading) × ((ask s).draw ≡ draw)) → (services : List EntityType)
      → AreOfCurrent (issued_for server ask services)
  all-under ask at [] = tt
  all-under ask at (s ∷ services) =
      before-under (issued server (ask s)) (issued_for server ask services) (issued-under (ask s) (at s).0 (at s).1) (all-under ask at services)
