-- A daemon refuses no issued ticket for its key while its look lists the generation.
use Rattle.std.proofs.Common.{◌≡◌, ◌==◌, ℕ, Bool, true, false, cond, List, [], ◌∷◌, ◌++◌, Some, None, refl, sym, subst, eq-eqb, eqb-true}
use Rattle.std.specs.Prelude.{Contains, find, ◌||◌}
use Rattle.std.specs.Option.{option_map}
use Rattle.cx_base.proofs.Names.{same_name_self}
use Rattle.cx_base.specs.declared.kinds.EntityType.{EntityType}
use Rattle.cx_base.specs.declared.nodes.NodeName.{NodeName}
use Rattle.cx_base.specs.declared.nodes.NodeName.TheVariants as node
use Rattle.cx_journal.specs.KeepsKeys.{LacksIssued, NeedsFor, NeedsLook, WasIssued, has_generation, is_look}
use Rattle.cx_journal.specs.declared.entries.Entry.{Entry}
use Rattle.cx_journal.specs.declared.entries.Entry.TheVariants as journal
use Rattle.cx_journal.specs.declared.entries.Issued.{Issued}
use Rattle.cx_journal.specs.declared.entries.Looked.{Looked}
use Rattle.cx_journal.specs.declared.entries.Refused.{Refused}
use Rattle.cx_journal.specs.declared.outcomes.Reason.TheVariants as reason
use Rattle.cx_journal.specs.declared.outcomes.TicketFault.{TicketFault}
use Rattle.cx_journal.specs.declared.outcomes.TicketFault.TheVariants as told
use Rattle.cx_journal.specs.declared.premises.KeyKind.TheVariants as kind
use Rattle.cx_laws_keys.specs.cx_login.specs.Opening.{generation_key}
use Rattle.cx_laws_keys.specs.cx_login.specs.Unlocking.{unlocked}
use Rattle.cx_rotate.specs.declared.generations.Generation.{Generation}
use Rattle.cx_laws_keys.specs.cx_rules.specs.Holdings.{MonClient}
use Rattle.cx_laws_keys.specs.cx_sealed.specs.Records.{service_ticket_layout}
use Rattle.cx_laws_tickets.specs.authorize.Admission.{FaultTells, IsToldAt}
use Rattle.cx_laws_keys.proofs.keys.Journal.{has-before}
use Rattle.cx_laws_keys.proofs.keys.Uses.{IsSavedIn, WholeRun}
use Rattle.cx_laws_tickets.proofs.authorize.Backing.{AreGood}
use Rattle.std.specs.List.{AllByRecursion}
use Rattle.cx_laws_keys.specs.cx_steps.specs.declared.seals.SealEntry.{SealEntry}

-- ---- refusals

-- of each issued ticket for this service, where these generations list the id that it names, its blob opens as a ticket under the key that they have
abbrev pub AreKept : List Entry → EntityType → List Generation → Type 0
AreKept J service generations = (t : Issued) → Contains J (journal.Issued t) → t.service ≡ service → (key : List ℕ) → generation_key generations t.generation ≡ Some key
    → (unlocked service_ticket_layout.form kind.Service key t.blob).value ≡ None → ⊥

-- the generation that has the key of an id
pub found-generation : (P : Generation → Type 0) (gs : List Generation) (id : ℕ) (key : List ℕ) → AllByRecursion P gs → generation_key gs id ≡ Some key
    → (g : Generation) × P g × (g.id ≡ id) × (g.key ≡ key)
found-generation P [] id key h e = absurd cc
found-generation P (g ∷ gs) id key h e = by_test (g.id == id) refl e (found-generation P gs id key h.1)
  where
    by_test : (t : Bool) → (g.id == id) ≡ t → option_map (λ (x : Generation). x.key) (cond t (Some g) (find (λ (x : Generation). x.id == id) gs)) ≡ Some key
        → (generation_key gs id ≡ Some key → (g : Generation) × P g × (g.id ≡ id) × (g.key ≡ key)) → (g : Generation) × P g × (g.id ≡ id) × (g.key ≡ key)
    by_test true is found rest = (g, h.0, eqb-true g.id id is, cc)
    by_test false is found rest = rest found

-- so it is of generations that were saved, where the tickets are good
pub kept-of : (run : WholeRun) (J : List Entry) (service : EntityType) (gs : List Generation) → AreGood run J → AllByRecursion (IsSavedIn run.saved service) gs → AreKept J service gs
kept-of run J service gs goods saved t has of key known none =
    let f = found-generation (IsSavedIn run.saved service) gs t.generation key saved known in
    (goods t has).opens f.0 (subst (λ (s : EntityType). IsSavedIn run.saved s f.0) (sym of) f.1) f.2
    (subst (λ (k : List ℕ). (unlocked service_ticket_layout.form kind.Service k t.blob).value ≡ None) (sym f.3) none)

-- where no generation has an id, none is listed
unlisted : (generations : List Generation) (id : ℕ) → generation_key generations id ≡ None → has_generation generations id ≡ false
unlisted [] id e = refl
unlisted (g ∷ gs) id e = by_test (g.id == id) e (unlisted gs id)
  where
    by_test : (t : Bool) → option_map (λ (x : Generation). x.key) (cond t (Some g) (find (λ (x : Generation). x.id == id) gs)) ≡ None
        → (generation_key gs id ≡ None → has_generation gs id ≡ false) → (t || has_generation gs id) ≡ false
    by_test true found rest = absurd cc
    by_test false found rest = rest found

module _ (J : List Entry) (daemon : MonClient) (number reading : ℕ) (kept : AreKept J daemon.name.kind daemon.view.generations) where
  abbrev look : Looked
  look = record { daemon = daemon.name; link = number; view = daemon.view }

  -- the journal behind the look
  abbrev behind_look : List Entry
  behind_look = J ++ journal.Looked look ∷ []

  looked-here : is_look daemon.name number (journal.Looked look) ≡ true
  looked-here = rw (same_name_self daemon.name) (eq-eqb number number refl)

  lacks : (id : ℕ) (blob : List ℕ) → (WasIssued behind_look daemon.name id blob → has_generation daemon.view.generations id ≡ false)
      → LacksIssued behind_look daemon.name number id blob
  lacks id blob h was = record { before = J; look = look; after = []; place = refl; looked = looked-here; latest = refl; lacks = h was }

  -- it isn't said of an issued ticket that it doesn't open
  opens-anyhow : (id : ℕ) (blob : List ℕ) → WasIssued behind_look daemon.name id blob → (key : List ℕ) → generation_key daemon.view.generations id ≡ Some key
      → (unlocked service_ticket_layout.form kind.Service key blob).value ≡ None → ⊥
  opens-anyhow id blob was key known none =
      kept was.ticket (has-before J (journal.Looked look) tt was.ticket was.issued) was.service key
      (subst (λ (n : ℕ). generation_key daemon.view.generations n ≡ Some key) (sym was.under) known)
      (subst (λ (b : List ℕ). (unlocked service_ticket_layout.form kind.Service key b).value ≡ None) (sym was.has_blob) none)

  look-keeps : (why : TicketFault) (blob : List ℕ) (seals : List SealEntry) → FaultTells daemon.view reading why blob seals → NeedsLook behind_look daemon.name number why blob
  look-keeps (told.UnknownGeneration id) blob seals tells = lacks id blob (λ was. unlisted daemon.view.generations id tells)
  look-keeps (told.TicketUnopened id) blob seals (key, known, none) = lacks id blob (λ was. absurd (opens-anyhow id blob was key known none))
  look-keeps _ blob seals tells = tt

  -- so a refusal that tells what came of the ticket keeps its law behind the look that was entered before it
  pub told-keeps : (es : List Entry) (seals : List SealEntry) (r : Refused) (why : TicketFault) (blob : List ℕ) → IsToldAt daemon (node.Entity daemon.name) number reading es seals r why blob
      → NeedsFor behind_look r.node r.link (reason.Ticket why blob)
  told-keeps es seals r why blob h =
      subst (λ (at : NodeName). NeedsFor behind_look at r.link (reason.Ticket why blob)) (sym h.node_is)
      (subst (λ (link : ℕ). NeedsLook behind_look daemon.name link why blob) (sym h.link) (look-keeps why blob seals h.tells))
