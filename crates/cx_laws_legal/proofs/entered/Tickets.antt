-- Each ticket of a run is issued and expires at readings that are low, and has caps that can be written.
use Rattle.std.proofs.Common.{◌≡◌, ℕ, ◌+◌, ◌*◌, ◌<◌, ◌≤◌, Bool, true, false, find, map, List, [], ◌∷◌, Option, Some, None, refl, subst, arith}
use Rattle.std.specs.Prelude.{Contains, IsTrue, option_map, if◌then◌else◌}
use Rattle.std.specs.List.{AllByRecursion}
use Rattle.std.proofs.lemmas.Bool.Decides.{nat_tests}
use Rattle.cx_base.specs.Names.{same_kind}
use Rattle.cx_base.specs.Texts.{is_caps}
use Rattle.cx_base.specs.declared.grants.Grant.{Grant}
use Rattle.cx_base.specs.declared.kinds.EntityType.{EntityType}
use Rattle.cx_base.specs.declared.kinds.EntityType.TheVariants.{Auth}
use Rattle.cx_journal.specs.declared.entries.Entry.TheVariants as journal
use Rattle.cx_journal.specs.declared.entries.Issued.{Issued}
use Rattle.cx_keyring.specs.Entries.{is_named}
use Rattle.cx_keyring.specs.declared.entries.Entry.{Entry as Principal}
use Rattle.cx_keyserver.specs.Issuing.{caps_for}
use Rattle.cx_words.specs.lines.Values.{is_life}
use Rattle.cx_rotate.specs.declared.generations.Generation.{Generation}
use Rattle.cx_laws_run.specs.cx_laws_tickets.proofs.chain.One.{all-kept}
use Rattle.cx_laws_run.specs.cx_laws_tickets.specs.chain.Chain.{Chain, HasChain, IsChained, IsMadeUnder, KeepsGenerations, life_in, ring_in, three_newest}
use Rattle.cx_laws_run.specs.run.Laws.{MayBegin}
use Rattle.cx_laws_run.specs.cx_run.specs.Happenings.{Happening}
use Rattle.cx_laws_run.specs.cx_run.specs.Opening.{Declared, Setup, principal_of}
use Rattle.cx_laws_run.specs.cx_run.specs.Points.{EachPoint, Point, entries_at, points}
use Rattle.cx_laws_keys.proofs.keys.Lists.{found_all}

-- what is so of a ticket
pub record IsLow (t : Issued) : Type 0 where
  pub created : t.created < 4000000000000000000
  pub expires : t.expires < 5000000000000000000
  pub caps : IsTrue (is_caps t.caps)

-- ---- caps

abbrev HasCaps : Principal → Type 0
HasCaps x = AllByRecursion (λ (g : Grant). IsTrue (is_caps g.caps)) x.caps

ring-caps : (es : List Declared) → AllByRecursion (λ (e : Declared). AllByRecursion (λ (g : Grant). IsTrue (is_caps g.caps)) e.grants) es → AllByRecursion HasCaps (map principal_of es)
ring-caps [] caps = tt
ring-caps (e ∷ es) caps = (caps.0, ring-caps es caps.1)

caps-good : (service : EntityType) (x : Principal) (caps : List ℕ) → HasCaps x → caps_for service x ≡ Some caps → IsTrue (is_caps caps)
caps-good service x caps has is = by_auth (same_kind service Auth) is
  where
    by_grant : (found : Option Grant) → find (λ (g : Grant). same_kind service g.service) x.caps ≡ found → option_map (λ (g : Grant). g.caps) found ≡ Some caps → IsTrue (is_caps caps)
    by_grant None none e = absurd cc
    by_grant (Some g) some e =
        let good : IsTrue (is_caps g.caps) = found_all (λ (g : Grant). IsTrue (is_caps g.caps)) (λ (g : Grant). same_kind service g.service) x.caps g has some in
        let same : g.caps ≡ caps = cc in
        subst (λ (c : List ℕ). IsTrue (is_caps c)) same good

    by_auth : (t : Bool) → (if t then Some [] else option_map (λ (g : Grant). g.caps) (find (λ (g : Grant). same_kind service g.service) x.caps)) ≡ Some caps → IsTrue (is_caps caps)
    by_auth true e = let none : [] ≡ caps = cc in subst (λ (c : List ℕ). IsTrue (is_caps c)) none refl
    by_auth false e = by_grant (find (λ (g : Grant). same_kind service g.service) x.caps) refl e

-- ---- lives

life-short : (setup : Setup) (service : EntityType) → MayBegin setup → life_in setup service ≤ 31536000000000000
life-short setup service m = by_test (same_kind service Auth)
  where
    at_most : (seconds : ℕ) → is_life seconds ≡ true → seconds * 1000000000 ≤ 31536000000000000
    at_most seconds good = let low : seconds ≤ 31536000 = grind (arith, nat_tests) in omega arith

    by_test : (t : Bool) → (if t then setup.auth_life * 1000000000 else setup.life * 1000000000) ≤ 31536000000000000
    by_test true = at_most setup.auth_life m.auth_life
    by_test false = at_most setup.life m.life

-- ---- tickets

module _ (setup : Setup) (begins : MayBegin setup) where
  made-low : (life reading : ℕ) (generations : List Generation) (draw : List ℕ) (t : Issued) → life ≤ 31536000000000000 → reading < 4000000000000000000
      → IsMadeUnder life generations (ring_in setup) reading draw t → IsLow t
  made-low life reading generations draw t short low (under, made) =
      let created : t.created ≡ reading = made.created in
      let expires : t.expires ≡ t.created + life = under.expires in
      let has : HasCaps made.principal = found_all HasCaps (is_named t.entity) (ring_in setup) made.principal (ring-caps setup.entities begins.caps) made.named in
      record { created = omega arith; expires = omega arith; caps = caps-good t.service made.principal t.caps has made.caps }

  abbrev OfServiceLow : EntityType → List Point → Point → Type 0
  OfServiceLow service older p = (t : Issued) → Contains (entries_at p) (journal.Issued t) → t.service ≡ service → IsLow t

  chained-low : (service : EntityType) (past : List Point) (chain : Chain) → EachPoint (λ older p. p.happening.reading < 4000000000000000000) past → IsChained setup service past chain
      → EachPoint (OfServiceLow service) past
  chained-low service [] chain low chained = tt
  chained-low service (p ∷ past) chain low (before, earlier, moves) = (
    λ t has of. made-low (life_in setup service) p.happening.reading (three_newest chain.kept) p.happening.draw t (life-short setup service begins) low.0 (moves.issued t has of),
    chained-low service past before low.1 earlier,
  )

  -- each ticket of each point, whatever its service
  abbrev pub TicketsLow : List Point → Point → Type 0
  TicketsLow older p = (t : Issued) → Contains (entries_at p) (journal.Issued t) → IsLow t

  each-service : (past : List Point) → ((service : EntityType) → EachPoint (OfServiceLow service) past) → EachPoint TicketsLow past
  each-service [] each = tt
  each-service (p ∷ past) each = (λ t has. (each t.service).0 t has refl, each-service past (λ service. (each service).1))

  pub tickets-low : (hs : List Happening) → EachPoint (λ older p. p.happening.reading < 4000000000000000000) (points setup hs) → EachPoint TicketsLow (points setup hs)
  tickets-low hs low =
      let kept : KeepsGenerations setup hs = all-kept setup hs in
      each-service (points setup hs)
      (λ service. let c : HasChain setup service (points setup hs) = kept.chained service in chained-low service (points setup hs) c.chain low c.chained)
