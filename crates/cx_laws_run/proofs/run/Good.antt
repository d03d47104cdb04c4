-- Each ticket of a run can be written, and its blob opens under the key of each saved generation that it names.
use Rattle.std.proofs.Common.{◌≡◌, ◌≤◌, ◌<◌, ◌+◌, ◌*◌, ℕ, zero, suc, Bool, true, false, List, [], ◌∷◌, ◌++◌, length, map, find, take, drop, Option, Some, None, inl, inr, refl, sym, ap, ◌∙◌, subst, arith, ◌⊎◌, ◌^◌}
use Rattle.std.specs.Prelude.{Contains, nat_lt, if◌then◌else◌, IsTrue}
use Rattle.std.specs.List.{AllByRecursion}
use Rattle.std.specs.Option.{option_map}
use Rattle.std.proofs.lemmas.Bool.Decides.{nat_tests}
use Rattle.std.proofs.lemmas.List.Elements.{All-contains, All-from_recursion, Contains-append_right}
use Rattle.cx_aes.specs.Cipher.{IsBlock}
use Rattle.cx_base.proofs.Names.{same_name_is}
use Rattle.cx_base.specs.Names.{Name, same_kind}
use Rattle.cx_base.specs.Texts.{is_caps}
use Rattle.cx_base.specs.declared.grants.Grant.{Grant}
use Rattle.cx_base.specs.declared.kinds.EntityType.{EntityType}
use Rattle.cx_base.specs.declared.kinds.EntityType.TheVariants.{Mon, Mds, Osd, Client, Mgr, Auth}
use Rattle.cx_dice.specs.Draws.{part, rotation_of, session_of, three_keys}
use Rattle.cx_journal.specs.declared.entries.Entry.TheVariants as journal
use Rattle.cx_journal.specs.declared.entries.Issued.{Issued}
use Rattle.cx_journal.specs.declared.premises.KeyKind.TheVariants as kind
use Rattle.cx_keyring.specs.Entries.{is_named}
use Rattle.cx_keyring.specs.declared.entries.Entry.{Entry as Principal}
use Rattle.cx_laws_links.specs.cx_laws_tickets.specs.cx_keyserver.specs.Issuing.{caps_for, current_at}
use Rattle.cx_laws_links.specs.cx_laws_tickets.specs.cx_keyserver.specs.Servers.{generations_of}
use Rattle.cx_words.specs.lines.Named.{is_name}
use Rattle.cx_words.specs.lines.Values.{is_life}
use Rattle.cx_laws_links.specs.cx_laws_tickets.specs.cx_login.specs.Unlocking.{unlocked}
use Rattle.cx_rotate.specs.declared.generations.Generation.{Generation}
use Rattle.cx_rotate.specs.declared.states.KeptState.{KeptState}
use Rattle.cx_laws_links.specs.cx_laws_tickets.specs.cx_run.specs.Happenings.{Happening, Nodes, steps}
use Rattle.cx_laws_links.specs.cx_laws_tickets.specs.cx_run.specs.Opening.{Declared, Setup, principal_of}
use Rattle.cx_laws_links.specs.cx_laws_tickets.specs.cx_run.specs.Points.{EachPoint, Point, nodes_past, points_onto}
use Rattle.cx_laws_links.specs.cx_laws_tickets.specs.cx_sealed.specs.Records.{service_ticket_layout}
use Rattle.cx_steps.specs.Onto.{SomeOf}
use Rattle.cx_laws_links.specs.cx_laws_tickets.proofs.authorize.Backing.{IsGood}
use Rattle.cx_laws_links.specs.cx_laws_tickets.specs.chain.Chain.{Added, BecomesLost, BecomesSaved, Chain, Fate, HasChain, IsAddedAt, IsChained, IsMadeUnder, IsOne, IsUnderCurrent, StaysInMemory, chain_behind, life_in, ring_in, said_by, saved_past, three_newest}
use Rattle.cx_laws_links.specs.cx_laws_tickets.specs.cx_laws_keys.proofs.keys.Lists.{all-append, found_all, found_passes}
use Rattle.cx_laws_links.specs.cx_laws_tickets.specs.cx_laws_keys.proofs.keys.Uses.{IsSavedIn, WholeRun}
use Rattle.cx_laws_links.specs.cx_laws_tickets.specs.cx_laws_keys.proofs.login.Generations.{length-part, tagged}
use Rattle.cx_laws_links.specs.cx_laws_tickets.specs.cx_laws_keys.proofs.login.Issuing.{length-session}
use Rattle.cx_laws_run.proofs.run.Whole.{saved_in}
use Rattle.cx_laws_run.proofs.run.Written.{AreCaps, IsWritable, caps-are, is-writable, under-opens}
use Rattle.cx_laws_run.specs.run.Laws.{AreBytes, MayBegin}

-- ---- draws

-- the draw of an event: as long as one, and bytes
pub record IsDraw (draw : List ℕ) : Type 0 where
  pub long : length draw ≡ 384
  pub bytes : AreBytes draw

all-take : (n : ℕ) (xs : List ℕ) → AreBytes xs → AreBytes (take n xs)
all-take zero xs h = tt
all-take (suc n) [] h = tt
all-take (suc n) (x ∷ xs) h = (h.0, all-take n xs h.1)

all-drop : (n : ℕ) (xs : List ℕ) → AreBytes xs → AreBytes (drop n xs)
all-drop zero xs h = h
all-drop (suc n) [] h = tt
all-drop (suc n) (x ∷ xs) h = all-drop n xs h.1

part-bytes : (place count : ℕ) (draw : List ℕ) → AreBytes draw → AreBytes (part place count draw)
part-bytes place count draw h = all-take count (drop place draw) (all-drop place draw h)

session-bytes : (service : EntityType) (draw : List ℕ) → AreBytes draw → AreBytes (session_of service draw)
session-bytes Auth draw h = part-bytes 80 16 draw h
session-bytes Mds draw h = part-bytes 96 16 draw h
session-bytes Osd draw h = part-bytes 112 16 draw h
session-bytes Mgr draw h = part-bytes 128 16 draw h
session-bytes Mon draw h = tt
session-bytes Client draw h = tt

pub block-of : (place : ℕ) (draw : List ℕ) → IsDraw draw → place + 16 ≤ 384 → IsBlock (part place 16 draw)
block-of place draw d low = record {
  len = let long : length draw ≡ 384 = d.long in length-part place 16 draw (omega arith);
  bytes = All-from_recursion (λ (b : ℕ). b < 256) (part place 16 draw) (part-bytes place 16 draw d.bytes);
}

three-blocks : (place : ℕ) (draw : List ℕ) → IsDraw draw → place + 48 ≤ 384 → AllByRecursion IsBlock (three_keys place draw)
three-blocks place draw d low =
    (block-of place draw d (omega arith), (block-of (place + 16) draw d (omega arith), (block-of (place + 32) draw d (omega arith), tt)))

rotation-blocks : (service : EntityType) (draw : List ℕ) → IsDraw draw → AllByRecursion IsBlock (rotation_of service draw)
rotation-blocks Mds draw d = three-blocks 144 draw d (omega arith)
rotation-blocks Osd draw d = three-blocks 192 draw d (omega arith)
rotation-blocks Mgr draw d = three-blocks 240 draw d (omega arith)
rotation-blocks Auth draw d = three-blocks 288 draw d (omega arith)
rotation-blocks Mon draw d = tt
rotation-blocks Client draw d = tt

-- ---- generations

IsKeyed : Generation → Type 0
IsKeyed g = IsBlock g.key

AreKeyed : List Added → Type 0
AreKeyed xs = AllByRecursion (λ (x : Added). IsKeyed x.generation) xs

module _ (setup : Setup) (service : EntityType) where
  abbrev Draws : List Point → Point → Type 0
  Draws older p = IsDraw p.happening.draw

  added-keyed : (p : Point) → IsDraw p.happening.draw → (xs : List Added) → AllByRecursion (IsAddedAt service p) xs → AreKeyed xs
  unfolding AreKeyed IsKeyed
  added-keyed p d [] h = tt
  added-keyed p d (x ∷ xs) h = (
    All-contains IsBlock (rotation_of service p.happening.draw) x.generation.key
        (All-from_recursion IsBlock (rotation_of service p.happening.draw) (rotation-blocks service p.happening.draw d)) h.0.key,
    added-keyed p d xs h.1,
  )

  both-keyed : (xs ys : List Added) → AreKeyed xs → AreKeyed ys → AreKeyed (xs ++ ys)
  unfolding AreKeyed
  both-keyed xs ys h g = all-append (λ (x : Added). IsKeyed x.generation) xs ys h g

  -- what was kept, and what wasn't saved
  record IsKeyedChain (c : Chain) : Type 0 where
    kept : AreKeyed c.kept
    unsaved : AreKeyed c.unsaved

  behind-keyed : (fate : Fate) (added : List Added) (before : Chain) → AreKeyed added → IsKeyedChain before → IsKeyedChain (chain_behind fate added before)
  unfolding AreKeyed
  behind-keyed StaysInMemory added before new h = record { kept = h.kept; unsaved = both-keyed added before.unsaved new h.unsaved }
  behind-keyed BecomesSaved added before new h =
      record { kept = both-keyed added (before.unsaved ++ before.kept) new (both-keyed before.unsaved before.kept h.unsaved h.kept); unsaved = tt }
  behind-keyed BecomesLost added before new h = record { kept = h.kept; unsaved = tt }

  none-keyed : (c : Chain) → IsChained setup service [] c → IsKeyedChain c
  unfolding AreKeyed
  none-keyed c is = subst IsKeyedChain (sym is) (record { kept = tt; unsaved = tt })

  -- each generation of the chain has a key that is one
  chain-keyed : (past : List Point) (c : Chain) → IsChained setup service past c → EachPoint Draws past → IsKeyedChain c
  chain-keyed [] c is d = none-keyed c is
  chain-keyed (p ∷ older) c (before, earlier, m) d =
      subst IsKeyedChain (sym m.behind_is) (behind-keyed m.fate m.added before (added-keyed p d.0 m.added m.here) (chain-keyed older before earlier d.1))

  -- so the key of each that was ever saved is one
  pub kept-blocks : (past : List Point) (c : Chain) → IsChained setup service past c → EachPoint (λ older p. IsDraw p.happening.draw) past
      → AllByRecursion (λ (x : Added). IsBlock x.generation.key) c.kept
  unfolding AreKeyed IsKeyed
  kept-blocks past c is d = (chain-keyed past c is d).kept

  -- the one that is current is the second of the three newest
  current-is : (now : ℕ) (xs : List Added) (g : Generation) → AreKeyed xs → current_at now (three_newest xs) ≡ Some g → Contains (three_newest xs) g × IsBlock g.key
  unfolding AreKeyed IsKeyed
  current-is now [] g h is = absurd cc
  current-is now (a ∷ []) g h is = absurd cc
  current-is now (a ∷ b ∷ []) g h is = absurd cc
  current-is now (a ∷ b ∷ c ∷ older) g h is = by_test (nat_lt now b.generation.expires) is
    where
      by_test : (t : Bool) → (if t then Some b.generation else None) ≡ Some g → Contains (c.generation ∷ b.generation ∷ a.generation ∷ []) g × IsBlock g.key
      by_test true found =
          let second : b.generation ≡ g = cc in ((1, omega arith, second), subst (λ (x : Generation). IsBlock x.key) second h.1.0)
      by_test false found = absurd cc

-- ---- what was saved with an id

abbrev IsAs : EntityType → Generation → EntityType × Generation → Type 0
IsAs service g p = (p.0 ≡ service) × (p.1.id ≡ g.id) × (p.1.key ≡ g.key)

abbrev of_kind : EntityType → List Generation → List (EntityType × Generation)
of_kind kind gs = map (λ (g : Generation). (kind, g)) gs

some-either : {X : Type 0} (P : X → Type 0) (xs ys : List X) → SomeOf P (xs ++ ys) → SomeOf P xs ⊎ SomeOf P ys
some-either P [] ys h = inr h
some-either P (x ∷ xs) ys (inl h) = inl (inl h)
some-either P (x ∷ xs) ys (inr h) = by_rest (some-either P xs ys h)
  where
    by_rest : SomeOf P xs ⊎ SomeOf P ys → SomeOf P (x ∷ xs) ⊎ SomeOf P ys
    by_rest (inl front) = inl (inr front)
    by_rest (inr back) = inr back

-- one that is the first, or one of the others
contains-later : {X : Type 0} (y x : X) (xs : List X) → Contains xs x → Contains (y ∷ xs) x
contains-later y x xs has = Contains-append_right (y ∷ []) xs x has

module _ (service : EntityType) (id : ℕ) (g : Generation) (key : List ℕ) (same : g.id ≡ id) where
  -- each of these that has this id has this key
  abbrev AllHave : List Generation → Type 0
  AllHave gs = (x : Generation) → Contains gs x → x.id ≡ id → x.key ≡ key

  in-kind : (kind : EntityType) (gs : List Generation) → SomeOf (IsAs service g) (of_kind kind gs) → (kind ≡ service → AllHave gs) → g.key ≡ key
  in-kind kind [] h all = absurd h
  in-kind kind (x ∷ gs) (inl h) all = sym h.2 ∙ all h.0 x (0, omega arith, refl) (h.1 ∙ same)
  in-kind kind (x ∷ gs) (inr h) all = in-kind kind gs h (λ of y has is. all of y (contains-later x y gs has) is)

  in-state : (s : KeptState) → SomeOf (IsAs service g) (tagged s) → AllHave (generations_of s service) → g.key ≡ key
  in-state s h all = by_first (some-either (IsAs service g) (of_kind Mds s.mds) (of_kind Osd s.osd ++ (of_kind Mgr s.mgr ++ of_kind Auth s.auth)) h)
    where
      by_third : SomeOf (IsAs service g) (of_kind Mgr s.mgr) ⊎ SomeOf (IsAs service g) (of_kind Auth s.auth) → g.key ≡ key
      by_third (inl here) = in-kind Mgr s.mgr here (λ of. subst (λ (k : EntityType). AllHave (generations_of s k)) (sym of) all)
      by_third (inr here) = in-kind Auth s.auth here (λ of. subst (λ (k : EntityType). AllHave (generations_of s k)) (sym of) all)

      by_second : SomeOf (IsAs service g) (of_kind Osd s.osd) ⊎ SomeOf (IsAs service g) (of_kind Mgr s.mgr ++ of_kind Auth s.auth) → g.key ≡ key
      by_second (inl here) = in-kind Osd s.osd here (λ of. subst (λ (k : EntityType). AllHave (generations_of s k)) (sym of) all)
      by_second (inr rest) = by_third (some-either (IsAs service g) (of_kind Mgr s.mgr) (of_kind Auth s.auth) rest)

      by_first : SomeOf (IsAs service g) (of_kind Mds s.mds) ⊎ SomeOf (IsAs service g) (of_kind Osd s.osd ++ (of_kind Mgr s.mgr ++ of_kind Auth s.auth)) → g.key ≡ key
      by_first (inl here) = in-kind Mds s.mds here (λ of. subst (λ (k : EntityType). AllHave (generations_of s k)) (sym of) all)
      by_first (inr rest) = by_second (some-either (IsAs service g) (of_kind Osd s.osd) (of_kind Mgr s.mgr ++ of_kind Auth s.auth) rest)

-- over these points one key has this id
saved-key : (service : EntityType) (id : ℕ) (x g : Generation) → g.id ≡ id → (past : List Point)
    → EachPoint (λ older p. (y : Generation) → Contains (saved_past service p) y → y.id ≡ id → y ≡ x) past → IsSavedIn (saved_in past) service g → g.key ≡ x.key
saved-key service id x g same [] only h = absurd h
saved-key service id x g same (p ∷ older) only h =
    by_place (some-either (IsAs service g) (tagged (nodes_past p).monitor.own.saved) (saved_in older) h) (saved-key service id x g same older only.1)
  where
    by_place : SomeOf (IsAs service g) (tagged (nodes_past p).monitor.own.saved) ⊎ SomeOf (IsAs service g) (saved_in older)
        → (SomeOf (IsAs service g) (saved_in older) → g.key ≡ x.key) → g.key ≡ x.key
    by_place (inl here) rest =
        in-state service id g x.key same (nodes_past p).monitor.own.saved here (λ y has is. ap (λ (z : Generation). z.key) (only.0 y has is))
    by_place (inr before) rest = rest before

-- ---- the points of a run

-- what is so of all points is so of those until one
pub each-before : (P : List Point → Point → Type 0) (hs : List Happening) (past : List Point) (nodes : Nodes) → EachPoint P (points_onto past nodes hs) → EachPoint P past
each-before P [] past nodes each = each
each-before P (h ∷ hs) past nodes each = (each-before P hs (record { nodes = nodes; happening = h } ∷ past) (steps nodes h).nodes each).1

-- what is so of each event is so of its point
pub each-happening : (P : Happening → Type 0) (hs : List Happening) (past : List Point) (nodes : Nodes) → AllByRecursion P hs → EachPoint (λ older p. P p.happening) past
    → EachPoint (λ older p. P p.happening) (points_onto past nodes hs)
each-happening P [] past nodes all each = each
each-happening P (h ∷ hs) past nodes all each = each-happening P hs (record { nodes = nodes; happening = h } ∷ past) (steps nodes h).nodes all.1 (all.0, each)

chain-before : (setup : Setup) (service : EntityType) (hs : List Happening) (past : List Point) (nodes : Nodes) (c : Chain) → IsChained setup service (points_onto past nodes hs) c
    → (b : Chain) × IsChained setup service past b
chain-before setup service [] past nodes c is = (c, is)
chain-before setup service (h ∷ hs) past nodes c is = by_point (chain-before setup service hs (record { nodes = nodes; happening = h } ∷ past) (steps nodes h).nodes c is)
  where
    by_point : (b : Chain) × IsChained setup service (record { nodes = nodes; happening = h } ∷ past) b → (b : Chain) × IsChained setup service past b
    by_point (b, (before, earlier, m)) = (before, earlier)

-- ---- a ticket

-- the entity of an entry of the keyring has a name that can be written, and its caps can
record IsFitPrincipal (x : Principal) : Type 0 where
  named : is_name x.name ≡ true
  caps : AllByRecursion (λ (g : Grant). is_caps g.caps ≡ true) x.caps

ring-fit : (es : List Declared) → AllByRecursion (λ (e : Declared). IsTrue (is_name e.name)) es
    → AllByRecursion (λ (e : Declared). AllByRecursion (λ (g : Grant). IsTrue (is_caps g.caps)) e.grants) es → AllByRecursion IsFitPrincipal (map principal_of es)
ring-fit [] names caps = tt
ring-fit (e ∷ es) names caps = (record { named = names.0; caps = caps.0 }, ring-fit es names.1 caps.1)

caps-fit : (service : EntityType) (x : Principal) (caps : List ℕ) → IsFitPrincipal x → caps_for service x ≡ Some caps → is_caps caps ≡ true
caps-fit service x caps fit is = by_auth (same_kind service Auth) is
  where
    by_grant : (found : Option Grant) → find (λ (g : Grant). same_kind service g.service) x.caps ≡ found → option_map (λ (g : Grant). g.caps) found ≡ Some caps → is_caps caps ≡ true
    by_grant None none e = absurd cc
    by_grant (Some g) some e =
        let good : is_caps g.caps ≡ true = found_all (λ (g : Grant). is_caps g.caps ≡ true) (λ (g : Grant). same_kind service g.service) x.caps g fit.caps some in
        let same : g.caps ≡ caps = cc in
        subst (λ (c : List ℕ). is_caps c ≡ true) same good

    by_auth : (t : Bool) → (if t then Some [] else option_map (λ (g : Grant). g.caps) (find (λ (g : Grant). same_kind service g.service) x.caps)) ≡ Some caps → is_caps caps ≡ true
    by_auth true e = let none : [] ≡ caps = cc in subst (λ (c : List ℕ). is_caps c ≡ true) none refl
    by_auth false e = by_grant (find (λ (g : Grant). same_kind service g.service) x.caps) refl e

life-short : (setup : Setup) (service : EntityType) → MayBegin setup → life_in setup service ≤ 31536000000000000
life-short setup service m = by_test (same_kind service Auth)
  where
    at_most : (seconds : ℕ) → is_life seconds ≡ true → seconds * 1000000000 ≤ 31536000000000000
    at_most seconds good = let low : seconds ≤ 31536000 = grind (arith, nat_tests) in omega arith

    by_test : (t : Bool) → (if t then setup.auth_life * 1000000000 else setup.life * 1000000000) ≤ 31536000000000000
    by_test true = at_most setup.auth_life m.auth_life
    by_test false = at_most setup.life m.life

-- what is known of all points of a run
pub record IsKnown (setup : Setup) (run : WholeRun) (past : List Point) : Type 0 where
  pub chained : (service : EntityType) → HasChain setup service past
  pub one : (service : EntityType) (id : ℕ) → IsOne service id past
  pub drawn : EachPoint (λ older p. IsDraw p.happening.draw) past
  pub read : EachPoint (λ older p. p.happening.reading < 4000000000000000000) past
  pub saved : (service : EntityType) (g : Generation) → IsSavedIn run.saved service g → IsSavedIn (saved_in past) service g

module _ (setup : Setup) (run : WholeRun) (begins : MayBegin setup) where
  -- what is so of a ticket that is made so at an event
  record IsFitTicket (t : Issued) (session : List ℕ) : Type 0 where
    writable : IsWritable (said_by t session)
    short : length t.caps < 2 ^ 32
    early : t.expires < 4294967296000000000

  fit-ticket : (life reading : ℕ) (generations : List Generation) (draw : List ℕ) (t : Issued) → life ≤ 31536000000000000 → IsDraw draw → reading < 4000000000000000000
      → t.gid < 2 ^ 64 → (u : IsMadeUnder life generations (ring_in setup) reading draw t) → IsFitTicket t u.0.under.session
  fit-ticket life reading generations draw t lived drawn below numbered (under, made) =
      let session : List ℕ = under.under.session in
      let x : Principal = made.principal in
      let fit : IsFitPrincipal x = found_all IsFitPrincipal (is_named t.entity) (ring_in setup) x (ring-fit setup.entities begins.names begins.caps) made.named in
      let name_is : t.entity ≡ x.name = same_name_is t.entity x.name (found_passes (is_named t.entity) (ring_in setup) x made.named) in
      let named : is_name t.entity ≡ true = subst (λ (n : Name). is_name n ≡ true) (sym name_is) fit.named in
      let caps : is_caps t.caps ≡ true = caps-fit t.service x t.caps fit made.caps in
      let sized : AreCaps t.caps = caps-are t.caps caps in
      let created : t.created ≡ reading = made.created in
      let expires : t.expires ≡ t.created + life = under.expires in
      let low : length t.caps ≤ 4096 = sized.short in
      record {
        writable = is-writable (said_by t session) (ap length made.session_is ∙ length-session t.service draw drawn.long made.keyed)
            (subst AreBytes (sym made.session_is) (session-bytes t.service draw drawn.bytes)) named numbered (omega arith) (omega arith) caps;
        short = omega arith;
        early = omega arith;
      }

  -- each ticket of a point is good
  pub good-point : (h : Happening) (hs : List Happening) (past : List Point) (nodes : Nodes) → IsKnown setup run (points_onto past nodes (h ∷ hs))
      → (t : Issued) → Contains (steps nodes h).out.entries (journal.Issued t) → t.gid < 2 ^ 64 → IsGood run t
  good-point h hs past nodes known t has numbered = by_chain (chain-before setup t.service hs (p ∷ past) later c.chain c.chained)
    where
      p : Point
      p = record { nodes = nodes; happening = h }

      later : Nodes
      later = (steps nodes h).nodes

      c : HasChain setup t.service (points_onto past nodes (h ∷ hs))
      c = known.chained t.service

      drawn : EachPoint (λ older p. IsDraw p.happening.draw) (p ∷ past)
      drawn = each-before (λ older p. IsDraw p.happening.draw) hs (p ∷ past) later known.drawn

      read : EachPoint (λ older p. p.happening.reading < 4000000000000000000) (p ∷ past)
      read = each-before (λ older p. p.happening.reading < 4000000000000000000) hs (p ∷ past) later known.read

      one : IsOne t.service t.generation (points_onto past nodes (h ∷ hs))
      one = known.one t.service t.generation

      only : EachPoint (λ older p. (y : Generation) → Contains (saved_past t.service p) y → y.id ≡ t.generation → y ≡ one.generation) (p ∷ past)
      only = each-before (λ older p. (y : Generation) → Contains (saved_past t.service p) y → y.id ≡ t.generation → y ≡ one.generation) hs (p ∷ past) later one.saved

      some_none : {X : Type 0} (o : Option X) (x : X) → o ≡ Some x → o ≡ None → ⊥
      some_none o x some none = cc

      by_chain : (b : Chain) × IsChained setup t.service (p ∷ past) b → IsGood run t
      by_chain (b, (before, earlier, m)) =
          let keyed : IsKeyedChain setup t.service b = chain-keyed setup t.service (p ∷ past) b (before, earlier, m) drawn in
          let u : IsMadeUnder (life_in setup t.service) (three_newest b.kept) (ring_in setup) h.reading h.draw t = m.issued t has refl in
          let under : IsUnderCurrent (life_in setup t.service) (three_newest b.kept) t = u.0 in
          let of : Generation = under.of in
          let current = current-is setup t.service t.created b.kept of keyed.kept under.current in
          let fit : IsFitTicket t under.under.session =
          fit-ticket (life_in setup t.service) h.reading (three_newest b.kept) h.draw t (life-short setup t.service begins) drawn.0 read.0 numbered u in
          let is : of ≡ one.generation = only.0 of (subst (λ (gs : List Generation). Contains gs of) (sym m.saved) current.0) (sym under.under.id) in
          let opens : (unlocked service_ticket_layout.form kind.Service of.key t.blob).value ≡ Some (said_by t under.under.session) =
          under-opens of t under.under current.1 fit.writable in
          record {
            short = fit.short;
            early = fit.early;
            opens = λ g saved same none.
                let key : g.key ≡ one.generation.key =
                saved-key t.service t.generation one.generation g same (points_onto past nodes (h ∷ hs)) one.saved (known.saved t.service g saved) in
                let here : g.key ≡ of.key = key ∙ sym (ap (λ (x : Generation). x.key) is) in
                some_none ((unlocked service_ticket_layout.form kind.Service of.key t.blob).value) (said_by t under.under.session) opens
                (subst (λ (k : List ℕ). (unlocked service_ticket_layout.form kind.Service k t.blob).value ≡ None) here none);
          }
