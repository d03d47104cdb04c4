-- The keys that a rotation draws, and the generations that it leaves.
use Rattle.std.proofs.Common.{◌≡◌, ℕ, zero, suc, ◌+◌, ◌-◌, ◌<◌, ◌^◌, List, [], ◌∷◌, ◌++◌, length, map, max, take, drop, refl, sym, ap, subst, inl, Bool, true, false, find, arith, ◌≤◌, length-take, length-drop, inr}
use Rattle.std.specs.List.{AllByRecursion, flat_map}
use Rattle.cx_base.specs.declared.kinds.EntityType.{EntityType}
use Rattle.cx_base.specs.declared.kinds.EntityType.TheVariants.{Mon, Mds, Osd, Client, Mgr, Auth}
use Rattle.cx_rules.specs.cx_dice.specs.Draws.{rotation_of, three_keys, part}
use Rattle.cx_laws_keys.specs.cx_journal.specs.declared.entries.Entry.{Entry}
use Rattle.cx_base.specs.declared.nodes.NodeName.{NodeName}
use Rattle.cx_rules.specs.cx_keyserver.specs.Servers.{generations_of, life_of, rotated_of, rotated_state}
use Rattle.cx_rules.specs.cx_rotate.specs.Rotation.{added, additions, followers, openers, grown, is_current, is_full}
use Rattle.cx_rules.specs.cx_rotate.specs.declared.generations.Generation.{Generation}
use Rattle.cx_rules.specs.cx_rotate.specs.declared.states.KeptState.{KeptState}
use Rattle.cx_rules.specs.Tickets.{drawn_for, rotation_drawn}
use Rattle.cx_rules.specs.cx_steps.specs.declared.seals.DrawMark.TheVariants as draw
use Rattle.cx_rules.specs.cx_steps.specs.declared.seals.Logged.{Logged}
use Rattle.cx_rules.specs.cx_steps.specs.declared.seals.SealEntry.{SealEntry}
use Rattle.cx_rules.specs.cx_steps.specs.declared.seals.SealEntry.TheVariants as entry
use Rattle.cx_laws_keys.proofs.keys.Journal.{Reached, reached-then}
use Rattle.cx_laws_keys.proofs.keys.Known.{Inv, generated-grow}
use Rattle.cx_laws_keys.proofs.keys.Lists.{all-append, all-map, some-left, some-right}
use Rattle.cx_laws_keys.proofs.keys.Premises.{AreGranted, behind, granted-first, granted-rest, logged}
use Rattle.cx_laws_keys.proofs.keys.Steps.{inv-drawn}
use Rattle.cx_laws_keys.proofs.keys.Uses.{Generated, Grows, Means, Use, Uses, grows-one, grows-then, stays, with_key, WholeRun, AreGenerated, IsSavedIn}
use Rattle.cx_laws_keys.proofs.keys.ReadGenerations.{IsSized}
use Rattle.std.specs.Prelude.{◌||◌, nat_le, unwrap_or, if◌then◌else◌}
use Rattle.std.proofs.lemmas.Bool.{leb-false}

-- a state of which each generation is for its service
abbrev pub IsGenerated : Uses → KeptState → Type 0
IsGenerated us s = (service : EntityType) → AreGenerated us service (generations_of s service)

-- three of them at most, whose ids and keys can be written
pub record AreWritable (gs : List Generation) : Type 0 where
  pub few : length gs ≤ 3
  pub sized : AllByRecursion IsSized gs

pub none-writable : AreWritable []
none-writable = record { few = omega arith; sized = tt }

-- and whose next global id is a number of eight bytes
pub record StateOk (us : Uses) (s : KeptState) : Type 0 where
  pub generated : IsGenerated us s
  pub writable : (service : EntityType) → AreWritable (generations_of s service)
  pub numbered : s.next_gid < 2 ^ 64

-- each of its generations is one that was saved in the run
abbrev pub AreRecorded : WholeRun → KeptState → Type 0
AreRecorded run s = (service : EntityType) → AllByRecursion (IsSavedIn run.saved service) (generations_of s service)

-- the generations of a state, each as one of its service
abbrev tag : EntityType → List Generation → List (EntityType × Generation)
tag service gs = map (λ (g : Generation). (service, g)) gs

abbrev pub tagged : KeptState → List (EntityType × Generation)
tagged s = tag Mds s.mds ++ (tag Osd s.osd ++ (tag Mgr s.mgr ++ tag Auth s.auth))

-- each is one of them
abbrev Is : EntityType → Generation → EntityType × Generation → Type 0
Is service g p = (p.0 ≡ service) × (p.1.id ≡ g.id) × (p.1.key ≡ g.key)

all-tag : (service : EntityType) (gs : List Generation) → AllByRecursion (IsSavedIn (tag service gs) service) gs
all-tag service [] = tt
all-tag service (g ∷ gs) =
    (inl (refl, refl, refl), all-map (IsSavedIn (tag service gs) service) (IsSavedIn (tag service (g ∷ gs)) service) (λ x h. inr h) gs (all-tag service gs))

tag-left : (service : EntityType) (gs : List Generation) (xs ys : List (EntityType × Generation)) → AllByRecursion (IsSavedIn xs service) gs → AllByRecursion (IsSavedIn (xs ++ ys) service) gs
tag-left service gs xs ys h = all-map (IsSavedIn xs service) (IsSavedIn (xs ++ ys) service) (λ g s. some-left (Is service g) xs ys s) gs h

tag-right : (service : EntityType) (gs : List Generation) (xs ys : List (EntityType × Generation)) → AllByRecursion (IsSavedIn ys service) gs → AllByRecursion (IsSavedIn (xs ++ ys) service) gs
tag-right service gs xs ys h = all-map (IsSavedIn ys service) (IsSavedIn (xs ++ ys) service) (λ g s. some-right (Is service g) xs ys s) gs h

pub all-tagged : (s : KeptState) (service : EntityType) → AllByRecursion (IsSavedIn (tagged s) service) (generations_of s service)
all-tagged s Mds = tag-left Mds s.mds (tag Mds s.mds) (tag Osd s.osd ++ (tag Mgr s.mgr ++ tag Auth s.auth)) (all-tag Mds s.mds)
all-tagged s Osd =
    tag-right Osd s.osd (tag Mds s.mds) (tag Osd s.osd ++ (tag Mgr s.mgr ++ tag Auth s.auth)) (tag-left Osd s.osd (tag Osd s.osd) (tag Mgr s.mgr ++ tag Auth s.auth) (all-tag Osd s.osd))
all-tagged s Mgr =
    tag-right Mgr s.mgr (tag Mds s.mds) (tag Osd s.osd ++ (tag Mgr s.mgr ++ tag Auth s.auth))
    (tag-right Mgr s.mgr (tag Osd s.osd) (tag Mgr s.mgr ++ tag Auth s.auth) (tag-left Mgr s.mgr (tag Mgr s.mgr) (tag Auth s.auth) (all-tag Mgr s.mgr)))
all-tagged s Auth =
    tag-right Auth s.auth (tag Mds s.mds) (tag Osd s.osd ++ (tag Mgr s.mgr ++ tag Auth s.auth))
    (tag-right Auth s.auth (tag Osd s.osd) (tag Mgr s.mgr ++ tag Auth s.auth) (tag-right Auth s.auth (tag Mgr s.mgr) (tag Auth s.auth) (all-tag Auth s.auth)))
all-tagged s Mon = tt
all-tagged s Client = tt

-- where they are taken as saved they are recorded
pub tagged-recorded : (run : WholeRun) (s : KeptState) → AreRecorded (record run { saved = tagged s ++ run.saved }) s
tagged-recorded run s service = tag-left service (generations_of s service) (tagged s) run.saved (all-tagged s service)

pub state-grows : (us vs : Uses) (s : KeptState) → Grows us vs → StateOk us s → StateOk vs s
state-grows us vs s f h = record {
  generated = λ service. generated-grow us vs service (generations_of s service) f (h.generated service);
  writable = h.writable;
  numbered = h.numbered;
}

-- ---- what a rotation adds

abbrev drawn : List (List ℕ) → List SealEntry
drawn keys = map (λ key. entry.Drawn (draw.Rotation key)) keys

abbrev keys_of : List Generation → List (List ℕ)
keys_of gs = map (λ (g : Generation). g.key) gs

opener-keys : (now life place : ℕ) (keys : List (List ℕ)) → keys_of (openers now life place keys) ≡ keys
opener-keys now life place [] = refl
opener-keys now life place (key ∷ keys) = ap (λ (ks : List (List ℕ)). key ∷ ks) (opener-keys now life (place + 1) keys)

follower-keys : (now life : ℕ) (keys : List (List ℕ)) (newest : Generation) → keys_of (followers now life newest keys) ≡ keys
follower-keys now life [] newest = refl
follower-keys now life (key ∷ keys) newest =
    let next : Generation = record { id = newest.id + 1; key = key; expires = max (now + life) newest.expires + life } in
    ap (λ (ks : List (List ℕ)). key ∷ ks) (follower-keys now life keys next)

added-keys : (now life : ℕ) (keys : List (List ℕ)) (old : List Generation) → keys_of (added now life keys old) ≡ keys
added-keys now life keys [] = opener-keys now life 0 keys
added-keys now life keys (newest ∷ []) = follower-keys now life keys newest
added-keys now life keys (a ∷ g ∷ gs) = added-keys now life keys (g ∷ gs)

-- ---- ids and keys that can be written

abbrev Are16 : List (List ℕ) → Type 0
Are16 keys = AllByRecursion (λ (key : List ℕ). length key ≡ 16) keys

pub length-part : (place count : ℕ) (block : List ℕ) → place + count ≤ length block → length (part place count block) ≡ count
length-part place count block h = omega (arith, length-take count (drop place block), length-drop place block)

-- the keys of a draw can
record AreKeys (keys : List (List ℕ)) : Type 0 where
  few : length keys ≤ 3
  sixteen : Are16 keys

three-keys : (place : ℕ) (block : List ℕ) → place + 48 ≤ length block → AreKeys (three_keys place block)
three-keys place block low = record {
  few = omega arith;
  sixteen = (length-part place 16 block (omega arith), (length-part (place + 16) 16 block (omega arith), (length-part (place + 32) 16 block (omega arith), tt)));
}

rotation-keys : (service : EntityType) (block : List ℕ) → length block ≡ 384 → AreKeys (rotation_of service block)
rotation-keys Mds block drawn = three-keys 144 block (omega arith)
rotation-keys Osd block drawn = three-keys 192 block (omega arith)
rotation-keys Mgr block drawn = three-keys 240 block (omega arith)
rotation-keys Auth block drawn = three-keys 288 block (omega arith)
rotation-keys Mon block drawn = record { few = omega arith; sixteen = tt }
rotation-keys Client block drawn = record { few = omega arith; sixteen = tt }

all-take : {X : Type 0} (P : X → Type 0) (n : ℕ) (xs : List X) → AllByRecursion P xs → AllByRecursion P (take n xs)
all-take P zero xs h = tt
all-take P (suc n) [] h = tt
all-take P (suc n) (x ∷ xs) h = (h.0, all-take P n xs h.1)

take-keys : (n : ℕ) (keys : List (List ℕ)) → AreKeys keys → AreKeys (take n keys)
take-keys n keys h = record {
  few = let all : length keys ≤ 3 = h.few in omega (arith, length-take n keys);
  sixteen = all-take (λ (key : List ℕ). length key ≡ 16) n keys h.sixteen;
}

openers-sized : (now life place : ℕ) (keys : List (List ℕ)) → place + length keys < 2 ^ 64 → Are16 keys → AllByRecursion IsSized (openers now life place keys)
openers-sized now life place [] low h = tt
openers-sized now life place (key ∷ keys) low h = ((h.0, omega arith), openers-sized now life (place + 1) keys (omega arith) h.1)

followers-sized : (now life : ℕ) (keys : List (List ℕ)) (newest : Generation) → newest.id + length keys < 2 ^ 64 → Are16 keys → AllByRecursion IsSized (followers now life newest keys)
followers-sized now life [] newest low h = tt
followers-sized now life (key ∷ keys) newest low h =
    let next : Generation = record { id = newest.id + 1; key = key; expires = max (now + life) newest.expires + life } in
    ((h.0, omega arith), followers-sized now life keys next (omega arith) h.1)

-- a newest one behind which some are added has room for them
has-room : (id expires : ℕ) → (nat_le (2 ^ 64 - 4) id || nat_le 4200000000000000000 expires) ≡ false → id < 2 ^ 64 - 4
has-room id expires full = by_test (nat_le (2 ^ 64 - 4) id) refl full
  where
    by_test : (t : Bool) → nat_le (2 ^ 64 - 4) id ≡ t → (t || nat_le 4200000000000000000 expires) ≡ false → id < 2 ^ 64 - 4
    by_test true is none = absurd cc
    by_test false is none = leb-false (2 ^ 64 - 4) id is

added-sized : (now life : ℕ) (keys : List (List ℕ)) (gs : List Generation) → is_full gs ≡ false → AreKeys keys → AllByRecursion IsSized (added now life keys gs)
added-sized now life keys [] full h = let few : length keys ≤ 3 = h.few in openers-sized now life 0 keys (omega arith) h.sixteen
added-sized now life keys (newest ∷ []) full h =
    let few : length keys ≤ 3 = h.few in
    let room : newest.id < 2 ^ 64 - 4 = has-room newest.id newest.expires full in
    followers-sized now life keys newest (omega arith) h.sixteen
added-sized now life keys (a ∷ g ∷ gs) full h = added-sized now life keys (g ∷ gs) full h

added-none : (now life : ℕ) (gs : List Generation) → added now life [] gs ≡ []
added-none now life [] = refl
added-none now life (newest ∷ []) = refl
added-none now life (a ∷ g ∷ gs) = added-none now life (g ∷ gs)

-- what a rotation adds can be written
additions-sized : (now life : ℕ) (all : List (List ℕ)) (gs : List Generation) → AreKeys all → AllByRecursion IsSized (added now life (take (additions now life all gs) all) gs)
additions-sized now life all gs h = by_full (is_full gs) refl (unwrap_or (find (λ n. is_current now (grown now life (take n all) gs)) (0 ∷ 1 ∷ 2 ∷ 3 ∷ [])) 0)
  where
    by_full : (t : Bool) → is_full gs ≡ t → (n : ℕ) → AllByRecursion IsSized (added now life (take (if t then 0 else n) all) gs)
    by_full true is n = subst (λ (l : List Generation). AllByRecursion IsSized l) (sym (added-none now life gs)) tt
    by_full false is n = added-sized now life (take n all) gs is (take-keys n all h)

all-drop : {X : Type 0} (P : X → Type 0) (n : ℕ) (xs : List X) → AllByRecursion P xs → AllByRecursion P (drop n xs)
all-drop P zero xs h = h
all-drop P (suc n) [] h = tt
all-drop P (suc n) (x ∷ xs) h = all-drop P n xs h.1

-- the generations behind a rotation can be written
rotated-writable : (now : ℕ) (block : List ℕ) (state : KeptState) (service : EntityType) → length block ≡ 384 → AreWritable (generations_of state service)
    → AreWritable (rotated_of now block state service)
rotated-writable now block state service drawn old =
    let all : List (List ℕ) = rotation_of service block in
    let gs : List Generation = generations_of state service in
    let new : List Generation = added now (life_of state service) (take (additions now (life_of state service) all gs) all) gs in
    record {
      few = omega (arith, length-drop (length (gs ++ new) - 3) (gs ++ new));
      sized = all-drop IsSized (length (gs ++ new) - 3) (gs ++ new)
          (all-append IsSized gs new old.sized (additions-sized now (life_of state service) all gs (rotation-keys service block drawn)));
    }

module _ (run : WholeRun) (whole : List Logged) (n : NodeName) (line : ℕ) (J : List Entry) where
  -- each of these generations' keys is drawn
  draws-each : (service : EntityType) (us : Uses) (log : List Logged) (gs : List Generation) → Inv run whole us log J
      → AreGranted run.leaked whole n line log (drawn (keys_of gs)) → Reached run whole n line us log J (drawn (keys_of gs)) (λ vs. AreGenerated vs service gs)
  draws-each service us log [] i g = record { uses = us; grows = stays us; inv = i; facts = tt }
  draws-each service us log (x ∷ xs) i g =
      let mark = draw.Rotation x.key in
      let u : Use = Generated service x.id in
      let first : Inv run whole (with_key us x.key u) (logged n line (entry.Drawn mark) ∷ log) J = inv-drawn run whole us log J n line mark x.key u i refl refl tt (λ name e. absurd cc) g.0 in
      let rest = draws-each service (with_key us x.key u) (logged n line (entry.Drawn mark) ∷ log) xs first g.1 in
      record {
        uses = rest.uses;
        grows = grows-then us (with_key us x.key u) rest.uses (grows-one us x.key u) rest.grows;
        inv = rest.inv;
        facts = (rest.grows.means x.key u (inl (refl, refl)), rest.facts);
      }

  -- a rotation of one service
  rotates_one : (now : ℕ) (block : List ℕ) (state : KeptState) (service : EntityType) (us : Uses) (log : List Logged) → Inv run whole us log J
      → AreGenerated us service (generations_of state service) → AreGranted run.leaked whole n line log (drawn_for now block state service)
      → Reached run whole n line us log J (drawn_for now block state service) (λ vs. AreGenerated vs service (rotated_of now block state service))
  rotates_one now block state service us log i old g =
      let life : ℕ = life_of state service in
      let all : List (List ℕ) = rotation_of service block in
      let gs : List Generation = generations_of state service in
      let keys : List (List ℕ) = take (additions now life all gs) all in
      let new : List Generation = added now life keys gs in
      let same : keys_of new ≡ keys = added-keys now life keys gs in
      let granted : AreGranted run.leaked whole n line log (drawn (keys_of new)) = subst (λ (ks : List (List ℕ)). AreGranted run.leaked whole n line log (drawn ks)) (sym same) g in
      let r = draws-each service us log new i granted in
      let inv : Inv run whole r.uses (behind n line (drawn keys) log) J = subst (λ (ks : List (List ℕ)). Inv run whole r.uses (behind n line (drawn ks) log) J) same r.inv in
      let both : AreGenerated r.uses service (gs ++ new) =
      all-append (λ (g : Generation). Means r.uses g.key (Generated service g.id)) gs new (generated-grow us r.uses service gs r.grows old) r.facts in
      record {
        uses = r.uses;
        grows = r.grows;
        inv = inv;
        facts = all-drop (λ (g : Generation). Means r.uses g.key (Generated service g.id)) (length (gs ++ new) - 3) (gs ++ new) both;
      }

  -- a rotation of some services
  rotates_list : (now : ℕ) (block : List ℕ) (state : KeptState) (services : List EntityType) (us : Uses) (log : List Logged) → Inv run whole us log J
      → ((s : EntityType) → AreGenerated us s (generations_of state s)) → AreGranted run.leaked whole n line log (flat_map (drawn_for now block state) services)
      → Reached run whole n line us log J (flat_map (drawn_for now block state) services)
      (λ vs. AllByRecursion (λ (s : EntityType). AreGenerated vs s (rotated_of now block state s)) services)
  rotates_list now block state [] us log i old g = record { uses = us; grows = stays us; inv = i; facts = tt }
  rotates_list now block state (s ∷ services) us log i old g =
      let here : List SealEntry = drawn_for now block state s in
      let later : List SealEntry = flat_map (drawn_for now block state) services in
      let first = rotates_one now block state s us log i (old s) (granted-first run.leaked whole n line log here later g) in
      let rest = rotates_list now block state services first.uses (behind n line here log) first.inv
      (λ t. generated-grow us first.uses t (generations_of state t) first.grows (old t)) (granted-rest run.leaked whole n line log here later g) in
      reached-then run whole n line us log J here later (λ vs. AreGenerated vs s (rotated_of now block state s)) (λ vs. AllByRecursion (λ (s : EntityType). AreGenerated vs s (rotated_of now block state s)) (s ∷ services)) first (record {
        uses = rest.uses;
        grows = rest.grows;
        inv = rest.inv;
        facts = (generated-grow first.uses rest.uses s (rotated_of now block state s) rest.grows first.facts, rest.facts);
      })

  -- a rotation of all four
  pub rotates_all : (now : ℕ) (block : List ℕ) (state : KeptState) (us : Uses) (log : List Logged) → length block ≡ 384 → Inv run whole us log J → StateOk us state
      → AreGranted run.leaked whole n line log (rotation_drawn now block state)
      → Reached run whole n line us log J (rotation_drawn now block state) (λ vs. StateOk vs (rotated_state now block state))
  rotates_all now block state us log drawn i ok g =
      let r = rotates_list now block state (Mds ∷ Osd ∷ Mgr ∷ Auth ∷ []) us log i ok.generated g in
      record { uses = r.uses; grows = r.grows; inv = r.inv; facts = record { generated = by_service r.uses r.facts; writable = writable; numbered = ok.numbered } }
    where
      writable : (service : EntityType) → AreWritable (generations_of (rotated_state now block state) service)
      writable Mds = rotated-writable now block state Mds drawn (ok.writable Mds)
      writable Osd = rotated-writable now block state Osd drawn (ok.writable Osd)
      writable Mgr = rotated-writable now block state Mgr drawn (ok.writable Mgr)
      writable Auth = rotated-writable now block state Auth drawn (ok.writable Auth)
      writable Mon = none-writable
      writable Client = none-writable

      by_service : (vs : Uses) → AllByRecursion (λ (s : EntityType). AreGenerated vs s (rotated_of now block state s)) (Mds ∷ Osd ∷ Mgr ∷ Auth ∷ [])
          → (service : EntityType) → AreGenerated vs service (generations_of (rotated_state now block state) service)
      by_service vs h Mds = h.0
      by_service vs h Osd = h.1.0
      by_service vs h Mgr = h.1.1.0
      by_service vs h Auth = h.1.1.1.0
      by_service vs h Mon = tt
      by_service vs h Client = tt
