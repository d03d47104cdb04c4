-- Behind a rotation three generations stand, each with a key of 16 bytes.
use Rattle.std.proofs.Common.{◌≡◌, ℕ, zero, suc, ◌+◌, ◌-◌, ◌<◌, ◌≤◌, false, List, [], ◌∷◌, ◌++◌, length, drop, take, refl, arith}
use Rattle.std.specs.Prelude.{max}
use Rattle.std.specs.List.{AllByRecursion}
use Rattle.std.proofs.lemmas.List.{length-drop, length-take}
use Rattle.cx_base.specs.declared.kinds.EntityType.{EntityType}
use Rattle.cx_base.specs.declared.kinds.EntityType.TheVariants.{Mon, Mds, Osd, Client, Mgr, Auth}
use Rattle.cx_keyserver.specs.cx_dice.specs.Draws.{rotation_of, three_keys}
use Rattle.cx_keyserver.specs.Servers.{Server, life_of}
use Rattle.cx_rotate.proofs.Results.{stands_current}
use Rattle.cx_rotate.specs.Held.{IsRising}
use Rattle.cx_rotate.specs.Rotation.{added, additions, followers, is_full, openers, rotated}
use Rattle.cx_rotate.specs.declared.generations.Generation.{Generation}
use Rattle.cx_rules.specs.Answering.{AreKeyed, AreThree, RotatesToCurrent, RotatesToThree}

-- ---- lists

all-take : {X : Type 0} (P : X → Type 0) (n : ℕ) (xs : List X) → AllByRecursion P xs → AllByRecursion P (take n xs)
all-take P zero xs h = tt
all-take P (suc n) [] h = tt
all-take P (suc n) (x ∷ xs) h = (h.0, all-take P n xs h.1)

all-drop : {X : Type 0} (P : X → Type 0) (n : ℕ) (xs : List X) → AllByRecursion P xs → AllByRecursion P (drop n xs)
all-drop P zero xs h = h
all-drop P (suc n) [] h = tt
all-drop P (suc n) (x ∷ xs) h = all-drop P n xs h.1

all-append : {X : Type 0} (P : X → Type 0) (xs ys : List X) → AllByRecursion P xs → AllByRecursion P ys → AllByRecursion P (xs ++ ys)
all-append P [] ys a b = b
all-append P (x ∷ xs) ys a b = (a.0, all-append P xs ys a.1 b)

-- ---- keys of 16 bytes

abbrev AreKeys : List (List ℕ) → Type 0
AreKeys keys = AllByRecursion (λ (key : List ℕ). length key ≡ 16) keys

followers-keyed : (now life : ℕ) (newest : Generation) (keys : List (List ℕ)) → AreKeys keys → AreKeyed (followers now life newest keys)
followers-keyed now life newest [] h = tt
followers-keyed now life newest (key ∷ keys) h =
    let next : Generation = record { id = newest.id + 1; key = key; expires = max (now + life) newest.expires + life } in
    (h.0, followers-keyed now life next keys h.1)

openers-keyed : (now life place : ℕ) (keys : List (List ℕ)) → AreKeys keys → AreKeyed (openers now life place keys)
openers-keyed now life place [] h = tt
openers-keyed now life place (key ∷ keys) h = (h.0, openers-keyed now life (place + 1) keys h.1)

added-keyed : (now life : ℕ) (keys : List (List ℕ)) (old : List Generation) → AreKeys keys → AreKeyed (added now life keys old)
added-keyed now life keys [] h = openers-keyed now life 0 keys h
added-keyed now life keys (newest ∷ []) h = followers-keyed now life newest keys h
added-keyed now life keys (_ ∷ g ∷ gs) h = added-keyed now life keys (g ∷ gs) h

rotated-keyed : (now life : ℕ) (keys : List (List ℕ)) (old : List Generation) → AreKeys keys → AreKeyed old → AreKeyed (rotated now life keys old)
rotated-keyed now life keys old new before =
    let some : List (List ℕ) = take (additions now life keys old) keys in
    let all : List Generation = old ++ added now life some old in
    all-drop (λ (g : Generation). length g.key ≡ 16) (length all - 3) all
    (all-append (λ (g : Generation). length g.key ≡ 16) old (added now life some old) before (added-keyed now life some old (all-take (λ (key : List ℕ). length key ≡ 16) (additions now life keys old) keys new)))

-- ---- a rotation

keys-drawn : (place : ℕ) (draw : List ℕ) → length draw ≡ 384 → place + 48 ≤ 384 → AreKeys (three_keys place draw)
keys-drawn place draw len fits = (
  omega (arith, length-take 16 (drop place draw), length-drop place draw),
  (
    omega (arith, length-take 16 (drop (place + 16) draw), length-drop (place + 16) draw),
    (omega (arith, length-take 16 (drop (place + 32) draw), length-drop (place + 32) draw), tt),
  ),
)

three-stand : (now life : ℕ) (keys : List (List ℕ)) (old : List Generation) → length keys ≡ 3 → AreKeys keys → IsRising old → 0 < life → is_full old ≡ false → AreKeyed old
    → AreThree (rotated now life keys old)
three-stand now life keys old three new rising some room before = ((stands_current old now life keys rising some three room).1, rotated-keyed now life keys old new before)

-- behind a rotation the secrets of a service are current
pub rotated-current : (reading : ℕ) (draw : List ℕ) (server : Server) (service : EntityType) → RotatesToCurrent reading draw server service
rotated-current reading draw server Mds keys rising life room = (stands_current server.state.mds reading (life_of server.state Mds) (rotation_of Mds draw) rising life refl room).2
rotated-current reading draw server Osd keys rising life room = (stands_current server.state.osd reading (life_of server.state Osd) (rotation_of Osd draw) rising life refl room).2
rotated-current reading draw server Mgr keys rising life room = (stands_current server.state.mgr reading (life_of server.state Mgr) (rotation_of Mgr draw) rising life refl room).2
rotated-current reading draw server Auth keys rising life room = (stands_current server.state.auth reading (life_of server.state Auth) (rotation_of Auth draw) rising life refl room).2
rotated-current reading draw server Mon keys rising life room = absurd cc
rotated-current reading draw server Client keys rising life room = absurd cc

-- and three of them stand, with keys of 16 bytes
pub rotated-three : (reading : ℕ) (draw : List ℕ) (server : Server) (service : EntityType) → RotatesToThree reading draw server service
rotated-three reading draw server Mds keys rising life room len before =
    three-stand reading (life_of server.state Mds) (rotation_of Mds draw) server.state.mds refl (keys-drawn 144 draw len (omega arith)) rising life room before
rotated-three reading draw server Osd keys rising life room len before =
    three-stand reading (life_of server.state Osd) (rotation_of Osd draw) server.state.osd refl (keys-drawn 192 draw len (omega arith)) rising life room before
rotated-three reading draw server Mgr keys rising life room len before =
    three-stand reading (life_of server.state Mgr) (rotation_of Mgr draw) server.state.mgr refl (keys-drawn 240 draw len (omega arith)) rising life room before
rotated-three reading draw server Auth keys rising life room len before =
    three-stand reading (life_of server.state Auth) (rotation_of Auth draw) server.state.auth refl (keys-drawn 288 draw len (omega arith)) rising life room before
rotated-three reading draw server Mon keys rising life room len before = absurd cc
rotated-three reading draw server Client keys rising life room len before = absurd cc
