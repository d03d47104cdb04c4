-- What a draw is used for (docs/formats.md, "Draws"): each use has a place of its own among the 384 bytes.
use Rattle.std.specs.Prelude.{ℕ, ◌+◌, ◌%◌, Bool, true, false, List, [], ◌∷◌, ◌++◌, length, take, drop, slice_index}
use Rattle.std.specs.Int.{w64, from_le_bytes}
use Rattle.cx_base.specs.Joined.{◌<>◌}
use Rattle.cx_base.specs.declared.kinds.EntityType.{EntityType}
use Rattle.cx_base.specs.declared.kinds.EntityType.TheVariants.{Mon, Mds, Osd, Client, Mgr, Auth}

-- a draw as contracts see it: its bytes
pub record Drawing : Type 0 where
  pub bytes : List ℕ

-- so many bytes from a place on
abbrev pub part : ℕ → ℕ → List ℕ → List ℕ
part place count bytes = take count (drop place bytes)

-- bytes with these at a place of theirs
abbrev pub put_in : ℕ → List ℕ → List ℕ → List ℕ
put_in place piece bytes = take place bytes ++ (piece ++ drop (place + length piece) bytes)

-- 0 to 7: a challenge, or a nonce of an authorizer
abbrev pub challenge_of : List ℕ → ℕ
challenge_of draw = from_le_bytes w64 (part 0 8 draw)

-- 8 to 15: a cookie
abbrev pub cookie_of : List ℕ → ℕ
cookie_of draw = from_le_bytes w64 (part 8 8 draw)

-- a counter of eight bytes that begins at 0
abbrev pub counter_0 : List ℕ
counter_0 = 0 ∷ 0 ∷ 0 ∷ 0 ∷ 0 ∷ 0 ∷ 0 ∷ 0 ∷ []

-- four bytes from a place on, with which a nonce begins: the highest bit is cleared, and then this is added to the first one
abbrev pub nonce_start : ℕ → ℕ → List ℕ → List ℕ
nonce_start high place draw = (slice_index draw place % 128 + high) ∷ part (place + 1) 3 draw

-- 16 to 79: a connection secret, which is a key of 16 bytes, the nonce with which the acceptor begins, the nonce with which
-- the connector begins, and 24 bytes that are not used. The highest bit of the first nonce is 0, and that of the second 1
abbrev pub connection_of : List ℕ → List ℕ
connection_of draw =
    part 16 16 draw
    <> nonce_start 0 32 draw <> counter_0
    <> nonce_start 128 44 draw <> counter_0
    <> part 56 24 draw

-- 80 to 143: the session keys for AUTH, MDS, OSD and MGR
abbrev pub session_of : EntityType → List ℕ → List ℕ
session_of Auth draw = part 80 16 draw
session_of Mds draw = part 96 16 draw
session_of Osd draw = part 112 16 draw
session_of Mgr draw = part 128 16 draw
session_of Mon draw = []
session_of Client draw = []

-- three keys of 16 bytes
abbrev pub three_keys : ℕ → List ℕ → List (List ℕ)
three_keys place draw = part place 16 draw ∷ part (place + 16) 16 draw ∷ part (place + 32) 16 draw ∷ []

-- 144 to 335: three keys each for the generations of MDS, OSD, MGR and AUTH
abbrev pub rotation_of : EntityType → List ℕ → List (List ℕ)
rotation_of Mds draw = three_keys 144 draw
rotation_of Osd draw = three_keys 192 draw
rotation_of Mgr draw = three_keys 240 draw
rotation_of Auth draw = three_keys 288 draw
rotation_of Mon draw = []
rotation_of Client draw = []

-- the services that a draw has keys for: those of the daemons, and the monitor's own
abbrev pub has_keys : EntityType → Bool
has_keys Mds = true
has_keys Osd = true
has_keys Mgr = true
has_keys Auth = true
has_keys Mon = false
has_keys Client = false
