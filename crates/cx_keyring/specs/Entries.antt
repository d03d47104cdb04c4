-- What the lines of a keyring mean, and which entries a keyring may have.
use Rattle.std.specs.Prelude.{◌≡◌, Bool, true, false, not, ◌&&◌, List, [], ◌∷◌, ◌++◌, Some, is_some, IsTrue}
use Rattle.std.specs.List.{flat_map, list_all, list_any}
use Rattle.cx_base.specs.Names.{Name, same_kind, same_name}
use Rattle.cx_base.specs.declared.kinds.EntityType.{EntityType}
use Rattle.cx_enc.specs.declared.keys.Key.{Key}
use Rattle.cx_base.specs.Texts.{is_caps}
use Rattle.cx_words.specs.Words.{is_service}
use Rattle.cx_keyring.specs.declared.entries.Entry.{Entry}
use Rattle.cx_base.specs.declared.grants.Grant.{Grant}
use Rattle.cx_keyring.specs.declared.lines.Line.{Line}
use Rattle.cx_keyring.specs.declared.lines.Line.TheVariants as lines
use Rattle.cx_keyring.specs.Faults.{section_lines}

-- ---- entries

-- caps that an entry may have: for a service, and a capability text
abbrev pub is_grant : Grant → Bool
is_grant grant = is_service grant.service && is_caps grant.caps

abbrev pub has_service : EntityType → List Grant → Bool
has_service service grants = list_any (λ grant. same_kind service grant.service) grants

-- no service stands already before it
abbrev pub differ : List Grant → List Grant → Bool
differ earlier [] = true
differ earlier (grant ∷ grants) = not (has_service grant.service earlier) && differ (earlier ++ grant ∷ []) grants

-- caps that one entry may have
abbrev pub are_grants : List Grant → Bool
are_grants grants = list_all is_grant grants && differ [] grants

abbrev pub is_named : Name → Entry → Bool
is_named name entry = same_name name entry.name

-- no name stands already before it
abbrev pub are_apart : List Entry → List Entry → Bool
are_apart earlier [] = true
are_apart earlier (entry ∷ entries) =
    not (list_any (is_named entry.name) earlier) && are_apart (earlier ++ entry ∷ []) entries

-- entries of different names, each with caps that one may have
abbrev pub is_ring : List Entry → Bool
is_ring entries = list_all (λ entry. are_grants entry.caps) entries && are_apart [] entries

-- ---- what lines mean

-- the key that a line gives
abbrev pub key_by : Line → List Key
key_by (lines.Key (Some key)) = key ∷ []
key_by _ = []

-- the caps that a line gives
abbrev pub granted_by : Line → List Grant
granted_by (lines.Caps (Some service) (Some text)) = record { service = service; caps = text } ∷ []
granted_by _ = []

-- it says nothing
abbrev pub is_skipped_line : Line → Bool
is_skipped_line lines.Skipped = true
is_skipped_line _ = false

-- it has one of the forms, and all of its parts can be read
abbrev pub is_whole : Line → Bool
is_whole lines.Skipped = true
is_whole (lines.Section name) = is_some name
is_whole (lines.Key key) = is_some key
is_whole (lines.Caps service text) = is_some service && is_some text
is_whole lines.Other = false

-- the lines give these entries: one for each section, in their order, of its name, with the one key and the caps that the
-- lines up to the next section give
abbrev pub Gives : List Line → List Entry → Type 0
Gives [] ring = ring ≡ []
Gives (lines.Section (Some name) ∷ after) [] = ⊥
Gives (lines.Section (Some name) ∷ after) (entry ∷ entries) =
    (entry.name ≡ name) × (flat_map key_by (section_lines after) ≡ entry.key ∷ [])
    × (flat_map granted_by (section_lines after) ≡ entry.caps) × Gives after entries
Gives (_ ∷ after) ring = Gives after ring

-- the lines are a keyring of these entries: each line can be read, none but skipped ones stand before the first section, and
-- they give the entries, which are those of a keyring
pub record IsKeyring (all : List Line) (ring : List Entry) : Type 0 where
  pub whole : IsTrue (list_all is_whole all)
  pub begins : IsTrue (list_all is_skipped_line (section_lines all))
  pub gives : Gives all ring
  pub good : IsTrue (is_ring ring)
