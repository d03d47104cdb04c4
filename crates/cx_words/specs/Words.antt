-- The words of a line, by what stands at a place: numbers, readings, names, services, caps, accesses, parts of an object's
-- address and bytes in hex. Each kind has a function that reads the word; what the word is spelled like stands beside it.
use Rattle.std.specs.Prelude.{ℕ, ◌+◌, ◌-◌, ◌*◌, ◌/◌, ◌%◌, ◌^◌, ◌<◌, ◌==◌, ◌≡◌, ◌⊎◌, Bool, true, false, not, ◌&&◌, ◌||◌, nat_le, nat_lt, if◌then◌else◌, List, [], ◌∷◌, length, take, drop, map, slice_index, codes, decimal, find, Option, Some, None, option_and_then, Result, Ok, Err, IsTrue}
use Rattle.std.specs.List.{list_all, list_any, position_from, join_with_byte}
use Rattle.std.specs.Str.{bytes_eq}
use Rattle.std.specs.Str.Parse.{digits_value}
use Rattle.hex.specs.Hex.{decode_of, encode_lower, hex_digit_value}
use Rattle.hex.specs.declared.error.FromHexError.{FromHexError}
use Rattle.cx_base.specs.Joined.{◌<>◌}
use Rattle.cx_base.specs.Names.{Name, with_id, is_daemon_type, type_word, access_word, same_kind}
use Rattle.cx_base.specs.Texts.{is_caps, is_long_part}
use Rattle.cx_base.specs.declared.kinds.EntityType.{EntityType}
use Rattle.cx_base.specs.declared.kinds.EntityType.TheVariants.{Mon, Mds, Osd, Client, Mgr, Auth}
use Rattle.cx_base.specs.declared.kinds.Access.{Access}
use Rattle.cx_base.specs.declared.kinds.Access.TheVariants.{Read, Write, Exec}
use Rattle.cx_words.specs.Cutting.{onto_first}

-- ---- numbers

-- a decimal digit
abbrev pub is_digit : ℕ → Bool
is_digit b = nat_le 48 b && nat_le b 57

-- one decimal digit or more, the first of several no '0' (48)
abbrev pub is_plain : List ℕ → Bool
is_plain word = list_all is_digit word && nat_le 1 (length word) && (nat_le (length word) 1 || not (slice_index word 0 == 48))

-- the number, where it is below the bound
abbrev pub below : ℕ → ℕ → Option ℕ
below bound n = if nat_lt n bound then Some n else None

-- a number: decimal digits without a leading zero, or 0, below 2 ^ 64
unfoldable pub number_of : List ℕ → Option ℕ
number_of word = if is_plain word then below (2 ^ 64) (digits_value 10 word) else None

-- ---- readings

-- a point (46)
abbrev pub is_point : ℕ → Bool
is_point b = b == 46

-- nine decimal digits
abbrev pub is_nine : List ℕ → Bool
is_nine word = (length word == 9) && list_all is_digit word

-- the nanoseconds of whole seconds below 4,000,000,000
abbrev pub whole_seconds : ℕ → Option ℕ
whole_seconds seconds = if nat_lt seconds 4000000000 then Some (seconds * 1000000000) else None

-- a reading with a point: seconds below 4,000,000,000, and nine digits behind the point
abbrev pub with_nine : List ℕ → Option ℕ → Option ℕ
with_nine nine None = None
with_nine nine (Some seconds) =
    if nat_lt seconds 4000000000 && is_nine nine then Some (seconds * 1000000000 + digits_value 10 nine) else None

-- a reading whose first point stands at this place
abbrev pub reading_at : List ℕ → Option ℕ → Option ℕ
reading_at word None = option_and_then whole_seconds (number_of word)
reading_at word (Some place) = with_nine (drop (place + 1) word) (number_of (take place word))

-- a reading, in nanoseconds: seconds alone, or seconds, a point and nine digits; below 4,000,000,000 s
unfoldable pub reading_of : List ℕ → Option ℕ
reading_of word = reading_at word (position_from is_point 0 word)

-- the word spells the reading, with a point or without
abbrev pub IsWholeWord : List ℕ → ℕ → Type 0
IsWholeWord word reading =
    (seconds : ℕ) × (seconds < 4000000000) × (word ≡ decimal seconds) × (reading ≡ seconds * 1000000000)

abbrev pub IsPointedWord : List ℕ → ℕ → Type 0
IsPointedWord word reading =
    (seconds : ℕ) × (nine : List ℕ) × (seconds < 4000000000) × IsTrue (is_nine nine)
    × (word ≡ decimal seconds <> codes "." <> nine) × (reading ≡ seconds * 1000000000 + digits_value 10 nine)

abbrev pub IsReadingWord : List ℕ → ℕ → Type 0
IsReadingWord word reading = IsWholeWord word reading ⊎ IsPointedWord word reading

-- ---- types, services and accesses

-- whether the word is this type's
abbrev pub is_type_word : List ℕ → EntityType → Bool
is_type_word word kind = bytes_eq word (type_word kind)

-- an entity type by its word
unfoldable pub type_of : List ℕ → Option EntityType
type_of word = find (is_type_word word) (Mon ∷ Mds ∷ Osd ∷ Client ∷ Mgr ∷ Auth ∷ [])

-- the type, where it passes the test
abbrev pub kept : (EntityType → Bool) → Option EntityType → Option EntityType
kept test None = None
kept test (Some kind) = if test kind then Some kind else None

-- a type for which an entity may have caps: mon, mds, osd or mgr
abbrev pub is_service : EntityType → Bool
is_service Mon = true
is_service Mds = true
is_service Osd = true
is_service Client = false
is_service Mgr = true
is_service Auth = false

unfoldable pub service_of : List ℕ → Option EntityType
service_of word = kept is_service (type_of word)

-- the service of a word for which a client may ask tickets: a type of daemons
unfoldable pub ticket_service_of : List ℕ → Option EntityType
ticket_service_of word = kept is_daemon_type (type_of word)

-- whether the word is this access's
abbrev pub is_access_word : List ℕ → Access → Bool
is_access_word word access = bytes_eq word (access_word access)

-- what an operation asks to do: read, write or exec
unfoldable pub access_of : List ℕ → Option Access
access_of word = find (is_access_word word) (Read ∷ Write ∷ Exec ∷ [])

-- ---- names

-- a name whose first point stands at this place
abbrev pub name_at : List ℕ → Option ℕ → Option Name
name_at word None = None
name_at word (Some place) = with_id (drop (place + 1) word) (type_of (take place word))

-- an entity's name: a type word, a point and an id of that type
unfoldable pub name_of : List ℕ → Option Name
name_of word = name_at word (position_from is_point 0 word)

-- ---- lists of services

-- a comma (44)
abbrev pub is_comma : ℕ → Bool
is_comma b = b == 44

-- the pieces between commas, of which there is always one
unfoldable pub pieces_of : List ℕ → List (List ℕ)
pieces_of [] = [] ∷ []
pieces_of (b ∷ bs) = if is_comma b then [] ∷ pieces_of bs else onto_first b (pieces_of bs)

-- an item in front of a list, where both are there
abbrev pub in_front : Option EntityType → Option (List EntityType) → Option (List EntityType)
in_front None kinds = None
in_front (Some kind) None = None
in_front (Some kind) (Some kinds) = Some (kind ∷ kinds)

-- the services that these words name, where each names one
unfoldable pub all_services : List (List ℕ) → Option (List EntityType)
all_services [] = Some []
all_services (word ∷ words) = in_front (ticket_service_of word) (all_services words)

-- whether one type stands twice in the list
abbrev pub repeats : List EntityType → Bool
repeats [] = false
repeats (kind ∷ kinds) = list_any (same_kind kind) kinds || repeats kinds

-- the list, where no type stands twice
abbrev pub without_repeats : List EntityType → Option (List EntityType)
without_repeats kinds = if repeats kinds then None else Some kinds

-- services joined by commas, each at most once, in the order written
unfoldable pub services_of : List ℕ → Option (List EntityType)
services_of word = option_and_then without_repeats (all_services (pieces_of word))

-- one service or more of which a client may ask tickets, each once
abbrev pub is_service_list : List EntityType → Bool
is_service_list kinds = nat_le 1 (length kinds) && list_all is_daemon_type kinds && not (repeats kinds)

-- the word of such a list
abbrev pub services_word : List EntityType → List ℕ
services_word kinds = join_with_byte 44 (map type_word kinds)

-- ---- caps

-- the word of a capability text: it stands in quotation marks
abbrev pub quoted : List ℕ → List ℕ
quoted text = codes "\"" <> text <> codes "\""

-- whether the word begins and ends with a quotation mark, two different ones
abbrev pub is_in_marks : List ℕ → Bool
is_in_marks word = nat_le 2 (length word) && (slice_index word 0 == 34) && (slice_index word (length word - 1) == 34)

-- what stands between the first and the last byte
abbrev pub inside : List ℕ → List ℕ
inside word = take (length word - 1 - 1) (drop 1 word)

-- a capability text in quotation marks
unfoldable pub caps_of : List ℕ → Option (List ℕ)
caps_of word = if is_in_marks word && is_caps (inside word) then Some (inside word) else None

-- ---- pools, namespaces and objects

-- its word: '-' where it is empty
abbrev pub part_word : List ℕ → List ℕ
part_word [] = codes "-"
part_word (b ∷ bs) = b ∷ bs

unfoldable pub part_of : List ℕ → Option (List ℕ)
part_of word = if bytes_eq word (codes "-") then Some [] else if is_long_part word then Some word else None

-- ---- bytes in hex

-- what was decoded, if it is one byte or more
abbrev pub some_bytes : Result (List ℕ) FromHexError → Option (List ℕ)
some_bytes (Ok []) = None
some_bytes (Ok (b ∷ bs)) = Some (b ∷ bs)
some_bytes (Err e) = None

-- bytes in hex: '-' is none, else an even number, at least two, of hex digits in either case
unfoldable pub hex_of : List ℕ → Option (List ℕ)
hex_of word = if bytes_eq word (codes "-") then Some [] else some_bytes (decode_of word)

-- two hex digits for each byte, the high one first, in either case
abbrev pub IsHexText : List ℕ → List ℕ → Type 0
IsHexText [] [] = Unit {0}
IsHexText (high ∷ low ∷ digits) (b ∷ bytes) =
    (hex_digit_value high ≡ Some (b / 16)) × (hex_digit_value low ≡ Some (b % 16)) × IsHexText digits bytes
IsHexText _ _ = ⊥

-- the word spells the bytes
abbrev pub IsHexWord : List ℕ → List ℕ → Type 0
IsHexWord word [] = word ≡ codes "-"
IsHexWord word (b ∷ bytes) = IsHexText word (b ∷ bytes)

-- the word as a journal prints it, in lower case
abbrev pub hex_word : List ℕ → List ℕ
hex_word [] = codes "-"
hex_word (b ∷ bytes) = encode_lower (b ∷ bytes)
