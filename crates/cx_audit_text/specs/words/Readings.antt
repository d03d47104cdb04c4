-- Words of a journal that have one printed form: readings, ids, cookies, the numbers of tickets, data.
use Rattle.std.specs.Prelude.{ℕ, Bool, ◌+◌, ◌*◌, ◌==◌, ◌&&◌, nat_lt, nat_le, List, [], ◌∷◌, ◌++◌, length, take, drop, replicate, codes, Option, Some, None, option_and_then, if◌then◌else◌}
use Rattle.std.specs.List.{position_from}
use Rattle.std.specs.Option.{option_map}
use Rattle.std.specs.Str.{bytes_eq}
use Rattle.cx_base.specs.declared.nodes.NodeName.{NodeName}
use Rattle.cx_base.specs.declared.nodes.NodeName.TheVariants as node
use Rattle.cx_words.specs.Words.{hex_of, is_comma, is_point, name_of, number_of, reading_of}
use Rattle.cx_rotate.specs.declared.generations.Generation.{Generation}
use Rattle.cx_journal.specs.Words.{data_text, ids_text, reading_text}

-- the value, where the word is its printed form
abbrev pub printed : {X : Type 0} → (X → List ℕ) → List ℕ → Option X → Option X
printed text_of word None = None
printed text_of word (Some x) = if bytes_eq word (text_of x) then Some x else None

-- the value, where it passes the test
abbrev pub only : {X : Type 0} → (X → Bool) → Option X → Option X
only test None = None
only test (Some x) = if test x then Some x else None

-- a number below 2 ^ 32, and one below 256
unfoldable pub short_of : List ℕ → Option ℕ
short_of word = only (λ n. nat_lt n 4294967296) (number_of word)

unfoldable pub byte_of : List ℕ → Option ℕ
byte_of word = only (λ n. nat_lt n 256) (number_of word)

-- the nanoseconds of whole seconds, below 18,446,744,073 s
abbrev pub whole_instant : ℕ → Option ℕ
whole_instant seconds = if nat_lt seconds 18446744073 then Some (seconds * 1000000000) else None

-- the same with a part of a second
abbrev pub with_part : ℕ → ℕ → Option ℕ
with_part seconds part =
    if nat_lt seconds 18446744073 && nat_lt part 1000000000 then Some (seconds * 1000000000 + part) else None

-- the same where the digits of the part stand behind a point
abbrev pub with_digits : List ℕ → Option ℕ → Option ℕ
with_digits digits None = None
with_digits digits (Some seconds) = option_and_then (with_part seconds) (reading_of (codes "0." ++ digits))

-- the same where the first point stands at this place
abbrev pub instant_at : List ℕ → Option ℕ → Option ℕ
instant_at word None = option_and_then whole_instant (number_of word)
instant_at word (Some place) = with_digits (drop 1 (drop place word)) (number_of (take place word))

-- an instant in its printed form: seconds alone, or seconds, a point and nine digits; below 18,446,744,073 s, since a ticket may
-- expire behind the last reading of a clock
unfoldable pub printed_reading_of : List ℕ → Option ℕ
printed_reading_of word = printed reading_text word (instant_at word (position_from is_point 0 word))

-- the reading at which a view was asked for; none of it where no fetch was
unfoldable pub asked_of : List ℕ → Option (Option ℕ)
asked_of word = if bytes_eq word (codes "-") then Some None else option_map Some (printed_reading_of word)

-- the node that a word names
unfoldable pub node_of : List ℕ → Option NodeName
node_of word = if bytes_eq word (codes "mon") then Some node.Monitor else option_map node.Entity (name_of word)

-- a generation of which the id alone is told
abbrev pub told_by_id : ℕ → Generation
told_by_id id = record { id = id; key = replicate 16 0; expires = 0 }

-- three generations whose ids rise by one, from this one on
abbrev pub three_from : ℕ → List Generation
three_from id = told_by_id id ∷ told_by_id (id + 1) ∷ told_by_id (id + 2) ∷ []

-- the three from this id on, where the word is their printed form
abbrev pub three_of : List ℕ → Option ℕ → Option (List Generation)
three_of word first = printed ids_text word (option_map three_from (only (λ id. nat_lt id 18446744073709551614) first))

-- the same, where the first comma stands at this place
abbrev pub ids_at : List ℕ → Option ℕ → Option (List Generation)
ids_at word None = None
ids_at word (Some place) = three_of word (number_of (take place word))

-- the ids of generations: none, or three that rise by one
unfoldable pub ids_of : List ℕ → Option (List Generation)
ids_of word = if bytes_eq word (codes "-") then Some [] else ids_at word (position_from is_comma 0 word)

-- what stands behind this front of a word
abbrev pub behind : List ℕ → List ℕ → Option (List ℕ)
behind front word =
    if nat_le (length front) (length word) && bytes_eq (take (length front) word) front then Some (drop (length front) word) else None

-- the rank of a cookie
unfoldable pub cookie_of : List ℕ → Option ℕ
cookie_of word = option_and_then number_of (behind (codes "c") word)

-- the number of a ticket that was refused
unfoldable pub ticket_of : List ℕ → Option ℕ
ticket_of word = option_and_then number_of (behind (codes "ticket=") word)

-- bytes in hex, in their printed form
unfoldable pub data_of : List ℕ → Option (List ℕ)
data_of word = printed data_text word (hex_of word)
