-- What a clause of caps grants, or why it grants nothing; and what is said of the caps of entities.
use Rattle.std.specs.Prelude.{ℕ, ◌-◌, ◌==◌, Bool, true, false, not, List, [], ◌∷◌, ◌++◌, length, take, drop, codes, Option, Some, None, if◌then◌else◌}
use Rattle.std.specs.List.{flat_map, take_while}
use Rattle.std.specs.Str.{bytes_eq}
use Rattle.cx_base.specs.Joined.{◌<>◌}
use Rattle.cx_base.specs.Names.{Name, name_text, type_word}
use Rattle.cx_base.specs.Texts.{is_caps_byte}
use Rattle.cx_base.specs.declared.kinds.Access.TheVariants.{Read, Write, Exec}
use Rattle.cx_base.specs.declared.kinds.EntityType.{EntityType}
use Rattle.cx_base.specs.declared.grants.Grant.{Grant}
use Rattle.cx_caps.specs.Reading.{cap_allows}
use Rattle.cx_help.specs.line.Remarks.{starts}
use Rattle.cx_help.specs.line.Words.{word_text}
use Rattle.cx_words.specs.lines.Sights.{shown_of}
use Rattle.cx_words.specs.Words.{name_of, service_of}
use Rattle.cx_help.specs.keyring.Grants.{ask_for, clause_at, clause_grants, first_word, part_in, word_behind}
use Rattle.cx_help.specs.keyring.Settings.{behind_blanks, behind_word, opens_section, service_word, value_of}

-- ---- why a clause grants nothing

-- what stands behind the first word of a text
abbrev pub rest_of : List ℕ → List ℕ
rest_of text = behind_word (behind_blanks text)

-- the same of a condition, which has a second word where the first is object_prefix
unfoldable pub next_rest : List ℕ → List ℕ
next_rest rest = if bytes_eq (first_word rest) (codes "object_prefix") then rest_of (rest_of rest) else rest_of rest

-- a clause up to its end that begins here grants something
unfoldable pub grants_up_to : List ℕ → List ℕ → Bool
grants_up_to clause rest = clause_grants (take (length clause - length rest) clause)

-- the first word with which it grants nothing: its conditions stand in `rest`, of which at most three are good
unfoldable pub third_word : List ℕ → List ℕ → List ℕ
third_word clause rest = if grants_up_to clause (next_rest rest) then first_word (next_rest rest) else first_word rest

unfoldable pub second_word : List ℕ → List ℕ → List ℕ
second_word clause rest = if grants_up_to clause (next_rest rest) then third_word clause (next_rest rest) else first_word rest

unfoldable pub bad_condition : List ℕ → List ℕ → List ℕ
bad_condition clause rest = if grants_up_to clause (next_rest rest) then second_word clause (next_rest rest) else first_word rest

-- the word, as it is shown
abbrev pub shown_word : List ℕ → List ℕ
shown_word word = word_text (shown_of word)

abbrev pub profile_text : List ℕ
profile_text = codes "no profile is known here; write what it stands for, as allow rwx pool=vms"

abbrev pub condition_text : List ℕ → List ℕ
condition_text word =
    shown_word word
    <> codes " is no condition here, or stands twice; conditions are pool=NAME and namespace=NAME, without spaces, and object_prefix NAME, each once, and a NAME is letters, digits, _ - and . alone"

-- why, by the word of rights, behind which stands `rest`
unfoldable pub rights_text : List ℕ → List ℕ → List ℕ → List ℕ
rights_text clause word rest =
    if bytes_eq word [] then codes "no rights stand behind allow; write *, all, or one to three letters of r, w and x"
    else if bytes_eq word (codes "profile") then profile_text
    else if grants_up_to clause rest then condition_text (bad_condition clause rest)
    else shown_word word <> codes " is no word of rights; write *, all, or one to three letters of r, w and x, each once"

-- where it stands behind a comma, that this ends the clause before it
abbrev pub comma_text : Bool → List ℕ
comma_text true = codes " (the comma before it ends a clause; for two pools write two, as allow r pool=a, allow r pool=b)"
comma_text false = []

-- why, by its first word, behind which stands `rest`
unfoldable pub reason_text : Bool → List ℕ → List ℕ → List ℕ → List ℕ
reason_text later clause word rest =
    if bytes_eq word (codes "profile") then profile_text
    else if bytes_eq word (codes "allow") then rights_text clause (first_word rest) (rest_of rest)
    else codes "it begins with " <> shown_word word <> codes ", and not with allow" <> comma_text later

-- a clause that grants nothing, and why
abbrev pub dead_clause_text : List ℕ → List ℕ → List ℕ
dead_clause_text clause reason = shown_word (behind_blanks clause) <> codes " grants nothing: " <> reason

-- `later`: it stands behind a comma
unfoldable pub dead_text : Bool → List ℕ → List ℕ
dead_text later clause =
    if bytes_eq (first_word clause) [] then codes "an empty clause grants nothing"
    else dead_clause_text clause (reason_text later clause (first_word clause) (rest_of clause))

-- ---- what a clause grants

abbrev pub three_texts : Bool → Bool → Bool → List ℕ
three_texts true true true = codes "read, write and exec"
three_texts true true false = codes "read and write"
three_texts true false true = codes "read and exec"
three_texts true false false = codes "read"
three_texts false true true = codes "write and exec"
three_texts false true false = codes "write"
three_texts false false true = codes "exec"
three_texts false false false = codes "nothing"

unfoldable pub access_text : List ℕ → List ℕ
access_text clause =
    three_texts (cap_allows clause (ask_for clause Read)) (cap_allows clause (ask_for clause Write)) (cap_allows clause (ask_for clause Exec))

-- where there is such a condition
abbrev pub where_text : List ℕ → List ℕ → List ℕ
where_text before [] = []
where_text before (b ∷ bs) = before <> shown_word (b ∷ bs)

unfoldable pub live_text : List ℕ → List ℕ
live_text clause =
    access_text clause
    <> where_text (codes " objects that begin with ") (part_in (word_behind (codes "object_prefix") clause))
    <> where_text (codes " in namespace ") (part_in (word_behind (codes "namespace=") clause))
    <> where_text (codes " in pool ") (part_in (word_behind (codes "pool=") clause))

-- ---- what is said of caps

-- a line of standard error
abbrev pub note_line : Name → EntityType → List ℕ → List ℕ
note_line name service text = codes "cephx_cli: " <> name_text name <> codes ": " <> type_word service <> codes ": " <> text <> codes "\n"

-- of a clause, which stands behind a comma or not: why it grants nothing; what it grants is said where all is
unfoldable pub clause_told : Bool → Bool → Name → EntityType → List ℕ → List ℕ
clause_told later all name service clause =
    if clause_grants clause then (if all then note_line name service (live_text clause) else [])
    else note_line name service (dead_text later clause)

-- of the clause behind a comma (44), where the byte is one
unfoldable pub told_at : Bool → Name → EntityType → ℕ → List ℕ → List ℕ
told_at all name service b bs = if b == 44 then clause_told true all name service (clause_at bs) else []

-- of the clauses behind the commas of a text
unfoldable pub told_behind : Bool → Name → EntityType → List ℕ → List ℕ
told_behind all name service [] = []
told_behind all name service (b ∷ bs) = told_at all name service b bs ++ told_behind all name service bs

-- of caps for this service, of this entity
unfoldable pub texts_told : Bool → Name → EntityType → List ℕ → List ℕ
texts_told all name service caps = clause_told false all name service (clause_at caps) ++ told_behind all name service caps

-- the same of what an entity is granted
unfoldable pub grant_told : Bool → Name → Grant → List ℕ
grant_told all name grant = texts_told all name grant.service grant.caps

-- of the caps of an entity
abbrev pub caps_told : Bool → Name → List Grant → List ℕ
caps_told all name grants = flat_map (grant_told all name) grants

-- ---- of a keyring, line by line

-- the name of a section: what stands in its brackets, up to ']' (93)
abbrev pub is_inside : ℕ → Bool
is_inside b = not (b == 93)

abbrev pub inside : List ℕ → List ℕ
inside section = take_while is_inside (drop 1 (behind_blanks section))

-- the caps of a line of caps: between quotation marks, or plain
abbrev pub without_mark : List ℕ → List ℕ
without_mark text = if starts (codes "\"") text then drop 1 text else text

abbrev pub caps_of_line : List ℕ → List ℕ
caps_of_line line = take_while is_caps_byte (without_mark (value_of line))

unfoldable pub service_told : Bool → Name → Option EntityType → List ℕ → List ℕ
service_told all name None caps = []
service_told all name (Some service) caps = texts_told all name service caps

unfoldable pub named_told : Bool → Option Name → List ℕ → List ℕ
named_told all None line = []
named_told all (Some name) line = service_told all name (service_of (service_word line)) (caps_of_line line)

-- of a line in a section, where it has caps
unfoldable pub line_told : Bool → List ℕ → List ℕ → List ℕ
line_told all section line = if starts (codes "caps") (behind_blanks line) then named_told all (name_of (inside section)) line else []

-- the section in which the lines behind a line stand
unfoldable pub section_behind : List ℕ → List ℕ → List ℕ
section_behind section line = if opens_section line then line else section

unfoldable pub lines_told : Bool → List ℕ → List (List ℕ) → List ℕ
lines_told all section [] = []
lines_told all section (line ∷ lines) = line_told all section line ++ lines_told all (section_behind section line) lines
