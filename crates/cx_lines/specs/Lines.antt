-- What the lines of a schedule are: how each is spelled, and when it may stand; and the first fault of words that are none.
-- The lines are those of docs/guide.md, "The lines of a schedule".
use Rattle.std.specs.Prelude.{ℕ, ◌≡◌, Bool, true, false, nat_lt, List, [], ◌∷◌, map, codes, Option, Some, None, if◌then◌else◌}
use Rattle.std.specs.Option.{option_map}
use Rattle.std.specs.Str.{bytes_eq}
use Rattle.cx_words.specs.declared.choices.CommandForm.{CommandForm}
use Rattle.cx_words.specs.declared.faults.FaultAt.{FaultAt}
use Rattle.cx_words.specs.declared.faults.LineFault.TheVariants.{UnknownWord}
use Rattle.cx_words.specs.declared.known.Known.{Known}
use Rattle.cx_words.specs.declared.places.WordPlace.{WordPlace}
use Rattle.cx_words.specs.declared.places.WordPlace.TheVariants as at
use Rattle.cx_words.specs.lines.Choices.{command_form_of, command_word}
use Rattle.cx_words.specs.lines.Faults.{fault_among, fault_at}
use Rattle.cx_words.specs.lines.Places.{is_whole}
use Rattle.cx_words.specs.lines.Values.{Item, CommandOf, SpellsItems, is_life}
use Rattle.cx_lines.specs.declared.commands.LineCommand.{LineCommand}
use Rattle.cx_lines.specs.declared.lines.Head.{Head}
use Rattle.cx_lines.specs.declared.lines.Head.TheVariants as head
use Rattle.cx_lines.specs.declared.lines.Line.{Line}
use Rattle.cx_lines.specs.declared.lines.Line.TheVariants.{Setting, Submit, Do, Link, Node}
use Rattle.cx_lines.specs.declared.lines.Numbered.{Numbered}
use Rattle.cx_lines.specs.declared.node_steps.NodeStep.TheVariants as node
use Rattle.cx_lines.specs.declared.reading.Judged.{Judged}
use Rattle.cx_lines.specs.declared.reading.Judged.TheVariants.{Spelled, Faulty}
use Rattle.cx_lines.specs.declared.settings.Setting.TheVariants as setting
use Rattle.cx_lines.specs.Commands.{command_form, command_items, command_places}
use Rattle.cx_lines.specs.Found.{Family, IsFound, SpellsIn}
use Rattle.cx_lines.specs.Knowing.{is_late, is_spent}
use Rattle.cx_lines.specs.LinkSteps.{link_form, link_form_of, link_items, link_places, link_word}
use Rattle.cx_lines.specs.NodeSteps.{node_form, node_form_of, node_items, node_places, node_step_word}
use Rattle.cx_lines.specs.Settings.{setting_form, setting_form_of, setting_items, setting_places, setting_word}

-- ---- the first word

-- the word that a line of each form begins with
abbrev pub head_word : Head → List ℕ
head_word (head.Setting form) = setting_word form
head_word (head.Submit form) = command_word form
head_word head.Do = codes "do"
head_word (head.Link form) = link_word form
head_word (head.Node form) = node_step_word form

-- the one, or else the other
abbrev pub or_head : Option Head → Option Head → Option Head
or_head None other = other
or_head (Some form) other = Some form

-- the form that a first word begins, if it begins one
abbrev pub head_of : List ℕ → Option Head
head_of word =
    or_head (option_map head.Submit (command_form_of word))
    (or_head (option_map head.Setting (setting_form_of word))
    (or_head (if bytes_eq word (codes "do") then Some head.Do else None)
    (or_head (option_map head.Link (link_form_of word)) (option_map head.Node (node_form_of word)))))

-- the form of a line
abbrev pub form_of : Line → Head
form_of (Setting setting) = head.Setting (setting_form setting)
form_of (Submit command) = head.Submit (command_form command)
form_of (Do command) = head.Do
form_of (Link step) = head.Link (link_form step)
form_of (Node step) = head.Node (node_form step)

-- ---- what stands behind it

-- a place for each word, whatever it is
abbrev pub anything : List (List ℕ) → List WordPlace
anything words = map (λ word. at.Anything) words

-- the places behind a word that begins this command, or none
abbrev pub behind_do : Option CommandForm → List (List ℕ) → List WordPlace
behind_do None words = anything words
behind_do (Some form) words = command_places form words

-- the places behind do: those of a whole command
abbrev pub do_places : List (List ℕ) → List WordPlace
do_places [] = at.Command ∷ []
do_places (word ∷ words) = at.Command ∷ behind_do (command_form_of word) words

-- the places behind the first word, in the form that these words come closest to
abbrev pub places : Head → List (List ℕ) → List WordPlace
places (head.Setting form) words = setting_places form words
places (head.Submit form) words = command_places form words
places head.Do words = do_places words
places (head.Link form) words = link_places form words
places (head.Node form) words = node_places form words

-- what stands behind do
abbrev pub do_items : LineCommand → List Item
do_items command = CommandOf (command_form command) ∷ command_items command

-- what stands behind the first word
abbrev pub items : Line → List Item
items (Setting setting) = setting_items setting
items (Submit command) = command_items command
items (Do command) = do_items command
items (Link step) = link_items step
items (Node step) = node_items step

-- all lines as a family
abbrev pub all_lines : Family Head Line
all_lines = record { places = places; form = form_of; items = items }

-- what words behind a first word of this form are found to be
abbrev pub IsLine : Known → Head → List (List ℕ) → Option Line → Type 0
IsLine known form words found = IsFound all_lines known [] form words found

-- what words behind do are found to be
abbrev pub IsDo : Known → List (List ℕ) → Option LineCommand → Type 0
IsDo known words None = is_whole known [] (do_places words) words ≡ false
IsDo known words (Some command) = SpellsItems known [] (do_items command) words

-- the words spell the line, which may stand where this is known of the lines above
abbrev pub Spells : Known → Line → List (List ℕ) → Type 0
Spells known line [] = ⊥
Spells known line (word ∷ words) =
    (word ≡ head_word (form_of line)) × SpellsItems known [] (items line) words
    × (is_spent known (form_of line) ≡ false) × (is_late known (form_of line) ≡ false)

-- the words behind a first word of this form spell the line, which may stand here
abbrev pub SpellsHere : Known → Head → List (List ℕ) → Line → Type 0
SpellsHere known form words line =
    SpellsIn all_lines known [] form words line × (is_spent known form ≡ false) × (is_late known form ≡ false)

-- the numbers of a line are in their ranges; a reading is below 4,000,000,000 s, in nanoseconds
abbrev pub is_in_range : Line → Bool
is_in_range (Setting (setting.Lifetime seconds)) = is_life seconds
is_in_range (Setting (setting.AuthLifetime seconds)) = is_life seconds
is_in_range (Node (node.Clock reading)) = nat_lt reading 4000000000000000000
is_in_range (Node (node.ClockOf node reading)) = nat_lt reading 4000000000000000000
is_in_range _ = true

-- the same of a line with its number
abbrev pub is_numbered_in_range : Numbered → Bool
is_numbered_in_range numbered = is_in_range numbered.line

-- ---- the first fault

-- the first fault of the words behind a first word of this form
abbrev pub fault_behind : Known → Head → List (List ℕ) → Option FaultAt
fault_behind known form words =
    fault_among known (is_spent known form) (is_late known form) (places form words) words

-- the first word begins no line
abbrev pub unknown_word : FaultAt
unknown_word = fault_at UnknownWord 1

-- the first fault where the first word may begin no line
abbrev pub fault_with : Known → List (List ℕ) → Option Head → Option FaultAt
fault_with known words None = Some unknown_word
fault_with known words (Some form) = fault_behind known form words

-- the first fault of a line's words
abbrev pub fault_of : Known → List (List ℕ) → Option FaultAt
fault_of known [] = Some unknown_word
fault_of known (word ∷ words) = fault_with known words (head_of word)

-- such words have a fault
abbrev pub IsFaulty : Known → Head → List (List ℕ) → Type 0
IsFaulty known form words = fault_behind known form words ≡ None → ⊥

-- what the words behind a first word of this form are found to be
abbrev pub IsJudgedBehind : Known → Head → List (List ℕ) → Judged → Type 0
IsJudgedBehind known form words (Spelled line) = SpellsHere known form words line
IsJudgedBehind known form words (Faulty fault) = fault_behind known form words ≡ Some fault

-- what the words of a line are found to be: a line, or words with this first fault
abbrev pub IsJudged : Known → List (List ℕ) → Judged → Type 0
IsJudged known words (Spelled line) = Spells known line words
IsJudged known words (Faulty fault) = fault_of known words ≡ Some fault
