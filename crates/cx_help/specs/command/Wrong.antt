-- Which word of a command line is wrong, and why; and which ask for help.
use Rattle.std.specs.Prelude.{ℕ, ◌+◌, ◌||◌, Bool, nat_lt, List, [], ◌∷◌, length, codes, Option, Some, None, if◌then◌else◌}
use Rattle.std.specs.Borrow.{Bor}
use Rattle.std.specs.Str.{bytes_eq}
use Rattle.cx_command_line.specs.Forms.{form_of}
use Rattle.cx_command_line.specs.Words.{Word}
use Rattle.cx_command_line.specs.declared.forms.Form.{Form}
use Rattle.cx_help.specs.command.Places.{fits, least_of, place_at}
use Rattle.cx_help.specs.declared.command_places.Place.{Place}
use Rattle.cx_help.specs.declared.command_wrong.Why.TheVariants.{Unknown, Bad, Missing, Extra, Asked, Version}
use Rattle.cx_help.specs.declared.command_wrong.WrongUsage.{WrongUsage}

-- ---- words that ask for help

-- behind the word of a command they ask for its form
abbrev pub is_help : Word → Bool
is_help word = bytes_eq word (codes "--help") || bytes_eq word (codes "-h")

-- as a first word for all of them
abbrev pub asks_help : Word → Bool
asks_help word = bytes_eq word (codes "help") || is_help word

-- a first word that asks which program this is
abbrev pub asks_version : Word → Bool
asks_version word = bytes_eq word (codes "--version")

-- ---- words that are wrong

-- the word of this number, from 0 behind that of the command; of all words it is the second or a later one
abbrev pub wrong_there : Form → Option Place → ℕ → Word → Option WrongUsage
wrong_there form None n word = Some (record { number = n + 2; why = Extra form })
wrong_there form (Some place) n word = if fits place word then None else Some (record { number = n + 2; why = Bad place })

abbrev pub wrong_at : Form → ℕ → Word → Option WrongUsage
wrong_at form n word =
    if is_help word then Some (record { number = n + 2; why = Asked form })
    else wrong_there form (place_at form n) n word

abbrev pub or_later : Option WrongUsage → Option WrongUsage → Option WrongUsage
or_later (Some wrong) later = Some wrong
or_later None later = later

-- the first of these, of which the first has this number
abbrev pub wrong_from : Form → ℕ → List Word → Option WrongUsage
wrong_from form n [] = None
wrong_from form n (word ∷ words) = or_later (wrong_at form n word) (wrong_from form (n + 1) words)

-- the same of words, wherever they lie
abbrev pub wrong_seen : Form → ℕ → List (Bor Word) → Option WrongUsage
wrong_seen form n [] = None
wrong_seen form n (word ∷ words) = or_later (wrong_at form n word.now) (wrong_seen form (n + 1) words)

abbrev pub missing_at : Option Place → ℕ → Option WrongUsage
missing_at None n = None
missing_at (Some place) n = Some (record { number = n + 2; why = Missing place })

-- a word is missing behind so many
abbrev pub missing : Form → ℕ → Option WrongUsage
missing form n = if nat_lt n (least_of form n) then missing_at (place_at form n) n else None

abbrev pub wrong_by : Option Form → List Word → Option WrongUsage
wrong_by None values = Some (record { number = 1; why = Unknown })
wrong_by (Some form) values = or_later (wrong_from form 0 values) (missing form (length values))

-- of words with this first one
abbrev pub wrong_behind : Word → List Word → Option WrongUsage
wrong_behind command values =
    if asks_help command then None
    else if asks_version command then Some (record { number = 1; why = Version })
    else wrong_by (form_of command) values

-- the first word of the command line that is wrong, or behind which one is missing, or that asks for the form of its command or for the version; none
-- where there are no words, or all commands are asked for
abbrev pub wrong_of : List Word → Option WrongUsage
wrong_of [] = None
wrong_of (command ∷ values) = wrong_behind command values
