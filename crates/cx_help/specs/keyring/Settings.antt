-- What stands where in a line of a keyring.
use Rattle.std.specs.Prelude.{ℕ, ◌+◌, ◌-◌, ◌==◌, Bool, not, ◌&&◌, ◌||◌, nat_le, List, [], ◌∷◌, length, take, drop, codes, slice_index, if◌then◌else◌}
use Rattle.std.specs.List.{list_any, take_while}
use Rattle.cx_base.specs.Texts.{is_caps_byte}
use Rattle.cx_keyring.specs.Lines.{is_blank}
use Rattle.cx_help.specs.line.Remarks.{starts}

-- a line without a CR (13) at its end
abbrev pub without_return : List ℕ → List ℕ
without_return line = if slice_index line (length line - 1) == 13 then take (length line - 1) line else line

-- how many blanks a text begins with, and what stands behind them
abbrev pub blanks : List ℕ → ℕ
blanks text = length (take_while is_blank text)

abbrev pub behind_blanks : List ℕ → List ℕ
behind_blanks text = drop (blanks text) text

-- the first word of a text, up to a blank or an equals sign
abbrev pub is_of_name : ℕ → Bool
is_of_name b = not (is_blank b) && not (b == 61)

abbrev pub first_name : List ℕ → List ℕ
first_name text = take_while is_of_name text

-- the service of a line that begins with "caps"
abbrev pub service_word : List ℕ → List ℕ
service_word line = first_name (behind_blanks (drop 4 (behind_blanks line)))

-- '=' (61)
abbrev pub is_before_equals : ℕ → Bool
is_before_equals b = not (b == 61)

-- what stands behind the first equals sign and the blanks there
abbrev pub value_of : List ℕ → List ℕ
value_of line = behind_blanks (drop (length (take_while is_before_equals line) + 1) line)

-- the number in a line, from 1, of the byte with which this end of it begins
abbrev pub column : List ℕ → List ℕ → ℕ
column line end = length line - length end + 1

-- how many bytes a text begins with that a capability text may have, and what stands behind them
abbrev pub caps_count : List ℕ → ℕ
caps_count text = length (take_while is_caps_byte text)

abbrev pub behind_caps : List ℕ → List ℕ
behind_caps text = drop (caps_count text) text

-- how many bytes its first word has, and what stands behind it
abbrev pub is_filling : ℕ → Bool
is_filling b = not (is_blank b)

abbrev pub word_count : List ℕ → ℕ
word_count text = length (take_while is_filling text)

abbrev pub behind_word : List ℕ → List ℕ
behind_word text = drop (word_count text) text

-- it begins a section
abbrev pub opens_section : List ℕ → Bool
opens_section line = starts (codes "[") (behind_blanks line)

-- it begins with "key", in letters of either case
abbrev pub is_either : ℕ → ℕ → ℕ → Bool
is_either small large b = (b == small) || (b == large)

abbrev pub has_key_letters : List ℕ → Bool
has_key_letters text =
    nat_le 3 (length text) && is_either 107 75 (slice_index text 0) && is_either 101 69 (slice_index text 1) && is_either 121 89 (slice_index text 2)

abbrev pub looks_like_key : List ℕ → Bool
looks_like_key line = has_key_letters (behind_blanks line)

-- it begins with "cap", in letters of either case
abbrev pub has_caps_letters : List ℕ → Bool
has_caps_letters text =
    nat_le 3 (length text) && is_either 99 67 (slice_index text 0) && is_either 97 65 (slice_index text 1) && is_either 112 80 (slice_index text 2)

abbrev pub looks_like_caps : List ℕ → Bool
looks_like_caps line = has_caps_letters (behind_blanks line)

-- it begins with a word of older keyrings
abbrev pub looks_like_auid : List ℕ → Bool
looks_like_auid line = starts (codes "auid") (behind_blanks line)

-- it begins with "secret", by which mount options and other files give a key
abbrev pub looks_like_secret : List ℕ → Bool
looks_like_secret line = starts (codes "secret") (behind_blanks line)

-- it is meant for a key
abbrev pub stands_for_key : List ℕ → Bool
stands_for_key line = looks_like_key line || looks_like_secret line

-- a CR (13) stands in it
abbrev pub is_return : ℕ → Bool
is_return b = b == 13

abbrev pub has_return : List ℕ → Bool
has_return line = list_any is_return line

-- it begins as lines do that stand first in a journal
abbrev pub looks_like_journal : List ℕ → Bool
looks_like_journal line = starts (codes "saved ") line || starts (codes "issued ") line

-- it begins as lines do that stand first in a schedule: head lines, or others
abbrev pub is_head_line : List ℕ → Bool
is_head_line line =
    starts (codes "entity ") line || starts (codes "lifetime ") line || starts (codes "auth-lifetime ") line || starts (codes "seed ") line

abbrev pub is_first_step : List ℕ → Bool
is_first_step line = starts (codes "clock ") line || starts (codes "login ") line || starts (codes "fetch ") line

abbrev pub looks_like_schedule : List ℕ → Bool
looks_like_schedule line = is_head_line line || is_first_step line
