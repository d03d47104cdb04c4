-- What a line of a keyring says by itself (Ceph's "user management": keyring files).
use Rattle.std.specs.Prelude.{ℕ, ◌+◌, ◌-◌, ◌==◌, Bool, true, ◌&&◌, ◌||◌, nat_le, if◌then◌else◌, List, [], ◌∷◌, length, take, drop, map, slice_index, codes, Option, Some, None}
use Rattle.std.specs.List.{list_all, position_from}
use Rattle.std.specs.Str.{bytes_eq}
use Rattle.cx_words.specs.Cutting.{lines_of}
use Rattle.cx_base.specs.Texts.{is_caps}
use Rattle.cx_words.specs.Words.{caps_of, inside, name_of, service_of}
use Rattle.cx_keyring.specs.declared.lines.Line.{Line}
use Rattle.cx_keyring.specs.declared.lines.Line.TheVariants as lines
use Rattle.cx_keyring.specs.Keys.{key_of}

-- a blank: a space (32) or a tab (9)
abbrev pub is_blank : ℕ → Bool
is_blank b = (b == 32) || (b == 9)

-- a text without the blanks at its beginning
abbrev pub without_front : List ℕ → List ℕ
without_front [] = []
without_front (b ∷ bs) = if is_blank b then without_front bs else b ∷ bs

-- a text without the blanks at its end
abbrev pub without_back : List ℕ → List ℕ
without_back [] = []
without_back (b ∷ bs) = if list_all is_blank (b ∷ bs) then [] else b ∷ without_back bs

unfoldable pub trimmed : List ℕ → List ℕ
trimmed text = without_front (without_back text)

-- a line without a CR (13) at its end
unfoldable pub without_cr : List ℕ → List ℕ
without_cr line = if slice_index line (length line - 1) == 13 then take (length line - 1) line else line

-- nothing, or a comment, which begins with '#' (35) or ';' (59)
abbrev pub is_skipped : List ℕ → Bool
is_skipped [] = true
is_skipped (b ∷ bs) = (b == 35) || (b == 59)

-- from '[' (91) to ']' (93)
abbrev pub is_bracketed : List ℕ → Bool
is_bracketed line = nat_le 2 (length line) && (slice_index line 0 == 91) && (slice_index line (length line - 1) == 93)

-- '=' (61)
abbrev pub is_equals : ℕ → Bool
is_equals b = b == 61

-- the one that is there, the first of two
abbrev pub first_of : Option (List ℕ) → Option (List ℕ) → Option (List ℕ)
first_of (Some text) other = Some text
first_of None other = other

-- a capability text without quotation marks
abbrev pub plain_caps : List ℕ → Option (List ℕ)
plain_caps text = if is_caps text then Some text else None

-- a capability text, in quotation marks or plain
unfoldable pub caps_text_of : List ℕ → Option (List ℕ)
caps_text_of text = first_of (caps_of text) (plain_caps text)

-- "caps" and a blank, and something behind
abbrev pub begins_caps : List ℕ → Bool
begins_caps left = nat_le 5 (length left) && (bytes_eq (take 4 left) (codes "caps") && is_blank (slice_index left 4))

-- what a line says that has these texts on either side of its first '='
unfoldable pub setting : List ℕ → List ℕ → Line
setting left right =
    if bytes_eq left (codes "key") then lines.Key (key_of right)
    else if begins_caps left then lines.Caps (service_of (trimmed (drop 4 left))) (caps_text_of right)
    else lines.Other

-- what a line says whose first '=' stands at this place
abbrev pub setting_at : List ℕ → Option ℕ → Line
setting_at line None = lines.Other
setting_at line (Some place) = setting (trimmed (take place line)) (trimmed (drop (place + 1) line))

-- what a line without a CR at its end and blanks at both ends says
unfoldable pub said_by : List ℕ → Line
said_by line =
    if is_skipped line then lines.Skipped
    else if is_bracketed line then lines.Section (name_of (inside line))
    else setting_at line (position_from is_equals 0 line)

-- what a line says: a CR at its end is dropped, and then the blanks at both ends
unfoldable pub line_of : List ℕ → Line
line_of line = said_by (trimmed (without_cr line))

-- what the lines of some bytes say
abbrev pub lines_said : List ℕ → List Line
lines_said bytes = map line_of (lines_of bytes)
