-- What a line shows as a whole, beside its words, and what a user reads of it.
use Rattle.std.specs.Prelude.{ℕ, ◌%◌, ◌==◌, Bool, not, ◌&&◌, ◌||◌, nat_lt, List, [], ◌∷◌, length, take, codes, count_by, Option, Some, None, if◌then◌else◌}
use Rattle.std.specs.List.{list_any}
use Rattle.std.specs.Str.{bytes_eq}
use Rattle.cx_words.specs.declared.sight.Hint.{Hint}
use Rattle.cx_help.specs.declared.remarks.Remark.{Remark}
use Rattle.cx_help.specs.declared.remarks.Remark.TheVariants.{NoText, Section, Comment, OpenMark}
use Rattle.cx_help.specs.line.Hints.{hint_text}
use Rattle.cx_schedule.specs.Grammars.{groups, line_words}
use Rattle.cx_words.specs.Cutting.{is_mark}

-- whether a line begins with these bytes
abbrev pub starts : List ℕ → List ℕ → Bool
starts front line = bytes_eq (take (length front) line) front

-- a byte that no text has: a control byte that is no tab (9) and no CR (13)
abbrev pub is_binary : ℕ → Bool
is_binary b = nat_lt b 32 && not (b == 9) && not (b == 13)

-- it has such a byte, or begins with a byte-order mark of two bytes
abbrev pub is_no_text : List ℕ → Bool
is_no_text line = list_any is_binary line || starts (255 ∷ 254 ∷ []) line || starts (254 ∷ 255 ∷ []) line

-- a word that begins with '#'
abbrev pub is_comment : List ℕ → Bool
is_comment word = starts (codes "#") word

-- it is an entity line, and has a quotation mark that isn't closed
abbrev pub has_open_mark : List ℕ → Bool
has_open_mark line = groups line && (count_by is_mark line % 2 == 1)

-- the first of these that is so: it is no text, it begins as a section of a keyring does, a word of it begins a comment, a
-- quotation mark isn't closed
abbrev pub remark_of : List ℕ → Option Remark
remark_of line =
    if is_no_text line then Some NoText
    else if starts (codes "[") line then Some Section
    else if list_any is_comment (line_words line) then Some Comment
    else if has_open_mark line then Some OpenMark
    else None

abbrev pub remark_text : Remark → List ℕ
remark_text NoText =
    codes " (the file is no text: it has bytes as those of UTF-16 or of a compressed file; unpack it, or save it as ASCII text)"
remark_text Section =
    codes " (this looks like a keyring, which cephx_cli keyring reads)"
remark_text Comment =
    codes " (a comment stands on a line of its own, with # as its first byte)"
remark_text OpenMark =
    codes " (a quotation mark isn't closed, and holds no words together; close it)"

-- what is said of the line as a whole, or else of a word in which an eye may not see something
abbrev pub beside_text : Option Remark → Option Hint → List ℕ
beside_text None hint = hint_text hint
beside_text (Some remark) hint = remark_text remark
