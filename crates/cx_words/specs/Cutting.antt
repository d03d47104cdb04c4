-- How a file is cut into lines, and a line into words.
use Rattle.std.specs.Prelude.{ℕ, ◌==◌, Bool, true, false, List, [], ◌∷◌, length, ◌≤◌, not, ◌&&◌, if◌then◌else◌}
use Rattle.std.specs.List.{list_any}

-- a byte in front of the first of some pieces
abbrev pub onto_first : ℕ → List (List ℕ) → List (List ℕ)
onto_first b [] = (b ∷ []) ∷ []
onto_first b (piece ∷ pieces) = (b ∷ piece) ∷ pieces

-- an LF (10)
abbrev pub is_line_end : ℕ → Bool
is_line_end b = b == 10

-- the lines of a file, each ended by LF (10); the last one's LF may be left out
unfoldable pub lines_of : List ℕ → List (List ℕ)
lines_of [] = []
lines_of (b ∷ bs) = if is_line_end b then [] ∷ lines_of bs else onto_first b (lines_of bs)

-- a text file isn't too long: at most 1,048,576 bytes, and 20,000 lines
abbrev pub IsShort : List ℕ → Type 0
IsShort bytes = (length bytes ≤ 1048576) × (length (lines_of bytes) ≤ 20000)

-- an empty line, or a comment, which begins with '#' (35)
abbrev pub is_skipped : List ℕ → Bool
is_skipped [] = true
is_skipped (b ∷ bs) = b == 35

-- a quotation mark (34)
abbrev pub is_mark : ℕ → Bool
is_mark b = b == 34

-- whether what stands behind this byte is between quotation marks: where marks group, an opening one that has a closing
-- one behind it opens, and the next one closes
abbrev pub quoted_after : Bool → Bool → ℕ → List ℕ → Bool
quoted_after groups quoted b rest =
    if is_mark b then groups && (not quoted && list_any is_mark rest) else quoted

-- whether this byte parts two words: a blank (32) that isn't between quotation marks
abbrev pub parts : Bool → ℕ → Bool
parts quoted b = (b == 32) && not quoted

-- the words of what is left of a line, from a place that is between quotation marks or not
unfoldable pub words_from : Bool → Bool → List ℕ → List (List ℕ)
words_from groups quoted [] = [] ∷ []
words_from groups quoted (b ∷ bs) =
    if parts quoted b then [] ∷ words_from groups quoted bs
    else onto_first b (words_from groups (quoted_after groups quoted b bs) bs)

-- the words of a line, each two of them parted by one blank; where marks group, blanks between quotation marks belong to
-- the word, and so do the marks
abbrev pub words_of : Bool → List ℕ → List (List ℕ)
words_of groups line = words_from groups false line
