-- What a line that is none of a journal shows as a whole.
use Rattle.std.specs.Prelude.{ℕ, ◌==◌, Bool, nat_le, List, [], ◌∷◌, codes, Option, Some, None, if◌then◌else◌}
use Rattle.std.specs.List.{list_any}
use Rattle.cx_help.specs.line.Kin.{or_kin}
use Rattle.cx_help.specs.line.Remarks.{beside_text, is_no_text, starts}
use Rattle.cx_help.specs.declared.remarks.Remark.TheVariants as remark
use Rattle.cx_words.specs.declared.sight.Hint.{Hint}
use Rattle.cx_words.specs.declared.sight.Hint.TheVariants as hint
use Rattle.cx_words.specs.declared.sight.Shown.{Shown}

-- a tab (9), a CR (13), and a byte outside of ASCII
abbrev pub is_tab : ℕ → Bool
is_tab b = b == 9

abbrev pub is_cr : ℕ → Bool
is_cr b = b == 13

abbrev pub is_high : ℕ → Bool
is_high b = nat_le 128 b

-- what an eye may not see in the line, of which this word is wrong
abbrev pub hint_at : List ℕ → Shown → Option Hint
hint_at line shown =
    if starts (239 ∷ 187 ∷ 191 ∷ []) line then Some hint.ByteOrderMark
    else if list_any is_cr line then Some hint.CarriageReturn
    else if list_any is_tab line then Some hint.Tab
    else if list_any is_high line then Some hint.NotAscii
    else if shown.length == 0 then Some hint.Empty
    else None

-- what is said of the line besides
abbrev pub aside_text : List ℕ → Shown → List ℕ
aside_text [] shown = codes " (a journal has no empty lines; leave it out)"
aside_text (b ∷ bs) shown =
    if starts (codes "#") (b ∷ bs) then codes " (a journal has no comments; leave the line out)"
    else if is_no_text (b ∷ bs) then beside_text (Some remark.NoText) None
    else if starts (codes "[") (b ∷ bs) then beside_text (Some remark.Section) None
    else beside_text None (hint_at (b ∷ bs) shown)

-- where its first word is wrong also what else has such lines
abbrev pub first_aside : List ℕ → Shown → List ℕ
first_aside line shown = or_kin (aside_text line shown) shown
