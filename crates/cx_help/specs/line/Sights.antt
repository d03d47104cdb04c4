-- What a user is told of a line that is none, as it is seen in the file.
use Rattle.std.specs.Prelude.{ℕ, ◌-◌, nat_le, List, [], ◌∷◌, if◌then◌else◌}
use Rattle.cx_lines.specs.declared.sight.BadWord.{BadWord}
use Rattle.cx_help.specs.declared.sights.LineSight.{LineSight}
use Rattle.cx_help.specs.line.Misfits.{told_of}
use Rattle.cx_help.specs.line.Remarks.{remark_of}
use Rattle.cx_schedule.specs.Grammars.{line_words}

-- the line of this number, from 1
abbrev pub line_at : List (List ℕ) → ℕ → List ℕ
line_at [] number = []
line_at (line ∷ lines) number = if nat_le number 1 then line else line_at lines (number - 1)

-- what is told of a line with this first fault: it, or a word that doesn't fit; and what the line shows as a whole
abbrev pub sight_of : List ℕ → BadWord → LineSight
sight_of line bad = record { bad = told_of (line_words line) bad; remark = remark_of line }
