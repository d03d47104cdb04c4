-- Why the words of a line are refused.
use Rattle.std.specs.Prelude.{ℕ, ◌≡◌, List, Some}
use Rattle.cx_words.specs.declared.known.Known.{Known}
use Rattle.cx_lines.specs.declared.refusals.LineRefusal.{LineRefusal}
use Rattle.cx_lines.specs.declared.refusals.LineRefusal.TheVariants.{Fault, OutOfMemory}
use Rattle.cx_lines.specs.Sights.{bad_word_of}

-- why the words of a line are refused; want of memory is free
abbrev pub IsLineCause : Known → List (List ℕ) → LineRefusal → Type 0
IsLineCause known words (Fault bad) = bad_word_of known words ≡ Some bad
IsLineCause known words OutOfMemory = Unit {0}
