-- What is kept of the lines before the one that is judged.
use Rattle.std.specs.Prelude.{ℕ, ◌≡◌, ◌≤◌, List, length, drop, Option, Some, is_some}
use Rattle.std.specs.List.{list_any}
use Rattle.cx_base.specs.Names.{Name}
use Rattle.cx_keyring.specs.declared.faults.KeyringFault.{KeyringFault}
use Rattle.cx_keyring.specs.declared.judge.Judged.{Judged}
use Rattle.cx_keyring.specs.declared.lines.Line.{Line}
use Rattle.cx_keyring.specs.declared.refusals.KeyringRefusal.{KeyringRefusal}
use Rattle.cx_keyring.specs.declared.refusals.KeyringRefusal.TheVariants.{BadLine, TooMany, OutOfMemory}
use Rattle.cx_keyring.specs.Faults.{body_of, is_section, is_section_of}
use Rattle.cx_keyring.specs.Indexed.{place_of}

-- the names of the sections, whether there is one, and where the lines of the last one begin
pub record Judges (judged : Judged) (before : List Line) : Type 0 where
  pub named : (name : Name) → is_some (place_of judged.names.ids name) ≡ list_any (is_section_of name) before
  pub begun : judged.begun ≡ list_any is_section before
  pub within : judged.start ≤ length before
  pub body : drop judged.start before ≡ body_of before

-- this line is the one that is wrong; want of memory is free
abbrev pub IsBadLine : Option (ℕ × KeyringFault) → KeyringRefusal → Type 0
IsBadLine bad (BadLine n why) = bad ≡ Some (n, why)
IsBadLine bad (TooMany limit) = ⊥
IsBadLine bad OutOfMemory = Unit {0}
