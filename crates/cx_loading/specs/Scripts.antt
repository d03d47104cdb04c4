-- The script of a node, and why there is none.
use Rattle.std.specs.Prelude.{ℕ, ◌≡◌, List, Option}
use Rattle.cx_schedule.specs.NodeFiles as file
use Rattle.cx_schedule.specs.NodeFiles.{NodeLines}
use Rattle.cx_schedule.specs.declared.node_lines.NodeLine.{NodeLine}
use Rattle.cx_schedule.specs.declared.node_names.NodeNames.{NodeNames}
use Rattle.cx_schedule.specs.declared.refusals.ScheduleRefusal.{ScheduleRefusal}
use Rattle.cx_keyring.specs.cx_words.specs.Cutting.{IsShort}
use Rattle.cx_loading.specs.declared.unloaded.Unloaded.{Unloaded}
use Rattle.cx_loading.specs.declared.unloaded.Unloaded.TheVariants.{Script, OutOfMemory}

module _ (names : Option NodeNames) (bytes : List ℕ) where
  -- the bytes are this script of a node with these names, and no other, within the limits
  pub record IsScript (script : List NodeLine) : Type 0 where
    pub lines : NodeLines names bytes script
    pub short : IsShort bytes
    pub one : (other : List NodeLine) → NodeLines names bytes other → script ≡ other
    pub unrefused : (why : ScheduleRefusal) → file.IsScriptReason names bytes why → ⊥

  -- the bytes are a script within the limits
  pub record IsServed : Type 0 where
    pub script : List NodeLine
    pub lines : NodeLines names bytes script
    pub short : IsShort bytes

  -- why the bytes must be refused
  abbrev pub IsScriptReason : Unloaded → Type 0
  IsScriptReason (Script why) = file.IsScriptReason names bytes why
  IsScriptReason _ = ⊥

  -- why there is no script; want of memory is free
  abbrev pub IsScriptEnd : Unloaded → Type 0
  IsScriptEnd (Script why) = file.IsScriptCause names bytes why
  IsScriptEnd OutOfMemory = Unit {0}
  IsScriptEnd _ = ⊥
