-- What the commands answer that read a text and write one.
use Rattle.std.specs.Prelude.{ℕ, ◌≡◌, ◌≢◌, ◌≤◌, ◌⊎◌, true, false, string_bytes}
use Rattle.cx_base.specs.Streams.{Rose}
use Rattle.cx_desk.specs.Handlers.{Handlers}
use Rattle.cx_top.specs.Causes.{HasAnswer, HasReason, IsRefusedStatus}
use Rattle.cx_top.specs.Commands.{Writes, WritesFront}
use Rattle.cx_top.specs.Statuses.{IsOrMemory, IsServed}
use Rattle.cx_top.specs.declared.commands.Subcommand.{Subcommand}
use Rattle.cx_top.specs.declared.program_end.ProgramEnd.{ProgramEnd}
use Rattle.cx_top.specs.declared.status.Status.{Status}
use Rattle.cx_top.specs.declared.status.Status.TheVariants.{Done, Usage, Broken, ReadFault, WriteFault}
use Rattle.cx_commands.specs.Lent.{Lent, Streams}
use Rattle.cx_commands.specs.Misread.{IsUnbegun}
use Rattle.cx_commands.specs.declared.ends.CommandEnd.{CommandEnd}
use Rattle.cx_commands.specs.declared.ends.CommandStatus.TheVariants.{Text}

-- the clauses of `run` of cx_top, of the word of a command, as one
pub record TextEnds {I O : Type 0} (handlers : Handlers) (command : Subcommand) (a b : Streams I O) (ended : ProgramEnd) : Type 0 where
  pub usage : ended.status ≢ Usage
  pub read : ended.status ≡ ReadFault → Rose a.faults b.faults
  pub refused : IsRefusedStatus command a.left b.left ended.status (string_bytes ended.told)
  pub write : ended.status ≡ WriteFault → Rose a.misses b.misses
  pub done : ended.status ≡ Done → Writes handlers command false a.left b.left a.taken b.taken (string_bytes ended.told)
  pub broken : ended.status ≡ Broken → Writes handlers command true a.left b.left a.taken b.taken (string_bytes ended.told)
  pub front : ended.status ≡ WriteFault → WritesFront handlers command a.left b.left a.taken b.taken
  pub untouched : ended.status ≢ Done → ended.status ≢ Broken → ended.status ≢ WriteFault → b.out ≡ a.out
  pub complete : HasAnswer command a.left → ¬ Rose a.faults b.faults → ¬ Rose a.misses b.misses → IsServed ended.status
  pub exact : (why : Status) → HasReason command a.left why → ¬ Rose a.faults b.faults → IsOrMemory why ended.status
  pub reads : a.faults ≤ b.faults
  pub writes : a.misses ≤ b.misses

module _ {I O K L C D : Type 0} (handlers : Handlers) (command : Subcommand) (a b : Streams I O) (v w : Lent K L C D) (result : CommandEnd) where
  -- it ended as that call did, and left keeper, links, clock and dice as they were
  pub record HasAnswered : Type 0 where
    pub ended : ProgramEnd
    pub status : result.status ≡ Text ended.status
    pub told : result.told ≡ ended.told
    pub ends : TextEnds handlers command a b ended
    pub stood : w ≡ v

  -- it did so, or memory was wanting to read its words
  abbrev pub TextAnswers : Type 0
  TextAnswers = IsUnbegun a b v w result ⊎ HasAnswered
