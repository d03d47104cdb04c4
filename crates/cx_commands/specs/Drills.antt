-- What the command `drill` answers.
use Rattle.std.specs.Prelude.{ℕ, ◌≡◌, ◌≢◌, ◌<◌, ◌≤◌, ◌⊎◌, true, false, List, Option, string_bytes}
use Rattle.cx_base.specs.Streams.{Rose}
use Rattle.cx_command_line.specs.declared.commands.DrillCommand.{DrillCommand}
use Rattle.cx_desk.specs.Handlers.{Handlers}
use Rattle.cx_top.specs.Drills.{DrillWrites, DrillWritesFront}
use Rattle.cx_top.specs.Statuses.{IsServed}
use Rattle.cx_top.specs.declared.program_end.ProgramEnd.{ProgramEnd}
use Rattle.cx_top.specs.declared.status.Status.TheVariants.{Done, Broken, WriteFault}
use Rattle.cx_commands.specs.Lent.{Lent, Streams}
use Rattle.cx_commands.specs.Misread.{IsUnbegun}
use Rattle.cx_commands.specs.declared.ends.CommandEnd.{CommandEnd}
use Rattle.cx_commands.specs.declared.ends.CommandStatus.TheVariants.{Text}

-- so many clients has a drill that words spell
pub record IsDrillCommand (command : DrillCommand) : Type 0 where
  pub some : 1 ≤ command.clients
  pub few : command.clients ≤ 1000

-- the clauses of `drill` of cx_top, as one
pub record DrillEnds {O : Type 0} (handlers : Handlers) (command : DrillCommand) (taken after : Option (List ℕ)) (misses missed : ℕ) (out written : O)
    (ended : ProgramEnd) : Type 0 where
  pub done : ended.status ≡ Done → DrillWrites handlers command.clients command.seed false taken after (string_bytes ended.told)
  pub broken : ended.status ≡ Broken → DrillWrites handlers command.clients command.seed true taken after (string_bytes ended.told)
  pub write : ended.status ≡ WriteFault → Rose misses missed
  pub front : ended.status ≡ WriteFault → DrillWritesFront handlers command.clients command.seed taken after
  pub rose : misses < missed → DrillWritesFront handlers command.clients command.seed taken after
  pub untouched : ended.status ≢ Done → ended.status ≢ Broken → ended.status ≢ WriteFault → written ≡ out
  pub ends : IsServed ended.status ⊎ (ended.status ≡ WriteFault)
  pub complete : ¬ Rose misses missed → IsServed ended.status
  pub writes : misses ≤ missed

module _ {I O K L C D : Type 0} (handlers : Handlers) (command : DrillCommand) (a b : Streams I O) (v w : Lent K L C D) (result : CommandEnd) where
  -- it ended as that call did, read nothing, and left keeper, links, clock and dice as they were
  pub record HasDrilled : Type 0 where
    pub ended : ProgramEnd
    pub status : result.status ≡ Text ended.status
    pub told : result.told ≡ ended.told
    pub ends : DrillEnds handlers command a.taken b.taken a.misses b.misses a.out b.out ended
    pub unread : b.input ≡ a.input
    pub stood : w ≡ v

  -- it did so, or memory was wanting to read its words
  abbrev pub DrillAnswers : Type 0
  DrillAnswers = IsUnbegun a b v w result ⊎ HasDrilled
