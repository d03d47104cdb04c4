-- How a node command ends.
use Rattle.std.specs.Prelude.{ℕ}
use Rattle.cx_schedule.specs.declared.refusals.ScheduleRefusal.{ScheduleRefusal}
use Rattle.cx_schedule.specs.declared.refusals.ScheduleRefusal.TheVariants as schedule
use Rattle.cx_loading.specs.declared.ends.NodeEnd.{NodeEnd}
use Rattle.cx_loading.specs.declared.ends.NodeEnd.TheVariants as end
use Rattle.cx_loading.specs.declared.unloaded.Unloaded.{Unloaded}
use Rattle.cx_loading.specs.declared.unloaded.Unloaded.TheVariants.{Script, Keeper, NoKeyring, Keyring, NoEntity, State, OutOfMemory}

-- the number with which the program ends
abbrev pub script_number : ScheduleRefusal → ℕ
script_number schedule.TooLong = 12
script_number (schedule.BadLine line bad) = 2
script_number schedule.OutOfMemory = 5

abbrev pub unloaded_number : Unloaded → ℕ
unloaded_number (Script refusal) = script_number refusal
unloaded_number Keeper = 8
unloaded_number NoKeyring = 6
unloaded_number (Keyring refusal) = 6
unloaded_number NoEntity = 6
unloaded_number (State bad) = 11
unloaded_number OutOfMemory = 5

abbrev pub number_of : NodeEnd → ℕ
number_of end.Done = 0
number_of (end.Unloaded why) = unloaded_number why
number_of end.Links = 9
number_of end.Dice = 10
number_of end.Keeper = 8
number_of end.OutOfMemory = 5
