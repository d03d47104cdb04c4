-- What a user reads of each status: what was wrong, and what to try.
use Rattle.std.specs.Prelude.{ℕ, List, [], codes, Some, None}
use Rattle.std.specs.Fmt.{decimal}
use Rattle.cx_base.specs.Joined.{◌<>◌}
use Rattle.cx_help.specs.audit.Wrong.{wrong_in_journal_text}
use Rattle.cx_command_line.specs.Forms.{help_text}
use Rattle.cx_help.specs.keyring.Sentences.{wrong_keyring_text}
use Rattle.cx_help.specs.declared.details.Detail.TheVariants.{Nothing}
use Rattle.cx_help.specs.line.Wrong.{wrong_text}
use Rattle.cx_help.specs.declared.sights.LineSight.{LineSight}
use Rattle.cx_top.specs.declared.status.Status.{Status}
use Rattle.cx_top.specs.declared.status.Status.TheVariants.{Done, Usage, BadSchedule, ReadFault, WriteFault, OutOfMemory, BadKeyring, Broken, TooLong, BadJournal}

abbrev pub bad_line_text : ℕ → LineSight → List ℕ
bad_line_text line sight = codes "line " <> decimal line <> codes " of the schedule: " <> wrong_text sight

-- what a status tells by itself, for wrong words the commands that are served; nothing where all is well
abbrev pub status_text : Status → List ℕ
status_text Done = []
status_text Usage = help_text
status_text (BadSchedule line bad) = bad_line_text line (record { bad = bad; remark = None })
status_text (BadKeyring line (Some why)) = wrong_keyring_text (record { line = line; why = why; detail = Nothing })
status_text (BadKeyring line None) =
    codes "the keyring has more than 4,096 sections; keep those of the entities that are in use"
status_text ReadFault =
    codes "standard input could not be read, and nothing was written; give a file that can be read, as in: cephx_cli replay < FILE"
status_text WriteFault =
    codes "standard output could not take the whole text; see that there is room for it and that its reader doesn't end early, and run the command again"
status_text OutOfMemory =
    codes "memory was wanting, and nothing was written; give the program more memory, or a shorter input"
status_text TooLong =
    codes "the input is too long: at most 1,048,576 bytes and 20,000 lines are read; cut it into files of their own"
status_text (BadJournal line bad) = wrong_in_journal_text line [] bad
status_text Broken = codes "a premise of the run is broken"
