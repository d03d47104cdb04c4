-- Why a command refuses its input, and how it must end where nothing is in its way.
use Rattle.std.specs.Prelude.{ℕ, ◌<◌, ◌≤◌, ◌≡◌, ◌⊎◌, List, [], length, drop, string_bytes, Option, Some, None}
use Rattle.cx_base.specs.Streams.{Rose}
use Rattle.cx_audit_text.specs.lines.Reading.{IsFirstBad, IsJournal, nothing}
use Rattle.cx_audit_text.specs.declared.entries.JournalLine.{JournalLine}
use Rattle.cx_keyring.specs.declared.entries.Entry.{Entry}
use Rattle.cx_keyring.specs.declared.faults.KeyringFault.{KeyringFault}
use Rattle.cx_keyring.specs.declared.refusals.KeyringRefusal.TheVariants as keyring
use Rattle.cx_keyring.specs.Rings.{KeyringText, IsKeyringCause}
use Rattle.cx_lines.specs.declared.lines.Numbered.{Numbered}
use Rattle.cx_schedule.specs.declared.refusals.ScheduleRefusal.TheVariants as schedule
use Rattle.cx_schedule.specs.Files.{Lines, IsScheduleCause}
use Rattle.cx_words.specs.Cutting.{IsShort, lines_of}
use Rattle.cx_top.specs.declared.commands.Subcommand.{Subcommand}
use Rattle.cx_top.specs.declared.commands.Subcommand.TheVariants.{Replay, Keyring, Audit}
use Rattle.cx_top.specs.declared.status.Status.{Status}
use Rattle.cx_top.specs.declared.status.Status.TheVariants.{Done, Usage, BadSchedule, ReadFault, WriteFault, OutOfMemory, BadKeyring, Broken, TooLong, BadJournal}
use Rattle.cx_top.specs.declared.program_end.ProgramEnd.{ProgramEnd}
use Rattle.cx_top.specs.Replays.{GaveAll}
use Rattle.cx_top.specs.Told.{refusal_told}

-- ---- the bytes

-- this line is the first of the keyring that is wrong, with this fault; or, at line 0 and with no fault, the bytes are a
-- keyring of more than 4,096 entries
abbrev pub IsBadKeyring : List ℕ → ℕ → Option KeyringFault → Type 0
IsBadKeyring bytes line (Some why) = IsKeyringCause bytes (keyring.BadLine line why)
IsBadKeyring bytes line None = (line ≡ 0) × (ring : List Entry) × KeyringText bytes ring × (4096 < length ring)

-- these bytes must be refused with this status
abbrev pub IsReasonFor : Subcommand → List ℕ → Status → Type 0
IsReasonFor command bytes TooLong = IsShort bytes → ⊥
IsReasonFor Replay bytes (BadSchedule line bad) = IsScheduleCause bytes (schedule.BadLine line bad)
IsReasonFor Keyring bytes (BadKeyring line why) = IsShort bytes × IsBadKeyring bytes line why
IsReasonFor Audit bytes (BadJournal line bad) = IsShort bytes × IsFirstBad nothing (lines_of bytes) line bad
IsReasonFor command bytes _ = ⊥

-- why these bytes are refused; want of memory is free
abbrev pub IsBytesCause : Subcommand → List ℕ → Status → Type 0
IsBytesCause command bytes OutOfMemory = Unit {0}
IsBytesCause command bytes Done = ⊥
IsBytesCause command bytes Usage = ⊥
IsBytesCause command bytes ReadFault = ⊥
IsBytesCause command bytes WriteFault = ⊥
IsBytesCause command bytes Broken = ⊥
IsBytesCause command bytes TooLong = IsReasonFor command bytes TooLong
IsBytesCause command bytes (BadSchedule line bad) = IsReasonFor command bytes (BadSchedule line bad)
IsBytesCause command bytes (BadKeyring line why) = IsReasonFor command bytes (BadKeyring line why)
IsBytesCause command bytes (BadJournal line bad) = IsReasonFor command bytes (BadJournal line bad)

-- the bytes are a schedule, a keyring or a journal, within the limits
abbrev pub IsAnswered : Subcommand → List ℕ → Type 0
IsAnswered Replay bytes = (script : List Numbered) × Lines bytes script × IsShort bytes
IsAnswered Keyring bytes = (ring : List Entry) × KeyringText bytes ring × (length ring ≤ 4096) × IsShort bytes
IsAnswered Audit bytes = (said : List JournalLine) × IsJournal bytes said × IsShort bytes

-- how a run of these bytes ended that are refused with this status: with it, and what is said of the bytes; or memory is wanting
abbrev pub IsEndOf : List ℕ → Status → ProgramEnd → Type 0
IsEndOf bytes status ended =
    (ended.status ≡ OutOfMemory) ⊎ ((ended.status ≡ status) × (string_bytes ended.told ≡ refusal_told bytes status))

-- how it ended with bytes that are refused: with a status for which there is a cause, and what is said of the bytes
abbrev pub IsBytesEnd : Subcommand → List ℕ → ProgramEnd → Type 0
IsBytesEnd command bytes ended = (status : Status) × IsBytesCause command bytes status × IsEndOf bytes status ended

-- ---- the input

-- the whole input was read, and must be refused with this status, of which this is said
pub record IsRefused (command : Subcommand) (left now : Option (List ℕ)) (status : Status) (told : List ℕ) : Type 0 where
  pub bytes : List ℕ
  pub read : GaveAll left now bytes
  pub cause : IsReasonFor command bytes status
  pub says : told ≡ refusal_told bytes status

-- where the source tells it: the input passes a limit, and no more was taken of it than one byte above the limit of bytes
abbrev pub IsTooLong : Option (List ℕ) → Option (List ℕ) → Type 0
IsTooLong None now = Unit {0}
IsTooLong (Some left) now = (IsShort left → ⊥) × (now ≡ Some (drop 1048577 left))

-- why the input is refused: by a limit, or at a line; and what is said of it. The other statuses don't speak of it
abbrev pub IsRefusedStatus : Subcommand → Option (List ℕ) → Option (List ℕ) → Status → List ℕ → Type 0
IsRefusedStatus command left now TooLong told = IsTooLong left now × (told ≡ [])
IsRefusedStatus command left now (BadSchedule line bad) told = IsRefused command left now (BadSchedule line bad) told
IsRefusedStatus command left now (BadKeyring line why) told = IsRefused command left now (BadKeyring line why) told
IsRefusedStatus command left now (BadJournal line bad) told = IsRefused command left now (BadJournal line bad) told
IsRefusedStatus command left now Done told = Unit {0}
IsRefusedStatus command left now Usage told = Unit {0}
IsRefusedStatus command left now ReadFault told = told ≡ []
IsRefusedStatus command left now WriteFault told = told ≡ []
IsRefusedStatus command left now Broken told = Unit {0}
IsRefusedStatus command left now OutOfMemory told = Unit {0}

-- why there is no text for this input: the count of its faults rose, or it is refused; want of memory is free
abbrev pub IsInputCause : Subcommand → Option (List ℕ) → Option (List ℕ) → ℕ → ℕ → Status → List ℕ → Type 0
IsInputCause command left now before after ReadFault told = Rose before after × (told ≡ [])
IsInputCause command left now before after TooLong told = IsTooLong left now × (told ≡ [])
IsInputCause command left now before after (BadSchedule line bad) told = IsRefused command left now (BadSchedule line bad) told
IsInputCause command left now before after (BadKeyring line why) told = IsRefused command left now (BadKeyring line why) told
IsInputCause command left now before after (BadJournal line bad) told = IsRefused command left now (BadJournal line bad) told
IsInputCause command left now before after OutOfMemory told = Unit {0}
IsInputCause command left now before after Done told = ⊥
IsInputCause command left now before after Usage told = ⊥
IsInputCause command left now before after WriteFault told = ⊥
IsInputCause command left now before after Broken told = ⊥

-- the source tells what it has, and that is a schedule, a keyring or a journal within the limits
abbrev pub HasAnswer : Subcommand → Option (List ℕ) → Type 0
HasAnswer command None = ⊥
HasAnswer command (Some bytes) = IsAnswered command bytes

-- the source tells what it has, and that must be refused with this status
abbrev pub HasReason : Subcommand → Option (List ℕ) → Status → Type 0
HasReason command None why = ⊥
HasReason command (Some bytes) why = IsReasonFor command bytes why
