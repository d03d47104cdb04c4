-- From the bytes of an input to the input.
use Rattle.std.proofs.Common.{◌≡◌, ℕ, ◌≤◌, ◌⊎◌, inl, inr, ◌∙◌, List, [], length, string_bytes, Option, Some, None, Result, Ok, Err, IfErr, arith, refl}
use Rattle.std.proofs.Math.ListN.{drop_of_length-le}
use Rattle.cx_words.specs.Cutting.{IsShort}
use Rattle.cx_top.specs.declared.commands.Subcommand.{Subcommand}
use Rattle.cx_top.specs.declared.status.Status.{Status}
use Rattle.cx_top.specs.declared.status.Status.TheVariants.{Done, Usage, BadSchedule, ReadFault, WriteFault, OutOfMemory, BadKeyring, Broken, TooLong, BadJournal}
use Rattle.cx_top.specs.Replays.{GaveAll}
use Rattle.cx_top.specs.Causes.{IsBytesCause, IsBytesEnd, IsEndOf, IsInputCause, IsTooLong}
use Rattle.cx_top.specs.Inputs.{IsPastLimit, IsUnread}
use Rattle.cx_top.specs.Statuses.{IsOrMemory, input_status}
use Rattle.cx_top.specs.declared.input.Unread.{Unread}
use Rattle.cx_top.specs.declared.input.Unread.TheVariants as unread
use Rattle.cx_top.specs.Told.{refusal_told}
use Rattle.cx_top.specs.declared.program_end.ProgramEnd.{ProgramEnd}

too_long : (left now : Option (List ℕ)) (bytes : List ℕ) → GaveAll left now bytes → length bytes ≤ 1048576 → (IsShort bytes → ⊥) → IsTooLong left now
too_long None now bytes all short cause = tt
too_long (Some left) now bytes all short cause = (
  rw (← all.0) cause,
  rw (← all.0, all.1, drop_of_length-le bytes {i = 1048577} (omega arith)) refl,
)

status_cause : (command : Subcommand) (status : Status) (left now : Option (List ℕ)) (bytes : List ℕ) (before after : ℕ) (told : List ℕ) → GaveAll left now bytes → length bytes ≤ 1048576
    → IsBytesCause command bytes status → told ≡ refusal_told bytes status → IsInputCause command left now before after status told
status_cause command TooLong left now bytes before after told all short cause says = (too_long left now bytes all short cause, says)
status_cause command (BadSchedule line bad) left now bytes before after told all short cause says = record { bytes = bytes; read = all; cause = cause; says = says }
status_cause command (BadKeyring line why) left now bytes before after told all short cause says = record { bytes = bytes; read = all; cause = cause; says = says }
status_cause command (BadJournal line bad) left now bytes before after told all short cause says = record { bytes = bytes; read = all; cause = cause; says = says }
status_cause command OutOfMemory left now bytes before after told all short cause says = tt
status_cause command Done left now bytes before after told all short cause says = cause
status_cause command Usage left now bytes before after told all short cause says = cause
status_cause command ReadFault left now bytes before after told all short cause says = absurd cause
status_cause command WriteFault left now bytes before after told all short cause says = cause
status_cause command Broken left now bytes before after told all short cause says = cause

end_cause : (command : Subcommand) (ended : ProgramEnd) (left now : Option (List ℕ)) (bytes : List ℕ) (before after : ℕ) → GaveAll left now bytes → length bytes ≤ 1048576
    → IsBytesEnd command bytes ended → IsInputCause command left now before after ended.status (string_bytes ended.told)
end_cause command ended left now bytes before after all short (status, cause, inl memory) = rw memory tt
end_cause command ended left now bytes before after all short (status, cause, inr (same, says)) =
    rw same (status_cause command status left now bytes before after (string_bytes ended.told) all short cause says)

pub input_cause : {X : Type 0} (command : Subcommand) (answer : Result X ProgramEnd) (left now : Option (List ℕ)) (bytes asked : List ℕ) (before after : ℕ) → GaveAll left now bytes → length bytes ≤ 1048576 → asked ≡ bytes
    → IfErr answer (IsBytesEnd command asked) → IfErr answer (λ ended. IsInputCause command left now before after ended.status (string_bytes ended.told))
input_cause command (Ok made) left now bytes asked before after all short same ends = tt
input_cause command (Err ended) left now bytes asked before after all short same ends =
    end_cause command ended left now bytes before after all short (rw same at ends)

-- ---- how it ended

pub ends_so : (bytes : List ℕ) (status : Status) (ended : ProgramEnd) → ended.status ≡ status → string_bytes ended.told ≡ refusal_told bytes status → IsEndOf bytes status ended
ends_so bytes status ended same says = inr (same, says)

pub ends_dry : (bytes : List ℕ) (status : Status) (ended : ProgramEnd) → ended.status ≡ OutOfMemory → IsEndOf bytes status ended
ends_dry bytes status ended memory = inl memory

pub says_it : (told wanted : List ℕ) → told ≡ wanted → (told ≡ []) ⊎ (told ≡ wanted)
says_it told wanted same = inr same

pub says_nothing : (told wanted : List ℕ) → told ≡ [] → (told ≡ []) ⊎ (told ≡ wanted)
says_nothing told wanted none = inl none

pub end_memory : (bytes : List ℕ) (status : Status) (ended : ProgramEnd) → IsEndOf bytes status ended → status ≡ OutOfMemory → ended.status ≡ OutOfMemory
end_memory bytes status ended (inl memory) is = memory
end_memory bytes status ended (inr (same, says)) is = same ∙ is

pub end_reason : (bytes : List ℕ) (why status : Status) (ended : ProgramEnd) → IsEndOf bytes status ended → IsOrMemory why status → IsOrMemory why ended.status
end_reason bytes why status ended (inl memory) or = rw memory tt
end_reason bytes why status ended (inr (same, says)) or = rw same or

pub made_end : (command : Subcommand) (bytes : List ℕ) (status : Status) (ended : ProgramEnd) → IsBytesCause command bytes status → IsEndOf bytes status ended → IsBytesEnd command bytes ended
made_end command bytes status ended cause ends = (status, cause, ends)

-- ---- inputs that aren't read to their end

past_too_long : (left now : Option (List ℕ)) → IsPastLimit left now → IsTooLong left now
past_too_long None now past = tt
past_too_long (Some left) now past = ((λ (short : IsShort left). omega (arith, short.0, past.0)), past.1)

pub unread_cause : (command : Subcommand) (left now : Option (List ℕ)) (before after : ℕ) (why : Unread) (ended : ProgramEnd) → IsUnread left now before after why
    → ended.status ≡ input_status why → string_bytes ended.told ≡ [] → IsInputCause command left now before after ended.status (string_bytes ended.told)
unread_cause command left now before after unread.Fault ended cause is says = rw is (cause, says)
unread_cause command left now before after unread.TooLong ended cause is says = rw is (past_too_long left now cause, says)
unread_cause command left now before after unread.OutOfMemory ended cause is says = rw is tt
