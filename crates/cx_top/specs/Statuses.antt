-- The statuses of a run.
use Rattle.std.specs.Prelude.{ℕ, ◌≡◌, Some, None}
use Rattle.cx_audit.specs.declared.verdicts.AuditRefusal.{AuditRefusal}
use Rattle.cx_audit.specs.declared.verdicts.AuditRefusal.TheVariants as audit
use Rattle.cx_keyring.specs.declared.refusals.KeyringRefusal.{KeyringRefusal}
use Rattle.cx_keyring.specs.declared.refusals.KeyringRefusal.TheVariants as keyring
use Rattle.cx_schedule.specs.declared.refusals.ScheduleRefusal.{ScheduleRefusal}
use Rattle.cx_schedule.specs.declared.refusals.ScheduleRefusal.TheVariants as refusal
use Rattle.cx_top.specs.declared.input.Unread.{Unread}
use Rattle.cx_top.specs.declared.input.Unread.TheVariants as unread
use Rattle.cx_top.specs.declared.status.Status.{Status}
use Rattle.cx_top.specs.declared.status.Status.TheVariants.{Done, Usage, BadSchedule, ReadFault, WriteFault, OutOfMemory, BadKeyring, Broken, TooLong, BadJournal}

-- the number with which the program ends
abbrev pub number_of : Status → ℕ
number_of Done = 0
number_of Usage = 1
number_of (BadSchedule _ _) = 2
number_of ReadFault = 3
number_of WriteFault = 4
number_of OutOfMemory = 5
number_of (BadKeyring _ _) = 6
number_of Broken = 7
number_of TooLong = 12
number_of (BadJournal _ _) = 14

-- the status of a refused schedule
abbrev pub schedule_status : ScheduleRefusal → Status
schedule_status refusal.TooLong = TooLong
schedule_status (refusal.BadLine line bad) = BadSchedule line bad
schedule_status refusal.OutOfMemory = OutOfMemory

-- the status of a refused keyring
abbrev pub keyring_status : KeyringRefusal → Status
keyring_status (keyring.BadLine line why) = BadKeyring line (Some why)
keyring_status (keyring.TooMany limit) = BadKeyring 0 None
keyring_status keyring.OutOfMemory = OutOfMemory

-- the status of a refused journal
abbrev pub audit_status : AuditRefusal → Status
audit_status (audit.BadLine line bad) = BadJournal line bad
audit_status audit.OutOfMemory = OutOfMemory

-- the status of an input that was not read to its end
abbrev pub input_status : Unread → Status
input_status unread.Fault = ReadFault
input_status unread.TooLong = TooLong
input_status unread.OutOfMemory = OutOfMemory

-- the work was done, whether or not a run broke a premise, or memory was wanting
abbrev pub IsServed : Status → Type 0
IsServed Done = Unit {0}
IsServed Broken = Unit {0}
IsServed OutOfMemory = Unit {0}
IsServed Usage = ⊥
IsServed (BadSchedule _ _) = ⊥
IsServed ReadFault = ⊥
IsServed WriteFault = ⊥
IsServed (BadKeyring _ _) = ⊥
IsServed TooLong = ⊥
IsServed (BadJournal _ _) = ⊥

-- this status, or want of memory
abbrev pub IsOrMemory : Status → Status → Type 0
IsOrMemory expected OutOfMemory = Unit {0}
IsOrMemory expected Done = Done ≡ expected
IsOrMemory expected Usage = Usage ≡ expected
IsOrMemory expected (BadSchedule line bad) = BadSchedule line bad ≡ expected
IsOrMemory expected ReadFault = ReadFault ≡ expected
IsOrMemory expected WriteFault = WriteFault ≡ expected
IsOrMemory expected (BadKeyring line why) = BadKeyring line why ≡ expected
IsOrMemory expected Broken = Broken ≡ expected
IsOrMemory expected TooLong = TooLong ≡ expected
IsOrMemory expected (BadJournal line bad) = BadJournal line bad ≡ expected
