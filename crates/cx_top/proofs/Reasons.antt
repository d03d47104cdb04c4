-- From a reader's reasons to those of the command.
use Rattle.std.proofs.Common.{◌≡◌, ℕ, ◌⊎◌, inl, inr, List, Some, None, refl, sym, ap, ◌∙◌}
use Rattle.cx_audit.specs.Verdicts.{IsAuditCause, IsRefusedAt}
use Rattle.cx_audit.specs.declared.verdicts.AuditRefusal.{AuditRefusal}
use Rattle.cx_audit.specs.declared.verdicts.AuditRefusal.TheVariants as audit
use Rattle.cx_audit_text.specs.lines.Reading.{IsFirstBad, IsJournal, nothing}
use Rattle.cx_audit_text.specs.declared.entries.JournalLine.{JournalLine}
use Rattle.cx_audit_text.specs.declared.refusals.WrongLine.{WrongLine}
use Rattle.cx_keyring.specs.declared.refusals.KeyringRefusal.{KeyringRefusal}
use Rattle.cx_keyring.specs.declared.refusals.KeyringRefusal.TheVariants as keyring
use Rattle.cx_keyring.specs.Rings as rings
use Rattle.cx_schedule.specs.Files as files
use Rattle.cx_schedule.specs.declared.refusals.ScheduleRefusal.{ScheduleRefusal}
use Rattle.cx_schedule.specs.declared.refusals.ScheduleRefusal.TheVariants as schedule
use Rattle.cx_words.specs.Cutting.{IsShort, lines_of}
use Rattle.cx_top.specs.declared.commands.Subcommand.TheVariants.{Replay, Keyring, Audit}
use Rattle.cx_top.specs.declared.status.Status.{Status}
use Rattle.cx_top.specs.declared.status.Status.TheVariants.{Done, Usage, BadSchedule, ReadFault, WriteFault, OutOfMemory, BadKeyring, Broken, TooLong, BadJournal}
use Rattle.cx_top.specs.Causes.{IsAnswered, IsBytesCause, IsReasonFor}
use Rattle.cx_top.specs.Statuses.{IsOrMemory, audit_status, keyring_status, schedule_status}

-- ---- schedules

-- the status of what is refused for a reason is that of the reason, or want of memory
or_schedule : (got why : ScheduleRefusal) (status : Status) → schedule_status why ≡ status → (got ≡ schedule.OutOfMemory) ⊎ (got ≡ why) → IsOrMemory status (schedule_status got)
or_schedule got why status is (inl memory) = rw memory tt
or_schedule schedule.TooLong why status is (inr same) = ap schedule_status same ∙ is
or_schedule (schedule.BadLine line fault) why status is (inr same) = ap schedule_status same ∙ is
or_schedule schedule.OutOfMemory why status is (inr same) = tt

pub schedule_reason : (bytes : List ℕ) (got : ScheduleRefusal) (status : Status) → IsReasonFor Replay bytes status
    → ((why : ScheduleRefusal) → files.IsReason bytes why → (got ≡ schedule.OutOfMemory) ⊎ (got ≡ why)) → IsOrMemory status (schedule_status got)
schedule_reason bytes got TooLong reason exact = or_schedule got schedule.TooLong TooLong refl (exact schedule.TooLong reason)
schedule_reason bytes got (BadSchedule line bad) reason exact = or_schedule got (schedule.BadLine line bad) (BadSchedule line bad) refl (exact (schedule.BadLine line bad) reason)
schedule_reason bytes got Done reason exact = absurd reason
schedule_reason bytes got Usage reason exact = absurd reason
schedule_reason bytes got ReadFault reason exact = absurd reason
schedule_reason bytes got WriteFault reason exact = absurd reason
schedule_reason bytes got Broken reason exact = absurd reason
schedule_reason bytes got OutOfMemory reason exact = absurd reason
schedule_reason bytes got (BadKeyring line why) reason exact = absurd reason
schedule_reason bytes got (BadJournal line bad) reason exact = absurd reason

-- a schedule that is read has no reason to be refused
pub schedule_read : (bytes : List ℕ) (status : Status) → IsReasonFor Replay bytes status → ((why : ScheduleRefusal) → files.IsReason bytes why → ⊥) → ⊥
schedule_read bytes TooLong reason exact = exact schedule.TooLong reason
schedule_read bytes (BadSchedule line bad) reason exact = exact (schedule.BadLine line bad) reason
schedule_read bytes Done reason exact = reason
schedule_read bytes Usage reason exact = reason
schedule_read bytes ReadFault reason exact = reason
schedule_read bytes WriteFault reason exact = reason
schedule_read bytes Broken reason exact = reason
schedule_read bytes OutOfMemory reason exact = reason
schedule_read bytes (BadKeyring line why) reason exact = reason
schedule_read bytes (BadJournal line bad) reason exact = reason

-- ---- keyrings

or_keyring : (got why : KeyringRefusal) (status : Status) → keyring_status why ≡ status → (got ≡ keyring.OutOfMemory) ⊎ (got ≡ why) → IsOrMemory status (keyring_status got)
or_keyring got why status is (inl memory) = rw memory tt
or_keyring (keyring.BadLine line fault) why status is (inr same) = ap keyring_status same ∙ is
or_keyring (keyring.TooMany limit) why status is (inr same) = ap keyring_status same ∙ is
or_keyring keyring.OutOfMemory why status is (inr same) = tt

zero_line : (line : ℕ) → line ≡ 0 → keyring_status (keyring.TooMany 4096) ≡ BadKeyring line None
zero_line line is = ap (λ n. BadKeyring n None) (sym is)

pub keyring_reason : (bytes : List ℕ) (got : KeyringRefusal) (status : Status) → IsShort bytes → IsReasonFor Keyring bytes status
    → ((why : KeyringRefusal) → rings.IsReason bytes why → (got ≡ keyring.OutOfMemory) ⊎ (got ≡ why)) → IsOrMemory status (keyring_status got)
keyring_reason bytes got TooLong short reason exact = absurd (reason short)
keyring_reason bytes got (BadKeyring line (Some why)) short reason exact =
    or_keyring got (keyring.BadLine line why) (BadKeyring line (Some why)) refl (exact (keyring.BadLine line why) reason.1)
keyring_reason bytes got (BadKeyring line None) short (_, (is, ring, text, long)) exact =
    or_keyring got (keyring.TooMany 4096) (BadKeyring line None) (zero_line line is) (exact (keyring.TooMany 4096) (refl, ring, text, long))
keyring_reason bytes got (BadSchedule line bad) short reason exact = absurd reason
keyring_reason bytes got (BadJournal line bad) short reason exact = absurd reason
keyring_reason bytes got Done short reason exact = absurd reason
keyring_reason bytes got Usage short reason exact = absurd reason
keyring_reason bytes got ReadFault short reason exact = absurd reason
keyring_reason bytes got WriteFault short reason exact = absurd reason
keyring_reason bytes got Broken short reason exact = absurd reason
keyring_reason bytes got OutOfMemory short reason exact = absurd reason

-- a keyring that is read has no reason to be refused
pub keyring_read : (bytes : List ℕ) (status : Status) → IsShort bytes → IsReasonFor Keyring bytes status → ((why : KeyringRefusal) → rings.IsReason bytes why → ⊥) → ⊥
keyring_read bytes TooLong short reason exact = reason short
keyring_read bytes (BadKeyring line (Some why)) short reason exact = exact (keyring.BadLine line why) reason.1
keyring_read bytes (BadKeyring line None) short (_, (is, ring, text, long)) exact = exact (keyring.TooMany 4096) (refl, ring, text, long)
keyring_read bytes (BadSchedule line bad) short reason exact = reason
keyring_read bytes (BadJournal line bad) short reason exact = reason
keyring_read bytes Done short reason exact = reason
keyring_read bytes Usage short reason exact = reason
keyring_read bytes ReadFault short reason exact = reason
keyring_read bytes WriteFault short reason exact = reason
keyring_read bytes Broken short reason exact = reason
keyring_read bytes OutOfMemory short reason exact = reason

-- ---- journals

-- where it refuses the bytes, it is for the reason, or memory is wanting
or_journal : (line : ℕ) (bad : WrongLine) (got : AuditRefusal) → IsRefusedAt line bad got → IsOrMemory (BadJournal line bad) (audit_status got)
or_journal line bad (audit.BadLine n worse) (same, also) = ap (λ k. BadJournal k worse) same ∙ ap (λ w. BadJournal line w) also
or_journal line bad audit.OutOfMemory refused = tt

pub audit_reason : (bytes : List ℕ) (got : AuditRefusal) (status : Status) → IsShort bytes → IsReasonFor Audit bytes status
    → ((number : ℕ) (bad : WrongLine) → IsShort bytes → IsFirstBad nothing (lines_of bytes) number bad → IsRefusedAt number bad got) → IsOrMemory status (audit_status got)
audit_reason bytes got TooLong short reason exact = absurd (reason short)
audit_reason bytes got (BadJournal line bad) short reason exact = or_journal line bad got (exact line bad short reason.1)
audit_reason bytes got (BadSchedule line bad) short reason exact = absurd reason
audit_reason bytes got (BadKeyring line why) short reason exact = absurd reason
audit_reason bytes got Done short reason exact = absurd reason
audit_reason bytes got Usage short reason exact = absurd reason
audit_reason bytes got ReadFault short reason exact = absurd reason
audit_reason bytes got WriteFault short reason exact = absurd reason
audit_reason bytes got Broken short reason exact = absurd reason
audit_reason bytes got OutOfMemory short reason exact = absurd reason

-- a journal that is read has no reason to be refused
pub audit_read : (bytes : List ℕ) (status : Status) → IsShort bytes → IsReasonFor Audit bytes status
    → ((number : ℕ) (bad : WrongLine) → IsShort bytes → IsFirstBad nothing (lines_of bytes) number bad → ⊥) → ⊥
audit_read bytes TooLong short reason exact = reason short
audit_read bytes (BadJournal line bad) short reason exact = exact line bad short reason.1
audit_read bytes (BadSchedule line bad) short reason exact = reason
audit_read bytes (BadKeyring line why) short reason exact = reason
audit_read bytes Done short reason exact = reason
audit_read bytes Usage short reason exact = reason
audit_read bytes ReadFault short reason exact = reason
audit_read bytes WriteFault short reason exact = reason
audit_read bytes Broken short reason exact = reason
audit_read bytes OutOfMemory short reason exact = reason

-- why it refuses the bytes is why the command does
pub audit_cause : (bytes : List ℕ) (got : AuditRefusal) → IsShort bytes → IsAuditCause bytes got → IsBytesCause Audit bytes (audit_status got)
audit_cause bytes (audit.BadLine line bad) short cause = (short, cause)
audit_cause bytes audit.OutOfMemory short cause = tt

-- a journal is audited, or memory is wanting
pub audit_answered : (bytes : List ℕ) (got : AuditRefusal) → ((said : List JournalLine) → IsShort bytes → IsJournal bytes said → got ≡ audit.OutOfMemory) → IsAnswered Audit bytes
    → audit_status got ≡ OutOfMemory
audit_answered bytes got only (said, journal, short) = ap audit_status (only said short journal)
