-- A word with numbers behind it, which most faults are written as. No public clause speaks of it.
use Rattle.std.specs.Prelude.{ℕ, ◌≡◌, List, codes, Option, Some, None}
use Rattle.std.specs.Fmt.{decimal}
use Rattle.cx_base.specs.Joined.{◌<>◌}
use Rattle.cx_journal.specs.Words.{session_fault_text, ticket_fault_text, reason_text}
use Rattle.cx_journal.specs.declared.faults.BytesFault.{BytesFault}
use Rattle.cx_journal.specs.declared.faults.BytesFault.TheVariants as bytes
use Rattle.cx_journal.specs.declared.faults.LoginFault.{LoginFault}
use Rattle.cx_journal.specs.declared.faults.LoginFault.TheVariants as login
use Rattle.cx_journal.specs.declared.faults.SessionFault.{SessionFault}
use Rattle.cx_journal.specs.declared.faults.SessionFault.TheVariants as session
use Rattle.cx_journal.specs.declared.outcomes.Reason.{Reason}
use Rattle.cx_journal.specs.declared.outcomes.Reason.TheVariants as reason
use Rattle.cx_journal.specs.declared.outcomes.TicketFault.{TicketFault}
use Rattle.cx_journal.specs.declared.outcomes.TicketFault.TheVariants as fault

-- the word, and the numbers behind it
abbrev pub numbered : List ℕ → Option ℕ → Option ℕ → List ℕ
numbered word None second = word
numbered word (Some first) None = word <> codes " " <> decimal first
numbered word (Some first) (Some second) = word <> codes " " <> decimal first <> codes " " <> decimal second

-- ---- the numbers of each fault

abbrev pub bytes_number : BytesFault → Option ℕ
bytes_number (bytes.Features bits) = Some bits
bytes_number (bytes.Unexpected tag) = Some tag
bytes_number (bytes.Malformed place) = Some place
bytes_number _ = None

abbrev pub login_numbers : LoginFault → Option ℕ × Option ℕ
login_numbers (login.Reclaim gid) = (Some gid, None)
login_numbers (login.NonceWrong expected got) = (Some expected, Some got)
login_numbers _ = (None, None)

abbrev pub session_number : SessionFault → Option ℕ
session_number (session.CookieInUse number) = Some number
session_number (session.StaleConnect kept) = Some kept
session_number (session.StaleGlobal kept) = Some kept
session_number (session.Gap expected) = Some expected
session_number (session.Stale epoch) = Some epoch
session_number _ = None

abbrev pub ticket_numbers : TicketFault → Option ℕ × Option ℕ
ticket_numbers (fault.UnknownGeneration id) = (Some id, None)
ticket_numbers (fault.TicketUnopened id) = (Some id, None)
ticket_numbers (fault.GidDiffers claimed sealed) = (Some claimed, Some sealed)
ticket_numbers (fault.ChallengeWrong expected got) = (Some expected, Some got)
ticket_numbers _ = (None, None)

-- ---- the text of each fault that is written so

abbrev pub IsSessionFault : SessionFault → List ℕ → Type 0
IsSessionFault (session.OwnerDiffers entity gid) text = Unit {0}
IsSessionFault why text = text ≡ session_fault_text why

abbrev pub IsTicketFault : TicketFault → List ℕ → Type 0
IsTicketFault (fault.Expired expires now) text = Unit {0}
IsTicketFault why text = text ≡ ticket_fault_text why

abbrev pub IsReason : Reason → List ℕ → Type 0
IsReason (reason.Bytes why) text = Unit {0}
IsReason (reason.Login why) text = Unit {0}
IsReason (reason.Denied code) text = Unit {0}
IsReason (reason.NoTicket service) text = Unit {0}
IsReason (reason.Session why) text = Unit {0}
IsReason (reason.WrongService kept got) text = Unit {0}
IsReason (reason.Ticket why blob) text = Unit {0}
IsReason why text = text ≡ reason_text why
