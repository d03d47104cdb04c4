-- The words of a reason: its form, told by its first word, and what stands behind that.
use Rattle.std.specs.Prelude.{ℕ, ◌≡◌, true, false, List, [], ◌∷◌, Option, Some, None}
use Rattle.cx_journal.specs.declared.faults.BytesFault.{BytesFault}
use Rattle.cx_journal.specs.declared.faults.BytesFault.TheVariants as bytes
use Rattle.cx_journal.specs.declared.faults.LoginFault.{LoginFault}
use Rattle.cx_journal.specs.declared.faults.LoginFault.TheVariants as login
use Rattle.cx_journal.specs.declared.faults.SessionFault.{SessionFault}
use Rattle.cx_journal.specs.declared.faults.SessionFault.TheVariants as session
use Rattle.cx_journal.specs.declared.outcomes.Reason.{Reason}
use Rattle.cx_journal.specs.declared.outcomes.Reason.TheVariants as reason
use Rattle.cx_journal.specs.declared.outcomes.TicketFault.{TicketFault}
use Rattle.cx_journal.specs.declared.outcomes.TicketFault.TheVariants as fault
use Rattle.cx_audit_text.specs.words.Items.{JournalItem, ByteOf, EntityOf, FullBookWord, FullWord, NumberOf, ReadingOf, ShortOf, TicketOf, TypeOf, SpellsItems, is_whole}
use Rattle.cx_audit_text.specs.declared.words_places.CountedAbove.{CountedAbove}
use Rattle.cx_audit_text.specs.declared.words_places.JournalPlace.{JournalPlace}
use Rattle.cx_audit_text.specs.declared.words_places.JournalPlace.TheVariants as at
use Rattle.cx_audit_text.specs.declared.words_reasons.PlainForm.TheVariants as plain
use Rattle.cx_audit_text.specs.declared.words_reasons.NumberedForm.TheVariants as numbered
use Rattle.cx_audit_text.specs.declared.words_reasons.FullForm.TheVariants as full
use Rattle.cx_audit_text.specs.declared.words_reasons.TicketForm.{TicketForm}
use Rattle.cx_audit_text.specs.declared.words_reasons.TicketForm.TheVariants as ticket
use Rattle.cx_audit_text.specs.declared.words_reasons.ReasonForm.{ReasonForm}
use Rattle.cx_audit_text.specs.declared.words_reasons.ReasonForm.TheVariants as form

-- ---- the form of a reason

abbrev pub bytes_form : BytesFault → ReasonForm
bytes_form bytes.BadBanner = form.Plain plain.BadBanner
bytes_form bytes.BadCrc = form.Plain plain.BadCrc
bytes_form bytes.BadShape = form.Plain plain.BadShape
bytes_form bytes.TooLong = form.Plain plain.TooLong
bytes_form bytes.BadTag = form.Plain plain.BadTag
bytes_form bytes.Aborted = form.Plain plain.Aborted
bytes_form bytes.CounterSpent = form.Plain plain.CounterSpent
bytes_form (bytes.Features bits) = form.Numbered numbered.Features
bytes_form (bytes.Unexpected tag) = form.Unexpected
bytes_form (bytes.Malformed place) = form.Numbered numbered.Malformed

abbrev pub login_form : LoginFault → ReasonForm
login_form login.Method = form.Plain plain.Method
login_form login.Mode = form.Plain plain.Mode
login_form login.UnknownEntity = form.Plain plain.UnknownEntity
login_form login.WrongProof = form.Plain plain.WrongProof
login_form login.GidsSpent = form.Plain plain.GidsSpent
login_form login.IdsSpent = form.Plain plain.IdsSpent
login_form login.SignatureWrong = form.Plain plain.SignatureWrong
login_form login.Unopened = form.Plain plain.Unopened
login_form (login.Reclaim gid) = form.Numbered numbered.Reclaim
login_form (login.NonceWrong expected got) = form.NonceWrong

abbrev pub session_form : SessionFault → ReasonForm
session_form session.BookFull = form.Full full.Book
session_form session.UnknownSession = form.Plain plain.UnknownSession
session_form (session.OwnerDiffers entity gid) = form.OwnerDiffers
session_form (session.CookieInUse number) = form.Numbered numbered.CookieInUse
session_form (session.StaleConnect number) = form.Numbered numbered.StaleConnect
session_form (session.StaleGlobal number) = form.Numbered numbered.StaleGlobal
session_form (session.Gap number) = form.Numbered numbered.Gap
session_form (session.Stale number) = form.Numbered numbered.Stale

abbrev pub ticket_form : TicketFault → TicketForm
ticket_form (fault.UnknownGeneration id) = ticket.UnknownGeneration
ticket_form (fault.TicketUnopened id) = ticket.TicketUnopened
ticket_form (fault.GidDiffers claimed sealed) = ticket.GidDiffers
ticket_form (fault.Expired expires now) = ticket.Expired
ticket_form fault.AuthorizerUnopened = ticket.AuthorizerUnopened
ticket_form (fault.ChallengeWrong expected got) = ticket.ChallengeWrong

abbrev pub reason_form : Reason → ReasonForm
reason_form (reason.Bytes why) = bytes_form why
reason_form reason.LinksFull = form.Full full.Links
reason_form (reason.Login why) = login_form why
reason_form reason.NotADaemon = form.Plain plain.NotADaemon
reason_form reason.BadRequest = form.Plain plain.BadRequest
reason_form reason.BadReply = form.Plain plain.BadReply
reason_form reason.Reset = form.Plain plain.Reset
reason_form reason.Lost = form.Plain plain.Lost
reason_form reason.NoSession = form.Plain plain.NoSession
reason_form reason.NoLink = form.Plain plain.NoLink
reason_form reason.Busy = form.Plain plain.Busy
reason_form reason.Spent = form.Plain plain.Spent
reason_form (reason.Denied code) = form.Denied
reason_form (reason.NoTicket service) = form.NoTicket
reason_form reason.QueueFull = form.Full full.Queue
reason_form (reason.Session why) = session_form why
reason_form (reason.WrongService kept got) = form.WrongService
reason_form (reason.Ticket why blob) = form.Ticket (ticket_form why)

-- ---- what stands behind its first word

abbrev pub bytes_values : BytesFault → List JournalItem
bytes_values (bytes.Features bits) = NumberOf bits ∷ []
bytes_values (bytes.Unexpected tag) = ByteOf tag ∷ []
bytes_values (bytes.Malformed place) = NumberOf place ∷ []
bytes_values _ = []

abbrev pub login_values : LoginFault → List JournalItem
login_values (login.Reclaim gid) = NumberOf gid ∷ []
login_values (login.NonceWrong expected got) = NumberOf expected ∷ NumberOf got ∷ []
login_values _ = []

abbrev pub session_values : SessionFault → List JournalItem
session_values session.BookFull = FullBookWord ∷ []
session_values session.UnknownSession = []
session_values (session.OwnerDiffers entity gid) = EntityOf entity ∷ NumberOf gid ∷ []
session_values (session.CookieInUse number) = NumberOf number ∷ []
session_values (session.StaleConnect kept) = NumberOf kept ∷ []
session_values (session.StaleGlobal kept) = NumberOf kept ∷ []
session_values (session.Gap expected) = NumberOf expected ∷ []
session_values (session.Stale epoch) = NumberOf epoch ∷ []

abbrev pub ticket_values : TicketFault → List ℕ → List JournalItem
ticket_values (fault.UnknownGeneration id) blob = NumberOf id ∷ TicketOf blob ∷ []
ticket_values (fault.TicketUnopened id) blob = NumberOf id ∷ TicketOf blob ∷ []
ticket_values (fault.GidDiffers claimed sealed) blob = NumberOf claimed ∷ NumberOf sealed ∷ TicketOf blob ∷ []
ticket_values (fault.Expired expires now) blob = ReadingOf expires ∷ ReadingOf now ∷ TicketOf blob ∷ []
ticket_values fault.AuthorizerUnopened blob = TicketOf blob ∷ []
ticket_values (fault.ChallengeWrong expected got) blob = NumberOf expected ∷ NumberOf got ∷ TicketOf blob ∷ []

abbrev pub reason_values : Reason → List JournalItem
reason_values (reason.Bytes why) = bytes_values why
reason_values reason.LinksFull = FullWord ∷ []
reason_values (reason.Login why) = login_values why
reason_values (reason.Denied code) = ShortOf code ∷ []
reason_values (reason.NoTicket service) = TypeOf service ∷ []
reason_values reason.QueueFull = FullWord ∷ []
reason_values (reason.Session why) = session_values why
reason_values (reason.WrongService kept got) = TypeOf kept ∷ TypeOf got ∷ []
reason_values (reason.Ticket why blob) = ticket_values why blob
reason_values reason.NotADaemon = []
reason_values reason.BadRequest = []
reason_values reason.BadReply = []
reason_values reason.Reset = []
reason_values reason.Lost = []
reason_values reason.NoSession = []
reason_values reason.NoLink = []
reason_values reason.Busy = []
reason_values reason.Spent = []

-- the places behind a first word of this form
abbrev pub ticket_places : TicketForm → List JournalPlace
ticket_places ticket.UnknownGeneration = at.Number ∷ at.Ticket ∷ []
ticket_places ticket.TicketUnopened = at.Number ∷ at.Ticket ∷ []
ticket_places ticket.GidDiffers = at.Number ∷ at.Number ∷ at.Ticket ∷ []
ticket_places ticket.Expired = at.Reading ∷ at.Reading ∷ at.Ticket ∷ []
ticket_places ticket.AuthorizerUnopened = at.Ticket ∷ []
ticket_places ticket.ChallengeWrong = at.Number ∷ at.Number ∷ at.Ticket ∷ []

abbrev pub reason_places : ReasonForm → List JournalPlace
reason_places (form.Plain p) = []
reason_places (form.Numbered n) = at.Number ∷ []
reason_places (form.Full full.Links) = at.Full ∷ []
reason_places (form.Full full.Queue) = at.Full ∷ []
reason_places (form.Full full.Book) = at.FullBook ∷ []
reason_places form.Unexpected = at.Byte ∷ []
reason_places form.Denied = at.Short ∷ []
reason_places form.NonceWrong = at.Number ∷ at.Number ∷ []
reason_places form.NoTicket = at.Type ∷ []
reason_places form.WrongService = at.Type ∷ at.Type ∷ []
reason_places form.OwnerDiffers = at.Entity ∷ at.Number ∷ []
reason_places (form.Ticket t) = ticket_places t

-- what words behind a first word of this form are found to be: the reason that they spell; none where one of them isn't good
-- at its place
abbrev pub IsReasonRead : CountedAbove → ReasonForm → List (List ℕ) → Option Reason → Type 0
IsReasonRead counted head words None = is_whole counted (reason_places head) words ≡ false
IsReasonRead counted head words (Some why) =
    (reason_form why ≡ head) × SpellsItems counted (reason_values why) words × (is_whole counted (reason_places head) words ≡ true)
