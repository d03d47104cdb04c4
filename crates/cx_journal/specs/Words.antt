-- The words of a journal's lines: readings, lists of ids, operations, outcomes, kinds of keys, and each reason.
use Rattle.std.specs.Prelude.{ℕ, ◌/◌, ◌%◌, ◌-◌, ◌==◌, if◌then◌else◌, List, [], ◌∷◌, length, map, replicate, codes, Option, Some, None}
use Rattle.std.specs.List.{join_with_byte}
use Rattle.std.specs.Fmt.{decimal}
use Rattle.hex.specs.Hex.{encode_lower}
use Rattle.cx_base.specs.Joined.{◌<>◌}
use Rattle.cx_base.specs.Names.{type_word, name_text, access_word}
use Rattle.cx_base.specs.declared.operations.Operation.{Operation}
use Rattle.cx_rotate.specs.declared.generations.Generation.{Generation}
use Rattle.cx_journal.specs.declared.faults.BytesFault.{BytesFault}
use Rattle.cx_journal.specs.declared.faults.BytesFault.TheVariants as bytes
use Rattle.cx_journal.specs.declared.faults.LoginFault.{LoginFault}
use Rattle.cx_journal.specs.declared.faults.LoginFault.TheVariants as login
use Rattle.cx_journal.specs.declared.faults.SessionFault.{SessionFault}
use Rattle.cx_journal.specs.declared.faults.SessionFault.TheVariants as session
use Rattle.cx_journal.specs.declared.outcomes.Outcome.{Outcome}
use Rattle.cx_journal.specs.declared.outcomes.Outcome.TheVariants as outcome
use Rattle.cx_journal.specs.declared.outcomes.Reason.{Reason}
use Rattle.cx_journal.specs.declared.outcomes.Reason.TheVariants as reason
use Rattle.cx_journal.specs.declared.outcomes.TicketFault.{TicketFault}
use Rattle.cx_journal.specs.declared.outcomes.TicketFault.TheVariants as fault
use Rattle.cx_journal.specs.declared.premises.KeyKind.{KeyKind}
use Rattle.cx_journal.specs.declared.premises.KeyKind.TheVariants as kind
use Rattle.cx_journal.specs.declared.premises.Premise.{Premise}
use Rattle.cx_journal.specs.declared.premises.Premise.TheVariants as premise

-- a number below 10^9 in nine digits
abbrev pub nine_digits : ℕ → List ℕ
nine_digits n = replicate (9 - length (decimal n)) 48 <> decimal n

-- a reading in seconds, with a point and nine digits where its nanoseconds aren't zero
abbrev pub reading_text : ℕ → List ℕ
reading_text reading =
    if reading % 1000000000 == 0
    then decimal (reading / 1000000000)
    else decimal (reading / 1000000000) <> codes "." <> nine_digits (reading % 1000000000)

-- the reading at which a view was asked for; `-` where no fetch was
abbrev pub asked_text : Option ℕ → List ℕ
asked_text None = codes "-"
asked_text (Some reading) = reading_text reading

-- the ids of generations, joined by commas; `-` where there are none
abbrev pub ids_text : List Generation → List ℕ
ids_text [] = codes "-"
ids_text (g ∷ gs) = join_with_byte 44 (map (λ k. decimal k.id) (g ∷ gs))

-- a word, or `-` for the empty one
abbrev pub word_text : List ℕ → List ℕ
word_text [] = codes "-"
word_text (b ∷ bs) = b ∷ bs

-- bytes in hex, in lower case, or `-` for none
abbrev pub data_text : List ℕ → List ℕ
data_text [] = codes "-"
data_text (b ∷ bs) = encode_lower (b ∷ bs)

-- the five words of an operation
abbrev pub operation_text : Operation → List ℕ
operation_text o =
    access_word o.access <> codes " " <> word_text o.pool <> codes " " <> word_text o.namespace <> codes " " <> word_text o.object
    <> codes " " <> data_text o.bytes

-- how a daemon answered
abbrev pub outcome_word : Outcome → List ℕ
outcome_word outcome.Done = codes "done"
outcome_word outcome.Denied = codes "denied"
outcome_word outcome.NoHandler = codes "no-handler"

-- ---- what breaks a run

abbrev pub premise_word : Premise → List ℕ
premise_word premise.Sealing = codes "sealing"
premise_word premise.Draw = codes "draw"

abbrev pub key_kind_word : KeyKind → List ℕ
key_kind_word kind.Principal = codes "principal"
key_kind_word kind.Auth = codes "auth"
key_kind_word kind.Service = codes "service"
key_kind_word kind.Session = codes "session"
key_kind_word kind.Connection = codes "connection"
key_kind_word kind.Proof = codes "proof"
key_kind_word kind.Signature = codes "signature"
key_kind_word kind.Challenge = codes "challenge"
key_kind_word kind.Nonce = codes "nonce"
key_kind_word kind.Cookie = codes "cookie"
key_kind_word kind.Rotation = codes "rotation"

-- ---- why something was refused

-- what came on a link
abbrev pub bytes_fault_text : BytesFault → List ℕ
bytes_fault_text bytes.BadBanner = codes "bad-banner"
bytes_fault_text (bytes.Features bits) = codes "features " <> decimal bits
bytes_fault_text bytes.BadCrc = codes "bad-crc"
bytes_fault_text bytes.BadShape = codes "bad-shape"
bytes_fault_text bytes.TooLong = codes "too-long"
bytes_fault_text bytes.BadTag = codes "bad-tag"
bytes_fault_text bytes.Aborted = codes "aborted"
bytes_fault_text bytes.CounterSpent = codes "counter-spent"
bytes_fault_text (bytes.Unexpected tag) = codes "unexpected " <> decimal tag
bytes_fault_text (bytes.Malformed place) = codes "malformed " <> decimal place

-- a login
abbrev pub login_fault_text : LoginFault → List ℕ
login_fault_text login.Method = codes "method"
login_fault_text login.Mode = codes "mode"
login_fault_text login.UnknownEntity = codes "unknown-entity"
login_fault_text login.WrongProof = codes "wrong-proof"
login_fault_text (login.Reclaim gid) = codes "reclaim " <> decimal gid
login_fault_text login.GidsSpent = codes "gids-spent"
login_fault_text login.IdsSpent = codes "ids-spent"
login_fault_text login.SignatureWrong = codes "signature-wrong"
login_fault_text login.Unopened = codes "unopened"
login_fault_text (login.NonceWrong expected got) = codes "nonce-wrong " <> decimal expected <> codes " " <> decimal got

-- a session, or a message of one
abbrev pub session_fault_text : SessionFault → List ℕ
session_fault_text session.BookFull = codes "book-full 4096"
session_fault_text (session.CookieInUse number) = codes "cookie-in-use " <> decimal number
session_fault_text session.UnknownSession = codes "unknown-session"
session_fault_text (session.OwnerDiffers entity gid) = codes "owner-differs " <> name_text entity <> codes " " <> decimal gid
session_fault_text (session.StaleConnect kept) = codes "stale-connect " <> decimal kept
session_fault_text (session.StaleGlobal kept) = codes "stale-global " <> decimal kept
session_fault_text (session.Gap expected) = codes "gap " <> decimal expected
session_fault_text (session.Stale epoch) = codes "stale " <> decimal epoch

-- a ticket, or the authorizer that came with it
abbrev pub ticket_fault_text : TicketFault → List ℕ
ticket_fault_text (fault.UnknownGeneration id) = codes "unknown-generation " <> decimal id
ticket_fault_text (fault.TicketUnopened id) = codes "ticket-unopened " <> decimal id
ticket_fault_text (fault.GidDiffers claimed sealed) = codes "gid-differs " <> decimal claimed <> codes " " <> decimal sealed
ticket_fault_text (fault.Expired expires now) = codes "expired " <> reading_text expires <> codes " " <> reading_text now
ticket_fault_text fault.AuthorizerUnopened = codes "authorizer-unopened"
ticket_fault_text (fault.ChallengeWrong expected got) = codes "challenge-wrong " <> decimal expected <> codes " " <> decimal got

-- anything
abbrev pub reason_text : Reason → List ℕ
reason_text (reason.Bytes why) = bytes_fault_text why
reason_text reason.LinksFull = codes "links-full 1024"
reason_text (reason.Login why) = login_fault_text why
reason_text reason.NotADaemon = codes "not-a-daemon"
reason_text reason.BadRequest = codes "bad-request"
reason_text reason.BadReply = codes "bad-reply"
reason_text (reason.Denied code) = codes "denied " <> decimal code
reason_text reason.Reset = codes "reset"
reason_text reason.Lost = codes "lost"
reason_text (reason.NoTicket service) = codes "no-ticket " <> type_word service
reason_text reason.NoSession = codes "no-session"
reason_text reason.NoLink = codes "no-link"
reason_text reason.Busy = codes "busy"
reason_text reason.QueueFull = codes "queue-full 1024"
reason_text reason.Spent = codes "spent"
reason_text (reason.Session why) = session_fault_text why
reason_text (reason.WrongService kept got) = codes "wrong-service " <> type_word kept <> codes " " <> type_word got
reason_text (reason.Ticket why blob) = ticket_fault_text why
