-- The words that reasons begin with.
use Rattle.std.specs.Prelude.{ℕ, List, [], ◌∷◌, Option, codes}
use Rattle.cx_words.specs.lines.Choices.{chosen}
use Rattle.cx_audit_text.specs.declared.words_reasons.PlainForm.{PlainForm}
use Rattle.cx_audit_text.specs.declared.words_reasons.PlainForm.TheVariants as plain
use Rattle.cx_audit_text.specs.declared.words_reasons.NumberedForm.{NumberedForm}
use Rattle.cx_audit_text.specs.declared.words_reasons.NumberedForm.TheVariants as numbered
use Rattle.cx_audit_text.specs.declared.words_reasons.FullForm.{FullForm}
use Rattle.cx_audit_text.specs.declared.words_reasons.FullForm.TheVariants as full
use Rattle.cx_audit_text.specs.declared.words_reasons.TicketForm.{TicketForm}
use Rattle.cx_audit_text.specs.declared.words_reasons.TicketForm.TheVariants as ticket
use Rattle.cx_audit_text.specs.declared.words_reasons.ReasonForm.{ReasonForm}
use Rattle.cx_audit_text.specs.declared.words_reasons.ReasonForm.TheVariants as form

-- a reason that is one word
abbrev pub plain_word : PlainForm → List ℕ
plain_word plain.BadBanner = codes "bad-banner"
plain_word plain.BadCrc = codes "bad-crc"
plain_word plain.BadShape = codes "bad-shape"
plain_word plain.TooLong = codes "too-long"
plain_word plain.BadTag = codes "bad-tag"
plain_word plain.Aborted = codes "aborted"
plain_word plain.CounterSpent = codes "counter-spent"
plain_word plain.Method = codes "method"
plain_word plain.Mode = codes "mode"
plain_word plain.UnknownEntity = codes "unknown-entity"
plain_word plain.WrongProof = codes "wrong-proof"
plain_word plain.GidsSpent = codes "gids-spent"
plain_word plain.IdsSpent = codes "ids-spent"
plain_word plain.SignatureWrong = codes "signature-wrong"
plain_word plain.Unopened = codes "unopened"
plain_word plain.NotADaemon = codes "not-a-daemon"
plain_word plain.BadRequest = codes "bad-request"
plain_word plain.BadReply = codes "bad-reply"
plain_word plain.Reset = codes "reset"
plain_word plain.Lost = codes "lost"
plain_word plain.NoSession = codes "no-session"
plain_word plain.NoLink = codes "no-link"
plain_word plain.Busy = codes "busy"
plain_word plain.Spent = codes "spent"
plain_word plain.UnknownSession = codes "unknown-session"

-- one with a number
abbrev pub numbered_word : NumberedForm → List ℕ
numbered_word numbered.Features = codes "features"
numbered_word numbered.Malformed = codes "malformed"
numbered_word numbered.Reclaim = codes "reclaim"
numbered_word numbered.CookieInUse = codes "cookie-in-use"
numbered_word numbered.StaleConnect = codes "stale-connect"
numbered_word numbered.StaleGlobal = codes "stale-global"
numbered_word numbered.Gap = codes "gap"
numbered_word numbered.Stale = codes "stale"

-- one that says how many places are all taken
abbrev pub full_word : FullForm → List ℕ
full_word full.Links = codes "links-full"
full_word full.Queue = codes "queue-full"
full_word full.Book = codes "book-full"

-- one for which a ticket was refused
abbrev pub ticket_form_word : TicketForm → List ℕ
ticket_form_word ticket.UnknownGeneration = codes "unknown-generation"
ticket_form_word ticket.TicketUnopened = codes "ticket-unopened"
ticket_form_word ticket.GidDiffers = codes "gid-differs"
ticket_form_word ticket.Expired = codes "expired"
ticket_form_word ticket.AuthorizerUnopened = codes "authorizer-unopened"
ticket_form_word ticket.ChallengeWrong = codes "challenge-wrong"

-- any reason
abbrev pub reason_word : ReasonForm → List ℕ
reason_word (form.Plain p) = plain_word p
reason_word (form.Numbered n) = numbered_word n
reason_word (form.Full f) = full_word f
reason_word form.Unexpected = codes "unexpected"
reason_word form.Denied = codes "denied"
reason_word form.NonceWrong = codes "nonce-wrong"
reason_word form.NoTicket = codes "no-ticket"
reason_word form.WrongService = codes "wrong-service"
reason_word form.OwnerDiffers = codes "owner-differs"
reason_word (form.Ticket t) = ticket_form_word t

-- all of them
abbrev pub reason_forms : List ReasonForm
reason_forms =
    form.Plain plain.BadBanner ∷ form.Plain plain.BadCrc ∷ form.Plain plain.BadShape ∷ form.Plain plain.TooLong ∷ form.Plain plain.BadTag ∷ form.Plain plain.Aborted ∷ form.Plain plain.CounterSpent ∷ form.Plain plain.Method ∷ form.Plain plain.Mode ∷ form.Plain plain.UnknownEntity ∷ form.Plain plain.WrongProof ∷ form.Plain plain.GidsSpent ∷ form.Plain plain.IdsSpent ∷ form.Plain plain.SignatureWrong ∷ form.Plain plain.Unopened ∷ form.Plain plain.NotADaemon ∷ form.Plain plain.BadRequest ∷ form.Plain plain.BadReply ∷ form.Plain plain.Reset ∷ form.Plain plain.Lost ∷ form.Plain plain.NoSession ∷ form.Plain plain.NoLink ∷ form.Plain plain.Busy ∷ form.Plain plain.Spent ∷ form.Plain plain.UnknownSession ∷ form.Numbered numbered.Features ∷ form.Numbered numbered.Malformed ∷ form.Numbered numbered.Reclaim ∷ form.Numbered numbered.CookieInUse ∷ form.Numbered numbered.StaleConnect ∷ form.Numbered numbered.StaleGlobal ∷ form.Numbered numbered.Gap ∷ form.Numbered numbered.Stale ∷ form.Full full.Links ∷ form.Full full.Queue ∷ form.Full full.Book ∷ form.Unexpected ∷ form.Denied ∷ form.NonceWrong ∷ form.NoTicket ∷ form.WrongService ∷ form.OwnerDiffers ∷ form.Ticket ticket.UnknownGeneration ∷ form.Ticket ticket.TicketUnopened ∷ form.Ticket ticket.GidDiffers ∷ form.Ticket ticket.Expired ∷ form.Ticket ticket.AuthorizerUnopened ∷ form.Ticket ticket.ChallengeWrong ∷ []

-- the form that a word begins, if it begins one
unfoldable pub reason_form_of : List ℕ → Option ReasonForm
reason_form_of word = chosen reason_word reason_forms word
