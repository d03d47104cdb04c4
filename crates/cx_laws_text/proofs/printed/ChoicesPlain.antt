-- The words of choices are plain.
use Rattle.std.proofs.Common.{refl}
use Rattle.cx_base.specs.Names.{access_word, type_word}
use Rattle.cx_base.specs.declared.kinds.Access.{Access}
use Rattle.cx_base.specs.declared.kinds.Access.TheVariants.{Read, Write, Exec}
use Rattle.cx_base.specs.declared.kinds.EntityType.{EntityType}
use Rattle.cx_base.specs.declared.kinds.EntityType.TheVariants.{Mon, Mds, Osd, Client, Mgr, Auth}
use Rattle.cx_journal.specs.Words.{key_kind_word, outcome_word, premise_word}
use Rattle.cx_journal.specs.declared.outcomes.Outcome.{Outcome}
use Rattle.cx_journal.specs.declared.outcomes.Outcome.TheVariants as outcome
use Rattle.cx_journal.specs.declared.premises.KeyKind.{KeyKind}
use Rattle.cx_journal.specs.declared.premises.KeyKind.TheVariants as kind
use Rattle.cx_journal.specs.declared.premises.Premise.{Premise}
use Rattle.cx_journal.specs.declared.premises.Premise.TheVariants as premise
use Rattle.cx_audit_text.specs.words.Choices.{admin_outcome_word, head_word, verb_word}
use Rattle.cx_audit_text.specs.words.Reasons.{reason_word}
use Rattle.cx_audit_text.specs.declared.choices.AdminOutcome.{AdminOutcome}
use Rattle.cx_audit_text.specs.declared.choices.AdminOutcome.TheVariants as admin
use Rattle.cx_audit_text.specs.declared.choices.JournalHead.{JournalHead}
use Rattle.cx_audit_text.specs.declared.choices.JournalHead.TheVariants as head
use Rattle.cx_audit_text.specs.declared.choices.Verb.{Verb}
use Rattle.cx_audit_text.specs.declared.choices.Verb.TheVariants as verb
use Rattle.cx_audit_text.specs.declared.words_reasons.PlainForm.TheVariants as plain
use Rattle.cx_audit_text.specs.declared.words_reasons.NumberedForm.TheVariants as numbered
use Rattle.cx_audit_text.specs.declared.words_reasons.FullForm.TheVariants as full
use Rattle.cx_audit_text.specs.declared.words_reasons.TicketForm.TheVariants as ticket
use Rattle.cx_audit_text.specs.declared.words_reasons.ReasonForm.{ReasonForm}
use Rattle.cx_audit_text.specs.declared.words_reasons.ReasonForm.TheVariants as form
use Rattle.cx_laws_text.proofs.printed.Spaced.{IsPlain}

pub type-plain : (k : EntityType) → IsPlain (type_word k)
type-plain Mon = refl
type-plain Mds = refl
type-plain Osd = refl
type-plain Client = refl
type-plain Mgr = refl
type-plain Auth = refl

pub access-plain : (a : Access) → IsPlain (access_word a)
access-plain Read = refl
access-plain Write = refl
access-plain Exec = refl

pub outcome-plain : (o : Outcome) → IsPlain (outcome_word o)
outcome-plain outcome.Done = refl
outcome-plain outcome.Denied = refl
outcome-plain outcome.NoHandler = refl

pub premise-plain : (p : Premise) → IsPlain (premise_word p)
premise-plain premise.Sealing = refl
premise-plain premise.Draw = refl

pub kind-plain : (k : KeyKind) → IsPlain (key_kind_word k)
kind-plain kind.Principal = refl
kind-plain kind.Auth = refl
kind-plain kind.Service = refl
kind-plain kind.Session = refl
kind-plain kind.Connection = refl
kind-plain kind.Proof = refl
kind-plain kind.Signature = refl
kind-plain kind.Challenge = refl
kind-plain kind.Nonce = refl
kind-plain kind.Cookie = refl
kind-plain kind.Rotation = refl

pub verb-plain : (v : Verb) → IsPlain (verb_word v)
verb-plain verb.Caps = refl
verb-plain verb.Del = refl
verb-plain verb.Get = refl

pub admin-plain : (a : AdminOutcome) → IsPlain (admin_outcome_word a)
admin-plain admin.Done = refl
admin-plain admin.Denied = refl
admin-plain admin.Rejected = refl
admin-plain admin.NoHandler = refl

pub head-plain : (h : JournalHead) → IsPlain (head_word h)
head-plain head.Saved = refl
head-plain head.Issued = refl
head-plain head.Fetched = refl
head-plain head.Looked = refl
head-plain head.Admitted = refl
head-plain head.Resumed = refl
head-plain head.Sent = refl
head-plain head.Handled = refl
head-plain head.Answered = refl
head-plain head.Refused = refl
head-plain head.Ended = refl
head-plain head.Restarted = refl
head-plain head.Broken = refl
head-plain head.Leaked = refl
head-plain head.Administered = refl

pub reason-plain : (f : ReasonForm) → IsPlain (reason_word f)
reason-plain (form.Plain plain.BadBanner) = refl
reason-plain (form.Plain plain.BadCrc) = refl
reason-plain (form.Plain plain.BadShape) = refl
reason-plain (form.Plain plain.TooLong) = refl
reason-plain (form.Plain plain.BadTag) = refl
reason-plain (form.Plain plain.Aborted) = refl
reason-plain (form.Plain plain.CounterSpent) = refl
reason-plain (form.Plain plain.Method) = refl
reason-plain (form.Plain plain.Mode) = refl
reason-plain (form.Plain plain.UnknownEntity) = refl
reason-plain (form.Plain plain.WrongProof) = refl
reason-plain (form.Plain plain.GidsSpent) = refl
reason-plain (form.Plain plain.IdsSpent) = refl
reason-plain (form.Plain plain.SignatureWrong) = refl
reason-plain (form.Plain plain.Unopened) = refl
reason-plain (form.Plain plain.NotADaemon) = refl
reason-plain (form.Plain plain.BadRequest) = refl
reason-plain (form.Plain plain.BadReply) = refl
reason-plain (form.Plain plain.Reset) = refl
reason-plain (form.Plain plain.Lost) = refl
reason-plain (form.Plain plain.NoSession) = refl
reason-plain (form.Plain plain.NoLink) = refl
reason-plain (form.Plain plain.Busy) = refl
reason-plain (form.Plain plain.Spent) = refl
reason-plain (form.Plain plain.UnknownSession) = refl
reason-plain (form.Numbered numbered.Features) = refl
reason-plain (form.Numbered numbered.Malformed) = refl
reason-plain (form.Numbered numbered.Reclaim) = refl
reason-plain (form.Numbered numbered.CookieInUse) = refl
reason-plain (form.Numbered numbered.StaleConnect) = refl
reason-plain (form.Numbered numbered.StaleGlobal) = refl
reason-plain (form.Numbered numbered.Gap) = refl
reason-plain (form.Numbered numbered.Stale) = refl
reason-plain (form.Full full.Links) = refl
reason-plain (form.Full full.Queue) = refl
reason-plain (form.Full full.Book) = refl
reason-plain form.Unexpected = refl
reason-plain form.Denied = refl
reason-plain form.NonceWrong = refl
reason-plain form.NoTicket = refl
reason-plain form.WrongService = refl
reason-plain form.OwnerDiffers = refl
reason-plain (form.Ticket ticket.UnknownGeneration) = refl
reason-plain (form.Ticket ticket.TicketUnopened) = refl
reason-plain (form.Ticket ticket.GidDiffers) = refl
reason-plain (form.Ticket ticket.Expired) = refl
reason-plain (form.Ticket ticket.AuthorizerUnopened) = refl
reason-plain (form.Ticket ticket.ChallengeWrong) = refl
