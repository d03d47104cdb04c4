-- Words of choices: what is read was spelled so, and what is spelled is read again.
use Rattle.std.proofs.Common.{◌≡◌, ℕ, List, [], ◌∷◌, Option, Some, None, refl, sym}
use Rattle.std.specs.Prelude.{IfSome}
use Rattle.cx_base.specs.Names.{type_word}
use Rattle.cx_base.specs.declared.kinds.EntityType.{EntityType}
use Rattle.cx_base.specs.declared.kinds.EntityType.TheVariants as entity
use Rattle.cx_words.proofs.lines.ChoiceLemmas.{chosen-is}
use Rattle.cx_journal.specs.Words.{key_kind_word, outcome_word, premise_word}
use Rattle.cx_journal.specs.declared.outcomes.Outcome.{Outcome}
use Rattle.cx_journal.specs.declared.outcomes.Outcome.TheVariants as outcome
use Rattle.cx_journal.specs.declared.premises.KeyKind.{KeyKind}
use Rattle.cx_journal.specs.declared.premises.KeyKind.TheVariants as kind
use Rattle.cx_journal.specs.declared.premises.Premise.{Premise}
use Rattle.cx_journal.specs.declared.premises.Premise.TheVariants as premise
use Rattle.cx_audit_text.specs.declared.choices.AdminOutcome.{AdminOutcome}
use Rattle.cx_audit_text.specs.declared.choices.AdminOutcome.TheVariants as admin
use Rattle.cx_audit_text.specs.declared.choices.JournalHead.{JournalHead}
use Rattle.cx_audit_text.specs.declared.choices.JournalHead.TheVariants as head
use Rattle.cx_audit_text.specs.declared.choices.Verb.{Verb}
use Rattle.cx_audit_text.specs.declared.choices.Verb.TheVariants as verb
use Rattle.cx_audit_text.specs.declared.words_reasons.PlainForm.TheVariants as plain
use Rattle.cx_audit_text.specs.declared.words_reasons.NumberedForm.TheVariants as numbered
use Rattle.cx_audit_text.specs.declared.words_reasons.FullForm.TheVariants as full
use Rattle.cx_audit_text.specs.declared.words_reasons.TicketForm.TheVariants as ticket
use Rattle.cx_audit_text.specs.declared.words_reasons.ReasonForm.{ReasonForm}
use Rattle.cx_audit_text.specs.declared.words_reasons.ReasonForm.TheVariants as form
use Rattle.cx_audit_text.specs.words.Choices.{admin_outcome_of, admin_outcome_word, admin_outcomes, entity_types, heads, key_kinds, outcomes, premises, verbs, entity_type_of, head_of, head_word, key_kind_of, outcome_of, premise_of, verb_of, verb_word}
use Rattle.cx_audit_text.specs.words.Reasons.{reason_form_of, reason_forms, reason_word}

pub head_of-is : (word : List ℕ) (x : JournalHead) → head_of word ≡ Some x → word ≡ head_word x
unfolding head_of
head_of-is word x some = chosen-is head_word heads word x some

pub head_of-word : (x : JournalHead) → head_of (head_word x) ≡ Some x
unfolding head_of
head_of-word head.Saved = refl
head_of-word head.Issued = refl
head_of-word head.Fetched = refl
head_of-word head.Looked = refl
head_of-word head.Admitted = refl
head_of-word head.Resumed = refl
head_of-word head.Sent = refl
head_of-word head.Handled = refl
head_of-word head.Answered = refl
head_of-word head.Refused = refl
head_of-word head.Ended = refl
head_of-word head.Restarted = refl
head_of-word head.Broken = refl
head_of-word head.Leaked = refl
head_of-word head.Administered = refl

pub head_spelled : (word : List ℕ) (read : Option JournalHead) → read ≡ head_of word → IfSome read (λ x. word ≡ head_word x)
head_spelled word None e = tt
head_spelled word (Some x) e = head_of-is word x (sym e)

pub verb_of-is : (word : List ℕ) (x : Verb) → verb_of word ≡ Some x → word ≡ verb_word x
unfolding verb_of
verb_of-is word x some = chosen-is verb_word verbs word x some

pub verb_of-word : (x : Verb) → verb_of (verb_word x) ≡ Some x
unfolding verb_of
verb_of-word verb.Caps = refl
verb_of-word verb.Del = refl
verb_of-word verb.Get = refl

pub verb_spelled : (word : List ℕ) (read : Option Verb) → read ≡ verb_of word → IfSome read (λ x. word ≡ verb_word x)
verb_spelled word None e = tt
verb_spelled word (Some x) e = verb_of-is word x (sym e)

pub admin_outcome_of-is : (word : List ℕ) (x : AdminOutcome) → admin_outcome_of word ≡ Some x → word ≡ admin_outcome_word x
unfolding admin_outcome_of
admin_outcome_of-is word x some = chosen-is admin_outcome_word admin_outcomes word x some

pub admin_outcome_of-word : (x : AdminOutcome) → admin_outcome_of (admin_outcome_word x) ≡ Some x
unfolding admin_outcome_of
admin_outcome_of-word admin.Done = refl
admin_outcome_of-word admin.Denied = refl
admin_outcome_of-word admin.Rejected = refl
admin_outcome_of-word admin.NoHandler = refl

pub admin_outcome_spelled : (word : List ℕ) (read : Option AdminOutcome) → read ≡ admin_outcome_of word → IfSome read (λ x. word ≡ admin_outcome_word x)
admin_outcome_spelled word None e = tt
admin_outcome_spelled word (Some x) e = admin_outcome_of-is word x (sym e)

pub outcome_of-is : (word : List ℕ) (x : Outcome) → outcome_of word ≡ Some x → word ≡ outcome_word x
unfolding outcome_of
outcome_of-is word x some = chosen-is outcome_word outcomes word x some

pub outcome_of-word : (x : Outcome) → outcome_of (outcome_word x) ≡ Some x
unfolding outcome_of
outcome_of-word outcome.Done = refl
outcome_of-word outcome.Denied = refl
outcome_of-word outcome.NoHandler = refl

pub outcome_spelled : (word : List ℕ) (read : Option Outcome) → read ≡ outcome_of word → IfSome read (λ x. word ≡ outcome_word x)
outcome_spelled word None e = tt
outcome_spelled word (Some x) e = outcome_of-is word x (sym e)

pub premise_of-is : (word : List ℕ) (x : Premise) → premise_of word ≡ Some x → word ≡ premise_word x
unfolding premise_of
premise_of-is word x some = chosen-is premise_word premises word x some

pub premise_of-word : (x : Premise) → premise_of (premise_word x) ≡ Some x
unfolding premise_of
premise_of-word premise.Sealing = refl
premise_of-word premise.Draw = refl

pub premise_spelled : (word : List ℕ) (read : Option Premise) → read ≡ premise_of word → IfSome read (λ x. word ≡ premise_word x)
premise_spelled word None e = tt
premise_spelled word (Some x) e = premise_of-is word x (sym e)

pub key_kind_of-is : (word : List ℕ) (x : KeyKind) → key_kind_of word ≡ Some x → word ≡ key_kind_word x
unfolding key_kind_of
key_kind_of-is word x some = chosen-is key_kind_word key_kinds word x some

pub key_kind_of-word : (x : KeyKind) → key_kind_of (key_kind_word x) ≡ Some x
unfolding key_kind_of
key_kind_of-word kind.Principal = refl
key_kind_of-word kind.Auth = refl
key_kind_of-word kind.Service = refl
key_kind_of-word kind.Session = refl
key_kind_of-word kind.Connection = refl
key_kind_of-word kind.Proof = refl
key_kind_of-word kind.Signature = refl
key_kind_of-word kind.Challenge = refl
key_kind_of-word kind.Nonce = refl
key_kind_of-word kind.Cookie = refl
key_kind_of-word kind.Rotation = refl

pub key_kind_spelled : (word : List ℕ) (read : Option KeyKind) → read ≡ key_kind_of word → IfSome read (λ x. word ≡ key_kind_word x)
key_kind_spelled word None e = tt
key_kind_spelled word (Some x) e = key_kind_of-is word x (sym e)

pub entity_type_of-is : (word : List ℕ) (x : EntityType) → entity_type_of word ≡ Some x → word ≡ type_word x
unfolding entity_type_of
entity_type_of-is word x some = chosen-is type_word entity_types word x some

pub entity_type_of-word : (x : EntityType) → entity_type_of (type_word x) ≡ Some x
unfolding entity_type_of
entity_type_of-word entity.Mon = refl
entity_type_of-word entity.Mds = refl
entity_type_of-word entity.Osd = refl
entity_type_of-word entity.Client = refl
entity_type_of-word entity.Mgr = refl
entity_type_of-word entity.Auth = refl

pub entity_type_spelled : (word : List ℕ) (read : Option EntityType) → read ≡ entity_type_of word → IfSome read (λ x. word ≡ type_word x)
entity_type_spelled word None e = tt
entity_type_spelled word (Some x) e = entity_type_of-is word x (sym e)

pub reason_form_of-is : (word : List ℕ) (x : ReasonForm) → reason_form_of word ≡ Some x → word ≡ reason_word x
unfolding reason_form_of
reason_form_of-is word x some = chosen-is reason_word (reason_forms) word x some

pub reason_form_of-word : (x : ReasonForm) → reason_form_of (reason_word x) ≡ Some x
unfolding reason_form_of
reason_form_of-word (form.Plain plain.BadBanner) = refl
reason_form_of-word (form.Plain plain.BadCrc) = refl
reason_form_of-word (form.Plain plain.BadShape) = refl
reason_form_of-word (form.Plain plain.TooLong) = refl
reason_form_of-word (form.Plain plain.BadTag) = refl
reason_form_of-word (form.Plain plain.Aborted) = refl
reason_form_of-word (form.Plain plain.CounterSpent) = refl
reason_form_of-word (form.Plain plain.Method) = refl
reason_form_of-word (form.Plain plain.Mode) = refl
reason_form_of-word (form.Plain plain.UnknownEntity) = refl
reason_form_of-word (form.Plain plain.WrongProof) = refl
reason_form_of-word (form.Plain plain.GidsSpent) = refl
reason_form_of-word (form.Plain plain.IdsSpent) = refl
reason_form_of-word (form.Plain plain.SignatureWrong) = refl
reason_form_of-word (form.Plain plain.Unopened) = refl
reason_form_of-word (form.Plain plain.NotADaemon) = refl
reason_form_of-word (form.Plain plain.BadRequest) = refl
reason_form_of-word (form.Plain plain.BadReply) = refl
reason_form_of-word (form.Plain plain.Reset) = refl
reason_form_of-word (form.Plain plain.Lost) = refl
reason_form_of-word (form.Plain plain.NoSession) = refl
reason_form_of-word (form.Plain plain.NoLink) = refl
reason_form_of-word (form.Plain plain.Busy) = refl
reason_form_of-word (form.Plain plain.Spent) = refl
reason_form_of-word (form.Plain plain.UnknownSession) = refl
reason_form_of-word (form.Numbered numbered.Features) = refl
reason_form_of-word (form.Numbered numbered.Malformed) = refl
reason_form_of-word (form.Numbered numbered.Reclaim) = refl
reason_form_of-word (form.Numbered numbered.CookieInUse) = refl
reason_form_of-word (form.Numbered numbered.StaleConnect) = refl
reason_form_of-word (form.Numbered numbered.StaleGlobal) = refl
reason_form_of-word (form.Numbered numbered.Gap) = refl
reason_form_of-word (form.Numbered numbered.Stale) = refl
reason_form_of-word (form.Full full.Links) = refl
reason_form_of-word (form.Full full.Queue) = refl
reason_form_of-word (form.Full full.Book) = refl
reason_form_of-word form.Unexpected = refl
reason_form_of-word form.Denied = refl
reason_form_of-word form.NonceWrong = refl
reason_form_of-word form.NoTicket = refl
reason_form_of-word form.WrongService = refl
reason_form_of-word form.OwnerDiffers = refl
reason_form_of-word (form.Ticket ticket.UnknownGeneration) = refl
reason_form_of-word (form.Ticket ticket.TicketUnopened) = refl
reason_form_of-word (form.Ticket ticket.GidDiffers) = refl
reason_form_of-word (form.Ticket ticket.Expired) = refl
reason_form_of-word (form.Ticket ticket.AuthorizerUnopened) = refl
reason_form_of-word (form.Ticket ticket.ChallengeWrong) = refl

pub reason_spelled : (word : List ℕ) (read : Option ReasonForm) → read ≡ reason_form_of word → IfSome read (λ x. word ≡ reason_word x)
reason_spelled word None e = tt
reason_spelled word (Some x) e = reason_form_of-is word x (sym e)
