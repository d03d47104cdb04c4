-- Words of which a place takes one of a few, each with its word and how it is read.
use Rattle.std.specs.Prelude.{ℕ, List, [], ◌∷◌, Option, codes}
use Rattle.cx_base.specs.Names.{type_word}
use Rattle.cx_base.specs.declared.kinds.EntityType.{EntityType}
use Rattle.cx_base.specs.declared.kinds.EntityType.TheVariants as entity
use Rattle.cx_words.specs.lines.Choices.{chosen}
use Rattle.cx_journal.specs.Words.{key_kind_word, outcome_word, premise_word}
use Rattle.cx_journal.specs.declared.outcomes.Outcome.{Outcome}
use Rattle.cx_journal.specs.declared.outcomes.Outcome.TheVariants as outcome
use Rattle.cx_journal.specs.declared.premises.KeyKind.{KeyKind}
use Rattle.cx_journal.specs.declared.premises.KeyKind.TheVariants as kind
use Rattle.cx_journal.specs.declared.premises.Premise.{Premise}
use Rattle.cx_journal.specs.declared.premises.Premise.TheVariants as premise
use Rattle.cx_audit_text.specs.declared.choices.AdminOutcome.{AdminOutcome}
use Rattle.cx_audit_text.specs.declared.choices.AdminOutcome.TheVariants as admin
use Rattle.cx_audit_text.specs.declared.choices.JournalHead.{JournalHead}
use Rattle.cx_audit_text.specs.declared.choices.JournalHead.TheVariants as head
use Rattle.cx_audit_text.specs.declared.choices.Verb.{Verb}
use Rattle.cx_audit_text.specs.declared.choices.Verb.TheVariants as verb

-- the word that each kind of line begins with
abbrev pub head_word : JournalHead → List ℕ
head_word head.Saved = codes "saved"
head_word head.Issued = codes "issued"
head_word head.Fetched = codes "fetched"
head_word head.Looked = codes "looked"
head_word head.Admitted = codes "admitted"
head_word head.Resumed = codes "resumed"
head_word head.Sent = codes "sent"
head_word head.Handled = codes "handled"
head_word head.Answered = codes "answered"
head_word head.Refused = codes "refused"
head_word head.Ended = codes "ended"
head_word head.Restarted = codes "restarted"
head_word head.Broken = codes "broken"
head_word head.Leaked = codes "leaked"
head_word head.Administered = codes "administered"

-- what an administrator asks
abbrev pub verb_word : Verb → List ℕ
verb_word verb.Caps = codes "caps"
verb_word verb.Del = codes "del"
verb_word verb.Get = codes "get"

-- how the monitor answers an administrator
abbrev pub admin_outcome_word : AdminOutcome → List ℕ
admin_outcome_word admin.Done = codes "done"
admin_outcome_word admin.Denied = codes "denied"
admin_outcome_word admin.Rejected = codes "rejected"
admin_outcome_word admin.NoHandler = codes "no-handler"

-- ---- the first of these that has the word

-- the kinds of lines
abbrev pub heads : List JournalHead
heads = head.Saved ∷ head.Issued ∷ head.Fetched ∷ head.Looked ∷ head.Admitted ∷ head.Resumed ∷ head.Sent ∷ head.Handled ∷ head.Answered ∷ head.Refused ∷ head.Ended ∷ head.Restarted ∷ head.Broken ∷ head.Leaked ∷ head.Administered ∷ []

unfoldable pub head_of : List ℕ → Option JournalHead
head_of word = chosen head_word heads word

-- what may be asked
abbrev pub verbs : List Verb
verbs = verb.Caps ∷ verb.Del ∷ verb.Get ∷ []

unfoldable pub verb_of : List ℕ → Option Verb
verb_of word = chosen verb_word verbs word

-- the answers to it
abbrev pub admin_outcomes : List AdminOutcome
admin_outcomes = admin.Done ∷ admin.Denied ∷ admin.Rejected ∷ admin.NoHandler ∷ []

unfoldable pub admin_outcome_of : List ℕ → Option AdminOutcome
admin_outcome_of word = chosen admin_outcome_word admin_outcomes word

-- the outcomes
abbrev pub outcomes : List Outcome
outcomes = outcome.Done ∷ outcome.Denied ∷ outcome.NoHandler ∷ []

unfoldable pub outcome_of : List ℕ → Option Outcome
outcome_of word = chosen outcome_word outcomes word

-- the premises
abbrev pub premises : List Premise
premises = premise.Sealing ∷ premise.Draw ∷ []

unfoldable pub premise_of : List ℕ → Option Premise
premise_of word = chosen premise_word premises word

-- the kinds of keys
abbrev pub key_kinds : List KeyKind
key_kinds = kind.Principal ∷ kind.Auth ∷ kind.Service ∷ kind.Session ∷ kind.Connection ∷ kind.Proof ∷ kind.Signature ∷ kind.Challenge ∷ kind.Nonce ∷ kind.Cookie ∷ kind.Rotation ∷ []

unfoldable pub key_kind_of : List ℕ → Option KeyKind
key_kind_of word = chosen key_kind_word key_kinds word

-- the types of entities
abbrev pub entity_types : List EntityType
entity_types = entity.Mon ∷ entity.Mds ∷ entity.Osd ∷ entity.Client ∷ entity.Mgr ∷ entity.Auth ∷ []

unfoldable pub entity_type_of : List ℕ → Option EntityType
entity_type_of word = chosen type_word entity_types word
