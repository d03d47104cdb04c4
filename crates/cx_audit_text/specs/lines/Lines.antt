-- The lines of a journal: what stands behind the first word of each, and what the words of a line are found to be. The forms
-- are those of docs/guide.md, "The lines of a journal".
use Rattle.std.specs.Prelude.{ℕ, ◌≡◌, true, false, List, [], ◌∷◌, Option, Some, None}
use Rattle.cx_base.specs.declared.operations.Operation.{Operation}
use Rattle.cx_journal.specs.declared.entries.Admitted.{Admitted}
use Rattle.cx_journal.specs.declared.entries.Entry.{Entry}
use Rattle.cx_journal.specs.declared.entries.Entry.TheVariants as entry
use Rattle.cx_journal.specs.declared.entries.Issued.{Issued}
use Rattle.cx_journal.specs.declared.outcomes.Reason.{Reason}
use Rattle.cx_audit_text.specs.words.Choices.{head_word}
use Rattle.cx_audit_text.specs.words.Items.{JournalItem, AccessOf, AdminOutcomeOf, AskedOf, CapsOf, CookieOf, DataOf, EntityOf, IdsOf, KeyKindOf, NextOf, NodeOf, NumberOf, OutcomeOf, PartOf, PremiseOf, ReadingOf, ReasonOf, ShortOf, TypeOf, VerbOf, SpellsItems, is_whole}
use Rattle.cx_audit_text.specs.words.Reasons.{reason_form_of}
use Rattle.cx_audit_text.specs.declared.choices.JournalHead.{JournalHead}
use Rattle.cx_audit_text.specs.declared.choices.JournalHead.TheVariants as head
use Rattle.cx_audit_text.specs.declared.words_places.CountedAbove.{CountedAbove}
use Rattle.cx_audit_text.specs.declared.words_places.JournalPlace.{JournalPlace}
use Rattle.cx_audit_text.specs.declared.words_places.JournalPlace.TheVariants as at
use Rattle.cx_audit_text.specs.declared.words_reasons.ReasonForm.{ReasonForm}
use Rattle.cx_audit_text.specs.declared.entries.JournalLine.{JournalLine}
use Rattle.cx_audit_text.specs.declared.entries.JournalLine.TheVariants as line
use Rattle.cx_audit_text.specs.lines.Reasons.{reason_form, reason_places, reason_values}

-- ---- what a line says

abbrev pub entry_head : Entry → JournalHead
entry_head (entry.Saved next) = head.Saved
entry_head (entry.Issued t) = head.Issued
entry_head (entry.Fetched f) = head.Fetched
entry_head (entry.Looked l) = head.Looked
entry_head (entry.Admitted a) = head.Admitted
entry_head (entry.Resumed a) = head.Resumed
entry_head (entry.Sent s) = head.Sent
entry_head (entry.Handled h) = head.Handled
entry_head (entry.Answered a) = head.Answered
entry_head (entry.Refused r) = head.Refused
entry_head (entry.Ended e) = head.Ended
entry_head (entry.Restarted node) = head.Restarted
entry_head (entry.Broken b) = head.Broken
entry_head (entry.Leaked client) = head.Leaked

abbrev pub line_head : JournalLine → JournalHead
line_head (line.Entry e) = entry_head e
line_head (line.Administered a) = head.Administered

-- the values of a ticket
abbrev pub ticket_items : Issued → List JournalItem
ticket_items t =
    NextOf t.blob ∷ EntityOf t.entity ∷ TypeOf t.service ∷ NumberOf t.gid ∷ NumberOf t.generation ∷ ReadingOf t.created ∷ ReadingOf t.expires
    ∷ CapsOf t.caps ∷ []

-- those of a session
abbrev pub session_items : Admitted → List JournalItem
session_items a =
    EntityOf a.daemon ∷ NumberOf a.session ∷ NumberOf a.epoch ∷ CookieOf a.cookie ∷ EntityOf a.entity ∷ NumberOf a.gid ∷ ReadingOf a.at
    ∷ CapsOf a.caps ∷ []

-- those of an operation, in front of what stands behind it
abbrev pub operation_items : Operation → List JournalItem → List JournalItem
operation_items o rest = AccessOf o.access ∷ PartOf o.pool ∷ PartOf o.namespace ∷ PartOf o.object ∷ DataOf o.bytes ∷ rest

-- those of a reason
abbrev pub reason_items : Reason → List JournalItem
reason_items why = ReasonOf (reason_form why) ∷ reason_values why

abbrev pub entry_items : Entry → List JournalItem
entry_items (entry.Saved next) = NumberOf next ∷ []
entry_items (entry.Issued t) = ticket_items t
entry_items (entry.Fetched f) = EntityOf f.daemon ∷ ReadingOf f.asked ∷ IdsOf f.generations ∷ []
entry_items (entry.Looked l) = EntityOf l.daemon ∷ ShortOf l.link ∷ IdsOf l.view.generations ∷ AskedOf l.view.asked ∷ []
entry_items (entry.Admitted a) = session_items a
entry_items (entry.Resumed a) = session_items a
entry_items (entry.Sent s) =
    EntityOf s.client ∷ EntityOf s.daemon ∷ CookieOf s.cookie ∷ NumberOf s.seq ∷ operation_items s.operation []
entry_items (entry.Handled h) =
    EntityOf h.daemon ∷ NumberOf h.session ∷ NumberOf h.epoch ∷ CookieOf h.cookie ∷ NumberOf h.seq
    ∷ operation_items h.operation (OutcomeOf h.outcome ∷ [])
entry_items (entry.Answered a) = EntityOf a.client ∷ EntityOf a.daemon ∷ NumberOf a.tid ∷ OutcomeOf a.outcome ∷ []
entry_items (entry.Refused r) = NodeOf r.node ∷ ShortOf r.link ∷ reason_items r.reason
entry_items (entry.Ended e) = EntityOf e.daemon ∷ NumberOf e.session ∷ []
entry_items (entry.Restarted node) = NodeOf node ∷ []
entry_items (entry.Broken b) = PremiseOf b.why ∷ NodeOf b.node ∷ KeyKindOf b.kind ∷ ShortOf b.line ∷ []
entry_items (entry.Leaked client) = EntityOf client ∷ []

-- what stands behind the first word
abbrev pub line_items : JournalLine → List JournalItem
line_items (line.Entry e) = entry_items e
line_items (line.Administered a) =
    EntityOf a.actor ∷ VerbOf a.verb ∷ PartOf a.name ∷ ReadingOf a.at ∷ AdminOutcomeOf a.outcome ∷ []

-- no line tells the cookie of an answer, so what is read has none
abbrev pub TellsAll : JournalLine → Type 0
TellsAll (line.Entry (entry.Answered a)) = a.cookie ≡ 0
TellsAll _ = Unit {0}

-- ---- the places of a line

abbrev pub operation_places : List JournalPlace → List JournalPlace
operation_places rest = at.Access ∷ at.Part ∷ at.Part ∷ at.Part ∷ at.Data ∷ rest

abbrev pub session_places : List JournalPlace
session_places = at.Entity ∷ at.Number ∷ at.Number ∷ at.Cookie ∷ at.Entity ∷ at.Number ∷ at.Reading ∷ at.Caps ∷ []

-- the places behind a word that begins this reason, or none
abbrev pub behind_reason : Option ReasonForm → List JournalPlace
behind_reason None = []
behind_reason (Some form) = reason_places form

-- those from the word on that tells the reason
abbrev pub reason_from : List (List ℕ) → List JournalPlace
reason_from [] = at.Reason ∷ []
reason_from (word ∷ words) = at.Reason ∷ behind_reason (reason_form_of word)

abbrev pub refused_places : List (List ℕ) → List JournalPlace
refused_places (node ∷ link ∷ words) = at.Node ∷ at.Short ∷ reason_from words
refused_places _ = at.Node ∷ at.Short ∷ at.Reason ∷ []

-- the places behind the first word, where these words stand there
abbrev pub places : JournalHead → List (List ℕ) → List JournalPlace
places head.Saved words = at.Number ∷ []
places head.Issued words = at.Next ∷ at.Entity ∷ at.Type ∷ at.Number ∷ at.Number ∷ at.Reading ∷ at.Reading ∷ at.Caps ∷ []
places head.Fetched words = at.Entity ∷ at.Reading ∷ at.Ids ∷ []
places head.Looked words = at.Entity ∷ at.Short ∷ at.Ids ∷ at.Asked ∷ []
places head.Admitted words = session_places
places head.Resumed words = session_places
places head.Sent words = at.Entity ∷ at.Entity ∷ at.Cookie ∷ at.Number ∷ operation_places []
places head.Handled words = at.Entity ∷ at.Number ∷ at.Number ∷ at.Cookie ∷ at.Number ∷ operation_places (at.Outcome ∷ [])
places head.Answered words = at.Entity ∷ at.Entity ∷ at.Number ∷ at.Outcome ∷ []
places head.Refused words = refused_places words
places head.Ended words = at.Entity ∷ at.Number ∷ []
places head.Restarted words = at.Node ∷ []
places head.Broken words = at.Premise ∷ at.Node ∷ at.KeyKind ∷ at.Short ∷ []
places head.Leaked words = at.Entity ∷ []
places head.Administered words = at.Entity ∷ at.Verb ∷ at.Part ∷ at.Reading ∷ at.AdminOutcome ∷ []

-- ---- what words are found to be

-- the words behind a first word of this kind spell the line: each is good at its place, and is the printed form of its value
abbrev pub SpellsBehind : CountedAbove → JournalHead → List (List ℕ) → JournalLine → Type 0
SpellsBehind counted head words said =
    (line_head said ≡ head) × SpellsItems counted (line_items said) words × TellsAll said × (is_whole counted (places head words) words ≡ true)

-- what they are found to be: the line that they spell; none where one of them isn't good at its place
abbrev pub IsLineRead : CountedAbove → JournalHead → List (List ℕ) → Option JournalLine → Type 0
IsLineRead counted head words None = is_whole counted (places head words) words ≡ false
IsLineRead counted head words (Some said) = SpellsBehind counted head words said

-- what the words of a session are found to be
abbrev pub IsSessionRead : CountedAbove → List (List ℕ) → Option Admitted → Type 0
IsSessionRead counted words None = is_whole counted session_places words ≡ false
IsSessionRead counted words (Some session) = SpellsItems counted (session_items session) words × (is_whole counted session_places words ≡ true)

-- the words of a line spell what it says: the first is that of its kind, and each other is good at its place, and is the printed form
-- of its value
abbrev pub Spells : CountedAbove → JournalLine → List (List ℕ) → Type 0
Spells counted said [] = ⊥
Spells counted said (word ∷ words) =
    (word ≡ head_word (line_head said)) × SpellsItems counted (line_items said) words × TellsAll said
    × (is_whole counted (places (line_head said) words) words ≡ true)
