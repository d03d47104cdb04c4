-- The text of a journal: one line for each entry. What a line says of the entries before it is a place among them.
use Rattle.std.specs.Prelude.{ℕ, List, [], ◌∷◌, ◌++◌, codes, Option, Some, None}
use Rattle.std.specs.Option.{option_map}
use Rattle.std.specs.Fmt.{decimal}
use Rattle.cx_base.specs.Joined.{◌<>◌}
use Rattle.cx_base.specs.Names.{Name, name_text, type_word}
use Rattle.cx_base.specs.Nodes.{node_text}
use Rattle.cx_journal.specs.Words.{reading_text, asked_text, ids_text, operation_text, outcome_word, reason_text, premise_word, key_kind_word}
use Rattle.cx_journal.specs.Places.{next_number, ticket_number, ticket_of, rank}
use Rattle.cx_journal.specs.declared.entries.Entry.{Entry}
use Rattle.cx_journal.specs.declared.entries.Entry.TheVariants as entry
use Rattle.cx_journal.specs.declared.entries.Issued.{Issued}
use Rattle.cx_journal.specs.declared.entries.Fetched.{Fetched}
use Rattle.cx_journal.specs.declared.entries.Looked.{Looked}
use Rattle.cx_journal.specs.declared.entries.Admitted.{Admitted}
use Rattle.cx_journal.specs.declared.entries.Sent.{Sent}
use Rattle.cx_journal.specs.declared.entries.Handled.{Handled}
use Rattle.cx_journal.specs.declared.entries.Answered.{Answered}
use Rattle.cx_journal.specs.declared.entries.Refused.{Refused}
use Rattle.cx_journal.specs.declared.entries.Ended.{Ended}
use Rattle.cx_base.specs.declared.nodes.NodeName.{NodeName}
use Rattle.cx_journal.specs.declared.premises.Broken.{Broken}

-- ---- the line of each kind of entry

-- of the save of a state with this next global id
abbrev pub saved_line : ℕ → List ℕ
saved_line next = codes "saved " <> decimal next <> codes "\n"

-- of an issued ticket of this number
abbrev pub issued_line : ℕ → Issued → List ℕ
issued_line number t =
    (codes "issued " <> decimal number <> codes " " <> name_text t.entity <> codes " " <> type_word t.service <> codes " " <> decimal t.gid)
    <> codes " " <> decimal t.generation <> codes " " <> reading_text t.created <> codes " " <> reading_text t.expires <> codes " \"" <> t.caps <> codes "\"\n"

-- of a fetch
abbrev pub fetched_line : Fetched → List ℕ
fetched_line f =
    codes "fetched " <> name_text f.daemon <> codes " " <> reading_text f.asked <> codes " " <> ids_text f.generations <> codes "\n"

-- of a look at a view
abbrev pub looked_line : Looked → List ℕ
looked_line l =
    codes "looked " <> name_text l.daemon <> codes " " <> decimal l.link <> codes " " <> ids_text l.view.generations <> codes " "
    <> asked_text l.view.asked <> codes "\n"

-- what is said of a session. A cookie is told by its rank alone, here and below
abbrev pub session_text : ℕ → Admitted → List ℕ
session_text rank a =
    (name_text a.daemon <> codes " " <> decimal a.session <> codes " " <> decimal a.epoch <> codes " c" <> decimal rank <> codes " " <> name_text a.entity)
    <> codes " " <> decimal a.gid <> codes " " <> reading_text a.at <> codes " \"" <> a.caps <> codes "\""

-- of an admission
abbrev pub admitted_line : ℕ → Admitted → List ℕ
admitted_line rank a = codes "admitted " <> session_text rank a <> codes "\n"

-- of a resumption
abbrev pub resumed_line : ℕ → Admitted → List ℕ
resumed_line rank a = codes "resumed " <> session_text rank a <> codes "\n"

-- of an operation that was sent
abbrev pub sent_line : ℕ → Sent → List ℕ
sent_line rank s =
    codes "sent " <> name_text s.client <> codes " " <> name_text s.daemon <> codes " c" <> decimal rank <> codes " " <> decimal s.seq
    <> codes " " <> operation_text s.operation <> codes "\n"

-- of an operation that was handled
abbrev pub handled_line : ℕ → Handled → List ℕ
handled_line rank h =
    (codes "handled " <> name_text h.daemon <> codes " " <> decimal h.session <> codes " " <> decimal h.epoch <> codes " c" <> decimal rank)
    <> codes " " <> decimal h.seq <> codes " " <> operation_text h.operation <> codes " " <> outcome_word h.outcome <> codes "\n"

-- of an answer
abbrev pub answered_line : Answered → List ℕ
answered_line a =
    codes "answered " <> name_text a.client <> codes " " <> name_text a.daemon <> codes " " <> decimal a.tid <> codes " " <> outcome_word a.outcome
    <> codes "\n"

-- what a refusal says of the ticket that it refuses, by its number: nothing where it refuses none
abbrev pub ticket_text : Option ℕ → List ℕ
ticket_text None = []
ticket_text (Some number) = codes " ticket=" <> decimal number

-- of a refusal, of a ticket of this number or of none
abbrev pub refused_line : Option ℕ → Refused → List ℕ
refused_line number r =
    codes "refused " <> node_text r.node <> codes " " <> decimal r.link <> codes " " <> reason_text r.reason <> ticket_text number <> codes "\n"

-- of the end of a session
abbrev pub ended_line : Ended → List ℕ
ended_line e = codes "ended " <> name_text e.daemon <> codes " " <> decimal e.session <> codes "\n"

-- of a restart
abbrev pub restarted_line : NodeName → List ℕ
restarted_line node = codes "restarted " <> node_text node <> codes "\n"

-- of a broken premise
abbrev pub broken_line : Broken → List ℕ
broken_line b =
    codes "broken " <> premise_word b.why <> codes " " <> node_text b.node <> codes " " <> key_kind_word b.kind <> codes " " <> decimal b.line
    <> codes "\n"

-- of a leaked client
abbrev pub leaked_line : Name → List ℕ
leaked_line client = codes "leaked " <> name_text client <> codes "\n"

-- the line of an entry that stands behind these
abbrev pub line : List Entry → Entry → List ℕ
line earlier (entry.Saved next) = saved_line next
line earlier (entry.Issued t) = issued_line (next_number earlier) t
line earlier (entry.Fetched f) = fetched_line f
line earlier (entry.Looked l) = looked_line l
line earlier (entry.Admitted a) = admitted_line (rank earlier a.cookie) a
line earlier (entry.Resumed a) = resumed_line (rank earlier a.cookie) a
line earlier (entry.Sent s) = sent_line (rank earlier s.cookie) s
line earlier (entry.Handled h) = handled_line (rank earlier h.cookie) h
line earlier (entry.Answered a) = answered_line a
line earlier (entry.Refused r) = refused_line (option_map (ticket_number earlier) (ticket_of r.reason)) r
line earlier (entry.Ended e) = ended_line e
line earlier (entry.Restarted node) = restarted_line node
line earlier (entry.Broken b) = broken_line b
line earlier (entry.Leaked client) = leaked_line client

-- the lines of entries that stand behind the earlier ones
abbrev pub text_behind : List Entry → List Entry → List ℕ
text_behind earlier [] = []
text_behind earlier (e ∷ es) = line earlier e ++ text_behind (earlier ++ e ∷ []) es

-- the text of a whole journal
abbrev pub journal_text : List Entry → List ℕ
journal_text entries = text_behind [] entries
