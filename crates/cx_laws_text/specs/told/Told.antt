-- What the lines of a journal tell of its entries: all but what a reader can't see. In place of a blob stands the number of its ticket, in place of a
-- cookie its rank, generations stand by their ids alone, and no line tells the cookie of an answer.
use Rattle.std.specs.Prelude.{List, [], ◌∷◌, ◌++◌, map}
use Rattle.std.specs.Fmt.{decimal}
use Rattle.cx_journal.specs.Places.{next_number, rank, ticket_number}
use Rattle.cx_journal.specs.declared.entries.Entry.{Entry}
use Rattle.cx_journal.specs.declared.entries.Entry.TheVariants as entry
use Rattle.cx_journal.specs.declared.outcomes.Reason.{Reason}
use Rattle.cx_journal.specs.declared.outcomes.Reason.TheVariants as reason
use Rattle.cx_audit_text.specs.words.Readings.{told_by_id}
use Rattle.cx_rotate.specs.declared.generations.Generation.{Generation}

-- generations, by their ids alone
abbrev pub ids_told : List Generation → List Generation
ids_told generations = map (λ g. told_by_id g.id) generations

-- a reason, behind these entries: of a ticket the digits of its number
abbrev pub reason_told : List Entry → Reason → Reason
reason_told earlier (reason.Ticket why blob) = reason.Ticket why (decimal (ticket_number earlier blob))
reason_told earlier why = why

-- an entry, behind these
abbrev pub entry_told : List Entry → Entry → Entry
entry_told earlier (entry.Issued t) = entry.Issued (record t { blob = decimal (next_number earlier) })
entry_told earlier (entry.Fetched f) = entry.Fetched (record f { generations = ids_told f.generations })
entry_told earlier (entry.Looked l) = entry.Looked (record l { view = record { generations = ids_told l.view.generations; asked = l.view.asked } })
entry_told earlier (entry.Admitted a) = entry.Admitted (record a { cookie = rank earlier a.cookie })
entry_told earlier (entry.Resumed a) = entry.Resumed (record a { cookie = rank earlier a.cookie })
entry_told earlier (entry.Sent s) = entry.Sent (record s { cookie = rank earlier s.cookie })
entry_told earlier (entry.Handled h) = entry.Handled (record h { cookie = rank earlier h.cookie })
entry_told earlier (entry.Answered a) = entry.Answered (record a { cookie = 0 })
entry_told earlier (entry.Refused r) = entry.Refused (record r { reason = reason_told earlier r.reason })
entry_told earlier e = e

-- these entries, behind the earlier ones
abbrev pub told_behind : List Entry → List Entry → List Entry
told_behind earlier [] = []
told_behind earlier (e ∷ es) = entry_told earlier e ∷ told_behind (earlier ++ e ∷ []) es

-- a whole journal
abbrev pub journal_told : List Entry → List Entry
journal_told entries = told_behind [] entries
