-- The numbers of a line that are places in the entries before it.
use Rattle.std.specs.Prelude.{ℕ, ◌+◌, ◌==◌, not, List, [], ◌∷◌, length, filter, Option, Some, None, position}
use Rattle.std.specs.List.{filter_map, position_or_len}
use Rattle.std.specs.Option.{option_map_or}
use Rattle.std.specs.Str.{bytes_eq}
use Rattle.cx_journal.specs.declared.entries.Entry.{Entry}
use Rattle.cx_journal.specs.declared.entries.Entry.TheVariants as entry
use Rattle.cx_journal.specs.declared.outcomes.Reason.{Reason}
use Rattle.cx_journal.specs.declared.outcomes.Reason.TheVariants as reason

-- the blob of an issued ticket
abbrev pub blob_of : Entry → Option (List ℕ)
blob_of (entry.Issued t) = Some t.blob
blob_of _ = None

-- the blobs of the issued tickets, in their order
abbrev pub blobs_of : List Entry → List (List ℕ)
blobs_of entries = filter_map blob_of entries

-- the number of a ticket that is issued behind these entries
abbrev pub next_number : List Entry → ℕ
next_number earlier = length (blobs_of earlier) + 1

-- the number of the first ticket among these entries that has the blob; 0 where there is none
abbrev pub ticket_number : List Entry → List ℕ → ℕ
ticket_number earlier blob = option_map_or (λ place. place + 1) (position (bytes_eq blob) (blobs_of earlier)) 0

-- the blob of the ticket that was refused, where one was
abbrev pub ticket_of : Reason → Option (List ℕ)
ticket_of (reason.Ticket why blob) = Some blob
ticket_of _ = None

-- the cookie that the line of an entry prints. The line of an answer prints none, so an answer's cookie gets no rank by it
abbrev pub cookie_of : Entry → Option ℕ
cookie_of (entry.Admitted a) = Some a.cookie
cookie_of (entry.Resumed a) = Some a.cookie
cookie_of (entry.Sent s) = Some s.cookie
cookie_of (entry.Handled h) = Some h.cookie
cookie_of _ = None

-- the different ones of a list, by their first appearance
abbrev pub different : List ℕ → List ℕ
different [] = []
different (c ∷ cs) = c ∷ filter (λ d. not (d == c)) (different cs)

-- the different cookies that the lines of these entries print, by their first appearance
abbrev pub cookies_of : List Entry → List ℕ
cookies_of entries = different (filter_map cookie_of entries)

-- the rank, from 1, of a cookie behind these entries: one that they don't have comes next
abbrev pub rank : List Entry → ℕ → ℕ
rank earlier cookie = position_or_len (λ c. cookie == c) (cookies_of earlier) + 1
