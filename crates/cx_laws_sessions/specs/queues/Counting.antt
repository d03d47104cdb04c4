-- How many operations a daemon handled in a session, as a journal says it; and that it handles them in the order of their seqs, each once.
use Rattle.std.specs.Prelude.{ℕ, ◌≡◌, ◌+◌, ◌==◌, ◌&&◌, List, [], ◌∷◌, if◌then◌else◌}
use Rattle.std.specs.List.{AllByRecursion}
use Rattle.cx_laws_sessions.specs.cx_authorize.specs.Daemon.{Authority}
use Rattle.cx_base.specs.Names.{Name, same_name}
use Rattle.cx_journal.specs.Behind.{EachBehind}
use Rattle.cx_journal.specs.declared.entries.Entry.{Entry}
use Rattle.cx_journal.specs.declared.entries.Entry.TheVariants as entry
use Rattle.cx_session.specs.Book.{Book}
use Rattle.cx_session.specs.declared.session.Session.{Session}

-- how many operations were handled in the session of this number at this daemon behind an entry, where it were so many before: none where it is admitted
-- there, and one more where one is handled
abbrev pub counted : Name → ℕ → ℕ → Entry → ℕ
counted daemon number count (entry.Admitted a) = if same_name a.daemon daemon && (a.session == number) then 0 else count
counted daemon number count (entry.Handled h) = if same_name h.daemon daemon && (h.session == number) then count + 1 else count
counted daemon number count _ = count

-- behind more of them
abbrev pub counted_all : Name → ℕ → ℕ → List Entry → ℕ
counted_all daemon number count [] = count
counted_all daemon number count (e ∷ es) = counted_all daemon number (counted daemon number count e) es

-- how many of these entries handle an operation in the session of this number at this daemon, since it was admitted last
abbrev pub handled_since : Name → ℕ → List Entry → ℕ
handled_since daemon number entries = counted_all daemon number 0 entries

-- where the entry handles an operation, its seq is the next number of its session
abbrev pub IsHandledInOrderBy : List Entry → Entry → Type 0
IsHandledInOrderBy earlier (entry.Handled h) = h.seq ≡ handled_since h.daemon h.session earlier + 1
IsHandledInOrderBy earlier _ = Unit {0}

-- each operation of the journal is handled so
abbrev pub IsHandledInOrder : List Entry → Type 0
IsHandledInOrder entries = EachBehind IsHandledInOrderBy [] entries

-- the last message that the book took of each session is the count of what was handled in it
abbrev pub IsCounted : List Entry → Name → Book Authority → Type 0
IsCounted entries daemon book = AllByRecursion (λ (s : Session Authority). s.last ≡ handled_since daemon s.number entries) book.live
