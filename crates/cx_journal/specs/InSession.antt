-- The law of sessions: each operation is handled in a session that the daemon admitted or resumed before and that nothing
-- ended since.
use Rattle.std.specs.Prelude.{List, []}
use Rattle.cx_journal.specs.Behind.{EachBehind}
use Rattle.cx_journal.specs.Sessions.{IsHandledIn}
use Rattle.cx_journal.specs.declared.entries.Entry.{Entry}
use Rattle.cx_journal.specs.declared.entries.Entry.TheVariants as entry
use Rattle.cx_journal.specs.declared.entries.Admitted.{Admitted}

-- where the entry handles an operation, it was handled in some session behind the earlier ones
abbrev pub IsInSessionBy : List Entry → Entry → Type 0
IsInSessionBy earlier (entry.Handled handled) = (session : Admitted) × IsHandledIn earlier handled session
IsInSessionBy earlier _ = Unit {0}

-- each handled operation of the journal is in session
abbrev pub IsInSession : List Entry → Type 0
IsInSession entries = EachBehind IsInSessionBy [] entries
