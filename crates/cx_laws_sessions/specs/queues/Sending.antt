-- What a client sent to a daemon, as a journal says it; and that it numbers what it sends in a session 1, 2, 3 and so on.
use Rattle.std.specs.Prelude.{ℕ, ◌≡◌, ◌+◌, ◌&&◌, List, [], ◌++◌, length, map, Option, Some, None, if◌then◌else◌}
use Rattle.std.specs.List.{filter_map}
use Rattle.cx_base.specs.Names.{Name, same_name}
use Rattle.cx_base.specs.declared.operations.Operation.{Operation}
use Rattle.cx_journal.specs.Behind.{EachBehind}
use Rattle.cx_journal.specs.declared.entries.Entry.{Entry}
use Rattle.cx_journal.specs.declared.entries.Entry.TheVariants as entry
use Rattle.cx_journal.specs.declared.entries.Sent.{Sent}
use Rattle.cx_session.specs.Queue.{IsRun}

-- the cookie, the seq and the operation that an entry says this client sent to this daemon
abbrev pub sent_to : Name → Name → Entry → Option (ℕ × (ℕ × Operation))
sent_to client daemon (entry.Sent s) =
    if same_name s.client client && same_name s.daemon daemon then Some (s.cookie, (s.seq, s.operation)) else None
sent_to client daemon _ = None

-- all that these entries say it sent to it, in order
abbrev pub all_sent_to : Name → Name → List Entry → List (ℕ × (ℕ × Operation))
all_sent_to client daemon entries = filter_map (sent_to client daemon) entries

-- operations, each with its seq, as they are sent under a cookie
abbrev pub under_cookie : ℕ → List (ℕ × Operation) → List (ℕ × (ℕ × Operation))
under_cookie cookie asks = map (λ ask. (cookie, ask)) asks

-- the seqs of all of them are 1, 2, 3 and so on
abbrev pub IsNumbered : List (ℕ × Operation) → Type 0
IsNumbered asks = IsRun (length asks) asks

-- An operation is sent to a daemon behind these entries as the next one of a session: what the client sent last to that daemon is operations 1, 2, 3
-- and so on under the very same cookie, none where it is the first one, and its seq is the next number.
pub record IsNextSent (earlier : List Entry) (sent : Sent) : Type 0 where
  pub before : List (ℕ × (ℕ × Operation))
  pub session : List (ℕ × Operation)
  pub place : all_sent_to sent.client sent.daemon earlier ≡ before ++ under_cookie sent.cookie session
  pub numbered : IsNumbered session
  pub next : sent.seq ≡ length session + 1

abbrev pub IsSentInOrderBy : List Entry → Entry → Type 0
IsSentInOrderBy earlier (entry.Sent sent) = IsNextSent earlier sent
IsSentInOrderBy earlier _ = Unit {0}

-- each operation of the journal is sent so
abbrev pub IsSentInOrder : List Entry → Type 0
IsSentInOrder entries = EachBehind IsSentInOrderBy [] entries
