-- The law of answers: a client is told only how an operation of its own ended, by a daemon of the type that it asked, and of
-- each operation once.
use Rattle.std.specs.Prelude.{◌≡◌, ◌≢◌, List, [], ◌∷◌, ◌++◌, IsTrue, Contains}
use Rattle.cx_journal.specs.Behind.{EachBehind}
use Rattle.cx_journal.specs.Leaks.{IsUnleaked}
use Rattle.cx_base.specs.Names.{is_daemon_type}
use Rattle.cx_journal.specs.Sessions.{IsHandledIn}
use Rattle.cx_journal.specs.declared.entries.Entry.{Entry}
use Rattle.cx_journal.specs.declared.entries.Entry.TheVariants as entry
use Rattle.cx_journal.specs.declared.entries.Admitted.{Admitted}
use Rattle.cx_journal.specs.declared.entries.Answered.{Answered}
use Rattle.cx_journal.specs.declared.entries.Handled.{Handled}

-- an answer from a daemon to a client that didn't leak
pub record IsTold (entries : List Entry) (answered : Answered) : Type 0 where
  pub client : IsUnleaked entries answered.client
  pub daemon : IsTrue (is_daemon_type answered.daemon.kind)

-- One of the earlier entries handled the answered operation: at a daemon of the type that was asked, with the answer's tid as
-- its seq, its outcome and its cookie, in a session of the client that got the answer. Which daemon of the type it was isn't
-- said, since all of one type share their secrets.
pub record WasHandled (earlier : List Entry) (answered : Answered) : Type 0 where
  pub before : List Entry
  pub handled : Handled
  pub after : List Entry
  pub place : earlier ≡ before ++ entry.Handled handled ∷ after
  pub kind : handled.daemon.kind ≡ answered.daemon.kind
  pub seq : handled.seq ≡ answered.tid
  pub outcome : handled.outcome ≡ answered.outcome
  pub cookie : handled.cookie ≡ answered.cookie
  pub session : Admitted
  pub handled_in : IsHandledIn before handled session
  pub client : session.entity ≡ answered.client

-- what is said of an answer behind these entries of the whole journal: it was handled, and no earlier answer like it has its
-- cookie and its tid
pub record Tells (entries earlier : List Entry) (answered : Answered) : Type 0 where
  pub handled : WasHandled earlier answered
  pub once : (other : Answered) → Contains earlier (entry.Answered other) → IsTold entries other → other.cookie ≡ answered.cookie → other.tid ≢ answered.tid

abbrev pub IsTruthfulBy : List Entry → List Entry → Entry → Type 0
IsTruthfulBy entries earlier (entry.Answered answered) = IsTold entries answered → Tells entries earlier answered
IsTruthfulBy entries earlier _ = Unit {0}

-- each answer of the journal from a daemon to a client that didn't leak is told so
abbrev pub IsTruthful : List Entry → Type 0
IsTruthful entries = EachBehind (IsTruthfulBy entries) [] entries
