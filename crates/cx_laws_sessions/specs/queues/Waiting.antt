-- What waits at a client to be acknowledged, beside what the journal says that it sent.
use Rattle.std.specs.Prelude.{ℕ, ◌≡◌, List, ◌++◌, length}
use Rattle.std.specs.List.{AllByRecursion}
use Rattle.cx_base.specs.Names.{Name}
use Rattle.cx_base.specs.declared.operations.Operation.{Operation}
use Rattle.cx_journal.specs.declared.entries.Entry.{Entry}
use Rattle.cx_laws_sessions.specs.queues.Counting.{IsCounted}
use Rattle.cx_laws_sessions.specs.queues.Sending.{IsNumbered, all_sent_to, under_cookie}
use Rattle.cx_laws_sessions.specs.cx_rules_session.specs.Sessions.{HeldSession}
use Rattle.cx_laws_sessions.specs.cx_run.specs.Happenings.{EntityNode, OfClient, OfDaemon}

-- What the client sent last to the daemon of its session was sent in that session, under its cookie: operations 1, 2, 3 and so on up to the last seq that
-- was given. Those that wait are the end of them, behind those that were acknowledged: all, in their order, each once.
pub record IsQueued (entries : List Entry) (client : Name) (session : HeldSession) : Type 0 where
  pub before : List (ℕ × (ℕ × Operation))
  pub acknowledged : List (ℕ × Operation)
  pub place : all_sent_to client session.daemon entries ≡ before ++ under_cookie session.client_cookie (acknowledged ++ session.queue.waiting)
  pub numbered : IsNumbered (acknowledged ++ session.queue.waiting)
  pub last : session.queue.last ≡ length (acknowledged ++ session.queue.waiting)

-- so it is in each session of a client; and at a daemon each session of its book is counted
abbrev pub IsQueuedAt : List Entry → EntityNode → Type 0
IsQueuedAt entries (OfClient c) = AllByRecursion (IsQueued entries c.own.mon_client.name) c.own.sessions
IsQueuedAt entries (OfDaemon d) = IsCounted entries d.node.own.mon_client.name d.book

abbrev pub AreQueuedAt : List Entry → List EntityNode → Type 0
AreQueuedAt entries entities = AllByRecursion (IsQueuedAt entries) entities
