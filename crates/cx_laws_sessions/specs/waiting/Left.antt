-- What waits at a client behind all events: what it sent in its session and no acknowledgement covered.
use Rattle.std.specs.Prelude.{ℕ, ◌≡◌, List, [], ◌∷◌, ◌++◌, drop, length, max, min, Option, Some, None}
use Rattle.cx_base.specs.Names.{Name}
use Rattle.cx_base.specs.declared.operations.Operation.{Operation}
use Rattle.cx_journal.specs.declared.entries.Entry.{Entry}
use Rattle.cx_laws_sessions.specs.queues.Sending.{IsNumbered, all_sent_to, under_cookie}
use Rattle.cx_laws_sessions.specs.cx_rules_session.specs.Sessions.{HeldSession}
use Rattle.cx_laws_sessions.specs.cx_run.specs.Happenings.{Nodes}
use Rattle.cx_laws_sessions.specs.cx_run.specs.Points.{Point}
use Rattle.cx_laws_sessions.specs.waiting.Heard.{Word, Silent, Took, Begins, Ends, heard_at, session_at}
use Rattle.cx_laws_sessions.specs.waiting.Keeping.{Asks}

-- the last number that was given in a session
abbrev pub last_in : Option HeldSession → ℕ
last_in (Some session) = session.queue.last
last_in None = 0

-- The greatest number that was acknowledged in a session, by what comes to it, where it was so great before and so many operations were sent in it: an
-- acknowledgement of more than was sent covers all that was.
abbrev pub greatest : Word → ℕ → ℕ → ℕ
greatest Silent sent before = before
greatest (Took upto) sent before = max before (min upto sent)
greatest Begins sent before = 0
greatest Ends sent before = 0

-- that in a client's session with a daemon, behind these points
abbrev pub acknowledged_until : Name → Name → List Point → ℕ
acknowledged_until client daemon [] = 0
acknowledged_until client daemon (p ∷ older) =
    greatest (heard_at p client daemon) (last_in (session_at p.nodes client daemon)) (acknowledged_until client daemon older)

-- What the client sent last to the daemon of its session was sent in that session, under its cookie: operations 1, 2, 3 and so on up to the last seq that was
-- given. Exactly those wait that are behind the greatest number that was acknowledged.
pub record AreLeft (entries : List Entry) (client : Name) (session : HeldSession) (acknowledged : ℕ) : Type 0 where
  pub before : List (ℕ × (ℕ × Operation))
  pub sent : Asks
  pub place : all_sent_to client session.daemon entries ≡ before ++ under_cookie session.client_cookie sent
  pub numbered : IsNumbered sent
  pub last : session.queue.last ≡ length sent
  pub waits : session.queue.waiting ≡ drop acknowledged sent

-- so it is in each session of each client
abbrev pub AreAllLeft : List Entry → Nodes → List Point → Type 0
AreAllLeft entries nodes past = (client daemon : Name) (session : HeldSession) → session_at nodes client daemon ≡ Some session
    → AreLeft entries client session (acknowledged_until client daemon past)
