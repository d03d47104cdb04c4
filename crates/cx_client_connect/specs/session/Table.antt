-- A client's sessions as a table, and what becomes of the one with a daemon.
use Rattle.std.specs.Prelude.{ℕ, ◌<◌, ◌&&◌, not, Bool, List, filter, Option, Some, None, Ok, Err, Result}
use Rattle.std.specs.Option.{option_map}
use Rattle.cx_base.specs.Names.{Name, same_name}
use Rattle.cx_base.specs.declared.operations.Operation.{Operation}
use Rattle.cx_rules_session.specs.Sessions.{HeldSession, acknowledged_up_to, session_with, with_session}
use Rattle.cx_session.specs.Queue.{push_reply, pushed}
use Rattle.cx_session.specs.declared.outbox.QueueFault.{QueueFault}
use Rattle.cx_client_connect.specs.declared.table.SessionChange.{SessionChange}
use Rattle.cx_client_connect.specs.declared.table.SessionChange.TheVariants.{Forgets, Opens, TakesUp, Acknowledges}

-- the sessions, and for how many more memory stands ready; nothing depends on it but that a session can be opened
pub record KeptSessions : Type 0 where
  pub sessions : List HeldSession
  pub room : ℕ

-- whether a session is with this daemon
abbrev pub is_with : Name → HeldSession → Bool
is_with daemon session = same_name session.daemon daemon

-- the session with a daemon is another one from now on, where there is one
abbrev pub in_session : Name → (HeldSession → HeldSession) → List HeldSession → List HeldSession
in_session daemon change sessions = with_session daemon (option_map change (session_with daemon sessions)) sessions

-- it was taken up again so often
abbrev pub taken_up : ℕ → HeldSession → HeldSession
taken_up count session = record session { connect_seq = count }

-- what becomes of it
abbrev pub changed : SessionChange → Option HeldSession → Option HeldSession
changed Forgets session = None
changed (Opens session) older = Some session
changed (TakesUp count) session = option_map (taken_up count) session
changed (Acknowledges seq) session = option_map (acknowledged_up_to seq) session

-- a session is opened in memory that stands ready
abbrev pub IsReady : KeptSessions → SessionChange → Type 0
IsReady kept (Opens session) = 0 < kept.room
IsReady kept _ = Unit {0}

-- an operation waits in it, where one more may
abbrev pub pushed_unless : HeldSession → Operation → Result ℕ QueueFault → HeldSession
pushed_unless session operation (Ok seq) = record session { queue = pushed session.queue operation }
pushed_unless session operation (Err why) = session

abbrev pub having_pushed : Operation → HeldSession → HeldSession
having_pushed operation session = pushed_unless session operation (push_reply session.queue)

-- those that outlive a link to this daemon
abbrev pub without_lossy : Name → List HeldSession → List HeldSession
without_lossy daemon sessions = filter (λ session. not (session.lossy && same_name session.daemon daemon)) sessions
