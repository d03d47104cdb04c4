-- A client's sessions with daemons ("msgr2 protocol": cookies, connect_seq, messages that wait for their acknowledgement), and what it is to a
-- link that it calls a daemon: a ticket that it shows, and a session that it has.
use Rattle.std.specs.Prelude.{ℕ, Bool, false, not, List, [], ◌∷◌, filter, find, map, nat_lt, length, Option, Some, None, unwrap_or, if◌then◌else◌}
use Rattle.cx_session.specs.cx_base.specs.Names.{Name, same_name}
use Rattle.cx_session.specs.cx_base.specs.declared.kinds.EntityType.{EntityType}
use Rattle.cx_session.specs.cx_base.specs.declared.kinds.EntityType.TheVariants.{Mon, Mds, Osd, Client, Mgr, Auth}
use Rattle.cx_session.specs.cx_base.specs.declared.operations.Operation.{Operation}
use Rattle.cx_authorize.specs.cx_control.specs.Reconnects.{session_reconnect_layout}
use Rattle.cx_rules.specs.cx_frame.specs.declared.frame.Frame.{Frame}
use Rattle.cx_rules.specs.cx_login.specs.Held.{Held}
use Rattle.cx_session.specs.Queue.{Queue, acknowledged, empty_queue}
use Rattle.cx_authorize.specs.cx_wire.specs.Operations.{operation_layout}
use Rattle.cx_rules.specs.Holdings.{MonClient, Holdings}
use Rattle.cx_rules.specs.Messages.{message}
use Rattle.cx_rules.specs.Payloads.{control}

-- ---- whom a client calls

-- a daemon, and whether a session that is opened on the link is to end with it
pub record Callee : Type 0 where
  pub daemon : Name
  pub lossy : Bool

-- with the ticket and the global id that were held when the link was asked for
pub record Called : Type 0 where
  pub callee : Callee
  pub held : Held
  pub gid : ℕ

-- the ticket that is held for a service
abbrev pub ticket_for : EntityType → Holdings → Option Held
ticket_for Auth holdings = holdings.auth
ticket_for Mds holdings = holdings.mds
ticket_for Osd holdings = holdings.osd
ticket_for Mgr holdings = holdings.mgr
ticket_for Mon holdings = None
ticket_for Client holdings = None

-- the global id that is held, else 0
abbrev pub held_gid : Holdings → ℕ
held_gid holdings = unwrap_or holdings.gid 0

-- ---- sessions

-- a session with a daemon: both cookies, whether it ends with its link, how often it was taken up again, and what was sent in it and isn't
-- acknowledged yet
pub record HeldSession : Type 0 where
  pub daemon : Name
  pub client_cookie : ℕ
  pub server_cookie : ℕ
  pub lossy : Bool
  pub connect_seq : ℕ
  pub queue : Queue

-- a session that a daemon has just opened, under the cookies of the client and of the daemon
abbrev pub new_session : Callee → ℕ → ℕ → HeldSession
new_session callee client server = record {
  daemon = callee.daemon;
  client_cookie = client;
  server_cookie = server;
  lossy = callee.lossy;
  connect_seq = 0;
  queue = empty_queue;
}

-- the session with a daemon
abbrev pub session_with : Name → List HeldSession → Option HeldSession
session_with daemon sessions = find (λ session. same_name session.daemon daemon) sessions

-- a session in place of the older one with its daemon, or behind the others
abbrev pub put_session : HeldSession → List HeldSession → List HeldSession
put_session session [] = session ∷ []
put_session session (other ∷ others) =
    if same_name other.daemon session.daemon then session ∷ others else other ∷ put_session session others

abbrev pub without_session : Name → List HeldSession → List HeldSession
without_session daemon sessions = filter (λ session. not (same_name session.daemon daemon)) sessions

-- the sessions where this is the one with a daemon, or where there is none with it
abbrev pub with_session : Name → Option HeldSession → List HeldSession → List HeldSession
with_session daemon (Some session) sessions = put_session session sessions
with_session daemon None sessions = without_session daemon sessions

-- what has been acknowledged doesn't wait any more
abbrev pub acknowledged_up_to : ℕ → HeldSession → HeldSession
acknowledged_up_to seq session = record session { queue = acknowledged session.queue seq }

-- whether an operation waits for its acknowledgement
abbrev pub is_unacknowledged : Option HeldSession → Bool
is_unacknowledged (Some session) = nat_lt 0 (length session.queue.waiting)
is_unacknowledged None = false

-- ---- frames

-- SESSION_RECONNECT: one's address, both cookies, one's count of connections, and how often the session was taken up again
abbrev pub session_reconnect : MonClient → HeldSession → Frame
session_reconnect mon_client session = control 11 session_reconnect_layout.form (record {
  addr = mon_client.address;
  client_cookie = session.client_cookie;
  server_cookie = session.server_cookie;
  global_seq = mon_client.global_seq;
  connect_seq = session.connect_seq;
  msg_seq = 0;
})

-- message 42: its seq is the operation's number, which is its tid too
abbrev pub operation_message : ℕ × Operation → Frame
operation_message (seq, operation) = message (record { seq = seq; tid = seq; type_ = 42 }) (operation_layout.form.text operation)

-- all that waits, in order
abbrev pub waiting_messages : HeldSession → List Frame
waiting_messages session = map operation_message session.queue.waiting
