-- What comes to a client's session with a daemon at an event ("msgr2 protocol": ACK, SESSION_RECONNECT_OK, SESSION_RESET, SESSION_RETRY,
-- SESSION_RETRY_GLOBAL, SERVER_IDENT; a lossy session, which ends with its link).
use Rattle.std.specs.Prelude.{ℕ, ◌==◌, ◌-◌, ◌^◌, Option, Some, None, Result, Ok, Err, if◌then◌else◌}
use Rattle.cx_base.specs.Names.{Name, same_name}
use Rattle.cx_base.specs.declared.nodes.NodeName.TheVariants as node
use Rattle.cx_control.specs.Auth.{auth_signature_layout}
use Rattle.cx_control.specs.Idents.{server_ident_layout}
use Rattle.cx_control.specs.Reconnects.{session_reconnect_ok_layout, session_reset_layout, session_retry_layout, session_retry_global_layout}
use Rattle.cx_control.specs.Upkeep.{ack_layout}
use Rattle.cx_control.specs.declared.auth.AuthSignature.{AuthSignature}
use Rattle.cx_frame.specs.declared.frame.Frame.{Frame}
use Rattle.cx_journal.specs.declared.faults.BytesFault.{BytesFault}
use Rattle.cx_laws_sessions.specs.cx_rules.specs.Fronts.{Front, NotYet, Broken, Next, secure_next}
use Rattle.cx_laws_sessions.specs.cx_rules.specs.Inputs.{Input, Turn, Gone, Restart}
use Rattle.cx_laws_sessions.specs.cx_rules.specs.Links.{Link, link_of}
use Rattle.cx_laws_sessions.specs.cx_rules.specs.Payloads.{due, payload}
use Rattle.cx_laws_sessions.specs.cx_rules.specs.Secured.{Keys, Secured, is_signed}
use Rattle.cx_laws_sessions.specs.cx_rules_session.specs.ClientRule.{ClientStage, ToMonitor, ToDaemon, WholeClientNode}
use Rattle.cx_laws_sessions.specs.cx_rules_session.specs.Kinds.{in_stage}
use Rattle.cx_laws_sessions.specs.cx_rules_session.specs.Presenter.{CallStage, AwaitsSignature, AwaitsIdent, AwaitsReconnect, Open, callee_of}
use Rattle.cx_laws_sessions.specs.cx_rules_session.specs.Sessions.{HeldSession, session_with}
use Rattle.cx_laws_sessions.specs.cx_run.specs.Happenings.{EntityNode, OfClient, OfDaemon, Nodes, entity_of}
use Rattle.cx_laws_sessions.specs.cx_run.specs.Points.{Point}
use Rattle.cx_laws_sessions.specs.cx_run.specs.Wires.{same_node}

-- nothing that changes it; that the daemon took all that was sent in it up to a number; that it begins; or that it ends
pub data Word : Type 0 where
  Silent : Word
  Took : ℕ → Word
  Begins : Word
  Ends : Word

-- ---- what a frame says

-- by its payload, where that can be read
abbrev pub said : {X : Type 0} → (X → Word) → Result X BytesFault → Word
said word (Ok x) = word x
said word (Err why) = Silent

-- behind 2^64 - 1 nothing is counted on: a session that was taken up so often ends
abbrev pub ends_behind : ℕ → Word
ends_behind count = if count == 2 ^ 64 - 1 then Ends else Silent

-- AUTH_SIGNATURE, where it is right: the session that is held is taken up once more
abbrev pub said_signed : Secured → Option HeldSession → AuthSignature → Word
said_signed s None found = Silent
said_signed s (Some session) found = if is_signed s found.signature then ends_behind session.connect_seq else Silent

-- behind SESSION_RECONNECT: SESSION_RECONNECT_OK, SESSION_RESET, SESSION_RETRY, SESSION_RETRY_GLOBAL
abbrev pub said_reconnecting : Frame → Word
said_reconnecting f =
    if f.tag == 15 then said (λ ok. Took ok.seq) (payload session_reconnect_ok_layout.form f)
    else if f.tag == 12 then said (λ reset. Ends) (payload session_reset_layout.form f)
    else if f.tag == 13 then said (λ retry. ends_behind retry.connect_seq) (payload session_retry_layout.form f)
    else if f.tag == 14 then said (λ retry. ends_behind retry.global_seq) (payload session_retry_global_layout.form f)
    else Silent

-- on an open link: ACK
abbrev pub said_open : Frame → Word
said_open f = if f.tag == 20 then said (λ ack. Took ack.seq) (payload ack_layout.form f) else Silent

-- ---- what is said on a link

-- of the frame that opens next, where one does
abbrev pub heard_in : (Frame → Word) → Front (Link CallStage × Frame × Keys) → Word
heard_in word NotYet = Silent
heard_in word (Broken why opened) = Silent
heard_in word (Next (link, f, keys) opened) = word f

-- by what the link waits for: behind CLIENT_IDENT that is SERVER_IDENT; before AUTH_SIGNATURE nothing is said of a session
abbrev pub heard_on : Link CallStage → Option HeldSession → CallStage → Word
heard_on link session (AwaitsSignature s callee) =
    heard_in (λ f. said (said_signed s session) (due 7 auth_signature_layout.form f)) (secure_next s.keys link)
heard_on link session (AwaitsIdent s callee cookie) = heard_in (λ f. said (λ ident. Begins) (due 9 server_ident_layout.form f)) (secure_next s.keys link)
heard_on link session (AwaitsReconnect s callee cookie) = heard_in said_reconnecting (secure_next s.keys link)
heard_on link session (Open s callee cookie) = heard_in said_open (secure_next s.keys link)
heard_on link session _ = Silent

-- ---- what comes to a client

-- on a link, where it is one to this daemon
abbrev pub heard_if : Name → (CallStage → Word) → ClientStage → Word
heard_if daemon word (ToMonitor stage) = Silent
heard_if daemon word (ToDaemon stage) = if same_name (callee_of stage).daemon daemon then word stage else Silent

-- at a turn of it
abbrev pub heard_turning : Name → Option HeldSession → Option (Link ClientStage) → Word
heard_turning daemon session None = Silent
heard_turning daemon session (Some link) = heard_if daemon (λ stage. heard_on (in_stage link stage) session stage) link.stage

-- where it is gone: with it a lossy session
abbrev pub ends_if_lossy : Option HeldSession → Word
ends_if_lossy None = Silent
ends_if_lossy (Some session) = if session.lossy then Ends else Silent

abbrev pub heard_gone : Name → Option HeldSession → Option (Link ClientStage) → Word
heard_gone daemon session None = Silent
heard_gone daemon session (Some link) = heard_if daemon (λ stage. ends_if_lossy session) link.stage

-- of its session with this daemon; where it begins anew, it has none
abbrev pub heard_by : WholeClientNode → Name → Input → Word
heard_by c daemon (Turn number) = heard_turning daemon (session_with daemon c.own.sessions) (link_of number c.links)
heard_by c daemon (Gone number) = heard_gone daemon (session_with daemon c.own.sessions) (link_of number c.links)
heard_by c daemon Restart = Ends
heard_by c daemon _ = Silent

-- ---- at a point of a run

-- the session of an entity with a daemon: a client has some
abbrev pub session_in : Name → Option EntityNode → Option HeldSession
session_in daemon (Some (OfClient c)) = session_with daemon c.own.sessions
session_in daemon (Some (OfDaemon d)) = None
session_in daemon None = None

-- the session of the client of a name
abbrev pub session_at : Nodes → Name → Name → Option HeldSession
session_at nodes client daemon = session_in daemon (entity_of client nodes)

abbrev pub heard_as : Name → Input → Option EntityNode → Word
heard_as daemon input (Some (OfClient c)) = heard_by c daemon input
heard_as daemon input (Some (OfDaemon d)) = Silent
heard_as daemon input None = Silent

-- what comes to it at a point
abbrev pub heard_at : Point → Name → Name → Word
heard_at p client daemon =
    if same_node p.happening.node (node.Entity client) then heard_as daemon p.happening.input (entity_of client p.nodes) else Silent
