-- What the monitor does at each event.
use Rattle.std.specs.Prelude.{ℕ, ◌==◌, List, [], ◌∷◌, length, Bool, true, false, nat_le, Option, Some, None, Result, if◌then◌else◌}
use Rattle.cx_base.specs.declared.kinds.EntityType.TheVariants.{Mon}
use Rattle.cx_login.specs.cx_control.specs.Auth.{auth_request_layout, auth_request_more_layout, auth_signature_layout}
use Rattle.cx_login.specs.cx_control.specs.Hello.{hello_layout}
use Rattle.cx_login.specs.cx_control.specs.Idents.{client_ident_layout}
use Rattle.cx_login.specs.cx_control.specs.Reconnects.{session_reconnect_layout, session_reset_layout}
use Rattle.cx_login.specs.cx_control.specs.declared.auth.AuthRequestMore.{AuthRequestMore}
use Rattle.cx_login.specs.cx_control.specs.declared.idents.ClientIdent.{ClientIdent}
use Rattle.cx_login.specs.cx_control.specs.declared.reconnects.SessionReconnect.{SessionReconnect}
use Rattle.cx_stream.specs.cx_frame.specs.declared.frame.Frame.{Frame}
use Rattle.cx_login.specs.cx_journal.specs.declared.entries.Entry.TheVariants as entry
use Rattle.cx_login.specs.cx_journal.specs.declared.faults.BytesFault.{BytesFault}
use Rattle.cx_login.specs.cx_journal.specs.declared.faults.BytesFault.TheVariants.{Unexpected}
use Rattle.cx_base.specs.declared.nodes.NodeName.TheVariants as node
use Rattle.cx_login.specs.cx_journal.specs.declared.outcomes.Reason.TheVariants.{LinksFull}
use Rattle.cx_base.specs.declared.addresses.Addr.{Addr}
use Rattle.cx_keyserver.specs.Servers.{Server}
use Rattle.cx_login.specs.cx_steps.specs.Nothing.{nothing}
use Rattle.cx_login.specs.cx_wire.specs.Logins.{authenticate_layout, login_hello_layout}
use Rattle.cx_rules.specs.Acceptor.{AwaitsBanner, AwaitsHello, AwaitsRequest, AwaitsProof, AwaitsSignature, AwaitsIdent, Open, misses, on_auth_request, on_banner, on_hello, on_signature, server_ident}
use Rattle.cx_rules.specs.Fronts.{banner_next, plain_next, secure_next}
use Rattle.cx_rules.specs.Inputs.{Input, Opened, NoLink, Bytes, Turn, Gone, Look, Tick, Submit, Restart}
use Rattle.cx_rules.specs.Links.{Link, link_of}
use Rattle.cx_rules.specs.Monitor.{Monitor, MonitorArrival, MonitorNode, MonitorRow, MonitorStage, Offered}
use Rattle.cx_rules.specs.MonitorLogin.{on_authenticate, on_login_hello}
use Rattle.cx_rules.specs.MonitorRequests.{on_open}
use Rattle.cx_rules.specs.Payloads.{control, due, payload, whole}
use Rattle.cx_rules.specs.Rows.{Outcome, Turned, arrival, at, carried_out, fed, forgotten, goes_on, idles, new_link, opens_none, refuses, refuses_bytes, sends_secure, turned_by, turns, unless_refused, with_opened}
use Rattle.cx_rules.specs.Secured.{Secured, under}
use Rattle.cx_rules.specs.Greetings.{own_banner}
use Rattle.cx_rules.specs.declared.responses.Bearer.{Bearer}

-- ---- CLIENT_IDENT, SESSION_RECONNECT

-- SERVER_IDENT is sent: the monitor's sessions are lossy, and have no cookie
abbrev pub on_client_ident : MonitorArrival → Secured → Bearer → Result ClientIdent BytesFault → MonitorRow
on_client_ident a s bearer read = unless_refused a [] read (λ ident.
    if ident.required == 0 then sends_secure a s (λ behind. Open behind bearer) [] (server_ident a.own.address 1 0) else misses a s ident.required)

-- SESSION_RESET: all of the session is forgotten
abbrev pub session_reset : Frame
session_reset = control 12 session_reset_layout.form (record { full = true })

-- the monitor has no session to go on with: SESSION_RESET is sent, and CLIENT_IDENT is waited for
abbrev pub on_session_reconnect : MonitorArrival → Secured → Bearer → Result SessionReconnect BytesFault → MonitorRow
on_session_reconnect a s bearer read = unless_refused a [] read (λ reconnect.
    sends_secure a s (λ behind. AwaitsIdent behind bearer) [] session_reset)

abbrev pub on_ident : MonitorArrival → Secured → Bearer → Frame → MonitorRow
on_ident a s bearer f =
    if f.tag == 8 then on_client_ident a s bearer (payload client_ident_layout.form f)
    else if f.tag == 11 then on_session_reconnect a s bearer (payload session_reconnect_layout.form f)
    else refuses_bytes a (Unexpected f.tag) []

-- ---- what is for the monitor in AUTH_REQUEST and AUTH_REQUEST_MORE

abbrev pub on_request_payload : MonitorArrival → List ℕ → MonitorRow
on_request_payload a bytes = on_login_hello a (whole login_hello_layout.form bytes)

abbrev pub on_auth_request_more : MonitorArrival → Offered → Result AuthRequestMore BytesFault → MonitorRow
on_auth_request_more a offered read = unless_refused a [] read (λ more. on_authenticate a offered (whole authenticate_layout.form more.payload))

-- ---- a turn

-- by the stage of the link
abbrev pub turned_at : MonitorArrival → MonitorStage → Turned Monitor MonitorStage
turned_at a AwaitsBanner = turned_by (λ link _. on_banner Mon (at a link)) (banner_next a.link)
turned_at a AwaitsHello = turned_by (λ (link, f) _. on_hello (at a link) (due 1 hello_layout.form f)) (plain_next a.link)
turned_at a AwaitsRequest = turned_by (λ (link, f) _. on_auth_request on_request_payload (at a link) (due 2 auth_request_layout.form f)) (plain_next a.link)
turned_at a (AwaitsProof offered) = turned_by (λ (link, f) _. on_auth_request_more (at a link) offered (due 5 auth_request_more_layout.form f)) (plain_next a.link)
turned_at a (AwaitsSignature s bearer) =
    turned_by (λ (link, f, keys) opened. with_opened opened (on_signature (at a link) (under s keys) bearer (due 7 auth_signature_layout.form f))) (secure_next s.keys a.link)
turned_at a (AwaitsIdent s bearer) =
    turned_by (λ (link, f, keys) opened. with_opened opened (on_ident (at a link) (under s keys) bearer f)) (secure_next s.keys a.link)
turned_at a (Open s bearer) =
    turned_by (λ (link, f, keys) opened. with_opened opened (on_open Open (at a link) (under s keys) bearer f)) (secure_next s.keys a.link)

-- ---- events

abbrev pub turn : MonitorNode → ℕ → List ℕ → Option (Link MonitorStage) → Outcome MonitorNode
turn m reading draw None = idles m
turn m reading draw (Some link) = let a = arrival node.Monitor m.own link reading draw in turns m a (turned_at a link.stage)

-- a link opens: the banner is sent, unless 1,024 links live
abbrev pub opens : MonitorNode → ℕ → List ℕ → Link MonitorStage → Outcome MonitorNode
opens m reading draw link =
    let a = arrival node.Monitor m.own link reading draw in
    carried_out m link.number false (if nat_le 1024 (length m.links) then refuses a LinksFull [] else goes_on a AwaitsBanner own_banner [])

-- the monitor begins anew, from what it saved last
abbrev pub restarted : MonitorNode → Outcome MonitorNode
restarted m = record {
  state = record { own = record m.own { server = record m.own.server { state = m.own.saved } }; links = [] };
  out = record nothing { entries = entry.Restarted node.Monitor ∷ [] };
}

-- before a step what was saved last is noted
abbrev pub noted : MonitorNode → MonitorNode
noted m = record m { own = record m.own { saved_before = m.own.saved } }

abbrev pub monitor_step : MonitorNode → Input → ℕ → List ℕ → Outcome MonitorNode
monitor_step m (Opened number peer) reading draw = opens m reading draw (new_link number AwaitsBanner)
monitor_step m (Bytes number bytes) reading draw = fed m bytes (link_of number m.links)
monitor_step m (Turn number) reading draw = turn m reading draw (link_of number m.links)
monitor_step m (Gone number) reading draw = idles (forgotten m number)
monitor_step m Restart reading draw = restarted m
monitor_step m (NoLink peer) reading draw = opens_none m node.Monitor
monitor_step m (Look view) reading draw = idles m
monitor_step m Tick reading draw = idles m
monitor_step m (Submit command) reading draw = idles m

-- what the monitor does at an event with this reading and this draw
abbrev pub monitor_rule : MonitorNode → Input → ℕ → List ℕ → Outcome MonitorNode
monitor_rule m input reading draw = monitor_step (noted m) input reading draw

-- what was saved by the last step is taken back
abbrev pub unsaved : MonitorNode → MonitorNode
unsaved m = record m { own = record m.own { saved = m.own.saved_before } }

-- the monitor as it begins, with a key server whose state was kept or is the first one
abbrev pub opening_monitor : Server → Addr → MonitorNode
opening_monitor server address =
    record { own = record { server = server; saved = server.state; saved_before = server.state; address = address }; links = [] }

-- the monitor waits for nothing
abbrev pub is_idle : MonitorNode → Bool
is_idle m = true
