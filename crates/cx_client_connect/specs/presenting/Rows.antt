-- The rows and the turns of the rules as they are made on a link to a daemon.
use Rattle.std.specs.Prelude.{ℕ, ◌≡◌, List, [], Option, None, Result}
use Rattle.cx_authorize.specs.Client.{Presented}
use Rattle.cx_authorize.specs.declared.refusals.PresentRefusal.{PresentRefusal}
use Rattle.cx_authorize.specs.declared.refusals.PresentRefusal.TheVariants as refusal
use Rattle.cx_base.specs.declared.nodes.NodeName.TheVariants as node
use Rattle.cx_control.specs.declared.bad_method.AuthBadMethod.{AuthBadMethod}
use Rattle.cx_journal.specs.declared.faults.BytesFault.{BytesFault}
use Rattle.cx_journal.specs.declared.faults.BytesFault.TheVariants.{Malformed}
use Rattle.cx_journal.specs.declared.faults.LoginFault.TheVariants as login
use Rattle.cx_journal.specs.declared.outcomes.Reason.TheVariants as reason
use Rattle.cx_link.specs.Wires.{new_wire, wired}
use Rattle.cx_node.specs.Made.{going_on}
use Rattle.cx_node.specs.declared.rows.Row.{Row as Made}
use Rattle.cx_node.specs.cx_rules.specs.Greetings.{own_banner}
use Rattle.cx_node.specs.cx_rules.specs.Holdings.{MonClient}
use Rattle.cx_node.specs.cx_rules.specs.Rows.{arrival, refuses, unless_refused}
use Rattle.cx_client_connect.specs.cx_rules_session.specs.Forgets.{abridged_call_link}
use Rattle.cx_client_connect.specs.cx_rules_session.specs.Presenter.{AwaitsBanner, CallArrival, CallRow, Caller, authorizer_bytes, turned_at}
use Rattle.cx_client_connect.specs.cx_rules_session.specs.Sessions.{Called, HeldSession}
use Rattle.cx_client_connect.specs.session.Table as table
use Rattle.cx_node.specs.steps.Making as making
use Rattle.cx_node.specs.steps.Steps.{IsTurn}
use Rattle.cx_node.specs.declared.came.Came.{Came}
use Rattle.cx_node.specs.declared.moments.Moment.{Moment}
use Rattle.cx_node.specs.declared.steps_rows.NoRow.{NoRow}
use Rattle.cx_node.specs.declared.steps_rows.NoRow.TheVariants.{Refused, OutOfMemory}
use Rattle.cx_node.specs.declared.steps_rows.NodeRow.{NodeRow}
use Rattle.cx_client_connect.specs.presenting.Stages.{CallLink}
use Rattle.cx_client_connect.specs.declared.rows.Change.{Change}
use Rattle.cx_client_connect.specs.declared.rows.Change.TheVariants.{Session, Counts}

-- one that asks the monitor, with its session with the daemon
abbrev pub caller : MonClient → Option HeldSession → Caller
caller mon_client session = record { mon_client = mon_client; session = session }

-- what a row goes by: the client, the link, and the event
abbrev pub arrived : Caller → Moment → CallLink → CallArrival
arrived c at link = arrival (node.Entity c.mon_client.name) c link at.reading at.draw.now.bytes

-- the client, behind a change of what it has
abbrev pub changed : Caller → Change → Caller
changed c (Session change) = record c { session = table.changed change c.session }
changed c (Counts count) = record c { mon_client = record c.mon_client { global_seq = count } }

-- a row was made on this link as the rules have it, or the link is refused as they have it
abbrev pub MakesFor : Caller → Moment → CallLink → (CallArrival → CallRow) → Result (NodeRow CallLink Change) NoRow → Type 0
MakesFor c at link rule made = making.Makes abridged_call_link changed (arrived c at link) (rule (arrived c at link)) made

-- the same whatever session the client has with the daemon
abbrev pub Makes : MonClient → Moment → CallLink → (CallArrival → CallRow) → Result (NodeRow CallLink Change) NoRow → Type 0
Makes mon_client at link rule made = (session : Option HeldSession) → MakesFor (caller mon_client session) at link rule made

-- a turn of this link came to what the rules have it come to
abbrev pub IsCallTurn : Caller → Moment → CallLink → Came CallLink Change → Type 0
IsCallTurn c at link come = IsTurn abridged_call_link changed c link (turned_at (arrived c at link) link.stage) come

-- ---- rows by what was read

-- AUTH_BAD_METHOD, by the part that is kept of it
abbrev pub denied : CallArrival → Result AuthBadMethod BytesFault → CallRow
denied a read = unless_refused a [] read (λ refusal. refuses a (reason.Denied refusal.result) [])

-- why there is no row where a daemon's answer is refused
abbrev pub no_row : PresentRefusal → NoRow
no_row (refusal.Malformed place) = Refused (reason.Bytes (Malformed place))
no_row refusal.Unopened = Refused (reason.Login login.Unopened)
no_row (refusal.NonceWrong expected got) = Refused (reason.Login (login.NonceWrong expected got))
no_row refusal.OutOfMemory = OutOfMemory

-- this is shown, in these bytes
abbrev pub IsShown : Presented → Presented × List ℕ → Type 0
IsShown p (shown, bytes) = (shown ≡ p) × (bytes ≡ authorizer_bytes p None)

-- the row of a link of this number that opens: nothing came on it, and the banner was sent
abbrev pub opening_row : ℕ → Called → Made CallLink
opening_row number called = going_on (wired number (record new_wire { sent = own_banner }) (AwaitsBanner called)) own_banner []
