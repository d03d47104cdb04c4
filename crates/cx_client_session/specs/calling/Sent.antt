-- Secure frames that are sent on a link to a daemon, and the rows of these.
use Rattle.std.specs.Prelude.{ℕ, ◌++◌, List, [], ◌∷◌, Option, Some, None, Result, Ok, Err}
use Rattle.cx_base.specs.declared.nodes.NodeName.{NodeName}
use Rattle.cx_journal.specs.declared.faults.BytesFault.{BytesFault}
use Rattle.cx_link.specs.Wires.{SecureWire, secured_link}
use Rattle.cx_link.specs.declared.links.SentFrame.{SentFrame}
use Rattle.cx_node.specs.Made.{going_on, refusing_bytes}
use Rattle.cx_node.specs.declared.rows.Row.{Row as Made}
use Rattle.cx_node.specs.cx_rules.specs.Secured.{Keys, Secured}
use Rattle.cx_client_connect.specs.cx_rules_session.specs.Forgets.{abridged_call_link}
use Rattle.cx_client_connect.specs.cx_rules_session.specs.Presenter as call
use Rattle.cx_client_connect.specs.cx_rules_session.specs.Presenter.{CallArrival, CallRow, CallStage, Caller}
use Rattle.cx_client_connect.specs.cx_rules_session.specs.Sessions.{Callee, HeldSession}
use Rattle.cx_steps.specs.declared.seals.SealEntry.{SealEntry}
use Rattle.cx_node.specs.steps.Making.{IsRow}
use Rattle.cx_node.specs.steps.Stages.{keys_alone}
use Rattle.cx_node.specs.declared.moments.Moment.{Moment}
use Rattle.cx_client_connect.specs.presenting.Rows.{arrived}
use Rattle.cx_client_connect.specs.presenting.Stages.{CallLink}
use Rattle.cx_client_session.specs.declared.frames.Ahead.{Ahead}
use Rattle.cx_client_session.specs.declared.frames.Ahead.TheVariants.{Ident, Reconnect, Open}

-- what a link waits for behind a frame that is sent on it
abbrev pub stage_ahead : Ahead → Callee → ℕ → Secured → CallStage
stage_ahead Ident callee cookie s = call.AwaitsIdent s callee cookie
stage_ahead Reconnect callee cookie s = call.AwaitsReconnect s callee cookie
stage_ahead Open callee cookie s = call.Open s callee cookie

abbrev pub link_ahead : ℕ → SecureWire → Ahead → Callee → ℕ → CallLink
link_ahead number link ahead callee cookie = secured_link number link.ahead (stage_ahead ahead callee cookie (keys_alone link.keys))

-- the row of a frame that was sent, or couldn't be sealed
abbrev pub sent_row : NodeName → ℕ → Ahead → Callee → ℕ → List SealEntry → Result SentFrame BytesFault → Made CallLink
sent_row me number ahead callee cookie before (Ok sent) = going_on (link_ahead number sent.link ahead callee cookie) sent.bytes (before ++ sent.seals)
sent_row me number ahead callee cookie before (Err why) = refusing_bytes me number why before

-- a row was made on this link as the rules have it, with this of the client's own behind it
abbrev pub IsRowAt : Caller → Moment → CallLink → (CallArrival → CallRow) → Made CallLink → Type 0
IsRowAt c at link rule row = IsRow abridged_call_link at.number c (rule (arrived c at link)) row

-- behind the daemon's signature, which was found right, as this entry says, on a link with these keys
abbrev pub signed_on : CallArrival → Keys → Callee → SealEntry → Option HeldSession → CallRow
signed_on a keys callee found None = call.identifies a (keys_alone keys) callee (found ∷ [])
signed_on a keys callee found (Some session) = call.takes_up a (keys_alone keys) callee (found ∷ []) session
