-- Frames on an open link to a daemon, as they are read and sent.
use Rattle.std.specs.Prelude.{ℕ, ◌≡◌, [], Option, Some, None, IfSome, Result, Ok, Err}
use Rattle.std.specs.Option.{option_map}
use Rattle.cx_base.specs.declared.nodes.NodeName.{NodeName}
use Rattle.cx_base.specs.declared.operations.Operation.{Operation}
use Rattle.cx_frame.specs.declared.frame.Frame.{Frame}
use Rattle.cx_journal.specs.declared.faults.BytesFault.{BytesFault}
use Rattle.cx_link.specs.Sending.{behind_ahead}
use Rattle.cx_link.specs.declared.links.AheadFrame.{AheadFrame}
use Rattle.cx_node.specs.Made.{going_on, refusing_bytes}
use Rattle.cx_node.specs.declared.rows.Row.{Row as Made}
use Rattle.cx_node.specs.cx_rules.specs.cx_secure.specs.declared.sealing.SealedAhead.{SealedAhead}
use Rattle.cx_node.specs.cx_rules.specs.Holdings.{MonClient}
use Rattle.cx_node.specs.cx_rules.specs.Messages.{on_upkeep_or}
use Rattle.cx_node.specs.cx_rules.specs.Rows.{sends_secure}
use Rattle.cx_node.specs.cx_rules.specs.Secured.{Secured}
use Rattle.cx_client_session.specs.cx_rules_session.specs.Presenter.{CallArrival, CallRow, CallStage, Caller, Open, on_answer_or_ack}
use Rattle.cx_client_session.specs.cx_rules_session.specs.Sessions.{Callee, HeldSession, operation_message}
use Rattle.cx_node.specs.declared.moments.Moment.{Moment}
use Rattle.cx_client_session.specs.cx_client_connect.specs.presenting.Rows.{caller}
use Rattle.cx_client_session.specs.cx_client_connect.specs.presenting.Stages.{CallLink}
use Rattle.cx_client_session.specs.cx_client_connect.specs.declared.links.Stage.{Stage}
use Rattle.cx_client_session.specs.cx_client_connect.specs.declared.links.Stage.TheVariants as held
use Rattle.cx_client_session.specs.calling.Sent.{IsRowAt}

-- a keepalive is answered as ever, any other is an acknowledgement or an answer
abbrev pub on_open : CallArrival → Secured → Callee → ℕ → Frame → CallRow
on_open a s callee cookie f = on_upkeep_or (on_answer_or_ack a s callee cookie) a s (λ behind. Open behind callee cookie) f

-- what an open link keeps
abbrev pub kept_open : CallStage → Option (Secured × (Callee × ℕ))
kept_open (Open s callee cookie) = Some (s, (callee, cookie))
kept_open _ = None

-- ---- an operation that was sealed ahead

-- it was so under the counter at which this open link stands
abbrev pub IsAheadIn : CallStage → SealedAhead → Type 0
IsAheadIn (Open s callee cookie) a = a.from ≡ s.keys.out.counter
IsAheadIn stage a = ⊥

abbrev pub IsAheadOn : CallLink → SealedAhead → Type 0
IsAheadOn link a = IsAheadIn link.stage a

-- the link behind it
abbrev pub stage_behind : CallStage → SealedAhead → CallStage
stage_behind (Open s callee cookie) a = Open (record s { keys = record s.keys { out = record s.keys.out { counter = a.next } } }) callee cookie
stage_behind stage a = stage

abbrev pub behind_sent : CallLink → SealedAhead → CallLink
behind_sent link a = record link { stage = stage_behind link.stage a }

-- the same of a link as it is held
abbrev pub IsAheadAt : Stage → SealedAhead → Type 0
IsAheadAt (held.Open link callee cookie) a = a.from ≡ link.keys.out.counter
IsAheadAt stage a = ⊥

abbrev pub held_behind : Stage → SealedAhead → Stage
held_behind (held.Open link callee cookie) a = held.Open (behind_ahead link a) callee cookie
held_behind stage a = stage

-- the row of a frame that was sealed ahead, or couldn't be sealed
abbrev pub sealed_row : NodeName → ℕ → Result AheadFrame BytesFault → Made SealedAhead
sealed_row me number (Ok sealed) = going_on sealed.ahead sealed.bytes sealed.seals
sealed_row me number (Err why) = refusing_bytes me number why []

-- a row by what its link goes on by, as the one of that link
abbrev pub row_ahead : CallLink → Made SealedAhead → Made CallLink
row_ahead link row = record { link = option_map (behind_sent link) row.link; sends = row.sends; save = row.save; entries = row.entries; seals = row.seals }

-- a row was made by which an operation is sent under its number on an open link, which keeps this
abbrev pub SentOn : Caller → Moment → CallLink → ℕ × Operation → Option (Secured × (Callee × ℕ)) → Made CallLink → Type 0
SentOn c at link ask None row = ⊥
SentOn c at link ask (Some (s, (callee, cookie))) row = IsRowAt c at link (λ a. sends_secure a s (λ behind. Open behind callee cookie) [] (operation_message ask)) row

-- the same whatever session the client has; where the link goes on, the operation was sealed ahead on it
abbrev pub IsSent : MonClient → Moment → CallLink → ℕ × Operation → Made SealedAhead → Type 0
IsSent mon_client at link ask row =
    ((session : Option HeldSession) → SentOn (caller mon_client session) at link ask (kept_open link.stage) (row_ahead link row)) × IfSome row.link (IsAheadOn link)
