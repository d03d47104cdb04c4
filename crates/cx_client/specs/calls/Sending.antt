-- An operation that a client sends, as the rules have it.
use Rattle.std.specs.Prelude.{ℕ, ◌≡◌, List, [], Option, Some, None, IfSome, Result, Ok, Err}
use Rattle.cx_base.specs.Names.{Name}
use Rattle.cx_base.specs.declared.operations.Operation.{Operation}
use Rattle.cx_client_session.specs.operations.Frames.{kept_open}
use Rattle.cx_journal.specs.declared.entries.Entry.{Entry}
use Rattle.cx_journal.specs.declared.outcomes.Reason.{Reason}
use Rattle.cx_journal.specs.declared.outcomes.Reason.TheVariants as reason
use Rattle.cx_node.specs.Made.{as_row}
use Rattle.cx_node.specs.declared.rows.Row.{Row as Made}
use Rattle.cx_node.specs.cx_rules.specs.Links.{Link}
use Rattle.cx_node.specs.cx_rules.specs.Rows.{arrival, sends_secure}
use Rattle.cx_node.specs.cx_rules.specs.Secured.{Secured}
use Rattle.cx_node.specs.cx_rules.specs.cx_secure.specs.declared.sealing.SealedAhead.{SealedAhead}
use Rattle.cx_client_session.specs.cx_rules_session.specs.ClientRule.{ToDaemon, WholeClient, me, queue_reason, sent_entry}
use Rattle.cx_client_session.specs.cx_rules_session.specs.Forgets.{abridged_client_link}
use Rattle.cx_client_session.specs.cx_rules_session.specs.Kinds.{entered_before, of_kind}
use Rattle.cx_client_session.specs.cx_rules_session.specs.Presenter as call
use Rattle.cx_client_session.specs.cx_rules_session.specs.Presenter.{CallStage}
use Rattle.cx_client_session.specs.cx_rules_session.specs.Sessions.{Callee, HeldSession, operation_message}
use Rattle.cx_client_events.specs.cx_client_connect.specs.session.Table.{having_pushed, in_session}
use Rattle.cx_session.specs.Queue.{push_reply}
use Rattle.cx_session.specs.declared.outbox.QueueFault.{QueueFault}
use Rattle.cx_node.specs.steps.Making.{row_due}
use Rattle.cx_client_events.specs.Machine.{ClientRow}
use Rattle.cx_client.specs.calls.Ahead.{IsAheadAt, row_on}

-- the number under which an operation waits in a session, with that it was sent, or why it can't wait there
abbrev pub numbered_in : WholeClient → HeldSession → Operation → Result ℕ QueueFault → Result (ℕ × Entry) Reason
numbered_in own session operation (Ok seq) = Ok (seq, sent_entry own session seq operation)
numbered_in own session operation (Err why) = Err (queue_reason why)

-- the same where there may be no session
abbrev pub numbered : WholeClient → Operation → Option HeldSession → Result (ℕ × Entry) Reason
numbered own operation None = Err reason.NoSession
numbered own operation (Some session) = numbered_in own session operation (push_reply session.queue)

-- a client in whose session with this daemon an operation waits besides
abbrev pub with_pushed : Name → Operation → WholeClient → WholeClient
with_pushed daemon operation own = record own { sessions = in_session daemon (having_pushed operation) own.sessions }

-- an operation is sent under its number on a link that is open, and keeps this
abbrev pub operation_sent : WholeClient → ℕ → List ℕ → ℕ × Operation → Link CallStage → Secured → Callee → ℕ → ClientRow
operation_sent own reading draw ask link s callee cookie =
    sends_secure (arrival (me own) own (of_kind ToDaemon link) reading draw) s (λ behind. ToDaemon (call.Open behind callee cookie)) [] (operation_message ask)

-- the row of that was made, by what the link goes on by, behind what is entered first, whatever sessions the client has behind it; where the link goes on,
-- the operation was sealed ahead on it
abbrev pub IsSentRow : WholeClient → ℕ → List ℕ → Entry → ℕ × Operation → Link CallStage → Made SealedAhead → Type 0
IsSentRow own reading draw sent ask link row =
    ((new : WholeClient) (s : Secured) (callee : Callee) (cookie : ℕ) → new.mon_client ≡ own.mon_client → kept_open link.stage ≡ Some (s, (callee, cookie))
    → as_row new (row_on (of_kind ToDaemon link) row) ≡ row_due abridged_client_link (entered_before sent (operation_sent new reading draw ask link s callee cookie)))
    × IfSome row.link (IsAheadAt (ToDaemon link.stage))
