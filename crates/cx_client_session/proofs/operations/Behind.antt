-- What a row says of an open link hangs on the bytes that are left on it alone, and not on those that were taken.
use Rattle.std.proofs.Common.{◌≡◌, ◌∙◌, ℕ, ◌==◌, Bool, true, false, [], Option, Some, None, refl, sym, ap}
use Rattle.cx_control.specs.Upkeep.{ack_layout}
use Rattle.cx_frame.specs.declared.frame.Frame.{Frame}
use Rattle.cx_node.specs.cx_rules.specs.Messages.{message_in}
use Rattle.cx_node.specs.cx_rules.specs.Payloads.{payload}
use Rattle.cx_node.specs.cx_rules.specs.Rows.{goes_on}
use Rattle.cx_node.specs.cx_rules.specs.Secured.{Keys, Secured}
use Rattle.cx_client_session.specs.cx_rules_session.specs.Forgets.{abridged_call_link}
use Rattle.cx_client_session.specs.cx_rules_session.specs.Kinds.{entered_before}
use Rattle.cx_client_session.specs.cx_rules_session.specs.Presenter as call
use Rattle.cx_client_session.specs.cx_rules_session.specs.Presenter.{CallRow, acknowledges, answered_entry, end_in, on_ack, on_answer, on_answer_or_ack}
use Rattle.cx_client_session.specs.cx_rules_session.specs.Sessions.{Callee, HeldSession}
use Rattle.cx_node.proofs.steps.Handling.{left, taken}
use Rattle.cx_node.proofs.steps.Keeping.{keepalive-row, other-row}
use Rattle.cx_node.specs.steps.Making.{row_due}
use Rattle.cx_node.specs.steps.Stages.{keys_alone}
use Rattle.cx_node.specs.steps.Upkeep.{is_keepalive, upkept}
use Rattle.cx_client_session.proofs.calling.Behind.{CallComing, SameRow, if_same, sent_same, unless_same}
use Rattle.cx_client_session.specs.declared.frames.Ahead.TheVariants.{Open}
use Rattle.cx_client_session.specs.operations.Frames.{on_open}

abbrev due_row : CallRow → CallRow
due_row row = row_due abridged_call_link row

acks_same : (h : CallComing) (s : Secured) (callee : Callee) (cookie seq : ℕ) (session : Option HeldSession) → SameRow h (λ a. acknowledges a s callee cookie seq session)
acks_same h s callee cookie seq None = refl
acks_same h s callee cookie seq (Some session) = refl

other_same : (h : CallComing) (s : Secured) (callee : Callee) (cookie : ℕ) (f : Frame) → SameRow h (λ a. on_answer_or_ack a s callee cookie f)
other_same h s callee cookie f =
    if_same h (f.tag == 20) (λ a. on_ack a s callee cookie (payload ack_layout.form f)) (λ a. on_answer a s callee cookie (end_in (message_in f)))
    (unless_same h (payload ack_layout.form f) (λ ack a. acknowledges a s callee cookie ack.seq h.a.own.session) (λ ack. acks_same h s callee cookie ack.seq h.a.own.session))
    (unless_same h (end_in (message_in f)) (λ end a. entered_before (answered_entry a.own.mon_client callee cookie end) (goes_on a (call.Open s callee cookie) [] [])) (λ end. refl))

open-by : (h : CallComing) (keys : Keys) (callee : Callee) (cookie : ℕ) (f : Frame) (b : Bool) → is_keepalive f ≡ b → SameRow h (λ a. on_open a (keys_alone keys) callee cookie f)
open-by h keys callee cookie f true is =
    ap due_row (keepalive-row (taken h) keys (λ behind. call.Open behind callee cookie) (on_answer_or_ack (taken h) (keys_alone keys) callee cookie) f is)
    ∙ sent_same h h.a.own (keys_alone keys) Open callee cookie [] (upkept keys f)
    ∙ sym (ap due_row (keepalive-row (left h) keys (λ behind. call.Open behind callee cookie) (on_answer_or_ack (left h) (keys_alone keys) callee cookie) f is))
open-by h keys callee cookie f false is =
    ap due_row (other-row (taken h) (keys_alone keys) (λ behind. call.Open behind callee cookie) (on_answer_or_ack (taken h) (keys_alone keys) callee cookie) f is)
    ∙ other_same h (keys_alone keys) callee cookie f
    ∙ sym (ap due_row (other-row (left h) (keys_alone keys) (λ behind. call.Open behind callee cookie) (on_answer_or_ack (left h) (keys_alone keys) callee cookie) f is))

pub open-same : (h : CallComing) (keys : Keys) (callee : Callee) (cookie : ℕ) (f : Frame) → SameRow h (λ a. on_open a (keys_alone keys) callee cookie f)
open-same h keys callee cookie f = open-by h keys callee cookie f (is_keepalive f) refl
