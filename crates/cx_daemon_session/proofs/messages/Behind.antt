-- What a frame on an open link decides hangs on the bytes that are left on the link alone, and not on those that were taken.
use Rattle.std.proofs.Common.{◌≡◌, ◌∙◌, ℕ, ◌==◌, Bool, true, false, [], ◌∷◌, Result, Ok, Err, refl, ap}
use Rattle.std.specs.Prelude.{◌||◌, if◌then◌else◌}
use Rattle.cx_control.specs.Upkeep.{keepalive2_layout, keepalive2_ack_layout}
use Rattle.cx_control.specs.declared.upkeep.Keepalive2.{Keepalive2}
use Rattle.cx_control.specs.declared.upkeep.Keepalive2Ack.{Keepalive2Ack}
use Rattle.cx_desk.specs.Handlers.{Handlers}
use Rattle.cx_frame.specs.declared.frame.Frame.{Frame}
use Rattle.cx_journal.specs.declared.faults.BytesFault.{BytesFault}
use Rattle.cx_journal.specs.declared.faults.BytesFault.TheVariants.{Unexpected}
use Rattle.cx_journal.specs.declared.outcomes.Outcome.{Outcome}
use Rattle.cx_node.specs.cx_rules.specs.Acceptor.{Open}
use Rattle.cx_node.specs.cx_rules.specs.Messages.{acknowledgement, message_in, secure_frames}
use Rattle.cx_node.specs.cx_rules.specs.Payloads.{control, payload}
use Rattle.cx_node.specs.cx_rules.specs.Rows.{refuses_bytes, secure_sent}
use Rattle.cx_node.specs.cx_rules.specs.Secured.{Keys, SealedFrame, Secured, secure_frame}
use Rattle.cx_node.specs.cx_rules.specs.Upkeep.{on_keepalive, on_keepalive_ack}
use Rattle.cx_daemon_session.specs.cx_rules_session.specs.IncomingLinks.{IncomingArrival, IncomingRow, IncomingStage, Served}
use Rattle.cx_daemon_session.specs.cx_rules_session.specs.Hosting.{Deciding, Hosted, Instruction, answer_message, comes_to, handled_entry, instruction_of, on_checked, on_message, on_open, on_taken, on_untaken, outcome_of}
use Rattle.cx_daemon_session.specs.cx_rules_session.specs.Kinds.{entered_before}
use Rattle.cx_session.specs.declared.call.BookFault.TheVariants as fault
use Rattle.cx_session.specs.declared.call.BookReply.{BookReply}
use Rattle.cx_session.specs.declared.call.BookReply.TheVariants as reply
use Rattle.cx_node.proofs.steps.Keeping.{keepalive-row}
use Rattle.cx_node.specs.steps.Stages.{keys_alone}
use Rattle.cx_node.specs.steps.Upkeep.{is_keepalive, upkept}
use Rattle.cx_daemon_session.proofs.coming.Deciding.{IncomingComing, SameDecided}

-- ---- rows

sent-same : (h : IncomingComing) (s : Secured) (served : Served) (r : Result SealedFrame BytesFault)
    → SameDecided h (λ a. comes_to (secure_sent a s (λ behind. Open behind served) [] r))
sent-same h s served (Ok sealed) opened = refl
sent-same h s served (Err why) opened = refl

handled-same : (h : IncomingComing) (s : Secured) (served : Served) (i : Instruction) (outcome : Outcome) (r : Result SealedFrame BytesFault)
    → SameDecided h (λ a. comes_to (entered_before (handled_entry a served i outcome) (secure_sent a s (λ behind. Open behind served) [] r)))
handled-same h s served i outcome (Ok sealed) opened = refl
handled-same h s served i outcome (Err why) opened = refl

-- ---- by the replies

untaken-same : (h : IncomingComing) (s : Secured) (served : Served) (r : BookReply) → SameDecided h (λ a. on_untaken a s served r)
untaken-same h s served (reply.Refused (fault.Repeat last)) opened = sent-same h s served (secure_frame s.keys (acknowledgement last)) opened
untaken-same h s served (reply.Refused (fault.Gap expected)) opened = refl
untaken-same h s served (reply.Refused (fault.Stale epoch)) opened = refl
untaken-same h s served _ opened = refl

taken-same : (handlers : Handlers) (h : IncomingComing) (s : Secured) (served : Served) (i : Instruction) (r : BookReply)
    → SameDecided h (λ a. on_taken handlers a s served i r)
taken-same handlers h s served i reply.Fine opened =
    let outcome : Outcome = outcome_of handlers served.caps i.operation in
    handled-same h s served i outcome (secure_frames s.keys (answer_message i outcome ∷ acknowledgement i.seq ∷ [])) opened
taken-same handlers h s served i (reply.Refused why) opened = untaken-same h s served (reply.Refused why) opened
taken-same handlers h s served i _ opened = refl

checked-same : (handlers : Handlers) (h : IncomingComing) (s : Secured) (served : Served) (i : Instruction) (r : BookReply)
    → SameDecided h (λ a. on_checked handlers a s served i r)
checked-same handlers h s served i reply.Fine opened = (refl, λ r. taken-same handlers h s served i r opened)
checked-same handlers h s served i (reply.Refused why) opened = untaken-same h s served (reply.Refused why) opened
checked-same handlers h s served i _ opened = refl

message-same : (handlers : Handlers) (h : IncomingComing) (s : Secured) (served : Served) (read : Result Instruction BytesFault)
    → SameDecided h (λ a. on_message handlers a s served read)
message-same handlers h s served (Ok i) opened = (refl, λ r. checked-same handlers h s served i r opened)
message-same handlers h s served (Err why) opened = refl

-- ---- keepalives

keepalive-same : (h : IncomingComing) (s : Secured) (served : Served) (read : Result Keepalive2 BytesFault)
    → SameDecided h (λ a. comes_to (on_keepalive a s (λ behind. Open behind served) read))
keepalive-same h s served (Ok keepalive) opened = sent-same h s served (secure_frame s.keys (control 19 keepalive2_ack_layout.form (record { time = keepalive.time }))) opened
keepalive-same h s served (Err why) opened = refl

keepalive_ack-same : (h : IncomingComing) (s : Secured) (served : Served) (read : Result Keepalive2Ack BytesFault)
    → SameDecided h (λ a. comes_to (on_keepalive_ack a s (λ behind. Open behind served) read))
keepalive_ack-same h s served (Ok ack) opened = refl
keepalive_ack-same h s served (Err why) opened = refl

pub open-same : (handlers : Handlers) (h : IncomingComing) (s : Secured) (served : Served) (f : Frame) → SameDecided h (λ a. on_open handlers a s served f)
open-same handlers h s served f = by_tests (f.tag == 18) (f.tag == 19)
  where
    by_tests : (ask ack : Bool) → SameDecided h (λ a.
        if ask then comes_to (on_keepalive a s (λ behind. Open behind served) (payload keepalive2_layout.form f))
        else if ack then comes_to (on_keepalive_ack a s (λ behind. Open behind served) (payload keepalive2_ack_layout.form f))
        else on_message handlers a s served (instruction_of (message_in f)))
    by_tests true ack = keepalive-same h s served (payload keepalive2_layout.form f)
    by_tests false true = keepalive_ack-same h s served (payload keepalive2_ack_layout.form f)
    by_tests false false = message-same handlers h s served (instruction_of (message_in f))

-- ---- by the tag

module _ (handlers : Handlers) (a : IncomingArrival) (served : Served) (f : Frame) where
  abbrev open_under : Secured → IncomingStage
  open_under behind = Open behind served

  abbrev decided : Secured → Bool → Bool → Deciding Hosted
  decided s ask ack =
      if ask then comes_to (on_keepalive a s open_under (payload keepalive2_layout.form f))
      else if ack then comes_to (on_keepalive_ack a s open_under (payload keepalive2_ack_layout.form f))
      else on_message handlers a s served (instruction_of (message_in f))

  abbrev upkeep : Secured → Bool → Bool → IncomingRow
  upkeep s ask ack =
      if ask then on_keepalive a s open_under (payload keepalive2_layout.form f)
      else if ack then on_keepalive_ack a s open_under (payload keepalive2_ack_layout.form f)
      else refuses_bytes a (Unexpected f.tag) []

  kept_by : (s : Secured) (ask ack : Bool) → (ask || ack) ≡ true → decided s ask ack ≡ comes_to (upkeep s ask ack)
  kept_by s true ack is = refl
  kept_by s false true is = refl
  kept_by s false false is = absurd (cc)

  -- a keepalive has the row of what is sent behind it
  pub open-kept : (keys : Keys) → is_keepalive f ≡ true
      → on_open handlers a (keys_alone keys) served f ≡ comes_to (secure_sent a (keys_alone keys) open_under [] (upkept keys f))
  open-kept keys is =
      let done : IncomingRow → Deciding Hosted = λ row. comes_to row in
      kept_by (keys_alone keys) (f.tag == 18) (f.tag == 19) is ∙ ap done (keepalive-row a keys open_under (λ g. refuses_bytes a (Unexpected g.tag) []) f is)
