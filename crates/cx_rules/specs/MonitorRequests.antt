-- What the monitor does on an open link ("detailed cephx protocol"): a message of type 17 asks for tickets or for rotating secrets, and message
-- 18 replies. How the open stage is called is left to whoever has the link; what it keeps beside its keys is the `Bearer`.
use Rattle.std.specs.Prelude.{ℕ, ◌==◌, ◌+◌, ◌-◌, ◌^◌, List, [], ◌++◌, Option, Some, None, Result, Ok, Err, if◌then◌else◌}
use Rattle.cx_stream.specs.cx_frame.specs.declared.frame.Frame.{Frame}
use Rattle.cx_login.specs.cx_journal.specs.declared.faults.BytesFault.{BytesFault}
use Rattle.cx_login.specs.cx_journal.specs.declared.faults.SessionFault.TheVariants.{Gap}
use Rattle.cx_login.specs.cx_journal.specs.declared.outcomes.Reason.{Reason}
use Rattle.cx_login.specs.cx_journal.specs.declared.outcomes.Reason.TheVariants.{Bytes, Session, Spent}
use Rattle.cx_keyserver.specs.Servers.{Server}
use Rattle.cx_login.specs.cx_wire.specs.Bodies.{request_layout}
use Rattle.cx_login.specs.cx_wire.specs.declared.bodies.Request.{Request}
use Rattle.cx_rules.specs.KeptStates.{saved_behind}
use Rattle.cx_rules.specs.Messages.{Message, body_as, message, message_in, on_upkeep_or}
use Rattle.cx_rules.specs.Monitor.{Monitor}
use Rattle.cx_rules.specs.Replies.{Responded, answers}
use Rattle.cx_rules.specs.Rows.{Arrival, Row, refuses, unless_refused}
use Rattle.cx_rules.specs.Secured.{SealedFrame, Secured, secure_frame, under}
use Rattle.cx_rules.specs.Verdicts.{Occasion}
use Rattle.cx_rules.specs.declared.messages.Body.{Body}
use Rattle.cx_rules.specs.declared.messages.Body.TheVariants.{Spelled, OtherCode, Misspelled}
use Rattle.cx_rules.specs.declared.responses.Bearer.{Bearer}
use Rattle.cx_rules.specs.declared.responses.Demand.{Demand}
use Rattle.cx_rules.specs.declared.responses.ReplyMade.{ReplyMade}
use Rattle.cx_rules.specs.declared.responses.Response.{Response}
use Rattle.cx_rules.specs.declared.responses.Response.TheVariants.{Refuses, Replies}

-- ---- what is asked

-- a message to the monitor: its seq and its tid, and the request; none where it is of another code or type
abbrev pub demand_as : Message → Option Request → Demand
demand_as m request = record { seq = m.header.seq; tid = m.header.tid; request = request }

abbrev pub demand_by : Message → Body Request → Result Demand BytesFault
demand_by m (Spelled request) = Ok (demand_as m (Some request))
demand_by m OtherCode = Ok (demand_as m None)
demand_by m (Misspelled why) = Err why

-- the body of message 17 is read to its end; that of no other
abbrev pub demand_of : Result Message BytesFault → Result Demand BytesFault
demand_of (Err why) = Err why
demand_of (Ok m) = if m.header.type_ == 17 then demand_by m (body_as request_layout.form m.body) else Ok (demand_as m None)

-- messages come in the order of their numbers, and behind the last number there are none
abbrev pub in_order : ℕ → Demand → Result Demand Reason
in_order last demand =
    if last == 2 ^ 64 - 1 then Err Spent
    else if demand.seq == last + 1 then Ok demand
    else Err (Session (Gap (last + 1)))

-- a body that can't be read goes before a wrong number
abbrev pub ordered : ℕ → Result Demand BytesFault → Result Demand Reason
ordered last (Err why) = Err (Bytes why)
ordered last (Ok demand) = in_order last demand

abbrev pub heard : Bearer → Frame → Result Demand Reason
heard bearer f = ordered bearer.last (demand_of (message_in f))

-- ---- the reply

-- message 18, under the tid of the request
abbrev pub reply_message : ℕ → List ℕ → Frame
reply_message tid body = message (record { seq = 0; tid = tid; type_ = 18 }) body

-- ---- rows, by the name of the open stage

module _ {Stage : Type 0} where
  -- the occasion of an arrival
  abbrev pub request_occasion : Arrival Monitor Stage → Occasion
  request_occasion a = record { saved = a.own.saved; reading = a.reading; draw = a.draw }

  -- the monitor with another key server
  abbrev pub serving : Arrival Monitor Stage → Server → Arrival Monitor Stage
  serving a server = record a { own = record a.own { server = server } }

  -- the reply is sent, where it can be, behind what is saved
  abbrev pub sends_reply : (Secured → Bearer → Stage) → Arrival Monitor Stage → Secured → Bearer → ℕ → ReplyMade → Result SealedFrame BytesFault → Row Monitor Stage
  sends_reply open_with a s bearer seq made sealing = unless_refused a made.seals sealing (λ sent. record {
    own = record a.own { saved = saved_behind a.own.saved made.save };
    link = Some (record a.link { stage = open_with (under s sent.keys) (record bearer { last = seq }) });
    sends = sent.bytes;
    save = made.save;
    entries = made.entries;
    seals = made.seals ++ (made.sealed ++ sent.seals);
  })

  -- the row of a response to a message of these numbers
  abbrev pub responds : (Secured → Bearer → Stage) → Arrival Monitor Stage → Secured → Bearer → Demand → Response → Row Monitor Stage
  responds open_with a s bearer demand (Refuses why drawn) = refuses a why drawn
  responds open_with a s bearer demand (Replies made) =
      sends_reply open_with a s bearer demand.seq made (secure_frame s.keys (reply_message demand.tid made.body))

  abbrev pub row_responding : (Secured → Bearer → Stage) → Arrival Monitor Stage → Secured → Bearer → Demand → Responded → Row Monitor Stage
  row_responding open_with a s bearer demand r = responds open_with (serving a r.server) s bearer demand r.response

  -- what was heard is answered, by the monitor as it is
  abbrev pub on_demand : (Secured → Bearer → Stage) → Arrival Monitor Stage → Secured → Bearer → Result Demand Reason → Row Monitor Stage
  on_demand open_with a s bearer (Err why) = refuses a why []
  on_demand open_with a s bearer (Ok demand) =
      row_responding open_with a s bearer demand (answers (request_occasion a) a.own.server bearer demand.request)

  abbrev pub on_message : (Secured → Bearer → Stage) → Arrival Monitor Stage → Secured → Bearer → Frame → Row Monitor Stage
  on_message open_with a s bearer f = on_demand open_with a s bearer (heard bearer f)

  -- a frame on an open link: a keepalive, or a message; no other is due
  abbrev pub on_open : (Secured → Bearer → Stage) → Arrival Monitor Stage → Secured → Bearer → Frame → Row Monitor Stage
  on_open open_with a s bearer f = on_upkeep_or (on_message open_with a s bearer) a s (λ behind. open_with behind bearer) f
