-- Of what an answer is: of the operation that its client sent under its number.
use Rattle.std.specs.Prelude.{◌≡◌, List, [], Contains}
use Rattle.cx_journal.specs.Behind.{EachBehind}
use Rattle.cx_journal.specs.Truthful.{IsTold, WasHandled}
use Rattle.cx_journal.specs.declared.entries.Answered.{Answered}
use Rattle.cx_journal.specs.declared.entries.Entry.{Entry}
use Rattle.cx_journal.specs.declared.entries.Entry.TheVariants as entry
use Rattle.cx_journal.specs.declared.entries.Sent.{Sent}

-- the client sent it under the answer's cookie and with its number
pub record IsSentAs (answered : Answered) (sent : Sent) : Type 0 where
  pub client : sent.client ≡ answered.client
  pub cookie : sent.cookie ≡ answered.cookie
  pub seq : sent.seq ≡ answered.tid

-- One of the earlier entries handled the operation of which the answer is, and before that one the client sent that very operation so; and it is the only operation
-- of the whole journal that it sent so.
pub record IsOfSent (entries earlier : List Entry) (answered : Answered) : Type 0 where
  pub handled : WasHandled earlier answered
  pub sent : Sent
  pub before : Contains handled.before (entry.Sent sent)
  pub sent_as : IsSentAs answered sent
  pub operation : handled.handled.operation ≡ sent.operation
  pub only : (other : Sent) → Contains entries (entry.Sent other) → IsSentAs answered other → other.operation ≡ sent.operation

abbrev pub IsOfSentBy : List Entry → List Entry → Entry → Type 0
IsOfSentBy entries earlier (entry.Answered answered) = IsTold entries answered → IsOfSent entries earlier answered
IsOfSentBy entries earlier _ = Unit {0}

-- so is each answer of the journal from a daemon to a client that didn't leak
abbrev pub AnswerWhatWasSent : List Entry → Type 0
AnswerWhatWasSent entries = EachBehind (IsOfSentBy entries) [] entries
