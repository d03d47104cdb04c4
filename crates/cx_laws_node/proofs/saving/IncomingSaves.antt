-- The rows of a client of a daemon save nothing, whatever its book replies.
use Rattle.std.proofs.Common.{◌≡◌, None, refl}
use Rattle.cx_desk.specs.Handlers.{Handlers}
use Rattle.cx_run.proofs.Always.{Always}
use Rattle.cx_run.proofs.IncomingWalk.{ClosesIncoming, incoming-rows}
use Rattle.cx_run.proofs.Taking.{EachRow}
use Rattle.cx_run.specs.cx_rules.specs.Rows.{Row}
use Rattle.cx_run.specs.cx_rules_session.specs.IncomingLinks.{IncomingArrival, IncomingRow, IncomingStage}
use Rattle.cx_run.specs.cx_rules_session.specs.Hosting.{Hosted, incoming_turned}

-- a row saves nothing
abbrev pub SavesNone : {Own Stage : Type 0} → Row Own Stage → Type 0
SavesNone row = row.save ≡ None

closes-none : ClosesIncoming (λ (a : IncomingArrival) (row : IncomingRow). SavesNone row)
closes-none = record {
  shut = λ a why seals. refl;
  sent = λ a row bytes h. h;
  went = λ a stage bytes seals. refl;
  wrote = λ a e row enters h. h;
  opened = λ a parts row h. h;
}

pub incoming-none : (handlers : Handlers) (a : IncomingArrival) (stage : IncomingStage)
    → Always (λ (h : Hosted). EachRow SavesNone h.turned) (incoming_turned handlers a stage)
incoming-none handlers a stage =
    incoming-rows (λ (b : IncomingArrival) (row : IncomingRow). SavesNone row) closes-none handlers a SavesNone (λ n ahead row h. h) stage
