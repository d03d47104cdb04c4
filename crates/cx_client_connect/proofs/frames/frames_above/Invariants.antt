-- The messages of those so far.
use Rattle.std.proofs.Common.{◌≡◌, ℕ, All, map, take}
use Rattle.std.specs.Prelude.{filter, nat_lt}
use Rattle.cx_base.specs.declared.operations.Operation.{Operation}
use Rattle.cx_frame.specs.Frames.{IsAnnounceable}
use Rattle.cx_rules_session.specs.Sessions.{operation_message}
use Rattle.cx_client_connect.proofs.frames.frames_above.Given as goal

abbrev pub invariant-loop-number : goal.invariant-loop-number
invariant-loop-number l =
    (l.frames.items ≡ map operation_message (filter (λ (ask : ℕ × Operation). nat_lt l.last ask.0) (take l.number-index l.waiting))) × All IsAnnounceable l.frames.items
