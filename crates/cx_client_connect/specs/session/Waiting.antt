-- Operations that wait, as the messages by which they are sent again.
use Rattle.std.specs.Prelude.{ℕ, List, [], ◌∷◌, nat_lt, if◌then◌else◌}
use Rattle.cx_base.specs.declared.operations.Operation.{Operation}
use Rattle.cx_frame.specs.declared.frame.Frame.{Frame}
use Rattle.cx_rules_session.specs.Sessions.{operation_message}

-- the message of one whose number is above this one
abbrev pub above : ℕ → ℕ × Operation → List Frame
above last ask = if nat_lt last ask.0 then operation_message ask ∷ [] else []
