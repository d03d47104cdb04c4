-- What is sent behind an operation that was taken.
use Rattle.std.specs.Prelude.{ℕ, List}
use Rattle.cx_frame.specs.declared.frame.Frame.{Frame}
use Rattle.cx_journal.specs.declared.outcomes.Outcome.{Outcome}
use Rattle.cx_node.specs.cx_rules.specs.Messages.{message}
use Rattle.cx_daemon_session.specs.cx_rules_session.specs.Hosting.{outcome_number}
use Rattle.cx_wire.specs.Operations.{answer_layout}

-- message 43: the seq 0, the tid, how the operation ended, and the data that answer it
abbrev pub answering : ℕ → Outcome → List ℕ → Frame
answering tid outcome answer =
    message (record { seq = 0; tid = tid; type_ = 43 }) (answer_layout.form.text (record { outcome = outcome_number outcome; bytes = answer }))
