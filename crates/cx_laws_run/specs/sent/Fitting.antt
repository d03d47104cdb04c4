-- The operations that clients of a run are told to send have a spelling.
use Rattle.std.specs.Prelude.{List}
use Rattle.std.specs.List.{AllByRecursion}
use Rattle.cx_laws_sessions.specs.cx_rules.specs.Inputs.{Input, Submit}
use Rattle.cx_laws_sessions.specs.cx_run.specs.Happenings.{Happening}
use Rattle.cx_steps.specs.declared.events.Command.TheVariants as command
use Rattle.cx_laws_sessions.specs.cx_wire.specs.Operations.{operation_layout}

-- where a client is told to send an operation, that has one
abbrev pub IsFit : Input → Type 0
IsFit (Submit (command.Send daemon operation)) = operation_layout.form.Fits operation
IsFit _ = Unit {0}

-- so it is at each of these events
abbrev pub AreFit : List Happening → Type 0
AreFit hs = AllByRecursion (λ (h : Happening). IsFit h.input) hs
