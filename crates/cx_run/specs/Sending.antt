-- Operations that clients are told to send: which ones the lines of a schedule have, and which ones come to the nodes of a run.
use Rattle.std.specs.Prelude.{Bool, true, ◌&&◌, List}
use Rattle.std.specs.List.{AllByRecursion}
use Rattle.cx_base.specs.Texts.{is_part}
use Rattle.cx_base.specs.declared.operations.Operation.{Operation}
use Rattle.cx_lines.specs.cx_words.specs.lines.Values.{is_fit}
use Rattle.cx_lines.specs.declared.commands.LineCommand.{LineCommand}
use Rattle.cx_lines.specs.declared.commands.LineCommand.TheVariants as command
use Rattle.cx_lines.specs.declared.lines.Line.{Line}
use Rattle.cx_lines.specs.declared.lines.Line.TheVariants as line
use Rattle.cx_lines.specs.declared.lines.Numbered.{Numbered}
use Rattle.cx_rules_session.specs.cx_rules.specs.Inputs.{Input, Look, Submit}
use Rattle.cx_rules_session.specs.cx_steps.specs.declared.events.Command.TheVariants as told
use Rattle.cx_rules_session.specs.cx_wire.specs.Operations.{IsWritable}
use Rattle.cx_run.specs.Happenings.{Happening}

-- ---- no others than these

-- no view is told by hand, and no operation is sent but these
abbrev pub ComesWith : (Operation → Type 0) → Input → Type 0
ComesWith Sends (Look view) = ⊥
ComesWith Sends (Submit (told.Send daemon operation)) = Sends operation
ComesWith Sends _ = Unit {0}

abbrev pub SendsOnly : (Operation → Type 0) → LineCommand → Type 0
SendsOnly Sends (command.Send client daemon operation) = Sends operation
SendsOnly Sends _ = Unit {0}

abbrev pub SendsOnlyAt : (Operation → Type 0) → Line → Type 0
SendsOnlyAt Sends (line.Submit c) = SendsOnly Sends c
SendsOnlyAt Sends (line.Do c) = SendsOnly Sends c
SendsOnlyAt Sends _ = Unit {0}

-- ---- operations that can be written

-- its pool, namespace and object are parts of an address, and its data at most 65,536 bytes
abbrev pub is_written : Operation → Bool
is_written o = is_part o.pool && is_part o.namespace && is_part o.object && is_fit o.bytes

abbrev pub is_command_written : LineCommand → Bool
is_command_written (command.Login client services) = true
is_command_written (command.Fetch daemon) = true
is_command_written (command.Renew client services) = true
is_command_written (command.Connect client daemon lossy) = true
is_command_written (command.Send client daemon operation) = is_written operation

-- the operation of a line, where it has one, can be written
abbrev pub is_line_written : Line → Bool
is_line_written (line.Setting setting) = true
is_line_written (line.Submit c) = is_command_written c
is_line_written (line.Do c) = is_command_written c
is_line_written (line.Link step) = true
is_line_written (line.Node step) = true

abbrev pub is_numbered_written : Numbered → Bool
is_numbered_written numbered = is_line_written numbered.line

-- what comes to a node is no command to send an operation that can't be
abbrev pub IsWrittenInput : Input → Type 0
IsWrittenInput (Submit (told.Send daemon operation)) = IsWritable operation
IsWrittenInput _ = Unit {0}

-- so it is at each of these events
abbrev pub AreWritten : List Happening → Type 0
AreWritten hs = AllByRecursion (λ (h : Happening). IsWrittenInput h.input) hs
