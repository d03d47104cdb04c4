-- The operations of the lines of a schedule have a spelling: each line's words spell them.
use Rattle.std.proofs.Common.{ℕ, ◌+◌, List, [], ◌∷◌, ◌++◌, inl, inr}
use Rattle.std.proofs.lemmas.Bool.{leb-true}
use Rattle.std.specs.List.{AllByRecursion}
use Rattle.cx_base.specs.declared.operations.Operation.{Operation}
use Rattle.cx_laws_run.specs.cx_laws_keys.proofs.keys.Lists.{all-append}
use Rattle.cx_laws_links.proofs.links.Hearing.{writable-fits}
use Rattle.cx_words.specs.lines.Values.{SpellsItems}
use Rattle.cx_words.specs.declared.known.Known.{Known}
use Rattle.cx_laws_sessions.specs.cx_lines.specs.Commands.{command_items, operation_items}
use Rattle.cx_laws_sessions.specs.cx_lines.specs.Knowing.{known_of}
use Rattle.cx_laws_sessions.specs.cx_lines.specs.Lines.{Spells}
use Rattle.cx_laws_sessions.specs.cx_lines.specs.declared.commands.LineCommand.{LineCommand}
use Rattle.cx_laws_sessions.specs.cx_lines.specs.declared.commands.LineCommand.TheVariants as command
use Rattle.cx_laws_sessions.specs.cx_lines.specs.declared.lines.Line.{Line}
use Rattle.cx_laws_sessions.specs.cx_lines.specs.declared.lines.Line.TheVariants as line
use Rattle.cx_laws_sessions.specs.cx_lines.specs.declared.lines.Numbered.{Numbered}
use Rattle.cx_laws_run.specs.cx_schedule.specs.Files.{Adds, Lines, Said, numbered}
use Rattle.cx_laws_run.specs.cx_schedule.specs.Grammars.{line_words}
use Rattle.cx_laws_sessions.specs.cx_wire.specs.Operations.{operation_layout}
use Rattle.cx_words.specs.Cutting.{lines_of}

-- an operation that a command sends has one
abbrev pub CommandFits : LineCommand → Type 0
CommandFits (command.Send client daemon operation) = operation_layout.form.Fits operation
CommandFits _ = Unit {0}

-- so has one that a line sends
abbrev pub LineFits : Line → Type 0
LineFits (line.Submit c) = CommandFits c
LineFits (line.Do c) = CommandFits c
LineFits _ = Unit {0}

abbrev pub LinesFit : List Numbered → Type 0
LinesFit lines = AllByRecursion (λ (l : Numbered). LineFits l.line) lines

-- ---- one line

operation-fits : (known : Known) (before : List (List ℕ)) (operation : Operation) (words : List (List ℕ)) → SpellsItems known before (operation_items operation) words
    → operation_layout.form.Fits operation
operation-fits known before operation [] s = absurd s
operation-fits known before operation (a ∷ []) s = absurd s.1
operation-fits known before operation (a ∷ b ∷ []) s = absurd s.1.1
operation-fits known before operation (a ∷ b ∷ c ∷ []) s = absurd s.1.1.1
operation-fits known before operation (a ∷ b ∷ c ∷ d ∷ []) s = absurd s.1.1.1.1
operation-fits known before operation (a ∷ b ∷ c ∷ d ∷ e ∷ words) s =
    writable-fits operation (record { pool = s.1.0.0; namespace = s.1.1.0.0; object = s.1.1.1.0.0; bytes = leb-true _ 65536 s.1.1.1.1.0.0 })

command-fits : (known : Known) (before : List (List ℕ)) (c : LineCommand) (words : List (List ℕ)) → SpellsItems known before (command_items c) words → CommandFits c
command-fits known before (command.Send client daemon operation) [] s = absurd s
command-fits known before (command.Send client daemon operation) (a ∷ []) s = absurd s.1
command-fits known before (command.Send client daemon operation) (a ∷ b ∷ words) s = operation-fits known ((before ++ a ∷ []) ++ b ∷ []) operation words s.1.1
command-fits known before (command.Login client services) words s = tt
command-fits known before (command.Fetch daemon) words s = tt
command-fits known before (command.Renew client services) words s = tt
command-fits known before (command.Connect client daemon lossy) words s = tt

line-fits : (known : Known) (l : Line) (words : List (List ℕ)) → Spells known l words → LineFits l
line-fits known l [] s = absurd s
line-fits known (line.Submit c) (word ∷ words) s = command-fits known [] c words s.1
line-fits known (line.Do c) (word ∷ []) s = absurd s.1
line-fits known (line.Do c) (word ∷ first ∷ words) s = command-fits known ([] ++ first ∷ []) c words s.1.1
line-fits known (line.Setting said) (word ∷ words) s = tt
line-fits known (line.Link step) (word ∷ words) s = tt
line-fits known (line.Node step) (word ∷ words) s = tt

-- ---- all lines

added-fit : (number : ℕ) (earlier now : List Numbered) (l : List ℕ) → Adds number earlier l now → LinesFit earlier → LinesFit now
added-fit number earlier now l (inl skipped) h = rw skipped.1 h
added-fit number earlier now l (inr (kept, x, spelled, is)) h =
    rw is (all-append (λ (m : Numbered). LineFits m.line) earlier (numbered number x ∷ []) h (line-fits (known_of earlier) x (line_words l) spelled, tt))

said-fit : (number : ℕ) (earlier script : List Numbered) (lines : List (List ℕ)) → Said number earlier lines script → LinesFit earlier → LinesFit script
said-fit number earlier script [] said h = rw said h
said-fit number earlier script (l ∷ lines) (now, adds, said) h = said-fit (number + 1) now script lines said (added-fit number earlier now l adds h)

pub schedule-fits : (bytes : List ℕ) (script : List Numbered) → Lines bytes script → LinesFit script
schedule-fits bytes script said = said-fit 1 [] script (lines_of bytes) said tt
