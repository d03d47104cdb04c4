-- The operations of a schedule can be written: those of its lines, and so those that its run tells clients to send.
use Rattle.std.proofs.Common.{◌≡◌, ℕ, ◌&&◌, Bool, true, List, [], ◌∷◌, length, Option, Some, None, refl, sym, subst}
use Rattle.std.specs.List.{AllByRecursion, list_all}
use Rattle.std.proofs.lemmas.Bool.{leb-true}
use Rattle.cx_base.specs.Names.{Name}
use Rattle.cx_base.specs.Texts.{is_part}
use Rattle.cx_base.specs.declared.operations.Operation.{Operation}
use Rattle.cx_rules_session.specs.cx_desk.specs.Handlers.{Handlers}
use Rattle.cx_rules_session.specs.cx_enc.specs.FieldLaws.{both_true}
use Rattle.cx_lines.specs.cx_words.specs.lines.Values.{SpellsItems, is_fit}
use Rattle.cx_lines.specs.cx_words.specs.declared.known.Known.{Known}
use Rattle.cx_lines.specs.Commands.{command_items}
use Rattle.cx_lines.specs.Lines.{Spells, items}
use Rattle.cx_lines.specs.declared.commands.LineCommand.{LineCommand}
use Rattle.cx_lines.specs.declared.commands.LineCommand.TheVariants as command
use Rattle.cx_lines.specs.declared.lines.Line.{Line}
use Rattle.cx_lines.specs.declared.lines.Line.TheVariants as line
use Rattle.cx_lines.specs.declared.lines.Numbered.{Numbered}
use Rattle.cx_rules_session.specs.cx_rules.specs.Inputs.{Input, Opened, NoLink, Bytes, Turn, Gone, Look, Restart, Tick, Submit}
use Rattle.cx_rules_session.specs.cx_steps.specs.declared.events.Command.TheVariants as told
use Rattle.cx_rules_session.specs.cx_wire.specs.Operations.{IsWritable}
use Rattle.cx_run.specs.Deliveries.{given}
use Rattle.cx_run.specs.Happenings.{Happening}
use Rattle.cx_run.specs.Opening.{opening_world}
use Rattle.cx_run.specs.Runs.{setup_of, trace}
use Rattle.cx_run.specs.Sending.{AreWritten, ComesWith, IsWrittenInput, SendsOnly, SendsOnlyAt, is_command_written, is_line_written, is_numbered_written, is_written}
use Rattle.cx_run.specs.Worlds.{Post, World, happening}
use Rattle.cx_run.proofs.Walking.{all-push, kept-after_sends}

-- ---- lines

all-four : (a b c d : Bool) → a ≡ true → b ≡ true → c ≡ true → d ≡ true → (a && b && c && d) ≡ true
all-four a b c d ha hb hc hd = rw (ha, hb, hc, hd) refl

-- the words of an operation spell one that can be written
sent-spelled : (known : Known) (before : List (List ℕ)) (client daemon : Name) (operation : Operation) (words : List (List ℕ))
    → SpellsItems known before (command_items (command.Send client daemon operation)) words → is_written operation ≡ true
sent-spelled known before client daemon o [] p = absurd p
sent-spelled known before client daemon o (a ∷ []) p = absurd p.1
sent-spelled known before client daemon o (a ∷ b ∷ []) p = absurd p.1.1
sent-spelled known before client daemon o (a ∷ b ∷ c ∷ []) p = absurd p.1.1.1
sent-spelled known before client daemon o (a ∷ b ∷ c ∷ d ∷ []) p = absurd p.1.1.1.1
sent-spelled known before client daemon o (a ∷ b ∷ c ∷ d ∷ e ∷ []) p = absurd p.1.1.1.1.1
sent-spelled known before client daemon o (a ∷ b ∷ c ∷ d ∷ e ∷ f ∷ []) p = absurd p.1.1.1.1.1.1
sent-spelled known before client daemon o (a ∷ b ∷ c ∷ d ∷ e ∷ f ∷ g ∷ words) p =
    all-four (is_part o.pool) (is_part o.namespace) (is_part o.object) (is_fit o.bytes) p.1.1.1.0.0 p.1.1.1.1.0.0 p.1.1.1.1.1.0.0 p.1.1.1.1.1.1.0.0

command-spelled : (known : Known) (before : List (List ℕ)) (c : LineCommand) (words : List (List ℕ)) → SpellsItems known before (command_items c) words → is_command_written c ≡ true
command-spelled known before (command.Login client services) words p = refl
command-spelled known before (command.Fetch daemon) words p = refl
command-spelled known before (command.Renew client services) words p = refl
command-spelled known before (command.Connect client daemon lossy) words p = refl
command-spelled known before (command.Send client daemon operation) words p = sent-spelled known before client daemon operation words p

items-spelled : (known : Known) (l : Line) (words : List (List ℕ)) → SpellsItems known [] (items l) words → is_line_written l ≡ true
items-spelled known (line.Setting setting) words p = refl
items-spelled known (line.Submit c) words p = command-spelled known [] c words p
items-spelled known (line.Do c) [] p = absurd p
items-spelled known (line.Do c) (word ∷ words) p = command-spelled known (word ∷ []) c words p.1
items-spelled known (line.Link step) words p = refl
items-spelled known (line.Node step) words p = refl

pub line-written : (known : Known) (l : Line) (words : List (List ℕ)) → Spells known l words → is_line_written l ≡ true
line-written known l [] p = absurd p
line-written known l (word ∷ words) p = items-spelled known l words p.1

-- ---- events

-- of each event so far
abbrev Written : World → Type 0
Written w = AreWritten w.past

written-like : (w v : World) → v.nodes ≡ w.nodes → v.past ≡ w.past → Written w → Written v
written-like w v n p k = subst (λ (hs : List Happening). AreWritten hs) (sym p) k

written-input : (input : Input) → ComesWith IsWritable input → IsWrittenInput input
written-input (Submit (told.Send daemon operation)) comes = comes
written-input (Submit (told.Login services)) comes = tt
written-input (Submit (told.Renew services)) comes = tt
written-input (Submit told.Fetch) comes = tt
written-input (Submit (told.Connect daemon lossy)) comes = tt
written-input (Submit (told.Drop session)) comes = tt
written-input (Look view) comes = tt
written-input (Opened number peer) comes = tt
written-input (NoLink peer) comes = tt
written-input (Bytes number bytes) comes = tt
written-input (Turn number) comes = tt
written-input (Gone number) comes = tt
written-input Tick comes = tt
written-input Restart comes = tt

written-given : (w : World) (input : Input) (post : Option Post) → ComesWith IsWritable input → Written w → Written (given w input post).world
written-given w input None comes k = k
written-given w input (Some post) comes k =
    all-push (λ (h : Happening). IsWrittenInput h.input) w.past (happening w input post) k (written-input input comes)

-- what can be written, of a test
pub is-writable : (o : Operation) → is_written o ≡ true → IsWritable o
is-writable o written =
    let three = both_true (is_part o.pool && is_part o.namespace && is_part o.object) (is_fit o.bytes) written in
    let two = both_true (is_part o.pool && is_part o.namespace) (is_part o.object) three.0 in
    let one = both_true (is_part o.pool) (is_part o.namespace) two.0 in
    record { pool = one.0; namespace = one.1; object = two.1; bytes = leb-true (length o.bytes) 65536 three.1 }

sends-only : (c : LineCommand) → is_command_written c ≡ true → SendsOnly IsWritable c
sends-only (command.Login client services) written = tt
sends-only (command.Fetch daemon) written = tt
sends-only (command.Renew client services) written = tt
sends-only (command.Connect client daemon lossy) written = tt
sends-only (command.Send client daemon operation) written = is-writable operation written

sends-only-at : (l : Line) → is_line_written l ≡ true → SendsOnlyAt IsWritable l
sends-only-at (line.Setting setting) written = tt
sends-only-at (line.Submit c) written = sends-only c written
sends-only-at (line.Do c) written = sends-only c written
sends-only-at (line.Link step) written = tt
sends-only-at (line.Node step) written = tt

all-sends : (lines : List Numbered) → list_all is_numbered_written lines ≡ true → AllByRecursion (λ (l : Numbered). SendsOnlyAt IsWritable l.line) lines
all-sends [] written = tt
all-sends (l ∷ lines) written =
    let both = both_true (is_line_written l.line) (list_all is_numbered_written lines) written in
    (sends-only-at l.line both.0, all-sends lines both.1)

pub written : (handlers : Handlers) (script : List Numbered) → list_all is_numbered_written script ≡ true → AreWritten (trace handlers script)
written handlers script lines =
    kept-after_sends IsWritable Written written-like written-given (opening_world (setup_of handlers script)) script (all-sends script lines) tt
