-- Lines that do nothing, and why: those on a link, an end, a piece or a session that isn't there, and a failing save that doesn't come.
use Rattle.std.specs.Prelude.{ℕ, ◌==◌, ◌≡◌, ◌&&◌, ◌++◌, not, Bool, true, false, List, [], ◌∷◌, length, is_some, Option, Some, None, if◌then◌else◌}
use Rattle.cx_base.specs.declared.nodes.NodeName.TheVariants as node
use Rattle.cx_desk.specs.Handlers.{Handlers}
use Rattle.cx_session.specs.Book.{with_number}
use Rattle.cx_words.specs.declared.choices.LeftState.{LeftState}
use Rattle.cx_words.specs.declared.choices.Side.{Side}
use Rattle.cx_words.specs.declared.choices.Side.TheVariants.{Connector, Acceptor}
use Rattle.cx_lines.specs.declared.lines.Line.{Line}
use Rattle.cx_lines.specs.declared.lines.Line.TheVariants as line
use Rattle.cx_lines.specs.declared.lines.Numbered.{Numbered}
use Rattle.cx_lines.specs.declared.link_steps.LinkStep.{LinkStep}
use Rattle.cx_lines.specs.declared.link_steps.LinkStep.TheVariants as link
use Rattle.cx_lines.specs.declared.node_steps.NodeStep.TheVariants as step
use Rattle.cx_world_start.specs.cx_run.specs.Happenings.{EntityNode, OfClient, OfDaemon, entity_of}
use Rattle.cx_world_start.specs.cx_run.specs.Opening.{opening_world}
use Rattle.cx_world_start.specs.cx_run.specs.Runs.{setup_of}
use Rattle.cx_world_start.specs.cx_run.specs.Schedules.{after_line, ever_sent}
use Rattle.cx_world_start.specs.cx_run.specs.Wires.{Wire, end_of, other, owes_gone, pieces_from, wire_of}
use Rattle.cx_world_start.specs.cx_run.specs.Worlds.{Post, World, post_of}
use Rattle.cx_world.specs.Carried.{Began, Carries}
use Rattle.cx_world.specs.declared.idle.IdleLine.{IdleLine}
use Rattle.cx_world.specs.declared.idle.IdleReason.{IdleReason}
use Rattle.cx_world.specs.declared.idle.IdleReason.TheVariants.{NoLink, NothingUnderWay, EndGone, NoPiece, BothGone, NoSession, NoSave}
use Rattle.cx_world.specs.declared.world.World.{World as Held}

-- ---- links, ends and pieces that aren't there

-- no piece is under way from the side, or there is no such link
abbrev pub why_empty : ℕ → Side → Option Wire → Option IdleReason
why_empty number side None = Some (NoLink number)
why_empty number side (Some wire) = if length (pieces_from wire side) == 0 then Some (NothingUnderWay number side) else None

-- nor is the other end still to be told that this one is gone
abbrev pub why_done : ℕ → Side → Option Wire → Option IdleReason
why_done number side None = Some (NoLink number)
why_done number side (Some wire) = if (length (pieces_from wire side) == 0) && not (owes_gone wire side) then Some (NothingUnderWay number side) else None

-- there is no such link, or its other end is gone
abbrev pub why_deaf : ℕ → Side → Option Wire → Option IdleReason
why_deaf number side None = Some (NoLink number)
why_deaf number side (Some wire) = if (end_of wire (other side)).lives then None else Some (EndGone number (other side))

-- there is no such link, or its end never sent so many pieces
abbrev pub why_unsent : ℕ → Side → ℕ → Option Wire → Option IdleReason
why_unsent number side k None = Some (NoLink number)
why_unsent number side k (Some wire) = Some (NoPiece number side k)

-- there is no such piece, or no link on which it arrives
abbrev pub why_unheard : ℕ → Side → ℕ → ℕ → Option (List ℕ) → Option Wire → Option Wire → Option IdleReason
why_unheard number side k to None from far = why_unsent number side k from
why_unheard number side k to (Some piece) from far = why_deaf to side far

-- there is no such link, or both of its ends are gone
abbrev pub why_over : ℕ → Option Wire → Option IdleReason
why_over number None = Some (NoLink number)
why_over number (Some wire) = if not (end_of wire Connector).lives && not (end_of wire Acceptor).lives then Some (BothGone number) else None

-- why a line on a link does nothing, if it does nothing, where these are the links
abbrev pub why_idle_step : List Wire → LinkStep → Option IdleReason
why_idle_step wires (link.Carry number side n) = why_done number side (wire_of number wires)
why_idle_step wires (link.Lose number side) = why_empty number side (wire_of number wires)
why_idle_step wires (link.Inject number side bytes) = why_deaf number side (wire_of number wires)
why_idle_step wires (link.Again number side k to) = why_unheard number side k to (ever_sent k side (wire_of number wires)) (wire_of number wires) (wire_of to wires)
why_idle_step wires (link.Cut number) = why_over number (wire_of number wires)

abbrev pub why_idle : List Wire → Line → Option IdleReason
why_idle wires (line.Setting setting) = None
why_idle wires (line.Submit command) = None
why_idle wires (line.Do command) = None
why_idle wires (line.Link step) = why_idle_step wires step
why_idle wires (line.Node step) = None

-- ---- sessions that aren't there

-- whether a node, which has a post, is a daemon that has a session of this number
abbrev pub has_session : ℕ → Option Post → Option EntityNode → Bool
has_session session None entity = false
has_session session (Some post) None = false
has_session session (Some post) (Some (OfClient c)) = false
has_session session (Some post) (Some (OfDaemon d)) = is_some (with_number session d.book.live)

-- whether what a line drops is there, if it drops anything
abbrev pub is_there : World → Line → Bool
is_there w (line.Node (step.DropSession daemon session)) = has_session session (post_of (node.Entity daemon) w.posts) (entity_of daemon w.nodes)
is_there w _ = true

abbrev pub why_undropped : Line → Bool → Option IdleReason
why_undropped (line.Node (step.DropSession daemon session)) there = if there then None else Some (NoSession session)
why_undropped _ there = None

-- ---- saves that don't come

abbrev pub is_failsave : Line → Bool
is_failsave (line.Node (step.FailSave left)) = true
is_failsave _ = false

-- the last line by which a save was to fail, if that save still didn't come
abbrev pub unsaved : Option LeftState → Option ℕ → List IdleLine
unsaved None last = []
unsaved (Some left) None = []
unsaved (Some left) (Some number) = record { number = number; why = NoSave } ∷ []

-- another such line takes its place
abbrev pub unsaved_at : Option LeftState → Option ℕ → Line → List IdleLine
unsaved_at left last line = if is_failsave line then unsaved left last else []

abbrev pub last_failsave : Option ℕ → Numbered → Option ℕ
last_failsave last l = if is_failsave l.line then Some l.number else last

-- ---- a schedule

-- a line of this number that does nothing for this reason, if there is one
abbrev pub idle_for : ℕ → Option IdleReason → List IdleLine
idle_for number None = []
idle_for number (Some why) = record { number = number; why = why } ∷ []

abbrev pub idle_before : List Wire → Option LeftState → Option ℕ → Numbered → List IdleLine
idle_before wires left last l = unsaved_at left last l.line ++ idle_for l.number (why_idle wires l.line)

-- which lines are found at this one to do nothing: the last by which a save was to fail, where none came before this one takes its place; and itself
abbrev pub idle_at : World → Option ℕ → Numbered → List IdleLine
idle_at w last l = idle_before w.wires w.left last l ++ idle_for l.number (why_undropped l.line (is_there w l.line))

-- which of these lines do nothing, from this world on, in the order in which that is found: at the end, that no save came any more
abbrev pub idle_among : World → Option ℕ → List Numbered → List IdleLine
idle_among w last [] = unsaved w.left last
idle_among w last (l ∷ lines) = idle_at w last l ++ idle_among (after_line w l) (last_failsave last l) lines

-- which lines of a schedule do nothing, where the daemons have these handlers
abbrev pub idle_lines : Handlers → List Numbered → List IdleLine
idle_lines handlers script = idle_among (opening_world (setup_of handlers script)) None script

-- at this line these lines are found to do nothing, in each world that is carried
abbrev pub NotesIdle : Handlers → Held → Option ℕ → Numbered → List IdleLine → List IdleLine → Type 0
NotesIdle handlers held last line old new = (b : Began handlers) (w : World) → Carries b None held w → new ≡ old ++ idle_at w last line

-- these are the lines that do nothing, from each world on that is carried
abbrev pub FindsIdle : Handlers → Held → List Numbered → List IdleLine → Type 0
FindsIdle handlers held lines found = (b : Began handlers) (w : World) → Carries b None held w → found ≡ idle_among w None lines
