-- What each line of a schedule does to the world.
use Rattle.std.specs.Prelude.{ℕ, zero, suc, List, [], ◌∷◌, map, sum_by, Option, Some, None, if◌then◌else◌}
use Rattle.std.specs.List.{slice_get}
use Rattle.cx_base.specs.declared.kinds.EntityType.{EntityType}
use Rattle.cx_rules_session.specs.cx_enc.specs.Values.{number_of}
use Rattle.cx_base.specs.declared.nodes.NodeName.{NodeName}
use Rattle.cx_base.specs.declared.nodes.NodeName.TheVariants as node
use Rattle.cx_lines.specs.declared.commands.LineCommand.{LineCommand}
use Rattle.cx_lines.specs.declared.commands.LineCommand.TheVariants as command
use Rattle.cx_lines.specs.declared.lines.Line.{Line}
use Rattle.cx_lines.specs.declared.lines.Line.TheVariants as line
use Rattle.cx_lines.specs.declared.lines.Numbered.{Numbered}
use Rattle.cx_lines.specs.declared.link_steps.LinkStep.{LinkStep}
use Rattle.cx_lines.specs.declared.link_steps.LinkStep.TheVariants as link
use Rattle.cx_lines.specs.declared.node_steps.NodeStep.{NodeStep}
use Rattle.cx_lines.specs.declared.node_steps.NodeStep.TheVariants as step
use Rattle.cx_lines.specs.cx_words.specs.declared.choices.Side.{Side}
use Rattle.cx_lines.specs.cx_words.specs.declared.choices.Side.TheVariants.{Connector, Acceptor}
use Rattle.cx_rules_session.specs.cx_rules.specs.Inputs.{Tick, Submit}
use Rattle.cx_rules_session.specs.cx_steps.specs.declared.events.Command.TheVariants as told
use Rattle.cx_run.specs.Deliveries.{arrives_from, comes, delivers, restarts, settles, tells_gone}
use Rattle.cx_run.specs.Wires.{Wire, end_of, ended, pieces_from, same_node, wire_of, with_pieces, with_wire}
use Rattle.cx_run.specs.Worlds.{Post, World}

-- ---- commands

-- the sum of services, by the numbers of their types
abbrev pub services_sum : List EntityType → ℕ
services_sum services = sum_by number_of services

-- a client logs in, asks for tickets, calls a daemon or sends it an operation; a daemon asks for the generations of its type
abbrev pub submitted : World → LineCommand → World
submitted w (command.Login client services) = comes w (node.Entity client) (Submit (told.Login (services_sum services)))
submitted w (command.Fetch daemon) = comes w (node.Entity daemon) (Submit told.Fetch)
submitted w (command.Renew client services) = comes w (node.Entity client) (Submit (told.Renew (services_sum services)))
submitted w (command.Connect client daemon lossy) = comes w (node.Entity client) (Submit (told.Connect daemon lossy))
submitted w (command.Send client daemon operation) = comes w (node.Entity client) (Submit (told.Send daemon operation))

-- and then all settles
abbrev pub submits : World → LineCommand → World
submits w command = settles (submitted w command)

-- ---- links

-- the oldest piece from a side vanishes
abbrev pub without_first : World → Wire → Side → List (List ℕ) → World
without_first w wire side [] = w
without_first w wire side (piece ∷ pieces) = record w { wires = with_wire w.wires (with_pieces wire side pieces) }

abbrev pub loses : World → Side → Option Wire → World
loses w side None = w
loses w side (Some wire) = without_first w wire side (pieces_from wire side)

abbrev pub injects : World → Side → List ℕ → Option Wire → World
injects w side bytes None = w
injects w side bytes (Some wire) = arrives_from w wire side bytes

-- the piece of this number, from 1, that a side ever sent
abbrev pub ever_sent : ℕ → Side → Option Wire → Option (List ℕ)
ever_sent zero side wire = None
ever_sent (suc k) side None = None
ever_sent (suc k) side (Some wire) = slice_get (end_of wire side).ever k

abbrev pub arrives_again : World → Side → Option (List ℕ) → Option Wire → World
arrives_again w side None to = w
arrives_again w side (Some piece) to = injects w side piece to

-- the link is gone with all that is under way: the connector's end is told first
abbrev pub cuts : World → Option Wire → World
cuts w None = w
cuts w (Some wire) = tells_gone (tells_gone (record w { wires = with_wire w.wires (ended wire) }) wire Connector) wire Acceptor

abbrev pub on_link : World → LinkStep → World
on_link w (link.Carry number side n) = delivers w number side n
on_link w (link.Lose number side) = loses w side (wire_of number w.wires)
on_link w (link.Inject number side bytes) = injects w side bytes (wire_of number w.wires)
on_link w (link.Again number side k other) = arrives_again w side (ever_sent k side (wire_of number w.wires)) (wire_of other w.wires)
on_link w (link.Cut number) = cuts w (wire_of number w.wires)

-- ---- nodes

abbrev pub all_read : ℕ → World → World
all_read reading w = record w { posts = map (λ (post : Post). record post { reading = reading }) w.posts }

abbrev pub one_reads : NodeName → ℕ → World → World
one_reads who reading w =
    record w { posts = map (λ (post : Post). if same_node post.node who then record post { reading = reading } else post) w.posts }

abbrev pub on_node : World → NodeStep → World
on_node w (step.Clock reading) = all_read reading w
on_node w (step.ClockOf who reading) = one_reads who reading w
on_node w (step.Restart who) = restarts w who
on_node w (step.FailSave left) = record w { left = Some left }
on_node w step.Settle = settles w
on_node w (step.DropSession daemon number) = comes w (node.Entity daemon) (Submit (told.Drop number))
on_node w (step.Tick who) = settles (comes w who Tick)

-- ---- a line

abbrev pub acts_on : World → Line → World
acts_on w (line.Setting setting) = w
acts_on w (line.Submit command) = submits w command
acts_on w (line.Do command) = submitted w command
acts_on w (line.Link step) = on_link w step
acts_on w (line.Node step) = on_node w step

abbrev pub after_line : World → Numbered → World
after_line w l = acts_on (record w { line = l.number }) l.line

abbrev pub after_lines : World → List Numbered → World
after_lines w [] = w
after_lines w (l ∷ lines) = after_lines (after_line w l) lines
