-- What comes to a node, and all that follows at once: turns, links that open, a save that fails, a restart.
use Rattle.std.specs.Prelude.{ℕ, ◌==◌, Bool, false, List, [], ◌∷◌, ◌++◌, drop, filter, length, replicate, take, Option, Some, None, if◌then◌else◌}
use Rattle.cx_base.specs.declared.nodes.NodeName.{NodeName}
use Rattle.cx_base.specs.declared.nodes.NodeName.TheVariants as node
use Rattle.cx_lines.specs.cx_words.specs.declared.choices.Side.{Side}
use Rattle.cx_lines.specs.cx_words.specs.declared.choices.Side.TheVariants.{Connector, Acceptor}
use Rattle.cx_rules_session.specs.cx_rules.specs.Inputs.{Input, Opened, Bytes, Turn, Gone, Restart}
use Rattle.cx_rules_session.specs.cx_rules.specs.Links.{Link, link_of}
use Rattle.cx_rules_session.specs.cx_steps.specs.Nothing.{nothing}
use Rattle.cx_rules_session.specs.cx_steps.specs.declared.effects.Effects.{Effects}
use Rattle.cx_rules_session.specs.cx_steps.specs.declared.events.Peer.{Peer}
use Rattle.cx_run.specs.Happenings.{EntityNode, OfClient, OfDaemon, Nodes, entity_of, steps}
use Rattle.cx_run.specs.Wires.{Wire, end_of, ended, gone_at, has_end, node_at, other, owes_gone, pieces_from, same_node, wire_of, with_pieces, with_wire}
use Rattle.cx_run.specs.Worlds.{Post, World, carried, happened, happening, opened_wires, post_of}

-- the world behind an event, the event's effects, and whether a save failed
pub record Given : Type 0 where
  pub world : World
  pub out : Effects
  pub failed : Bool

abbrev pub given : World → Input → Option Post → Given
given w input None = record { world = w; out = nothing; failed = false }
given w input (Some post) =
    let h = happening w input post in
    let s = steps w.nodes h in
    record { world = happened w h post s.nodes; out = s.out; failed = s.failed }

abbrev pub gives : World → NodeName → Input → Given
gives w who input = given w input (post_of who w.posts)

-- an event at which no link opens and nothing is saved: what it sends and shuts is carried out
abbrev pub tells : World → NodeName → Input → World
tells w who input = let g = gives w who input in carried g.world who g.out

-- ---- links that vanish, and restarts

-- the end of a link that lives is told that the link is gone
abbrev pub tells_gone : World → Wire → Side → World
tells_gone w wire side = if (end_of wire side).lives then tells w (node_at wire side) (Gone wire.number) else w

-- the side on which a node doesn't stand
abbrev pub far_side : NodeName → Wire → Side
far_side who wire = if same_node wire.connecting who then Acceptor else Connector

-- links of a node vanish with all that is under way, in the order of their numbers, and their other ends are told
abbrev pub vanish : NodeName → World → List Wire → World
vanish who w [] = w
vanish who w (wire ∷ wires) = vanish who (tells_gone (record w { wires = with_wire w.wires (ended wire) }) wire (far_side who wire)) wires

-- a node starts again: its links vanish
abbrev pub restarts : World → NodeName → World
restarts w who = let began = tells w who Restart in vanish who began (filter (has_end who) began.wires)

-- ---- links that open

-- a link is there: the end that opened it is told first, and then the other one
abbrev pub opens : World → Wire → Peer → World
opens w wire to =
    let there = record w { wires = w.wires ++ wire ∷ [] } in
    tells (tells there wire.connecting (Opened wire.number (Some to))) wire.accepting (Opened wire.number None)

abbrev pub open_all : World → List (Wire × Peer) → World
open_all w [] = w
open_all w ((wire, to) ∷ links) = open_all (opens w wire to) links

-- ---- any event

-- what it sends and shuts is carried out, and then the links that it opens are there, in order. Where a save failed, nothing of this is,
-- and the monitor starts again at once
abbrev pub followed : NodeName → Given → World
followed who g =
    if g.failed then restarts (record g.world { left = None }) who
    else open_all (carried g.world who g.out) (opened_wires who (length g.world.wires) g.out.opens)

abbrev pub comes : World → NodeName → Input → World
comes w who input = followed who (gives w who input)

-- ---- what arrives

-- turns, until one handles nothing. A turn that handles something takes at least a byte of what came: the list is as long
abbrev pub turns : World → NodeName → ℕ → List ℕ → World
turns w who number [] = comes w who (Turn number)
turns w who number (_ ∷ more) =
    let g = gives w who (Turn number) in
    if g.out.turned then turns (followed who g) who number more else followed who g

-- all bytes that came on a link of a node
abbrev pub came_on : {Stage : Type 0} → Option (Link Stage) → List ℕ
came_on None = []
came_on (Some link) = link.received

abbrev pub came_to : ℕ → Option EntityNode → List ℕ
came_to number None = []
came_to number (Some (OfClient client)) = came_on (link_of number client.links)
came_to number (Some (OfDaemon daemon)) = came_on (link_of number daemon.node.links)

abbrev pub came_at : Nodes → ℕ → NodeName → List ℕ
came_at nodes number node.Monitor = came_on (link_of number nodes.monitor.links)
came_at nodes number (node.Entity name) = came_to number (entity_of name nodes)

-- bytes come to a node on a link, and are handled
abbrev pub arrives : World → NodeName → ℕ → List ℕ → World
arrives w who number bytes = let fed = comes w who (Bytes number bytes) in turns fed who number (came_at fed.nodes number who)

-- bytes come as if from a side of a link, where its other end lives
abbrev pub arrives_from : World → Wire → Side → List ℕ → World
arrives_from w wire side bytes =
    if (end_of wire (other side)).lives then arrives w (node_at wire (other side)) wire.number bytes else w

-- the other end is told that a side of the link is gone
abbrev pub gone_arrives : World → Wire → Side → World
gone_arrives w wire side = tells_gone (record w { wires = with_wire w.wires (gone_at wire (other side)) }) wire (other side)

-- ---- deliveries

-- how much of a piece arrives: all, or so many first bytes, while the rest stays
abbrev pub first_of : Option ℕ → List ℕ → List ℕ
first_of None piece = piece
first_of (Some n) piece = take n piece

-- the pieces that stay: what is left of the first one, if anything is, and those behind it
abbrev pub before_others : List ℕ → List (List ℕ) → List (List ℕ)
before_others [] pieces = pieces
before_others (b ∷ bytes) pieces = (b ∷ bytes) ∷ pieces

abbrev pub stay : Option ℕ → List ℕ → List (List ℕ) → List (List ℕ)
stay None piece pieces = pieces
stay (Some n) piece pieces = before_others (drop n piece) pieces

-- the oldest piece from a side arrives, or its first bytes. Where none is under way from a side that is gone, that it is gone arrives
abbrev pub delivers_piece : World → Wire → Side → Option ℕ → List (List ℕ) → World
delivers_piece w wire side n [] = if owes_gone wire side then gone_arrives w wire side else w
delivers_piece w wire side n (piece ∷ pieces) =
    arrives_from (record w { wires = with_wire w.wires (with_pieces wire side (stay n piece pieces)) }) wire side (first_of n piece)

abbrev pub delivers_on : World → Side → Option ℕ → Option Wire → World
delivers_on w side n None = w
delivers_on w side n (Some wire) = delivers_piece w wire side n (pieces_from wire side)

abbrev pub delivers : World → ℕ → Side → Option ℕ → World
delivers w number side n = delivers_on w side n (wire_of number w.wires)

-- ---- settling

-- the pieces from a side arrive one by one, as many as were under way, and then that it is gone, where it is
abbrev pub drains : World → ℕ → Side → List (List ℕ) → World
drains w number side [] = delivers w number side None
drains w number side (_ ∷ pieces) = drains (delivers w number side None) number side pieces

abbrev pub under_way : Side → Option Wire → List (List ℕ)
under_way side None = []
under_way side (Some wire) = pieces_from wire side

abbrev pub drains_side : World → ℕ → Side → World
drains_side w number side = drains w number side (under_way side (wire_of number w.wires))

-- for each of these links, in order, what its connector sent and then what its acceptor sent
abbrev pub round : World → List Wire → World
round w [] = w
round w (wire ∷ wires) = round (drains_side (drains_side w wire.number Connector) wire.number Acceptor) wires

-- rounds, until one delivers nothing; as many at most as the list is long
abbrev pub rounds : World → List ℕ → World
rounds w [] = w
rounds w (_ ∷ more) = let next = round w w.wires in if length next.past == length w.past then next else rounds next more

-- settling: at most 64 rounds
unfoldable pub settles : World → World
settles w = rounds w (replicate 64 0)
