-- The world of a run: its nodes with their clocks and dice, the links between them, and all that happened. A step of a node is carried out
-- here: what it sends goes under way, links are opened and shut.
use Rattle.std.specs.Prelude.{ℕ, suc, List, [], ◌∷◌, ◌++◌, find, map, Option, Some, None, if◌then◌else◌}
use Rattle.cx_rules_session.specs.cx_dice.specs.Rolls.{seed_draw}
use Rattle.cx_base.specs.declared.nodes.NodeName.{NodeName}
use Rattle.cx_base.specs.declared.nodes.NodeName.TheVariants as node
use Rattle.cx_lines.specs.cx_words.specs.declared.choices.LeftState.{LeftState}
use Rattle.cx_rules_session.specs.cx_rules.specs.Inputs.{Input}
use Rattle.cx_rules_session.specs.cx_steps.specs.declared.effects.Effects.{Effects}
use Rattle.cx_rules_session.specs.cx_steps.specs.declared.effects.Piece.{Piece}
use Rattle.cx_rules_session.specs.cx_steps.specs.declared.events.Peer.{Peer}
use Rattle.cx_rules_session.specs.cx_steps.specs.declared.events.Peer.TheVariants as peer
use Rattle.cx_run.specs.Happenings.{Happening, Nodes}
use Rattle.cx_run.specs.Wires.{Wire, gone_at, new_wire, same_node, sent_from, side_of, wire_of, with_wire}

-- what a node goes by: the reading of its clock, the seed of its dice, and how many draws were rolled
pub record Post : Type 0 where
  pub node : NodeName
  pub reading : ℕ
  pub seed : ℕ
  pub rolled : ℕ

pub record World : Type 0 where
  pub nodes : Nodes
  pub posts : List Post
  pub wires : List Wire
  -- the state that the monitor's next save is to leave, where that is to fail
  pub left : Option LeftState
  -- the line of the schedule
  pub line : ℕ
  -- all that happened, in order
  pub past : List Happening

abbrev pub post_of : NodeName → List Post → Option Post
post_of who posts = find (λ s. same_node s.node who) posts

abbrev pub with_post : List Post → Post → List Post
with_post posts post = map (λ s. if same_node s.node post.node then post else s) posts

-- ---- one event

-- what comes to a node now: its clock is read, and its dice are rolled once
abbrev pub happening : World → Input → Post → Happening
happening w input post = record {
  node = post.node;
  input = input;
  reading = post.reading;
  draw = seed_draw post.seed post.rolled;
  line = w.line;
  left = w.left;
}

-- the world behind an event: one draw more was rolled
abbrev pub happened : World → Happening → Post → Nodes → World
happened w h post nodes = record w { nodes = nodes; posts = with_post w.posts (record post { rolled = suc post.rolled }); past = w.past ++ h ∷ [] }

-- ---- effects

-- each piece goes under way on its link
abbrev pub sends_piece : NodeName → List Wire → Piece → Option Wire → List Wire
sends_piece who wires piece None = wires
sends_piece who wires piece (Some wire) = with_wire wires (sent_from wire (side_of wire who) piece.bytes)

abbrev pub sends_all : NodeName → List Wire → List Piece → List Wire
sends_all who wires [] = wires
sends_all who wires (piece ∷ pieces) = sends_all who (sends_piece who wires piece (wire_of piece.link wires)) pieces

-- each link that is shut is gone at this end
abbrev pub shuts_link : NodeName → List Wire → Option Wire → List Wire
shuts_link who wires None = wires
shuts_link who wires (Some wire) = with_wire wires (gone_at wire (side_of wire who))

abbrev pub shuts_all : NodeName → List Wire → List ℕ → List Wire
shuts_all who wires [] = wires
shuts_all who wires (number ∷ numbers) = shuts_all who (shuts_link who wires (wire_of number wires)) numbers

-- the node to which a link is opened
abbrev pub node_of : Peer → NodeName
node_of peer.Monitor = node.Monitor
node_of (peer.Daemon name) = node.Entity name

-- the links that are opened get the next numbers, in order
abbrev pub opened_wires : NodeName → ℕ → List Peer → List (Wire × Peer)
opened_wires who last [] = []
opened_wires who last (to ∷ peers) = (new_wire (suc last) who (node_of to), to) ∷ opened_wires who (suc last) peers

-- what is sent first, then what is shut; no link opens
abbrev pub carried : World → NodeName → Effects → World
carried w who out = record w { wires = shuts_all who (sends_all who w.wires out.sends) out.shuts }
