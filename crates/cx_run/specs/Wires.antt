-- What is under way between the ends of a link.
use Rattle.std.specs.Prelude.{ℕ, ◌==◌, ◌&&◌, not, Bool, true, false, List, [], ◌∷◌, ◌++◌, find, map, Option, if◌then◌else◌}
use Rattle.cx_base.specs.Names.{same_name}
use Rattle.cx_base.specs.declared.nodes.NodeName.{NodeName}
use Rattle.cx_base.specs.declared.nodes.NodeName.TheVariants as node
use Rattle.cx_lines.specs.cx_words.specs.declared.choices.Side.{Side}
use Rattle.cx_lines.specs.cx_words.specs.declared.choices.Side.TheVariants.{Connector, Acceptor}

-- one end of a link: whether its node still has it; the pieces that it sent and that are under way, the oldest first; and all pieces that it
-- ever sent
pub record End : Type 0 where
  pub lives : Bool
  pub under_way : List (List ℕ)
  pub ever : List (List ℕ)

-- a link between two nodes. The number is the same at both
pub record Wire : Type 0 where
  pub number : ℕ
  pub connecting : NodeName
  pub accepting : NodeName
  pub connector : End
  pub acceptor : End

-- an end of a link that was just opened
abbrev pub new_end : End
new_end = record { lives = true; under_way = []; ever = [] }

abbrev pub new_wire : ℕ → NodeName → NodeName → Wire
new_wire number connecting accepting =
    record { number = number; connecting = connecting; accepting = accepting; connector = new_end; acceptor = new_end }

abbrev pub wire_of : ℕ → List Wire → Option Wire
wire_of number wires = find (λ w. w.number == number) wires

abbrev pub with_wire : List Wire → Wire → List Wire
with_wire wires wire = map (λ w. if w.number == wire.number then wire else w) wires

-- ---- sides

abbrev pub other : Side → Side
other Connector = Acceptor
other Acceptor = Connector

abbrev pub end_of : Wire → Side → End
end_of wire Connector = wire.connector
end_of wire Acceptor = wire.acceptor

abbrev pub node_at : Wire → Side → NodeName
node_at wire Connector = wire.connecting
node_at wire Acceptor = wire.accepting

abbrev pub with_end : Wire → Side → End → Wire
with_end wire Connector end = record wire { connector = end }
with_end wire Acceptor end = record wire { acceptor = end }

abbrev pub same_node : NodeName → NodeName → Bool
same_node node.Monitor node.Monitor = true
same_node (node.Entity a) (node.Entity b) = same_name a b
same_node _ _ = false

-- the side on which a node stands
abbrev pub side_of : Wire → NodeName → Side
side_of wire who = if same_node wire.connecting who then Connector else Acceptor

-- whether a node stands at one of its ends
abbrev pub has_end : NodeName → Wire → Bool
has_end who wire = if same_node wire.connecting who then true else same_node wire.accepting who

-- ---- pieces

-- a piece is sent from a side: it is under way, unless the other end is gone, which loses it
abbrev pub sent_from : Wire → Side → List ℕ → Wire
sent_from wire side piece =
    let end = end_of wire side in
    with_end wire side (record end {
      under_way = (if (end_of wire (other side)).lives then end.under_way ++ piece ∷ [] else end.under_way);
      ever = end.ever ++ piece ∷ [];
    })

-- the pieces that are under way from a side
abbrev pub pieces_from : Wire → Side → List (List ℕ)
pieces_from wire side = (end_of wire side).under_way

abbrev pub with_pieces : Wire → Side → List (List ℕ) → Wire
with_pieces wire side pieces = with_end wire side (record (end_of wire side) { under_way = pieces })

-- ---- ends that go

-- an end is gone: what is under way to it is lost
abbrev pub gone_at : Wire → Side → Wire
gone_at wire side = with_pieces (with_end wire side (record (end_of wire side) { lives = false })) (other side) []

-- both ends are gone, with all that is under way
abbrev pub ended : Wire → Wire
ended wire = gone_at (gone_at wire Connector) Acceptor

-- whether the other end is still to be told that this one is gone: behind the last piece from it
abbrev pub owes_gone : Wire → Side → Bool
owes_gone wire side = not (end_of wire side).lives && (end_of wire (other side)).lives
