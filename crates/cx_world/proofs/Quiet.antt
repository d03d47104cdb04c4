-- That a link is gone moves no other link; and no event adds a link or takes one away.
use Rattle.std.proofs.Common.{◌≡◌, ℕ, ◌+◌, ◌<◌, Bool, true, false, suc, zero, List, [], ◌∷◌, ◌++◌, length, get_or, map, take, Option, Some, None, refl, sym, subst, ap, ◌∙◌, arith}
use Rattle.std.proofs.lemmas.List.{length-append, length-map, take_more}
use Rattle.cx_world.specs.Events.{opens_to}
use Rattle.cx_base.specs.Names.{Name}
use Rattle.cx_base.specs.declared.nodes.NodeName.{NodeName}
use Rattle.cx_base.specs.declared.nodes.NodeName.TheVariants as node
use Rattle.cx_words.specs.declared.choices.LeftState.{LeftState}
use Rattle.std.specs.Prelude.{if◌then◌else◌}
use Rattle.cx_desk.specs.Handlers.{Handlers}
use Rattle.cx_world_start.specs.cx_rules.specs.Acceptor as acceptor
use Rattle.cx_world_start.specs.cx_rules_session.specs.ClientRule.{ClientStage, WholeClientNode, loses}
use Rattle.cx_world_start.specs.cx_rules.specs.Connector.{Stage}
use Rattle.cx_world_start.specs.cx_rules.specs.Inputs.{Input, Gone, Opened}
use Rattle.cx_world_start.specs.cx_rules.specs.Links.{Link, link_of}
use Rattle.cx_world_start.specs.cx_rules.specs.MonitorRule.{monitor_rule}
use Rattle.cx_world_start.specs.cx_rules.specs.Rows.{Outcome, forgotten, idles}
use Rattle.cx_world_start.specs.cx_rules_session.specs.Asks.{Finished, Asking}
use Rattle.cx_world_start.specs.cx_rules_session.specs.DaemonRule.{AsAcceptor, AsConnector, DaemonNode, DaemonStage, book_after, book_reply, gone, gone_by_kind, incoming_gone, lossy_gone}
use Rattle.cx_world_start.specs.cx_rules_session.specs.IncomingLinks.{IncomingStage}
use Rattle.cx_session.specs.declared.call.BookCall.TheVariants.{End}
use Rattle.cx_session.specs.declared.call.BookReply.{BookReply}
use Rattle.cx_session.specs.declared.call.BookReply.TheVariants as reply
use Rattle.cx_world_start.specs.cx_run.proofs.Always.{Always, always-book}
use Rattle.cx_world_start.specs.cx_run.specs.Deliveries.{given, gives, open_all, opens, tells}
use Rattle.cx_world_start.specs.cx_run.specs.Happenings.{EntityNode, OfClient, OfDaemon, Happening, Nodes, entity_of, entity_rule, entity_steps, monitor_steps, steps, steps_of}
use Rattle.cx_world_start.specs.cx_run.specs.Wires.{Wire, gone_at, new_wire, sent_from, side_of, wire_of, with_wire}
use Rattle.cx_world_start.specs.cx_run.specs.Worlds.{Post, World, carried, happening, node_of, opened_wires, post_of, sends_all, sends_piece, shuts_all, shuts_link}
use Rattle.cx_steps.specs.declared.effects.Effects.{Effects}
use Rattle.cx_steps.specs.declared.effects.Piece.{Piece}
use Rattle.cx_steps.specs.declared.events.Peer.{Peer}

-- ---- that a link is gone

abbrev IsQuiet : Effects → Type 0
IsQuiet out = (out.sends ≡ []) × (out.shuts ≡ [])

loses_quiet : (c : WholeClientNode) (found : Option (Link ClientStage)) → IsQuiet (loses c found).out
loses_quiet c None = (refl, refl)
loses_quiet c (Some link) = (refl, refl)

-- whatever a daemon's book replies
ended_quiet : (d : DaemonNode) (number session : ℕ) (r : BookReply) → Always (λ (o : Outcome DaemonNode). IsQuiet o.out) (lossy_gone d number session r)
ended_quiet d number session (reply.Ended true) = (refl, refl)
ended_quiet d number session (reply.Ended false) = (refl, refl)
ended_quiet d number session (reply.Admitted n epoch) = (refl, refl)
ended_quiet d number session (reply.Resumed n epoch last lossy) = (refl, refl)
ended_quiet d number session reply.Fine = (refl, refl)
ended_quiet d number session (reply.Refused why) = (refl, refl)
ended_quiet d number session reply.OutOfMemory = (refl, refl)

incoming_quiet : (d : DaemonNode) (number : ℕ) (stage : IncomingStage) → Always (λ (o : Outcome DaemonNode). IsQuiet o.out) (incoming_gone d number stage)
incoming_quiet d number acceptor.AwaitsBanner = (refl, refl)
incoming_quiet d number acceptor.AwaitsHello = (refl, refl)
incoming_quiet d number acceptor.AwaitsRequest = (refl, refl)
incoming_quiet d number (acceptor.AwaitsProof awaited) = (refl, refl)
incoming_quiet d number (acceptor.AwaitsSignature s owner) = (refl, refl)
incoming_quiet d number (acceptor.AwaitsIdent s owner) = (refl, refl)
incoming_quiet d number (acceptor.Open s served) = by_test served.lossy
  where
    by_test : (lossy : Bool)
        → Always (λ (o : Outcome DaemonNode). IsQuiet o.out) (if lossy then Asking (End served.number) (lossy_gone d number served.number) else Finished (idles (forgotten d number)))
    by_test true = λ r. ended_quiet d number served.number r
    by_test false = (refl, refl)

gone_quiet : (d : DaemonNode) (found : Option (Link DaemonStage)) → Always (λ (o : Outcome DaemonNode). IsQuiet o.out) (gone d found)
gone_quiet d None = (refl, refl)
gone_quiet d (Some link) = by_kind link.stage
  where
    by_kind : (stage : DaemonStage) → Always (λ (o : Outcome DaemonNode). IsQuiet o.out) (gone_by_kind d link.number stage)
    by_kind (AsAcceptor stage) = incoming_quiet d link.number stage
    by_kind (AsConnector stage) = (refl, refl)

rule_quiet : (handlers : Handlers) (entity : EntityNode) (number reading : ℕ) (draw : List ℕ) → IsQuiet (entity_rule handlers entity (Gone number) reading draw).out
rule_quiet handlers (OfClient c) number reading draw = loses_quiet c (link_of number c.links)
rule_quiet handlers (OfDaemon d) number reading draw =
    always-book (λ (o : Outcome DaemonNode). IsQuiet o.out) book_reply book_after d.book (gone d.node (link_of number d.node.links)) (gone_quiet d.node (link_of number d.node.links))

entity_quiet : (nodes : Nodes) (h : Happening) (name : Name) (number : ℕ) → h.input ≡ Gone number → (entity : Option EntityNode) → IsQuiet (entity_steps nodes h name entity).out
entity_quiet nodes h name number e None = (refl, refl)
entity_quiet nodes h name number e (Some entity) =
    let P : Input → Type 0 = λ i. IsQuiet (entity_rule nodes.handlers entity i h.reading h.draw).out in
    subst P (sym e) (rule_quiet nodes.handlers entity number h.reading h.draw)

monitor_quiet : (nodes : Nodes) (h : Happening) (number : ℕ) → h.input ≡ Gone number
    → (let o = monitor_rule nodes.monitor h.input h.reading h.draw in IsQuiet (monitor_steps nodes o h.left o.out.save).out)
monitor_quiet nodes h number e =
    let P : Input → Type 0 = λ i. (let o = monitor_rule nodes.monitor i h.reading h.draw in IsQuiet (monitor_steps nodes o h.left o.out.save).out) in
    subst P (sym e) (by h.left)
  where
    by : (left : Option LeftState) → (let o = monitor_rule nodes.monitor (Gone number) h.reading h.draw in IsQuiet (monitor_steps nodes o left None).out)
    by None = (refl, refl)
    by (Some left) = (refl, refl)

quiet_at : (nodes : Nodes) (h : Happening) (number : ℕ) → h.input ≡ Gone number → (who : NodeName) → IsQuiet (steps_of nodes h who).out
quiet_at nodes h number e node.Monitor = monitor_quiet nodes h number e
quiet_at nodes h number e (node.Entity name) = entity_quiet nodes h name number e (entity_of name nodes)

quiet_given : (w : World) (number : ℕ) (post : Option Post) → IsQuiet (given w (Gone number) post).out × ((given w (Gone number) post).world.wires ≡ w.wires)
quiet_given w number None = ((refl, refl), refl)
quiet_given w number (Some post) = (quiet_at w.nodes (happening w (Gone number) post) number refl post.node, refl)

pub gone_moves_none : (w : World) (who : NodeName) (number : ℕ) → (tells w who (Gone number)).wires ≡ w.wires
gone_moves_none w who number =
    let g = gives w who (Gone number) in
    let q = quiet_given w number (post_of who w.posts) in
    ap (λ (ns : List ℕ). shuts_all who (sends_all who g.world.wires g.out.sends) ns) q.0.1
    ∙ ap (λ (ps : List Piece). sends_all who g.world.wires ps) q.0.0 ∙ q.1

-- ---- how many links there are

same_count : (wires : List Wire) (wire : Wire) → length (with_wire wires wire) ≡ length wires
same_count wires wire = length-map wires _

piece_count : (who : NodeName) (wires : List Wire) (piece : Piece) (found : Option Wire) → length (sends_piece who wires piece found) ≡ length wires
piece_count who wires piece None = refl
piece_count who wires piece (Some wire) = same_count wires (sent_from wire (side_of wire who) piece.bytes)

sends_count : (who : NodeName) (wires : List Wire) (pieces : List Piece) → length (sends_all who wires pieces) ≡ length wires
sends_count who wires [] = refl
sends_count who wires (piece ∷ pieces) = sends_count who (sends_piece who wires piece (wire_of piece.link wires)) pieces ∙ piece_count who wires piece (wire_of piece.link wires)

link_count : (who : NodeName) (wires : List Wire) (found : Option Wire) → length (shuts_link who wires found) ≡ length wires
link_count who wires None = refl
link_count who wires (Some wire) = same_count wires (gone_at wire (side_of wire who))

shuts_count : (who : NodeName) (wires : List Wire) (numbers : List ℕ) → length (shuts_all who wires numbers) ≡ length wires
shuts_count who wires [] = refl
shuts_count who wires (number ∷ numbers) = shuts_count who (shuts_link who wires (wire_of number wires)) numbers ∙ link_count who wires (wire_of number wires)

given_wires : (w : World) (input : Input) (post : Option Post) → (given w input post).world.wires ≡ w.wires
given_wires w input None = refl
given_wires w input (Some post) = refl

pub tells_count : (w : World) (who : NodeName) (input : Input) → length (tells w who input).wires ≡ length w.wires
tells_count w who input =
    let g = gives w who input in
    shuts_count who (sends_all who g.world.wires g.out.sends) g.out.shuts ∙ sends_count who g.world.wires g.out.sends ∙ ap (λ (ws : List Wire). length ws) (given_wires w input (post_of who w.posts))

opens_count : (w : World) (wire : Wire) (to : Peer) → length (opens w wire to).wires ≡ suc (length w.wires)
opens_count w wire to =
    let there : World = record w { wires = w.wires ++ wire ∷ [] } in
    tells_count (tells there wire.connecting (Opened wire.number (Some to))) wire.accepting (Opened wire.number None)
    ∙ tells_count there wire.connecting (Opened wire.number (Some to)) ∙ length-append w.wires (wire ∷ []) ∙ omega arith

open_behind : (w : World) (who : NodeName) (n : ℕ) (peers : List Peer) (to : Peer) → n ≡ length w.wires
    → open_all w (opened_wires who n (peers ++ to ∷ []))
    ≡ (let v = open_all w (opened_wires who n peers) in opens v (new_wire (suc (length v.wires)) who (node_of to)) to)
open_behind w who n [] to e = ap (λ (m : ℕ). opens w (new_wire (suc m) who (node_of to)) to) e
open_behind w who n (p ∷ peers) to e =
    open_behind (opens w (new_wire (suc n) who (node_of p)) p) who (suc n) peers to (ap (λ (m : ℕ). suc m) e ∙ sym (opens_count w (new_wire (suc n) who (node_of p)) p))

pub open_more : (w : World) (who : NodeName) (peers : List Peer) (i : ℕ) (to : Peer) → i < length peers → to ≡ get_or peers i to
    → open_all w (opened_wires who (length w.wires) (take (i + 1) peers)) ≡ opens_to who (open_all w (opened_wires who (length w.wires) (take i peers))) to
open_more w who peers i to h e =
    ap (λ (ps : List Peer). open_all w (opened_wires who (length w.wires) ps)) (take_more peers i to h ∙ ap (λ (p : Peer). take i peers ++ p ∷ []) (sym e))
    ∙ open_behind w who (length w.wires) (take i peers) to refl

pub carried_count : (w : World) (who : NodeName) (out : Effects) → length (carried w who out).wires ≡ length w.wires
carried_count w who out = shuts_count who (sends_all who w.wires out.sends) out.shuts ∙ sends_count who w.wires out.sends
