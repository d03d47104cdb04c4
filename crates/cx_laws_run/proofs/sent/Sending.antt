-- All that clients are told to send in the run of a schedule has a spelling.
use Rattle.std.proofs.Common.{◌≡◌, ℕ, ◌==◌, Bool, true, false, List, [], ◌∷◌, ◌++◌, Option, Some, None, refl, sym, subst}
use Rattle.std.specs.Prelude.{filter, length, replicate, if◌then◌else◌}
use Rattle.cx_base.specs.declared.nodes.NodeName.{NodeName}
use Rattle.cx_base.specs.declared.nodes.NodeName.TheVariants as node
use Rattle.cx_desk.specs.Handlers.{Handlers}
use Rattle.cx_laws_run.specs.cx_laws_keys.proofs.keys.Lists.{all-append}
use Rattle.cx_laws_sessions.specs.cx_lines.specs.declared.commands.LineCommand.{LineCommand}
use Rattle.cx_laws_sessions.specs.cx_lines.specs.declared.commands.LineCommand.TheVariants as command
use Rattle.cx_laws_sessions.specs.cx_lines.specs.declared.lines.Line.{Line}
use Rattle.cx_laws_sessions.specs.cx_lines.specs.declared.lines.Line.TheVariants as line
use Rattle.cx_laws_sessions.specs.cx_lines.specs.declared.lines.Numbered.{Numbered}
use Rattle.cx_laws_sessions.specs.cx_lines.specs.declared.link_steps.LinkStep.{LinkStep}
use Rattle.cx_laws_sessions.specs.cx_lines.specs.declared.link_steps.LinkStep.TheVariants as link
use Rattle.cx_laws_sessions.specs.cx_lines.specs.declared.node_steps.NodeStep.{NodeStep}
use Rattle.cx_laws_sessions.specs.cx_lines.specs.declared.node_steps.NodeStep.TheVariants as step
use Rattle.cx_words.specs.declared.choices.Side.{Side}
use Rattle.cx_words.specs.declared.choices.Side.TheVariants.{Connector, Acceptor}
use Rattle.cx_laws_sessions.specs.cx_rules.specs.Inputs.{Input, Opened, Bytes, Turn, Gone, Restart, Tick, Submit}
use Rattle.cx_steps.specs.declared.events.Command.TheVariants as told
use Rattle.cx_steps.specs.declared.events.Peer.{Peer}
use Rattle.cx_laws_sessions.specs.cx_run.specs.Happenings.{Happening}
use Rattle.cx_laws_sessions.specs.cx_run.specs.Opening.{opening_world}
use Rattle.cx_laws_sessions.specs.cx_run.specs.Runs.{setup_of, trace}
use Rattle.cx_laws_sessions.specs.cx_run.specs.Wires.{Wire, end_of, ended, gone_at, has_end, node_at, other, owes_gone, pieces_from, wire_of, with_pieces, with_wire}
use Rattle.cx_laws_sessions.specs.cx_run.specs.Worlds.{Post, World, carried, happening, opened_wires, post_of}
use Rattle.cx_laws_sessions.specs.cx_run.specs.Deliveries.{Given, arrives, arrives_from, came_at, comes, delivers, delivers_on, delivers_piece, drains, drains_side, far_side, first_of, followed, given, gives, gone_arrives, open_all, opens, restarts, round, rounds, settles, stay, tells, tells_gone, turns, under_way, vanish}
use Rattle.cx_laws_sessions.specs.cx_run.specs.Schedules.{acts_on, after_line, after_lines, arrives_again, cuts, ever_sent, injects, loses, on_link, on_node, services_sum, submits, submitted, without_first}
use Rattle.cx_laws_run.specs.cx_schedule.specs.Files.{Lines}
use Rattle.cx_laws_run.proofs.sent.Spelling.{CommandFits, LineFits, LinesFit, schedule-fits}
use Rattle.cx_laws_run.specs.sent.Fitting.{AreFit, IsFit}

-- so it is of all that happened so far
abbrev Fits : World → Type 0
Fits w = AreFit w.past

-- the same events
like : (w v : World) → v.nodes ≡ w.nodes → v.past ≡ w.past → Fits w → Fits v
like w v nodes past k = subst (λ (hs : List Happening). AreFit hs) (sym past) k

-- one event more
given-keeps : (w : World) (input : Input) (post : Option Post) → IsFit input → Fits w → Fits (given w input post).world
given-keeps w input None fits k = k
given-keeps w input (Some post) fits k = all-append (λ (h : Happening). IsFit h.input) w.past (happening w input post ∷ []) k (fits, tt)

kept-gives : (w : World) (who : NodeName) (input : Input) → IsFit input → Fits w → Fits (gives w who input).world
kept-gives w who input fits k = given-keeps w input (post_of who w.posts) fits k

kept-tells : (w : World) (who : NodeName) (input : Input) → IsFit input → Fits w → Fits (tells w who input)
kept-tells w who input fits k = like (gives w who input).world (tells w who input) refl refl (kept-gives w who input fits k)

kept-if : (b : Bool) (v w : World) → Fits v → Fits w → Fits (if b then v else w)
kept-if true v w kv kw = kv
kept-if false v w kv kw = kw

kept-tells_gone : (w : World) (wire : Wire) (side : Side) → Fits w → Fits (tells_gone w wire side)
kept-tells_gone w wire side k = kept-if (end_of wire side).lives _ _ (kept-tells w (node_at wire side) (Gone wire.number) tt k) k

kept-vanish : (who : NodeName) (w : World) (wires : List Wire) → Fits w → Fits (vanish who w wires)
kept-vanish who w [] k = k
kept-vanish who w (wire ∷ wires) k =
    let away : World = record w { wires = with_wire w.wires (ended wire) } in
    kept-vanish who (tells_gone away wire (far_side who wire)) wires (kept-tells_gone away wire (far_side who wire) (like w away refl refl k))

kept-restarts : (w : World) (who : NodeName) → Fits w → Fits (restarts w who)
kept-restarts w who k =
    let began = tells w who Restart in
    kept-vanish who began (filter (has_end who) began.wires) (kept-tells w who Restart tt k)

kept-opens : (w : World) (wire : Wire) (to : Peer) → Fits w → Fits (opens w wire to)
kept-opens w wire to k =
    let there : World = record w { wires = w.wires ++ wire ∷ [] } in
    kept-tells (tells there wire.connecting (Opened wire.number (Some to))) wire.accepting (Opened wire.number None) tt
    (kept-tells there wire.connecting (Opened wire.number (Some to)) tt (like w there refl refl k))

kept-open_all : (w : World) (links : List (Wire × Peer)) → Fits w → Fits (open_all w links)
kept-open_all w [] k = k
kept-open_all w ((wire, to) ∷ links) k = kept-open_all (opens w wire to) links (kept-opens w wire to k)

kept-followed : (who : NodeName) (g : Given) → Fits g.world → Fits (followed who g)
kept-followed who g k =
    let free : World = record g.world { left = None } in
    let done = carried g.world who g.out in
    kept-if g.failed _ _
    (kept-restarts free who (like g.world free refl refl k))
    (kept-open_all done (opened_wires who (length g.world.wires) g.out.opens) (like g.world done refl refl k))

kept-comes : (w : World) (who : NodeName) (input : Input) → IsFit input → Fits w → Fits (comes w who input)
kept-comes w who input fits k = kept-followed who (gives w who input) (kept-gives w who input fits k)

kept-turns : (w : World) (who : NodeName) (number : ℕ) (fuel : List ℕ) → Fits w → Fits (turns w who number fuel)
kept-turns w who number [] k = kept-comes w who (Turn number) tt k
kept-turns w who number (_ ∷ more) k =
    let g = gives w who (Turn number) in
    let behind : Fits (followed who g) = kept-followed who g (kept-gives w who (Turn number) tt k) in
    kept-if g.out.turned _ _ (kept-turns (followed who g) who number more behind) behind

kept-arrives : (w : World) (who : NodeName) (number : ℕ) (bytes : List ℕ) → Fits w → Fits (arrives w who number bytes)
kept-arrives w who number bytes k =
    let fed = comes w who (Bytes number bytes) in
    kept-turns fed who number (came_at fed.nodes number who) (kept-comes w who (Bytes number bytes) tt k)

kept-arrives_from : (w : World) (wire : Wire) (side : Side) (bytes : List ℕ) → Fits w → Fits (arrives_from w wire side bytes)
kept-arrives_from w wire side bytes k =
    kept-if (end_of wire (other side)).lives _ _ (kept-arrives w (node_at wire (other side)) wire.number bytes k) k

kept-gone_arrives : (w : World) (wire : Wire) (side : Side) → Fits w → Fits (gone_arrives w wire side)
kept-gone_arrives w wire side k =
    let away : World = record w { wires = with_wire w.wires (gone_at wire (other side)) } in
    kept-tells_gone away wire (other side) (like w away refl refl k)

kept-delivers_piece : (w : World) (wire : Wire) (side : Side) (n : Option ℕ) (pieces : List (List ℕ)) → Fits w → Fits (delivers_piece w wire side n pieces)
kept-delivers_piece w wire side n [] k = kept-if (owes_gone wire side) _ _ (kept-gone_arrives w wire side k) k
kept-delivers_piece w wire side n (piece ∷ pieces) k =
    let away : World = record w { wires = with_wire w.wires (with_pieces wire side (stay n piece pieces)) } in
    kept-arrives_from away wire side (first_of n piece) (like w away refl refl k)

kept-delivers_on : (w : World) (side : Side) (n : Option ℕ) (wire : Option Wire) → Fits w → Fits (delivers_on w side n wire)
kept-delivers_on w side n None k = k
kept-delivers_on w side n (Some wire) k = kept-delivers_piece w wire side n (pieces_from wire side) k

kept-delivers : (w : World) (number : ℕ) (side : Side) (n : Option ℕ) → Fits w → Fits (delivers w number side n)
kept-delivers w number side n k = kept-delivers_on w side n (wire_of number w.wires) k

kept-drains : (w : World) (number : ℕ) (side : Side) (pieces : List (List ℕ)) → Fits w → Fits (drains w number side pieces)
kept-drains w number side [] k = kept-delivers w number side None k
kept-drains w number side (_ ∷ pieces) k = kept-drains (delivers w number side None) number side pieces (kept-delivers w number side None k)

kept-drains_side : (w : World) (number : ℕ) (side : Side) → Fits w → Fits (drains_side w number side)
kept-drains_side w number side k = kept-drains w number side (under_way side (wire_of number w.wires)) k

kept-round : (w : World) (wires : List Wire) → Fits w → Fits (round w wires)
kept-round w [] k = k
kept-round w (wire ∷ wires) k =
    let first = drains_side w wire.number Connector in
    kept-round (drains_side first wire.number Acceptor) wires (kept-drains_side first wire.number Acceptor (kept-drains_side w wire.number Connector k))

kept-rounds : (w : World) (fuel : List ℕ) → Fits w → Fits (rounds w fuel)
kept-rounds w [] k = k
kept-rounds w (_ ∷ more) k =
    let next = round w w.wires in
    let behind : Fits next = kept-round w w.wires k in
    kept-if (length next.past == length w.past) _ _ behind (kept-rounds next more behind)

kept-settles : (w : World) → Fits w → Fits (settles w)
unfolding settles
kept-settles w k = kept-rounds w (replicate 64 0) k

-- ---- lines

kept-submitted : (w : World) (c : LineCommand) → CommandFits c → Fits w → Fits (submitted w c)
kept-submitted w (command.Login client services) fits k = kept-comes w (node.Entity client) (Submit (told.Login (services_sum services))) tt k
kept-submitted w (command.Fetch daemon) fits k = kept-comes w (node.Entity daemon) (Submit told.Fetch) tt k
kept-submitted w (command.Renew client services) fits k = kept-comes w (node.Entity client) (Submit (told.Renew (services_sum services))) tt k
kept-submitted w (command.Connect client daemon lossy) fits k = kept-comes w (node.Entity client) (Submit (told.Connect daemon lossy)) tt k
kept-submitted w (command.Send client daemon operation) fits k = kept-comes w (node.Entity client) (Submit (told.Send daemon operation)) fits k

kept-submits : (w : World) (c : LineCommand) → CommandFits c → Fits w → Fits (submits w c)
kept-submits w (command.Login client services) fits k =
    kept-settles (submitted w (command.Login client services)) (kept-submitted w (command.Login client services) fits k)
kept-submits w (command.Fetch daemon) fits k = kept-settles (submitted w (command.Fetch daemon)) (kept-submitted w (command.Fetch daemon) fits k)
kept-submits w (command.Renew client services) fits k =
    kept-settles (submitted w (command.Renew client services)) (kept-submitted w (command.Renew client services) fits k)
kept-submits w (command.Connect client daemon lossy) fits k =
    kept-settles (submitted w (command.Connect client daemon lossy)) (kept-submitted w (command.Connect client daemon lossy) fits k)
kept-submits w (command.Send client daemon operation) fits k =
    kept-settles (submitted w (command.Send client daemon operation)) (kept-submitted w (command.Send client daemon operation) fits k)

kept-without_first : (w : World) (wire : Wire) (side : Side) (pieces : List (List ℕ)) → Fits w → Fits (without_first w wire side pieces)
kept-without_first w wire side [] k = k
kept-without_first w wire side (piece ∷ pieces) k = like w (without_first w wire side (piece ∷ pieces)) refl refl k

kept-loses : (w : World) (side : Side) (wire : Option Wire) → Fits w → Fits (loses w side wire)
kept-loses w side None k = k
kept-loses w side (Some wire) k = kept-without_first w wire side (pieces_from wire side) k

kept-injects : (w : World) (side : Side) (bytes : List ℕ) (wire : Option Wire) → Fits w → Fits (injects w side bytes wire)
kept-injects w side bytes None k = k
kept-injects w side bytes (Some wire) k = kept-arrives_from w wire side bytes k

kept-arrives_again : (w : World) (side : Side) (piece : Option (List ℕ)) (to : Option Wire) → Fits w → Fits (arrives_again w side piece to)
kept-arrives_again w side None to k = k
kept-arrives_again w side (Some piece) to k = kept-injects w side piece to k

kept-cuts : (w : World) (wire : Option Wire) → Fits w → Fits (cuts w wire)
kept-cuts w None k = k
kept-cuts w (Some wire) k =
    let away : World = record w { wires = with_wire w.wires (ended wire) } in
    kept-tells_gone (tells_gone away wire Connector) wire Acceptor (kept-tells_gone away wire Connector (like w away refl refl k))

kept-on_link : (w : World) (s : LinkStep) → Fits w → Fits (on_link w s)
kept-on_link w (link.Carry number side n) k = kept-delivers w number side n k
kept-on_link w (link.Lose number side) k = kept-loses w side (wire_of number w.wires) k
kept-on_link w (link.Inject number side bytes) k = kept-injects w side bytes (wire_of number w.wires) k
kept-on_link w (link.Again number side n other) k = kept-arrives_again w side (ever_sent n side (wire_of number w.wires)) (wire_of other w.wires) k
kept-on_link w (link.Cut number) k = kept-cuts w (wire_of number w.wires) k

kept-on_node : (w : World) (s : NodeStep) → Fits w → Fits (on_node w s)
kept-on_node w (step.Clock reading) k = like w (on_node w (step.Clock reading)) refl refl k
kept-on_node w (step.ClockOf who reading) k = like w (on_node w (step.ClockOf who reading)) refl refl k
kept-on_node w (step.Restart who) k = kept-restarts w who k
kept-on_node w (step.FailSave left) k = like w (on_node w (step.FailSave left)) refl refl k
kept-on_node w step.Settle k = kept-settles w k
kept-on_node w (step.DropSession daemon number) k = kept-comes w (node.Entity daemon) (Submit (told.Drop number)) tt k
kept-on_node w (step.Tick who) k = kept-settles (comes w who Tick) (kept-comes w who Tick tt k)

kept-acts_on : (w : World) (l : Line) → LineFits l → Fits w → Fits (acts_on w l)
kept-acts_on w (line.Setting setting) fits k = k
kept-acts_on w (line.Submit c) fits k = kept-submits w c fits k
kept-acts_on w (line.Do c) fits k = kept-submitted w c fits k
kept-acts_on w (line.Link s) fits k = kept-on_link w s k
kept-acts_on w (line.Node s) fits k = kept-on_node w s k

kept-after_line : (w : World) (l : Numbered) → LineFits l.line → Fits w → Fits (after_line w l)
kept-after_line w l fits k = let there : World = record w { line = l.number } in kept-acts_on there l.line fits (like w there refl refl k)

kept-after_lines : (w : World) (lines : List Numbered) → LinesFit lines → Fits w → Fits (after_lines w lines)
kept-after_lines w [] fits k = k
kept-after_lines w (l ∷ lines) fits k = kept-after_lines (after_line w l) lines fits.1 (kept-after_line w l fits.0 k)

pub trace-fits : (handlers : Handlers) (bytes : List ℕ) (script : List Numbered) → Lines bytes script → AreFit (trace handlers script)
trace-fits handlers bytes script said = kept-after_lines (opening_world (setup_of handlers script)) script (schedule-fits bytes script said) tt
