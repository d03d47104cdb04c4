-- What is kept by each thing that is done to a world is kept by a run: by a step that keeps nodes and events, and by one event more.
use Rattle.std.proofs.Common.{◌≡◌, ℕ, ◌==◌, Bool, true, false, List, [], ◌∷◌, ◌++◌, Option, Some, None, refl}
use Rattle.std.specs.Prelude.{filter, length, replicate, if◌then◌else◌}
use Rattle.std.specs.List.{AllByRecursion}
use Rattle.cx_base.specs.declared.nodes.NodeName.{NodeName}
use Rattle.cx_base.specs.declared.nodes.NodeName.TheVariants as node
use Rattle.cx_base.specs.declared.operations.Operation.{Operation}
use Rattle.cx_lines.specs.declared.commands.LineCommand.{LineCommand}
use Rattle.cx_lines.specs.declared.commands.LineCommand.TheVariants as command
use Rattle.cx_lines.specs.declared.lines.Line.{Line}
use Rattle.cx_lines.specs.declared.lines.Line.TheVariants as line
use Rattle.cx_lines.specs.declared.lines.Numbered.{Numbered}
use Rattle.cx_lines.specs.declared.link_steps.LinkStep.{LinkStep}
use Rattle.cx_lines.specs.declared.link_steps.LinkStep.TheVariants as link
use Rattle.cx_lines.specs.declared.node_steps.NodeStep.{NodeStep}
use Rattle.cx_lines.specs.declared.node_steps.NodeStep.TheVariants as step
use Rattle.cx_lines.specs.cx_words.specs.declared.choices.Side.{Side}
use Rattle.cx_lines.specs.cx_words.specs.declared.choices.Side.TheVariants.{Connector, Acceptor}
use Rattle.cx_rules_session.specs.cx_rules.specs.Inputs.{Input, Opened, NoLink, Bytes, Turn, Gone, Look, Restart, Tick, Submit}
use Rattle.cx_rules_session.specs.cx_steps.specs.declared.events.Command.TheVariants as told
use Rattle.cx_rules_session.specs.cx_steps.specs.declared.events.Peer.{Peer}
use Rattle.cx_run.specs.Visits.{IsNoLook}
use Rattle.cx_run.specs.Sending.{ComesWith, SendsOnly, SendsOnlyAt}
use Rattle.cx_run.specs.Wires.{Wire, end_of, ended, gone_at, has_end, node_at, other, owes_gone, pieces_from, wire_of, with_pieces, with_wire}
use Rattle.cx_run.specs.Worlds.{Post, World, carried, opened_wires, post_of}
use Rattle.cx_run.specs.Deliveries.{Given, arrives, arrives_from, came_at, comes, delivers, delivers_on, delivers_piece, drains, drains_side, far_side, first_of, followed, given, gives, gone_arrives, open_all, opens, restarts, round, rounds, settles, stay, tells, tells_gone, turns, under_way, vanish}
use Rattle.cx_run.specs.Schedules.{acts_on, after_line, after_lines, arrives_again, cuts, ever_sent, injects, loses, on_link, on_node, services_sum, submits, submitted, without_first}

-- of all so far, and of one more
pub all-push : {X : Type 0} (P : X → Type 0) (xs : List X) (x : X) → AllByRecursion P xs → P x → AllByRecursion P (xs ++ x ∷ [])
all-push P [] x h p = (p, tt)
all-push P (y ∷ ys) x h p = (h.0, all-push P ys x h.1 p)

-- clocks are told no readings but these
abbrev pub ReadsOnlyAt : (ℕ → Type 0) → Line → Type 0
ReadsOnlyAt Reads (line.Node (step.Clock reading)) = Reads reading
ReadsOnlyAt Reads (line.Node (step.ClockOf who reading)) = Reads reading
ReadsOnlyAt Reads _ = Unit {0}

-- where no operation is sent but these, and clocks are told no readings but these:
module _ (Sends : Operation → Type 0) (Reads : ℕ → Type 0) (P : World → Type 0)
    -- the same nodes, the same clocks and the same past
    (like : (w v : World) → v.nodes ≡ w.nodes → v.posts ≡ w.posts → v.past ≡ w.past → P w → P v)
    -- one event more, which tells no view
    (kept-gives : (w : World) (who : NodeName) (input : Input) → ComesWith Sends input → P w → P (gives w who input).world)
    -- a clock, or all of them, told a reading
    (kept-clock : (w : World) (reading : ℕ) → Reads reading → P w → P (on_node w (step.Clock reading)))
    (kept-clock_of : (w : World) (who : NodeName) (reading : ℕ) → Reads reading → P w → P (on_node w (step.ClockOf who reading))) where
  kept-tells : (w : World) (who : NodeName) (input : Input) → ComesWith Sends input → P w → P (tells w who input)
  kept-tells w who input untold k = like (gives w who input).world (tells w who input) refl refl refl (kept-gives w who input untold k)

  kept-if : (b : Bool) (v w : World) → P v → P w → P (if b then v else w)
  kept-if true v w kv kw = kv
  kept-if false v w kv kw = kw

  kept-tells_gone : (w : World) (wire : Wire) (side : Side) → P w → P (tells_gone w wire side)
  kept-tells_gone w wire side k = kept-if (end_of wire side).lives _ _ (kept-tells w (node_at wire side) (Gone wire.number) tt k) k

  kept-vanish : (who : NodeName) (w : World) (wires : List Wire) → P w → P (vanish who w wires)
  kept-vanish who w [] k = k
  kept-vanish who w (wire ∷ wires) k =
      let away : World = record w { wires = with_wire w.wires (ended wire) } in
      kept-vanish who (tells_gone away wire (far_side who wire)) wires (kept-tells_gone away wire (far_side who wire) (like w away refl refl refl k))

  kept-restarts : (w : World) (who : NodeName) → P w → P (restarts w who)
  kept-restarts w who k =
      let began = tells w who Restart in
      kept-vanish who began (filter (has_end who) began.wires) (kept-tells w who Restart tt k)

  kept-opens : (w : World) (wire : Wire) (to : Peer) → P w → P (opens w wire to)
  kept-opens w wire to k =
      let there : World = record w { wires = w.wires ++ wire ∷ [] } in
      kept-tells (tells there wire.connecting (Opened wire.number (Some to))) wire.accepting (Opened wire.number None) tt
      (kept-tells there wire.connecting (Opened wire.number (Some to)) tt (like w there refl refl refl k))

  kept-open_all : (w : World) (links : List (Wire × Peer)) → P w → P (open_all w links)
  kept-open_all w [] k = k
  kept-open_all w ((wire, to) ∷ links) k = kept-open_all (opens w wire to) links (kept-opens w wire to k)

  kept-followed : (who : NodeName) (g : Given) → P g.world → P (followed who g)
  kept-followed who g k =
      let free : World = record g.world { left = None } in
      let done = carried g.world who g.out in
      kept-if g.failed _ _
      (kept-restarts free who (like g.world free refl refl refl k))
      (kept-open_all done (opened_wires who (length g.world.wires) g.out.opens) (like g.world done refl refl refl k))

  kept-comes : (w : World) (who : NodeName) (input : Input) → ComesWith Sends input → P w → P (comes w who input)
  kept-comes w who input untold k = kept-followed who (gives w who input) (kept-gives w who input untold k)

  kept-turns : (w : World) (who : NodeName) (number : ℕ) (fuel : List ℕ) → P w → P (turns w who number fuel)
  kept-turns w who number [] k = kept-comes w who (Turn number) tt k
  kept-turns w who number (_ ∷ more) k =
      let g = gives w who (Turn number) in
      let behind : P (followed who g) = kept-followed who g (kept-gives w who (Turn number) tt k) in
      kept-if g.out.turned _ _ (kept-turns (followed who g) who number more behind) behind

  kept-arrives : (w : World) (who : NodeName) (number : ℕ) (bytes : List ℕ) → P w → P (arrives w who number bytes)
  kept-arrives w who number bytes k =
      let fed = comes w who (Bytes number bytes) in
      kept-turns fed who number (came_at fed.nodes number who) (kept-comes w who (Bytes number bytes) tt k)

  kept-arrives_from : (w : World) (wire : Wire) (side : Side) (bytes : List ℕ) → P w → P (arrives_from w wire side bytes)
  kept-arrives_from w wire side bytes k =
      kept-if (end_of wire (other side)).lives _ _ (kept-arrives w (node_at wire (other side)) wire.number bytes k) k

  kept-gone_arrives : (w : World) (wire : Wire) (side : Side) → P w → P (gone_arrives w wire side)
  kept-gone_arrives w wire side k =
      let away : World = record w { wires = with_wire w.wires (gone_at wire (other side)) } in
      kept-tells_gone away wire (other side) (like w away refl refl refl k)

  kept-delivers_piece : (w : World) (wire : Wire) (side : Side) (n : Option ℕ) (pieces : List (List ℕ)) → P w → P (delivers_piece w wire side n pieces)
  kept-delivers_piece w wire side n [] k = kept-if (owes_gone wire side) _ _ (kept-gone_arrives w wire side k) k
  kept-delivers_piece w wire side n (piece ∷ pieces) k =
      let away : World = record w { wires = with_wire w.wires (with_pieces wire side (stay n piece pieces)) } in
      kept-arrives_from away wire side (first_of n piece) (like w away refl refl refl k)

  kept-delivers_on : (w : World) (side : Side) (n : Option ℕ) (wire : Option Wire) → P w → P (delivers_on w side n wire)
  kept-delivers_on w side n None k = k
  kept-delivers_on w side n (Some wire) k = kept-delivers_piece w wire side n (pieces_from wire side) k

  kept-delivers : (w : World) (number : ℕ) (side : Side) (n : Option ℕ) → P w → P (delivers w number side n)
  kept-delivers w number side n k = kept-delivers_on w side n (wire_of number w.wires) k

  kept-drains : (w : World) (number : ℕ) (side : Side) (pieces : List (List ℕ)) → P w → P (drains w number side pieces)
  kept-drains w number side [] k = kept-delivers w number side None k
  kept-drains w number side (_ ∷ pieces) k = kept-drains (delivers w number side None) number side pieces (kept-delivers w number side None k)

  kept-drains_side : (w : World) (number : ℕ) (side : Side) → P w → P (drains_side w number side)
  kept-drains_side w number side k = kept-drains w number side (under_way side (wire_of number w.wires)) k

  kept-round : (w : World) (wires : List Wire) → P w → P (round w wires)
  kept-round w [] k = k
  kept-round w (wire ∷ wires) k =
      let first = drains_side w wire.number Connector in
      kept-round (drains_side first wire.number Acceptor) wires (kept-drains_side first wire.number Acceptor (kept-drains_side w wire.number Connector k))

  kept-rounds : (w : World) (fuel : List ℕ) → P w → P (rounds w fuel)
  kept-rounds w [] k = k
  kept-rounds w (_ ∷ more) k =
      let next = round w w.wires in
      let behind : P next = kept-round w w.wires k in
      kept-if (length next.past == length w.past) _ _ behind (kept-rounds next more behind)

  kept-settles : (w : World) → P w → P (settles w)
  unfolding settles
  kept-settles w k = kept-rounds w (replicate 64 0) k

  -- ---- lines

  kept-submitted : (w : World) (c : LineCommand) → SendsOnly Sends c → P w → P (submitted w c)
  kept-submitted w (command.Login client services) sends k = kept-comes w (node.Entity client) (Submit (told.Login (services_sum services))) tt k
  kept-submitted w (command.Fetch daemon) sends k = kept-comes w (node.Entity daemon) (Submit told.Fetch) tt k
  kept-submitted w (command.Renew client services) sends k = kept-comes w (node.Entity client) (Submit (told.Renew (services_sum services))) tt k
  kept-submitted w (command.Connect client daemon lossy) sends k = kept-comes w (node.Entity client) (Submit (told.Connect daemon lossy)) tt k
  kept-submitted w (command.Send client daemon operation) sends k = kept-comes w (node.Entity client) (Submit (told.Send daemon operation)) sends k

  kept-submits : (w : World) (c : LineCommand) → SendsOnly Sends c → P w → P (submits w c)
  kept-submits w c sends k = kept-settles (submitted w c) (kept-submitted w c sends k)

  kept-without_first : (w : World) (wire : Wire) (side : Side) (pieces : List (List ℕ)) → P w → P (without_first w wire side pieces)
  kept-without_first w wire side [] k = k
  kept-without_first w wire side (piece ∷ pieces) k = like w (without_first w wire side (piece ∷ pieces)) refl refl refl k

  kept-loses : (w : World) (side : Side) (wire : Option Wire) → P w → P (loses w side wire)
  kept-loses w side None k = k
  kept-loses w side (Some wire) k = kept-without_first w wire side (pieces_from wire side) k

  kept-injects : (w : World) (side : Side) (bytes : List ℕ) (wire : Option Wire) → P w → P (injects w side bytes wire)
  kept-injects w side bytes None k = k
  kept-injects w side bytes (Some wire) k = kept-arrives_from w wire side bytes k

  kept-arrives_again : (w : World) (side : Side) (piece : Option (List ℕ)) (to : Option Wire) → P w → P (arrives_again w side piece to)
  kept-arrives_again w side None to k = k
  kept-arrives_again w side (Some piece) to k = kept-injects w side piece to k

  kept-cuts : (w : World) (wire : Option Wire) → P w → P (cuts w wire)
  kept-cuts w None k = k
  kept-cuts w (Some wire) k =
      let away : World = record w { wires = with_wire w.wires (ended wire) } in
      kept-tells_gone (tells_gone away wire Connector) wire Acceptor (kept-tells_gone away wire Connector (like w away refl refl refl k))

  kept-on_link : (w : World) (s : LinkStep) → P w → P (on_link w s)
  kept-on_link w (link.Carry number side n) k = kept-delivers w number side n k
  kept-on_link w (link.Lose number side) k = kept-loses w side (wire_of number w.wires) k
  kept-on_link w (link.Inject number side bytes) k = kept-injects w side bytes (wire_of number w.wires) k
  kept-on_link w (link.Again number side n other) k = kept-arrives_again w side (ever_sent n side (wire_of number w.wires)) (wire_of other w.wires) k
  kept-on_link w (link.Cut number) k = kept-cuts w (wire_of number w.wires) k

  kept-on_node : (w : World) (s : NodeStep) → ReadsOnlyAt Reads (line.Node s) → P w → P (on_node w s)
  kept-on_node w (step.Clock reading) reads k = kept-clock w reading reads k
  kept-on_node w (step.ClockOf who reading) reads k = kept-clock_of w who reading reads k
  kept-on_node w (step.Restart who) reads k = kept-restarts w who k
  kept-on_node w (step.FailSave left) reads k = like w (on_node w (step.FailSave left)) refl refl refl k
  kept-on_node w step.Settle reads k = kept-settles w k
  kept-on_node w (step.DropSession daemon number) reads k = kept-comes w (node.Entity daemon) (Submit (told.Drop number)) tt k
  kept-on_node w (step.Tick who) reads k = kept-settles (comes w who Tick) (kept-comes w who Tick tt k)

  kept-acts_on : (w : World) (l : Line) → SendsOnlyAt Sends l → ReadsOnlyAt Reads l → P w → P (acts_on w l)
  kept-acts_on w (line.Setting setting) sends reads k = k
  kept-acts_on w (line.Submit c) sends reads k = kept-submits w c sends k
  kept-acts_on w (line.Do c) sends reads k = kept-submitted w c sends k
  kept-acts_on w (line.Link s) sends reads k = kept-on_link w s k
  kept-acts_on w (line.Node s) sends reads k = kept-on_node w s reads k

  kept-after_line : (w : World) (l : Numbered) → SendsOnlyAt Sends l.line → ReadsOnlyAt Reads l.line → P w → P (after_line w l)
  kept-after_line w l sends reads k = let there : World = record w { line = l.number } in kept-acts_on there l.line sends reads (like w there refl refl refl k)

  pub kept-after_told : (w : World) (lines : List Numbered) → AllByRecursion (λ (l : Numbered). SendsOnlyAt Sends l.line) lines
      → AllByRecursion (λ (l : Numbered). ReadsOnlyAt Reads l.line) lines → P w → P (after_lines w lines)
  kept-after_told w [] sends reads k = k
  kept-after_told w (l ∷ lines) sends reads k = kept-after_told (after_line w l) lines sends.1 reads.1 (kept-after_line w l sends.0 reads.0 k)

-- ---- whatever clocks tell

-- any reading
abbrev AnyReading : ℕ → Type 0
AnyReading reading = Unit {0}

any-reads : (lines : List Numbered) → AllByRecursion (λ (l : Numbered). ReadsOnlyAt AnyReading l.line) lines
any-reads [] = tt
any-reads (l ∷ lines) = (by_line l.line, any-reads lines)
  where
    by_line : (l : Line) → ReadsOnlyAt AnyReading l
    by_line (line.Node (step.Clock reading)) = tt
    by_line (line.Node (step.ClockOf who reading)) = tt
    by_line _ = tt

module _ (Sends : Operation → Type 0) (P : World → Type 0)
    -- the same nodes and the same past
    (like : (w v : World) → v.nodes ≡ w.nodes → v.past ≡ w.past → P w → P v)
    -- one event more, which tells no view
    (given-keeps : (w : World) (input : Input) (post : Option Post) → ComesWith Sends input → P w → P (given w input post).world) where
  pub kept-after_sends : (w : World) (lines : List Numbered) → AllByRecursion (λ (l : Numbered). SendsOnlyAt Sends l.line) lines → P w → P (after_lines w lines)
  kept-after_sends w lines sends k =
      kept-after_told Sends AnyReading P (λ v u nodes posts past. like v u nodes past) (λ v who input comes. given-keeps v input (post_of who v.posts) comes)
      (λ v reading reads. like v (on_node v (step.Clock reading)) refl refl) (λ v who reading reads. like v (on_node v (step.ClockOf who reading)) refl refl) w lines sends (any-reads lines) k

-- ---- whatever is sent

-- any operation
abbrev Any : Operation → Type 0
Any operation = Unit {0}

any-look : (input : Input) → ComesWith Any input → IsNoLook input
any-look (Look view) comes = comes
any-look (Opened number peer) comes = tt
any-look (NoLink peer) comes = tt
any-look (Bytes number bytes) comes = tt
any-look (Turn number) comes = tt
any-look (Gone number) comes = tt
any-look Tick comes = tt
any-look (Submit command) comes = tt
any-look Restart comes = tt

any-sent : (c : LineCommand) → SendsOnly Any c
any-sent (command.Login client services) = tt
any-sent (command.Fetch daemon) = tt
any-sent (command.Renew client services) = tt
any-sent (command.Connect client daemon lossy) = tt
any-sent (command.Send client daemon operation) = tt

any-at : (l : Line) → SendsOnlyAt Any l
any-at (line.Setting setting) = tt
any-at (line.Submit c) = any-sent c
any-at (line.Do c) = any-sent c
any-at (line.Link s) = tt
any-at (line.Node s) = tt

any-of : (lines : List Numbered) → AllByRecursion (λ (l : Numbered). SendsOnlyAt Any l.line) lines
any-of [] = tt
any-of (l ∷ lines) = (any-at l.line, any-of lines)

module _ (P : World → Type 0)
    -- the same nodes and the same past
    (like : (w v : World) → v.nodes ≡ w.nodes → v.past ≡ w.past → P w → P v)
    -- one event more, which tells no view
    (given-keeps : (w : World) (input : Input) (post : Option Post) → IsNoLook input → P w → P (given w input post).world) where
  pub kept-after_lines : (w : World) (lines : List Numbered) → P w → P (after_lines w lines)
  kept-after_lines w lines k =
      kept-after_sends Any P like (λ v input post comes kept. given-keeps v input post (any-look input comes) kept) w lines (any-of lines) k
