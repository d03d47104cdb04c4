-- A daemon that has the session to drop enters that it ended, and one that hasn't enters nothing.
use Rattle.std.proofs.Common.{◌≡◌, ℕ, ◌+◌, Bool, true, false, List, [], ◌∷◌, ◌++◌, length, map, Option, Some, None, refl, sym, subst, ap, ◌∙◌, arith}
use Rattle.std.specs.Prelude.{◌==◌, not, is_some, if◌then◌else◌}
use Rattle.std.proofs.lemmas.Bool.Decides.{nat_tests}
use Rattle.std.proofs.lemmas.List.{length-append, length-map}
use Rattle.cx_base.specs.Names.{Name}
use Rattle.cx_base.specs.declared.nodes.NodeName.{NodeName}
use Rattle.cx_base.specs.declared.nodes.NodeName.TheVariants as node
use Rattle.cx_desk.specs.Handlers.{Handlers}
use Rattle.cx_journal.specs.declared.entries.Entry.{Entry}
use Rattle.cx_lines.specs.declared.lines.Line.{Line}
use Rattle.cx_lines.specs.declared.lines.Line.TheVariants as line
use Rattle.cx_lines.specs.declared.node_steps.NodeStep.TheVariants as step
use Rattle.cx_session.specs.Book.{with_number}
use Rattle.cx_session.specs.declared.call.BookCall.TheVariants.{End}
use Rattle.cx_session.specs.declared.call.BookReply.TheVariants.{Ended}
use Rattle.cx_world_start.specs.cx_rules.specs.Inputs.{Submit}
use Rattle.cx_world_start.specs.cx_rules_session.specs.Asks.{with_book}
use Rattle.cx_world_start.specs.cx_rules_session.specs.DaemonRule.{DaemonState, book_after, book_reply, on_dropped}
use Rattle.cx_world_start.specs.cx_run.specs.Deliveries.{Given, comes, followed, given, open_all, restarts}
use Rattle.cx_world_start.specs.cx_run.specs.Happenings.{Entered, EntityNode, OfClient, OfDaemon, Happening, Nodes, Stepped, entered_by, entity_of, entity_steps, journal_from, nodes_behind, steps, steps_of}
use Rattle.cx_world_start.specs.cx_run.specs.Schedules.{acts_on}
use Rattle.cx_world_start.specs.cx_run.specs.Wires.{same_node}
use Rattle.cx_world_start.specs.cx_run.specs.Worlds.{Post, World, carried, happening, opened_wires, post_of}
use Rattle.cx_steps.specs.declared.effects.Effects.{Effects}
use Rattle.cx_steps.specs.declared.events.Command.TheVariants as told
use Rattle.cx_steps.specs.declared.events.Peer.{Peer}
use Rattle.cx_world.specs.Carried.{Began, Carries}
use Rattle.cx_world.specs.Idle.{has_session, is_there, why_undropped}
use Rattle.cx_world.specs.declared.world.World.{World as Held}
use Rattle.cx_world.proofs.Giving.{journal_more}
use Rattle.cx_world.proofs.Making.{relined}
use Rattle.cx_world.proofs.actors.Keyed.{key_found, same_node_is}

-- so many entries
abbrev count : Bool → ℕ
count true = 1
count false = 0

-- no link opens, no save fails, and so many entries come
abbrev IsEntered : Stepped → ℕ → Type 0
IsEntered s n = (s.failed ≡ false) × (s.out.opens ≡ []) × (length s.out.entries ≡ n)

-- ---- the daemon

dropped : (d : DaemonState) (session : ℕ) (there : Bool)
    → (let o = (with_book book_reply book_after (book_after d.book (End session)) (on_dropped d.node session (Ended there))).0.out in (o.opens ≡ []) × (length o.entries ≡ count there))
dropped d session true = (refl, refl)
dropped d session false = (refl, refl)

-- what comes to a node that is told to drop a session, in its post
abbrev drop_at : World → ℕ → Post → Happening
drop_at w session post = happening w (Submit (told.Drop session)) post

entity_enters : (w : World) (session : ℕ) (post : Post) (name : Name) (entity : Option EntityNode)
    → IsEntered (entity_steps w.nodes (drop_at w session post) name entity) (count (has_session session (Some post) entity))
entity_enters w session post name None = (refl, refl, refl)
entity_enters w session post name (Some (OfClient c)) = (refl, refl, refl)
entity_enters w session post name (Some (OfDaemon d)) =
    let entered = dropped d session (is_some (with_number session d.book.live)) in
    (refl, entered.0, entered.1)

node_enters : (w : World) (session : ℕ) (post : Post) (daemon : Name) → post_of (node.Entity daemon) w.posts ≡ Some post
    → IsEntered (steps w.nodes (drop_at w session post)) (count (has_session session (Some post) (entity_of daemon w.nodes)))
node_enters w session post daemon found =
    let h : Happening = drop_at w session post in
    let named : post.node ≡ node.Entity daemon = same_node_is post.node (node.Entity daemon) (key_found (λ (s : Post). s.node) same_node w.posts (node.Entity daemon) post found) in
    let P : NodeName → Type 0 = λ who. IsEntered (steps_of w.nodes h who) (count (has_session session (Some post) (entity_of daemon w.nodes))) in
    subst P (sym named) (entity_enters w session post daemon (entity_of daemon w.nodes))

-- ---- the world

-- where no link opens and no save fails nothing else happens
quiet_past : (who : NodeName) (g : Given) → g.failed ≡ false → g.out.opens ≡ [] → (followed who g).past ≡ g.world.past
quiet_past who g failed opens =
    ap (λ (t : Bool). (if t then restarts (record g.world { left = None }) who else open_all (carried g.world who g.out) (opened_wires who (length g.world.wires) g.out.opens)).past) failed
    ∙ ap (λ (peers : List Peer). (open_all (carried g.world who g.out) (opened_wires who (length g.world.wires) peers)).past) opens

length_more : (start : Nodes) (past : List Happening) (h : Happening) (now : Nodes) (n : ℕ) → now ≡ nodes_behind start past → length (steps now h).out.entries ≡ n
    → length (journal_from start (past ++ h ∷ [])) ≡ length (journal_from start past) + n
length_more start past h now n led many =
    let out : Effects = (steps (nodes_behind start past) h).out in
    let same : length out.entries ≡ n = ap (λ (nodes : Nodes). length (steps nodes h).out.entries) (sym led) ∙ many in
    ap (λ (es : List Entered). length es) (journal_more start past h)
    ∙ length-append (journal_from start past) (entered_by h out)
    ∙ ap (λ (k : ℕ). length (journal_from start past) + k) (length-map out.entries _ ∙ same)

enters : (start : Nodes) (w : World) (daemon : Name) (session : ℕ) (post : Option Post) → w.nodes ≡ nodes_behind start w.past → post_of (node.Entity daemon) w.posts ≡ post
    → length (journal_from start (followed (node.Entity daemon) (given w (Submit (told.Drop session)) post)).past)
    ≡ length (journal_from start w.past) + count (has_session session post (entity_of daemon w.nodes))
enters start w daemon session None led found = omega arith
enters start w daemon session (Some post) led found =
    let h : Happening = drop_at w session post in
    let is : IsEntered (steps w.nodes h) (count (has_session session (Some post) (entity_of daemon w.nodes))) = node_enters w session post daemon found in
    let there : (followed (node.Entity daemon) (given w (Submit (told.Drop session)) (Some post))).past ≡ w.past ++ h ∷ [] =
    quiet_past (node.Entity daemon) (given w (Submit (told.Drop session)) (Some post)) is.0 is.1 in
    ap (λ (past : List Happening). length (journal_from start past)) there
    ∙ length_more start w.past h w.nodes (count (has_session session (Some post) (entity_of daemon w.nodes))) led is.2

comes_enters : (start : Nodes) (w : World) (daemon : Name) (session : ℕ) → w.nodes ≡ nodes_behind start w.past
    → length (journal_from start (comes w (node.Entity daemon) (Submit (told.Drop session))).past)
    ≡ length (journal_from start w.past) + count (has_session session (post_of (node.Entity daemon) w.posts) (entity_of daemon w.nodes))
comes_enters start w daemon session led = enters start w daemon session (post_of (node.Entity daemon) w.posts) led refl

-- ---- how many entries there are

journal_length : {handlers : Handlers} (b : Began handlers) (held : Held) (w : World) → Carries b None held w
    → length held.told.journal ≡ length b.journal + length (journal_from b.nodes w.past)
journal_length b held w k =
    ap (λ (es : List Entry). length es) k.told.journal
    ∙ length-append b.journal (map (λ (e : Entered). e.entry) (journal_from b.nodes w.past))
    ∙ ap (λ (n : ℕ). length b.journal + n) (length-map (journal_from b.nodes w.past) _)

count_tells : (x y : ℕ) (there : Bool) → x ≡ y + count there → not (x == y) ≡ there
count_tells x y true e = rw e (grind (arith, nat_tests))
count_tells x y false e = rw e (grind (arith, nat_tests))

drop_tells : {handlers : Handlers} (b : Began handlers) (old new : Held) (w : World) (daemon : Name) (session : ℕ) → Carries b None old w
    → Carries b None new (comes w (node.Entity daemon) (Submit (told.Drop session)))
    → not (length new.told.journal == length old.told.journal) ≡ has_session session (post_of (node.Entity daemon) w.posts) (entity_of daemon w.nodes)
drop_tells b old new w daemon session k l =
    let there : Bool = has_session session (post_of (node.Entity daemon) w.posts) (entity_of daemon w.nodes) in
    let before : length old.told.journal ≡ length b.journal + length (journal_from b.nodes w.past) = journal_length b old w k in
    let behind : length new.told.journal ≡ length b.journal + length (journal_from b.nodes (comes w (node.Entity daemon) (Submit (told.Drop session))).past) =
    journal_length b new (comes w (node.Entity daemon) (Submit (told.Drop session))) l in
    let more : length (journal_from b.nodes (comes w (node.Entity daemon) (Submit (told.Drop session))).past) ≡ length (journal_from b.nodes w.past) + count there =
    comes_enters b.nodes w daemon session k.led in
    count_tells (length new.told.journal) (length old.told.journal) there (omega (arith, before, behind, more))

-- whether entries came tells why a line dropped nothing
pub undropped_is : {handlers : Handlers} (b : Began handlers) (old new : Held) (w : World) (number : ℕ) (l : Line) → Carries b None old w
    → Carries b None new (acts_on (record w { line = number }) l)
    → why_undropped l (not (length new.told.journal == length old.told.journal)) ≡ why_undropped l (is_there w l)
undropped_is b old new w number (line.Setting setting) k l = refl
undropped_is b old new w number (line.Submit command) k l = refl
undropped_is b old new w number (line.Do command) k l = refl
undropped_is b old new w number (line.Link step) k l = refl
undropped_is b old new w number (line.Node (step.Clock reading)) k l = refl
undropped_is b old new w number (line.Node (step.ClockOf who reading)) k l = refl
undropped_is b old new w number (line.Node (step.Tick who)) k l = refl
undropped_is b old new w number (line.Node (step.Restart who)) k l = refl
undropped_is b old new w number (line.Node (step.FailSave left)) k l = refl
undropped_is b old new w number (line.Node step.Settle) k l = refl
undropped_is b old new w number (line.Node (step.DropSession daemon session)) k l =
    ap (λ (there : Bool). why_undropped (line.Node (step.DropSession daemon session)) there)
    (drop_tells b (record old { line = number }) new (record w { line = number }) daemon session (relined b None old w number k) l)
