-- What arrives from a side of a link.
use Rattle.std.proofs.Common.{◌≡◌, ℕ, true, false, List, [], ◌∷◌, Option, Some, None, refl, sym, ap, ◌∙◌, subst}
use Rattle.std.specs.Option.{option_map}
use Rattle.cx_desk.specs.Handlers.{Handlers}
use Rattle.cx_words.specs.declared.choices.Side.{Side}
use Rattle.cx_words.specs.declared.choices.Side.TheVariants.{Connector, Acceptor}
use Rattle.cx_world_start.specs.cx_run.specs.Deliveries.{arrives_from, delivers, delivers_on, delivers_piece, first_of, gone_arrives, stay, under_way}
use Rattle.cx_world_start.specs.cx_run.specs.Schedules.{arrives_again, cuts, ever_sent, injects}
use Rattle.cx_world_start.specs.cx_run.specs.Wires.{Wire, ended, gone_at, other, owes_gone, pieces_from, wire_of, with_pieces, with_wire}
use Rattle.cx_world_start.specs.cx_run.specs.Worlds.{World as RunWorld}
use Rattle.cx_world_start.specs.links.Ends.{arriving}
use Rattle.cx_world_start.specs.links.Tables.{changed_in, taken_from, taken_on, with_changed}
use Rattle.cx_world.specs.Arriving.{arrives_there, delivers_gone, owed_on, tells_there}
use Rattle.cx_world.specs.Carried.{Began, Carries}
use Rattle.cx_world.specs.Ends.{arrives_end, end_seen}
use Rattle.cx_world.specs.declared.ends.LinkEnd.{LinkEnd}
use Rattle.cx_world.specs.declared.world.World.{World as Held}
use Rattle.cx_world.proofs.Making.{if_not, if_so}

-- other links are there
pub rewired : {handlers : Handlers} (b : Began handlers) (seen : Option ℕ) (held : Held) (w : RunWorld) (new wires : List Wire) → Carries b seen held w → new ≡ wires
    → Carries b seen (record held { wires = new }) (record w { wires = wires })
rewired b seen held w new wires k e =
    record { nodes = k.nodes; led = k.led; wires = e; left = k.left; line = k.line; told = k.told; stirred = k.stirred }

-- the end of a link on a side, if there is such a link
abbrev pub seen_at : Side → Option Wire → Option LinkEnd
seen_at side wire = option_map (λ (x : Wire). end_seen x side) wire

-- ---- a side that is gone

gone_told : (w : RunWorld) (side : Side) (o : Option Wire) → owed_on side o ≡ true
    → tells_there (record w { wires = changed_in (λ x. gone_at x (other side)) w.wires o }) (seen_at (other side) o) ≡ delivers_gone w side o
gone_told w side None e = cc
gone_told w side (Some wire) e = sym (if_so (owes_gone wire side) (gone_arrives w wire side) w e)

not_owed : (w : RunWorld) (side : Side) (o : Option Wire) → owed_on side o ≡ false → w ≡ delivers_gone w side o
not_owed w side None e = refl
not_owed w side (Some wire) e = sym (if_not (owes_gone wire side) (gone_arrives w wire side) w e)

pub nothing_owed : {handlers : Handlers} (b : Began handlers) (seen : Option ℕ) (held : Held) (w : RunWorld) (number : ℕ) (side : Side) → Carries b seen held w
    → owed_on side (wire_of number held.wires) ≡ false → Carries b seen held (delivers_gone w side (wire_of number w.wires))
nothing_owed b seen held w number side k e =
    let o : owed_on side (wire_of number w.wires) ≡ false = ap (λ (ws : List Wire). owed_on side (wire_of number ws)) (sym k.wires) ∙ e in
    subst (λ (x : RunWorld). Carries b seen held x) (not_owed w side (wire_of number w.wires) o) k

pub gone_comes : {handlers : Handlers} (b : Began handlers) (seen : Option ℕ) (held after : Held) (w : RunWorld) (number : ℕ) (side : Side) (new : List Wire) (far : Option LinkEnd)
    → Carries b seen held w → owed_on side (wire_of number held.wires) ≡ true
    → far ≡ seen_at (other side) (wire_of number held.wires) → new ≡ with_changed (λ x. gone_at x (other side)) number held.wires
    → ((x : RunWorld) → Carries b seen (record held { wires = new }) x → Carries b seen after (tells_there x far))
    → Carries b seen after (delivers_gone w side (wire_of number w.wires))
gone_comes b seen held after w number side new far k e f n told =
    let o : Option Wire = wire_of number w.wires in
    let owed : owed_on side o ≡ true = ap (λ (ws : List Wire). owed_on side (wire_of number ws)) (sym k.wires) ∙ e in
    let there : far ≡ seen_at (other side) o = f ∙ ap (λ (ws : List Wire). seen_at (other side) (wire_of number ws)) k.wires in
    let wires : List Wire = changed_in (λ x. gone_at x (other side)) w.wires o in
    let made : new ≡ wires = n ∙ ap (λ (ws : List Wire). with_changed (λ x. gone_at x (other side)) number ws) k.wires in
    let now : RunWorld = record w { wires = wires } in
    let is : tells_there now far ≡ delivers_gone w side o = ap (λ (x : Option LinkEnd). tells_there now x) there ∙ gone_told w side o owed in
    subst (λ (x : RunWorld). Carries b seen after x) is (told now (rewired b seen held w new wires k made))

-- ---- a piece

piece_comes : (w : RunWorld) (wire : Wire) (side : Side) (n : Option ℕ) (bytes : List ℕ) (pieces : List (List ℕ)) → Some bytes ≡ arriving n pieces
    → arrives_end (record w { wires = taken_from w.wires wire side n pieces }) (end_seen wire (other side)) bytes ≡ delivers_piece w wire side n pieces
piece_comes w wire side n bytes [] e = cc
piece_comes w wire side n bytes (piece ∷ pieces) e =
    let now : RunWorld = record w { wires = with_wire w.wires (with_pieces wire side (stay n piece pieces)) } in
    let is : bytes ≡ first_of n piece = cc in
    ap (λ (x : List ℕ). arrives_from now wire side x) is

piece_on : (w : RunWorld) (side : Side) (n : Option ℕ) (bytes : List ℕ) (o : Option Wire) → Some bytes ≡ arriving n (under_way side o)
    → arrives_there (record w { wires = taken_on side n w.wires o }) (seen_at (other side) o) bytes ≡ delivers_on w side n o
piece_on w side n bytes None e = cc
piece_on w side n bytes (Some wire) e = piece_comes w wire side n bytes (pieces_from wire side) e

pub arrived : {handlers : Handlers} (b : Began handlers) (seen : Option ℕ) (held after : Held) (w : RunWorld) (number : ℕ) (side : Side) (n : Option ℕ) (new : List Wire) (far : Option LinkEnd) (bytes : List ℕ)
    → Carries b seen held w → Some bytes ≡ arriving n (under_way side (wire_of number held.wires))
    → far ≡ seen_at (other side) (wire_of number held.wires) → new ≡ taken_on side n held.wires (wire_of number held.wires)
    → ((x : RunWorld) → Carries b seen (record held { wires = new }) x → Carries b seen after (arrives_there x far bytes))
    → Carries b seen after (delivers w number side n)
arrived b seen held after w number side n new far bytes k e f t come =
    let o : Option Wire = wire_of number w.wires in
    let some : Some bytes ≡ arriving n (under_way side o) = e ∙ ap (λ (ws : List Wire). arriving n (under_way side (wire_of number ws))) k.wires in
    let there : far ≡ seen_at (other side) o = f ∙ ap (λ (ws : List Wire). seen_at (other side) (wire_of number ws)) k.wires in
    let wires : List Wire = taken_on side n w.wires o in
    let made : new ≡ wires = t ∙ ap (λ (ws : List Wire). taken_on side n ws (wire_of number ws)) k.wires in
    let now : RunWorld = record w { wires = wires } in
    let is : arrives_there now far bytes ≡ delivers_on w side n o = ap (λ (x : Option LinkEnd). arrives_there now x bytes) there ∙ piece_on w side n bytes o some in
    subst (λ (x : RunWorld). Carries b seen after x) is (come now (rewired b seen held w new wires k made))

-- ---- no piece

none_from : (w : RunWorld) (wire : Wire) (side : Side) (n : Option ℕ) (pieces : List (List ℕ)) → None ≡ arriving n pieces
    → (taken_from w.wires wire side n pieces ≡ w.wires) × (delivers_gone w side (Some wire) ≡ delivers_piece w wire side n pieces)
none_from w wire side n [] e = (refl, refl)
none_from w wire side n (piece ∷ pieces) e = cc

none_on : (w : RunWorld) (side : Side) (n : Option ℕ) (o : Option Wire) → None ≡ arriving n (under_way side o)
    → (taken_on side n w.wires o ≡ w.wires) × (delivers_gone w side o ≡ delivers_on w side n o)
none_on w side n None e = (refl, refl)
none_on w side n (Some wire) e = none_from w wire side n (pieces_from wire side) e

pub none_arrived : {handlers : Handlers} (b : Began handlers) (seen : Option ℕ) (held after : Held) (w : RunWorld) (number : ℕ) (side : Side) (n : Option ℕ) (new : List Wire)
    → Carries b seen held w → None ≡ arriving n (under_way side (wire_of number held.wires)) → new ≡ taken_on side n held.wires (wire_of number held.wires)
    → ((x : RunWorld) → Carries b seen (record held { wires = new }) x → Carries b seen after (delivers_gone x side (wire_of number x.wires)))
    → Carries b seen after (delivers w number side n)
none_arrived b seen held after w number side n new k e t told =
    let o : Option Wire = wire_of number w.wires in
    let none : None ≡ arriving n (under_way side o) = e ∙ ap (λ (ws : List Wire). arriving n (under_way side (wire_of number ws))) k.wires in
    let both : (taken_on side n w.wires o ≡ w.wires) × (delivers_gone w side o ≡ delivers_on w side n o) = none_on w side n o none in
    let made : new ≡ w.wires = t ∙ ap (λ (ws : List Wire). taken_on side n ws (wire_of number ws)) k.wires ∙ both.0 in
    subst (λ (x : RunWorld). Carries b seen after x) both.1 (told w (rewired b seen held w new w.wires k made))

-- ---- what lines do to a link

inject_on : (w : RunWorld) (side : Side) (bytes : List ℕ) (o : Option Wire) → arrives_there w (seen_at (other side) o) bytes ≡ injects w side bytes o
inject_on w side bytes None = refl
inject_on w side bytes (Some wire) = refl

pub injected : {handlers : Handlers} (b : Began handlers) (seen : Option ℕ) (held after : Held) (w : RunWorld) (number : ℕ) (side : Side) (far : Option LinkEnd) (bytes : List ℕ)
    → Carries b seen held w → far ≡ seen_at (other side) (wire_of number held.wires)
    → ((x : RunWorld) → Carries b seen held x → Carries b seen after (arrives_there x far bytes))
    → Carries b seen after (injects w side bytes (wire_of number w.wires))
injected b seen held after w number side far bytes k f come =
    let o : Option Wire = wire_of number w.wires in
    let there : far ≡ seen_at (other side) o = f ∙ ap (λ (ws : List Wire). seen_at (other side) (wire_of number ws)) k.wires in
    let is : arrives_there w far bytes ≡ injects w side bytes o = ap (λ (x : Option LinkEnd). arrives_there w x bytes) there ∙ inject_on w side bytes o in
    subst (λ (x : RunWorld). Carries b seen after x) is (come w k)

cut_on : (w : RunWorld) (o : Option Wire)
    → tells_there (tells_there (record w { wires = changed_in ended w.wires o }) (seen_at Connector o)) (seen_at Acceptor o) ≡ cuts w o
cut_on w None = refl
cut_on w (Some wire) = refl

pub was_cut : {handlers : Handlers} (b : Began handlers) (seen : Option ℕ) (held after : Held) (w : RunWorld) (number : ℕ) (new : List Wire) (connector acceptor : Option LinkEnd)
    → Carries b seen held w → connector ≡ seen_at Connector (wire_of number held.wires) → acceptor ≡ seen_at Acceptor (wire_of number held.wires)
    → new ≡ with_changed ended number held.wires
    → ((x : RunWorld) → Carries b seen (record held { wires = new }) x → Carries b seen after (tells_there (tells_there x connector) acceptor))
    → Carries b seen after (cuts w (wire_of number w.wires))
was_cut b seen held after w number new connector acceptor k f g n told =
    let o : Option Wire = wire_of number w.wires in
    let one : connector ≡ seen_at Connector o = f ∙ ap (λ (ws : List Wire). seen_at Connector (wire_of number ws)) k.wires in
    let two : acceptor ≡ seen_at Acceptor o = g ∙ ap (λ (ws : List Wire). seen_at Acceptor (wire_of number ws)) k.wires in
    let wires : List Wire = changed_in ended w.wires o in
    let made : new ≡ wires = n ∙ ap (λ (ws : List Wire). with_changed ended number ws) k.wires in
    let now : RunWorld = record w { wires = wires } in
    let is : tells_there (tells_there now connector) acceptor ≡ cuts w o =
    ap (λ (x : Option LinkEnd). tells_there (tells_there now x) acceptor) one ∙ ap (λ (x : Option LinkEnd). tells_there (tells_there now (seen_at Connector o)) x) two ∙ cut_on w o in
    subst (λ (x : RunWorld). Carries b seen after x) is (told now (rewired b seen held w new wires k made))

pub came_again : {handlers : Handlers} (b : Began handlers) (seen : Option ℕ) (held after : Held) (w : RunWorld) (number : ℕ) (side : Side) (place to : ℕ) (bytes : List ℕ)
    → Carries b seen held w → Some bytes ≡ ever_sent place side (wire_of number held.wires)
    → Carries b seen after (injects w side bytes (wire_of to w.wires))
    → Carries b seen after (arrives_again w side (ever_sent place side (wire_of number w.wires)) (wire_of to w.wires))
came_again b seen held after w number side place to bytes k e h =
    let piece : Some bytes ≡ ever_sent place side (wire_of number w.wires) = e ∙ ap (λ (ws : List Wire). ever_sent place side (wire_of number ws)) k.wires in
    subst (λ (o : Option (List ℕ)). Carries b seen after (arrives_again w side o (wire_of to w.wires))) piece h
