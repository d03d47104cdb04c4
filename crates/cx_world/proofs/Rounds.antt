-- Links that are drained, and rounds of that.
use Rattle.std.proofs.Common.{◌≡◌, ℕ, ◌+◌, ◌<◌, ◌≤◌, ◌==◌, Bool, true, false, suc, zero, List, [], ◌∷◌, length, Option, Some, None, refl, sym, ap, ◌∙◌, subst, arith, add-one, zero-add}
use Rattle.std.specs.Prelude.{◌-◌, not, replicate, IfSome}
use Rattle.std.proofs.lemmas.Bool.Decides.{nat_tests}
use Rattle.cx_desk.specs.Handlers.{Handlers}
use Rattle.cx_words.specs.declared.choices.Side.{Side}
use Rattle.cx_words.specs.declared.choices.Side.TheVariants.{Connector, Acceptor}
use Rattle.cx_world_start.specs.cx_run.specs.Deliveries.{delivers, delivers_on, delivers_piece, drains, drains_side, gone_arrives, round, rounds, settles, under_way}
use Rattle.cx_world_start.specs.cx_run.specs.Wires.{Wire, owes_gone, wire_of}
use Rattle.cx_world_start.specs.cx_run.specs.Worlds.{World as RunWorld}
use Rattle.cx_world_start.specs.links.Calm.{AreCalm, IsCalm, IsCalmAt}
use Rattle.cx_world_start.specs.links.Tables.{AreNumbered}
use Rattle.cx_world.specs.Carried.{Began, Carries, Makes}
use Rattle.cx_world.specs.Settling.{delivers_many, drains_both, drains_links}
use Rattle.cx_world.specs.declared.world.World.{World as Held}
use Rattle.cx_world.proofs.Making.{if_not, if_so}

-- ---- a side of a link

first_one : (count number : ℕ) (side : Side) (w : RunWorld)
    → delivers_many count number side (delivers w number side None) ≡ delivers (delivers_many count number side w) number side None
first_one zero number side w = refl
first_one (suc count) number side w = ap (λ (x : RunWorld). delivers x number side None) (first_one count number side w)

drained_by : (number : ℕ) (side : Side) (w : RunWorld) (pieces : List (List ℕ))
    → delivers (delivers_many (length pieces) number side w) number side None ≡ drains w number side pieces
drained_by number side w [] = refl
drained_by number side w (piece ∷ pieces) =
    ap (λ (x : RunWorld). delivers x number side None) (sym (first_one (length pieces) number side w))
    ∙ drained_by number side (delivers w number side None) pieces

pub drained : {handlers : Handlers} (b : Began handlers) (seen : Option ℕ) (held after : Held) (w : RunWorld) (number count : ℕ) (side : Side) → Carries b seen held w
    → count ≡ length (under_way side (wire_of number held.wires))
    → Carries b seen after (delivers (delivers_many count number side w) number side None)
    → Carries b seen after (drains_side w number side)
drained b seen held after w number count side k n h =
    let pieces : List (List ℕ) = under_way side (wire_of number w.wires) in
    let many : count ≡ length pieces = n ∙ ap (λ (ws : List Wire). length (under_way side (wire_of number ws))) k.wires in
    let is : delivers (delivers_many count number side w) number side None ≡ drains_side w number side =
    ap (λ (x : ℕ). delivers (delivers_many x number side w) number side None) many ∙ drained_by number side w pieces in
    subst (λ (x : RunWorld). Carries b seen after x) is h

pub delivered_one_more : {handlers : Handlers} (old held after : Held) (number count : ℕ) (side : Side) → Makes handlers old held (delivers_many count number side)
    → Makes handlers held after (λ w. delivers w number side None) → Makes handlers old after (delivers_many (count + 1) number side)
delivered_one_more {handlers} old held after number count side first next =
    rw add-one (λ (b : Began handlers) (seen : Option ℕ) (w : RunWorld) (k : Carries b seen old w). next b seen (delivers_many count number side w) (first b seen w k))

-- ---- all links

links_from : (count : ℕ) (w : RunWorld) (wires : List Wire) → AreNumbered (suc count) wires
    → drains_links (count + length wires) w ≡ round (drains_links count w) wires
links_from count w [] k = let none : count + 0 ≡ count = omega arith in ap (λ (n : ℕ). drains_links n w) none
links_from count w (wire ∷ wires) k =
    let next : RunWorld = drains_links count w in
    let number : suc count ≡ wire.number = sym k.0 in
    let more : count + length (wire ∷ wires) ≡ suc count + length wires = omega arith in
    ap (λ (n : ℕ). drains_links n w) more ∙ links_from (suc count) w wires k.1 ∙ ap (λ (n : ℕ). round (drains_both n next) wires) number

pub went_round : {handlers : Handlers} (b : Began handlers) (seen : Option ℕ) (held after : Held) (w : RunWorld) (count : ℕ) → Carries b seen held w → AreNumbered 1 held.wires
    → count ≡ length held.wires → Carries b seen after (drains_links count w) → Carries b seen after (round w w.wires)
went_round b seen held after w count k n c h =
    let numbered : AreNumbered 1 w.wires = subst (λ (ws : List Wire). AreNumbered 1 ws) k.wires n in
    let many : count ≡ 0 + length w.wires = c ∙ ap (λ (ws : List Wire). length ws) k.wires ∙ sym (zero-add (length w.wires)) in
    let is : drains_links count w ≡ round w w.wires = ap (λ (x : ℕ). drains_links x w) many ∙ links_from 0 w w.wires numbered in
    subst (λ (x : RunWorld). Carries b seen after x) is h

-- ---- links on which nothing is to come

-- a table with the same links carries the same worlds
pub same_wires : {handlers : Handlers} (b : Began handlers) (seen : Option ℕ) (held : Held) (w : RunWorld) (new : List Wire) → new ≡ held.wires → Carries b seen held w
    → (let h : Held = record held { wires = new } in Carries b seen h w)
same_wires b seen held w new e k =
    record { nodes = k.nodes; led = k.led; wires = e ∙ k.wires; left = k.left; line = k.line; told = k.told; stirred = k.stirred }

none_sent : (side : Side) (found : Option Wire) → IfSome found IsCalm → under_way side found ≡ []
none_sent side None k = refl
none_sent side (Some wire) k = k.sent side

none_comes : (w : RunWorld) (side : Side) (found : Option Wire) → IfSome found IsCalm → delivers_on w side None found ≡ w
none_comes w side None k = refl
none_comes w side (Some wire) k =
    ap (λ (pieces : List (List ℕ)). delivers_piece w wire side None pieces) (k.sent side)
    ∙ if_not (owes_gone wire side) (gone_arrives w wire side) w (k.told side)

calm_side : (w : RunWorld) (number : ℕ) (side : Side) → IsCalmAt number w.wires → drains_side w number side ≡ w
calm_side w number side k =
    ap (λ (pieces : List (List ℕ)). drains w number side pieces) (none_sent side (wire_of number w.wires) k)
    ∙ none_comes w side (wire_of number w.wires) k

-- a calm link is drained without a change
calm_both : (w : RunWorld) (number : ℕ) → IsCalmAt number w.wires → drains_both number w ≡ w
calm_both w number k = ap (λ (x : RunWorld). drains_side x number Acceptor) (calm_side w number Connector k) ∙ calm_side w number Acceptor k

passed_over : (more count : ℕ) (w : RunWorld) → AreCalm count (suc (count + more)) (drains_links count w).wires → drains_links (count + more) w ≡ drains_links count w
passed_over zero count w k = let none : count + 0 ≡ count = omega arith in ap (λ (n : ℕ). drains_links n w) none
passed_over (suc more) count w k =
    let next : count + suc more ≡ suc (count + more) = omega arith in
    let here : RunWorld = drains_links count w in
    let before : drains_links (count + more) w ≡ here = passed_over more count w (λ n a c. k n a (omega arith)) in
    ap (λ (n : ℕ). drains_links n w) next ∙ ap (λ (x : RunWorld). drains_both (suc (count + more)) x) before
    ∙ calm_both here (suc (count + more)) (k (suc (count + more)) (omega arith) (omega arith))

all_passed : (after last : ℕ) (w : RunWorld) → after ≤ last → AreCalm after (suc last) (drains_links after w).wires → drains_links last w ≡ drains_links after w
all_passed after last w h k =
    let more : last ≡ after + (last - after) = omega arith in
    let calm : AreCalm after (suc (after + (last - after))) (drains_links after w).wires = subst (λ (n : ℕ). AreCalm after (suc n) (drains_links after w).wires) more k in
    ap (λ (n : ℕ). drains_links n w) more ∙ passed_over (last - after) after w calm

-- the next link that may not be calm was drained
pub drained_next : {handlers : Handlers} (old held behind : Held) (after number : ℕ) → after < number → AreCalm after number held.wires → Makes handlers old held (drains_links after)
    → Makes handlers held behind (drains_both number) → Makes handlers old behind (drains_links number)
drained_next old held behind after zero h k first next = absurd (omega arith)
drained_next old held behind after (suc before) h k first next = λ b seen w c.
    let here : RunWorld = drains_links after w in
    let d : Carries b seen held here = first b seen w c in
    let calm : AreCalm after (suc before) here.wires = subst (λ (ws : List Wire). AreCalm after (suc before) ws) d.wires k in
    let is : drains_links before w ≡ here = all_passed after before w (omega arith) calm in
    subst (λ (x : RunWorld). Carries b seen behind (drains_both (suc before) x)) (sym is) (next b seen here d)

-- no link is left that may not be calm
pub rested : {handlers : Handlers} (old held : Held) (after last : ℕ) → after ≤ last → AreCalm after (suc last) held.wires → Makes handlers old held (drains_links after) → Makes handlers old held (drains_links last)
rested old held after last h k first = λ b seen w c.
    let here : RunWorld = drains_links after w in
    let d : Carries b seen held here = first b seen w c in
    let calm : AreCalm after (suc last) here.wires = subst (λ (ws : List Wire). AreCalm after (suc last) ws) d.wires k in
    subst (λ (x : RunWorld). Carries b seen held x) (sym (all_passed after last w h calm)) d

-- ---- rounds

-- behind so many rounds, each of which delivered something, the further ones are those of the world that is carried now
pub record IsSettling {handlers : Handlers} (b : Began handlers) (count : ℕ) (w : RunWorld) (held : Held) : Type 0 where
  pub world : RunWorld
  pub carried : Carries b None held world
  pub same : (left : ℕ) → rounds w (replicate (count + left) 0) ≡ rounds world (replicate left 0)

pub unsettled : {handlers : Handlers} (b : Began handlers) (w : RunWorld) (held : Held) → Carries b None held w → IsSettling b 0 w held
unsettled b w held k = record { world = w; carried = k; same = λ left. ap (λ (n : ℕ). rounds w (replicate n 0)) (zero-add left) }

-- it is asked whether something happens from here on
pub asked : {handlers : Handlers} (b : Began handlers) (w : RunWorld) (held : Held) → Carries b None held w → Carries b (Some (length w.past)) (record held { stirred = false }) w
asked b w held k =
    let n : ℕ = length w.past in
    let stirred : (n ≤ n) × (false ≡ not (n == n)) = (omega arith, grind (arith, nat_tests)) in
    record { nodes = k.nodes; led = k.led; wires = k.wires; left = k.left; line = k.line; told = k.told; stirred = stirred }

-- it is no longer asked
pub unasked : {handlers : Handlers} (b : Began handlers) (seen : Option ℕ) (w : RunWorld) (held : Held) → Carries b seen held w → Carries b None held w
unasked b seen w held k =
    record { nodes = k.nodes; led = k.led; wires = k.wires; left = k.left; line = k.line; told = k.told; stirred = tt }

not_true : (t : Bool) → not t ≡ true → t ≡ false
not_true true e = cc
not_true false e = refl

not_false : (t : Bool) → not t ≡ false → t ≡ true
not_false true e = refl
not_false false e = cc

-- a round delivered something
pub went_on : {handlers : Handlers} (b : Began handlers) (count : ℕ) (w : RunWorld) (held after : Held) (s : IsSettling b count w held)
    → Carries b (Some (length s.world.past)) after (round s.world s.world.wires) → after.stirred ≡ true → IsSettling b (count + 1) w after
went_on b count w held after s k e =
    let next : RunWorld = round s.world s.world.wires in
    let test : (length next.past == length s.world.past) ≡ false = not_true _ (sym k.stirred.1 ∙ e) in
    let step : (left : ℕ) → rounds w (replicate (count + 1 + left) 0) ≡ rounds next (replicate left 0) = λ left.
    let more : count + 1 + left ≡ count + suc left = omega arith in
    ap (λ (n : ℕ). rounds w (replicate n 0)) more ∙ s.same (suc left) ∙ if_not (length next.past == length s.world.past) next (rounds next (replicate left 0)) test in
    record { world = next; carried = unasked b (Some (length s.world.past)) next after k; same = step }

settled : {handlers : Handlers} (b : Began handlers) (held : Held) (w : RunWorld) (all : ℕ) → all ≡ 64 → Carries b None held (rounds w (replicate all 0)) → Carries b None held (settles w)
unfolding settles
settled b held w all e k = subst (λ (n : ℕ). Carries b None held (rounds w (replicate n 0))) e k

-- a round delivered nothing
pub came_to_rest : {handlers : Handlers} (b : Began handlers) (count all : ℕ) (w : RunWorld) (held after : Held) (s : IsSettling b count w held) → all ≡ 64 → count < all
    → Carries b (Some (length s.world.past)) after (round s.world s.world.wires) → after.stirred ≡ false
    → Carries b None after (settles w)
came_to_rest b count all w held after s a h k e =
    let next : RunWorld = round s.world s.world.wires in
    let test : (length next.past == length s.world.past) ≡ true = not_false _ (sym k.stirred.1 ∙ e) in
    let left : ℕ = all - (count + 1) in
    let more : all ≡ count + suc left = omega arith in
    let is : rounds w (replicate all 0) ≡ next =
    ap (λ (n : ℕ). rounds w (replicate n 0)) more ∙ s.same (suc left) ∙ if_so (length next.past == length s.world.past) next (rounds next (replicate left 0)) test in
    settled b after w all a (subst (λ (x : RunWorld). Carries b None after x) (sym is) (unasked b (Some (length s.world.past)) next after k))

-- all rounds were gone
pub all_gone : {handlers : Handlers} (b : Began handlers) (count all : ℕ) (w : RunWorld) (held : Held) (s : IsSettling b count w held) → all ≡ 64 → count ≡ all
    → Carries b None held (settles w)
all_gone b count all w held s a e =
    let more : all ≡ count + 0 = omega arith in
    let is : rounds w (replicate all 0) ≡ s.world = ap (λ (n : ℕ). rounds w (replicate n 0)) more ∙ s.same 0 in
    settled b held w all a (subst (λ (x : RunWorld). Carries b None held x) (sym is) s.carried)
