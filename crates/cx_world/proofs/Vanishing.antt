-- The links of a node vanish one after another: those that are still to come are as they were.
use Rattle.std.proofs.Common.{◌≡◌, ℕ, ◌+◌, ◌<◌, ◌≤◌, Bool, true, false, suc, zero, List, [], ◌∷◌, ◌++◌, length, get_or, map, take, Option, Some, None, refl, sym, subst, ap, ◌∙◌, arith, append-nil}
use Rattle.std.specs.Prelude.{◌==◌, filter, if◌then◌else◌}
use Rattle.std.proofs.lemmas.Bool.Decides.{nat_tests}
use Rattle.std.proofs.lemmas.List.{take_more}
use Rattle.std.proofs.lemmas.List.Elements.{filter-append}
use Rattle.std.proofs.lemmas.Option.{slice_get-get_or}
use Rattle.cx_base.specs.declared.nodes.NodeName.{NodeName}
use Rattle.cx_base.specs.declared.nodes.NodeName.TheVariants as node
use Rattle.cx_world.proofs.actors.Keyed.{replaced_elsewhere}
use Rattle.cx_words.specs.declared.choices.Side.{Side}
use Rattle.cx_world_start.specs.cx_rules.specs.Inputs.{Gone}
use Rattle.cx_world_start.specs.cx_run.specs.Deliveries.{far_side, tells, tells_gone, vanish}
use Rattle.cx_world_start.specs.cx_run.specs.Wires.{Wire, end_of, ended, has_end, new_wire, node_at, wire_of, with_wire}
use Rattle.cx_world_start.specs.cx_run.specs.Worlds.{World}
use Rattle.cx_world_start.proofs.links.Numbers.{found_here}
use Rattle.cx_world_start.specs.links.Tables.{AreNumbered}
use Rattle.cx_world.proofs.Quiet.{gone_moves_none}
use Rattle.cx_world.specs.Events.{vanished_at}

vanish_behind : (who : NodeName) (w : World) (ws : List Wire) (x : Wire)
    → vanish who w (ws ++ x ∷ []) ≡ (let v = vanish who w ws in tells_gone (record v { wires = with_wire v.wires (ended x) }) x (far_side who x))
vanish_behind who w [] x = refl
vanish_behind who w (y ∷ ws) x = vanish_behind who (tells_gone (record w { wires = with_wire w.wires (ended y) }) y (far_side who y)) ws x

gone_keeps : (v : World) (x : Wire) (side : Side) → (tells_gone v x side).wires ≡ v.wires
gone_keeps v x side = by (end_of x side).lives
  where
    by : (lives : Bool) → (let u : World = (if lives then tells v (node_at x side) (Gone x.number) else v) in u.wires) ≡ v.wires
    by true = gone_moves_none v (node_at x side) x.number
    by false = refl

-- none of these links has this number
abbrev Others : ℕ → List Wire → Type 0
Others m [] = Unit {0}
Others m (x ∷ ws) = ((x.number == m) ≡ false) × Others m ws

same_number : (a b : ℕ) → (a == b) ≡ true → a ≡ b
same_number a b e = grind (arith, nat_tests)

moved_elsewhere : (m : ℕ) (ws : List Wire) (x : Wire) → (x.number == m) ≡ false → wire_of m (with_wire ws x) ≡ wire_of m ws
moved_elsewhere m ws x e = replaced_elsewhere (λ (w : Wire). w.number) (λ a b. a == b) same_number ws x.number m x refl e

unmoved : (who : NodeName) (w : World) (ws : List Wire) (m : ℕ) → Others m ws → wire_of m (vanish who w ws).wires ≡ wire_of m w.wires
unmoved who w [] m k = refl
unmoved who w (x ∷ ws) m k =
    let v : World = record w { wires = with_wire w.wires (ended x) } in
    unmoved who (tells_gone v x (far_side who x)) ws m k.1
    ∙ ap (λ (xs : List Wire). wire_of m xs) (gone_keeps v x (far_side who x))
    ∙ moved_elsewhere m w.wires (ended x) k.0

fewer : (who : NodeName) (m : ℕ) (x : Wire) (ws : List Wire) (p : Bool) → (x.number == m) ≡ false → Others m ws → Others m (if p then x ∷ ws else ws)
fewer who m x ws true e k = (e, k)
fewer who m x ws false e k = k

others_before : (who : NodeName) (m first i : ℕ) (ws : List Wire) → AreNumbered first ws → first + i ≤ m → Others m (filter (has_end who) (take i ws))
others_before who m first zero ws k h = tt
others_before who m first (suc i) [] k h = tt
others_before who m first (suc i) (x ∷ ws) k h =
    let e : x.number ≡ first = k.0 in
    let apart : (x.number == m) ≡ false = grind (arith, nat_tests) in
    fewer who m x (filter (has_end who) (take i ws)) (has_end who x) apart (others_before who m (suc first) i ws k.1 (omega arith))

pub vanish_more : (w : World) (who : NodeName) (i : ℕ) → AreNumbered 1 w.wires → i < length w.wires
    → (let v = vanish who w (filter (has_end who) (take i w.wires)) in vanished_at who (wire_of (i + 1) v.wires) v)
    ≡ vanish who w (filter (has_end who) (take (i + 1) w.wires))
vanish_more w who i k h =
    let d : Wire = new_wire 0 node.Monitor node.Monitor in
    let x : Wire = get_or w.wires i d in
    let v : World = vanish who w (filter (has_end who) (take i w.wires)) in
    let found : wire_of (i + 1) v.wires ≡ Some x =
    unmoved who w (filter (has_end who) (take i w.wires)) (i + 1) (others_before who (i + 1) 1 i w.wires k (omega arith))
    ∙ found_here (i + 1) i w.wires k refl ∙ slice_get-get_or w.wires i d h in
    let split : filter (has_end who) (take (i + 1) w.wires) ≡ filter (has_end who) (take i w.wires) ++ filter (has_end who) (x ∷ []) =
    ap (λ (ws : List Wire). filter (has_end who) ws) (take_more w.wires i d h) ∙ filter-append (has_end who) (take i w.wires) (x ∷ []) in
    rw (found, split) (by x (has_end who x))
  where
    by : (x : Wire) (test : Bool) → (let v = vanish who w (filter (has_end who) (take i w.wires)) in
        (if test then tells_gone (record v { wires = with_wire v.wires (ended x) }) x (far_side who x) else v))
        ≡ vanish who w (filter (has_end who) (take i w.wires) ++ (if test then x ∷ [] else []))
    by x true = sym (vanish_behind who w (filter (has_end who) (take i w.wires)) x)
    by x false = ap (λ (ws : List Wire). vanish who w ws) (sym (append-nil (filter (has_end who) (take i w.wires))))
