-- What is done to links and to their ends, on a world that is carried.
use Rattle.std.proofs.Common.{◌≡◌, ℕ, suc, Bool, true, false, List, [], ◌∷◌, ◌++◌, length, Option, Some, None, refl, sym, subst, ap, ◌∙◌}
use Rattle.std.specs.Prelude.{if◌then◌else◌}
use Rattle.std.proofs.lemmas.Option.{none-some, same_Some}
use Rattle.cx_base.specs.declared.nodes.NodeName.{NodeName}
use Rattle.cx_desk.specs.Handlers.{Handlers}
use Rattle.cx_world_start.specs.cx_rules.specs.Inputs.{Opened}
use Rattle.cx_world_start.specs.cx_run.specs.Deliveries.{far_side, tells}
use Rattle.cx_world_start.specs.cx_run.specs.Wires.{Wire, ended, has_end, new_wire, wire_of, with_wire}
use Rattle.cx_world_start.specs.cx_run.specs.Worlds.{World, node_of}
use Rattle.cx_steps.specs.declared.events.Peer.{Peer}
use Rattle.cx_world_start.specs.links.Tables.{changed_in, with_changed}
use Rattle.cx_world.proofs.Changing.{wired}
use Rattle.cx_world.specs.Carried.{Began, Carries, Makes}
use Rattle.cx_world.specs.Ends.{end_seen, tells_end}
use Rattle.cx_world.specs.Events.{far_seen, opens_to, vanished_at}
use Rattle.cx_world.specs.declared.ends.LinkEnd.{LinkEnd}
use Rattle.cx_world.specs.declared.world.World.{World as Held}

abbrev with_links : Held → List Wire → Held
with_links held wires = record held { wires = wires }

abbrev linked : World → List Wire → World
linked w wires = record w { wires = wires }

module _ {handlers : Handlers} (b : Began handlers) (seen : Option ℕ) (old : Held) (w : World) (k : Carries b seen old w) where
  -- ---- a link opens

  pub opened_to : (mid last : Held) (who : NodeName) (to : Peer) (connecting accepting there : NodeName) (peer : Peer) (n : ℕ) (ws : List Wire)
      → connecting ≡ who → accepting ≡ node_of to → there ≡ accepting → peer ≡ to → n ≡ suc (length old.wires)
      → ws ≡ old.wires ++ new_wire (suc (length old.wires)) connecting accepting ∷ []
      → Makes handlers (with_links old ws) mid (λ v. tells v who (Opened n (Some peer))) → Makes handlers mid last (λ v. tells v there (Opened n None)) → Carries b seen last (opens_to who w to)
  opened_to mid last who to connecting accepting there peer n ws ce ae te pe ne we first second =
      let wire : Wire = new_wire (suc (length w.wires)) who (node_of to) in
      let e : ws ≡ w.wires ++ wire ∷ [] = we
      ∙ ap (λ (c : NodeName). old.wires ++ new_wire (suc (length old.wires)) c accepting ∷ []) ce
      ∙ ap (λ (a : NodeName). old.wires ++ new_wire (suc (length old.wires)) who a ∷ []) ae
      ∙ ap (λ (xs : List Wire). xs ++ new_wire (suc (length xs)) who (node_of to) ∷ []) k.wires in
      let here : World = linked w (w.wires ++ wire ∷ []) in
      let done = second b seen (tells here who (Opened n (Some peer))) (first b seen here (wired b seen old w k ws (w.wires ++ wire ∷ []) e)) in
      let P : ℕ → Type 0 = λ m. Carries b seen last (tells (tells here who (Opened m (Some peer))) there (Opened m None)) in
      let Q : Peer → Type 0 = λ p. Carries b seen last (tells (tells here who (Opened (suc (length w.wires)) (Some p))) there (Opened (suc (length w.wires)) None)) in
      let R : NodeName → Type 0 = λ t. Carries b seen last (tells (tells here who (Opened (suc (length w.wires)) (Some to))) t (Opened (suc (length w.wires)) None)) in
      subst R (te ∙ ae) (subst Q pe (subst P (ne ∙ ap (λ (xs : List Wire). suc (length xs)) k.wires) done))

  -- ---- ends that are gone

  pub vanished_carried : (new : Held) (who : NodeName) (number : ℕ) (far : LinkEnd) (ws : List Wire) → Some far ≡ far_seen who (wire_of number old.wires)
      → ws ≡ with_changed ended number old.wires → Makes handlers (with_links old ws) new (λ v. tells_end v far) → Carries b seen new (vanished_at who (wire_of number w.wires) w)
  vanished_carried new who number far ws fe we makes =
      by (wire_of number w.wires) refl (fe ∙ ap (λ (xs : List Wire). far_seen who (wire_of number xs)) k.wires) (we ∙ ap (λ (xs : List Wire). with_changed ended number xs) k.wires)
    where
      there : (wire : Wire) (test : Bool) → (let e : Option LinkEnd = (if test then Some (end_seen wire (far_side who wire)) else None) in Some far ≡ e) → ws ≡ with_wire w.wires (ended wire)
          → Carries b seen new (if test then tells_end (linked w (with_wire w.wires (ended wire))) (end_seen wire (far_side who wire)) else w)
      there wire false fe we = absurd (none-some far (sym fe))
      there wire true fe we =
          let f : far ≡ end_seen wire (far_side who wire) = same_Some far (end_seen wire (far_side who wire)) fe in
          let P : LinkEnd → Type 0 = λ x. Carries b seen new (tells_end (linked w (with_wire w.wires (ended wire))) x) in
          subst P f (makes b seen (linked w (with_wire w.wires (ended wire))) (wired b seen old w k ws (with_wire w.wires (ended wire)) we))

      by : (found : Option Wire) → wire_of number w.wires ≡ found → Some far ≡ far_seen who found → ws ≡ with_changed ended number w.wires → Carries b seen new (vanished_at who found w)
      by None e fe we = absurd (none-some far (sym fe))
      by (Some wire) e fe we = there wire (has_end who wire) fe (we ∙ ap (λ (o : Option Wire). changed_in ended w.wires o) e)

  pub stays_carried : (who : NodeName) (found : Option Wire) → None ≡ far_seen who found → Carries b seen old (vanished_at who found w)
  stays_carried who None e = k
  stays_carried who (Some wire) e = by (has_end who wire) e
    where
      by : (test : Bool) → (let f : Option LinkEnd = (if test then Some (end_seen wire (far_side who wire)) else None) in None ≡ f)
          → Carries b seen old (if test then tells_end (linked w (with_wire w.wires (ended wire))) (end_seen wire (far_side who wire)) else w)
      by true e = absurd (none-some (end_seen wire (far_side who wire)) e)
      by false e = k
      -- ---- what arrives
