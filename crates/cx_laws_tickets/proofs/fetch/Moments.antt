-- Where the monitor rotates the generations of a service and saves them, it has a moment of them.
use Rattle.std.proofs.Common.{◌≡◌, ◌<◌, ◌≤◌, ℕ, Bool, true, false, List, [], ◌∷◌, refl, sym, ap, ◌∙◌, subst, arith}
use Rattle.std.specs.Prelude.{IsTrue, nat_lt}
use Rattle.cx_base.specs.declared.kinds.EntityType.{EntityType}
use Rattle.cx_base.specs.declared.kinds.EntityType.TheVariants.{Mon, Mds, Osd, Client, Mgr, Auth}
use Rattle.cx_base.specs.declared.nodes.NodeName.TheVariants as node
use Rattle.cx_base.specs.Names.{is_daemon_type}
use Rattle.cx_dice.specs.Draws.{rotation_of}
use Rattle.cx_laws_tickets.specs.cx_keyserver.specs.Servers.{generations_of}
use Rattle.cx_rotate.proofs.Determined.{computed}
use Rattle.cx_rotate.proofs.Opened.{opened}
use Rattle.cx_rotate.proofs.Results.{gained, gained_two, kept}
use Rattle.cx_rotate.specs.Rotation.{Rotated, grown, is_current, is_full, rotated}
use Rattle.cx_rotate.specs.declared.generations.Generation.{Generation}
use Rattle.cx_laws_tickets.specs.cx_run.specs.Happenings.{Happening, Nodes, steps}
use Rattle.cx_laws_tickets.specs.cx_run.specs.Opening.{Setup, first_state, nodes_of}
use Rattle.cx_laws_tickets.specs.cx_run.specs.Points.{EachPoint, Point, nodes_past, points, points_onto}
use Rattle.cx_laws_tickets.specs.chain.Chain.{Added, Chain, IsChained, all_in, life_in, saved_past, three_newest}
use Rattle.cx_laws_tickets.specs.fetch.Fetches.{IsMoment}

-- ---- a rotation

module _ (now life : ℕ) (j k l : List ℕ) where
  abbrev three_keys : List (List ℕ)
  three_keys = j ∷ k ∷ l ∷ []

  -- what comes of a rotation of these has a second that is unexpired, where it isn't full
  abbrev IsCurrentBehind : List Generation → Type 0
  IsCurrentBehind old = is_full (rotated now life three_keys old) ≡ false → IsTrue (is_current now (rotated now life three_keys old))

  -- by any result of it
  by-result : (old new : List Generation) (n : ℕ) → n ≤ 3 → Rotated old now life three_keys new n → is_full old ≡ false → IsCurrentBehind old
  by-result old new n few r room _ = subst (λ (gs : List Generation). IsTrue (is_current now gs)) (computed old now life three_keys new n r few) (r.current room)

  differ : {b : Bool} → b ≡ true → b ≡ false → ⊥
  differ p q = cc

  by-three : (a b c : Generation) (full current next : Bool) → 0 < life → is_full (a ∷ b ∷ c ∷ []) ≡ full → is_current now (a ∷ b ∷ c ∷ []) ≡ current → nat_lt now c.expires ≡ next
      → IsCurrentBehind (a ∷ b ∷ c ∷ [])
  by-three a b c true current next some full_is current_is next_is = λ room.
      let stays : (a ∷ b ∷ c ∷ []) ≡ rotated now life three_keys (a ∷ b ∷ c ∷ []) =
      computed (a ∷ b ∷ c ∷ []) now life three_keys (a ∷ b ∷ c ∷ []) 0 (kept a b c now life three_keys (λ empty. absurd (differ full_is empty))) (omega arith) in
      absurd (differ (ap is_full (sym stays) ∙ full_is) room)
  by-three a b c false true next some full_is current_is next_is =
      by-result (a ∷ b ∷ c ∷ []) (a ∷ b ∷ c ∷ []) 0 (omega arith) (kept a b c now life three_keys (λ _. current_is)) full_is
  by-three a b c false false true some full_is current_is next_is =
      by-result (a ∷ b ∷ c ∷ []) _ 1 (omega arith) (gained a b c now life j (k ∷ l ∷ []) full_is current_is next_is) full_is
  by-three a b c false false false some full_is current_is next_is =
      by-result (a ∷ b ∷ c ∷ []) _ 2 (omega arith) (gained_two a b c now life j k (l ∷ []) some full_is current_is next_is) full_is

  pub rotated-current : (xs : List Added) → 0 < life → IsCurrentBehind (three_newest xs)
  rotated-current [] some = by-result [] (grown now life three_keys []) 3 (omega arith) (opened now life three_keys (grown now life three_keys []) refl some refl) refl
  rotated-current (a ∷ []) some = by-result [] (grown now life three_keys []) 3 (omega arith) (opened now life three_keys (grown now life three_keys []) refl some refl) refl
  rotated-current (a ∷ b ∷ []) some = by-result [] (grown now life three_keys []) 3 (omega arith) (opened now life three_keys (grown now life three_keys []) refl some refl) refl
  rotated-current (c ∷ b ∷ a ∷ older) some =
      by-three a.generation b.generation c.generation (is_full (a.generation ∷ b.generation ∷ c.generation ∷ [])) (is_current now (a.generation ∷ b.generation ∷ c.generation ∷ []))
      (nat_lt now c.generation.expires) some refl refl refl

-- of a service that has daemons
pub service-current : (now life : ℕ) (draw : List ℕ) (service : EntityType) (xs : List Added) → is_daemon_type service ≡ true → 0 < life
    → is_full (rotated now life (rotation_of service draw) (three_newest xs)) ≡ false → IsTrue (is_current now (rotated now life (rotation_of service draw) (three_newest xs)))
service-current now life draw Mds xs of some = rotated-current now life _ _ _ xs some
service-current now life draw Osd xs of some = rotated-current now life _ _ _ xs some
service-current now life draw Mgr xs of some = rotated-current now life _ _ _ xs some
service-current now life draw Mon xs of some = absurd cc
service-current now life draw Client xs of some = absurd cc
service-current now life draw Auth xs of some = absurd cc

-- ---- points that follow each other

-- the nodes behind these points
abbrev pub nodes_last : Setup → List Point → Nodes
nodes_last setup [] = nodes_of setup
nodes_last setup (p ∷ older) = nodes_past p

-- each event comes to the nodes behind the one before it
abbrev pub AreLinked : Setup → List Point → Type 0
AreLinked setup past = EachPoint (λ older p. p.nodes ≡ nodes_last setup older) past

linked-onto : (setup : Setup) (hs : List Happening) (past : List Point) (nodes : Nodes) → nodes ≡ nodes_last setup past → AreLinked setup past → AreLinked setup (points_onto past nodes hs)
linked-onto setup [] past nodes is linked = linked
linked-onto setup (h ∷ hs) past nodes is linked = linked-onto setup hs (record { nodes = nodes; happening = h } ∷ past) (steps nodes h).nodes refl (is, linked)

pub all-linked : (setup : Setup) (hs : List Happening) → AreLinked setup (points setup hs)
all-linked setup hs = linked-onto setup hs [] (nodes_of setup) refl tt

none-first : (setup : Setup) (service : EntityType) → generations_of (first_state setup) service ≡ []
none-first setup Mds = refl
none-first setup Osd = refl
none-first setup Mgr = refl
none-first setup Auth = refl
none-first setup Mon = refl
none-first setup Client = refl

-- what the monitor has before an event are the three newest of the chain
pub present-before : (setup : Setup) (service : EntityType) (older : List Point) (last : Chain) → IsChained setup service older last
    → generations_of (nodes_last setup older).monitor.own.server.state service ≡ three_newest (all_in last)
present-before setup service [] last chained = subst (λ (c : Chain). generations_of (first_state setup) service ≡ three_newest (all_in c)) (sym chained) (none-first setup service)
present-before setup service (p ∷ older) last (before, earlier, m) = m.present

-- ---- a moment

-- where the generations are rotated at an event of the monitor, and are what it has saved behind it
pub is-moment : (setup : Setup) (service : EntityType) (older : List Point) (p : Point) (last : Chain) (generations : List Generation) → IsChained setup service older last
    → p.nodes ≡ nodes_last setup older → p.happening.node ≡ node.Monitor → is_daemon_type service ≡ true → 0 < life_in setup service
    → generations ≡ rotated p.happening.reading (life_in setup service) (rotation_of service p.happening.draw) (generations_of p.nodes.monitor.own.server.state service)
    → generations ≡ saved_past service p → IsMoment service generations p
is-moment setup service older p last generations chained linked monitor of some rotates saved =
    let before : generations_of p.nodes.monitor.own.server.state service ≡ three_newest (all_in last) =
    ap (λ (n : Nodes). generations_of n.monitor.own.server.state service) linked ∙ present-before setup service older last chained in
    let is : generations ≡ rotated p.happening.reading (life_in setup service) (rotation_of service p.happening.draw) (three_newest (all_in last)) =
    rotates ∙ ap (λ (gs : List Generation). rotated p.happening.reading (life_in setup service) (rotation_of service p.happening.draw) gs) before in
    record {
      monitor = monitor;
      saved = saved;
      current = λ room. subst (λ (gs : List Generation). IsTrue (is_current p.happening.reading gs)) (sym is)
          (service-current p.happening.reading (life_in setup service) p.happening.draw service (all_in last) of some
          (subst (λ (gs : List Generation). is_full gs ≡ false) is room));
    }
