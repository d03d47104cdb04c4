-- The generations of each service, over every list of events.
use Rattle.std.proofs.Common.{◌≡◌, ◌⊎◌, ℕ, Bool, true, false, List, [], ◌∷◌, ◌++◌, Option, Some, None, inl, inr, refl, sym, ap, ◌∙◌, subst, append_assoc}
use Rattle.std.specs.Prelude.{Contains, if◌then◌else◌}
use Rattle.std.specs.List.{AllByRecursion}
use Rattle.cx_base.specs.Names.{Name, same_kind}
use Rattle.cx_base.specs.declared.kinds.EntityType.{EntityType}
use Rattle.cx_base.specs.declared.kinds.EntityType.TheVariants.{Mon, Mds, Osd, Client, Mgr, Auth}
use Rattle.cx_base.specs.declared.nodes.NodeName.{NodeName}
use Rattle.cx_base.specs.declared.nodes.NodeName.TheVariants as node
use Rattle.cx_dice.specs.Draws.{rotation_of}
use Rattle.cx_laws_tickets.specs.cx_keyring.specs.declared.entries.Entry.{Entry as Principal}
use Rattle.cx_laws_tickets.specs.cx_keyserver.specs.Servers.{generations_of, life_of, rotated_of}
use Rattle.cx_laws_tickets.specs.cx_words.specs.declared.choices.LeftState.{LeftState}
use Rattle.cx_rotate.specs.Rotation.{rotated}
use Rattle.cx_rotate.specs.declared.generations.Generation.{Generation}
use Rattle.cx_rotate.specs.declared.states.KeptState.{KeptState}
use Rattle.cx_laws_tickets.specs.cx_rules.specs.Inputs.{Input}
use Rattle.cx_laws_tickets.specs.cx_rules.specs.Monitor.{Monitor}
use Rattle.cx_laws_tickets.specs.cx_run.specs.Happenings.{EntityNode, Happening, Nodes, entity_of, entity_steps, steps}
use Rattle.cx_laws_tickets.specs.cx_run.specs.Opening.{Setup, first_state, nodes_of}
use Rattle.cx_laws_tickets.specs.cx_run.specs.Points.{Point, entries_at, nodes_past, points, points_onto}
use Rattle.cx_laws_tickets.proofs.chain.Rotating.{AreThree, Rotates, rotates-on}
use Rattle.cx_laws_tickets.proofs.chain.Rows.{AreUnder, StateGoesOn}
use Rattle.cx_laws_tickets.proofs.chain.Steps.{ComesOn, EventBegins, event-goes_on}
use Rattle.cx_laws_tickets.specs.chain.Chain.{Added, AreSpaced, BecomesLost, BecomesSaved, Chain, HasChain, IsAddedAt, IsChained, IsMadeUnder, StaysInMemory, all_in, chain_behind, life_in, no_chain, ring_in, three_newest}
use Rattle.cx_laws_tickets.specs.cx_laws_keys.proofs.keys.Journal.{IsNotIssued}
use Rattle.cx_laws_tickets.proofs.chain.NoDaemonTickets.{entity-none}
use Rattle.cx_laws_tickets.specs.cx_laws_keys.proofs.login.Proving.{none-issued}

-- ---- chains

pub spaced-behind : (life : ℕ) (xs ys : List Added) → AreSpaced life (xs ++ ys) → AreSpaced life ys
spaced-behind life [] ys h = h
spaced-behind life (x ∷ xs) ys h = spaced-behind life xs ys h.1

-- for a service that has no keys there are no generations
rotates-none : (now life : ℕ) (xs : List Added) → [] ≡ three_newest xs → AreThree xs → Rotates now life [] xs
rotates-none now life [] is three = record { more = []; at = tt; keyed = tt; spaced = tt; three = tt; newest = refl }
rotates-none now life (x ∷ y ∷ z ∷ older) is three = absurd cc
rotates-none now life (x ∷ y ∷ []) is three = absurd three
rotates-none now life (x ∷ []) is three = absurd three

rotates-service : (now life : ℕ) (draw : List ℕ) (state : KeptState) (service : EntityType) (xs : List Added) → generations_of state service ≡ three_newest xs → AreThree xs
    → AreSpaced life xs → Rotates now life (rotation_of service draw) xs
rotates-service now life draw state Mds xs is three spaced = rotates-on now life _ _ _ xs three spaced
rotates-service now life draw state Osd xs is three spaced = rotates-on now life _ _ _ xs three spaced
rotates-service now life draw state Mgr xs is three spaced = rotates-on now life _ _ _ xs three spaced
rotates-service now life draw state Auth xs is three spaced = rotates-on now life _ _ _ xs three spaced
rotates-service now life draw state Mon xs is three spaced = rotates-none now life xs is three
rotates-service now life draw state Client xs is three spaced = rotates-none now life xs is three

-- ---- the monitor

-- the lives are those of the opening
record HasLives (setup : Setup) (state : KeptState) : Type 0 where
  life : state.life ≡ (first_state setup).life
  auth_life : state.auth_life ≡ (first_state setup).auth_life

lives-of : (setup : Setup) (state : KeptState) (service : EntityType) → HasLives setup state → life_of state service ≡ life_in setup service
lives-of setup state service h = by_test (same_kind service Auth)
  where
    by_test : (t : Bool) → (if t then state.auth_life else state.life) ≡ (if t then (first_state setup).auth_life else (first_state setup).life)
    by_test true = h.auth_life
    by_test false = h.life

-- what is so of the monitor behind some points
record StandsOn (setup : Setup) (service : EntityType) (past : List Point) (m : Monitor) (c : Chain) : Type 0 where
  chained : IsChained setup service past c
  spaced : AreSpaced (life_in setup service) (all_in c)
  three : AreThree (all_in c)
  kept_three : AreThree c.kept
  saved : generations_of m.saved service ≡ three_newest c.kept
  present : generations_of m.server.state service ≡ three_newest (all_in c)
  lives : HasLives setup m.server.state
  saved_lives : HasLives setup m.saved
  ring : m.server.ring ≡ ring_in setup

-- behind a point
record StandsBehind (setup : Setup) (service : EntityType) (past : List Point) (p : Point) : Type 0 where
  chain : Chain
  stands : StandsOn setup service (p ∷ past) (nodes_past p).monitor.own chain

module _ (setup : Setup) (service : EntityType) (past : List Point) (p : Point) (b : Chain) (ok : StandsOn setup service past p.nodes.monitor.own b) where
  abbrev life : ℕ
  life = life_in setup service

  abbrev own : Monitor
  own = p.nodes.monitor.own

  abbrev next : Monitor
  next = (nodes_past p).monitor.own

  -- what is added at the point
  record Grows : Type 0 where
    more : List Added
    here : AllByRecursion (IsAddedAt service p) more
    rotates : (more ≡ []) ⊎ (three_newest (more ++ all_in b) ≡ rotated p.happening.reading life (rotation_of service p.happening.draw) (three_newest (all_in b)))
    spaced : AreSpaced life (more ++ all_in b)
    three : AreThree (more ++ all_in b)
    newest : generations_of next.server.state service ≡ three_newest (more ++ all_in b)

  grows-none : generations_of next.server.state service ≡ generations_of own.server.state service → Grows
  grows-none same = record { more = []; here = tt; rotates = inl refl; spaced = ok.spaced; three = ok.three; newest = same ∙ ok.present }

  added-here : p.happening.node ≡ node.Monitor → (xs : List Added) → AllByRecursion (λ (x : Added). x.reading ≡ p.happening.reading) xs
      → AllByRecursion (λ (x : Added). Contains (rotation_of service p.happening.draw) x.generation.key) xs → AllByRecursion (IsAddedAt service p) xs
  added-here monitor [] at keyed = tt
  added-here monitor (x ∷ xs) at keyed = (record { monitor = monitor; reading = at.0; key = keyed.0 }, added-here monitor xs at.1 keyed.1)

  grows-rotated : p.happening.node ≡ node.Monitor → generations_of next.server.state service ≡ rotated_of p.happening.reading p.happening.draw own.server.state service → Grows
  grows-rotated monitor same =
      let r : Rotates p.happening.reading life (rotation_of service p.happening.draw) (all_in b) =
      rotates-service p.happening.reading life p.happening.draw own.server.state service (all_in b) ok.present ok.three ok.spaced in
      let lived : life_of own.server.state service ≡ life = lives-of setup own.server.state service ok.lives in
      let is : rotated_of p.happening.reading p.happening.draw own.server.state service
      ≡ rotated p.happening.reading life (rotation_of service p.happening.draw) (three_newest (all_in b)) =
      ap (λ (n : ℕ). rotated p.happening.reading n (rotation_of service p.happening.draw) (generations_of own.server.state service)) lived
      ∙ ap (λ (gs : List Generation). rotated p.happening.reading life (rotation_of service p.happening.draw) gs) ok.present in
      record {
        more = r.more;
        here = added-here monitor r.more r.at r.keyed;
        rotates = inr r.newest;
        spaced = r.spaced;
        three = r.three;
        newest = same ∙ is ∙ sym r.newest;
      }

  grows-by : p.happening.node ≡ node.Monitor → ((s : EntityType) → generations_of next.server.state s ≡ generations_of own.server.state s)
      ⊎ ((s : EntityType) → generations_of next.server.state s ≡ rotated_of p.happening.reading p.happening.draw own.server.state s) → Grows
  grows-by monitor (inl same) = grows-none (same service)
  grows-by monitor (inr rotates) = grows-rotated monitor (rotates service)

  -- nothing is saved, and nothing issued
  stays-unsaved : Grows → next.saved ≡ own.saved → HasLives setup next.server.state → next.server.ring ≡ own.server.ring → AllByRecursion IsNotIssued (entries_at p) → StandsBehind setup service past p
  stays-unsaved g same lives ring none =
      let c : Chain = chain_behind StaysInMemory g.more b in
      let all : all_in c ≡ g.more ++ all_in b = append_assoc g.more b.unsaved b.kept in
      let saved : generations_of next.saved service ≡ three_newest b.kept = ap (λ (s : KeptState). generations_of s service) same ∙ ok.saved in
      let present : generations_of next.server.state service ≡ three_newest (all_in c) = g.newest ∙ ap three_newest (sym all) in
      record {
        chain = c;
        stands = record {
          chained = (
            b,
            ok.chained,
            record {
              added = g.more;
              here = g.here;
              rotates = g.rotates;
              fate = StaysInMemory;
              behind_is = refl;
              saved = saved;
              present = present;
              issued = λ t has is. absurd (none-issued (entries_at p) none t has);
            },
          );
          spaced = subst (AreSpaced life) (sym all) g.spaced;
          three = subst AreThree (sym all) g.three;
          kept_three = ok.kept_three;
          saved = saved;
          present = present;
          lives = lives;
          saved_lives = subst (HasLives setup) (sym same) ok.saved_lives;
          ring = ring ∙ ok.ring;
        };
      }

  -- all is saved, and the tickets are under it
  is-saved : Grows → next.saved ≡ next.server.state → HasLives setup next.server.state → next.server.ring ≡ own.server.ring
      → AreUnder p.happening.reading p.happening.draw next.server (entries_at p) → StandsBehind setup service past p
  is-saved g same lives ring tickets =
      let c : Chain = chain_behind BecomesSaved g.more b in
      let saved : generations_of next.saved service ≡ three_newest c.kept = ap (λ (s : KeptState). generations_of s service) same ∙ g.newest in
      let lived : life_of next.server.state service ≡ life = lives-of setup next.server.state service lives in
      record {
        chain = c;
        stands = record {
          chained = (
            b,
            ok.chained,
            record {
              added = g.more;
              here = g.here;
              rotates = g.rotates;
              fate = BecomesSaved;
              behind_is = refl;
              saved = saved;
              present = g.newest;
              issued = λ t has is. subst (λ (gs : List Generation). IsMadeUnder life gs (ring_in setup) p.happening.reading p.happening.draw t) g.newest
                  (subst (λ (n : ℕ). IsMadeUnder n (generations_of next.server.state service) (ring_in setup) p.happening.reading p.happening.draw t) lived
                  (subst (λ (s : EntityType). IsMadeUnder (life_of next.server.state s) (generations_of next.server.state s) (ring_in setup) p.happening.reading p.happening.draw t) is
                  (subst (λ (ring : List Principal). IsMadeUnder (life_of next.server.state t.service) (generations_of next.server.state t.service) ring p.happening.reading p.happening.draw t)
                  (ring ∙ ok.ring) (tickets t has))));
            },
          );
          spaced = g.spaced;
          three = g.three;
          kept_three = g.three;
          saved = saved;
          present = g.newest;
          lives = lives;
          saved_lives = subst (HasLives setup) (sym same) lives;
          ring = ring ∙ ok.ring;
        };
      }

  -- the monitor begins anew
  is-lost : EventBegins own next (entries_at p) → StandsBehind setup service past p
  is-lost e =
      let c : Chain = chain_behind BecomesLost [] b in
      let saved : generations_of next.saved service ≡ three_newest b.kept = ap (λ (s : KeptState). generations_of s service) e.saved ∙ ok.saved in
      let present : generations_of next.server.state service ≡ three_newest b.kept = ap (λ (s : KeptState). generations_of s service) e.state ∙ ok.saved in
      record {
        chain = c;
        stands = record {
          chained = (
            b,
            ok.chained,
            record {
              added = [];
              here = tt;
              rotates = inl refl;
              fate = BecomesLost;
              behind_is = refl;
              saved = saved;
              present = present;
              issued = λ t has is. absurd (none-issued (entries_at p) e.none t has);
            },
          );
          spaced = spaced-behind life b.unsaved b.kept ok.spaced;
          three = ok.kept_three;
          kept_three = ok.kept_three;
          saved = saved;
          present = present;
          lives = subst (HasLives setup) (sym e.state) ok.saved_lives;
          saved_lives = subst (HasLives setup) (sym e.saved) ok.saved_lives;
          ring = e.ring ∙ ok.ring;
        };
      }

  lives-on : StateGoesOn p.happening.reading p.happening.draw own.server.state next.server.state → HasLives setup next.server.state
  lives-on s = record { life = s.life ∙ ok.lives.life; auth_life = s.auth_life ∙ ok.lives.auth_life }

  -- an event of the monitor
  stands-on : p.happening.node ≡ node.Monitor → ComesOn p.happening.reading p.happening.draw own next (entries_at p) → StandsBehind setup service past p
  stands-on monitor (inl e) = by_saves e.saves
    where
      by_saves : ((next.saved ≡ own.saved) × AllByRecursion IsNotIssued (entries_at p)) ⊎ ((next.saved ≡ next.server.state) × AreUnder p.happening.reading p.happening.draw next.server (entries_at p))
          → StandsBehind setup service past p
      by_saves (inl (same, none)) = stays-unsaved (grows-by monitor e.state.generations) same (lives-on e.state) e.ring none
      by_saves (inr (same, tickets)) = is-saved (grows-by monitor e.state.generations) same (lives-on e.state) e.ring tickets
  stands-on monitor (inr e) = is-lost e

  -- an event of another node
  stands-still : next ≡ own → AllByRecursion IsNotIssued (entries_at p) → StandsBehind setup service past p
  stands-still same none =
      stays-unsaved (grows-none (ap (λ (m : Monitor). generations_of m.server.state service) same)) (ap (λ (m : Monitor). m.saved) same)
      (subst (λ (m : Monitor). HasLives setup m.server.state) (sym same) ok.lives) (ap (λ (m : Monitor). m.server.ring) same) none

-- ---- any event

module _ (setup : Setup) (service : EntityType) (past : List Point) (nodes : Nodes) (input : Input) (reading : ℕ) (block : List ℕ) (line : ℕ) (failing : Option LeftState) where
  abbrev point_at : NodeName → Point
  point_at n = record { nodes = nodes; happening = record { node = n; input = input; reading = reading; draw = block; line = line; left = failing } }

  entity-own : (name : Name) (h : Happening) (found : Option EntityNode) → (entity_steps nodes h name found).nodes.monitor.own ≡ nodes.monitor.own
  entity-own name h None = refl
  entity-own name h (Some entity) = refl

  entity-issues : (name : Name) (h : Happening) (found : Option EntityNode) → AllByRecursion IsNotIssued (entity_steps nodes h name found).out.entries
  entity-issues name h None = tt
  entity-issues name h (Some entity) = entity-none nodes.handlers entity h.input h.reading h.draw

  goes-on : (n : NodeName) (b : Chain) → StandsOn setup service past nodes.monitor.own b → StandsBehind setup service past (point_at n)
  goes-on node.Monitor b ok = stands-on setup service past (point_at node.Monitor) b ok refl (event-goes_on nodes input reading block failing)
  goes-on (node.Entity name) b ok =
      stands-still setup service past (point_at (node.Entity name)) b ok (entity-own name (point_at (node.Entity name)).happening (entity_of name nodes))
      (entity-issues name (point_at (node.Entity name)).happening (entity_of name nodes))

-- ---- every list of events

chained-onto : (setup : Setup) (service : EntityType) (hs : List Happening) (past : List Point) (nodes : Nodes) (b : Chain) → StandsOn setup service past nodes.monitor.own b
    → HasChain setup service (points_onto past nodes hs)
chained-onto setup service [] past nodes b ok = record { chain = b; chained = ok.chained; spaced = ok.spaced }
chained-onto setup service (h ∷ hs) past nodes b ok =
    let s = goes-on setup service past nodes h.input h.reading h.draw h.line h.left h.node b ok in
    chained-onto setup service hs (record { nodes = nodes; happening = h } ∷ past) (steps nodes h).nodes s.chain s.stands

none-first : (setup : Setup) (service : EntityType) → generations_of (first_state setup) service ≡ []
none-first setup Mds = refl
none-first setup Osd = refl
none-first setup Mgr = refl
none-first setup Auth = refl
none-first setup Mon = refl
none-first setup Client = refl

pub all-chained : (setup : Setup) (hs : List Happening) (service : EntityType) → HasChain setup service (points setup hs)
all-chained setup hs service = chained-onto setup service hs [] (nodes_of setup) no_chain (record {
  chained = refl;
  spaced = tt;
  three = tt;
  kept_three = tt;
  saved = none-first setup service;
  present = none-first setup service;
  lives = record { life = refl; auth_life = refl };
  saved_lives = record { life = refl; auth_life = refl };
  ring = refl;
})
