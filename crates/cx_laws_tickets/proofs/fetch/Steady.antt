-- Readings that never fall, as said of points.
use Rattle.std.proofs.Common.{◌≡◌, ◌≤◌, ℕ, Bool, true, false, List, [], ◌∷◌, map, filter, refl, arith}
use Rattle.std.specs.Prelude.{if◌then◌else◌}
use Rattle.cx_base.specs.Names.{Name}
use Rattle.cx_laws_tickets.specs.cx_run.specs.Happenings.{Happening, Nodes, steps}
use Rattle.cx_laws_tickets.specs.cx_run.specs.Opening.{Setup, nodes_of}
use Rattle.cx_laws_tickets.specs.cx_run.specs.Points.{EachPoint, Point, points, points_onto}
use Rattle.cx_laws_tickets.specs.fetch.Covered.{IsSteadyFor, NeverFall, is_of_either}

-- no event of the monitor or of this daemon at these points has a reading above this one
abbrev pub AreUntil : Name → ℕ → List Point → Type 0
AreUntil daemon reading past = EachPoint (λ older p. is_of_either daemon p.happening ≡ true → p.happening.reading ≤ reading) past

-- at each of them no earlier one has a later reading
abbrev pub AreSteady : Name → List Point → Type 0
AreSteady daemon past = EachPoint (λ older p. is_of_either daemon p.happening ≡ true → AreUntil daemon p.happening.reading older) past

differ : {b : Bool} → b ≡ true → b ≡ false → ⊥
differ p q = cc

until-later : (daemon : Name) (low high : ℕ) (past : List Point) → low ≤ high → AreUntil daemon low past → AreUntil daemon high past
until-later daemon low high [] le h = tt
until-later daemon low high (p ∷ past) le h =
    (λ of. let below : p.happening.reading ≤ low = h.0 of in omega arith, until-later daemon low high past le h.1)

module _ (daemon : Name) where
  abbrev readings : List Happening → List ℕ
  readings hs = map (λ (h : Happening). h.reading) (filter (is_of_either daemon) hs)

  steady-onto : (hs : List Happening) (past : List Point) (nodes : Nodes) (low : ℕ) → AreSteady daemon past → AreUntil daemon low past → NeverFall (low ∷ readings hs)
      → AreSteady daemon (points_onto past nodes hs)
  steady-onto [] past nodes low steady until never = steady
  steady-onto (h ∷ hs) past nodes low steady until never = by_test (is_of_either daemon h) refl never (steady-onto hs)
    where
      by_test : (t : Bool) → is_of_either daemon h ≡ t → NeverFall (low ∷ map (λ (g : Happening). g.reading) (if t then h ∷ filter (is_of_either daemon) hs else filter (is_of_either daemon) hs))
          → ((more : List Point) (n : Nodes) (least : ℕ) → AreSteady daemon more → AreUntil daemon least more → NeverFall (least ∷ readings hs) → AreSteady daemon (points_onto more n hs))
          → AreSteady daemon (points_onto (record { nodes = nodes; happening = h } ∷ past) (steps nodes h).nodes hs)
      by_test true is later rest =
          let here : AreUntil daemon h.reading past = until-later daemon low h.reading past later.0 until in
          rest (record { nodes = nodes; happening = h } ∷ past) (steps nodes h).nodes h.reading (λ _. here, steady) (λ _. omega arith, here) later.1
      by_test false is later rest =
          rest (record { nodes = nodes; happening = h } ∷ past) (steps nodes h).nodes low (λ of. absurd (differ of is), steady) (λ of. absurd (differ of is), until) later

  from-none : (xs : List ℕ) → NeverFall xs → NeverFall (0 ∷ xs)
  from-none [] h = tt
  from-none (x ∷ xs) h = (omega arith, h)

pub steady-points : (daemon : Name) (setup : Setup) (hs : List Happening) → IsSteadyFor daemon hs → AreSteady daemon (points setup hs)
steady-points daemon setup hs steady = steady-onto daemon hs [] (nodes_of setup) 0 tt tt (from-none daemon (readings daemon hs) steady)
