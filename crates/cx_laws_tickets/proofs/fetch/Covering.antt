-- A view of one moment of the monitor lists the generation of each unexpired ticket, for as long as is said.
use Rattle.std.proofs.Common.{◌≡◌, ◌⊎◌, ◌≤◌, ◌<◌, ◌+◌, ℕ, List, [], ◌∷◌, ◌++◌, Some, inl, inr, refl, sym, ap, ◌∙◌, subst, arith, true, false}
use Rattle.std.specs.Prelude.{max, IsTrue, Contains, ◌||◌}
use Rattle.cx_base.proofs.Names.{same_name_self}
use Rattle.cx_base.specs.Names.{Name}
use Rattle.cx_base.specs.declared.kinds.EntityType.{EntityType}
use Rattle.cx_base.specs.declared.nodes.NodeName.{NodeName}
use Rattle.cx_base.specs.declared.nodes.NodeName.TheVariants as node
use Rattle.cx_journal.specs.KeepsKeys.{has_generation}
use Rattle.cx_journal.specs.declared.entries.Entry.TheVariants as entry
use Rattle.cx_journal.specs.declared.entries.Issued.{Issued}
use Rattle.cx_laws_tickets.specs.cx_keyserver.specs.Issuing.{current_at}
use Rattle.cx_rotate.specs.Keeping.{IsLife}
use Rattle.cx_rotate.specs.Rotation.{is_current, is_full}
use Rattle.cx_rotate.specs.declared.generations.Generation.{Generation}
use Rattle.cx_laws_tickets.specs.cx_run.specs.Opening.{Setup}
use Rattle.cx_laws_tickets.specs.cx_run.specs.Points.{Before, Point, entries_at}
use Rattle.cx_laws_tickets.specs.cx_run.specs.Wires.{same_node}
use Rattle.cx_laws_tickets.proofs.chain.Points.{spaced-behind}
use Rattle.cx_laws_tickets.specs.chain.Chain.{Added, AreSpaced, Chain, IsChained, IsUnderCurrent, MovesOn, life_in, three_newest}
use Rattle.cx_laws_tickets.specs.cx_laws_keys.proofs.keys.Uses.{Extends, extends-then}
use Rattle.cx_laws_tickets.proofs.fetch.Arithmetic.{IsSecond, is-second, listed-earlier, listed-later, newest-lives, not-full}
use Rattle.cx_laws_tickets.proofs.fetch.Kept.{AreAddedUntil, StandsAt, added-behind, kept-grows, stands-at}
use Rattle.cx_laws_tickets.proofs.fetch.Steady.{AreSteady, AreUntil}
use Rattle.cx_laws_tickets.specs.fetch.Covered.{IsBeforeNewest, is_of_either}
use Rattle.cx_laws_tickets.specs.fetch.Fetches.{IsAsking, IsMoment}

-- three of which the second is current
record AreCurrent (xs : List Added) : Type 0 where
  newest : Added
  second : Added
  third : Added
  older : List Added
  is : xs ≡ newest ∷ second ∷ third ∷ older

are-current : (now : ℕ) (xs : List Added) → IsTrue (is_current now (three_newest xs)) → AreCurrent xs
are-current now [] h = absurd cc
are-current now (a ∷ []) h = absurd cc
are-current now (a ∷ b ∷ []) h = absurd cc
are-current now (a ∷ b ∷ c ∷ older) h = record { newest = a; second = b; third = c; older = older; is = refl }

-- ---- a ticket, and a view of a moment

module _ (setup : Setup) (service : EntityType) (asked reading : ℕ) (generations : List Generation) (t : Issued) where
  abbrev life : ℕ
  life = life_in setup service

  -- the view is of this moment, which was not before the asking
  abbrev IsView : List Point → Point → Type 0
  IsView older p = IsMoment service generations p × (asked ≤ p.happening.reading)

  -- the ticket was issued
  abbrev IsGiven : List Point → Point → Type 0
  IsGiven older p = Contains (entries_at p) (entry.Issued t)

  -- it is listed
  abbrev IsListed : Type 0
  IsListed = has_generation generations t.generation ≡ true

  module _ (of_service : t.service ≡ service) (unexpired : reading < t.expires) (lives : (reading < asked + life) ⊎ IsBeforeNewest reading generations)
      (early : reading < 4000000000000000000) (is_life : IsLife life) where
    -- of a chain as a whole: it is spaced, and each was added by now
    abbrev IsSoFar : Chain → Type 0
    IsSoFar last = AreSpaced life last.kept × AreAddedUntil setup service reading last.kept

    so-far : (before last : Chain) → Extends before.kept last.kept → IsSoFar last → IsSoFar before
    so-far before last e (spaced, until) = (
      spaced-behind life e.more before.kept (subst (AreSpaced life) e.is spaced),
      added-behind setup service reading e.more before.kept (subst (AreAddedUntil setup service reading) e.is until),
    )

    -- the ticket came first, or at the moment itself
    earlier-listed : (p : Point) (before last : Chain) → IsSoFar last → MovesOn setup service p before last → IsMoment service generations p → StandsAt setup service IsGiven last → IsListed
    earlier-listed p before last far m view s =
        let u : IsUnderCurrent life (three_newest s.behind.kept) t = (s.moves.issued t s.holds of_service).0 in
        let w : IsSecond life reading t.created s.behind.kept u.of = is-second life reading t.created s.behind.kept u.of u.current in
        let three : List Added = w.newest ∷ w.second ∷ w.third ∷ w.older in
        let all : last.kept ≡ s.kept.more ++ three = s.kept.is ∙ ap (λ (xs : List Added). s.kept.more ++ xs) w.is in
        let there : AreSpaced life three = subst (AreSpaced life) w.is (so-far s.behind last s.kept far).0 in
        let next : w.newest.generation.expires ≡ max (w.newest.reading + life) w.second.generation.expires + life = there.0.1 in
        let made : t.created < w.second.generation.expires = w.unexpired in
        let until : t.expires ≡ t.created + life = u.expires in
        let same : w.second.generation.id ≡ t.generation = ap (λ (g : Generation). g.id) w.of_is ∙ sym u.under.id in
        let listed : has_generation (three_newest (s.kept.more ++ three)) t.generation ≡ true =
        listed-earlier life reading s.kept.more w.newest w.second w.third w.older t.generation same (subst (AreSpaced life) all far.0)
        (subst (AreAddedUntil setup service reading) all far.1) (λ gone. omega arith) in
        subst (λ (gs : List Generation). has_generation gs t.generation ≡ true) (sym (view.saved ∙ m.saved ∙ ap three_newest all)) listed

    -- the moment came first
    later-listed : (p : Point) (before last : Chain) → IsSoFar last → MovesOn setup service p before last → IsGiven [] p → StandsAt setup service IsView before → IsListed
    later-listed p before last far m given s =
        let e : Extends s.behind.kept last.kept = extends-then s.behind.kept before.kept last.kept s.kept (kept-grows setup service p before last m) in
        let here : IsSoFar s.behind = so-far s.behind last e far in
        let viewed : generations ≡ three_newest s.behind.kept = s.holds.0.saved ∙ s.moves.saved in
        let room : is_full (three_newest s.behind.kept) ≡ false = not-full life reading s.behind.kept here.0 here.1 early is_life.0 is_life.1 in
        let current : IsTrue (is_current s.at.happening.reading (three_newest s.behind.kept)) =
        subst (λ (gs : List Generation). IsTrue (is_current s.at.happening.reading gs)) viewed
        (s.holds.0.current (subst (λ (gs : List Generation). is_full gs ≡ false) (sym viewed) room)) in
        let w : AreCurrent s.behind.kept = are-current s.at.happening.reading s.behind.kept current in
        let three : List Added = w.newest ∷ w.second ∷ w.third ∷ w.older in
        let all : last.kept ≡ e.more ++ three = e.is ∙ ap (λ (xs : List Added). e.more ++ xs) w.is in
        let u : IsUnderCurrent life (three_newest last.kept) t = (m.issued t given of_service).0 in
        let alive : w.newest.generation.expires ≤ reading → ⊥ =
        newest-lives life reading asked s.at.happening.reading w.newest w.second w.third w.older (subst (AreSpaced life) w.is here.0) s.holds.1
        (subst (λ (xs : List Added). IsTrue (is_current s.at.happening.reading (three_newest xs))) w.is current)
        (subst (λ (gs : List Generation). (reading < asked + life) ⊎ IsBeforeNewest reading gs) (viewed ∙ ap three_newest w.is) lives) in
        let listed : has_generation (three_newest three) u.of.id ≡ true =
        listed-later life reading e.more w.newest w.second w.third w.older u.of t.created (subst (λ (xs : List Added). current_at t.created (three_newest xs) ≡ Some u.of) all u.current)
        (subst (AreSpaced life) all far.0) (subst (AreAddedUntil setup service reading) all far.1) alive in
        subst (λ (id : ℕ). has_generation generations id ≡ true) (sym u.under.id)
        (subst (λ (gs : List Generation). has_generation gs u.of.id ≡ true) (sym (viewed ∙ ap three_newest w.is)) listed)

    pub view-lists : (past : List Point) (last : Chain) → IsChained setup service past last → IsSoFar last → Before IsView past → Before IsGiven past → IsListed
    view-lists [] last chained far view given = absurd view
    view-lists (p ∷ past) last (before, earlier, m) far (inl view) given =
        earlier-listed p before last far m view.0 (stands-at setup service IsGiven (p ∷ past) last (before, earlier, m) given)
    view-lists (p ∷ past) last (before, earlier, m) far (inr view) (inl given) =
        later-listed p before last far m given (stands-at setup service IsView past before earlier view)
    view-lists (p ∷ past) last (before, earlier, m) far (inr view) (inr given) =
        view-lists past before earlier (so-far before last (kept-grows setup service p before last m) far) view given

-- ---- the asking

pub monitor-either : (daemon : Name) (p : Point) → p.happening.node ≡ node.Monitor → is_of_either daemon p.happening ≡ true
monitor-either daemon p is = subst (λ (n : NodeName). (same_node n node.Monitor || same_node n (node.Entity daemon)) ≡ true) (sym is) refl

pub daemon-either : (daemon : Name) (p : Point) → p.happening.node ≡ node.Entity daemon → is_of_either daemon p.happening ≡ true
daemon-either daemon p is =
    subst (λ (n : NodeName). (same_node n node.Monitor || same_node n (node.Entity daemon)) ≡ true) (sym is) (same_name_self daemon)

module _ (daemon : Name) (service : EntityType) (asked : ℕ) (generations : List Generation) where
  asked-until : (reading : ℕ) (past : List Point) → AreUntil daemon reading past → Before (λ (_ : List Point) (at : Point). IsAsking daemon asked at) past → asked ≤ reading
  asked-until reading [] until asking = absurd asking
  asked-until reading (p ∷ past) until (inl asking) =
      let below : p.happening.reading ≤ reading = until.0 (daemon-either daemon p asking.daemon_is) in
      let same : p.happening.reading ≡ asked = asking.reading in
      omega arith
  asked-until reading (p ∷ past) until (inr asking) = asked-until reading past until.1 asking

  -- what the monitor had at a moment behind the asking, it had at a reading that is not before it
  pub not-before : (past : List Point) → AreSteady daemon past
      → Before (λ (older : List Point) (p : Point). IsMoment service generations p × Before (λ (_ : List Point) (at : Point). IsAsking daemon asked at) older) past
      → Before (λ (older : List Point) (p : Point). IsMoment service generations p × (asked ≤ p.happening.reading)) past
  not-before [] steady moment = absurd moment
  not-before (p ∷ past) steady (inl (moment, asking)) =
      inl (moment, asked-until p.happening.reading past (steady.0 (monitor-either daemon p moment.monitor)) asking)
  not-before (p ∷ past) steady (inr moment) = inr (not-before past steady.1 moment)
