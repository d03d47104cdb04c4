-- Coverage of every list of events, of whose fetches each is of a moment of the monitor.
use Rattle.std.proofs.Common.{◌≡◌, ◌⊎◌, ◌<◌, ◌+◌, ℕ, List, [], ◌∷◌, inl, inr, refl, sym, ap, ◌∙◌, subst, true}
use Rattle.std.specs.Prelude.{Contains, Some}
use Rattle.std.specs.List.{AllByRecursion}
use Rattle.cx_base.specs.Names.{Name, is_daemon_type}
use Rattle.cx_base.specs.declared.kinds.EntityType.{EntityType}
use Rattle.cx_base.specs.declared.kinds.EntityType.TheVariants.{Mon, Mds, Osd, Client, Mgr, Auth}
use Rattle.cx_base.specs.declared.nodes.NodeName.TheVariants as node
use Rattle.cx_journal.specs.Behind.{EachBehind}
use Rattle.cx_journal.specs.KeepsKeys.{has_generation}
use Rattle.cx_journal.specs.declared.entries.Entry.{Entry}
use Rattle.cx_journal.specs.declared.entries.Entry.TheVariants as journal
use Rattle.cx_journal.specs.declared.entries.Fetched.{Fetched}
use Rattle.cx_journal.specs.declared.entries.Issued.{Issued}
use Rattle.cx_journal.specs.declared.entries.Looked.{Looked}
use Rattle.cx_rotate.specs.Keeping.{IsLife}
use Rattle.cx_rotate.specs.declared.generations.Generation.{Generation}
use Rattle.cx_laws_tickets.specs.cx_run.proofs.PointsTell.{journal-told}
use Rattle.cx_laws_tickets.specs.cx_run.specs.Happenings.{Happening, Nodes, steps}
use Rattle.cx_laws_tickets.specs.cx_run.specs.Opening.{Setup, first_state, nodes_of}
use Rattle.cx_laws_tickets.specs.cx_run.specs.Points.{Before, EachPoint, Point, WasEntered, entries_at, journal_since, points, points_onto}
use Rattle.cx_laws_tickets.proofs.chain.Points.{spaced-behind}
use Rattle.cx_laws_tickets.specs.chain.Chain.{AreSpaced, Chain, HasChain, IsChained, KeepsGenerations, life_in}
use Rattle.cx_laws_tickets.specs.cx_laws_keys.proofs.keys.Uses.{Extends}
use Rattle.cx_laws_tickets.specs.cx_laws_keys.specs.keys.LooksLast.{LooksLast, LooksLastBy}
use Rattle.cx_laws_tickets.proofs.fetch.Arithmetic.{three-paced}
use Rattle.cx_laws_tickets.proofs.fetch.Covering.{daemon-either, monitor-either, not-before, view-lists}
use Rattle.cx_laws_tickets.proofs.fetch.Kept.{MonitorUntil, StandsAt, kept-grows, kept-until, stands-at}
use Rattle.cx_laws_tickets.proofs.fetch.Looking.{LooksAt, look-moment, looks-points}
use Rattle.cx_laws_tickets.proofs.fetch.OwnLooks.{look-own}
use Rattle.cx_laws_tickets.proofs.fetch.Steady.{AreSteady, AreUntil, steady-points}
use Rattle.cx_laws_tickets.specs.fetch.Covered.{ArePaced, FetchesPaced, IsBeforeNewest, IsCovered, IsSteadyFor}
use Rattle.cx_laws_tickets.specs.fetch.Fetches.{AreOfMoments, IsAsking, IsMoment, IsOfMoment}

-- ---- the life of a daemon's service

pub service-life : (setup : Setup) (service : EntityType) → is_daemon_type service ≡ true → life_in setup service ≡ (first_state setup).life
service-life setup Mds is = refl
service-life setup Osd is = refl
service-life setup Mgr is = refl
service-life setup Mon is = absurd cc
service-life setup Client is = absurd cc
service-life setup Auth is = absurd cc

-- ---- one look

module _ (setup : Setup) (daemon : Name) (is_life : IsLife (first_state setup).life) where
  -- what was ever saved behind these points is spaced, as it is behind the last of them
  abbrev HasSpaced : Chain → Type 0
  HasSpaced last = AreSpaced (life_in setup daemon.kind) last.kept

  spaced-before : (p : Point) (before last : Chain) → Extends before.kept last.kept → HasSpaced last → HasSpaced before
  spaced-before p before last e spaced = spaced-behind (life_in setup daemon.kind) e.more before.kept (subst (AreSpaced (life_in setup daemon.kind)) e.is spaced)

  monitor-until : (reading : ℕ) (past : List Point) → AreUntil daemon reading past → MonitorUntil setup daemon.kind reading past
  monitor-until reading [] until = tt
  monitor-until reading (p ∷ past) until = (λ monitor. until.0 (monitor-either daemon p monitor), monitor-until reading past until.1)

  -- a look of this daemon covers
  module _ (older : List Point) (p : Point) (last : Chain) (chained : IsChained setup daemon.kind older last) (spaced : HasSpaced last) (steady : AreSteady daemon (p ∷ older))
      (early : p.happening.reading < 4000000000000000000) (fetched : AreOfMoments (p ∷ older)) (looks : LooksAt setup older p) where
    abbrev reading : ℕ
    reading = p.happening.reading

    covers-own : (look : Looked) → Contains (entries_at p) (journal.Looked look) → look.daemon ≡ daemon → (asked : ℕ) → look.view.asked ≡ Some asked
        → (reading < asked + (first_state setup).life) ⊎ IsBeforeNewest reading look.view.generations
        → (t : Issued) → WasEntered older (journal.Issued t) → t.service ≡ look.daemon.kind → reading < t.expires → has_generation look.view.generations t.generation ≡ true
    covers-own look has own asked told lives t given of_service unexpired =
        let f : Fetched = record { daemon = daemon; asked = asked; generations = look.view.generations } in
        let m : IsOfMoment f older =
        subst (λ (n : Name). IsOfMoment (record { daemon = n; asked = asked; generations = look.view.generations }) older) own (look-moment setup older p fetched looks look has asked told) in
        let same : life_in setup daemon.kind ≡ (first_state setup).life = service-life setup daemon.kind m.kind in
        let until : AreUntil daemon reading older = steady.0 (daemon-either daemon p (look-own p look has ∙ ap (λ (n : Name). node.Entity n) own)) in
        view-lists setup daemon.kind asked reading look.view.generations t (of_service ∙ ap (λ (n : Name). n.kind) own) unexpired
        (subst (λ (life : ℕ). (reading < asked + life) ⊎ IsBeforeNewest reading look.view.generations) (sym same) lives) early (subst IsLife (sym same) is_life)
        older last chained (spaced, kept-until setup daemon.kind reading older last chained (monitor-until reading older until))
        (not-before daemon daemon.kind asked look.view.generations older steady.1 m.moment) given

  covered-past : (past : List Point) (last : Chain) → IsChained setup daemon.kind past last → HasSpaced last → AreSteady daemon past
      → EachPoint (λ (older : List Point) (p : Point). p.happening.reading < 4000000000000000000) past → AreOfMoments past → EachPoint (LooksAt setup) past → IsCovered setup daemon past
  covered-past [] last chained spaced steady early fetched looks = tt
  covered-past (p ∷ past) last (before, earlier, m) spaced steady early fetched looks =
      let there : HasSpaced before = spaced-before p before last (kept-grows setup daemon.kind p before last m) spaced in (
        λ look has own. covers-own past p before earlier there steady early.0 fetched looks.0 look has own,
        covered-past past before earlier there steady.1 early.1 fetched.1 looks.1,
      )

-- ---- every list of events

early-onto : (hs : List Happening) (past : List Point) (nodes : Nodes) → AllByRecursion (λ (h : Happening). h.reading < 4000000000000000000) hs
    → EachPoint (λ (older : List Point) (p : Point). p.happening.reading < 4000000000000000000) past
    → EachPoint (λ (older : List Point) (p : Point). p.happening.reading < 4000000000000000000) (points_onto past nodes hs)
early-onto [] past nodes early so_far = so_far
early-onto (h ∷ hs) past nodes early so_far = early-onto hs (record { nodes = nodes; happening = h } ∷ past) (steps nodes h).nodes early.1 (early.0, so_far)

module _ (setup : Setup) (hs : List Happening) (keeps : KeepsGenerations setup hs) where
  chain-of : (service : EntityType) → HasChain setup service (points setup hs)
  chain-of service = keeps.chained service

  kept-spaced : (service : EntityType) → AreSpaced (life_in setup service) (chain-of service).chain.kept
  kept-spaced service = spaced-behind (life_in setup service) (chain-of service).chain.unsaved (chain-of service).chain.kept (chain-of service).spaced

  -- where each fetch is of a moment of the monitor behind its asking, coverage is had
  pub all-covered : (daemon : Name) → IsLife (first_state setup).life → AllByRecursion (λ (h : Happening). h.reading < 4000000000000000000) hs
      → LooksLast (journal_since setup hs) → AreOfMoments (points setup hs) → IsSteadyFor daemon hs → IsCovered setup daemon (points setup hs)
  all-covered daemon is_life early looks fetched steady =
      covered-past setup daemon is_life (points setup hs) (chain-of daemon.kind).chain (chain-of daemon.kind).chained (kept-spaced daemon.kind)
      (steady-points daemon setup hs steady) (early-onto hs [] (nodes_of setup) early tt) fetched
      (looks-points setup (points setup hs) (subst (λ (l : List Entry). EachBehind LooksLastBy [] l) (journal-told setup hs) looks))

  -- ---- pace

  -- a chain behind some points, of which what was ever saved is spaced
  record HasKept (service : EntityType) (past : List Point) : Type 0 where
    chain : Chain
    chained : IsChained setup service past chain
    spaced : AreSpaced (life_in setup service) chain.kept

  kept-before : (service : EntityType) (p : Point) (past : List Point) → HasKept service (p ∷ past) → HasKept service past
  kept-before service p past c = by_chain c.chain c.chained c.spaced
    where
      by_chain : (last : Chain) → IsChained setup service (p ∷ past) last → AreSpaced (life_in setup service) last.kept → HasKept service past
      by_chain last (before, earlier, m) spaced =
          let e : Extends before.kept last.kept = kept-grows setup service p before last m in
          record { chain = before; chained = earlier; spaced = spaced-behind (life_in setup service) e.more before.kept (subst (AreSpaced (life_in setup service)) e.is spaced) }

  moment-paced : (service : EntityType) (generations : List Generation) (past : List Point) (last : Chain) → IsChained setup service past last
      → AreSpaced (life_in setup service) last.kept → Before (λ (older : List Point) (p : Point). IsMoment service generations p) past → ArePaced (life_in setup service) generations
  moment-paced service generations past last chained spaced moment =
      let s : StandsAt setup service (λ (older : List Point) (p : Point). IsMoment service generations p) last =
      stands-at setup service (λ (older : List Point) (p : Point). IsMoment service generations p) past last chained moment in
      let there : AreSpaced (life_in setup service) s.behind.kept = spaced-behind (life_in setup service) s.kept.more s.behind.kept (subst (AreSpaced (life_in setup service)) s.kept.is spaced) in
      subst (λ (gs : List Generation). ArePaced (life_in setup service) gs) (sym (s.holds.saved ∙ s.moves.saved)) (three-paced (life_in setup service) 0 s.behind.kept there)

  just-moment : (f : Fetched) (past : List Point) → Before (λ (older : List Point) (p : Point). IsMoment f.daemon.kind f.generations p × Before (λ (_ : List Point) (at : Point). IsAsking f.daemon f.asked at) older) past
      → Before (λ (older : List Point) (p : Point). IsMoment f.daemon.kind f.generations p) past
  just-moment f [] h = absurd h
  just-moment f (p ∷ past) (inl h) = inl h.0
  just-moment f (p ∷ past) (inr h) = inr (just-moment f past h)

  paced-past : (past : List Point) → ((service : EntityType) → HasKept service past) → AreOfMoments past → FetchesPaced setup past
  paced-past [] chains fetched = tt
  paced-past (p ∷ past) chains fetched =
      let earlier : (service : EntityType) → HasKept service past = λ service. kept-before service p past (chains service) in (
        λ f has.
            let m : IsOfMoment f past = fetched.0 f has in
            let c : HasKept f.daemon.kind past = earlier f.daemon.kind in
            subst (λ (life : ℕ). ArePaced life f.generations) (service-life setup f.daemon.kind m.kind)
            (moment-paced f.daemon.kind f.generations past c.chain c.chained c.spaced (just-moment f past m.moment)),
        paced-past past earlier fetched.1,
      )

  -- and so each fetch is paced
  pub all-paced : AreOfMoments (points setup hs) → FetchesPaced setup (points setup hs)
  all-paced fetched =
      paced-past (points setup hs) (λ service. record { chain = (chain-of service).chain; chained = (chain-of service).chained; spaced = kept-spaced service }) fetched
