-- The events of a run, as the laws of each of them need them; and those of every schedule.
use Rattle.std.proofs.Common.{◌≡◌, ◌<◌, Bool, true, false, List, [], ◌∷◌, refl}
use Rattle.std.specs.List.{AllByRecursion}
use Rattle.cx_base.specs.declared.kinds.EntityType.{EntityType}
use Rattle.cx_journal.specs.Behind.{EachBehind}
use Rattle.cx_laws_links.specs.cx_laws_tickets.specs.cx_keyserver.specs.Servers.{generations_of}
use Rattle.cx_rotate.specs.declared.generations.Generation.{Generation}
use Rattle.cx_rotate.specs.declared.states.KeptState.{KeptState}
use Rattle.cx_laws_links.specs.cx_laws_tickets.specs.cx_run.specs.Happenings.{Happening, Nodes, steps}
use Rattle.cx_laws_links.specs.cx_laws_tickets.specs.cx_run.specs.Opening.{Setup, leaked_of, nodes_of}
use Rattle.cx_laws_links.specs.cx_laws_tickets.specs.cx_run.specs.Points.{Point, journal_since, log_since, nodes_past, points, points_onto}
use Rattle.cx_laws_links.specs.cx_laws_tickets.specs.cx_run.specs.Visits.{AreUntold, AreUnvisited}
use Rattle.cx_steps.specs.Premises.{IsFresh, IsSound}
use Rattle.cx_laws_links.specs.cx_laws_tickets.proofs.chain.One.{all-kept}
use Rattle.cx_laws_links.specs.cx_laws_tickets.specs.chain.Chain.{KeepsGenerations}
use Rattle.cx_laws_links.specs.cx_laws_tickets.specs.cx_laws_keys.proofs.keys.Journal.{EntryLaw}
use Rattle.cx_laws_links.specs.cx_laws_tickets.specs.cx_laws_keys.proofs.keys.Lists.{all-map, some-left, some-right}
use Rattle.cx_laws_links.specs.cx_laws_tickets.specs.cx_laws_keys.proofs.keys.Uses.{IsSavedIn, WholeRun}
use Rattle.cx_laws_links.specs.cx_laws_tickets.specs.cx_laws_keys.proofs.login.Generations.{AreRecorded, all-tagged, tagged}
use Rattle.cx_laws_run.proofs.run.Events.{AllOccur}
use Rattle.cx_laws_run.proofs.run.Good.{IsDraw, IsKnown, each-happening, good-point}
use Rattle.cx_laws_run.proofs.run.Logins.{run-logins}
use Rattle.cx_laws_run.proofs.run.Opening.{run-law}
use Rattle.cx_laws_run.proofs.run.Origins.{run-origins}
use Rattle.cx_laws_run.proofs.run.Whole.{run_of, saved_in}
use Rattle.cx_laws_run.specs.run.Laws.{AreBytes, AreDrawn, MayBegin, MayHappen}
use Rattle.cx_laws_run.specs.run.Logins.{LogIn}
use Rattle.cx_laws_run.specs.run.Origins.{GoBack}

-- ---- what is saved

-- what is saved behind earlier points is so behind all
past-saved : (hs : List Happening) (past : List Point) (nodes : Nodes) (service : EntityType) (g : Generation) → IsSavedIn (saved_in past) service g
    → IsSavedIn (saved_in (points_onto past nodes hs)) service g
past-saved [] past nodes service g h = h
past-saved (h ∷ hs) past nodes service g was =
    let p : Point = record { nodes = nodes; happening = h } in
    past-saved hs (p ∷ past) (steps nodes h).nodes service g
    (some-right (λ (x : EntityType × Generation). (x.0 ≡ service) × (x.1.id ≡ g.id) × (x.1.key ≡ g.key)) (tagged (nodes_past p).monitor.own.saved) (saved_in past) was)

-- so is what is saved behind the next one
next-recorded : (run : WholeRun) (h : Happening) (hs : List Happening) (past : List Point) (nodes : Nodes)
    → ((s : EntityType) (g : Generation) → IsSavedIn (saved_in (points_onto past nodes (h ∷ hs))) s g → IsSavedIn run.saved s g)
    → AreRecorded run (steps nodes h).nodes.monitor.own.saved
next-recorded run h hs past nodes all service =
    let p : Point = record { nodes = nodes; happening = h } in
    let state : KeptState = (nodes_past p).monitor.own.saved in
    all-map (IsSavedIn (tagged state) service) (IsSavedIn run.saved service)
    (λ g s. all service g (past-saved hs (p ∷ past) (steps nodes h).nodes service g
    (some-left (λ (x : EntityType × Generation). (x.0 ≡ service) × (x.1.id ≡ g.id) × (x.1.key ≡ g.key)) (tagged state) (saved_in past) s)))
    (generations_of state service) (all-tagged state service)

-- ---- events that may happen

-- where the run is said to have no clients, none come; and where its tickets are said to be good, all that is needed for that is known
all-occur : (setup : Setup) (run : WholeRun) → MayBegin setup → (hs : List Happening) (past : List Point) (nodes : Nodes) → AreDrawn hs
    → AreUntold hs → (run.incoming_links ≡ false → AreUnvisited hs) → IsKnown setup run (points_onto past nodes hs)
    → ((s : EntityType) (g : Generation) → IsSavedIn (saved_in (points_onto past nodes hs)) s g → IsSavedIn run.saved s g) → AllOccur run nodes hs
all-occur setup run begins [] past nodes drawn looks away known all = tt
all-occur setup run begins (h ∷ hs) past nodes drawn looks away known all = (
  record {
    drawn = drawn.0;
    looks = looks.0;
    comes = λ none. (away none).0;
    recorded = next-recorded run h hs past nodes all;
    good = λ is. good-point setup run begins h hs past nodes known;
  },
  all-occur setup run begins hs (record { nodes = nodes; happening = h } ∷ past) (steps nodes h).nodes drawn.1 looks.1 (λ none. (away none).1) known all,
)

all-draws : (hs : List Happening) → AreDrawn hs → AllByRecursion (λ (h : Happening). AreBytes h.draw) hs → AllByRecursion (λ (h : Happening). IsDraw h.draw) hs
all-draws [] drawn bytes = tt
all-draws (h ∷ hs) drawn bytes = (record { long = drawn.0; bytes = bytes.0 }, all-draws hs drawn.1 bytes.1)

pub all-known : (setup : Setup) (hs : List Happening) (incoming_links : Bool) → MayHappen setup hs → IsKnown setup (run_of setup hs incoming_links) (points setup hs)
all-known setup hs incoming_links m =
    let kept : KeepsGenerations setup hs = all-kept setup hs in
    record {
      chained = kept.chained;
      one = kept.one;
      drawn = each-happening (λ (h : Happening). IsDraw h.draw) hs [] (nodes_of setup) (all-draws hs m.drawn m.bytes) tt;
      read = each-happening (λ (h : Happening). h.reading < 4000000000000000000) hs [] (nodes_of setup) m.readings tt;
      saved = λ service g h. h;
    }

-- the law of each entry of a run to whose daemons no clients come
pub unvisited-law : (setup : Setup) (hs : List Happening) → MayHappen setup hs → AreUnvisited hs → IsSound (leaked_of setup) (log_since setup hs) → IsFresh (log_since setup hs)
    → EachBehind (EntryLaw (run_of setup hs false)) [] (journal_since setup hs)
unvisited-law setup hs m away sound fresh =
    let run : WholeRun = run_of setup hs false in
    run-law run setup hs refl m.begins.clients
    (all-occur setup run m.begins hs [] (nodes_of setup) m.drawn m.looks (λ none. away) (all-known setup hs false m) (λ s g h. h)) sound fresh

-- of every run clients may come
pub visited : (setup : Setup) (hs : List Happening) → MayHappen setup hs → AllOccur (run_of setup hs true) (nodes_of setup) hs
visited setup hs m =
    all-occur setup (run_of setup hs true) m.begins hs [] (nodes_of setup) m.drawn m.looks (λ none. absurd (differ none)) (all-known setup hs true m) (λ s g h. h)
  where
    differ : true ≡ false → ⊥
    differ e = cc

pub any-law : (setup : Setup) (hs : List Happening) → MayHappen setup hs → IsSound (leaked_of setup) (log_since setup hs) → IsFresh (log_since setup hs)
    → EachBehind (EntryLaw (run_of setup hs true)) [] (journal_since setup hs)
any-law setup hs m sound fresh = run-law (run_of setup hs true) setup hs refl m.begins.clients (visited setup hs m) sound fresh

pub any-logins : (setup : Setup) (hs : List Happening) → MayHappen setup hs → IsSound (leaked_of setup) (log_since setup hs) → IsFresh (log_since setup hs) → LogIn setup (points setup hs)
any-logins setup hs m sound fresh = run-logins (run_of setup hs true) setup hs refl m.begins.clients (visited setup hs m) sound fresh

pub any-origins : (setup : Setup) (hs : List Happening) → MayHappen setup hs → IsSound (leaked_of setup) (log_since setup hs) → IsFresh (log_since setup hs) → GoBack setup (points setup hs)
any-origins setup hs m sound fresh = run-origins (run_of setup hs true) setup hs refl refl m.begins.clients (visited setup hs m) sound fresh
