-- What the objects outside tell goes on from act to act.
use Rattle.std.proofs.Common.{ℕ, ◌≡◌, Bool, true, false, List, [], ◌∷◌, ◌++◌, Option, inl, inr, refl, subst}
use Rattle.cx_base.specs.declared.addresses.Addr.{Addr}
use Rattle.cx_drive.specs.Agendas.{opening_agenda}
use Rattle.cx_drive.specs.Courses.{IsNodeRun}
use Rattle.cx_drive.proofs.Written.{run_written}
use Rattle.cx_drive.specs.declared.ends.Driven.{Driven}
use Rattle.cx_drive.specs.declared.flow.Order.{Order}
use Rattle.cx_drive.specs.declared.peers.Peers.{Peers}
use Rattle.cx_journal.specs.declared.entries.Entry.{Entry}
use Rattle.cx_outside.specs.linking.Acts.{LinkAct, Listened}
use Rattle.cx_outside.specs.declared.regard.Regard.{Regard}
use Rattle.cx_loading.specs.declared.ends.NodeEnd.{NodeEnd}
use Rattle.cx_rules.specs.Inputs.{Input}
use Rattle.cx_rules.specs.Rows.{Outcome}
use Rattle.cx_outside.specs.site.Acts.{Act, Linked}
use Rattle.cx_outside.specs.site.Telling.{CountsBy, clock_goes_on, dice_go_on, keeper_goes_on, links_count_on, links_go_on}
use Rattle.cx_drive_commands.specs.nodes.Outside.{Outside, Tells, outside}
use Rattle.cx_drive_commands.specs.nodes.Runs.{IsDeaf, Listens, Runs, end_of}

module _ {L : Type 0} (follows : L → L → List LinkAct → Type 0) where
  pub tells_on : ((a b c : L) (xs ys : List LinkAct) → follows a b xs → follows b c ys → follows a c (xs ++ ys))
      → (a b c : Outside L) (xs ys : List Act) → Tells follows a b xs → Tells follows b c ys → Tells follows a c (xs ++ ys)
  tells_on goes_on a b c xs ys p q = (
    keeper_goes_on a.kept b.kept c.kept a.keeper_faults b.keeper_faults c.keeper_faults xs ys p.0 q.0,
    links_go_on follows goes_on a.links b.links c.links xs ys p.1 q.1,
    links_count_on a.link_faults b.link_faults c.link_faults a.misses b.misses c.misses xs ys p.2 q.2,
    clock_goes_on a.readings b.readings c.readings xs ys p.3 q.3,
    dice_go_on a.draws b.draws c.draws a.dice_faults b.dice_faults c.dice_faults xs ys p.4 q.4,
  )

  -- it listened, or failed to
  pub listened : (a : Outside L) (now : L) (faults misses : ℕ) (at : Addr) (ok : Bool) → follows a.links now (Listened at ok ∷ []) → CountsBy ok a.link_faults faults → misses ≡ a.misses
      → Tells follows a (record a { links = now; link_faults = faults; misses = misses }) (Linked (Listened at ok) ∷ [])
  listened a now faults misses at ok did counts same = ((refl, refl), did, (counts, same), refl, (refl, refl))

module _ {L S : Type 0} (follows : L → L → List LinkAct → Type 0) (rule : S → Input → ℕ → List ℕ → Outcome S) (lost : S → Input → S) (rests : S → Bool) (regards : S → ℕ → Option Regard) (peers : Peers) where
  -- of a node that was driven so, with the same orders and an empty journal
  pub runs_of : (a b : Outside L) (s t : S) (told orders : List Order) (events : ℕ) (driven : Driven) (ending : NodeEnd) (entries entered : List Entry) → told ≡ orders
      → ending ≡ end_of driven → entries ≡ []
      → IsNodeRun rule lost rests regards peers (Tells follows a b) s t entries entered (opening_agenda told events) driven
      → Runs follows rule lost rests regards peers [] a b s orders events ending entered
  runs_of a b s t told orders events driven ending entries entered same ended none run = record {
    node = t;
    driven = driven;
    ended = ended;
    run = subst (λ (os : List Order). IsNodeRun rule lost rests regards peers (λ acts. Tells follows a b ([] ++ acts)) s t [] entered (opening_agenda os events) driven) same
        (subst (λ (es : List Entry). IsNodeRun rule lost rests regards peers (λ acts. Tells follows a b ([] ++ acts)) s t es entered (opening_agenda told events) driven) none run);
  }

module _ {L S T : Type 0} (follows : L → L → List LinkAct → Type 0) (held : S → Input → ℕ → List ℕ → Outcome S) (held_lost : S → Input → S) (held_rests : S → Bool) (held_regards : S → ℕ → Option Regard)
    (rule : T → Input → ℕ → List ℕ → Outcome T) (lost : T → Input → T) (rests : T → Bool) (regards : T → ℕ → Option Regard) (StandsFor : S → T → Type 0)
    (forgets : (m : S) (s : T) (input : Input) (reading : ℕ) (draw : List ℕ) → StandsFor m s
    → ((held m input reading draw).out ≡ (rule s input reading draw).out) × StandsFor (held m input reading draw).state (rule s input reading draw).state)
    (loses : (m : S) (s : T) (input : Input) → StandsFor m s → StandsFor (held_lost m input) (lost s input))
    (idles : (m : S) (s : T) → StandsFor m s → held_rests m ≡ rests s)
    (regarding : (m : S) (s : T) (link : ℕ) → StandsFor m s → held_regards m link ≡ regards s link)
    (peers : Peers) where
  -- what a machine does that stands for a state of its rule is what that rule gives
  pub runs_by_rule : (first : List Act) (a b : Outside L) (m : S) (s : T) (orders : List Order) (events : ℕ) (ending : NodeEnd) (entries : List Entry) → StandsFor m s
      → Runs follows held held_lost held_rests held_regards peers first a b m orders events ending entries → Runs follows rule lost rests regards peers first a b s orders events ending entries
  runs_by_rule first a b m s orders events ending entries st r =
      let w = run_written held held_lost held_rests held_regards rule lost rests regards StandsFor forgets loses idles regarding peers (λ acts. Tells follows a b (first ++ acts)) m r.node s [] entries
      (opening_agenda orders events) r.driven st r.run in
      record { node = w.0; driven = r.driven; ended = r.ended; run = w.2 }

module _ {L S : Type 0} (follows : L → L → List LinkAct → Type 0) (rule : S → Input → ℕ → List ℕ → Outcome S) (lost : S → Input → S) (rests : S → Bool) (regards : S → ℕ → Option Regard) (peers : Peers)
    (goes_on : (a b c : L) (xs ys : List LinkAct) → follows a b xs → follows b c ys → follows a c (xs ++ ys)) where
  -- behind some acts
  pub runs_behind : (first : List Act) (a m b : Outside L) (s : S) (orders : List Order) (events : ℕ) (ending : NodeEnd) (entries : List Entry) → Tells follows a m first
      → Runs follows rule lost rests regards peers [] m b s orders events ending entries → Runs follows rule lost rests regards peers first a b s orders events ending entries
  runs_behind first a m b s orders events ending entries told r = record {
    node = r.node;
    driven = r.driven;
    ended = r.ended;
    run = record {
      trace = r.run.trace;
      course = r.run.course;
      ending = r.run.ending;
      ends = r.run.ends;
      acts = tells_on follows goes_on a m b first _ told r.run.acts;
      node = r.run.node;
      more = r.run.more;
      short = r.run.short;
    };
  }

module _ {L S T : Type 0} (follows : L → L → List LinkAct → Type 0) (held : S → Input → ℕ → List ℕ → Outcome S) (held_lost : S → Input → S) (held_rests : S → Bool) (held_regards : S → ℕ → Option Regard)
    (rule : T → Input → ℕ → List ℕ → Outcome T) (lost : T → Input → T) (rests : T → Bool) (regards : T → ℕ → Option Regard) (peers : Peers) where
  -- and where it listens first
  pub listens_by : (at : Addr) (a b : Outside L) (m : S) (s : T) (orders : List Order) (events : ℕ) (ending : NodeEnd) (entries : List Entry)
      → (Runs follows held held_lost held_rests held_regards peers (Linked (Listened at true) ∷ []) a b m orders events ending entries
      → Runs follows rule lost rests regards peers (Linked (Listened at true) ∷ []) a b s orders events ending entries)
      → Listens follows held held_lost held_rests held_regards peers at a b m orders events ending entries → Listens follows rule lost rests regards peers at a b s orders events ending entries
  listens_by at a b m s orders events ending entries by (inl runs) = inl (by runs)
  listens_by at a b m s orders events ending entries by (inr deaf) = inr deaf
