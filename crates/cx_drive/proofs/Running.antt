-- Runs grow thing by thing, and end.
use Rattle.std.proofs.Common.{ℕ, ◌≡◌, Bool, List, [], ◌∷◌, ◌++◌, Option, Some, None, refl, sym, ap, ◌∙◌, subst, append_assoc, append-nil}
use Rattle.cx_drive.specs.Agendas.{Agenda, AwaitsLinks, IsOver, after_event, next_input}
use Rattle.cx_drive.specs.Courses.{Came, IsCourse, IsEnding, Ran, RanOn, RanTo, Taken, Through, Took, Undrawn, Unlinked, Unsaved, Wanting, WantingIn, acts_from, after_took, agenda_after, ending_acts, ending_node, entries_from, node_after}
use Rattle.cx_drive.specs.Steps.{Went, step_acts, went_effects, went_node}
use Rattle.cx_drive.specs.Stops.{Scene, StepGoes, Stopped, scene}
use Rattle.cx_drive.specs.declared.ends.Driven.{Driven}
use Rattle.cx_drive.specs.declared.ends.Ended.{Ended}
use Rattle.cx_drive.specs.declared.ends.Ended.TheVariants as ended
use Rattle.cx_drive.specs.declared.peers.Peers.{Peers}
use Rattle.cx_drive.specs.declared.stops.Stop.{Stop}
use Rattle.cx_drive.specs.declared.stops.Stop.TheVariants as stop
use Rattle.cx_journal.specs.declared.entries.Entry.{Entry}
use Rattle.cx_outside.specs.linking.Acts.{Broke, Gave}
use Rattle.cx_outside.specs.declared.events.LinkEvent.{LinkEvent}
use Rattle.cx_outside.specs.declared.regard.Regard.{Regard}
use Rattle.cx_client.specs.cx_rules_session.specs.cx_rules.specs.Inputs.{Input}
use Rattle.cx_client.specs.cx_rules_session.specs.cx_rules.specs.Rows.{Outcome}
use Rattle.cx_outside.specs.site.Acts.{Act, Linked}

abbrev driven : Ended → Bool → Driven
driven how short = record { ended = how; short = short }

module _ {S : Type 0} (rule : S → Input → ℕ → List ℕ → Outcome S) (lost : S → Input → S) (peers : Peers) where
  node_on : (s : S) (ts us : List Taken) → node_after rule lost peers s (ts ++ us) ≡ node_after rule lost peers (node_after rule lost peers s ts) us
  node_on s [] us = refl
  node_on s (Came event bytes ∷ ts) us = node_on s ts us
  node_on s (Took input went ∷ ts) us = node_on (went_node rule lost s input went) ts us

  entries_on : (s : S) (ts us : List Taken)
      → entries_from rule lost peers s (ts ++ us) ≡ entries_from rule lost peers s ts ++ entries_from rule lost peers (node_after rule lost peers s ts) us
  entries_on s [] us = refl
  entries_on s (Came event bytes ∷ ts) us = entries_on s ts us
  entries_on s (Took input went ∷ ts) us =
      let next : S = went_node rule lost s input went in
      ap (λ k. (went_effects rule lost s input went).entries ++ k) (entries_on next ts us)
      ∙ sym (append_assoc (went_effects rule lost s input went).entries (entries_from rule lost peers next ts) (entries_from rule lost peers (node_after rule lost peers next ts) us))

module _ {S : Type 0} (rule : S → Input → ℕ → List ℕ → Outcome S) (lost : S → Input → S) (regards : S → ℕ → Option Regard) (peers : Peers) where
  acts_on : (s : S) (ts us : List Taken)
      → acts_from rule lost regards peers s (ts ++ us) ≡ acts_from rule lost regards peers s ts ++ acts_from rule lost regards peers (node_after rule lost peers s ts) us
  acts_on s [] us = refl
  acts_on s (Came event bytes ∷ ts) us = ap (λ k. Linked (Gave event bytes) ∷ k) (acts_on s ts us)
  acts_on s (Took input went ∷ ts) us =
      let next : S = went_node rule lost s input went in
      ap (λ k. step_acts rule lost regards peers s input went ++ k) (acts_on next ts us)
      ∙ sym (append_assoc (step_acts rule lost regards peers s input went) (acts_from rule lost regards peers next ts) (acts_from rule lost regards peers (node_after rule lost peers next ts) us))

module _ {S : Type 0} (rule : S → Input → ℕ → List ℕ → Outcome S) (lost : S → Input → S) (rests : S → Bool) (peers : Peers) where
  agenda_on : (s : S) (a : Agenda) (ts us : List Taken)
      → agenda_after rule lost rests peers s a (ts ++ us)
      ≡ agenda_after rule lost rests peers (node_after rule lost peers s ts) (agenda_after rule lost rests peers s a ts) us
  agenda_on s a [] us = refl
  agenda_on s a (Came event bytes ∷ ts) us = agenda_on s (after_event (rests s) event bytes a) ts us
  agenda_on s a (Took input went ∷ ts) us = agenda_on (went_node rule lost s input went) (after_took rule lost peers s input went a) ts us

  course_on : (s : S) (a : Agenda) (ts us : List Taken) → IsCourse rule lost rests peers s a ts
      → IsCourse rule lost rests peers (node_after rule lost peers s ts) (agenda_after rule lost rests peers s a ts) us → IsCourse rule lost rests peers s a (ts ++ us)
  course_on s a [] us p q = q
  course_on s a (Came event bytes ∷ ts) us (waits, p) q = (waits, course_on s (after_event (rests s) event bytes a) ts us p q)
  course_on s a (Took input went ∷ ts) us (next, is, p) q =
      (next, is, course_on (went_node rule lost s input went) (after_took rule lost peers s input went a) ts us p q)

module _ {D S : Type 0} (follows : D → D → List Act → Type 0) (rule : S → Input → ℕ → List ℕ → Outcome S) (lost : S → Input → S) (rests : S → Bool) (regards : S → ℕ → Option Regard)
    (stays : (s : D) → follows s s []) (goes_on : (a b c : D) (xs ys : List Act) → follows a b xs → follows b c ys → follows a c (xs ++ ys)) (peers : Peers) where
  -- ---- a run of one thing, and of none

  pub ran_step : (input : Input) (went : Went) (a b : Scene D S) (x y : Agenda) → next_input x ≡ Some input → StepGoes follows rule lost regards peers input went a b
      → y ≡ after_took rule lost peers a.node input went x → Ran follows rule lost rests regards peers a b x y
  ran_step input went a b x y next goes noted = record {
    trace = Took input went ∷ [];
    course = (next, goes.carried, tt);
    acts = subst (follows a.site b.site) (sym (append-nil (step_acts rule lost regards peers a.node input went))) goes.acts;
    node = goes.node;
    entries = goes.entries ∙ ap (λ es. a.entries ++ es) (sym (append-nil (went_effects rule lost a.node input went).entries));
    agenda = noted;
  }

  pub ran_came : (event : LinkEvent) (bytes : List ℕ) (a b : D) (node : S) (entries : List Entry) (x : Agenda) → AwaitsLinks x
      → follows a b (Linked (Gave event bytes) ∷ [])
      → Ran follows rule lost rests regards peers (scene a node entries) (scene b node entries) x (after_event (rests node) event bytes x)
  ran_came event bytes a b node entries x waits p = record {
    trace = Came event bytes ∷ [];
    course = (waits, tt);
    acts = p;
    node = refl;
    entries = sym (append-nil entries);
    agenda = refl;
  }

  -- ---- how a run ends, behind nothing

  -- all came
  pub done : (a : Scene D S) (x : Agenda) → IsOver x → RanTo follows rule lost rests regards peers a a x (driven ended.Done x.short)
  done a x over = record {
    trace = [];
    course = tt;
    ending = Through;
    ends = (refl, over);
    acts = stays a.site;
    node = refl;
    more = sym (append-nil a.entries);
    short = refl;
  }

  -- memory was wanting
  pub wants : (a : Scene D S) (x : Agenda) (short : Bool) → short ≡ x.short → RanTo follows rule lost rests regards peers a a x (driven (ended.Stopped stop.Memory) short)
  wants a x short told = record {
    trace = [];
    course = tt;
    ending = Wanting;
    ends = refl;
    acts = stays a.site;
    node = refl;
    more = sym (append-nil a.entries);
    short = told;
  }

  -- a wait failed
  pub breaks : (a b : D) (node : S) (entries : List Entry) (x : Agenda) → AwaitsLinks x → follows a b (Linked Broke ∷ [])
      → RanTo follows rule lost rests regards peers (scene a node entries) (scene b node entries) x (driven ended.Links x.short)
  breaks a b node entries x waits p = record {
    trace = [];
    course = tt;
    ending = Unlinked;
    ends = (refl, waits);
    acts = p;
    node = refl;
    more = sym (append-nil entries);
    short = refl;
  }

  -- it stopped in a step
  pub stops : (input : Input) (a b : Scene D S) (x : Agenda) (short : Bool) (why : Stop) → next_input x ≡ Some input → short ≡ x.short
      → Stopped follows rule lost input a b why → RanTo follows rule lost rests regards peers a b x (driven (ended.Stopped why) short)
  stops input a b x short stop.Dice next told p = record {
    trace = [];
    course = tt;
    ending = Undrawn input;
    ends = (refl, next);
    acts = p.acts;
    node = p.node;
    more = p.entries ∙ sym (append-nil a.entries);
    short = told;
  }
  stops input a b x short stop.Keeper next told p = record {
    trace = [];
    course = tt;
    ending = Unsaved input p.reading p.draw p.state;
    ends = (refl, next, p.due);
    acts = p.acts;
    node = p.node;
    more = p.entries ∙ sym (append-nil a.entries);
    short = told;
  }
  stops input a b x short stop.Memory next told p = record {
    trace = [];
    course = tt;
    ending = WantingIn input p.reading p.draw p.short;
    ends = (refl, next);
    acts = p.acts;
    node = p.node;
    more = p.entries ∙ sym (append-nil a.entries);
    short = told;
  }

  -- ---- a run behind another

  module _ (a b c : Scene D S) (x y : Agenda) (p : Ran follows rule lost rests regards peers a b x y) where
    -- the node and the agenda behind both, told from the first
    both_nodes : (us : List Taken) → node_after rule lost peers b.node us ≡ node_after rule lost peers a.node (p.trace ++ us)
    both_nodes us = ap (λ s. node_after rule lost peers s us) p.node ∙ sym (node_on rule lost peers a.node p.trace us)

    both_agendas : (us : List Taken) → agenda_after rule lost rests peers b.node y us ≡ agenda_after rule lost rests peers a.node x (p.trace ++ us)
    both_agendas us =
        ap (λ s. agenda_after rule lost rests peers s y us) p.node
        ∙ ap (λ z. agenda_after rule lost rests peers (node_after rule lost peers a.node p.trace) z us) p.agenda
        ∙ sym (agenda_on rule lost rests peers a.node x p.trace us)

    both_courses : (us : List Taken) → IsCourse rule lost rests peers b.node y us → IsCourse rule lost rests peers a.node x (p.trace ++ us)
    both_courses us q = course_on rule lost rests peers a.node x p.trace us p.course
        (subst (λ s. IsCourse rule lost rests peers s (agenda_after rule lost rests peers a.node x p.trace) us) p.node
        (subst (λ z. IsCourse rule lost rests peers b.node z us) p.agenda q))

    both_acts : (us : List Taken) → acts_from rule lost regards peers a.node p.trace ++ acts_from rule lost regards peers b.node us ≡ acts_from rule lost regards peers a.node (p.trace ++ us)
    both_acts us =
        ap (λ s. acts_from rule lost regards peers a.node p.trace ++ acts_from rule lost regards peers s us) p.node ∙ sym (acts_on rule lost regards peers a.node p.trace us)

    both_entries : (us : List Taken) (es : List Entry) → es ≡ b.entries ++ entries_from rule lost peers b.node us
        → es ≡ a.entries ++ entries_from rule lost peers a.node (p.trace ++ us)
    both_entries us es q = q ∙ ap (λ k. k ++ entries_from rule lost peers b.node us) p.entries
        ∙ append_assoc a.entries (entries_from rule lost peers a.node p.trace) (entries_from rule lost peers b.node us)
        ∙ ap (λ s. a.entries ++ (entries_from rule lost peers a.node p.trace ++ entries_from rule lost peers s us)) p.node
        ∙ ap (λ k. a.entries ++ k) (sym (entries_on rule lost peers a.node p.trace us))

    ran_ran : (z : Agenda) → Ran follows rule lost rests regards peers b c y z → Ran follows rule lost rests regards peers a c x z
    ran_ran z q = record {
      trace = p.trace ++ q.trace;
      course = both_courses q.trace q.course;
      acts = subst (follows a.site c.site) (both_acts q.trace) (goes_on a.site b.site c.site _ _ p.acts q.acts);
      node = q.node ∙ both_nodes q.trace;
      entries = both_entries q.trace c.entries q.entries;
      agenda = q.agenda ∙ both_agendas q.trace;
    }

    ran_end : (how : Driven) → RanTo follows rule lost rests regards peers b c y how → RanTo follows rule lost rests regards peers a c x how
    ran_end how q = record {
      trace = p.trace ++ q.trace;
      course = both_courses q.trace q.course;
      ending = q.ending;
      ends = subst (λ s. IsEnding rule lost s (agenda_after rule lost rests peers a.node x (p.trace ++ q.trace)) q.ending how.ended) (both_nodes q.trace)
          (subst (λ z. IsEnding rule lost (node_after rule lost peers b.node q.trace) z q.ending how.ended) (both_agendas q.trace) q.ends);
      acts = subst (follows a.site c.site)
          (sym (append_assoc (acts_from rule lost regards peers a.node p.trace) (acts_from rule lost regards peers b.node q.trace) (ending_acts q.ending))
          ∙ ap (λ k. k ++ ending_acts q.ending) (both_acts q.trace))
          (goes_on a.site b.site c.site _ _ p.acts q.acts);
      node = q.node ∙ ap (λ s. ending_node rule lost s q.ending) (both_nodes q.trace);
      more = both_entries q.trace c.entries q.more;
      short = q.short ∙ ap (λ z. z.short) (both_agendas q.trace);
    }

  pub ran_on : (a b c : Scene D S) (x y z : Agenda) → Ran follows rule lost rests regards peers a b x y → Ran follows rule lost rests regards peers b c y z
      → Ran follows rule lost rests regards peers a c x z
  ran_on a b c x y z p q = ran_ran a b c x y p z q

  pub ran_to : (a b c : Scene D S) (x y : Agenda) (how : Driven) → Ran follows rule lost rests regards peers a b x y → RanTo follows rule lost rests regards peers b c y how
      → RanTo follows rule lost rests regards peers a c x how
  ran_to a b c x y how p q = ran_end a b c x y p how q

  pub on : (a b c : Scene D S) (x y z : Agenda) (how : Option Ended) → Ran follows rule lost rests regards peers a b x y → RanOn follows rule lost rests regards peers b c y z how
      → RanOn follows rule lost rests regards peers a c x z how
  on a b c x y z None p q = ran_on a b c x y z p q
  on a b c x y z (Some how) p q = ran_to a b c x y (driven how z.short) p q
