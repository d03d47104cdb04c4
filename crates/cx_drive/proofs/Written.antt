-- What a machine does that stands for states of its written rule is what that rule gives.
use Rattle.std.proofs.Common.{ℕ, ◌≡◌, Bool, true, false, List, [], ◌∷◌, ◌++◌, Option, Some, refl, sym, ap, ◌∙◌, subst}
use Rattle.cx_drive.specs.Agendas.{Agenda, after_event, after_step}
use Rattle.cx_drive.specs.Courses.{Came, Ending, IsCourse, IsEnding, IsNodeRun, Taken, Through, Took, Undrawn, Unlinked, Unsaved, Wanting, WantingIn, acts_from, after_took, agenda_after, ending_acts, ending_node, entries_from, node_after}
use Rattle.cx_drive.specs.Steps.{IsCarried, Went, carried_acts, carried_dues, effects_of, node_behind, regard_act, regard_acts, step_acts, step_links, told_acts, went_effects, went_node}
use Rattle.cx_drive.specs.declared.ends.Driven.{Driven}
use Rattle.cx_drive.specs.declared.ends.Ended.{Ended}
use Rattle.cx_drive.specs.declared.peers.Peers.{Peers}
use Rattle.cx_journal.specs.declared.entries.Entry.{Entry}
use Rattle.cx_client.specs.cx_rules_session.specs.cx_rules.specs.Inputs.{Input}
use Rattle.cx_client.specs.cx_rules_session.specs.cx_rules.specs.Rows.{Outcome}
use Rattle.cx_outside.specs.linking.Acts.{Gave}
use Rattle.cx_outside.specs.declared.regard.Regard.{Regard}
use Rattle.cx_mon.specs.cx_node.specs.steps.Events.{link_in}
use Rattle.cx_outside.specs.site.Acts.{Act, Linked, Read, Rolled}
use Rattle.cx_steps.specs.declared.effects.Effects.{Effects}

-- what regards links alike tells alike
same_regards : (f g : ℕ → Option Regard) → ((link : ℕ) → f link ≡ g link) → (links : List ℕ) → regard_acts f links ≡ regard_acts g links
same_regards f g same [] = refl
same_regards f g same (link ∷ links) =
    ap (λ (r : Option Regard). regard_act link r ++ regard_acts f links) (same link) ∙ ap (λ (k : List Act). regard_act link (g link) ++ k) (same_regards f g same links)

module _ {S T : Type 0} (held : S → Input → ℕ → List ℕ → Outcome S) (held_lost : S → Input → S) (held_rests : S → Bool) (held_regards : S → ℕ → Option Regard)
    (written : T → Input → ℕ → List ℕ → Outcome T) (lost : T → Input → T) (rests : T → Bool) (regards : T → ℕ → Option Regard) (StandsFor : S → T → Type 0)
    (forgets : (m : S) (s : T) (input : Input) (reading : ℕ) (draw : List ℕ) → StandsFor m s
    → ((held m input reading draw).out ≡ (written s input reading draw).out) × StandsFor (held m input reading draw).state (written s input reading draw).state)
    (loses : (m : S) (s : T) (input : Input) → StandsFor m s → StandsFor (held_lost m input) (lost s input))
    (idles : (m : S) (s : T) → StandsFor m s → held_rests m ≡ rests s)
    (regarding : (m : S) (s : T) (link : ℕ) → StandsFor m s → held_regards m link ≡ regards s link)
    (peers : Peers) where
  -- ---- one step

  effects : (m : S) (s : T) → StandsFor m s → (input : Input) (reading : ℕ) (draw : List ℕ) (short : Bool)
      → effects_of held held_lost m input reading draw short ≡ effects_of written lost s input reading draw short
  effects m s st input reading draw true = refl
  effects m s st input reading draw false = (forgets m s input reading draw st).0

  nodes : (m : S) (s : T) → StandsFor m s → (input : Input) (reading : ℕ) (draw : List ℕ) (short : Bool)
      → StandsFor (node_behind held held_lost m input reading draw short) (node_behind written lost s input reading draw short)
  nodes m s st input reading draw true = loses m s input st
  nodes m s st input reading draw false = (forgets m s input reading draw st).1

  went : (m : S) (s : T) → StandsFor m s → (input : Input) (w : Went) → went_effects held held_lost m input w ≡ went_effects written lost s input w
  went m s st input w = effects m s st input w.reading w.draw w.short

  behind : (m : S) (s : T) → StandsFor m s → (input : Input) (w : Went) → StandsFor (went_node held held_lost m input w) (went_node written lost s input w)
  behind m s st input w = nodes m s st input w.reading w.draw w.short

  after : (m : S) (s : T) → StandsFor m s → (input : Input) (w : Went) (a : Agenda) → after_took held held_lost peers m input w a ≡ after_took written lost peers s input w a
  after m s st input w a =
      ap (λ (out : Effects). after_step input w.short out.turned (carried_dues peers w.sends w.opens) a) (went m s st input w)

  -- ---- a run

  stands_after : (m : S) (s : T) (ts : List Taken) → StandsFor m s → StandsFor (node_after held held_lost peers m ts) (node_after written lost peers s ts)
  stands_after m s [] st = st
  stands_after m s (Came event bytes ∷ ts) st = stands_after m s ts st
  stands_after m s (Took input w ∷ ts) st = stands_after (went_node held held_lost m input w) (went_node written lost s input w) ts (behind m s st input w)

  told : (m : S) (s : T) → StandsFor m s → (input : Input) (out : Effects) → told_acts (held_regards m) input out ≡ told_acts (regards s) input out
  told m s st input out = same_regards (held_regards m) (regards s) (λ link. regarding m s link st) (step_links (link_in input) out.sends)

  -- the acts of a step, by what it gives and by what is told of its links
  abbrev acts_by : Went → Effects → List Act → List Act
  acts_by w out tell = Rolled (Some w.draw) ∷ Read w.reading ∷ (carried_acts peers out w.sends w.opens ++ tell)

  step : (m : S) (s : T) → StandsFor m s → (input : Input) (w : Went)
      → step_acts held held_lost held_regards peers m input w ≡ step_acts written lost regards peers s input w
  step m s st input w =
      ap (λ (out : Effects). acts_by w out (told_acts (held_regards (went_node held held_lost m input w)) input out)) (went m s st input w)
      ∙ ap (acts_by w (went_effects written lost s input w))
      (told (went_node held held_lost m input w) (went_node written lost s input w) (behind m s st input w) input (went_effects written lost s input w))

  acts : (m : S) (s : T) (ts : List Taken) → StandsFor m s → acts_from held held_lost held_regards peers m ts ≡ acts_from written lost regards peers s ts
  acts m s [] st = refl
  acts m s (Came event bytes ∷ ts) st = ap (λ (k : List Act). Linked (Gave event bytes) ∷ k) (acts m s ts st)
  acts m s (Took input w ∷ ts) st =
      ap (λ (k : List Act). k ++ acts_from held held_lost held_regards peers (went_node held held_lost m input w) ts) (step m s st input w)
      ∙ ap (λ (k : List Act). step_acts written lost regards peers s input w ++ k) (acts (went_node held held_lost m input w) (went_node written lost s input w) ts (behind m s st input w))

  entries : (m : S) (s : T) (ts : List Taken) → StandsFor m s → entries_from held held_lost peers m ts ≡ entries_from written lost peers s ts
  entries m s [] st = refl
  entries m s (Came event bytes ∷ ts) st = entries m s ts st
  entries m s (Took input w ∷ ts) st =
      ap (λ (out : Effects). out.entries ++ entries_from held held_lost peers (went_node held held_lost m input w) ts) (went m s st input w)
      ∙ ap (λ (k : List Entry). (went_effects written lost s input w).entries ++ k) (entries (went_node held held_lost m input w) (went_node written lost s input w) ts (behind m s st input w))

  agendas : (m : S) (s : T) (a : Agenda) (ts : List Taken) → StandsFor m s → agenda_after held held_lost held_rests peers m a ts ≡ agenda_after written lost rests peers s a ts
  agendas m s a [] st = refl
  agendas m s a (Came event bytes ∷ ts) st =
      ap (λ (b : Bool). agenda_after held held_lost held_rests peers m (after_event b event bytes a) ts) (idles m s st)
      ∙ agendas m s (after_event (rests s) event bytes a) ts st
  agendas m s a (Took input w ∷ ts) st =
      ap (λ (b : Agenda). agenda_after held held_lost held_rests peers (went_node held held_lost m input w) b ts) (after m s st input w a)
      ∙ agendas (went_node held held_lost m input w) (went_node written lost s input w) (after_took written lost peers s input w a) ts (behind m s st input w)

  courses : (m : S) (s : T) (a : Agenda) (ts : List Taken) → StandsFor m s → IsCourse held held_lost held_rests peers m a ts → IsCourse written lost rests peers s a ts
  courses m s a [] st p = tt
  courses m s a (Came event bytes ∷ ts) st (waits, p) = (
    waits,
    courses m s (after_event (rests s) event bytes a) ts st
        (subst (λ (b : Bool). IsCourse held held_lost held_rests peers m (after_event b event bytes a) ts) (idles m s st) p),
  )
  courses m s a (Took input w ∷ ts) st (next, is, p) = (
    next,
    subst (λ (out : Effects). IsCarried out w.sends w.opens) (went m s st input w) is,
    courses (went_node held held_lost m input w) (went_node written lost s input w) (after_took written lost peers s input w a) ts (behind m s st input w)
        (subst (λ (b : Agenda). IsCourse held held_lost held_rests peers (went_node held held_lost m input w) b ts) (after m s st input w a) p),
  )

  -- ---- its end

  ends : (m : S) (s : T) (a : Agenda) (e : Ending) (how : Ended) → StandsFor m s → IsEnding held held_lost m a e how → IsEnding written lost s a e how
  ends m s a Through how st p = p
  ends m s a Unlinked how st p = p
  ends m s a (Undrawn input) how st p = p
  ends m s a (Unsaved input reading draw state) how st (is, next, save) =
      (is, next, sym (ap (λ (out : Effects). out.save) (forgets m s input reading draw st).0) ∙ save)
  ends m s a Wanting how st p = p
  ends m s a (WantingIn input reading draw short) how st p = p

  stands_ending : (m : S) (s : T) (e : Ending) → StandsFor m s → StandsFor (ending_node held held_lost m e) (ending_node written lost s e)
  stands_ending m s Through st = st
  stands_ending m s Unlinked st = st
  stands_ending m s (Undrawn input) st = st
  stands_ending m s (Unsaved input reading draw state) st = (forgets m s input reading draw st).1
  stands_ending m s Wanting st = st
  stands_ending m s (WantingIn input reading draw short) st = nodes m s st input reading draw short

  pub run_written : (tells : List Act → Type 0) (m n : S) (s : T) (es fs : List Entry) (a : Agenda) (how : Driven) → StandsFor m s
      → IsNodeRun held held_lost held_rests held_regards peers tells m n es fs a how → (t : T) × StandsFor n t × IsNodeRun written lost rests regards peers tells s t es fs a how
  run_written tells m n s es fs a how st q =
      let ts : List Taken = q.trace in
      let t : T = ending_node written lost (node_after written lost peers s ts) q.ending in (
        t,
        subst (λ (k : S). StandsFor k t) (sym q.node)
            (stands_ending (node_after held held_lost peers m ts) (node_after written lost peers s ts) q.ending (stands_after m s ts st)),
        record {
          trace = ts;
          course = courses m s a ts st q.course;
          ending = q.ending;
          ends = ends (node_after held held_lost peers m ts) (node_after written lost peers s ts) (agenda_after written lost rests peers s a ts) q.ending how.ended (stands_after m s ts st)
              (subst (λ (b : Agenda). IsEnding held held_lost (node_after held held_lost peers m ts) b q.ending how.ended) (agendas m s a ts st) q.ends);
          acts = subst (λ (k : List Act). tells (k ++ ending_acts q.ending)) (acts m s ts st) q.acts;
          node = refl;
          more = q.more ∙ ap (λ (k : List Entry). es ++ k) (entries m s ts st);
          short = q.short ∙ ap (λ (b : Agenda). b.short) (agendas m s a ts st);
        },
      )
