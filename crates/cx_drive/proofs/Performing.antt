-- A step that was carried out, and one in which the run stopped.
use Rattle.std.proofs.Common.{ℕ, ◌≡◌, Bool, true, false, List, [], ◌∷◌, ◌++◌, Option, Some, None, refl, sym, ap, ◌∙◌, subst}
use Rattle.cx_drive.specs.Steps.{IsCarried, Opening, Sending, carried_acts, effects_of, node_behind, told_acts}
use Rattle.cx_drive.specs.Stops.{Carried, GivesUp, Performed, Stopped, FailsInStep}
use Rattle.cx_drive.specs.declared.dues.Due.{Due}
use Rattle.cx_drive.specs.declared.peers.Peers.{Peers}
use Rattle.cx_drive.specs.declared.stops.Stop.{Stop}
use Rattle.cx_drive.specs.declared.stops.Stop.TheVariants as stop
use Rattle.cx_journal.specs.declared.entries.Entry.{Entry}
use Rattle.cx_outside.specs.declared.regard.Regard.{Regard}
use Rattle.cx_rotate.specs.declared.states.KeptState.{KeptState}
use Rattle.cx_client.specs.cx_rules_session.specs.cx_rules.specs.Inputs.{Input}
use Rattle.cx_client.specs.cx_rules_session.specs.cx_rules.specs.Rows.{Outcome}
use Rattle.cx_outside.specs.site.Acts.{Act, Read, Rolled, Saved}
use Rattle.cx_steps.specs.declared.effects.Effects.{Effects}

module _ {D S : Type 0} (follows : D → D → List Act → Type 0) (rule : S → Input → ℕ → List ℕ → Outcome S) (lost : S → Input → S)
    (goes_on : (a b c : D) (xs ys : List Act) → follows a b xs → follows b c ys → follows a c (xs ++ ys)) where
  -- a step for which memory was wanting saves nothing
  unsaved : (input : Input) (reading : ℕ) (draw : List ℕ) (short : Bool) (state : KeptState) (a d : D) (node after : S) (entries entered : List Entry)
      → (effects_of rule lost node input reading draw short).save ≡ Some state → after ≡ node_behind rule lost node input reading draw short
      → follows a d (Rolled (Some draw) ∷ Read reading ∷ Saved state false ∷ []) → entered ≡ entries
      → FailsInStep follows rule lost input (record { site = a; node = node; entries = entries }) (record { site = d; node = after; entries = entered })
  unsaved input reading draw true state a d node after entries entered due behind acts same = absurd (let e : None ≡ Some state = due in cc)
  unsaved input reading draw false state a d node after entries entered due behind acts same = record {
    reading = reading;
    draw = draw;
    state = state;
    due = due;
    acts = acts;
    node = behind;
    entries = same;
  }

  pub stopped : (input : Input) (reading : ℕ) (draw : List ℕ) (short : Bool) (out : Effects) (a b c d : D) (node after : S) (entries entered : List Entry) (why : Stop)
      → follows a b (Rolled (Some draw) ∷ []) → follows b c (Read reading ∷ []) → out ≡ effects_of rule lost node input reading draw short
      → after ≡ node_behind rule lost node input reading draw short → GivesUp follows out.save c d why → entered ≡ entries
      → Stopped follows rule lost input (record { site = a; node = node; entries = entries }) (record { site = d; node = after; entries = entered }) why
  stopped input reading draw short out a b c d node after entries entered stop.Dice rolled read is state up same = absurd up
  stopped input reading draw short out a b c d node after entries entered stop.Memory rolled read is state up same = record {
    reading = reading;
    draw = draw;
    short = short;
    acts = goes_on a b d _ _ rolled (goes_on b c d _ _ read up);
    node = state;
    entries = same;
  }
  stopped input reading draw short out a b c d node after entries entered stop.Keeper rolled read is state up same =
      unsaved input reading draw short up.state a d node after entries entered (sym (ap (λ o. o.save) is) ∙ up.due) state
      (goes_on a b d _ _ rolled (goes_on b c d _ _ read up.acts)) same

module _ {D S : Type 0} (follows : D → D → List Act → Type 0) (rule : S → Input → ℕ → List ℕ → Outcome S) (lost : S → Input → S) (regards : S → ℕ → Option Regard)
    (goes_on : (a b c : D) (xs ys : List Act) → follows a b xs → follows b c ys → follows a c (xs ++ ys)) where
  -- what was carried out and told, as that of the rule
  told_behind : (peers : Peers) (input : Input) (out made : Effects) (after behind : S) (sends : List Sending) (opens : List Opening) (c d e : D) → out ≡ made → after ≡ behind
      → follows c d (carried_acts peers out sends opens) → follows d e (told_acts (regards after) input out)
      → follows c e (carried_acts peers made sends opens ++ told_acts (regards behind) input made)
  told_behind peers input out made after behind sends opens c d e is state carried told =
      goes_on c d e (carried_acts peers made sends opens) (told_acts (regards behind) input made)
      (subst (λ o. follows c d (carried_acts peers o sends opens)) is carried)
      (subst (λ o. follows d e (told_acts (regards behind) input o)) is (subst (λ n. follows d e (told_acts (regards n) input out)) state told))

  pub performed : (peers : Peers) (input : Input) (reading : ℕ) (draw : List ℕ) (short : Bool) (out : Effects) (a b c d e : D) (node after : S) (entries entered : List Entry) (old new : List Due)
      → follows a b (Rolled (Some draw) ∷ []) → follows b c (Read reading ∷ []) → out ≡ effects_of rule lost node input reading draw short
      → after ≡ node_behind rule lost node input reading draw short → Carried follows peers out c d old new → entered ≡ entries ++ out.entries
      → follows d e (told_acts (regards after) input out)
      → Performed follows rule lost regards peers input (record { site = a; node = node; entries = entries }) (record { site = e; node = after; entries = entered })
      old new (record { short = short; turned = out.turned })
  performed peers input reading draw short out a b c d e node after entries entered old new rolled read is state ca more told = record {
    went = record { reading = reading; draw = draw; short = short; sends = ca.sends; opens = ca.opens };
    goes = record {
      carried = subst (λ o. IsCarried o ca.sends ca.opens) is ca.carried;
      acts = goes_on a b e _ _ rolled (goes_on b c e _ _ read
          (told_behind peers input out (effects_of rule lost node input reading draw short) after (node_behind rule lost node input reading draw short) ca.sends ca.opens c d e is state ca.acts told));
      node = state;
      entries = more ∙ ap (λ o. entries ++ o.entries) is;
    };
    short = refl;
    turned = ap (λ o. o.turned) is;
    dues = ca.behind;
  }
