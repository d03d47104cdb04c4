-- What a step saves may be kept: it is what was saved last, behind the step.
use Rattle.std.proofs.Common.{◌≡◌, Bool, true, false, inl, inr, Option, Some, None, IfSome, refl, sym, subst, ◌∙◌}
use Rattle.std.specs.Prelude.{if◌then◌else◌}
use Rattle.cx_rotate.specs.Keeping.{IsKeptState}
use Rattle.cx_rotate.specs.declared.states.KeptState.{KeptState}
use Rattle.cx_rules.specs.Inputs.{Input}
use Rattle.cx_rules.specs.Judged.{IsJudged}
use Rattle.cx_rules.specs.KeptStates.{changed, same_state}
use Rattle.cx_rules.specs.Monitor.{MonitorNode}
use Rattle.cx_rules.specs.Rows.{Outcome}
use Rattle.cx_steps.specs.declared.effects.Effects.{Effects}

changed_is : (b : Bool) (state s : KeptState) → (if b then None else Some state) ≡ Some s → s ≡ state
changed_is true state s e = absurd (cc)
changed_is false state s e = cc

state_saved : (before : MonitorNode) (o : Outcome MonitorNode) (s : KeptState) → o.out.save ≡ changed before.own.saved o.state.own.server.state
    → o.state.own.saved ≡ o.state.own.server.state → o.out.save ≡ Some s → s ≡ o.state.own.saved
state_saved before o s save saved e =
    changed_is (same_state o.state.own.server.state before.own.saved) o.state.own.server.state s (sym save ∙ e) ∙ sym saved

judged_saves : (before : MonitorNode) (input : Input) (o : Outcome MonitorNode) (s : KeptState) → IsJudged before input o → o.out.save ≡ Some s → s ≡ o.state.own.saved
judged_saves before input o s (inl quiet) e = let none : o.out.save ≡ None = quiet.save in absurd (cc)
judged_saves before input o s (inr (inl granting)) e = state_saved before o s granting.save granting.saved e
judged_saves before input o s (inr (inr replying)) e = state_saved before o s replying.save replying.saved e

some_kept : (save : Option KeptState) (saved : KeptState) → ((s : KeptState) → save ≡ Some s → s ≡ saved) → IsKeptState saved → IfSome save IsKeptState
some_kept None saved is kept = tt
some_kept (Some s) saved is kept = subst IsKeptState (sym (is s refl)) kept

pub saves_kept : (before : MonitorNode) (input : Input) (o : Outcome MonitorNode) (saved : KeptState) (given : Effects) → IsJudged before input o → given ≡ o.out
    → saved ≡ o.state.own.saved → IsKeptState saved → IfSome given.save IsKeptState
saves_kept before input o saved given judged is s kept =
    rw is (some_kept o.out.save saved (λ (k : KeptState) (e : o.out.save ≡ Some k). judged_saves before input o k judged e ∙ sym s) kept)
