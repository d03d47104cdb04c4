-- Facts of the links as they are held.
use Rattle.std.proofs.Common.{◌≡◌, ℕ, List, Result, Ok, Err, OnOk, refl}
use Rattle.cx_client_connect.specs.cx_rules_session.specs.Forgets.{abridged_call_link}
use Rattle.cx_node.specs.steps.Stages.{with_more}
use Rattle.cx_node.specs.steps.Steps.{IsFed}
use Rattle.cx_client_connect.specs.presenting.Stages.{link_held}
use Rattle.cx_client_connect.specs.declared.links.Stage.{Stage}
use Rattle.cx_client_connect.specs.declared.links.Stage.TheVariants as held

pub number_held : (number : ℕ) (stage : Stage) → (link_held number stage).number ≡ number
number_held number (held.AwaitsBanner wire called) = refl
number_held number (held.AwaitsHello wire called) = refl
number_held number (held.AwaitsChallenge wire callee presented) = refl
number_held number (held.AwaitsDone wire callee answered) = refl
number_held number (held.AwaitsSignature signing callee) = refl
number_held number (held.AwaitsIdent link callee cookie) = refl
number_held number (held.AwaitsReconnect link callee cookie) = refl
number_held number (held.Open link callee cookie) = refl

-- each of them is a link of which no more can be forgotten
pub held_abridged : (number : ℕ) (stage : Stage) → abridged_call_link (link_held number stage) ≡ link_held number stage
held_abridged number (held.AwaitsBanner wire called) = refl
held_abridged number (held.AwaitsHello wire called) = refl
held_abridged number (held.AwaitsChallenge wire callee presented) = refl
held_abridged number (held.AwaitsDone wire callee answered) = refl
held_abridged number (held.AwaitsSignature signing callee) = refl
held_abridged number (held.AwaitsIdent link callee cookie) = refl
held_abridged number (held.AwaitsReconnect link callee cookie) = refl
held_abridged number (held.Open link callee cookie) = refl

pub link_fed : {X E : Type 0} (number : ℕ) (old new : Stage) (bytes : List ℕ) (r : Result X E) → OnOk r (link_held number new ≡ with_more bytes (link_held number old))
    → OnOk r (IsFed abridged_call_link (link_held number old) bytes (link_held number new))
link_fed number old new bytes (Ok x) e = (e, held_abridged number new)
link_fed number old new bytes (Err error) e = tt
