-- Facts of the links as they are held.
use Rattle.std.proofs.Common.{◌≡◌, ℕ, List, Result, Ok, Err, OnOk, refl}
use Rattle.cx_monclient.specs.connector.Stages.{IsAheadAt, IsAheadOn, behind_asked, link_held, stage_ahead}
use Rattle.cx_monclient.specs.declared.links.OpenAhead.{OpenAhead}
use Rattle.cx_monclient.specs.declared.links.Stage.{Stage}
use Rattle.cx_monclient.specs.declared.links.Stage.TheVariants as held
use Rattle.cx_node.specs.cx_rules.specs.Abridged.{abridged_mon_client_link}
use Rattle.cx_node.specs.steps.Stages.{with_more}
use Rattle.cx_node.specs.steps.Steps.{IsFed}

pub number_held : (number : ℕ) (stage : Stage) → (link_held number stage).number ≡ number
number_held number (held.AwaitsBanner wire asked) = refl
number_held number (held.AwaitsHello wire asked) = refl
number_held number (held.AwaitsChallenge wire asked) = refl
number_held number (held.AwaitsDone wire) = refl
number_held number (held.AwaitsSignature signing login) = refl
number_held number (held.AwaitsIdent link session) = refl
number_held number (held.Open link requests) = refl

-- each of them is a link of which no more can be forgotten
pub held_abridged : (number : ℕ) (stage : Stage) → abridged_mon_client_link (link_held number stage) ≡ link_held number stage
held_abridged number (held.AwaitsBanner wire asked) = refl
held_abridged number (held.AwaitsHello wire asked) = refl
held_abridged number (held.AwaitsChallenge wire asked) = refl
held_abridged number (held.AwaitsDone wire) = refl
held_abridged number (held.AwaitsSignature signing login) = refl
held_abridged number (held.AwaitsIdent link session) = refl
held_abridged number (held.Open link requests) = refl

pub link_fed : {X E : Type 0} (number : ℕ) (old new : Stage) (bytes : List ℕ) (r : Result X E) → OnOk r (link_held number new ≡ with_more bytes (link_held number old))
    → OnOk r (IsFed abridged_mon_client_link (link_held number old) bytes (link_held number new))
link_fed number old new bytes (Ok x) e = (e, held_abridged number new)
link_fed number old new bytes (Err error) e = tt

-- a request that was sealed ahead on a link as it is held
pub ahead_held : (number : ℕ) (stage : Stage) (a : OpenAhead) → IsAheadOn (link_held number stage) a → IsAheadAt stage a
ahead_held number (held.AwaitsBanner wire asked) a h = h
ahead_held number (held.AwaitsHello wire asked) a h = h
ahead_held number (held.AwaitsChallenge wire asked) a h = h
ahead_held number (held.AwaitsDone wire) a h = h
ahead_held number (held.AwaitsSignature signing login) a h = h
ahead_held number (held.AwaitsIdent link session) a h = h
ahead_held number (held.Open link requests) a h = h

pub behind_held : (number : ℕ) (stage : Stage) (a : OpenAhead) → link_held number (stage_ahead stage a) ≡ behind_asked (link_held number stage) a
behind_held number (held.AwaitsBanner wire asked) a = refl
behind_held number (held.AwaitsHello wire asked) a = refl
behind_held number (held.AwaitsChallenge wire asked) a = refl
behind_held number (held.AwaitsDone wire) a = refl
behind_held number (held.AwaitsSignature signing login) a = refl
behind_held number (held.AwaitsIdent link session) a = refl
behind_held number (held.Open link requests) a = refl
