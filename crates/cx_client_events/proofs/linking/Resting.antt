-- Whether nothing is waited for on a link to a daemon.
use Rattle.std.proofs.Common.{◌≡◌, true, false, List, refl}
use Rattle.std.specs.Prelude.{not}
use Rattle.cx_node.specs.cx_rules_session.specs.ClientRule.{ToDaemon, is_at_rest}
use Rattle.cx_node.specs.cx_rules_session.specs.Presenter.{CallStage, AwaitsBanner, AwaitsHello, AwaitsChallenge, AwaitsDone, AwaitsSignature, AwaitsIdent, AwaitsReconnect, Open, callee_of, is_open}
use Rattle.cx_node.specs.cx_rules_session.specs.Sessions.{HeldSession, is_unacknowledged, session_with}

pub rests : (sessions : List HeldSession) (stage : CallStage) → is_open stage ≡ true
    → is_at_rest sessions (ToDaemon stage) ≡ not (is_unacknowledged (session_with (callee_of stage).daemon sessions))
rests sessions (AwaitsBanner called) is = absurd (cc)
rests sessions (AwaitsHello called) is = absurd (cc)
rests sessions (AwaitsChallenge callee presented) is = absurd (cc)
rests sessions (AwaitsDone callee answered) is = absurd (cc)
rests sessions (AwaitsSignature s callee) is = absurd (cc)
rests sessions (AwaitsIdent s callee cookie) is = absurd (cc)
rests sessions (AwaitsReconnect s callee cookie) is = absurd (cc)
rests sessions (Open s callee cookie) is = refl

pub rests_not : (sessions : List HeldSession) (stage : CallStage) → is_open stage ≡ false → is_at_rest sessions (ToDaemon stage) ≡ false
rests_not sessions (AwaitsBanner called) is = refl
rests_not sessions (AwaitsHello called) is = refl
rests_not sessions (AwaitsChallenge callee presented) is = refl
rests_not sessions (AwaitsDone callee answered) is = refl
rests_not sessions (AwaitsSignature s callee) is = refl
rests_not sessions (AwaitsIdent s callee cookie) is = refl
rests_not sessions (AwaitsReconnect s callee cookie) is = refl
rests_not sessions (Open s callee cookie) is = absurd (cc)
