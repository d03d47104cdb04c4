-- The session of a row is one with the daemon of its link.
use Rattle.std.proofs.Common.{◌≡◌, List, Option, Some, None, refl, subst}
use Rattle.cx_base.specs.Names.{Name}
use Rattle.cx_laws_sessions.proofs.queues.Calls.{Held, OpensFor, call-held}
use Rattle.cx_laws_sessions.proofs.queues.Sessions.{HeldIs}
use Rattle.cx_laws_sessions.specs.cx_rules_session.specs.Presenter.{CallArrival, CallStage, AwaitsBanner, AwaitsHello, AwaitsChallenge, AwaitsDone, AwaitsSignature, AwaitsIdent, AwaitsReconnect, Open, callee_of, turned_at}
use Rattle.cx_laws_sessions.specs.cx_rules_session.specs.Sessions.{HeldSession, session_with}
use Rattle.cx_laws_sessions.specs.cx_run.proofs.Taking.{EachRow}
use Rattle.cx_laws_sessions.proofs.waiting.Finding.{with-own}

abbrev pub IsWith : Name → HeldSession → Type 0
IsWith daemon s = s.daemon ≡ daemon

opens-with : (stage : CallStage) → OpensFor (IsWith (callee_of stage).daemon) stage
opens-with (AwaitsBanner called) = tt
opens-with (AwaitsHello called) = tt
opens-with (AwaitsChallenge callee p) = tt
opens-with (AwaitsDone callee answered) = tt
opens-with (AwaitsSignature s callee) = tt
opens-with (AwaitsIdent s callee cookie) = λ server. refl
opens-with (AwaitsReconnect s callee cookie) = tt
opens-with (Open s callee cookie) = tt

pub held-with : (sessions : List HeldSession) (daemon : Name) (found : Option HeldSession) → session_with daemon sessions ≡ found → HeldIs (IsWith daemon) found
held-with sessions daemon None is = tt
held-with sessions daemon (Some s) is = with-own daemon sessions s is

pub call-with : (a : CallArrival) (stage : CallStage) (daemon : Name) → (callee_of stage).daemon ≡ daemon → HeldIs (IsWith daemon) a.own.session → EachRow (Held (IsWith daemon)) (turned_at a stage)
call-with a stage daemon called held =
    call-held (IsWith daemon) (λ count s is. is) (λ seq s is. is) a stage (subst (λ (n : Name). OpensFor (IsWith n) stage) called (opens-with stage)) held
