-- The step is that of the rules for each of their states that the daemon stands for.
use Rattle.cx_desk.specs.Held.{handlers_of}
use Rattle.cx_daemon.proofs.Kept.{same_on_ok, stands_on_ok}
use Rattle.cx_daemon.proofs.daemon.Daemon.step.Goals as goal

pub returns-clause-effects : goal.returns-clause-effects
returns-clause-effects g c = λ s h.
    same_on_ok c.take_step.result c.take_step.new.out _ _ c.take_step.ensures.out
    (c.daemon_forgetting_laws.ensures.forgets (handlers_of c.args.desk.now) c.args.self.now s _ c.args.now c.args.draw.now.bytes h).0

pub returns-clause-stands : goal.returns-clause-stands
returns-clause-stands g c = λ s h.
    stands_on_ok c.take_step.result c.take_step.new.self _ _ c.take_step.ensures.state
    (c.daemon_forgetting_laws.ensures.forgets (handlers_of c.args.desk.now) c.args.self.now s _ c.args.now c.args.draw.now.bytes h).1
