-- Where memory is wanting, the monitor stands for what the rules leave.
use Rattle.cx_mon.proofs.Standing.{monitor_loses, stands_on_err}
use Rattle.cx_mon.proofs.monitor.Monitor.step.Goals as goal

pub returns-clause-lost_stands : goal.returns-clause-lost_stands
returns-clause-lost_stands c = λ s h.
    stands_on_err c.take_step.result c.take_step.new.self _ _ c.take_step.ensures.lost
    (monitor_loses c.forgetting_laws.ensures.monitor_loses c.args.self.now s _ h)
