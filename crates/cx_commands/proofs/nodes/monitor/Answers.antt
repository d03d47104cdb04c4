use Rattle.std.proofs.Common.{inl}
use Rattle.cx_commands.proofs.nodes.monitor.Goals as goal

pub returns-clause-ends : goal.returns-clause-ends
returns-clause-ends g c = inl (record {
  bytes = c.bytes-script.result.now;
  read = rw c.bytes-script.ensures (rw c.in-Ok.is at c.read_all.ensures.all);
  ending = c.run_monitor-report.result.end;
  entries = c.run_monitor-report.result.journal;
  ran = record {
    ends = c.run_monitor-report.ensures.ends;
    cause = c.run_monitor-report.ensures.cause;
    complete = c.run_monitor-report.ensures.complete;
    exact = c.run_monitor-report.ensures.exact;
    stateless = c.run_monitor-report.ensures.stateless;
    stopped = c.run_monitor-report.ensures.stopped;
    untouched = c.run_monitor-report.ensures.untouched;
  };
  answers = c.answers.ensures.ends;
  says = c.answers.ensures.told;
})
