use Rattle.std.proofs.Common.{inl}
use Rattle.cx_commands.proofs.nodes.daemon.Goals as goal

pub returns-clause-ends : goal.returns-clause-ends
returns-clause-ends g c = inl (record {
  bytes = c.bytes-script.result.now;
  read = rw c.bytes-script.ensures (rw c.in-Ok.is at c.read_all.ensures.all);
  ending = c.run_daemon-report.result.end;
  entries = c.run_daemon-report.result.journal;
  ran = record {
    ends = c.run_daemon-report.ensures.ends;
    cause = c.run_daemon-report.ensures.cause;
    complete = c.run_daemon-report.ensures.complete;
    exact = c.run_daemon-report.ensures.exact;
    untouched = c.run_daemon-report.ensures.untouched;
  };
  answers = c.answers.ensures.ends;
  says = c.answers.ensures.told;
})
