use Rattle.std.proofs.Common.{inl}
use Rattle.cx_commands.proofs.nodes.client.Goals as goal

pub returns-clause-ends : goal.returns-clause-ends
returns-clause-ends g c = inl (record {
  bytes = c.bytes-script.result.now;
  read = rw c.bytes-script.ensures (rw c.in-Ok.is at c.read_all.ensures.all);
  ending = c.run_client-report.result.end;
  entries = c.run_client-report.result.journal;
  ran = record {
    ends = c.run_client-report.ensures.ends;
    cause = c.run_client-report.ensures.cause;
    complete = c.run_client-report.ensures.complete;
    exact = c.run_client-report.ensures.exact;
    untouched = c.run_client-report.ensures.untouched;
  };
  answers = c.answers.ensures.ends;
  says = c.answers.ensures.told;
})
