use Rattle.cx_commands.proofs.texts.text.Goals as goal

pub returns-clause-ends : goal.returns-clause-ends
returns-clause-ends g c = λ command words. record {
  usage = λ is. c.run.ensures.usage.0 is command words;
  read = c.run.ensures.read;
  refused = c.run.ensures.refused command words;
  write = c.run.ensures.write;
  done = λ is. c.run.ensures.done is command words;
  broken = λ is. c.run.ensures.broken is command words;
  front = λ is. c.run.ensures.front is command words;
  untouched = c.run.ensures.untouched;
  complete = c.run.ensures.complete command words;
  exact = λ why. c.run.ensures.exact command why words;
  reads = c.run.ensures.reads;
  writes = c.run.ensures.writes;
}
