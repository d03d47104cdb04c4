use Rattle.cx_laws_legal.proofs.legal.Legal.{replay-legal, replay-says}
use Rattle.cx_laws_legal.proofs.journals_laws.legal_laws.Goals as goal

pub returns : goal.returns
returns c = record {
  says = replay-says;
  legal = λ handlers bytes script verdict lines sound types short is. replay-legal handlers bytes script lines sound types short verdict is;
}
