use Rattle.cx_laws_text.proofs.printed.Legal.{audited-legal}
use Rattle.cx_laws_text.proofs.printed.Once.{journal-once}
use Rattle.cx_laws_text.proofs.printed.Says.{journal-says}
use Rattle.cx_laws_text.proofs.prints_laws.printed_laws.Goals as goal

pub returns : goal.returns
returns c = record {
  reads = journal-says;
  once = journal-once;
  legal = audited-legal;
}
