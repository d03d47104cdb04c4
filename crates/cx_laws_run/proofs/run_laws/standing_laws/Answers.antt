use Rattle.cx_laws_links.specs.cx_laws_tickets.specs.cx_run.specs.Runs.{setup_of, trace}
use Rattle.cx_laws_links.specs.cx_laws_tickets.specs.cx_run.proofs.Untold.{untold}
use Rattle.cx_laws_links.specs.cx_laws_tickets.proofs.authorize.Expiring.{all-expire}
use Rattle.cx_laws_links.specs.cx_laws_tickets.proofs.chain.Granting.{of-keyring}
use Rattle.cx_laws_links.specs.cx_laws_tickets.proofs.chain.One.{all-kept}
use Rattle.cx_laws_run.proofs.run.Asked.{all-asked}
use Rattle.cx_laws_run.proofs.run.Looks.{all-looks}
use Rattle.cx_laws_run.proofs.run_laws.standing_laws.Goals as goal

pub returns : goal.returns
returns c = record {
  events = all-asked;
  generations = all-kept;
  granted = λ setup hs. of-keyring setup hs (all-kept setup hs);
  expiring = all-expire;
  looks = all-looks;
  schedules = λ handlers script. all-looks (setup_of handlers script) (trace handlers script) (untold handlers script);
}
