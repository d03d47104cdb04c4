use Rattle.cx_laws_tickets.proofs.chain.Granting.{of-keyring}
use Rattle.cx_laws_tickets.proofs.chain.One.{all-kept}
use Rattle.cx_laws_tickets.proofs.chains_laws.chain_laws.Goals as goal

pub returns : goal.returns
returns c = record {
  generations = all-kept;
  granted = λ setup hs. of-keyring setup hs (all-kept setup hs);
}
