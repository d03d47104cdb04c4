use Rattle.cx_laws_tickets.proofs.authorize.Expiring.{all-expire}
use Rattle.cx_laws_tickets.proofs.authorize.Steps.{all-authorize}
use Rattle.cx_laws_tickets.proofs.authorizers_laws.authorize_laws.Goals as goal

pub returns : goal.returns
returns c = record {
  steps = all-authorize;
  expiring = all-expire;
}
