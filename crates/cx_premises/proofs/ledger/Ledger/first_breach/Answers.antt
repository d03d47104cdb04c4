use Rattle.std.proofs.Common.{subst, sym}
use Rattle.cx_steps.specs.Breach.{IsFound}
use Rattle.cx_premises.proofs.Entering.{told_in_the_end}
use Rattle.cx_premises.proofs.ledger.Ledger.first_breach.Goals as goal

pub returns : goal.returns
returns c = λ leaked log stands. subst (IsFound leaked log) (sym c.first.ensures) (told_in_the_end c.args.self.now leaked log stands)
