use Rattle.std.proofs.lemmas.Result.{on_ok_weaker}
use Rattle.cx_premises.proofs.Entering.{stands_more}
use Rattle.cx_premises.proofs.ledger.Ledger.take_over.Goals as goal

pub returns-clause-ok : goal.returns-clause-ok
returns-clause-ok c = λ leaked log stands.
    on_ok_weaker c.take.result (λ entered. stands_more c.args.self.now c.take.new.self _ entered leaked log stands) c.take.ensures.ok
