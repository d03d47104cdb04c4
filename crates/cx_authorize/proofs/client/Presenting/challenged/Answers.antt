use Rattle.std.proofs.Common.{subst}
use Rattle.cx_authorize.specs.Client.{Presented, IsAnswered}
use Rattle.cx_authorize.proofs.client.Presenting.challenged.Goals as goal

pub returns : goal.returns
returns c = subst (λ (p : Presented). IsAnswered p c.args.payload.now c.args.log.now c.answer.new.log c.answer.result) c.self.view_is c.answer.ensures
