use Rattle.std.proofs.Common.{subst}
use Rattle.cx_authorize.specs.Client.{Answered, IsAgreed}
use Rattle.cx_authorize.proofs.client.Answering.done.Goals as goal

pub returns : goal.returns
returns c = subst (λ (a : Answered). IsAgreed a c.args.payload.now c.args.log.now c.agree.new.log c.agree.result) c.self.view_is c.agree.ensures
