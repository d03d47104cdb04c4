use Rattle.cx_holdings.proofs.Answering.{answer_is}
use Rattle.cx_holdings.proofs.steps.answer.Goals as goal

pub returns-in-Ok : goal.returns-in-Ok
returns-in-Ok c = answer_is c.args.ask c.args.payload.now c.args.client_challenge c.args.server c.in-Ok.field-0-0 c.in-Ok.bytes c.requires c.in-Ok.ensures
