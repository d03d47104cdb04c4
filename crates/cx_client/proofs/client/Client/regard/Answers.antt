-- What it tells of what it holds is what it tells of the rules' state.
use Rattle.std.proofs.Common.{◌∙◌}
use Rattle.cx_client.proofs.Regarding.{regard_stands}
use Rattle.cx_client.proofs.client.Client.regard.Goals as goal

pub returns-clause-stands : goal.returns-clause-stands
returns-clause-stands c = λ s st. c.regarded.ensures ∙ regard_stands c.args.self.now s c.args.link st
