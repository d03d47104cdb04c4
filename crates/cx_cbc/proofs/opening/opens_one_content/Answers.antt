use Rattle.cx_cbc.proofs.Contents.{opens_one}
use Rattle.cx_cbc.proofs.opening.opens_one_content.Goals as goal

pub returns : goal.returns
returns c = opens_one
