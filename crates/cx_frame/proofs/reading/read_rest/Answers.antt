use Rattle.std.proofs.Common.{subst}
use Rattle.cx_frame.specs.Frames.{Agrees, IsRest, rest_at}
use Rattle.cx_frame.proofs.Answering.{agrees_ok}
use Rattle.cx_frame.proofs.RestLaws.{rest_found, rest_again}
use Rattle.cx_frame.proofs.reading.read_rest.Goals as goal

pub returns-clause-found : goal.returns-clause-found
returns-clause-found c =
    agrees_ok c.rest_at.result (rest_at c.args.head.now c.args.bytes.now) (IsRest c.args.head.now c.args.bytes.now) c.rest_at.ensures
    (λ f read. rest_found 65536 c.args.head.now c.args.bytes.now f c.requires.head c.requires.len read)

pub returns-clause-only : goal.returns-clause-only
returns-clause-only c = λ f is. subst (λ r. Agrees c.rest_at.result r) (rest_again 65536 c.args.head.now c.args.bytes.now f c.requires.head is) c.rest_at.ensures
