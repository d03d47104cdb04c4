use Rattle.std.proofs.Common.{arith}
use Rattle.cx_stream.proofs.PlainFronts.{found_whole, refused_front}
use Rattle.cx_stream.proofs.plain.plain_frame_at.Goals as goal

pub returns-in-Ok-clause-found : goal.returns-in-Ok-clause-found
returns-in-Ok-clause-found c =
    let parts = c.in-Some.ensures.cases in
    found_whole c.args.bytes.now c.in-Some.front.now c.in-Some.left.now c.in-Ok.head c.behind_preamble.result (omega arith) parts.0 parts.1
    c.in-Ok.ensures.found.0 c.in-Ok.ensures.found.1 c.behind_preamble.ensures.found

pub returns-in-Err-clause-exact : goal.returns-in-Err-clause-exact
returns-in-Err-clause-exact c =
    let parts = c.in-Some.ensures.cases in
    refused_front c.args.bytes.now c.in-Some.front.now c.in-Some.left.now c.in-Err.refusal (omega arith) parts.0 c.in-Err.ensures.exact
