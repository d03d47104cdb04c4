-- A request is short.
use Rattle.std.proofs.Common.{ap, arith, length}
use Rattle.cx_monclient.proofs.requests.Shown.{length-request}
use Rattle.cx_monclient.proofs.requests_asking.request_body.Goals as goal

pub returns-clause-short : goal.returns-clause-short
returns-clause-short c =
    let text = rw c.new-body.ensures at c.in_ok-put_request.ensures.ok in
    omega (arith, ap length text, length-request c.args.request.now)
