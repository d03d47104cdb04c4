-- The reader refuses for the one reason; a keyring that was read has none.
use Rattle.std.proofs.Common.{◌≡◌, Err, rules}
use Rattle.cx_top.specs.Statuses.{keyring_status}
use Rattle.cx_top.proofs.Reasons.{keyring_reason, keyring_read}
use Rattle.cx_top.proofs.keyring.printed.Goals as goal

pub returns-in_err-ring-clause-exact : goal.returns-in_err-ring-clause-exact
returns-in_err-ring-clause-exact c why reason =
    let is : c.from_residual.result ≡ Err (keyring_status c.in_err-ring.field-0.0) = search rules in
    rw is (keyring_reason c.args.bytes.now c.in_err-ring.field-0.0 why (c.is_short.ensures.0 c.if-not-is_short.false) reason c.in_err-ring.ensures.exact)

pub returns-clause-exact : goal.returns-clause-exact
returns-clause-exact c why reason = keyring_read c.args.bytes.now why (c.is_short.ensures.0 c.if-not-is_short.false) reason c.in_ok-ring.ensures.exact
