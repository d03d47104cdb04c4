-- The auditor refuses for the one reason; a journal that was read has none.
use Rattle.std.proofs.Common.{◌≡◌, Err, rules}
use Rattle.cx_top.specs.Statuses.{audit_status}
use Rattle.cx_top.proofs.Reasons.{audit_answered, audit_cause, audit_read, audit_reason}
use Rattle.cx_top.proofs.audits.audited.Goals as goal

pub returns-in_err-verdict-clause-exact : goal.returns-in_err-verdict-clause-exact
returns-in_err-verdict-clause-exact c why reason =
    let is : c.from_residual.result ≡ Err (audit_status c.in_err-verdict.field-0.0) = search rules in
    rw is (audit_reason c.args.bytes.now c.in_err-verdict.field-0.0 why (c.is_short.ensures.0 c.if-not-is_short.false) reason c.in_err-verdict.ensures.exact)

pub returns-clause-exact : goal.returns-clause-exact
returns-clause-exact c why reason = audit_read c.args.bytes.now why (c.is_short.ensures.0 c.if-not-is_short.false) reason c.in_ok-verdict.ensures.exact
