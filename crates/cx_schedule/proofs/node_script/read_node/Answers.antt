use Rattle.std.proofs.Common.{◌≡◌, Err, rules}
use Rattle.cx_schedule.proofs.NodeLaws.{script_few, script_never_both, script_none_outside, script_once, script_reason, script_refused_at}
use Rattle.cx_schedule.proofs.node_script.read_node.Goals as goal

pub returns-clause-one : goal.returns-clause-one
returns-clause-one c = λ s said. script_once _ _ c.args.bytes.now c.in_ok-lines.lines s c.in_ok-names.ensures c.in_ok-lines.ensures.found said

pub returns-clause-few : goal.returns-clause-few
returns-clause-few c = script_few _ c.args.bytes.now c.in_ok-lines.lines (c.is_short.ensures.0 c.if-not-is_short.false) c.in_ok-lines.ensures.found

pub returns-in_err-lines-clause-exact : goal.returns-in_err-lines-clause-exact
returns-in_err-lines-clause-exact c why reason =
    let is : c.from_residual-in_err-lines.result ≡ Err c.in_err-lines.field-0.0 = search rules in
    rw is (script_reason _ _ c.args.bytes.now c.in_err-lines.field-0.0 why c.in_ok-names.ensures c.in_err-lines.ensures.bad reason)

pub returns-clause-exact : goal.returns-clause-exact
returns-clause-exact c why reason =
    script_never_both _ _ c.args.bytes.now c.in_ok-lines.lines why c.in_ok-names.ensures (c.is_short.ensures.0 c.if-not-is_short.false) c.in_ok-lines.ensures.found reason

pub returns-in_err-lines-clause-outside : goal.returns-in_err-lines-clause-outside
returns-in_err-lines-clause-outside c n short outside =
    let is : c.from_residual-in_err-lines.result ≡ Err c.in_err-lines.field-0.0 = search rules in
    rw is (script_refused_at _ _ c.args.bytes.now c.in_err-lines.field-0.0 n c.in_ok-names.ensures c.in_err-lines.ensures.bad short outside)

pub returns-clause-outside : goal.returns-clause-outside
returns-clause-outside c n short outside =
    script_none_outside _ _ c.args.bytes.now c.in_ok-lines.lines n c.in_ok-names.ensures c.in_ok-lines.ensures.found outside
