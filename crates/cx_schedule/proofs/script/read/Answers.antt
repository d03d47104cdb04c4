use Rattle.std.proofs.Common.{◌≡◌, [], Err, refl, rules}
use Rattle.cx_words.specs.Cutting.{lines_of}
use Rattle.cx_schedule.specs.Files.{SpellsBehind, bad_behind, numbered}
use Rattle.cx_schedule.proofs.Grammars.{few_in_all, never_both, none_outside, one_reason, refused_at, said_once}
use Rattle.cx_schedule.proofs.Whole.{all_in_range, schedules}
use Rattle.cx_schedule.proofs.script.read.Goals as goal

pub returns-clause-one : goal.returns-clause-one
returns-clause-one c = λ s said.
    said_once SpellsBehind numbered bad_behind schedules 1 [] c.in_ok-lines.lines s (lines_of c.args.bytes.now) c.in_ok-lines.ensures.found said

pub returns-clause-few : goal.returns-clause-few
returns-clause-few c =
    few_in_all SpellsBehind numbered bad_behind schedules c.args.bytes.now c.in_ok-lines.lines (c.is_short.ensures.0 c.if-not-is_short.false) c.in_ok-lines.ensures.found

pub returns-clause-in_range : goal.returns-clause-in_range
returns-clause-in_range c = all_in_range 1 [] c.in_ok-lines.lines (lines_of c.args.bytes.now) c.in_ok-lines.ensures.found refl

pub returns-in_err-lines-clause-exact : goal.returns-in_err-lines-clause-exact
returns-in_err-lines-clause-exact c why reason =
    let is : c.from_residual.result ≡ Err c.in_err-lines.field-0.0 = search rules in
    rw is (one_reason SpellsBehind numbered bad_behind schedules c.args.bytes.now c.in_err-lines.field-0.0 why c.in_err-lines.ensures.bad reason)

pub returns-clause-exact : goal.returns-clause-exact
returns-clause-exact c why reason =
    never_both SpellsBehind numbered bad_behind schedules c.args.bytes.now c.in_ok-lines.lines why (c.is_short.ensures.0 c.if-not-is_short.false) c.in_ok-lines.ensures.found reason

pub returns-in_err-lines-clause-outside : goal.returns-in_err-lines-clause-outside
returns-in_err-lines-clause-outside c n short outside =
    let is : c.from_residual.result ≡ Err c.in_err-lines.field-0.0 = search rules in
    rw is (refused_at SpellsBehind numbered bad_behind schedules c.args.bytes.now c.in_err-lines.field-0.0 n c.in_err-lines.ensures.bad short outside)

pub returns-clause-outside : goal.returns-clause-outside
returns-clause-outside c n short outside =
    none_outside SpellsBehind numbered bad_behind schedules 1 [] c.in_ok-lines.lines (lines_of c.args.bytes.now) n c.in_ok-lines.ensures.found outside
