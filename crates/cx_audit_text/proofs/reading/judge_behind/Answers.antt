use Rattle.std.proofs.Common.{◌≡◌, None, false, map, rules}
use Rattle.cx_audit_text.specs.words.Items.{is_whole}
use Rattle.cx_audit_text.specs.words.Wrong.{wrong_from}
use Rattle.cx_audit_text.specs.lines.Lines.{places}
use Rattle.cx_audit_text.proofs.lines.Wholes.{whole_or_wrong}
use Rattle.cx_audit_text.proofs.reading.judge_behind.Goals as goal

pub unreachable-requires : goal.unreachable-requires
unreachable-requires c =
    let words = map (λ w. w.now) c.args.words.now in
    let bad : is_whole c.args.counted (places c.args.head words) words ≡ false = search rules in
    let none : wrong_from c.args.counted 2 (places c.args.head words) words ≡ None = search rules in
    whole_or_wrong c.args.counted 2 (places c.args.head words) words bad none
