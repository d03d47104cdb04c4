use Rattle.std.proofs.Common.{◌∙◌}
use Rattle.std.specs.Str.Parse.{digits_value}
use Rattle.std.proofs.lemmas.Str.Parse.{parse_digits}
use Rattle.cx_words.proofs.NumberWords.{ok_below, own, utf8_digits}
use Rattle.cx_words.proofs.numbers.digits.Goals as goal

pub unreachable-requires : goal.unreachable-requires
unreachable-requires c = c.in-Err.ensures.cases.0 (utf8_digits c.args.word.now c.requires.shown)

pub returns : goal.returns
returns c =
    c.ok.ensures.value ∙ ok_below c.parse.result (digits_value 10 c.args.word.now) _ c.requires.some
    (parse_digits own 64 c.args.word.now c.parse.result (rw c.in-Ok.ensures.cases.0 at c.parse.ensures.value.0) c.requires.shown)
