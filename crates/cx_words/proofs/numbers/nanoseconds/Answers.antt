use Rattle.std.proofs.Common.{sym, ◌∙◌, ◌≡◌, ◌^◌, Some, None, arith}
use Rattle.std.specs.Str.Parse.{digits_value}
use Rattle.cx_words.proofs.NumberWords.{below_holds, below_is, nine_below}
use Rattle.cx_words.proofs.numbers.nanoseconds.Goals as goal

pub unreachable-requires : goal.unreachable-requires
unreachable-requires c =
    let low = nine_below c.args.nine.now c.requires in
    let some = below_holds (2 ^ 64) (digits_value 10 c.args.nine.now) (omega (arith, low)) in
    let apart : None ≡ Some (digits_value 10 c.args.nine.now) = sym c.in-None.is ∙ c.digits.ensures ∙ some in
    cc

pub returns-clause-bound : goal.returns-clause-bound
returns-clause-bound c =
    let same = below_is (2 ^ 64) (digits_value 10 c.args.nine.now) c.in-Some.value (sym c.digits.ensures ∙ c.in-Some.is) in
    let low = nine_below c.args.nine.now c.requires in
    omega (arith, same.0, low)
