use Rattle.std.proofs.Common.{◌≡◌, length, false}
use Rattle.cx_caps.specs.Grammar.{words_of}
use Rattle.cx_caps.specs.Reading.{conditions_from, allows_by}
use Rattle.cx_caps.proofs.Judged.{judged}
use Rattle.cx_caps.proofs.conditions.conditions_allow.Given as goal

abbrev pub invariant-conditions : goal.invariant-conditions
invariant-conditions l =
    allows_by l.fn.ask (conditions_from false (words_of l.fn.words)) ≡ judged l.seen l.fn.ask (conditions_from false (words_of l.rest))

abbrev pub decreases-conditions : goal.decreases-conditions
decreases-conditions l = length l.rest
