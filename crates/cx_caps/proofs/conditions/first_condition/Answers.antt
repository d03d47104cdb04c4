use Rattle.std.proofs.Common.{◌≡◌, false, refl, rules}
use Rattle.std.specs.Prelude.{codes}
use Rattle.std.specs.Str.{bytes_eq}
use Rattle.cx_caps.proofs.conditions.first_condition.Goals as goal

pub returns-in_err-kind-clause-none : goal.returns-in_err-kind-clause-none
returns-in_err-kind-clause-none c =
    let other : bytes_eq c.args.word.now (codes "object_prefix") ≡ false = search rules in
    rw (c.from_residual-in_err-kind.ensures, other, c.in_err-kind.ensures) refl
