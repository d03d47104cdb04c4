use Rattle.std.proofs.Common.{◌≡◌, drop}
use Rattle.cx_keyring.specs.Collected.{key_in}
use Rattle.cx_keyring.proofs.sections.key_in.Given as goal

abbrev pub invariant-loop-line : goal.invariant-loop-line
invariant-loop-line l = key_in (drop l.line-index l.body) ≡ key_in l.body
