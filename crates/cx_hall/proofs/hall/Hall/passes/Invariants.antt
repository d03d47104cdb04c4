use Rattle.std.proofs.Common.{◌≡◌, [], All, length}
use Rattle.cx_hall.proofs.hall.Hall.passes.Given as goal

abbrev pub invariant-loop : goal.invariant-loop
invariant-loop g l = (length l.made.items ≡ l.counter) × All (λ p. p.mine ≡ []) l.made.items
