-- At no place that was seen wait more.
use Rattle.std.proofs.Common.{ℕ, ◌≤◌}
use Rattle.std.specs.List.{AllWithin}
use Rattle.cx_tcp.specs.Loads.{load_of}
use Rattle.cx_tcp.proofs.sending.most_load.Given as goal

abbrev pub invariant-loop-slot : goal.invariant-loop-slot
invariant-loop-slot l = AllWithin (λ slot. load_of slot ≤ l.most) l.places 0 l.slot-index
