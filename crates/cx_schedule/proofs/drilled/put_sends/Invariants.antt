use Rattle.std.proofs.Common.{◌≡◌, ◌++◌, ◌-◌}
use Rattle.std.specs.Prelude.{replicate}
use Rattle.std.specs.List.{flat_map}
use Rattle.cx_schedule.specs.Drills.{ended, send_line}
use Rattle.cx_schedule.proofs.drilled.put_sends.Given as goal

abbrev pub invariant-sends : goal.invariant-sends
invariant-sends l = l.into ++ flat_map ended (replicate (l.count - l._sent) (send_line l.i)) ≡ l.initial.into ++ flat_map ended (replicate l.count (send_line l.i))
