use Rattle.std.proofs.Common.{◌≡◌, map}
use Rattle.cx_aes.specs.InverseBasis.{back}
use Rattle.cx_aes.specs.KeyOf.{key_of}
use Rattle.cx_aes.proofs.Undoing.{undone_state}
use Rattle.cx_aes.proofs.schedule.Schedule.decrypt.Given as goal

abbrev pub invariant-loop-undone : goal.invariant-loop-undone
invariant-loop-undone l = l.state ≡ map back (undone_state (key_of l.self) l.block l.undone)
