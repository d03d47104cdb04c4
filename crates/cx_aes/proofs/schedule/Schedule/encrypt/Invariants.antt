use Rattle.std.proofs.Common.{◌≡◌, map}
use Rattle.cx_aes.specs.Basis.{into}
use Rattle.cx_aes.specs.Cipher.{rounds}
use Rattle.cx_aes.specs.KeyOf.{key_of}
use Rattle.cx_aes.proofs.schedule.Schedule.encrypt.Given as goal

abbrev pub invariant-loop-done : goal.invariant-loop-done
invariant-loop-done l = l.state ≡ map into (rounds (key_of l.self) l.block l.done)
