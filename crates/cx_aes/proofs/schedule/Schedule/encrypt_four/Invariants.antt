use Rattle.std.proofs.Common.{◌≡◌, [], get_or, map}
use Rattle.cx_aes.specs.Basis.{into}
use Rattle.cx_aes.specs.Cipher.{rounds}
use Rattle.cx_aes.specs.KeyOf.{key_of}
use Rattle.cx_aes.proofs.schedule.Schedule.encrypt_four.Given as goal

abbrev pub invariant-loop-done : goal.invariant-loop-done
invariant-loop-done l = record {
  state_a : l.a ≡ map into (rounds (key_of l.self) (get_or l.blocks 0 []) l.done);
  state_b : l.b ≡ map into (rounds (key_of l.self) (get_or l.blocks 1 []) l.done);
  state_c : l.c ≡ map into (rounds (key_of l.self) (get_or l.blocks 2 []) l.done);
  state_d : l.d ≡ map into (rounds (key_of l.self) (get_or l.blocks 3 []) l.done);
}
