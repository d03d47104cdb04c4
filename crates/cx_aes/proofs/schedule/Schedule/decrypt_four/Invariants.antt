use Rattle.std.proofs.Common.{◌≡◌, [], get_or, map}
use Rattle.cx_aes.specs.InverseBasis.{back}
use Rattle.cx_aes.specs.KeyOf.{key_of}
use Rattle.cx_aes.proofs.Undoing.{undone_state}
use Rattle.cx_aes.proofs.schedule.Schedule.decrypt_four.Given as goal

abbrev pub invariant-loop-undone : goal.invariant-loop-undone
invariant-loop-undone l = record {
  state_a : l.a ≡ map back (undone_state (key_of l.self) (get_or l.blocks 0 []) l.undone);
  state_b : l.b ≡ map back (undone_state (key_of l.self) (get_or l.blocks 1 []) l.undone);
  state_c : l.c ≡ map back (undone_state (key_of l.self) (get_or l.blocks 2 []) l.undone);
  state_d : l.d ≡ map back (undone_state (key_of l.self) (get_or l.blocks 3 []) l.undone);
}
