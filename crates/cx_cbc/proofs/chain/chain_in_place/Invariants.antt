use Rattle.std.proofs.Common.{◌≡◌, ◌++◌, ◌-◌, ◌*◌, ◌/◌, length, take, drop}
use Rattle.std.specs.List.{concat}
use Rattle.std.specs.Simd.{first_chunks}
use Rattle.cx_aes.specs.KeyOf.{key_of}
use Rattle.cx_cbc.specs.Chain.{blocks_of, cbc}
use Rattle.cx_cbc.specs.Envelope.{initial_vector}
use Rattle.cx_cbc.proofs.chain.chain_in_place.Given as goal

abbrev pub invariant-loop-n : goal.invariant-loop-n
invariant-loop-n l = record {
  len : length l.bytes ≡ length l.fn.bytes;
  chained : take (16 * l.n) l.bytes ++ concat (cbc (key_of l.key) l.before (first_chunks 16 (length l.fn.bytes / 16 - l.n) (drop (16 * l.n) l.bytes)))
      ≡ concat (cbc (key_of l.key) initial_vector (blocks_of l.fn.bytes));
}
