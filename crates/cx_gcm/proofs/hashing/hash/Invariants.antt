use Rattle.std.proofs.Common.{◌≡◌, ◌*◌}
use Rattle.cx_gcm.specs.Base.{base_of}
use Rattle.cx_gcm.specs.Blocks.{number}
use Rattle.cx_gcm.specs.Gcm.{ghash, hashed}
use Rattle.cx_gcm.proofs.hashing.hash.Given as goal

abbrev pub invariant-loop-n : goal.invariant-loop-n
invariant-loop-n l = number l.sum ≡ ghash (base_of l.powers) (hashed l.cipher) (4 * l.n)

abbrev pub invariant-loop-n-2 : goal.invariant-loop-n-2
invariant-loop-n-2 l = number l.sum ≡ ghash (base_of l.powers) (hashed l.cipher) l.n
