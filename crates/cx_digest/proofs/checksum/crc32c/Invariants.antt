use Rattle.std.proofs.Common.{◌≡◌, ◌*◌, drop}
use Rattle.cx_digest.specs.Checksum.{crc32c}
use Rattle.cx_digest.proofs.checksum.crc32c.Given as goal

abbrev pub invariant-loop-block : goal.invariant-loop-block
invariant-loop-block l = crc32c l.state (drop (8 * l.block-index) l.bytes) ≡ crc32c l.seed l.bytes

abbrev pub invariant-loop-byte : goal.invariant-loop-byte
invariant-loop-byte l = crc32c l.state (drop l.byte-index l.rest) ≡ crc32c l.seed l.bytes
