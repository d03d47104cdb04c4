use Rattle.cx_digest.proofs.Sums.{goes_on}
use Rattle.cx_digest.proofs.checksum.crc32c_goes_on.Goals as goal

pub returns : goal.returns
returns c = goes_on
