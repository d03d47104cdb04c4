use Rattle.cx_aes.proofs.Maps.{bytes_of_vector}
use Rattle.cx_aes.proofs.lookup.are_sixteen.Goals as goal

pub returns : goal.returns
returns c = record { len = c.fits-bytes.0; bytes = bytes_of_vector c.args.bytes c.fits-bytes }
