use Rattle.std.proofs.Common.{bit_xor}
use Rattle.cx_gcm.specs.Multiples.{sum_of}
use Rattle.cx_gcm.proofs.multiples.sum_of.Goals as goal

pub returns : goal.returns
unfolding sum_of
returns c = cc (c.chosen.ensures, c.chosen-2.ensures, c.chosen-3.ensures, c.chosen-4.ensures)
