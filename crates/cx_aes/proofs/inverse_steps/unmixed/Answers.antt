use Rattle.std.proofs.Common.{refl}
use Rattle.cx_aes.specs.Cipher.{row}
use Rattle.cx_aes.proofs.inverse_steps.unmixed.Goals as goal

pub returns : goal.returns
unfolding row
returns c = rw (c.fourteen_times.ensures, c.eleven_times.ensures, c.thirteen_times.ensures, c.nine_times.ensures) refl
