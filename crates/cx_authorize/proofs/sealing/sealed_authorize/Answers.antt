use Rattle.std.proofs.Common.{◌≤◌, length, arith}
use Rattle.cx_authorize.proofs.Short.{short_sealed}
use Rattle.cx_authorize.proofs.sealing.sealed_authorize.Goals as goal

pub returns-clause-short : goal.returns-clause-short
returns-clause-short c =
    let most : length c.in_ok-sealed.sealed ≤ 1048592 = short_sealed _ _ _ _ c.told-session c.fits-session c.in_ok-sealed.ensures in
    omega arith
