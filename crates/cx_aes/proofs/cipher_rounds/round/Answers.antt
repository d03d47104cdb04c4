use Rattle.std.proofs.Common.{bit_xor}
use lib.Lanes.{zip2}
use Rattle.cx_aes.proofs.Mixing.{mixed-is}
use Rattle.cx_aes.proofs.Substitutions.{once-state, thrice-state, twice-state}
use Rattle.cx_aes.proofs.cipher_rounds.round.Goals as goal

pub returns : goal.returns
returns c = λ s k hs hk is key.
    let state = c.args.state in
    let single = c.once-single.result in
    let double = c.twice-double.result in
    let once = once-state s state single hs.bytes is c.once-single.ensures in
    mixed-is s k double (zip2 bit_xor double single) single single c.args.key hs hk
    (twice-state s state double hs.bytes is c.twice-double.ensures)
    (thrice-state s state double hs.bytes single double is c.once-single.ensures c.twice-double.ensures)
    once once key
