use Rattle.cx_aes.proofs.Ends.{last_sum}
use Rattle.cx_aes.proofs.cipher_rounds.last_round.Goals as goal

pub returns : goal.returns
returns c = λ s k hs hk is key. last_sum s k c.args.state c.last.result c.args.key hs c.fits-state.0 is c.last.ensures key
