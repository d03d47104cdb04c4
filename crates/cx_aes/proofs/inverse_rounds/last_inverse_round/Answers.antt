use Rattle.cx_aes.proofs.Ends.{undone_sum}
use Rattle.cx_aes.proofs.inverse_rounds.last_inverse_round.Goals as goal

pub returns : goal.returns
returns c = λ s k hs hk is key. undone_sum s k c.args.state c.undone.result c.args.key hs c.fits-state.0 is c.undone.ensures key
