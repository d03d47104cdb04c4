use Rattle.cx_aes.proofs.Mixing.{unmixed-is}
use Rattle.cx_aes.proofs.Substitutions.{eleven-state, fourteen-state, nine-state, thirteen-state}
use Rattle.cx_aes.proofs.inverse_rounds.inverse_round.Goals as goal

pub returns : goal.returns
returns c = λ s k hs hk is key.
    let state = c.args.state in
    unmixed-is s k c.fourteen.result c.eleven.result c.thirteen.result c.nine.result c.args.key hs hk
    (fourteen-state s state c.fourteen.result hs.bytes is c.fourteen.ensures)
    (eleven-state s state c.eleven.result hs.bytes is c.eleven.ensures)
    (thirteen-state s state c.thirteen.result hs.bytes is c.thirteen.ensures)
    (nine-state s state c.nine.result hs.bytes is c.nine.ensures)
    key
