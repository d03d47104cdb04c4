use Rattle.std.proofs.Common.{◌≡◌, ◌++◌, length, ap, ◌∙◌}
use Rattle.cx_aes.proofs.Places.{cells, cells-is}
use Rattle.cx_gcm.specs.Gcm.{counted}
use Rattle.cx_gcm.proofs.counter.counter_block.Goals as goal

pub returns : goal.returns
unfolding counted
returns c =
    let nonce = c.args.nonce.now in
    let count = c.to_be_bytes-c.result in
    let four : length count ≡ 4 = ap length c.to_be_bytes-c.ensures in
    ap (λ xs. xs ++ cells 4 count) (cells-is 12 nonce c.told-nonce)
    ∙ ap (λ ys. nonce ++ ys) (cells-is 4 count four ∙ c.to_be_bytes-c.ensures)
