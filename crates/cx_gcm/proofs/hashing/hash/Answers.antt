use Rattle.std.proofs.Common.{◌+◌, ◌*◌, ap, ◌∙◌, sym, arith}
use lib.Lanes.{chunk}
use Rattle.cx_gcm.specs.Base.{base_of}
use Rattle.cx_gcm.specs.Blocks.{number, spelled, stepped}
use Rattle.cx_gcm.proofs.Digits.{spelled-number}
use Rattle.cx_gcm.proofs.Steps.{sixteen_byte}
use Rattle.cx_gcm.specs.Gcm.{hashed}
use Rattle.cx_gcm.proofs.Padding.{block_of_hashed, four_blocks, ghash_none, last_step, number_of_zeros, one_step}
use Rattle.cx_gcm.proofs.hashing.hash.Goals as goal

pub loop-n-init : goal.loop-n-init
loop-n-init c = number_of_zeros ∙ sym (ghash_none (base_of c.args.powers.now) (hashed c.args.cipher.now))

pub loop-n-preserved : goal.loop-n-preserved
loop-n-preserved c =
    let h = base_of c.args.powers.now in
    let cipher = c.args.cipher.now in
    let n = c.loop-n.n in
    c.four_more-sum.ensures
    ∙ ap (λ s. stepped h (stepped h (stepped h (stepped h s (number (chunk (64 * n) 16 cipher))) (number (chunk (64 * n + 16) 16 cipher)))
    (number (chunk (64 * n + 32) 16 cipher))) (number (chunk (64 * n + 48) 16 cipher))) c.loop-n.invariant
    ∙ four_blocks h cipher n (omega arith)

pub loop-n-2-preserved : goal.loop-n-2-preserved
loop-n-2-preserved c =
    let h = base_of c.args.powers.now in
    let cipher = c.args.cipher.now in
    let n = c.loop-n-2.n in
    c.one_more-sum.ensures
    ∙ ap (λ s. stepped h s (number c.block_at.result)) c.loop-n-2.invariant
    ∙ one_step h cipher c.block_at.result n (block_of_hashed cipher c.block_at.result n c.block_at.ensures.len (omega arith) c.block_at.ensures.places)

pub returns : goal.returns
returns c =
    let h = base_of c.args.powers.now in
    let cipher = c.args.cipher.now in
    let all = c.one_more-all.result in
    let sixteen = c.are_sixteen.ensures in
    sym (spelled-number all sixteen.len (sixteen_byte all sixteen))
    ∙ ap spelled
    (c.one_more-all.ensures ∙ ap (λ s. stepped h s (number c.spelled.result)) c.loop-n-2.invariant
    ∙ last_step h cipher c.spelled.result c.div_ceil-n-end.result c.loop-n-2.n (omega arith) (omega arith) (omega arith) c.spelled.ensures)
