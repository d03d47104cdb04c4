use Rattle.std.proofs.Common.{◌+◌, ◌-◌, ◌*◌, ◌/◌, length, drop, sym, ◌∙◌, ap, arith}
use Rattle.std.proofs.lemmas.Simd.{length-put_chunk}
use Rattle.cx_aes.specs.Cipher.{aes}
use Rattle.cx_aes.specs.KeyOf.{key_of}
use Rattle.cx_cbc.proofs.Chaining.{in_place_more, in_place_all}
use Rattle.cx_cbc.proofs.chain.chain_in_place.Goals as goal

pub loop-n-preserved : goal.loop-n-preserved
loop-n-preserved c =
    let bytes = c.loop-n.bytes in
    let sealed = c.encrypt-before.result in
    let n = c.loop-n.n in
    record {
      len = length-put_chunk (16 * n) bytes sealed ∙ c.loop-n.invariant.len;
      chained = in_place_more (key_of c.args.key.now) c.loop-n.before bytes sealed (16 * n) (16 * (n + 1))
          (length c.args.bytes.now / 16 - n) (length c.args.bytes.now / 16 - (n + 1)) (omega arith) (omega arith) (omega arith) (omega arith)
          (c.encrypt-before.ensures ∙ ap (aes (key_of c.args.key.now)) c.add.ensures) ∙ c.loop-n.invariant.chained;
    }

pub returns-clause-sealed : goal.returns-clause-sealed
returns-clause-sealed c =
    let n = c.loop-n.n in
    sym (in_place_all (key_of c.args.key.now) c.loop-n.before c.loop-n.bytes (drop (16 * n) c.loop-n.bytes) (16 * n) (length c.args.bytes.now / 16 - n) (omega arith) (omega arith))
    ∙ c.loop-n.invariant.chained
