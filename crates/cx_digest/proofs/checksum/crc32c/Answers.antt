use Rattle.std.proofs.Common.{◌≡◌, ◌∙◌, sym, ap, refl, arith, drop, length, [], get_or, ◌+◌, ◌*◌, ◌/◌}
use Rattle.cx_digest.specs.Checksum.{crc32c}
use Rattle.cx_digest.proofs.Blocks.{eight_more}
use Rattle.cx_digest.proofs.Sums.{crc32c_more, crc32c_all}
use Rattle.cx_digest.proofs.checksum.crc32c.Goals as goal

pub loop-block-preserved : goal.loop-block-preserved
loop-block-preserved c =
    let i = c.loop-block.block-index in
    let bytes = c.args.bytes.now in
    let blocks = c.as_chunks.result.0.now in
    ap (λ state. crc32c state (drop (8 * (i + 1)) bytes)) c.after_eight-state.ensures
    ∙ eight_more c.loop-block.state i bytes (get_or blocks i []) blocks c.as_chunks.ensures.front refl (omega (arith, c.as_chunks.ensures.front_len))
    ∙ c.loop-block.invariant

pub loop-byte-preserved : goal.loop-byte-preserved
loop-byte-preserved c =
    let rest = c.as_chunks.result.1.now in
    ap (λ state. crc32c state (drop (c.loop-byte.byte-index + 1) rest)) c.after_byte-state.ensures
    ∙ sym (crc32c_more c.loop-byte.state c.loop-byte.byte-index rest (omega arith)) ∙ c.loop-byte.invariant

pub loop-byte-init : goal.loop-byte-init
loop-byte-init c =
    let bytes = c.args.bytes.now in
    let all : length bytes / 8 * 8 ≡ 8 * c.loop-block.block-index = omega (arith, c.as_chunks.ensures.front_len) in
    ap (crc32c c.loop-block.state) (c.as_chunks.ensures.back ∙ ap (λ m. drop m bytes) all) ∙ c.loop-block.invariant

pub returns : goal.returns
returns c =
    sym (crc32c_all c.loop-byte.state c.loop-byte.byte-index c.as_chunks.result.1.now (omega arith)) ∙ c.loop-byte.invariant
