-- The secret is put together from its parts.
use Rattle.std.proofs.Common.{◌≡◌, length, refl, ap, ◌∙◌, rules, arith}
use Rattle.cx_dice.specs.Draws.{connection_of, nonce_start, part}
use Rattle.cx_dice.proofs.Parts.{nonce_in, part_part}
use Rattle.cx_dice.proofs.Secrets.{put_together}
use Rattle.cx_dice.proofs.draw.Draw.connection_secret.Goals as goal

pub returns : goal.returns
returns c =
    let key : length c.piece.result ≡ 16 = search rules in
    let acceptor : length c.nonce_start.result ≡ 4 = search rules in
    let connector : length c.nonce_start-2.result ≡ 4 = search rules in
    let rest : length c.piece-2.result ≡ 24 = search rules in
    let whole = put_together c.piece.result c.nonce_start.result c.nonce_start-2.result c.piece-2.result key acceptor connector rest in
    let draw = c.args.self.now.bytes in
    let drawn = c.part-drawn.ensures.taken in
    let first : c.piece.result ≡ part 16 16 draw = c.piece.ensures ∙ ap (part 0 16) drawn ∙ part_part 16 64 0 16 draw (omega arith) in
    let second : c.nonce_start.result ≡ nonce_start 0 32 draw = c.nonce_start.ensures ∙ ap (nonce_start 0 16) drawn ∙ nonce_in 16 64 16 0 draw (omega arith) in
    let third : c.nonce_start-2.result ≡ nonce_start 128 44 draw = c.nonce_start-2.ensures ∙ ap (nonce_start 128 28) drawn ∙ nonce_in 16 64 28 128 draw (omega arith) in
    let last : c.piece-2.result ≡ part 56 24 draw = c.piece-2.ensures ∙ ap (part 40 24) drawn ∙ part_part 16 64 40 24 draw (omega arith) in
    rw (c.put-4.ensures, c.put-3.ensures, c.put-2.ensures, c.put.ensures, whole, first, second, third, last) (refl {a = connection_of draw})
