use Rattle.std.proofs.Common.{◌<◌, ◌∙◌, ap, arith, length, List, ℕ, slice_set, get_or}
use Rattle.cx_words.proofs.lines.Walks.{shown_more}
use Rattle.cx_words.proofs.sight.shown_of.Goals as goal

pub loop-i-preserved : goal.loop-i-preserved
loop-i-preserved c =
    let below : c.loop-i.i < length c.args.word.now = omega (arith, c.min-length.ensures, c.loop-i-test.true) in
    let small : c.loop-i.i < 40 = omega (arith, c.min-length.ensures, c.loop-i-test.true) in
    ap (λ (bytes : List ℕ). slice_set bytes c.loop-i.i (get_or c.args.word.now c.loop-i.i 0)) c.loop-i.invariant ∙ shown_more c.args.word.now c.loop-i.i below small
