-- A draw of a seed is whole, and its first bytes are at hand.
use Rattle.std.proofs.Common.{◌≡◌, ap, ◌∙◌}
use Rattle.cx_dice.specs.Draws.{part}
use Rattle.cx_dice.specs.Rolls.{seed_draw}
use Rattle.cx_dice.proofs.Parts.{part_first}
use Rattle.cx_dice.proofs.Places.{length-seed_draw}
use Rattle.cx_dice.proofs.draw.Draw.part.Goals as goal

pub returns-in-Numbered-clause-whole : goal.returns-in-Numbered-clause-whole
returns-in-Numbered-clause-whole g c = rw (← c.self.view_is, c.in-Numbered.is) (length-seed_draw c.in-Numbered.seed c.in-Numbered.number)

pub returns-then-place-le256-clause-taken : goal.returns-then-place-le256-clause-taken
returns-then-place-le256-clause-taken g c =
    let draw = seed_draw c.in-AtHand.seed c.in-AtHand.number in
    let kept : c.in-AtHand.first.value ≡ part 0 256 draw = rw c.in-AtHand.is at c.self.invariant in
    rw (← c.self.view_is, c.in-AtHand.is)
    (c.piece-then-place-le256.ensures ∙ ap (part c.args.place g.row.N) (c.as_ref-then-place-le256.ensures ∙ kept) ∙ part_first 256 c.args.place g.row.N draw c.if-place-le256.true)

pub returns-then-place-le256-clause-whole : goal.returns-then-place-le256-clause-whole
returns-then-place-le256-clause-whole g c = rw (← c.self.view_is, c.in-AtHand.is) (length-seed_draw c.in-AtHand.seed c.in-AtHand.number)

pub returns-else-place-le256-clause-whole : goal.returns-else-place-le256-clause-whole
returns-else-place-le256-clause-whole g c = rw (← c.self.view_is, c.in-AtHand.is) (length-seed_draw c.in-AtHand.seed c.in-AtHand.number)
