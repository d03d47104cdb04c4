-- The words that the part stands in are computed.
use Rattle.std.proofs.Common.{ℕ, List, ap, ◌∙◌}
use Rattle.std.proofs.lemmas.List.{length-replicate}
use Rattle.rand_chacha.specs.ChaCha.{ChaCha}
use Rattle.cx_dice.proofs.Places.{part_drawn}
use Rattle.cx_dice.proofs.draw.part_of.Goals as goal

pub returns : goal.returns
returns g c =
    ap (λ (p : List ℕ × ChaCha). p.0) c.fill_bytes_via_u32.ensures
    ∙ rw (c.generator_at.ensures, c.from.ensures, length-replicate {A = ℕ} g.row.N 0)
    (part_drawn c.args.seed c.args.number c.args.place g.row.N c.requires.word c.requires.within)
