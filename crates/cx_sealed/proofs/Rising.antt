-- The test that ids rise, and the fact that they do.
use Rattle.std.proofs.Common.{◌≡◌, ◌+◌, true, List, [], ◌∷◌, Some, refl, ◌∙◌, eq-eqb}
use Rattle.cx_rotate.specs.declared.generations.Generation.{Generation}
use Rattle.cx_rotate.specs.Held.{IsRising}
use Rattle.cx_enc.specs.Forms.{passed}
use Rattle.cx_sealed.specs.Records.{is_rising}

-- generations that stand have ids that rise
pub rises : (gs : List Generation) → IsRising gs → is_rising gs ≡ true
rises [] h = refl
rises (a ∷ []) h = absurd h
rises (a ∷ b ∷ []) h = absurd h
rises (a ∷ b ∷ c ∷ []) h = rw (eq-eqb b.id (a.id + 1) h.0, eq-eqb c.id (b.id + 1) h.1) refl
rises (a ∷ b ∷ c ∷ d ∷ gs) h = absurd h

pub passes : (gs : List Generation) → IsRising gs → passed is_rising gs ≡ Some gs
passes gs h = rw (rises gs h) refl
