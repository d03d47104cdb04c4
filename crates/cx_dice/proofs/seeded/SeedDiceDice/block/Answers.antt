-- The draw given is the next one.
use Rattle.std.proofs.Common.{rules, ◌≡◌, ℕ, ◌+◌, ◌*◌, ◌%◌, ◌^◌, List, ap}
use Rattle.rand_chacha.specs.ChaCha.{ChaCha}
use Rattle.cx_dice.specs.Rolls.{generator_at, rolled}
use Rattle.cx_dice.proofs.Rolled.{gives_draw}
use Rattle.cx_dice.proofs.Places.{numbered}
use Rattle.cx_dice.proofs.seeded.SeedDiceDice.block.Goals as goal

rolls : (c : goal.After-self-2-1) → (c.numbered-draw.result.bytes, generator_at c.self.inside.seed (96 * ((c.self.inside.number + 1) % 2 ^ 64))) ≡ rolled c.args.self.now.generator
rolls c = rw (← c.self.view_is, c.numbered-draw.ensures) (numbered c.self.inside.seed c.self.inside.number)

pub returns-clause-gives : goal.returns-clause-gives
returns-clause-gives c = gives_draw _ _ _ (rolls c)

pub returns-clause-drawn : goal.returns-clause-drawn
returns-clause-drawn c = ap (λ (p : List ℕ × ChaCha). p.0) (rolls c)

pub returns-clause-state : goal.returns-clause-state
returns-clause-state c =
    let next : generator_at c.self.inside.seed (96 * ((c.self.inside.number + 1) % 2 ^ 64)) ≡ (rolled c.args.self.now.generator).1 = ap (λ (p : List ℕ × ChaCha). p.1) (rolls c) in
    search (rules, next)
