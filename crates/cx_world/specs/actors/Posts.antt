-- What a node goes by, as the code holds it: its dice, of which the next draws are to come.
use Rattle.std.specs.Prelude.{ℕ, ◌≡◌, ◌+◌, ◌<◌, List, [], Option, Some, None}
use Rattle.cx_dice.specs.Rolls.{Rolling, draws_of, seed_draw}
use Rattle.cx_world_start.specs.cx_run.specs.Worlds.{Post}

-- the reading of its clock, and its dice
pub record Sitting : Type 0 where
  pub reading : ℕ
  pub dice : Rolling

-- a reading that a clock can show, and dice that never fail
pub record IsSitting (sitting : Sitting) : Type 0 where
  pub below : sitting.reading < 4000000000000000000
  pub whole : sitting.dice.fails ≡ []

-- it is that of this post: the draws to come are those of its seed that weren't rolled yet
pub record IsOf (post : Post) (sitting : Sitting) : Type 0 where
  pub reading : sitting.reading ≡ post.reading
  pub coming : (n : ℕ) → draws_of sitting.dice.generator n ≡ seed_draw post.seed (post.rolled + n)

-- there is a post, and it is that one's
abbrev pub IsPosted : Sitting → Option Post → Type 0
IsPosted sitting None = ⊥
IsPosted sitting (Some post) = IsOf post sitting
