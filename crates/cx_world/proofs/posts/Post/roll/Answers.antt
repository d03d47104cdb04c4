use Rattle.std.proofs.Common.{sym, subst, refl}
use Rattle.cx_world.proofs.actors.Rolling.{drawn_now, rolled_on}
use Rattle.cx_world.specs.actors.Posts.{IsOf, Sitting}
use Rattle.cx_world.proofs.posts.Post.roll.Goals as goal

pub returns-clause-drawn : goal.returns-clause-drawn
returns-clause-drawn c =
    let old : Sitting = record { reading = c.self.inside.reading; dice = c.self.inside.dice } in
    λ post is. let P : Sitting → Type 0 = IsOf post in drawn_now post old c.in-Ok.draw.bytes (subst P (sym c.self.view_is) is) c.in-Ok.ensures.gives.0

pub returns-clause-rolled : goal.returns-clause-rolled
returns-clause-rolled c =
    let old : Sitting = record { reading = c.self.inside.reading; dice = c.self.inside.dice } in
    let new : Sitting = record { reading = c.self.inside.reading; dice = c.block.new.self } in
    λ post is. let P : Sitting → Type 0 = IsOf post in rolled_on post old new (subst P (sym c.self.view_is) is) refl c.in-Ok.ensures.gives.1
