-- A node that is turned until it handles nothing of what came on a link.
use Rattle.std.proofs.Common.{◌≡◌, ℕ, ◌<◌, ◌≤◌, true, false, List, length, Option, refl, sym, ◌∙◌, subst, arith}
use Rattle.cx_base.specs.declared.nodes.NodeName.{NodeName}
use Rattle.cx_desk.specs.Handlers.{Handlers}
use Rattle.cx_world_start.specs.cx_rules.specs.Inputs.{Turn}
use Rattle.cx_world_start.specs.cx_run.specs.Deliveries.{Given, came_at, followed, gives, turns}
use Rattle.cx_world_start.specs.cx_run.specs.Worlds.{World as RunWorld}
use Rattle.cx_world_start.specs.cx_run.specs.Turning.{untaken_at}
use Rattle.cx_world_start.specs.cx_run.proofs.Turning.{enough, takes, unrolls}
use Rattle.cx_world.specs.Arriving.{turns_all}
use Rattle.cx_world.specs.Carried.{Began, Carries}
use Rattle.cx_world.specs.declared.world.World.{World as Held}
use Rattle.cx_world.proofs.Making.{if_not, if_so}

-- from the world that is carried now on, the same turns follow that were to follow at first
pub record IsTurning {handlers : Handlers} (b : Began handlers) (seen : Option ℕ) (who : NodeName) (number : ℕ) (w : RunWorld) (held : Held) : Type 0 where
  pub world : RunWorld
  pub carried : Carries b seen held world
  pub same : turns w who number (came_at w.nodes number who) ≡ turns world who number (came_at w.nodes number who)
  pub within : length (untaken_at world.nodes number who) ≤ length (came_at w.nodes number who)

pub begun : {handlers : Handlers} (b : Began handlers) (seen : Option ℕ) (who : NodeName) (number : ℕ) (w : RunWorld) (held : Held) → Carries b seen held w → IsTurning b seen who number w held
begun b seen who number w held k = record { world = w; carried = k; same = refl; within = enough w.nodes number who }

-- a turn handled something
pub turned : {handlers : Handlers} (b : Began handlers) (seen : Option ℕ) (who : NodeName) (number : ℕ) (w : RunWorld) (held after : Held) (t : IsTurning b seen who number w held)
    → (gives t.world who (Turn number)).out.turned ≡ true → Carries b seen after (followed who (gives t.world who (Turn number)))
    → IsTurning b seen who number w after
turned b seen who number w held after t e k =
    let g : Given = gives t.world who (Turn number) in
    let fuel : List ℕ = came_at w.nodes number who in
    let less : length (untaken_at (followed who g).nodes number who) < length (untaken_at t.world.nodes number who) = takes t.world who number e in
    let within : length (untaken_at t.world.nodes number who) ≤ length fuel = t.within in
    record {
      world = followed who g;
      carried = k;
      same = t.same ∙ unrolls t.world who number fuel within ∙ if_so g.out.turned (turns (followed who g) who number fuel) (followed who g) e;
      within = omega arith;
    }

-- a turn handled nothing
pub rested : {handlers : Handlers} (b : Began handlers) (seen : Option ℕ) (who : NodeName) (number : ℕ) (w : RunWorld) (held after : Held) (t : IsTurning b seen who number w held)
    → (gives t.world who (Turn number)).out.turned ≡ false → Carries b seen after (followed who (gives t.world who (Turn number)))
    → Carries b seen after (turns_all who number w)
rested b seen who number w held after t e k =
    let g : Given = gives t.world who (Turn number) in
    let fuel : List ℕ = came_at w.nodes number who in
    let same : turns w who number fuel ≡ followed who g =
    t.same ∙ unrolls t.world who number fuel t.within ∙ if_not g.out.turned (turns (followed who g) who number fuel) (followed who g) e in
    subst (λ (x : RunWorld). Carries b seen after x) (sym same) k
