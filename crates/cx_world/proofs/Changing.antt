-- A world whose links, or whose failing save or line, are changed.
use Rattle.std.proofs.Common.{◌≡◌, ℕ, List, Option, refl}
use Rattle.cx_desk.specs.Handlers.{Handlers}
use Rattle.cx_words.specs.declared.choices.LeftState.{LeftState}
use Rattle.cx_world_start.specs.cx_run.specs.Wires.{Wire}
use Rattle.cx_world_start.specs.cx_run.specs.Worlds.{World}
use Rattle.cx_world.specs.Carried.{Began, Carries}
use Rattle.cx_world.specs.declared.world.World.{World as Held}

module _ {handlers : Handlers} (b : Began handlers) (seen : Option ℕ) (held : Held) (w : World) (k : Carries b seen held w) where
  pub wired : (new wires : List Wire) → new ≡ wires → (let h : Held = record held { wires = new } in let v : World = record w { wires = wires } in Carries b seen h v)
  wired new wires e = record { nodes = k.nodes; led = k.led; wires = e; left = k.left; line = k.line; told = k.told; stirred = k.stirred }

  pub leaves : (left : Option LeftState) → (let h : Held = record held { left = left } in let v : World = record w { left = left } in Carries b seen h v)
  leaves left = record { nodes = k.nodes; led = k.led; wires = k.wires; left = refl; line = k.line; told = k.told; stirred = k.stirred }
