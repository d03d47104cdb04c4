-- A call that was made, as part of what the code carries.
use Rattle.std.proofs.Common.{◌≡◌, ℕ, Bool, true, false, Option, None, Result, refl}
use Rattle.std.specs.Prelude.{OnOk, if◌then◌else◌}
use Rattle.std.proofs.lemmas.Result.{on_ok_weaker}
use Rattle.cx_desk.specs.Handlers.{Handlers}
use Rattle.cx_world_start.specs.cx_run.specs.Worlds.{World as RunWorld}
use Rattle.cx_world.specs.Carried.{Began, Carries, Makes, MakesAlone}
use Rattle.cx_world.specs.declared.world.World.{World as Held}

-- what the last call makes of each world is part of what all of the code makes
pub ok_makes : {handlers : Handlers} {T E : Type 0} (r : Result T E) (mid after : Held) (f : RunWorld → RunWorld) → OnOk r (Makes handlers mid after f) → (old : Held) (g : RunWorld → RunWorld)
    → ((b : Began handlers) (seen : Option ℕ) (w : RunWorld) → Carries b seen old w
    → ((x : RunWorld) → Carries b seen mid x → Carries b seen after (f x)) → Carries b seen after (g w))
    → OnOk r (Makes handlers old after g)
ok_makes {handlers} r mid after f k old g step =
    let onward : Makes handlers mid after f → Makes handlers old after g =
    λ (m : Makes handlers mid after f) (b : Began handlers) (seen : Option ℕ) (w : RunWorld) (h : Carries b seen old w). step b seen w h (m b seen) in
    on_ok_weaker r onward k

pub ok_makes_alone : {handlers : Handlers} {T E : Type 0} (r : Result T E) (mid after : Held) (f : RunWorld → RunWorld) → OnOk r (MakesAlone handlers mid after f) → (old : Held) (g : RunWorld → RunWorld)
    → ((b : Began handlers) (w : RunWorld) → Carries b None old w
    → ((x : RunWorld) → Carries b None mid x → Carries b None after (f x)) → Carries b None after (g w))
    → OnOk r (MakesAlone handlers old after g)
ok_makes_alone {handlers} r mid after f k old g step =
    let onward : MakesAlone handlers mid after f → MakesAlone handlers old after g =
    λ (m : MakesAlone handlers mid after f) (b : Began handlers) (w : RunWorld) (h : Carries b None old w). step b w h (m b) in
    on_ok_weaker r onward k

pub ok_alone : (handlers : Handlers) {T E : Type 0} (r : Result T E) (old after : Held) (f : RunWorld → RunWorld) → OnOk r (Makes handlers old after f) → OnOk r (MakesAlone handlers old after f)
ok_alone handlers r old after f k =
    let onward : Makes handlers old after f → MakesAlone handlers old after f =
    λ (m : Makes handlers old after f) (b : Began handlers) (w : RunWorld) (h : Carries b None old w). m b None w h in
    on_ok_weaker r onward k

pub if_so : {A : Type 0} (t : Bool) (a c : A) → t ≡ true → (if t then a else c) ≡ a
if_so t a c e = rw e refl

pub if_not : {A : Type 0} (t : Bool) (a c : A) → t ≡ false → (if t then a else c) ≡ c
if_not t a c e = rw e refl

-- another line is being carried out
pub relined : {handlers : Handlers} (b : Began handlers) (seen : Option ℕ) (held : Held) (w : RunWorld) (line : ℕ) → Carries b seen held w
    → Carries b seen (record held { line = line }) (record w { line = line })
relined b seen held w line k =
    record { nodes = k.nodes; led = k.led; wires = k.wires; left = k.left; line = refl; told = k.told; stirred = k.stirred }
