-- What of a drill was written whole is a front of it.
use Rattle.std.proofs.Common.{◌≡◌, ◌∙◌, ◌++◌, ℕ, Bool, List, Option, Some, None, length, ap, sym}
use Rattle.std.proofs.Math.Seq.{take-length}
use Rattle.cx_base.specs.Streams.{Takes, TakesFront}
use Rattle.cx_desk.specs.Handlers.{Handlers}
use Rattle.cx_top.specs.Drills.{DrillWritesFront, Drills}

takes_front : (taken after : Option (List ℕ)) (bytes : List ℕ) → Takes taken after bytes → TakesFront taken after bytes
takes_front None after bytes h = tt
takes_front (Some taken) after bytes h = (length bytes, h ∙ ap (λ (b : List ℕ). Some (taken ++ b)) (sym (take-length bytes)))

pub drill_front : (handlers : Handlers) (n seed : ℕ) (is_broken : Bool) (text told : List ℕ) (taken after : Option (List ℕ)) → Drills handlers n seed is_broken text told → Takes taken after text
    → DrillWritesFront handlers n seed taken after
drill_front handlers n seed is_broken text told taken after drills wrote =
    record { text = text; is_broken = is_broken; told = told; drills = drills; wrote = takes_front taken after text wrote }
