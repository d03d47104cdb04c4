-- Which links live.
use Rattle.std.specs.Prelude.{ℕ, ◌≡◌, ◌==◌, Bool, true, not, List, [], ◌∷◌, ◌++◌, filter}
use Rattle.std.specs.List.{list_any}
use Rattle.cx_outside.specs.declared.events.LinkEvent.{LinkEvent}
use Rattle.cx_outside.specs.declared.events.LinkEvent.TheVariants.{Opened, Bytes, Gone, Quiet}

abbrev pub lives : ℕ → List ℕ → Bool
lives link living = list_any (λ l. l == link) living

abbrev pub without : ℕ → List ℕ → List ℕ
without link living = filter (λ l. not (l == link)) living

-- the links that live behind an event
abbrev pub living_behind : LinkEvent → List ℕ → List ℕ
living_behind (Opened link) living = living ++ link ∷ []
living_behind (Bytes link count) living = living
living_behind (Gone link) living = without link living
living_behind Quiet living = living

-- bytes and an end come on a link that lives
abbrev pub IsOnLiving : LinkEvent → List ℕ → Type 0
IsOnLiving (Opened link) living = Unit {0}
IsOnLiving (Bytes link count) living = lives link living ≡ true
IsOnLiving (Gone link) living = lives link living ≡ true
IsOnLiving Quiet living = Unit {0}
