-- What comes on links.
use Rattle.std.specs.Prelude.{ℕ, ◌≤◌, List, [], ◌∷◌, take}
use Rattle.cx_outside.specs.declared.events.LinkEvent.{LinkEvent}
use Rattle.cx_outside.specs.declared.events.LinkEvent.TheVariants.{Opened, Bytes, Gone, Quiet}

-- the bytes that come with an event, where these stand in the buffer
abbrev pub came : LinkEvent → List ℕ → List ℕ
came (Opened link) buffer = []
came (Bytes link count) buffer = take count buffer
came (Gone link) buffer = []
came Quiet buffer = []

-- bytes that come are at least one, and at most as many as there is room for
abbrev pub IsWithin : LinkEvent → ℕ → Type 0
IsWithin (Opened link) room = Unit {0}
IsWithin (Bytes link count) room = (1 ≤ count) × (count ≤ room)
IsWithin (Gone link) room = Unit {0}
IsWithin Quiet room = Unit {0}

-- the number of the link that is new, if one is
abbrev pub new_link : LinkEvent → List ℕ
new_link (Opened link) = link ∷ []
new_link (Bytes link count) = []
new_link (Gone link) = []
new_link Quiet = []
