-- What holds on each path of new links in memory, in words that know no state of theirs.
use Rattle.std.specs.Prelude.{ℕ, zero, suc, ◌≡◌, ◌≤◌, true, false, List, [], ◌∷◌, ◌++◌, length}
use Rattle.std.specs.List.{flat_map}
use Rattle.std.specs.Option.{option_to_list}
use Rattle.cx_outside.specs.linking.Acts.{LinkAct, Listened, Opened, Gave, Broke, Sent, Shut, Regarded}
use Rattle.cx_outside.specs.linking.Events.{new_link}
use Rattle.cx_outside.specs.linking.Living.{IsOnLiving, living_behind, without}
use Rattle.cx_outside.specs.linking.Paths.{Path}
use Rattle.cx_outside.specs.linking.Scripts.{Scripted, scripted}
use Rattle.cx_outside.specs.declared.events.LinkEvent.{LinkEvent}

-- the numbers of the links that began
abbrev pub begun_by : LinkAct → List ℕ
begun_by (Listened at ok) = []
begun_by (Opened to number) = option_to_list number
begun_by (Gave event bytes) = new_link event
begun_by Broke = []
begun_by (Sent link bytes ok) = []
begun_by (Shut link) = []
begun_by (Regarded link regard) = []

-- so many numbers in order
abbrev pub numbers_from : ℕ → ℕ → List ℕ
numbers_from first zero = []
numbers_from first (suc n) = first ∷ numbers_from (suc first) n

-- the n-th link has the number n
abbrev pub AreNumbered : Type 0
AreNumbered = (events : List LinkEvent) (bytes : List ℕ) (room : ℕ) (fails : List ℕ) (acts : List LinkAct) (s : Scripted)
    → Path (scripted events bytes room fails) acts s → flat_map begun_by acts ≡ numbers_from 1 (length (flat_map begun_by acts))

-- the bytes that came
abbrev pub come_by : LinkAct → List ℕ
come_by (Listened at ok) = []
come_by (Opened to number) = []
come_by (Gave event bytes) = bytes
come_by Broke = []
come_by (Sent link bytes ok) = []
come_by (Shut link) = []
come_by (Regarded link regard) = []

-- the bytes that came are the first ones, and the others are left
abbrev pub ComeInOrder : Type 0
ComeInOrder = (events : List LinkEvent) (bytes : List ℕ) (room : ℕ) (fails : List ℕ) (acts : List LinkAct) (s : Scripted)
    → Path (scripted events bytes room fails) acts s → bytes ≡ flat_map come_by acts ++ s.bytes

-- the bytes that were sent
abbrev pub sent_by : LinkAct → List ℕ
sent_by (Listened at ok) = []
sent_by (Opened to number) = []
sent_by (Gave event bytes) = []
sent_by Broke = []
sent_by (Sent link bytes true) = bytes
sent_by (Sent link bytes false) = []
sent_by (Shut link) = []
sent_by (Regarded link regard) = []

-- what was sent was taken, in order, and was no more than there was room for
abbrev pub AreTaken : Type 0
AreTaken = (events : List LinkEvent) (bytes : List ℕ) (room : ℕ) (fails : List ℕ) (acts : List LinkAct) (s : Scripted)
    → Path (scripted events bytes room fails) acts s → (s.taken ≡ flat_map sent_by acts) × (length (flat_map sent_by acts) ≤ room)

-- the links that live behind an act
abbrev pub living_after : LinkAct → List ℕ → List ℕ
living_after (Listened at ok) living = living
living_after (Opened to number) living = living ++ option_to_list number
living_after (Gave event bytes) living = living_behind event living
living_after Broke living = living
living_after (Sent link bytes ok) living = living
living_after (Shut link) living = without link living
living_after (Regarded link regard) living = living

-- what comes, comes on links that live: they began, and weren't gone or shut since
abbrev pub IsActOnLiving : LinkAct → List ℕ → Type 0
IsActOnLiving (Listened at ok) living = Unit {0}
IsActOnLiving (Opened to number) living = Unit {0}
IsActOnLiving (Gave event bytes) living = IsOnLiving event living
IsActOnLiving Broke living = Unit {0}
IsActOnLiving (Sent link bytes ok) living = Unit {0}
IsActOnLiving (Shut link) living = Unit {0}
IsActOnLiving (Regarded link regard) living = Unit {0}

abbrev pub AreOnLiving : List ℕ → List LinkAct → Type 0
AreOnLiving living [] = Unit {0}
AreOnLiving living (act ∷ acts) = IsActOnLiving act living × AreOnLiving (living_after act living) acts

abbrev pub ComeOnLiving : Type 0
ComeOnLiving = (events : List LinkEvent) (bytes : List ℕ) (room : ℕ) (fails : List ℕ) (acts : List LinkAct) (s : Scripted)
    → Path (scripted events bytes room fails) acts s → AreOnLiving [] acts
