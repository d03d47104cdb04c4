-- The places of a table of links.
use Rattle.std.specs.Prelude.{ℕ, ◌≡◌, ◌+◌, ◌<◌, ◌≤◌, List, [], ◌∷◌, length, take, drop, Option, Some, None, IfSome, option_to_list, slice_index_or}
use Rattle.std.specs.List.{flat_map}
use Rattle.cx_node.specs.Tables.{put, without}

-- the place of a number: its link, unless that was taken out
pub record Slot (L : Type 0) : Type 0 where
  pub number : ℕ
  pub link : Option L

module _ {L : Type 0} where
  -- the links that stand in their places
  abbrev pub links_in : List (Slot L) → List L
  links_in slots = flat_map (λ s. option_to_list s.link) slots

  abbrev pub room_of : ℕ → Option L → List ℕ
  room_of number None = number ∷ []
  room_of number (Some link) = []

  -- the numbers of the places that stand empty
  abbrev pub rooms_in : List (Slot L) → List ℕ
  rooms_in slots = flat_map (λ s. room_of s.number s.link) slots

  -- the numbers rise, from this one on
  abbrev pub IsRising : ℕ → List (Slot L) → Type 0
  IsRising low [] = Unit {0}
  IsRising low (s ∷ slots) = (low ≤ s.number) × IsRising (s.number + 1) slots

  abbrev pub AreBelow : ℕ → List (Slot L) → Type 0
  AreBelow n [] = Unit {0}
  AreBelow n (s ∷ slots) = (s.number < n) × AreBelow n slots

  abbrev pub AreFrom : ℕ → List (Slot L) → Type 0
  AreFrom n [] = Unit {0}
  AreFrom n (s ∷ slots) = (n ≤ s.number) × AreFrom n slots

  -- each link stands in the place of its number
  abbrev pub AreNumbered : (L → ℕ) → List (Slot L) → Type 0
  AreNumbered number_of [] = Unit {0}
  AreNumbered number_of (s ∷ slots) = IfSome s.link (λ l. number_of l ≡ s.number) × AreNumbered number_of slots

  -- the place of this number stands here
  pub record IsFoundAt (n : ℕ) (slots : List (Slot L)) (i : ℕ) : Type 0 where
    pub within : i < length slots
    pub below : AreBelow n (take i slots)
    pub found : (d : Slot L) → (slice_index_or slots i d).number ≡ n
    pub above : AreFrom (n + 1) (drop (i + 1) slots)

  -- there is no place of this number, and here it would stand
  pub record IsMissingAt (n : ℕ) (slots : List (Slot L)) (i : ℕ) : Type 0 where
    pub within : i ≤ length slots
    pub below : AreBelow n (take i slots)
    pub above : AreFrom (n + 1) (drop i slots)

  -- how a table keeps its links
  pub record AreKept (number_of : L → ℕ) (slots : List (Slot L)) : Type 0 where
    pub rising : IsRising 0 slots
    pub numbered : AreNumbered number_of slots

  -- the place of this number, if of one, stands empty
  pub record IsTable (number_of : L → ℕ) (slots : List (Slot L)) (room : Option ℕ) : Type 0 where
    pub kept : AreKept number_of slots
    pub empty : rooms_in slots ≡ option_to_list room

  -- ---- what becomes of the places

  -- the link of this number was taken out, and its place is kept
  pub record IsVacated (number_of : L → ℕ) (n : ℕ) (old new : List (Slot L)) : Type 0 where
    pub links : links_in new ≡ without number_of n (links_in old)
    pub kept : AreKept number_of new
    pub empty : rooms_in new ≡ n ∷ []

  -- the link stands in its place, and no place is kept
  pub record IsFilled (number_of : L → ℕ) (link : L) (old new : List (Slot L)) : Type 0 where
    pub links : links_in new ≡ put number_of link (links_in old)
    pub kept : AreKept number_of new
    pub empty : rooms_in new ≡ []

  -- the place that was kept is gone
  pub record IsGivenUp (number_of : L → ℕ) (old new : List (Slot L)) : Type 0 where
    pub links : links_in new ≡ links_in old
    pub kept : AreKept number_of new
    pub empty : rooms_in new ≡ []

  -- the link of this number is gone with its place
  pub record IsRemoved (number_of : L → ℕ) (n : ℕ) (old new : List (Slot L)) : Type 0 where
    pub links : links_in new ≡ without number_of n (links_in old)
    pub kept : AreKept number_of new
    pub empty : rooms_in new ≡ rooms_in old
