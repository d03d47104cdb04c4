-- Places that are changed, taken away or put between others.
use Rattle.std.proofs.Common.{ℕ, zero, suc, get_or, slice_get, ◌≡◌, ◌+◌, ◌<◌, ◌≤◌, List, [], ◌∷◌, ◌++◌, length, Option, Some, None, IfSome, arith, refl, ap, ◌∙◌}
use Rattle.std.specs.Prelude.{option_to_list}
use Rattle.std.proofs.lemmas.Option.{slice_get_past}
use Rattle.std.proofs.lemmas.Grind.{flat_map-append}
use Rattle.cx_node.specs.Places.{Slot, links_in, room_of, rooms_in, IsRising, AreBelow, AreFrom, AreNumbered, AreKept}
use Rattle.cx_node.specs.Tables.{with_number, put, without}
use Rattle.cx_node.proofs.Lists.{Below, Above, finds, leaves, puts}

-- ---- numbers in their order

abbrev Lower : ℕ → List ℕ → Type 0
Lower n [] = Unit {0}
Lower n (m ∷ ms) = (m < n) × Lower n ms

abbrev Higher : ℕ → List ℕ → Type 0
Higher n [] = Unit {0}
Higher n (m ∷ ms) = (n < m) × Higher n ms

front_none : (n : ℕ) (front back : List ℕ) → Lower n front → front ++ back ≡ n ∷ [] → front ≡ []
front_none n [] back lower is = refl
front_none n (m ∷ front) back lower is = absurd (let same : m ≡ n = cc in omega (arith, lower.0))

back_none : (n : ℕ) (back : List ℕ) → Higher n back → back ≡ n ∷ [] → ⊥
back_none n [] higher is = cc
back_none n (m ∷ back) higher is = let same : m ≡ n = cc in omega (arith, higher.0)

pub nil_parts : (a b : List ℕ) → a ++ b ≡ [] → (a ≡ []) × (b ≡ [])
nil_parts [] b is = (refl, is)
nil_parts (n ∷ a) b is = absurd cc

module _ {L : Type 0} where
  links_joined : (a b : List (Slot L)) → links_in (a ++ b) ≡ links_in a ++ links_in b
  links_joined a b = flat_map-append (λ s. option_to_list s.link) a b

  pub rooms_joined : (a b : List (Slot L)) → rooms_in (a ++ b) ≡ rooms_in a ++ rooms_in b
  rooms_joined a b = flat_map-append (λ s. room_of s.number s.link) a b

  -- ---- the order

  -- the first number that may stand behind these places
  abbrev ends : ℕ → List (Slot L) → ℕ
  ends low [] = low
  ends low (s ∷ slots) = ends (s.number + 1) slots

  rising_front : (low : ℕ) (a b : List (Slot L)) → IsRising low (a ++ b) → IsRising low a
  rising_front low [] b rising = tt
  rising_front low (s ∷ a) b rising = (rising.0, rising_front (s.number + 1) a b rising.1)

  rising_back : (low : ℕ) (a b : List (Slot L)) → IsRising low (a ++ b) → IsRising (ends low a) b
  rising_back low [] b rising = rising
  rising_back low (s ∷ a) b rising = rising_back (s.number + 1) a b rising.1

  rising_joined : (low : ℕ) (a b : List (Slot L)) → IsRising low a → IsRising (ends low a) b → IsRising low (a ++ b)
  rising_joined low [] b front back = back
  rising_joined low (s ∷ a) b front back = (front.0, rising_joined (s.number + 1) a b front.1 back)

  rising_lower : (low high : ℕ) (slots : List (Slot L)) → low ≤ high → IsRising high slots → IsRising low slots
  rising_lower low high [] le rising = tt
  rising_lower low high (s ∷ slots) le rising = (omega (arith, rising.0), rising.1)

  rising_higher : (low high : ℕ) (slots : List (Slot L)) → AreFrom high slots → IsRising low slots → IsRising high slots
  rising_higher low high [] from rising = tt
  rising_higher low high (s ∷ slots) from rising = (from.0, rising.1)

  ends_below : (low n : ℕ) (slots : List (Slot L)) → low ≤ n → AreBelow n slots → ends low slots ≤ n
  ends_below low n [] le below = le
  ends_below low n (s ∷ slots) le below = ends_below (s.number + 1) n slots (omega (arith, below.0)) below.1

  -- ---- empty places

  rooms_below : (n : ℕ) (slots : List (Slot L)) → AreBelow n slots → Lower n (rooms_in slots)
  rooms_below n [] below = tt
  rooms_below n (s ∷ slots) below = one s.number s.link (rooms_in slots) below.0 (rooms_below n slots below.1)
    where
      one : (m : ℕ) (o : Option L) (rest : List ℕ) → m < n → Lower n rest → Lower n (room_of m o ++ rest)
      one m None rest lower all = (lower, all)
      one m (Some l) rest lower all = all

  rooms_above : (n : ℕ) (slots : List (Slot L)) → AreFrom (n + 1) slots → Higher n (rooms_in slots)
  rooms_above n [] from = tt
  rooms_above n (s ∷ slots) from = one s.number s.link (rooms_in slots) (omega (arith, from.0)) (rooms_above n slots from.1)
    where
      one : (m : ℕ) (o : Option L) (rest : List ℕ) → n < m → Higher n rest → Higher n (room_of m o ++ rest)
      one m None rest higher all = (higher, all)
      one m (Some l) rest higher all = all

  -- where a place is kept, no other one stands empty
  pub record IsEmptyAlone (o : Option L) (lower higher : List (Slot L)) : Type 0 where
    pub here : o ≡ None
    pub none_lower : rooms_in lower ≡ []
    pub none_higher : rooms_in higher ≡ []

  alone : (n : ℕ) (o : Option L) (lower higher : List (Slot L)) → AreBelow n lower → AreFrom (n + 1) higher → rooms_in lower ++ (room_of n o ++ rooms_in higher) ≡ n ∷ [] → IsEmptyAlone o lower higher
  alone n o lower higher below above is =
      let front = front_none n (rooms_in lower) (room_of n o ++ rooms_in higher) (rooms_below n lower below) is in
      behind o front (rw front at is)
    where
      behind : (o : Option L) → rooms_in lower ≡ [] → room_of n o ++ rooms_in higher ≡ n ∷ [] → IsEmptyAlone o lower higher
      behind None front is = record { here = refl; none_lower = front; none_higher = cc }
      behind (Some l) front is = absurd (back_none n (rooms_in higher) (rooms_above n higher above) is)

  pub empty_alone : (s : Slot L) (lower higher : List (Slot L)) → AreBelow s.number lower → AreFrom (s.number + 1) higher → rooms_in (lower ++ s ∷ higher) ≡ s.number ∷ [] → IsEmptyAlone s.link lower higher
  empty_alone s lower higher below above is = alone s.number s.link lower higher below above (rw (rooms_joined lower (s ∷ higher)) at is)

  -- a place that is kept is there
  pub kept_there : (n : ℕ) (lower higher : List (Slot L)) → AreBelow n lower → AreFrom (n + 1) higher → rooms_in (lower ++ higher) ≡ n ∷ [] → ⊥
  kept_there n lower higher below above is =
      let both = rw (rooms_joined lower higher) at is in
      let front = front_none n (rooms_in lower) (rooms_in higher) (rooms_below n lower below) both in
      back_none n (rooms_in higher) (rooms_above n higher above) (rw front at both)

  -- where no place stands empty, a link stands in each
  pub filled_in : (s : Slot L) (lower higher : List (Slot L)) → rooms_in (lower ++ s ∷ higher) ≡ [] → (room_of s.number s.link ≡ []) × (rooms_in lower ≡ []) × (rooms_in higher ≡ [])
  filled_in s lower higher is =
      let front = nil_parts (rooms_in lower) (room_of s.number s.link ++ rooms_in higher) (rw (rooms_joined lower (s ∷ higher)) at is) in
      let back = nil_parts (room_of s.number s.link) (rooms_in higher) front.1 in
      (back.0, front.0, back.1)

  pub rooms_around : (s : Slot L) (lower higher : List (Slot L)) → rooms_in lower ≡ [] → rooms_in higher ≡ [] → rooms_in (lower ++ s ∷ higher) ≡ room_of s.number s.link ++ []
  rooms_around s lower higher front back = rooms_joined lower (s ∷ higher) ∙ rw (front, back) refl

  pub rooms_without : (lower higher : List (Slot L)) → rooms_in lower ≡ [] → rooms_in higher ≡ [] → rooms_in (lower ++ higher) ≡ []
  rooms_without lower higher front back = rooms_joined lower higher ∙ rw (front, back) refl

  pub rooms_same : (s : Slot L) (lower higher : List (Slot L)) → room_of s.number s.link ≡ [] → rooms_in (lower ++ higher) ≡ rooms_in (lower ++ s ∷ higher)
  rooms_same s lower higher filled = rw (rooms_joined lower higher, rooms_joined lower (s ∷ higher), filled) refl

  pub length_rooms : (slots : List (Slot L)) → length (links_in slots) + length (rooms_in slots) ≡ length slots
  length_rooms [] = refl
  length_rooms (s ∷ slots) = one s.link (length_rooms slots)
    where
      one : (o : Option L) → length (links_in slots) + length (rooms_in slots) ≡ length slots → length (option_to_list o ++ links_in slots) + length (room_of s.number o ++ rooms_in slots) ≡ length (s ∷ slots)
      one None rest = omega (arith, rest)
      one (Some l) rest = omega (arith, rest)

  -- the links that stand where no place is empty
  pub link_at : (slots : List (Slot L)) (i : ℕ) (s : Slot L) → rooms_in slots ≡ [] → i < length slots → s ≡ get_or slots i s → s.link ≡ slice_get (links_in slots) i
  link_at [] i s full within read = absurd (omega arith)
  link_at (t ∷ slots) zero s full within read = first t.link (ap (λ (x : Slot L). x.link) read) full
    where
      first : (o : Option L) → s.link ≡ o → room_of t.number o ++ rooms_in slots ≡ [] → s.link ≡ slice_get (option_to_list o ++ links_in slots) 0
      first None is full = absurd cc
      first (Some l) is full = is
  link_at (t ∷ slots) (suc i) s full within read = later t.link full (λ none. link_at slots i s none (omega arith) read)
    where
      later : (o : Option L) → room_of t.number o ++ rooms_in slots ≡ [] → (rooms_in slots ≡ [] → s.link ≡ slice_get (links_in slots) i) → s.link ≡ slice_get (option_to_list o ++ links_in slots) (suc i)
      later None full rest = absurd cc
      later (Some l) full rest = rest full

  pub none_past : (slots : List (Slot L)) (i : ℕ) → length slots ≤ i → slice_get (links_in slots) i ≡ None
  none_past slots i past = let all = length_rooms slots in slice_get_past (links_in slots) i (omega (arith, all))

module _ {L : Type 0} (f : L → ℕ) where
  numbered_front : (a b : List (Slot L)) → AreNumbered f (a ++ b) → AreNumbered f a
  numbered_front [] b all = tt
  numbered_front (s ∷ a) b all = (all.0, numbered_front a b all.1)

  numbered_back : (a b : List (Slot L)) → AreNumbered f (a ++ b) → AreNumbered f b
  numbered_back [] b all = all
  numbered_back (s ∷ a) b all = numbered_back a b all.1

  numbered_joined : (a b : List (Slot L)) → AreNumbered f a → AreNumbered f b → AreNumbered f (a ++ b)
  numbered_joined [] b front back = back
  numbered_joined (s ∷ a) b front back = (front.0, numbered_joined a b front.1 back)

  links_below : (n : ℕ) (slots : List (Slot L)) → AreNumbered f slots → AreBelow n slots → Below f n (links_in slots)
  links_below n [] all below = tt
  links_below n (s ∷ slots) all below = one s.number s.link (links_in slots) all.0 below.0 (links_below n slots all.1 below.1)
    where
      one : (m : ℕ) (o : Option L) (rest : List L) → IfSome o (λ l. f l ≡ m) → m < n → Below f n rest → Below f n (option_to_list o ++ rest)
      one m None rest is lower all = all
      one m (Some l) rest is lower all = (omega (arith, is), all)

  links_above : (n : ℕ) (slots : List (Slot L)) → AreNumbered f slots → AreFrom (n + 1) slots → Above f n (links_in slots)
  links_above n [] all from = tt
  links_above n (s ∷ slots) all from = one s.number s.link (links_in slots) all.0 (omega (arith, from.0)) (links_above n slots all.1 from.1)
    where
      one : (m : ℕ) (o : Option L) (rest : List L) → IfSome o (λ l. f l ≡ m) → n < m → Above f n rest → Above f n (option_to_list o ++ rest)
      one m None rest is higher all = all
      one m (Some l) rest is higher all = (omega (arith, is), all)

  -- ---- a place between those of lower and of higher numbers

  pub link_here : (s : Slot L) (lower higher : List (Slot L)) → AreKept f (lower ++ s ∷ higher) → AreBelow s.number lower → AreFrom (s.number + 1) higher → with_number f s.number (links_in (lower ++ s ∷ higher)) ≡ s.link
  link_here s lower higher kept below above =
      let back = numbered_back lower (s ∷ higher) kept.numbered in
      rw (links_joined lower (s ∷ higher))
      (finds f s.number (links_in lower) s.link (links_in higher) (links_below s.number lower (numbered_front lower (s ∷ higher) kept.numbered) below) back.0 (links_above s.number higher back.1 above))

  pub link_nowhere : (n : ℕ) (lower higher : List (Slot L)) → AreKept f (lower ++ higher) → AreBelow n lower → AreFrom (n + 1) higher → with_number f n (links_in (lower ++ higher)) ≡ None
  link_nowhere n lower higher kept below above =
      rw (links_joined lower higher)
      (finds f n (links_in lower) None (links_in higher) (links_below n lower (numbered_front lower higher kept.numbered) below) tt (links_above n higher (numbered_back lower higher kept.numbered) above))

  pub left_here : (s : Slot L) (lower higher : List (Slot L)) → AreKept f (lower ++ s ∷ higher) → AreBelow s.number lower → AreFrom (s.number + 1) higher → without f s.number (links_in (lower ++ s ∷ higher)) ≡ links_in lower ++ links_in higher
  left_here s lower higher kept below above =
      let back = numbered_back lower (s ∷ higher) kept.numbered in
      rw (links_joined lower (s ∷ higher))
      (leaves f s.number (links_in lower) s.link (links_in higher) (links_below s.number lower (numbered_front lower (s ∷ higher) kept.numbered) below) back.0 (links_above s.number higher back.1 above))

  pub left_nowhere : (n : ℕ) (lower higher : List (Slot L)) → AreKept f (lower ++ higher) → AreBelow n lower → AreFrom (n + 1) higher → without f n (links_in (lower ++ higher)) ≡ links_in (lower ++ higher)
  left_nowhere n lower higher kept below above =
      rw (links_joined lower higher)
      (leaves f n (links_in lower) None (links_in higher) (links_below n lower (numbered_front lower higher kept.numbered) below) tt (links_above n higher (numbered_back lower higher kept.numbered) above))

  pub put_here : (s : Slot L) (lower higher : List (Slot L)) (link : L) → f link ≡ s.number → AreKept f (lower ++ s ∷ higher) → AreBelow s.number lower → AreFrom (s.number + 1) higher → put f link (links_in (lower ++ s ∷ higher)) ≡ links_in lower ++ link ∷ links_in higher
  put_here s lower higher link same kept below above =
      let back = numbered_back lower (s ∷ higher) kept.numbered in
      rw (links_joined lower (s ∷ higher))
      (puts f link (links_in lower) s.link (links_in higher) (rw same (links_below s.number lower (numbered_front lower (s ∷ higher) kept.numbered) below)) (rw same back.0) (rw same (links_above s.number higher back.1 above)))

  pub put_nowhere : (link : L) (lower higher : List (Slot L)) → AreKept f (lower ++ higher) → AreBelow (f link) lower → AreFrom (f link + 1) higher → put f link (links_in (lower ++ higher)) ≡ links_in lower ++ link ∷ links_in higher
  put_nowhere link lower higher kept below above =
      rw (links_joined lower higher)
      (puts f link (links_in lower) None (links_in higher) (links_below (f link) lower (numbered_front lower higher kept.numbered) below) tt (links_above (f link) higher (numbered_back lower higher kept.numbered) above))

  -- the place with something else in it
  pub kept_changed : (s t : Slot L) (lower higher : List (Slot L)) → t.number ≡ s.number → IfSome t.link (λ l. f l ≡ t.number) → AreKept f (lower ++ s ∷ higher) → AreKept f (lower ++ t ∷ higher)
  kept_changed s t lower higher same is kept =
      let back = rising_back 0 lower (s ∷ higher) kept.rising in
      record {
        rising = rising_joined 0 lower (t ∷ higher) (rising_front 0 lower (s ∷ higher) kept.rising) (rw same back);
        numbered = numbered_joined lower (t ∷ higher) (numbered_front lower (s ∷ higher) kept.numbered) (is, (numbered_back lower (s ∷ higher) kept.numbered).1);
      }

  -- the place taken away
  pub kept_removed : (s : Slot L) (lower higher : List (Slot L)) → AreKept f (lower ++ s ∷ higher) → AreKept f (lower ++ higher)
  kept_removed s lower higher kept =
      let back = rising_back 0 lower (s ∷ higher) kept.rising in
      record {
        rising = rising_joined 0 lower higher (rising_front 0 lower (s ∷ higher) kept.rising) (rising_lower (ends 0 lower) (s.number + 1) higher (omega (arith, back.0)) back.1);
        numbered = numbered_joined lower higher (numbered_front lower (s ∷ higher) kept.numbered) (numbered_back lower (s ∷ higher) kept.numbered).1;
      }

  -- a new place
  pub kept_inserted : (t : Slot L) (lower higher : List (Slot L)) → IfSome t.link (λ l. f l ≡ t.number) → AreBelow t.number lower → AreFrom (t.number + 1) higher → AreKept f (lower ++ higher) → AreKept f (lower ++ t ∷ higher)
  kept_inserted t lower higher is below above kept =
      record {
        rising = rising_joined 0 lower (t ∷ higher) (rising_front 0 lower higher kept.rising)
            (ends_below 0 t.number lower (omega arith) below, rising_higher (ends 0 lower) (t.number + 1) higher above (rising_back 0 lower higher kept.rising));
        numbered = numbered_joined lower (t ∷ higher) (numbered_front lower higher kept.numbered) (is, numbered_back lower higher kept.numbered);
      }

  pub links_around : (t : Slot L) (lower higher : List (Slot L)) → links_in (lower ++ t ∷ higher) ≡ links_in lower ++ (option_to_list t.link ++ links_in higher)
  links_around t lower higher = links_joined lower (t ∷ higher)

  pub links_beside : (lower higher : List (Slot L)) → links_in (lower ++ higher) ≡ links_in lower ++ links_in higher
  links_beside lower higher = links_joined lower higher
