-- The live links of a node in the order of their numbers, whatever a link is.
use Rattle.std.specs.Prelude.{ℕ, ◌==◌, not, List, [], ◌∷◌, ◌++◌, find, filter, nat_lt, Option, Some, None}

-- the links that stand in a table, and the number of the one that was taken out of it and whose place is kept
pub record Table (L : Type 0) : Type 0 where
  pub links : List L
  pub room : Option ℕ

abbrev pub no_links : {L : Type 0} → Table L
no_links = record { links = []; room = None }

module _ {L : Type 0} (number_of : L → ℕ) where
  abbrev pub with_number : ℕ → List L → Option L
  with_number number links = find (λ l. number_of l == number) links

  -- a link in its place by its number, instead of an older one of that number
  abbrev pub put : L → List L → List L
  put link links = filter (λ l. nat_lt (number_of l) (number_of link)) links ++ link ∷ filter (λ l. nat_lt (number_of link) (number_of l)) links

  abbrev pub without : ℕ → List L → List L
  without number links = filter (λ l. not (number_of l == number)) links

  -- the links behind a step of the one of this number: it goes on, or is shut
  abbrev pub behind : ℕ → Option L → List L → List L
  behind number (Some link) links = put link links
  behind number None links = without number links
