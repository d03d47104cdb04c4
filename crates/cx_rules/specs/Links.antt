-- The links of a node ("msgr2 protocol"), as its rules see them: nothing that came or was sent is forgotten.
use Rattle.std.specs.Prelude.{ℕ, ◌==◌, not, List, ◌∷◌, ◌++◌, find, filter, nat_lt, Option}

-- a live link: its number at the node, all bytes that came on it, how many of these the banner and the frames took that were handled, all
-- bytes that were sent on it, and its stage
pub record Link (Stage : Type 0) : Type 0 where
  pub number : ℕ
  pub received : List ℕ
  pub taken : ℕ
  pub sent : List ℕ
  pub stage : Stage

module _ {Stage : Type 0} where
  abbrev pub link_of : ℕ → List (Link Stage) → Option (Link Stage)
  link_of number links = find (λ l. l.number == number) links

  -- a link in its place by its number, instead of an older one of that number
  abbrev pub put_link : Link Stage → List (Link Stage) → List (Link Stage)
  put_link link links = filter (λ l. nat_lt l.number link.number) links ++ link ∷ filter (λ l. nat_lt link.number l.number) links

  abbrev pub without_link : ℕ → List (Link Stage) → List (Link Stage)
  without_link number links = filter (λ l. not (l.number == number)) links
