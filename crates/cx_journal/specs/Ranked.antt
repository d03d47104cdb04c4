-- What the maps of the writer keep of cookies and blobs: their places in lists. The loop that prints computes this; no public
-- clause speaks of it.
use Rattle.std.specs.Prelude.{ℕ, ◌≡◌, ◌+◌, ◌==◌, List, length, position}
use Rattle.std.specs.Option.{option_map}
use Rattle.std.specs.Ordering.{nat_cmp}
use Rattle.std.specs.Str.{bytes_eq}
use Rattle.std.specs.Cmp.Lexicographic.{slice_cmp}
use Rattle.std.specs.BTreeMap.{BTreeMap, get, btree_map_len}
use Rattle.cx_journal.specs.Places.{different}

-- the map tells of each cookie its place, from 1, among the different ones of the list
pub record IsRanksOf (ranks : BTreeMap ℕ ℕ) (cookies : List ℕ) : Type 0 where
  pub place : (cookie : ℕ) → get nat_cmp ranks cookie ≡ option_map (λ place. place + 1) (position (λ c. cookie == c) (different cookies))
  pub count : btree_map_len ranks ≡ length (different cookies)

-- so many blobs are in the list, and the map tells of each its first place, from 1
pub record IsNumbersOf (numbers : BTreeMap (List ℕ) ℕ) (issued : ℕ) (blobs : List (List ℕ)) : Type 0 where
  pub count : issued ≡ length blobs
  pub place : (blob : List ℕ) → get (slice_cmp nat_cmp) numbers blob ≡ option_map (λ place. place + 1) (position (bytes_eq blob) blobs)
