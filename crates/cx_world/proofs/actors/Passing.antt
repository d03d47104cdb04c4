-- The first place of one that passes, where a list is changed.
use Rattle.std.proofs.Common.{◌≡◌, ℕ, ◌+◌, ◌≤◌, Bool, true, false, cond, suc, zero, List, [], ◌∷◌, ◌++◌, length, get_or, set, Option, None, refl, ap, ◌∙◌, subst}
use Rattle.std.specs.Prelude.{map}
use Rattle.std.specs.List.{position, position_or_len}

-- a list in which one is replaced by another that passes where it did has its first at the same place
module _ {X : Type 0} (p : X → Bool) where
  set_passes : (xs : List X) (i : ℕ) (old next : X) → old ≡ get_or xs i old → p next ≡ p old → position_or_len p (set xs i next) ≡ position_or_len p xs
  set_passes [] i old next read same = refl
  set_passes (x ∷ xs) zero old next read same = let e : p next ≡ p x = same ∙ ap p read in rw e refl
  set_passes (x ∷ xs) (suc i) old next read same = let e = set_passes xs i old next read same in rw e refl

  set_length : (xs : List X) (i : ℕ) (next : X) → length (set xs i next) ≡ length xs
  set_length [] i next = refl
  set_length (x ∷ xs) zero next = refl
  set_length (x ∷ xs) (suc i) next = ap suc (set_length xs i next)

  pub position-set : (xs : List X) (i : ℕ) (old next : X) → old ≡ get_or xs i old → p next ≡ p old → position p (set xs i next) ≡ position p xs
  position-set xs i old next read same =
      let e = set_passes xs i old next read same in
      let n = set_length xs i next in
      rw (e, n) refl

-- so has one that is changed all along
module _ {X : Type 0} (p : X → Bool) (f : X → X) (same : (x : X) → p (f x) ≡ p x) where
  map_passes : (xs : List X) → position_or_len p (map f xs) ≡ position_or_len p xs
  map_passes [] = refl
  map_passes (x ∷ xs) = let e = map_passes xs in let s = same x in rw (s, e) refl

  map_length : (xs : List X) → length (map f xs) ≡ length xs
  map_length [] = refl
  map_length (x ∷ xs) = ap suc (map_length xs)

  pub position-map : (xs : List X) → position p (map f xs) ≡ position p xs
  position-map xs = let e = map_passes xs in let n = map_length xs in rw (e, n) refl
