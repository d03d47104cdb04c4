-- The first member of a name, in its place.
use Rattle.std.proofs.Common.{◌≡◌, ℕ, ◌+◌, ◌<◌, Bool, true, false, cond, suc, zero, List, [], ◌∷◌, length, get_or, set, Option, Some, None, refl, sym, ap, ◌∙◌, subst, arith}
use Rattle.std.specs.Prelude.{find, nat_lt}
use Rattle.std.proofs.lemmas.Bool.Decides.{nat_tests}
use Rattle.std.specs.List.{position, position_or_len, slice_get}
use Rattle.std.proofs.lemmas.Bool.{false≢true}
use Rattle.std.proofs.lemmas.List.Folds.{find_at, find-set, find_past}
use Rattle.std.proofs.lemmas.List.Sums.{passes_at_first}
use Rattle.std.proofs.lemmas.Option.{cond_some, none-some, slice_get_past, slice_get_read}
use Rattle.cx_base.specs.Names.{Name, same_name}
use Rattle.cx_base.proofs.Names.{same_name_is, same_name_self}
use Rattle.cx_world.specs.actors.Held.{member_of}
use Rattle.cx_world.specs.declared.members.Member.{Member}

module _ {X : Type 0} (p : X → Bool) where
  pub record IsFirst (xs : List X) (i : ℕ) : Type 0 where
    pub within : i < length xs
    pub first : i ≡ position_or_len p xs

  pub is_first : (xs : List X) (i : ℕ) → position p xs ≡ Some i → IsFirst xs i
  is_first xs i e =
      let k = cond_some (nat_lt (position_or_len p xs) (length xs)) (position_or_len p xs) i e in
      let n : i ≡ position_or_len p xs = sym k.1 in
      record { within = grind (arith, nat_tests); first = n }

  pub is_none : (xs : List X) → position p xs ≡ None → find p xs ≡ None
  is_none xs e = by (nat_lt (position_or_len p xs) (length xs)) refl e
    where
      by : (b : Bool) → nat_lt (position_or_len p xs) (length xs) ≡ b → cond b (Some (position_or_len p xs)) None ≡ None → find p xs ≡ None
      by true t k = absurd (none-some (position_or_len p xs) (sym k))
      by false t k = find_at p xs ∙ slice_get_past xs (position_or_len p xs) (grind (arith, nat_tests))

  pub found_first : (xs : List X) (i : ℕ) (x : X) → IsFirst xs i → x ≡ get_or xs i x → (find p xs ≡ Some x) × (p x ≡ true)
  found_first xs i x at read =
      let n : position_or_len p xs ≡ i = sym at.first in (
        find_at p xs ∙ ap (λ (k : ℕ). slice_get xs k) n ∙ slice_get_read xs (length xs) i x refl at.within read,
        ap p read ∙ ap (λ (k : ℕ). p (get_or xs k x)) at.first ∙ passes_at_first p xs x (let h : position_or_len p xs < length xs = rw n at.within in h),
      )

-- a member in its place is replaced by one of its name
module _ (members : List Member) (name : Name) (place : ℕ) (old new : Member)
    (at : IsFirst (λ (m : Member). same_name m.name name) members place) (read : old ≡ get_or members place old) (same : new.name ≡ old.name) where
  pub old_name : old.name ≡ name
  old_name = same_name_is old.name name (found_first (λ (m : Member). same_name m.name name) members place old at read).1

  pub member_here : member_of name (set members place new) ≡ Some new
  member_here = find-set (λ (m : Member). same_name m.name name) members place new at.first at.within (rw (same, old_name) (same_name_self name))

  pub member_elsewhere : (n : Name) → same_name name n ≡ false → member_of n (set members place new) ≡ member_of n members
  member_elsewhere n other =
      let here : get_or members place old ≡ old = sym read in
      find_past (λ (m : Member). same_name m.name n) members place new old (rw (here, old_name) other) (rw (same, old_name) other)
