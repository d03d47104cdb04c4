-- The maps behind one more cookie or blob.
use Rattle.std.proofs.Common.{◌≡◌, ℕ, suc, ◌+◌, ◌≤◌, List, [], ◌∷◌, ◌++◌, length, Bool, true, false, cond, position, Option, Some, None, is_some, refl, sym, ◌∙◌, ap, arith, ◌==◌, length-append, append-nil}
use Rattle.std.specs.List.{list_any, filter_map, cons_option}
use Rattle.std.specs.Option.{option_map}
use Rattle.std.specs.Ordering.{nat_cmp}
use Rattle.std.specs.declared.cmp.Ordering.{Ordering}
use Rattle.std.specs.Str.{bytes_eq}
use Rattle.std.specs.Cmp.{unsigned_ties}
use Rattle.std.specs.Cmp.Lexicographic.{slice_cmp, nat_list_eq_equiv}
use Rattle.std.specs.BTreeMap.{BTreeMap, get, is_at, btree_map_len, Updates}
use Rattle.std.proofs.lemmas.List.Elements.{filter_map-append}
use Rattle.std.proofs.lemmas.Bool.{eqb-true}
use Rattle.std.proofs.lemmas.Bool.Decides.{nat_tests}
use Rattle.std.proofs.lemmas.Slice.Eq.{bytes_eq-Decides}
use Rattle.std.proofs.lemmas.Map.Text.{is_eq-slice_cmp}
use Rattle.cx_journal.specs.Places.{different}
use Rattle.cx_journal.specs.Ranked.{IsRanksOf, IsNumbersOf}
use Rattle.cx_journal.proofs.Positions.{position_push, any_is_position, different_push}

module _ {X Y : Type 0} (h : X → Option Y) where
  pub filter_map_push : (xs : List X) (x : X) (y : Y) → h x ≡ Some y → filter_map h (xs ++ x ∷ []) ≡ filter_map h xs ++ y ∷ []
  filter_map_push xs x y e = filter_map-append h xs (x ∷ []) ∙ ap (λ o. filter_map h xs ++ cons_option o []) e

  pub filter_map_same : (xs : List X) (x : X) → h x ≡ None → filter_map h (xs ++ x ∷ []) ≡ filter_map h xs
  filter_map_same xs x e = filter_map-append h xs (x ∷ []) ∙ ap (λ o. filter_map h xs ++ cons_option o []) e ∙ append-nil (filter_map h xs)

-- a place from 1
abbrev from_one : Option ℕ → Option ℕ
from_one o = option_map (λ place. place + 1) o

same_some : (o : Option ℕ) → is_some (from_one o) ≡ is_some o
same_some None = refl
same_some (Some n) = refl

-- the place behind one more that is there already
stay : (found : Option ℕ) (b : Bool) (n : ℕ) → (b ≡ true → is_some found ≡ true) → from_one found ≡ from_one (cond (is_some found) found (cond b (Some n) None))
stay (Some m) b n h = refl
stay None true n h = cc (h refl)
stay None false n h = refl

-- and behind one that wasn't there
grow : (found : Option ℕ) (b : Bool) (n : ℕ) → (b ≡ true → is_some found ≡ false) → cond b (Some (n + 1)) (from_one found) ≡ from_one (cond (is_some found) found (cond b (Some n) None))
grow (Some m) true n h = cc (h refl)
grow (Some m) false n h = refl
grow None true n h = refl
grow None false n h = refl

module _ {K : Type 0} (eq : K → K → Bool) (cmp : K → K → Ordering) (ties : (k q : K) → is_at (cmp k) q ≡ eq q k) (exact : (q k : K) → eq q k ≡ true → q ≡ k) where
  -- each key's place in the list, from 1
  abbrev Tells : BTreeMap K ℕ → List K → Type 0
  Tells m ks = (q : K) → get cmp m q ≡ from_one (position (eq q) ks)

  found_as : (m : BTreeMap K ℕ) (ks : List K) (k : K) (b : Bool) → is_some (get cmp m k) ≡ b → Tells m ks → (q : K) → eq q k ≡ true → is_some (position (eq q) ks) ≡ b
  found_as m ks k b has h q same =
      sym (same_some (position (eq q) ks)) ∙ ap is_some (sym (h q)) ∙ ap (λ x. is_some (get cmp m x)) (exact q k same) ∙ has

  tells_stay : (m : BTreeMap K ℕ) (ks : List K) (k : K) → is_some (get cmp m k) ≡ true → Tells m ks → Tells m (ks ++ k ∷ [])
  tells_stay m ks k has h q =
      h q ∙ stay (position (eq q) ks) (eq q k) (length ks) (found_as m ks k true has h q) ∙ ap from_one (sym (position_push (eq q) ks k))

  tells_grow : (m n : BTreeMap K ℕ) (ks : List K) (k : K) → is_some (get cmp m k) ≡ false → Updates cmp m n k (Some (length ks + 1)) → Tells m ks → Tells n (ks ++ k ∷ [])
  tells_grow m n ks k has updates h q =
      updates.0 q ∙ ap (λ b. cond b (Some (length ks + 1)) (get cmp m q)) (ties k q) ∙ ap (λ o. cond (eq q k) (Some (length ks + 1)) o) (h q)
      ∙ grow (position (eq q) ks) (eq q k) (length ks) (found_as m ks k false has h q) ∙ ap from_one (sym (position_push (eq q) ks k))

number_ties : (k q : ℕ) → is_at (nat_cmp k) q ≡ (q == k)
number_ties k q = sym (unsigned_ties k q) ∙ grind (arith, nat_tests)

blob_ties : (k q : List ℕ) → is_at (slice_cmp nat_cmp k) q ≡ bytes_eq q k
blob_ties k q = is_eq-slice_cmp k q ∙ nat_list_eq_equiv.symm k q

blob_exact : (q k : List ℕ) → bytes_eq q k ≡ true → q ≡ k
blob_exact q k e = (bytes_eq-Decides q k).0 e

entered : (m : BTreeMap ℕ ℕ) (cookies : List ℕ) (cookie : ℕ) (b : Bool) → is_some (get nat_cmp m cookie) ≡ b → IsRanksOf m cookies → list_any (λ d. cookie == d) (different cookies) ≡ b
entered m cookies cookie b has h =
    sym (any_is_position (λ d. cookie == d) (different cookies)) ∙ sym (same_some (position (λ d. cookie == d) (different cookies))) ∙ ap is_some (sym (h.place cookie)) ∙ has

pub ranks_stay : (m : BTreeMap ℕ ℕ) (cookies : List ℕ) (cookie : ℕ) → is_some (get nat_cmp m cookie) ≡ true → IsRanksOf m cookies → IsRanksOf m (cookies ++ cookie ∷ [])
ranks_stay m cookies cookie has h =
    let there = entered m cookies cookie true has h in
    let same : different (cookies ++ cookie ∷ []) ≡ different cookies = rw (different_push cookies cookie, there) refl in
    record { place = λ q. rw same (h.place q); count = rw same h.count }

pub ranks_grow : (m n : BTreeMap ℕ ℕ) (cookies : List ℕ) (cookie : ℕ) (old : Option ℕ) → is_some (get nat_cmp m cookie) ≡ false → Updates nat_cmp m n cookie (Some (btree_map_len m + 1)) → old ≡ get nat_cmp m cookie → btree_map_len n ≡ btree_map_len m + cond (is_some old) 0 1 → IsRanksOf m cookies → IsRanksOf n (cookies ++ cookie ∷ [])
ranks_grow m n cookies cookie old has updates was len h =
    let one : btree_map_len n ≡ btree_map_len m + 1 = len ∙ ap (λ b. btree_map_len m + cond b 0 1) (ap is_some was ∙ has) in
    let none = entered m cookies cookie false has h in
    let more : different (cookies ++ cookie ∷ []) ≡ different cookies ++ cookie ∷ [] = rw (different_push cookies cookie, none) refl in
    let updated : Updates nat_cmp m n cookie (Some (length (different cookies) + 1)) = rw h.count at updates in
    record {
      place = λ q. rw more (tells_grow (λ a b. a == b) nat_cmp number_ties (λ a b e. eqb-true a b e) m n (different cookies) cookie has updated h.place q);
      count = rw more (omega (arith, length-append (different cookies) (cookie ∷ []), h.count));
    }

pub numbers_stay : (m : BTreeMap (List ℕ) ℕ) (issued : ℕ) (blobs : List (List ℕ)) (blob : List ℕ) → is_some (get (slice_cmp nat_cmp) m blob) ≡ true → IsNumbersOf m issued blobs → IsNumbersOf m (issued + 1) (blobs ++ blob ∷ [])
numbers_stay m issued blobs blob has h = record {
  count = omega (arith, length-append blobs (blob ∷ []), h.count);
  place = tells_stay bytes_eq (slice_cmp nat_cmp) blob_ties blob_exact m blobs blob has h.place;
}

pub numbers_grow : (m n : BTreeMap (List ℕ) ℕ) (issued : ℕ) (blobs : List (List ℕ)) (blob : List ℕ) → is_some (get (slice_cmp nat_cmp) m blob) ≡ false → Updates (slice_cmp nat_cmp) m n blob (Some (issued + 1)) → IsNumbersOf m issued blobs → IsNumbersOf n (issued + 1) (blobs ++ blob ∷ [])
numbers_grow m n issued blobs blob has updates h =
    let updated : Updates (slice_cmp nat_cmp) m n blob (Some (length blobs + 1)) = rw h.count at updates in
    record {
      count = omega (arith, length-append blobs (blob ∷ []), h.count);
      place = tells_grow bytes_eq (slice_cmp nat_cmp) blob_ties blob_exact m n blobs blob has updated h.place;
    }

more_or_same : {Y : Type 0} (o : Option Y) (ys : List Y) (n : ℕ) → length ys ≤ n → length (cons_option o ys) ≤ suc n
more_or_same None ys n few = omega arith
more_or_same (Some y) ys n few = omega arith

-- no more are kept than there are
pub no_more : {X Y : Type 0} (h : X → Option Y) (xs : List X) → length (filter_map h xs) ≤ length xs
no_more h [] = omega arith
no_more h (x ∷ xs) = more_or_same (h x) (filter_map h xs) (length xs) (no_more h xs)
