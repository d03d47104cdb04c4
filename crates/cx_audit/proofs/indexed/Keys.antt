-- What a map has under each key once an entry more is put.
use Rattle.std.proofs.Common.{◌≡◌, ℕ, Bool, true, false, cond, List, [], ◌∷◌, ◌++◌, Some, None, refl, sym, ap, ◌∙◌, ◌==◌, arith, nat_lt, eq-eqb}
use Rattle.std.specs.Prelude.{◌&&◌, unwrap_or}
use Rattle.std.specs.BTreeMap.{BTreeMap, get, is_at}
use Rattle.std.specs.Borrow.{Bor}
use Rattle.std.specs.Cmp.Lexicographic.{slice_cmp}
use Rattle.std.specs.Global.{Vec}
use Rattle.std.specs.Option.{option_map}
use Rattle.std.specs.Ordering.{is_eq, nat_cmp, ordering_then}
use Rattle.std.specs.Str.{bytes_eq}
use Rattle.std.specs.declared.cmp.Ordering.{Ordering}
use Rattle.std.specs.declared.cmp.Ordering.TheVariants.{Less, Equal, Greater}
use Rattle.std.proofs.lemmas.Bool.{eqb-true}
use Rattle.std.proofs.lemmas.Bool.Decides.{nat_tests}
use Rattle.std.proofs.lemmas.Map.Text.{is_eq-slice_cmp}
use Rattle.std.proofs.lemmas.Slice.Eq.{bytes_eq-Decides}
use Rattle.cx_journal.specs.declared.entries.Entry.{Entry}
use Rattle.cx_audit.specs.indexed.Keyed.{held, listed, order, same_key}
use Rattle.cx_audit.specs.declared.key.Key.{Key}

both : (a b : Bool) → (a && b) ≡ true → (a ≡ true) × (b ≡ true)
both true true e = (refl, refl)
both true false e = cc
both false b e = cc

then_eq : (a b : Ordering) → is_eq (ordering_then a b) ≡ (is_eq a && is_eq b)
then_eq Less b = refl
then_eq Equal b = refl
then_eq Greater b = refl

number_cases : (low same : Bool) → (low ≡ true → same ≡ false) → is_eq (cond low Less (cond same Equal Greater)) ≡ same
number_cases true same apart = sym (apart refl)
number_cases false true apart = refl
number_cases false false apart = refl

number_eq : (x y : ℕ) → is_eq (nat_cmp x y) ≡ (x == y)
number_eq x y = number_cases (nat_lt x y) (x == y) (λ low. grind (arith, nat_tests, low))

-- the order of keys tells them apart
at_same : (a b : Key) → is_at (order a) b ≡ same_key a b
at_same a b =
    let numbers = ordering_then (nat_cmp a.round b.round) (nat_cmp a.number b.number) in
    let second : is_eq numbers ≡ ((a.round == b.round) && (a.number == b.number)) =
    then_eq (nat_cmp a.round b.round) (nat_cmp a.number b.number) ∙ ap (λ k. k && is_eq (nat_cmp a.number b.number)) (number_eq a.round b.round)
    ∙ ap (λ k. (a.round == b.round) && k) (number_eq a.number b.number) in
    then_eq (slice_cmp nat_cmp a.bytes b.bytes) numbers ∙ ap (λ k. k && is_eq numbers) (is_eq-slice_cmp a.bytes b.bytes) ∙ ap (λ k. bytes_eq a.bytes b.bytes && k) second

pub key_is : (a b : Key) → same_key a b ≡ true → a ≡ b
key_is a b e =
    let parts = both (bytes_eq a.bytes b.bytes) ((a.round == b.round) && (a.number == b.number)) e in
    let numbers = both (a.round == b.round) (a.number == b.number) parts.1 in
    let with_bytes : List ℕ → Key = λ x. record { bytes = x; round = a.round; number = a.number } in
    let with_round : ℕ → Key = λ x. record { bytes = b.bytes; round = x; number = a.number } in
    let with_number : ℕ → Key = λ x. record { bytes = b.bytes; round = b.round; number = x } in
    ap with_bytes ((bytes_eq-Decides a.bytes b.bytes).0 parts.0) ∙ ap with_round (eqb-true a.round b.round numbers.0) ∙ ap with_number (eqb-true a.number b.number numbers.1)

module _ (old gone new : BTreeMap Key (Vec (Bor Entry))) (key : Key) (e : Entry) (had has : Vec (Bor Entry)) where
  put_case : (q : Key) (same : Bool) → same_key key q ≡ same → held had ≡ listed old key → held has ≡ held had ++ e ∷ []
      → unwrap_or (option_map held (cond same (Some has) (cond same None (get order old q)))) [] ≡ cond same (listed old q ++ e ∷ []) (listed old q)
  put_case q true is was more = more ∙ ap (λ es. es ++ e ∷ []) (was ∙ ap (listed old) (key_is key q is))
  put_case q false is was more = refl

  pub put_listed : ((q : Key) → get order gone q ≡ cond (is_at (order key) q) None (get order old q)) → ((q : Key) → get order new q ≡ cond (is_at (order key) q) (Some has) (get order gone q))
      → held had ≡ listed old key → held has ≡ held had ++ e ∷ [] → (q : Key) → listed new q ≡ cond (same_key key q) (listed old q ++ e ∷ []) (listed old q)
  put_listed out into was more q =
      ap (λ o. unwrap_or (option_map held o) [])
      (into q ∙ ap (λ o. cond (is_at (order key) q) (Some has) o) (out q) ∙ ap (λ b. cond b (Some has) (cond b None (get order old q))) (at_same key q))
      ∙ put_case q (same_key key q) refl was more

pub key_self : (a : Key) → same_key a a ≡ true
key_self a = rw ((bytes_eq-Decides a.bytes a.bytes).1 refl, eq-eqb a.round a.round refl, eq-eqb a.number a.number refl) refl
