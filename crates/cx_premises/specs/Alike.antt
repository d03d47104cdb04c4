-- What is found to be the same is the same: by this law facts are found by a hash of their numbers.
use Rattle.std.proofs.Common.{◌≡◌, ℕ, Bool, true, false, List, refl, ap, ◌∙◌}
use Rattle.std.specs.Prelude.{◌&&◌, IsTrue}
use Rattle.std.specs.Hash as fed
use Rattle.std.specs.Str.{bytes_eq}
use Rattle.std.proofs.lemmas.Bool.{eqb-true}
use Rattle.std.proofs.lemmas.Slice.Eq.{bytes_eq-Decides}
use Rattle.cx_premises.specs.Facts.{is_same, number_of}
use Rattle.cx_premises.specs.declared.facts.Fact.{Fact}
use Rattle.cx_premises.specs.declared.facts.Fact.TheVariants as fact

both_true : (a b : Bool) → (a && b) ≡ true → (a ≡ true) × (b ≡ true)
both_true true true e = (refl, refl)
both_true true false e = cc
both_true false b e = cc

same_bytes : (x y : List ℕ) → bytes_eq x y ≡ true → x ≡ y
same_bytes x y e = (bytes_eq-Decides x y).0 e

same_parts : (made : List ℕ → List ℕ → Fact) (x y k l : List ℕ) → (bytes_eq x y && bytes_eq k l) ≡ true → made x k ≡ made y l
same_parts made x y k l e =
    let parts = both_true (bytes_eq x y) (bytes_eq k l) e in
    ap (λ a. made a k) (same_bytes x y parts.0) ∙ ap (λ a. made y a) (same_bytes k l parts.1)

pub alike : (a b : Fact) → is_same a b ≡ true → a ≡ b
alike (fact.Sealed x k) (fact.Sealed y l) e = same_parts fact.Sealed x y k l e
alike (fact.Signed x k) (fact.Signed y l) e = same_parts fact.Signed x y k l e
alike (fact.Key k) (fact.Key l) e = ap fact.Key (same_bytes k l e)
alike (fact.LeakedKey k) (fact.LeakedKey l) e = ap fact.LeakedKey (same_bytes k l e)
alike (fact.Challenge x) (fact.Challenge y) e = ap fact.Challenge (eqb-true x y e)
alike (fact.Nonce x) (fact.Nonce y) e = ap fact.Nonce (eqb-true x y e)
alike (fact.Cookie x) (fact.Cookie y) e = ap fact.Cookie (eqb-true x y e)
alike _ _ e = cc

-- what is the same has one number
pub hashed_alike : (a b : Fact) → IsTrue (is_same a b) → fed.u64 (number_of a) ≡ fed.u64 (number_of b)
hashed_alike a b same = ap (λ f. fed.u64 (number_of f)) (alike a b same)
