-- What is there, or there in the other form, is repeated.
use Rattle.std.proofs.Common.{◌≡◌, Bool, true, false, List, refl}
use Rattle.std.specs.Prelude.{◌||◌}
use Rattle.cx_premises.specs.Facts.{has_twin, is_kept, is_repeated}
use Rattle.cx_premises.specs.declared.facts.Fact.{Fact}
use Rattle.cx_premises.specs.declared.facts.Fact.TheVariants as fact

or_turned : (a b : Bool) → (a || b) ≡ (b || a)
or_turned true true = refl
or_turned true false = refl
or_turned false true = refl
or_turned false false = refl

or_none : (a : Bool) → a ≡ (a || false)
or_none true = refl
or_none false = refl

pub repeated_by : (facts : List Fact) (left : Fact) → is_repeated facts left ≡ (is_kept facts left || has_twin facts left)
repeated_by facts (fact.Key key) = refl
repeated_by facts (fact.LeakedKey key) = or_turned (is_kept facts (fact.Key key)) (is_kept facts (fact.LeakedKey key))
repeated_by facts (fact.Sealed content key) = or_none (is_kept facts (fact.Sealed content key))
repeated_by facts (fact.Signed content key) = or_none (is_kept facts (fact.Signed content key))
repeated_by facts (fact.Challenge value) = or_none (is_kept facts (fact.Challenge value))
repeated_by facts (fact.Nonce value) = or_none (is_kept facts (fact.Nonce value))
repeated_by facts (fact.Cookie value) = or_none (is_kept facts (fact.Cookie value))
