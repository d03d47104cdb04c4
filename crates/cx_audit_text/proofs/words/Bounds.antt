-- Numbers below a bound: what is read was spelled so.
use Rattle.std.proofs.Common.{◌≡◌, ℕ, ◌<◌, Bool, true, false, cond, List, Option, Some, None, refl, sym, ap, ◌∙◌, arith, nat_lt}
use Rattle.std.specs.Prelude.{IfSome, decimal}
use Rattle.std.proofs.lemmas.Bool.Decides.{nat_tests}
use Rattle.cx_words.specs.Words.{number_of}
use Rattle.cx_words.proofs.NumberWords.{number_of-is}
use Rattle.cx_audit_text.specs.words.Readings.{byte_of, only, short_of}

only_cases : (bound n m : ℕ) (b : Bool) → nat_lt n bound ≡ b → cond b (Some n) None ≡ Some m → (n ≡ m) × (n < bound)
only_cases bound n m true hit e = (cc, grind (arith, nat_tests, hit))
only_cases bound n m false miss e = absurd (let p : None ≡ Some m = e in cc)

only_is : (bound m : ℕ) (word : List ℕ) (found : Option ℕ) → number_of word ≡ found → only (λ n. nat_lt n bound) found ≡ Some m → (m < bound) × (word ≡ decimal m)
only_is bound m word None is e = absurd (let p : None ≡ Some m = e in cc)
only_is bound m word (Some n) is e =
    let same = only_cases bound n m (nat_lt n bound) refl e in
    let spelled : word ≡ decimal n = (number_of-is word n is).1 in
    let low : n < bound = same.1 in
    let equal : n ≡ m = same.0 in
    rw (← equal) (low, spelled)

pub short_is : (word : List ℕ) (n : ℕ) → short_of word ≡ Some n → (n < 4294967296) × (word ≡ decimal n)
unfolding short_of
short_is word n e = only_is 4294967296 n word (number_of word) refl e

pub byte_is : (word : List ℕ) (n : ℕ) → byte_of word ≡ Some n → (n < 256) × (word ≡ decimal n)
unfolding byte_of
byte_is word n e = only_is 256 n word (number_of word) refl e

pub short_spelled : (word : List ℕ) (read : Option ℕ) → read ≡ short_of word → IfSome read (λ n. (n < 4294967296) × (word ≡ decimal n))
short_spelled word None e = tt
short_spelled word (Some n) e = short_is word n (sym e)

pub byte_spelled : (word : List ℕ) (read : Option ℕ) → read ≡ byte_of word → IfSome read (λ n. (n < 256) × (word ≡ decimal n))
byte_spelled word None e = tt
byte_spelled word (Some n) e = byte_is word n (sym e)
