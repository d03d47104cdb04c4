-- Numbers and readings: what is read was spelled so, and what is spelled is read again.
use Rattle.std.proofs.Common.{◌≡◌, ℕ, zero, suc, ◌+◌, ◌-◌, ◌*◌, ◌^◌, ◌<◌, ◌≤◌, ◌==◌, ◌⊎◌, inl, inr, Bool, true, false, cond, ◌&&◌, List, [], ◌∷◌, ◌++◌, length, take, drop, get_or, Option, Some, None, Result, Ok, Err, refl, sym, ap, ◌∙◌, arith, nat_lt, rules, lit<}
use Rattle.std.specs.Prelude.{OkIff, IfSome, decimal, codes, option_and_then}
use Rattle.std.specs.List.{list_all, list_any, position_from}
use Rattle.std.specs.Result.{result_ok}
use Rattle.std.specs.Str.{IsUtf8}
use Rattle.std.specs.Str.Parse.{digits_value}
use Rattle.std.proofs.lemmas.Bool.{and_parts}
use Rattle.std.proofs.lemmas.Bool.Decides.{nat_tests}
use Rattle.std.proofs.lemmas.Str.{IsUtf8-from_ascii}
use Rattle.std.proofs.lemmas.Str.Parse.{IsNumeralModel, IsDigitsTest, numerals_by_value, digits_value_short}
use Rattle.std.proofs.lemmas.Fmt.{IsAscii-from_digits, digits_decimal, digits_value-decimal, decimal-digits_value, decimal_nonempty, length-decimal-le, first_decimal}
use Rattle.std.proofs.Math.Seq.{take-append_seam, drop-append-add}
use Rattle.cx_base.specs.Joined.{◌<>◌}
use Rattle.cx_words.specs.Words.{below, is_digit, is_nine, is_plain, is_point, number_of, reading_at, reading_of, whole_seconds, with_nine, IsPointedWord, IsReadingWord, IsWholeWord}
use Rattle.cx_words.proofs.FirstPlace.{cut, finds, finds_none, take_rest}

-- ---- digits

tells_digits : IsDigitsTest (λ ds. list_all is_digit ds ≡ true)
tells_digits = search rules

pub own : IsNumeralModel (λ ds. list_all is_digit ds ≡ true) (digits_value 10)
own = numerals_by_value (λ ds. list_all is_digit ds ≡ true) tells_digits

pub utf8_digits : (ds : List ℕ) → list_all is_digit ds ≡ true → IsUtf8 ds
utf8_digits ds h = IsUtf8-from_ascii ds (IsAscii-from_digits ds (own.to ds h))

pub ok_below : {E : Type 0} (r : Result ℕ E) (n size : ℕ) → 0 < size → OkIff r ((0 < size) × (n < 2 ^ 64)) n → result_ok r ≡ below (2 ^ 64) n
ok_below (Ok x) n size some h = grind (arith, nat_tests, h.0.1, h.1)
ok_below (Err e) n size some h = grind (arith, nat_tests, h)

below_cases : (bound n m : ℕ) (b : Bool) → nat_lt n bound ≡ b → cond b (Some n) None ≡ Some m → (n ≡ m) × (n < bound)
below_cases bound n m true hit e = (cc, grind (arith, nat_tests, hit))
below_cases bound n m false miss e = absurd (let p : None ≡ Some m = e in cc)

pub below_is : (bound n m : ℕ) → below bound n ≡ Some m → (n ≡ m) × (n < bound)
below_is bound n m e = below_cases bound n m (nat_lt n bound) refl e

pub below_holds : (bound n : ℕ) → n < bound → below bound n ≡ Some n
below_holds bound n lt = grind (arith, nat_tests, lt)

-- ---- numbers

pub record Plain (word : List ℕ) : Type 0 where
  pub digits : list_all is_digit word ≡ true
  pub some : 0 < length word
  pub first : get_or word 0 0 ≡ 48 → length word ≡ 1

pub plain_parts : (word : List ℕ) → is_plain word ≡ true → Plain word
plain_parts word h = record {
  digits = grind (arith, nat_tests, h);
  some = grind (arith, nat_tests, h);
  first = λ zero_first. grind (arith, nat_tests, h, zero_first);
}

plain_from : (word : List ℕ) → list_all is_digit word ≡ true → 0 < length word → (length word ≤ 1) ⊎ (48 < get_or word 0 0) → is_plain word ≡ true
plain_from word digits some (inl short) = grind (arith, nat_tests, digits, some, short)
plain_from word digits some (inr high) = grind (arith, nat_tests, digits, some, high)

short_or_high : (n : ℕ) → n < 2 ^ 64 → (length (decimal n) ≤ 1) ⊎ (48 < get_or (decimal n) 0 0)
short_or_high zero lt = inl (length-decimal-le 1 0 (lit< tt) (lit< tt) lt)
short_or_high (suc n) lt = inr (first_decimal (suc n) (omega arith) lt)

pub plain_decimal : (n : ℕ) → n < 2 ^ 64 → is_plain (decimal n) ≡ true
plain_decimal n lt = plain_from (decimal n) (digits_decimal own n lt) (decimal_nonempty n lt) (short_or_high n lt)

number_step : (word : List ℕ) (n : ℕ) (b : Bool) → is_plain word ≡ b → cond b (below (2 ^ 64) (digits_value 10 word)) None ≡ Some n
    → (n < 2 ^ 64) × (word ≡ decimal n)
number_step word n false miss e = absurd (let p : None ≡ Some n = e in cc)
number_step word n true hit e =
    let p = plain_parts word hit in
    let same : (digits_value 10 word ≡ n) × (digits_value 10 word < 2 ^ 64) = below_is (2 ^ 64) (digits_value 10 word) n e in
    (omega (arith, same.0, same.1), sym (decimal-digits_value own word p.digits p.some p.first same.1) ∙ ap decimal same.0)

pub number_of-is : (word : List ℕ) (n : ℕ) → number_of word ≡ Some n → (n < 2 ^ 64) × (word ≡ decimal n)
unfolding number_of
number_of-is word n e = number_step word n (is_plain word) refl e

pub number_of-decimal : (n : ℕ) → n < 2 ^ 64 → number_of (decimal n) ≡ Some n
unfolding number_of
number_of-decimal n lt = rw (plain_decimal n lt, digits_value-decimal own n lt) (below_holds (2 ^ 64) n lt)

-- ---- readings

whole_cases : (seconds reading : ℕ) (b : Bool) → nat_lt seconds 4000000000 ≡ b → cond b (Some (seconds * 1000000000)) None ≡ Some reading
    → (seconds * 1000000000 ≡ reading) × (seconds < 4000000000)
whole_cases seconds reading true hit e = (cc, grind (arith, nat_tests, hit))
whole_cases seconds reading false miss e = absurd (let p : None ≡ Some reading = e in cc)

nine_cases : (nine : List ℕ) (seconds reading : ℕ) (b : Bool) → (nat_lt seconds 4000000000 && is_nine nine) ≡ b
    → cond b (Some (seconds * 1000000000 + digits_value 10 nine)) None ≡ Some reading
    → (seconds * 1000000000 + digits_value 10 nine ≡ reading) × ((nat_lt seconds 4000000000 && is_nine nine) ≡ true)
nine_cases nine seconds reading true hit e = (cc, hit)
nine_cases nine seconds reading false miss e = absurd (let p : None ≡ Some reading = e in cc)

digits_no_point : (ds : List ℕ) → list_all is_digit ds ≡ true → list_any is_point ds ≡ false
digits_no_point [] h = refl
digits_no_point (d ∷ ds) h =
    let parts = and_parts (is_digit d) (list_all is_digit ds) h in
    let apart : is_point d ≡ false = grind (arith, nat_tests, parts.0) in
    rw apart (digits_no_point ds parts.1)

decimal_no_point : (n : ℕ) → n < 2 ^ 64 → list_any is_point (decimal n) ≡ false
decimal_no_point n lt = digits_no_point (decimal n) (digits_decimal own n lt)

whole_is : (word : List ℕ) (reading : ℕ) (number : Option ℕ) → number_of word ≡ number
    → option_and_then whole_seconds number ≡ Some reading → IsWholeWord word reading
whole_is word reading None e w = absurd (let p : None ≡ Some reading = w in cc)
whole_is word reading (Some seconds) e w =
    let same : (seconds * 1000000000 ≡ reading) × (seconds < 4000000000) = whole_cases seconds reading (nat_lt seconds 4000000000) refl w in
    (seconds, same.1, (number_of-is word seconds e).1, sym same.0)

pointed_is : (word front nine : List ℕ) (reading : ℕ) (number : Option ℕ) → word ≡ front <> codes "." <> nine
    → number_of front ≡ number → with_nine nine number ≡ Some reading → IsPointedWord word reading
pointed_is word front nine reading None is_word e w = absurd (let p : None ≡ Some reading = w in cc)
pointed_is word front nine reading (Some seconds) is_word e w =
    let same : (seconds * 1000000000 + digits_value 10 nine ≡ reading) × ((nat_lt seconds 4000000000 && is_nine nine) ≡ true) =
    nine_cases nine seconds reading (nat_lt seconds 4000000000 && is_nine nine) refl w in
    let parts = and_parts (nat_lt seconds 4000000000) (is_nine nine) same.1 in
    let low : seconds < 4000000000 = grind (arith, nat_tests, parts.0) in
    (seconds, nine, low, parts.1, is_word ∙ ap (λ f. f <> codes "." <> nine) (number_of-is front seconds e).1, sym same.0)

reading_is : (word : List ℕ) (reading : ℕ) (place : Option ℕ) → position_from is_point 0 word ≡ place
    → reading_at word place ≡ Some reading → IsReadingWord word reading
reading_is word reading None e w = inl (whole_is word reading (number_of word) refl w)
reading_is word reading (Some place) e w =
    let c = cut is_point word place e in
    let point : c.item ≡ 46 = grind (arith, nat_tests, c.passes) in
    inr (pointed_is word (take place word) (drop (place + 1) word) reading (number_of (take place word))
    (c.whole ∙ ap (λ p. take place word ++ p ∷ drop (place + 1) word) point) refl w)

pub reading_of-is : (word : List ℕ) (reading : ℕ) → reading_of word ≡ Some reading → IsReadingWord word reading
unfolding reading_of
reading_of-is word reading e = reading_is word reading (position_from is_point 0 word) refl e

whole_read : (word : List ℕ) (reading : ℕ) → IsWholeWord word reading → reading_of word ≡ Some reading
unfolding reading_of
whole_read word reading (seconds, low, is_word, is_reading) =
    let lt : seconds < 2 ^ 64 = omega arith in
    let hit : nat_lt seconds 4000000000 ≡ true = grind (arith, nat_tests, low) in
    rw (is_word, finds_none is_point (decimal seconds) 0 (decimal_no_point seconds lt), number_of-decimal seconds lt, hit, is_reading) refl

pointed_read : (word : List ℕ) (reading : ℕ) → IsPointedWord word reading → reading_of word ≡ Some reading
unfolding reading_of
pointed_read word reading (seconds, nine, low, is_digits, is_word, is_reading) =
    let lt : seconds < 2 ^ 64 = omega arith in
    let hit : nat_lt seconds 4000000000 ≡ true = grind (arith, nat_tests, low) in
    let here : position_from is_point 0 (decimal seconds ++ 46 ∷ nine) ≡ Some (length (decimal seconds)) =
    finds is_point (decimal seconds) 46 nine 0 (decimal_no_point seconds lt) refl ∙ ap Some (omega arith) in
    let front : take (length (decimal seconds)) (decimal seconds ++ 46 ∷ nine) ≡ decimal seconds = take-append_seam (decimal seconds) (46 ∷ nine) in
    let behind : drop (length (decimal seconds) + 1) (decimal seconds ++ 46 ∷ nine) ≡ nine = drop-append-add (decimal seconds) (46 ∷ nine) 1 in
    rw (is_word, here, front, behind, number_of-decimal seconds lt, hit, is_digits, is_reading) refl

pub reading_of-word : (word : List ℕ) (reading : ℕ) → IsReadingWord word reading → reading_of word ≡ Some reading
reading_of-word word reading (inl whole) = whole_read word reading whole
reading_of-word word reading (inr pointed) = pointed_read word reading pointed

pub nine_below : (nine : List ℕ) → is_nine nine ≡ true → digits_value 10 nine < 1000000000
nine_below nine h =
    let parts = and_parts (length nine == 9) (list_all is_digit nine) h in
    let long : length nine ≤ 9 = grind (arith, nat_tests, parts.0) in
    digits_value_short own nine 9 parts.1 long

-- a reading is below 4,000,000,000 s
pub reading_below : (word : List ℕ) (reading : ℕ) → IsReadingWord word reading → reading < 4000000000000000000
reading_below word reading (inl (seconds, low, is_word, is_reading)) = omega arith
reading_below word reading (inr (seconds, nine, low, is_digits, is_word, is_reading)) =
    let short = nine_below nine is_digits in omega (arith, short)

-- ---- what the readers of words say

pub number_spelled : (word : List ℕ) (read : Option ℕ) → read ≡ number_of word → IfSome read (λ n. word ≡ decimal n)
number_spelled word None e = tt
number_spelled word (Some n) e = (number_of-is word n (sym e)).1

pub reading_spelled : (word : List ℕ) (read : Option ℕ) → read ≡ reading_of word → IfSome read (λ n. IsReadingWord word n)
reading_spelled word None e = tt
reading_spelled word (Some n) e = reading_of-is word n (sym e)

pub reading_bound : (word : List ℕ) (read : Option ℕ) → read ≡ reading_of word → IfSome read (λ n. n < 4000000000000000000)
reading_bound word None e = tt
reading_bound word (Some n) e = reading_below word n (reading_of-is word n (sym e))

pub point_read : (word : List ℕ) (place : ℕ) (seconds read : Option ℕ) → position_from is_point 0 word ≡ Some place
    → seconds ≡ number_of (take place word) → read ≡ with_nine (take (length word - (place + 1)) (drop (place + 1) word)) seconds
    → read ≡ reading_of word
unfolding reading_of
point_read word place seconds read here is_seconds is_read = rw (is_read, take_rest (place + 1) word, here, is_seconds) refl
