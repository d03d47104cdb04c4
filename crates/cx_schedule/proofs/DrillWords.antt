-- The words of a drill's lines.
use Rattle.std.proofs.Common.{◌≡◌, ℕ, ◌^◌, ◌<◌, ◌==◌, Bool, true, false, List, [], ◌∷◌, ◌++◌, length, refl, ap, ◌∙◌, arith}
use Rattle.std.specs.Prelude.{codes, not, ◌&&◌, nat_le}
use Rattle.std.specs.Fmt.{decimal}
use Rattle.std.specs.List.{list_all, list_any}
use Rattle.std.specs.Str.{bytes_eq}
use Rattle.std.proofs.lemmas.Bool.{and_parts}
use Rattle.std.proofs.lemmas.Bool.Decides.{nat_tests}
use Rattle.std.proofs.lemmas.Fmt.{decimal_injective, decimal_nonempty, digits_decimal, length-decimal-le}
use Rattle.std.proofs.lemmas.List.Folds.{list_any-append}
use Rattle.std.proofs.lemmas.Slice.Eq.{bytes_eq-Decides}
use Rattle.cx_base.specs.Names.{is_id, is_id_byte}
use Rattle.cx_base.specs.declared.kinds.EntityType.TheVariants.{Client}
use Rattle.cx_words.specs.Cutting.{is_line_end, onto_first, words_from, words_of}
use Rattle.cx_words.specs.Words.{is_digit}
use Rattle.cx_words.proofs.NumberWords.{own}

-- a byte that neither parts words nor groups them nor ends a line
abbrev pub is_inner : ℕ → Bool
is_inner b = not (b == 32) && (not (b == 34) && not (b == 10))

inner_digit : (b : ℕ) → is_digit b ≡ true → is_inner b ≡ true
inner_digit b digit = grind (arith, nat_tests, digit)

pub inner_digits : (ds : List ℕ) → list_all is_digit ds ≡ true → list_all is_inner ds ≡ true
inner_digits [] all = refl
inner_digits (d ∷ ds) all =
    let p = and_parts (is_digit d) (list_all is_digit ds) all in
    rw (inner_digit d p.0, inner_digits ds p.1) refl

id_digit : (b : ℕ) → is_digit b ≡ true → is_id_byte b ≡ true
id_digit b digit = grind (arith, nat_tests, digit)

id_digits : (ds : List ℕ) → list_all is_digit ds ≡ true → list_all is_id_byte ds ≡ true
id_digits [] all = refl
id_digits (d ∷ ds) all =
    let p = and_parts (is_digit d) (list_all is_digit ds) all in
    rw (id_digit d p.0, id_digits ds p.1) refl

pub decimal_digits : (i : ℕ) → i < 2 ^ 64 → list_all is_digit (decimal i) ≡ true
decimal_digits i lt = digits_decimal own i lt

-- a number is an id
pub decimal_id : (i : ℕ) → i < 10 ^ 19 → is_id Client (decimal i) ≡ true
decimal_id i lt =
    let below : i < 2 ^ 64 = omega (arith, lt) in
    let some = decimal_nonempty i below in
    let short = length-decimal-le 19 i (omega arith) lt below in
    let all = id_digits (decimal i) (decimal_digits i below) in
    let one : nat_le 1 (length (decimal i)) ≡ true = grind (arith, nat_tests, some) in
    let few : nat_le (length (decimal i)) 64 ≡ true = grind (arith, nat_tests, short) in
    rw (one, few, all) refl

-- two numbers have two texts
pub other_decimal : (i j : ℕ) → i < 2 ^ 64 → j < 2 ^ 64 → (i ≡ j → ⊥) → bytes_eq (decimal i) (decimal j) ≡ false
other_decimal i j small low differ = by_test (bytes_eq (decimal i) (decimal j)) refl
  where
    by_test : (b : Bool) → bytes_eq (decimal i) (decimal j) ≡ b → b ≡ false
    by_test true is = absurd (differ (decimal_injective i j small low ((bytes_eq-Decides (decimal i) (decimal j)).0 is)))
    by_test false is = refl

pub same_bytes : (bs : List ℕ) → bytes_eq bs bs ≡ true
same_bytes bs = (bytes_eq-Decides bs bs).1 refl

-- ---- words

inner_first : (g : Bool) (b : ℕ) (rest : List ℕ) → is_inner b ≡ true → words_from g false (b ∷ rest) ≡ onto_first b (words_from g false rest)
unfolding words_from
inner_first g b rest inner =
    let p = and_parts (not (b == 32)) (not (b == 34) && not (b == 10)) inner in
    let q = and_parts (not (b == 34)) (not (b == 10)) p.1 in
    let blank : (b == 32) ≡ false = not_true (b == 32) p.0 in
    let mark : (b == 34) ≡ false = not_true (b == 34) q.0 in
    rw (blank, mark) refl
  where
    not_true : (t : Bool) → not t ≡ true → t ≡ false
    not_true true e = absurd (let x : false ≡ true = e in cc)
    not_true false e = refl

-- a word that a blank ends
pub word_ends : (g : Bool) (word rest : List ℕ) → list_all is_inner word ≡ true → words_from g false (word ++ 32 ∷ rest) ≡ word ∷ words_from g false rest
unfolding words_from
word_ends g [] rest inner = refl
word_ends g (b ∷ word) rest inner =
    let p = and_parts (is_inner b) (list_all is_inner word) inner in
    inner_first g b (word ++ 32 ∷ rest) p.0 ∙ ap (onto_first b) (word_ends g word rest p.1)

-- the last word of a line
pub word_last : (g : Bool) (word : List ℕ) → list_all is_inner word ≡ true → words_from g false word ≡ word ∷ []
unfolding words_from
word_last g [] inner = refl
word_last g (b ∷ word) inner =
    let p = and_parts (is_inner b) (list_all is_inner word) inner in
    inner_first g b word p.0 ∙ ap (onto_first b) (word_last g word p.1)

-- words with a blank behind each, and what stands behind them
abbrev pub before : List (List ℕ) → List ℕ → List ℕ
before [] rest = rest
before (word ∷ words) rest = word ++ 32 ∷ before words rest

abbrev pub all_inner : List (List ℕ) → Bool
all_inner words = list_all (λ word. list_all is_inner word) words

pub words_before : (g : Bool) (words : List (List ℕ)) (rest : List ℕ) (last : List (List ℕ)) → all_inner words ≡ true → words_from g false rest ≡ last → words_of g (before words rest) ≡ words ++ last
words_before g [] rest last inner is = is
words_before g (word ∷ words) rest last inner is =
    let p = and_parts (list_all is_inner word) (all_inner words) inner in
    word_ends g word (before words rest) p.0 ∙ ap (λ ws. word ∷ ws) (words_before g words rest last p.1 is)

-- the text of caps at the end of a line whose marks group
pub caps_last : words_from true false (codes "\"allow *\"") ≡ codes "\"allow *\"" ∷ []
unfolding words_from
caps_last = refl

-- ---- no line ends in a line

end_inner : (b : ℕ) → is_inner b ≡ true → is_line_end b ≡ false
end_inner b inner = grind (arith, nat_tests, inner)

pub unended : (bs : List ℕ) → list_all is_inner bs ≡ true → list_any is_line_end bs ≡ false
unended [] inner = refl
unended (b ∷ bs) inner =
    let p = and_parts (is_inner b) (list_all is_inner bs) inner in
    rw (end_inner b p.0, unended bs p.1) refl

pub unended_before : (words : List (List ℕ)) (rest : List ℕ) → all_inner words ≡ true → list_any is_line_end rest ≡ false → list_any is_line_end (before words rest) ≡ false
unended_before [] rest inner none = none
unended_before (word ∷ words) rest inner none =
    let p = and_parts (list_all is_inner word) (all_inner words) inner in
    list_any-append is_line_end word (32 ∷ before words rest) ∙ rw (unended word p.0, unended_before words rest p.1 none) refl
