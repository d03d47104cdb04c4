-- Bytes in hex: what is read was spelled so, and what is spelled is read again.
use Rattle.std.proofs.Common.{◌≡◌, ℕ, ◌+◌, ◌*◌, ◌/◌, ◌%◌, ◌<◌, ◌==◌, Bool, true, false, cond, List, [], ◌∷◌, length, Option, Some, None, Result, Ok, Err, IfSome, IfOk, refl, sym, ap, ◌∙◌, arith}
use Rattle.std.specs.Prelude.{codes}
use Rattle.std.specs.Str.{bytes_eq}
use Rattle.std.proofs.lemmas.Bool.{and_right}
use Rattle.std.proofs.lemmas.Bool.Decides.{nat_tests}
use Rattle.std.proofs.lemmas.Slice.Eq.{bytes_eq-Decides}
use Rattle.hex.specs.Hex.{decode_of, decode_pairs, digit_or_error, encode_lower, hex_digit_value, lower_digits, IsBytes, ◌>>=◌}
use Rattle.hex.specs.declared.error.FromHexError.{FromHexError}
use Rattle.hex.specs.declared.error.FromHexError.TheVariants.{OddLength}
use Rattle.hex.proofs.HexLemmas.{decode_pairs-encode_with, IsDigits-lower_digits}
use Rattle.cx_words.specs.Words.{hex_of, hex_word, some_bytes, IsHexText, IsHexWord}

-- ---- pairs of digits

byte_parts : (b : ℕ) → b / 16 * 16 + b % 16 ≡ b
byte_parts b = omega arith

pairs_read : (i : ℕ) (text bytes : List ℕ) → IsHexText text bytes → decode_pairs i text ≡ Ok bytes
unfolding decode_pairs
pairs_read i [] [] h = refl
pairs_read i [] (b ∷ bytes) h = absurd h
pairs_read i (x ∷ []) [] h = absurd h
pairs_read i (x ∷ []) (b ∷ bytes) h = absurd h
pairs_read i (x ∷ y ∷ text) [] h = absurd h
pairs_read i (x ∷ y ∷ text) (b ∷ bytes) (high, low, rest) =
    rw (high, low, pairs_read (i + 2) text bytes rest, byte_parts b) refl

digit_below : (c v : ℕ) → hex_digit_value c ≡ Some v → v < 16
digit_below c v e = grind (arith, nat_tests, e)

-- the pairs as their parts' values make them
abbrev joined_pairs : ℕ → ℕ → ℕ → Option ℕ → Option ℕ → Result (List ℕ) FromHexError → Result (List ℕ) FromHexError
joined_pairs i x y high low rest =
    (digit_or_error x i high >>= (λ h. digit_or_error y (i + 1) low >>= (λ l. Ok (h * 16 + l)))) >>= (λ byte. rest >>= (λ bytes. Ok (byte ∷ bytes)))

all_read : (i x y h l : ℕ) (text more bytes : List ℕ) → hex_digit_value x ≡ Some h → hex_digit_value y ≡ Some l → IsHexText text more
    → (h * 16 + l) ∷ more ≡ bytes → IsHexText (x ∷ y ∷ text) bytes
all_read i x y h l text more [] high low rest e = absurd (let p : (h * 16 + l) ∷ more ≡ [] = e in cc)
all_read i x y h l text more (b ∷ bytes) high low rest e =
    let same : h * 16 + l ≡ b = cc in
    let less : l < 16 = digit_below y l low in
    let tail : more ≡ bytes = cc in (
      high ∙ ap Some (let q : h ≡ b / 16 = omega arith in q),
      low ∙ ap Some (let q : l ≡ b % 16 = omega arith in q),
      rw (sym tail) rest,
    )

pairs_step : (i x y : ℕ) (text bytes : List ℕ) (high low : Option ℕ) (rest : Result (List ℕ) FromHexError)
    → hex_digit_value x ≡ high → hex_digit_value y ≡ low → ((more : List ℕ) → rest ≡ Ok more → IsHexText text more)
    → joined_pairs i x y high low rest ≡ Ok bytes → IsHexText (x ∷ y ∷ text) bytes
pairs_step i x y text bytes None low rest hx hy more e = absurd (let p : joined_pairs i x y None low rest ≡ Ok bytes = e in cc)
pairs_step i x y text bytes (Some h) None rest hx hy more e = absurd (let p : joined_pairs i x y (Some h) None rest ≡ Ok bytes = e in cc)
pairs_step i x y text bytes (Some h) (Some l) (Err f) hx hy more e = absurd (let p : joined_pairs i x y (Some h) (Some l) (Err f) ≡ Ok bytes = e in cc)
pairs_step i x y text bytes (Some h) (Some l) (Ok ds) hx hy more e =
    let read : Result (List ℕ) FromHexError = Ok ((h * 16 + l) ∷ ds) in
    let wanted : Result (List ℕ) FromHexError = Ok bytes in
    let p : read ≡ wanted = e in
    all_read i x y h l text ds bytes hx hy (more ds refl) cc

pairs_is : (i : ℕ) (text bytes : List ℕ) → decode_pairs i text ≡ Ok bytes → IsHexText text bytes
unfolding decode_pairs
pairs_is i [] [] e = tt
pairs_is i [] (b ∷ bytes) e =
    let read : Result (List ℕ) FromHexError = Ok [] in
    let wanted : Result (List ℕ) FromHexError = Ok (b ∷ bytes) in
    let p : read ≡ wanted = e in
    absurd cc
pairs_is i (x ∷ []) bytes e = absurd (let p : Err OddLength ≡ Ok bytes = e in cc)
pairs_is i (x ∷ y ∷ text) bytes e =
    pairs_step i x y text bytes (hex_digit_value x) (hex_digit_value y) (decode_pairs (i + 2) text) refl refl
    (λ more r. pairs_is (i + 2) text more r) e

-- ---- words

decode_is : (word bytes : List ℕ) (b : Bool) → (length word % 2 == 1) ≡ b → cond b (Err OddLength) (decode_pairs 0 word) ≡ Ok bytes
    → IsHexText word bytes
decode_is word bytes true hit e = absurd (let p : Err OddLength ≡ Ok bytes = e in cc)
decode_is word bytes false miss e = pairs_is 0 word bytes e

bytes_are : (word bytes : List ℕ) (decoded : Result (List ℕ) FromHexError) → decode_of word ≡ decoded → some_bytes decoded ≡ Some bytes
    → IsHexWord word bytes
bytes_are word bytes (Err f) d e = absurd (let p : None ≡ Some bytes = e in cc)
bytes_are word bytes (Ok []) d e = absurd (let p : None ≡ Some bytes = e in cc)
bytes_are word [] (Ok (x ∷ xs)) d e = absurd (let p : Some (x ∷ xs) ≡ Some [] = e in cc)
bytes_are word (b ∷ bytes) (Ok (x ∷ xs)) d e =
    let same : x ∷ xs ≡ b ∷ bytes = cc in
    decode_is word (b ∷ bytes) (length word % 2 == 1) refl (d ∙ ap Ok same)

word_is : (word bytes : List ℕ) (b : Bool) → bytes_eq word (codes "-") ≡ b → cond b (Some []) (some_bytes (decode_of word)) ≡ Some bytes
    → IsHexWord word bytes
word_is word [] true hit e = (bytes_eq-Decides word (codes "-")).0 hit
word_is word (b ∷ bytes) true hit e = absurd (let p : Some [] ≡ Some (b ∷ bytes) = e in cc)
word_is word bytes false miss e = bytes_are word bytes (decode_of word) refl e

pub hex_of-is : (word bytes : List ℕ) → hex_of word ≡ Some bytes → IsHexWord word bytes
unfolding hex_of
hex_of-is word bytes e = word_is word bytes (bytes_eq word (codes "-")) refl e

even_text : (text bytes : List ℕ) → IsHexText text bytes → length text ≡ length bytes + length bytes
even_text [] [] h = refl
even_text [] (b ∷ bytes) h = absurd h
even_text (x ∷ []) [] h = absurd h
even_text (x ∷ []) (b ∷ bytes) h = absurd h
even_text (x ∷ y ∷ text) [] h = absurd h
even_text (x ∷ y ∷ text) (b ∷ bytes) (high, low, rest) = let e = even_text text bytes rest in omega (arith, e)

not_blank : (word bytes : List ℕ) (b : ℕ) → IsHexText word (b ∷ bytes) → bytes_eq word (codes "-") ≡ false
not_blank [] bytes b h = absurd h
not_blank (x ∷ []) bytes b h = absurd h
not_blank (x ∷ y ∷ text) bytes b h = and_right (x == 45) false refl

text_read : (word bytes : List ℕ) (b : ℕ) → IsHexText word (b ∷ bytes) → hex_of word ≡ Some (b ∷ bytes)
unfolding hex_of
text_read word bytes b h =
    let even : (length word % 2 == 1) ≡ false = let e = even_text word (b ∷ bytes) h in grind (arith, nat_tests, e) in
    rw (not_blank word bytes b h, even, pairs_read 0 word (b ∷ bytes) h) refl

pub hex_of-word : (word bytes : List ℕ) → IsHexWord word bytes → hex_of word ≡ Some bytes
unfolding hex_of
hex_of-word word [] h = rw h refl
hex_of-word word (b ∷ bytes) h = text_read word bytes b h

-- the word in lower case spells the bytes
pub hex_word-is : (bytes : List ℕ) → IsBytes bytes → IsHexWord (hex_word bytes) bytes
hex_word-is [] h = refl
hex_word-is (b ∷ bytes) h = pairs_is 0 (encode_lower (b ∷ bytes)) (b ∷ bytes) (decode_pairs-encode_with lower_digits IsDigits-lower_digits 0 (b ∷ bytes) h)

pub hex_of-lower : (bytes : List ℕ) → IsBytes bytes → hex_of (hex_word bytes) ≡ Some bytes
hex_of-lower bytes h = hex_of-word (hex_word bytes) bytes (hex_word-is bytes h)

-- ---- what the reader of words says

pub hex_spelled : {E : Type 0} (word : List ℕ) (read : Result (Option (List ℕ)) E) → IfOk read (λ found. found ≡ hex_of word)
    → IfOk read (λ found. IfSome found (λ bytes. IsHexWord word bytes))
hex_spelled word (Ok None) e = tt
hex_spelled word (Ok (Some bytes)) e = hex_of-is word bytes (sym e)
hex_spelled word (Err f) e = tt

pub hex_read : {E : Type 0} (word bytes : List ℕ) (read : Result (Option (List ℕ)) E) → bytes_eq word (codes "-") ≡ false
    → decode_of word ≡ Ok bytes → IfOk read (λ found. found ≡ some_bytes (Ok bytes)) → IfOk read (λ found. found ≡ hex_of word)
unfolding hex_of
hex_read word bytes (Ok found) miss decoded is_read = rw (is_read, miss, decoded) refl
hex_read word bytes (Err f) miss decoded is_read = tt
