-- The text of a key has no blanks, and is read as the key.
use Rattle.std.proofs.Common.{◌≡◌, ℕ, zero, suc, ◌+◌, ◌*◌, ◌/◌, ◌%◌, ◌<◌, Bool, true, List, [], ◌∷◌, length, get_or, Some, Ok, IsTrue, refl, sym, ap, ◌∙◌, arith}
use Rattle.std.specs.Prelude.{replicate, slice_index}
use Rattle.std.specs.List.{list_all}
use Rattle.std.proofs.lemmas.List.{append-nil}
use Rattle.std.proofs.lemmas.List.Folds.{list_all-append}
use Rattle.base64.specs.Engines.{standard}
use Rattle.base64.specs.GeneralPurpose.{decode_of, encode_of, engine_symbols}
use Rattle.base64.specs.Rfc4648.{encode_symbols, padding_len}
use Rattle.base64.specs.Tables.{all_below}
use Rattle.base64.proofs.Tables.{all_below_at}
use Rattle.cx_enc.specs.Values.{key_form}
use Rattle.cx_enc.specs.Whole.{start, IsReadAgain}
use Rattle.cx_enc.specs.declared.keys.Key.{Key}
use Rattle.cx_keyring.specs.Keys.{decoded_key, is_ink, key_of, key_text, whole_key, HasText}

abbrev is_inked : ℕ → Bool
is_inked k = is_ink (slice_index (engine_symbols standard) k)

all_inked : all_below is_inked 64 ≡ true
all_inked = refl

inked : (k : ℕ) → k < 64 → is_ink (slice_index (engine_symbols standard) k) ≡ true
inked k below = all_below_at is_inked 64 k all_inked below

symbols_inked : (bytes : List ℕ) → ((i : ℕ) → get_or bytes i 0 < 256) → list_all is_ink (encode_symbols (engine_symbols standard) bytes) ≡ true
unfolding encode_symbols
symbols_inked [] low = refl
symbols_inked (a ∷ []) low =
    let x = low 0 in
    rw (inked (a / 4) (omega arith), inked (a % 4 * 16) (omega arith)) refl
symbols_inked (a ∷ b ∷ []) low =
    let x = low 0 in
    let y = low 1 in
    rw (inked (a / 4) (omega arith), inked (a % 4 * 16 + b / 16) (omega arith), inked (b % 16 * 4) (omega arith)) refl
symbols_inked (a ∷ b ∷ c ∷ bytes) low =
    let x = low 0 in
    let y = low 1 in
    let z = low 2 in
    rw (inked (a / 4) (omega arith), inked (a % 4 * 16 + b / 16) (omega arith), inked (b % 16 * 4 + c / 64) (omega arith), inked (c % 64) (omega arith), symbols_inked bytes (λ i. low (suc (suc (suc i))))) refl

pads_inked : (n : ℕ) → list_all is_ink (replicate n 61) ≡ true
pads_inked zero = refl
pads_inked (suc n) = pads_inked n

pub encoded_inked : (bytes : List ℕ) → ((i : ℕ) → get_or bytes i 0 < 256) → list_all is_ink (encode_of standard bytes) ≡ true
encoded_inked bytes low =
    list_all-append is_ink (encode_symbols (engine_symbols standard) bytes) (replicate (padding_len (length bytes)) 61)
    ∙ rw (symbols_inked bytes low, pads_inked (padding_len (length bytes))) refl

key_again : (key : Key) (bytes text : List ℕ) → IsReadAgain key_form bytes key → decode_of standard text ≡ Ok bytes → key_of text ≡ Some key
unfolding key_of
key_again key bytes text again decoded =
    ap decoded_key decoded
    ∙ ap (λ (b : List ℕ). whole_key (key_form.at (start b))) (sym (append-nil bytes))
    ∙ ap whole_key (again 0 [])

-- what is written of a key, in base64
pub has_text : (key : Key) (bytes text : List ℕ) → bytes ≡ key_form.text key → IsReadAgain key_form bytes key
    → text ≡ encode_of standard bytes → decode_of standard text ≡ Ok bytes → IsTrue (list_all is_ink text) → HasText key
has_text key bytes text is again encoded decoded inked =
    let same : text ≡ key_text key = encoded ∙ ap (encode_of standard) is in
    (ap (list_all is_ink) (sym same) ∙ inked, ap key_of (sym same) ∙ key_again key bytes text again decoded)
