-- What is sealed is opened again, and what opens was sealed so.
use Rattle.std.proofs.Common.{◌≡◌, ℕ, ◌+◌, ◌≤◌, Bool, true, false, List, [], ◌∷◌, ◌++◌, length, take, drop, Option, Some, None, refl, sym, ap, ◌∙◌, arith, append_assoc, length-take}
use Rattle.std.specs.Prelude.{if◌then◌else◌}
use Rattle.std.specs.Str.{bytes_eq}
use Rattle.std.proofs.lemmas.Slice.Eq.{bytes_eq-Decides}
use Rattle.std.proofs.lemmas.List.{take_at, drop_at, take-append-drop}
use Rattle.cx_gcm.specs.cx_aes.specs.Cipher.{IsBlock}
use Rattle.cx_gcm.specs.Gcm.{GcmSealed, IsNonce, counted, gctr, nonce_block, raised, tag_of}
use Rattle.cx_gcm.proofs.KeyStream.{IsBlock-counted, length-gctr, plain_of, raised_nonce_block}
use Rattle.cx_secure.specs.Parts.{ciphered, nonce_at, opened, opened_text, part, sealed_parts}

-- a cipher text that opens is opened to its plain text
pub opens_text : (key nonce old new tag : List ℕ) → IsBlock key → IsNonce nonce → GcmSealed key nonce new old tag → opened_text key nonce old tag ≡ Some new
unfolding opened_text ciphered
opens_text key nonce old new tag block is_nonce sealed =
    let right : bytes_eq tag (tag_of key nonce old) ≡ true = (bytes_eq-Decides tag (tag_of key nonce old)).1 sealed.is_tag in
    let text : gctr key (raised (nonce_block nonce)) old ≡ new = plain_of key nonce new old tag block is_nonce sealed in
    rw (right, text) refl

-- the parts of two lists, one behind the other
pub sealed-append : (key fixed : List ℕ) (counter : ℕ) (ps qs : List (List ℕ))
    → sealed_parts key fixed counter (ps ++ qs) ≡ sealed_parts key fixed counter ps ++ sealed_parts key fixed (counter + length ps) qs
unfolding sealed_parts
sealed-append key fixed counter [] qs = let e : counter ≡ counter + 0 = omega arith in ap (λ n. sealed_parts key fixed n qs) e
sealed-append key fixed counter (p ∷ ps) qs =
    let e : counter + 1 + length ps ≡ counter + length (p ∷ ps) = omega arith in
    let first : List ℕ = part key (nonce_at fixed counter) p in
    ap (λ t. first ++ t) (sealed-append key fixed (counter + 1) ps qs)
    ∙ sym (append_assoc first (sealed_parts key fixed (counter + 1) ps) (sealed_parts key fixed (counter + 1 + length ps) qs))
    ∙ ap (λ n. (first ++ sealed_parts key fixed (counter + 1) ps) ++ sealed_parts key fixed n qs) e

-- ---- the cipher, under a key of 16 bytes and a nonce of 12

pub ciphered_twice : (key nonce text : List ℕ) → IsBlock key → IsNonce nonce → ciphered key nonce (ciphered key nonce text) ≡ text
unfolding ciphered
ciphered_twice key nonce text block is_nonce =
    plain_of key nonce text (gctr key (raised (nonce_block nonce)) text) (tag_of key nonce (gctr key (raised (nonce_block nonce)) text)) block is_nonce (record { is_ciphered = refl; is_tag = refl })

pub length-ciphered : (key nonce text : List ℕ) → IsBlock key → IsNonce nonce → length (ciphered key nonce text) ≡ length text
unfolding ciphered
length-ciphered key nonce text block is_nonce =
    ap (λ first. length (gctr key first text)) (raised_nonce_block nonce is_nonce) ∙ length-gctr key (counted nonce 2) text block (IsBlock-counted nonce 2 is_nonce)

some_is : (x y : List ℕ) → (let a : Option (List ℕ) = Some x in let b : Option (List ℕ) = Some y in a ≡ b) → x ≡ y
some_is x y e = cc

told : (b : Bool) (x y : List ℕ) → (let r : Option (List ℕ) = (if b then Some x else None) in r ≡ Some y) → (b ≡ true) × (x ≡ y)
told true x y e = (refl, some_is x y e)
told false x y e = absurd cc

-- what opens was sealed so
pub opened_part : (key nonce : List ℕ) (n : ℕ) (bytes plain : List ℕ) → IsBlock key → IsNonce nonce → n ≤ length bytes → opened key nonce n bytes ≡ Some plain
    → (bytes ≡ part key nonce plain) × (length plain ≡ n)
unfolding opened opened_text part
opened_part key nonce n bytes plain block is_nonce le e =
    let cipher : List ℕ = take n bytes in
    let both = told (bytes_eq (drop n bytes) (tag_of key nonce cipher)) (ciphered key nonce cipher) plain e in
    let tag : drop n bytes ≡ tag_of key nonce cipher = (bytes_eq-Decides (drop n bytes) (tag_of key nonce cipher)).0 both.0 in
    let text : cipher ≡ ciphered key nonce plain = sym (ciphered_twice key nonce cipher block is_nonce) ∙ ap (ciphered key nonce) both.1 in (
      sym (take-append-drop n bytes) ∙ ap (λ t. cipher ++ t) tag ∙ ap (λ c. c ++ tag_of key nonce c) text,
      ap length (sym both.1) ∙ length-ciphered key nonce cipher block is_nonce ∙ omega (arith, length-take n bytes),
    )

-- what was sealed opens
pub part_opened : (key nonce plain : List ℕ) (n : ℕ) → IsBlock key → IsNonce nonce → length plain ≡ n → opened key nonce n (part key nonce plain) ≡ Some plain
unfolding opened opened_text part
part_opened key nonce plain n block is_nonce len =
    let cipher : List ℕ = ciphered key nonce plain in
    let tag : List ℕ = tag_of key nonce cipher in
    let cipher_len : length cipher ≡ n = length-ciphered key nonce plain block is_nonce ∙ len in
    let front : take n (cipher ++ tag) ≡ cipher = take_at cipher tag n cipher_len in
    let behind : drop n (cipher ++ tag) ≡ tag = drop_at cipher tag n cipher_len in
    let right : bytes_eq tag (tag_of key nonce cipher) ≡ true = (bytes_eq-Decides tag (tag_of key nonce cipher)).1 refl in
    let read : List ℕ → List ℕ → Option (List ℕ) = λ c t. if bytes_eq t (tag_of key nonce c) then Some (ciphered key nonce c) else None in
    let some : List ℕ → Option (List ℕ) = λ t. Some t in
    ap (λ c. read c (drop n (cipher ++ tag))) front ∙ ap (λ t. read cipher t) behind ∙ rw right (ap some (ciphered_twice key nonce plain block is_nonce))
