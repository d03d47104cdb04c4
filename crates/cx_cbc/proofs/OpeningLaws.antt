-- The content that is found is the one that opens.
use Rattle.std.proofs.Common.{◌≡◌, ℕ, ◌-◌, ◌&&◌, Bool, true, false, List, ◌++◌, All, length, take, drop, get_or, Option, Some, None, refl, ap, ◌∙◌, arith, rules}
use Rattle.std.specs.Prelude.{slice_index, nat_lt, nat_le, if◌then◌else◌}
use Rattle.std.specs.List.{concat, list_all}
use Rattle.std.specs.Str.{bytes_eq}
use Rattle.std.proofs.lemmas.Bool.{and_parts, leb-true, le-leb, lt-ltb, ltb-true}
use Rattle.std.proofs.lemmas.List.{drop_at}
use Rattle.std.proofs.lemmas.List.Elements.{All-get_or, All-from_get_or}
use Rattle.std.proofs.lemmas.List.Sums.{AllPass-from_list_all, list_all-from_AllPass}
use Rattle.std.proofs.lemmas.Slice.Eq.{bytes_eq-Decides}
use Rattle.cx_aes.specs.Cipher.{IsBlock}
use Rattle.cx_cbc.specs.Chain.{blocks_of, uncbc}
use Rattle.cx_cbc.specs.Envelope.{head, initial_vector, padded, enveloped, sealed, Opens}
use Rattle.cx_cbc.specs.Opened.{stripped, if_sealed, opened}
use Rattle.cx_cbc.proofs.Contents.{IsByte, decrypted-opens}
use Rattle.cx_cbc.proofs.Padding.{parts}

-- ---- the tests

same_bytes : (xs ys : List ℕ) → bytes_eq xs ys ≡ true → xs ≡ ys
same_bytes xs ys e = search (rules, bytes_eq-Decides)

bytes_same : (xs ys : List ℕ) → xs ≡ ys → bytes_eq xs ys ≡ true
bytes_same xs ys e = search (rules, bytes_eq-Decides)

octets_pass : (content : List ℕ) → All IsByte content → list_all (λ b. nat_lt b 256) content ≡ true
octets_pass content octets = list_all-from_AllPass (λ b. nat_lt b 256) content (λ k d lt. lt-ltb (get_or content k d) 256 (All-get_or IsByte content k d lt octets))

pass_octets : (content : List ℕ) → list_all (λ b. nat_lt b 256) content ≡ true → All IsByte content
pass_octets content pass = All-from_get_or IsByte content 0 (λ i lt. ltb-true (get_or content i 0) 256 (AllPass-from_list_all (λ b. nat_lt b 256) content pass i 0 lt))

-- ---- what is found opens

found_by : (t : Bool) (x y : List ℕ) → (if t then Some x else None) ≡ Some y → (t ≡ true) × (x ≡ y)
found_by true x y e = (refl, cc)
found_by false x y e = absurd cc

found_opens : (key bytes x content : List ℕ) → if_sealed key bytes x ≡ Some content → Opens key bytes content
unfolding if_sealed
found_opens key bytes x content e =
    let f = found_by (nat_le (length x) 1048576 && (list_all (λ b. nat_lt b 256) x && bytes_eq bytes (sealed key x))) x content e in
    let size = and_parts (nat_le (length x) 1048576) (list_all (λ b. nat_lt b 256) x && bytes_eq bytes (sealed key x)) f.0 in
    let rest = and_parts (list_all (λ b. nat_lt b 256) x) (bytes_eq bytes (sealed key x)) size.1 in
    let opens : Opens key bytes x = record {
      size = leb-true (length x) 1048576 size.0;
      octets = pass_octets x rest.0;
      is_sealed = same_bytes bytes (sealed key x) rest.1;
    } in
    rw f.1 at opens

pub opened-Opens : (key bytes content : List ℕ) → opened key bytes ≡ Some content → Opens key bytes content
unfolding opened
opened-Opens key bytes content e = found_opens key bytes (stripped (concat (uncbc key initial_vector (blocks_of bytes)))) content e

-- ---- what opens is found

stripped-enveloped : (content : List ℕ) → stripped (enveloped content) ≡ content
unfolding stripped enveloped
stripped-enveloped content =
    let inner : List ℕ = head ++ content in
    let p = parts (padded inner) inner refl in
    let len = p.len in
    let last = p.last in
    let count : length (padded inner) - slice_index (padded inner) (length (padded inner) - 1) ≡ length inner = omega arith in
    ap (λ n. drop 9 (take n (padded inner))) count ∙ ap (drop 9) p.front ∙ drop_at head content 9 refl

if_sealed-Opens : (key bytes content : List ℕ) → Opens key bytes content → if_sealed key bytes content ≡ Some content
unfolding if_sealed
if_sealed-Opens key bytes content opens =
    rw (le-leb (length content) 1048576 opens.size, octets_pass content opens.octets, bytes_same bytes (sealed key content) opens.is_sealed) refl

pub Opens-opened : (key bytes content : List ℕ) → IsBlock key → Opens key bytes content → opened key bytes ≡ Some content
unfolding opened
Opens-opened key bytes content k opens =
    ap (λ plain. if_sealed key bytes (stripped plain)) (decrypted-opens key bytes content k opens)
    ∙ ap (if_sealed key bytes) (stripped-enveloped content)
    ∙ if_sealed-Opens key bytes content opens

-- what opens to no content
pub opened-none : (key bytes : List ℕ) → ((content : List ℕ) → Opens key bytes content → ⊥) → opened key bytes ≡ None
opened-none key bytes none = by_found (opened key bytes) refl
  where
    by_found : (o : Option (List ℕ)) → opened key bytes ≡ o → o ≡ None
    by_found None e = refl
    by_found (Some content) e = absurd (none content (opened-Opens key bytes content e))
