-- What stands behind a head: what is read was sealed so, and what was sealed so is read.
use Rattle.std.proofs.Common.{◌≡◌, ◌≢◌, ℕ, ◌+◌, ◌-◌, ◌/◌, ◌≤◌, false, List, [], ◌∷◌, ◌++◌, length, take, drop, Option, Some, None, Result, Ok, refl, sym, ap, subst, ◌∙◌, arith, inl, inr, length-append, length-take, length-drop, eq-eqb, map, sum_by}
use Rattle.std.proofs.lemmas.List.Sums.{sum_by-cons}
use Rattle.std.specs.Prelude.{◌==◌, if◌then◌else◌}
use Rattle.std.proofs.lemmas.Bool.{cases_eq, ne_eqb}
use Rattle.std.proofs.lemmas.List.{append-nil, nil_from_length, take_at, drop_at, take-append-drop}
use Rattle.cx_gcm.specs.cx_aes.specs.Cipher.{IsBlock}
use Rattle.cx_gcm.specs.Blocks.{spelled}
use Rattle.cx_gcm.proofs.Digits.{length-spelled}
use Rattle.cx_gcm.specs.Gcm.{IsNonce, counted, gctr, ghash, hashed, subkey, tag_of}
use Rattle.cx_gcm.proofs.KeyStream.{IsBlock-counted, length-gctr, nonce_block-counted}
use Rattle.cx_frame.specs.declared.frame.Segment.{Segment}
use Rattle.cx_frame.specs.declared.frame.Frame.{Frame}
use Rattle.cx_frame.specs.declared.preamble.Preamble.{Preamble}
use Rattle.cx_frame.specs.Preambles.{IsAllowed, length_of, preamble_of, preamble_text}
use Rattle.cx_frame.proofs.FrameLaws.{length-preamble_text, same_fronts}
use Rattle.cx_frame.proofs.RestLaws.{announces, few_others, framed, no_frame}
use Rattle.cx_secure.specs.declared.sealing.Head.{Head}
use Rattle.cx_secure.specs.declared.refusals.SecureRefusal.{SecureRefusal}
use Rattle.cx_secure.specs.Opening.{IsRestBehind, rest_of, with_parts}
use Rattle.cx_secure.specs.Parts.{ciphered, nonce_at, opened, opened_some, part, sealed_parts}
use Rattle.cx_secure.specs.Plains.{bodies, filled, padded, frame_at, inline_of, last_len, last_plain, nonempty, one_if, parts_of, plains, plains_of, rest_len, second_len, second_plain, tagged, up16}
use Rattle.cx_secure.proofs.Lengths.{behind_len}
use Rattle.cx_secure.proofs.PartLaws.{length-ciphered, opened_part, part_opened, sealed-append}
use Rattle.cx_secure.proofs.PlainLaws.{length-filled, length-nonempty, length-padded, length-second_plain}
use Rattle.cx_secure.proofs.RestLaws.{frame_again, frame_found}

-- ---- a part that may be missing

length-tag : (key nonce cipher : List ℕ) → IsBlock key → IsNonce nonce → length (tag_of key nonce cipher) ≡ 16
unfolding tag_of
length-tag key nonce cipher block is_nonce =
    let sum : List ℕ = spelled (ghash (subkey key) (hashed cipher) (length (hashed cipher) / 16)) in
    ap (λ first. length (gctr key first sum)) (nonce_block-counted nonce) ∙ length-gctr key (counted nonce 1) sum block (IsBlock-counted nonce 1 is_nonce)
    ∙ length-spelled (ghash (subkey key) (hashed cipher) (length (hashed cipher) / 16))

pub length-part : (key nonce plain : List ℕ) → IsBlock key → IsNonce nonce → length (part key nonce plain) ≡ length plain + 16
unfolding part
length-part key nonce plain block is_nonce =
    length-append (ciphered key nonce plain) (tag_of key nonce (ciphered key nonce plain))
    ∙ omega (arith, length-ciphered key nonce plain block is_nonce, length-tag key nonce (ciphered key nonce plain) block is_nonce)

nonempty_one : (t : List ℕ) → length t ≢ 0 → nonempty t ≡ t ∷ []
nonempty_one [] some = absurd (some refl)
nonempty_one (b ∷ bs) some = refl

one_sealed : (key fixed : List ℕ) (counter : ℕ) (t : List ℕ) → length t ≢ 0 → sealed_parts key fixed counter (nonempty t) ≡ part key (nonce_at fixed counter) t
unfolding sealed_parts
one_sealed key fixed counter t some = ap (sealed_parts key fixed counter) (nonempty_one t some) ∙ append-nil (part key (nonce_at fixed counter) t)

none_sealed : (key fixed : List ℕ) (counter : ℕ) → sealed_parts key fixed counter [] ≡ []
unfolding sealed_parts
none_sealed key fixed counter = refl

pub length-sealed : (key fixed : List ℕ) (counter : ℕ) (t : List ℕ) → IsBlock key → IsNonce (nonce_at fixed counter) → length (sealed_parts key fixed counter (nonempty t)) ≡ tagged (length t)
unfolding tagged
length-sealed key fixed counter t block is_nonce = elim (cases_eq (length t) 0) [
  | inl none ↦
      let empty : t ≡ [] = nil_from_length t none in
      ap (λ u. length (sealed_parts key fixed counter (nonempty u))) empty ∙ ap length (none_sealed key fixed counter) ∙ sym (rw (eq-eqb (length t) 0 none) refl)
  | inr some ↦ ap length (one_sealed key fixed counter t some) ∙ length-part key (nonce_at fixed counter) t block is_nonce ∙ sym (rw (ne_eqb (length t) 0 some) refl)
]

some_is : (x y : List ℕ) → (let a : Option (List ℕ) = Some x in let b : Option (List ℕ) = Some y in a ≡ b) → x ≡ y
some_is x y e = cc

pub record SomeFound (key fixed : List ℕ) (counter n : ℕ) (bytes plain : List ℕ) : Type 0 where
  pub len : length plain ≡ n
  pub text : bytes ≡ sealed_parts key fixed counter (nonempty plain)

some_found : (key fixed : List ℕ) (counter n : ℕ) (bytes plain : List ℕ) → IsBlock key → IsNonce (nonce_at fixed counter) → length bytes ≡ tagged n
    → opened_some key (nonce_at fixed counter) bytes ≡ Some plain → SomeFound key fixed counter n bytes plain
unfolding opened_some tagged
some_found key fixed counter n bytes plain block is_nonce len read = elim (cases_eq n 0) [
  | inl none ↦
      let empty : length bytes ≡ 0 = len ∙ rw (eq-eqb n 0 none) refl in
      let is : [] ≡ plain = some_is [] plain (sym (rw (eq-eqb (length bytes) 0 empty) refl) ∙ read) in
      record { len = ap length (sym is) ∙ sym none; text = nil_from_length bytes empty ∙ sym (none_sealed key fixed counter) ∙ ap (λ t. sealed_parts key fixed counter (nonempty t)) is }
  | inr some ↦
      let more : length bytes ≡ n + 16 = len ∙ rw (ne_eqb n 0 some) refl in
      let not_empty : (length bytes == 0) ≡ false = ne_eqb (length bytes) 0 (λ e. omega arith) in
      let k : length bytes - 16 ≡ n = omega arith in
      let open_ed : opened key (nonce_at fixed counter) n bytes ≡ Some plain = ap (λ m. opened key (nonce_at fixed counter) m bytes) (sym k) ∙ sym (rw not_empty refl) ∙ read in
      let both = opened_part key (nonce_at fixed counter) n bytes plain block is_nonce (omega arith) open_ed in
      record { len = both.1; text = both.0 ∙ sym (one_sealed key fixed counter plain (λ e. some (sym both.1 ∙ e))) }
]

some_again : (key fixed : List ℕ) (counter : ℕ) (plain : List ℕ) → IsBlock key → IsNonce (nonce_at fixed counter)
    → opened_some key (nonce_at fixed counter) (sealed_parts key fixed counter (nonempty plain)) ≡ Some plain
unfolding opened_some
some_again key fixed counter plain block is_nonce =
    let nonce : List ℕ = nonce_at fixed counter in
    let read : List ℕ → Option (List ℕ) = λ b. if length b == 0 then Some [] else opened key nonce (length b - 16) b in
    let some_of : List ℕ → Option (List ℕ) = λ t. Some t in
    elim (cases_eq (length plain) 0) [
      | inl none ↦
          let empty : plain ≡ [] = nil_from_length plain none in
          ap (λ u. read (sealed_parts key fixed counter (nonempty u))) empty ∙ ap read (none_sealed key fixed counter) ∙ ap some_of (sym empty)
      | inr some ↦
          let text : List ℕ = part key nonce plain in
          let len : length text ≡ length plain + 16 = length-part key nonce plain block is_nonce in
          let not_empty : (length text == 0) ≡ false = ne_eqb (length text) 0 (λ e. omega arith) in
          let k : length text - 16 ≡ length plain = omega arith in
          ap read (one_sealed key fixed counter plain some) ∙ rw not_empty (ap (λ m. opened key nonce m text) k ∙ part_opened key nonce plain (length plain) block is_nonce refl)
    ]

-- ---- found

front_len : (p : Preamble) (bytes : List ℕ) → length bytes ≡ rest_len p → length (take (tagged (second_len p)) bytes) ≡ tagged (second_len p)
unfolding rest_len
front_len p bytes len = omega (arith, length-take (tagged (second_len p)) bytes)

record PartsOk (h : Head) (a b : Option (List ℕ)) (f : Frame) : Type 0 where
  second : List ℕ
  last : List ℕ
  second_is : a ≡ Some second
  last_is : b ≡ Some last
  frame : frame_at h.preamble (h.inline ++ second) last ≡ Ok f

parts_ok : (h : Head) (a b : Option (List ℕ)) (f : Frame) → with_parts h a b ≡ Ok f → PartsOk h a b f
unfolding with_parts
parts_ok h (Some second) (Some last) f e = record { second = second; last = last; second_is = refl; last_is = refl; frame = e }
parts_ok h (Some second) None f e = absurd cc
parts_ok h None b f e = absurd cc

pub rest_found : (key fixed : List ℕ) (counter : ℕ) (h : Head) (bytes : List ℕ) (f : Frame) → IsBlock key → IsNonce (nonce_at fixed counter)
    → IsNonce (nonce_at fixed (counter + one_if (second_len h.preamble))) → IsAllowed 1048576 h.preamble → length h.inline ≡ 48 → length bytes ≡ rest_len h.preamble
    → rest_of key (nonce_at fixed counter) (nonce_at fixed (counter + one_if (second_len h.preamble))) h bytes ≡ Ok f → IsRestBehind key fixed counter h bytes f
unfolding rest_of
rest_found key fixed counter h bytes f block first next fine inline len read =
    let p : Preamble = h.preamble in
    let n : ℕ = tagged (second_len p) in
    let after : ℕ = counter + one_if (second_len p) in
    let ok = parts_ok h (opened_some key (nonce_at fixed counter) (take n bytes)) (opened_some key (nonce_at fixed after) (drop n bytes)) f read in
    let behind : length (drop n bytes) ≡ tagged (last_len p) = behind_len p (length bytes) (length (drop n bytes)) len (length-drop n bytes) in
    let front : length (take n bytes) ≡ n = front_len p bytes len in
    let second = some_found key fixed counter (second_len p) (take n bytes) ok.second block first front ok.second_is in
    let last = some_found key fixed after (last_len p) (drop n bytes) ok.last block next behind ok.last_is in
    let found = frame_found p h.inline ok.second ok.last f fine inline second.len last.len ok.frame in
    let count : after ≡ counter + length (nonempty ok.second) = ap (λ m. counter + one_if m) (sym second.len) ∙ ap (λ m. counter + m) (sym (length-nonempty ok.second)) in
    record {
      head = found.head;
      others = nonempty ok.second ++ nonempty ok.last;
      parts = found.parts;
      text = sym (take-append-drop n bytes) ∙ ap (λ t. t ++ drop n bytes) second.text
          ∙ ap (λ t. sealed_parts key fixed counter (nonempty ok.second) ++ t) (last.text ∙ ap (λ m. sealed_parts key fixed m (nonempty ok.last)) count)
          ∙ sym (sealed-append key fixed counter (nonempty ok.second) (nonempty ok.last));
    }

-- ---- again

cons_is : (x y : List ℕ) (xs ys : List (List ℕ)) → x ∷ xs ≡ y ∷ ys → (x ≡ y) × (xs ≡ ys)
cons_is x y xs ys e = (cc, cc)

pub parts_is : (t : ℕ) (s : Segment) (ss : List Segment) → plains (framed t s ss) ≡ (preamble_text (preamble_of (framed t s ss)) ++ inline_of s.bytes) ∷ nonempty (second_plain s.bytes) ++ nonempty (last_plain ss)
unfolding plains plains_of parts_of
parts_is t s ss = refl

pub second_is : (t : ℕ) (s : Segment) (ss : List Segment) → second_len (preamble_of (framed t s ss)) ≡ length (second_plain s.bytes)
unfolding second_len preamble_of
second_is t s ss = sym (length-second_plain s.bytes)

none_is : (t : ℕ) (s : Segment) → last_len (preamble_of (framed t s [])) ≡ length (last_plain [])
unfolding last_len last_plain preamble_of
none_is t s = refl

bodies_len : (ss : List Segment) → length (bodies ss) ≡ sum_by up16 (map length_of ss)
bodies_len [] = refl
bodies_len (s ∷ ss) = length-append (padded s) (bodies ss) ∙ omega (arith, length-padded s, bodies_len ss, sum_by-cons up16 (length s.bytes) (map length_of ss))

several_is : (t : ℕ) (s o : Segment) (os : List Segment) → ((preamble_of (framed t s (o ∷ os))).count == 1) ≡ false
unfolding preamble_of
several_is t s o os = ne_eqb (length (s ∷ o ∷ os)) 1 (λ e. omega arith)

some_last : (t : ℕ) (s o : Segment) (os : List Segment) → length (o ∷ os) ≤ 3 → last_len (preamble_of (framed t s (o ∷ os))) ≡ length (last_plain (o ∷ os))
unfolding last_len last_plain
some_last t s o os few =
    let ss : List Segment = o ∷ os in
    let end : List ℕ = filled 16 (0x0e ∷ []) in
    let some : (length ss == 0) ≡ false = ne_eqb (length ss) 0 (λ e. omega arith) in
    let text_len : length (bodies ss ++ end) ≡ sum_by up16 (map length_of ss) + 16 = length-append (bodies ss) end ∙ omega (arith, bodies_len ss, length-filled 16 (0x0e ∷ []) (omega arith)) in
    rw (several_is t s o os) (ap (λ ns. sum_by up16 ns + 16) (announces t s ss few).0) ∙ sym text_len ∙ sym (rw some refl)

pub last_is : (t : ℕ) (s : Segment) (ss : List Segment) → length ss ≤ 3 → last_len (preamble_of (framed t s ss)) ≡ length (last_plain ss)
last_is t s [] few = none_is t s
last_is t s (o ∷ os) few = some_last t s o os few

opens_parts : (h : Head) (second last : List ℕ) → with_parts h (Some second) (Some last) ≡ frame_at h.preamble (h.inline ++ second) last
unfolding with_parts
opens_parts h second last = refl

framed_again : (key fixed : List ℕ) (counter t : ℕ) (s : Segment) (ss : List Segment) (h : Head) (bytes : List ℕ) → IsBlock key → IsNonce (nonce_at fixed counter)
    → IsNonce (nonce_at fixed (counter + one_if (second_len h.preamble))) → IsAllowed 1048576 h.preamble → length ss ≤ 3
    → IsRestBehind key fixed counter h bytes (framed t s ss) → rest_of key (nonce_at fixed counter) (nonce_at fixed (counter + one_if (second_len h.preamble))) h bytes ≡ Ok (framed t s ss)
unfolding rest_of
framed_again key fixed counter t s ss h bytes block first next fine few is =
    let p : Preamble = h.preamble in
    let second : List ℕ = second_plain s.bytes in
    let last : List ℕ = last_plain ss in
    let heads = cons_is _ _ (nonempty second ++ nonempty last) is.others (sym (parts_is t s ss) ∙ is.parts) in
    let allowed : IsAllowed 1048576 (preamble_of (framed t s ss)) = subst (IsAllowed 1048576) (sym is.head) fine in
    let fronts = same_fronts (preamble_text (preamble_of (framed t s ss))) (inline_of s.bytes) (preamble_text p) h.inline 32
    (length-preamble_text (preamble_of (framed t s ss)) allowed.four_lengths allowed.four_aligns) (length-preamble_text p fine.four_lengths fine.four_aligns) heads.0
    in
    let size : second_len p ≡ length second = ap second_len (sym is.head) ∙ second_is t s ss in
    let after : ℕ = counter + one_if (second_len p) in
    let count : counter + length (nonempty second) ≡ after = ap (λ m. counter + m) (length-nonempty second ∙ ap (λ m. one_if m) (sym size)) in
    let a : List ℕ = sealed_parts key fixed counter (nonempty second) in
    let b : List ℕ = sealed_parts key fixed after (nonempty last) in
    let text : bytes ≡ a ++ b =
    is.text ∙ ap (sealed_parts key fixed counter) (sym heads.1) ∙ sealed-append key fixed counter (nonempty second) (nonempty last) ∙ ap (λ m. a ++ sealed_parts key fixed m (nonempty last)) count
    in
    let n : ℕ = tagged (second_len p) in
    let a_len : length a ≡ n = length-sealed key fixed counter second block first ∙ ap tagged (sym size) in
    let front : take n bytes ≡ a = ap (take n) text ∙ take_at a b n a_len in
    let behind : drop n bytes ≡ b = ap (drop n) text ∙ drop_at a b n a_len in
    let read : Option (List ℕ) → Option (List ℕ) → Result Frame SecureRefusal = λ x y. with_parts h x y in
    let frame : Preamble → List ℕ → Result Frame SecureRefusal = λ q i. frame_at q (i ++ second) last in
    ap (λ x. read x (opened_some key (nonce_at fixed after) (drop n bytes))) (ap (opened_some key (nonce_at fixed counter)) front ∙ some_again key fixed counter second block first)
    ∙ ap (λ y. read (Some second) y) (ap (opened_some key (nonce_at fixed after)) behind ∙ some_again key fixed after last block next)
    ∙ opens_parts h second last ∙ ap (λ q. frame q h.inline) (sym is.head) ∙ ap (λ i. frame (preamble_of (framed t s ss)) i) (sym fronts.1) ∙ frame_again t s ss few

by_segments : (key fixed : List ℕ) (counter t : ℕ) (ss : List Segment) (h : Head) (bytes : List ℕ) → IsBlock key → IsNonce (nonce_at fixed counter)
    → IsNonce (nonce_at fixed (counter + one_if (second_len h.preamble))) → IsAllowed 1048576 h.preamble
    → (let f : Frame = record { tag = t; segments = ss } in IsRestBehind key fixed counter h bytes f)
    → rest_of key (nonce_at fixed counter) (nonce_at fixed (counter + one_if (second_len h.preamble))) h bytes ≡ (let f : Frame = record { tag = t; segments = ss } in let r : Result Frame SecureRefusal = Ok f in r)
by_segments key fixed counter t [] h bytes block first next fine is = absurd (no_frame 1048576 t (subst (IsAllowed 1048576) (sym is.head) fine))
by_segments key fixed counter t (s ∷ ss) h bytes block first next fine is =
    framed_again key fixed counter t s ss h bytes block first next fine (few_others 1048576 t s ss (subst (IsAllowed 1048576) (sym is.head) fine)) is

pub rest_again : (key fixed : List ℕ) (counter : ℕ) (h : Head) (bytes : List ℕ) (f : Frame) → IsBlock key → IsNonce (nonce_at fixed counter)
    → IsNonce (nonce_at fixed (counter + one_if (second_len h.preamble))) → IsAllowed 1048576 h.preamble
    → IsRestBehind key fixed counter h bytes f → rest_of key (nonce_at fixed counter) (nonce_at fixed (counter + one_if (second_len h.preamble))) h bytes ≡ Ok f
rest_again key fixed counter h bytes f block first next fine is = by_segments key fixed counter f.tag f.segments h bytes block first next fine is
