-- What each end of a connection sealed, read off the log: the contents under its key that begin with the nonce of one end, the oldest first. Where they are
-- numbered from 0 on, what opens at a number is the part of that number.
use Rattle.std.proofs.Common.{◌≡◌, ◌+◌, ◌<◌, ◌≤◌, ◌^◌, ℕ, suc, Bool, true, false, List, [], ◌∷◌, ◌++◌, length, Option, Some, None, inl, inr, ◌⊎◌, arith, append_assoc, append-nil, refl, sym, ap, ◌∙◌, subst}
use Rattle.std.proofs.lemmas.Nat.{from_le_bytes-to_le_bytes_8}
use Rattle.std.proofs.lemmas.Slice.Eq.{bytes_eq-Decides}
use Rattle.std.specs.Prelude.{◌&&◌, if◌then◌else◌}
use Rattle.std.specs.Int.{from_le_bytes, to_le_bytes, w64}
use Rattle.std.specs.List.{cons_option, filter_map}
use Rattle.std.specs.Str.{bytes_eq}
use Rattle.cx_base.specs.declared.nodes.NodeName.{NodeName}
use Rattle.cx_laws_keys.proofs.keys.Premises.{behind, logged}
use Rattle.cx_laws_keys.proofs.series.Series.{IsAt}
use Rattle.cx_rules.specs.Secured.{part_seals}
use Rattle.cx_rules.specs.cx_secure.specs.Contents.{sealed_contents}
use Rattle.cx_rules.specs.cx_secure.specs.Parts.{nonce_at}
use Rattle.cx_rules.specs.cx_steps.specs.Onto.{SomeOf}
use Rattle.cx_rules.specs.cx_steps.specs.Premises.{HasSealed, Seals}
use Rattle.cx_rules.specs.cx_steps.specs.declared.seals.Logged.{Logged}
use Rattle.cx_rules.specs.cx_steps.specs.declared.seals.SealEntry.{SealEntry}
use Rattle.cx_rules.specs.cx_steps.specs.declared.seals.SealEntry.TheVariants as entry
use Rattle.cx_rules.specs.cx_steps.specs.declared.seals.SealMark.{SealMark}

-- ---- read off a log

-- where the key is this one, and the content passes the test
abbrev pub content_where : Bool → List ℕ → Option (List ℕ)
content_where here content = if here then Some content else None

-- the content that the entry says was sealed under this key, by the end that the test tells
abbrev pub content_of : List ℕ → (List ℕ → Bool) → SealEntry → Option (List ℕ)
content_of key test (entry.Sealed mark) = content_where (bytes_eq mark.key key && test mark.content) mark.content
content_of key test _ = None

-- all of a log, which stands with the newest entry first
abbrev pub contents_in : List ℕ → (List ℕ → Bool) → List Logged → List (List ℕ)
contents_in key test [] = []
contents_in key test (at ∷ log) = contents_in key test log ++ cons_option (content_of key test at.entry) []

-- of the entries of a step, in their order
abbrev pub contents_by : List ℕ → (List ℕ → Bool) → List SealEntry → List (List ℕ)
contents_by key test es = filter_map (content_of key test) es

cons-append : {X : Type 0} (o : Option X) (xs : List X) → cons_option o [] ++ xs ≡ cons_option o xs
cons-append None xs = refl
cons-append (Some x) xs = refl

module _ (key : List ℕ) (test : List ℕ → Bool) where
  -- behind a step
  pub contents-behind : (n : NodeName) (line : ℕ) (es : List SealEntry) (log : List Logged) → contents_in key test (behind n line es log) ≡ contents_in key test log ++ contents_by key test es
  contents-behind n line [] log = sym (append-nil (contents_in key test log))
  contents-behind n line (e ∷ es) log =
      contents-behind n line es (logged n line e ∷ log)
      ∙ append_assoc (contents_in key test log) (cons_option (content_of key test e) []) (contents_by key test es)
      ∙ ap (λ (l : List (List ℕ)). contents_in key test log ++ l) (cons-append (content_of key test e) (contents_by key test es))

  -- what was sealed is one of them
  pub sealed-content : (log : List Logged) (mark : SealMark) → mark.key ≡ key → test mark.content ≡ true → HasSealed log mark
      → SomeOf (λ (content : List ℕ). content ≡ mark.content) (contents_in key test log)
  sealed-content [] mark same passes sealed = absurd sealed
  sealed-content (at ∷ log) mark same passes (inl here) = by_entry at.entry here
    where
      some-behind : (xs : List (List ℕ)) (x : List ℕ) → x ≡ mark.content → SomeOf (λ (content : List ℕ). content ≡ mark.content) (xs ++ x ∷ [])
      some-behind [] x is = inl is
      some-behind (y ∷ xs) x is = inr (some-behind xs x is)

      by_entry : (e : SealEntry) → Seals mark e → SomeOf (λ (content : List ℕ). content ≡ mark.content) (contents_in key test log ++ cons_option (content_of key test e) [])
      by_entry (entry.Sealed other) is =
          let itself : bytes_eq other.key key ≡ true = ap (λ (k : List ℕ). bytes_eq k key) (is.key ∙ same) ∙ (bytes_eq-Decides key key).1 refl in
          let told : test other.content ≡ true = ap test is.content ∙ passes in
          let both : (bytes_eq other.key key && test other.content) ≡ true = rw (itself, told) refl in
          let found : Some other.content ≡ content_of key test (entry.Sealed other) = sym (ap (λ (t : Bool). content_where t other.content) both) in
          subst (λ (o : Option (List ℕ)). SomeOf (λ (content : List ℕ). content ≡ mark.content) (contents_in key test log ++ cons_option o [])) found
          (some-behind (contents_in key test log) other.content is.content)
      by_entry (entry.Signed other) is = absurd is
      by_entry (entry.Opened other) is = absurd is
      by_entry (entry.Checked other) is = absurd is
      by_entry (entry.Drawn other) is = absurd is
  sealed-content (at ∷ log) mark same passes (inr later) =
      some-left (contents_in key test log) (cons_option (content_of key test at.entry) []) (sealed-content log mark same passes later)
    where
      some-left : (xs ys : List (List ℕ)) → SomeOf (λ (content : List ℕ). content ≡ mark.content) xs → SomeOf (λ (content : List ℕ). content ≡ mark.content) (xs ++ ys)
      some-left [] ys h = absurd h
      some-left (x ∷ xs) ys (inl h) = inl h
      some-left (x ∷ xs) ys (inr h) = inr (some-left xs ys h)

  -- ---- the parts of frames

  -- an end's own parts are numbered on
  pub parts-contents : (fixed : List ℕ) → ((m : ℕ) (plain : List ℕ) → test (nonce_at fixed m ++ plain) ≡ true) → (counter : ℕ) (plains : List (List ℕ))
      → contents_by key test (part_seals key fixed counter plains) ≡ sealed_contents fixed counter plains
  unfolding sealed_contents
  parts-contents fixed passes counter [] = refl
  parts-contents fixed passes counter (plain ∷ plains) =
      let itself : bytes_eq key key ≡ true = (bytes_eq-Decides key key).1 refl in
      let both : (bytes_eq key key && test (nonce_at fixed counter ++ plain)) ≡ true = rw (itself, passes counter plain) refl in
      ap (λ (t : Bool). cons_option (content_where t (nonce_at fixed counter ++ plain)) (contents_by key test (part_seals key fixed (counter + 1) plains))) both
      ∙ ap (λ (l : List (List ℕ)). (nonce_at fixed counter ++ plain) ∷ l) (parts-contents fixed passes (counter + 1) plains)

  and-false : (b : Bool) → (b && false) ≡ false
  and-false true = refl
  and-false false = refl

  -- those of the other end, and of other connections, change nothing
  pub parts-others : (other fixed : List ℕ) → bytes_eq other key ≡ false ⊎ ((m : ℕ) (plain : List ℕ) → test (nonce_at fixed m ++ plain) ≡ false) → (counter : ℕ) (plains : List (List ℕ))
      → contents_by key test (part_seals other fixed counter plains) ≡ []
  parts-others other fixed off counter [] = refl
  parts-others other fixed off counter (plain ∷ plains) =
      ap (λ (t : Bool). cons_option (content_where t (nonce_at fixed counter ++ plain)) (contents_by key test (part_seals other fixed (counter + 1) plains))) (by_way off)
      ∙ parts-others other fixed off (counter + 1) plains
    where
      by_way : bytes_eq other key ≡ false ⊎ ((m : ℕ) (plain : List ℕ) → test (nonce_at fixed m ++ plain) ≡ false) → (bytes_eq other key && test (nonce_at fixed counter ++ plain)) ≡ false
      by_way (inl apart) = rw apart refl
      by_way (inr fails) = ap (λ (t : Bool). bytes_eq other key && t) (fails counter plain) ∙ and-false (bytes_eq other key)

-- ---- numbered contents

pub contents-append : (fixed : List ℕ) (counter : ℕ) (xs ys : List (List ℕ)) → sealed_contents fixed counter (xs ++ ys) ≡ sealed_contents fixed counter xs ++ sealed_contents fixed (counter + length xs) ys
unfolding sealed_contents
contents-append fixed counter [] ys =
    let same : counter ≡ counter + length {A = List ℕ} [] = omega arith in ap (λ (n : ℕ). sealed_contents fixed n ys) same
contents-append fixed counter (x ∷ xs) ys =
    let same : counter + 1 + length xs ≡ counter + length (x ∷ xs) = omega arith in
    ap (λ (l : List (List ℕ)). (nonce_at fixed counter ++ x) ∷ l)
    (contents-append fixed (counter + 1) xs ys ∙ ap (λ (n : ℕ). sealed_contents fixed (counter + 1) xs ++ sealed_contents fixed n ys) same)

fronts : (ls rs xs ys : List ℕ) → length ls ≡ length rs → ls ++ xs ≡ rs ++ ys → (ls ≡ rs) × (xs ≡ ys)
fronts [] [] xs ys long same = (refl, same)
fronts [] (r ∷ rs) xs ys long same = absurd (omega (arith, long))
fronts (l ∷ ls) [] xs ys long same = absurd (omega (arith, long))
fronts (l ∷ ls) (r ∷ rs) xs ys long same =
    let head : l ≡ r = cc in
    let tail : ls ++ xs ≡ rs ++ ys = cc in
    let shorter : length ls ≡ length rs = omega (arith, long) in
    let rest = fronts ls rs xs ys shorter tail in
    (ap (λ (x : ℕ). x ∷ ls) head ∙ ap (λ (k : List ℕ). r ∷ k) rest.0, rest.1)

-- one content is of one nonce, one number and one plain text
pub one-content : (fixed other : List ℕ) (m i : ℕ) (p q : List ℕ) → length fixed ≡ 4 → length other ≡ 4 → m < 2 ^ 64 → i < 2 ^ 64 → nonce_at fixed m ++ p ≡ nonce_at other i ++ q
    → (fixed ≡ other) × (m ≡ i) × (p ≡ q)
unfolding nonce_at
one-content fixed other m i p q four four_too low low_too same =
    let flat : fixed ++ (to_le_bytes w64 m ++ p) ≡ other ++ (to_le_bytes w64 i ++ q) =
    sym (append_assoc fixed (to_le_bytes w64 m) p) ∙ same ∙ append_assoc other (to_le_bytes w64 i) q in
    let first = fronts fixed other (to_le_bytes w64 m ++ p) (to_le_bytes w64 i ++ q) (four ∙ sym four_too) flat in
    let second = fronts (to_le_bytes w64 m) (to_le_bytes w64 i) p q refl first.1 in (
      first.0,
      sym (from_le_bytes-to_le_bytes_8 m low) ∙ ap (λ (l : List ℕ). from_le_bytes w64 l) second.0 ∙ from_le_bytes-to_le_bytes_8 i low_too,
      second.1,
    )

-- which of numbered contents this one is: the nonce is theirs, and the plain text is the part of its number
pub record IsNumberedAt (fixed other : List ℕ) (from i : ℕ) (plains : List (List ℕ)) (plain : List ℕ) : Type 0 where
  pub nonce : fixed ≡ other
  pub place : ℕ
  pub number : from + place ≡ i
  pub part : IsAt plains place plain

pub content-at : (fixed other : List ℕ) (from i : ℕ) (plains : List (List ℕ)) (plain : List ℕ) → length fixed ≡ 4 → length other ≡ 4 → from + length plains ≤ 2 ^ 64 → i < 2 ^ 64
    → SomeOf (λ (content : List ℕ). content ≡ nonce_at other i ++ plain) (sealed_contents fixed from plains) → IsNumberedAt fixed other from i plains plain
unfolding sealed_contents
content-at fixed other from i [] plain four four_too fits low some = absurd some
content-at fixed other from i (p ∷ plains) plain four four_too fits low (inl here) =
    let below : from < 2 ^ 64 = omega (arith, fits) in
    let one = one-content fixed other from i p plain four four_too below low here in
    let number : from + 0 ≡ i = omega (arith, one.1) in
    record { nonce = one.0; place = 0; number = number; part = one.2 }
content-at fixed other from i (p ∷ plains) plain four four_too fits low (inr later) =
    let less : from + 1 + length plains ≤ 2 ^ 64 = omega (arith, fits) in
    let rest : IsNumberedAt fixed other (from + 1) i plains plain = content-at fixed other (from + 1) i plains plain four four_too less low later in
    let its : from + 1 + rest.place ≡ i = rest.number in
    let number : from + suc rest.place ≡ i = omega (arith, its) in
    record { nonce = rest.nonce; place = suc rest.place; number = number; part = rest.part }
