-- The frames that an end of a connection seals and takes, by the numbers of their parts.
use Rattle.std.proofs.Common.{◌≡◌, ◌+◌, ◌-◌, ◌<◌, ◌≤◌, ◌^◌, ℕ, Bool, true, false, nat_lt, List, [], ◌∷◌, ◌++◌, length, Result, Ok, Err, arith, length-append, append_assoc, append-nil, refl, sym, ap, ◌∙◌, subst}
use Rattle.std.proofs.lemmas.Bool.Decides.{nat_tests}
use Rattle.std.specs.Prelude.{if◌then◌else◌}
use Rattle.std.specs.List.{flat_map}
use Rattle.cx_base.specs.declared.nodes.NodeName.{NodeName}
use Rattle.cx_frame.specs.declared.frame.Frame.{Frame}
use Rattle.cx_laws_keys.specs.cx_journal.specs.declared.faults.BytesFault.{BytesFault}
use Rattle.cx_laws_keys.specs.cx_journal.specs.declared.faults.BytesFault.TheVariants.{CounterSpent, TooLong}
use Rattle.cx_laws_keys.specs.cx_journal.specs.declared.premises.KeyKind.TheVariants as kind
use Rattle.cx_laws_keys.proofs.keys.Premises.{behind, behind-append}
use Rattle.cx_laws_keys.proofs.series.Contents.{IsNumberedAt, content-at, contents-append, contents-behind, contents_by, contents_in, parts-contents, sealed-content}
use Rattle.cx_laws_keys.proofs.series.Series.{IsAt}
use Rattle.cx_rules.specs.Messages.{sealed_behind, sealed_then, secure_frames}
use Rattle.cx_frame.specs.Frames.{total}
use Rattle.cx_rules.specs.Secured.{Keys, SealedFrame, sealed_under, secure_frame}
use Rattle.cx_rules.specs.cx_secure.specs.Contents.{sealed_contents}
use Rattle.cx_rules.specs.cx_secure.specs.Parts.{nonce_at}
use Rattle.cx_rules.specs.cx_secure.specs.Plains.{plains}
use Rattle.cx_rules.specs.cx_steps.specs.Onto.{SomeOf}
use Rattle.cx_rules.specs.cx_steps.specs.Premises.{HasSealed}
use Rattle.cx_rules.specs.cx_steps.specs.declared.seals.Logged.{Logged}
use Rattle.cx_rules.specs.cx_steps.specs.declared.seals.SealMark.{SealMark}

-- ---- sealed

-- what is sealed is the frame under these keys; its numbers have a spelling, and it is no longer than a frame may be
pub frame-sealed : (keys : Keys) (f : Frame) (s : SealedFrame) → secure_frame keys f ≡ Ok s → (s ≡ sealed_under keys f) × (keys.out.counter + length (plains f) < 2 ^ 64) × (total f ≤ 1048576)
frame-sealed keys f s = by_tests (nat_lt (2 ^ 64 - 1) (keys.out.counter + length (plains f))) (nat_lt 1048576 (total f)) refl refl
  where
    by_tests : (spent long : Bool) → nat_lt (2 ^ 64 - 1) (keys.out.counter + length (plains f)) ≡ spent → nat_lt 1048576 (total f) ≡ long
        → (let r : Result SealedFrame BytesFault = (if spent then Err CounterSpent else if long then Err TooLong else Ok (sealed_under keys f)) in r ≡ Ok s)
        → (s ≡ sealed_under keys f) × (keys.out.counter + length (plains f) < 2 ^ 64) × (total f ≤ 1048576)
    by_tests true long is fits made = absurd cc
    by_tests false true is fits made = absurd cc
    by_tests false false is fits made =
        let same : sealed_under keys f ≡ s = cc in
        (sym same, grind (arith, nat_tests), grind (arith, nat_tests))

module _ (test : List ℕ → Bool) where
  -- An end has sealed these parts under its key, from number 0 on, and the next part gets the next number.
  pub record HasParts (keys : Keys) (parts : List (List ℕ)) (log : List Logged) : Type 0 where
    pub sealed : contents_in keys.key test log ≡ sealed_contents keys.out.fixed 0 parts
    pub counter : keys.out.counter ≡ length parts

  module _ (n : NodeName) (line : ℕ) (log : List Logged) (keys : Keys) (passes : (m : ℕ) (plain : List ℕ) → test (nonce_at keys.out.fixed m ++ plain) ≡ true) where
    under-sealed : (f : Frame) (parts : List (List ℕ)) → HasParts keys parts log → HasParts (sealed_under keys f).keys (parts ++ plains f) (behind n line (sealed_under keys f).seals log)
    under-sealed f parts h =
        let next : keys.out.counter ≡ 0 + length parts = omega (arith, h.counter) in
        record {
          sealed = contents-behind keys.key test n line (sealed_under keys f).seals log
              ∙ ap (λ (l : List (List ℕ)). l ++ contents_by keys.key test (sealed_under keys f).seals) h.sealed
              ∙ ap (λ (l : List (List ℕ)). sealed_contents keys.out.fixed 0 parts ++ l) (parts-contents keys.key test keys.out.fixed passes keys.out.counter (plains f))
              ∙ ap (λ (m : ℕ). sealed_contents keys.out.fixed 0 parts ++ sealed_contents keys.out.fixed m (plains f)) next
              ∙ sym (contents-append keys.out.fixed 0 parts (plains f));
          counter = ap (λ (m : ℕ). m + length (plains f)) h.counter ∙ sym (length-append parts (plains f));
        }

    -- so its parts have the next numbers
    pub frame-parts : (f : Frame) (s : SealedFrame) (parts : List (List ℕ)) → secure_frame keys f ≡ Ok s → HasParts keys parts log → HasParts s.keys (parts ++ plains f) (behind n line s.seals log)
    frame-parts f s parts made h =
        subst (λ (x : SealedFrame). HasParts x.keys (parts ++ plains f) (behind n line x.seals log)) (sym (frame-sealed keys f s made).0) (under-sealed f parts h)

  -- several frames in one piece: all their parts have the next numbers
  abbrev PartsOf : NodeName → ℕ → List Frame → Type 0
  PartsOf n line fs = (log : List Logged) (keys : Keys) (s : SealedFrame) (parts : List (List ℕ)) → ((m : ℕ) (plain : List ℕ) → test (nonce_at keys.out.fixed m ++ plain) ≡ true)
      → secure_frames keys fs ≡ Ok s → HasParts keys parts log → HasParts s.keys (parts ++ flat_map plains fs) (behind n line s.seals log)

  pub frames-parts : (n : NodeName) (line : ℕ) (fs : List Frame) (log : List Logged) (keys : Keys) (s : SealedFrame) (parts : List (List ℕ))
      → ((m : ℕ) (plain : List ℕ) → test (nonce_at keys.out.fixed m ++ plain) ≡ true) → secure_frames keys fs ≡ Ok s → HasParts keys parts log
      → HasParts s.keys (parts ++ flat_map plains fs) (behind n line s.seals log)
  frames-parts n line [] log keys s parts passes made h =
      let none : SealedFrame = record { bytes = []; seals = []; keys = keys } in
      let same : none ≡ s = cc in
      subst (λ (x : SealedFrame). HasParts x.keys (parts ++ []) (behind n line x.seals log)) same
      (subst (λ (ps : List (List ℕ)). HasParts keys ps log) (sym (append-nil parts)) h)
  frames-parts n line (f ∷ fs) log keys s parts passes made h = by_first (secure_frame keys f) refl made (λ l k x ps p m has. frames-parts n line fs l k x ps p m has)
    where
      by_rest : (one : SealedFrame) → secure_frame keys f ≡ Ok one → (q : Result SealedFrame BytesFault) → secure_frames one.keys fs ≡ q → sealed_behind one q ≡ Ok s → PartsOf n line fs
          → HasParts s.keys (parts ++ flat_map plains (f ∷ fs)) (behind n line s.seals log)
      by_rest one first (Err why) rest both on = absurd cc
      by_rest one first (Ok later) rest both on =
          let all : SealedFrame = record { bytes = one.bytes ++ later.bytes; seals = one.seals ++ later.seals; keys = later.keys } in
          let same : all ≡ s = cc in
          let fixed : keys.out.fixed ≡ one.keys.out.fixed = ap (λ (x : SealedFrame). x.keys.out.fixed) (sym (frame-sealed keys f one first).0) in
          let next : (m : ℕ) (plain : List ℕ) → test (nonce_at one.keys.out.fixed m ++ plain) ≡ true =
          subst (λ (w : List ℕ). (m : ℕ) (plain : List ℕ) → test (nonce_at w m ++ plain) ≡ true) fixed passes in
          let two = on (behind n line one.seals log) one.keys later (parts ++ plains f) next rest (frame-parts n line log keys passes f one parts first h) in
          subst (λ (x : SealedFrame). HasParts x.keys (parts ++ flat_map plains (f ∷ fs)) (behind n line x.seals log)) same
          (subst (λ (l : List Logged). HasParts later.keys (parts ++ flat_map plains (f ∷ fs)) l) (sym (behind-append n line one.seals later.seals log))
          (subst (λ (ps : List (List ℕ)). HasParts later.keys ps (behind n line later.seals (behind n line one.seals log))) (append_assoc parts (plains f) (flat_map plains fs)) two))

      by_first : (r : Result SealedFrame BytesFault) → secure_frame keys f ≡ r → sealed_then r (λ one. sealed_behind one (secure_frames one.keys fs)) ≡ Ok s → PartsOf n line fs
          → HasParts s.keys (parts ++ flat_map plains (f ∷ fs)) (behind n line s.seals log)
      by_first (Err why) first both on = absurd cc
      by_first (Ok one) first both on = by_rest one first (secure_frames one.keys fs) refl both on

-- ---- taken

module _ {X : Type 0} where
  -- these stand in a list from a place on
  abbrev pub StandAt : List X → ℕ → List X → Type 0
  StandAt whole place [] = Unit {0}
  StandAt whole place (x ∷ xs) = IsAt whole place x × StandAt whole (place + 1) xs

-- where an end has sealed these parts under a key, parts that were sealed there, by this end, from a number on, are those of these numbers
module _ (test : List ℕ → Bool) (key fixed other : List ℕ) (parts : List (List ℕ)) (log : List Logged) (sealed : contents_in key test log ≡ sealed_contents fixed 0 parts)
    (four : length fixed ≡ 4) (four_too : length other ≡ 4) (fits : length parts ≤ 2 ^ 64) (passes : (m : ℕ) (plain : List ℕ) → test (nonce_at other m ++ plain) ≡ true) where
  abbrev pub WereSealed : ℕ → List (List ℕ) → Type 0
  WereSealed counter [] = Unit {0}
  WereSealed counter (plain ∷ plains) =
      HasSealed log (record { key = key; kind = kind.Connection; content = nonce_at other counter ++ plain }) × WereSealed (counter + 1) plains

  one-taken : (counter : ℕ) (plain : List ℕ) → counter < 2 ^ 64 → HasSealed log (record { key = key; kind = kind.Connection; content = nonce_at other counter ++ plain }) → IsAt parts counter plain
  one-taken counter plain low was =
      let mark : SealMark = record { key = key; kind = kind.Connection; content = nonce_at other counter ++ plain } in
      let some = subst (λ (l : List (List ℕ)). SomeOf (λ (content : List ℕ). content ≡ nonce_at other counter ++ plain) l) sealed (sealed-content key test log mark refl (passes counter plain) was) in
      let all : 0 + length parts ≤ 2 ^ 64 = omega (arith, fits) in
      let at : IsNumberedAt fixed other 0 counter parts plain = content-at fixed other 0 counter parts plain four four_too all low some in
      let number : 0 + at.place ≡ counter = at.number in
      let place : at.place ≡ counter = omega (arith, number) in
      subst (λ (m : ℕ). IsAt parts m plain) place at.part

  pub parts-taken : (counter : ℕ) (plains : List (List ℕ)) → counter + length plains ≤ 2 ^ 64 → WereSealed counter plains → StandAt parts counter plains
  parts-taken counter [] low was = tt
  parts-taken counter (plain ∷ plains) low was =
      let here : counter < 2 ^ 64 = omega (arith, low) in
      let less : counter + 1 + length plains ≤ 2 ^ 64 = omega (arith, low) in
      (one-taken counter plain here was.0, parts-taken (counter + 1) plains less was.1)
