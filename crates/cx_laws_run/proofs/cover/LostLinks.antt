-- An open link of the monitor on which a save fails: what it would have sealed it counts, so it is lost; and a lost link stays so, whatever it seals.
use Rattle.std.proofs.Common.{◌≡◌, ◌+◌, ◌<◌, ◌≤◌, ◌^◌, ℕ, Bool, List, [], ◌∷◌, ◌++◌, length, inl, inr, ◌⊎◌, ap, ◌∙◌, subst, arith, append_assoc, length-append}
use Rattle.cx_base.specs.Names.{Name}
use Rattle.cx_base.specs.declared.nodes.NodeName.{NodeName}
use Rattle.cx_frame.specs.declared.frame.Frame.{Frame}
use Rattle.cx_laws_run.specs.cx_laws_keys.proofs.keys.Premises.{behind}
use Rattle.cx_laws_run.specs.cx_laws_keys.proofs.keys.Uses.{Uses, WholeRun}
use Rattle.cx_laws_run.specs.cx_laws_keys.proofs.series.Contents.{IsNumberedAt, content-at, contents-behind, contents_in}
use Rattle.cx_laws_run.specs.cx_laws_keys.proofs.series.Series.{IsAt, at-behind, at-front}
use Rattle.cx_laws_run.specs.cx_rules.specs.Secured.{Keys, Secured, sealed_under, under}
use Rattle.cx_secure.specs.Contents.{sealed_contents}
use Rattle.cx_secure.specs.Parts.{nonce_at}
use Rattle.cx_secure.specs.Plains.{parts_of, plains, plains_of}
use Rattle.cx_steps.specs.Onto.{SomeOf}
use Rattle.cx_steps.specs.declared.seals.Logged.{Logged}
use Rattle.cx_steps.specs.declared.seals.SealEntry.{SealEntry}
use Rattle.cx_laws_run.specs.cx_laws_tickets.proofs.fetch.AskedKnown.{IsBearing, Told}
use Rattle.cx_laws_run.specs.cx_laws_tickets.proofs.fetch.AskedWords.{Given, given-shaped, given_frame}
use Rattle.cx_laws_run.specs.cx_laws_tickets.proofs.fetch.Later.{AreAmong, IsEnd, exact-among, later-contents, of_acceptor}
use Rattle.cx_laws_run.specs.cx_laws_tickets.proofs.fetch.NextWord.{IsShaped, OneSegment, TwoSegments}
use Rattle.cx_laws_run.specs.cx_laws_tickets.proofs.fetch.Words.{parts_of as words_parts, said_under}
use Rattle.cx_laws_run.proofs.cover.State.{IsLost}

-- ---- a frame has parts

some-parts : (f : Frame) → IsShaped f → 1 ≤ length (plains f)
unfolding plains plains_of parts_of
some-parts _ (OneSegment t bytes low high) = omega arith
some-parts _ (TwoSegments t first second low high) = omega arith

-- ---- what is sealed in its place

some-either : {X : Type 0} (P : X → Type 0) (xs ys : List X) → SomeOf P (xs ++ ys) → SomeOf P xs ⊎ SomeOf P ys
some-either P [] ys h = inr h
some-either P (x ∷ xs) ys (inl here) = inl (inl here)
some-either {X} P (x ∷ xs) ys (inr later) = by_rest (some-either P xs ys later)
  where
    by_rest : SomeOf P xs ⊎ SomeOf P ys → SomeOf P (x ∷ xs) ⊎ SomeOf P ys
    by_rest (inl h) = inl (inr h)
    by_rest (inr h) = inr h

-- it may lie beyond more than that
among-more : (test : List ℕ → Bool) (log : List Logged) (key : List ℕ) (parts beyond more : List (List ℕ)) → AreAmong test log key parts beyond → AreAmong test log key parts (beyond ++ more)
among-more test log key parts beyond more h = λ other end counter plain some low has.
    let at = h other end counter plain some low has in
    (at.0, at.1, subst (λ (l : List (List ℕ)). IsAt l at.0 plain) (append_assoc parts beyond more) (at-front (parts ++ beyond) more at.0 plain at.2), at.3)

-- what is sealed under the next numbers lies beyond, where some part was counted that wasn't sealed
among-sealed : (test : List ℕ → Bool) (keys : Keys) (f : Frame) (parts beyond : List (List ℕ)) (n : NodeName) (line : ℕ) (log : List Logged) → IsEnd test keys.out.fixed → 1 ≤ length beyond
    → keys.out.counter ≡ 1 + (length parts + length beyond) → keys.out.counter + length (plains f) ≤ 2 ^ 64 → AreAmong test log keys.key parts beyond
    → AreAmong test (behind n line (sealed_under keys f).seals log) keys.key parts (beyond ++ plains f)
among-sealed test keys f parts beyond n line log is some counts fits h = λ other end counter plain above low has.
    let seals : List SealEntry = (sealed_under keys f).seals in
    let first : 1 ≤ keys.out.counter = omega (arith, counts) in
    let all : contents_in keys.key test (behind n line seals log) ≡ contents_in keys.key test log ++ sealed_contents keys.out.fixed keys.out.counter (plains f) =
    contents-behind keys.key test n line seals log
    ∙ ap (λ (l : List (List ℕ)). contents_in keys.key test log ++ l) (later-contents test keys.key keys.out.fixed is keys.out.counter (plains f) first fits) in
    by_place other end counter plain above low
    (some-either (λ (content : List ℕ). content ≡ nonce_at other counter ++ plain) (contents_in keys.key test log) (sealed_contents keys.out.fixed keys.out.counter (plains f))
    (subst (λ (l : List (List ℕ)). SomeOf (λ (content : List ℕ). content ≡ nonce_at other counter ++ plain) l) all has))
  where
    by_place : (other : List ℕ) → IsEnd test other → (counter : ℕ) (plain : List ℕ) → 1 ≤ counter → counter < 2 ^ 64
        → SomeOf (λ (content : List ℕ). content ≡ nonce_at other counter ++ plain) (contents_in keys.key test log)
        ⊎ SomeOf (λ (content : List ℕ). content ≡ nonce_at other counter ++ plain) (sealed_contents keys.out.fixed keys.out.counter (plains f))
        → (place : ℕ) × (1 + place ≡ counter) × IsAt (parts ++ (beyond ++ plains f)) place plain × (place ≡ length parts → ⊥)
    by_place other end counter plain above low (inl was) = among-more test log keys.key parts beyond (plains f) h other end counter plain above low was
    by_place other end counter plain above low (inr now) =
        let at : IsNumberedAt keys.out.fixed other keys.out.counter counter (plains f) plain =
        content-at keys.out.fixed other keys.out.counter counter (plains f) plain is.four end.four fits low now in
        let number : keys.out.counter + at.place ≡ counter = at.number in (
          length parts + (length beyond + at.place),
          omega (arith, number, counts),
          at-behind parts (beyond ++ plains f) (length beyond + at.place) plain (at-behind beyond (plains f) at.place plain at.part),
          λ same. omega (arith, some, same),
        )

-- ---- the link

module _ (run : WholeRun) (us : Uses) (told : Told) (number : ℕ) (name : Name) (word : Given) where
  abbrev f : Frame
  f = given_frame word

  -- it was all right until a word was counted that isn't sealed
  pub lost-begins : (log : List Logged) (s : Secured) → IsBearing run us told log number s name → s.keys.out.counter + length (plains f) < 2 ^ 64
      → IsLost us told log number (under s (sealed_under s.keys f).keys) name
  lost-begins log s b low =
      let counts : s.keys.out.counter ≡ 1 + length (words_parts given_frame (said_under s.keys.key told.given)) = b.parts.counter in
      record {
        challenge = b.challenge;
        means = b.means;
        beyond = plains f;
        some = some-parts f (given-shaped word);
        among = exact-among of_acceptor log s.keys.key s.keys.out.fixed (words_parts given_frame (said_under s.keys.key told.given)) (plains f) b.out b.parts.sealed (omega (arith, counts, low));
        counter = omega (arith, counts);
        out = b.out;
        fits = omega (arith, low);
      }

  -- one word more is counted, and not sealed
  pub lost-skips : (log : List Logged) (s : Secured) → IsLost us told log number s name → s.keys.out.counter + length (plains f) < 2 ^ 64
      → IsLost us told log number (under s (sealed_under s.keys f).keys) name
  lost-skips log s h low =
      let parts : List (List ℕ) = words_parts given_frame (said_under s.keys.key told.given) in
      let some : 1 ≤ length h.beyond = h.some in
      let counts : s.keys.out.counter ≡ 1 + (length parts + length h.beyond) = h.counter in
      record {
        challenge = h.challenge;
        means = h.means;
        beyond = h.beyond ++ plains f;
        some = omega (arith, some, length-append h.beyond (plains f));
        among = among-more of_acceptor log s.keys.key parts h.beyond (plains f) h.among;
        counter = omega (arith, counts, length-append h.beyond (plains f));
        out = h.out;
        fits = omega (arith, low);
      }

  -- or sealed, beyond all that was said
  pub lost-seals : (n : NodeName) (line : ℕ) (log : List Logged) (s : Secured) → IsLost us told log number s name → s.keys.out.counter + length (plains f) < 2 ^ 64
      → IsLost us told (behind n line (sealed_under s.keys f).seals log) number (under s (sealed_under s.keys f).keys) name
  lost-seals n line log s h low =
      let parts : List (List ℕ) = words_parts given_frame (said_under s.keys.key told.given) in
      let some : 1 ≤ length h.beyond = h.some in
      let counts : s.keys.out.counter ≡ 1 + (length parts + length h.beyond) = h.counter in
      record {
        challenge = h.challenge;
        means = h.means;
        beyond = h.beyond ++ plains f;
        some = omega (arith, some, length-append h.beyond (plains f));
        among = among-sealed of_acceptor s.keys f parts h.beyond n line log h.out h.some h.counter (omega (arith, low)) h.among;
        counter = omega (arith, counts, length-append h.beyond (plains f));
        out = h.out;
        fits = omega (arith, low);
      }
