-- What an acceptor takes of a connector that didn't leak: where it has taken the front of what was spoken under the key, the frame that it reads next is
-- the next one that was spoken.
use Rattle.std.proofs.Common.{◌≡◌, ℕ, ◌+◌, ◌<◌, ◌≤◌, ◌^◌, zero, suc, Bool, true, false, List, [], ◌∷◌, ◌++◌, length, map, Option, Some, None, Result, Ok, Err, inl, inr, ◌⊎◌, refl, sym, ap, ◌∙◌, subst, arith, append_assoc, length-append}
use Rattle.std.proofs.lemmas.List.Elements.{All-cons, All-nil}
use Rattle.std.specs.List.{AllByRecursion}
use Rattle.cx_base.specs.Names.{Name}
use Rattle.cx_base.specs.declared.nodes.NodeName.{NodeName}
use Rattle.cx_frame.proofs.Cutting.{allowed_frame, made_fields}
use Rattle.cx_frame.proofs.RestLaws.{framed}
use Rattle.cx_frame.specs.Frames.{total}
use Rattle.cx_frame.specs.Preambles.{IsAllowed, preamble_of}
use Rattle.cx_frame.specs.declared.frame.Frame.{Frame}
use Rattle.cx_frame.specs.declared.frame.Segment.{Segment}
use Rattle.cx_journal.specs.declared.premises.KeyKind.TheVariants as kind
use Rattle.cx_laws_keys.proofs.keys.Premises.{AreGranted, logged}
use Rattle.cx_laws_keys.proofs.series.Frames.{parts-taken}
use Rattle.cx_laws_keys.proofs.series.Fronts.{front-read}
use Rattle.cx_laws_keys.proofs.series.Series.{IsAt}
use Rattle.cx_secure.specs.Parts.{nonce_at}
use Rattle.cx_secure.specs.Plains.{plains}
use Rattle.cx_steps.specs.Onto.{SomeOf}
use Rattle.cx_steps.specs.Premises.{HasSealed, IsExcepted}
use Rattle.cx_steps.specs.declared.seals.Logged.{Logged}
use Rattle.cx_steps.specs.declared.seals.SealEntry.{SealEntry}
use Rattle.cx_steps.specs.declared.seals.SealEntry.TheVariants as entry
use Rattle.cx_steps.specs.declared.seals.SealMark.{SealMark}
use Rattle.cx_laws_keys.specs.cx_stream.specs.Openings.{front_contents}
use Rattle.cx_laws_keys.specs.cx_stream.specs.SecureStreams.{Ahead, secure_frame_at}
use Rattle.cx_laws_links.proofs.links.Spoken.{Idents, KeepsUp, Orders, Reconnects, Signs, Spoken, frame_of, is_connectors, parts-append, parts_of, said_under}
use Rattle.cx_laws_links.proofs.links.Written.{IsWritten}

-- ---- what opened was sealed

module _ (leaked : List Name) (whole : List Logged) (n : NodeName) (line : ℕ) (key : List ℕ) (held : IsExcepted leaked whole n key → ⊥) where
  abbrev pub mark_of : List ℕ → SealMark
  mark_of content = record { key = key; kind = kind.Connection; content = content }

  pub opened-sealed : (contents : List (List ℕ)) (log later : List Logged) → ((mark : SealMark) → HasSealed later mark → HasSealed log mark)
      → AreGranted leaked whole n line later (map (λ (content : List ℕ). entry.Opened (mark_of content)) contents) → AllByRecursion (λ (content : List ℕ). HasSealed log (mark_of content)) contents
  opened-sealed [] log later same g = tt
  opened-sealed (c ∷ cs) log later same g = (by_owes g.0.owes, opened-sealed cs log (logged n line (entry.Opened (mark_of c)) ∷ later) step g.1)
    where
      by_owes : IsExcepted leaked whole n key ⊎ HasSealed later (mark_of c) → HasSealed log (mark_of c)
      by_owes (inl excepted) = absurd (held excepted)
      by_owes (inr sealed) = same (mark_of c) sealed

      step : (mark : SealMark) → HasSealed (logged n line (entry.Opened (mark_of c)) ∷ later) mark → HasSealed log mark
      step mark (inl here) = absurd here
      step mark (inr earlier) = same mark earlier

-- ---- frames that can be read

abbrev aligned : List ℕ → Segment
aligned bytes = record { align = 8; bytes = bytes }

abbrev IsSmall : Segment → Type 0
IsSmall s = length s.bytes < 2 ^ 32

one-allowed : (t : ℕ) (bytes : List ℕ) → 1 ≤ t → t ≤ 20 → length bytes ≤ 1048576 → IsAllowed 1048576 (preamble_of (framed t (aligned bytes) []))
one-allowed t bytes low high fits =
    allowed_frame 1048576 (framed t (aligned bytes) []) (record {
      tag_low = low;
      tag_high = high;
      count_low = omega arith;
      count_high = omega arith;
      each = All-cons IsSmall (aligned bytes) [] (omega (arith, fits)) (All-nil IsSmall);
    })
    (made_fields (aligned bytes ∷ []) (length bytes) 0 0 0 8 0 0 0 refl refl refl refl refl refl refl refl
    (omega (arith, fits)) (omega arith) (omega arith) (omega arith) (omega arith) (omega arith) (omega arith) (omega arith))
    (omega (arith, fits))

two-allowed : (t : ℕ) (first second : List ℕ) → 1 ≤ t → t ≤ 20 → length first + length second ≤ 1048576
    → IsAllowed 1048576 (preamble_of (framed t (aligned first) (aligned second ∷ [])))
two-allowed t first second low high fits =
    allowed_frame 1048576 (framed t (aligned first) (aligned second ∷ [])) (record {
      tag_low = low;
      tag_high = high;
      count_low = omega arith;
      count_high = omega arith;
      each = All-cons IsSmall (aligned first) (aligned second ∷ []) (omega (arith, fits)) (All-cons IsSmall (aligned second) [] (omega (arith, fits)) (All-nil IsSmall));
    })
    (made_fields (aligned first ∷ aligned second ∷ []) (length first) (length second) 0 0 8 8 0 0 refl refl refl refl refl refl refl refl
    (omega (arith, fits)) (omega (arith, fits)) (omega arith) (omega arith) (omega arith) (omega arith) (omega arith) (omega arith))
    (omega (arith, fits))

-- what is read where all that opens is parts of what is spoken next
module _ (a : Ahead) (f : Frame) (n : ℕ) (read : secure_frame_at a ≡ Ok (Some (f, n))) where
  -- each content that opens at the front is the part of its number of these
  abbrev pub OpensAt : List (List ℕ) → Type 0
  OpensAt parts = (i : ℕ) (plain : List ℕ) → a.counter + i < 2 ^ 64 → SomeOf (λ (content : List ℕ). content ≡ nonce_at a.fixed (a.counter + i) ++ plain) (front_contents a) → IsAt parts i plain

  pub one-read : (t : ℕ) (bytes : List ℕ) (more : List (List ℕ)) → 1 ≤ t → t ≤ 20 → length bytes ≤ 1048576 → OpensAt (plains (framed t (aligned bytes) []) ++ more)
      → f ≡ framed t (aligned bytes) []
  one-read t bytes more low high fits opens = (front-read a t (aligned bytes) [] (omega arith) (one-allowed t bytes low high fits) more f n opens read).0

  pub two-read : (t : ℕ) (first second : List ℕ) (more : List (List ℕ)) → 1 ≤ t → t ≤ 20 → length first + length second ≤ 1048576
      → OpensAt (plains (framed t (aligned first) (aligned second ∷ [])) ++ more) → f ≡ framed t (aligned first) (aligned second ∷ [])
  two-read t first second more low high fits opens =
      (front-read a t (aligned first) (aligned second ∷ []) (omega arith) (two-allowed t first second low high fits) more f n opens read).0

  -- by what is spoken
  pub spoken-read : (x : Spoken) (more : List (List ℕ)) → total (frame_of x) ≤ 1048576 → OpensAt (plains (frame_of x) ++ more) → f ≡ frame_of x
  spoken-read (Signs code) more fits opens = one-read 7 _ more (omega arith) (omega arith) (omega (arith, fits)) opens
  spoken-read (Idents mon_client gid flags cookie) more fits opens = one-read 8 _ more (omega arith) (omega arith) (omega (arith, fits)) opens
  spoken-read (Reconnects mon_client session) more fits opens = one-read 11 _ more (omega arith) (omega arith) (omega (arith, fits)) opens
  spoken-read (Orders order) more fits opens = two-read 17 _ _ more (omega arith) (omega arith) (omega (arith, fits)) opens
  spoken-read (KeepsUp ack) more fits opens = one-read 19 _ more (omega arith) (omega arith) (omega (arith, fits)) opens

  -- where nothing opens, nothing is read
  pub none-read : OpensAt [] → ⊥
  none-read opens =
      let vacuous : (parts : List (List ℕ)) → OpensAt parts = λ parts i plain low some. absurd (opens i plain low some) in
      let one : f ≡ framed 1 (aligned []) [] = one-read 1 [] [] (omega arith) (omega arith) (omega arith) (vacuous _) in
      let two : f ≡ framed 2 (aligned []) [] = one-read 2 [] [] (omega arith) (omega arith) (omega arith) (vacuous _) in
      let tags : f.tag ≡ 1 = ap (λ (g : Frame). g.tag) one in
      let other : f.tag ≡ 2 = ap (λ (g : Frame). g.tag) two in
      omega (arith, tags, other)

-- ---- what is taken next

pub at-rest : (xs ys : List (List ℕ)) (i : ℕ) (x : List ℕ) → IsAt (xs ++ ys) (length xs + i) x → IsAt ys i x
at-rest [] ys i x h = let same : length {A = List ℕ} [] + i ≡ i = omega arith in subst (λ (k : ℕ). IsAt ys k x) same h
at-rest (z ∷ xs) ys i x h =
    let same : length (z ∷ xs) + i ≡ suc (length xs + i) = omega arith in
    at-rest xs ys i x (subst (λ (k : ℕ). IsAt (z ∷ (xs ++ ys)) k x) same h)

pub some-sealed : (P : List ℕ → Type 0) (contents : List (List ℕ)) (content : List ℕ) → SomeOf (λ (c : List ℕ). c ≡ content) contents → AllByRecursion P contents → P content
some-sealed P [] content some all = absurd some
some-sealed P (c ∷ cs) content (inl here) all = subst P here all.0
some-sealed P (c ∷ cs) content (inr later) all = some-sealed P cs content later all.1

-- all that was spoken fits into frames
abbrev pub AreFrames : List Spoken → Type 0
AreFrames xs = AllByRecursion (λ (x : Spoken). total (frame_of x) ≤ 1048576) xs

-- the next one that was spoken, and all behind it
pub record Next (f : Frame) (rest : List Spoken) : Type 0 where
  pub word : Spoken
  pub later : List Spoken
  pub is : rest ≡ word ∷ later
  pub frame : f ≡ frame_of word

module _ (log : List Logged) (said : List (List ℕ × Spoken)) (key : List ℕ) (w : IsWritten log said key) (a : Ahead) (four : length a.fixed ≡ 4)
    (passes : (m : ℕ) (plain : List ℕ) → is_connectors (nonce_at a.fixed m ++ plain) ≡ true) (taken rest : List Spoken) (front : said_under key said ≡ taken ++ rest)
    (counter : a.counter ≡ length (parts_of taken)) (sealed : AllByRecursion (λ (content : List ℕ). HasSealed log (record { key = key; kind = kind.Connection; content = content })) (front_contents a)) where
  -- what opens is a part of what is spoken behind that
  opens-rest : (i : ℕ) (plain : List ℕ) → a.counter + i < 2 ^ 64 → SomeOf (λ (content : List ℕ). content ≡ nonce_at a.fixed (a.counter + i) ++ plain) (front_contents a)
      → IsAt (parts_of rest) i plain
  opens-rest i plain low some =
      let was = some-sealed (λ (content : List ℕ). HasSealed log (record { key = key; kind = kind.Connection; content = content })) (front_contents a)
      (nonce_at a.fixed (a.counter + i) ++ plain) some sealed in
      let within : a.counter + i + length (plain ∷ []) ≤ 2 ^ 64 = omega (arith, low) in
      let at = (parts-taken is_connectors key w.fixed a.fixed (parts_of (said_under key said)) log w.contents w.four four w.fits passes (a.counter + i) (plain ∷ []) within (was, tt)).0 in
      let split : parts_of (said_under key said) ≡ parts_of taken ++ parts_of rest = ap (λ (l : List Spoken). parts_of l) front ∙ parts-append taken rest in
      at-rest (parts_of taken) (parts_of rest) i plain
      (subst (λ (c : ℕ). IsAt (parts_of taken ++ parts_of rest) (c + i) plain) counter (subst (λ (l : List (List ℕ)). IsAt l (a.counter + i) plain) split at))

  -- so the frame that is read is the next one that was spoken
  pub next-taken : (f : Frame) (n : ℕ) → AreFrames rest → secure_frame_at a ≡ Ok (Some (f, n)) → Next f rest
  next-taken f n fit read = by_rest rest fit opens-rest
    where
      by_rest : (xs : List Spoken) → AreFrames xs → OpensAt a f n read (parts_of xs) → Next f xs
      by_rest [] fit opens = absurd (none-read a f n read opens)
      by_rest (x ∷ xs) fit opens = record { word = x; later = xs; is = refl; frame = spoken-read a f n read x (parts_of xs) fit.0 opens }
