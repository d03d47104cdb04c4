-- What an end of a link reads next, of one that didn't leak: where it has taken the front of what the other end said under the key behind its
-- AUTH_SIGNATURE, the frame that it reads is the next one that was said; and there is one.
use Rattle.std.proofs.Common.{◌≡◌, ℕ, ◌+◌, ◌-◌, ◌<◌, ◌≤◌, ◌^◌, suc, Bool, true, false, nat_lt, take, List, [], ◌∷◌, ◌++◌, length, map, Option, Some, None, Ok, inl, inr, ◌⊎◌, refl, ap, ◌∙◌, subst, arith, append_assoc, length-append}
use Rattle.std.proofs.lemmas.List.Elements.{All-cons, All-nil}
use Rattle.std.specs.List.{AllByRecursion}
use Rattle.std.specs.Prelude.{if◌then◌else◌}
use Rattle.std.proofs.lemmas.Bool.Decides.{nat_tests}
use Rattle.cx_base.specs.Names.{Name}
use Rattle.cx_base.specs.declared.nodes.NodeName.{NodeName}
use Rattle.cx_frame.proofs.Cutting.{allowed_frame, made_fields}
use Rattle.cx_frame.proofs.RestLaws.{framed}
use Rattle.cx_frame.specs.Frames.{total}
use Rattle.cx_frame.specs.Preambles.{IsAllowed, preamble_of}
use Rattle.cx_frame.specs.declared.frame.Frame.{Frame}
use Rattle.cx_frame.specs.declared.frame.Segment.{Segment}
use Rattle.cx_journal.specs.declared.premises.KeyKind.TheVariants as kind
use Rattle.cx_laws_tickets.specs.cx_laws_keys.proofs.keys.Premises.{AreGranted, logged}
use Rattle.cx_laws_keys.proofs.series.Fronts.{front-read}
use Rattle.cx_laws_keys.proofs.series.Series.{IsAt}
use Rattle.cx_secure.specs.Parts.{nonce_at, opened}
use Rattle.cx_secure.specs.Plains.{plains}
use Rattle.cx_steps.specs.Onto.{SomeOf}
use Rattle.cx_steps.specs.Premises.{HasSealed, IsExcepted}
use Rattle.cx_steps.specs.declared.seals.Logged.{Logged}
use Rattle.cx_steps.specs.declared.seals.SealEntry.TheVariants as entry
use Rattle.cx_steps.specs.declared.seals.SealMark.{SealMark}
use Rattle.cx_laws_keys.specs.cx_stream.specs.Openings.{contents_from, front_contents}
use Rattle.cx_laws_keys.specs.cx_stream.specs.SecureStreams.{Ahead, secure_frame_at}
use Rattle.cx_laws_tickets.proofs.fetch.Later.{IsEnd, IsLaterSeries, later-taken}
use Rattle.cx_laws_tickets.proofs.fetch.Words.{AreFrames, parts-append, parts-one, parts_of}

-- ---- what opened was sealed

module _ (leaked : List Name) (whole : List Logged) (n : NodeName) (line : ℕ) (key : List ℕ) (held : IsExcepted leaked whole n key → ⊥) where
  abbrev pub mark_of : List ℕ → SealMark
  mark_of content = record { key = key; kind = kind.Connection; content = content }

  pub opened-sealed : (contents : List (List ℕ)) (log later : List Logged) → ((mark : SealMark) → HasSealed later mark → HasSealed log mark)
      → AreGranted leaked whole n line later (map (λ (content : List ℕ). entry.Opened (mark_of content)) contents) → AllByRecursion (λ (content : List ℕ). HasSealed log (mark_of content)) contents
  opened-sealed [] log later same g = tt
  opened-sealed (c ∷ cs) log later same g = (by_owes g.0.owes, opened-sealed cs log (logged n line (entry.Opened (mark_of c)) ∷ later) step g.1)
    where
      by_owes : IsExcepted leaked whole n key ⊎ HasSealed later (mark_of c) → HasSealed log (mark_of c)
      by_owes (inl excepted) = absurd (held excepted)
      by_owes (inr sealed) = same (mark_of c) sealed

      step : (mark : SealMark) → HasSealed (logged n line (entry.Opened (mark_of c)) ∷ later) mark → HasSealed log mark
      step mark (inl here) = absurd here
      step mark (inr earlier) = same mark earlier

-- ---- frames that can be read

abbrev pub aligned : List ℕ → Segment
aligned bytes = record { align = 8; bytes = bytes }

-- one segment, or two, each aligned to 8, under a tag that is one
pub data IsShaped : Frame → Type 0 where
  OneSegment : (t : ℕ) (bytes : List ℕ) → 1 ≤ t → t ≤ 20 → IsShaped (framed t (aligned bytes) [])
  TwoSegments : (t : ℕ) (first second : List ℕ) → 1 ≤ t → t ≤ 20 → IsShaped (framed t (aligned first) (aligned second ∷ []))

abbrev IsSmall : Segment → Type 0
IsSmall s = length s.bytes < 2 ^ 32

one-allowed : (t : ℕ) (bytes : List ℕ) → 1 ≤ t → t ≤ 20 → length bytes ≤ 1048576 → IsAllowed 1048576 (preamble_of (framed t (aligned bytes) []))
one-allowed t bytes low high fits =
    allowed_frame 1048576 (framed t (aligned bytes) []) (record {
      tag_low = low;
      tag_high = high;
      count_low = omega arith;
      count_high = omega arith;
      each = All-cons IsSmall (aligned bytes) [] (omega (arith, fits)) (All-nil IsSmall);
    })
    (made_fields (aligned bytes ∷ []) (length bytes) 0 0 0 8 0 0 0 refl refl refl refl refl refl refl refl
    (omega (arith, fits)) (omega arith) (omega arith) (omega arith) (omega arith) (omega arith) (omega arith) (omega arith))
    (omega (arith, fits))

two-allowed : (t : ℕ) (first second : List ℕ) → 1 ≤ t → t ≤ 20 → length first + length second ≤ 1048576
    → IsAllowed 1048576 (preamble_of (framed t (aligned first) (aligned second ∷ [])))
two-allowed t first second low high fits =
    allowed_frame 1048576 (framed t (aligned first) (aligned second ∷ [])) (record {
      tag_low = low;
      tag_high = high;
      count_low = omega arith;
      count_high = omega arith;
      each = All-cons IsSmall (aligned first) (aligned second ∷ []) (omega (arith, fits)) (All-cons IsSmall (aligned second) [] (omega (arith, fits)) (All-nil IsSmall));
    })
    (made_fields (aligned first ∷ aligned second ∷ []) (length first) (length second) 0 0 8 8 0 0 refl refl refl refl refl refl refl refl
    (omega (arith, fits)) (omega (arith, fits)) (omega arith) (omega arith) (omega arith) (omega arith) (omega arith) (omega arith))
    (omega (arith, fits))

-- what is read where all that opens is parts of what is said next
module _ (a : Ahead) (f : Frame) (n : ℕ) (read : secure_frame_at a ≡ Ok (Some (f, n))) where
  -- each content that opens at the front is the part of its number of these
  abbrev pub OpensAt : List (List ℕ) → Type 0
  OpensAt parts = (i : ℕ) (plain : List ℕ) → a.counter + i < 2 ^ 64 → SomeOf (λ (content : List ℕ). content ≡ nonce_at a.fixed (a.counter + i) ++ plain) (front_contents a) → IsAt parts i plain

  one-read : (t : ℕ) (bytes : List ℕ) (more : List (List ℕ)) → 1 ≤ t → t ≤ 20 → length bytes ≤ 1048576 → OpensAt (plains (framed t (aligned bytes) []) ++ more)
      → f ≡ framed t (aligned bytes) []
  one-read t bytes more low high fits opens = (front-read a t (aligned bytes) [] (omega arith) (one-allowed t bytes low high fits) more f n opens read).0

  two-read : (t : ℕ) (first second : List ℕ) (more : List (List ℕ)) → 1 ≤ t → t ≤ 20 → length first + length second ≤ 1048576
      → OpensAt (plains (framed t (aligned first) (aligned second ∷ [])) ++ more) → f ≡ framed t (aligned first) (aligned second ∷ [])
  two-read t first second more low high fits opens =
      (front-read a t (aligned first) (aligned second ∷ []) (omega arith) (two-allowed t first second low high fits) more f n opens read).0

  pub shaped-read : (g : Frame) (more : List (List ℕ)) → IsShaped g → total g ≤ 1048576 → OpensAt (plains g ++ more) → f ≡ g
  shaped-read _ more (OneSegment t bytes low high) fits opens = one-read t bytes more low high (omega (arith, fits)) opens
  shaped-read _ more (TwoSegments t first second low high) fits opens = two-read t first second more low high (omega (arith, fits)) opens

  -- where nothing opens, nothing is read
  pub none-read : OpensAt [] → ⊥
  none-read opens =
      let vacuous : (parts : List (List ℕ)) → OpensAt parts = λ parts i plain low some. absurd (opens i plain low some) in
      let one : f ≡ framed 1 (aligned []) [] = one-read 1 [] [] (omega arith) (omega arith) (omega arith) (vacuous _) in
      let two : f ≡ framed 2 (aligned []) [] = one-read 2 [] [] (omega arith) (omega arith) (omega arith) (vacuous _) in
      let tags : f.tag ≡ 1 = ap (λ (g : Frame). g.tag) one in
      let other : f.tag ≡ 2 = ap (λ (g : Frame). g.tag) two in
      omega (arith, tags, other)

-- ---- what is read next

-- the first part of a frame opens, or none does
abbrev Opens : Ahead → List (List ℕ) → Type 0
Opens a contents = (contents ≡ []) ⊎ ((plain : List ℕ) × (a.counter < 2 ^ 64) × SomeOf (λ (content : List ℕ). content ≡ nonce_at a.fixed a.counter ++ plain) contents)

first-opens : (a : Ahead) → Opens a (front_contents a)
unfolding front_contents contents_from
first-opens a = by_spent (nat_lt (2 ^ 64 - 1) (a.counter + 1)) refl
  where
    by_open : (o : Option (List ℕ)) → a.counter < 2 ^ 64 → Opens a (contents_from a o)
    by_open None low = inl refl
    by_open (Some plain) low = inr (plain, low, inl refl)

    by_spent : (spent : Bool) → nat_lt (2 ^ 64 - 1) (a.counter + 1) ≡ spent
        → Opens a (if spent then [] else contents_from a (opened a.key (nonce_at a.fixed a.counter) 80 (take 96 a.bytes)))
    by_spent true e = inl refl
    by_spent false e = let low : a.counter < 2 ^ 64 = grind (arith, nat_tests) in by_open (opened a.key (nonce_at a.fixed a.counter) 80 (take 96 a.bytes)) low

at-rest : (xs ys : List (List ℕ)) (i : ℕ) (x : List ℕ) → IsAt (xs ++ ys) (length xs + i) x → IsAt ys i x
at-rest [] ys i x h = let same : length {A = List ℕ} [] + i ≡ i = omega arith in subst (λ (k : ℕ). IsAt ys k x) same h
at-rest (z ∷ xs) ys i x h =
    let same : length (z ∷ xs) + i ≡ suc (length xs + i) = omega arith in
    at-rest xs ys i x (subst (λ (k : ℕ). IsAt (z ∷ (xs ++ ys)) k x) same h)

some-sealed : (P : List ℕ → Type 0) (contents : List (List ℕ)) (content : List ℕ) → SomeOf (λ (c : List ℕ). c ≡ content) contents → AllByRecursion P contents → P content
some-sealed P [] content some all = absurd some
some-sealed P (c ∷ cs) content (inl here) all = subst P here all.0
some-sealed P (c ∷ cs) content (inr later) all = some-sealed P cs content later all.1

module _ {W : Type 0} (frame_of : W → Frame) (shaped : (word : W) → IsShaped (frame_of word)) where
  -- the next one that was said, and all behind it
  pub record NextWord (f : Frame) (rest : List W) : Type 0 where
    pub word : W
    pub later : List W
    pub is : rest ≡ word ∷ later
    pub frame : f ≡ frame_of word

  module _ (test : List ℕ → Bool) (log : List Logged) (key : List ℕ) (words taken rest : List W) (w : IsLaterSeries test log key (parts_of frame_of words)) (front : words ≡ taken ++ rest)
      (a : Ahead) (is : IsEnd test a.fixed) (counter : a.counter ≡ 1 + length (parts_of frame_of taken))
      (sealed : AllByRecursion (λ (content : List ℕ). HasSealed log (record { key = key; kind = kind.Connection; content = content })) (front_contents a)) where
    split : parts_of frame_of words ≡ parts_of frame_of taken ++ parts_of frame_of rest
    split = ap (λ (l : List W). parts_of frame_of l) front ∙ parts-append frame_of taken rest

    -- what opens is a part of what is said behind that, or lies beyond
    opens-rest : (i : ℕ) (plain : List ℕ) → a.counter + i < 2 ^ 64 → SomeOf (λ (content : List ℕ). content ≡ nonce_at a.fixed (a.counter + i) ++ plain) (front_contents a)
        → IsAt (parts_of frame_of rest ++ w.beyond) i plain
    opens-rest i plain low some =
        let was = some-sealed (λ (content : List ℕ). HasSealed log (record { key = key; kind = kind.Connection; content = content })) (front_contents a)
        (nonce_at a.fixed (a.counter + i) ++ plain) some sealed in
        let above : 1 ≤ a.counter + i = omega (arith, counter) in
        let at = later-taken test log key (parts_of frame_of words) a.fixed is w (a.counter + i) plain above low was in
        let place : at.0 ≡ length (parts_of frame_of taken) + i = omega (arith, counter, at.1) in
        let whole : parts_of frame_of words ++ w.beyond ≡ parts_of frame_of taken ++ (parts_of frame_of rest ++ w.beyond) =
        ap (λ (l : List (List ℕ)). l ++ w.beyond) split ∙ append_assoc (parts_of frame_of taken) (parts_of frame_of rest) w.beyond in
        at-rest (parts_of frame_of taken) (parts_of frame_of rest ++ w.beyond) i plain
        (subst (λ (k : ℕ). IsAt (parts_of frame_of taken ++ (parts_of frame_of rest ++ w.beyond)) k plain) place (subst (λ (l : List (List ℕ)). IsAt l at.0 plain) whole at.2))

    -- where nothing more was said, nothing opens: nothing stands right behind what was said
    none-opens : rest ≡ [] → front_contents a ≡ []
    none-opens e = by_first (first-opens a)
      where
        by_first : Opens a (front_contents a) → front_contents a ≡ []
        by_first (inl none) = none
        by_first (inr (plain, low, some)) =
            let was = some-sealed (λ (content : List ℕ). HasSealed log (record { key = key; kind = kind.Connection; content = content })) (front_contents a)
            (nonce_at a.fixed a.counter ++ plain) some sealed in
            let above : 1 ≤ a.counter = omega (arith, counter) in
            let at = later-taken test log key (parts_of frame_of words) a.fixed is w a.counter plain above low was in
            let size : length (parts_of frame_of rest) ≡ 0 = ap (λ (l : List W). length (parts_of frame_of l)) e in
            let long : length (parts_of frame_of words) ≡ length (parts_of frame_of taken ++ parts_of frame_of rest) = ap (λ (l : List (List ℕ)). length l) split in
            let place : at.0 ≡ length (parts_of frame_of words) =
            omega (arith, counter, at.1, size, long, length-append (parts_of frame_of taken) (parts_of frame_of rest)) in
            absurd (at.3 place)

    -- so the frame that is read is the next one that was said
    pub next-word : (f : Frame) (n : ℕ) → AreFrames frame_of rest → secure_frame_at a ≡ Ok (Some (f, n)) → NextWord f rest
    next-word f n fit read = by_rest rest refl fit opens-rest
      where
        by_rest : (xs : List W) → rest ≡ xs → AreFrames frame_of xs → OpensAt a f n read (parts_of frame_of xs ++ w.beyond) → NextWord f xs
        by_rest [] e fit opens =
            absurd (none-read a f n read
            (λ i plain low some. absurd (subst (λ (l : List (List ℕ)). SomeOf (λ (content : List ℕ). content ≡ nonce_at a.fixed (a.counter + i) ++ plain) l) (none-opens e) some)))
        by_rest (x ∷ xs) e fit opens = record {
          word = x;
          later = xs;
          is = refl;
          frame = shaped-read a f n read (frame_of x) (parts_of frame_of xs ++ w.beyond) (shaped x) fit.0
              (λ i plain low some. subst (λ (l : List (List ℕ)). IsAt l i plain) (append_assoc (plains (frame_of x)) (parts_of frame_of xs) w.beyond) (opens i plain low some));
        }

  -- behind it one word more was taken
  pub taken-counter : (counter : ℕ) (taken : List W) (word : W) (f : Frame) → counter ≡ 1 + length (parts_of frame_of taken) → f ≡ frame_of word
      → counter + length (plains f) ≡ 1 + length (parts_of frame_of (taken ++ word ∷ []))
  taken-counter counter taken word f before same =
      let longer : length (parts_of frame_of (taken ++ word ∷ [])) ≡ length (parts_of frame_of taken ++ plains (frame_of word)) =
      ap (λ (l : List (List ℕ)). length l) (parts-one frame_of taken word) in
      let size : length (plains f) ≡ length (plains (frame_of word)) = ap (λ (g : Frame). length (plains g)) same in
      omega (arith, before, longer, size, length-append (parts_of frame_of taken) (plains (frame_of word)))
