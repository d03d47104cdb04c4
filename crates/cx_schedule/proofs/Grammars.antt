-- What the lines of a file say, whatever its lines are: they say one thing, and are refused for one reason.
use Rattle.std.proofs.Common.{◌≡◌, ℕ, ◌+◌, ◌≤◌, ◌⊎◌, true, false, List, [], ◌∷◌, ◌++◌, length, Option, Some, None, refl, sym, ap, ◌∙◌, inl, inr, arith, length-append}
use Rattle.cx_words.proofs.Counted.{no_lines}
use Rattle.cx_words.specs.Cutting.{is_skipped, lines_of, IsShort}
use Rattle.cx_lines.specs.declared.sight.BadWord.{BadWord}
use Rattle.cx_schedule.specs.declared.refusals.ScheduleRefusal.{ScheduleRefusal}
use Rattle.cx_schedule.specs.declared.refusals.ScheduleRefusal.TheVariants.{TooLong, BadLine, OutOfMemory}
use Rattle.cx_schedule.specs.Files.{IsRefusalAt}
use Rattle.cx_schedule.specs.Grammars.{line_words, AddsLine, IsFileCause, IsFileReason, IsFirstFaulty, IsFirstLine, SaysLines, SpellsNothing}

-- what is asked of the lines: what is spelled has no fault, words spell one line at most, and words without a fault spell one
pub record IsGrammar {L E : Type 0} (spells : List E → L → List (List ℕ) → Type 0) (bad_of : List E → List (List ℕ) → Option BadWord) : Type 0 where
  pub clean : (earlier : List E) (x : L) (words : List (List ℕ)) → spells earlier x words → bad_of earlier words ≡ None
  pub unique : (earlier : List E) (x y : L) (words : List (List ℕ)) → spells earlier x words → spells earlier y words → x ≡ y
  pub seen : (earlier : List E) (words : List (List ℕ)) → bad_of earlier words ≡ None → (x : L) × spells earlier x words

module _ {L E : Type 0} (spells : List E → L → List (List ℕ) → Type 0) (entry : ℕ → L → E) (bad_of : List E → List (List ℕ) → Option BadWord) (g : IsGrammar spells bad_of) where
  -- words with a fault spell no line
  pub fault_spells_none : (earlier : List E) (words : List (List ℕ)) (why : BadWord) → bad_of earlier words ≡ Some why → SpellsNothing spells entry earlier words
  fault_spells_none earlier words why bad = λ x spelled. let e : None ≡ Some why = sym (g.clean earlier x words spelled) ∙ bad in absurd (cc)

  -- a line that adds something spells one
  pub added_spells : (number : ℕ) (earlier now : List E) (line : List ℕ) → AddsLine spells entry number earlier line now → is_skipped line ≡ false → SpellsNothing spells entry earlier (line_words line) → ⊥
  added_spells number earlier now line (inl skipped) kept none = absurd (let e : true ≡ false = sym skipped.0 ∙ kept in cc)
  added_spells number earlier now line (inr (kept', x, spelled, is)) kept none = none x spelled

  -- a line adds one thing
  pub added_once : (number : ℕ) (earlier now other : List E) (line : List ℕ) → AddsLine spells entry number earlier line now → AddsLine spells entry number earlier line other → now ≡ other
  added_once number earlier now other line (inl p) (inl q) = p.1 ∙ sym q.1
  added_once number earlier now other line (inl p) (inr q) = absurd (let e : true ≡ false = sym p.0 ∙ q.0 in cc)
  added_once number earlier now other line (inr p) (inl q) = absurd (let e : true ≡ false = sym q.0 ∙ p.0 in cc)
  added_once number earlier now other line (inr (kp, x, sx, p)) (inr (kq, y, sy, q)) =
      let e : x ≡ y = g.unique earlier x y (line_words line) sx sy in
      p ∙ ap (λ l. earlier ++ entry number l ∷ []) e ∙ sym q

  -- where all lines are said, none is outside of the grammar
  pub none_outside : (number : ℕ) (earlier said : List E) (lines : List (List ℕ)) (n : ℕ) → SaysLines spells entry number earlier lines said → IsFirstLine spells entry (SpellsNothing spells entry) number earlier lines n → ⊥
  none_outside number earlier said [] n all outside = outside
  none_outside number earlier said (line ∷ lines) n (now, adds, all) (inl here) = added_spells number earlier now line adds here.1 here.2
  none_outside number earlier said (line ∷ lines) n (now, adds, all) (inr (other, adds', outside)) =
      let e : other ≡ now = added_once number earlier other now line adds' adds in
      none_outside (number + 1) now said lines n all (rw e at outside)

  -- the first bad line is the first outside of the grammar
  bad_is_outside : (number : ℕ) (earlier : List E) (lines : List (List ℕ)) (n : ℕ) (why : BadWord) → IsFirstFaulty spells entry bad_of number earlier lines n why → IsFirstLine spells entry (SpellsNothing spells entry) number earlier lines n
  bad_is_outside number earlier [] n why bad = bad
  bad_is_outside number earlier (line ∷ lines) n why (inl here) = inl (here.0, here.1, here.2.0)
  bad_is_outside number earlier (line ∷ lines) n why (inr (now, adds, bad)) = inr (now, adds, bad_is_outside (number + 1) now lines n why bad)

  none_bad : (number : ℕ) (earlier said : List E) (lines : List (List ℕ)) (n : ℕ) (why : BadWord) → SaysLines spells entry number earlier lines said → IsFirstFaulty spells entry bad_of number earlier lines n why → ⊥
  none_bad number earlier said lines n why all bad = none_outside number earlier said lines n all (bad_is_outside number earlier lines n why bad)

  -- lines say one thing
  pub said_once : (number : ℕ) (earlier said other : List E) (lines : List (List ℕ)) → SaysLines spells entry number earlier lines said → SaysLines spells entry number earlier lines other → said ≡ other
  said_once number earlier said other [] p q = p ∙ sym q
  said_once number earlier said other (line ∷ lines) (now, adds, all) (then, adds', all') =
      let e : then ≡ now = added_once number earlier then now line adds' adds in
      said_once (number + 1) now said other lines all (rw e at all')

  -- where the bytes say something, only want of memory is an answer besides it
  pub only_memory : (bytes : List ℕ) (said : List E) (refusal : ScheduleRefusal) → IsShort bytes → SaysLines spells entry 1 [] (lines_of bytes) said → IsFileCause spells entry bad_of bytes refusal → refusal ≡ OutOfMemory
  only_memory bytes said TooLong short all cause = absurd (cause short)
  only_memory bytes said (BadLine n why) short all cause = absurd (none_bad 1 [] said (lines_of bytes) n why all cause.1)
  only_memory bytes said OutOfMemory short all cause = refl

  -- there are at most as many entries as lines
  few_lines : (number : ℕ) (earlier said : List E) (lines : List (List ℕ)) → SaysLines spells entry number earlier lines said → length said ≤ length earlier + length lines
  few_lines number earlier said [] all = rw all (omega arith)
  few_lines number earlier said (line ∷ lines) (now, adds, all) =
      let more = few_lines (number + 1) now said lines all in
      let one = added_length number earlier now line adds in
      omega arith
    where
      added_length : (number : ℕ) (earlier now : List E) (line : List ℕ) → AddsLine spells entry number earlier line now → length now ≤ length earlier + 1
      added_length number earlier now line (inl p) = rw p.1 (omega arith)
      added_length number earlier now line (inr (kept, x, spelled, is)) = rw (is, length-append) (omega arith)

  pub few_in_all : (bytes : List ℕ) (said : List E) → IsShort bytes → SaysLines spells entry 1 [] (lines_of bytes) said → length said ≤ 20000
  few_in_all bytes said short all =
      let few = few_lines 1 [] said (lines_of bytes) all in
      omega (arith, few, short.1)

  -- how the lines so far stand to all: the next one has this number
  pub record Reads (all : List (List ℕ)) (earlier : List E) (number : ℕ) (rest : List (List ℕ)) : Type 0 where
    pub said : (s : List E) → SaysLines spells entry number earlier rest s → SaysLines spells entry 1 [] all s
    pub bad : (n : ℕ) (why : BadWord) → IsFirstFaulty spells entry bad_of number earlier rest n why → IsFirstFaulty spells entry bad_of 1 [] all n why
    pub counted : number + length rest ≡ length all + 1

  pub reads_more : (all : List (List ℕ)) (earlier now : List E) (number : ℕ) (rest : List (List ℕ)) (line : List ℕ) (after : List (List ℕ)) → Reads all earlier number rest → rest ≡ line ∷ after → AddsLine spells entry number earlier line now → Reads all now (number + 1) after
  reads_more all earlier now number rest line after r cut adds = record {
    said = λ s p. r.said s (rw cut (now, adds, p));
    bad = λ n why p. r.bad n why (rw cut (inr (now, adds, p)));
    counted = counts r.counted (ap length cut);
  }
    where
      counts : number + length rest ≡ length all + 1 → length rest ≡ length (line ∷ after) → number + 1 + length after ≡ length all + 1
      counts e f = omega arith

  -- the line that is refused is the first outside of the grammar
  pub bad_here : (all : List (List ℕ)) (earlier : List E) (number : ℕ) (rest : List (List ℕ)) (line : List ℕ) (after : List (List ℕ)) (why : BadWord) → Reads all earlier number rest → rest ≡ line ∷ after → is_skipped line ≡ false → bad_of earlier (line_words line) ≡ Some why → IsFirstFaulty spells entry bad_of 1 [] all number why
  bad_here all earlier number rest line after why r cut kept fault =
      r.bad number why (rw cut (inl (refl, kept, (fault_spells_none earlier (line_words line) why fault, fault))))

  -- at the end all is said
  pub read_all : (bytes left : List ℕ) (earlier : List E) (number : ℕ) → Reads (lines_of bytes) earlier number (lines_of left) → left ≡ [] → SaysLines spells entry 1 [] (lines_of bytes) earlier
  read_all bytes left earlier number r none = r.said earlier (rw (none, no_lines) refl)

  -- one line is the first bad one, with one fault
  first_once : (number : ℕ) (earlier : List E) (lines : List (List ℕ)) (n m : ℕ) (why other : BadWord) → IsFirstFaulty spells entry bad_of number earlier lines n why → IsFirstFaulty spells entry bad_of number earlier lines m other → (n ≡ m) × (why ≡ other)
  first_once number earlier [] n m why other bad bad' = absurd bad
  first_once number earlier (line ∷ lines) n m why other (inl p) (inl q) =
      (p.0 ∙ sym q.0, (let e : Some why ≡ Some other = sym p.2.1 ∙ q.2.1 in cc))
  first_once number earlier (line ∷ lines) n m why other (inl p) (inr (now, adds, bad)) = absurd (added_spells number earlier now line adds p.1 p.2.0)
  first_once number earlier (line ∷ lines) n m why other (inr (now, adds, bad)) (inl q) = absurd (added_spells number earlier now line adds q.1 q.2.0)
  first_once number earlier (line ∷ lines) n m why other (inr (now, adds, bad)) (inr (now', adds', bad')) =
      let e : now' ≡ now = added_once number earlier now' now line adds' adds in
      first_once (number + 1) now lines n m why other bad (rw e at bad')

  -- words that spell no line have a fault
  faulty : (earlier : List E) (words : List (List ℕ)) (found : Option BadWord) → bad_of earlier words ≡ found → SpellsNothing spells entry earlier words → (why : BadWord) × (bad_of earlier words ≡ Some why)
  faulty earlier words None is none = let line = g.seen earlier words is in absurd (none line.0 line.1)
  faulty earlier words (Some why) is none = (why, is)

  -- the first line outside of the grammar has a first fault
  outside_is_bad : (number : ℕ) (earlier : List E) (lines : List (List ℕ)) (n : ℕ) → IsFirstLine spells entry (SpellsNothing spells entry) number earlier lines n → (why : BadWord) × IsFirstFaulty spells entry bad_of number earlier lines n why
  outside_is_bad number earlier [] n outside = absurd outside
  outside_is_bad number earlier (line ∷ lines) n (inl here) =
      let found = faulty earlier (line_words line) (bad_of earlier (line_words line)) refl here.2 in
      (found.0, inl (here.0, here.1, (here.2, found.1)))
  outside_is_bad number earlier (line ∷ lines) n (inr (now, adds, outside)) =
      let found = outside_is_bad (number + 1) now lines n outside in
      (found.0, inr (now, adds, found.1))

  -- what is refused for a cause is refused at the first line outside of the grammar, where there is one within the limits
  pub refused_at : (bytes : List ℕ) (got : ScheduleRefusal) (n : ℕ) → IsFileCause spells entry bad_of bytes got → IsShort bytes → IsFirstLine spells entry (SpellsNothing spells entry) 1 [] (lines_of bytes) n → IsRefusalAt n got
  refused_at bytes TooLong n cause short outside = absurd (cause short)
  refused_at bytes (BadLine m why) n cause short outside =
      let bad = outside_is_bad 1 [] (lines_of bytes) n outside in
      (first_once 1 [] (lines_of bytes) m n why bad.0 cause.1 bad.1).0
  refused_at bytes OutOfMemory n cause short outside = tt

  -- what says something isn't refused
  pub never_both : (bytes : List ℕ) (said : List E) (why : ScheduleRefusal) → IsShort bytes → SaysLines spells entry 1 [] (lines_of bytes) said → IsFileReason spells entry bad_of bytes why → ⊥
  never_both bytes said TooLong short all reason = reason short
  never_both bytes said (BadLine n why) short all reason = none_bad 1 [] said (lines_of bytes) n why all reason.1
  never_both bytes said OutOfMemory short all reason = reason

  -- what is refused for a cause is refused for the one reason, or memory is wanting
  pub one_reason : (bytes : List ℕ) (got why : ScheduleRefusal) → IsFileCause spells entry bad_of bytes got → IsFileReason spells entry bad_of bytes why → (got ≡ OutOfMemory) ⊎ (got ≡ why)
  one_reason bytes OutOfMemory why p q = inl refl
  one_reason bytes got OutOfMemory p q = absurd q
  one_reason bytes TooLong TooLong p q = inr refl
  one_reason bytes TooLong (BadLine n why) p q = absurd (p q.0)
  one_reason bytes (BadLine n why) TooLong p q = absurd (q p.0)
  one_reason bytes (BadLine n why) (BadLine m other) p q =
      let same = first_once 1 [] (lines_of bytes) n m why other p.1 q.1 in
      let a : n ≡ m = same.0 in
      let b : why ≡ other = same.1 in
      inr cc
