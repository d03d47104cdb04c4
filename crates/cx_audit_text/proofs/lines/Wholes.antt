-- Words that are good at all places, and lines one more.
use Rattle.std.proofs.Common.{◌≡◌, ℕ, ◌+◌, ◌≤◌, ◌<◌, Bool, true, false, cond, List, [], ◌∷◌, ◌++◌, length, Some, None, inr, refl, sym, ◌∙◌, ◌&&◌, arith, append-nil, append_assoc, eq-eqb}
use Rattle.cx_journal.specs.declared.entries.Entry.TheVariants as entry
use Rattle.cx_words.specs.Cutting.{lines_of, words_of}
use Rattle.cx_audit_text.specs.words.Items.{are_good, is_good, is_whole}
use Rattle.cx_audit_text.specs.words.Wrong.{wrong_from}
use Rattle.cx_audit_text.specs.declared.judge.WrongWord.TheVariants as wrong
use Rattle.cx_audit_text.specs.declared.words_places.CountedAbove.{CountedAbove}
use Rattle.cx_audit_text.specs.declared.words_places.JournalPlace.{JournalPlace}
use Rattle.cx_audit_text.specs.lines.Lines.{Spells}
use Rattle.cx_audit_text.specs.lines.Reading.{IsFirstBad, Say, counted_behind, nothing}
use Rattle.cx_audit_text.specs.declared.entries.JournalLine.{JournalLine}
use Rattle.cx_audit_text.specs.declared.entries.JournalLine.TheVariants as line
use Rattle.cx_audit_text.specs.declared.refusals.WrongLine.{WrongLine}

-- where what stands in front is not all good, neither is the whole
pub front_bad : (a b c d e r : Bool) → (a && (b && (c && (d && (e && true))))) ≡ false → (a && (b && (c && (d && (e && r))))) ≡ false
front_bad false b c d e r h = refl
front_bad true false c d e r h = refl
front_bad true true false d e r h = refl
front_bad true true true false e r h = refl
front_bad true true true true false r h = refl
front_bad true true true true true r h = absurd (let p : true ≡ false = h in cc)

none_step : (counted : CountedAbove) (n : ℕ) (p : JournalPlace) (ps : List JournalPlace) (w : List ℕ) (ws : List (List ℕ)) (b : Bool) → is_good counted p w ≡ b
    → (wrong_from counted (n + 1) ps ws ≡ None → (length ps ≡ length ws) × (are_good counted ps ws ≡ true))
    → cond b (wrong_from counted (n + 1) ps ws) (Some (wrong.Unfit n p)) ≡ None
    → (length (p ∷ ps) ≡ length (w ∷ ws)) × (are_good counted (p ∷ ps) (w ∷ ws) ≡ true)
none_step counted n p ps w ws true good more e =
    let rest = more e in
    ((let same : length (p ∷ ps) ≡ length (w ∷ ws) = omega (arith, rest.0) in same), rw (good, rest.1) refl)
none_step counted n p ps w ws false good more e = absurd (let x : Some (wrong.Unfit n p) ≡ None = e in cc)

-- words of which none is wrong are good at all places
none_wrong : (counted : CountedAbove) (n : ℕ) (ps : List JournalPlace) (ws : List (List ℕ)) → wrong_from counted n ps ws ≡ None → (length ps ≡ length ws) × (are_good counted ps ws ≡ true)
none_wrong counted n [] [] e = (refl, refl)
none_wrong counted n [] (w ∷ ws) e = absurd (let x : Some (wrong.Extra n) ≡ None = e in cc)
none_wrong counted n (p ∷ ps) [] e = absurd (let x : Some (wrong.Missing n p) ≡ None = e in cc)
none_wrong counted n (p ∷ ps) (w ∷ ws) e = none_step counted n p ps w ws (is_good counted p w) refl (none_wrong counted (n + 1) ps ws) e

pub whole_or_wrong : {P : Type 0} (counted : CountedAbove) (n : ℕ) (ps : List JournalPlace) (ws : List (List ℕ)) → is_whole counted ps ws ≡ false → wrong_from counted n ps ws ≡ None → P
whole_or_wrong counted n ps ws bad e =
    let none = none_wrong counted n ps ws e in
    let whole : is_whole counted ps ws ≡ true = rw (eq-eqb (length ps) (length ws) none.0, none.1) refl in
    absurd (let x : true ≡ false = sym whole ∙ bad in cc)

-- ---- lines

-- what was read so far, of all lines
pub record Reads (bytes : List ℕ) (done : List JournalLine) (counted : CountedAbove) (number : ℕ) (rest : List ℕ) : Type 0 where
  pub said : (tail : List JournalLine) → Say counted (lines_of rest) tail → Say nothing (lines_of bytes) (done ++ tail)
  pub bad : (n : ℕ) (bad : WrongLine) → IsFirstBad counted (lines_of rest) n bad → IsFirstBad nothing (lines_of bytes) (number + n) bad
  pub few : number + length rest ≤ length bytes
  pub issued : counted.issued ≤ number

issued_more : (counted : CountedAbove) (s : JournalLine) → (counted_behind counted s).issued ≤ counted.issued + 1
issued_more counted (line.Entry (entry.Issued t)) = omega arith
issued_more counted (line.Entry e) = omega arith
issued_more counted (line.Administered a) = omega arith

-- one line more
pub reads_more : (bytes : List ℕ) (old said : List JournalLine) (counted : CountedAbove) (number : ℕ) (rest first after : List ℕ) (s : JournalLine) → Reads bytes old counted number rest
    → lines_of rest ≡ first ∷ lines_of after → length after < length rest → Spells counted s (words_of true first) → said ≡ old ++ s ∷ []
    → Reads bytes said (counted_behind counted s) (number + 1) after
reads_more bytes old said counted number rest first after s reads cut shorter spells is = record {
  said = λ tail say. rw (is, append_assoc old (s ∷ []) tail) (reads.said (s ∷ tail) (rw cut (spells, say)));
  bad = λ n bad found.
      let same : number + 1 + n ≡ number + (n + 1) = omega arith in
      rw same (reads.bad (n + 1) bad (rw cut (inr (s, n, refl, spells, found))));
  few = omega (arith, shorter, reads.few);
  issued = let low = issued_more counted s in omega (arith, low, reads.issued);
}

ends : (counted : CountedAbove) → Say counted (lines_of []) []
unfolding lines_of
ends counted = tt

-- no line is left
pub all_read : (bytes : List ℕ) (said : List JournalLine) (counted : CountedAbove) (number : ℕ) (rest : List ℕ) → Reads bytes said counted number rest → rest ≡ [] → Say nothing (lines_of bytes) said
all_read bytes said counted number rest reads none =
    let end : Say counted (lines_of rest) [] = rw none (ends counted) in
    rw (← append-nil said) (reads.said [] end)
