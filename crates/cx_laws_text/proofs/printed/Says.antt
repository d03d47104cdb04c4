-- The text of entries that lines can tell says what is told of them.
use Rattle.std.proofs.Common.{◌≡◌, ℕ, ◌+◌, ◌<◌, ◌^◌, true, List, [], ◌∷◌, ◌++◌, map, length, refl, sym, ap, subst, ◌∙◌, ◌==◌, arith, eq-eqb, length-append, inl}
use Rattle.cx_journal.specs.JournalText.{journal_text, text_behind}
use Rattle.cx_journal.specs.declared.entries.Entry.{Entry}
use Rattle.cx_journal.specs.declared.entries.Entry.TheVariants as entry
use Rattle.cx_words.specs.Cutting.{lines_of, words_of}
use Rattle.cx_audit_text.specs.words.Choices.{head_word}
use Rattle.cx_audit_text.specs.words.Items.{is_whole, item_word}
use Rattle.cx_audit_text.specs.declared.words_places.CountedAbove.{CountedAbove}
use Rattle.cx_audit_text.specs.declared.words_places.JournalPlace.{JournalPlace}
use Rattle.cx_audit_text.specs.lines.Lines.{Spells, TellsAll, entry_head, entry_items}
use Rattle.cx_audit_text.specs.lines.Reading.{IsJournal, Say}
use Rattle.cx_audit_text.specs.declared.entries.JournalLine.TheVariants as line
use Rattle.cx_laws_text.specs.told.Told.{entry_told, journal_told, told_behind}
use Rattle.cx_laws_text.specs.printed.Tellable.{AreBounded, AreOfTypes}
use Rattle.cx_laws_text.proofs.printed.Counted.{counted-more, counted_of, counts-of}
use Rattle.cx_laws_text.proofs.printed.Good.{AreItems, Counts, all-words, as-many, good-items, place_of, spell-items}
use Rattle.cx_laws_text.proofs.printed.LineTexts.{line-text}
use Rattle.cx_laws_text.proofs.printed.Places.{entry-places, told-items}
use Rattle.cx_laws_text.proofs.printed.ChoicesPlain.{head-plain}
use Rattle.cx_laws_text.proofs.printed.Tellables.{AreTellable, tellable}
use Rattle.cx_laws_text.proofs.printed.Spaced.{lines-back, spaced, words-back}

-- no line tells the cookie of an answer
tells : (earlier : List Entry) (e : Entry) → TellsAll (line.Entry (entry_told earlier e))
tells earlier (entry.Saved x) = tt
tells earlier (entry.Issued x) = tt
tells earlier (entry.Fetched x) = tt
tells earlier (entry.Looked x) = tt
tells earlier (entry.Admitted x) = tt
tells earlier (entry.Resumed x) = tt
tells earlier (entry.Sent x) = tt
tells earlier (entry.Handled x) = tt
tells earlier (entry.Answered x) = refl
tells earlier (entry.Refused x) = tt
tells earlier (entry.Ended x) = tt
tells earlier (entry.Restarted x) = tt
tells earlier (entry.Broken x) = tt
tells earlier (entry.Leaked x) = tt

spelled : (counted : CountedAbove) (e : Entry) → Counts counted → AreItems counted (entry_items e) → TellsAll (line.Entry e) → Spells counted (line.Entry e) (head_word (entry_head e) ∷ map item_word (entry_items e))
spelled counted e few items told =
    let many : (length (map place_of (entry_items e)) == length (map item_word (entry_items e))) ≡ true =
    eq-eqb (length (map place_of (entry_items e))) (length (map item_word (entry_items e))) (as-many (entry_items e)) in
    let whole : is_whole counted (map place_of (entry_items e)) (map item_word (entry_items e)) ≡ true = rw (many, good-items counted (entry_items e) few items) refl in
    (refl, spell-items counted (entry_items e) items, told, ap (λ (ps : List JournalPlace). is_whole counted ps (map item_word (entry_items e))) (entry-places e) ∙ whole)

says-none : (counted : CountedAbove) → Say counted (lines_of []) []
unfolding lines_of
says-none counted = tt

says : (earlier es : List Entry) → length earlier + length es < 2 ^ 64 → AreTellable es → Say (counted_of earlier) (lines_of (text_behind earlier es)) (map (λ (e : Entry). line.Entry e) (told_behind earlier es))
says earlier [] low all = says-none (counted_of earlier)
says earlier (e ∷ es) low all =
    let told : Entry = entry_told earlier e in
    let words : List (List ℕ) = map item_word (entry_items told) in
    let rest : List ℕ = text_behind (earlier ++ e ∷ []) es in
    let few : Counts (counted_of earlier) = counts-of earlier (omega (arith, low)) in
    let items : AreItems (counted_of earlier) (entry_items told) = told-items earlier e all.0 in
    let clean = all-words (counted_of earlier) (entry_items told) few items in
    let cut : lines_of (text_behind earlier (e ∷ es)) ≡ (head_word (entry_head told) ++ spaced words []) ∷ lines_of rest =
    ap lines_of (line-text earlier e rest) ∙ lines-back (head_word (entry_head told)) words rest (inl (head-plain (entry_head told))) clean in
    let back : words_of true (head_word (entry_head told) ++ spaced words []) ≡ head_word (entry_head told) ∷ words = words-back (head_word (entry_head told)) words (inl (head-plain (entry_head told))) clean in
    let one : Spells (counted_of earlier) (line.Entry told) (words_of true (head_word (entry_head told) ++ spaced words [])) =
    subst (λ (ws : List (List ℕ)). Spells (counted_of earlier) (line.Entry told) ws) (sym back) (spelled (counted_of earlier) told few items (tells earlier e)) in
    let more : Say (counted_of (earlier ++ e ∷ [])) (lines_of rest) (map (λ (x : Entry). line.Entry x) (told_behind (earlier ++ e ∷ []) es)) =
    says (earlier ++ e ∷ []) es (omega (arith, low, length-append earlier (e ∷ []))) all.1 in
    subst (λ (ls : List (List ℕ)). Say (counted_of earlier) ls (map (λ (x : Entry). line.Entry x) (told_behind earlier (e ∷ es)))) (sym cut)
    (one, subst (λ (c : CountedAbove). Say c (lines_of rest) (map (λ (x : Entry). line.Entry x) (told_behind (earlier ++ e ∷ []) es))) (sym (counted-more earlier e)) more)

pub journal-says : (entries : List Entry) → length entries < 2 ^ 64 → AreOfTypes entries → AreBounded entries → IsJournal (journal_text entries) (map (λ (e : Entry). line.Entry e) (journal_told entries))
journal-says entries low types bounds = says [] entries (omega (arith, low)) (tellable entries types bounds)
