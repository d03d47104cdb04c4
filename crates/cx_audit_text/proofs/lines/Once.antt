-- A line says something or nothing, and what it says counts once: so a text is a journal, or has one first bad line.
use Rattle.std.proofs.Common.{◌≡◌, ℕ, ◌+◌, ◌^◌, ◌<◌, ◌≤◌, Bool, true, false, cond, List, [], ◌∷◌, length, Option, Some, None, codes, inl, inr, refl, sym, ap, subst, ◌∙◌, ◌==◌, ◌&&◌, arith}
use Rattle.std.specs.Fmt.{decimal}
use Rattle.std.proofs.lemmas.Fmt.{decimal_injective}
use Rattle.cx_base.specs.Joined.{◌<>◌}
use Rattle.cx_journal.specs.declared.entries.Admitted.{Admitted}
use Rattle.cx_journal.specs.declared.entries.Entry.TheVariants as entry
use Rattle.cx_words.specs.Cutting.{IsShort, is_line_end, lines_of, onto_first, words_of}
use Rattle.cx_audit_text.proofs.words.Chosen.{head_of-word}
use Rattle.cx_audit_text.specs.words.Choices.{head_of, head_word}
use Rattle.cx_audit_text.specs.words.Items.{JournalItem, CapsOf, CookieOf, EntityOf, NumberOf, OutcomeOf, ReadingOf, SpellsItems, are_good, is_good}
use Rattle.cx_audit_text.specs.words.Wrong.{wrong_from}
use Rattle.cx_audit_text.specs.declared.choices.JournalHead.{JournalHead}
use Rattle.cx_audit_text.specs.declared.choices.JournalHead.TheVariants as head
use Rattle.cx_audit_text.specs.declared.judge.WrongWord.TheVariants as wrong
use Rattle.cx_audit_text.specs.declared.words_places.CountedAbove.{CountedAbove}
use Rattle.cx_audit_text.specs.declared.words_places.JournalPlace.{JournalPlace}
use Rattle.cx_audit_text.specs.lines.Lines.{Spells, line_head, line_items, operation_items, places, session_items}
use Rattle.cx_audit_text.specs.lines.Reading.{IsFirstBad, IsJournal, IsJournalCause, IsLineCause, IsRefusedAt, Say, counted_behind, described, nothing, with_cookie, wrong_of, wrong_with}
use Rattle.cx_audit_text.specs.declared.entries.JournalLine.{JournalLine}
use Rattle.cx_audit_text.specs.declared.entries.JournalLine.TheVariants as line
use Rattle.cx_audit_text.specs.declared.refusals.JournalRefusal.{JournalRefusal}
use Rattle.cx_audit_text.specs.declared.refusals.JournalRefusal.TheVariants as refusal
use Rattle.cx_audit_text.specs.declared.refusals.WrongLine.{WrongLine}
use Rattle.cx_audit_text.specs.declared.refusals.LineRefusal.TheVariants as line_refusal

-- ---- words that spell a line have no wrong one

right_step : (counted : CountedAbove) (n : ℕ) (p : JournalPlace) (ps : List JournalPlace) (ws : List (List ℕ)) (b : Bool) → (b && are_good counted ps ws) ≡ true
    → (are_good counted ps ws ≡ true → wrong_from counted (n + 1) ps ws ≡ None) → cond b (wrong_from counted (n + 1) ps ws) (Some (wrong.Unfit n p)) ≡ None
right_step counted n p ps ws true good more = more good
right_step counted n p ps ws false good more = absurd (let x : false ≡ true = good in cc)

right_from : (counted : CountedAbove) (n : ℕ) (ps : List JournalPlace) (ws : List (List ℕ)) → are_good counted ps ws ≡ true → wrong_from counted n ps ws ≡ None
right_from counted n [] [] good = refl
right_from counted n [] (w ∷ ws) good = absurd (let x : false ≡ true = good in cc)
right_from counted n (p ∷ ps) [] good = absurd (let x : false ≡ true = good in cc)
right_from counted n (p ∷ ps) (w ∷ ws) good = right_step counted n p ps ws (is_good counted p w) good (right_from counted (n + 1) ps ws)

both : (a b : Bool) → (a && b) ≡ true → b ≡ true
both true b e = e
both false b e = absurd (let x : false ≡ true = e in cc)

head_is : (said : JournalLine) (word : List ℕ) → word ≡ head_word (line_head said) → head_of word ≡ Some (line_head said)
head_is said word is = ap head_of is ∙ head_of-word (line_head said)

none_wrong : (counted : CountedAbove) (said : JournalLine) (words : List (List ℕ)) → Spells counted said words → wrong_of counted words ≡ None
none_wrong counted said [] p = absurd p
none_wrong counted said (w ∷ ws) p =
    ap (wrong_with counted ws) (head_is said w p.0)
    ∙ right_from counted 2 (places (line_head said) ws) ws (both (length (places (line_head said) ws) == length ws) (are_good counted (places (line_head said) ws) ws) p.3)

not_both : (counted : CountedAbove) (said : JournalLine) (words : List (List ℕ)) (bad : WrongLine) → Spells counted said words → IsLineCause counted words (line_refusal.Wrong bad) → ⊥
not_both counted said words bad spells cause = let x : Some bad.wrong ≡ None = sym cause.0 ∙ none_wrong counted said words spells in cc

-- ---- what words spell counts once

-- the cookie of a line
abbrev cookie_said : JournalLine → Option ℕ
cookie_said (line.Entry (entry.Admitted a)) = Some a.cookie
cookie_said (line.Entry (entry.Resumed a)) = Some a.cookie
cookie_said (line.Entry (entry.Sent s)) = Some s.cookie
cookie_said (line.Entry (entry.Handled h)) = Some h.cookie
cookie_said _ = None

abbrev third_word : List (List ℕ) → Option (List ℕ)
third_word (a ∷ b ∷ w ∷ rest) = Some w
third_word _ = None

abbrev fourth_word : List (List ℕ) → Option (List ℕ)
fourth_word (a ∷ b ∷ c ∷ w ∷ rest) = Some w
fourth_word _ = None

-- where it stands
abbrev cookie_word : JournalHead → List (List ℕ) → Option (List ℕ)
cookie_word head.Admitted ws = fourth_word ws
cookie_word head.Resumed ws = fourth_word ws
cookie_word head.Sent ws = third_word ws
cookie_word head.Handled ws = fourth_word ws
cookie_word _ ws = None

abbrev IsCookieAt : CountedAbove → Option ℕ → Option (List ℕ) → Type 0
IsCookieAt counted None word = word ≡ None
IsCookieAt counted (Some k) word = (k ≤ counted.cookies + 1) × (word ≡ Some (codes "c" <> decimal k))

third : (counted : CountedAbove) (a b : JournalItem) (k : ℕ) (items : List JournalItem) (ws : List (List ℕ)) → SpellsItems counted (a ∷ b ∷ CookieOf k ∷ items) ws → IsCookieAt counted (Some k) (third_word ws)
third counted a b k items [] p = absurd p
third counted a b k items (u ∷ []) p = absurd p.1
third counted a b k items (u ∷ v ∷ []) p = absurd p.1.1
third counted a b k items (u ∷ v ∷ w ∷ ws) p = (p.1.1.0.0.1, ap Some p.1.1.0.1)

fourth : (counted : CountedAbove) (a b c : JournalItem) (k : ℕ) (items : List JournalItem) (ws : List (List ℕ)) → SpellsItems counted (a ∷ b ∷ c ∷ CookieOf k ∷ items) ws
    → IsCookieAt counted (Some k) (fourth_word ws)
fourth counted a b c k items [] p = absurd p
fourth counted a b c k items (u ∷ []) p = absurd p.1
fourth counted a b c k items (u ∷ v ∷ []) p = absurd p.1.1
fourth counted a b c k items (u ∷ v ∷ w ∷ []) p = absurd p.1.1.1
fourth counted a b c k items (u ∷ v ∷ w ∷ x ∷ ws) p = (p.1.1.1.0.0.1, ap Some p.1.1.1.0.1)

session_cookie : (counted : CountedAbove) (a : Admitted) (ws : List (List ℕ)) → SpellsItems counted (session_items a) ws → IsCookieAt counted (Some a.cookie) (fourth_word ws)
session_cookie counted a ws p =
    fourth counted (EntityOf a.daemon) (NumberOf a.session) (NumberOf a.epoch) a.cookie (EntityOf a.entity ∷ NumberOf a.gid ∷ ReadingOf a.at ∷ CapsOf a.caps ∷ []) ws p

cookie_at : (counted : CountedAbove) (said : JournalLine) (ws : List (List ℕ)) → SpellsItems counted (line_items said) ws → IsCookieAt counted (cookie_said said) (cookie_word (line_head said) ws)
cookie_at counted (line.Entry (entry.Admitted a)) ws p = session_cookie counted a ws p
cookie_at counted (line.Entry (entry.Resumed a)) ws p = session_cookie counted a ws p
cookie_at counted (line.Entry (entry.Sent s)) ws p =
    third counted (EntityOf s.client) (EntityOf s.daemon) s.cookie (NumberOf s.seq ∷ operation_items s.operation []) ws p
cookie_at counted (line.Entry (entry.Handled h)) ws p =
    fourth counted (EntityOf h.daemon) (NumberOf h.session) (NumberOf h.epoch) h.cookie (NumberOf h.seq ∷ operation_items h.operation (OutcomeOf h.outcome ∷ [])) ws p
cookie_at counted (line.Entry (entry.Saved x)) ws p = refl
cookie_at counted (line.Entry (entry.Issued x)) ws p = refl
cookie_at counted (line.Entry (entry.Fetched x)) ws p = refl
cookie_at counted (line.Entry (entry.Looked x)) ws p = refl
cookie_at counted (line.Entry (entry.Answered x)) ws p = refl
cookie_at counted (line.Entry (entry.Refused x)) ws p = refl
cookie_at counted (line.Entry (entry.Ended x)) ws p = refl
cookie_at counted (line.Entry (entry.Restarted x)) ws p = refl
cookie_at counted (line.Entry (entry.Broken x)) ws p = refl
cookie_at counted (line.Entry (entry.Leaked x)) ws p = refl
cookie_at counted (line.Administered x) ws p = refl

-- what is counted behind a line of this kind, with this cookie
abbrev counted_with : CountedAbove → JournalHead → Option ℕ → CountedAbove
counted_with counted head.Issued cookie = record { issued = counted.issued + 1; cookies = counted.cookies }
counted_with counted _ None = counted
counted_with counted _ (Some k) = with_cookie counted k

counted_is : (counted : CountedAbove) (said : JournalLine) → counted_behind counted said ≡ counted_with counted (line_head said) (cookie_said said)
counted_is counted (line.Entry (entry.Saved x)) = refl
counted_is counted (line.Entry (entry.Issued x)) = refl
counted_is counted (line.Entry (entry.Fetched x)) = refl
counted_is counted (line.Entry (entry.Looked x)) = refl
counted_is counted (line.Entry (entry.Admitted x)) = refl
counted_is counted (line.Entry (entry.Resumed x)) = refl
counted_is counted (line.Entry (entry.Sent x)) = refl
counted_is counted (line.Entry (entry.Handled x)) = refl
counted_is counted (line.Entry (entry.Answered x)) = refl
counted_is counted (line.Entry (entry.Refused x)) = refl
counted_is counted (line.Entry (entry.Ended x)) = refl
counted_is counted (line.Entry (entry.Restarted x)) = refl
counted_is counted (line.Entry (entry.Broken x)) = refl
counted_is counted (line.Entry (entry.Leaked x)) = refl
counted_is counted (line.Administered x) = refl

same_cookie : (counted : CountedAbove) (a b : Option ℕ) (word : Option (List ℕ)) → counted.cookies + 1 < 2 ^ 64 → IsCookieAt counted a word → IsCookieAt counted b word → a ≡ b
same_cookie counted None None word low p q = refl
same_cookie counted None (Some m) word low p q = absurd (let e : None ≡ Some (codes "c" <> decimal m) = sym p ∙ q.1 in cc)
same_cookie counted (Some k) None word low p q = absurd (let e : None ≡ Some (codes "c" <> decimal k) = sym q ∙ p.1 in cc)
same_cookie counted (Some k) (Some m) word low p q =
    let e : Some (99 ∷ decimal k) ≡ Some (99 ∷ decimal m) = sym p.1 ∙ q.1 in
    let d : decimal k ≡ decimal m = cc in
    ap Some (decimal_injective k m (omega (arith, p.0)) (omega (arith, q.0)) d)

-- of a cookie that stands in a line, the count grows by at most one
grows : (counted : CountedAbove) (kind : JournalHead) (cookie : Option ℕ) (word : Option (List ℕ)) → IsCookieAt counted cookie word → (counted_with counted kind cookie).cookies ≤ counted.cookies + 1
grows counted head.Issued cookie word p = omega arith
grows counted head.Saved None word p = omega arith
grows counted head.Saved (Some k) word p = omega (arith, p.0)
grows counted head.Fetched None word p = omega arith
grows counted head.Fetched (Some k) word p = omega (arith, p.0)
grows counted head.Looked None word p = omega arith
grows counted head.Looked (Some k) word p = omega (arith, p.0)
grows counted head.Admitted None word p = omega arith
grows counted head.Admitted (Some k) word p = omega (arith, p.0)
grows counted head.Resumed None word p = omega arith
grows counted head.Resumed (Some k) word p = omega (arith, p.0)
grows counted head.Sent None word p = omega arith
grows counted head.Sent (Some k) word p = omega (arith, p.0)
grows counted head.Handled None word p = omega arith
grows counted head.Handled (Some k) word p = omega (arith, p.0)
grows counted head.Answered None word p = omega arith
grows counted head.Answered (Some k) word p = omega (arith, p.0)
grows counted head.Refused None word p = omega arith
grows counted head.Refused (Some k) word p = omega (arith, p.0)
grows counted head.Ended None word p = omega arith
grows counted head.Ended (Some k) word p = omega (arith, p.0)
grows counted head.Restarted None word p = omega arith
grows counted head.Restarted (Some k) word p = omega (arith, p.0)
grows counted head.Broken None word p = omega arith
grows counted head.Broken (Some k) word p = omega (arith, p.0)
grows counted head.Leaked None word p = omega arith
grows counted head.Leaked (Some k) word p = omega (arith, p.0)
grows counted head.Administered None word p = omega arith
grows counted head.Administered (Some k) word p = omega (arith, p.0)

cookies_more : (counted : CountedAbove) (said : JournalLine) (words : List (List ℕ)) → Spells counted said words → (counted_behind counted said).cookies ≤ counted.cookies + 1
cookies_more counted said [] p = absurd p
cookies_more counted said (w ∷ ws) p =
    subst (λ (c : CountedAbove). c.cookies ≤ counted.cookies + 1) (sym (counted_is counted said))
    (grows counted (line_head said) (cookie_said said) (cookie_word (line_head said) ws) (cookie_at counted said ws p.1))

same_head : (a b : JournalLine) (word : List ℕ) → word ≡ head_word (line_head a) → word ≡ head_word (line_head b) → line_head a ≡ line_head b
same_head a b word p q = let e : Some (line_head a) ≡ Some (line_head b) = sym (head_is a word p) ∙ head_is b word q in cc

same_counted : (counted : CountedAbove) (a b : JournalLine) (words : List (List ℕ)) → counted.cookies + 1 < 2 ^ 64 → Spells counted a words → Spells counted b words → counted_behind counted a ≡ counted_behind counted b
same_counted counted a b [] low p q = absurd p
same_counted counted a b (w ∷ ws) low p q =
    let heads : line_head a ≡ line_head b = same_head a b w p.0 q.0 in
    let also : IsCookieAt counted (cookie_said b) (cookie_word (line_head a) ws) =
    subst (λ (h : JournalHead). IsCookieAt counted (cookie_said b) (cookie_word h ws)) (sym heads) (cookie_at counted b ws q.1) in
    let cookies : cookie_said a ≡ cookie_said b = same_cookie counted (cookie_said a) (cookie_said b) (cookie_word (line_head a) ws) low (cookie_at counted a ws p.1) also in
    counted_is counted a ∙ ap (λ (h : JournalHead). counted_with counted h (cookie_said a)) heads ∙ ap (λ (k : Option ℕ). counted_with counted (line_head b) k) cookies
    ∙ sym (counted_is counted b)

-- ---- a text is a journal, or has one first bad line

none_bad_lines : (counted : CountedAbove) (lines : List (List ℕ)) (said : List JournalLine) (number : ℕ) (bad : WrongLine) → counted.cookies + length lines < 2 ^ 64 → Say counted lines said
    → IsFirstBad counted lines number bad → ⊥
none_bad_lines counted [] said number bad low say first = first
none_bad_lines counted (l ∷ ls) [] number bad low say first = say
none_bad_lines counted (l ∷ ls) (s ∷ rest) number bad low say (inl first) = not_both counted s (words_of true l) bad say.0 first.1
none_bad_lines counted (l ∷ ls) (s ∷ rest) number bad low say (inr (said, before, is, spells, first)) =
    let same : counted_behind counted said ≡ counted_behind counted s = same_counted counted said s (words_of true l) (omega arith) spells say.0 in
    let more = cookies_more counted s (words_of true l) say.0 in
    none_bad_lines (counted_behind counted s) ls rest before bad (omega (arith, more)) say.1 (subst (λ (c : CountedAbove). IsFirstBad c ls before bad) same first)

one_cause : (counted : CountedAbove) (words : List (List ℕ)) (bad worse : WrongLine) → IsLineCause counted words (line_refusal.Wrong bad) → IsLineCause counted words (line_refusal.Wrong worse) → bad ≡ worse
one_cause counted words bad worse p q =
    let e : Some bad.wrong ≡ Some worse.wrong = sym p.0 ∙ q.0 in
    let same : bad.wrong ≡ worse.wrong = cc in
    p.1 ∙ ap (described words) same ∙ sym q.1

one_bad_line : (counted : CountedAbove) (lines : List (List ℕ)) (n m : ℕ) (bad worse : WrongLine) → counted.cookies + length lines < 2 ^ 64 → IsFirstBad counted lines n bad → IsFirstBad counted lines m worse
    → (n ≡ m) × (bad ≡ worse)
one_bad_line counted [] n m bad worse low p q = absurd p
one_bad_line counted (l ∷ ls) n m bad worse low (inl p) (inl q) = (p.0 ∙ sym q.0, one_cause counted (words_of true l) bad worse p.1 q.1)
one_bad_line counted (l ∷ ls) n m bad worse low (inl p) (inr (said, before, is, spells, first)) = absurd (not_both counted said (words_of true l) bad spells p.1)
one_bad_line counted (l ∷ ls) n m bad worse low (inr (said, before, is, spells, first)) (inl q) = absurd (not_both counted said (words_of true l) worse spells q.1)
one_bad_line counted (l ∷ ls) n m bad worse low (inr (s, i, is, spells, first)) (inr (t, j, also, spell, other)) =
    let same : counted_behind counted t ≡ counted_behind counted s = same_counted counted t s (words_of true l) (omega arith) spell spells in
    let more = cookies_more counted s (words_of true l) spells in
    let found = one_bad_line (counted_behind counted s) ls i j bad worse (omega (arith, more)) first (subst (λ (c : CountedAbove). IsFirstBad c ls j worse) same other) in
    ((let e : n ≡ m = omega (arith, is, also, found.0) in e), found.1)

-- ---- and there are no more lines than bytes

onto_more : (b : ℕ) (pieces : List (List ℕ)) → length (onto_first b pieces) ≤ length pieces + 1
onto_more b [] = omega arith
onto_more b (p ∷ ps) = omega arith

lines_step : (b n : ℕ) (ends : Bool) (lines : List (List ℕ)) → length lines ≤ n → length (cond ends ([] ∷ lines) (onto_first b lines)) ≤ n + 1
lines_step b n true lines low = omega (arith, low)
lines_step b n false lines low = omega (arith, low, onto_more b lines)

lines_few : (bytes : List ℕ) → length (lines_of bytes) ≤ length bytes
unfolding lines_of
lines_few [] = omega arith
lines_few (b ∷ bs) = let more = lines_step b (length bs) (is_line_end b) (lines_of bs) (lines_few bs) in omega (arith, more)

none_bad : (bytes : List ℕ) (said : List JournalLine) (number : ℕ) (bad : WrongLine) → length bytes < 2 ^ 64 → IsJournal bytes said → IsFirstBad nothing (lines_of bytes) number bad → ⊥
none_bad bytes said number bad low say first =
    let few = lines_few bytes in
    none_bad_lines nothing (lines_of bytes) said number bad (omega (arith, few)) say first

one_bad : (bytes : List ℕ) (n m : ℕ) (bad worse : WrongLine) → length bytes < 2 ^ 64 → IsFirstBad nothing (lines_of bytes) n bad → IsFirstBad nothing (lines_of bytes) m worse
    → (n ≡ m) × (bad ≡ worse)
one_bad bytes n m bad worse low p q =
    let few = lines_few bytes in
    one_bad_line nothing (lines_of bytes) n m bad worse (omega (arith, few)) p q

pub only_memory : (bytes : List ℕ) (said : List JournalLine) (why : JournalRefusal) → IsShort bytes → IsJournal bytes said → IsJournalCause bytes why → why ≡ refusal.OutOfMemory
only_memory bytes said (refusal.BadLine number bad) short say cause = absurd (none_bad bytes said number bad (omega (arith, short.0)) say cause)
only_memory bytes said refusal.OutOfMemory short say cause = refl

pub refused_at : (bytes : List ℕ) (number : ℕ) (bad : WrongLine) (why : JournalRefusal) → IsShort bytes → IsFirstBad nothing (lines_of bytes) number bad → IsJournalCause bytes why → IsRefusedAt number bad why
refused_at bytes number bad (refusal.BadLine line worse) short first cause = one_bad bytes line number worse bad (omega (arith, short.0)) cause first
refused_at bytes number bad refusal.OutOfMemory short first cause = tt

pub not_both_of : (bytes : List ℕ) (said : List JournalLine) (number : ℕ) (bad : WrongLine) → IsShort bytes → IsFirstBad nothing (lines_of bytes) number bad → IsJournal bytes said → ⊥
not_both_of bytes said number bad short first say = none_bad bytes said number bad (omega (arith, short.0)) say first
