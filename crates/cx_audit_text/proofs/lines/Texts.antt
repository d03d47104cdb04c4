-- A line is its words, joined by blanks; so what is read of it prints as it stands.
use Rattle.std.proofs.Common.{◌≡◌, ℕ, Bool, true, false, cond, List, [], ◌∷◌, map, refl, sym, ap, ◌∙◌, ◌==◌, ◌&&◌}
use Rattle.std.specs.Prelude.{not}
use Rattle.std.specs.List.{join_with_byte}
use Rattle.std.proofs.lemmas.Bool.{eqb-true}
use Rattle.cx_words.specs.Cutting.{onto_first, parts, quoted_after, words_from, words_of}
use Rattle.cx_audit_text.specs.words.Choices.{head_word}
use Rattle.cx_audit_text.specs.words.Items.{JournalItem, SpellsItems, item_word}
use Rattle.cx_audit_text.specs.declared.words_places.CountedAbove.{CountedAbove}
use Rattle.cx_audit_text.specs.lines.Lines.{Spells, line_head, line_items}
use Rattle.cx_audit_text.specs.lines.Texts.{said_text}
use Rattle.cx_audit_text.specs.declared.entries.JournalLine.{JournalLine}

-- there is always a word
abbrev IsSome : List (List ℕ) → Type 0
IsSome [] = ⊥
IsSome (w ∷ ws) = Unit {0}

onto_some : (b : ℕ) (ws : List (List ℕ)) → IsSome (onto_first b ws)
onto_some b [] = tt
onto_some b (w ∷ ws) = tt

words_some : (groups quoted : Bool) (line : List ℕ) → IsSome (words_from groups quoted line)
unfolding words_from
words_some groups quoted [] = tt
words_some groups quoted (b ∷ bs) =
    either (parts quoted b) (words_from groups quoted bs) (onto_first b (words_from groups (quoted_after groups quoted b bs) bs)) (onto_some b (words_from groups (quoted_after groups quoted b bs) bs))
  where
    either : (c : Bool) (ws other : List (List ℕ)) → IsSome other → IsSome (cond c ([] ∷ ws) other)
    either true ws other some = tt
    either false ws other some = some

join_onto : (b : ℕ) (ws : List (List ℕ)) → IsSome ws → join_with_byte 32 (onto_first b ws) ≡ b ∷ join_with_byte 32 ws
join_onto b [] some = absurd some
join_onto b (w ∷ []) some = refl
join_onto b (w ∷ v ∷ ws) some = refl

join_blank : (ws : List (List ℕ)) → IsSome ws → join_with_byte 32 ([] ∷ ws) ≡ 32 ∷ join_with_byte 32 ws
join_blank [] some = absurd some
join_blank (w ∷ ws) some = refl

blank_is : (quoted : Bool) (b : ℕ) → parts quoted b ≡ true → b ≡ 32
blank_is quoted b e = eqb-true b 32 (first (b == 32) (not quoted) e)
  where
    first : (c d : Bool) → (c && d) ≡ true → c ≡ true
    first true d e = refl
    first false d e = e

join_step : (b : ℕ) (bs : List ℕ) (c : Bool) (ws other : List (List ℕ)) → IsSome ws → IsSome other → (c ≡ true → b ≡ 32) → join_with_byte 32 ws ≡ bs → join_with_byte 32 other ≡ bs
    → join_with_byte 32 (cond c ([] ∷ ws) (onto_first b other)) ≡ b ∷ bs
join_step b bs true ws other some others is joined also = join_blank ws some ∙ ap (λ rest. 32 ∷ rest) joined ∙ ap (λ k. k ∷ bs) (sym (is refl))
join_step b bs false ws other some others is joined also = join_onto b other others ∙ ap (λ rest. b ∷ rest) also

-- the words of a line, joined, are the line
joined : (groups quoted : Bool) (line : List ℕ) → join_with_byte 32 (words_from groups quoted line) ≡ line
unfolding words_from
joined groups quoted [] = refl
joined groups quoted (b ∷ bs) =
    join_step b bs (parts quoted b) (words_from groups quoted bs) (words_from groups (quoted_after groups quoted b bs) bs) (words_some groups quoted bs)
    (words_some groups (quoted_after groups quoted b bs) bs) (blank_is quoted b) (joined groups quoted bs) (joined groups (quoted_after groups quoted b bs) bs)

-- words that spell values are their printed forms
printed : (counted : CountedAbove) (items : List JournalItem) (words : List (List ℕ)) → SpellsItems counted items words → words ≡ map item_word items
printed counted [] [] p = refl
printed counted [] (w ∷ ws) p = absurd p
printed counted (i ∷ is) [] p = absurd p
printed counted (i ∷ is) (w ∷ ws) p = ap (λ k. k ∷ ws) p.0.1 ∙ ap (λ ks. item_word i ∷ ks) (printed counted is ws p.1)

spelled : (counted : CountedAbove) (said : JournalLine) (words : List (List ℕ)) → Spells counted said words → words ≡ head_word (line_head said) ∷ map item_word (line_items said)
spelled counted said [] p = absurd p
spelled counted said (w ∷ ws) p = ap (λ k. k ∷ ws) p.0 ∙ ap (λ ks. head_word (line_head said) ∷ ks) (printed counted (line_items said) ws p.1)

pub prints : (counted : CountedAbove) (said : JournalLine) (line : List ℕ) → Spells counted said (words_of true line) → line ≡ said_text said
prints counted said line p = sym (joined true false line) ∙ ap (join_with_byte 32) (spelled counted said (words_of true line) p)
