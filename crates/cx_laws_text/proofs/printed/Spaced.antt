-- Words that are parted by blanks are cut again as they were, and so are lines.
use Rattle.std.proofs.Common.{◌≡◌, ℕ, ◌⊎◌, inl, inr, Bool, true, false, List, [], ◌∷◌, ◌++◌, refl, sym, ap, ◌∙◌, ◌==◌, ◌||◌, ◌&&◌, append_assoc}
use Rattle.std.specs.List.{AllByRecursion, list_any}
use Rattle.std.proofs.lemmas.Bool.{or_from, or_parts}
use Rattle.cx_words.specs.Cutting.{is_line_end, is_mark, lines_of, onto_first, words_from, words_of}
use Rattle.cx_words.specs.Words.{quoted}
use Rattle.cx_words.proofs.Pieces.{onto_all, onto_all-ends, onto_all-more}

-- whether a byte ends a line, parts words or groups them
abbrev pub cuts : ℕ → Bool
cuts b = (b == 10) || ((b == 32) || (b == 34))

-- a word without such bytes
abbrev pub IsPlain : List ℕ → Type 0
IsPlain w = list_any cuts w ≡ false

-- whether a byte ends a line or a word between quotation marks
abbrev pub closes : ℕ → Bool
closes b = (b == 10) || (b == 34)

-- a word as it stands in a line of a journal: it has none of the bytes that cut, or stands between quotation marks and has none of those that close
abbrev pub IsWord : List ℕ → Type 0
IsWord w = IsPlain w ⊎ ((text : List ℕ) × (w ≡ quoted text) × (list_any closes text ≡ false))

pub plain-append : (test : ℕ → Bool) (xs ys : List ℕ) → list_any test xs ≡ false → list_any test ys ≡ false → list_any test (xs ++ ys) ≡ false
plain-append test [] ys h g = g
plain-append test (x ∷ xs) ys h g = let p = or_parts (test x) (list_any test xs) h in or_from (test x) (list_any test (xs ++ ys)) p.0 (plain-append test xs ys p.1 g)

-- ---- words

plain-passes : (w : List ℕ) → IsPlain w → (more : List ℕ) → words_from true false (w ++ more) ≡ onto_all w (words_from true false more)
unfolding words_from
plain-passes [] h more = refl
plain-passes (b ∷ w) h more =
    let p = or_parts (cuts b) (list_any cuts w) h in
    let q = or_parts (b == 10) ((b == 32) || (b == 34)) p.0 in
    let r = or_parts (b == 32) (b == 34) q.1 in
    rw (r.0, r.1, plain-passes w p.1 more) refl

and_none : (b : Bool) → (b && false) ≡ false
and_none true = refl
and_none false = refl

inside-passes : (text : List ℕ) → list_any closes text ≡ false → (more : List ℕ) → words_from true true (text ++ 34 ∷ more) ≡ onto_all text (onto_first 34 (words_from true false more))
unfolding words_from
inside-passes [] h more = refl
inside-passes (b ∷ text) h more =
    let p = or_parts (closes b) (list_any closes text) h in
    let q = or_parts (b == 10) (b == 34) p.0 in
    rw (and_none (b == 32), q.1, inside-passes text p.1 more) refl

mark_in : (text more : List ℕ) → list_any is_mark (text ++ 34 ∷ more) ≡ true
mark_in [] more = refl
mark_in (b ∷ text) more = or_right (is_mark b) (list_any is_mark (text ++ 34 ∷ more)) (mark_in text more)
  where
    or_right : (a b : Bool) → b ≡ true → (a || b) ≡ true
    or_right true b h = refl
    or_right false b h = h

quoted-passes : (text : List ℕ) → list_any closes text ≡ false → (more : List ℕ) → words_from true false (quoted text ++ more) ≡ onto_all (quoted text) (words_from true false more)
unfolding words_from
quoted-passes text h more =
    let whole : (text ++ 34 ∷ []) ++ more ≡ text ++ 34 ∷ more = append_assoc text (34 ∷ []) more in
    rw (whole, mark_in text more, inside-passes text h more, onto_all-more text 34 (words_from true false more)) refl

passes : (w : List ℕ) → IsWord w → (more : List ℕ) → words_from true false (w ++ more) ≡ onto_all w (words_from true false more)
passes w (inl plain) more = plain-passes w plain more
passes w (inr (text, is, closed)) more = rw is (quoted-passes text closed more)

-- words behind one, each behind a blank, in front of what stands behind them
abbrev pub spaced : List (List ℕ) → List ℕ → List ℕ
spaced [] tail = tail
spaced (w ∷ ws) tail = 32 ∷ (w ++ spaced ws tail)

blank-cuts : (more : List ℕ) → words_from true false (32 ∷ more) ≡ [] ∷ words_from true false more
unfolding words_from
blank-cuts more = refl

end-cuts : words_from true false [] ≡ [] ∷ []
unfolding words_from
end-cuts = refl

-- they are the words of that line
pub words-back : (w : List ℕ) (ws : List (List ℕ)) → IsWord w → AllByRecursion IsWord ws → words_of true (w ++ spaced ws []) ≡ w ∷ ws
words-back w [] p all = passes w p [] ∙ ap (onto_all w) end-cuts ∙ onto_all-ends w []
words-back w (v ∷ ws) p all =
    passes w p (spaced (v ∷ ws) []) ∙ ap (onto_all w) (blank-cuts (v ++ spaced ws []) ∙ ap (λ rest. [] ∷ rest) (words-back v ws all.0 all.1)) ∙ onto_all-ends w (v ∷ ws)

pub spaced-append : (ws : List (List ℕ)) (tail more : List ℕ) → spaced ws tail ++ more ≡ spaced ws (tail ++ more)
spaced-append [] tail more = refl
spaced-append (w ∷ ws) tail more = ap (λ rest. 32 ∷ rest) (append_assoc w (spaced ws tail) more ∙ ap (λ rest. w ++ rest) (spaced-append ws tail more))

-- ---- lines

abbrev pub IsInLine : List ℕ → Type 0
IsInLine w = list_any is_line_end w ≡ false

plain-in : (w : List ℕ) → IsPlain w → IsInLine w
plain-in [] h = refl
plain-in (b ∷ w) h =
    let p = or_parts (cuts b) (list_any cuts w) h in
    or_from (b == 10) (list_any is_line_end w) (or_parts (b == 10) ((b == 32) || (b == 34)) p.0).0 (plain-in w p.1)

closed-in : (text : List ℕ) → list_any closes text ≡ false → IsInLine text
closed-in [] h = refl
closed-in (b ∷ text) h =
    let p = or_parts (closes b) (list_any closes text) h in
    or_from (b == 10) (list_any is_line_end text) (or_parts (b == 10) (b == 34) p.0).0 (closed-in text p.1)

word-in : (w : List ℕ) → IsWord w → IsInLine w
word-in w (inl plain) = plain-in w plain
word-in w (inr (text, is, closed)) = rw is (plain-append is_line_end text (34 ∷ []) (closed-in text closed) refl)

spaced-in : (ws : List (List ℕ)) → AllByRecursion IsWord ws → IsInLine (spaced ws [])
spaced-in [] all = refl
spaced-in (w ∷ ws) all = plain-append is_line_end w (spaced ws []) (word-in w all.0) (spaced-in ws all.1)

line-cut : (front rest : List ℕ) → IsInLine front → lines_of (front ++ 10 ∷ rest) ≡ front ∷ lines_of rest
unfolding lines_of
line-cut [] rest none = refl
line-cut (x ∷ front) rest none =
    let parts = or_parts (is_line_end x) (list_any is_line_end front) none in
    rw (parts.0, line-cut front rest parts.1) refl

-- a line of words that ends is the first line
pub lines-back : (w : List ℕ) (ws : List (List ℕ)) (rest : List ℕ) → IsWord w → AllByRecursion IsWord ws
    → lines_of (w ++ spaced ws (10 ∷ rest)) ≡ (w ++ spaced ws []) ∷ lines_of rest
lines-back w ws rest p all =
    let same : w ++ spaced ws (10 ∷ rest) ≡ (w ++ spaced ws []) ++ 10 ∷ rest =
    ap (λ more. w ++ more) (sym (spaced-append ws [] (10 ∷ rest))) ∙ sym (append_assoc w (spaced ws []) (10 ∷ rest)) in
    ap lines_of same ∙ line-cut (w ++ spaced ws []) rest (plain-append is_line_end w (spaced ws []) (word-in w p) (spaced-in ws all))
