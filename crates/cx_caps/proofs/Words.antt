-- The words of a clause, from the front.
use Rattle.std.proofs.Common.{◌≡◌, ℕ, suc, ◌+◌, ◌-◌, ◌<◌, Bool, true, false, cond, not, List, [], ◌∷◌, take, drop, length, refl, sym, ap, ◌∙◌, arith, length-drop}
use Rattle.std.specs.Prelude.{filter}
use Rattle.std.specs.List.{slice_split, prefix_len, take_while}
use Rattle.std.proofs.lemmas.List.{length-take-le}
use Rattle.std.proofs.lemmas.List.Sums.{prefix_len-le-length}
use Rattle.std.proofs.Math.Seq.{take-length}
use Rattle.cx_caps.specs.Grammar.{words_of, is_space, is_filled}

abbrev pub no_space : ℕ → Bool
no_space b = not (is_space b)

one_more : (n : ℕ) → 1 + n ≡ suc n
one_more n = omega arith

-- a space in front makes no word
space_first : (b : ℕ) (bs : List ℕ) → is_space b ≡ true → words_of (b ∷ bs) ≡ words_of bs
space_first b bs hit = rw hit refl

-- the first piece between spaces, and the words behind it
record Piece (bs : List ℕ) : Type 0 where
  rest : List (List ℕ)
  pieces : slice_split is_space bs ≡ take (prefix_len no_space bs) bs ∷ rest
  words : words_of (drop (prefix_len no_space bs) bs) ≡ filter is_filled rest

piece_step : (b : ℕ) (bs : List ℕ) (hit : Bool) → is_space b ≡ hit → Piece bs → Piece (b ∷ bs)
piece_step b bs true h p = record {
  rest = slice_split is_space bs;
  pieces = rw h refl;
  words = rw h (space_first b bs h);
}
piece_step b bs false h p = record {
  rest = p.rest;
  pieces = rw (h, p.pieces, one_more) refl;
  words = rw (h, one_more) p.words;
}

piece : (bs : List ℕ) → Piece bs
piece [] = record { rest = []; pieces = refl; words = refl }
piece (b ∷ bs) = piece_step b bs (is_space b) refl (piece bs)

filled_first : (word : List ℕ) (rest : List (List ℕ)) → 0 < length word → filter is_filled (word ∷ rest) ≡ word ∷ filter is_filled rest
filled_first [] rest some = absurd (omega arith)
filled_first (b ∷ word) rest some = refl

-- where the first byte is no space, the first piece is the first word
word_first : (b : ℕ) (bs : List ℕ) → is_space b ≡ false
    → words_of (b ∷ bs) ≡ take (prefix_len no_space (b ∷ bs)) (b ∷ bs) ∷ words_of (drop (prefix_len no_space (b ∷ bs)) (b ∷ bs))
word_first b bs h =
    let p = piece (b ∷ bs) in
    let word : List ℕ = take (prefix_len no_space (b ∷ bs)) (b ∷ bs) in
    let some : 0 < length word = rw (h, one_more) (omega arith) in
    ap (filter is_filled) p.pieces ∙ filled_first word p.rest some ∙ ap (λ ws. word ∷ ws) (sym p.words)

-- what stands behind the spaces at the front has the same words, and begins with none
record Skipped (bs rest : List ℕ) : Type 0 where
  words : words_of bs ≡ words_of rest
  first : prefix_len is_space rest ≡ 0

skip_step : (b : ℕ) (bs : List ℕ) (hit : Bool) → is_space b ≡ hit → Skipped bs (drop (prefix_len is_space bs) bs)
    → Skipped (b ∷ bs) (drop (prefix_len is_space (b ∷ bs)) (b ∷ bs))
skip_step b bs true h s = record {
  words = space_first b bs h ∙ s.words ∙ (rw (h, one_more) refl);
  first = rw (h, one_more) s.first;
}
skip_step b bs false h s =
    let same : drop (prefix_len is_space (b ∷ bs)) (b ∷ bs) ≡ b ∷ bs = rw h refl in
    record { words = ap words_of (sym same); first = ap (prefix_len is_space) same ∙ rw h refl }

skipped : (bs : List ℕ) → Skipped bs (drop (prefix_len is_space bs) bs)
skipped [] = record { words = refl; first = refl }
skipped (b ∷ bs) = skip_step b bs (is_space b) refl (skipped bs)

no_space_first : (b n : ℕ) (hit : Bool) → is_space b ≡ hit → cond hit (1 + n) 0 ≡ 0 → is_space b ≡ false
no_space_first b n true h e = absurd (omega arith)
no_space_first b n false h e = h

behind_spaces : (bs rest : List ℕ) → Skipped bs rest → 0 < length rest
    → words_of bs ≡ take (prefix_len no_space rest) rest ∷ words_of (drop (prefix_len no_space rest) rest)
behind_spaces bs [] s some = absurd (omega arith)
behind_spaces bs (b ∷ rest) s some =
    s.words ∙ word_first b rest (no_space_first b (prefix_len is_space rest) (is_space b) refl s.first)

none_behind : (bs rest : List ℕ) → Skipped bs rest → length rest ≡ 0 → words_of bs ≡ []
none_behind bs [] s none = s.words
none_behind bs (b ∷ rest) s none = absurd (omega arith)

counted : (p : ℕ → Bool) (bs : List ℕ) → length (take_while p bs) ≡ prefix_len p bs
counted p bs = length-take-le (prefix_len p bs) bs (prefix_len-le-length p bs)

take_rest : (n : ℕ) (xs : List ℕ) → take (length xs - n) (drop n xs) ≡ drop n xs
take_rest n xs = ap (λ k. take k (drop n xs)) (sym (length-drop n xs)) ∙ take-length (drop n xs)

skipped_rest : (clause : List ℕ) (spaces : ℕ) → spaces ≡ length (take_while is_space clause)
    → Skipped clause (take (length clause - spaces) (drop spaces clause))
skipped_rest clause spaces is_spaces = rw (take_rest, is_spaces, counted) (skipped clause)

-- the front of a clause, as the code cuts it
pub cut_words : (clause : List ℕ) (spaces len : ℕ) (word behind : List ℕ) → spaces ≡ length (take_while is_space clause)
    → len ≡ length (take_while no_space (take (length clause - spaces) (drop spaces clause)))
    → 0 < length (take (length clause - spaces) (drop spaces clause))
    → word ≡ take len (take (length clause - spaces) (drop spaces clause))
    → behind ≡ drop len (take (length clause - spaces) (drop spaces clause))
    → words_of clause ≡ word ∷ words_of behind
cut_words clause spaces len word behind is_spaces is_len some is_word is_behind =
    let rest = take (length clause - spaces) (drop spaces clause) in
    let n : len ≡ prefix_len no_space rest = is_len ∙ counted no_space rest in
    rw (is_word, is_behind, n) (behind_spaces clause rest (skipped_rest clause spaces is_spaces) some)

pub no_words : (clause : List ℕ) (spaces : ℕ) → spaces ≡ length (take_while is_space clause)
    → length (take (length clause - spaces) (drop spaces clause)) ≡ 0 → words_of clause ≡ []
no_words clause spaces is_spaces none =
    none_behind clause (take (length clause - spaces) (drop spaces clause)) (skipped_rest clause spaces is_spaces) none
