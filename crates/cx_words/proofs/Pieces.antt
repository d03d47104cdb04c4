-- A list of bytes that is cut at a byte: the front before it is the first piece.
use Rattle.std.proofs.Common.{◌≡◌, ℕ, ◌+◌, ◌-◌, ◌<◌, ◌≤◌, Bool, true, false, List, [], ◌∷◌, ◌++◌, take, drop, length, Some, None, refl, sym, ap, ◌∙◌, arith, add-one, get_or, append_assoc, drop-cons, get_or-drop, length-drop}
use Rattle.std.proofs.lemmas.List.{take_more}
use Rattle.std.specs.List.{list_any, position_from}
use Rattle.std.proofs.Math.Seq.{drop-length}
use Rattle.std.proofs.lemmas.Bool.{or_parts}
use Rattle.cx_words.specs.Cutting.{onto_first, is_line_end, lines_of, parts, quoted_after, words_from}
use Rattle.cx_words.specs.Words.{is_comma, pieces_of}
use Rattle.cx_words.proofs.FirstPlace.{cut, none_passes}

-- ---- lines

lines_behind : (front : List ℕ) (b : ℕ) (rest : List ℕ) → list_any is_line_end front ≡ false → is_line_end b ≡ true
    → lines_of (front ++ b ∷ rest) ≡ front ∷ lines_of rest
unfolding lines_of
lines_behind [] b rest none hit = rw hit refl
lines_behind (x ∷ front) b rest none hit =
    let parts = or_parts (is_line_end x) (list_any is_line_end front) none in
    rw (parts.0, lines_behind front b rest parts.1 hit) refl

pub lines_cut : (bytes : List ℕ) (place : ℕ) → position_from is_line_end 0 bytes ≡ Some place
    → lines_of bytes ≡ take place bytes ∷ lines_of (drop (place + 1) bytes)
lines_cut bytes place e =
    let c = cut is_line_end bytes place e in
    ap lines_of c.whole ∙ lines_behind (take place bytes) c.item (drop (place + 1) bytes) c.none c.passes

lines_alone : (b : ℕ) (bytes : List ℕ) → list_any is_line_end (b ∷ bytes) ≡ false → lines_of (b ∷ bytes) ≡ (b ∷ bytes) ∷ []
unfolding lines_of
lines_alone b [] none = rw ((or_parts (is_line_end b) false none).0) refl
lines_alone b (c ∷ bytes) none =
    let parts = or_parts (is_line_end b) (list_any is_line_end (c ∷ bytes)) none in
    rw (parts.0) (ap (onto_first b) (lines_alone c bytes parts.1))

pub lines_whole : (bytes : List ℕ) → position_from is_line_end 0 bytes ≡ None → 0 < length bytes
    → lines_of bytes ≡ bytes ∷ []
lines_whole [] e some = absurd (omega arith)
lines_whole (b ∷ bytes) e some = lines_alone b bytes (none_passes is_line_end (b ∷ bytes) 0 e)

-- behind the last line there is none
pub lines_last : (bytes : List ℕ) → position_from is_line_end 0 bytes ≡ None → 0 < length bytes
    → lines_of bytes ≡ bytes ∷ lines_of (drop (length bytes) bytes)
unfolding lines_of
lines_last bytes e some = rw drop-length (lines_whole bytes e some)

-- ---- words

-- a piece in front of the first of some pieces
abbrev pub onto_all : List ℕ → List (List ℕ) → List (List ℕ)
onto_all [] pieces = pieces
onto_all (b ∷ bs) pieces = onto_first b (onto_all bs pieces)

pub onto_all-ends : (piece : List ℕ) (pieces : List (List ℕ)) → onto_all piece ([] ∷ pieces) ≡ piece ∷ pieces
onto_all-ends [] pieces = refl
onto_all-ends (b ∷ bs) pieces = ap (onto_first b) (onto_all-ends bs pieces)

pub onto_all-more : (piece : List ℕ) (b : ℕ) (pieces : List (List ℕ)) → onto_all (piece ++ b ∷ []) pieces ≡ onto_all piece (onto_first b pieces)
onto_all-more [] b pieces = refl
onto_all-more (x ∷ piece) b pieces = ap (onto_first x) (onto_all-more piece b pieces)

blank_ends : (groups quoted : Bool) (b : ℕ) (rest : List ℕ) → parts quoted b ≡ true
    → words_from groups quoted (b ∷ rest) ≡ [] ∷ words_from groups quoted rest
unfolding words_from
blank_ends groups quoted b rest hit = rw hit refl

other_stays : (groups quoted : Bool) (b : ℕ) (rest : List ℕ) → parts quoted b ≡ false
    → words_from groups quoted (b ∷ rest) ≡ onto_first b (words_from groups (quoted_after groups quoted b rest) rest)
unfolding words_from
other_stays groups quoted b rest miss = rw miss refl

line_at : (line : List ℕ) (i : ℕ) → i < length line → drop i line ≡ get_or line i 0 ∷ drop (i + 1) line
line_at line i lt = rw add-one (drop-cons line i 0 lt)

piece_more : (line : List ℕ) (start i b : ℕ) → start ≤ i → i < length line → b ≡ get_or line i 0
    → take (i + 1 - start) (drop start line) ≡ take (i - start) (drop start line) ++ b ∷ []
piece_more line start i b le lt byte =
    let n : i + 1 - start ≡ i - start + 1 = omega arith in
    let inside : i - start < length (drop start line) = omega (arith, length-drop start line) in
    let place : start + (i - start) ≡ i = omega arith in
    let at : get_or (drop start line) (i - start) 0 ≡ b = get_or-drop start line (i - start) 0 ∙ ap (λ k. get_or line k 0) place ∙ sym byte in
    rw (n, take_more (drop start line) (i - start) 0 inside, at) refl

-- a step over a byte of the line: what is done, the piece so far and what is left stay together
pub after_blank : (groups quoted new_quoted : Bool) (line piece : List ℕ) (done longer words : List (List ℕ)) (i b start : ℕ)
    → i < length line → b ≡ get_or line i 0 → parts quoted b ≡ true
    → done ++ onto_all piece (words_from groups quoted (drop i line)) ≡ words
    → longer ≡ done ++ piece ∷ [] → start ≡ i + 1 → new_quoted ≡ quoted
    → longer ++ onto_all (take (i + 1 - start) (drop start line)) (words_from groups new_quoted (drop (i + 1) line)) ≡ words
after_blank groups quoted new_quoted line piece done longer words i b start lt byte hit cut is_longer is_start is_quoted =
    let next : words_from groups quoted (drop i line) ≡ [] ∷ words_from groups quoted (drop (i + 1) line) =
    ap (words_from groups quoted) (line_at line i lt) ∙ blank_ends groups quoted (get_or line i 0) (drop (i + 1) line) (rw (← byte) hit) in
    let nothing : i + 1 - (i + 1) ≡ 0 = omega arith in
    let ends = onto_all-ends piece (words_from groups quoted (drop (i + 1) line)) in
    rw (is_start, is_quoted, nothing, is_longer, append_assoc) (ap (λ ws. done ++ ws) (sym ends) ∙ ap (λ ws. done ++ onto_all piece ws) (sym next) ∙ cut)

pub after_other : (groups quoted new_quoted : Bool) (line : List ℕ) (done same words : List (List ℕ)) (start new_start i b : ℕ)
    → start ≤ i → i < length line → b ≡ get_or line i 0 → parts quoted b ≡ false
    → done ++ onto_all (take (i - start) (drop start line)) (words_from groups quoted (drop i line)) ≡ words
    → same ≡ done → new_start ≡ start → new_quoted ≡ quoted_after groups quoted b (drop (i + 1) line)
    → same ++ onto_all (take (i + 1 - new_start) (drop new_start line)) (words_from groups new_quoted (drop (i + 1) line)) ≡ words
after_other groups quoted new_quoted line done same words start new_start i b le lt byte miss cut is_same is_start is_quoted =
    let rest = drop (i + 1) line in
    let next : words_from groups quoted (drop i line) ≡ onto_first b (words_from groups (quoted_after groups quoted b rest) rest) =
    ap (words_from groups quoted) (rw (sym byte) at (line_at line i lt)) ∙ other_stays groups quoted b rest miss in
    let longer : take (i + 1 - start) (drop start line) ≡ take (i - start) (drop start line) ++ b ∷ [] =
    piece_more line start i b le lt byte in
    rw (is_same, is_start, is_quoted, longer, onto_all-more) (ap (λ ws. done ++ onto_all (take (i - start) (drop start line)) ws) (sym next) ∙ cut)

-- at the end of the line the piece so far is the last word
pub at_end : (groups quoted : Bool) (line : List ℕ) (done longer words : List (List ℕ)) (start i : ℕ)
    → i ≡ length line
    → done ++ onto_all (take (i - start) (drop start line)) (words_from groups quoted (drop i line)) ≡ words
    → longer ≡ done ++ take (length line - start) (drop start line) ∷ []
    → longer ≡ words
unfolding words_from
at_end groups quoted line done longer words start i all cut is_longer =
    let last : words_from groups quoted (drop i line) ≡ [] ∷ [] = rw (all, drop-length) refl in
    let ends = onto_all-ends (take (i - start) (drop start line)) [] in
    rw (is_longer, ← all) (ap (λ ws. done ++ ws) (sym ends) ∙ ap (λ ws. done ++ onto_all (take (i - start) (drop start line)) ws) (sym last) ∙ cut)

-- ---- pieces between commas

pub pieces_behind : (front : List ℕ) (b : ℕ) (rest : List ℕ) → list_any is_comma front ≡ false → is_comma b ≡ true
    → pieces_of (front ++ b ∷ rest) ≡ front ∷ pieces_of rest
unfolding pieces_of
pieces_behind [] b rest none hit = rw hit refl
pieces_behind (x ∷ front) b rest none hit =
    let parts = or_parts (is_comma x) (list_any is_comma front) none in
    rw (parts.0, pieces_behind front b rest parts.1 hit) refl

pub pieces_cut : (bytes : List ℕ) (place : ℕ) → position_from is_comma 0 bytes ≡ Some place
    → pieces_of bytes ≡ take place bytes ∷ pieces_of (drop (place + 1) bytes)
pieces_cut bytes place e =
    let c = cut is_comma bytes place e in
    ap pieces_of c.whole ∙ pieces_behind (take place bytes) c.item (drop (place + 1) bytes) c.none c.passes

pub pieces_alone : (bytes : List ℕ) → list_any is_comma bytes ≡ false → pieces_of bytes ≡ bytes ∷ []
unfolding pieces_of
pieces_alone [] none = refl
pieces_alone (b ∷ bytes) none =
    let parts = or_parts (is_comma b) (list_any is_comma bytes) none in
    rw (parts.0) (ap (onto_first b) (pieces_alone bytes parts.1))

pub pieces_whole : (bytes : List ℕ) → position_from is_comma 0 bytes ≡ None → pieces_of bytes ≡ bytes ∷ []
pieces_whole bytes e = pieces_alone bytes (none_passes is_comma bytes 0 e)
