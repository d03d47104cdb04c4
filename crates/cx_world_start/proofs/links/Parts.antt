-- What of the pieces that an end sent is under way.
use Rattle.std.proofs.Common.{◌≡◌, ℕ, ◌+◌, ◌-◌, ◌<◌, List, [], ◌∷◌, length, get_or, drop, Some, refl, sym, ap, ◌∙◌, subst}
use Rattle.std.proofs.lemmas.List.{drop_more, drop-drop, length-drop}
use Rattle.cx_run.specs.Deliveries.{before_others}
use Rattle.cx_world_start.specs.links.Ends.{staying, without_bytes}

none_taken : (pieces : List (List ℕ)) → without_bytes 0 pieces ≡ pieces
none_taken [] = refl
none_taken (piece ∷ pieces) = refl

same_length : (taken : ℕ) (pieces : List (List ℕ)) → length (without_bytes taken pieces) ≡ length pieces
same_length taken [] = refl
same_length taken (piece ∷ pieces) = refl

pub count_left : (ever : List (List ℕ)) (came taken : ℕ) → length (without_bytes taken (drop came ever)) ≡ length ever - came
count_left ever came taken = same_length taken (drop came ever) ∙ length-drop came ever

pub lost_first : (ever : List (List ℕ)) (came taken : ℕ) → came < length ever → without_bytes 0 (drop (came + 1) ever) ≡ drop 1 (without_bytes taken (drop came ever))
lost_first ever came taken h =
    none_taken (drop (came + 1) ever)
    ∙ sym (ap (λ (pieces : List (List ℕ)). drop 1 (without_bytes taken pieces)) (drop_more ever came [] h))

some_left : (n : ℕ) (piece : List ℕ) (pieces : List (List ℕ)) → n < length piece → before_others (drop n piece) pieces ≡ drop n piece ∷ pieces
some_left n piece pieces h =
    let e : drop n piece ≡ get_or piece n 0 ∷ drop (n + 1) piece = drop_more piece n 0 h in
    ap (λ (bytes : List ℕ). before_others bytes pieces) e ∙ sym (ap (λ (bytes : List ℕ). bytes ∷ pieces) e)

taken_more : (n taken : ℕ) (piece : List ℕ) (pieces : List (List ℕ)) → n < length (drop taken piece) → without_bytes (taken + n) (piece ∷ pieces) ≡ staying (Some n) (without_bytes taken (piece ∷ pieces))
taken_more n taken piece pieces h =
    ap (λ (bytes : List ℕ). bytes ∷ pieces) (sym (drop-drop n taken piece)) ∙ sym (some_left n (drop taken piece) pieces h)

pub taken_on : (ever : List (List ℕ)) (came taken n : ℕ) (piece : List ℕ) → came < length ever → piece ≡ get_or ever came piece → n < length (drop taken piece)
    → without_bytes (taken + n) (drop came ever) ≡ staying (Some n) (without_bytes taken (drop came ever))
taken_on ever came taken n piece within read k =
    let whole : drop came ever ≡ piece ∷ drop (came + 1) ever = drop_more ever came piece within ∙ ap (λ (p : List ℕ). p ∷ drop (came + 1) ever) (sym read) in
    let P : List (List ℕ) → Type 0 = λ pieces. without_bytes (taken + n) pieces ≡ staying (Some n) (without_bytes taken pieces) in
    subst P (sym whole) (taken_more n taken piece (drop (came + 1) ever) k)
