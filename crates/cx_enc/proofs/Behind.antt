-- Writing values of which each depends on what stands before it, as a loop does.
use Rattle.std.proofs.Common.{◌≡◌, ℕ, suc, ◌+◌, ◌<◌, ◌≤◌, List, ◌∷◌, ◌++◌, length, drop, get_or, sym, ap, subst, ◌∙◌, append_assoc, drop-cons, length-drop, arith}
use Rattle.std.proofs.lemmas.List.{append-nil, nil_from_length}
use Rattle.cx_enc.specs.Forms.{chain_text, ChainFits}

next_is : {X : Type 0} (xs : List X) (i : ℕ) (x : X) → i < length xs → get_or xs i x ≡ x → drop i xs ≡ x ∷ drop (i + 1) xs
next_is xs i x lt is = let e : i + 1 ≡ suc i = omega arith in rw e (drop-cons xs i x lt ∙ ap (λ y. y ∷ drop (suc i) xs) is)

pub text_goes_on : {S X : Type 0} (text : S → X → List ℕ) (next : S → X → S) (before : S) (xs : List X) (i : ℕ) (x : X) (front : List ℕ) → i < length xs → get_or xs i x ≡ x
    → front ++ chain_text text next before (drop i xs) ≡ (front ++ text before x) ++ chain_text text next (next before x) (drop (i + 1) xs)
unfolding chain_text
text_goes_on text next before xs i x front lt is =
    ap (λ ys. front ++ chain_text text next before ys) (next_is xs i x lt is) ∙ sym (append_assoc front (text before x) (chain_text text next (next before x) (drop (i + 1) xs)))

pub text_is_done : {S X : Type 0} (text : S → X → List ℕ) (next : S → X → S) (before : S) (xs : List X) (i : ℕ) (front : List ℕ) → length xs ≤ i → front ++ chain_text text next before (drop i xs) ≡ front
unfolding chain_text
text_is_done text next before xs i front le =
    ap (λ ys. front ++ chain_text text next before ys) (nil_from_length (drop i xs) (omega (arith, length-drop i xs))) ∙ append-nil front

pub fits_next : {S X : Type 0} (fits : S → X → Type 0) (next : S → X → S) (before : S) (xs : List X) (i : ℕ) (x : X) → i < length xs → get_or xs i x ≡ x
    → ChainFits fits next before (drop i xs) → fits before x × ChainFits fits next (next before x) (drop (i + 1) xs)
fits_next fits next before xs i x lt is h = subst (ChainFits fits next before) (next_is xs i x lt is) h

pub fits_front : {S X : Type 0} (fits : S → X → Type 0) (next : S → X → S) (before : S) (xs : List X) (i : ℕ) (x : X) → i < length xs → get_or xs i x ≡ x
    → fits before x → ChainFits fits next (next before x) (drop (i + 1) xs) → ChainFits fits next before (drop i xs)
fits_front fits next before xs i x lt is first rest = subst (ChainFits fits next before) (sym (next_is xs i x lt is)) (first, rest)

pub fits_done : {S X : Type 0} (fits : S → X → Type 0) (next : S → X → S) (before : S) (xs : List X) (i : ℕ) → length xs ≤ i → ChainFits fits next before (drop i xs)
fits_done fits next before xs i le = subst (ChainFits fits next before) (sym (nil_from_length (drop i xs) (omega (arith, length-drop i xs)))) tt
