-- Chaining is undone both ways, and goes block by block.
use Rattle.std.proofs.Common.{◌≡◌, ℕ, suc, ◌+◌, ◌<◌, ◌≤◌, List, [], ◌∷◌, ◌++◌, length, take, drop, get_or, map, refl, ap, sym, subst, ◌∙◌, drop-cons, length-append, length-drop, arith, append_assoc}
use Rattle.std.specs.List.{concat, flat_map}
use Rattle.std.specs.Simd.{first_chunks}
use Rattle.std.specs.Simd.Lanes.{put_chunk}
use Rattle.std.proofs.lemmas.List.{nil_from_length, append-nil, drop_at, length-take-le, take_all}
use Rattle.std.proofs.lemmas.List.FromFn.{fill_by_all}
use Rattle.std.proofs.lemmas.List.Folds.{concat-append}
use Rattle.std.proofs.lemmas.Simd.{put_chunk_is, take_more_put_chunk}
use Rattle.cx_aes.specs.Cipher.{IsBlock, add, aes}
use Rattle.cx_aes.specs.Inverse.{inverse_aes}
use Rattle.cx_aes.proofs.Blocks.{IsBlock-add}
use Rattle.cx_aes.proofs.Rounds.{IsBlock-aes, IsBlock-inverse_aes, add-add, aes-inverse_aes, inverse_aes-aes}
use Rattle.cx_cbc.specs.Chain.{cbc, uncbc}
use Rattle.cx_cbc.proofs.Blocks.{AreBlocks}

pub uncbc-cbc : (key before : List ℕ) (blocks : List (List ℕ)) → IsBlock key → IsBlock before → AreBlocks blocks → uncbc key before (cbc key before blocks) ≡ blocks
unfolding cbc uncbc
uncbc-cbc key before [] k b are = refl
uncbc-cbc key before (block ∷ blocks) k b are =
    let sum = add block before in
    let hs = IsBlock-add block before are.0 b in
    let sealed = aes key sum in
    let first : add (inverse_aes key sealed) before ≡ block =
    ap (λ s. add s before) (inverse_aes-aes key sum k hs) ∙ add-add block before (are.0.len ∙ sym b.len) in
    ap (λ s. s ∷ uncbc key sealed (cbc key sealed blocks)) first
    ∙ ap (λ rest. block ∷ rest) (uncbc-cbc key sealed blocks k (IsBlock-aes key sum k hs) are.1)

pub cbc-uncbc : (key before : List ℕ) (blocks : List (List ℕ)) → IsBlock key → IsBlock before → AreBlocks blocks → cbc key before (uncbc key before blocks) ≡ blocks
unfolding cbc uncbc
cbc-uncbc key before [] k b are = refl
cbc-uncbc key before (sealed ∷ blocks) k b are =
    let inverse = inverse_aes key sealed in
    let hi = IsBlock-inverse_aes key sealed k are.0 in
    let first : aes key (add (add inverse before) before) ≡ sealed =
    ap (aes key) (add-add inverse before (hi.len ∙ sym b.len)) ∙ aes-inverse_aes key sealed k are.0 in
    ap (λ s. s ∷ cbc key s (uncbc key sealed blocks)) first ∙ ap (λ rest. sealed ∷ rest) (cbc-uncbc key sealed blocks k are.0 are.1)

pub AreBlocks-cbc : (key before : List ℕ) (blocks : List (List ℕ)) → IsBlock key → IsBlock before → AreBlocks blocks → AreBlocks (cbc key before blocks)
unfolding cbc
AreBlocks-cbc key before [] k b are = tt
AreBlocks-cbc key before (block ∷ blocks) k b are =
    let sealed = aes key (add block before) in
    let h = IsBlock-aes key (add block before) k (IsBlock-add block before are.0 b) in
    (h, AreBlocks-cbc key sealed blocks k h are.1)

pub length-cbc : (key before : List ℕ) (blocks : List (List ℕ)) → length (cbc key before blocks) ≡ length blocks
unfolding cbc
length-cbc key before [] = refl
length-cbc key before (block ∷ blocks) = ap suc (length-cbc key (aes key (add block before)) blocks)

pub AreBlocks-uncbc : (key before : List ℕ) (blocks : List (List ℕ)) → IsBlock key → IsBlock before → AreBlocks blocks → AreBlocks (uncbc key before blocks)
unfolding uncbc
AreBlocks-uncbc key before [] k b are = tt
AreBlocks-uncbc key before (sealed ∷ blocks) k b are = (
  IsBlock-add (inverse_aes key sealed) before (IsBlock-inverse_aes key sealed k are.0) b,
  AreBlocks-uncbc key sealed blocks k are.0 are.1,
)

-- ---- the loops: what is done, followed by what the blocks left give

pub uncbc_more : (out key before : List ℕ) (blocks : List (List ℕ)) (i : ℕ) → i < length blocks → (sealed : List ℕ) → get_or blocks i [] ≡ sealed →
    (out ++ add (inverse_aes key sealed) before) ++ concat (uncbc key sealed (drop (i + 1) blocks)) ≡ out ++ concat (uncbc key before (drop i blocks))
unfolding uncbc
uncbc_more out key before blocks i lt sealed is =
    let e : i + 1 ≡ suc i = omega arith in
    let block = add (inverse_aes key sealed) before in
    append_assoc out block (concat (uncbc key sealed (drop (i + 1) blocks)))
    ∙ ap (λ n. out ++ (block ++ concat (uncbc key sealed (drop n blocks)))) e
    ∙ sym (rw (drop-cons blocks i [], is))

pub uncbc_all : (out key before : List ℕ) (blocks : List (List ℕ)) (i : ℕ) → length blocks ≤ i → out ++ concat (uncbc key before (drop i blocks)) ≡ out
unfolding uncbc
uncbc_all out key before blocks i le =
    ap (λ left. out ++ concat (uncbc key before left)) (nil_from_length (drop i blocks) (omega (arith, length-drop i blocks))) ∙ append-nil out

-- ---- four at a time

-- what holds of four written out holds of a list of four
of_four : (P : List (List ℕ) → Type 0) → ((a b c d : List ℕ) → P (a ∷ b ∷ c ∷ d ∷ [])) → (four : List (List ℕ)) → length four ≡ 4 → P four
of_four P each four len =
    subst P (sym (fill_by_all (λ i. get_or four i []) four 4 [] len (λ k lt. refl)))
    (each (get_or four 0 []) (get_or four 1 []) (get_or four 2 []) (get_or four 3 []))

-- each of the four added to the cipher text before it
pub four_back : (key before : List ℕ) (four inner : List (List ℕ)) → length four ≡ 4 → inner ≡ map (inverse_aes key) four →
    add (get_or inner 0 []) before ∷ add (get_or inner 1 []) (get_or four 0 []) ∷ add (get_or inner 2 []) (get_or four 1 [])
    ∷ add (get_or inner 3 []) (get_or four 2 []) ∷ [] ≡ uncbc key before four
unfolding uncbc
four_back key before four inner len is =
    ap (λ xs. add (get_or xs 0 []) before ∷ add (get_or xs 1 []) (get_or four 0 []) ∷ add (get_or xs 2 []) (get_or four 1 [])
    ∷ add (get_or xs 3 []) (get_or four 2 []) ∷ []) is
    ∙ of_four (λ f.
    add (get_or (map (inverse_aes key) f) 0 []) before ∷ add (get_or (map (inverse_aes key) f) 1 []) (get_or f 0 [])
    ∷ add (get_or (map (inverse_aes key) f) 2 []) (get_or f 1 []) ∷ add (get_or (map (inverse_aes key) f) 3 []) (get_or f 2 []) ∷ []
    ≡ uncbc key before f) (λ a b c d. refl) four len

four_first : (key before : List ℕ) (four tail : List (List ℕ)) → length four ≡ 4 →
    uncbc key before (four ++ tail) ≡ uncbc key before four ++ uncbc key (get_or four 3 []) tail
unfolding uncbc
four_first key before four tail len =
    of_four (λ f. uncbc key before (f ++ tail) ≡ uncbc key before f ++ uncbc key (get_or f 3 []) tail) (λ a b c d. refl) four len

pub fours_more : (out key before : List ℕ) (fours : List (List (List ℕ))) (rest : List (List ℕ)) (i : ℕ) → i < length fours →
    (four : List (List ℕ)) → get_or fours i [] ≡ four → length four ≡ 4 →
    (out ++ concat (uncbc key before four)) ++ concat (uncbc key (get_or four 3 []) (flat_map (λ x. x) (drop (i + 1) fours) ++ rest))
    ≡ out ++ concat (uncbc key before (flat_map (λ x. x) (drop i fours) ++ rest))
fours_more out key before fours rest i lt four is len =
    let e : i + 1 ≡ suc i = omega arith in
    let more : List (List ℕ) = flat_map (λ x. x) (drop (suc i) fours) in
    let last : List ℕ = get_or four 3 [] in
    append_assoc out (concat (uncbc key before four)) (concat (uncbc key last (flat_map (λ x. x) (drop (i + 1) fours) ++ rest)))
    ∙ ap (λ n. out ++ (concat (uncbc key before four) ++ concat (uncbc key last (flat_map (λ x. x) (drop n fours) ++ rest)))) e
    ∙ ap (λ xs. out ++ xs)
    (sym (concat-append (uncbc key before four) (uncbc key last (more ++ rest)))
    ∙ ap concat (sym (four_first key before four (more ++ rest) len))
    ∙ ap (λ xs. concat (uncbc key before xs)) (sym (append_assoc four more rest)))
    ∙ sym (rw (drop-cons fours i [], is))

pub fours_all : (out key before : List ℕ) (fours : List (List (List ℕ))) (rest : List (List ℕ)) (i : ℕ) → length fours ≤ i →
    out ++ concat (uncbc key before (flat_map (λ x. x) (drop i fours) ++ rest)) ≡ out ++ concat (uncbc key before rest)
fours_all out key before fours rest i le =
    ap (λ left. out ++ concat (uncbc key before (flat_map (λ x. x) left ++ rest))) (nil_from_length (drop i fours) (omega (arith, length-drop i fours)))

-- ---- in place: the cipher texts so far, followed by what the blocks behind them give

-- one block more has made room for its cipher text
pub in_place_more : (key before bytes sealed : List ℕ) (at next count left : ℕ) → at + 16 ≤ length bytes → next ≡ at + 16 → count ≡ suc left → length sealed ≡ 16 →
    sealed ≡ aes key (add (take 16 (drop at bytes)) before) →
    take next (put_chunk at bytes sealed) ++ concat (cbc key sealed (first_chunks 16 left (drop next (put_chunk at bytes sealed))))
    ≡ take at bytes ++ concat (cbc key before (first_chunks 16 count (drop at bytes)))
unfolding cbc
in_place_more key before bytes sealed at next count left room on more len is =
    let front : List ℕ = take at bytes in
    let behind : List ℕ = drop 16 (drop at bytes) in
    let front_len : length front ≡ at = length-take-le at bytes (omega arith) in
    let done : length (front ++ sealed) ≡ next = omega (arith, length-append front sealed) in
    let rest : drop next (put_chunk at bytes sealed) ≡ behind =
    ap (drop next) (put_chunk_is at bytes sealed (omega arith) ∙ sym (append_assoc front sealed (drop (length sealed) (drop at bytes))))
    ∙ drop_at (front ++ sealed) (drop (length sealed) (drop at bytes)) next done
    ∙ ap (λ n. drop n (drop at bytes)) len in
    ap (λ xs. xs ++ concat (cbc key sealed (first_chunks 16 left (drop next (put_chunk at bytes sealed)))))
    (take_more_put_chunk at bytes sealed next (omega arith) (omega arith))
    ∙ ap (λ xs. (front ++ sealed) ++ concat (cbc key sealed (first_chunks 16 left xs))) rest
    ∙ append_assoc front sealed (concat (cbc key sealed (first_chunks 16 left behind)))
    ∙ ap (λ s. front ++ (s ++ concat (cbc key s (first_chunks 16 left behind)))) is
    ∙ ap (λ n. front ++ concat (cbc key before (first_chunks 16 n (drop at bytes)))) (sym more)

pub in_place_all : (key before bytes rest : List ℕ) (n left : ℕ) → length bytes ≤ n → left ≡ 0 →
    take n bytes ++ concat (cbc key before (first_chunks 16 left rest)) ≡ bytes
unfolding cbc
in_place_all key before bytes rest n left all none =
    ap (λ k. take n bytes ++ concat (cbc key before (first_chunks 16 k rest))) none ∙ append-nil (take n bytes) ∙ take_all n bytes all
