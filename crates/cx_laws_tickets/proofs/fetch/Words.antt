-- What is said by key, of words of any kind: all that was said in a run, the oldest first, and what of it was said under one key.
use Rattle.std.proofs.Common.{◌≡◌, ◌≤◌, ℕ, Bool, true, false, List, [], ◌∷◌, ◌++◌, inl, inr, ◌⊎◌, refl, sym, ap, ◌∙◌, append-nil, append_assoc}
use Rattle.std.proofs.lemmas.Slice.Eq.{bytes_eq-Decides}
use Rattle.std.specs.Prelude.{if◌then◌else◌}
use Rattle.std.specs.List.{AllByRecursion, flat_map}
use Rattle.std.specs.Str.{bytes_eq}
use Rattle.cx_frame.specs.Frames.{total}
use Rattle.cx_frame.specs.declared.frame.Frame.{Frame}
use Rattle.cx_secure.specs.Plains.{plains}
use Rattle.cx_steps.specs.Onto.{SomeOf}
use Rattle.cx_laws_tickets.specs.cx_laws_keys.proofs.keys.Lists.{some-left, some-right}

-- ---- by key

-- where it was said under this key
abbrev pub if_under : {W : Type 0} → Bool → W → List W → List W
if_under here x rest = if here then x ∷ rest else rest

-- what was said under this key, of all that was said in a run, the oldest first
abbrev pub said_under : {W : Type 0} → List ℕ → List (List ℕ × W) → List W
said_under key [] = []
said_under key (p ∷ all) = if_under (bytes_eq p.0 key) p.1 (said_under key all)

-- one more is said, under this key
abbrev pub saying : {W : Type 0} → List (List ℕ × W) → List ℕ → W → List (List ℕ × W)
saying said key word = said ++ (key, word) ∷ []

-- it is one of these
abbrev pub IsIn : {W : Type 0} → W → List W → Type 0
IsIn {W} x xs = SomeOf (λ (y : W). y ≡ x) xs

pub itself : (key : List ℕ) → bytes_eq key key ≡ true
itself key = (bytes_eq-Decides key key).1 refl

module _ {W : Type 0} where
  pub said-append : (key : List ℕ) (xs ys : List (List ℕ × W)) → said_under key (xs ++ ys) ≡ said_under key xs ++ said_under key ys
  said-append key [] ys = refl
  said-append key (p ∷ xs) ys = by_test (bytes_eq p.0 key) (said-append key xs ys)
    where
      by_test : (here : Bool) → said_under key (xs ++ ys) ≡ said_under key xs ++ said_under key ys
          → if_under here p.1 (said_under key (xs ++ ys)) ≡ if_under here p.1 (said_under key xs) ++ said_under key ys
      by_test true rest = ap (λ (l : List W). p.1 ∷ l) rest
      by_test false rest = rest

  -- under this key it is one word more
  pub said-here : (said : List (List ℕ × W)) (key : List ℕ) (word : W) → said_under key (saying said key word) ≡ said_under key said ++ word ∷ []
  said-here said key word =
      said-append key said ((key, word) ∷ [])
      ∙ ap (λ (l : List W). said_under key said ++ l) (ap (λ (here : Bool). if_under here word []) (itself key))

  -- under any other none
  pub said-elsewhere : (said : List (List ℕ × W)) (key other : List ℕ) (word : W) → bytes_eq key other ≡ false → said_under other (saying said key word) ≡ said_under other said
  said-elsewhere said key other word apart =
      said-append other said ((key, word) ∷ [])
      ∙ ap (λ (l : List W). said_under other said ++ l) (ap (λ (here : Bool). if_under here word []) apart)
      ∙ append-nil (said_under other said)

  -- what was said under a key is among all that was said
  pub said-has : (key : List ℕ) (all : List (List ℕ × W)) (x : W) (xs : List W) → said_under key all ≡ x ∷ xs → IsIn (key, x) all
  said-has key [] x xs is = absurd cc
  said-has key (p ∷ all) x xs is = by_test (bytes_eq p.0 key) refl is (λ same. said-has key all x xs same)
    where
      by_test : (here : Bool) → bytes_eq p.0 key ≡ here → if_under here p.1 (said_under key all) ≡ x ∷ xs → (said_under key all ≡ x ∷ xs → IsIn (key, x) all) → IsIn (key, x) (p ∷ all)
      by_test true e is rest =
          let same : p.0 ≡ key = (bytes_eq-Decides p.0 key).0 e in
          let word : p.1 ≡ x = cc in
          inl (ap (λ (k : List ℕ). (k, p.1)) same ∙ ap (λ (w : W). (key, w)) word)
      by_test false e is rest = inr (rest is)

  -- one that was said behind the others is the last, or one of them
  pub saying-cases : (said : List (List ℕ × W)) (key : List ℕ) (word : W) (p : List ℕ × W) → IsIn p (saying said key word) → IsIn p said ⊎ ((key, word) ≡ p)
  saying-cases [] key word p (inl is) = inr is
  saying-cases [] key word p (inr none) = absurd none
  saying-cases (q ∷ said) key word p (inl is) = inl (inl is)
  saying-cases (q ∷ said) key word p (inr later) = by_rest (saying-cases said key word p later)
    where
      by_rest : IsIn p said ⊎ ((key, word) ≡ p) → IsIn p (q ∷ said) ⊎ ((key, word) ≡ p)
      by_rest (inl before) = inl (inr before)
      by_rest (inr last) = inr last

  pub in-left : (x : W) (xs ys : List W) → IsIn x xs → IsIn x (xs ++ ys)
  in-left x xs ys h = some-left (λ (y : W). y ≡ x) xs ys h

  pub in-right : (x : W) (xs ys : List W) → IsIn x ys → IsIn x (xs ++ ys)
  in-right x xs ys h = some-right (λ (y : W). y ≡ x) xs ys h

-- ---- their frames

module _ {W : Type 0} (frame_of : W → Frame) where
  -- the parts of their frames, in order
  abbrev pub parts_of : List W → List (List ℕ)
  parts_of xs = flat_map (λ (x : W). plains (frame_of x)) xs

  pub parts-append : (xs ys : List W) → parts_of (xs ++ ys) ≡ parts_of xs ++ parts_of ys
  parts-append [] ys = refl
  parts-append (x ∷ xs) ys = ap (λ (l : List (List ℕ)). plains (frame_of x) ++ l) (parts-append xs ys) ∙ sym (append_assoc (plains (frame_of x)) (parts_of xs) (parts_of ys))

  -- with one word more
  pub parts-one : (xs : List W) (x : W) → parts_of (xs ++ x ∷ []) ≡ parts_of xs ++ plains (frame_of x)
  parts-one xs x = parts-append xs (x ∷ []) ∙ ap (λ (l : List (List ℕ)). parts_of xs ++ l) (append-nil (plains (frame_of x)))

  -- all of them fit into frames
  abbrev pub AreFrames : List W → Type 0
  AreFrames xs = AllByRecursion (λ (x : W). total (frame_of x) ≤ 1048576) xs
