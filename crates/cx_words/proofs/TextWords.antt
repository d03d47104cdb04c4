-- Caps texts and the parts of an object's address: what is read was spelled so, and what is spelled is read again.
use Rattle.std.proofs.Common.{◌≡◌, ℕ, suc, ◌+◌, ◌-◌, ◌<◌, ◌≤◌, Bool, true, false, cond, ◌&&◌, List, [], ◌∷◌, ◌++◌, take, length, get_or, nat_le, Option, Some, None, IsTrue, IfSome, refl, sym, ap, ◌∙◌, arith, length-append, get_or-append-add}
use Rattle.std.specs.Prelude.{codes}
use Rattle.std.specs.Str.{bytes_eq}
use Rattle.std.proofs.lemmas.Bool.{and_parts}
use Rattle.std.proofs.lemmas.Bool.Decides.{nat_tests}
use Rattle.std.proofs.lemmas.List.{take_more}
use Rattle.std.proofs.lemmas.Slice.Eq.{bytes_eq-Decides}
use Rattle.std.proofs.Math.Seq.{take-append_seam, take-length}
use Rattle.cx_base.specs.Texts.{is_caps, is_long_part, is_part}
use Rattle.cx_words.specs.Words.{caps_of, inside, is_in_marks, part_of, part_word, quoted}

-- ---- caps

-- a list that has an item is its front and its last one
last_apart : (bytes : List ℕ) → 0 < length bytes → bytes ≡ take (length bytes - 1) bytes ++ get_or bytes (length bytes - 1) 0 ∷ []
last_apart bytes some =
    let n : length bytes - 1 + 1 ≡ length bytes = omega arith in
    sym (take-length bytes) ∙ ap (λ k. take k bytes) (sym n) ∙ take_more bytes (length bytes - 1) 0 (omega arith)

record Marks (word : List ℕ) : Type 0 where
  long : 2 ≤ length word
  first : get_or word 0 0 ≡ 34
  last : get_or word (length word - 1) 0 ≡ 34

marks : (word : List ℕ) → is_in_marks word ≡ true → Marks word
marks word h = record {
  long = grind (arith, nat_tests, h);
  first = grind (arith, nat_tests, h);
  last = grind (arith, nat_tests, h);
}

between : (b : ℕ) (rest : List ℕ) → Marks (b ∷ rest) → b ∷ rest ≡ quoted (inside (b ∷ rest))
between b rest m =
    let long : 2 ≤ suc (length rest) = m.long in
    let last : get_or rest (length rest - 1) 0 ≡ 34 =
    ap (λ j. get_or (b ∷ rest) j 0) (let e : suc (length rest - 1) ≡ suc (length rest) - 1 = omega arith in e) ∙ m.last in
    let n : suc (length rest) - 1 - 1 ≡ length rest - 1 = omega arith in
    let behind : rest ≡ take (length rest - 1) rest ++ 34 ∷ [] =
    last_apart rest (omega arith) ∙ ap (λ x. take (length rest - 1) rest ++ x ∷ []) last in
    ap (λ x. x ∷ rest) m.first ∙ ap (λ ys. 34 ∷ ys) (behind ∙ ap (λ j. take j rest ++ 34 ∷ []) (sym n))

marks_apart : (word : List ℕ) → Marks word → word ≡ quoted (inside word)
marks_apart [] m = absurd (let long : 2 ≤ 0 = m.long in omega arith)
marks_apart (b ∷ rest) m = between b rest m

caps_cases : (word text : List ℕ) (b : Bool) → (is_in_marks word && is_caps (inside word)) ≡ b → cond b (Some (inside word)) None ≡ Some text
    → IsTrue (is_caps text) × (word ≡ quoted text)
caps_cases word text false miss e = absurd (let p : None ≡ Some text = e in cc)
caps_cases word text true hit e =
    let parts = and_parts (is_in_marks word) (is_caps (inside word)) hit in
    let same : inside word ≡ text = cc in
    (rw (sym same) parts.1, marks_apart word (marks word parts.0) ∙ ap quoted same)

pub caps_of-is : (word text : List ℕ) → caps_of word ≡ Some text → IsTrue (is_caps text) × (word ≡ quoted text)
unfolding caps_of
caps_of-is word text e = caps_cases word text (is_in_marks word && is_caps (inside word)) refl e

inside_quoted : (text : List ℕ) → inside (quoted text) ≡ text
inside_quoted text =
    let n : suc (length (text ++ 34 ∷ [])) - 1 - 1 ≡ length text = omega (arith, length-append text (34 ∷ [])) in
    ap (λ j. take j (text ++ 34 ∷ [])) n ∙ take-append_seam text (34 ∷ [])

in_marks_quoted : (text : List ℕ) → is_in_marks (quoted text) ≡ true
in_marks_quoted text =
    let n : suc (length (text ++ 34 ∷ [])) - 1 ≡ suc (length text + 0) = omega (arith, length-append text (34 ∷ [])) in
    let last : get_or (34 ∷ (text ++ 34 ∷ [])) (suc (length (text ++ 34 ∷ [])) - 1) 0 ≡ 34 =
    ap (λ j. get_or (34 ∷ (text ++ 34 ∷ [])) j 0) n ∙ get_or-append-add text (34 ∷ []) 0 0 in
    let long : nat_le 2 (suc (length (text ++ 34 ∷ []))) ≡ true = grind (arith, nat_tests, length-append text (34 ∷ [])) in
    rw (long, last) refl

pub caps_of-quoted : (text : List ℕ) → IsTrue (is_caps text) → caps_of (quoted text) ≡ Some text
unfolding caps_of
caps_of-quoted text h = rw (in_marks_quoted text, inside_quoted text, h) refl

-- ---- pools, namespaces and objects

long_parts : (text : List ℕ) → is_long_part text ≡ true → IsTrue (is_part text) × (text ≡ part_word text)
long_parts [] h = absurd (let p : false ≡ true = h in cc)
long_parts (b ∷ bs) h = (h, refl)

long_cases : (word text : List ℕ) (b : Bool) → is_long_part word ≡ b → cond b (Some word) None ≡ Some text
    → IsTrue (is_part text) × (word ≡ part_word text)
long_cases word text false miss e = absurd (let p : None ≡ Some text = e in cc)
long_cases word text true hit e =
    let same : word ≡ text = cc in
    let parts = long_parts text (ap is_long_part (sym same) ∙ hit) in
    (parts.0, same ∙ parts.1)

part_cases : (word text : List ℕ) (b : Bool) → bytes_eq word (codes "-") ≡ b
    → cond b (Some []) (cond (is_long_part word) (Some word) None) ≡ Some text → IsTrue (is_part text) × (word ≡ part_word text)
part_cases word text true hit e =
    let same : [] ≡ text = cc in
    (ap is_part (sym same), (bytes_eq-Decides word (codes "-")).0 hit ∙ ap part_word same)
part_cases word text false miss e = long_cases word text (is_long_part word) refl e

pub part_of-is : (word text : List ℕ) → part_of word ≡ Some text → IsTrue (is_part text) × (word ≡ part_word text)
unfolding part_of
part_of-is word text e = part_cases word text (bytes_eq word (codes "-")) refl e

pub part_of-word : (text : List ℕ) → IsTrue (is_part text) → part_of (part_word text) ≡ Some text
unfolding part_of
part_of-word [] h = refl
part_of-word (b ∷ bs) h =
    let apart : bytes_eq (b ∷ bs) (codes "-") ≡ false = grind (arith, nat_tests, h) in
    let long : is_long_part (b ∷ bs) ≡ true = h in
    ap (λ t. cond t (Some []) (cond (is_long_part (b ∷ bs)) (Some (b ∷ bs)) None)) apart ∙ ap (λ t. cond t (Some (b ∷ bs)) None) long

-- ---- what the readers of words say

pub caps_spelled : (word : List ℕ) (read : Option (List ℕ)) → read ≡ caps_of word
    → IfSome read (λ caps. IsTrue (is_caps caps) × (word ≡ quoted caps))
caps_spelled word None e = tt
caps_spelled word (Some caps) e = caps_of-is word caps (sym e)
