-- Blanks at the end of a text.
use Rattle.std.proofs.Common.{◌≡◌, ℕ, ◌-◌, ◌+◌, ◌≤◌, Bool, true, false, List, [], ◌∷◌, ◌++◌, length, take, get_or, refl, sym, ap, ◌∙◌, arith}
use Rattle.std.specs.Prelude.{◌&&◌}
use Rattle.std.specs.List.{list_all}
use Rattle.std.proofs.Math.Seq.{take-length}
use Rattle.std.proofs.lemmas.List.{take_more}
use Rattle.std.proofs.lemmas.List.Folds.{list_all-append}
use Rattle.cx_keyring.specs.Lines.{is_blank, without_back}

and_false : (b : Bool) → (b && false) ≡ false
and_false true = refl
and_false false = refl

and_true : (b : Bool) → (b && true) ≡ b
and_true true = refl
and_true false = refl

-- a text that ends in no blank
pub kept_end : (text : List ℕ) (last : ℕ) → is_blank last ≡ false → without_back (text ++ last ∷ []) ≡ text ++ last ∷ []
kept_end [] last inked = rw inked refl
kept_end (b ∷ text) last inked =
    let some : list_all is_blank (b ∷ (text ++ last ∷ [])) ≡ false = list_all-append is_blank (b ∷ text) (last ∷ []) ∙ rw inked (and_false (list_all is_blank (b ∷ text))) in
    rw (some, kept_end text last inked) refl

-- a text that ends in a blank
pub dropped_end : (text : List ℕ) (last : ℕ) → is_blank last ≡ true → without_back (text ++ last ∷ []) ≡ without_back text
dropped_end [] last blank = rw blank refl
dropped_end (b ∷ text) last blank =
    let all : list_all is_blank (b ∷ (text ++ last ∷ [])) ≡ list_all is_blank (b ∷ text) = list_all-append is_blank (b ∷ text) (last ∷ []) ∙ rw blank (and_true (list_all is_blank (b ∷ text))) in
    rw (all, dropped_end text last blank) refl

-- a text by its last byte
pub last_split : (text : List ℕ) → 1 ≤ length text → take (length text - 1) text ++ get_or text (length text - 1) 0 ∷ [] ≡ text
last_split text some =
    let more = take_more text (length text - 1) 0 (omega arith) in
    let n : length text - 1 + 1 ≡ length text = omega arith in
    sym more ∙ ap (λ k. take k text) n ∙ take-length text

pub kept_last : (text : List ℕ) → 1 ≤ length text → is_blank (get_or text (length text - 1) 0) ≡ false → without_back text ≡ text
kept_last text some inked =
    let split = last_split text some in
    ap without_back (sym split) ∙ kept_end (take (length text - 1) text) (get_or text (length text - 1) 0) inked ∙ split

pub dropped_last : (text : List ℕ) → 1 ≤ length text → is_blank (get_or text (length text - 1) 0) ≡ true → without_back (take (length text - 1) text) ≡ without_back text
dropped_last text some blank =
    let split = last_split text some in
    sym (dropped_end (take (length text - 1) text) (get_or text (length text - 1) 0) blank) ∙ ap without_back split
