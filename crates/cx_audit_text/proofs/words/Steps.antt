-- One word and its place more.
use Rattle.std.proofs.Common.{◌≡◌, ℕ, ◌+◌, ◌<◌, cond, List, [], ◌∷◌, map, length, get_or, drop, Some, refl, ap, ◌∙◌, arith, length-drop}
use Rattle.std.proofs.lemmas.List.{drop_more}
use Rattle.std.proofs.Math.Seq.{drop-length}
use Rattle.cx_audit_text.specs.words.Items.{is_good}
use Rattle.cx_audit_text.specs.words.Wrong.{wrong_from}
use Rattle.cx_audit_text.specs.declared.judge.WrongWord.TheVariants.{Extra, Unfit}
use Rattle.cx_audit_text.specs.declared.words_places.CountedAbove.{CountedAbove}
use Rattle.cx_audit_text.specs.declared.words_places.JournalPlace.{JournalPlace}

pub wrong_step : {A : Type 0} (f : A → List ℕ) (counted : CountedAbove) (number : ℕ) (ps : List JournalPlace) (ws : List A) (i : ℕ) (p : JournalPlace) (w : A) → i < length ps → i < length ws
    → wrong_from counted (number + i) (drop i ps) (map f (drop i ws))
    ≡ cond (is_good counted (get_or ps i p) (f (get_or ws i w))) (wrong_from counted (number + i + 1) (drop (i + 1) ps) (map f (drop (i + 1) ws))) (Some (Unfit (number + i) (get_or ps i p)))
wrong_step f counted number ps ws i p w low also = rw (drop_more ps i p low, drop_more ws i w also) refl

left : {A : Type 0} (f : A → List ℕ) (counted : CountedAbove) (n : ℕ) (ws : List A) → 0 < length ws → wrong_from counted n [] (map f ws) ≡ Some (Extra n)
left f counted n [] some = absurd (omega (arith, some))
left f counted n (w ∷ ws) some = refl

-- where no place is left, the next word is too many
pub extra_here : {A : Type 0} (f : A → List ℕ) (counted : CountedAbove) (number i shared : ℕ) (ps : List JournalPlace) (ws : List A) → i ≡ shared → i ≡ length ps → i < length ws
    → wrong_from counted (number + i) (drop i ps) (map f (drop i ws)) ≡ Some (Extra (number + shared))
extra_here f counted number i shared ps ws same all more =
    let none : drop i ps ≡ [] = rw (all, drop-length) refl in
    let some : 0 < length (drop i ws) = omega (arith, length-drop i ws, more) in
    ap (λ qs. wrong_from counted (number + i) qs (map f (drop i ws))) none ∙ left f counted (number + i) (drop i ws) some ∙ ap (λ k. Some (Extra (number + k))) same
