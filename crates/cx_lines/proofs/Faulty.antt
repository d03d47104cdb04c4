-- Why the words behind a first word have a fault.
use Rattle.std.proofs.Common.{◌≡◌, ℕ, true, false, List, [], None, Option, Some, Result, Ok, Err, sym, ◌∙◌}
use Rattle.std.specs.Prelude.{IfNone, IfOk, IfSome}
use Rattle.cx_words.specs.declared.known.Known.{Known}
use Rattle.cx_words.specs.lines.Places.{is_whole}
use Rattle.cx_words.proofs.lines.Faultless.{faultless}
use Rattle.cx_lines.specs.declared.lines.Head.{Head}
use Rattle.cx_lines.specs.Knowing.{is_late, is_spent}
use Rattle.cx_lines.specs.Lines.{IsFaulty, IsLine, SpellsHere, places}
use Rattle.cx_lines.specs.declared.lines.Line.{Line}

pub not_whole : (known : Known) (form : Head) (words : List (List ℕ)) → is_whole known [] (places form words) words ≡ false → IsFaulty known form words
not_whole k form ws is none =
    absurd (let x : true ≡ false = sym (faultless k (is_spent k form) (is_late k form) (places form ws) ws none).whole ∙ is in cc)

pub not_again : (known : Known) (form : Head) (words : List (List ℕ)) → is_spent known form ≡ true → IsFaulty known form words
not_again k form ws is none =
    absurd (let x : true ≡ false = sym is ∙ (faultless k (is_spent k form) (is_late k form) (places form ws) ws none).once in cc)

pub not_late : (known : Known) (form : Head) (words : List (List ℕ)) → is_late known form ≡ true → IsFaulty known form words
not_late k form ws is none =
    absurd (let x : true ≡ false = sym is ∙ (faultless k (is_spent k form) (is_late k form) (places form ws) ws none).early in cc)

pub found_here : {E : Type 0} (known : Known) (form : Head) (words : List (List ℕ)) (result : Result (Option Line) E) → is_spent known form ≡ false → is_late known form ≡ false → IfOk result (IsLine known form words) → IfOk result (λ found. IfSome found (SpellsHere known form words))
found_here k form ws (Ok (Some line)) once early found = (found, once, early)
found_here k form ws (Ok None) once early found = tt
found_here k form ws (Err e) once early found = tt

pub unfound_here : {E : Type 0} (known : Known) (form : Head) (words : List (List ℕ)) (result : Result (Option Line) E) → IfOk result (IsLine known form words) → IfOk result (λ found. IfNone found (IsFaulty known form words))
unfound_here k form ws (Ok (Some line)) found = tt
unfound_here k form ws (Ok None) found = not_whole k form ws found
unfound_here k form ws (Err e) found = tt
