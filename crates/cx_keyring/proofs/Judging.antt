-- The first line that is wrong, from one line to the next.
use Rattle.std.proofs.Common.{◌≡◌, ℕ, ◌+◌, ◌-◌, ◌<◌, ◌≤◌, Bool, List, [], ◌∷◌, ◌++◌, length, take, drop, get_or, Option, Some, None, refl, sym, ap, ◌∙◌, arith, add-one, drop-cons, length-drop, suc}
use Rattle.std.specs.Prelude.{is_some}
use Rattle.std.specs.List.{list_any}
use Rattle.std.proofs.lemmas.List.{take_more, length-take-le, take-append-drop, drop-append-le}
use Rattle.std.proofs.Math.Seq.{take-append_seam}
use Rattle.cx_base.specs.Names.{Name}
use Rattle.cx_words.proofs.FirstPlace.{take_rest}
use Rattle.cx_keyring.specs.declared.faults.KeyringFault.{KeyringFault}
use Rattle.cx_keyring.specs.declared.judge.Judged.{Judged}
use Rattle.cx_keyring.specs.declared.lines.Line.{Line}
use Rattle.cx_keyring.specs.declared.lines.Line.TheVariants as lines
use Rattle.cx_keyring.specs.Faults.{body_of, fault_at, fault_of, first_bad, is_keyless, is_repeated, is_section, is_section_of, or_later}
use Rattle.cx_keyring.specs.Indexed.{place_of}
use Rattle.cx_keyring.specs.Judged.{Judges}

-- two tests of names that agree
pub is_repeated_same : (f g : Name → Bool) (body : List Line) (line : Line) → ((name : Name) → f name ≡ g name) → is_repeated f body line ≡ is_repeated g body line
is_repeated_same f g body lines.Skipped same = refl
is_repeated_same f g body (lines.Section (Some name)) same = same name
is_repeated_same f g body (lines.Section None) same = refl
is_repeated_same f g body (lines.Key key) same = refl
is_repeated_same f g body (lines.Caps (Some service) text) same = refl
is_repeated_same f g body (lines.Caps None text) same = refl
is_repeated_same f g body lines.Other same = refl

-- the lines from a place on, as far as another
drop_take : {X : Type 0} (start i : ℕ) (xs : List X) → start ≤ i → i ≤ length xs → take (i - start) (drop start xs) ≡ drop start (take i xs)
drop_take {X} start i xs under within =
    let cut = take-append-drop i xs in
    let n : length (take i xs) ≡ i = length-take-le i xs within in
    let le : start ≤ length (take i xs) = omega arith in
    let m : length (drop start (take i xs)) ≡ i - start = simp length-drop (omega arith) in
    ap (λ (ys : List X). take (i - start) (drop start ys)) (sym cut)
    ∙ ap (λ (ys : List X). take (i - start) ys) (drop-append-le start (take i xs) (drop i xs) le)
    ∙ ap (λ k. take k (drop start (take i xs) ++ drop i xs)) (sym m)
    ∙ take-append_seam (drop start (take i xs)) (drop i xs)

-- one line is judged
pub judged_line : (judged : Judged) (all : List Line) (i : ℕ) (line : Line) (repeated keyless : Bool) (fault : Option KeyringFault)
    → i < length all → line ≡ get_or all i line → Judges judged (take i all)
    → repeated ≡ is_repeated (λ name. is_some (place_of judged.names.ids name)) (take (i - judged.start) (drop judged.start all)) line
    → keyless ≡ is_keyless line (take (length all - (i + 1)) (drop (i + 1) all))
    → fault ≡ fault_of judged.begun repeated keyless line
    → first_bad (take i all) (drop i all) ≡ or_later (i + 1) fault (first_bad (take (i + 1) all) (drop (i + 1) all))
judged_line judged all i line repeated keyless fault here is judges is_rep is_less is_fault =
    let n : length (take i all) ≡ i = length-take-le i all (omega arith) in
    let under : judged.start ≤ i = omega (arith, judges.within) in
    let cut : drop i all ≡ line ∷ drop (i + 1) all = rw (add-one, drop-cons all i line) (ap (λ (x : Line). x ∷ drop (suc i) all) (sym is)) in
    let body : take (i - judged.start) (drop judged.start all) ≡ body_of (take i all) = drop_take judged.start i all under (omega arith) ∙ judges.body in
    let more : take i all ++ line ∷ [] ≡ take (i + 1) all = ap (λ (x : Line). take i all ++ x ∷ []) is ∙ sym (take_more all i line here) in
    let same = is_repeated_same (λ name. is_some (place_of judged.names.ids name)) (λ name. list_any (is_section_of name) (take i all)) (body_of (take i all)) line judges.named in
    let repeats = is_rep ∙ ap (λ (b : List Line). is_repeated (λ name. is_some (place_of judged.names.ids name)) b line) body ∙ same in
    let less = is_less ∙ ap (is_keyless line) (take_rest (i + 1) all) in
    let wrong : fault ≡ fault_at (take i all) line (drop (i + 1) all) =
    is_fault ∙ ap (λ b. fault_of b repeated keyless line) judges.begun
    ∙ ap (λ b. fault_of (list_any is_section (take i all)) b keyless line) repeats
    ∙ ap (λ b. fault_of (list_any is_section (take i all)) (is_repeated (λ name. list_any (is_section_of name) (take i all)) (body_of (take i all)) line) b line) less in
    ap (first_bad (take i all)) cut
    ∙ ap (λ k. or_later (k + 1) (fault_at (take i all) line (drop (i + 1) all)) (first_bad (take i all ++ line ∷ []) (drop (i + 1) all))) n
    ∙ ap (λ f. or_later (i + 1) f (first_bad (take i all ++ line ∷ []) (drop (i + 1) all))) (sym wrong)
    ∙ ap (λ (before : List Line). or_later (i + 1) fault (first_bad before (drop (i + 1) all))) more
