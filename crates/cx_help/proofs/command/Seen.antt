-- Words are judged the same wherever they lie.
use Rattle.std.proofs.Common.{◌≡◌, ◌+◌, ℕ, List, [], ◌∷◌, map, Bor, Option, refl, ap, ◌∙◌}
use Rattle.cx_command_line.specs.declared.forms.Form.{Form}
use Rattle.cx_help.specs.command.Wrong.{or_later, wrong_at, wrong_from, wrong_seen}
use Rattle.cx_help.specs.declared.command_wrong.WrongUsage.{WrongUsage}

seen : (form : Form) (n : ℕ) (words : List (Bor (List ℕ))) → wrong_seen form n words ≡ wrong_from form n (map (λ w. w.now) words)
seen form n [] = refl
seen form n (word ∷ words) = ap (or_later (wrong_at form n word.now)) (seen form (n + 1) words)

pub seen_so : (form : Form) (words : List (Bor (List ℕ))) (found : Option WrongUsage) → found ≡ wrong_seen form 0 words → found ≡ wrong_from form 0 (map (λ w. w.now) words)
seen_so form words found is = is ∙ seen form 0 words
