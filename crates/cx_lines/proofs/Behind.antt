-- A command behind do is judged as it is alone: what stands before its words decides nothing.
use Rattle.std.proofs.Common.{◌≡◌, ℕ, ◌+◌, Bool, true, false, List, [], ◌∷◌, ◌++◌, length, Option, Some, None, Result, Ok, Err, IfOk, refl, sym, ap, ◌∙◌, arith, add-one, suc}
use Rattle.std.specs.Prelude.{◌==◌, ◌&&◌, nat_le, cond}
use Rattle.std.specs.List.{list_all}
use Rattle.std.proofs.lemmas.Bool.{and_parts}
use Rattle.std.proofs.lemmas.Bool.Decides.{nat_tests}
use Rattle.cx_words.specs.declared.choices.CommandForm.{CommandForm}
use Rattle.cx_words.specs.declared.choices.CommandForm.TheVariants as form
use Rattle.cx_words.specs.declared.known.Known.{Known}
use Rattle.cx_words.specs.declared.places.WordPlace.{WordPlace}
use Rattle.cx_words.specs.declared.places.WordPlace.TheVariants as at
use Rattle.cx_words.specs.lines.Choices.{command_form_of, command_word}
use Rattle.cx_words.specs.lines.Places.{are_good, is_good, is_whole}
use Rattle.cx_words.specs.lines.Values.{Item, ServiceOf, SpellsItem, SpellsItems}
use Rattle.cx_words.proofs.lines.ChoiceLemmas.{command_form_of-is}
use Rattle.cx_lines.specs.declared.commands.LineCommand.{LineCommand}
use Rattle.cx_lines.specs.declared.commands.LineCommand.TheVariants.{Fetch, Login, Renew, Connect, Send}
use Rattle.cx_lines.specs.Commands.{command_items, command_places, IsCommand}
use Rattle.cx_lines.specs.Lines.{behind_do, do_places, IsDo}

-- whether the words before it decide nothing at a place
abbrev is_free : WordPlace → Bool
is_free at.Service = false
is_free _ = true

free_good : (known : Known) (b c : List (List ℕ)) (place : WordPlace) (word : List ℕ) → is_free place ≡ true → is_good known b place word ≡ is_good known c place word
free_good k b c at.Service w free = absurd (let e : false ≡ true = free in cc)
free_good k b c p w free = refl

free_all : (known : Known) (b c : List (List ℕ)) (places : List WordPlace) (words : List (List ℕ)) → list_all is_free places ≡ true → are_good known b places words ≡ are_good known c places words
free_all k b c [] [] free = refl
free_all k b c [] (w ∷ ws) free = refl
free_all k b c (p ∷ ps) [] free = refl
free_all k b c (p ∷ ps) (w ∷ ws) free =
    let parts = and_parts (is_free p) (list_all is_free ps) free in
    ap (λ good. good && are_good k (b ++ w ∷ []) ps ws) (free_good k b c p w parts.0)
    ∙ ap (λ good. is_good k c p w && good) (free_all k (b ++ w ∷ []) (c ++ w ∷ []) ps ws parts.1)

free_either : (b : Bool) (ps qs : List WordPlace) → list_all is_free ps ≡ true → list_all is_free qs ≡ true → list_all is_free (cond b ps qs) ≡ true
free_either true ps qs p q = p
free_either false ps qs p q = q

free_places : (f : CommandForm) (words : List (List ℕ)) → list_all is_free (command_places f words) ≡ true
free_places form.Fetch ws = refl
free_places form.Login ws = free_either (nat_le (length ws) 1) (at.Client ∷ []) (at.Client ∷ at.Services ∷ []) refl refl
free_places form.Renew ws = refl
free_places form.Connect ws = free_either (nat_le (length ws) 2) (at.Client ∷ at.Daemon ∷ []) (at.Client ∷ at.Daemon ∷ at.Lossy ∷ []) refl refl
free_places form.Send ws = refl

-- whether the words before it decide nothing of a value
abbrev is_free_item : Item → Bool
is_free_item (ServiceOf kind) = false
is_free_item _ = true

free_item : (known : Known) (b c : List (List ℕ)) (item : Item) (word : List ℕ) → is_free_item item ≡ true → SpellsItem known b item word → SpellsItem known c item word
free_item k b c (ServiceOf kind) w free p = absurd (let e : false ≡ true = free in cc)
free_item k b c i w free p = p

free_items : (known : Known) (b c : List (List ℕ)) (items : List Item) (words : List (List ℕ)) → list_all is_free_item items ≡ true → SpellsItems known b items words → SpellsItems known c items words
free_items k b c [] [] free p = tt
free_items k b c [] (w ∷ ws) free p = absurd p
free_items k b c (i ∷ is) [] free p = absurd p
free_items k b c (i ∷ is) (w ∷ ws) free p =
    let parts = and_parts (is_free_item i) (list_all is_free_item is) free in
    (free_item k b c i w parts.0 p.0, free_items k (b ++ w ∷ []) (c ++ w ∷ []) is ws parts.1 p.1)

free_command : (command : LineCommand) → list_all is_free_item (command_items command) ≡ true
free_command (Fetch d) = refl
free_command (Login c []) = refl
free_command (Login c (s ∷ ss)) = refl
free_command (Renew c ss) = refl
free_command (Connect c d false) = refl
free_command (Connect c d true) = refl
free_command (Send c d o) = refl

one_more : (a b : ℕ) → (suc a == suc b) ≡ (a == b)
one_more a b =
    let e : (a + 1 == b + 1) ≡ (a == b) = grind (arith, nat_tests) in
    simp add-one at e

same_length : (place : WordPlace) (places : List WordPlace) (word : List ℕ) (words : List (List ℕ)) → (length (place ∷ places) == length (word ∷ words)) ≡ (length places == length words)
same_length place places word words = one_more (length places) (length words)

whole_behind : (known : Known) (f : CommandForm) (word : List ℕ) (words : List (List ℕ)) → command_form_of word ≡ Some f → is_whole known [] (command_places f words) words ≡ false → is_whole known [] (do_places (word ∷ words)) (word ∷ words) ≡ false
whole_behind k f w ws is bad =
    let ps = command_places f ws in
    let places : do_places (w ∷ ws) ≡ at.Command ∷ ps = ap (λ g. at.Command ∷ behind_do g ws) is in
    let first : is_good k [] at.Command w ≡ true = rw is refl in
    ap (λ qs. is_whole k [] qs (w ∷ ws)) places
    ∙ ap (λ b. b && (is_good k [] at.Command w && are_good k (w ∷ []) ps ws)) (same_length at.Command ps w ws)
    ∙ ap (λ b. (length ps == length ws) && (b && are_good k (w ∷ []) ps ws)) first
    ∙ ap (λ b. (length ps == length ws) && b) (free_all k (w ∷ []) [] ps ws (free_places f ws))
    ∙ bad

found_behind : (known : Known) (f : CommandForm) (word : List ℕ) (words : List (List ℕ)) (found : Option LineCommand) → command_form_of word ≡ Some f → IsCommand known [] f words found → IsDo known (word ∷ words) found
found_behind k f w ws None is bad = whole_behind k f w ws is bad
found_behind k f w ws (Some c) is p =
    (command_form_of-is w f is ∙ ap command_word p.0, free_items k [] (w ∷ []) (command_items c) ws (free_command c) p.1)

-- a command is what stands behind do
pub command_behind : {E : Type 0} (known : Known) (f : CommandForm) (word : List ℕ) (words : List (List ℕ)) (result : Result (Option LineCommand) E) → Some f ≡ command_form_of word → IfOk result (IsCommand known [] f words) → IfOk result (IsDo known (word ∷ words))
command_behind k f w ws (Ok found) is p = found_behind k f w ws found (sym is) p
command_behind k f w ws (Err e) is p = tt
