-- The laws of a line: what is spelled has no fault, words without a fault spell a line, and words spell one line.
use Rattle.std.proofs.Common.{◌≡◌, ℕ, ◌⊎◌, inl, inr, Bool, true, false, cond, List, [], ◌∷◌, ◌++◌, map, length, Option, Some, None, refl, sym, ap, ◌∙◌, arith}
use Rattle.std.specs.Prelude.{nat_lt, codes}
use Rattle.std.specs.Option.{option_map}
use Rattle.std.specs.Str.{bytes_eq}
use Rattle.std.proofs.lemmas.Bool.Decides.{nat_tests}
use Rattle.std.proofs.lemmas.Slice.Eq.{bytes_eq-Decides}
use Rattle.cx_words.specs.Words.{IsReadingWord}
use Rattle.cx_words.proofs.NumberWords.{reading_below}
use Rattle.cx_words.specs.declared.choices.CommandForm.TheVariants as command
use Rattle.cx_words.specs.declared.faults.FaultAt.{FaultAt}
use Rattle.cx_words.specs.declared.known.Known.{Known}
use Rattle.cx_words.specs.declared.places.WordPlace.TheVariants as at
use Rattle.cx_words.specs.lines.Choices.{command_form_of, command_word}
use Rattle.cx_words.specs.lines.Places.{are_good}
use Rattle.cx_words.specs.lines.Values.{Item, CommandOf, SpellsItems}
use Rattle.cx_words.proofs.lines.ChoiceLemmas.{command_form_of-is, command_form_of-word}
use Rattle.cx_words.proofs.lines.Faultless.{faultless, none_among}
use Rattle.cx_words.proofs.lines.ValueLemmas.{Values, all_good, as_many, items_back, place_of, read_items, values_in}
use Rattle.cx_lines.specs.declared.commands.LineCommand.{LineCommand}
use Rattle.cx_lines.specs.declared.lines.Head.{Head}
use Rattle.cx_lines.specs.declared.lines.Head.TheVariants as head
use Rattle.cx_lines.specs.declared.lines.Line.{Line}
use Rattle.cx_lines.specs.declared.lines.Line.TheVariants.{Setting, Submit, Do, Link, Node}
use Rattle.cx_lines.specs.declared.link_steps.LinkForm.TheVariants as link
use Rattle.cx_lines.specs.declared.node_steps.NodeForm.TheVariants as node
use Rattle.cx_lines.specs.declared.node_steps.NodeStep.TheVariants as step
use Rattle.cx_lines.specs.declared.settings.Setting.TheVariants as set
use Rattle.cx_lines.specs.declared.settings.SettingForm.TheVariants as setting
use Rattle.cx_lines.specs.declared.sight.BadWord.{BadWord}
use Rattle.cx_lines.specs.Commands.{command_form, command_places}
use Rattle.cx_lines.specs.Found.{SpellsIn}
use Rattle.cx_lines.specs.Knowing.{is_late, is_spent}
use Rattle.cx_lines.specs.Lines.{all_lines, behind_do, do_places, fault_of, fault_with, form_of, head_of, head_word, is_in_range, items, or_head, places, Spells, unknown_word}
use Rattle.cx_lines.specs.LinkSteps.{link_form_of}
use Rattle.cx_lines.specs.NodeSteps.{node_form_of}
use Rattle.cx_lines.specs.Settings.{setting_form_of}
use Rattle.cx_lines.specs.Sights.{bad_word_of, described}
use Rattle.cx_lines.proofs.CommandLaws.{command_back, command_found, command_from, command_placed}
use Rattle.cx_lines.proofs.LinkLaws.{link_back, link_form_of-is, link_found, link_from, link_placed}
use Rattle.cx_lines.proofs.NodeLaws.{node_back, node_form_of-is, node_found, node_from, node_placed}
use Rattle.cx_lines.proofs.SettingLaws.{setting_back, setting_form_of-is, setting_found, setting_from, setting_placed}

-- ---- the first word

pub head_back : (h : Head) → head_of (head_word h) ≡ Some h
unfolding command_form_of setting_form_of link_form_of node_form_of
head_back (head.Setting setting.Lifetime) = refl
head_back (head.Setting setting.AuthLifetime) = refl
head_back (head.Setting setting.Entity) = refl
head_back (head.Setting setting.Seed) = refl
head_back (head.Setting setting.Modes) = refl
head_back (head.Setting setting.Leak) = refl
head_back (head.Submit command.Fetch) = refl
head_back (head.Submit command.Login) = refl
head_back (head.Submit command.Renew) = refl
head_back (head.Submit command.Connect) = refl
head_back (head.Submit command.Send) = refl
head_back head.Do = refl
head_back (head.Link link.Carry) = refl
head_back (head.Link link.Lose) = refl
head_back (head.Link link.Inject) = refl
head_back (head.Link link.Again) = refl
head_back (head.Link link.Cut) = refl
head_back (head.Node node.Clock) = refl
head_back (head.Node node.DropSession) = refl
head_back (head.Node node.Tick) = refl
head_back (head.Node node.Restart) = refl
head_back (head.Node node.FailSave) = refl
head_back (head.Node node.Settle) = refl

either_head : (one other : Option Head) (h : Head) → or_head one other ≡ Some h → (one ≡ Some h) ⊎ (other ≡ Some h)
either_head None other h some = inr some
either_head (Some g) other h some = inl some

-- a form that was found in a family
in_family : {F : Type 0} (of : F → Head) (word_of : F → List ℕ) (word : List ℕ) (found : Option F) (h : Head) → ((f : F) → found ≡ Some f → word ≡ word_of f) → ((f : F) → word_of f ≡ head_word (of f)) → option_map of found ≡ Some h → word ≡ head_word h
in_family of word_of word None h is same some = absurd (let e : None ≡ Some h = some in cc)
in_family of word_of word (Some f) h is same some =
    let e : of f ≡ h = cc in
    is f refl ∙ same f ∙ ap head_word e

do_is : (word : List ℕ) (b : Bool) (h : Head) → bytes_eq word (codes "do") ≡ b → cond b (Some head.Do) None ≡ Some h → word ≡ head_word h
do_is word true h is some =
    let e : head.Do ≡ h = cc in
    (bytes_eq-Decides word (codes "do")).0 is ∙ ap head_word e
do_is word false h is some = absurd (let e : None ≡ Some h = some in cc)

is_node_head : (word : List ℕ) (h : Head) → (option_map head.Link (link_form_of word) ≡ Some h) ⊎ (option_map head.Node (node_form_of word) ≡ Some h) → word ≡ head_word h
is_node_head word h (inl some) = in_family head.Link (λ f. head_word (head.Link f)) word (link_form_of word) h (λ f e. link_form_of-is word f e) (λ f. refl) some
is_node_head word h (inr some) = in_family head.Node (λ f. head_word (head.Node f)) word (node_form_of word) h (λ f e. node_form_of-is word f e) (λ f. refl) some

-- the head that is found has the word
pub is_head : (word : List ℕ) (h : Head) → head_of word ≡ Some h → word ≡ head_word h
is_head word h some =
    let last = or_head (option_map head.Link (link_form_of word)) (option_map head.Node (node_form_of word)) in
    let told = cond (bytes_eq word (codes "do")) (Some head.Do) None in
    elim (either_head (option_map head.Submit (command_form_of word)) _ h some) [
      | inl e ↦ in_family head.Submit command_word word (command_form_of word) h (λ f i. command_form_of-is word f i) (λ f. refl) e
      | inr more ↦ elim (either_head (option_map head.Setting (setting_form_of word)) (or_head told last) h more) [
        | inl e ↦ in_family head.Setting (λ f. head_word (head.Setting f)) word (setting_form_of word) h (λ f i. setting_form_of-is word f i) (λ f. refl) e
        | inr more ↦ elim (either_head told last h more) [
          | inl e ↦ do_is word (bytes_eq word (codes "do")) h refl e
          | inr more ↦ is_node_head word h (either_head (option_map head.Link (link_form_of word)) (option_map head.Node (node_form_of word)) h more)
        ]
      ]
    ]

-- ---- the places of a line that is spelled

placed : (known : Known) (before : List (List ℕ)) (line : Line) (ws : List (List ℕ)) → SpellsItems known before (items line) ws → places (form_of line) ws ≡ map place_of (items line)
placed k b (Setting s) ws p = setting_placed k b s ws p
placed k b (Submit c) ws p = command_placed k b c ws p
placed k b (Do c) [] p = absurd p
placed k b (Do c) (w ∷ ws) p =
    let found : command_form_of w ≡ Some (command_form c) = ap command_form_of p.0 ∙ command_form_of-word (command_form c) in
    ap (λ ps. at.Command ∷ ps) (ap (λ f. behind_do f ws) found ∙ command_placed k (b ++ w ∷ []) c ws p.1)
placed k b (Link s) ws p = link_placed k b s ws p
placed k b (Node s) ws p = node_placed k b s ws p

-- ---- what is spelled has no fault

pub clean : (known : Known) (line : Line) (words : List (List ℕ)) → Spells known line words → fault_of known words ≡ None
clean k line [] p = absurd p
clean k line (w ∷ ws) p =
    let form = form_of line in
    let own = placed k [] line ws p.1 in
    let same : length (places form ws) ≡ length ws = ap length own ∙ as_many k [] (items line) ws p.1 in
    let good : are_good k [] (places form ws) ws ≡ true = ap (λ ps. are_good k [] ps ws) own ∙ all_good k [] (items line) ws p.1 in
    let found : head_of w ≡ Some form = ap head_of p.0 ∙ head_back form in
    ap (fault_with k ws) found ∙ none_among k (is_spent k form) (is_late k form) (places form ws) ws same good p.2 p.3

-- ---- words spell one line

abbrev do_from : List Item → Option LineCommand
do_from (CommandOf f ∷ rest) = command_from f rest
do_from _ = None

abbrev line_from : Head → List Item → Option Line
line_from (head.Setting f) is = option_map Setting (setting_from f is)
line_from (head.Submit f) is = option_map Submit (command_from f is)
line_from head.Do is = option_map Do (do_from is)
line_from (head.Link f) is = option_map Link (link_from f is)
line_from (head.Node f) is = option_map Node (node_from f is)

line_back : (line : Line) → line_from (form_of line) (items line) ≡ Some line
line_back (Setting s) = ap (option_map Setting) (setting_back s)
line_back (Submit c) = ap (option_map Submit) (command_back c)
line_back (Do c) = ap (option_map Do) (command_back c)
line_back (Link s) = ap (option_map Link) (link_back s)
line_back (Node s) = ap (option_map Node) (node_back s)

-- words spell one line, whatever is known
pub unique : (known others : Known) (line other : Line) (words : List (List ℕ)) → Spells known line words → Spells others other words → line ≡ other
unique k l line other [] p q = absurd p
unique k l line other (w ∷ ws) p q =
    let heads : Some (form_of line) ≡ Some (form_of other) = sym (head_back (form_of line)) ∙ ap head_of (sym p.0 ∙ q.0) ∙ head_back (form_of other) in
    let same : form_of line ≡ form_of other = cc in
    let one = placed k [] line ws p.1 in
    let two = placed l [] other ws q.1 in
    let read = items_back k [] (items line) ws p.1 in
    let again = items_back l [] (items other) ws q.1 in
    let places_same : map place_of (items line) ≡ map place_of (items other) = sym one ∙ ap (λ h. places h ws) same ∙ two in
    let all : Some (items line) ≡ Some (items other) = sym read ∙ ap (λ ps. read_items ps ws) places_same ∙ again in
    let all_same : items line ≡ items other = cc in
    let found : Some line ≡ Some other = sym (line_back line) ∙ ap (λ h. line_from h (items line)) same ∙ ap (line_from (form_of other)) all_same ∙ line_back other in
    cc

-- ---- words without a fault spell a line

do_found : (known : Known) (before ws : List (List ℕ)) → Values known before (do_places ws) ws → (line : Line) × SpellsIn all_lines known before head.Do ws line
do_found k b [] v = absurd v
do_found k b (w ∷ ws) v =
    let is : command_form_of w ≡ Some v.0.0 = ap command_form_of v.0.1 ∙ command_form_of-word v.0.0 in
    let rest : Values k (b ++ w ∷ []) (command_places v.0.0 ws) ws = rw is at v.1 in
    let found = command_found k (b ++ w ∷ []) v.0.0 ws rest in
    (Do found.0, (refl, (v.0.1 ∙ ap command_word found.1.0, found.1.1)))

found : (known : Known) (before : List (List ℕ)) (form : Head) (ws : List (List ℕ)) → Values known before (places form ws) ws → (line : Line) × SpellsIn all_lines known before form ws line
found k b (head.Setting f) ws v = let x = setting_found k b f ws v in (Setting x.0, (ap head.Setting x.1.0, x.1.1))
found k b (head.Submit f) ws v = let x = command_found k b f ws v in (Submit x.0, (ap head.Submit x.1.0, x.1.1))
found k b head.Do ws v = do_found k b ws v
found k b (head.Link f) ws v = let x = link_found k b f ws v in (Link x.0, (ap head.Link x.1.0, x.1.1))
found k b (head.Node f) ws v = let x = node_found k b f ws v in (Node x.0, (ap head.Node x.1.0, x.1.1))

with_head : (known : Known) (word : List ℕ) (words : List (List ℕ)) (found : Option Head) → head_of word ≡ found → fault_with known words found ≡ None → (line : Line) × Spells known line (word ∷ words)
with_head k word words None is none = absurd (let x : Some unknown_word ≡ None = none in cc)
with_head k word words (Some form) is none =
    let free = faultless k (is_spent k form) (is_late k form) (places form words) words none in
    let line = found k [] form words (values_in k [] (places form words) words free.good) in
    let same : form ≡ form_of line.0 = line.1.0 in
    (line.0, (is_head word form is ∙ ap head_word same, line.1.1, rw (← same) free.once, rw (← same) free.early))

-- words without a fault spell a line
pub spelled : (known : Known) (words : List (List ℕ)) → fault_of known words ≡ None → (line : Line) × Spells known line words
spelled k [] none = absurd (let x : Some unknown_word ≡ None = none in cc)
spelled k (word ∷ words) none = with_head k word words (head_of word) refl none

-- ---- what stands where a line is wrong

sees_none : (known : Known) (words : List (List ℕ)) (found : Option FaultAt) → fault_of known words ≡ found → bad_word_of known words ≡ None → fault_of known words ≡ None
sees_none k words None is none = is
sees_none k words (Some fault) is none = absurd (let x : Some (described words fault) ≡ None = sym (ap (option_map (described words)) is) ∙ none in cc)

-- words of which nothing is bad spell a line
pub seen_spelled : (known : Known) (words : List (List ℕ)) → bad_word_of known words ≡ None → (line : Line) × Spells known line words
seen_spelled k words none = spelled k words (sees_none k words (fault_of k words) refl none)

-- of what is spelled nothing is bad
pub seen_clean : (known : Known) (line : Line) (words : List (List ℕ)) → Spells known line words → bad_word_of known words ≡ None
seen_clean k line words p = ap (option_map (described words)) (clean k line words p)

-- words of this first fault are refused for it
pub caused : (known : Known) (words : List (List ℕ)) (fault : FaultAt) (bad : BadWord) → fault_of known words ≡ Some fault → bad ≡ described words fault → bad_word_of known words ≡ Some bad
caused k words fault bad is same = ap (option_map (described words)) is ∙ ap (λ b. Some b) (sym same)

-- ---- the numbers of a line

reading_range : (word : List ℕ) (reading : ℕ) → IsReadingWord word reading → nat_lt reading 4000000000000000000 ≡ true
reading_range word reading is = let low = reading_below word reading is in grind (arith, nat_tests, low)

items_range : (known : Known) (line : Line) (ws : List (List ℕ)) → SpellsItems known [] (items line) ws → is_in_range line ≡ true
items_range k (Setting (set.Lifetime s)) [] p = absurd p
items_range k (Setting (set.Lifetime s)) (v ∷ vs) p = p.0.0
items_range k (Setting (set.AuthLifetime s)) [] p = absurd p
items_range k (Setting (set.AuthLifetime s)) (v ∷ vs) p = p.0.0
items_range k (Setting (set.Entity n gs)) ws p = refl
items_range k (Setting (set.Seed n s)) ws p = refl
items_range k (Setting (set.Modes c m)) ws p = refl
items_range k (Setting (set.Leak c)) ws p = refl
items_range k (Submit c) ws p = refl
items_range k (Do c) ws p = refl
items_range k (Link s) ws p = refl
items_range k (Node (step.Clock r)) [] p = absurd p
items_range k (Node (step.Clock r)) (v ∷ vs) p = reading_range v r p.0
items_range k (Node (step.ClockOf n r)) [] p = absurd p
items_range k (Node (step.ClockOf n r)) (w ∷ []) p = absurd p.1
items_range k (Node (step.ClockOf n r)) (w ∷ v ∷ vs) p = reading_range v r p.1.0
items_range k (Node (step.DropSession d s)) ws p = refl
items_range k (Node (step.Tick n)) ws p = refl
items_range k (Node (step.Restart n)) ws p = refl
items_range k (Node (step.FailSave s)) ws p = refl
items_range k (Node step.Settle) ws p = refl

-- what is spelled is in its ranges
pub in_range : (known : Known) (line : Line) (words : List (List ℕ)) → Spells known line words → is_in_range line ≡ true
in_range k line [] p = absurd p
in_range k line (w ∷ ws) p = items_range k line ws p.1
