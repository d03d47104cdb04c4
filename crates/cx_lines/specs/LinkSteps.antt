-- Lines on links: what is carried, lost, injected, carried again and cut.
use Rattle.std.specs.Prelude.{ℕ, nat_le, List, [], ◌∷◌, length, Option, Some, None, codes, if◌then◌else◌}
use Rattle.cx_words.specs.declared.known.Known.{Known}
use Rattle.cx_words.specs.declared.places.WordPlace.{WordPlace}
use Rattle.cx_words.specs.declared.places.WordPlace.TheVariants as at
use Rattle.cx_words.specs.lines.Choices.{chosen}
use Rattle.cx_words.specs.lines.Values.{Item, NumberOf, SideOf, BytesOf}
use Rattle.cx_lines.specs.declared.link_steps.LinkStep.{LinkStep}
use Rattle.cx_lines.specs.declared.link_steps.LinkStep.TheVariants.{Carry, Lose, Inject, Again, Cut}
use Rattle.cx_lines.specs.declared.link_steps.LinkForm.{LinkForm}
use Rattle.cx_lines.specs.declared.link_steps.LinkForm.TheVariants as form
use Rattle.cx_lines.specs.Found.{Family, IsFound}

-- the word that a line of each form begins with
abbrev pub link_word : LinkForm → List ℕ
link_word form.Carry = codes "carry"
link_word form.Lose = codes "lose"
link_word form.Inject = codes "inject"
link_word form.Again = codes "again"
link_word form.Cut = codes "cut"

-- the form that a first word begins, if it begins one
unfoldable pub link_form_of : List ℕ → Option LinkForm
link_form_of word = chosen link_word (form.Carry ∷ form.Lose ∷ form.Inject ∷ form.Again ∷ form.Cut ∷ []) word

-- the form of a line
abbrev pub link_form : LinkStep → LinkForm
link_form (Carry link side count) = form.Carry
link_form (Lose link side) = form.Lose
link_form (Inject link side bytes) = form.Inject
link_form (Again link side piece other) = form.Again
link_form (Cut link) = form.Cut

-- the places behind the first word, where these words stand there
abbrev pub link_places : LinkForm → List (List ℕ) → List WordPlace
link_places form.Carry words =
    if nat_le (length words) 2 then at.Number ∷ at.Side ∷ [] else at.Number ∷ at.Side ∷ at.Number ∷ []
link_places form.Lose words = at.Number ∷ at.Side ∷ []
link_places form.Inject words = at.Number ∷ at.Side ∷ at.Bytes ∷ []
link_places form.Again words = at.Number ∷ at.Side ∷ at.Number ∷ at.Number ∷ []
link_places form.Cut words = at.Number ∷ []

-- how many bytes, where it isn't all
abbrev pub count_items : Option ℕ → List Item
count_items None = []
count_items (Some n) = NumberOf n ∷ []

-- what stands behind the first word
abbrev pub link_items : LinkStep → List Item
link_items (Carry link side count) = NumberOf link ∷ SideOf side ∷ count_items count
link_items (Lose link side) = NumberOf link ∷ SideOf side ∷ []
link_items (Inject link side bytes) = NumberOf link ∷ SideOf side ∷ BytesOf bytes ∷ []
link_items (Again link side piece other) = NumberOf link ∷ SideOf side ∷ NumberOf piece ∷ NumberOf other ∷ []
link_items (Cut link) = NumberOf link ∷ []

-- lines on links as a family
abbrev pub link_steps : Family LinkForm LinkStep
link_steps = record { places = link_places; form = link_form; items = link_items }

abbrev pub IsLinkStep : Known → LinkForm → List (List ℕ) → Option LinkStep → Type 0
IsLinkStep known form words found = IsFound link_steps known [] form words found
