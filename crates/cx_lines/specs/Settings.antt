-- Head lines, which stand before all others: the lives of secrets and tickets, the entities, the seeds of nodes, the modes of
-- clients, and the clients that are leaked.
use Rattle.std.specs.Prelude.{ℕ, List, [], ◌∷◌, Option, codes}
use Rattle.cx_words.specs.declared.known.Known.{Known}
use Rattle.cx_words.specs.declared.places.WordPlace.{WordPlace}
use Rattle.cx_words.specs.declared.places.WordPlace.TheVariants as at
use Rattle.cx_words.specs.lines.Choices.{chosen}
use Rattle.cx_words.specs.lines.Values.{Item, LifeOf, NumberOf, EntityOf, ServiceOf, CapsOf, UnmodedOf, UnleakedOf, UnseededOf, ModesOf}
use Rattle.cx_base.specs.declared.grants.Grant.{Grant}
use Rattle.cx_lines.specs.declared.settings.Setting.{Setting}
use Rattle.cx_lines.specs.declared.settings.Setting.TheVariants.{Lifetime, AuthLifetime, Entity, Seed, Modes, Leak}
use Rattle.cx_lines.specs.declared.settings.SettingForm.{SettingForm}
use Rattle.cx_lines.specs.declared.settings.SettingForm.TheVariants as form
use Rattle.cx_lines.specs.Found.{Family, IsFound}

-- the word that a line of each form begins with
abbrev pub setting_word : SettingForm → List ℕ
setting_word form.Lifetime = codes "lifetime"
setting_word form.AuthLifetime = codes "auth-lifetime"
setting_word form.Entity = codes "entity"
setting_word form.Seed = codes "seed"
setting_word form.Modes = codes "modes"
setting_word form.Leak = codes "leak"

-- the form that a first word begins, if it begins one
unfoldable pub setting_form_of : List ℕ → Option SettingForm
setting_form_of word =
    chosen setting_word (form.Lifetime ∷ form.AuthLifetime ∷ form.Entity ∷ form.Seed ∷ form.Modes ∷ form.Leak ∷ []) word

-- the form of a line
abbrev pub setting_form : Setting → SettingForm
setting_form (Lifetime seconds) = form.Lifetime
setting_form (AuthLifetime seconds) = form.AuthLifetime
setting_form (Entity name grants) = form.Entity
setting_form (Seed node seed) = form.Seed
setting_form (Modes client modes) = form.Modes
setting_form (Leak client) = form.Leak

-- the places of an entity's pairs of a service and its caps, where these words stand behind its name
abbrev pub pair_places : List (List ℕ) → List WordPlace
pair_places [] = []
pair_places (service ∷ []) = at.Service ∷ at.Caps ∷ []
pair_places (service ∷ caps ∷ words) = at.Service ∷ at.Caps ∷ pair_places words

abbrev pub entity_places : List (List ℕ) → List WordPlace
entity_places [] = at.Entity ∷ []
entity_places (name ∷ pairs) = at.Entity ∷ pair_places pairs

-- the places behind the first word, where these words stand there
abbrev pub setting_places : SettingForm → List (List ℕ) → List WordPlace
setting_places form.Lifetime words = at.Life ∷ []
setting_places form.AuthLifetime words = at.Life ∷ []
setting_places form.Entity words = entity_places words
setting_places form.Seed words = at.Unseeded ∷ at.Number ∷ []
setting_places form.Modes words = at.Unmoded ∷ at.Modes ∷ []
setting_places form.Leak words = at.Unleaked ∷ []

-- pairs of a service and its caps
abbrev pub grant_items : List Grant → List Item
grant_items [] = []
grant_items (grant ∷ grants) = ServiceOf grant.service ∷ CapsOf grant.caps ∷ grant_items grants

-- what stands behind the first word
abbrev pub setting_items : Setting → List Item
setting_items (Lifetime seconds) = LifeOf seconds ∷ []
setting_items (AuthLifetime seconds) = LifeOf seconds ∷ []
setting_items (Entity name grants) = EntityOf name ∷ grant_items grants
setting_items (Seed node seed) = UnseededOf node ∷ NumberOf seed ∷ []
setting_items (Modes client modes) = UnmodedOf client ∷ ModesOf modes ∷ []
setting_items (Leak client) = UnleakedOf client ∷ []

-- head lines as a family
abbrev pub settings : Family SettingForm Setting
settings = record { places = setting_places; form = setting_form; items = setting_items }

abbrev pub IsSetting : Known → SettingForm → List (List ℕ) → Option Setting → Type 0
IsSetting known form words found = IsFound settings known [] form words found
