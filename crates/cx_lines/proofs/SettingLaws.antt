-- Head lines: their words, their places, and that their values and their words determine them.
use Rattle.std.proofs.Common.{◌≡◌, ℕ, List, [], ◌∷◌, ◌++◌, map, Option, Some, None, refl, ap}
use Rattle.std.specs.Option.{option_map}
use Rattle.cx_words.specs.declared.known.Known.{Known}
use Rattle.cx_words.specs.declared.places.WordPlace.TheVariants as at
use Rattle.cx_words.specs.lines.Values.{Item, LifeOf, NumberOf, EntityOf, ServiceOf, CapsOf, UnmodedOf, UnleakedOf, UnseededOf, ModesOf, SpellsItems}
use Rattle.cx_words.proofs.lines.ChoiceLemmas.{chosen-is}
use Rattle.cx_words.proofs.lines.ValueLemmas.{Values, place_of}
use Rattle.cx_base.specs.declared.grants.Grant.{Grant}
use Rattle.cx_lines.specs.declared.settings.Setting.{Setting}
use Rattle.cx_lines.specs.declared.settings.Setting.TheVariants.{Lifetime, AuthLifetime, Entity, Seed, Modes, Leak}
use Rattle.cx_lines.specs.declared.settings.SettingForm.{SettingForm}
use Rattle.cx_lines.specs.declared.settings.SettingForm.TheVariants as form
use Rattle.cx_lines.specs.Found.{SpellsIn}
use Rattle.cx_lines.specs.Settings.{grant_items, pair_places, setting_form, setting_form_of, setting_items, setting_places, setting_word, settings}

pub setting_form_of-is : (word : List ℕ) (f : SettingForm) → setting_form_of word ≡ Some f → word ≡ setting_word f
unfolding setting_form_of
setting_form_of-is word f some =
    chosen-is setting_word (form.Lifetime ∷ form.AuthLifetime ∷ form.Entity ∷ form.Seed ∷ form.Modes ∷ form.Leak ∷ []) word f some

-- ---- the places of a line that is spelled

pairs_placed : (known : Known) (before : List (List ℕ)) (gs : List Grant) (ws : List (List ℕ)) → SpellsItems known before (grant_items gs) ws → pair_places ws ≡ map place_of (grant_items gs)
pairs_placed k b [] [] p = refl
pairs_placed k b [] (w ∷ ws) p = absurd p
pairs_placed k b (g ∷ gs) [] p = absurd p
pairs_placed k b (g ∷ gs) (w ∷ []) p = absurd p.1
pairs_placed k b (g ∷ gs) (w ∷ v ∷ ws) p = ap (λ ps. at.Service ∷ at.Caps ∷ ps) (pairs_placed k ((b ++ w ∷ []) ++ v ∷ []) gs ws p.1.1)

pub setting_placed : (known : Known) (before : List (List ℕ)) (line : Setting) (ws : List (List ℕ)) → SpellsItems known before (setting_items line) ws → setting_places (setting_form line) ws ≡ map place_of (setting_items line)
setting_placed k b (Lifetime s) ws p = refl
setting_placed k b (AuthLifetime s) ws p = refl
setting_placed k b (Entity n gs) [] p = absurd p
setting_placed k b (Entity n gs) (w ∷ ws) p = ap (λ ps. at.Entity ∷ ps) (pairs_placed k (b ++ w ∷ []) gs ws p.1)
setting_placed k b (Seed n s) ws p = refl
setting_placed k b (Modes c m) ws p = refl
setting_placed k b (Leak c) ws p = refl

-- ---- a line is told by its values

abbrev grants_from : List Item → Option (List Grant)
grants_from [] = Some []
grants_from (ServiceOf k ∷ CapsOf c ∷ rest) = option_map (λ gs. record { service = k; caps = c } ∷ gs) (grants_from rest)
grants_from _ = None

abbrev pub setting_from : SettingForm → List Item → Option Setting
setting_from form.Lifetime (LifeOf s ∷ []) = Some (Lifetime s)
setting_from form.AuthLifetime (LifeOf s ∷ []) = Some (AuthLifetime s)
setting_from form.Entity (EntityOf n ∷ rest) = option_map (λ gs. Entity n gs) (grants_from rest)
setting_from form.Seed (UnseededOf n ∷ NumberOf s ∷ []) = Some (Seed n s)
setting_from form.Modes (UnmodedOf c ∷ ModesOf m ∷ []) = Some (Modes c m)
setting_from form.Leak (UnleakedOf c ∷ []) = Some (Leak c)
setting_from _ _ = None

grants_back : (gs : List Grant) → grants_from (grant_items gs) ≡ Some gs
grants_back [] = refl
grants_back (g ∷ gs) = rw (grants_back gs) refl

pub setting_back : (line : Setting) → setting_from (setting_form line) (setting_items line) ≡ Some line
setting_back (Lifetime s) = refl
setting_back (AuthLifetime s) = refl
setting_back (Entity n gs) = rw (grants_back gs) refl
setting_back (Seed n s) = refl
setting_back (Modes c m) = refl
setting_back (Leak c) = refl

-- ---- values at the places of a form are those of a line

grants_in : (known : Known) (before ws : List (List ℕ)) → Values known before (pair_places ws) ws → (gs : List Grant) × SpellsItems known before (grant_items gs) ws
grants_in k b [] v = ([], tt)
grants_in k b (w ∷ []) v = absurd v.1
grants_in k b (w ∷ u ∷ ws) v =
    let rest = grants_in k ((b ++ w ∷ []) ++ u ∷ []) ws v.1.1 in
    (record { service = v.0.0; caps = v.1.0.0 } ∷ rest.0, (v.0.1, (v.1.0.1, rest.1)))

pub setting_found : (known : Known) (before : List (List ℕ)) (f : SettingForm) (ws : List (List ℕ)) → Values known before (setting_places f ws) ws → (line : Setting) × SpellsIn settings known before f ws line
setting_found k b form.Lifetime [] v = absurd v
setting_found k b form.Lifetime (w ∷ []) v = (Lifetime v.0.0, (refl, (v.0.1, tt)))
setting_found k b form.Lifetime (w ∷ u ∷ ws) v = absurd v.1
setting_found k b form.AuthLifetime [] v = absurd v
setting_found k b form.AuthLifetime (w ∷ []) v = (AuthLifetime v.0.0, (refl, (v.0.1, tt)))
setting_found k b form.AuthLifetime (w ∷ u ∷ ws) v = absurd v.1
setting_found k b form.Entity [] v = absurd v
setting_found k b form.Entity (w ∷ ws) v =
    let gs = grants_in k (b ++ w ∷ []) ws v.1 in
    (Entity v.0.0 gs.0, (refl, (v.0.1, gs.1)))
setting_found k b form.Seed [] v = absurd v
setting_found k b form.Seed (w ∷ []) v = absurd v.1
setting_found k b form.Seed (w ∷ u ∷ []) v = (Seed v.0.0 v.1.0.0, (refl, (v.0.1, (v.1.0.1, tt))))
setting_found k b form.Seed (w ∷ u ∷ t ∷ ws) v = absurd v.1.1
setting_found k b form.Modes [] v = absurd v
setting_found k b form.Modes (w ∷ []) v = absurd v.1
setting_found k b form.Modes (w ∷ u ∷ []) v = (Modes v.0.0 v.1.0.0, (refl, (v.0.1, (v.1.0.1, tt))))
setting_found k b form.Modes (w ∷ u ∷ t ∷ ws) v = absurd v.1.1
setting_found k b form.Leak [] v = absurd v
setting_found k b form.Leak (w ∷ []) v = (Leak v.0.0, (refl, (v.0.1, tt)))
setting_found k b form.Leak (w ∷ u ∷ ws) v = absurd v.1
