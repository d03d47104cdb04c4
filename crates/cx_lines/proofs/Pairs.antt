-- The pairs of an entity line, two words at a time.
use Rattle.std.proofs.Common.{◌≡◌, ℕ, ◌+◌, ◌≤◌, ◌<◌, Bool, true, false, List, [], ◌∷◌, ◌++◌, map, length, get_or, take, drop, refl, sym, ap, ◌∙◌, arith, append_assoc, append-nil, length-drop}
use Rattle.std.specs.Prelude.{◌&&◌}
use Rattle.std.proofs.lemmas.Bool.{and_parts}
use Rattle.std.proofs.lemmas.List.{drop_more, map_more}
use Rattle.cx_base.specs.Names.{Name}
use Rattle.cx_base.specs.declared.grants.Grant.{Grant}
use Rattle.cx_lines.specs.declared.settings.SettingForm.TheVariants as form
use Rattle.cx_lines.specs.Settings.{grant_items, pair_places, setting_places}
use Rattle.cx_words.specs.declared.known.Known.{Known}
use Rattle.cx_words.specs.declared.places.WordPlace.{WordPlace}
use Rattle.cx_words.specs.declared.places.WordPlace.TheVariants as at
use Rattle.cx_words.specs.lines.Known.{nothing}
use Rattle.cx_words.specs.lines.Places.{are_good, is_good, is_whole}
use Rattle.cx_words.specs.lines.Values.{Item, EntityOf, ServiceOf, CapsOf, SpellsItem, SpellsItems}

-- the places of a pair of which one word is there
pub one_left : {A : Type 0} (f : A → List ℕ) (ps : List WordPlace) (ws : List A) → length ws < 2 → 0 < length ws → (ps ++ at.Service ∷ []) ++ at.Caps ∷ [] ≡ ps ++ pair_places (map f ws)
one_left f ps [] few some = absurd (omega arith)
one_left f ps (w ∷ []) few some = append_assoc ps (at.Service ∷ []) (at.Caps ∷ [])
one_left f ps (w ∷ v ∷ ws) few some = absurd (omega arith)

-- ---- reading the pairs

-- how the pairs so far stand to the words behind the name
pub record Reads {A : Type 0} (known : Known) (f : A → List ℕ) (ws : List A) (place : ℕ) (grants : List Grant) : Type 0 where
  pub within : place ≤ length ws
  pub some : 1 ≤ place
  pub good : are_good known (map f (take place ws)) (pair_places (map f (drop place ws))) (map f (drop place ws)) ≡ are_good known (map f (take 1 ws)) (pair_places (map f (drop 1 ws))) (map f (drop 1 ws))
  pub spelled : (items : List Item) → SpellsItems known (map f (take place ws)) items (map f (drop place ws)) → SpellsItems known (map f (take 1 ws)) (grant_items grants ++ items) (map f (drop 1 ws))

-- two words in front of the rest
two_left : {A : Type 0} (f : A → List ℕ) (ws : List A) (i : ℕ) (d x : A) → i + 1 < length ws → map f (drop i ws) ≡ f (get_or ws i d) ∷ f (get_or ws (i + 1) x) ∷ map f (drop (i + 2) ws)
two_left f ws i d x h =
    let n : i + 1 + 1 ≡ i + 2 = omega arith in
    rw (drop_more ws i d (omega arith), drop_more ws (i + 1) x h, n) refl

-- the words before those behind them
two_before : {A : Type 0} (f : A → List ℕ) (ws : List A) (i : ℕ) (d x : A) → i + 1 < length ws → map f (take (i + 2) ws) ≡ (map f (take i ws) ++ f (get_or ws i d) ∷ []) ++ f (get_or ws (i + 1) x) ∷ []
two_before f ws i d x h =
    let n : i + 2 ≡ i + 1 + 1 = omega arith in
    ap (λ k. map f (take k ws)) n ∙ map_more f ws (i + 1) x h ∙ ap (λ b. b ++ f (get_or ws (i + 1) x) ∷ []) (map_more f ws i d (omega arith))

pushed : (gs : List Grant) (g : Grant) (items : List Item) → grant_items (gs ++ g ∷ []) ++ items ≡ grant_items gs ++ (ServiceOf g.service ∷ CapsOf g.caps ∷ items)
pushed [] g items = refl
pushed (h ∷ gs) g items = rw (pushed gs g items) refl

pub reads_more : {A : Type 0} (e : Known) (f : A → List ℕ) (ws : List A) (i : ℕ) (gs : List Grant) (g : Grant) (d x : A) → Reads e f ws i gs → i + 1 < length ws
    → (is_good nothing (map f (take i ws)) at.Service (f (get_or ws i d)) && is_good nothing [] at.Caps (f (get_or ws (i + 1) x))) ≡ true
    → SpellsItem nothing (map f (take i ws)) (ServiceOf g.service) (f (get_or ws i d)) → SpellsItem nothing [] (CapsOf g.caps) (f (get_or ws (i + 1) x))
    → Reads e f ws (i + 2) (gs ++ g ∷ [])
reads_more e f ws i gs g d x r h good service caps =
    let parts = and_parts (is_good nothing (map f (take i ws)) at.Service (f (get_or ws i d))) (is_good nothing [] at.Caps (f (get_or ws (i + 1) x))) good in
    let left = two_left f ws i d x h in
    let before = two_before f ws i d x h in
    let here : are_good e (map f (take i ws)) (pair_places (map f (drop i ws))) (map f (drop i ws)) ≡ are_good e ((map f (take i ws) ++ f (get_or ws i d) ∷ []) ++ f (get_or ws (i + 1) x) ∷ []) (pair_places (map f (drop (i + 2) ws))) (map f (drop (i + 2) ws)) = rw (left, parts.0, parts.1) refl in
    record {
      within = omega arith;
      some = omega arith;
      good = rw before (sym here ∙ r.good);
      spelled = λ items p. rw (pushed gs g items) (r.spelled (ServiceOf g.service ∷ CapsOf g.caps ∷ items) (rw left (service, (caps, rw before at p))));
    }

and_false : (b : Bool) → (b && false) ≡ false
and_false true = refl
and_false false = refl

-- a pair that isn't good
pub bad_pair : {A : Type 0} (e : Known) (f : A → List ℕ) (ws : List A) (i : ℕ) (gs : List Grant) (d x : A) → Reads e f ws i gs → i + 1 < length ws
    → (is_good nothing (map f (take i ws)) at.Service (f (get_or ws i d)) && is_good nothing [] at.Caps (f (get_or ws (i + 1) x))) ≡ false
    → are_good e (map f (take 1 ws)) (pair_places (map f (drop 1 ws))) (map f (drop 1 ws)) ≡ false
bad_pair e f ws i gs d x r h bad =
    let left = two_left f ws i d x h in
    let here : are_good e (map f (take i ws)) (pair_places (map f (drop i ws))) (map f (drop i ws)) ≡ false = rw left (either (is_good nothing (map f (take i ws)) at.Service (f (get_or ws i d))) (is_good nothing [] at.Caps (f (get_or ws (i + 1) x))) (are_good e ((map f (take i ws) ++ f (get_or ws i d) ∷ []) ++ f (get_or ws (i + 1) x) ∷ []) (pair_places (map f (drop (i + 2) ws))) (map f (drop (i + 2) ws))) bad) in
    sym r.good ∙ here
  where
    either : (a b c : Bool) → (a && b) ≡ false → (a && (b && c)) ≡ false
    either true true c is = absurd (let z : true ≡ false = is in cc)
    either true false c is = refl
    either false b c is = refl

-- one word behind the last pair
pub half_pair : {A : Type 0} (e : Known) (f : A → List ℕ) (ws : List A) (i : ℕ) (gs : List Grant) → Reads e f ws i gs → i < length ws → length ws ≤ i + 1
    → are_good e (map f (take 1 ws)) (pair_places (map f (drop 1 ws))) (map f (drop 1 ws)) ≡ false
half_pair {A = A} e f ws i gs r h last =
    let n : length (drop i ws) ≡ 1 = simp length-drop (omega arith) in
    sym r.good ∙ one_bad e (map f (take i ws)) (drop i ws) n
  where
    one_bad : (e : Known) (before : List (List ℕ)) (rest : List A) → length rest ≡ 1 → are_good e before (pair_places (map f rest)) (map f rest) ≡ false
    one_bad e before [] n = absurd (omega arith)
    one_bad e before (w ∷ []) n = and_false (is_good e before at.Service (f w))
    one_bad e before (w ∷ v ∷ rest) n = absurd (omega arith)

-- words behind a name that aren't good
pub not_whole : {A : Type 0} (e : Known) (f : A → List ℕ) (ws : List A) → 1 ≤ length ws → are_good e (map f (take 1 ws)) (pair_places (map f (drop 1 ws))) (map f (drop 1 ws)) ≡ false → is_whole e [] (setting_places form.Entity (map f ws)) (map f ws) ≡ false
not_whole e f [] some bad = absurd (omega arith)
not_whole e f (w ∷ ws) some bad = rw (bad, and_false (is_good e [] at.Entity (f w))) (and_false _)

-- all pairs are read
pub all_read : {A : Type 0} (e : Known) (f : A → List ℕ) (ws : List A) (i : ℕ) (gs : List Grant) → Reads e f ws i gs → length ws ≤ i → SpellsItems e (map f (take 1 ws)) (grant_items gs) (map f (drop 1 ws))
all_read {A = A} e f ws i gs r last =
    let n : length (drop i ws) ≡ 0 = simp length-drop (omega arith) in
    rw append-nil at (r.spelled [] (none_left (drop i ws) n))
  where
    none_left : (rest : List A) → length rest ≡ 0 → SpellsItems e (map f (take i ws)) [] (map f rest)
    none_left [] n = tt
    none_left (w ∷ rest) n = absurd (omega arith)

-- a name and the pairs behind it
pub named_front : {A : Type 0} (e : Known) (f : A → List ℕ) (ws : List A) (d : A) (n : Name) (gs : List Grant) → 1 ≤ length ws → SpellsItem e [] (EntityOf n) (f (get_or ws 0 d)) → SpellsItems e (map f (take 1 ws)) (grant_items gs) (map f (drop 1 ws)) → SpellsItems e [] (EntityOf n ∷ grant_items gs) (map f ws)
named_front e f [] d n gs some name pairs = absurd (omega arith)
named_front e f (w ∷ ws) d n gs some name pairs = (name, pairs)
