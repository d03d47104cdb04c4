-- What is done with the place of a number, by where it stands.
use Rattle.std.proofs.Common.{ℕ, ◌≡◌, ◌+◌, ◌<◌, List, [], ◌∷◌, ◌++◌, length, Option, Some, None, get_or, set, take, drop, add-one, refl, subst, sym, ap, ◌∙◌}
use Rattle.std.proofs.lemmas.List.{drop_more, set_split, take-append-drop}
use Rattle.std.specs.List.{insert, remove}
use Rattle.cx_node.specs.Places.{Slot, links_in, rooms_in, room_of, AreBelow, AreFrom, AreKept, IsFoundAt, IsMissingAt, IsVacated, IsFilled, IsGivenUp, IsRemoved}
use Rattle.cx_node.specs.Tables.{with_number, without}
use Rattle.cx_node.proofs.Slots.{IsEmptyAlone, empty_alone, kept_there, nil_parts, rooms_joined, filled_in, rooms_around, rooms_without, rooms_same, link_here, link_nowhere, left_here, left_nowhere, put_here, put_nowhere, kept_changed, kept_removed, kept_inserted, links_around, links_beside}

module _ {L : Type 0} (f : L → ℕ) where
  -- a place, with those of lower and of higher numbers around it
  pub record Stands (n : ℕ) (slots : List (Slot L)) (i : ℕ) (s : Slot L) : Type 0 where
    pub whole : slots ≡ take i slots ++ s ∷ drop (i + 1) slots
    pub number : s.number ≡ n
    pub kept : AreKept f (take i slots ++ s ∷ drop (i + 1) slots)
    pub below : AreBelow s.number (take i slots)
    pub above : AreFrom (s.number + 1) (drop (i + 1) slots)

  pub stands : (n : ℕ) (slots : List (Slot L)) (i : ℕ) (s : Slot L) → AreKept f slots → IsFoundAt n slots i → s ≡ get_or slots i s → Stands n slots i s
  stands n slots i s kept found read =
      let whole : slots ≡ take i slots ++ s ∷ drop (i + 1) slots = sym (take-append-drop i slots) ∙ ap (λ rest. take i slots ++ rest) (drop_more slots i s found.within ∙ ap (λ x. x ∷ drop (i + 1) slots) (sym read)) in
      let number : s.number ≡ n = ap (λ (x : Slot L). x.number) read ∙ found.found s in
      record {
        whole = whole;
        number = number;
        kept = let P : List (Slot L) → Type 0 = AreKept f in subst P whole kept;
        below = rw number found.below;
        above = rw number found.above;
      }

  pub is_found : (n : ℕ) (slots : List (Slot L)) (i : ℕ) (s : Slot L) → AreKept f slots → IsFoundAt n slots i → s ≡ get_or slots i s → s.link ≡ with_number f n (links_in slots)
  is_found n slots i s kept found read =
      let here = stands n slots i s kept found read in
      sym (ap (λ (all : List (Slot L)). with_number f n (links_in all)) here.whole ∙ rw (← here.number) (link_here f s (take i slots) (drop (i + 1) slots) here.kept here.below here.above))

  pub is_missing : (n : ℕ) (slots : List (Slot L)) (i : ℕ) → AreKept f slots → IsMissingAt n slots i → with_number f n (links_in slots) ≡ None
  is_missing n slots i kept missing =
      let whole : slots ≡ take i slots ++ drop i slots = sym (take-append-drop i slots) in
      let P : List (Slot L) → Type 0 = AreKept f in
      ap (λ (all : List (Slot L)). with_number f n (links_in all)) whole ∙ link_nowhere f n (take i slots) (drop i slots) (subst P whole kept) missing.below missing.above

  -- ---- a place between those of lower and of higher numbers

  abbrev vacant : Slot L → Slot L
  vacant s = record s { link = None }

  abbrev holding : Slot L → L → Slot L
  holding s link = record s { link = Some link }

  vacated_here : (s : Slot L) (lower higher : List (Slot L)) → AreKept f (lower ++ s ∷ higher) → AreBelow s.number lower → AreFrom (s.number + 1) higher → rooms_in (lower ++ s ∷ higher) ≡ [] → IsVacated f s.number (lower ++ s ∷ higher) (lower ++ vacant s ∷ higher)
  vacated_here s lower higher kept below above full =
      let filled = filled_in s lower higher full in
      record {
        links = links_around f (vacant s) lower higher ∙ sym (left_here f s lower higher kept below above);
        kept = kept_changed f s (vacant s) lower higher refl tt kept;
        empty = rooms_around (vacant s) lower higher filled.1 filled.2;
      }

  filled_here : (s : Slot L) (link : L) (lower higher : List (Slot L)) → f link ≡ s.number → AreKept f (lower ++ s ∷ higher) → AreBelow s.number lower → AreFrom (s.number + 1) higher → rooms_in lower ≡ [] → rooms_in higher ≡ [] → IsFilled f link (lower ++ s ∷ higher) (lower ++ holding s link ∷ higher)
  filled_here s link lower higher same kept below above front back =
      record {
        links = links_around f (holding s link) lower higher ∙ sym (put_here f s lower higher link same kept below above);
        kept = kept_changed f s (holding s link) lower higher refl same kept;
        empty = rooms_around (holding s link) lower higher front back;
      }

  inserted_here : (link : L) (lower higher : List (Slot L)) → AreKept f (lower ++ higher) → AreBelow (f link) lower → AreFrom (f link + 1) higher → rooms_in (lower ++ higher) ≡ [] → IsFilled f link (lower ++ higher) (lower ++ record { number = f link; link = Some link } ∷ higher)
  inserted_here link lower higher kept below above full =
      let t : Slot L = record { number = f link; link = Some link } in
      let none = nil_parts (rooms_in lower) (rooms_in higher) (rw (rooms_joined lower higher) at full) in
      record {
        links = links_around f t lower higher ∙ sym (put_nowhere f link lower higher kept below above);
        kept = kept_inserted f t lower higher refl below above kept;
        empty = rooms_around t lower higher none.0 none.1;
      }

  given_up_here : (s : Slot L) (lower higher : List (Slot L)) → AreKept f (lower ++ s ∷ higher) → IsEmptyAlone s.link lower higher → IsGivenUp f (lower ++ s ∷ higher) (lower ++ higher)
  given_up_here s lower higher kept alone =
      record {
        links = links_beside f lower higher ∙ sym (links_around f s lower higher ∙ rw alone.here refl);
        kept = kept_removed f s lower higher kept;
        empty = rooms_without lower higher alone.none_lower alone.none_higher;
      }

  removed_here : (s : Slot L) (lower higher : List (Slot L)) → AreKept f (lower ++ s ∷ higher) → AreBelow s.number lower → AreFrom (s.number + 1) higher → room_of s.number s.link ≡ [] → IsRemoved f s.number (lower ++ s ∷ higher) (lower ++ higher)
  removed_here s lower higher kept below above filled =
      record {
        links = links_beside f lower higher ∙ sym (left_here f s lower higher kept below above);
        kept = kept_removed f s lower higher kept;
        empty = rooms_same s lower higher filled;
      }

  -- ---- the same, by where the place stands

  split_at : (slots : List (Slot L)) (i : ℕ) (t : Slot L) → i < length slots → set slots i t ≡ take i slots ++ t ∷ drop (i + 1) slots
  split_at slots i t within = set_split slots i t within ∙ ap (λ (k : ℕ). take i slots ++ t ∷ drop k slots) (sym (add-one i))

  removed_at : (slots : List (Slot L)) (i : ℕ) → remove slots i ≡ take i slots ++ drop (i + 1) slots
  removed_at slots i = ap (λ (k : ℕ). take i slots ++ drop k slots) (sym (add-one i))

  pub is_vacated : (n : ℕ) (slots new : List (Slot L)) (i : ℕ) (s t : Slot L) → AreKept f slots → rooms_in slots ≡ [] → IsFoundAt n slots i → s ≡ get_or slots i s → t ≡ record s { link = None } → new ≡ set slots i t → IsVacated f n slots new
  is_vacated n slots new i s t kept full found read changed is =
      let here = stands n slots i s kept found read in
      let after : new ≡ take i slots ++ vacant s ∷ drop (i + 1) slots = is ∙ ap (λ (x : Slot L). set slots i x) changed ∙ split_at slots i (vacant s) found.within in
      let full_there : rooms_in (take i slots ++ s ∷ drop (i + 1) slots) ≡ [] = ap (λ (all : List (Slot L)). rooms_in all) (sym here.whole) ∙ full in
      subst (λ (k : ℕ). IsVacated f k slots new) here.number
      (subst (λ (all : List (Slot L)). IsVacated f s.number all new) (sym here.whole)
      (subst (λ (out : List (Slot L)). IsVacated f s.number (take i slots ++ s ∷ drop (i + 1) slots) out) (sym after)
      (vacated_here s (take i slots) (drop (i + 1) slots) here.kept here.below here.above full_there)))

  -- in a table with no empty place a link stands where it is looked for
  pub is_there : (n : ℕ) (slots : List (Slot L)) (i : ℕ) (s : Slot L) → AreKept f slots → rooms_in slots ≡ [] → IsFoundAt n slots i → s ≡ get_or slots i s → s.link ≡ None → ⊥
  is_there n slots i s kept full found read none =
      let here = stands n slots i s kept found read in
      let filled = filled_in s (take i slots) (drop (i + 1) slots) (ap (λ (all : List (Slot L)). rooms_in all) (sym here.whole) ∙ full) in
      no_room s.number s.link none filled.0
    where
      no_room : (m : ℕ) (o : Option L) → o ≡ None → room_of m o ≡ [] → ⊥
      no_room m None is none = cc
      no_room m (Some l) is none = cc

  filled_at : (slots new : List (Slot L)) (i : ℕ) (s t : Slot L) (link : L) → Stands (f link) slots i s → i < length slots → rooms_in (take i slots) ≡ [] → rooms_in (drop (i + 1) slots) ≡ [] → t ≡ record s { link = Some link } → new ≡ set slots i t → IsFilled f link slots new
  filled_at slots new i s t link here within front back changed is =
      let after : new ≡ take i slots ++ holding s link ∷ drop (i + 1) slots = is ∙ ap (λ (x : Slot L). set slots i x) changed ∙ split_at slots i (holding s link) within in
      subst (λ (all : List (Slot L)). IsFilled f link all new) (sym here.whole)
      (subst (λ (out : List (Slot L)). IsFilled f link (take i slots ++ s ∷ drop (i + 1) slots) out) (sym after)
      (filled_here s link (take i slots) (drop (i + 1) slots) (sym here.number) here.kept here.below here.above front back))

  -- a link is put into the place that is kept for it
  pub is_put_back : (slots new : List (Slot L)) (i : ℕ) (s t : Slot L) (link : L) → AreKept f slots → rooms_in slots ≡ f link ∷ [] → IsFoundAt (f link) slots i → s ≡ get_or slots i s → t ≡ record s { link = Some link } → new ≡ set slots i t → IsFilled f link slots new
  is_put_back slots new i s t link kept room found read changed is =
      let here = stands (f link) slots i s kept found read in
      let alone = empty_alone s (take i slots) (drop (i + 1) slots) here.below here.above (ap (λ (all : List (Slot L)). rooms_in all) (sym here.whole) ∙ room ∙ ap (λ (k : ℕ). k ∷ []) (sym here.number)) in
      filled_at slots new i s t link here found.within alone.none_lower alone.none_higher changed is

  -- a link is put in the place of an older one
  pub is_put_again : (slots new : List (Slot L)) (i : ℕ) (s t : Slot L) (link : L) → AreKept f slots → rooms_in slots ≡ [] → IsFoundAt (f link) slots i → s ≡ get_or slots i s → t ≡ record s { link = Some link } → new ≡ set slots i t → IsFilled f link slots new
  is_put_again slots new i s t link kept full found read changed is =
      let here = stands (f link) slots i s kept found read in
      let filled = filled_in s (take i slots) (drop (i + 1) slots) (ap (λ (all : List (Slot L)). rooms_in all) (sym here.whole) ∙ full) in
      filled_at slots new i s t link here found.within filled.1 filled.2 changed is

  -- a link is put where none of its number stands
  pub is_put_new : (slots new : List (Slot L)) (i : ℕ) (t : Slot L) (link : L) → AreKept f slots → rooms_in slots ≡ [] → IsMissingAt (f link) slots i → t ≡ record { number = f link; link = Some link } → new ≡ insert slots i t → IsFilled f link slots new
  is_put_new slots new i t link kept full missing made is =
      let whole : slots ≡ take i slots ++ drop i slots = sym (take-append-drop i slots) in
      let P : List (Slot L) → Type 0 = AreKept f in
      let after : new ≡ take i slots ++ record { number = f link; link = Some link } ∷ drop i slots = is ∙ ap (λ (x : Slot L). insert slots i x) made in
      subst (λ (all : List (Slot L)). IsFilled f link all new) (sym whole)
      (subst (λ (out : List (Slot L)). IsFilled f link (take i slots ++ drop i slots) out) (sym after)
      (inserted_here link (take i slots) (drop i slots) (subst P whole kept) missing.below missing.above (ap (λ (all : List (Slot L)). rooms_in all) (sym whole) ∙ full)))

  -- a place that is kept is found
  pub is_kept : (n : ℕ) (slots : List (Slot L)) (i : ℕ) → rooms_in slots ≡ n ∷ [] → IsMissingAt n slots i → ⊥
  is_kept n slots i room missing =
      kept_there n (take i slots) (drop i slots) missing.below missing.above (ap (λ (all : List (Slot L)). rooms_in all) (take-append-drop i slots) ∙ room)

  pub is_given_up : (n : ℕ) (slots new : List (Slot L)) (i : ℕ) (s : Slot L) → AreKept f slots → rooms_in slots ≡ n ∷ [] → IsFoundAt n slots i → s ≡ get_or slots i s → new ≡ remove slots i → IsGivenUp f slots new
  is_given_up n slots new i s kept room found read is =
      let here = stands n slots i s kept found read in
      let alone = empty_alone s (take i slots) (drop (i + 1) slots) here.below here.above (ap (λ (all : List (Slot L)). rooms_in all) (sym here.whole) ∙ room ∙ ap (λ (k : ℕ). k ∷ []) (sym here.number)) in
      subst (λ (all : List (Slot L)). IsGivenUp f all new) (sym here.whole)
      (subst (λ (out : List (Slot L)). IsGivenUp f (take i slots ++ s ∷ drop (i + 1) slots) out) (sym (is ∙ removed_at slots i))
      (given_up_here s (take i slots) (drop (i + 1) slots) here.kept alone))

  -- a link is gone with its place
  pub is_removed : (n : ℕ) (slots new : List (Slot L)) (i : ℕ) (s : Slot L) (l : L) → AreKept f slots → IsFoundAt n slots i → s ≡ get_or slots i s → s.link ≡ Some l → new ≡ remove slots i → IsRemoved f n slots new
  is_removed n slots new i s l kept found read filled is =
      let here = stands n slots i s kept found read in
      let none : room_of s.number s.link ≡ [] = rw filled refl in
      subst (λ (k : ℕ). IsRemoved f k slots new) here.number
      (subst (λ (all : List (Slot L)). IsRemoved f s.number all new) (sym here.whole)
      (subst (λ (out : List (Slot L)). IsRemoved f s.number (take i slots ++ s ∷ drop (i + 1) slots) out) (sym (is ∙ removed_at slots i))
      (removed_here s (take i slots) (drop (i + 1) slots) here.kept here.below here.above none)))

  -- the place that is kept stays
  pub is_left : (n : ℕ) (slots : List (Slot L)) (i : ℕ) (s : Slot L) → AreKept f slots → IsFoundAt n slots i → s ≡ get_or slots i s → s.link ≡ None → IsRemoved f n slots slots
  is_left n slots i s kept found read none =
      let here = stands n slots i s kept found read in
      let same : links_in slots ≡ without f n (links_in slots) =
      ap (λ (all : List (Slot L)). links_in all) here.whole ∙ links_around f s (take i slots) (drop (i + 1) slots) ∙ rw none refl
      ∙ sym (left_here f s (take i slots) (drop (i + 1) slots) here.kept here.below here.above)
      ∙ ap (λ (k : ℕ). without f k (links_in (take i slots ++ s ∷ drop (i + 1) slots))) here.number ∙ ap (λ (all : List (Slot L)). without f n (links_in all)) (sym here.whole) in
      record { links = same; kept = kept; empty = refl }

  -- where there is no place, nothing is gone
  pub is_as_before : (n : ℕ) (slots : List (Slot L)) (i : ℕ) → AreKept f slots → IsMissingAt n slots i → IsRemoved f n slots slots
  is_as_before n slots i kept missing =
      let whole : slots ≡ take i slots ++ drop i slots = sym (take-append-drop i slots) in
      let P : List (Slot L) → Type 0 = AreKept f in
      let same : links_in slots ≡ without f n (links_in slots) =
      ap (λ (all : List (Slot L)). links_in all) whole ∙ sym (left_nowhere f n (take i slots) (drop i slots) (subst P whole kept) missing.below missing.above)
      ∙ ap (λ (all : List (Slot L)). without f n (links_in all)) (sym whole) in
      record { links = same; kept = kept; empty = refl }
