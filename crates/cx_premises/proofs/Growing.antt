-- A set of facts grows by one fact at a time.
use Rattle.std.proofs.Common.{◌≡◌, Bool, true, false, cond, List, [], ◌∷◌, ◌++◌, Some, None, ◌⊎◌, inl, inr, refl, sym, ap, ◌∙◌}
use Rattle.cx_base.specs.Names.{Name}
use Rattle.cx_premises.proofs.Walks.{some_cases, some_last, some_stays}
use Rattle.cx_premises.specs.Alike.{alike}
use Rattle.cx_premises.specs.Facts.{Adds, AreLeft, HasLeft, fact_of, is_kept, is_same}
use Rattle.cx_premises.specs.contracts.facts.FactEq.TheImpl.Laws as same_laws
use Rattle.cx_premises.specs.declared.facts.Fact.{Fact}
use Rattle.cx_steps.specs.declared.seals.Logged.{Logged}

same_itself : (a : Fact) → is_same a a ≡ true
same_itself a = same_laws.laws-law.refl a

-- ---- what the log left, with one entry more

module _ (leaked : List Name) (log : List Logged) (at : Logged) (old new : List Fact) where
  left_before : (added left : Fact) (same : Bool) → is_same added left ≡ same → fact_of leaked at.entry ≡ Some added → AreLeft leaked log old → cond same true (is_kept old left) ≡ true → HasLeft leaked (log ++ at ∷ []) left
  left_before added left true e is held there =
      some_last (λ a. fact_of leaked a.entry ≡ Some left) log at (is ∙ ap Some (alike added left e))
  left_before added left false e is held there =
      some_stays (λ a. fact_of leaked a.entry ≡ Some left) log at ((held.each left).0 there)

  still_kept : (left : Fact) (same : Bool) → is_kept old left ≡ true → cond same true (is_kept old left) ≡ true
  still_kept left true kept = refl
  still_kept left false kept = kept

  kept_now : (added left : Fact) → fact_of leaked at.entry ≡ Some added → AreLeft leaked log old → HasLeft leaked log left ⊎ (fact_of leaked at.entry ≡ Some left) → cond (is_same added left) true (is_kept old left) ≡ true
  kept_now added left is held (inl there) = still_kept left (is_same added left) ((held.each left).1 there)
  kept_now added left is held (inr last) =
      let same : added ≡ left = cc in
      ap (λ b. cond b true (is_kept old left)) (ap (λ q. is_same added q) (sym same) ∙ same_itself added)

  -- the entry left what was added
  pub left_more : (added : Fact) → fact_of leaked at.entry ≡ Some added → Adds old new added → AreLeft leaked log old → AreLeft leaked (log ++ at ∷ []) new
  left_more added is adds held = record {
    each = λ left. (
      (λ kept. left_before added left (is_same added left) refl is held (sym (adds.each left) ∙ kept)),
      (λ there. adds.each left ∙ kept_now added left is held (some_cases (λ a. fact_of leaked a.entry ≡ Some left) log at there)),
    );
  }

  left_again : (left : Fact) → fact_of leaked at.entry ≡ None → HasLeft leaked log left ⊎ (fact_of leaked at.entry ≡ Some left) → HasLeft leaked log left
  left_again left none (inl there) = there
  left_again left none (inr last) = cc

  -- the entry left nothing
  pub left_same : fact_of leaked at.entry ≡ None → new ≡ old → AreLeft leaked log old → AreLeft leaked (log ++ at ∷ []) new
  left_same none unchanged held = record {
    each = λ left.
        let same : is_kept new left ≡ is_kept old left = ap (λ facts. is_kept facts left) unchanged in (
          (λ kept. some_stays (λ a. fact_of leaked a.entry ≡ Some left) log at ((held.each left).0 (sym same ∙ kept))),
          (λ there. same ∙ (held.each left).1 (left_again left none (some_cases (λ a. fact_of leaked a.entry ≡ Some left) log at there))),
        );
  }
