-- What is found in a log, with one entry more.
use Rattle.std.proofs.Common.{◌≡◌, List, [], ◌∷◌, ◌++◌, Option, Some, None, ◌⊎◌, inl, inr, refl, sym, subst}
use Rattle.cx_base.specs.Names.{Name}
use Rattle.cx_journal.specs.declared.premises.Broken.{Broken}
use Rattle.cx_premises.proofs.Walks.{behind, each_more, some_stays}
use Rattle.cx_premises.specs.Findings.{AreFound, ComeTo, IsFoundIn, LeakIn, closed, suspected}
use Rattle.cx_premises.specs.declared.findings.Findings.{Findings}
use Rattle.cx_premises.specs.declared.findings.Suspect.{Suspect}
use Rattle.cx_steps.specs.Breach.{IsBreach, IsFirstBreach}
use Rattle.cx_steps.specs.Onto.{EachOnto}
use Rattle.cx_steps.specs.Premises.{DrawsLeaked, IsLeakedKey, IsNew, Owes}
use Rattle.cx_steps.specs.declared.seals.Logged.{Logged}

module _ (leaked : List Name) where
  -- ---- the first breach

  breach_stays : (whole earlier xs : List Logged) (at : Logged) (broken : Broken) → IsFirstBreach leaked whole earlier xs broken → IsFirstBreach leaked whole earlier (xs ++ at ∷ []) broken
  breach_stays whole earlier [] at broken none = absurd none
  breach_stays whole earlier (x ∷ xs) at broken (inl here) = inl here
  breach_stays whole earlier (x ∷ xs) at broken (inr there) = inr (there.0, there.1, breach_stays whole (x ∷ earlier) xs at broken there.2)

  breach_last : (whole earlier xs : List Logged) (at : Logged) (broken : Broken) → EachOnto (λ es e. Owes leaked whole e.node es e.entry) earlier xs → EachOnto (λ es e. IsNew es e.entry) earlier xs
      → IsBreach leaked whole (behind earlier xs) at broken → IsFirstBreach leaked whole earlier (xs ++ at ∷ []) broken
  breach_last whole earlier [] at broken sound fresh breach = inl breach
  breach_last whole earlier (x ∷ xs) at broken sound fresh breach = inr (sound.0, fresh.0, breach_last whole (x ∷ earlier) xs at broken sound.1 fresh.1 breach)

  module _ (log : List Logged) (at : Logged) where
    -- the entry keeps both premises
    pub record Keeps (whole : List Logged) : Type 0 where
      pub owed : Owes leaked whole at.node (behind [] log) at.entry
      pub new : IsNew (behind [] log) at.entry

    found_more : (whole : List Logged) (found : Option Broken) → IsFoundIn leaked whole log found → (found ≡ None → Keeps whole) → IsFoundIn leaked whole (log ++ at ∷ []) found
    found_more whole None held keeps =
        let kept = keeps refl in
        (each_more (λ es e. Owes leaked whole e.node es e.entry) [] log at held.0 kept.owed, each_more (λ es e. IsNew es e.entry) [] log at held.1 kept.new)
    found_more whole (Some broken) held keeps = breach_stays whole [] log at broken held

    leak_before : (whole : List Logged) → LeakIn leaked (log ++ at ∷ []) whole → LeakIn leaked log whole
    leak_before whole leak = record { each = λ key leaks. leak.each key (some_stays (λ e. DrawsLeaked leaked key e.entry) log at leaks) }

    -- ---- the findings

    pub found_kept : (findings : Findings) → AreFound leaked log findings → ((whole : List Logged) → LeakIn leaked (log ++ at ∷ []) whole → Keeps whole) → AreFound leaked (log ++ at ∷ []) findings
    found_kept findings held keeps = record {
      each = λ whole found leak comes. found_more whole found (held.each whole found (leak_before whole leak) comes) (λ _. keeps whole leak);
    }

    come_to_some : (whole : List Logged) (suspects : List Suspect) (broken : Broken) (found : Option Broken) → ComeTo leaked whole suspects (Some broken) found → found ≡ None → ⊥
    come_to_some whole [] broken found is none = cc
    come_to_some whole (s ∷ suspects) broken found (inl past) none = come_to_some whole suspects broken found past.1 none
    come_to_some whole (s ∷ suspects) broken found (inr stops) none = (let e = stops.1 in cc)

    found_closed : (suspects : List Suspect) (broken : Broken) → AreFound leaked log (record { suspects = suspects; breach = Some broken }) → AreFound leaked (log ++ at ∷ []) (record { suspects = suspects; breach = Some broken })
    found_closed suspects broken held = record {
      each = λ whole found leak comes.
          found_more whole found (held.each whole found (leak_before whole leak) comes) (λ none. absurd (come_to_some whole suspects broken found comes none));
    }

    -- the suspects come to one of them, or all of their keys leaked
    abbrev Parts : List Logged → List Suspect → Option Broken → Type 0 → Type 0
    Parts whole suspects found behind_them = (ComeTo leaked whole suspects None found × (found ≡ None → ⊥)) ⊎ (ComeTo leaked whole suspects None None × behind_them)

    past_one : (whole : List Logged) (s : Suspect) (suspects : List Suspect) (found : Option Broken) (R : Type 0) → IsLeakedKey leaked whole s.key → Parts whole suspects found R → Parts whole (s ∷ suspects) found R
    past_one whole s suspects found R leaks (inl stops) = inl (inl (leaks, stops.0), stops.1)
    past_one whole s suspects found R leaks (inr past) = inr (inl (leaks, past.0), past.1)

    stops_at : (whole : List Logged) (s : Suspect) (suspects : List Suspect) (found : Option Broken) (R : Type 0) → (IsLeakedKey leaked whole s.key → ⊥) → found ≡ Some s.broken → Parts whole (s ∷ suspects) found R
    stops_at whole s suspects found R unleaked is = inl (inr (unleaked, is), λ none. cc)

    parts_closed : (whole : List Logged) (suspects : List Suspect) (broken : Broken) (found : Option Broken) → ComeTo leaked whole suspects (Some broken) found → Parts whole suspects found (found ≡ Some broken)
    parts_closed whole [] broken found is = inr (refl, is)
    parts_closed whole (s ∷ suspects) broken found (inl past) = past_one whole s suspects found (found ≡ Some broken) past.0 (parts_closed whole suspects broken found past.1)
    parts_closed whole (s ∷ suspects) broken found (inr stops) = stops_at whole s suspects found (found ≡ Some broken) stops.0 stops.1

    parts_more : (whole : List Logged) (suspects : List Suspect) (last : Suspect) (found : Option Broken) → ComeTo leaked whole (suspects ++ last ∷ []) None found → Parts whole suspects found (ComeTo leaked whole (last ∷ []) None found)
    parts_more whole [] last found comes = inr (refl, comes)
    parts_more whole (s ∷ suspects) last found (inl past) = past_one whole s suspects found (ComeTo leaked whole (last ∷ []) None found) past.0 (parts_more whole suspects last found past.1)
    parts_more whole (s ∷ suspects) last found (inr stops) = stops_at whole s suspects found (ComeTo leaked whole (last ∷ []) None found) stops.0 stops.1

    module _ (suspects : List Suspect) (held : AreFound leaked log (record { suspects = suspects; breach = None })) where
      -- all suspects' keys leaked, and the entry is a breach
      breach_here : (whole : List Logged) (broken : Broken) (found : Option Broken) → LeakIn leaked log whole → ComeTo leaked whole suspects None None → IsBreach leaked whole (behind [] log) at broken → found ≡ Some broken → IsFoundIn leaked whole (log ++ at ∷ []) found
      breach_here whole broken found leak comes breach is =
          let clean = held.each whole None leak comes in
          subst (IsFoundIn leaked whole (log ++ at ∷ [])) (sym is) (breach_last whole [] log at broken clean.0 clean.1 breach)

      -- one of them stops before the entry
      stopped : (whole : List Logged) (found : Option Broken) → LeakIn leaked log whole → ComeTo leaked whole suspects None found → (found ≡ None → ⊥) → IsFoundIn leaked whole (log ++ at ∷ []) found
      stopped whole found leak comes some = found_more whole found (held.each whole found leak comes) (λ none. absurd (some none))

      closes : (broken : Broken) → ((whole : List Logged) → IsBreach leaked whole (behind [] log) at broken) → (whole : List Logged) (found : Option Broken) → LeakIn leaked log whole → Parts whole suspects found (found ≡ Some broken) → IsFoundIn leaked whole (log ++ at ∷ []) found
      closes broken breach whole found leak (inl stops) = stopped whole found leak stops.0 stops.1
      closes broken breach whole found leak (inr past) = breach_here whole broken found leak past.0 (breach whole) past.1

      at_suspect : (s : Suspect) (whole : List Logged) (found : Option Broken) → (IsLeakedKey leaked whole s.key → Keeps whole) → ((IsLeakedKey leaked whole s.key → ⊥) → IsBreach leaked whole (behind [] log) at s.broken)
          → LeakIn leaked log whole → ComeTo leaked whole suspects None None → ComeTo leaked whole (s ∷ []) None found → IsFoundIn leaked whole (log ++ at ∷ []) found
      at_suspect s whole found keeps breach leak comes (inl past) =
          let clean = found_more whole None (held.each whole None leak comes) (λ _. keeps past.0) in
          subst (IsFoundIn leaked whole (log ++ at ∷ [])) (sym past.1) clean
      at_suspect s whole found keeps breach leak comes (inr stops) = breach_here whole s.broken found leak comes (breach stops.0) stops.1

      suspects_one : (s : Suspect) (whole : List Logged) (found : Option Broken) → (IsLeakedKey leaked whole s.key → Keeps whole) → ((IsLeakedKey leaked whole s.key → ⊥) → IsBreach leaked whole (behind [] log) at s.broken)
          → LeakIn leaked log whole → Parts whole suspects found (ComeTo leaked whole (s ∷ []) None found) → IsFoundIn leaked whole (log ++ at ∷ []) found
      suspects_one s whole found keeps breach leak (inl stops) = stopped whole found leak stops.0 stops.1
      suspects_one s whole found keeps breach leak (inr past) = at_suspect s whole found keeps breach leak past.0 past.1

    closing : (suspects : List Suspect) (breach : Option Broken) (broken : Broken) → AreFound leaked log (record { suspects = suspects; breach = breach })
        → ((whole : List Logged) → IsBreach leaked whole (behind [] log) at broken) → AreFound leaked (log ++ at ∷ []) (closed (record { suspects = suspects; breach = breach }) broken)
    closing suspects (Some first) broken held breach = found_closed suspects first held
    closing suspects None broken held breach = record {
      each = λ whole found leak comes. closes suspects held broken breach whole found (leak_before whole leak) (parts_closed whole suspects broken found comes);
    }

    suspecting : (suspects : List Suspect) (breach : Option Broken) (s : Suspect) → AreFound leaked log (record { suspects = suspects; breach = breach })
        → ((whole : List Logged) → IsLeakedKey leaked whole s.key → Keeps whole)
        → ((whole : List Logged) → (IsLeakedKey leaked whole s.key → ⊥) → IsBreach leaked whole (behind [] log) at s.broken) → AreFound leaked (log ++ at ∷ []) (suspected (record { suspects = suspects; breach = breach }) s)
    suspecting suspects (Some first) s held keeps breach = found_closed suspects first held
    suspecting suspects None s held keeps breach = record {
      each = λ whole found leak comes. suspects_one suspects held s whole found (keeps whole) (breach whole) (leak_before whole leak) (parts_more whole suspects s found comes);
    }

    -- the entry breaks a premise, whatever leaks
    pub found_broken : (findings : Findings) (broken : Broken) → AreFound leaked log findings → ((whole : List Logged) → IsBreach leaked whole (behind [] log) at broken) → AreFound leaked (log ++ at ∷ []) (closed findings broken)
    found_broken findings broken held breach = closing findings.suspects findings.breach broken held breach

    -- the entry breaks a premise unless its key leaks
    pub found_suspect : (findings : Findings) (s : Suspect) → AreFound leaked log findings → ((whole : List Logged) → IsLeakedKey leaked whole s.key → Keeps whole)
        → ((whole : List Logged) → (IsLeakedKey leaked whole s.key → ⊥) → IsBreach leaked whole (behind [] log) at s.broken) → AreFound leaked (log ++ at ∷ []) (suspected findings s)
    found_suspect findings s held keeps breach = suspecting findings.suspects findings.breach s held keeps breach
