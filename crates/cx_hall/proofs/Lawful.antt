-- The laws of a hall's history.
use Rattle.std.proofs.Common.{◌⊎◌, ℕ, List, [], ◌∷◌, map, refl, sym, ◌∙◌, subst, inl, inr, ⊎_elim}
use mathlib.Core.List.{IsPrefix}
use Rattle.cx_base.specs.Names.{Name}
use Rattle.cx_session.specs.declared.call.BookCall.{BookCall}
use Rattle.cx_session.specs.declared.call.BookCall.TheVariants.{Admit, Resume, Check, Take, End}
use Rattle.cx_session.specs.Book.{Book, empty_book}
use Rattle.cx_session.specs.Answers.{after}
use Rattle.cx_session.specs.Told.{Told, told, told_book, told_call, AnswersAsTold, ChangesAsTold}
use Rattle.cx_hall.specs.declared.entry.HallEntry.{HallEntry}
use Rattle.cx_hall.specs.History.{MakesEntry, AreAnswered}
use Rattle.cx_hall.specs.Lawful.{told_entry, SawOneHistory, NumbersPasses, IsAnsweredAsTold}

-- of two fronts of one list one begins with the other
one_of_two : {A : Type 0} (xs ys zs : List A) → IsPrefix xs zs → IsPrefix ys zs → IsPrefix xs ys ⊎ IsPrefix ys xs
one_of_two [] ys zs p q = inl (ys, refl)
one_of_two (x ∷ xs) [] zs p q = inr (x ∷ xs, refl)
one_of_two (x ∷ xs) (y ∷ ys) [] p q = absurd (cc (p.1))
one_of_two (x ∷ xs) (y ∷ ys) (z ∷ zs) p q =
    ⊎_elim (λ (t : IsPrefix xs ys). inl (t.0, cc (t.1, p.1, q.1))) (λ (t : IsPrefix ys xs). inr (t.0, cc (t.1, p.1, q.1))) (one_of_two xs ys zs (p.0, cc (p.1)) (q.0, cc (q.1)))

makes_as_told : {O P : Type 0} (tell : O → P) (call : BookCall O) → MakesEntry call → MakesEntry (told_call tell call)
makes_as_told tell (Admit owner client server global lossy) makes = tt
makes_as_told tell (Resume owner client server global connect) makes = tt
makes_as_told tell (Check number epoch seq) makes = absurd makes
makes_as_told tell (Take number epoch seq) makes = tt
makes_as_told tell (End number) makes = tt

module _ {O : Type 0} (entity_of : O → Name) (gid_of : O → ℕ) where
  pub saw_one_history : SawOneHistory entity_of gid_of
  saw_one_history s by other v w rule here there =
      one_of_two v.seen w.seen rule.1 (rule.4 by v here).2 (rule.4 other w there).2

  pub numbers_passes : NumbersPasses entity_of gid_of
  numbers_passes s by other v w rule here there is_pass also same =
      sym ((rule.4 by v here).1 is_pass) ∙ (same ∙ (rule.4 other w there).1 also)

  module _ (caps_of : O → List ℕ) (reading_of : O → ℕ) where
    answered_from : AnswersAsTold entity_of gid_of caps_of reading_of → ChangesAsTold entity_of gid_of caps_of reading_of → (book : Book O) (log : List (HallEntry O)) → AreAnswered entity_of gid_of book log → AreAnswered (λ (t : Told). t.entity) (λ (t : Told). t.gid) (told_book (told entity_of gid_of caps_of reading_of) book) (map (told_entry (told entity_of gid_of caps_of reading_of)) log)
    answered_from answers changes book [] h = tt
    answered_from answers changes book (e ∷ es) h = (
      makes_as_told (told entity_of gid_of caps_of reading_of) e.call h.0,
      h.1 ∙ sym (answers book e.call),
      subst (λ b. AreAnswered (λ (t : Told). t.entity) (λ (t : Told). t.gid) b (map (told_entry (told entity_of gid_of caps_of reading_of)) es)) (sym (changes book e.call)) (answered_from answers changes (after entity_of gid_of book e.call) es h.2),
    )

    pub answered_as_told : AnswersAsTold entity_of gid_of caps_of reading_of → ChangesAsTold entity_of gid_of caps_of reading_of → IsAnsweredAsTold entity_of gid_of caps_of reading_of
    answered_as_told answers changes log h = answered_from answers changes empty_book log h
