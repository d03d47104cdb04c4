-- Each step keeps the rule.
use Rattle.std.proofs.Common.{◌≡◌, ◌≢◌, ℕ, zero, suc, ◌+◌, ◌≤◌, List, [], ◌∷◌, ◌++◌, length, set, true, false, true≢false, refl, ap, sym, ◌∙◌, subst, ⊎_elim, arith, length-append}
use Rattle.std.proofs.Common.{eqb}
use Rattle.std.specs.Prelude.{slice_index, slice_set}
use mathlib.Core.Option.{some, none, some-injective, some-ne-none}
use mathlib.Core.List.{IsPrefix}
use lib.ListN.{get_elem?}
use prog.Atomic.{either}
use Rattle.atomic_table.specs.Table.{Me, step, keeps, Allows, Splits, Joins, Enters}
use Rattle.atomic_table.proofs.Lists.{at_set, exchanged}
use Rattle.cx_base.specs.Names.{Name}
use Rattle.cx_session.specs.declared.call.BookCall.{BookCall}
use Rattle.cx_session.specs.Book.{empty_book}
use Rattle.cx_hall.specs.declared.entry.HallEntry.{HallEntry}
use Rattle.cx_hall.specs.declared.rule.Knowledge.{Knowledge}
use Rattle.cx_hall.specs.History.{entry, MakesEntry, HallHistory, reply_behind}
use Rattle.cx_hall.specs.Passes.{own}
use Rattle.cx_hall.specs.Rule.{nobody, keeper_of, pass_with, holding, released, Fits, IsCounted, IsNewPass, SeesAll, Adds}
use Rattle.cx_hall.proofs.Lists.{prefix_self, prefix_trans, length_set, some_below, at_end}
use Rattle.cx_hall.proofs.Entries.{own-mine, own-other, answered-append}

off : false ≡ true → ⊥
off e = true≢false (sym e)

module _ {O : Type 0} (entity_of : O → Name) (gid_of : O → ℕ) where
  abbrev Seats : ℕ → List (HallEntry O) → List (Knowledge O) → Type 0
  Seats seat log views = (by : ℕ) (v : Knowledge O) → get_elem? views by ≡ some v → Fits seat log by v

  -- one seat changes, and the others are fit afterwards
  seats_set : (seat : ℕ) (log : List (HallEntry O)) (views : List (Knowledge O)) (id : ℕ) (w : Knowledge O) → ((by : ℕ) (u : Knowledge O) → by ≢ id → get_elem? views by ≡ some u → Fits seat log by u) → Fits seat log id w → Seats seat log (set views id w)
  seats_set seat log views id w others mine by u e =
      ⊎_elim
      (λ (x : (by ≡ id) × (w ≡ u)). subst (λ (y : ℕ × Knowledge O). Fits seat log y.0 y.1) (λ i. (sym x.0 i, x.1 i)) mine)
      (λ (x : (by ≢ id) × (get_elem? views by ≡ some u)). others by u x.0 x.1)
      (at_set views id by w u e)

  pub begins : IsCounted entity_of gid_of record { words = 0 ∷ []; homes = []; views = keeper_of [] ∷ [] }
  begins = (0, [], refl, tt, one, (λ by le. refl))
    where
      one : (by : ℕ) (v : Knowledge O) → get_elem? (keeper_of [] ∷ []) by ≡ some v → Fits 0 [] by v
      one zero v e = subst (Fits 0 [] 0) (some-injective _ _ e) ((λ _. (refl, refl)), (λ c. absurd (off c)), ([], refl), refl)
      one (suc by) v e = absurd (some-ne-none v (sym e))

  pub enters : (slots : ℕ) (m : Me (BookCall O) (Knowledge O)) → Enters (IsCounted entity_of gid_of) slots 0 (λ n w. IsNewPass entity_of gid_of (step slots 0 0 0 none) m n (w, []))
  enters slots m s h homes fits =
      let n = length s.views in
      let log = h.1 in
      let w = pass_with n log [] in
      let mine = h.5 n (omega arith) in (
        w,
        (
          h.0,
          log,
          h.2,
          h.3,
          (λ by u e. ⊎_elim (h.4 by u) (λ (t : (by ≡ n) × (w ≡ u)). subst (λ (y : ℕ × Knowledge O). Fits h.0 log y.0 y.1) (λ i. (sym t.0 i, t.1 i)) ((λ c. absurd (off c)), (λ _. refl), prefix_self log, mine)) (at_end s.views w u by e)),
          (λ by le. h.5 by (omega (arith, length-append s.views (w ∷ []), le))),
        ),
        (refl, h.3, mine),
      )

  pub looks : (slots id : ℕ) (v : Knowledge O) (c : List (ℕ × BookCall O)) → v.keeps ≡ true → v.is_pass ≡ true → Allows (IsCounted entity_of gid_of) slots id (v, c) 0 (λ n. n) (SeesAll entity_of gid_of (step slots 0 0 0 none) (v, c))
  looks slots id v c holds is_pass s h homes at fits =
      let seat = h.0 in
      let log = h.1 in
      let mine = h.4 id v at in
      let whole : v.all ≡ log = (mine.0 holds).1 in
      let found : slice_index s.words 0 ≡ length v.all = ap (λ ws. slice_index ws 0) h.2 ∙ ap length (sym whole) in
      let same : slice_set s.words 0 (slice_index s.words 0) ≡ length log ∷ [] = ap (λ ws. slice_set ws 0 (slice_index ws 0)) h.2 in
      let w : Knowledge O = record { keeps = v.keeps; all = v.all; is_pass = v.is_pass; number = v.number; seen = v.all; mine = v.mine } in
      let own_entries : own v.number 0 v.all ≡ v.mine = ap (λ n. own n 0 v.all) (mine.1 is_pass) ∙ (ap (own id 0) whole ∙ mine.3) in (
        w,
        keeps,
        tt,
        (
          seat,
          log,
          same,
          h.3,
          seats_set seat log s.views id w (λ by u apart e. h.4 by u e) (mine.0, mine.1, subst (λ l. IsPrefix v.all l) whole (prefix_self v.all), mine.3),
          (λ by le. h.5 by (omega (arith, length_set s.views id w, le))),
        ),
        (refl, refl, subst (λ l. IsPrefix v.seen l) (sym whole) mine.2, subst (HallHistory entity_of gid_of) (sym whole) h.3, own_entries, found),
      )

  pub adds : (slots id : ℕ) (v : Knowledge O) (c : List (ℕ × BookCall O)) (x : BookCall O) (old new : ℕ)
      → v.keeps ≡ true → v.is_pass ≡ true → old ≡ length v.all → new ≡ old + 1 → MakesEntry x
      → Allows (IsCounted entity_of gid_of) slots id (v, c) 0 (λ n. either (eqb n old) new n) (Adds entity_of gid_of (step slots 0 old new (some x)) (v, c))
  adds slots id v c x old new holds is_pass is_old is_new makes s h homes at fits =
      let seat = h.0 in
      let log = h.1 in
      let mine = h.4 id v at in
      let whole : v.all ≡ log = (mine.0 holds).1 in
      let found : slice_index s.words 0 ≡ old = ap (λ ws. slice_index ws 0) h.2 ∙ (ap length (sym whole) ∙ sym is_old) in
      let e : HallEntry O = entry v.number x (reply_behind entity_of gid_of v.all x) in
      let log' = v.all ++ e ∷ [] in
      let len : new ≡ length log' = omega (arith, length-append v.all (e ∷ []), is_old, is_new) in
      let next : either (eqb (slice_index s.words 0) old) new (slice_index s.words 0) ≡ length log' = exchanged (slice_index s.words 0) old new (λ k. k ≡ length log') (λ _. len) (λ apart. absurd (apart found)) in
      let words : slice_set s.words 0 (either (eqb (slice_index s.words 0) old) new (slice_index s.words 0)) ≡ length log' ∷ [] = ap (λ ws. slice_set ws 0 (either (eqb (slice_index s.words 0) old) new (slice_index s.words 0))) h.2 ∙ ap (λ k. k ∷ []) next in
      let answered : HallHistory entity_of gid_of log' = answered-append entity_of gid_of empty_book v.all e (subst (HallHistory entity_of gid_of) (sym whole) h.3) makes refl in
      let w : Knowledge O = record { keeps = v.keeps; all = log'; is_pass = v.is_pass; number = v.number; seen = log'; mine = v.mine ++ (length v.all, e) ∷ [] } in
      let mine_was : own id 0 v.all ≡ v.mine = ap (own id 0) whole ∙ mine.3 in
      let mine_is : own id 0 log' ≡ v.mine ++ (length v.all, e) ∷ [] = own-mine id v.all e (mine.1 is_pass) ∙ ap (λ l. l ++ (length v.all, e) ∷ []) mine_was in
      let others : (by : ℕ) → by ≢ id → own by 0 log' ≡ own by 0 log = λ by apart. own-other by v.all e (λ same. apart (sym same ∙ mine.1 is_pass)) ∙ ap (own by 0) whole in
      let more : (l : List (HallEntry O)) → IsPrefix l log → IsPrefix l log' = λ l p. prefix_trans l v.all log' (subst (λ k. IsPrefix l k) (sym whole) p) (e ∷ [], refl) in (
        w,
        keeps,
        tt,
        (
          seat,
          log',
          words,
          answered,
          seats_set seat log' s.views id w
              (λ by u apart at_u. let f = h.4 by u at_u in ((λ k. absurd (apart ((f.0 k).0 ∙ sym (mine.0 holds).0))), f.1, more u.seen f.2, others by apart ∙ f.3))
              ((λ _. ((mine.0 holds).0, refl)), mine.1, prefix_self log', mine_is),
          (λ by le. let n = some_below s.views id v at in let m : length s.views ≤ by = omega (arith, length_set s.views id w, le) in others by (λ same. absurd (omega (arith, n, m, same))) ∙ h.5 by m),
        ),
        (x, refl, (refl, refl, subst (λ l. IsPrefix v.seen l) (sym whole) mine.2, answered, ap (λ n. own n 0 log') (mine.1 is_pass) ∙ mine_is)),
      )

  pub takes_over : (id : ℕ) (v : Knowledge O) (other : ℕ) (u : Knowledge O) (log : List (HallEntry O)) → u ≡ keeper_of log → Joins (IsCounted entity_of gid_of) id v other u (holding v u.all) nobody
  takes_over id v other u log is s h at apart there =
      let w = holding v u.all in
      let was : get_elem? s.views other ≡ some u = ⊎_elim (λ (t : (other ≡ id) × (w ≡ u)). absurd (apart t.0)) (λ (t : (other ≢ id) × (get_elem? s.views other ≡ some u)). t.1) (at_set s.views id other w u there) in
      let theirs = h.4 other u was in
      let known = theirs.0 (ap (λ k. k.keeps) is) in
      let none_of_it : own other 0 h.1 ≡ [] = theirs.3 ∙ ap (λ k. k.mine) is in
      let mine = h.4 id v at in (
        id,
        h.1,
        h.2,
        h.3,
        seats_set id h.1 (set s.views id w) other nobody
            (λ by x not_other e. ⊎_elim
            (λ (t : (by ≡ id) × (w ≡ x)). subst (λ (y : ℕ × Knowledge O). Fits id h.1 y.0 y.1) (λ i. (sym t.0 i, t.1 i)) ((λ _. (refl, known.1)), mine.1, mine.2, mine.3))
            (λ (t : (by ≢ id) × (get_elem? s.views by ≡ some x)). let f = h.4 by x t.1 in ((λ k. absurd (not_other ((f.0 k).0 ∙ sym known.0))), f.1, f.2, f.3))
            (at_set s.views id by w x e))
            ((λ k. absurd (off k)), (λ k. absurd (off k)), (h.1, refl), none_of_it),
        (λ by le. h.5 by (omega (arith, length_set (set s.views id w) other nobody, length_set s.views id w, le))),
      )

  pub hands_back : (id : ℕ) (v : Knowledge O) → v.keeps ≡ true → Splits (IsCounted entity_of gid_of) id v (released v) (keeper_of v.all)
  hands_back id v holds s h at =
      let n = length s.views in
      let r = released v in
      let k = keeper_of v.all in
      let mine = h.4 id v at in
      let known = mine.0 holds in
      let len = length_set s.views id r in (
        n,
        h.1,
        h.2,
        h.3,
        (λ by u e. ⊎_elim
            (λ was. seats_set n h.1 s.views id r (λ j x apart at_x. let f = h.4 j x at_x in ((λ c. absurd (apart ((f.0 c).0 ∙ sym known.0))), f.1, f.2, f.3)) ((λ c. absurd (off c)), mine.1, mine.2, mine.3) by u was)
            (λ (t : (by ≡ length (set s.views id r)) × (k ≡ u)). subst (λ (y : ℕ × Knowledge O). Fits n h.1 y.0 y.1) (λ i. (sym (t.0 ∙ len) i, t.1 i)) ((λ _. (refl, known.1)), (λ c. absurd (off c)), (h.1, refl), h.5 n (omega arith)))
            (at_end (set s.views id r) k u by e)),
        (λ by le. h.5 by (omega (arith, length-append (set s.views id r) (k ∷ []), len, le))),
      )
