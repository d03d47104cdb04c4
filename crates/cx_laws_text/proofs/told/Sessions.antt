-- Sessions, where cookies are renamed and no two become one: an operation is handled in the same session.
use Rattle.std.proofs.Common.{◌≡◌, ◌==◌, ◌||◌, ℕ, Bool, true, false, cond, List, [], ◌∷◌, ◌++◌, Option, Some, None, option_and_then, refl, ap, ap₂, ◌∙◌}
use Rattle.std.specs.Option.{option_map, option_or}
use Rattle.cx_base.specs.Names.{Name}
use Rattle.cx_journal.proofs.SessionLemmas.{session_from, session_is}
use Rattle.cx_journal.specs.InSession.{IsInSessionBy}
use Rattle.cx_journal.specs.Sessions.{IsHandledIn, ends_session, is_opening, is_turn_of, last_such, opened_for, session_at, session_of}
use Rattle.cx_journal.specs.declared.entries.Admitted.{Admitted}
use Rattle.cx_journal.specs.declared.entries.Entry.{Entry}
use Rattle.cx_journal.specs.declared.entries.Entry.TheVariants as entry
use Rattle.cx_journal.specs.declared.entries.Handled.{Handled}
use Rattle.cx_laws_text.proofs.told.Renaming.{entry_by, handled_by, session_by, told_by}

module _ (f : ℕ → ℕ) (same : (a b : ℕ) → (f a == f b) ≡ (a == b)) where
  -- ---- one entry

  opening-told : (h : Handled) (earlier : List Entry) (e : Entry) → is_opening (handled_by f h) (entry_by f earlier e) ≡ is_opening h e
  opening-told h earlier (entry.Admitted a) = rw (same a.cookie h.cookie) refl
  opening-told h earlier (entry.Resumed a) = rw (same a.cookie h.cookie) refl
  opening-told h earlier _ = refl

  ending-told : (daemon : Name) (session : ℕ) (earlier : List Entry) (e : Entry) → ends_session daemon session (entry_by f earlier e) ≡ ends_session daemon session e
  ending-told daemon session earlier (entry.Resumed a) = refl
  ending-told daemon session earlier _ = refl

  turn-told : (h : Handled) (earlier : List Entry) (e : Entry) → is_turn_of (handled_by f h) (entry_by f earlier e) ≡ is_turn_of h e
  turn-told h earlier e = ap₂ (λ (a b : Bool). a || b) (opening-told h earlier e) (ending-told h.daemon h.session earlier e)

  admitted-told : (earlier : List Entry) (e : Entry) → session_of (entry_by f earlier e) ≡ option_map (session_by f) (session_of e)
  admitted-told earlier (entry.Admitted a) = refl
  admitted-told earlier _ = refl

  opened-told : (h : Handled) (earlier : List Entry) (e : Entry) → opened_for (handled_by f h) (entry_by f earlier e) ≡ option_map (session_by f) (opened_for h e)
  opened-told h earlier e =
      ap₂ (λ (b : Bool) (o : Option Admitted). cond b o None) (opening-told h earlier e) (admitted-told earlier e) ∙ by_test (is_opening h e) (session_of e)
    where
      by_test : (b : Bool) (o : Option Admitted) → cond b (option_map (session_by f) o) None ≡ option_map (session_by f) (cond b o None)
      by_test true o = refl
      by_test false o = refl

  -- ---- the last entry that passes

  -- of both there is none, or one is what is told of the other
  abbrev IsToldOf : Option Entry → Option Entry → Type 0
  IsToldOf None None = Unit {0}
  IsToldOf (Some y) (Some e) = (earlier : List Entry) × (y ≡ entry_by f earlier e)
  IsToldOf _ _ = ⊥

  or-told : (earlier : List Entry) (e : Entry) (a b : Option Entry) (t : Bool) → IsToldOf a b
      → IsToldOf (option_or a (cond t (Some (entry_by f earlier e)) None)) (option_or b (cond t (Some e) None))
  or-told earlier e None None true told = (earlier, refl)
  or-told earlier e None None false told = tt
  or-told earlier e (Some y) (Some x) t told = told
  or-told earlier e None (Some x) t told = absurd told
  or-told earlier e (Some y) None t told = absurd told

  last-told : (p q : Entry → Bool) → ((earlier : List Entry) (e : Entry) → p (entry_by f earlier e) ≡ q e)
      → (earlier es : List Entry) → IsToldOf (last_such p (told_by f earlier es)) (last_such q es)
  last-told p q one earlier [] = tt
  last-told p q one earlier (e ∷ es) =
      rw (one earlier e) (or-told earlier e (last_such p (told_by f (earlier ++ e ∷ []) es)) (last_such q es) (q e) (last-told p q one (earlier ++ e ∷ []) es))

  -- ---- the session

  pub session-told : (h : Handled) (earlier es : List Entry) → session_at (told_by f earlier es) (handled_by f h) ≡ option_map (session_by f) (session_at es h)
  session-told h earlier es =
      of_last (last_such (is_turn_of (handled_by f h)) (told_by f earlier es)) (last_such (is_turn_of h) es)
      (last-told (is_turn_of (handled_by f h)) (is_turn_of h) (turn-told h) earlier es)
    where
      of_last : (a b : Option Entry) → IsToldOf a b → option_and_then (opened_for (handled_by f h)) a ≡ option_map (session_by f) (option_and_then (opened_for h) b)
      of_last None None told = refl
      of_last (Some y) (Some e) told = ap (opened_for (handled_by f h)) told.1 ∙ opened-told h told.0 e
      of_last None (Some e) told = absurd told
      of_last (Some y) None told = absurd told

  handled-told : (h : Handled) (s : Admitted) (earlier es : List Entry) → IsHandledIn es h s → IsHandledIn (told_by f earlier es) (handled_by f h) (session_by f s)
  handled-told h s earlier es is =
      session_from (told_by f earlier es) (handled_by f h) (session_by f s)
      (session-told h earlier es ∙ ap (λ (o : Option Admitted). option_map (session_by f) o) (session_is es h s is))

  pub in-session-told : (before : List Entry) (e : Entry) → IsInSessionBy before e → IsInSessionBy (told_by f [] before) (entry_by f before e)
  in-session-told before (entry.Handled h) i = (session_by f i.0, handled-told h i.0 [] before i.1)
  in-session-told before _ i = tt
