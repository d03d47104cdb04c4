-- What is sent and what is handled, where cookies are renamed and no two become one: the same under the new name.
use Rattle.std.proofs.Common.{◌≡◌, ◌==◌, ◌⊎◌, ℕ, Bool, true, false, inl, inr, List, [], ◌∷◌, ◌++◌, Option, Some, None, eqb-true, refl, sym, ap₂, ◌∙◌, subst}
use Rattle.std.specs.List.{cons_option, filter_map}
use Rattle.std.specs.Option.{option_map, option_map_or}
use Rattle.cx_base.specs.Names.{Name, same_name}
use Rattle.cx_base.specs.declared.operations.Operation.{Operation}
use Rattle.cx_journal.specs.Leaks.{IsUnleaked, is_leak}
use Rattle.cx_journal.specs.PrefixOfSent.{IsPrefix, IsPrefixOfSent, all_handled_under, handled_under, sent_under}
use Rattle.cx_journal.specs.Sessions.{session_at}
use Rattle.cx_journal.specs.declared.entries.Admitted.{Admitted}
use Rattle.cx_journal.specs.declared.entries.Entry.{Entry}
use Rattle.cx_journal.specs.declared.entries.Entry.TheVariants as entry
use Rattle.cx_laws_text.proofs.told.Renaming.{entry_by, session_by, some-told, told-append, told-split, told_by}
use Rattle.cx_laws_text.proofs.told.Sessions.{session-told}

leak-told : (f : ℕ → ℕ) (client : Name) (earlier : List Entry) (e : Entry) → is_leak client (entry_by f earlier e) ≡ is_leak client e
leak-told f client earlier (entry.Leaked name) = refl
leak-told f client earlier _ = refl

module _ (f : ℕ → ℕ) (same : (a b : ℕ) → (f a == f b) ≡ (a == b)) where
  -- ---- under the name of a cookie

  sent-one : (c : ℕ) (client : Name) (earlier : List Entry) (e : Entry) → sent_under (f c) client (entry_by f earlier e) ≡ sent_under c client e
  sent-one c client earlier (entry.Sent s) = rw (same s.cookie c) refl
  sent-one c client earlier _ = refl

  sent-told : (c : ℕ) (client : Name) (earlier es : List Entry) → filter_map (sent_under (f c) client) (told_by f earlier es) ≡ filter_map (sent_under c client) es
  sent-told c client earlier [] = refl
  sent-told c client earlier (e ∷ es) =
      ap₂ (λ (o : Option (ℕ × Operation)) (l : List (ℕ × Operation)). cons_option o l) (sent-one c client earlier e) (sent-told c client (earlier ++ e ∷ []) es)

  owner-told : (entity : Name) (o : Option Admitted)
      → option_map_or (λ (s : Admitted). same_name s.entity entity) (option_map (session_by f) o) false ≡ option_map_or (λ (s : Admitted). same_name s.entity entity) o false
  owner-told entity None = refl
  owner-told entity (Some s) = refl

  handled-one : (c : ℕ) (entity : Name) (earlier : List Entry) (e : Entry)
      → handled_under (f c) entity (told_by f [] earlier) (entry_by f earlier e) ≡ handled_under c entity earlier e
  handled-one c entity earlier (entry.Handled h) =
      rw (same h.cookie c, session-told f same h [] earlier, owner-told entity (session_at earlier h)) refl
  handled-one c entity earlier _ = refl

  all-handled : (c : ℕ) (entity : Name) (earlier es : List Entry)
      → all_handled_under (f c) entity (told_by f [] earlier) (told_by f earlier es) ≡ all_handled_under c entity earlier es
  all-handled c entity earlier [] = refl
  all-handled c entity earlier (e ∷ es) =
      ap₂ (λ (o : Option (ℕ × Operation)) (l : List (ℕ × Operation)). cons_option o l) (handled-one c entity earlier e)
      (rw (told-append f [] earlier (e ∷ [])) at (all-handled c entity (earlier ++ e ∷ []) es))

  -- ---- any number is the name of a cookie, or nothing is handled under it

  one-named : (k : ℕ) (entity : Name) (earlier before : List Entry) (e : Entry) → ((c : ℕ) × (k ≡ f c)) ⊎ (handled_under k entity before (entry_by f earlier e) ≡ None)
  one-named k entity earlier before (entry.Handled h) = by_test (f h.cookie == k) refl
    where
      by_test : (t : Bool) → (f h.cookie == k) ≡ t → ((c : ℕ) × (k ≡ f c)) ⊎ (handled_under k entity before (entry_by f earlier (entry.Handled h)) ≡ None)
      by_test true is = inl (h.cookie, sym (eqb-true (f h.cookie) k is))
      by_test false off = inr (rw off refl)
  one-named k entity earlier before _ = inr refl

  all-named : (k : ℕ) (entity : Name) (before earlier es : List Entry) → ((c : ℕ) × (k ≡ f c)) ⊎ (all_handled_under k entity before (told_by f earlier es) ≡ [])
  all-named k entity before earlier [] = inr refl
  all-named k entity before earlier (e ∷ es) =
      either (one-named k entity earlier before e) (all-named k entity (before ++ entry_by f earlier e ∷ []) (earlier ++ e ∷ []) es)
    where
      either : ((c : ℕ) × (k ≡ f c)) ⊎ (handled_under k entity before (entry_by f earlier e) ≡ None)
          → ((c : ℕ) × (k ≡ f c)) ⊎ (all_handled_under k entity (before ++ entry_by f earlier e ∷ []) (told_by f (earlier ++ e ∷ []) es) ≡ [])
          → ((c : ℕ) × (k ≡ f c)) ⊎ (all_handled_under k entity before (told_by f earlier (e ∷ es)) ≡ [])
      either (inl named) rest = inl named
      either (inr none) (inl named) = inl named
      either (inr none) (inr rest) = inr (ap₂ (λ (o : Option (ℕ × Operation)) (l : List (ℕ × Operation)). cons_option o l) none rest)

  -- ---- the law of order

  front-told : (front : List Entry) (entity : Name) (k : ℕ)
      → ((c : ℕ) → IsPrefix (all_handled_under c entity [] front) (filter_map (sent_under c entity) front))
      → ((c : ℕ) × (k ≡ f c)) ⊎ (all_handled_under k entity [] (told_by f [] front) ≡ [])
      → IsPrefix (all_handled_under k entity [] (told_by f [] front)) (filter_map (sent_under k entity) (told_by f [] front))
  front-told front entity k is (inl named) = rw (named.1, all-handled named.0 entity [] front, sent-told named.0 entity [] front) (is named.0)
  front-told front entity k is (inr none) = (filter_map (sent_under k entity) (told_by f [] front), rw none refl)

  pub prefix-told : (entries : List Entry) → IsPrefixOfSent entries → IsPrefixOfSent (told_by f [] entries)
  prefix-told entries h before after place k entity free =
      let cut = told-split f [] entries before after place in
      let clean : IsUnleaked entries entity = sym (some-told f (is_leak entity) (is_leak entity) (leak-told f entity) [] entries) ∙ free in
      subst (λ (l : List Entry). IsPrefix (all_handled_under k entity [] l) (filter_map (sent_under k entity) l)) cut.3
      (front-told cut.0 entity k (λ (c : ℕ). h cut.0 cut.1 cut.2 c entity clean) (all-named k entity [] [] cut.0))
