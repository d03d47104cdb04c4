-- What is told where each cookie is renamed by one function: entry by entry, and what a test finds in it.
use Rattle.std.proofs.Common.{◌≡◌, ◌<◌, ◌+◌, ◌^◌, ◌||◌, ℕ, Bool, List, [], ◌∷◌, ◌++◌, length, refl, ap, ap₂, append-nil, append_assoc, arith, length-append}
use Rattle.std.specs.List.{list_any}
use Rattle.cx_journal.specs.Behind.{EachBehind}
use Rattle.cx_journal.specs.declared.entries.Admitted.{Admitted}
use Rattle.cx_journal.specs.declared.entries.Entry.{Entry}
use Rattle.cx_journal.specs.declared.entries.Entry.TheVariants as entry
use Rattle.cx_journal.specs.declared.entries.Handled.{Handled}
use Rattle.cx_laws_text.specs.told.Told.{entry_told}

module _ (f : ℕ → ℕ) where
  abbrev pub session_by : Admitted → Admitted
  session_by a = record a { cookie = f a.cookie }

  abbrev pub handled_by : Handled → Handled
  handled_by h = record h { cookie = f h.cookie }

  -- an entry, behind these
  abbrev pub entry_by : List Entry → Entry → Entry
  entry_by earlier (entry.Admitted a) = entry.Admitted (session_by a)
  entry_by earlier (entry.Resumed a) = entry.Resumed (session_by a)
  entry_by earlier (entry.Sent s) = entry.Sent (record s { cookie = f s.cookie })
  entry_by earlier (entry.Handled h) = entry.Handled (handled_by h)
  entry_by earlier e = entry_told earlier e

  -- these entries, behind the earlier ones
  abbrev pub told_by : List Entry → List Entry → List Entry
  told_by earlier [] = []
  told_by earlier (e ∷ es) = entry_by earlier e ∷ told_by (earlier ++ e ∷ []) es

  pub told-append : (earlier xs ys : List Entry) → told_by earlier (xs ++ ys) ≡ told_by earlier xs ++ told_by (earlier ++ xs) ys
  told-append earlier [] ys = rw append-nil refl
  told-append earlier (x ∷ xs) ys =
      ap (λ (l : List Entry). entry_by earlier x ∷ l) (rw (append_assoc earlier (x ∷ []) xs) at (told-append (earlier ++ x ∷ []) xs ys))

  -- a front of what is told is what is told of a front
  pub told-split : (earlier es xs ys : List Entry) → told_by earlier es ≡ xs ++ ys
      → (front : List Entry) × (rest : List Entry) × (es ≡ front ++ rest) × (told_by earlier front ≡ xs)
  told-split earlier es [] ys is = ([], es, refl, refl)
  told-split earlier [] (x ∷ xs) ys is = absurd cc
  told-split earlier (e ∷ es) (x ∷ xs) ys is =
      let head : entry_by earlier e ≡ x = cc in
      let tail : told_by (earlier ++ e ∷ []) es ≡ xs ++ ys = cc in
      let more = told-split (earlier ++ e ∷ []) es xs ys tail in
      (e ∷ more.0, more.1, ap (λ (l : List Entry). e ∷ l) more.2, ap₂ (λ (y : Entry) (l : List Entry). y ∷ l) head more.3)

  -- what a test says of each entry that is told another says of the entry: so of some
  pub some-told : (p q : Entry → Bool) → ((earlier : List Entry) (e : Entry) → p (entry_by earlier e) ≡ q e)
      → (earlier es : List Entry) → list_any p (told_by earlier es) ≡ list_any q es
  some-told p q same earlier [] = refl
  some-told p q same earlier (e ∷ es) = ap₂ (λ (a b : Bool). a || b) (same earlier e) (some-told p q same (earlier ++ e ∷ []) es)

  -- what follows for each entry and those before it, where they are fewer than 2 ^ 64, follows for all
  pub each-told : (P Q : List Entry → Entry → Type 0)
      → ((before : List Entry) (e : Entry) → length before < 2 ^ 64 → P before e → Q (told_by [] before) (entry_by before e))
      → (before es : List Entry) → length before + length es < 2 ^ 64 → EachBehind P before es → EachBehind Q (told_by [] before) (told_by before es)
  each-told P Q step before [] few h = tt
  each-told P Q step before (e ∷ es) few h =
      let more : length (before ++ e ∷ []) + length es < 2 ^ 64 = omega (arith, length-append before (e ∷ []), few) in
      (step before e (omega (arith, few)) h.0, rw (told-append [] before (e ∷ [])) at (each-told P Q step (before ++ e ∷ []) es more h.1))
