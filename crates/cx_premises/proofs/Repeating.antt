-- A draw repeats an earlier one exactly where what it leaves is there, or the same key in the other form.
use Rattle.std.proofs.Common.{◌≡◌, ℕ, Bool, true, false, List, [], ◌∷◌, Option, Some, None, ◌⊎◌, inl, inr, refl, sym, ap, ◌∙◌, subst, take}
use Rattle.std.specs.Prelude.{◌||◌}
use Rattle.std.proofs.lemmas.Bool.{or_cases}
use Rattle.cx_base.specs.Names.{Name}
use Rattle.cx_premises.proofs.Leaving.{is_drawn, key_in, key_in_draw, undrawn}
use Rattle.cx_premises.proofs.Walks.{behind, from_newest, some_from, to_newest}
use Rattle.cx_premises.specs.Facts.{AreLeft, HasLeft, draw_fact, fact_of, is_kept, is_repeated, sealed_fact, signed_fact}
use Rattle.cx_premises.specs.declared.facts.Fact.{Fact}
use Rattle.cx_premises.specs.declared.facts.Fact.TheVariants as fact
use Rattle.cx_steps.specs.Draws.{IsSameKey, Repeats, key_of}
use Rattle.cx_steps.specs.Onto.{SomeOf}
use Rattle.cx_steps.specs.Premises.{RepeatsIn}
use Rattle.cx_steps.specs.declared.seals.DrawMark.{DrawMark}
use Rattle.cx_steps.specs.declared.seals.DrawMark.TheVariants as draw
use Rattle.cx_steps.specs.declared.seals.Logged.{Logged}
use Rattle.cx_steps.specs.declared.seals.SealEntry.{SealEntry}
use Rattle.cx_steps.specs.declared.seals.SealEntry.TheVariants as entry

-- two facts are one, or of one key
abbrev AreTwins : Fact → Fact → Type 0
AreTwins a b = (a ≡ b) ⊎ ((key : List ℕ) × (key_in a ≡ Some key) × (key_in b ≡ Some key))

-- ---- among the facts

module _ (facts : List Fact) where
  key_there : (key : List ℕ) (left : Fact) → (is_kept facts (fact.Key key) ≡ true) ⊎ (is_kept facts (fact.LeakedKey key) ≡ true) → key_in left ≡ Some key → (other : Fact) × (is_kept facts other ≡ true) × AreTwins other left
  key_there key left (inl kept) is = (fact.Key key, kept, inr (key, refl, is))
  key_there key left (inr kept) is = (fact.LeakedKey key, kept, inr (key, refl, is))

  repeated_there : (left : Fact) → is_repeated facts left ≡ true → (other : Fact) × (is_kept facts other ≡ true) × AreTwins other left
  repeated_there (fact.Key key) e = key_there key (fact.Key key) (or_cases (is_kept facts (fact.Key key)) (is_kept facts (fact.LeakedKey key)) e) refl
  repeated_there (fact.LeakedKey key) e = key_there key (fact.LeakedKey key) (or_cases (is_kept facts (fact.Key key)) (is_kept facts (fact.LeakedKey key)) e) refl
  repeated_there left e = (left, e, inl refl)

  either : (a b : Bool) → (a ≡ true) ⊎ (b ≡ true) → (a || b) ≡ true
  either true b h = refl
  either false true h = refl
  either false false (inl h) = h
  either false false (inr h) = h

  key_repeated : (other : Fact) (key : List ℕ) → key_in other ≡ Some key → is_kept facts other ≡ true → (is_kept facts (fact.Key key) || is_kept facts (fact.LeakedKey key)) ≡ true
  key_repeated (fact.Key k) key is kept =
      let one : k ≡ key = cc in
      either (is_kept facts (fact.Key key)) (is_kept facts (fact.LeakedKey key)) (inl (subst (λ q. is_kept facts (fact.Key q) ≡ true) one kept))
  key_repeated (fact.LeakedKey k) key is kept =
      let one : k ≡ key = cc in
      either (is_kept facts (fact.Key key)) (is_kept facts (fact.LeakedKey key)) (inr (subst (λ q. is_kept facts (fact.LeakedKey q) ≡ true) one kept))
  key_repeated _ key is kept = cc

  itself_repeated : (left : Fact) → is_kept facts left ≡ true → is_repeated facts left ≡ true
  itself_repeated (fact.Key key) kept = either (is_kept facts (fact.Key key)) (is_kept facts (fact.LeakedKey key)) (inl kept)
  itself_repeated (fact.LeakedKey key) kept = either (is_kept facts (fact.Key key)) (is_kept facts (fact.LeakedKey key)) (inr kept)
  itself_repeated left kept = kept

  twin_repeated : (other left : Fact) → is_kept facts other ≡ true → AreTwins other left → is_repeated facts left ≡ true
  twin_repeated other left kept (inl same) = itself_repeated left (subst (λ f. is_kept facts f ≡ true) same kept)
  twin_repeated other (fact.Key k) kept (inr twins) =
      let one : twins.0 ≡ k = cc in
      subst (λ q. (is_kept facts (fact.Key q) || is_kept facts (fact.LeakedKey q)) ≡ true) one (key_repeated other twins.0 twins.1 kept)
  twin_repeated other (fact.LeakedKey k) kept (inr twins) =
      let one : twins.0 ≡ k = cc in
      subst (λ q. (is_kept facts (fact.Key q) || is_kept facts (fact.LeakedKey q)) ≡ true) one (key_repeated other twins.0 twins.1 kept)
  twin_repeated other left kept (inr twins) = cc

-- ---- among the draws

same_keys : (a b : Option (List ℕ)) → IsSameKey a b → (key : List ℕ) × (a ≡ Some key) × (b ≡ Some key)
same_keys (Some x) (Some y) e = (x, refl, ap Some (sym e))
same_keys (Some x) None none = absurd none
same_keys None b none = absurd none

are_same_keys : (a b : Option (List ℕ)) (key : List ℕ) → a ≡ Some key → b ≡ Some key → IsSameKey a b
are_same_keys (Some x) (Some y) key e f = cc
are_same_keys (Some x) None key e f = cc
are_same_keys None b key e f = cc

module _ (leaked : List Name) where
  keyed_twins : (a b : DrawMark) → IsSameKey (key_of a) (key_of b) → AreTwins (draw_fact leaked a) (draw_fact leaked b)
  keyed_twins a b e =
      let keys = same_keys (key_of a) (key_of b) e in
      inr (keys.0, key_in_draw leaked a ∙ keys.1, key_in_draw leaked b ∙ keys.2)

  repeats_twins : (a b : DrawMark) → Repeats a b → AreTwins (draw_fact leaked a) (draw_fact leaked b)
  repeats_twins (draw.Challenge x) (draw.Challenge y) e = inl (ap fact.Challenge e)
  repeats_twins (draw.Nonce x) (draw.Nonce y) e = inl (ap fact.Nonce e)
  repeats_twins (draw.Cookie x) (draw.Cookie y) e = inl (ap fact.Cookie e)
  repeats_twins a b e = keyed_twins a b e

  keys_repeat : (a b : DrawMark) (key : List ℕ) → key_of a ≡ Some key → key_of b ≡ Some key → Repeats a b
  keys_repeat (draw.Challenge x) (draw.Challenge y) key e f = cc
  keys_repeat (draw.Nonce x) (draw.Nonce y) key e f = cc
  keys_repeat (draw.Cookie x) (draw.Cookie y) key e f = cc
  keys_repeat a b key e f = are_same_keys (key_of a) (key_of b) key e f

  -- a draw that left something without a key has none
  keyless : (a : DrawMark) (left : Fact) (key : List ℕ) → draw_fact leaked a ≡ left → key_in left ≡ None → key_of a ≡ Some key → ⊥
  keyless a left key is none some =
      let both : Some key ≡ None = sym some ∙ sym (key_in_draw leaked a) ∙ ap key_in is ∙ none in
      cc

  challenge_repeats : (a : DrawMark) (value : ℕ) → draw_fact leaked a ≡ fact.Challenge value → Repeats a (draw.Challenge value)
  challenge_repeats (draw.Challenge x) value e = cc
  challenge_repeats (draw.Principal secret whose) value e = absurd (keyless (draw.Principal secret whose) (fact.Challenge value) secret e refl refl)
  challenge_repeats (draw.Connection secret whose) value e = absurd (keyless (draw.Connection secret whose) (fact.Challenge value) (take 16 secret) e refl refl)
  challenge_repeats (draw.Session key whose) value e = absurd (keyless (draw.Session key whose) (fact.Challenge value) key e refl refl)
  challenge_repeats _ value e = cc

  nonce_repeats : (a : DrawMark) (value : ℕ) → draw_fact leaked a ≡ fact.Nonce value → Repeats a (draw.Nonce value)
  nonce_repeats (draw.Nonce x) value e = cc
  nonce_repeats (draw.Principal secret whose) value e = absurd (keyless (draw.Principal secret whose) (fact.Nonce value) secret e refl refl)
  nonce_repeats (draw.Connection secret whose) value e = absurd (keyless (draw.Connection secret whose) (fact.Nonce value) (take 16 secret) e refl refl)
  nonce_repeats (draw.Session key whose) value e = absurd (keyless (draw.Session key whose) (fact.Nonce value) key e refl refl)
  nonce_repeats _ value e = cc

  cookie_repeats : (a : DrawMark) (value : ℕ) → draw_fact leaked a ≡ fact.Cookie value → Repeats a (draw.Cookie value)
  cookie_repeats (draw.Cookie x) value e = cc
  cookie_repeats (draw.Principal secret whose) value e = absurd (keyless (draw.Principal secret whose) (fact.Cookie value) secret e refl refl)
  cookie_repeats (draw.Connection secret whose) value e = absurd (keyless (draw.Connection secret whose) (fact.Cookie value) (take 16 secret) e refl refl)
  cookie_repeats (draw.Session key whose) value e = absurd (keyless (draw.Session key whose) (fact.Cookie value) key e refl refl)
  cookie_repeats _ value e = cc

  same_repeats : (a b : DrawMark) (key : List ℕ) → draw_fact leaked a ≡ draw_fact leaked b → key_of b ≡ Some key → Repeats a b
  same_repeats a b key e is = keys_repeat a b key (sym (key_in_draw leaked a) ∙ ap key_in e ∙ key_in_draw leaked b ∙ is) is

  twins_repeat : (a b : DrawMark) → AreTwins (draw_fact leaked a) (draw_fact leaked b) → Repeats a b
  twins_repeat a b (inr twins) = keys_repeat a b twins.0 (sym (key_in_draw leaked a) ∙ twins.1) (sym (key_in_draw leaked b) ∙ twins.2)
  twins_repeat a (draw.Challenge value) (inl e) = challenge_repeats a value e
  twins_repeat a (draw.Nonce value) (inl e) = nonce_repeats a value e
  twins_repeat a (draw.Cookie value) (inl e) = cookie_repeats a value e
  twins_repeat a (draw.Principal secret whose) (inl e) = same_repeats a (draw.Principal secret whose) secret e refl
  twins_repeat a (draw.Connection secret whose) (inl e) = same_repeats a (draw.Connection secret whose) (take 16 secret) e refl
  twins_repeat a (draw.Session key whose) (inl e) = same_repeats a (draw.Session key whose) key e refl
  twins_repeat a (draw.Rotation key) (inl e) = same_repeats a (draw.Rotation key) key e refl

  -- ---- in a log

  no_twin : (mark : DrawMark) (left : Fact) → is_drawn left ≡ false → key_in left ≡ None → AreTwins left (draw_fact leaked mark) → ⊥
  no_twin mark left not none (inl e) = undrawn leaked mark left not (sym e)
  no_twin mark left not none (inr twins) =
      let both : Some twins.0 ≡ None = sym twins.1 ∙ none in
      cc

  twin_in : (mark : DrawMark) (left : Fact) (e : SealEntry) → AreTwins left (draw_fact leaked mark) → fact_of leaked e ≡ Some left → RepeatsIn mark e
  twin_in mark left (entry.Drawn other) twins is =
      let same : left ≡ draw_fact leaked other = cc in
      twins_repeat other mark (subst (λ f. AreTwins f (draw_fact leaked mark)) same twins)
  twin_in mark left (entry.Sealed m) twins is =
      let same : left ≡ sealed_fact m = cc in
      no_twin mark (sealed_fact m) refl refl (subst (λ f. AreTwins f (draw_fact leaked mark)) same twins)
  twin_in mark left (entry.Signed m) twins is =
      let same : left ≡ signed_fact m = cc in
      no_twin mark (signed_fact m) refl refl (subst (λ f. AreTwins f (draw_fact leaked mark)) same twins)
  twin_in mark left _ twins is = cc

  left_twin : (mark : DrawMark) (e : SealEntry) → RepeatsIn mark e → (left : Fact) × (fact_of leaked e ≡ Some left) × AreTwins left (draw_fact leaked mark)
  left_twin mark (entry.Drawn other) repeats = (draw_fact leaked other, refl, repeats_twins other mark repeats)
  left_twin mark _ none = absurd none

  has_twin : (mark : DrawMark) (log : List Logged) → SomeOf (λ at. RepeatsIn mark at.entry) log → (left : Fact) × HasLeft leaked log left × AreTwins left (draw_fact leaked mark)
  has_twin mark [] none = absurd none
  has_twin mark (at ∷ log) (inl here) = let found = left_twin mark at.entry here in (found.0, inl found.1, found.2)
  has_twin mark (at ∷ log) (inr there) = let found = has_twin mark log there in (found.0, inr found.1, found.2)

  module _ (log : List Logged) (facts : List Fact) (held : AreLeft leaked log facts) (mark : DrawMark) where
    -- what is repeated was drawn
    pub repeated_is : is_repeated facts (draw_fact leaked mark) ≡ true → SomeOf (λ at. RepeatsIn mark at.entry) (behind [] log)
    repeated_is e =
        let found = repeated_there facts (draw_fact leaked mark) e in
        to_newest (λ at. RepeatsIn mark at.entry) log
        (some_from (λ at. fact_of leaked at.entry ≡ Some found.0) (λ at. RepeatsIn mark at.entry) (λ at is. twin_in mark found.0 at.entry found.2 is) log ((held.each found.0).0 found.1))

    -- what was drawn is repeated
    pub is_then_repeated : SomeOf (λ at. RepeatsIn mark at.entry) (behind [] log) → is_repeated facts (draw_fact leaked mark) ≡ true
    is_then_repeated there =
        let found = has_twin mark log (from_newest (λ at. RepeatsIn mark at.entry) log there) in
        twin_repeated facts found.0 (draw_fact leaked mark) ((held.each found.0).1 found.1) found.2
