-- The last entry that passes a test: where it stands, and that none behind it passes.
use Rattle.std.proofs.Common.{◌≡◌, List, [], ◌∷◌, ◌++◌, Bool, true, false, cond, Option, Some, None, ◌⊎◌, inl, inr, refl, sym, ◌∙◌, ap}
use Rattle.std.specs.Prelude.{◌||◌}
use Rattle.std.specs.List.{list_any}
use Rattle.std.specs.Option.{option_or}
use Rattle.cx_journal.specs.Sessions.{last_such}
use Rattle.cx_journal.specs.declared.entries.Entry.{Entry}

pub neither : (a b : Bool) → (a || b) ≡ false → (a ≡ false) × (b ≡ false)
neither false false e = (refl, refl)
neither false true e = cc
neither true b e = cc

pub none_such : (p : Entry → Bool) (es : List Entry) → list_any p es ≡ false → last_such p es ≡ None
none_such p [] none = refl
none_such p (e ∷ es) none =
    let parts = neither (p e) (list_any p es) none in
    rw (none_such p es parts.1, parts.0) refl

pub last_is : (p : Entry → Bool) (before : List Entry) (e : Entry) (between : List Entry) → p e ≡ true → list_any p between ≡ false → last_such p (before ++ e ∷ between) ≡ Some e
last_is p [] e between passes none = rw (none_such p between none, passes) refl
last_is p (x ∷ before) e between passes none = rw (last_is p before e between passes none) refl

pub record IsLast (p : Entry → Bool) (es : List Entry) (e : Entry) : Type 0 where
  pub before : List Entry
  pub between : List Entry
  pub place : es ≡ before ++ e ∷ between
  pub passes : p e ≡ true
  pub none : list_any p between ≡ false

both_none : (o : Option Entry) (b : Bool) (x : Entry) → option_or o (cond b (Some x) None) ≡ None → (o ≡ None) × (b ≡ false)
both_none None false x e = (refl, refl)
both_none None true x e = cc
both_none (Some y) b x e = cc

pub no_last : (p : Entry → Bool) (es : List Entry) → last_such p es ≡ None → list_any p es ≡ false
no_last p [] e = refl
no_last p (x ∷ es) e =
    let parts = both_none (last_such p es) (p x) x e in
    rw (parts.1, no_last p es parts.0) refl

last_of : (o : Option Entry) (b : Bool) (x e : Entry) → option_or o (cond b (Some x) None) ≡ Some e → (o ≡ Some e) ⊎ ((o ≡ None) × (b ≡ true) × (x ≡ e))
last_of (Some y) b x e is = inl is
last_of None true x e is = inr (refl, refl, cc)
last_of None false x e is = cc

more : (p : Entry → Bool) (x : Entry) (es : List Entry) (e : Entry) → IsLast p es e → IsLast p (x ∷ es) e
more p x es e last = record {
  before = x ∷ last.before;
  between = last.between;
  place = ap (λ ks. x ∷ ks) last.place;
  passes = last.passes;
  none = last.none;
}

here : (p : Entry → Bool) (x : Entry) (es : List Entry) (e : Entry) → (last_such p es ≡ None) × (p x ≡ true) × (x ≡ e) → IsLast p (x ∷ es) e
here p x es e parts = record {
  before = [];
  between = es;
  place = ap (λ k. k ∷ es) parts.2;
  passes = sym (ap p parts.2) ∙ parts.1;
  none = no_last p es parts.0;
}

pub last_at : (p : Entry → Bool) (es : List Entry) (e : Entry) → last_such p es ≡ Some e → IsLast p es e
last_at p [] e is = cc
last_at p (x ∷ es) e is =
    elim (last_of (last_such p es) (p x) x e is) as (λ _. IsLast p (x ∷ es) e) [
      | inl found ↦ more p x es e (last_at p es e found)
      | inr parts ↦ here p x es e parts
    ]
