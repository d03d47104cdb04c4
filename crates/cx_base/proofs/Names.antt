-- What the tests of types and names say.
use Rattle.std.proofs.Common.{◌≡◌, Bool, true, false, List, ℕ, refl, ap, ◌∙◌, rules}
use Rattle.std.specs.Prelude.{◌&&◌}
use Rattle.std.specs.Str.{bytes_eq}
use Rattle.std.proofs.lemmas.Slice.Eq.{bytes_eq-Decides}
use Rattle.cx_base.specs.Names.{Name, same_kind, same_name}
use Rattle.cx_base.specs.declared.kinds.EntityType.{EntityType}
use Rattle.cx_base.specs.declared.kinds.EntityType.TheVariants.{Mon, Mds, Osd, Client, Mgr, Auth}

-- types that are found to be one are equal
pub same_kind_is : (a b : EntityType) → same_kind a b ≡ true → a ≡ b
same_kind_is Mon Mon e = refl
same_kind_is Mds Mds e = refl
same_kind_is Osd Osd e = refl
same_kind_is Client Client e = refl
same_kind_is Mgr Mgr e = refl
same_kind_is Auth Auth e = refl
same_kind_is _ _ e = cc

named : (a b : Name) → a.kind ≡ b.kind → a.id ≡ b.id → a ≡ b
named a b kinds ids =
    let with_kind : EntityType → Name = λ kind. record { kind = kind; id = a.id } in
    let with_id : List ℕ → Name = λ id. record { kind = b.kind; id = id } in
    ap with_kind kinds ∙ ap with_id ids

same_bytes_are : (xs ys : List ℕ) → bytes_eq xs ys ≡ true → xs ≡ ys
same_bytes_are xs ys e = search (rules, bytes_eq-Decides)

both : (a b : Bool) → (a && b) ≡ true → (a ≡ true) × (b ≡ true)
both true true e = (refl, refl)
both true false e = cc
both false b e = cc

-- names that are found to be one are equal
pub same_name_is : (a b : Name) → same_name a b ≡ true → a ≡ b
same_name_is a b e =
    let parts = both (same_kind a.kind b.kind) (bytes_eq a.id b.id) e in
    let kinds = same_kind_is a.kind b.kind parts.0 in
    let ids = same_bytes_are a.id b.id parts.1 in
    named a b kinds ids

-- a type is found to be itself
pub same_kind_self : (kind : EntityType) → same_kind kind kind ≡ true
same_kind_self Mon = refl
same_kind_self Mds = refl
same_kind_self Osd = refl
same_kind_self Client = refl
same_kind_self Mgr = refl
same_kind_self Auth = refl

same_bytes_self : (xs : List ℕ) → bytes_eq xs xs ≡ true
same_bytes_self xs = search (rules, bytes_eq-Decides)

-- a name is found to be itself
pub same_name_self : (a : Name) → same_name a a ≡ true
same_name_self a = rw (same_kind_self a.kind, same_bytes_self a.id) refl
