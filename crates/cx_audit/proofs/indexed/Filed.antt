-- What stands under a key where an entry is put there exactly if it passes a test.
use Rattle.std.proofs.Common.{◌≡◌, ℕ, Bool, true, false, cond, List, [], ◌∷◌, ◌++◌, filter, Option, Some, None, refl, sym, ap, ◌∙◌}
use Rattle.std.specs.Prelude.{◌||◌}
use Rattle.std.specs.List.{list_any}
use Rattle.std.specs.Option.{option_or}
use Rattle.std.specs.Str.{bytes_eq}
use Rattle.cx_base.specs.Names.{Name, same_name}
use Rattle.cx_base.specs.declared.kinds.EntityType.{EntityType}
use Rattle.cx_base.specs.declared.kinds.EntityType.TheVariants.{Mon, Mds, Osd, Client, Mgr, Auth}
use Rattle.cx_journal.specs.Sessions.{last_such}
use Rattle.cx_journal.specs.declared.entries.Entry.{Entry}
use Rattle.cx_audit.specs.indexed.Keyed.{is_under, name_bytes, put_of}
use Rattle.cx_audit.specs.declared.key.Key.{Key}

-- the bytes of two names are one exactly where the names are
pub same_bytes : (a b : Name) → bytes_eq (name_bytes a) (name_bytes b) ≡ same_name a b
same_bytes a b = kinds a.kind b.kind a.id b.id
  where
    kinds : (j k : EntityType) (x y : List ℕ) → bytes_eq (name_bytes (record { kind = j; id = x })) (name_bytes (record { kind = k; id = y })) ≡ same_name (record { kind = j; id = x }) (record { kind = k; id = y })
    kinds Mon Mon x y = refl
    kinds Mon Mds x y = refl
    kinds Mon Osd x y = refl
    kinds Mon Client x y = refl
    kinds Mon Mgr x y = refl
    kinds Mon Auth x y = refl
    kinds Mds Mon x y = refl
    kinds Mds Mds x y = refl
    kinds Mds Osd x y = refl
    kinds Mds Client x y = refl
    kinds Mds Mgr x y = refl
    kinds Mds Auth x y = refl
    kinds Osd Mon x y = refl
    kinds Osd Mds x y = refl
    kinds Osd Osd x y = refl
    kinds Osd Client x y = refl
    kinds Osd Mgr x y = refl
    kinds Osd Auth x y = refl
    kinds Client Mon x y = refl
    kinds Client Mds x y = refl
    kinds Client Osd x y = refl
    kinds Client Client x y = refl
    kinds Client Mgr x y = refl
    kinds Client Auth x y = refl
    kinds Mgr Mon x y = refl
    kinds Mgr Mds x y = refl
    kinds Mgr Osd x y = refl
    kinds Mgr Client x y = refl
    kinds Mgr Mgr x y = refl
    kinds Mgr Auth x y = refl
    kinds Auth Mon x y = refl
    kinds Auth Mds x y = refl
    kinds Auth Osd x y = refl
    kinds Auth Client x y = refl
    kinds Auth Mgr x y = refl
    kinds Auth Auth x y = refl

-- ---- one entry more

filter_one : (p : Entry → Bool) (e : Entry) (es : List Entry) (b : Bool) → p e ≡ b → cond b (filter p es ++ e ∷ []) (filter p es) ≡ filter p (es ++ e ∷ [])
filter_one p e [] true is = rw is refl
filter_one p e [] false is = rw is refl
filter_one p e (x ∷ es) b is = filter_more (p x) b (filter p es) (filter p (es ++ e ∷ [])) (filter_one p e es b is)
  where
    filter_more : (c b : Bool) (xs ys : List Entry) → cond b (xs ++ e ∷ []) xs ≡ ys → cond b (cond c (x ∷ xs) xs ++ e ∷ []) (cond c (x ∷ xs) xs) ≡ cond c (x ∷ ys) ys
    filter_more true true xs ys same = ap (λ k. x ∷ k) same
    filter_more true false xs ys same = ap (λ k. x ∷ k) same
    filter_more false true xs ys same = same
    filter_more false false xs ys same = same

put_is : (lists : Key → List Entry) (key : Key) (own : Option Key) (e : Entry) → put_of own e lists key ≡ cond (is_under own key) (lists key ++ e ∷ []) (lists key)
put_is lists key None e = refl
put_is lists key (Some k) e = refl

pub filed_more : (p : Entry → Bool) (lists : Key → List Entry) (key : Key) (own : Option Key) (e : Entry) (es : List Entry) → lists key ≡ filter p es → is_under own key ≡ p e
    → put_of own e lists key ≡ filter p (es ++ e ∷ [])
filed_more p lists key own e es are same =
    put_is lists key own e ∙ ap (λ b. cond b (lists key ++ e ∷ []) (lists key)) same ∙ ap (λ k. cond (p e) (k ++ e ∷ []) k) are ∙ filter_one p e es (p e) refl

-- ---- tests of the entries that are put together

any_case : (p : Entry → Bool) (x : Entry) (xs ys : List Entry) (kept : Bool) → (p x ≡ true → kept ≡ true) → (b : Bool) → p x ≡ b → list_any p xs ≡ list_any p ys → list_any p (cond kept (x ∷ xs) xs) ≡ (p x || list_any p ys)
any_case p x xs ys true within b is same = ap (λ k. p x || k) same
any_case p x xs ys false within true is same = absurd (let e : false ≡ true = within is in cc)
any_case p x xs ys false within false is same = same ∙ ap (λ k. k || list_any p ys) (sym is)

pub any_filed : (p q : Entry → Bool) → ((e : Entry) → p e ≡ true → q e ≡ true) → (es : List Entry) → list_any p (filter q es) ≡ list_any p es
any_filed p q within [] = refl
any_filed p q within (e ∷ es) = any_case p e (filter q es) es (q e) (within e) (p e) refl (any_filed p q within es)

last_case : (p : Entry → Bool) (x : Entry) (xs ys : List Entry) (b : Bool) → p x ≡ b → last_such p xs ≡ last_such p ys → last_such p (cond b (x ∷ xs) xs) ≡ last_such p (x ∷ ys)
last_case p x xs ys true is same = rw same refl
last_case p x xs ys false is same = rw (is, same) (or_none (last_such p ys))
  where
    or_none : {X : Type 0} (o : Option X) → o ≡ option_or o None
    or_none None = refl
    or_none (Some x) = refl

pub last_filed : (p : Entry → Bool) (es : List Entry) → last_such p (filter p es) ≡ last_such p es
last_filed p [] = refl
last_filed p (e ∷ es) = last_case p e (filter p es) es (p e) refl (last_filed p es)
