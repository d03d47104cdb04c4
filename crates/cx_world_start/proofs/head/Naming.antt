-- Names of entities, and their texts.
use Rattle.std.proofs.Common.{◌≡◌, ℕ, Bool, true, false, List, refl, sym, ap, ◌∙◌}
use Rattle.std.specs.Str.{bytes_eq}
use Rattle.cx_base.specs.declared.kinds.EntityType.{EntityType}
use Rattle.cx_base.specs.declared.kinds.EntityType.TheVariants.{Mon, Mds, Osd, Client, Mgr, Auth}
use Rattle.cx_base.specs.Names.{Name, name_text, same_name}
use Rattle.cx_base.proofs.Names.{same_name_is, same_name_self}

flipped : (a b : Name) (x y : Bool) → same_name a b ≡ x → same_name b a ≡ y → x ≡ y
flipped a b true true p q = refl
flipped a b false false p q = refl
flipped a b true false p q =
    let same = same_name_is a b p in
    let e : true ≡ false = sym (same_name_self a) ∙ ap (λ (n : Name). same_name n a) same ∙ q in
    absurd cc
flipped a b false true p q =
    let same = same_name_is b a q in
    let e : true ≡ false = sym (same_name_self b) ∙ ap (λ (n : Name). same_name n b) same ∙ p in
    absurd cc

-- that two names are one doesn't depend on their order
pub same_name_sym : (a b : Name) → same_name a b ≡ same_name b a
same_name_sym a b = flipped a b (same_name a b) (same_name b a) refl refl

-- the texts of two names are one exactly where the names are
pub same_text : (a b : Name) → bytes_eq (name_text a) (name_text b) ≡ same_name a b
same_text a b = kinds a.kind b.kind a.id b.id
  where
    kinds : (j k : EntityType) (x y : List ℕ) → bytes_eq (name_text (record { kind = j; id = x })) (name_text (record { kind = k; id = y })) ≡ same_name (record { kind = j; id = x }) (record { kind = k; id = y })
    kinds Mon Mon x y = refl
    kinds Mds Mds x y = refl
    kinds Osd Osd x y = refl
    kinds Client Client x y = refl
    kinds Mgr Mgr x y = refl
    kinds Auth Auth x y = refl
    kinds _ _ x y = refl
