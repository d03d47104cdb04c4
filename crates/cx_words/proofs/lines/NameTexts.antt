-- Names and their texts.
use Rattle.std.proofs.Common.{◌≡◌, ℕ, Bool, true, false, List, [], ◌∷◌, ◌++◌, refl, sym, ap, ◌∙◌}
use Rattle.std.specs.Prelude.{◌||◌, String}
use Rattle.std.specs.Str.{bytes_eq}
use Rattle.std.specs.BTreeSet.{BTreeSet, contains_text}
use Rattle.std.specs.declared.alloc.Global.{Global}
use Rattle.cx_base.specs.declared.kinds.EntityType.{EntityType}
use Rattle.cx_base.specs.declared.kinds.EntityType.TheVariants.{Mon, Mds, Osd, Client, Mgr, Auth}
use Rattle.cx_base.specs.Names.{Name, name_text, same_name}
use Rattle.cx_words.specs.lines.Named.{is_among, HasTexts, Notes}

or_one : (a b : Bool) → (a || (b || false)) ≡ (b || a)
or_one true true = refl
or_one true false = refl
or_one false true = refl
or_one false false = refl

or_more : (a b c : Bool) → ((a || b) || c) ≡ (a || (b || c))
or_more true b c = refl
or_more false b c = refl

among_more : (names : List Name) (name n : Name) → is_among (names ++ name ∷ []) n ≡ (is_among names n || (same_name name n || false))
among_more [] name n = refl
among_more (m ∷ names) name n = ap (λ b. same_name m n || b) (among_more names name n) ∙ sym (or_more (same_name m n) (is_among names n) (same_name name n || false))

-- the texts of two names are one exactly where the names are
same_text : (a b : Name) → bytes_eq (name_text a) (name_text b) ≡ same_name a b
same_text a b = kinds a.kind b.kind a.id b.id
  where
    kinds : (j k : EntityType) (x y : List ℕ) → bytes_eq (name_text (record { kind = j; id = x })) (name_text (record { kind = k; id = y })) ≡ same_name (record { kind = j; id = x }) (record { kind = k; id = y })
    kinds Mon Mon x y = refl
    kinds Mon Mds x y = refl
    kinds Mon Osd x y = refl
    kinds Mon Client x y = refl
    kinds Mon Mgr x y = refl
    kinds Mon Auth x y = refl
    kinds Mds Mon x y = refl
    kinds Mds Mds x y = refl
    kinds Mds Osd x y = refl
    kinds Mds Client x y = refl
    kinds Mds Mgr x y = refl
    kinds Mds Auth x y = refl
    kinds Osd Mon x y = refl
    kinds Osd Mds x y = refl
    kinds Osd Osd x y = refl
    kinds Osd Client x y = refl
    kinds Osd Mgr x y = refl
    kinds Osd Auth x y = refl
    kinds Client Mon x y = refl
    kinds Client Mds x y = refl
    kinds Client Osd x y = refl
    kinds Client Client x y = refl
    kinds Client Mgr x y = refl
    kinds Client Auth x y = refl
    kinds Mgr Mon x y = refl
    kinds Mgr Mds x y = refl
    kinds Mgr Osd x y = refl
    kinds Mgr Client x y = refl
    kinds Mgr Mgr x y = refl
    kinds Mgr Auth x y = refl
    kinds Auth Mon x y = refl
    kinds Auth Mds x y = refl
    kinds Auth Osd x y = refl
    kinds Auth Client x y = refl
    kinds Auth Mgr x y = refl
    kinds Auth Auth x y = refl

-- a name more with its text
pub texts_more : (names now : List Name) (old new : BTreeSet (String Global)) (name copied : Name) (text : List ℕ) → HasTexts names old → now ≡ names ++ copied ∷ [] → copied ≡ name → text ≡ name_text name → Notes old new text → HasTexts now new
texts_more names now old new name copied text has grown same is noted = record {
  named = λ n good.
      noted (name_text n)
      ∙ ap (λ t. bytes_eq t (name_text n) || contains_text old (name_text n)) is
      ∙ ap (λ b. b || contains_text old (name_text n)) (same_text name n)
      ∙ ap (λ b. same_name name n || b) (has.named n good)
      ∙ sym (or_one (is_among names n) (same_name name n))
      ∙ sym (among_more names name n)
      ∙ ap (λ last. is_among (names ++ last ∷ []) n) (sym same)
      ∙ ap (λ all. is_among all n) (sym grown);
}
