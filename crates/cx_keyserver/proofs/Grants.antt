-- The caps that a keyring's entry has are capability texts.
use Rattle.std.proofs.Common.{◌≡◌, Bool, true, false, cond, List, [], ◌∷◌, Option, Some, sym, ap, ◌∙◌}
use Rattle.std.specs.Prelude.{find, ◌&&◌, IsTrue}
use Rattle.std.specs.List.{list_all}
use Rattle.cx_base.specs.declared.kinds.EntityType.{EntityType}
use Rattle.cx_base.specs.Names.{same_kind}
use Rattle.cx_base.specs.Texts.{is_caps}
use Rattle.cx_keyring.specs.cx_enc.specs.FieldLaws.{both_true}
use Rattle.cx_base.specs.declared.grants.Grant.{Grant}
use Rattle.cx_keyring.specs.Entries.{are_grants, differ, is_grant}

-- the first one is found, and passes; or one of the others is
here_or_later : (p : Grant → Bool) (test : Bool) (first grant : Grant) (all : Bool) (rest : Option Grant) → (p first && all) ≡ true → cond test (Some first) rest ≡ Some grant → (all ≡ true → rest ≡ Some grant → p grant ≡ true) → p grant ≡ true
here_or_later p true first grant all rest passes found later =
    let same : first ≡ grant = cc in
    ap p (sym same) ∙ (both_true (p first) all passes).0
here_or_later p false first grant all rest passes found later = later (both_true (p first) all passes).1 found

-- what is found passes what all pass
found_passes : (p q : Grant → Bool) (grants : List Grant) (grant : Grant) → list_all p grants ≡ true → find q grants ≡ Some grant → p grant ≡ true
found_passes p q [] grant all found = absurd cc
found_passes p q (g ∷ grants) grant all found = here_or_later p (q g) g grant (list_all p grants) (find q grants) all found (found_passes p q grants grant)

pub is_caps_text : (service : EntityType) (grants : List Grant) (grant : Grant) → IsTrue (are_grants grants) → find (λ g. same_kind service g.service) grants ≡ Some grant → IsTrue (is_caps grant.caps)
is_caps_text service grants grant good found =
    let all = (both_true (list_all is_grant grants) (differ [] grants) good).0 in
    let passes : is_grant grant ≡ true = found_passes is_grant (λ g. same_kind service g.service) grants grant all found in
    (both_true _ (is_caps grant.caps) passes).1
