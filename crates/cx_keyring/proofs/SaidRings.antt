-- What the lines of a printed keyring say: they are a keyring of its entries.
use Rattle.std.proofs.Common.{◌≡◌, true, List, [], ◌∷◌, ◌++◌, Some, map, refl, ap, ◌∙◌, IsTrue}
use Rattle.std.specs.List.{flat_map, list_all}
use Rattle.cx_enc.specs.declared.keys.Key.{Key}
use Rattle.cx_keyring.specs.declared.entries.Entry.{Entry}
use Rattle.cx_base.specs.declared.grants.Grant.{Grant}
use Rattle.cx_keyring.specs.declared.lines.Line.{Line}
use Rattle.cx_keyring.specs.declared.lines.Line.TheVariants as lines
use Rattle.cx_keyring.specs.Entries.{granted_by, is_ring, is_skipped_line, is_whole, key_by, Gives, IsKeyring}
use Rattle.cx_keyring.specs.Faults.{section_lines}

abbrev pub said_grant : Grant → Line
said_grant grant = lines.Caps (Some grant.service) (Some grant.caps)

abbrev pub said_entry : Entry → List Line
said_entry entry = lines.Section (Some entry.name) ∷ lines.Key (Some entry.key) ∷ map said_grant entry.caps

abbrev pub said_ring : List Entry → List Line
said_ring ring = flat_map said_entry ring

ended : (ring : List Entry) → section_lines (said_ring ring) ≡ []
ended [] = refl
ended (entry ∷ ring) = refl

caps_lines : (grants : List Grant) (ring : List Entry) → section_lines (map said_grant grants ++ said_ring ring) ≡ map said_grant grants
caps_lines [] ring = ended ring
caps_lines (grant ∷ grants) ring = ap (λ (ls : List Line). said_grant grant ∷ ls) (caps_lines grants ring)

caps_again : (grants : List Grant) → flat_map granted_by (map said_grant grants) ≡ grants
caps_again [] = refl
caps_again (grant ∷ grants) = ap (λ (gs : List Grant). grant ∷ gs) (caps_again grants)

no_keys : (grants : List Grant) → flat_map key_by (map said_grant grants) ≡ []
no_keys [] = refl
no_keys (grant ∷ grants) = no_keys grants

caps_passed : (grants : List Grant) (rest : List Line) (ring : List Entry) → Gives rest ring → Gives (map said_grant grants ++ rest) ring
caps_passed [] rest ring gives = gives
caps_passed (grant ∷ grants) rest ring gives = caps_passed grants rest ring gives

said_gives : (ring : List Entry) → Gives (said_ring ring) ring
said_gives [] = refl
said_gives (entry ∷ ring) =
    let body = caps_lines entry.caps ring in (
      refl,
      ap (λ (ls : List Line). entry.key ∷ flat_map key_by ls) body ∙ ap (λ (ks : List Key). entry.key ∷ ks) (no_keys entry.caps),
      ap (flat_map granted_by) body ∙ caps_again entry.caps,
      caps_passed entry.caps (said_ring ring) ring (said_gives ring),
    )

grants_whole : (grants : List Grant) (rest : List Line) → list_all is_whole rest ≡ true → list_all is_whole (map said_grant grants ++ rest) ≡ true
grants_whole [] rest whole = whole
grants_whole (grant ∷ grants) rest whole = grants_whole grants rest whole

said_whole : (ring : List Entry) → list_all is_whole (said_ring ring) ≡ true
said_whole [] = refl
said_whole (entry ∷ ring) = grants_whole entry.caps (said_ring ring) (said_whole ring)

-- they are a keyring
pub said_keyring : (ring : List Entry) → IsTrue (is_ring ring) → IsKeyring (said_ring ring) ring
said_keyring ring good = record {
  whole = said_whole ring;
  begins = ap (list_all is_skipped_line) (ended ring);
  gives = said_gives ring;
  good = good;
}
