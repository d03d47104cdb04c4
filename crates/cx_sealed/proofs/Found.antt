-- What bytes open to, as a function, and as the record that they are opened as.
use Rattle.std.proofs.Common.{◌≡◌, ℕ, ◌<◌, All, length, List, [], ◌∷◌, Option, Some, None, Result, Ok, Err, refl, sym, ap, ◌∙◌, inl, inr, subst, arith}
use Rattle.std.proofs.lemmas.Bool.{cases_lt}
use Rattle.std.proofs.lemmas.List.{get_or_past}
use Rattle.std.proofs.lemmas.List.Elements.{All-get_or}
use Rattle.cx_cbc.specs.cx_aes.specs.Cipher.{IsBlock}
use Rattle.cx_cbc.specs.Envelope.{Opens}
use Rattle.cx_cbc.specs.Opened.{opened}
use Rattle.cx_cbc.proofs.Contents.{opens_one}
use Rattle.cx_cbc.proofs.OpeningLaws.{opened-Opens, Opens-opened}
use Rattle.cx_enc.specs.declared.faults.ReadFault.{ReadFault}
use Rattle.cx_enc.specs.Forms.{Spot, Form, IsBytes, IsLawful}
use Rattle.cx_enc.specs.Whole.{start, Spells}
use Rattle.cx_enc.proofs.Wholes.{spelled, read_again}
use Rattle.cx_sealed.specs.declared.refusals.SealedRefusal.TheVariants.{Unopened, Misread}
use Rattle.cx_sealed.specs.declared.unsealed.Unsealed.{Unsealed}
use Rattle.cx_sealed.specs.Sealing.{OpensTo, IsOpened}
use Rattle.cx_sealed.specs.Unsealing.{unless_left, read_to_end, spelled_by, unsealed_as, unsealed}

-- ---- the record that a content spells

-- bytes, and nothing behind their end
octets_everywhere : (bytes : List ℕ) → All (λ b. b < 256) bytes → IsBytes bytes
octets_everywhere bytes octets i = elim (cases_lt i (length bytes)) [
  | inl within ↦ All-get_or (λ b. b < 256) bytes i 0 within octets
  | inr past ↦ omega (arith, get_or_past bytes i 0 past)
]

pub spelled_only : {X : Type 0} (form : Form X) → IsLawful form → (content : List ℕ) (x : X) → Spells form content x → spelled_by form content ≡ Some x
spelled_only form lawful content x spells = ap read_to_end (read_again form lawful content x spells)

pub spelled_found : {X : Type 0} (form : Form X) → IsLawful form → (content : List ℕ) (x : X) → All (λ b. b < 256) content → spelled_by form content ≡ Some x → Spells form content x
spelled_found {X} form lawful content x octets e = by_read (form.at (start content)) refl e
  where
    by_left : (y : X) (next : Spot) (left : List ℕ) → next.left ≡ left → form.at (start content) ≡ Ok (y, next) → unless_left y left ≡ Some x → Spells form content x
    by_left y next [] none read is =
        let same : y ≡ x = cc in
        rw same at (spelled form lawful content y next (octets_everywhere content octets) read none)
    by_left y next (b ∷ left) more read is = absurd cc

    by_read : (r : Result (X × Spot) ReadFault) → form.at (start content) ≡ r → read_to_end r ≡ Some x → Spells form content x
    by_read (Ok (y, next)) read is = by_left y next next.left refl read is
    by_read (Err fault) read is = absurd cc

-- ---- the record that bytes are opened as

-- where they open to no content
pub is_unopened : {X : Type 0} (form : Form X) (key bytes : List ℕ) → IsBlock key → None ≡ unsealed form key bytes → IsOpened form key bytes (Err Unopened)
is_unopened {X} form key bytes block is = record {
  found = tt;
  only = λ x to. absurd (none to.0 to.1);
  unopened = λ _. none;
  unopened_only = λ _. inl refl;
  misread = λ e. absurd cc;
  misread_only = λ content opens _. absurd (none content opens);
}
  where
    shut : (o : Option (List ℕ)) (content : List ℕ) → o ≡ Some content → None ≡ unsealed_as form o → ⊥
    shut None content e none = cc
    shut (Some other) content e none = cc

    none : (content : List ℕ) → Opens key bytes content → ⊥
    none content opens = shut (opened key bytes) content (Opens-opened key bytes content block opens) is

-- what bytes open to, and the record that it spells
record AreParts {X : Type 0} (form : Form X) (key bytes : List ℕ) (u : Unsealed X) : Type 0 where
  opens : Opens key bytes u.content
  spells : spelled_by form u.content ≡ u.value

parts : {X : Type 0} (form : Form X) (key bytes : List ℕ) (u : Unsealed X) → Some u ≡ unsealed form key bytes → AreParts form key bytes u
parts {X} form key bytes u is = by_opened (opened key bytes) refl is
  where
    by_opened : (o : Option (List ℕ)) → opened key bytes ≡ o → Some u ≡ unsealed_as form o → AreParts form key bytes u
    by_opened None e is = absurd cc
    by_opened (Some content) e is =
        let same : u ≡ record { content = content; value = spelled_by form content } = cc in
        let first : content ≡ u.content = ap (λ (v : Unsealed X). v.content) (sym same) in
        record {
          opens = opened-Opens key bytes u.content (e ∙ ap (λ (c : List ℕ). Some c) first);
          spells = ap (spelled_by form) (sym first) ∙ ap (λ (v : Unsealed X). v.value) (sym same);
        }

-- the bytes open to the record that was found
pub unsealed_found : {X : Type 0} (form : Form X) → IsLawful form → (key bytes : List ℕ) (u : Unsealed X) (x : X) → Some u ≡ unsealed form key bytes → u.value ≡ Some x → OpensTo form key bytes x
unsealed_found form lawful key bytes u x is value =
    let p : AreParts form key bytes u = parts form key bytes u is in
    (u.content, p.opens, spelled_found form lawful u.content x p.opens.octets (p.spells ∙ value))

-- where the content spells no record
pub is_misread : {X : Type 0} (form : Form X) → IsLawful form → (key bytes : List ℕ) → IsBlock key → (u : Unsealed X) → Some u ≡ unsealed form key bytes → u.value ≡ None → IsOpened form key bytes (Err Misread)
is_misread {X} form lawful key bytes block u is value = record {
  found = tt;
  only = λ x to. absurd (none x (subst (λ (c : List ℕ). Spells form c x) (opens_one key bytes to.0 u.content block to.1 p.opens) to.2));
  unopened = λ e. absurd cc;
  unopened_only = λ shut. absurd (shut u.content p.opens);
  misread = λ _. (u.content, p.opens, none);
  misread_only = λ _ _ _. inl refl;
}
  where
    p : AreParts form key bytes u
    p = parts form key bytes u is

    none : (x : X) → Spells form u.content x → ⊥
    none x spells = let found : None ≡ Some x = sym value ∙ sym p.spells ∙ spelled_only form lawful u.content x spells in cc

-- where it spells one
pub is_found : {X : Type 0} (form : Form X) → IsLawful form → (key bytes : List ℕ) → IsBlock key → (u : Unsealed X) (x : X) → Some u ≡ unsealed form key bytes → u.value ≡ Some x → IsOpened form key bytes (Ok x)
is_found {X} form lawful key bytes block u x is value = record {
  found = (u.content, p.opens, spells);
  only = λ y to.
      let again : Spells form u.content y = subst (λ (c : List ℕ). Spells form c y) (opens_one key bytes to.0 u.content block to.1 p.opens) to.2 in
      let same : Some x ≡ Some y = sym value ∙ sym p.spells ∙ spelled_only form lawful u.content y again in
      cc;
  unopened = λ e. absurd cc;
  unopened_only = λ shut. shut u.content p.opens;
  misread = λ e. absurd cc;
  misread_only = λ content opens none. none x (subst (λ (c : List ℕ). Spells form c x) (opens_one key bytes u.content content block p.opens opens) spells);
}
  where
    p : AreParts form key bytes u
    p = parts form key bytes u is

    spells : Spells form u.content x
    spells = spelled_found form lawful u.content x p.opens.octets (p.spells ∙ value)

-- ---- bytes that open to a record

-- what they open to as a function
pub unsealed_only : {X : Type 0} (form : Form X) → IsLawful form → (key bytes : List ℕ) (x : X) → IsBlock key → (to : OpensTo form key bytes x) → unsealed form key bytes ≡ Some (record { content = to.0; value = Some x })
unsealed_only {X} form lawful key bytes x block to =
    ap (unsealed_as form) (Opens-opened key bytes to.0 block to.1)
    ∙ ap (λ (v : Option X). Some (unsealed_with to.0 v)) (spelled_only form lawful to.0 x to.2)
  where
    unsealed_with : List ℕ → Option X → Unsealed X
    unsealed_with content value = record { content = content; value = value }
