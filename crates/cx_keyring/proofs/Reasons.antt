-- Bytes have one meaning or one reason to be refused, and never both.
use Rattle.std.proofs.Common.{◌≡◌, ◌⊎◌, inl, inr, ℕ, ◌<◌, ◌≤◌, List, [], ◌∷◌, length, Option, Some, None, refl, sym, ap, ◌∙◌, arith}
use Rattle.cx_base.specs.Names.{Name}
use Rattle.cx_enc.specs.declared.keys.Key.{Key}
use Rattle.cx_keyring.specs.declared.entries.Entry.{Entry}
use Rattle.cx_base.specs.declared.grants.Grant.{Grant}
use Rattle.cx_keyring.specs.declared.faults.KeyringFault.{KeyringFault}
use Rattle.cx_keyring.specs.declared.lines.Line.{Line}
use Rattle.cx_keyring.specs.declared.lines.Line.TheVariants as lines
use Rattle.cx_keyring.specs.declared.refusals.KeyringRefusal.{KeyringRefusal}
use Rattle.cx_keyring.specs.declared.refusals.KeyringRefusal.TheVariants.{BadLine, TooMany, OutOfMemory}
use Rattle.cx_keyring.specs.Entries.{Gives}
use Rattle.cx_keyring.specs.Faults.{first_bad}
use Rattle.cx_keyring.specs.Lines.{lines_said}
use Rattle.cx_keyring.specs.Rings.{IsKeyringCause, IsReason, KeyringText}
use Rattle.cx_keyring.proofs.Clean.{clean}

same_entry : (x y : Entry) → x.name ≡ y.name → x.key ≡ y.key → x.caps ≡ y.caps → x ≡ y
same_entry x y names keys caps =
    let by_name : Name → Entry = λ name. record { name = name; key = x.key; caps = x.caps } in
    let by_key : Key → Entry = λ key. record { name = y.name; key = key; caps = x.caps } in
    let by_caps : List Grant → Entry = λ grants. record { name = y.name; key = y.key; caps = grants } in
    ap by_name names ∙ ap by_key keys ∙ ap by_caps caps

one_key : (x y : Key) (keys : List Key) → keys ≡ x ∷ [] → keys ≡ y ∷ [] → x ≡ y
one_key x y keys p q = let e : x ∷ [] ≡ y ∷ [] = sym p ∙ q in cc

same_ring : (all : List Line) (ring other : List Entry) → Gives all ring → Gives all other → ring ≡ other
same_ring [] ring other p q = p ∙ sym q
same_ring (lines.Section (Some name) ∷ after) [] other p q = absurd p
same_ring (lines.Section (Some name) ∷ after) (x ∷ ring) [] p q = absurd q
same_ring (lines.Section (Some name) ∷ after) (x ∷ ring) (y ∷ other) p q =
    let head = same_entry x y (p.0 ∙ sym q.0) (one_key x.key y.key _ p.1 q.1) (sym p.2 ∙ q.2) in
    let rest = same_ring after ring other p.3 q.3 in
    ap (λ (e : Entry). e ∷ ring) head ∙ ap (λ (es : List Entry). y ∷ es) rest
same_ring (lines.Section None ∷ after) ring other p q = same_ring after ring other p q
same_ring (lines.Skipped ∷ after) ring other p q = same_ring after ring other p q
same_ring (lines.Key key ∷ after) ring other p q = same_ring after ring other p q
same_ring (lines.Caps service text ∷ after) ring other p q = same_ring after ring other p q
same_ring (lines.Other ∷ after) ring other p q = same_ring after ring other p q

-- bytes are those of one keyring at most
pub one_keyring : (bytes : List ℕ) (ring other : List Entry) → KeyringText bytes ring → KeyringText bytes other → ring ≡ other
one_keyring bytes ring other p q = same_ring (lines_said bytes) ring other p.gives q.gives

none_bad : (bytes : List ℕ) (ring : List Entry) (bad : ℕ × KeyringFault) → KeyringText bytes ring → first_bad [] (lines_said bytes) ≡ Some bad → ⊥
none_bad bytes ring bad text e = absurd (let p : None ≡ Some bad = sym (clean (lines_said bytes) ring text) ∙ e in cc)

few : (bytes : List ℕ) (ring other : List Entry) → KeyringText bytes ring → length ring ≤ 4096 → KeyringText bytes other → 4096 < length other → ⊥
few bytes ring other text short other_text long =
    let same = ap (λ (es : List Entry). length es) (one_keyring bytes ring other text other_text) in
    absurd (omega arith)

-- where the bytes are a keyring that isn't too long, only want of memory is an answer besides it
pub only_memory : (bytes : List ℕ) (ring : List Entry) (refusal : KeyringRefusal) → KeyringText bytes ring → length ring ≤ 4096 → IsKeyringCause bytes refusal → refusal ≡ OutOfMemory
only_memory bytes ring (BadLine n why) text short cause = absurd (none_bad bytes ring (n, why) text cause)
only_memory bytes ring (TooMany limit) text short (is, other, other_text, long) = absurd (few bytes ring other text short other_text long)
only_memory bytes ring OutOfMemory text short cause = refl

-- what is read has no reason to be refused
pub no_reason : (bytes : List ℕ) (ring : List Entry) (why : KeyringRefusal) → KeyringText bytes ring → length ring ≤ 4096 → IsReason bytes why → ⊥
no_reason bytes ring (BadLine n why) text short reason = none_bad bytes ring (n, why) text reason
no_reason bytes ring (TooMany limit) text short (is, other, other_text, long) = few bytes ring other text short other_text long
no_reason bytes ring OutOfMemory text short reason = reason

bad_line : (n m : ℕ) (why other : KeyringFault) (bad : Option (ℕ × KeyringFault)) → bad ≡ Some (n, why) → bad ≡ Some (m, other) → BadLine n why ≡ BadLine m other
bad_line n m why other bad p q =
    let e : Some (n, why) ≡ Some (m, other) = sym p ∙ q in
    let pairs : (n, why) ≡ (m, other) = some_is (n, why) (m, other) e in
    ap (λ (x : ℕ × KeyringFault). BadLine x.0 x.1) pairs
  where
    some_is : (x y : ℕ × KeyringFault) → Some x ≡ Some y → x ≡ y
    some_is x y e = cc

-- a refusal is for the one reason
pub one_reason : (bytes : List ℕ) (got why : KeyringRefusal) → IsKeyringCause bytes got → IsReason bytes why → (got ≡ OutOfMemory) ⊎ (got ≡ why)
one_reason bytes OutOfMemory why cause reason = inl refl
one_reason bytes (BadLine n why) (BadLine m other) cause reason = inr (bad_line n m why other (first_bad [] (lines_said bytes)) cause reason)
one_reason bytes (BadLine n why) (TooMany limit) cause (is, ring, text, long) = absurd (none_bad bytes ring (n, why) text cause)
one_reason bytes (TooMany limit) (BadLine m other) (is, ring, text, long) reason = absurd (none_bad bytes ring (m, other) text reason)
one_reason bytes (TooMany limit) (TooMany other) (is, ring, text, long) (other_is, _, _, _) = inr (ap TooMany (is ∙ sym other_is))
one_reason bytes (BadLine n why) OutOfMemory cause reason = absurd reason
one_reason bytes (TooMany limit) OutOfMemory cause reason = absurd reason
