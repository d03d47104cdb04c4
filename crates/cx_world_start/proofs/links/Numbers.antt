-- Links that are numbered from 1 stand in the places of their numbers.
use Rattle.std.proofs.Common.{◌≡◌, ℕ, ◌+◌, ◌<◌, ◌≤◌, ◌⊎◌, inl, inr, true, false, suc, zero, List, [], ◌∷◌, ◌++◌, length, set, get_or, drop, Option, Some, None, refl, sym, ap, ◌∙◌, subst, arith}
use Rattle.std.specs.Prelude.{◌==◌, if◌then◌else◌}
use Rattle.std.specs.List.{slice_get}
use Rattle.std.proofs.lemmas.Bool.Decides.{nat_tests}
use Rattle.std.proofs.lemmas.List.{set-get_or}
use Rattle.std.proofs.lemmas.Option.{slice_get_read}
use Rattle.cx_world_start.specs.links.Ends.{staying}
use Rattle.cx_words.specs.declared.choices.Side.{Side}
use Rattle.cx_words.specs.declared.choices.Side.TheVariants.{Connector, Acceptor}
use Rattle.cx_run.specs.Wires.{End, Wire, gone_at, pieces_from, wire_of, with_pieces, with_wire}
use Rattle.cx_world_start.specs.links.Tables.{AreNumbered, lost_from, lost_on, taken_from, taken_on, with_changed}

-- none of these has a number below the first
found_below : (number first : ℕ) (wires : List Wire) → number < first → AreNumbered first wires → wire_of number wires ≡ None
found_below number first [] h k = refl
found_below number first (wire ∷ wires) h k =
    let e : wire.number ≡ first = k.0 in
    let other : (wire.number == number) ≡ false = grind (arith, nat_tests) in
    rw other (found_below number (suc first) wires (omega arith) k.1)

found_from : (first place : ℕ) (wires : List Wire) → AreNumbered first wires → wire_of (first + place) wires ≡ slice_get wires place
found_from first place [] k = refl
found_from first zero (wire ∷ wires) k =
    let e : wire.number ≡ first = k.0 in
    let here : (wire.number == (first + 0)) ≡ true = grind (arith, nat_tests) in
    rw here refl
found_from first (suc place) (wire ∷ wires) k =
    let e : wire.number ≡ first = k.0 in
    let other : (wire.number == (first + suc place)) ≡ false = grind (arith, nat_tests) in
    let n : first + suc place ≡ suc first + place = omega arith in
    rw other (ap (λ i. wire_of i wires) n ∙ found_from (suc first) place wires k.1)

pub found_here : (number place : ℕ) (wires : List Wire) → AreNumbered 1 wires → number ≡ place + 1 → wire_of number wires ≡ slice_get wires place
found_here number place wires k e =
    let n : number ≡ 1 + place = omega arith in
    ap (λ i. wire_of i wires) n ∙ found_from 1 place wires k

found_past : (number first : ℕ) (wires : List Wire) → AreNumbered first wires → first + length wires ≤ number → wire_of number wires ≡ None
found_past number first [] k h = refl
found_past number first (wire ∷ wires) k h =
    let e : wire.number ≡ first = k.0 in
    let other : (wire.number == number) ≡ false = grind (arith, nat_tests) in
    rw other (found_past number (suc first) wires k.1 (omega arith))

pub found_nowhere : (number : ℕ) (wires : List Wire) → AreNumbered 1 wires → (number ≡ 0) ⊎ (length wires < number) → wire_of number wires ≡ None
found_nowhere number wires k (inl e) = found_below number 1 wires (omega arith) k
found_nowhere number wires k (inr l) = found_past number 1 wires k (omega arith)

-- ---- a link is changed in its place

-- where the number is that of no other link, the others stay
others_stay : (changed : Wire) (first : ℕ) (wires : List Wire) → changed.number < first → AreNumbered first wires → with_wire wires changed ≡ wires
others_stay changed first [] h k = refl
others_stay changed first (wire ∷ wires) h k =
    let e : wire.number ≡ first = k.0 in
    let other : (wire.number == changed.number) ≡ false = grind (arith, nat_tests) in
    rw other (ap (λ (rest : List Wire). wire ∷ rest) (others_stay changed (suc first) wires (omega arith) k.1))

set_from : (first place : ℕ) (wires : List Wire) (changed : Wire) → AreNumbered first wires → changed.number ≡ first + place → with_wire wires changed ≡ set wires place changed
set_from first place [] changed k n = refl
set_from first zero (wire ∷ wires) changed k n =
    let e : wire.number ≡ first = k.0 in
    let here : (wire.number == changed.number) ≡ true = grind (arith, nat_tests) in
    rw here (ap (λ (rest : List Wire). changed ∷ rest) (others_stay changed (suc first) wires (omega arith) k.1))
set_from first (suc place) (wire ∷ wires) changed k n =
    let e : wire.number ≡ first = k.0 in
    let other : (wire.number == changed.number) ≡ false = grind (arith, nat_tests) in
    rw other (ap (λ (rest : List Wire). wire ∷ rest) (set_from (suc first) place wires changed k.1 (omega arith)))

still_numbered : (first place : ℕ) (wires : List Wire) (changed : Wire) → AreNumbered first wires → changed.number ≡ first + place → AreNumbered first (set wires place changed)
still_numbered first place [] changed k n = tt
still_numbered first zero (wire ∷ wires) changed k n = (omega arith, k.1)
still_numbered first (suc place) (wire ∷ wires) changed k n = (k.0, still_numbered (suc first) place wires changed k.1 (omega arith))

elsewhere_from : (first place n : ℕ) (wires : List Wire) (changed : Wire) → AreNumbered first wires → changed.number ≡ first + place → (n == (first + place)) ≡ false
    → wire_of n (set wires place changed) ≡ wire_of n wires
elsewhere_from first place n [] changed k m e = refl
elsewhere_from first zero n (wire ∷ wires) changed k m e =
    let was : wire.number ≡ first = k.0 in
    let one : (changed.number == n) ≡ false = grind (arith, nat_tests) in
    let other : (wire.number == n) ≡ false = grind (arith, nat_tests) in
    rw (one, other) refl
elsewhere_from first (suc place) n (wire ∷ wires) changed k m e =
    let i : first + suc place ≡ suc first + place = omega arith in
    let rest : wire_of n (set wires place changed) ≡ wire_of n wires = elsewhere_from (suc first) place n wires changed k.1 (m ∙ i) (rw i at e) in
    ap (λ (o : Option Wire). if (wire.number == n) then Some wire else o) rest

number_at : (first place : ℕ) (wires : List Wire) (wire : Wire) → AreNumbered first wires → place < length wires → get_or wires place wire ≡ wire → wire.number ≡ first + place
number_at first place [] wire k h e = absurd (omega arith)
number_at first zero (w ∷ wires) wire k h e = ap (λ (x : Wire). x.number) (sym e) ∙ k.0 ∙ omega arith
number_at first (suc place) (w ∷ wires) wire k h e = number_at (suc first) place wires wire k.1 (omega arith) e ∙ omega arith

put_there : (place : ℕ) (wires : List Wire) (wire : Wire) → place < length wires → slice_get (set wires place wire) place ≡ Some wire
put_there place [] wire h = absurd (omega arith)
put_there zero (w ∷ wires) wire h = refl
put_there (suc place) (w ∷ wires) wire h = put_there place wires wire (omega arith)

-- the link in a place, and one of its number in its place
pub record Stands (wires : List Wire) (number place : ℕ) (old new : Wire) : Type 0 where
  pub found : wire_of number wires ≡ Some old
  pub changed : with_wire wires new ≡ set wires place new
  pub numbered : AreNumbered 1 (set wires place new)
  pub here : wire_of number (set wires place new) ≡ Some new
  pub elsewhere : (n : ℕ) → (n == number) ≡ false → wire_of n (set wires place new) ≡ wire_of n wires

pub stands : (wires : List Wire) (number place : ℕ) (old new : Wire) → AreNumbered 1 wires → place < length wires → number ≡ place + 1 → old ≡ get_or wires place old → new.number ≡ old.number → Stands wires number place old new
stands wires number place old new k h n e same =
    let o : old.number ≡ 1 + place = number_at 1 place wires old k h (sym e) in
    let m : new.number ≡ 1 + place = same ∙ o in
    let at : number ≡ 1 + place = omega arith in
    record {
      found = found_here number place wires k n ∙ slice_get_read wires (length wires) place old refl h e;
      changed = set_from 1 place wires new k m;
      numbered = still_numbered 1 place wires new k m;
      here = found_here number place (set wires place new) (still_numbered 1 place wires new k m) n ∙ put_there place wires new h;
      elsewhere = λ i d. elsewhere_from 1 place i wires new k m (subst (λ (j : ℕ). (i == j) ≡ false) at d);
    }

pub one_more : (first : ℕ) (wires : List Wire) (wire : Wire) → AreNumbered first wires → wire.number ≡ first + length wires → AreNumbered first (wires ++ wire ∷ [])
one_more first [] wire k n = (omega arith, tt)
one_more first (w ∷ wires) wire k n = (k.0, one_more (suc first) wires wire k.1 (omega arith))

-- ---- what becomes of the link in its place

pub gone_number : (side : Side) (wire : Wire) → (gone_at wire side).number ≡ wire.number
gone_number Connector wire = refl
gone_number Acceptor wire = refl

pub pieces_number : (side : Side) (wire : Wire) (pieces : List (List ℕ)) → (with_pieces wire side pieces).number ≡ wire.number
pieces_number Connector wire pieces = refl
pieces_number Acceptor wire pieces = refl

same_pieces : (wire : Wire) (side : Side) → pieces_from wire side ≡ [] → with_pieces wire side [] ≡ wire
same_pieces wire Connector e = ap (λ (u : List (List ℕ)). let end : End = record wire.connector { under_way = u } in let w : Wire = record wire { connector = end } in w) (sym e)
same_pieces wire Acceptor e = ap (λ (u : List (List ℕ)). let end : End = record wire.acceptor { under_way = u } in let w : Wire = record wire { acceptor = end } in w) (sym e)

module _ (wires : List Wire) (number place : ℕ) (old new : Wire) (at : Stands wires number place old new) where
  pub changed_there : (change : Wire → Wire) → new ≡ change old → set wires place new ≡ with_changed change number wires
  changed_there change e = rw at.found (sym at.changed ∙ ap (λ (w : Wire). with_wire wires w) e)

  module _ (read : old ≡ get_or wires place old) where
    left_alone : new ≡ old → set wires place new ≡ wires
    left_alone e = ap (λ (w : Wire). set wires place w) (e ∙ read) ∙ set-get_or wires place old

    lost_from_it : (side : Side) (pieces : List (List ℕ)) → pieces_from old side ≡ pieces → new ≡ with_pieces old side (drop 1 pieces) → set wires place new ≡ lost_from wires old side pieces
    lost_from_it side [] p e = left_alone (e ∙ same_pieces old side p)
    lost_from_it side (piece ∷ pieces) p e = sym at.changed ∙ ap (λ (w : Wire). with_wire wires w) e

    pub lost_there : (side : Side) → new ≡ with_pieces old side (drop 1 (pieces_from old side)) → set wires place new ≡ lost_on side wires (wire_of number wires)
    lost_there side e = rw at.found (lost_from_it side (pieces_from old side) refl e)

    taken_from_it : (side : Side) (n : Option ℕ) (pieces : List (List ℕ)) → pieces_from old side ≡ pieces → new ≡ with_pieces old side (staying n pieces) → set wires place new ≡ taken_from wires old side n pieces
    taken_from_it side n [] p e = left_alone (e ∙ same_pieces old side p)
    taken_from_it side n (piece ∷ pieces) p e = sym at.changed ∙ ap (λ (w : Wire). with_wire wires w) e

    pub taken_there : (side : Side) (n : Option ℕ) → new ≡ with_pieces old side (staying n (pieces_from old side)) → set wires place new ≡ taken_on side n wires (wire_of number wires)
    taken_there side n e = rw at.found (taken_from_it side n (pieces_from old side) refl e)
