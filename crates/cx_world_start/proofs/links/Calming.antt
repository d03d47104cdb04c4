-- Links that stay calm, and a table whose numbers still name all others.
use Rattle.std.proofs.Common.{◌≡◌, ℕ, ◌+◌, Bool, true, false, List, [], ◌∷◌, ◌++◌, length, set, drop, Option, Some, None, Result, Ok, Err, refl, sym, ap, ◌∙◌, subst, arith}
use Rattle.std.specs.Prelude.{◌==◌, ◌&&◌, not, IfSome, OnOk, OnErr, if◌then◌else◌}
use Rattle.std.proofs.lemmas.Bool.Decides.{nat_tests}
use Rattle.cx_base.specs.declared.nodes.NodeName.{NodeName}
use Rattle.cx_words.specs.declared.choices.Side.{Side}
use Rattle.cx_words.specs.declared.choices.Side.TheVariants.{Connector, Acceptor}
use Rattle.cx_run.specs.Wires.{Wire, ended, new_wire, owes_gone, pieces_from, wire_of, with_pieces}
use Rattle.cx_world_start.proofs.links.Numbers.{Stands, one_more}
use Rattle.cx_world_start.specs.links.Calm.{IsCalm, IsCalmAt, IsTable, has, is_quiet}
use Rattle.cx_world_start.specs.links.Ends.{staying}
use Rattle.cx_world_start.specs.declared.busy_links.Busy.{Busy}

-- ---- a link

both : (a b : Bool) → (a && b) ≡ true → (a ≡ true) × (b ≡ true)
both true true e = (refl, refl)
both true false e = cc
both false b e = cc

none_left : (pieces : List (List ℕ)) → (length pieces == 0) ≡ true → pieces ≡ []
none_left [] e = refl
none_left (piece ∷ pieces) e = absurd (grind (arith, nat_tests))

denied : (t : Bool) → not t ≡ true → t ≡ false
denied true e = cc
denied false e = refl

quiet_side : (wire : Wire) (side : Side) → is_quiet wire side ≡ true → (pieces_from wire side ≡ []) × (owes_gone wire side ≡ false)
quiet_side wire side e =
    let p = both (length (pieces_from wire side) == 0) (not (owes_gone wire side)) e in
    (none_left (pieces_from wire side) p.0, denied (owes_gone wire side) p.1)

pub calm_by : (wire : Wire) → is_quiet wire Connector ≡ true → is_quiet wire Acceptor ≡ true → IsCalm wire
calm_by wire c a = record { sent = λ side. (by side).0; told = λ side. (by side).1 }
  where
    by : (side : Side) → (pieces_from wire side ≡ []) × (owes_gone wire side ≡ false)
    by Connector = quiet_side wire Connector c
    by Acceptor = quiet_side wire Acceptor a

pub new_calm : (number : ℕ) (connecting accepting : NodeName) → IsCalm (new_wire number connecting accepting)
new_calm number connecting accepting = record { sent = sent; told = told }
  where
    sent : (side : Side) → pieces_from (new_wire number connecting accepting) side ≡ []
    sent Connector = refl
    sent Acceptor = refl

    told : (side : Side) → owes_gone (new_wire number connecting accepting) side ≡ false
    told Connector = refl
    told Acceptor = refl

pub ended_calm : (wire : Wire) → IsCalm (ended wire)
ended_calm wire = record { sent = sent; told = told }
  where
    sent : (side : Side) → pieces_from (ended wire) side ≡ []
    sent Connector = refl
    sent Acceptor = refl

    told : (side : Side) → owes_gone (ended wire) side ≡ false
    told Connector = refl
    told Acceptor = refl

emptied_calm : (wire : Wire) (side : Side) (pieces : List (List ℕ)) → pieces ≡ [] → IsCalm wire → IsCalm (with_pieces wire side pieces)
emptied_calm wire side pieces e k = record { sent = sent side; told = told side }
  where
    sent : (side s : Side) → pieces_from (with_pieces wire side pieces) s ≡ []
    sent Connector Connector = e
    sent Connector Acceptor = k.sent Acceptor
    sent Acceptor Connector = k.sent Connector
    sent Acceptor Acceptor = e

    told : (side s : Side) → owes_gone (with_pieces wire side pieces) s ≡ false
    told Connector Connector = k.told Connector
    told Connector Acceptor = k.told Acceptor
    told Acceptor Connector = k.told Connector
    told Acceptor Acceptor = k.told Acceptor

pub lost_calm : (wire : Wire) (side : Side) → IsCalm wire → IsCalm (with_pieces wire side (drop 1 (pieces_from wire side)))
lost_calm wire side k = emptied_calm wire side (drop 1 (pieces_from wire side)) (ap (λ (p : List (List ℕ)). drop 1 p) (k.sent side)) k

taken_calm : (wire : Wire) (side : Side) (n : Option ℕ) → IsCalm wire → IsCalm (with_pieces wire side (staying n (pieces_from wire side)))
taken_calm wire side n k = emptied_calm wire side (staying n (pieces_from wire side)) (ap (λ (p : List (List ℕ)). staying n p) (k.sent side)) k

-- what arrived, or want of memory, leaves a calm link calm
pub taken_here : {T E : Type 0} (r : Result T E) (old new : Wire) (side : Side) (n : Option ℕ) → OnOk r (new ≡ with_pieces old side (staying n (pieces_from old side)))
    → OnErr r (new ≡ old) → IsCalm old → IsCalm new
taken_here (Ok x) old new side n e f k = subst IsCalm (sym e) (taken_calm old side n k)
taken_here (Err x) old new side n e f k = subst IsCalm (sym f) k

-- ---- the table

-- a link opens that is calm
calm_more : (n : ℕ) (wires : List Wire) (wire : Wire) → IsCalm wire → IsCalmAt n wires → IsCalmAt n (wires ++ wire ∷ [])
calm_more n [] wire c k = one (wire.number == n)
  where
    one : (t : Bool) → IfSome (if t then Some wire else None) IsCalm
    one true = c
    one false = tt
calm_more n (w ∷ wires) wire c k = by (w.number == n) (calm_more n wires wire c) k
  where
    by : (t : Bool) → (IsCalmAt n wires → IsCalmAt n (wires ++ wire ∷ [])) → IfSome (if t then Some w else wire_of n wires) IsCalm
        → IfSome (if t then Some w else wire_of n (wires ++ wire ∷ [])) IsCalm
    by true rest k = k
    by false rest k = rest k

pub table_opened : (busy : Busy) (wires : List Wire) (wire : Wire) → IsTable busy wires → IsCalm wire → wire.number ≡ 1 + length wires → IsTable busy (wires ++ wire ∷ [])
table_opened busy wires wire t c n = record { numbered = one_more 1 wires wire t.numbered n; others = λ m h. calm_more m wires wire c (t.others m h) }

refused : {A : Type 0} (t : Bool) → t ≡ true → t ≡ false → A
refused true e k = cc
refused false e k = cc

same_number : (a b : ℕ) → (a == b) ≡ true → a ≡ b
same_number a b e = grind (arith, nat_tests)

module _ (wires : List Wire) (number place : ℕ) (old new : Wire) (at : Stands wires number place old new) where
  -- a link is changed, and its number is there or was added
  pub table_changed : (busy after : Busy) (added : ℕ) → added ≡ number → IsTable busy wires → has added after ≡ true → ((n : ℕ) → has n after ≡ false → has n busy ≡ false) → IsTable after (set wires place new)
  table_changed busy after added s t there k = record { numbered = at.numbered; others = λ n h. by n (n == number) refl h }
    where
      by : (n : ℕ) (e : Bool) → (n == number) ≡ e → has n after ≡ false → IsCalmAt n (set wires place new)
      by n true e h =
          let same : has n after ≡ true = ap (λ (m : ℕ). has m after) (same_number n number e ∙ sym s) ∙ there in
          refused (has n after) same h
      by n false e h = subst (λ (o : Option Wire). IfSome o IsCalm) (sym (at.elsewhere n e)) (t.others n (k n h))

  -- a link is changed, and is calm where it was
  pub table_kept : (busy : Busy) → IsTable busy wires → (IsCalm old → IsCalm new) → IsTable busy (set wires place new)
  table_kept busy t c = record { numbered = at.numbered; others = λ n h. by n (n == number) refl h }
    where
      by : (n : ℕ) (e : Bool) → (n == number) ≡ e → has n busy ≡ false → IsCalmAt n (set wires place new)
      by n true e h =
          let m : n ≡ number = same_number n number e in
          let was : IsCalmAt number wires = subst (λ (i : ℕ). IsCalmAt i wires) m (t.others n h) in
          let calm : IsCalm new = c (subst (λ (o : Option Wire). IfSome o IsCalm) at.found was) in
          subst (λ (i : ℕ). IsCalmAt i (set wires place new)) (sym m) (subst (λ (o : Option Wire). IfSome o IsCalm) (sym at.here) calm)
      by n false e h = subst (λ (o : Option Wire). IfSome o IsCalm) (sym (at.elsewhere n e)) (t.others n h)

-- ---- between two numbers
