-- Each step keeps the rule.
use Rattle.std.proofs.Common.{◌≡◌, ℕ, ◌+◌, ◌≢◌, List, [], ◌∷◌, ◌++◌, length, set, fold, refl, sym, ap, ◌∙◌, subst, Result, Ok, Err, ⊎_elim, arith, length-append}
use mathlib.Core.Option.{some}
use mathlib.Core.List.{IsPrefix}
use lib.ListN.{get_elem?}
use Rattle.std.specs.Prelude.{MatchResult, IsOk}
use Rattle.left_right.specs.Register.{Admits, Turns, TurnsAt, Forks, Merges}
use Rattle.atomic_table.proofs.Lists.{at_set, at_snoc}
use Rattle.cx_rotate.specs.declared.views.View.{View}
use Rattle.cx_shared.specs.declared.looks.Look.{Look}
use Rattle.cx_shared.specs.Looks.{IsLookOf}
use Rattle.cx_shared.specs.Renewals.{IsRenewed, KnowFronts, IsSeen, IsPublished}
use Rattle.cx_shared.specs.Views.{longer, shown}
use Rattle.cx_shared.proofs.Prefixes.{prefix_self, prefix_more, prefix_trans, prefix_whole, shown-append, longer_either}

all_set : (all : List View) (known : List (List View)) (seat : ℕ) (w : List View) → KnowFronts known all → IsPrefix w all → KnowFronts (set known seat w) all
all_set all known seat w h p j u e = ⊎_elim (λ (t : (j ≡ seat) × (w ≡ u)). subst (λ (x : List View). IsPrefix x all) t.1 p) (λ (t : (j ≢ seat) × (get_elem? known j ≡ some u)). h j u t.1) (at_set known seat j w u e)

all_snoc : (all : List View) (known : List (List View)) (w : List View) → KnowFronts known all → IsPrefix w all → KnowFronts (known ++ w ∷ []) all
all_snoc all known w h p j u e = ⊎_elim (h j u) (λ (same : w ≡ u). subst (λ (x : List View). IsPrefix x all) same p) (at_snoc known w u j e)

all_more : (all : List View) (v : View) (known : List (List View)) → KnowFronts known all → KnowFronts known (all ++ v ∷ [])
all_more all v known h j u e = prefix_trans u all (all ++ v ∷ []) (h j u e) (prefix_more all (v ∷ []))

pub admits : Admits IsRenewed []
admits x known h = (h.0, h.1, all_snoc h.0 known [] h.2 (h.0, refl))

pub looks : (seat : ℕ) (v : List View) → Turns IsRenewed seat v (λ x. x) IsSeen
looks seat v x known h at = (h.0, (h.0, h.1, all_set h.0 known seat h.0 h.2 (prefix_self h.0)), (h.2 seat v at, h.1))

pub publishes : (seat : ℕ) (v : List View) (x y : Look) → x.count ≡ length v → y.count ≡ x.count + 1 → TurnsAt IsRenewed seat v x y IsPublished
publishes seat v x y len up known h at =
    let same : v ≡ h.0 = prefix_whole v h.0 (h.2 seat v at) (omega (arith, h.1.1, len)) in
    let w = v ++ y.view ∷ [] in
    let count : y.count ≡ length w = omega (arith, length-append v (y.view ∷ []), len, up) in
    (w, (w, (sym (shown-append v y.view), count), all_set w known seat w (all_more v y.view known (subst (λ l. KnowFronts known l) (sym same) h.2)) (prefix_self w)), refl)

pub forks : (seat : ℕ) (v : List View) → Forks IsRenewed seat v v v
forks seat v x known h at = (h.0, h.1, all_snoc h.0 (set known seat v) v (all_set h.0 known seat v h.2 (h.2 seat v at)) (h.2 seat v at))

pub merges : (seat : ℕ) (v : List View) (other : ℕ) (w : List View) → Merges IsRenewed seat v other w (longer v w) []
merges seat v other w x known h at apart there =
    let theirs : IsPrefix w h.0 = ⊎_elim (λ (t : (other ≡ seat) × (longer v w ≡ w)). absurd (apart t.0)) (λ (t : (other ≢ seat) × (get_elem? known other ≡ some w)). h.2 other w t.1) (at_set known seat other (longer v w) w there) in
    let both : IsPrefix (longer v w) h.0 = longer_either (λ l. IsPrefix l h.0) v w (h.2 seat v at) theirs in
    (h.0, h.1, all_set h.0 (set known seat (longer v w)) other [] (all_set h.0 known seat (longer v w) h.2 both) (h.0, refl))

-- what is published after one operation is that operation's look
pub published_one : (x look next : Look) (waiting : List Look) → waiting ≡ look ∷ [] → next ≡ fold (λ (_ y : Look). y) x waiting → next ≡ look
published_one x look next waiting is at = at ∙ ap (λ l. fold (λ (_ y : Look). y) x l) is

-- what stands behind a publish, which can't fail
pub settled_after : {E : Type 0} (r : Result (Unit {0}) E) (P Q : E → Type 0) (x look value : Look) (v w : List View) (waiting was : List Look)
    → IsOk r
    → was ≡ look ∷ []
    → MatchResult r (λ _. (value ≡ fold (λ (_ y : Look). y) x was) × (waiting ≡ [])) P
    → MatchResult r (λ _. IsPublished v x value w) Q
    → look.count ≡ length v + 1
    → IsLookOf value w × (waiting ≡ [])
settled_after (Ok _) P Q x look value v w waiting was ok is values rule len =
    let same = published_one x look value was is values.0 in
    let count : value.count ≡ length w = omega (arith, ap (λ (l : Look). l.count) same, ap length rule, length-append v (value.view ∷ []), len) in
    ((sym (ap shown rule ∙ shown-append v value.view), count), values.1)
settled_after (Err e) P Q x look value v w waiting was ok is values rule len = absurd (cc ok)

pub known_after : {E : Type 0} (r : Result (Unit {0}) E) (P Q : E → Type 0) (x look value : Look) (v w : List View) (waiting was : List Look)
    → IsOk r
    → was ≡ look ∷ []
    → MatchResult r (λ _. (value ≡ fold (λ (_ y : Look). y) x was) × (waiting ≡ [])) P
    → MatchResult r (λ _. IsPublished v x value w) Q
    → w ≡ v ++ look.view ∷ []
known_after (Ok _) P Q x look value v w waiting was ok is values rule = rule ∙ ap (λ (l : Look). v ++ l.view ∷ []) (published_one x look value was is values.0)
known_after (Err e) P Q x look value v w waiting was ok is values rule = absurd (cc ok)
