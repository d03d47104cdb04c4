-- Items that are found by a key, when one is replaced or all are changed.
use Rattle.std.proofs.Common.{◌≡◌, ℕ, Bool, true, false, List, [], ◌∷◌, map, Option, Some, None, refl, sym, subst, ap, ◌∙◌}
use Rattle.std.specs.Prelude.{find, if◌then◌else◌}
use Rattle.std.specs.Option.{option_map}
use Rattle.std.proofs.lemmas.Bool.{false≢true}
use Rattle.std.proofs.lemmas.Option.{same_Some}
use Rattle.cx_base.specs.Names.{Name, same_name}
use Rattle.cx_base.proofs.Names.{same_name_is, same_name_self}
use Rattle.cx_base.specs.declared.nodes.NodeName.{NodeName}
use Rattle.cx_base.specs.declared.nodes.NodeName.TheVariants as node
use Rattle.cx_world_start.specs.cx_run.specs.Wires.{same_node}

pub same_node_is : (a b : NodeName) → same_node a b ≡ true → a ≡ b
same_node_is node.Monitor node.Monitor e = refl
same_node_is (node.Entity a) (node.Entity b) e = ap (λ (n : Name). node.Entity n) (same_name_is a b e)
same_node_is node.Monitor (node.Entity b) e = absurd (false≢true e)
same_node_is (node.Entity a) node.Monitor e = absurd (false≢true e)

pub same_node_self : (a : NodeName) → same_node a a ≡ true
same_node_self node.Monitor = refl
same_node_self (node.Entity a) = same_name_self a

module _ {X K : Type 0} (key : X → K) (same : K → K → Bool) where
  abbrev pub keyed : K → List X → Option X
  keyed k xs = find (λ x. same (key x) k) xs

  abbrev pub replaced : K → X → List X → List X
  replaced k y xs = map (λ x. if same (key x) k then y else x) xs

  abbrev pub IsSame : Type 0
  IsSame = (a b : K) → same a b ≡ true → a ≡ b

  pub replaced_here : ((a : K) → same a a ≡ true) → (xs : List X) (k : K) (x y : X) → key y ≡ k → keyed k xs ≡ Some x → keyed k (replaced k y xs) ≡ Some y
  replaced_here self [] k x y e found = cc
  replaced_here self (z ∷ xs) k x y e found = by (λ f. replaced_here self xs k x y e f) (same (key z) k) refl found
    where
      by : (keyed k xs ≡ Some x → keyed k (replaced k y xs) ≡ Some y) → (b : Bool) → same (key z) k ≡ b → (if b then Some z else keyed k xs) ≡ Some x
          → (let head : X = (if b then y else z) in if same (key head) k then Some head else keyed k (replaced k y xs)) ≡ Some y
      by rest true t f = rw (e, self k) refl
      by rest false t f = rw t (rest f)

  pub replaced_elsewhere : IsSame → (xs : List X) (k j : K) (y : X) → key y ≡ k → same k j ≡ false → keyed j (replaced k y xs) ≡ keyed j xs
  replaced_elsewhere is [] k j y e other = refl
  replaced_elsewhere is (z ∷ xs) k j y e other = by (replaced_elsewhere is xs k j y e other) (same (key z) k) refl
    where
      by : keyed j (replaced k y xs) ≡ keyed j xs → (b : Bool) → same (key z) k ≡ b
          → (let head : X = (if b then y else z) in if same (key head) j then Some head else keyed j (replaced k y xs)) ≡ keyed j (z ∷ xs)
      by more true t =
          let here : key z ≡ k = is (key z) k t in
          rw (e, here, other) more
      by more false t = ap (λ (rest : Option X). if same (key z) j then Some z else rest) more

  pub changed_all : (change : X → X) → ((x : X) → key (change x) ≡ key x) → (k : K) (xs : List X) → keyed k (map change xs) ≡ option_map change (keyed k xs)
  changed_all change kept k [] = refl
  changed_all change kept k (x ∷ xs) = rw (kept x) (by (changed_all change kept k xs) (same (key x) k))
    where
      by : keyed k (map change xs) ≡ option_map change (keyed k xs) → (b : Bool) → (if b then Some (change x) else keyed k (map change xs)) ≡ option_map change (if b then Some x else keyed k xs)
      by more true = refl
      by more false = more

  pub key_found : (xs : List X) (k : K) (x : X) → keyed k xs ≡ Some x → same (key x) k ≡ true
  key_found [] k x e = cc
  key_found (z ∷ xs) k x e = by (key_found xs k x) (same (key z) k) refl e
    where
      by : (keyed k xs ≡ Some x → same (key x) k ≡ true) → (b : Bool) → same (key z) k ≡ b → (if b then Some z else keyed k xs) ≡ Some x → same (key x) k ≡ true
      by more true t f = let e : z ≡ x = same_Some z x f in let P : X → Type 0 = λ y. same (key y) k ≡ true in subst P e t
      by more false t f = more f
