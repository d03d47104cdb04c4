use Rattle.std.proofs.Common.{◌≡◌, ℕ, Bool, true, false, cond, Option, Some, List, refl, sym, ap, ◌∙◌}
use Rattle.std.specs.Prelude.{◌&&◌, string_bytes}
use Rattle.std.specs.BTreeMap.{get_by_text}
use Rattle.std.specs.Str.{bytes_eq}
use Rattle.std.proofs.lemmas.Map.Text.{btree_map_updates_text}
use Rattle.std.proofs.lemmas.Slice.Eq.{bytes_eq-Decides}
use Rattle.cx_base.specs.Names.{Name, same_kind, same_name}
use Rattle.cx_base.specs.declared.kinds.EntityType.{EntityType}
use Rattle.cx_name_index.specs.declared.index.PlacesByType.{PlacesByType}
use Rattle.cx_name_index.specs.Indexed.{place_among, place_at}
use Rattle.cx_name_index.proofs.index.Index.put.Goals as goal

and_true : (b : Bool) → (b && true) ≡ b
and_true true = refl
and_true false = refl

and_false : (b : Bool) → (b && false) ≡ false
and_false true = refl
and_false false = refl

-- a look-up of a name behind the change at another one's id
put_at : (name n : Name) (place : ℕ) (places : PlacesByType) (mine theirs : Option PlacesByType) (same : Bool) → bytes_eq name.id n.id ≡ same
    → (same ≡ true → mine ≡ theirs) → place_at places n.kind ≡ cond (same_kind name.kind n.kind) (Some place) (place_among mine n.kind)
    → place_among (cond same (Some places) theirs) n.kind ≡ cond (same_name name n) (Some place) (place_among theirs n.kind)
put_at name n place places mine theirs true e is put =
    let test : same_name name n ≡ same_kind name.kind n.kind = rw e (and_true (same_kind name.kind n.kind)) in
    put ∙ ap (λ (o : Option PlacesByType). cond (same_kind name.kind n.kind) (Some place) (place_among o n.kind)) (is refl) ∙ ap (λ b. cond b (Some place) (place_among theirs n.kind)) (sym test)
put_at name n place places mine theirs false e is put =
    let test : same_name name n ≡ false = rw e (and_false (same_kind name.kind n.kind)) in
    rw test refl

pub returns-clause-ok : goal.returns-clause-ok
returns-clause-ok c = λ n.
    let text = string_bytes c.in_ok-id.id in
    let is : text ≡ c.args.name.now.id = cc (c.in_ok-id.ensures.ok, c.as_str.ensures, ap (λ (a : Name). a.id) c.name.view_is) in
    let kind : c.name.inside.kind ≡ c.args.name.now.kind = cc (ap (λ (a : Name). a.kind) c.name.view_is) in
    let after = btree_map_updates_text text c.args.self.now.ids c.insert.new.self (Some c.with-places.result) c.in_ok-insert.ensures.updates n.id in
    ap (λ (o : Option PlacesByType). place_among o n.kind) after
    ∙ ap (λ (id : List ℕ). place_among (cond (bytes_eq id n.id) (Some c.with-places.result) (get_by_text c.args.self.now.ids n.id)) n.kind) is
    ∙ put_at c.args.name.now n c.args.place c.with-places.result (get_by_text c.args.self.now.ids c.args.name.now.id) (get_by_text c.args.self.now.ids n.id)
    (bytes_eq c.args.name.now.id n.id) refl
    (λ same. ap (get_by_text c.args.self.now.ids) ((bytes_eq-Decides c.args.name.now.id n.id).0 same))
    (c.with-places.ensures n.kind
    ∙ ap (λ (kind : EntityType). cond (same_kind kind n.kind) (Some c.args.place) (place_at c.at.result n.kind)) kind
    ∙ ap (λ (o : Option ℕ). cond (same_kind c.args.name.now.kind n.kind) (Some c.args.place) o) (c.at.ensures n.kind))
