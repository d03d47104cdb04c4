use Rattle.std.proofs.Common.{ℕ, Bool, List, Some, cond, ap, ◌∙◌}
use Rattle.std.specs.Prelude.{string_bytes}
use Rattle.std.specs.Str.{bytes_eq}
use Rattle.std.proofs.lemmas.Map.Text.{btree_map_updates_text}
use Rattle.cx_base.specs.Names.{name_text}
use Rattle.cx_world_start.specs.head.Places.{place_of}
use Rattle.cx_world_start.proofs.head.Naming.{same_text}
use Rattle.cx_world_start.proofs.head_places.NamePlaces.put.Goals as goal

pub returns-clause-ok : goal.returns-clause-ok
returns-clause-ok c = λ n.
    let text = string_bytes c.in_ok-text.text in
    let old = place_of c.args.self.now.texts n in
    btree_map_updates_text text c.args.self.now.texts c.insert.new.self (Some c.args.place) c.in_ok-insert.ensures.updates (name_text n)
    ∙ ap (λ (t : List ℕ). cond (bytes_eq t (name_text n)) (Some c.args.place) old) c.in_ok-text.ensures
    ∙ ap (λ (b : Bool). cond b (Some c.args.place) old) (same_text c.args.name.now n)
