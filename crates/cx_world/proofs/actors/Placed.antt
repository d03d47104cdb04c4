-- Members stay where they are found.
use Rattle.std.proofs.Common.{◌≡◌, ℕ, List, get_or, set, map, refl, ap, ◌∙◌}
use Rattle.std.specs.List.{position}
use Rattle.std.specs.BTreeMap.{BTreeMap}
use Rattle.cx_base.specs.Names.{Name, same_name}
use Rattle.cx_name_index.specs.Indexed.{place_of}
use Rattle.cx_name_index.specs.declared.index.Index.{Index}
use Rattle.cx_world.specs.actors.Held.{ArePlaced, reads}
use Rattle.cx_world.specs.declared.members.Member.{Member}
use Rattle.cx_world.specs.declared.nodes.Nodes.{Nodes}
use Rattle.cx_world.proofs.actors.Passing.{position-map, position-set}

-- where none is changed
pub placed-same : (held new : Nodes) → new.places ≡ held.places → new.members.items ≡ held.members.items → ArePlaced held → ArePlaced new
placed-same held new places members placed = λ name. rw (places, members) (placed name)

-- where one is replaced by one of its name
pub placed-set : (held new : Nodes) (place : ℕ) (old next : Member) → new.places ≡ held.places → old ≡ get_or held.members.items place old → next.name ≡ old.name
    → new.members.items ≡ set held.members.items place next → ArePlaced held → ArePlaced new
placed-set held new place old next places read same put placed = λ name.
    let p = λ (m : Member). same_name m.name name in
    let stays = position-set p held.members.items place old next read (ap (λ (n : Name). same_name n name) same) in
    rw (places, put, stays) (placed name)

-- where all read their clocks anew
pub placed-read : (held new : Nodes) (reading : ℕ) → new.places ≡ held.places → new.members.items ≡ map (λ m. reads reading m) held.members.items → ArePlaced held → ArePlaced new
placed-read held new reading places members placed = λ name.
    let p = λ (m : Member). same_name m.name name in
    let stays = position-map p (λ m. reads reading m) (λ m. refl) held.members.items in
    rw (places, members, stays) (placed name)
