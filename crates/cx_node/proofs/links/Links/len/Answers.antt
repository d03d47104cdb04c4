use Rattle.std.proofs.Common.{◌≡◌, length, ap, ◌∙◌, arith}
use Rattle.std.specs.Prelude.{option_to_list}
use Rattle.cx_node.specs.Places.{links_in, rooms_in}
use Rattle.cx_node.specs.Tables.{Table}
use Rattle.cx_node.proofs.Slots.{length_rooms}
use Rattle.cx_node.proofs.links.Links.len.Goals as goal

pub returns-in-None : goal.returns-in-None
returns-in-None g c =
    let all = length_rooms c.self.inside.places.items in
    let none : length (rooms_in c.self.inside.places.items) ≡ 0 = ap length (c.self.invariant.empty ∙ ap option_to_list c.in-None.is) in
    let seen : length (links_in c.self.inside.places.items) ≡ length c.args.self.now.links = ap (λ (t : Table g.row.L.Denot). length t.links) c.self.view_is in
    omega (arith, c.self.inside.places.ok.0, c.len.ensures)

pub returns-in-Some : goal.returns-in-Some
returns-in-Some g c =
    let all = length_rooms c.self.inside.places.items in
    let one : length (rooms_in c.self.inside.places.items) ≡ 1 = ap length (c.self.invariant.empty ∙ ap option_to_list c.in-Some.is) in
    let seen : length (links_in c.self.inside.places.items) ≡ length c.args.self.now.links = ap (λ (t : Table g.row.L.Denot). length t.links) c.self.view_is in
    omega (arith, c.self.inside.places.ok.0, c.len-in-Some.ensures)
