use Rattle.std.proofs.Common.{◌≡◌, List, [], ◌∷◌, ◌++◌, None, Some, cond, length, sym, ap, ◌∙◌, rules, refl}
use Rattle.std.specs.Prelude.{find, position}
use Rattle.cx_base.specs.Names.{same_name}
use Rattle.cx_keyring.specs.declared.entries.Entry.{Entry}
use Rattle.cx_keyring.specs.Entries.{is_named}
use Rattle.cx_keyring.specs.Indexed.{place_of}
use Rattle.cx_keyring.proofs.Apart.{placed_more, ring_push}
use Rattle.cx_keyring.proofs.Places.{find_none, position_none}
use Rattle.cx_keyring.proofs.keyring.Keyring.add.Goals as goal

pub invariant_of-self-in_default : goal.invariant_of-self-in_default
invariant_of-self-in_default c =
    let old = c.self.inside.entries in
    let entry = c.args.entry in
    let gone : find (is_named entry.name) old ≡ None = search rules in
    let none = find_none (is_named entry.name) old gone in
    let pushed : c.push.new.self ≡ old ++ entry ∷ [] = c.in_ok-push.ensures.ok in
    record {
      ring = rw pushed (ring_push old entry c.self.invariant.ring c.requires none);
      placed = λ n.
          let put : place_of c.put.new.self.ids n ≡ cond (same_name entry.name n) (Some (length old)) (place_of c.self.inside.names.ids n) = search rules in
          put ∙ placed_more entry.name n old entry (place_of c.self.inside.names.ids n) refl (position_none (is_named entry.name) old none) (c.self.invariant.placed n) ∙ sym (ap (λ (es : List Entry). position (is_named n) es) pushed);
    }
