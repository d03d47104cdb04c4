use Rattle.std.proofs.Common.{◌≡◌, ◌+◌, List, [], ◌∷◌, ◌++◌, cond, Some, refl, sym, ap, ◌∙◌, arith, take, length}
use Rattle.std.specs.Prelude.{position}
use Rattle.std.specs.List.{list_all}
use Rattle.std.proofs.lemmas.Bool.{and_parts}
use Rattle.std.proofs.lemmas.List.{length-take-le, take_more}
use Rattle.cx_base.specs.Names.{same_name}
use Rattle.cx_keyring.specs.declared.entries.Entry.{Entry}
use Rattle.cx_keyring.specs.Entries.{are_apart, are_grants, is_named}
use Rattle.cx_keyring.specs.Indexed.{place_of}
use Rattle.cx_keyring.proofs.Apart.{apart_at, placed_more}
use Rattle.cx_keyring.proofs.Places.{position_none}
use Rattle.cx_keyring.proofs.keyring.indexed.Goals as goal

pub loop-i-preserved : goal.loop-i-preserved
loop-i-preserved c = λ name.
    let all = c.args.entries.now in
    let i = c.loop-i.i in
    let entry = c.index-entries-i.result in
    let parts = and_parts (list_all (λ (e : Entry). are_grants e.caps) all) (are_apart [] all) c.requires in
    let none = apart_at [] all i entry parts.1 c.loop-i-test.true c.index-entries-i.is in
    let n : length (take i all) ≡ i = length-take-le i all (omega arith) in
    let more : take (i + 1) all ≡ take i all ++ entry ∷ [] = take_more all i entry c.loop-i-test.true ∙ ap (λ (e : Entry). take i all ++ e ∷ []) (sym c.index-entries-i.is) in
    c.in_ok-put.ensures.ok name
    ∙ ap (λ (e : Entry). cond (same_name e.name name) (Some i) (place_of c.loop-i.names.ids name)) (sym c.index-entries-i.is)
    ∙ ap (λ k. cond (same_name entry.name name) (Some k) (place_of c.loop-i.names.ids name)) (sym n)
    ∙ placed_more entry.name name (take i all) entry (place_of c.loop-i.names.ids name) refl (position_none (is_named entry.name) (take i all) none) (c.loop-i.invariant name)
    ∙ sym (ap (λ (es : List Entry). position (is_named name) es) more)
