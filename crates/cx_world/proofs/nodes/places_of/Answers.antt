use Rattle.std.proofs.Common.{◌≡◌, ◌+◌, List, [], ◌∷◌, ◌++◌, ℕ, Bool, Option, Some, None, cond, true, false, refl, sym, ap, ◌∙◌, arith, take, length}
use Rattle.std.specs.Prelude.{position, is_some}
use Rattle.std.proofs.lemmas.List.{length-take-le, take_more}
use Rattle.cx_base.specs.Names.{Name, same_name}
use Rattle.cx_name_index.specs.Indexed.{first_place, place_of}
use Rattle.cx_keyring.proofs.Places.{position_push}
use Rattle.cx_world.specs.declared.members.Member.{Member}
use Rattle.cx_world.proofs.nodes.places_of.Goals as goal

first : (before : Option ℕ) (same : Bool) (place : ℕ) → first_place before same place ≡ cond (is_some before) before (cond same (Some place) None)
first (Some n) same place = refl
first None same place = refl

pub loop-i-preserved : goal.loop-i-preserved
loop-i-preserved c = λ name.
    let all = c.args.members.now in
    let i = c.loop-i.i in
    let member = c.index-members-i.result in
    let p = λ (m : Member). same_name m.name name in
    let n : length (take i all) ≡ i = length-take-le i all (omega arith) in
    let more : take (i + 1) all ≡ take i all ++ member ∷ [] = take_more all i member c.loop-i-test.true ∙ ap (λ (m : Member). take i all ++ m ∷ []) (sym c.index-members-i.is) in
    c.in_ok-note.ensures.ok name
    ∙ ap (λ (m : Member). first_place (place_of c.loop-i.places.ids name) (same_name m.name name) i) (sym c.index-members-i.is)
    ∙ ap (λ (before : Option ℕ). first_place before (p member) i) (c.loop-i.invariant name)
    ∙ first (position p (take i all)) (p member) i
    ∙ ap (λ k. cond (is_some (position p (take i all))) (position p (take i all)) (cond (p member) (Some k) None)) (sym n)
    ∙ sym (position_push p (take i all) member)
    ∙ sym (ap (λ (ms : List Member). position p ms) more)
