use Rattle.std.proofs.Common.{◌≡◌, List, Some, refl, sym, ap, ◌∙◌}
use Rattle.cx_run.specs.Opening.{Declared, Setup, changed}
use Rattle.cx_world_start.proofs.head.Held.{held_changed, unwritten, written}
use Rattle.cx_world_start.specs.head.Beginning.{unhandled}
use Rattle.cx_world_start.specs.head.Places.{place_of}
use Rattle.cx_world_start.proofs.setup.Setup.offer.Goals as goal

pub invariant_of-self : goal.invariant_of-self
invariant_of-self c =
    let change : Declared → Declared = λ e. record e { modes = c.args.modes } in
    let old : Declared = record { number = c.entity.inside.number; line = c.entity.inside.line; name = c.entity.inside.name; grants = c.entity.inside.grants; seed = c.entity.inside.seed; modes = c.entity.inside.modes } in
    let here : place_of c.self.inside.places.texts c.args.name.now ≡ Some c.in-Some.place = sym c.in_ok-place.ensures ∙ c.in-Some.is in
    let is = rw (← c.entity.view_is) at c.in-Some-get_mut.ensures.value in
    rw (written _ _ _ _ c.args.name.now change c.in-Some.place old c.self.invariant here is) (held_changed _ _ _ _ c.args.name.now change (λ e. refl) c.self.invariant)

pub returns-in-Some-get_mut : goal.returns-in-Some-get_mut
returns-in-Some-get_mut c =
    let change : Declared → Declared = λ e. record e { modes = c.args.modes } in
    let old : Declared = record { number = c.entity.inside.number; line = c.entity.inside.line; name = c.entity.inside.name; grants = c.entity.inside.grants; seed = c.entity.inside.seed; modes = c.entity.inside.modes } in
    let here : place_of c.self.inside.places.texts c.args.name.now ≡ Some c.in-Some.place = sym c.in_ok-place.ensures ∙ c.in-Some.is in
    let is = rw (← c.entity.view_is) at c.in-Some-get_mut.ensures.value in
    let with_entities : List Declared → Setup = λ es. record { life = c.self.inside.life; auth_life = c.self.inside.auth_life; entities = es; monitor_seed = c.self.inside.monitor_seed; leaks = c.self.inside.leaks; handlers = unhandled } in
    ap with_entities (written _ _ _ _ c.args.name.now change c.in-Some.place old c.self.invariant here is) ∙ ap (changed c.args.name.now change) c.self.view_is

pub returns-in_default : goal.returns-in_default
returns-in_default c =
    let change : Declared → Declared = λ e. record e { modes = c.args.modes } in
    let with_entities : List Declared → Setup = λ es. record { life = c.self.inside.life; auth_life = c.self.inside.auth_life; entities = es; monitor_seed = c.self.inside.monitor_seed; leaks = c.self.inside.leaks; handlers = unhandled } in
    sym c.self.view_is ∙ sym (ap with_entities (unwritten _ _ _ _ c.args.name.now change c.self.invariant (sym c.in_ok-place.ensures ∙ c.in_default.is))) ∙ ap (changed c.args.name.now change) c.self.view_is
