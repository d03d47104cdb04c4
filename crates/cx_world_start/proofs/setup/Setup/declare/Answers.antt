use Rattle.std.proofs.Common.{◌≡◌, List, false, length, ap, ◌∙◌}
use Rattle.std.specs.Prelude.{map}
use Rattle.std.specs.List.{list_any}
use Rattle.cx_keyring.specs.Entries.{is_named}
use Rattle.cx_run.specs.Opening.{Declared, Setup, principal_of}
use Rattle.cx_world_start.proofs.head.Held.{held_push, taken_back}
use Rattle.cx_world_start.proofs.setup.Setup.declare.Goals as goal

pub invariant_of-self-in-Err : goal.invariant_of-self-in-Err
invariant_of-self-in-Err c =
    let old = c.self.inside.entities.items in
    let last : length c.as_slice-place.result.now ≡ length old = ap (λ (es : List Declared). length es) c.as_slice-place.ensures.value in
    let back : c.truncate.new.self.items ≡ old =
    c.truncate.ensures.items ∙ taken_back old _ _ _ last c.in_ok-push.ensures.items in
    record {
      life_within = c.self.invariant.life_within;
      auth_life_within = c.self.invariant.auth_life_within;
      ring = rw back c.self.invariant.ring;
      placed = λ n. rw back (c.in-Err.ensures.err n ∙ c.self.invariant.placed n);
    }

pub invariant_of-self-in_default : goal.invariant_of-self-in_default
invariant_of-self-in_default c =
    let old = c.self.inside.entities.items in
    let last : length c.as_slice-place.result.now ≡ length old = ap (λ (es : List Declared). length es) c.as_slice-place.ensures.value in
    let all : old ≡ c.args.self.now.entities = ap (λ (s : Setup). s.entities) c.self.view_is in
    let fresh : list_any (is_named c.args.name.now) (map principal_of old) ≡ false = ap (λ (es : List Declared). list_any (is_named c.args.name.now) (map principal_of es)) all ∙ c.requires.fresh in
    let granted = rw (← c.in_ok-copy_items.ensures) at c.requires.granted in
    rw c.in_ok-push.ensures.items (held_push _ _ old _ _ _ c.args.name.now (length c.as_slice-place.result.now) c.self.invariant c.in_ok-copy.ensures fresh granted last c.in_default.ensures.ok)
