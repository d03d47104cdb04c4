use Rattle.std.proofs.Common.{◌≡◌, ℕ, List, Option, sym, ap, ◌∙◌}
use Rattle.std.specs.Prelude.{option_and_then, position}
use Rattle.std.specs.List.{slice_get}
use Rattle.cx_keyring.specs.declared.entries.Entry.{Entry}
use Rattle.cx_keyring.specs.Entries.{is_named, is_ring}
use Rattle.cx_keyring.proofs.Apart.{found_good}
use Rattle.cx_keyring.proofs.Places.{find_by_place}
use Rattle.cx_keyring.proofs.keyring.Keyring.find.Goals as goal

pub returns-clause-found : goal.returns-clause-found
returns-clause-found c =
    let all : c.all.result.now ≡ c.args.self.now = cc (c.all.ensures, c.self.view_is) in
    let kept : c.self.inside.entries ≡ c.args.self.now = cc (c.self.view_is) in
    let place : c.find.result ≡ position (is_named c.args.name.now) c.args.self.now =
    c.find.ensures ∙ c.self.invariant.placed c.args.name.now ∙ ap (λ (es : List Entry). position (is_named c.args.name.now) es) kept in
    c.entry_at.ensures
    ∙ ap (λ (es : List Entry). option_and_then (slice_get es) c.find.result) all
    ∙ ap (λ (o : Option ℕ). option_and_then (slice_get c.args.self.now) o) place
    ∙ sym (find_by_place (is_named c.args.name.now) c.args.self.now)

pub returns-clause-good : goal.returns-clause-good
returns-clause-good c =
    let kept : c.args.self.now ≡ c.self.inside.entries = cc (c.self.view_is) in
    found_good c.entry_at.result c.args.name.now c.args.self.now (returns-clause-found c) (ap is_ring kept ∙ c.self.invariant.ring)
