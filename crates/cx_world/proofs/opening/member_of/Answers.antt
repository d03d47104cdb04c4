use Rattle.std.proofs.Common.{◌≡◌, ℕ, refl, sym, ap, ◌∙◌}
use Rattle.std.specs.Prelude.{unwrap_or}
use Rattle.cx_world_start.specs.cx_run.specs.Opening.{Declared, post_for}
use Rattle.cx_world.proofs.opening.member_of.Goals as goal

pub returns : goal.returns
returns c =
    let seed : c.unwrap_or-seed.result ≡ unwrap_or c.args.entity.now.seed c.args.entity.now.number =
    c.unwrap_or-seed.ensures ∙ ap (λ (n : ℕ). unwrap_or c.entity.inside.seed n) c.from.ensures ∙ ap (λ (e : Declared). unwrap_or e.seed e.number) c.entity.view_is in
    record {
      name = c.in_ok-name.ensures ∙ ap (λ (e : Declared). e.name) c.entity.view_is;
      post = c.new.ensures (post_for c.args.entity.now) refl (sym seed) refl;
      node = c.in_ok-node.ensures;
    }
