use Rattle.std.proofs.Common.{◌≡◌, refl, sym, ap, List, ◌∙◌}
use Rattle.std.specs.List.{position}
use Rattle.cx_base.specs.Names.{same_name}
use Rattle.cx_world_start.specs.cx_run.specs.Opening.{Declared}
use Rattle.cx_world.specs.actors.Members.{AreMembersOf}
use Rattle.cx_world.specs.declared.members.Member.{Member}
use Rattle.cx_world.proofs.actors.Finding.{all_stand}
use Rattle.cx_world.proofs.opening.opening_nodes.Goals as goal

pub returns : goal.returns
returns c =
    let are = rw c.entities.ensures.value at c.in_ok-members.ensures in
    λ handlers. record {
      monitor = c.in_ok-monitor.ensures.stands;
      post = c.new-post.ensures _ refl (sym c.monitor_seed.ensures) refl;
      members = λ name. all_stand name c.args.setup.now.entities c.in_ok-members.members.items are;
      placed = λ name. c.in_ok-places.ensures name ∙ ap (λ (ms : List Member). position (λ (m : Member). same_name m.name name) ms) c.as_slice.ensures.value;
      serves = refl;
    }
