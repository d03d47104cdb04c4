-- What is logged and decided behind the rotation.
use Rattle.std.proofs.Common.{ap, ◌∙◌}
use Rattle.cx_keyserver.specs.Servers.{Server}
use Rattle.cx_mon_grants.specs.Occasions.{occasion_of}
use Rattle.cx_mon_grants.proofs.Steps.{rotates_decides}
use Rattle.cx_mon_grants.proofs.logins.rotates.Goals as goal

pub numbers-requires-clause-rotated : goal.numbers-requires-clause-rotated
numbers-requires-clause-rotated c = c.in_ok-rotated.ensures.again

pub returns-clause-decides : goal.returns-clause-decides
returns-clause-decides c =
    rotates_decides (occasion_of c.args.at.now) c.args.server.now c.rotated.new.server c.state.result c.args.hello_gid c.args.proved.now c.in_ok-found.field-0
    c.new-seals.result c.push.new.self c.rotated.new.seals c.reclaim.new.seals c.in_ok-reclaim.reclaim c.numbers.new.server c.numbers.result
    c.new-seals.ensures c.in_ok-found.ensures c.in_ok-push.ensures.ok c.in_ok-rotated.ensures.server c.in_ok-rotated.ensures.drawn c.state.ensures.value
    c.in_ok-reclaim.ensures.reclaimed c.in_ok-reclaim.ensures.opened c.numbers.ensures.decides

pub returns-clause-ring : goal.returns-clause-ring
returns-clause-ring c = c.numbers.ensures.ring ∙ ap (λ (s : Server). s.ring) c.in_ok-rotated.ensures.server
