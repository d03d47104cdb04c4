-- The server behind a global id is rotated too.
use Rattle.std.proofs.Common.{ap, ◌∙◌}
use Rattle.cx_keyserver.specs.Servers.{Server}
use Rattle.cx_rules.specs.Verdicts.{numbered}
use Rattle.cx_mon_grants.specs.Occasions.{occasion_of}
use Rattle.cx_mon_grants.proofs.Steps.{numbers_decides}
use Rattle.cx_mon_grants.proofs.Still.{numbered_again, numbered_ring}
use Rattle.cx_mon_grants.proofs.logins.numbers.Goals as goal

pub issues_to-requires-clause-rotated : goal.issues_to-requires-clause-rotated
issues_to-requires-clause-rotated c =
    let at = c.args.at.now in
    rw c.in_ok-draw-in-Ok.ensures (numbered_again at.reading at.draw.now.bytes c.args.server.now c.args.reclaim _ c.requires.rotated c.in-Ok.ensures.ok)

pub returns-in_ok-draw-in-Ok-clause-decides : goal.returns-in_ok-draw-in-Ok-clause-decides
returns-in_ok-draw-in-Ok-clause-decides c =
    let decides = rw c.in_ok-draw-in-Ok.ensures at c.issues_to.ensures.decides in
    numbers_decides (occasion_of c.args.at.now) c.args.server.now c.numbered.new.server c.args.proved.now c.args.seals (numbered c.args.server.now c.args.reclaim)
    c.name.result.now c.in-Ok.gid c.asked.result c.issues_to.new.server c.issues_to.result c.in-Ok.ensures.ok c.name.ensures.name c.asked.ensures decides

pub returns-in_ok-draw-in-Ok-clause-ring : goal.returns-in_ok-draw-in-Ok-clause-ring
returns-in_ok-draw-in-Ok-clause-ring c =
    ap (λ (s : Server). s.ring) c.issues_to.ensures.server ∙ numbered_ring c.args.server.now c.args.reclaim _ c.in-Ok.ensures.ok
