use Rattle.cx_client.specs.cx_rules_session.specs.cx_rules.specs.Inputs.{input_of}
use Rattle.std.proofs.Common.{subst}
use Rattle.cx_drive.proofs.Performing.{performed, stopped}
use Rattle.cx_drive.specs.Steps.{regard_acts, step_links}
use Rattle.cx_drive.proofs.steps.perform.Goals as goal

pub returns-in-Ok-settle-clause-ok : goal.returns-in-Ok-settle-clause-ok
returns-in-Ok-settle-clause-ok g c =
    performed g.S.Site.follows g.M.Machine.rule g.M.Machine.lost g.M.Machine.regards g.S.Site.goes_on c.args.peers.now (input_of c.args.event) c.read-now.result c.in-Ok.draw.bytes
    c.take_step-short.result c.take_step-short.new.out c.args.site.now c.block.new.self c.read-now.new.self c.settle.new.site c.tell.new.site c.args.node.now c.take_step-short.new.node
    c.args.journal.now c.settle.new.journal c.args.dues.now.items c.settle.new.dues.items c.in-Ok.ensures.did c.read-now.ensures.did c.take_step-short.ensures.out
    c.take_step-short.ensures.node c.in-Ok-settle.ensures.ok c.in-Ok-settle.ensures.entered
    (subst (λ link. g.S.Site.follows c.settle.new.site c.tell.new.site (regard_acts (g.M.Machine.regards c.take_step-short.new.node) (step_links link c.take_step-short.new.out.sends)))
    c.link_in-link.ensures (subst (λ sends. g.S.Site.follows c.settle.new.site c.tell.new.site (regard_acts (g.M.Machine.regards c.take_step-short.new.node) (step_links c.link_in-link.result sends)))
    c.all.ensures c.tell.ensures))

pub returns-clause-err : goal.returns-clause-err
returns-clause-err g c =
    stopped g.S.Site.follows g.M.Machine.rule g.M.Machine.lost g.S.Site.goes_on (input_of c.args.event) c.read-now.result c.in-Ok.draw.bytes
    c.take_step-short.result c.take_step-short.new.out c.args.site.now c.block.new.self c.read-now.new.self c.settle.new.site c.args.node.now c.take_step-short.new.node
    c.args.journal.now c.settle.new.journal c.in-Err.stop c.in-Ok.ensures.did c.read-now.ensures.did c.take_step-short.ensures.out c.take_step-short.ensures.node
    c.in-Err.ensures.err c.in-Err.ensures.same
