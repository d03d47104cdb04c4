use Rattle.std.specs.Prelude.{length, nat_le}
use Rattle.cx_mon.specs.acceptor.Rows.{arrived, opening}
use Rattle.cx_rules.specs.Abridged.{abridged_link}
use Rattle.cx_rules.specs.Acceptor.{AwaitsBanner}
use Rattle.cx_rules.specs.Rows.{new_link}
use Rattle.cx_rules.proofs.AcceptorForgets.{acceptor-forgets}
use Rattle.cx_node.proofs.steps.Steps.{opens_held, opens_step}
use Rattle.cx_mon.proofs.events.opens.Goals as goal

pub returns-clause-step : goal.returns-clause-step
returns-clause-step c =
    let m = rw c.len-full.ensures at c.greeting-greeted.ensures in
    opens_step abridged_link acceptor-forgets c.args.own.now c.args.at.now.number c.args.links.now.links c.opens.new.links.links
    (opening (nat_le 1024 (length c.args.links.now.links)) (arrived c.args.own.now c.args.at.now (new_link c.args.at.now.number AwaitsBanner)))
    c.greeting-greeted.result c.opens.result c.requires.held m c.opens.ensures.carried

pub returns-clause-held : goal.returns-clause-held
returns-clause-held c =
    let m = rw c.len-full.ensures at c.greeting-greeted.ensures in
    opens_held abridged_link acceptor-forgets c.args.own.now c.args.at.now.number c.args.links.now.links c.opens.new.links.links
    (opening (nat_le 1024 (length c.args.links.now.links)) (arrived c.args.own.now c.args.at.now (new_link c.args.at.now.number AwaitsBanner)))
    c.greeting-greeted.result c.opens.result c.requires.held m c.opens.ensures.carried c.opens.ensures.lost
