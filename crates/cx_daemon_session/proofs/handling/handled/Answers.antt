-- The row of an operation that ended so is the one of the rules.
use Rattle.std.proofs.Common.{refl}
use Rattle.cx_desk.specs.Held.{handlers_of}
use Rattle.cx_daemon_session.specs.cx_rules_session.specs.IncomingLinks.{IncomingRow}
use Rattle.cx_daemon_session.specs.cx_rules_session.specs.Hosting.{handles, outcome_of}
use Rattle.cx_node.specs.steps.Stages.{keys_alone}
use Rattle.cx_daemon_session.specs.cx_verifying.specs.Stages.{open_link}
use Rattle.cx_daemon_session.specs.messages.Pending.{open_arrival}
use Rattle.cx_daemon_session.proofs.handling.handled.Goals as goal

pub returns : goal.returns
returns g c =
    let due : IncomingRow = handles (open_arrival c.args.mon_client.now c.args.at.now c.args.link c.args.served) (keys_alone c.args.link.keys) c.args.served
    (record { seq = c.instruction.inside.seq; tid = c.instruction.inside.tid; operation = c.instruction.inside.operation })
    (outcome_of (handlers_of c.args.desk.now) c.args.served.caps c.instruction.inside.operation) in
    let made = rw c.in_ok-done.ensures.done at c.answers-made.ensures in
    rw (← c.instruction.view_is) (c.come.ensures (open_link c.args.at.now.number c.args.link c.args.served) due refl made)
