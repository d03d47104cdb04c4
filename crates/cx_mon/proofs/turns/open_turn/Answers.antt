use Rattle.std.proofs.Common.{ℕ}
use Rattle.cx_frame.specs.declared.frame.Frame.{Frame}
use Rattle.cx_rules.specs.Acceptor.{Open}
use Rattle.cx_rules.specs.MonitorRequests.{on_open}
use Rattle.cx_node.specs.steps.Stages.{keys_alone}
use Rattle.cx_mon.specs.acceptor.Stages.{open_link}
use Rattle.cx_mon.proofs.acceptor.Behind.{open-same}
use Rattle.cx_rules.specs.Abridged.{abridged_link}
use Rattle.cx_rules.specs.Fronts.{keys_behind}
use Rattle.cx_rules.specs.Monitor.{MonitorArrival}
use Rattle.cx_rules.specs.Secured.{Keys, under}
use Rattle.cx_node.proofs.steps.Handling.{secure_turn}
use Rattle.cx_mon.specs.acceptor.Rows.{arrived, with_keys}
use Rattle.cx_mon.proofs.turns.open_turn.Goals as goal

pub returns-in-Takes-clause-come : goal.returns-in-Takes-clause-come
returns-in-Takes-clause-come c =
    let t = rw (c.in-Takes.is, c.new-opened.ensures) at c.in_ok-link.ensures in
    secure_turn abridged_link with_keys (arrived c.args.own.now c.args.at.now (open_link c.args.at.now.number c.args.link c.args.bearer)) c.args.at.now.number c.args.link c.in-Takes.link (Open (keys_alone c.args.link.keys) c.args.bearer)
    (Open (keys_alone c.in-Takes.link.keys) c.args.bearer) c.in-Takes.frame c.turn.new.seals (λ (a : MonitorArrival) (f : Frame) (keys : Keys). on_open Open a (under (keys_alone c.args.link.keys) keys) c.args.bearer f) c.on_open-made.result c.handles.result t
    (λ (n : ℕ). open-same (record {
      a = arrived c.args.own.now c.args.at.now (open_link c.args.at.now.number c.args.link c.args.bearer);
      number = c.args.at.now.number;
      came = c.args.link.ahead;
      n = n;
      stage = Open (keys_alone c.args.link.keys) c.args.bearer;
      next = Open (keys_alone c.in-Takes.link.keys) c.args.bearer;
    }) (keys_behind c.args.link.keys c.in-Takes.frame) c.args.bearer c.in-Takes.frame)
    c.on_open-made.ensures.row c.handles.ensures
