-- The frames are those of what is left above the number.
use Rattle.std.proofs.Common.{List, ap, ◌∙◌, map, subst, ℕ}
use Rattle.std.specs.Prelude.{IfOk, filter, nat_lt}
use Rattle.cx_base.specs.declared.operations.Operation.{Operation}
use Rattle.cx_frame.specs.declared.frame.Frame.{Frame}
use Rattle.cx_rules_session.specs.cx_rules.specs.Messages.{secure_frames}
use Rattle.cx_node.specs.steps.Sending.{SendsSecure}
use Rattle.cx_client_connect.proofs.session.Above.{messages_above}
use Rattle.cx_client_connect.proofs.frames.send_waiting.Goals as goal

pub returns : goal.returns
returns c =
    let is = c.deref.ensures.value ∙ c.in_ok-frames.ensures.frames ∙ ap (messages_above c.args.last) c.waiting.ensures.all in
    subst (λ (fs : List Frame). IfOk c.send_frames.result (SendsSecure c.args.link (secure_frames c.args.link.keys fs))) is c.send_frames.ensures
