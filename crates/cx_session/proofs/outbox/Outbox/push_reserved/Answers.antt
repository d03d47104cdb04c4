use Rattle.cx_session.proofs.Queues.{run-push}
use Rattle.cx_session.proofs.outbox.Outbox.push_reserved.Goals as goal

pub invariant_of-self : goal.invariant_of-self
invariant_of-self c =
    rw c.push_reserved.ensures.items (run-push _ _ _ c.self.invariant)
