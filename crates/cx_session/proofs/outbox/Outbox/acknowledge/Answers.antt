use Rattle.cx_session.proofs.Queues.{run-filter}
use Rattle.cx_session.proofs.outbox.Outbox.acknowledge.Goals as goal

pub invariant_of-self : goal.invariant_of-self
invariant_of-self c = rw c.drop_up_to.ensures.left (run-filter _ _ _ c.self.invariant)
