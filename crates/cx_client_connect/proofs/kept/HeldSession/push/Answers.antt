-- The one that was pushed can be written as the others.
use Rattle.cx_client_connect.proofs.session.Writable.{writable_behind}
use Rattle.cx_client_connect.proofs.kept.HeldSession.push.Goals as goal

pub invariant_of-self : goal.invariant_of-self
invariant_of-self c =
    writable_behind c.self.inside.queue c.push.new.self c.args.operation c.push.result c.self.invariant c.requires c.push.ensures.pushed c.push.ensures.err
