-- The state of the server is rotated.
use Rattle.std.proofs.Common.{refl}
use Rattle.cx_keyserver.proofs.server.KeyServer.rotate.Goals as goal

pub returns-clause-state : goal.returns-clause-state
returns-clause-state c = rw (c.rotate.ensures.state, ← c.self.view_is) refl

pub returns-clause-added : goal.returns-clause-added
returns-clause-added c = rw (c.rotate.ensures.added, ← c.self.view_is) refl
