-- Each service's generations are rotated.
use Rattle.std.proofs.Common.{refl}
use Rattle.cx_keyserver.proofs.rotation.rotate.Goals as goal

pub returns-clause-state : goal.returns-clause-state
returns-clause-state c =
    rw (c.rotate_service-mds.ensures.rotated, c.rotate_service-osd.ensures.rotated, c.rotate_service-mgr.ensures.rotated, c.rotate_service-auth.ensures.rotated) refl

pub returns-clause-added : goal.returns-clause-added
returns-clause-added c =
    rw (c.any.ensures, c.rotate_service-mds.ensures.added, c.rotate_service-osd.ensures.added, c.rotate_service-mgr.ensures.added, c.rotate_service-auth.ensures.added) refl
