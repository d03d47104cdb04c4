use Rattle.std.proofs.Common.{List, IsTrue, ap, ◌∙◌}
use Rattle.std.specs.Prelude.{map}
use Rattle.cx_keyring.specs.Entries.{is_ring}
use Rattle.cx_run.specs.Opening.{Declared, principal_of}
use Rattle.cx_world_start.proofs.head.Enrolling.{enters_next}
use Rattle.cx_world_start.proofs.setup.Setup.keyring.Goals as goal

pub enrol-requires-clause-fresh : goal.enrol-requires-clause-fresh
enrol-requires-clause-fresh c =
    let items = c.entities-entity-items.result.now in
    let good : IsTrue (is_ring (map principal_of items)) = ap (λ (es : List Declared). is_ring (map principal_of es)) c.entities-entity-items.ensures.value ∙ c.entities-entity-items.ensures.fit.ring in
    (enters_next items c.loop-entity.ring c.loop-entity.entity-index c.entity-item.result c.in_ok-principal.principal good c.loop-entity.invariant c.loop-entity-test.true c.entity-item.is c.in_ok-principal.ensures).fresh

pub enrol-requires-clause-granted : goal.enrol-requires-clause-granted
enrol-requires-clause-granted c =
    let items = c.entities-entity-items.result.now in
    let good : IsTrue (is_ring (map principal_of items)) = ap (λ (es : List Declared). is_ring (map principal_of es)) c.entities-entity-items.ensures.value ∙ c.entities-entity-items.ensures.fit.ring in
    (enters_next items c.loop-entity.ring c.loop-entity.entity-index c.entity-item.result c.in_ok-principal.principal good c.loop-entity.invariant c.loop-entity-test.true c.entity-item.is c.in_ok-principal.ensures).granted
