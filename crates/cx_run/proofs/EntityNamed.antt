-- An entity keeps its name, whatever comes to it.
use Rattle.std.proofs.Common.{◌≡◌, ℕ, List}
use Rattle.cx_rules_session.specs.cx_desk.specs.Handlers.{Handlers}
use Rattle.cx_rules_session.specs.cx_rules.specs.Inputs.{Input}
use Rattle.cx_run.specs.Happenings.{EntityNode, OfClient, OfDaemon, mon_client_in, entity_rule}
use Rattle.cx_run.proofs.ClientKept.{whole-named}
use Rattle.cx_run.proofs.DaemonNamed.{daemon-named}

pub entity-named : (handlers : Handlers) (entity : EntityNode) (input : Input) (reading : ℕ) (draw : List ℕ)
    → (mon_client_in (entity_rule handlers entity input reading draw).state).name ≡ (mon_client_in entity).name
entity-named handlers (OfClient client) input reading draw = whole-named client input reading draw
entity-named handlers (OfDaemon daemon) input reading draw = daemon-named handlers daemon input reading draw
