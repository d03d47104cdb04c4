-- The generations that a key server tells can be spelled: each expires at a reading.
use Rattle.std.proofs.Common.{◌≡◌, Bool, true, false, List, [], ◌∷◌, Result, Ok, Err, cond, subst, arith}
use Rattle.std.specs.Prelude.{◌&&◌, find, is_some}
use Rattle.cx_base.specs.Names.{Name, is_daemon_type}
use Rattle.cx_base.specs.declared.kinds.EntityType.{EntityType}
use Rattle.cx_base.specs.declared.kinds.EntityType.TheVariants.{Mon, Mds, Osd, Client, Mgr, Auth}
use Rattle.cx_keyserver.specs.cx_keyring.specs.Entries.{is_named}
use Rattle.cx_keyserver.specs.Servers.{Server, generations_of, secrets_of}
use Rattle.cx_keyserver.specs.declared.refusals.NotADaemon.{NotADaemon}
use Rattle.cx_rotate.specs.Keeping.{IsKeptState, IsLasting}
use Rattle.cx_rotate.specs.declared.generations.Generation.{Generation}
use Rattle.cx_rotate.specs.declared.states.KeptState.{KeptState}
use Rattle.cx_sealed.specs.Records.{AreReadings}

lasting_readings : (gs : List Generation) → IsLasting gs → AreReadings gs
lasting_readings [] lasting = tt
lasting_readings (a ∷ b ∷ c ∷ []) (id, next, last, ab, bc, most) = (omega arith, (omega arith, (omega arith, tt)))
lasting_readings (a ∷ b ∷ c ∷ d ∷ gs) lasting = absurd lasting
lasting_readings (a ∷ b ∷ []) lasting = absurd lasting
lasting_readings (a ∷ []) lasting = absurd lasting

kept_readings : (state : KeptState) (service : EntityType) → IsKeptState state → AreReadings (generations_of state service)
kept_readings state Mds kept = lasting_readings state.mds kept.mds
kept_readings state Osd kept = lasting_readings state.osd kept.osd
kept_readings state Mgr kept = lasting_readings state.mgr kept.mgr
kept_readings state Auth kept = lasting_readings state.auth kept.auth
kept_readings state Mon kept = tt
kept_readings state Client kept = tt

pub told_readings : (server : Server) (name : Name) (generations : List Generation) → IsKeptState server.state → secrets_of server name ≡ Ok generations → AreReadings generations
told_readings server name generations kept e = by_test (is_some (find (is_named name) server.ring) && is_daemon_type name.kind) e
  where
    by_test : (is : Bool) → (let r : Result (List Generation) NotADaemon = cond is (Ok (generations_of server.state name.kind)) (Err (record {})) in r ≡ Ok generations) → AreReadings generations
    by_test true e =
        let same : generations_of server.state name.kind ≡ generations = cc in
        subst AreReadings same (kept_readings server.state name.kind kept)
    by_test false e = absurd cc
