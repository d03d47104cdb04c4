use denote.Param.Send.{sendable}
use Rattle.cx_shared.proofs.Crossing.{secrets_sync, told_sync}
use Rattle.cx_shared.proofs.all_are_sendable.Goals as goal

pub is_shareable-requires-sync-T : goal.is_shareable-requires-sync-T
is_shareable-requires-sync-T c κs = search (sendable, secrets_sync)

pub is_shareable-requires-2-sync-T : goal.is_shareable-requires-2-sync-T
is_shareable-requires-2-sync-T c κs = search (sendable, told_sync)
