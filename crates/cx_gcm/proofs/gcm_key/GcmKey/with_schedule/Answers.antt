use Rattle.std.proofs.Common.{ap, ◌∙◌}
use Rattle.cx_gcm.specs.Blocks.{number}
use Rattle.cx_gcm.specs.Gcm.{subkey}
use Rattle.cx_gcm.proofs.gcm_key.GcmKey.with_schedule.Goals as goal

pub invariant_of-result : goal.invariant_of-result
unfolding subkey
invariant_of-result c = record { prepared = c.new-powers.ensures ∙ ap number c.encrypt.ensures }
