-- The kinds of conditions that stood in a clause so far.
use Rattle.std.specs.Prelude.{Bool, true}
use Rattle.cx_caps.specs.declared.conditions.Seen.{Seen}
use Rattle.cx_caps.specs.declared.kinds.ConditionKind.{ConditionKind}
use Rattle.cx_caps.specs.declared.kinds.ConditionKind.TheVariants.{Pool, Namespace, ObjectPrefix}

-- whether this kind did
abbrev pub has_seen : Seen → ConditionKind → Bool
has_seen seen Pool = seen.pool
has_seen seen Namespace = seen.namespace
has_seen seen ObjectPrefix = seen.object_prefix

-- and this kind too
abbrev pub with_seen : Seen → ConditionKind → Seen
with_seen seen Pool = record seen { pool = true }
with_seen seen Namespace = record seen { namespace = true }
with_seen seen ObjectPrefix = record seen { object_prefix = true }
