-- What a node logs.
use Rattle.std.specs.Prelude.{ℕ}
use Rattle.cx_base.specs.declared.nodes.NodeName.{NodeName}
use Rattle.cx_steps.specs.declared.seals.Logged.{Logged}
use Rattle.cx_steps.specs.declared.seals.SealEntry.{SealEntry}

abbrev pub logged_at : NodeName → ℕ → SealEntry → Logged
logged_at who line entry = record { node = who; line = line; entry = entry }
