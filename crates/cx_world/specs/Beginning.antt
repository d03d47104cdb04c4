-- Where the run of a schedule begins.
use Rattle.std.specs.Prelude.{map}
use Rattle.cx_world_start.specs.cx_run.specs.Opening.{Setup, leaked_of, leaks_entered, nodes_of, secrets_drawn}
use Rattle.cx_world.specs.Carried.{Began}

-- its nodes; the leaked clients stand first in the journal, and the entities' secrets in the log
abbrev pub began : (setup : Setup) → Began setup.handlers
began setup = record {
  nodes = nodes_of setup;
  journal = map (λ e. e.entry) (leaks_entered setup);
  log = secrets_drawn setup;
  leaked = leaked_of setup;
}
