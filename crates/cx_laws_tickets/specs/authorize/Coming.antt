-- What doesn't come to a daemon to which no clients come.
use Rattle.std.specs.Prelude.{None}
use Rattle.cx_laws_keys.specs.cx_rules.specs.Inputs.{Input, Opened, Submit}
use Rattle.cx_laws_keys.specs.cx_steps.specs.declared.events.Command.TheVariants as command

-- no client comes and no session is dropped
abbrev pub IsNoIncoming : Input → Type 0
IsNoIncoming (Opened number None) = ⊥
IsNoIncoming (Submit (command.Drop session)) = ⊥
IsNoIncoming _ = Unit {0}
