-- How the monitor regards its links: by their stages alone, of which it forgets none.
use Rattle.std.specs.Prelude.{ℕ, Option}
use Rattle.std.specs.Option.{option_map}
use Rattle.cx_outside.specs.declared.regard.Regard.{Regard}
use Rattle.cx_outside.specs.declared.regard.Regard.TheVariants.{Stranger, Known}
use Rattle.cx_rules.specs.Acceptor.{AwaitsIdent, Open}
use Rattle.cx_rules.specs.Links.{link_of}
use Rattle.cx_rules.specs.Monitor.{MonitorNode, MonitorStage}

-- each peer came to it, and is a stranger until its signature is found right
abbrev pub regard_at : MonitorStage → Regard
regard_at (AwaitsIdent s bearer) = Known
regard_at (Open s bearer) = Known
regard_at _ = Stranger

-- the link of this number, where it lives
abbrev pub regard_of : MonitorNode → ℕ → Option Regard
regard_of m number = option_map (λ link. regard_at link.stage) (link_of number m.links)
