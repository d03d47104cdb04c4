-- How a daemon regards its links: by their stages and by what waits there, of which it forgets nothing.
use Rattle.std.specs.Prelude.{ℕ, Option, if◌then◌else◌}
use Rattle.std.specs.Option.{option_map}
use Rattle.cx_outside.specs.declared.regard.Regard.{Regard}
use Rattle.cx_outside.specs.declared.regard.Regard.TheVariants.{Stranger, Known, Awaited}
use Rattle.cx_node.specs.cx_rules.specs.Acceptor.{AwaitsIdent, Open}
use Rattle.cx_node.specs.cx_rules.specs.Connector.{is_quiet}
use Rattle.cx_node.specs.cx_rules.specs.Links.{link_of}
use Rattle.cx_verifying.specs.cx_rules_session.specs.DaemonRule.{DaemonNode, DaemonStage, AsAcceptor, AsConnector}
use Rattle.cx_verifying.specs.cx_rules_session.specs.IncomingLinks.{IncomingStage}

-- a client came to it, and is a stranger until its signature is found right
abbrev pub regard_incoming : IncomingStage → Regard
regard_incoming (AwaitsIdent s owner) = Known
regard_incoming (Open s served) = Known
regard_incoming _ = Stranger

-- on its own link to the monitor it awaits an answer until that is open, and while a request waits there
abbrev pub regard_at : DaemonStage → Regard
regard_at (AsAcceptor stage) = regard_incoming stage
regard_at (AsConnector stage) = if is_quiet stage then Known else Awaited

-- the link of this number, where it lives
abbrev pub regard_of : DaemonNode → ℕ → Option Regard
regard_of d number = option_map (λ link. regard_at link.stage) (link_of number d.links)
