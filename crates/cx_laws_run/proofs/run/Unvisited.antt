-- What comes to a node to which no client comes: neither a link that it didn't open, nor a command to call a daemon.
use Rattle.std.proofs.Common.{Some, None}
use Rattle.cx_base.specs.Names.{Name}
use Rattle.cx_base.specs.declared.nodes.NodeName.{NodeName}
use Rattle.cx_base.specs.declared.nodes.NodeName.TheVariants as node
use Rattle.cx_steps.specs.declared.events.Command.TheVariants as command
use Rattle.cx_laws_links.specs.cx_laws_tickets.specs.authorize.Coming.{IsNoIncoming}
use Rattle.cx_laws_links.specs.cx_laws_tickets.specs.cx_rules.specs.Inputs.{Input, Opened, NoLink, Bytes, Turn, Gone, Look, Tick, Submit, Restart}
use Rattle.cx_laws_links.specs.cx_laws_tickets.specs.cx_run.specs.Calling.{IsNoCall}
use Rattle.cx_laws_links.specs.cx_laws_tickets.specs.cx_run.specs.Visits.{IsUnvisited}

-- an entity to which no client comes
pub unvisited-incoming : (name : Name) (input : Input) → IsUnvisited (node.Entity name) input → IsNoIncoming input
unvisited-incoming name (Opened number None) h = absurd h
unvisited-incoming name (Opened number (Some to)) h = tt
unvisited-incoming name (NoLink to) h = tt
unvisited-incoming name (Bytes number bytes) h = tt
unvisited-incoming name (Turn number) h = tt
unvisited-incoming name (Gone number) h = tt
unvisited-incoming name (Look view) h = tt
unvisited-incoming name Tick h = tt
unvisited-incoming name (Submit (command.Drop session)) h = absurd h
unvisited-incoming name (Submit (command.Login services)) h = tt
unvisited-incoming name (Submit (command.Renew services)) h = tt
unvisited-incoming name (Submit command.Fetch) h = tt
unvisited-incoming name (Submit (command.Connect daemon lossy)) h = absurd h
unvisited-incoming name (Submit (command.Send daemon operation)) h = tt
unvisited-incoming name Restart h = tt

-- no node is told to call a daemon
pub unvisited-calls : (who : NodeName) (input : Input) → IsUnvisited who input → IsNoCall input
unvisited-calls node.Monitor (Submit (command.Connect daemon lossy)) is = is
unvisited-calls (node.Entity name) (Submit (command.Connect daemon lossy)) is = is
unvisited-calls who (Submit (command.Login services)) is = tt
unvisited-calls who (Submit (command.Renew services)) is = tt
unvisited-calls who (Submit command.Fetch) is = tt
unvisited-calls who (Submit (command.Send daemon operation)) is = tt
unvisited-calls who (Submit (command.Drop session)) is = tt
unvisited-calls who (Opened number to) is = tt
unvisited-calls who (NoLink to) is = tt
unvisited-calls who (Bytes number bytes) is = tt
unvisited-calls who (Turn number) is = tt
unvisited-calls who (Gone number) is = tt
unvisited-calls who Tick is = tt
unvisited-calls who (Look view) is = tt
unvisited-calls who Restart is = tt
