-- What the lines of a node's script tell it.
use Rattle.std.specs.Prelude.{sum_by}
use Rattle.cx_drive.specs.declared.flow.Order.{Order}
use Rattle.cx_drive.specs.declared.flow.Order.TheVariants as order
use Rattle.cx_enc.specs.Values.{number_of}
use Rattle.cx_lines.specs.declared.commands.LineCommand.{LineCommand}
use Rattle.cx_lines.specs.declared.commands.LineCommand.TheVariants as command
use Rattle.cx_schedule.specs.declared.node_lines.NodeLine.{NodeLine}
use Rattle.cx_schedule.specs.declared.node_lines.NodeLine.TheVariants as line
use Rattle.cx_steps.specs.declared.events.Command.{Command}
use Rattle.cx_steps.specs.declared.events.Command.TheVariants as told

-- what the node is told to do: services are told by the sum of the numbers of their types
abbrev pub command_told : LineCommand → Command
command_told (command.Fetch daemon) = told.Fetch
command_told (command.Login client services) = told.Login (sum_by number_of services)
command_told (command.Renew client services) = told.Renew (sum_by number_of services)
command_told (command.Connect client daemon lossy) = told.Connect daemon lossy
command_told (command.Send client daemon operation) = told.Send daemon operation

abbrev pub order_of : NodeLine → Order
order_of (line.Submit command) = order.Submit (command_told command)
order_of (line.DropSession daemon session) = order.Submit (told.Drop session)
order_of (line.Gone links) = order.Gone links
order_of line.Stop = order.Stop
