use Rattle.std.proofs.Common.{◌≡◌, map, take}
use Rattle.cx_drive_commands.specs.nodes.Orders.{order_of}
use Rattle.cx_drive_commands.proofs.orders.orders_of.Given as goal

abbrev pub invariant-loop-line : goal.invariant-loop-line
invariant-loop-line l = l.orders ≡ map order_of (take l.line-index l.lines)
