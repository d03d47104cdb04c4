use Rattle.std.proofs.Common.{rules}
use Rattle.cx_drive_commands.proofs.daemons.loads.Goals as goal

pub returns-clause-ok : goal.returns-clause-ok
returns-clause-ok g c = record {
  key = c.in_ok-orders.field-0.key;
  load = search rules;
  node = search rules;
  stands = search rules;
  peers = search rules;
  events = search rules;
  room = search rules;
}
