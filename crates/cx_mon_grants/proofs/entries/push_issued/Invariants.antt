use Rattle.std.proofs.Common.{◌≡◌, ◌++◌, map, take}
use Rattle.cx_rules.specs.Tickets.{issued_entry}
use Rattle.cx_mon_grants.proofs.entries.push_issued.Given as goal

abbrev pub invariant-loop-ticket : goal.invariant-loop-ticket
invariant-loop-ticket l = l.entries ≡ l.initial.entries ++ map issued_entry (take l.ticket-index l.tickets)
