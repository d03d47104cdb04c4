use Rattle.std.proofs.Common.{◌≡◌}
use Rattle.std.specs.Vec.Iter.{into_iter_items}
use Rattle.cx_rules.specs.Holdings.{put_tickets}
use Rattle.cx_holdings.proofs.tickets.Holdings.put_all.Given as goal

abbrev pub invariant-loop-ticket : goal.invariant-loop-ticket
invariant-loop-ticket l = put_tickets l.self (into_iter_items l.ticket-iterator) ≡ put_tickets l.initial.self l.fn.tickets.items
