use Rattle.std.proofs.Common.{◌≡◌, take}
use Rattle.cx_holdings.proofs.pending.copies.Given as goal

abbrev pub invariant-loop-ticket : goal.invariant-loop-ticket
invariant-loop-ticket l = l.copied.items ≡ take l.ticket-index l.tickets
