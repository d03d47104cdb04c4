-- A list of tickets that can be written is short.
use Rattle.std.proofs.Common.{ℕ, ◌+◌, ◌≤◌, List, [], ◌∷◌, length, arith}
use Rattle.std.specs.Prelude.{Option, Some, None, IsTrue}
use Rattle.std.proofs.lemmas.Bool.{eqb-true, ltb-true}
use Rattle.cx_base.specs.declared.kinds.EntityType.{EntityType}
use Rattle.cx_base.specs.declared.kinds.EntityType.TheVariants.{Mon, Mds, Osd, Client, Mgr, Auth}
use Rattle.cx_wire.specs.Services.{rank, follows, AreTickets}
use Rattle.cx_wire.specs.declared.tickets.TicketPart.{TicketPart}

last_rank : Option EntityType → ℕ
last_rank None = 0
last_rank (Some last) = rank last

rank_small : (service : EntityType) → rank service ≤ 4
rank_small Auth = omega arith
rank_small Mds = omega arith
rank_small Osd = omega arith
rank_small Mgr = omega arith
rank_small Mon = omega arith
rank_small Client = omega arith

last_small : (last : Option EntityType) → last_rank last ≤ 4
unfolding last_rank
last_small None = omega arith
last_small (Some last) = rank_small last

raised : (last : Option EntityType) (service : EntityType) → IsTrue (follows last service) → last_rank last + 1 ≤ rank service
unfolding last_rank
raised None service is = omega (arith, eqb-true (rank service) 1 is)
raised (Some last) service is = omega (arith, ltb-true (rank last) (rank service) is)

few_behind : (last : Option EntityType) (tickets : List TicketPart) → AreTickets last tickets → length tickets + last_rank last ≤ 4
unfolding last_rank
few_behind last [] are = omega (arith, last_small last)
few_behind last (ticket ∷ tickets) are =
    let fewer : length tickets + rank ticket.service ≤ 4 = few_behind (Some ticket.service) tickets are.1 in
    omega (arith, raised last ticket.service are.0.follows, fewer)

pub few : (last : Option EntityType) (tickets : List TicketPart) → AreTickets last tickets → length tickets ≤ 4
few last tickets are = omega (arith, few_behind last tickets are)
