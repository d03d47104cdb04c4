use Rattle.std.proofs.Common.{◌≡◌, All, drop}
use Rattle.cx_rules.specs.Tickets.{issued_for}
use Rattle.cx_mon_grants.specs.Handing.{IsWhole}
use Rattle.cx_mon_grants.specs.Issuing.{behind_all}
use Rattle.cx_mon_grants.specs.Occasions.{asking_by}
use Rattle.cx_mon_grants.proofs.issuing.issued_for.Given as goal

abbrev pub invariant-loop-service : goal.invariant-loop-service
invariant-loop-service l = record {
  due : behind_all l.tickets (issued_for l.initial.server (asking_by l.entrant) (drop l.service-index l.services))
      ≡ issued_for l.initial.server (asking_by l.entrant) l.services;
  whole : All IsWhole l.tickets;
  server : l.server ≡ l.initial.server;
}
