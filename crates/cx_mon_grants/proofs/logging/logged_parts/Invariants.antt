use Rattle.std.proofs.Common.{◌≡◌, ◌++◌, map}
use Rattle.std.specs.List.{flat_map}
use Rattle.cx_rules.specs.Tickets.{ticket_part, ticket_seals}
use Rattle.cx_mon_grants.proofs.logging.logged_parts.Given as goal

abbrev pub invariant-loop-issuance : goal.invariant-loop-issuance
invariant-loop-issuance l = record {
  parts : l.parts ≡ map ticket_part l.yielded;
  seals : l.seals ≡ l.initial.seals ++ flat_map (ticket_seals l.server l.own l.session) l.yielded;
}
