-- The numbers of those so far.
use Rattle.std.proofs.Common.{◌≡◌, map, take}
use Rattle.std.specs.Prelude.{filter}
use Rattle.cx_daemon_events.specs.Shutting.{is_shut_by}
use Rattle.cx_daemon_events.proofs.scans.numbers_in.Given as goal

abbrev pub invariant-loop-place : goal.invariant-loop-place
invariant-loop-place l = l.numbers ≡ map (λ link. link.number) (filter (is_shut_by l.session l.but) (take l.place l.links.links))
