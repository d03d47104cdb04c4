use Rattle.std.proofs.Common.{◌≡◌, ◌++◌, drop, string_bytes}
use Rattle.cx_top.specs.Notes.{services_told}
use Rattle.cx_top.proofs.notes.services_told.Given as goal

abbrev pub invariant-loop-service : goal.invariant-loop-service
invariant-loop-service l =
    string_bytes l.told ++ services_told l.fn.lines l.fn.number l.fn.client (drop l.service-index l.services) ≡ services_told l.fn.lines l.fn.number l.fn.client l.services
