-- What is fixed for a whole run: who leaked, what was saved in it, and whether clients come.
use Rattle.std.specs.Prelude.{Bool, true, List, [], ◌∷◌, ◌++◌}
use Rattle.cx_base.specs.declared.kinds.EntityType.{EntityType}
use Rattle.cx_rotate.specs.declared.generations.Generation.{Generation}
use Rattle.cx_laws_links.specs.cx_laws_tickets.specs.cx_run.specs.Happenings.{Happening}
use Rattle.cx_laws_links.specs.cx_laws_tickets.specs.cx_run.specs.Opening.{Setup, leaked_of}
use Rattle.cx_laws_links.specs.cx_laws_tickets.specs.cx_run.specs.Points.{Point, nodes_past, points}
use Rattle.cx_laws_links.specs.cx_laws_tickets.specs.cx_laws_keys.proofs.keys.Uses.{WholeRun}
use Rattle.cx_laws_links.specs.cx_laws_tickets.specs.cx_laws_keys.proofs.login.Generations.{tagged}

-- the generations that are saved behind these points
abbrev pub saved_in : List Point → List (EntityType × Generation)
saved_in [] = []
saved_in (p ∷ older) = tagged (nodes_past p).monitor.own.saved ++ saved_in older

-- a run with these events, to whose daemons clients come or not; its tickets are known to be good
abbrev pub run_of : Setup → List Happening → Bool → WholeRun
run_of setup hs incoming_links = record { leaked = leaked_of setup; saved = saved_in (points setup hs); incoming_links = incoming_links; good = true }
