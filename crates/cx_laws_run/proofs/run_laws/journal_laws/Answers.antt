use Rattle.std.proofs.Common.{false, refl, true}
use Rattle.cx_laws_links.specs.cx_laws_tickets.specs.cx_run.specs.Points.{journal_since}
use Rattle.cx_laws_links.specs.cx_laws_tickets.specs.cx_run.specs.Runs.{setup_of, trace}
use Rattle.cx_laws_run.proofs.run.Happening.{any-law, unvisited-law}
use Rattle.cx_laws_run.proofs.run.Journals.{keeps-laws, keeps-tickets}
use Rattle.cx_laws_run.proofs.run.Schedules.{may-happen}
use Rattle.cx_laws_run.proofs.run.Whole.{run_of}
use Rattle.cx_laws_run.proofs.run_laws.journal_laws.Goals as goal

pub returns-clause-tickets : goal.returns-clause-tickets
returns-clause-tickets c = λ setup hs m sound fresh. keeps-tickets (run_of setup hs true) refl (journal_since setup hs) (any-law setup hs m sound fresh)

pub returns-clause-events : goal.returns-clause-events
returns-clause-events c = λ has_handler setup hs m away sound fresh.
    keeps-laws (run_of setup hs false) refl has_handler (journal_since setup hs) (unvisited-law setup hs m away sound fresh)

pub returns-clause-schedules : goal.returns-clause-schedules
returns-clause-schedules c = λ handlers bytes script said found.
    let setup = setup_of handlers script in
    let hs = trace handlers script in
    keeps-tickets (run_of setup hs true) refl (journal_since setup hs) (any-law setup hs (may-happen handlers bytes script said) found.0 found.1)
