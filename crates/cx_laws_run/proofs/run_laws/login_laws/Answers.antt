use Rattle.cx_laws_links.specs.cx_laws_tickets.specs.cx_run.specs.Runs.{setup_of, trace}
use Rattle.cx_laws_run.proofs.run.Happening.{any-logins}
use Rattle.cx_laws_run.proofs.run.Schedules.{may-happen}
use Rattle.cx_laws_run.proofs.run_laws.login_laws.Goals as goal

pub returns-clause-events : goal.returns-clause-events
returns-clause-events c = any-logins

pub returns-clause-schedules : goal.returns-clause-schedules
returns-clause-schedules c = λ handlers bytes script said found.
    any-logins (setup_of handlers script) (trace handlers script) (may-happen handlers bytes script said) found.0 found.1
