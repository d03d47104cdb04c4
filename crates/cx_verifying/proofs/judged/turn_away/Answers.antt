-- Each refusal has its row.
use Rattle.cx_verifying.proofs.judged.turn_away.Goals as goal

pub returns-in-WrongService-clause-row : goal.returns-in-WrongService-clause-row
returns-in-WrongService-clause-row c = rw c.in-WrongService.is c.denies.ensures

pub returns-in-Ticket-clause-row : goal.returns-in-Ticket-clause-row
returns-in-Ticket-clause-row c = rw c.in-Ticket.is (rw c.ticket_fault.ensures at c.denies-in-Ticket.ensures)
