-- How the tickets of a login are issued one by one, by a server that was rotated for it.
use Rattle.std.specs.Prelude.{ℕ, ◌≡◌, List, ◌++◌, Option, Some, None, Result, Ok, Err}
use Rattle.cx_journal.specs.declared.faults.LoginFault.{LoginFault}
use Rattle.cx_journal.specs.declared.faults.LoginFault.TheVariants as login
use Rattle.cx_keyserver.specs.Servers.{Server, rotated_server}
use Rattle.cx_keyserver.specs.declared.refusals.IssueRefusal.{IssueRefusal}
use Rattle.cx_keyserver.specs.declared.refusals.IssueRefusal.TheVariants as issue
use Rattle.cx_keyserver.specs.declared.tickets.Ticket.{Ticket}
use Rattle.cx_rules.specs.Tickets.{and_first}

-- a rotation at this reading with this draw leaves the server as it is
abbrev pub IsRotated : ℕ → List ℕ → Server → Type 0
IsRotated now draw server = rotated_server now draw server ≡ server

-- a ticket, or none where there is none for its service alone; or why there are none at all
abbrev pub one_of : Result Ticket IssueRefusal → Result (Option Ticket) LoginFault
one_of (Ok ticket) = Ok (Some ticket)
one_of (Err issue.NoCaps) = Ok None
one_of (Err issue.NotAService) = Ok None
one_of (Err issue.IdsSpent) = Err login.IdsSpent
one_of (Err issue.UnknownEntity) = Err login.UnknownEntity
one_of (Err issue.OutOfMemory) = Ok None

-- one ticket and the rest, up to a refusal
abbrev pub and_rest : Result (Option Ticket) LoginFault → Result (List Ticket) LoginFault → Result (List Ticket) LoginFault
and_rest (Ok (Some ticket)) rest = and_first ticket rest
and_rest (Ok None) rest = rest
and_rest (Err why) rest = Err why

-- the tickets behind earlier ones
abbrev pub behind_all : List Ticket → Result (List Ticket) LoginFault → Result (List Ticket) LoginFault
behind_all earlier (Ok tickets) = Ok (earlier ++ tickets)
behind_all earlier (Err why) = Err why
