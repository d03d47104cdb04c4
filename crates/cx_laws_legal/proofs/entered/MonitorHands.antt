-- What the monitor enters where it hands out tickets and generations: no operation, and no refusal of a ticket.
use Rattle.std.proofs.Common.{ℕ, List, [], ◌∷◌, ◌++◌, map, Option, Some, None, Result, Ok, Err}
use Rattle.std.specs.List.{AllByRecursion}
use Rattle.cx_journal.specs.declared.faults.LoginFault.{LoginFault}
use Rattle.cx_login.specs.Monitor.{Proven, kept_gid, proof_found, reclaimed}
use Rattle.cx_login.specs.Unlocking.{old_ticket}
use Rattle.cx_laws_run.specs.cx_rules.specs.KeptStates.{changed}
use Rattle.cx_laws_run.specs.cx_rules.specs.Tickets.{issued_entry, issued_for, rotation_drawn, services_for}
use Rattle.cx_laws_run.specs.cx_rules.specs.Verdicts.{Entrant, Numbered, Occasion, asking_for, entrant, issues, issues_to, key_of, login_entries, numbered, numbers, rotates}
use Rattle.cx_laws_run.specs.cx_rules.specs.declared.verdicts.Verdict.{Verdict}
use Rattle.cx_laws_run.specs.cx_rules.specs.declared.verdicts.Verdict.TheVariants.{Denied, Granted}
use Rattle.cx_laws_run.specs.cx_rules.specs.declared.responses.Bearer.{Bearer}
use Rattle.cx_laws_run.specs.cx_rules.specs.declared.responses.Response.{Response}
use Rattle.cx_laws_run.specs.cx_rules.specs.declared.responses.Response.TheVariants as response
use Rattle.cx_laws_run.specs.cx_rules.specs.Replies.{answers, answers_by, asking_of, issues_tickets, others_for, tells_generations, tells_tickets}
use Rattle.cx_enc.specs.declared.keys.Key.{Key}
use Rattle.cx_keyserver.specs.Servers.{Server, rotated_server, secrets_of}
use Rattle.cx_keyserver.specs.declared.refusals.NotADaemon.{NotADaemon}
use Rattle.cx_keyserver.specs.declared.tickets.Ticket.{Ticket}
use Rattle.cx_rotate.specs.declared.generations.Generation.{Generation}
use Rattle.cx_rotate.specs.declared.states.KeptState.{KeptState}
use Rattle.cx_steps.specs.declared.seals.SealEntry.{SealEntry}
use Rattle.cx_wire.specs.declared.bodies.Request.{Request}
use Rattle.cx_wire.specs.declared.bodies.Request.TheVariants as asked
use Rattle.cx_laws_keys.proofs.keys.Journal.{IsOfLogin}
use Rattle.cx_laws_legal.proofs.entered.Shown.{IsPlain}

-- ---- tickets

issued-plain : (tickets : List Ticket) → AllByRecursion IsPlain (map issued_entry tickets)
issued-plain [] = tt
issued-plain (t ∷ tickets) = (tt, issued-plain tickets)

login-plain : (save : Option KeptState) (tickets : List Ticket) → AllByRecursion IsPlain (login_entries save tickets)
login-plain None tickets = issued-plain tickets
login-plain (Some state) tickets = (tt, issued-plain tickets)

abbrev pub VerdictIsPlain : Verdict → Type 0
VerdictIsPlain (Denied why seals) = Unit {0}
VerdictIsPlain (Granted h) = AllByRecursion IsPlain h.entries

issues-plain : (on : Occasion) (server : Server) (e : Entrant) (own : List ℕ) (r : Result (List Ticket) LoginFault) → VerdictIsPlain (issues on server e own r).verdict
issues-plain on server e own (Err why) = tt
issues-plain on server e own (Ok tickets) = login-plain (changed on.saved server.state) tickets

issues_to-plain : (on : Occasion) (server : Server) (e : Entrant) (own : Option Key) → VerdictIsPlain (issues_to on server e own).verdict
issues_to-plain on server e None = tt
issues_to-plain on server e (Some own) = issues-plain on server e own.secret (issued_for server (asking_for on e.name e.gid) (services_for e.asked))

numbers-plain : (on : Occasion) (server : Server) (proven : Proven) (seals : List SealEntry) (r : Result Numbered LoginFault) → VerdictIsPlain (numbers on server proven seals r).verdict
numbers-plain on server proven seals (Err why) = tt
numbers-plain on server proven seals (Ok n) =
    issues_to-plain on n.server (entrant proven.offer.name n.gid proven.ask.other_keys seals) (key_of n.server proven.offer.name)

pub rotates-plain : (on : Occasion) (server : Server) (gid : ℕ) (proven : Proven) → VerdictIsPlain (rotates on server gid proven).verdict
rotates-plain on server gid proven =
    let rotated : Server = rotated_server on.reading on.draw server in
    let old = old_ticket rotated.state.auth proven.ask.old_ticket in
    numbers-plain on rotated proven ((proof_found proven.offer proven.ask.client_challenge ∷ rotation_drawn on.reading on.draw server.state) ++ old.seals)
    (numbered rotated (reclaimed gid proven.ask.version (kept_gid proven.offer.name on.reading old.value)))

-- ---- replies

abbrev pub ResponseIsPlain : Response → Type 0
ResponseIsPlain (response.Refuses why drawn) = IsOfLogin why
ResponseIsPlain (response.Replies made) = AllByRecursion IsPlain made.entries

tells-plain : (on : Occasion) (server : Server) (bearer : Bearer) (drawn : List SealEntry) (own : List ℕ) (r : Result (List Ticket) LoginFault)
    → ResponseIsPlain (tells_tickets on server bearer drawn own r).response
tells-plain on server bearer drawn own (Err why) = tt
tells-plain on server bearer drawn own (Ok tickets) = login-plain (changed on.saved server.state) tickets

tickets-plain : (on : Occasion) (server : Server) (bearer : Bearer) (drawn : List SealEntry) (keys : ℕ) (own : Option Key)
    → ResponseIsPlain (issues_tickets on server bearer drawn keys own).response
tickets-plain on server bearer drawn keys None = tt
tickets-plain on server bearer drawn keys (Some own) = tells-plain on server bearer drawn own.secret (issued_for server (asking_of on bearer) (others_for keys))

rotating-plain : (on : Occasion) (server : Server) (bearer : Bearer) (drawn : List SealEntry) (own : Option Key) (r : Result (List Generation) NotADaemon)
    → ResponseIsPlain (tells_generations on server bearer drawn own r).response
rotating-plain on server bearer drawn (Some own) (Ok generations) = login-plain (changed on.saved server.state) []
rotating-plain on server bearer drawn (Some own) (Err why) = tt
rotating-plain on server bearer drawn None r = tt

by-plain : (on : Occasion) (server : Server) (bearer : Bearer) (drawn : List SealEntry) (request : Option Request) → ResponseIsPlain (answers_by on server bearer drawn request).response
by-plain on server bearer drawn (Some (asked.Tickets keys)) = tickets-plain on server bearer drawn keys (key_of server bearer.name)
by-plain on server bearer drawn (Some asked.Rotating) = rotating-plain on server bearer drawn (key_of server bearer.name) (secrets_of server bearer.name)
by-plain on server bearer drawn None = tt

pub answers-plain : (on : Occasion) (server : Server) (bearer : Bearer) (request : Option Request) → ResponseIsPlain (answers on server bearer request).response
answers-plain on server bearer request = by-plain on (rotated_server on.reading on.draw server) bearer (rotation_drawn on.reading on.draw server.state) request
