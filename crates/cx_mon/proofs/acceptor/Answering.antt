-- A request that is answered: its row, by the response, that it leaves the keyring as it is, and what it saves.
use Rattle.std.proofs.Common.{◌≡◌, ◌∙◌, ℕ, List, ◌⊎◌, inl, inr, Option, Some, None, Result, Ok, Err, refl, sym, ap}
use Rattle.cx_enc.specs.declared.keys.Key.{Key}
use Rattle.cx_journal.specs.declared.faults.LoginFault.{LoginFault}
use Rattle.cx_keyserver.specs.Servers.{Server, rotated_server, secrets_of}
use Rattle.cx_keyserver.specs.declared.refusals.NotADaemon.{NotADaemon}
use Rattle.cx_keyserver.specs.declared.tickets.Ticket.{Ticket}
use Rattle.cx_link.specs.Wires.{SecureWire}
use Rattle.cx_node.specs.declared.rows.Row.{Row as Made}
use Rattle.cx_rotate.specs.declared.generations.Generation.{Generation}
use Rattle.cx_rotate.specs.declared.states.KeptState.{KeptState}
use Rattle.cx_rules.specs.Abridged.{abridged_link}
use Rattle.cx_rules.specs.Acceptor.{Open}
use Rattle.cx_rules.specs.KeptStates.{same_state}
use Rattle.cx_rules.specs.Monitor.{Monitor, MonitorRow}
use Rattle.cx_rules.specs.MonitorRequests.{on_demand, request_occasion, responds}
use Rattle.cx_rules.specs.Replies.{Responded, answers, answers_by, asking_of, issues_tickets, others_for, tells_generations, tells_tickets}
use Rattle.cx_rules.specs.Tickets.{issued_for, rotation_drawn}
use Rattle.cx_rules.specs.Verdicts.{Occasion, key_of}
use Rattle.cx_rules.specs.declared.responses.Bearer.{Bearer}
use Rattle.cx_rules.specs.declared.responses.Demand.{Demand}
use Rattle.cx_rules.specs.declared.responses.Response.{Response}
use Rattle.cx_steps.specs.declared.seals.SealEntry.{SealEntry}
use Rattle.cx_node.specs.steps.Making.{row_due}
use Rattle.cx_node.specs.steps.Stages.{keys_alone}
use Rattle.cx_node.specs.declared.moments.Moment.{Moment}
use Rattle.cx_wire.specs.declared.bodies.Request.{Request}
use Rattle.cx_wire.specs.declared.bodies.Request.TheVariants as asked
use Rattle.cx_mon.proofs.acceptor.Changed.{changed-saves}
use Rattle.cx_mon.specs.acceptor.Rows.{IsMonitorRow, arrived, saves_of, saving}
use Rattle.cx_mon.specs.acceptor.Stages.{MonitorLink, open_link}

-- the row that was made of a response is that of the rules
pub demand_row : (old : Monitor) (at : Moment) (link : SecureWire) (bearer : Bearer) (demand : Demand) (server : Server) (response : Response) (row : Made MonitorLink)
    → response ≡ (answers (request_occasion (arrived old at (open_link at.number link bearer))) old.server bearer demand.request).response
    → server ≡ (answers (request_occasion (arrived old at (open_link at.number link bearer))) old.server bearer demand.request).server
    → IsMonitorRow at.number (saving (record old { server = server }) row.save)
    (responds Open (arrived (record old { server = server }) at (open_link at.number link bearer)) (keys_alone link.keys) bearer demand response) row
    → IsMonitorRow at.number (saving (record old { server = server }) row.save)
    (on_demand Open (arrived old at (open_link at.number link bearer)) (keys_alone link.keys) bearer (Ok demand)) row
demand_row old at link bearer demand server response row r s m =
    let told : Server → Response → MonitorRow = λ t w.
    row_due abridged_link (responds Open (arrived (record old { server = t }) at (open_link at.number link bearer)) (keys_alone link.keys) bearer demand w) in
    record {
      row = m.row ∙ ap (told server) r
          ∙ ap (λ (t : Server). told t (answers (request_occasion (arrived old at (open_link at.number link bearer))) old.server bearer demand.request).response) s;
      number_is = m.number_is;
    }

-- ---- the key server

-- behind the rotation it stays, and what is saved is its state, if anything
record Stays (server : Server) (r : Responded) : Type 0 where
  same : r.server ≡ server
  save : (saves_of r.response ≡ None) ⊎ (saves_of r.response ≡ Some server.state)

tickets-stay : (at : Occasion) (server : Server) (bearer : Bearer) (drawn : List SealEntry) (own : List ℕ) (tickets : Result (List Ticket) LoginFault)
    → Stays server (tells_tickets at server bearer drawn own tickets)
tickets-stay at server bearer drawn own (Err why) = record { same = refl; save = inl refl }
tickets-stay at server bearer drawn own (Ok tickets) = record { same = refl; save = changed-saves at.saved server.state (same_state server.state at.saved) }

issuing-stays : (at : Occasion) (server : Server) (bearer : Bearer) (drawn : List SealEntry) (keys : ℕ) (own : Option Key)
    → Stays server (issues_tickets at server bearer drawn keys own)
issuing-stays at server bearer drawn keys None = record { same = refl; save = inl refl }
issuing-stays at server bearer drawn keys (Some own) =
    tickets-stay at server bearer drawn own.secret (issued_for server (asking_of at bearer) (others_for keys))

generations-stay : (at : Occasion) (server : Server) (bearer : Bearer) (drawn : List SealEntry) (own : Option Key) (generations : Result (List Generation) NotADaemon)
    → Stays server (tells_generations at server bearer drawn own generations)
generations-stay at server bearer drawn (Some own) (Ok generations) =
    record { same = refl; save = changed-saves at.saved server.state (same_state server.state at.saved) }
generations-stay at server bearer drawn (Some own) (Err _) = record { same = refl; save = inl refl }
generations-stay at server bearer drawn None (Ok _) = record { same = refl; save = inl refl }
generations-stay at server bearer drawn None (Err _) = record { same = refl; save = inl refl }

answers_by-stays : (at : Occasion) (server : Server) (bearer : Bearer) (drawn : List SealEntry) (request : Option Request)
    → Stays server (answers_by at server bearer drawn request)
answers_by-stays at server bearer drawn (Some (asked.Tickets keys)) = issuing-stays at server bearer drawn keys (key_of server bearer.name)
answers_by-stays at server bearer drawn (Some asked.Rotating) =
    generations-stay at server bearer drawn (key_of server bearer.name) (secrets_of server bearer.name)
answers_by-stays at server bearer drawn None = record { same = refl; save = inl refl }

answers-stay : (at : Occasion) (server : Server) (bearer : Bearer) (request : Option Request)
    → Stays (rotated_server at.reading at.draw server) (answers at server bearer request)
answers-stay at server bearer request =
    answers_by-stays at (rotated_server at.reading at.draw server) bearer (rotation_drawn at.reading at.draw server.state) request

pub answers-ring : (at : Occasion) (server : Server) (bearer : Bearer) (request : Option Request) → (answers at server bearer request).server.ring ≡ server.ring
answers-ring at server bearer request = ap (λ (s : Server). s.ring) (answers-stay at server bearer request).same

pub answers-save : (response : Response) (server : Server) (save : Option KeptState) (at : Occasion) (old : Server) (bearer : Bearer) (request : Option Request)
    → response ≡ (answers at old bearer request).response → server ≡ (answers at old bearer request).server
    → (save ≡ None) ⊎ (save ≡ saves_of response) → (save ≡ None) ⊎ (save ≡ Some server.state)
answers-save response server save at old bearer request r s (inl none) = inl none
answers-save response server save at old bearer request r s (inr some) = by_state stays.save
  where
    stays : Stays (rotated_server at.reading at.draw old) (answers at old bearer request)
    stays = answers-stay at old bearer request

    by_state : (saves_of (answers at old bearer request).response ≡ None) ⊎ (saves_of (answers at old bearer request).response ≡ Some (rotated_server at.reading at.draw old).state)
        → (save ≡ None) ⊎ (save ≡ Some server.state)
    by_state (inl none) = inl (some ∙ ap saves_of r ∙ none)
    by_state (inr is) = inr (some ∙ ap saves_of r ∙ is ∙ sym (ap (λ (x : Server). Some x.state) (s ∙ stays.same)))
