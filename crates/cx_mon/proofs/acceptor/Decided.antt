-- A login: its row, by what was decided, that it leaves the keyring as it is, and what it saves.
use Rattle.std.proofs.Common.{◌≡◌, ◌∙◌, ℕ, ◌==◌, ◌^◌, ◌-◌, ◌+◌, Bool, true, false, ◌⊎◌, inl, inr, List, ◌∷◌, ◌++◌, Option, Some, None, Result, Ok, Err, refl, sym, ap}
use Rattle.std.specs.Prelude.{if◌then◌else◌}
use Rattle.cx_enc.specs.declared.keys.Key.{Key}
use Rattle.cx_rules.specs.Verdicts.{Decided, Entrant, Numbered, Occasion, asking_for, entrant, issues, issues_to, key_of, numbered, numbers, rotates}
use Rattle.cx_rules.specs.MonitorLogin.{occasion, proves, row_by}
use Rattle.cx_rules.specs.declared.verdicts.Verdict.{Verdict}
use Rattle.cx_journal.specs.declared.faults.LoginFault.{LoginFault}
use Rattle.cx_journal.specs.declared.faults.LoginFault.TheVariants as login
use Rattle.cx_keyserver.specs.Servers.{Server, rotated_server}
use Rattle.cx_keyserver.specs.declared.tickets.Ticket.{Ticket}
use Rattle.cx_link.specs.Wires.{Wire}
use Rattle.cx_login.specs.Monitor.{Proven, kept_gid, proof_found, reclaimed}
use Rattle.cx_login.specs.Unlocking.{Unlocked, old_ticket}
use Rattle.cx_login.specs.declared.monitor.Reclaim.{Reclaim}
use Rattle.cx_login.specs.declared.monitor.Reclaim.TheVariants.{Kept, Fresh, Denied}
use Rattle.cx_node.specs.declared.rows.Row.{Row as Made}
use Rattle.cx_rotate.specs.declared.states.KeptState.{KeptState}
use Rattle.cx_rules.specs.KeptStates.{same_state}
use Rattle.cx_rules.specs.Monitor.{Monitor, MonitorRow}
use Rattle.cx_rules.specs.Tickets.{issued_for, rotation_drawn, services_for}
use Rattle.cx_keyserver.specs.cx_sealed.specs.declared.service_ticket.ServiceTicket.{ServiceTicket}
use Rattle.cx_steps.specs.declared.seals.SealEntry.{SealEntry}
use Rattle.cx_mon.proofs.acceptor.Changed.{changed-saves}
use Rattle.cx_mon.specs.acceptor.Rows.{IsMonitorRow, arrived, saves, saving}
use Rattle.cx_mon.specs.acceptor.Stages.{MonitorLink, awaiting_proof}
use Rattle.cx_rules.specs.Abridged.{abridged_link}
use Rattle.cx_node.specs.steps.Making.{row_due}
use Rattle.cx_node.specs.declared.moments.Moment.{Moment}

-- the row that was made of what was decided is that of the rules
pub login_row : (old : Monitor) (at : Moment) (wire : Wire) (gid : ℕ) (proven : Proven) (server : Server) (verdict : Verdict) (row : Made MonitorLink)
    → verdict ≡ (rotates (occasion (arrived old at (awaiting_proof at.number wire proven.offer gid))) old.server gid proven).verdict
    → server ≡ (rotates (occasion (arrived old at (awaiting_proof at.number wire proven.offer gid))) old.server gid proven).server
    → IsMonitorRow at.number (saving (record old { server = server }) row.save)
    (row_by (arrived (record old { server = server }) at (awaiting_proof at.number wire proven.offer gid)) verdict) row
    → IsMonitorRow at.number (saving (record old { server = server }) row.save) (proves (arrived old at (awaiting_proof at.number wire proven.offer gid)) gid (Ok proven)) row
login_row old at wire gid proven server verdict row v s m =
    let told : Server → Verdict → MonitorRow =
    λ t w. row_due abridged_link (row_by (arrived (record old { server = t }) at (awaiting_proof at.number wire proven.offer gid)) w) in
    record {
      row = m.row ∙ ap (told server) v
          ∙ ap (λ (t : Server). told t (rotates (occasion (arrived old at (awaiting_proof at.number wire proven.offer gid))) old.server gid proven).verdict) s;
      number_is = m.number_is;
    }

-- ---- the keyring

issues-ring : (at : Occasion) (server : Server) (e : Entrant) (own : List ℕ) (tickets : Result (List Ticket) LoginFault) → (issues at server e own tickets).server.ring ≡ server.ring
issues-ring at server e own (Err why) = refl
issues-ring at server e own (Ok tickets) = refl

issues_to-ring : (at : Occasion) (server : Server) (e : Entrant) (own : Option Key) → (issues_to at server e own).server.ring ≡ server.ring
issues_to-ring at server e None = refl
issues_to-ring at server e (Some own) = issues-ring at server e own.secret _

next-ring : (server : Server) (n : Numbered) (b : Bool)
    → (if b then Err login.GidsSpent else Ok (record {
      server = record server { state = record server.state { next_gid = server.state.next_gid + 1 } };
      gid = server.state.next_gid;
    })) ≡ Ok n → n.server.ring ≡ server.ring
next-ring server n true e = absurd (cc)
next-ring server n false e = let k : n ≡ record { server = record server { state = record server.state { next_gid = server.state.next_gid + 1 } }; gid = server.state.next_gid } = cc in ap (λ (x : Numbered). x.server.ring) k

numbered-ring : (server : Server) (reclaim : Reclaim) (n : Numbered) → numbered server reclaim ≡ Ok n → n.server.ring ≡ server.ring
numbered-ring server (Kept gid) n e = let k : n ≡ record { server = server; gid = gid } = cc in ap (λ (x : Numbered). x.server.ring) k
numbered-ring server Fresh n e = next-ring server n (server.state.next_gid == 2 ^ 64 - 1) e
numbered-ring server (Denied gid) n e = absurd (cc)

numbers-ring : (at : Occasion) (server : Server) (proven : Proven) (seals : List SealEntry) (r : Result Numbered LoginFault)
    → ((n : Numbered) → r ≡ Ok n → n.server.ring ≡ server.ring) → (numbers at server proven seals r).server.ring ≡ server.ring
numbers-ring at server proven seals (Err why) h = refl
numbers-ring at server proven seals (Ok n) h =
    issues_to-ring at n.server (entrant proven.offer.name n.gid proven.ask.other_keys seals) (key_of n.server proven.offer.name) ∙ h n refl

pub rotates-ring : (at : Occasion) (server : Server) (gid : ℕ) (proven : Proven) → (rotates at server gid proven).server.ring ≡ server.ring
rotates-ring at server gid proven =
    let rotated : Server = rotated_server at.reading at.draw server in
    let old : Unlocked ServiceTicket = old_ticket rotated.state.auth proven.ask.old_ticket in
    let seals : List SealEntry = proof_found proven.offer proven.ask.client_challenge ∷ rotation_drawn at.reading at.draw server.state in
    let reclaim : Reclaim = reclaimed gid proven.ask.version (kept_gid proven.offer.name at.reading old.value) in
    numbers-ring at rotated proven (seals ++ old.seals) (numbered rotated reclaim) (numbered-ring rotated reclaim)

-- ---- what is saved

-- what a login saves is the state of its key server, if anything
abbrev SavesState : Decided → Type 0
SavesState d = (saves d.verdict ≡ None) ⊎ (saves d.verdict ≡ Some d.server.state)

issues-saves : (at : Occasion) (server : Server) (e : Entrant) (own : List ℕ) (tickets : Result (List Ticket) LoginFault) → SavesState (issues at server e own tickets)
issues-saves at server e own (Err why) = inl refl
issues-saves at server e own (Ok tickets) = changed-saves at.saved server.state (same_state server.state at.saved)

issues_to-saves : (at : Occasion) (server : Server) (e : Entrant) (own : Option Key) → SavesState (issues_to at server e own)
issues_to-saves at server e None = inl refl
issues_to-saves at server e (Some own) =
    issues-saves at server e own.secret (issued_for server (asking_for at e.name e.gid) (services_for e.asked))

numbers-saves : (at : Occasion) (server : Server) (proven : Proven) (seals : List SealEntry) (r : Result Numbered LoginFault) → SavesState (numbers at server proven seals r)
numbers-saves at server proven seals (Err why) = inl refl
numbers-saves at server proven seals (Ok n) =
    issues_to-saves at n.server (entrant proven.offer.name n.gid proven.ask.other_keys seals) (key_of n.server proven.offer.name)

pub rotates-saves : (at : Occasion) (server : Server) (gid : ℕ) (proven : Proven) → SavesState (rotates at server gid proven)
rotates-saves at server gid proven =
    let rotated : Server = rotated_server at.reading at.draw server in
    let old : Unlocked ServiceTicket = old_ticket rotated.state.auth proven.ask.old_ticket in
    let seals : List SealEntry = proof_found proven.offer proven.ask.client_challenge ∷ rotation_drawn at.reading at.draw server.state in
    numbers-saves at rotated proven (seals ++ old.seals)
    (numbered rotated (reclaimed gid proven.ask.version (kept_gid proven.offer.name at.reading old.value)))

pub saved-state : (verdict : Verdict) (server : Server) (save : Option KeptState) (at : Occasion) (old : Server) (gid : ℕ) (proven : Proven)
    → verdict ≡ (rotates at old gid proven).verdict → server ≡ (rotates at old gid proven).server
    → (save ≡ None) ⊎ (save ≡ saves verdict) → (save ≡ None) ⊎ (save ≡ Some server.state)
saved-state verdict server save at old gid proven v s (inl none) = inl none
saved-state verdict server save at old gid proven v s (inr some) = by_state (rotates-saves at old gid proven)
  where
    by_state : SavesState (rotates at old gid proven) → (save ≡ None) ⊎ (save ≡ Some server.state)
    by_state (inl none) = inl (some ∙ ap saves v ∙ none)
    by_state (inr is) = inr (some ∙ ap saves v ∙ is ∙ sym (ap (λ (x : Server). Some x.state) s))
