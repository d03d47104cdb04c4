-- A daemon sends no operation.
use Rattle.std.proofs.Common.{◌≡◌, ℕ, List, [], None, refl}
use Rattle.cx_base.specs.Names.{Name}
use Rattle.cx_desk.specs.Handlers.{Handlers}
use Rattle.cx_journal.specs.declared.entries.Entry.{Entry}
use Rattle.cx_journal.specs.declared.entries.Entry.TheVariants as entry
use Rattle.cx_laws_sessions.proofs.queues.Daemons.{Counts, step-kept}
use Rattle.cx_laws_sessions.proofs.queues.Entries.{IsSilent, none-sent}
use Rattle.cx_laws_sessions.specs.queues.Sending.{all_sent_to, sent_to}
use Rattle.cx_laws_sessions.proofs.session.Daemons.{daemon-comes}
use Rattle.cx_laws_sessions.proofs.session.Lists.{all-map}
use Rattle.cx_laws_sessions.proofs.session.Moves.{LinksServe}
use Rattle.cx_laws_sessions.specs.cx_rules.specs.Inputs.{Input}
use Rattle.cx_laws_sessions.specs.cx_rules.specs.Rows.{Outcome}
use Rattle.cx_laws_sessions.specs.cx_rules_session.specs.DaemonRule.{DaemonState, daemon_step}
use Rattle.cx_laws_sessions.specs.cx_rules_session.specs.IncomingLinks.{Served}

silent-unsent : (client daemon : Name) (e : Entry) → IsSilent e → sent_to client daemon e ≡ None
silent-unsent client daemon (entry.Sent x) h = absurd h
silent-unsent client daemon (entry.Saved x) h = refl
silent-unsent client daemon (entry.Issued x) h = refl
silent-unsent client daemon (entry.Fetched x) h = refl
silent-unsent client daemon (entry.Looked x) h = refl
silent-unsent client daemon (entry.Admitted x) h = refl
silent-unsent client daemon (entry.Resumed x) h = refl
silent-unsent client daemon (entry.Handled x) h = refl
silent-unsent client daemon (entry.Answered x) h = refl
silent-unsent client daemon (entry.Refused x) h = refl
silent-unsent client daemon (entry.Ended x) h = refl
silent-unsent client daemon (entry.Restarted x) h = refl
silent-unsent client daemon (entry.Broken x) h = refl
silent-unsent client daemon (entry.Leaked x) h = refl

pub daemon-unsent : (handlers : Handlers) (d : DaemonState) (J : List Entry) → Counts J d.node.own.mon_client.name d.book → (input : Input) (reading : ℕ) (draw : List ℕ) (client daemon : Name)
    → all_sent_to client daemon (daemon_step handlers d input reading draw).out.entries ≡ []
daemon-unsent handlers d J counts input reading draw client daemon =
    let o : Outcome DaemonState = daemon_step handlers d input reading draw in
    let kept = step-kept handlers d.node.own.mon_client.name J d.book o.state.book (λ (x : Served). LinksServe d.node.links x) (λ (x : Served). LinksServe o.state.node.links x) o.out.entries counts
    (daemon-comes handlers d input reading draw) in
    none-sent client daemon o.out.entries (all-map IsSilent (λ (e : Entry). sent_to client daemon e ≡ None) (silent-unsent client daemon) o.out.entries kept.silent)
