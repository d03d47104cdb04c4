-- What is known before a step of a daemon, and what an outcome of it is to come to, whatever its book replies.
use Rattle.cx_base.specs.Names.{Name, is_daemon_type}
use Rattle.cx_base.specs.declared.nodes.NodeName.TheVariants as node
use Rattle.cx_journal.specs.declared.entries.Entry.TheVariants as journal
use Rattle.cx_journal.specs.declared.entries.Entry.{Entry}
use Rattle.cx_journal.specs.declared.entries.Fetched.{Fetched}
use Rattle.cx_journal.specs.declared.premises.KeyKind.TheVariants as kind
use Rattle.cx_laws_run.specs.cx_laws_tickets.proofs.authorize.DaemonRows.{LinksHave}
use Rattle.cx_laws_run.proofs.cover.MonClientBehind.{MonClientReady}
use Rattle.cx_laws_run.proofs.cover.State.{DaemonLinksHave}
use Rattle.cx_laws_run.specs.cx_laws_tickets.proofs.fetch.AllTold.{WasAsked, WasDrawn}
use Rattle.cx_laws_run.specs.cx_laws_tickets.proofs.fetch.AskedKnown.{AreTold, IsLoginKey, Told}
use Rattle.cx_laws_run.specs.cx_laws_tickets.proofs.fetch.AskedMoving.{IsNotAsked, IsNotGiven, Moved}
use Rattle.cx_laws_run.specs.cx_laws_tickets.proofs.fetch.DaemonTells.{DaemonLinkTold}
use Rattle.cx_laws_run.specs.cx_laws_tickets.proofs.fetch.Handed.{AreHanded}
use Rattle.cx_laws_run.specs.cx_laws_tickets.proofs.fetch.Later.{of_acceptor, of_connector}
use Rattle.cx_laws_run.specs.cx_laws_tickets.proofs.fetch.PointEvents.{RepliedAt, events_of}
use Rattle.cx_laws_run.specs.cx_laws_tickets.proofs.fetch.RepliedMoments.{WasReplied}
use Rattle.cx_laws_run.specs.cx_laws_tickets.proofs.fetch.Retied.{Handed, retied}
use Rattle.cx_laws_run.specs.cx_laws_keys.proofs.keys.Known.{Inv}
use Rattle.cx_laws_run.specs.cx_laws_keys.proofs.keys.Premises.{AreGranted, behind}
use Rattle.cx_laws_run.specs.cx_laws_keys.proofs.keys.Uses.{AtMonitor, Connected, Grows, Means, Uses, WholeRun}
use Rattle.cx_laws_run.specs.cx_laws_keys.proofs.login.Facts.{MonClientKnown}
use Rattle.cx_laws_run.specs.cx_laws_keys.proofs.series.Contents.{contents_by}
use Rattle.cx_laws_run.specs.cx_login.specs.Unlocking.{unlocked}
use Rattle.cx_laws_run.specs.cx_rules.specs.Rows.{Outcome}
use Rattle.cx_laws_run.specs.cx_rules_session.specs.DaemonRule.{DaemonNode}
use Rattle.cx_laws_run.specs.cx_run.specs.Points.{Before, Point, stepped_at}
use Rattle.cx_laws_run.specs.cx_sealed.specs.Records.{rotating_reply_layout}
use Rattle.cx_laws_run.specs.cx_sealed.specs.declared.rotating_reply.RotatingReply.{RotatingReply}
use Rattle.cx_steps.specs.declared.seals.Logged.{Logged}
use Rattle.std.proofs.Common.{◌≡◌, ℕ, true, List, [], ◌∷◌, Some}
use Rattle.std.specs.List.{AllByRecursion}
use Rattle.std.specs.Prelude.{Contains}

-- ---- a daemon

-- what is known before a step of a daemon
pub record DaemonReady (run : WholeRun) (whole : List Logged) (us vs : Uses) (logins : List Handed) (told : Told) (past : List Point) (p : Point) (log : List Logged) (J : List Entry) (d : DaemonNode)
    : Type 0 where
  pub mon_client : MonClientReady run whole (retied logins us) (retied logins vs) logins told past p d.own.mon_client.name log J
  pub inv : Inv run whole us log J
  pub grows : Grows us vs
  pub of : is_daemon_type d.own.mon_client.name.kind ≡ true
  pub known : MonClientKnown run us d.own.mon_client.name d.own.mon_client.secret d.own.mon_client.view
  pub had : LinksHave run (node.Entity d.own.mon_client.name) us d.links
  pub links : DaemonLinksHave (events_of past) (retied logins us) logins told log d.own.mon_client.name d.links
  pub tells : AllByRecursion (DaemonLinkTold (WasDrawn past d.own.mon_client.name) (WasAsked past d.own.mon_client.name)) d.links
  pub free : Contains run.leaked d.own.mon_client.name → ⊥
  pub reads : (f : Fetched) → f.daemon ≡ d.own.mon_client.name → (blob : List ℕ) → Before (RepliedAt d.own.mon_client.name f.asked blob) past → (t : RotatingReply)
      → (unlocked rotating_reply_layout.form kind.Principal d.own.mon_client.secret blob).value ≡ Some t → t.generations ≡ f.generations → Before (WasReplied f) past

-- what an outcome of it comes to
pub record NodeBehind (run : WholeRun) (us vs : Uses) (logins : List Handed) (told : Told) (past : List Point) (p : Point) (log : List Logged) (name : Name) (o : Outcome DaemonNode) : Type 0 where
  pub next : Told
  pub moved : Moved told next
  pub apart : (m : Name) → (m ≡ name → ⊥) → (link challenge : ℕ) → (events_of past).drew m link challenge → (key : List ℕ) → IsLoginKey (retied logins vs) key m challenge
      → IsNotAsked moved key × (contents_by key of_connector o.out.seals ≡ [])
  pub quiet : (key : List ℕ) (number : ℕ) (m : Name) (challenge : ℕ) → Means (retied logins vs) key (Connected node.Monitor number m (AtMonitor challenge))
      → IsNotGiven moved key × (contents_by key of_acceptor o.out.seals ≡ [])
  pub known_of : AreTold run (events_of (p ∷ past)) (retied logins vs) next (behind (node.Entity name) p.happening.line o.out.seals log)
  pub handed : AreHanded (retied logins vs) logins (behind (node.Entity name) p.happening.line o.out.seals log)
  pub links : DaemonLinksHave (events_of (p ∷ past)) (retied logins vs) logins next (behind (node.Entity name) p.happening.line o.out.seals log) name o.state.links
  pub fetched : (f : Fetched) → Contains o.out.entries (journal.Fetched f) → Before (WasReplied f) past

-- where it is what the event comes to, what it logs is granted, and what is known of its links' keys is known behind it
abbrev pub Keeps : WholeRun → List Logged → Uses → Uses → List Handed → Told → List Point → Point → List Logged → DaemonNode → Outcome DaemonNode → Type 0
Keeps run whole us vs logins told past p log d o = (stepped_at p).out ≡ o.out → AreGranted run.leaked whole (node.Entity d.own.mon_client.name) p.happening.line log o.out.seals
    → LinksHave run (node.Entity d.own.mon_client.name) vs o.state.links → NodeBehind run us vs logins told past p log d.own.mon_client.name o
