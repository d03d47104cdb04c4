-- Behind a row of a lost link of the monitor all stays known: what it seals lies beyond what was said.
use Rattle.std.proofs.Common.{◌≡◌, ℕ, false, List, [], ◌∷◌, refl, subst}
use Rattle.std.specs.Prelude.{IfSome}
use Rattle.std.specs.List.{AllByRecursion}
use Rattle.std.specs.Str.{bytes_eq}
use Rattle.cx_base.specs.Names.{Name}
use Rattle.cx_base.specs.declared.nodes.NodeName.TheVariants as node
use Rattle.cx_journal.specs.declared.entries.Entry.{Entry}
use Rattle.cx_laws_run.specs.cx_laws_keys.proofs.keys.Known.{Inv}
use Rattle.cx_laws_run.specs.cx_laws_keys.proofs.keys.Premises.{behind}
use Rattle.cx_laws_run.specs.cx_laws_keys.proofs.keys.Uses.{AtMonitor, Connected, Grows, Means, Use, Uses, WholeRun}
use Rattle.cx_laws_run.specs.cx_laws_keys.proofs.series.Contents.{contents_by}
use Rattle.cx_laws_run.specs.cx_rules.specs.Links.{Link}
use Rattle.cx_laws_run.specs.cx_rules.specs.Monitor.{Monitor, MonitorRow, MonitorStage}
use Rattle.cx_laws_run.specs.cx_rules.specs.Rows.{links_behind}
use Rattle.cx_laws_run.specs.cx_rules.specs.Secured.{Secured}
use Rattle.cx_laws_run.specs.cx_run.specs.Points.{Point}
use Rattle.cx_steps.specs.declared.seals.Logged.{Logged}
use Rattle.cx_steps.specs.declared.seals.SealEntry.{SealEntry}
use Rattle.cx_laws_run.specs.cx_laws_tickets.proofs.fetch.AskedKnown.{AreTold, IsTrueAsked, IsTrueGiven, Told}
use Rattle.cx_laws_run.specs.cx_laws_tickets.proofs.fetch.AskedLifting.{said-beyond, said-stays, silent-stays}
use Rattle.cx_laws_run.specs.cx_laws_tickets.proofs.fetch.AskedMoving.{Quiets, asked-more, given-more}
use Rattle.cx_laws_run.specs.cx_laws_tickets.proofs.fetch.AskedWords.{asked_frame, given_frame}
use Rattle.cx_laws_run.specs.cx_laws_tickets.proofs.fetch.Handed.{IsPlain, handed-stays}
use Rattle.cx_laws_run.specs.cx_laws_tickets.proofs.fetch.Later.{IsLaterSeries, of_acceptor, of_connector}
use Rattle.cx_laws_run.specs.cx_laws_tickets.proofs.fetch.MonitorMoves.{IsAnyLogin}
use Rattle.cx_laws_run.specs.cx_laws_tickets.proofs.fetch.PointEvents.{events_of, more-events}
use Rattle.cx_laws_run.specs.cx_laws_tickets.proofs.fetch.Retied.{Handed, retied}
use Rattle.cx_laws_run.specs.cx_laws_tickets.proofs.fetch.Words.{parts_of, said_under}
use Rattle.cx_laws_run.proofs.cover.MonitorQuiet.{MonitorReady, grows-here, inv-here, one-behind}
use Rattle.cx_laws_run.proofs.cover.MonitorWords.{row-links}
use Rattle.cx_laws_run.proofs.cover.State.{IsLost, MonitorHas}
use Rattle.cx_laws_run.proofs.cover.Steps.{MonitorBehind}

module _ (run : WholeRun) (whole : List Logged) (us vs : Uses) (logins : List Handed) (told : Told) (past : List Point) (p : Point) (log : List Logged) (J K : List Entry)
    (es : List SealEntry) (own : Monitor) (links : List (Link MonitorStage)) (r : MonitorReady run whole us vs logins told past p log J K es own links) (number : ℕ) (name : Name) (key : List ℕ)
    (challenge : ℕ) (means : Means (retied logins us) key (Connected node.Monitor number name (AtMonitor challenge)))
    (others : (other : List ℕ) → IsAnyLogin (retied logins vs) other → bytes_eq key other ≡ false → contents_by other of_acceptor es ≡ [])
    (connector : (other : List ℕ) → IsAnyLogin (retied logins vs) other → contents_by other of_connector es ≡ []) (plain : AllByRecursion (IsPlain (retied logins vs)) es) where
  abbrev ws : Uses
  ws = retied logins us

  abbrev xs : Uses
  xs = retied logins vs

  abbrev later : List Logged
  later = behind node.Monitor p.happening.line es log

  one : (k : List ℕ) (u v : Use) → Means xs k u → Means xs k v → u ≡ v
  one = one-behind run whole us vs logins told past p log J K es own links r

  grows : Grows ws xs
  grows = grows-here run whole us vs logins told past p log J K es own links r

  inv : Inv run whole ws log J
  inv = inv-here run whole us vs logins told past p log J K es own links r

  -- where what it sealed lies beyond
  lost-told : IsLaterSeries of_acceptor later key (parts_of given_frame (said_under key told.given)) → AreTold run (events_of (p ∷ past)) xs told later
  lost-told series = record {
    asked = said-stays asked_frame of_connector run whole ws xs log J node.Monitor p.happening.line es one grows inv (IsTrueAsked (events_of past)) (IsTrueAsked (events_of (p ∷ past))) told.asked
        r.has.known_of.asked (λ other whose c is. connector other (whose, c, is)) (asked-more (events_of past) (events_of (p ∷ past)) (more-events p past));
    given = said-beyond given_frame of_acceptor run whole ws xs log J node.Monitor p.happening.line es one grows inv (IsTrueGiven run (events_of past) told.asked)
        (IsTrueGiven run (events_of (p ∷ past)) told.asked) told.given r.has.known_of.given key series (λ other whose c is apart. others other (whose, c, is) apart)
        (given-more run (events_of past) (events_of (p ∷ past)) (more-events p past) told.asked);
    unsaid = silent-stays asked_frame of_connector run whole ws xs log J node.Monitor p.happening.line es one grows inv (IsTrueAsked (events_of past)) (IsTrueAsked (events_of (p ∷ past)))
        told.asked r.has.known_of.asked r.has.known_of.unsaid (λ other whose c is. connector other (whose, c, is));
  }

  -- behind a row after which the link is lost under these keys, where it goes on
  pub lost-behind : (row : MonitorRow) (bytes : List ℕ) (u : Secured) → u.keys.key ≡ key → IsLost xs told later number u name
      → IfSome row.link (λ (l : Link MonitorStage). (l.number ≡ number) × MonitorHas run xs told later number l.stage)
      → MonitorBehind run us vs logins told past p log es (links_behind p.nodes.monitor.links number bytes row.link)
  lost-behind row bytes u same lost left = record {
    more = logins;
    stay = λ other acceptor n whose c m. refl;
    within = λ h has. has;
    next = told;
    moved = Quiets;
    apart = λ m link c drew other is. (tt, connector other (m, c, is));
    known_of = lost-told (subst (λ (k : List ℕ). IsLaterSeries of_acceptor later k (parts_of given_frame (said_under k told.given))) same (record { beyond = lost.beyond; among = lost.among }));
    handed = handed-stays run whole ws xs log J node.Monitor p.happening.line es one grows inv logins r.has.handed plain;
    monitor_has = row-links run whole us vs logins told past p log J K es own links r number name key challenge means others told Quiets tt bytes row.link left;
  }
