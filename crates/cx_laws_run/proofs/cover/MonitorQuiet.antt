-- What is known where the monitor has an event, whether its save fails or not; and a step of it that seals and signs nothing: all stays known.
use Rattle.std.proofs.Common.{◌≡◌, ℕ, Bool, true, false, List, [], ◌∷◌, filter, length, refl}
use Rattle.std.specs.List.{AllByRecursion}
use Rattle.cx_base.specs.declared.kinds.EntityType.{EntityType}
use Rattle.cx_base.specs.declared.nodes.NodeName.TheVariants as node
use Rattle.cx_journal.specs.declared.entries.Entry.{Entry}
use Rattle.cx_laws_run.specs.cx_keyserver.specs.Servers.{generations_of}
use Rattle.cx_laws_run.specs.cx_laws_keys.proofs.keys.Known.{Inv}
use Rattle.cx_laws_run.specs.cx_laws_keys.proofs.keys.Lists.{all-map}
use Rattle.cx_laws_run.specs.cx_laws_keys.proofs.keys.Premises.{AreGranted, behind}
use Rattle.cx_laws_run.specs.cx_laws_keys.proofs.keys.Uses.{AreGenerated, Grows, Means, Use, Uses, WholeRun}
use Rattle.cx_laws_run.specs.cx_laws_keys.proofs.login.Facts.{AreSecrets, Owner, StageOk}
use Rattle.cx_laws_run.specs.cx_rules.specs.Links.{Link}
use Rattle.cx_laws_run.specs.cx_rules.specs.Monitor.{Monitor, MonitorStage}
use Rattle.cx_laws_run.specs.cx_run.specs.Happenings.{stays}
use Rattle.cx_laws_run.specs.cx_run.specs.Points.{Point}
use Rattle.cx_steps.specs.declared.seals.Logged.{Logged}
use Rattle.cx_steps.specs.declared.seals.SealEntry.{SealEntry}
use Rattle.cx_steps.specs.declared.seals.SealEntry.TheVariants as entry
use Rattle.cx_laws_run.specs.cx_laws_tickets.proofs.fetch.AskedKnown.{Told}
use Rattle.cx_laws_run.specs.cx_laws_tickets.proofs.fetch.AskedMoving.{Quiets}
use Rattle.cx_laws_run.specs.cx_laws_tickets.proofs.fetch.Handed.{handed-stays}
use Rattle.cx_laws_run.specs.cx_laws_tickets.proofs.fetch.HandingFirst.{silent-quiet}
use Rattle.cx_laws_run.specs.cx_laws_tickets.proofs.fetch.HeardFrames.{AllHeard}
use Rattle.cx_laws_run.specs.cx_laws_tickets.proofs.fetch.Later.{of_acceptor, of_connector}
use Rattle.cx_laws_run.specs.cx_laws_tickets.proofs.fetch.MonitorHands.{AreSilent, silent-plain}
use Rattle.cx_laws_run.specs.cx_laws_tickets.proofs.fetch.PointEvents.{events_of, more-events}
use Rattle.cx_laws_run.specs.cx_laws_tickets.proofs.fetch.Retied.{Handed, grows-retied, inv-retied, retied}
use Rattle.cx_laws_run.specs.cx_laws_tickets.proofs.fetch.RowWords.{AreQuiet, quiet-none}
use Rattle.cx_laws_run.specs.cx_laws_tickets.proofs.fetch.ToldStays.{told-stays}
use Rattle.cx_laws_run.proofs.cover.MonitorStays.{monitor_has-stays}
use Rattle.cx_laws_run.proofs.cover.State.{MonitorHas, MonitorLinksHave, RunHas}
use Rattle.cx_laws_run.proofs.cover.Steps.{MonitorBehind}

-- ---- what is logged

-- where the save fails nothing that was sealed or signed counts
abbrev pub left_of : Bool → List SealEntry → List SealEntry
left_of true es = filter stays es
left_of false es = es

filter-silent : (es : List SealEntry) → AreSilent (filter stays es)
filter-silent [] = tt
filter-silent (entry.Sealed mark ∷ es) = filter-silent es
filter-silent (entry.Signed mark ∷ es) = filter-silent es
filter-silent (entry.Opened mark ∷ es) = (tt, filter-silent es)
filter-silent (entry.Checked mark ∷ es) = (tt, filter-silent es)
filter-silent (entry.Drawn mark ∷ es) = (tt, filter-silent es)

pub failed-silent : (es : List SealEntry) → AreSilent (left_of true es)
failed-silent es = filter-silent es

pub left-silent : (fails : Bool) (es : List SealEntry) → AreSilent es → AreSilent (left_of fails es)
left-silent true es h = filter-silent es
left-silent false es h = h

-- ---- what is known

-- where this is logged, behind which the monitor has this and these links
pub record MonitorReady (run : WholeRun) (whole : List Logged) (us vs : Uses) (logins : List Handed) (told : Told) (past : List Point) (p : Point) (log : List Logged) (J K : List Entry)
    (es : List SealEntry) (own : Monitor) (links : List (Link MonitorStage)) : Type 0 where
  pub here : p.happening.node ≡ node.Monitor
  pub inv : Inv run whole us log J
  pub grows : Grows us vs
  pub inv_behind : Inv run whole vs (behind node.Monitor p.happening.line es log) K
  pub has : RunHas run past us logins told log p.nodes
  pub owner : Owner
  pub standing : AllByRecursion (λ (l : Link MonitorStage). StageOk owner us l.stage) p.nodes.monitor.links
  pub owner_behind : Owner
  pub standing_behind : AllByRecursion (λ (l : Link MonitorStage). StageOk owner_behind vs l.stage) links
  pub generated : (service : EntityType) → AreGenerated vs service (generations_of own.server.state service)
  pub ring : AreSecrets vs own.server.ring
  pub heard_behind : AllHeard links
  pub drawn : length p.happening.draw ≡ 384
  pub granted : AreGranted run.leaked whole node.Monitor p.happening.line log es

module _ (run : WholeRun) (whole : List Logged) (us vs : Uses) (logins : List Handed) (told : Told) (past : List Point) (p : Point) (log : List Logged) (J K : List Entry)
    (es : List SealEntry) (own : Monitor) (links : List (Link MonitorStage)) (r : MonitorReady run whole us vs logins told past p log J K es own links) where
  -- all of it retied
  pub inv-here : Inv run whole (retied logins us) log J
  inv-here = inv-retied logins us J run whole log r.inv

  pub one-behind : (k : List ℕ) (u v : Use) → Means (retied logins vs) k u → Means (retied logins vs) k v → u ≡ v
  one-behind = (inv-retied logins vs K run whole (behind node.Monitor p.happening.line es log) r.inv_behind).one

  pub grows-here : Grows (retied logins us) (retied logins vs)
  grows-here = grows-retied us vs logins logins (λ key acceptor number name challenge m. refl) r.grows

  -- a step that seals and signs nothing, where what links have is what those before it have, or follows from that
  pub quiet-behind : AreSilent es
      → (MonitorLinksHave run (retied logins vs) told (behind node.Monitor p.happening.line es log) p.nodes.monitor.links
      → MonitorLinksHave run (retied logins vs) told (behind node.Monitor p.happening.line es log) links)
      → MonitorBehind run us vs logins told past p log es links
  quiet-behind silent moves =
      let line : ℕ = p.happening.line in
      let quiet : AreQuiet es = silent-quiet es silent in
      record {
        more = logins;
        stay = λ key acceptor number name challenge m. refl;
        within = λ h has. has;
        next = told;
        moved = Quiets;
        apart = λ m link challenge drew key is. (tt, quiet-none key of_connector es quiet);
        known_of = told-stays run whole (retied logins us) (retied logins vs) log J node.Monitor line es one-behind grows-here inv-here (events_of past) (events_of (p ∷ past)) (more-events p past)
            told r.has.known_of (λ key is. (quiet-none key of_connector es quiet, quiet-none key of_acceptor es quiet));
        handed = handed-stays run whole (retied logins us) (retied logins vs) log J node.Monitor line es one-behind grows-here inv-here logins r.has.handed (silent-plain (retied logins vs) es silent);
        monitor_has = moves
            (all-map (λ (l : Link MonitorStage). MonitorHas run (retied logins us) told log l.number l.stage)
            (λ (l : Link MonitorStage). MonitorHas run (retied logins vs) told (behind node.Monitor line es log) l.number l.stage)
            (λ l h. monitor_has-stays run whole (retied logins us) (retied logins vs) log J node.Monitor line es one-behind grows-here inv-here (events_of past) (events_of (p ∷ past)) (more-events p past)
            told r.has.known_of told Quiets l.number l.stage (λ key name challenge m. (tt, quiet-none key of_acceptor es quiet)) h)
            p.nodes.monitor.links r.has.monitor);
      }
