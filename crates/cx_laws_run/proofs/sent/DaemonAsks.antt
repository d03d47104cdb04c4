-- A step of a daemon at any event, of which its own link to the monitor says nothing on links to daemons: all that is known stays known behind it.
use Rattle.std.proofs.Common.{◌≡◌, ℕ, List, length}
use Rattle.std.specs.List.{AllByRecursion}
use Rattle.cx_base.specs.Names.{Name}
use Rattle.cx_base.specs.declared.nodes.NodeName.{NodeName}
use Rattle.cx_base.specs.declared.nodes.NodeName.TheVariants as node
use Rattle.cx_desk.specs.Handlers.{Handlers}
use Rattle.cx_journal.specs.declared.entries.Entry.{Entry}
use Rattle.cx_laws_run.specs.cx_laws_tickets.proofs.authorize.DaemonRows.{DaemonStageOk, LinksHave}
use Rattle.cx_laws_run.specs.cx_laws_keys.proofs.keys.Journal.{entered}
use Rattle.cx_laws_run.specs.cx_laws_keys.proofs.keys.Known.{Inv}
use Rattle.cx_laws_run.specs.cx_laws_keys.proofs.keys.Lists.{all-map}
use Rattle.cx_laws_run.specs.cx_laws_keys.proofs.keys.Premises.{AreGranted, behind}
use Rattle.cx_laws_run.specs.cx_laws_keys.proofs.keys.Uses.{Grows, Uses, WholeRun}
use Rattle.cx_laws_run.proofs.run.Events.{DaemonOk}
use Rattle.cx_laws_sessions.specs.cx_rules.specs.Inputs.{Input}
use Rattle.cx_laws_sessions.specs.cx_rules.specs.Links.{Link}
use Rattle.cx_laws_sessions.specs.cx_rules.specs.Rows.{arrival}
use Rattle.cx_laws_sessions.specs.cx_rules_session.specs.DaemonRule.{AsAcceptor, AsConnector, DaemonNode, DaemonStage, DaemonState, daemon_step, me}
use Rattle.cx_laws_sessions.specs.cx_rules_session.specs.Kinds.{arrival_in}
use Rattle.cx_steps.specs.declared.seals.Logged.{Logged}
use Rattle.cx_laws_links.proofs.links.IncomingNodes.{LinksKnown}
use Rattle.cx_laws_links.proofs.links.IncomingWords.{AreSpelled}
use Rattle.cx_laws_links.proofs.links.Known.{AreTold, Told}
use Rattle.cx_laws_links.proofs.links.Spoken.{is_connectors}
use Rattle.cx_laws_run.proofs.sent.MonClientSteps.{OwnStands, fetches-none, own_turn-none}
use Rattle.cx_laws_run.proofs.sent.DaemonSteps.{daemon-behind_as}
use Rattle.cx_laws_run.proofs.sent.DaemonTurns.{AsksSilently}
use Rattle.cx_laws_run.proofs.sent.State.{DaemonBehind}

own-stands : (run : WholeRun) (vs : Uses) (n : NodeName) (number : ℕ) (stage : DaemonStage) → DaemonStageOk run vs n number stage → OwnStands vs n stage
own-stands run vs n number (AsAcceptor stage) h = tt
own-stands run vs n number (AsConnector stage) h = h

pub own-stand : (run : WholeRun) (vs : Uses) (n : NodeName) (links : List (Link DaemonStage)) → LinksHave run n vs links → AllByRecursion (λ (l : Link DaemonStage). OwnStands vs n l.stage) links
own-stand run vs n links h =
    all-map (λ (l : Link DaemonStage). DaemonStageOk run vs n l.number l.stage) (λ (l : Link DaemonStage). OwnStands vs n l.stage) (λ l st. own-stands run vs n l.number l.stage st) links h

-- on its own link to the monitor a daemon says nothing on links to daemons
pub asks-silently : (run : WholeRun) (vs : Uses) (n : NodeName) (d : DaemonNode) (reading : ℕ) (draw : List ℕ) → AsksSilently run vs n d reading draw
asks-silently run vs n d reading draw = record {
  turns = λ link stage one all key name tie is.
      let b = arrival (me d.own) d.own link reading draw in
      own_turn-none vs n one key name tie is is_connectors d reading draw b (arrival_in b d.own.mon_client stage) stage (own-stand run vs n _ all);
  asks = λ one all key name tie is. fetches-none vs n one key name tie is is_connectors d reading draw (own-stand run vs n _ all);
}

-- what is known behind each step of a daemon of this name
pub daemon-stays : (run : WholeRun) (whole : List Logged) (us vs : Uses) (told : Told) (log : List Logged) (J : List Entry) (line : ℕ) → Inv run whole us log J → Grows us vs → AreTold run us told log J
    → AreSpelled told → (handlers : Handlers) (d : DaemonState) (input : Input) (reading : ℕ) (draw : List ℕ) → length draw ≡ 384 → (name : Name) → d.node.own.mon_client.name ≡ name
    → LinksKnown run us told J name (node.Entity name) d.node.links → DaemonOk run us J d.node →
    let o = daemon_step handlers d input reading draw in
    AreGranted run.leaked whole (node.Entity name) line log o.out.seals → Inv run whole vs (behind (node.Entity name) line o.out.seals log) (entered J o.out.entries)
    → DaemonOk run vs (entered J o.out.entries) o.state.node → DaemonBehind run vs told log line J (entered J o.out.entries) name o
daemon-stays run whole us vs told log J line i f t spelled handlers d input reading draw drawn name named known before g iv later =
    daemon-behind_as run whole us vs told log J line i f t spelled handlers d input reading draw drawn name named known before
    (asks-silently run vs (node.Entity name) d.node reading draw) g iv later
