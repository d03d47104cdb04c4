-- Behind a step of a client, what is known of all other entities stays known: other clients hear what they heard, and daemons have given what they gave.
use Rattle.std.proofs.Common.{◌≡◌, ℕ, List, ◌++◌, map}
use Rattle.std.specs.Prelude.{Contains, if◌then◌else◌}
use Rattle.cx_base.specs.Names.{Name}
use Rattle.cx_base.specs.declared.nodes.NodeName.{NodeName}
use Rattle.cx_base.specs.declared.nodes.NodeName.TheVariants as node
use Rattle.cx_journal.specs.declared.entries.Entry.{Entry}
use Rattle.cx_laws_run.specs.cx_laws_keys.proofs.keys.Lists.{all-map}
use Rattle.cx_laws_run.specs.cx_laws_keys.proofs.keys.Premises.{behind}
use Rattle.cx_laws_run.specs.cx_laws_keys.proofs.keys.Uses.{Grows, Means, Use, Uses, WholeRun}
use Rattle.cx_laws_run.specs.cx_rules.specs.Links.{Link}
use Rattle.cx_laws_run.specs.cx_rules.specs.Rows.{Outcome}
use Rattle.cx_laws_run.specs.cx_rules_session.specs.ClientRule.{ClientStage, ToDaemon, ToMonitor, WholeClientNode}
use Rattle.cx_laws_run.specs.cx_rules_session.specs.DaemonRule.{AsAcceptor, AsConnector, DaemonStage}
use Rattle.cx_laws_run.specs.cx_run.specs.Happenings.{EntityNode, OfClient, OfDaemon, mon_client_in, is_of}
use Rattle.cx_steps.specs.declared.seals.Logged.{Logged}
use Rattle.cx_steps.specs.declared.seals.SealEntry.{SealEntry}
use Rattle.cx_laws_run.specs.cx_laws_links.proofs.links.Known.{StageTold, Told}
use Rattle.cx_laws_run.specs.cx_laws_links.proofs.links.Moving.{Moved}
use Rattle.cx_laws_run.specs.cx_laws_links.proofs.answers.AllGiven.{moved-heard, moved-longer, still-incoming}
use Rattle.cx_laws_run.specs.cx_laws_links.proofs.answers.Given.{Given}
use Rattle.cx_laws_run.proofs.sent.OtherNodes.{all-replaced}
use Rattle.cx_laws_run.proofs.sent.State.{ClientBehind, ClientKnown, EntitiesKnown, EntityKnown}
use Rattle.cx_laws_run.proofs.sent.Waiting.{all-both}
use Rattle.cx_laws_run.proofs.truth.State.{ClientHears, ClientTruth, EntitiesHear, EntityHears, GivesNothing, HostGiven, IsBoundTo, LinksGiven, StageHears}
use Rattle.cx_laws_run.proofs.truth.Still.{behind-still}

module _ (run : WholeRun) (us vs : Uses) (one : (k : List ℕ) (u v : Use) → Means us k u → Means us k v → u ≡ v) (f : Grows us vs) (told next : Told) (given : List (List ℕ × Given))
    (reads more : List (List ℕ × ℕ)) (log : List Logged) (line : ℕ) (es : List SealEntry) (J : List Entry) (name : Name) (number : ℕ) (m : Moved us vs told log es name number next)
    (quiet : GivesNothing vs es) (own : (key : List ℕ) (place : ℕ) → Contains more (key, place) → IsBoundTo us told key name number) where
  abbrev later : List Logged
  later = behind (node.Entity name) line es log

  client-still : (c : WholeClientNode) → (c.own.mon_client.name ≡ name → ⊥) → ClientKnown us told log c → ClientHears run told given reads c → ClientHears run next given (reads ++ more) c
  client-still c apart known heard =
      all-map (λ (l : Link ClientStage). StageTold us told log c.own l.number l.stage × StageHears run told given reads c.own.mon_client.name l.stage)
      (λ (l : Link ClientStage). StageHears run next given (reads ++ more) c.own.mon_client.name l.stage) (λ l h. by_stage l.number l.stage h.0 h.1) c.links
      (all-both (λ (l : Link ClientStage). StageTold us told log c.own l.number l.stage) (λ (l : Link ClientStage). StageHears run told given reads c.own.mon_client.name l.stage) c.links known.links.links heard)
    where
      by_stage : (second : ℕ) (stage : ClientStage) → StageTold us told log c.own second stage → StageHears run told given reads c.own.mon_client.name stage
          → StageHears run next given (reads ++ more) c.own.mon_client.name stage
      by_stage second (ToMonitor stage) k h = tt
      by_stage second (ToDaemon stage) k h = (
        moved-heard run us vs told given log es name number next m c.own.mon_client.name second (λ both. apart both.0) stage k.0 h.0,
        λ free. behind-still us one told log reads more name c.own.mon_client.name number second own (λ both. apart both.0) stage k.0 (h.1 free),
      )

  links-still : (daemon : Name) (at : NodeName) (links : List (Link DaemonStage)) → LinksGiven run us told given log daemon at links → LinksGiven run vs next given later daemon at links
  links-still daemon at links h =
      all-map (λ (l : Link DaemonStage). HostGiven run us told given log at daemon l.number l.stage) (λ (l : Link DaemonStage). HostGiven run vs next given later at daemon l.number l.stage)
      (λ l g. by_stage l.number l.stage g) links h
    where
      by_stage : (second : ℕ) (stage : DaemonStage) → HostGiven run us told given log at daemon second stage → HostGiven run vs next given later at daemon second stage
      by_stage second (AsAcceptor stage) g =
          still-incoming run us vs f told next (moved-longer us vs told log es name number next m) given log (node.Entity name) line es at daemon second quiet stage g
      by_stage second (AsConnector stage) g = tt

  pub entity-still : (e : EntityNode) → ((mon_client_in e).name ≡ name → ⊥) → EntityKnown run us told log J e → EntityHears run us told given reads log e
      → EntityHears run vs next given (reads ++ more) later e
  entity-still (OfClient c) apart known heard = client-still c apart known heard
  entity-still (OfDaemon d) apart known heard = links-still d.node.own.mon_client.name (node.Entity d.node.own.mon_client.name) d.node.links heard

-- so it is of all entities behind a step of a client of this name
pub client-entities : (run : WholeRun) (us vs : Uses) → ((k : List ℕ) (u v : Use) → Means us k u → Means us k v → u ≡ v) → Grows us vs → (told : Told) (given : List (List ℕ × Given))
    (reads : List (List ℕ × ℕ)) (log : List Logged) (line : ℕ) (J K : List Entry) (name : Name) (c : WholeClientNode) (o : Outcome WholeClientNode)
    → (b : ClientBehind run us vs told log line K name c o) → (t : ClientTruth run us vs told b.next given reads log line J K name b.number o) → (entities : List EntityNode)
    → EntitiesKnown run us told log J entities → EntitiesHear run us told given reads log entities
    → EntitiesHear run vs b.next given (reads ++ t.more) (behind (node.Entity name) line o.out.seals log) (map (λ (e : EntityNode). if is_of name e then OfClient o.state else e) entities)
client-entities run us vs one f told given reads log line J K name c o b t entities known heard =
    all-replaced (λ (e : EntityNode). EntityKnown run us told log J e × EntityHears run us told given reads log e)
    (EntityHears run vs b.next given (reads ++ t.more) (behind (node.Entity name) line o.out.seals log)) name (OfClient o.state) t.hears
    (λ e apart h. entity-still run us vs one f told b.next given reads t.more log line o.out.seals J name b.number b.moved t.quiet t.own e apart h.0 h.1) entities
    (all-both (EntityKnown run us told log J) (EntityHears run us told given reads log) entities known heard)
