-- All nodes behind an event: what is known of each link to the monitor on which nothing is said, and of each of the monitor on which it says nothing, stays so.
use Rattle.std.proofs.Common.{◌≡◌, ℕ, Bool, true, false, List, [], ◌∷◌, map, refl, ap, ◌∙◌}
use Rattle.std.specs.Prelude.{if◌then◌else◌}
use Rattle.cx_base.proofs.Names.{same_name_self}
use Rattle.cx_base.specs.Names.{Name, same_name}
use Rattle.cx_base.specs.declared.nodes.NodeName.{NodeName}
use Rattle.cx_base.specs.declared.nodes.NodeName.TheVariants as node
use Rattle.cx_journal.specs.declared.entries.Entry.{Entry}
use Rattle.cx_laws_run.proofs.cover.MonClientStays.{mon_client_has-stays}
use Rattle.cx_laws_run.proofs.cover.CallKnown.{call-grows}
use Rattle.cx_laws_run.proofs.cover.MonitorStays.{monitor_has-stays}
use Rattle.cx_laws_run.proofs.cover.State.{ClientStageHas, DaemonStageHas, EntitiesHave, EntityHas, MonitorHas, MonitorLinksHave}
use Rattle.cx_laws_run.specs.cx_laws_tickets.proofs.fetch.AskedKnown.{AreTold, Events, IsLoginKey, MoreEvents, Told}
use Rattle.cx_laws_run.specs.cx_laws_tickets.proofs.fetch.AskedMoving.{IsNotAsked, IsNotGiven, Moved}
use Rattle.cx_laws_run.specs.cx_laws_tickets.proofs.fetch.Later.{of_acceptor, of_connector}
use Rattle.cx_laws_run.specs.cx_laws_tickets.proofs.fetch.Retied.{Handed}
use Rattle.cx_laws_run.specs.cx_laws_tickets.proofs.fetch.Words.{IsIn}
use Rattle.cx_laws_run.specs.cx_laws_keys.proofs.keys.Known.{Inv}
use Rattle.cx_laws_run.specs.cx_laws_keys.proofs.keys.Lists.{all-map}
use Rattle.cx_laws_run.specs.cx_laws_keys.proofs.keys.Premises.{behind}
use Rattle.cx_laws_run.specs.cx_laws_keys.proofs.keys.Uses.{AtMonitor, Connected, Grows, Means, Use, Uses, WholeRun}
use Rattle.cx_laws_run.specs.cx_laws_keys.proofs.series.Contents.{contents_by}
use Rattle.cx_laws_run.specs.cx_rules.specs.Links.{Link}
use Rattle.cx_laws_run.specs.cx_rules.specs.Monitor.{MonitorStage}
use Rattle.cx_laws_run.specs.cx_rules_session.specs.ClientRule.{ClientStage, ToDaemon, ToMonitor}
use Rattle.cx_laws_run.specs.cx_rules_session.specs.DaemonRule.{AsAcceptor, AsConnector, DaemonStage}
use Rattle.cx_laws_run.specs.cx_run.specs.Happenings.{EntityNode, OfClient, OfDaemon, mon_client_in, is_of}
use Rattle.cx_steps.specs.declared.seals.Logged.{Logged}
use Rattle.cx_steps.specs.declared.seals.SealEntry.{SealEntry}

module _ (run : WholeRun) (whole : List Logged) (us vs : Uses) (log : List Logged) (J : List Entry) (n : NodeName) (line : ℕ) (es : List SealEntry)
    (one : (k : List ℕ) (u v : Use) → Means vs k u → Means vs k v → u ≡ v) (f : Grows us vs) (i : Inv run whole us log J) (E F : Events) (more : MoreEvents E F) (told : Told)
    (t : AreTold run E us told log) (logins later : List Handed) (within : (h : Handed) → IsIn h logins → IsIn h later) (next : Told) (m : Moved told next) where
  abbrev log_behind : List Logged
  log_behind = behind n line es log

  -- on no link of this entity anything is said
  abbrev pub IsUntouchedBy : Name → Type 0
  IsUntouchedBy name = (link challenge : ℕ) → E.drew name link challenge → (key : List ℕ) → IsLoginKey vs key name challenge → IsNotAsked m key × (contents_by key of_connector es ≡ [])

  -- ---- an entity

  client_link-stays : (name : Name) → IsUntouchedBy name → (l : Link ClientStage) → ClientStageHas E us logins told log name l.number l.received l.taken l.sent l.stage
      → ClientStageHas F vs later next log_behind name l.number l.received l.taken l.sent l.stage
  client_link-stays name apart l h = by_stage l.stage h
    where
      by_stage : (stage : ClientStage) → ClientStageHas E us logins told log name l.number l.received l.taken l.sent stage
          → ClientStageHas F vs later next log_behind name l.number l.received l.taken l.sent stage
      by_stage (ToMonitor stage) k =
          mon_client_has-stays run whole us vs log J n line es one f i E F more told t logins later within next m name l.number l.sent stage (apart l.number) k
      by_stage (ToDaemon stage) k = call-grows us vs l.received l.taken stage f k

  daemon_link-stays : (name : Name) → IsUntouchedBy name → (l : Link DaemonStage) → DaemonStageHas E us logins told log name l.number l.sent l.stage
      → DaemonStageHas F vs later next log_behind name l.number l.sent l.stage
  daemon_link-stays name apart l h = by_stage l.stage h
    where
      by_stage : (stage : DaemonStage) → DaemonStageHas E us logins told log name l.number l.sent stage → DaemonStageHas F vs later next log_behind name l.number l.sent stage
      by_stage (AsConnector stage) k =
          mon_client_has-stays run whole us vs log J n line es one f i E F more told t logins later within next m name l.number l.sent stage (apart l.number) k
      by_stage (AsAcceptor stage) k = tt

  pub entity-stays : (e : EntityNode) → IsUntouchedBy (mon_client_in e).name → EntityHas E us logins told log e → EntityHas F vs later next log_behind e
  entity-stays (OfClient c) apart h = (
    all-map (λ l. ClientStageHas E us logins told log c.own.mon_client.name l.number l.received l.taken l.sent l.stage)
        (λ l. ClientStageHas F vs later next log_behind c.own.mon_client.name l.number l.received l.taken l.sent l.stage) (client_link-stays c.own.mon_client.name apart) c.links h.0,
    h.1,
  )
  entity-stays (OfDaemon d) apart h =
      all-map (λ l. DaemonStageHas E us logins told log d.node.own.mon_client.name l.number l.sent l.stage)
      (λ l. DaemonStageHas F vs later next log_behind d.node.own.mon_client.name l.number l.sent l.stage) (daemon_link-stays d.node.own.mon_client.name apart) d.node.links h

  -- where no entity says anything
  pub entities-stay : ((name : Name) → IsUntouchedBy name) → (entities : List EntityNode) → EntitiesHave E us logins told log entities → EntitiesHave F vs later next log_behind entities
  entities-stay apart entities h = all-map (EntityHas E us logins told log) (EntityHas F vs later next log_behind) (λ e k. entity-stays e (apart (mon_client_in e).name) k) entities h

  -- where one alone does, which goes on as this one
  pub entities-but : (name : Name) → ((other : Name) → (other ≡ name → ⊥) → IsUntouchedBy other) → (new : EntityNode) → EntityHas F vs later next log_behind new → (entities : List EntityNode)
      → EntitiesHave E us logins told log entities → EntitiesHave F vs later next log_behind (map (λ (e : EntityNode). if is_of name e then new else e) entities)
  entities-but name apart new has [] h = tt
  entities-but name apart new has (e ∷ entities) h = (by_test (is_of name e) refl, entities-but name apart new has entities h.1)
    where
      unlike : is_of name e ≡ false → (mon_client_in e).name ≡ name → ⊥
      unlike off same = let on : is_of name e ≡ true = ap (λ (k : Name). same_name k name) same ∙ same_name_self name in cc

      by_test : (its : Bool) → is_of name e ≡ its → EntityHas F vs later next log_behind (if its then new else e)
      by_test true is = has
      by_test false off = entity-stays e (apart (mon_client_in e).name (unlike off)) h.0

  -- ---- the monitor

  pub monitor_links-stay : ((key : List ℕ) (number : ℕ) (name : Name) (challenge : ℕ) → Means us key (Connected node.Monitor number name (AtMonitor challenge))
      → IsNotGiven m key × (contents_by key of_acceptor es ≡ [])) → (links : List (Link MonitorStage)) → MonitorLinksHave run us told log links → MonitorLinksHave run vs next log_behind links
  monitor_links-stay quiet links h =
      all-map (λ l. MonitorHas run us told log l.number l.stage) (λ l. MonitorHas run vs next log_behind l.number l.stage)
      (λ l k. monitor_has-stays run whole us vs log J n line es one f i E F more told t next m l.number l.stage (λ key name challenge means. quiet key l.number name challenge means) k) links h
