-- Behind a step of a daemon, and of the monitor, what is known of all other entities stays known: clients hear what they heard, and daemons have given what they gave.
use Rattle.std.proofs.Common.{◌≡◌, ℕ, Bool, true, false, List, [], ◌∷◌, ◌++◌, map, Option, None, inl, inr, ◌⊎◌, refl, sym, ap, ◌∙◌, subst, append-nil}
use Rattle.std.proofs.lemmas.Slice.Eq.{bytes_eq-Decides}
use Rattle.std.specs.Prelude.{◌&&◌, Contains, if◌then◌else◌}
use Rattle.std.specs.List.{AllByRecursion, cons_option}
use Rattle.std.specs.Str.{bytes_eq}
use Rattle.cx_base.specs.Names.{Name}
use Rattle.cx_base.specs.declared.kinds.EntityType.{EntityType}
use Rattle.cx_base.specs.declared.nodes.NodeName.{NodeName}
use Rattle.cx_base.specs.declared.nodes.NodeName.TheVariants as node
use Rattle.cx_journal.specs.declared.entries.Entry.{Entry}
use Rattle.cx_laws_run.specs.cx_laws_keys.proofs.keys.Known.{IsAcceptorOr, IsAllowed, IsOfAcceptor, IsOfKind, IsPlaced, SealedAt}
use Rattle.cx_laws_run.specs.cx_laws_keys.proofs.keys.Lists.{all-map}
use Rattle.cx_laws_run.specs.cx_laws_keys.proofs.keys.Premises.{behind}
use Rattle.cx_laws_run.specs.cx_laws_keys.proofs.keys.Uses.{AtDaemon, Connected, Grows, Means, Use, Uses, WholeRun}
use Rattle.cx_laws_run.specs.cx_laws_keys.proofs.series.Contents.{content_where, contents_by}
use Rattle.cx_laws_run.specs.cx_rules.specs.Links.{Link}
use Rattle.cx_laws_run.specs.cx_rules.specs.Rows.{Outcome}
use Rattle.cx_laws_run.specs.cx_rules_session.specs.ClientRule.{ClientStage, ToDaemon, ToMonitor, WholeClientNode}
use Rattle.cx_laws_run.specs.cx_rules_session.specs.DaemonRule.{DaemonStage, DaemonState}
use Rattle.cx_laws_run.specs.cx_rules_session.specs.Presenter as call
use Rattle.cx_laws_run.specs.cx_rules_session.specs.Presenter.{CallStage}
use Rattle.cx_laws_run.specs.cx_run.specs.Happenings.{EntityNode, OfClient, OfDaemon, mon_client_in, is_of}
use Rattle.cx_steps.specs.declared.seals.Logged.{Logged}
use Rattle.cx_steps.specs.declared.seals.SealEntry.{SealEntry}
use Rattle.cx_steps.specs.declared.seals.SealEntry.TheVariants as entry
use Rattle.cx_steps.specs.declared.seals.SealMark.{SealMark}
use Rattle.cx_laws_run.specs.cx_laws_links.proofs.links.Known.{Told}
use Rattle.cx_laws_run.specs.cx_laws_links.proofs.links.Lifting.{link-grows}
use Rattle.cx_laws_run.specs.cx_laws_links.proofs.links.Written.{IsLinkKey}
use Rattle.cx_laws_run.specs.cx_laws_links.proofs.answers.Given.{Given, given_under, is_acceptors}
use Rattle.cx_laws_run.specs.cx_laws_links.proofs.answers.Keyed.{given-has, under-append}
use Rattle.cx_laws_run.specs.cx_laws_links.proofs.answers.Moving.{AsksNoMore, call-stays}
use Rattle.cx_laws_run.proofs.sent.OtherNodes.{acceptors-one, all-replaced}
use Rattle.cx_laws_run.proofs.sent.State.{IsLinkAt}
use Rattle.cx_laws_run.proofs.truth.DaemonSays.{DaemonTruth, joined-longer}
use Rattle.cx_laws_run.proofs.truth.IncomingLinksStay.{IsStill, host-still, same-told}
use Rattle.cx_laws_run.proofs.truth.State.{CallHears, ClientHears, EntitiesHear, EntityHears, GivesNothing, HostGiven, LinksGiven, StageHears}

same-entity : (a b : Name) → node.Entity a ≡ node.Entity b → a ≡ b
same-entity a b e = cc

-- ---- a daemon's step

module _ (run : WholeRun) (us vs : Uses) (one : (k : List ℕ) (u v : Use) → Means vs k u → Means vs k v → u ≡ v) (f : Grows us vs) (told : Told) (joins : List (List ℕ × ℕ))
    (given more : List (List ℕ × Given)) (reads : List (List ℕ × ℕ)) (log : List Logged) (line : ℕ) (es : List SealEntry) (name : Name)
    (own : (key : List ℕ) (x : Given) → Contains more (key, x) → IsLinkAt vs key (node.Entity name))
    (elsewhere : (key : List ℕ) (whose : Name) (tie : ℕ) → (is : IsLinkKey vs key whose tie) → (is.acceptor ≡ node.Entity name → ⊥) → contents_by key is_acceptors es ≡ []) where
  abbrev later : List Logged
  later = behind (node.Entity name) line es log

  abbrev next : Told
  next = record told { joins = joins }

  -- clients hear what they heard
  calls-hear : (whose : Name) (stage : CallStage) → CallHears run told given reads whose stage → CallHears run next (given ++ more) reads whose stage
  calls-hear whose stage h = (call-stays run told next given more whose stage (asks stage) h.0, h.1)
    where
      asks : (x : CallStage) → AsksNoMore run told next given more whose x
      asks (call.AwaitsSignature r callee) = refl
      asks (call.AwaitsIdent r callee cookie) = refl
      asks (call.AwaitsReconnect r callee cookie) = refl
      asks (call.Open r callee cookie) = refl
      asks (call.AwaitsBanner called) = tt
      asks (call.AwaitsHello called) = tt
      asks (call.AwaitsChallenge callee p) = tt
      asks (call.AwaitsDone callee answered) = tt

  client-hears : (c : WholeClientNode) → ClientHears run told given reads c → ClientHears run next (given ++ more) reads c
  client-hears c h =
      all-map (λ (l : Link ClientStage). StageHears run told given reads c.own.mon_client.name l.stage) (λ (l : Link ClientStage). StageHears run next (given ++ more) reads c.own.mon_client.name l.stage)
      (λ l heard. by_stage l.stage heard) c.links h
    where
      by_stage : (stage : ClientStage) → StageHears run told given reads c.own.mon_client.name stage → StageHears run next (given ++ more) reads c.own.mon_client.name stage
      by_stage (ToMonitor stage) heard = tt
      by_stage (ToDaemon stage) heard = calls-hear c.own.mon_client.name stage heard

  -- under the key of another daemon's link nothing was given
  none-under : (key : List ℕ) → ((x : Given) → Contains more (key, x) → ⊥) → given_under key (given ++ more) ≡ given_under key given
  none-under key none =
      under-append key given more ∙ ap (λ (l : List Given). given_under key given ++ l) (by_given (given_under key more) refl) ∙ append-nil (given_under key given)
    where
      by_given : (xs : List Given) → given_under key more ≡ xs → xs ≡ []
      by_given [] e = refl
      by_given (x ∷ xs) e = absurd (none x (given-has key more x xs e))

  other-still : (other : Name) → (other ≡ name → ⊥) → (key : List ℕ) (whose : Name) (tie : ℕ) → (is : IsLinkKey us key whose tie) → is.acceptor ≡ node.Entity other → IsStill es given (given ++ more) key
  other-still other apart key whose tie is at = record {
    sealed = elsewhere key whose tie (record { acceptor = is.acceptor; number = is.number; service = is.service; means = f.means key (Connected is.acceptor is.number whose (AtDaemon is.service tie)) is.means }) (λ e. apart (same-entity other name (sym at ∙ e)));
    given_is = none-under key (λ x has. apart (same-entity other name (sym at ∙ acceptors-one vs one key is.acceptor (node.Entity name) there (own key x has))));
  }
    where
      there : IsLinkAt vs key is.acceptor
      there = record { number = is.number; whose = whose; tie = AtDaemon is.service tie; means = f.means key (Connected is.acceptor is.number whose (AtDaemon is.service tie)) is.means }

  links-given : (other : Name) → (other ≡ name → ⊥) → (links : List (Link DaemonStage)) → LinksGiven run us told given log other (node.Entity other) links
      → LinksGiven run vs next (given ++ more) later other (node.Entity other) links
  links-given other apart links h =
      all-map (λ (l : Link DaemonStage). HostGiven run us told given log (node.Entity other) other l.number l.stage)
      (λ (l : Link DaemonStage). HostGiven run vs next (given ++ more) later (node.Entity other) other l.number l.stage)
      (λ l was. host-still run us vs f told next (joined-longer told joins) given (given ++ more) log (node.Entity name) line es (node.Entity other) other l.number (other-still other apart) l.stage was) links h

  pub entity-given : (e : EntityNode) → ((mon_client_in e).name ≡ name → ⊥) → EntityHears run us told given reads log e → EntityHears run vs next (given ++ more) reads later e
  entity-given (OfClient c) apart h = client-hears c h
  entity-given (OfDaemon d) apart h = links-given d.node.own.mon_client.name apart d.node.links h

-- so it is of all entities behind a step of a daemon of this name
pub daemon-entities : (run : WholeRun) (us vs : Uses) → ((k : List ℕ) (u v : Use) → Means vs k u → Means vs k v → u ≡ v) → Grows us vs → (told : Told) (joins : List (List ℕ × ℕ)) (given : List (List ℕ × Given))
    (reads : List (List ℕ × ℕ)) (log : List Logged) (line : ℕ) (J K : List Entry) (name : Name) (o : Outcome DaemonState)
    → (t : DaemonTruth run vs (record told { joins = joins }) given reads log line J K name o) → o.state.node.own.mon_client.name ≡ name → (entities : List EntityNode)
    → EntitiesHear run us told given reads log entities
    → EntitiesHear run vs (record told { joins = joins }) (given ++ t.more) reads (behind (node.Entity name) line o.out.seals log) (map (λ (e : EntityNode). if is_of name e then OfDaemon o.state else e) entities)
daemon-entities run us vs one f told joins given reads log line J K name o t named entities heard =
    let later : List Logged = behind (node.Entity name) line o.out.seals log in
    let next : Told = record told { joins = joins } in
    all-replaced (EntityHears run us told given reads log) (EntityHears run vs next (given ++ t.more) reads later) name (OfDaemon o.state)
    (subst (λ (m : Name). LinksGiven run vs next (given ++ t.more) later m (node.Entity m) o.state.node.links) (sym named) t.links)
    (λ e apart h. entity-given run us vs one f told joins given t.more reads log line o.out.seals name t.own t.elsewhere e apart h) entities heard

-- ---- a step that gives nothing, and changes no entity

pub silent-entities : (run : WholeRun) (us vs : Uses) → Grows us vs → (told : Told) (given : List (List ℕ × Given)) (reads : List (List ℕ × ℕ)) (log : List Logged) (n : NodeName) (line : ℕ) (es : List SealEntry)
    → GivesNothing vs es → (entities : List EntityNode) → EntitiesHear run us told given reads log entities → EntitiesHear run vs told given reads (behind n line es log) entities
silent-entities run us vs f told given reads log n line es quiet entities heard =
    all-map (EntityHears run us told given reads log) (EntityHears run vs told given reads later) by_entity entities heard
  where
    later : List Logged
    later = behind n line es log

    by_entity : (e : EntityNode) → EntityHears run us told given reads log e → EntityHears run vs told given reads (behind n line es log) e
    by_entity (OfClient c) h = h
    by_entity (OfDaemon d) h =
        let other : Name = d.node.own.mon_client.name in
        all-map (λ (l : Link DaemonStage). HostGiven run us told given log (node.Entity other) other l.number l.stage)
        (λ (l : Link DaemonStage). HostGiven run vs told given (behind n line es log) (node.Entity other) other l.number l.stage)
        (λ l was. host-still run us vs f told told (same-told told) given given log n line es (node.Entity other) other l.number
        (λ key whose tie is at. record { sealed = quiet key whose tie (link-grows us vs key whose tie f is); given_is = refl }) l.stage was) d.node.links h

-- ---- the monitor

-- what it seals is allowed, and so nothing under the key of a link to a daemon
module _ (us : Uses) (J : List Entry) (one : (k : List ℕ) (u v : Use) → Means us k u → Means us k v → u ≡ v) (placed : (k : List ℕ) (u : Use) → Means us k u → IsPlaced u) where
  at-daemon : (acceptor : NodeName) (service : EntityType) → IsOfKind acceptor service → acceptor ≡ node.Monitor → ⊥
  at-daemon acceptor service kind e = subst (λ (n : NodeName). IsOfKind n service) e kind

  monitor-none : (key : List ℕ) (name : Name) (tie : ℕ) → IsLinkKey us key name tie → (other : SealMark) → IsAllowed us J node.Monitor (entry.Sealed other) → (there : Bool) → bytes_eq other.key key ≡ there
      → content_where (there && is_acceptors other.content) other.content ≡ None
  monitor-none key name tie is other a false e = refl
  monitor-none key name tie is other a true e =
      let same : other.key ≡ key = (bytes_eq-Decides other.key key).0 e in
      let means : Means us key a.0 = subst (λ (k : List ℕ). Means us k a.0) same a.1 in
      let purpose : a.0 ≡ Connected is.acceptor is.number name (AtDaemon is.service tie) = one key a.0 (Connected is.acceptor is.number name (AtDaemon is.service tie)) means is.means in
      let kind : IsOfKind is.acceptor is.service = placed key (Connected is.acceptor is.number name (AtDaemon is.service tie)) is.means in
      absurd (by_place kind (subst (λ (u : Use). SealedAt node.Monitor u other.content) purpose a.3))
    where
      entity-apart : node.Monitor ≡ node.Entity name → ⊥
      entity-apart e = cc

      by_place : IsOfKind is.acceptor is.service → (node.Monitor ≡ node.Entity name) ⊎ IsOfAcceptor other.content × IsAcceptorOr node.Monitor is.acceptor → ⊥
      by_place kind (inl here) = entity-apart here
      by_place kind (inr (sends, inl here)) = at-daemon is.acceptor is.service kind (sym here)
      by_place kind (inr (sends, inr monitors)) = at-daemon is.acceptor is.service kind monitors

  pub monitor-gives : (es : List SealEntry) → AllByRecursion (IsAllowed us J node.Monitor) es → GivesNothing us es
  monitor-gives [] h key name tie is = refl
  monitor-gives (entry.Sealed other ∷ es) h key name tie is =
      ap (λ (o : Option (List ℕ)). cons_option o (contents_by key is_acceptors es)) (monitor-none key name tie is other h.0 (bytes_eq other.key key) refl) ∙ monitor-gives es h.1 key name tie is
  monitor-gives (entry.Signed other ∷ es) h key name tie is = monitor-gives es h.1 key name tie is
  monitor-gives (entry.Opened other ∷ es) h key name tie is = monitor-gives es h.1 key name tie is
  monitor-gives (entry.Checked other ∷ es) h key name tie is = monitor-gives es h.1 key name tie is
  monitor-gives (entry.Drawn other ∷ es) h key name tie is = monitor-gives es h.1 key name tie is
