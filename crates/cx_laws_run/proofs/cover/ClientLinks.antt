-- A client's links behind a step of it: where the step says nothing on links to the monitor, or a row of one of these says something, all its links are known as before.
use Rattle.std.proofs.Common.{◌≡◌, ℕ, List, [], ◌∷◌, ◌++◌, Option, sym, ap, ◌∙◌, subst}
use Rattle.std.specs.Prelude.{IfSome}
use Rattle.std.specs.List.{AllByRecursion}
use Rattle.cx_base.specs.Names.{Name}
use Rattle.cx_base.specs.declared.nodes.NodeName.{NodeName}
use Rattle.cx_base.specs.declared.nodes.NodeName.TheVariants as node
use Rattle.cx_journal.specs.declared.entries.Entry.{Entry}
use Rattle.cx_laws_run.proofs.cover.MonClientBehind.{MonClientBehind, MonClientReady}
use Rattle.cx_laws_run.proofs.cover.MonClientStays.{mon_client_has-stays}
use Rattle.cx_laws_run.proofs.cover.CallKnown.{AreHarmless, call-grows, harmless-none, harmless-plain}
use Rattle.cx_laws_run.proofs.cover.ClientAsks.{ClientStageAsks, IsNoFetch}
use Rattle.cx_laws_run.proofs.cover.OtherLinks.{behind-others}
use Rattle.cx_laws_run.proofs.cover.State.{ClientStageHas}
use Rattle.cx_laws_run.specs.cx_laws_tickets.proofs.fetch.AskedKnown.{AreTold, IsLoginKey, Told}
use Rattle.cx_laws_run.specs.cx_laws_tickets.proofs.fetch.AskedMoving.{IsNotAsked, IsNotGiven, Moved, Quiets}
use Rattle.cx_laws_run.specs.cx_laws_tickets.proofs.fetch.Handed.{AreHanded, handed-stays}
use Rattle.cx_laws_run.specs.cx_laws_tickets.proofs.fetch.Later.{of_acceptor, of_connector}
use Rattle.cx_laws_run.specs.cx_laws_tickets.proofs.fetch.PointEvents.{events_of, more-events}
use Rattle.cx_laws_run.specs.cx_laws_tickets.proofs.fetch.Retied.{Handed}
use Rattle.cx_laws_run.specs.cx_laws_tickets.proofs.fetch.ToldStays.{SealsNone, told-stays}
use Rattle.cx_laws_run.specs.cx_laws_keys.proofs.keys.Lists.{all-map}
use Rattle.cx_laws_run.specs.cx_laws_keys.proofs.keys.Premises.{behind}
use Rattle.cx_laws_run.specs.cx_laws_keys.proofs.keys.Uses.{AtMonitor, Connected, Means, Uses, WholeRun}
use Rattle.cx_laws_run.specs.cx_laws_keys.proofs.series.Contents.{contents_by}
use Rattle.cx_laws_run.specs.cx_rules.specs.Holdings.{MonClient}
use Rattle.cx_laws_run.specs.cx_rules.specs.Links.{Link}
use Rattle.cx_laws_run.specs.cx_rules.specs.Rows.{Outcome, Row, links_behind}
use Rattle.cx_laws_run.specs.cx_rules_session.specs.ClientRule.{ClientStage, ToDaemon, ToMonitor, WholeClientNode}
use Rattle.cx_laws_run.specs.cx_run.specs.Points.{Point}
use Rattle.cx_steps.specs.declared.seals.Logged.{Logged}
use Rattle.cx_steps.specs.declared.seals.SealEntry.{SealEntry}

module _ (run : WholeRun) (whole : List Logged) (us vs : Uses) (logins : List Handed) (told : Told) (past : List Point) (p : Point) (log : List Logged) (J : List Entry) (name : Name)
    (r : MonClientReady run whole us vs logins told past p name log J) where
  abbrev n : NodeName
  n = node.Entity name

  abbrev line : ℕ
  line = p.happening.line

  abbrev Later : List SealEntry → List Logged
  Later es = behind n line es log

  -- what is known of a link before the step, and behind it
  abbrev pub LinkBefore : Link ClientStage → Type 0
  LinkBefore l = ClientStageHas (events_of past) us logins told log name l.number l.received l.taken l.sent l.stage × ClientStageAsks l.stage

  abbrev pub LinkBehind : Told → List Logged → Link ClientStage → Type 0
  LinkBehind next later l = ClientStageHas (events_of (p ∷ past)) vs logins next later name l.number l.received l.taken l.sent l.stage × ClientStageAsks l.stage

  -- what a step of the client comes to
  pub record ClientMoved (o : Outcome WholeClientNode) : Type 0 where
    pub next : Told
    pub moved : Moved told next
    pub apart : (m : Name) → (m ≡ name → ⊥) → (link challenge : ℕ) → (events_of past).drew m link challenge → (key : List ℕ) → IsLoginKey vs key m challenge
        → IsNotAsked moved key × (contents_by key of_connector o.out.seals ≡ [])
    pub quiet : (key : List ℕ) (number : ℕ) (m : Name) (challenge : ℕ) → Means vs key (Connected node.Monitor number m (AtMonitor challenge))
        → IsNotGiven moved key × (contents_by key of_acceptor o.out.seals ≡ [])
    pub known_of : AreTold run (events_of (p ∷ past)) vs next (Later o.out.seals)
    pub handed : AreHanded vs logins (Later o.out.seals)
    pub links : AllByRecursion (LinkBehind next (Later o.out.seals)) o.state.links
    pub entries : AllByRecursion IsNoFetch o.out.entries

  -- ---- where nothing is said

  -- a link stays as it was
  pub link-stays : (es : List SealEntry) → AreHarmless vs es → (l : Link ClientStage) → LinkBefore l → LinkBehind told (Later es) l
  link-stays es harmless l h = (by_stage l.stage h.0, h.1)
    where
      none : SealsNone vs es
      none = harmless-none vs r.one es harmless

      by_stage : (stage : ClientStage) → ClientStageHas (events_of past) us logins told log name l.number l.received l.taken l.sent stage
          → ClientStageHas (events_of (p ∷ past)) vs logins told (Later es) name l.number l.received l.taken l.sent stage
      by_stage (ToMonitor stage) k =
          mon_client_has-stays run whole us vs log J n line es r.one r.grows r.inv (events_of past) (events_of (p ∷ past)) (more-events p past) told r.known_of logins logins (λ x has. has) told Quiets name
          l.number l.sent stage (λ challenge drew key is. (tt, (none key (name, challenge, is)).0)) k
      by_stage (ToDaemon stage) k = call-grows us vs l.received l.taken stage r.grows k

  pub links-stay : (es : List SealEntry) → AreHarmless vs es → (links : List (Link ClientStage)) → AllByRecursion LinkBefore links → AllByRecursion (LinkBehind told (Later es)) links
  links-stay es harmless links h = all-map LinkBefore (LinkBehind told (Later es)) (link-stays es harmless) links h

  -- what it logs is harmless
  pub harmless-moves : (o : Outcome WholeClientNode) → AreHarmless vs o.out.seals → AllByRecursion (LinkBehind told (Later o.out.seals)) o.state.links → AllByRecursion IsNoFetch o.out.entries → ClientMoved o
  harmless-moves o harmless links entries = record {
    next = told;
    moved = Quiets;
    apart = λ m unlike link challenge drew key is. (tt, (harmless-none vs r.one o.out.seals harmless key (m, challenge, is)).0);
    quiet = λ key number m challenge means. (tt, (harmless-none vs r.one o.out.seals harmless key (m, challenge, record { number = number; means = means })).1);
    known_of = told-stays run whole us vs log J n line o.out.seals r.one r.grows r.inv (events_of past) (events_of (p ∷ past)) (more-events p past) told r.known_of
        (harmless-none vs r.one o.out.seals harmless);
    handed = handed-stays run whole us vs log J n line o.out.seals r.one r.grows r.inv logins r.handed (harmless-plain vs o.out.seals harmless);
    links = links;
    entries = entries;
  }

  -- ---- a row of a link to the monitor

  module _ {S : Type 0} (H : Told → List Logged → List ℕ → S → Type 0) (link : ℕ) (row : Row MonClient S) (b : MonClientBehind H run us vs logins told past p name log link row) where
    -- any other link
    other-stays : (l : Link ClientStage) → (l.number ≡ link → ⊥) → LinkBefore l → LinkBehind b.next (Later row.seals) l
    other-stays l unlike h = (by_stage l.stage h.0, h.1)
      where
        by_stage : (stage : ClientStage) → ClientStageHas (events_of past) us logins told log name l.number l.received l.taken l.sent stage
            → ClientStageHas (events_of (p ∷ past)) vs logins b.next (Later row.seals) name l.number l.received l.taken l.sent stage
        by_stage (ToMonitor stage) k =
            mon_client_has-stays run whole us vs log J n line row.seals r.one r.grows r.inv (events_of past) (events_of (p ∷ past)) (more-events p past) told r.known_of logins logins (λ x has. has) b.next
            b.moved name l.number l.sent stage (λ challenge drew key is. b.apart name l.number (λ e. unlike (sym e.1)) challenge drew key is) k
        by_stage (ToDaemon stage) k = call-grows us vs l.received l.taken stage r.grows k

    -- its links, where the one of the row is left so
    pub row-moves : (o : Outcome WholeClientNode) → o.out.seals ≡ row.seals → (links : List (Link ClientStage)) → AllByRecursion LinkBefore links → (left : Option (Link ClientStage))
        → IfSome left (λ (l : Link ClientStage). (l.number ≡ link) × LinkBehind b.next (Later row.seals) (record l { sent = l.sent ++ row.sends }))
        → o.state.links ≡ links_behind links link row.sends left → AllByRecursion IsNoFetch o.out.entries → ClientMoved o
    row-moves o seals links before left here is entries =
        let later : Later row.seals ≡ Later o.out.seals = ap (λ (es : List SealEntry). Later es) (sym seals) in
        let all : AllByRecursion (LinkBehind b.next (Later row.seals)) (links_behind links link row.sends left) =
        behind-others LinkBefore (LinkBehind b.next (Later row.seals)) link other-stays links row.sends left here before in
        record {
          next = b.next;
          moved = b.moved;
          apart = λ m unlike other challenge drew key login.
              let a = b.apart m other (λ e. unlike (sym e.0)) challenge drew key login in (a.0, ap (λ (es : List SealEntry). contents_by key of_connector es) seals ∙ a.1);
          quiet = λ key number m challenge means.
              let q = b.quiet key number m challenge means in (q.0, ap (λ (es : List SealEntry). contents_by key of_acceptor es) seals ∙ q.1);
          known_of = subst (λ (l : List Logged). AreTold run (events_of (p ∷ past)) vs b.next l) later b.known_of;
          handed = subst (λ (l : List Logged). AreHanded vs logins l) later b.handed;
          links = subst (λ (l : List Logged). AllByRecursion (LinkBehind b.next l) o.state.links) later
              (subst (λ (ls : List (Link ClientStage)). AllByRecursion (LinkBehind b.next (Later row.seals)) ls) (sym is) all);
          entries = entries;
        }
