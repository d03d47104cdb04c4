-- An outcome of a daemon that says nothing, on no link, keeps what is known of links to the monitor, and of its own links.
use Rattle.std.proofs.Common.{◌≡◌, ℕ, List, [], ◌∷◌, refl, sym, ap, subst}
use Rattle.std.specs.List.{AllByRecursion}
use Rattle.cx_base.specs.Names.{Name}
use Rattle.cx_base.specs.declared.nodes.NodeName.{NodeName}
use Rattle.cx_base.specs.declared.nodes.NodeName.TheVariants as node
use Rattle.cx_journal.specs.declared.entries.Entry.{Entry}
use Rattle.cx_journal.specs.declared.entries.Entry.TheVariants as journal
use Rattle.cx_laws_run.proofs.cover.MonClientStays.{mon_client_has-stays}
use Rattle.cx_laws_run.proofs.cover.DaemonReady.{DaemonReady, Keeps, NodeBehind}
use Rattle.cx_laws_run.proofs.cover.OwnRows.{EntersSo, NoFetch}
use Rattle.cx_laws_run.proofs.cover.State.{DaemonLinksHave, DaemonStageHas}
use Rattle.cx_laws_run.proofs.truth.DaemonWalk.{one-of}
use Rattle.cx_laws_run.specs.cx_laws_tickets.proofs.fetch.AskedKnown.{IsLoginKey, Told}
use Rattle.cx_laws_run.specs.cx_laws_tickets.proofs.fetch.AskedMoving.{IsNotAsked, Moved, Quiets}
use Rattle.cx_laws_run.specs.cx_laws_tickets.proofs.fetch.Handed.{IsPlain, handed-stays}
use Rattle.cx_laws_run.specs.cx_laws_tickets.proofs.fetch.Later.{of_acceptor, of_connector}
use Rattle.cx_laws_run.specs.cx_laws_tickets.proofs.fetch.PointEvents.{events_of, more-events}
use Rattle.cx_laws_run.specs.cx_laws_tickets.proofs.fetch.Retied.{Handed, retied}
use Rattle.cx_laws_run.specs.cx_laws_tickets.proofs.fetch.ToldStays.{SealsNone, told-stays}
use Rattle.cx_laws_run.specs.cx_laws_keys.proofs.keys.Lists.{all-map}
use Rattle.cx_laws_run.specs.cx_laws_keys.proofs.keys.Premises.{behind}
use Rattle.cx_laws_run.specs.cx_laws_keys.proofs.keys.Uses.{Uses, WholeRun}
use Rattle.cx_laws_run.specs.cx_laws_keys.proofs.series.Contents.{contents_by}
use Rattle.cx_laws_run.specs.cx_rules.specs.Connector as connector
use Rattle.cx_laws_run.specs.cx_rules.specs.Links.{Link}
use Rattle.cx_laws_run.specs.cx_rules.specs.Rows.{Outcome, idles}
use Rattle.cx_laws_run.specs.cx_rules_session.specs.DaemonRule.{AsAcceptor, AsConnector, DaemonNode, DaemonStage}
use Rattle.cx_laws_run.specs.cx_run.proofs.DaemonOutcomes.{IsNew, IsRest, RestEntry, rested, rested-all}
use Rattle.cx_laws_run.specs.cx_run.specs.Points.{Point}
use Rattle.cx_steps.specs.declared.seals.Logged.{Logged}
use Rattle.cx_steps.specs.declared.seals.SealEntry.{SealEntry}

module _ (run : WholeRun) (whole : List Logged) (us vs : Uses) (logins : List Handed) (told : Told) (past : List Point) (p : Point) (log : List Logged) (J : List Entry) (d : DaemonNode)
    (r : DaemonReady run whole us vs logins told past p log J d) where
  abbrev name : Name
  name = d.own.mon_client.name

  abbrev n : NodeName
  n = node.Entity d.own.mon_client.name

  abbrev line : ℕ
  line = p.happening.line

  abbrev before_us : Uses
  before_us = retied logins us

  abbrev behind_us : Uses
  behind_us = retied logins vs

  abbrev Node_ : Outcome DaemonNode → Type 0
  Node_ o = NodeBehind run us vs logins told past p log d.own.mon_client.name o

  abbrev later : List SealEntry → List Logged
  later es = behind n line es log

  abbrev Keeps_ : Outcome DaemonNode → Type 0
  Keeps_ o = Keeps run whole us vs logins told past p log d o

  -- ---- links on which nothing is said

  -- a link on which nothing is said keeps what is known of it
  pub link-stays : (es : List SealEntry) (next : Told) (m : Moved told next) (number : ℕ)
      → ((challenge : ℕ) → (events_of past).drew d.own.mon_client.name number challenge → (key : List ℕ) → IsLoginKey behind_us key d.own.mon_client.name challenge
      → IsNotAsked m key × (contents_by key of_connector es ≡ []))
      → (sent : List ℕ) (stage : DaemonStage) → DaemonStageHas (events_of past) before_us logins told log name number sent stage
      → DaemonStageHas (events_of (p ∷ past)) behind_us logins next (later es) name number sent stage
  link-stays es next m number apart sent (AsAcceptor stage) h = tt
  link-stays es next m number apart sent (AsConnector stage) h =
      mon_client_has-stays run whole before_us behind_us log J n line es r.mon_client.one r.mon_client.grows r.mon_client.inv (events_of past) (events_of (p ∷ past)) (more-events p past) told r.mon_client.known_of
      logins logins (λ l has. has) next m name number sent stage apart h

  pub all-stay : (es : List SealEntry) → SealsNone behind_us es → DaemonLinksHave (events_of (p ∷ past)) behind_us logins told (later es) name d.links
  all-stay es none =
      all-map (λ (l : Link DaemonStage). DaemonStageHas (events_of past) before_us logins told log name l.number l.sent l.stage)
      (λ (l : Link DaemonStage). DaemonStageHas (events_of (p ∷ past)) behind_us logins told (later es) name l.number l.sent l.stage)
      (λ l h. link-stays es told Quiets l.number (λ challenge drew key is. (tt, (none key (name, challenge, is)).0)) l.sent l.stage h) d.links r.links

  -- an outcome that says nothing
  pub quiet-node : (o : Outcome DaemonNode) → SealsNone behind_us o.out.seals → AllByRecursion (IsPlain behind_us) o.out.seals → AllByRecursion (EntersSo NoFetch) o.out.entries
      → DaemonLinksHave (events_of (p ∷ past)) behind_us logins told (later o.out.seals) name o.state.links → Node_ o
  quiet-node o none plain entries links = record {
    next = told;
    moved = Quiets;
    apart = λ m other link challenge drew key is. (tt, (none key (m, challenge, is)).0);
    quiet = λ key number m challenge means. (tt, (none key (m, challenge, record { number = number; means = means })).1);
    known_of = told-stays run whole before_us behind_us log J n line o.out.seals r.mon_client.one r.mon_client.grows r.mon_client.inv (events_of past) (events_of (p ∷ past)) (more-events p past) told
        r.mon_client.known_of none;
    handed = handed-stays run whole before_us behind_us log J n line o.out.seals r.mon_client.one r.mon_client.grows r.mon_client.inv logins r.mon_client.handed plain;
    links = links;
    fetched = λ f has. absurd (one-of (EntersSo NoFetch) o.out.entries (journal.Fetched f) entries has);
  }

  pub nothing-none : (es : List SealEntry) → es ≡ [] → SealsNone behind_us es
  nothing-none es is key login = (ap (λ (l : List SealEntry). contents_by key of_connector l) is, ap (λ (l : List SealEntry). contents_by key of_acceptor l) is)

  -- of a link that has just opened nothing is to be known
  new-has : (es : List SealEntry) (number : ℕ) (sent : List ℕ) (stage : DaemonStage) → IsNew stage → DaemonStageHas (events_of (p ∷ past)) behind_us logins told (later es) name number sent stage
  new-has es number sent (AsAcceptor stage) is = tt
  new-has es number sent (AsConnector (connector.AwaitsBanner asked)) is = tt
  new-has es number sent (AsConnector (connector.AwaitsHello asked)) is = absurd is
  new-has es number sent (AsConnector (connector.AwaitsChallenge asked)) is = absurd is
  new-has es number sent (AsConnector connector.AwaitsDone) is = absurd is
  new-has es number sent (AsConnector (connector.AwaitsSignature s login)) is = absurd is
  new-has es number sent (AsConnector (connector.AwaitsIdent s session)) is = absurd is
  new-has es number sent (AsConnector (connector.Open s requests)) is = absurd is

  no-fetch : (e : Entry) → RestEntry e → EntersSo NoFetch e
  no-fetch (journal.Fetched f) h = absurd h
  no-fetch _ h = tt

  pub rests : (o : Outcome DaemonNode) → IsRest d o → Keeps_ o
  rests o rest at g had =
      let none : SealsNone behind_us o.out.seals = nothing-none o.out.seals rest.seals in
      quiet-node o none (subst (λ (es : List SealEntry). AllByRecursion (IsPlain behind_us) es) (sym rest.seals) tt)
      (all-map RestEntry (EntersSo NoFetch) no-fetch o.out.entries rest.entries)
      (rested-all (λ (number : ℕ) (sent : List ℕ) (stage : DaemonStage). DaemonStageHas (events_of (p ∷ past)) behind_us logins told (later o.out.seals) name number sent stage)
      (new-has o.out.seals) d.links o.state.links rest.links
      (λ l has. one-of (λ (x : Link DaemonStage). DaemonStageHas (events_of (p ∷ past)) behind_us logins told (later o.out.seals) name x.number x.sent x.stage) d.links l
      (all-stay o.out.seals none) has))

  pub idle : Keeps_ (idles d)
  idle = rests (idles d) (record { seals = refl; save = refl; entries = tt; name = refl; secret = refl; links = rested d.links })
