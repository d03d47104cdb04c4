-- A row of a daemon's link: all that is known of what was given stays known behind it, with what it gives.
use Rattle.std.proofs.Common.{◌≡◌, ℕ, Bool, List, [], ◌∷◌, ◌++◌, Option, Some, None, refl, sym, ap, ◌∙◌, subst, arith, append-nil}
use Rattle.std.proofs.lemmas.Bool.{false_from_ne_true}
use Rattle.std.proofs.lemmas.Slice.Eq.{bytes_eq-Decides}
use Rattle.std.specs.Prelude.{Contains}
use Rattle.std.specs.Option.{option_map}
use Rattle.std.specs.Str.{bytes_eq}
use Rattle.cx_base.specs.Names.{Name}
use Rattle.cx_base.specs.declared.nodes.NodeName.{NodeName}
use Rattle.cx_base.specs.declared.nodes.NodeName.TheVariants as node
use Rattle.cx_journal.specs.Behind.{EachBehind}
use Rattle.cx_journal.specs.declared.entries.Entry.{Entry}
use Rattle.cx_journal.specs.declared.entries.Entry.TheVariants as journal
use Rattle.cx_journal.specs.declared.entries.Handled.{Handled}
use Rattle.cx_laws_run.specs.cx_laws_keys.proofs.keys.Journal.{entered}
use Rattle.cx_laws_run.specs.cx_laws_keys.proofs.keys.Known.{Inv}
use Rattle.cx_laws_run.specs.cx_laws_keys.proofs.keys.Lists.{all-map}
use Rattle.cx_laws_run.specs.cx_laws_keys.proofs.keys.Premises.{behind}
use Rattle.cx_laws_run.specs.cx_laws_keys.proofs.keys.Uses.{AtDaemon, Connected, Grows, Means, Uses, WholeRun}
use Rattle.cx_laws_run.specs.cx_laws_keys.proofs.series.Contents.{contents_by}
use Rattle.cx_laws_run.specs.cx_rules.specs.Acceptor as acceptor
use Rattle.cx_laws_run.specs.cx_rules.specs.Links.{Link}
use Rattle.cx_laws_run.specs.cx_rules.specs.Rows.{Outcome, carried_out}
use Rattle.cx_laws_run.specs.cx_rules.specs.Secured.{Secured}
use Rattle.cx_laws_run.specs.cx_rules_session.specs.DaemonRule.{AsAcceptor, AsConnector, DaemonNode, DaemonStage, with_mon_client}
use Rattle.cx_laws_run.specs.cx_rules_session.specs.IncomingLinks.{IncomingRow, IncomingStage}
use Rattle.cx_laws_run.specs.cx_rules_session.specs.Kinds.{of_kind, row_of_kind}
use Rattle.cx_steps.specs.declared.seals.Logged.{Logged}
use Rattle.cx_laws_run.specs.cx_laws_links.proofs.links.IncomingTakes.{IsServedIn}
use Rattle.cx_laws_run.specs.cx_laws_links.proofs.links.IncomingWords.{AreSpelled}
use Rattle.cx_laws_run.specs.cx_laws_links.proofs.links.Known.{AreTold, Told}
use Rattle.cx_laws_run.specs.cx_laws_links.proofs.links.Lifting.{link-grows}
use Rattle.cx_laws_run.specs.cx_laws_links.proofs.links.Written.{IsLinkKey}
use Rattle.cx_laws_run.specs.cx_laws_links.proofs.answers.AllGiven.{AllGiven, IncomingApart, givers-apart, incoming-given, incoming-others}
use Rattle.cx_laws_run.specs.cx_laws_links.proofs.answers.Given.{Given, gives_under, is_acceptors}
use Rattle.cx_laws_run.specs.cx_laws_links.proofs.answers.Growing.{gives-lifts}
use Rattle.cx_laws_run.specs.cx_laws_links.proofs.answers.IncomingKnown.{IncomingStep}
use Rattle.cx_laws_run.specs.cx_laws_links.proofs.answers.Keyed.{gives-key}
use Rattle.cx_laws_run.specs.cx_laws_links.proofs.answers.Known.{WasServed, continues}
use Rattle.cx_laws_run.specs.cx_laws_links.proofs.answers.Moving.{in-step-speaks}
use Rattle.cx_laws_run.specs.cx_laws_links.proofs.answers.Once.{once-stays}
use Rattle.cx_laws_run.specs.cx_laws_links.proofs.answers.Replied.{IncomingGiven, IsGiver}
use Rattle.cx_laws_run.proofs.sent.DaemonKnown.{IsOne}
use Rattle.cx_laws_run.proofs.sent.State.{IsLinkAt}
use Rattle.cx_laws_run.proofs.truth.FirstGiven.{acceptor_of}
use Rattle.cx_laws_run.proofs.truth.DaemonWalk.{AreFrom, behind-apart, from-all}
use Rattle.cx_laws_run.proofs.truth.IncomingLinksStay.{all-still, incoming-still, host-blank, host-still, same-told}
use Rattle.cx_laws_run.proofs.truth.OnceHandled.{HandledOnce}
use Rattle.cx_laws_run.proofs.truth.State.{GivesNothing, HostGiven, LinksGiven}

none-in : {X : Type 0} (x : X) → Contains [] x → ⊥
none-in x has = omega (arith, has.1)

module _ (run : WholeRun) (whole : List Logged) (us vs : Uses) (told : Told) (given : List (List ℕ × Given)) (log : List Logged) (J : List Entry) (line : ℕ) (i : Inv run whole us log J) (f : Grows us vs)
    (h : AllGiven run us told given log J) (daemon : Name) where
  abbrev n : NodeName
  n = node.Entity daemon

  -- what is known behind a step: what it gave, under keys of its own links; all that was given then; what the daemon's links have of it; and it seals nothing under
  -- the key of a link of another acceptor as that would
  pub record StepGiven (o : Outcome DaemonNode) : Type 0 where
    pub more : List (List ℕ × Given)
    pub own : (key : List ℕ) (x : Given) → Contains more (key, x) → IsLinkAt vs key (node.Entity daemon)
    pub known : AllGiven run vs told (given ++ more) (behind (node.Entity daemon) line o.out.seals log) (entered J o.out.entries)
    pub links : LinksGiven run vs told (given ++ more) (behind (node.Entity daemon) line o.out.seals log) daemon (node.Entity daemon) o.state.links
    pub elsewhere : (key : List ℕ) (name : Name) (tie : ℕ) → (is : IsLinkKey vs key name tie) → (is.acceptor ≡ node.Entity daemon → ⊥) → contents_by key is_acceptors o.out.seals ≡ []

  -- ---- a step that gives nothing

  pub quiet-given : (d : DaemonNode) → LinksGiven run us told given log daemon n d.links → (o : Outcome DaemonNode) → IsOne vs → GivesNothing vs o.out.seals → AreFrom d.links o.state.links → StepGiven o
  quiet-given d gives o one quiet from =
      let later : List Logged = behind n line o.out.seals log in
      let K : List Entry = entered J o.out.entries in
      let all : AllGiven run vs told given later K = all-still run whole us vs told told given log J K n line o.out.seals one f (continues J o.out.entries) i (same-told told) quiet h in
      let links : LinksGiven run vs told given later daemon n o.state.links =
      from-all (λ (number : ℕ) (stage : DaemonStage). HostGiven run vs told given later n daemon number stage) (host-blank run vs told given later n daemon) d.links o.state.links from
      (all-map (λ (l : Link DaemonStage). HostGiven run us told given log n daemon l.number l.stage) (λ (l : Link DaemonStage). HostGiven run vs told given later n daemon l.number l.stage)
      (λ l was. host-still run us vs f told told (same-told told) given given log n line o.out.seals n daemon l.number (λ key name tie is at. record { sealed = quiet key name tie (link-grows us vs key name tie f is); given_is = refl }) l.stage was)
      d.links gives) in
      record {
        more = [];
        own = λ key x has. absurd (none-in (key, x) has);
        known = subst (λ (l : List (List ℕ × Given)). AllGiven run vs told l later K) (sym (append-nil given)) all;
        links = subst (λ (l : List (List ℕ × Given)). LinksGiven run vs told l later daemon n o.state.links) (sym (append-nil given)) links;
        elsewhere = λ key name tie is apart. quiet key name tie is;
      }

  -- ---- a row of an incoming link behind authentication

  module _ (t : AreTold run us told log J) (spelled : AreSpelled told) (number : ℕ) (s : Secured) (name : Name) (k : IsGiver us given log (node.Entity daemon) daemon number s name) (row : IncomingRow)
      (step : IncomingStep run whole us told given log J (node.Entity daemon) line i t spelled h.known daemon number s.keys.key name row) (one : IsOne vs) (once : EachBehind (HandledOnce run) J row.entries) where
    abbrev key : List ℕ
    key = s.keys.key

    abbrev now : List (List ℕ × Given)
    now = given ++ gives_under s.keys.key step.words

    abbrev later : List Logged
    later = behind (node.Entity daemon) line row.seals log

    abbrev K : List Entry
    K = entered J row.entries

    is-link : IsLinkKey us s.keys.key name k.tie
    is-link = record { acceptor = node.Entity daemon; number = number; service = daemon.kind; means = k.means }

    anew : (Contains run.leaked name → ⊥) → (x y : Handled) → row.entries ≡ journal.Handled x ∷ [] → IsServedIn J name x → WasServed J name y → y.cookie ≡ x.cookie → y.seq ≡ x.seq → ⊥
    anew free x y is served was cookie seq = (subst (λ (es : List Entry). EachBehind (HandledOnce run) J es) is once).0 name free served y was cookie seq

    -- what is known by the keys that were known before
    all-before : AllGiven run us told now later K
    all-before = incoming-given run whole us told given log J n line i t spelled h daemon number s.keys.key name k.tie is-link row step anew

    all-now : AllGiven run vs told now later K
    all-now = record {
      known = gives-lifts run whole us vs given log J K n line row.seals one f (continues J row.entries) i h.known s.keys.key name k.tie is-link step.words step.others all-before.known;
      step = in-step-speaks run us vs told told now later K one f (same-told told) all-before.known all-before.step;
      once = once-stays run us vs now later K one f all-before.known all-before.once;
    }

    -- so it is of a link by them
    lifts : (other : ℕ) (stage : IncomingStage) → IncomingGiven run us told now later n daemon other stage → IncomingGiven run vs told now later n daemon other stage
    lifts other stage was = incoming-still run us vs f told told (same-told told) now now later n line [] n daemon other (λ k m tied is at. record { sealed = refl; given_is = refl }) stage was

    apart-from : (other : ℕ) (stage : IncomingStage) → (other ≡ number → ⊥) → IncomingGiven run us told given log n daemon other stage → IncomingApart s.keys.key stage
    apart-from other (acceptor.AwaitsSignature r owner) differs was = givers-apart us i.one given log n daemon number other s r name owner.ticket.name k was.0 (λ e. differs (sym e))
    apart-from other (acceptor.AwaitsIdent r owner) differs was = givers-apart us i.one given log n daemon number other s r name owner.ticket.name k was.0 (λ e. differs (sym e))
    apart-from other (acceptor.Open r served) differs was = givers-apart us i.one given log n daemon number other s r name was.0 k was.1 (λ e. differs (sym e))
    apart-from other acceptor.AwaitsBanner differs was = tt
    apart-from other acceptor.AwaitsHello differs was = tt
    apart-from other acceptor.AwaitsRequest differs was = tt
    apart-from other (acceptor.AwaitsProof awaited) differs was = tt

    others : (other : ℕ) (stage : DaemonStage) → (other ≡ number → ⊥) → HostGiven run us told given log n daemon other stage → HostGiven run vs told now later n daemon other stage
    others other (AsAcceptor stage) differs was =
        lifts other stage (incoming-others run whole us told given log J n line i t spelled h daemon number s.keys.key name k.tie is-link row step anew n daemon other stage (apart-from other stage differs was) was)
    others other (AsConnector stage) differs was = tt

    own-goes : (found : Option (Link IncomingStage)) → row.link ≡ found → (l : Link DaemonStage) → option_map (of_kind AsAcceptor) found ≡ Some l → (l.number ≡ number) × HostGiven run vs told now later n daemon number l.stage
    own-goes None is l e = absurd (none-links l e)
      where
        none-links : (x : Link DaemonStage) → (let o : Option (Link DaemonStage) = None in o ≡ Some x) → ⊥
        none-links x e = cc
    own-goes (Some link) is l e =
        let same : of_kind AsAcceptor link ≡ l = cc in
        let has = step.link link is in (
          ap (λ (x : Link DaemonStage). x.number) (sym same) ∙ has.0,
          subst (λ (x : Link DaemonStage). HostGiven run vs told now later n daemon number x.stage) same (lifts number link.stage has.1),
        )

    -- what is given is given under the link's own key
    abbrev at-own : IsLinkAt vs s.keys.key (node.Entity daemon)
    at-own = record { number = number; whose = name; tie = AtDaemon daemon.kind k.tie; means = f.means s.keys.key (Connected n number name (AtDaemon daemon.kind k.tie)) k.means }

    nothing-else : (other : List ℕ) (whose : Name) (tied : ℕ) → (is : IsLinkKey vs other whose tied) → (is.acceptor ≡ node.Entity daemon → ⊥) → contents_by other is_acceptors row.seals ≡ []
    nothing-else other whose tied is apart =
        step.others other (false_from_ne_true (bytes_eq s.keys.key other) (λ same.
        let there : Means vs other (Connected n number name (AtDaemon daemon.kind k.tie)) =
        subst (λ (l : List ℕ). Means vs l (Connected n number name (AtDaemon daemon.kind k.tie))) ((bytes_eq-Decides s.keys.key other).0 same) at-own.means in
        apart (ap (acceptor_of is.acceptor) (one other (Connected is.acceptor is.number whose (AtDaemon is.service tied)) (Connected n number name (AtDaemon daemon.kind k.tie)) is.means there))))

    pub step-given : (d : DaemonNode) → LinksGiven run us told given log daemon n d.links → (turned : Bool) → StepGiven (carried_out d number turned (row_of_kind (with_mon_client d.own) AsAcceptor row))
    step-given d gives turned = record {
      more = gives_under s.keys.key step.words;
      own = λ other x has. subst (λ (l : List ℕ). IsLinkAt vs l n) (sym (gives-key s.keys.key other step.words x has)) at-own;
      known = all-now;
      links = behind-apart (λ (m : ℕ) (stage : DaemonStage). HostGiven run us told given log n daemon m stage) (λ (m : ℕ) (stage : DaemonStage). HostGiven run vs told now later n daemon m stage) number
          others d.links row.sends (option_map (of_kind AsAcceptor) row.link) gives (own-goes row.link refl);
      elsewhere = nothing-else;
    }
