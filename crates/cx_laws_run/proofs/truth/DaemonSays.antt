-- Each step of a daemon, behind which what was said is known: all that was given is known then, and no answer is entered.
use Rattle.std.proofs.Common.{◌≡◌, ℕ, List, [], ◌++◌, inl, inr, refl, sym, subst, append-nil}
use Rattle.std.specs.Prelude.{Contains}
use Rattle.std.specs.List.{AllByRecursion}
use Rattle.cx_laws_run.specs.cx_authorize.specs.Daemon.{Authority}
use Rattle.cx_base.specs.Names.{Name}
use Rattle.cx_base.specs.declared.nodes.NodeName.TheVariants as node
use Rattle.cx_desk.specs.Handlers.{Handlers}
use Rattle.cx_journal.specs.Behind.{EachBehind}
use Rattle.cx_journal.specs.declared.entries.Answered.{Answered}
use Rattle.cx_journal.specs.declared.entries.Entry.{Entry}
use Rattle.cx_journal.specs.declared.entries.Entry.TheVariants as journal
use Rattle.cx_laws_run.specs.cx_laws_tickets.proofs.authorize.DaemonRows.{LinksHave}
use Rattle.cx_laws_run.specs.cx_laws_keys.proofs.keys.Journal.{entered}
use Rattle.cx_laws_run.specs.cx_laws_keys.proofs.keys.Lists.{all-map}
use Rattle.cx_laws_run.specs.cx_laws_keys.proofs.keys.Premises.{behind}
use Rattle.cx_laws_run.specs.cx_laws_keys.proofs.keys.Uses.{Uses, WholeRun, stays}
use Rattle.cx_laws_run.specs.cx_laws_sessions.proofs.session.Daemons.{daemon-comes}
use Rattle.cx_laws_run.specs.cx_laws_sessions.proofs.session.Moves.{Admitting, Ending, IsQuiet, IsRight, LinksServe, Rested, Resuming, StepComes}
use Rattle.cx_laws_run.specs.cx_laws_keys.proofs.series.Contents.{contents_by}
use Rattle.cx_laws_run.specs.cx_rules.specs.Inputs.{Input}
use Rattle.cx_laws_run.specs.cx_rules.specs.Links.{Link}
use Rattle.cx_laws_run.specs.cx_rules.specs.Rows.{Outcome}
use Rattle.cx_laws_run.specs.cx_rules_session.specs.DaemonRule.{DaemonStage, DaemonState, book_after, book_reply, daemon_rule, daemon_step}
use Rattle.cx_laws_run.specs.cx_rules_session.specs.IncomingLinks.{Served}
use Rattle.cx_laws_run.specs.cx_run.proofs.Always.{always-book}
use Rattle.cx_laws_run.specs.cx_run.proofs.DaemonNamed.{daemon-named}
use Rattle.cx_session.specs.Book.{Book}
use Rattle.cx_steps.specs.declared.seals.Logged.{Logged}
use Rattle.cx_laws_run.specs.cx_laws_links.proofs.links.Known.{Told}
use Rattle.cx_laws_run.specs.cx_laws_links.proofs.links.Written.{IsLinkKey}
use Rattle.cx_laws_run.specs.cx_laws_links.proofs.answers.AllGiven.{AllGiven}
use Rattle.cx_laws_run.specs.cx_laws_links.proofs.answers.CallHears.{EndsSo}
use Rattle.cx_laws_run.specs.cx_laws_links.proofs.answers.EndsRead.{AreRead, IsRead, read-grows}
use Rattle.cx_laws_run.specs.cx_laws_links.proofs.answers.Given.{Given, is_acceptors}
use Rattle.cx_laws_run.specs.cx_laws_links.proofs.answers.Moving.{Longer}
use Rattle.cx_laws_run.proofs.sent.State.{IsLinkAt}
use Rattle.cx_laws_run.proofs.sent.Steps.{DaemonReady}
use Rattle.cx_laws_run.proofs.truth.DaemonGives.{StepGiven}
use Rattle.cx_laws_run.proofs.truth.DaemonTruths.{Keeps, rule-keeps}
use Rattle.cx_laws_run.proofs.truth.IncomingLinksStay.{host-still}
use Rattle.cx_laws_run.proofs.truth.OnceHandled.{HandledOnce}
use Rattle.cx_laws_run.proofs.truth.State.{AllTrue, HostGiven, LinksGiven, TruthLaw}
use Rattle.cx_laws_run.proofs.truth.Still.{bound-stays, none-true, read-still}

-- no answer is entered
abbrev pub Never : Answered → Type 0
Never x = ⊥

quiet-none : (e : Entry) → IsQuiet e → EndsSo Never e
quiet-none (journal.Answered x) h = absurd h
quiet-none (journal.Admitted x) h = absurd h
quiet-none (journal.Resumed x) h = absurd h
quiet-none (journal.Sent x) h = absurd h
quiet-none (journal.Handled x) h = absurd h
quiet-none (journal.Ended x) h = absurd h
quiet-none (journal.Restarted x) h = absurd h
quiet-none (journal.Saved x) h = tt
quiet-none (journal.Issued x) h = tt
quiet-none (journal.Fetched x) h = tt
quiet-none (journal.Looked x) h = tt
quiet-none (journal.Refused x) h = tt
quiet-none (journal.Broken x) h = tt
quiet-none (journal.Leaked x) h = tt

module _ (handlers : Handlers) (name : Name) (book new : Book Authority) (had has : Served → Type 0) where
  right-none : (e : Entry) → IsRight handlers name book had e → EndsSo Never e
  right-none (journal.Answered x) h = absurd h
  right-none (journal.Admitted x) h = absurd h
  right-none (journal.Resumed x) h = absurd h
  right-none (journal.Sent x) h = absurd h
  right-none (journal.Handled x) h = tt
  right-none (journal.Ended x) h = absurd h
  right-none (journal.Restarted x) h = absurd h
  right-none (journal.Saved x) h = tt
  right-none (journal.Issued x) h = tt
  right-none (journal.Fetched x) h = tt
  right-none (journal.Looked x) h = tt
  right-none (journal.Refused x) h = tt
  right-none (journal.Broken x) h = tt
  right-none (journal.Leaked x) h = tt

  comes-none : (es : List Entry) → StepComes handlers name book had has es new → AllByRecursion (EndsSo Never) es
  comes-none es (inl (Rested r)) = all-map (IsRight handlers name book had) (EndsSo Never) right-none es r.right
  comes-none es (inl (Admitting r)) = subst (λ (l : List Entry). AllByRecursion (EndsSo Never) l) (sym r.entries_are) (tt, all-map IsQuiet (EndsSo Never) quiet-none r.rest r.quiet)
  comes-none es (inl (Resuming r)) = subst (λ (l : List Entry). AllByRecursion (EndsSo Never) l) (sym r.entries_are) (tt, all-map IsQuiet (EndsSo Never) quiet-none r.rest r.quiet)
  comes-none es (inl (Ending r)) = subst (λ (l : List Entry). AllByRecursion (EndsSo Never) l) (sym r.entries_are) (tt, tt)
  comes-none es (inr r) = subst (λ (l : List Entry). AllByRecursion (EndsSo Never) l) (sym r.entries_are) (tt, tt)

-- a daemon enters none
pub daemon-none : (handlers : Handlers) (d : DaemonState) (input : Input) (reading : ℕ) (draw : List ℕ) → AllByRecursion (EndsSo Never) (daemon_step handlers d input reading draw).out.entries
daemon-none handlers d input reading draw =
    let o = daemon_step handlers d input reading draw in
    comes-none handlers d.node.own.mon_client.name d.book o.state.book (λ (x : Served). LinksServe d.node.links x) (λ (x : Served). LinksServe o.state.node.links x) o.out.entries
    (daemon-comes handlers d input reading draw)

-- behind a step of a daemon, of this name, that comes to this, where this is told then: what it gave, under keys of its own links; all that was given; what its links
-- have of it; and under the key of another acceptor's link it sealed nothing as that would
pub record DaemonTruth (run : WholeRun) (vs : Uses) (next : Told) (given : List (List ℕ × Given)) (reads : List (List ℕ × ℕ)) (log : List Logged) (line : ℕ) (J K : List Entry) (name : Name)
    (o : Outcome DaemonState) : Type 0 where
  pub more : List (List ℕ × Given)
  pub own : (key : List ℕ) (x : Given) → Contains more (key, x) → IsLinkAt vs key (node.Entity name)
  pub known : AllTrue run vs next (given ++ more) reads (behind (node.Entity name) line o.out.seals log) K
  pub links : LinksGiven run vs next (given ++ more) (behind (node.Entity name) line o.out.seals log) name (node.Entity name) o.state.node.links
  pub elsewhere : (key : List ℕ) (whose : Name) (tie : ℕ) → (is : IsLinkKey vs key whose tie) → (is.acceptor ≡ node.Entity name → ⊥) → contents_by key is_acceptors o.out.seals ≡ []
  pub told_so : EachBehind (TruthLaw run) J o.out.entries

-- sessions that are joined change nothing of what was given
pub joined-longer : (told : Told) (joins : List (List ℕ × ℕ)) → Longer told (record told { joins = joins })
joined-longer told joins = record { more = []; is = sym (append-nil told.said) }

module _ (run : WholeRun) (whole : List Logged) (us vs : Uses) (told : Told) (given : List (List ℕ × Given)) (reads : List (List ℕ × ℕ)) (log : List Logged) (line : ℕ) (J : List Entry) (handlers : Handlers)
    (d : DaemonState) (input : Input) (reading : ℕ) (draw : List ℕ) where
  abbrev o : Outcome DaemonState
  o = daemon_step handlers d input reading draw

  -- where it is of its own name
  module _ (r : DaemonReady run whole us vs told log line J d.node.own.mon_client.name d input draw (daemon_step handlers d input reading draw)) (all : AllTrue run us told given reads log J)
      (links : LinksGiven run us told given log d.node.own.mon_client.name (node.Entity d.node.own.mon_client.name) d.node.links) (once : EachBehind (HandledOnce run) J (daemon_step handlers d input reading draw).out.entries)
      (joins : List (List ℕ × ℕ)) where
    abbrev name : Name
    name = d.node.own.mon_client.name

    abbrev next : Told
    next = record told { joins = joins }

    abbrev K : List Entry
    K = entered J (daemon_step handlers d input reading draw).out.entries

    abbrev later : List Logged
    later = behind (node.Entity d.node.own.mon_client.name) line (daemon_step handlers d input reading draw).out.seals log

    have : LinksHave run (node.Entity d.node.own.mon_client.name) vs (daemon_step handlers d input reading draw).state.node.links
    have = subst (λ (m : Name). LinksHave run (node.Entity m) vs (daemon_step handlers d input reading draw).state.node.links) (daemon-named handlers d input reading draw) r.ok_behind.links

    step : StepGiven run whole us vs told given log J line r.inv r.grows all.all d.node.own.mon_client.name (record { state = (daemon_step handlers d input reading draw).state.node; out = (daemon_step handlers d input reading draw).out })
    step =
        always-book (Keeps run whole us vs told given log J line r.inv r.grows r.known_of r.spelled all.all d.node r.links links r.ok.known.fetched.generated reading draw r.drawn) book_reply book_after d.book
        (daemon_rule handlers d.node input reading draw)
        (rule-keeps run whole us vs told given log J line r.inv r.grows r.known_of r.spelled all.all d.node r.links links r.ok.known.fetched.generated reading draw r.drawn handlers input) r.granted r.inv_behind have once

    none : AllByRecursion (EndsSo Never) (daemon_step handlers d input reading draw).out.entries
    none = daemon-none handlers d input reading draw

    all-behind : AllGiven run vs next (given ++ step.more) later K
    all-behind = record { known = step.known.known; step = step.known.step; once = step.known.once }

    read-behind : AreRead run vs (given ++ step.more) reads K
    read-behind x has free =
        let was : IsRead vs given reads x = (read-still run us vs given reads J (daemon_step handlers d input reading draw).out.entries r.grows none all.read) x has free in
        subst (λ (l : List (List ℕ × ℕ)). IsRead vs (given ++ step.more) l x) (append-nil reads) (read-grows vs vs given step.more reads [] x (stays vs) was)

    links-behind : LinksGiven run vs next (given ++ step.more) later name (node.Entity d.node.own.mon_client.name) (daemon_step handlers d input reading draw).state.node.links
    links-behind =
        all-map (λ (l : Link DaemonStage). HostGiven run vs told (given ++ step.more) later (node.Entity d.node.own.mon_client.name) name l.number l.stage)
        (λ (l : Link DaemonStage). HostGiven run vs next (given ++ step.more) later (node.Entity d.node.own.mon_client.name) name l.number l.stage)
        (λ l was. host-still run vs vs (stays vs) told next (joined-longer told joins) (given ++ step.more) (given ++ step.more) later (node.Entity d.node.own.mon_client.name) line [] (node.Entity d.node.own.mon_client.name) name l.number
        (λ key whose tie is at. record { sealed = refl; given_is = refl }) l.stage was) (daemon_step handlers d input reading draw).state.node.links step.links

    pub own-truth : DaemonTruth run vs next given reads log line J K d.node.own.mon_client.name (daemon_step handlers d input reading draw)
    own-truth = record {
      more = step.more;
      own = step.own;
      known = record { all = all-behind; read = read-behind; bound = bound-stays us vs told next reads r.grows (λ nonce whose second key b. b) all.bound };
      links = links-behind;
      elsewhere = step.elsewhere;
      told_so = none-true run J (daemon_step handlers d input reading draw).out.entries none;
    }

  -- so it is of a daemon of this name
  abbrev IsTruthAs : Name → Type 0
  IsTruthAs name = DaemonReady run whole us vs told log line J name d input draw (daemon_step handlers d input reading draw) → AllTrue run us told given reads log J
      → LinksGiven run us told given log name (node.Entity name) d.node.links → EachBehind (HandledOnce run) J (daemon_step handlers d input reading draw).out.entries → (joins : List (List ℕ × ℕ))
      → DaemonTruth run vs (record told { joins = joins }) given reads log line J (entered J (daemon_step handlers d input reading draw).out.entries) name (daemon_step handlers d input reading draw)

  pub daemon-truth : (name : Name) → d.node.own.mon_client.name ≡ name → IsTruthAs name
  daemon-truth name named = subst IsTruthAs named own-truth
