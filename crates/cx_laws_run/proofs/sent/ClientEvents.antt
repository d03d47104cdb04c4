-- What is known of a client, and of all that was said on links to daemons, stays known behind each of its steps that says nothing there: at any event but a
-- turn of a link to a daemon, and an operation that is sent.
use Rattle.std.proofs.Common.{◌≡◌, ℕ, ◌+◌, ◌≤◌, ◌==◌, Bool, true, false, cond, nat_lt, List, [], ◌∷◌, ◌++◌, find, Option, Some, None, Result, Ok, Err, inl, inr, ◌⊎◌, refl, sym, ap, ◌∙◌, subst, arith, eqb-true}
use Rattle.std.proofs.lemmas.List.Elements.{Contains-push_cases}
use Rattle.std.specs.Option.{option_map}
use Rattle.std.specs.Prelude.{◌&&◌, Contains, filter, not, if◌then◌else◌}
use Rattle.std.specs.List.{AllByRecursion, list_any}
use Rattle.cx_base.proofs.Names.{same_name_is, same_name_self}
use Rattle.cx_base.specs.Names.{Name, same_name}
use Rattle.cx_base.specs.declared.nodes.NodeName.TheVariants as node
use Rattle.cx_base.specs.declared.operations.Operation.{Operation}
use Rattle.cx_journal.specs.declared.entries.Admitted.{Admitted}
use Rattle.cx_journal.specs.declared.entries.Answered.{Answered}
use Rattle.cx_journal.specs.declared.entries.Entry.{Entry}
use Rattle.cx_journal.specs.declared.entries.Entry.TheVariants as journal
use Rattle.cx_journal.specs.declared.outcomes.Reason.{Reason}
use Rattle.cx_journal.specs.declared.outcomes.Reason.TheVariants as reason
use Rattle.cx_laws_sessions.specs.cx_login.specs.Held.{Held}
use Rattle.cx_laws_sessions.specs.cx_rules.specs.Connector as connector
use Rattle.cx_laws_sessions.specs.cx_rules.specs.Greetings.{own_banner}
use Rattle.cx_laws_sessions.specs.cx_rules.specs.Holdings.{MonClient}
use Rattle.cx_laws_sessions.specs.cx_rules.specs.Inputs.{Input, Submit}
use Rattle.cx_laws_sessions.specs.cx_rules.specs.Links.{Link, link_of, put_link, without_link}
use Rattle.cx_laws_sessions.specs.cx_rules.specs.Requests.{Requests, sealed_request, sends_request}
use Rattle.cx_laws_sessions.specs.cx_rules.specs.Rows.{Outcome, Turned, Waits, Refuses, Handles, arrival, carried_out, fed, idles, lifted, links_behind, new_link, refused_entry, turns}
use Rattle.cx_laws_sessions.specs.cx_rules.specs.Secured.{SealedFrame, Secured}
use Rattle.cx_laws_sessions.specs.cx_rules.specs.declared.requests.Want.TheVariants as want
use Rattle.cx_laws_sessions.specs.cx_rules_session.specs.ClientRule.{ClientStage, Dial, ForCall, ForLogin, ToDaemon, ToMonitor, WholeClientNode, calls, calls_with, connects, dial_of, first_call, first_stage, is_for, is_for_login, is_open, is_to, is_to_monitor, logs_in, loses, me, open_to_ask, opens_dialled, own_behind_gone, refuses_command, restarted, undialled, unreached, waits_for_login, whole_client_rule, with_mon_client}
use Rattle.cx_laws_sessions.specs.cx_rules_session.specs.Kinds.{arrival_in, of_kind, turn_of_kind}
use Rattle.cx_laws_sessions.specs.cx_rules_session.specs.Presenter as call
use Rattle.cx_laws_sessions.specs.cx_rules_session.specs.Presenter.{CallStage, callee_of}
use Rattle.cx_laws_sessions.specs.cx_rules_session.specs.Sessions.{Called, Callee, HeldSession, held_gid, session_with, ticket_for}
use Rattle.cx_laws_sessions.specs.cx_run.proofs.ClientKept.{whole-named}
use Rattle.cx_laws_sessions.specs.cx_run.proofs.Outcomes.{mon_client_turn, call_turn, on_link, renewed, sent_in}
use Rattle.cx_laws_sessions.specs.cx_run.proofs.Taking.{EachRow}
use Rattle.cx_laws_run.proofs.sent.EachStep.{EachStep, each-step}
use Rattle.cx_session.specs.Queue.{push_reply}
use Rattle.cx_steps.specs.declared.events.Command.TheVariants as command
use Rattle.cx_steps.specs.declared.events.Peer.{Peer}
use Rattle.cx_steps.specs.declared.events.Peer.TheVariants as peer
use Rattle.cx_steps.specs.declared.seals.Logged.{Logged}
use Rattle.cx_laws_sessions.specs.cx_wire.specs.declared.bodies.Request.TheVariants as asked
use Rattle.cx_laws_run.specs.cx_laws_tickets.proofs.calling.Between.{ClientOk, node_of}
use Rattle.cx_laws_run.specs.cx_laws_tickets.proofs.calling.Entering.{IsOfClient, whole-enters}
use Rattle.cx_laws_run.specs.cx_laws_keys.proofs.keys.Journal.{entered}
use Rattle.cx_laws_run.specs.cx_laws_keys.proofs.keys.Known.{Inv}
use Rattle.cx_laws_run.specs.cx_laws_keys.proofs.keys.Lists.{all-append, all-map, found_all, found_passes}
use Rattle.cx_laws_run.specs.cx_laws_keys.proofs.keys.Premises.{behind}
use Rattle.cx_laws_run.specs.cx_laws_keys.proofs.keys.Uses.{Grows, Uses, WholeRun}
use Rattle.cx_laws_run.specs.cx_laws_keys.proofs.login.Entering.{within-all}
use Rattle.cx_laws_run.specs.cx_laws_keys.proofs.login.Rows.{all-filter}
use Rattle.cx_laws_links.specs.cx_laws_keys.proofs.series.Contents.{contents_by}
use Rattle.cx_laws_links.proofs.links.CallTold.{same-nonces}
use Rattle.cx_laws_links.proofs.links.IncomingWords.{AreSpelled}
use Rattle.cx_laws_links.proofs.links.Known.{AreTold, CallTold, IsOfSession, StageTold, Told}
use Rattle.cx_laws_links.proofs.links.Lifting.{told-stays}
use Rattle.cx_laws_links.proofs.links.Moving.{Quiets, moved-call}
use Rattle.cx_laws_links.proofs.links.Single.{IsSingle, count-append, count-filter, count-found, count-none, count_where, one_where, put-more, put-moved, single-calls, single-less, to_where}
use Rattle.cx_laws_links.proofs.links.Spoken.{is_connectors}
use Rattle.cx_laws_links.proofs.links.Written.{IsLinkKey}
use Rattle.cx_laws_links.proofs.answers.CallHears.{EndsSo}
use Rattle.cx_laws_links.proofs.answers.CallSilent.{NoEnds}
use Rattle.cx_laws_links.proofs.answers.Given.{is_acceptors}
use Rattle.cx_laws_sessions.proofs.session.MonClients.{EntersNone, mon_client-enters}
use Rattle.cx_laws_sessions.proofs.session.Moves.{IsQuiet}
use Rattle.cx_laws_run.proofs.sent.MonClientSteps.{asks-none, renewed-none}
use Rattle.cx_laws_run.proofs.sent.Shown.{ShowsNone, StageFrom, all-from}
use Rattle.cx_laws_run.proofs.sent.State.{CallFits, ClientBehind, ClientKnown, SessionFits, StageFits}

-- ---- lists

-- what follows of both of each item
pub all-both : {X : Type 0} (P Q R : X → Type 0) → ((x : X) → P x → Q x → R x) → (xs : List X) → AllByRecursion P xs → AllByRecursion Q xs → AllByRecursion R xs
all-both P Q R f [] h g = tt
all-both P Q R f (x ∷ xs) h g = (f x h.0 g.0, all-both P Q R f xs h.1 g.1)

-- what holds of all links and of this one holds where it is put among them
pub all-put : {S : Type 0} (P : Link S → Type 0) (link : Link S) (links : List (Link S)) → P link → AllByRecursion P links → AllByRecursion P (put_link link links)
all-put {S} P link links h all =
    all-append P (filter (λ (l : Link S). nat_lt l.number link.number) links) (link ∷ filter (λ (l : Link S). nat_lt link.number l.number) links)
    (all-filter P (λ (l : Link S). nat_lt l.number link.number) links all) (h, all-filter P (λ (l : Link S). nat_lt link.number l.number) links all)

module _ {X : Type 0} (test : X → Bool) where
  -- those that are kept, and those that aren't
  count-split : (keeps : X → Bool) (xs : List X) → count_where test (filter (λ (x : X). not (keeps x)) xs) + count_where test (filter keeps xs) ≡ count_where test xs
  count-split keeps [] = refl
  count-split keeps (x ∷ xs) = by_test (keeps x) (count-split keeps xs)
    where
      by_test : (t : Bool) → count_where test (filter (λ (y : X). not (keeps y)) xs) + count_where test (filter keeps xs) ≡ count_where test xs
          → count_where test (cond (not t) (x ∷ filter (λ (y : X). not (keeps y)) xs) (filter (λ (y : X). not (keeps y)) xs)) + count_where test (cond t (x ∷ filter keeps xs) (filter keeps xs))
          ≡ one_where (test x) + count_where test xs
      by_test true rest = omega (arith, rest)
      by_test false rest = omega (arith, rest)

  none-passes : (xs : List X) → count_where test xs ≡ 0 → AllByRecursion (λ (x : X). test x ≡ false) xs
  none-passes [] e = tt
  none-passes (x ∷ xs) e = by_test (test x) refl (λ z. none-passes xs z)
    where
      by_test : (t : Bool) → test x ≡ t → (count_where test xs ≡ 0 → AllByRecursion (λ (y : X). test y ≡ false) xs) → (test x ≡ false) × AllByRecursion (λ (y : X). test y ≡ false) xs
      by_test true is rest = let one : one_where (test x) ≡ 1 = ap one_where is in absurd (omega (arith, one, e))
      by_test false is rest = let zero : one_where (test x) ≡ 0 = ap one_where is in (is, rest (omega (arith, zero, e)))

-- where all that pass are kept, the first one that passes is the same
find-kept : {X : Type 0} (test keeps : X → Bool) → ((x : X) → test x ≡ true → keeps x ≡ true) → (xs : List X) → find test (filter keeps xs) ≡ find test xs
find-kept test keeps kept [] = refl
find-kept {X} test keeps kept (x ∷ xs) = by_tests (keeps x) (test x) refl refl (find-kept test keeps kept xs)
  where
    by_tests : (k t : Bool) → keeps x ≡ k → test x ≡ t → find test (filter keeps xs) ≡ find test xs
        → find test (cond k (x ∷ filter keeps xs) (filter keeps xs)) ≡ cond t (Some x) (find test xs)
    by_tests true t is passes rest = ap (λ (b : Bool). cond b (Some x) (find test (filter keeps xs))) passes ∙ ap (λ (o : Option X). cond t (Some x) o) rest
    by_tests false true is passes rest = let no : true ≡ false = sym (kept x passes) ∙ is in absurd cc
    by_tests false false is passes rest = rest

-- what is quiet is no answer
quiet-ends : (es : List Entry) → AllByRecursion IsQuiet es → NoEnds es
quiet-ends es h = all-map IsQuiet (EndsSo (λ (x : Answered). ⊥)) by_entry es h
  where
    by_entry : (e : Entry) → IsQuiet e → EndsSo (λ (x : Answered). ⊥) e
    by_entry (journal.Answered x) quiet = quiet
    by_entry _ quiet = tt

-- no session was admitted by what a client enters
none-admitted : (name : Name) (J es : List Entry) → AllByRecursion (IsOfClient name) es → (session : Admitted) → Contains (entered J es) (journal.Admitted session) → Contains J (journal.Admitted session)
none-admitted name J [] h session has = has
none-admitted name J (e ∷ es) h session has =
    by_place (Contains-push_cases J e (journal.Admitted session) (none-admitted name (J ++ e ∷ []) es h.1 session has))
  where
    by_place : Contains J (journal.Admitted session) ⊎ (e ≡ journal.Admitted session) → Contains J (journal.Admitted session)
    by_place (inl before) = before
    by_place (inr same) = absurd (subst (IsOfClient name) same h.0)

-- ---- one link to each daemon

-- a link to the monitor is put
put-asks : (links : List (Link ClientStage)) (dials : List Dial) (link : Link ClientStage) → ((daemon : Name) → to_where daemon link ≡ false) → IsSingle links dials → IsSingle (put_link link links) dials
put-asks links dials link other h daemon =
    let zero : one_where (to_where daemon link) ≡ 0 = ap one_where (other daemon) in
    let put = put-more (to_where daemon) link links in
    let before = h daemon in
    omega (arith, zero, put, before)

-- a link opens that was waited for
opens-single : (links : List (Link ClientStage)) (dials : List Dial) (daemon : Name) (called : Called) (link : Link ClientStage) → find (is_for daemon) dials ≡ Some (ForCall called)
    → ((to : Name) → to_where to link ≡ same_name called.callee.daemon to) → IsSingle links dials → IsSingle (put_link link links) (filter (λ (dial : Dial). not (is_for daemon dial)) dials)
opens-single links dials daemon called link found calls h to = by_same (same_name called.callee.daemon to) refl
  where
    put : count_where (to_where to) (put_link link links) ≤ one_where (to_where to link) + count_where (to_where to) links
    put = put-more (to_where to) link links

    by_same : (t : Bool) → same_name called.callee.daemon to ≡ t
        → count_where (to_where to) (put_link link links) + count_where (is_for to) (filter (λ (dial : Dial). not (is_for daemon dial)) dials) ≤ 1
    by_same true is =
        let same : daemon ≡ to = sym (same_name_is called.callee.daemon daemon (found_passes (is_for daemon) dials (ForCall called) found)) ∙ same_name_is called.callee.daemon to is in
        let none : count_where (is_for to) (filter (λ (dial : Dial). not (is_for daemon dial)) dials) ≡ 0 =
        count-none (is_for to) (λ (dial : Dial). not (is_for daemon dial)) (λ dial passes. ap (λ (d : Name). not (is_for d dial)) same ∙ ap not passes) dials in
        let some : 1 ≤ count_where (is_for to) (filter (is_for daemon) dials) = count-found (is_for to) (is_for daemon) dials (ForCall called) found is in
        let fewer : count_where (is_for to) (filter (is_for daemon) dials) ≤ count_where (is_for to) dials = count-filter (is_for to) (is_for daemon) dials in
        let one : one_where (to_where to link) ≡ 1 = ap one_where (calls to ∙ is) in
        let before = h to in
        omega (arith, put, none, some, fewer, one, before)
    by_same false is =
        let fewer = count-filter (is_for to) (λ (dial : Dial). not (is_for daemon dial)) dials in
        let zero : one_where (to_where to link) ≡ 0 = ap one_where (calls to ∙ is) in
        let before = h to in
        omega (arith, put, fewer, zero, before)

-- where a link to a daemon lives, the links of other numbers are to other daemons
others-apart : (links : List (Link ClientStage)) (dials : List Dial) (link : Link ClientStage) (daemon : Name) → link_of link.number links ≡ Some link → to_where daemon link ≡ true
    → IsSingle links dials → AllByRecursion (λ (l : Link ClientStage). to_where daemon l ≡ false) (without_link link.number links)
others-apart links dials link daemon found is h =
    none-passes (to_where daemon) (without_link link.number links)
    (let split = count-split (to_where daemon) (λ (l : Link ClientStage). l.number == link.number) links in
    let some = count-found (to_where daemon) (λ (l : Link ClientStage). l.number == link.number) links link found is in
    let before = h daemon in
    omega (arith, split, some, before))

-- ---- a step

module _ (run : WholeRun) (whole : List Logged) (us vs : Uses) (told : Told) (log : List Logged) (J : List Entry) (name : Name) (line : ℕ) (c : WholeClientNode) (input : Input) (reading : ℕ)
    (draw : List ℕ) (named : c.own.mon_client.name ≡ name) (i : Inv run whole us log J) (f : Grows us vs) (t : AreTold run us told log J) (spelled : AreSpelled told)
    (known : ClientKnown us told log c) where
  abbrev later : Outcome WholeClientNode → List Logged
  later o = behind (node.Entity name) line o.out.seals log

  -- the outcome is that of the step, behind which keys are as they are, and the client as it is between steps
  pub record IsStep (o : Outcome WholeClientNode) : Type 0 where
    pub is : o ≡ whole_client_rule c input reading draw
    pub inv : Inv run whole vs (later o) (entered J o.out.entries)
    pub ok : ClientOk run vs o.state

  abbrev pub Behind : Outcome WholeClientNode → Type 0
  Behind o = IsStep o → ClientBehind run us vs told log line (entered J o.out.entries) name c o

  still-named : (o : Outcome WholeClientNode) → IsStep o → o.state.own.mon_client.name ≡ name
  still-named o s = ap (λ (p : Outcome WholeClientNode). p.state.own.mon_client.name) s.is ∙ whole-named c input reading draw ∙ named

  none-there : (o : Outcome WholeClientNode) → IsStep o → (session : Admitted) → Contains (entered J o.out.entries) (journal.Admitted session) → Contains J (journal.Admitted session)
  none-there o s =
      none-admitted c.own.mon_client.name J o.out.entries
      (subst (λ (p : Outcome WholeClientNode). AllByRecursion (IsOfClient c.own.mon_client.name) p.out.entries) (sym s.is) (whole-enters c input reading draw).enters)

  -- ---- what is kept of links and sessions

  abbrev StageKept : List HeldSession → ℕ → ClientStage → Type 0
  StageKept sessions number (ToMonitor stage) = Unit {0}
  StageKept sessions number (ToDaemon stage) = CallTold us told log name number stage × IsOfSession sessions stage × CallFits stage × StageFrom c.links number (ToDaemon stage)

  abbrev LinkKept : List HeldSession → Link ClientStage → Type 0
  LinkKept sessions link = StageKept sessions link.number link.stage

  abbrev AreKept : List HeldSession → List (Link ClientStage) → Type 0
  AreKept sessions links = AllByRecursion (LinkKept sessions) links

  -- what is so of the client behind a step that says nothing
  record IsKept (o : Outcome WholeClientNode) : Type 0 where
    single : IsSingle o.state.links o.state.own.dials
    sessions : AllByRecursion SessionFits o.state.own.sessions
    links : AreKept o.state.own.sessions o.state.links
    ends : NoEnds o.out.entries

  kept-before : AreKept c.own.sessions c.links
  kept-before =
      all-both (λ (l : Link ClientStage). StageTold us told log c.own l.number l.stage) (λ (l : Link ClientStage). StageFits l.stage × StageFrom c.links l.number l.stage) (LinkKept c.own.sessions)
      (λ l h g. by_stage l.number l.stage h g.0 g.1) c.links known.links.links
      (all-both (λ (l : Link ClientStage). StageFits l.stage) (λ (l : Link ClientStage). StageFrom c.links l.number l.stage) (λ (l : Link ClientStage). StageFits l.stage × StageFrom c.links l.number l.stage)
      (λ l fits from. (fits, from)) c.links known.stages (all-from c.links))
    where
      by_stage : (number : ℕ) (stage : ClientStage) → StageTold us told log c.own number stage → StageFits stage → StageFrom c.links number stage → StageKept c.own.sessions number stage
      by_stage number (ToMonitor stage) h fits from = tt
      by_stage number (ToDaemon stage) h fits from = (subst (λ (m : Name). CallTold us told log m number stage) named h.0, h.1, fits, from)

  -- ---- such a step

  module _ (o : Outcome WholeClientNode) (s : IsStep o)
      (quiet : (test : List ℕ → Bool) (key : List ℕ) (whose : Name) (tie : ℕ) → IsLinkKey vs key whose tie → contents_by key test o.out.seals ≡ []) where
    call-behind : (number : ℕ) (stage : CallStage) → CallTold us told log name number stage → CallTold vs told (later o) o.state.own.mon_client.name number stage
    call-behind number stage h =
        subst (λ (m : Name). CallTold vs told (later o) m number stage) (sym (still-named o s))
        (moved-call us vs i.one f told log (node.Entity name) line o.out.seals name (number + 1) told (Quiets told.nonces (same-nonces told name (number + 1)) (quiet is_connectors)) name number
        (λ e. let same : number ≡ number + 1 = e.1 in absurd (omega (arith, same))) stage h)

    stage-behind : (number : ℕ) (stage : ClientStage) → StageKept o.state.own.sessions number stage → StageTold vs told (later o) o.state.own number stage
    stage-behind number (ToMonitor stage) h = tt
    stage-behind number (ToDaemon stage) h = (call-behind number stage h.0, h.1)

    stage-fits : (number : ℕ) (stage : ClientStage) → StageKept o.state.own.sessions number stage → StageFits stage
    stage-fits number (ToMonitor stage) h = tt
    stage-fits number (ToDaemon stage) h = h.2

    stage-from : (number : ℕ) (stage : ClientStage) → StageKept o.state.own.sessions number stage → StageFrom c.links number stage
    stage-from number (ToMonitor stage) h = tt
    stage-from number (ToDaemon stage) h = h.3

    quiet-behind : IsKept o → ClientBehind run us vs told log line (entered J o.out.entries) name c o
    quiet-behind k = record {
      next = told;
      number = 0;
      moved = Quiets told.nonces (same-nonces told name 0) (quiet is_connectors);
      known_of = told-stays run whole us vs told log J (entered J o.out.entries) (node.Entity name) line o.out.seals s.inv.one f (within-all J o.out.entries) i (quiet is_connectors) (none-there o s) t;
      spelled = spelled;
      client = record {
        links = record {
          links = all-map (LinkKept o.state.own.sessions) (λ (l : Link ClientStage). StageTold vs told (later o) o.state.own l.number l.stage) (λ l h. stage-behind l.number l.stage h) o.state.links k.links;
        };
        single = k.single;
        sessions = k.sessions;
        stages = all-map (LinkKept o.state.own.sessions) (λ (l : Link ClientStage). StageFits l.stage) (λ l h. stage-fits l.number l.stage h) o.state.links k.links;
      };
      gives_none = quiet is_acceptors;
      shows = ShowsNone refl
          (all-map (LinkKept o.state.own.sessions) (λ (l : Link ClientStage). StageFrom c.links l.number l.stage) (λ l h. stage-from l.number l.stage h) o.state.links k.links) k.ends;
    }

  -- a step that seals nothing
  still-behind : (o : Outcome WholeClientNode) → o.out.seals ≡ [] → IsKept o → Behind o
  still-behind o none k s = quiet-behind o s (λ test key whose tie is. ap (λ es. contents_by key test es) none) k

  -- ---- links to the monitor

  -- behind a row of such a link, which goes on or is shut
  record LinksKept (links : List (Link ClientStage)) : Type 0 where
    single : IsSingle links c.own.dials
    kept : AreKept c.own.sessions links

  without-kept : (number : ℕ) → LinksKept (without_link number c.links)
  without-kept number = record {
    single = single-less c.links c.own.dials (without_link number c.links) c.own.dials (λ daemon. count-filter (to_where daemon) (λ (l : Link ClientStage). not (l.number == number)) c.links)
        (λ daemon. omega arith) known.single;
    kept = all-filter (LinkKept c.own.sessions) (λ (l : Link ClientStage). not (l.number == number)) c.links kept-before;
  }

  asks-kept : (link : Link ClientStage) (stage : connector.Stage) → link.stage ≡ ToMonitor stage → LinksKept (put_link link c.links)
  asks-kept link stage of = record {
    single = put-asks c.links c.own.dials link (λ daemon. ap (is_to daemon) of) known.single;
    kept = all-put (LinkKept c.own.sessions) link c.links (subst (λ (st : ClientStage). StageKept c.own.sessions link.number st) (sym of) tt) kept-before;
  }

  turned-kept : (number : ℕ) (bytes : List ℕ) (l : Option (Link connector.Stage)) → LinksKept (links_behind c.links number bytes (option_map (of_kind ToMonitor) l))
  turned-kept number bytes (Some link) = asks-kept (record (of_kind ToMonitor link) { sent = link.sent ++ bytes }) link.stage refl
  turned-kept number bytes None = without-kept number

  kept-of : (o : Outcome WholeClientNode) → o.state.own.dials ≡ c.own.dials → o.state.own.sessions ≡ c.own.sessions → NoEnds o.out.entries → LinksKept o.state.links → IsKept o
  kept-of o dials sessions ends h = record {
    single = subst (λ (ds : List Dial). IsSingle o.state.links ds) (sym dials) h.single;
    sessions = subst (λ (ss : List HeldSession). AllByRecursion SessionFits ss) (sym sessions) known.sessions;
    links = subst (λ (ss : List HeldSession). AreKept ss o.state.links) (sym sessions) h.kept;
    ends = ends;
  }

  idle-kept : LinksKept c.links
  idle-kept = record { single = known.single; kept = kept-before }

  -- ---- each outcome

  idle-behind : Behind (idles c)
  idle-behind = still-behind (idles c) refl (kept-of (idles c) refl refl tt idle-kept)

  numbered : (number : ℕ) (link : Link ClientStage) → link_of number c.links ≡ Some link → link_of link.number c.links ≡ Some link
  numbered number link is =
      let same : link.number ≡ number = eqb-true link.number number (found_passes (λ (l : Link ClientStage). l.number == number) c.links link is) in
      subst (λ (k : ℕ). link_of k c.links ≡ Some link) (sym same) is

  comes-behind : (number : ℕ) (link : Link ClientStage) (bytes : List ℕ) → link_of number c.links ≡ Some link → Behind (fed c bytes (Some link))
  comes-behind number link bytes is =
      let fuller : Link ClientStage = record link { received = link.received ++ bytes } in
      still-behind (fed c bytes (Some link)) refl (kept-of (fed c bytes (Some link)) refl refl tt (record {
        single = single-less c.links c.own.dials (put_link fuller c.links) c.own.dials
            (λ daemon. put-moved (to_where daemon) fuller link c.links (numbered number link is) (λ e. e)) (λ daemon. omega arith) known.single;
        kept = all-put (LinkKept c.own.sessions) fuller c.links (found_all (LinkKept c.own.sessions) (λ (l : Link ClientStage). l.number == number) c.links link kept-before is) kept-before;
      }))

  asks-behind : (link : Link ClientStage) (stage : connector.Stage) → Behind (mon_client_turn c reading draw link stage)
  asks-behind link stage s =
      quiet-behind (mon_client_turn c reading draw link stage) s
      (λ test key whose tie is. asks-none vs (node_of (mon_client_turn c reading draw link stage).state) s.inv.one key whose tie is test run c reading draw link stage s.ok.links)
      (by_turned (connector.turned_at (arrival_in (on_link c reading draw link) c.own.mon_client stage) stage) (mon_client-enters (arrival_in (on_link c reading draw link) c.own.mon_client stage) stage))
    where
      by_turned : (turned : Turned MonClient connector.Stage) → EachRow EntersNone turned → IsKept (turns c (on_link c reading draw link) (turn_of_kind (with_mon_client c.own) ToMonitor turned))
      by_turned Waits enters = kept-of (idles c) refl refl tt idle-kept
      by_turned (Refuses why opened) enters = kept-of _ refl refl (tt, tt) (without-kept link.number)
      by_turned (Handles row) enters = kept-of _ refl refl (quiet-ends row.entries enters) (turned-kept link.number row.sends row.link)

  refuses-behind : (why : Reason) → Behind (refuses_command c why)
  refuses-behind why = still-behind (refuses_command c why) refl (kept-of (refuses_command c why) refl refl (tt, tt) idle-kept)

  renewed-behind : (services : ℕ) (link : Link ClientStage) (s : Secured) (requests : Requests) → Behind (renewed c reading draw services link s requests)
  renewed-behind services link s requests st =
      quiet-behind (renewed c reading draw services link s requests) st
      (λ test key whose tie is. renewed-none vs (node_of (renewed c reading draw services link s requests).state) st.inv.one key whose tie is test run c reading draw services link s requests st.ok.links)
      (by_sealed (sealed_request s.keys requests (asked.Tickets services)))
    where
      by_sealed : (r : Result SealedFrame Reason)
          → IsKept (carried_out c link.number false (lifted (with_mon_client c.own) (sends_request open_to_ask (arrival (me c.own) c.own.mon_client link reading draw) s requests want.Tickets r)))
      by_sealed (Ok sealed) = kept-of _ refl refl tt (asks-kept _ _ refl)
      by_sealed (Err why) = kept-of _ refl refl (tt, tt) (without-kept link.number)

  -- a link isn't waited for any more
  less-dials : (keeps : Dial → Bool) (daemon : Name) → count_where (is_for daemon) (filter keeps c.own.dials) ≤ count_where (is_for daemon) c.own.dials
  less-dials keeps daemon = count-filter (is_for daemon) keeps c.own.dials

  unreached-behind : (to : Peer) → Behind (unreached c to)
  unreached-behind to = still-behind (unreached c to) refl (record {
    single = single-less c.links c.own.dials c.links (undialled c to).own.dials (λ daemon. omega arith) (less-dials (λ (dial : Dial). not (dial_of to dial))) known.single;
    sessions = known.sessions;
    links = kept-before;
    ends = (tt, tt);
  })

  -- the link that opens
  abbrev opened_link : ℕ → ClientStage → Link ClientStage
  opened_link number stage = record (new_link number stage) { sent = own_banner }

  begins-behind : (number : ℕ) (to : Peer) (dial : Dial) → find (dial_of to) c.own.dials ≡ Some dial → Behind (opens_dialled c reading draw number to (Some dial))
  begins-behind number to (ForLogin services) is = still-behind _ refl (record {
    single = put-asks c.links (undialled c to).own.dials (opened_link number (first_stage (ForLogin services))) (λ daemon. refl)
        (single-less c.links c.own.dials c.links (undialled c to).own.dials (λ daemon. omega arith) (less-dials (λ (dial : Dial). not (dial_of to dial))) known.single);
    sessions = known.sessions;
    links = all-put (LinkKept c.own.sessions) (opened_link number (first_stage (ForLogin services))) c.links tt kept-before;
    ends = tt;
  })
  begins-behind number peer.Monitor (ForCall called) is =
      let no : false ≡ true = found_passes is_for_login c.own.dials (ForCall called) is in absurd cc
  begins-behind number (peer.Daemon daemon) (ForCall called) is = still-behind _ refl (record {
    single = opens-single c.links c.own.dials daemon called (opened_link number (first_stage (ForCall called))) is (λ to. refl) known.single;
    sessions = known.sessions;
    links = all-put (LinkKept c.own.sessions) (opened_link number (first_stage (ForCall called))) c.links (tt, tt, tt, inl tt) kept-before;
    ends = tt;
  })

  logs-behind : (services : ℕ) → Behind (logs_in c services)
  logs-behind services = still-behind (logs_in c services) refl (record {
    single = single-less c.links c.own.dials (logs_in c services).state.links (waits_for_login c.own.dials services)
        (λ daemon. count-filter (to_where daemon) (λ (l : Link ClientStage). not (is_to_monitor l.stage)) c.links)
        (λ daemon.
        let fewer = less-dials (λ (dial : Dial). not (is_for_login dial)) daemon in
        let more = count-append (is_for daemon) (filter (λ (dial : Dial). not (is_for_login dial)) c.own.dials) (ForLogin services ∷ []) in
        omega (arith, fewer, more)) known.single;
    sessions = known.sessions;
    links = all-filter (LinkKept c.own.sessions) (λ (l : Link ClientStage). not (is_to_monitor l.stage)) c.links kept-before;
    ends = tt;
  })

  restarts-behind : Behind (restarted c)
  restarts-behind = still-behind (restarted c) refl (record { single = λ daemon. omega arith; sessions = tt; links = tt; ends = (tt, tt) })

  -- ---- a link is asked for

  calls-behind : (daemon : Name) (lossy : Bool) (held : Held) → input ≡ Submit (command.Connect daemon lossy)
      → Behind (calls c (record { callee = record { daemon = daemon; lossy = lossy }; held = held; gid = held_gid c.own.mon_client.holdings }))
  calls-behind daemon lossy held is s = still-behind (calls c called) refl (record {
    single = single-calls c.links c.own.dials called (by_busy (list_any (λ (link : Link ClientStage). is_to daemon link.stage) c.links) refl) known.single;
    sessions = known.sessions;
    links = kept-before;
    ends = tt;
  }) s
    where
      called : Called
      called = record { callee = record { daemon = daemon; lossy = lossy }; held = held; gid = held_gid c.own.mon_client.holdings }

      -- where one lives, none is
      by_busy : (busy : Bool) → list_any (λ (link : Link ClientStage). is_to daemon link.stage) c.links ≡ busy → list_any (λ (link : Link ClientStage). is_to daemon link.stage) c.links ≡ false
      by_busy false e = e
      by_busy true e =
          let rule : calls c called ≡ connects c daemon lossy = s.is ∙ ap (λ (k : Input). whole_client_rule c k reading draw) is in
          let busy : connects c daemon lossy ≡ refuses_command c reason.Busy =
          ap (λ (t : Bool). if t then refuses_command c reason.Busy else calls_with c (record { daemon = daemon; lossy = lossy }) (ticket_for daemon.kind c.own.mon_client.holdings)) e in
          let count : c.own.mon_client.global_seq + 1 ≡ c.own.mon_client.global_seq = ap (λ (o : Outcome WholeClientNode). o.state.own.mon_client.global_seq) (rule ∙ busy) in
          absurd (omega (arith, count))

  -- ---- a link is gone, and a lossy session with it

  abbrev outlives : Name → HeldSession → Bool
  outlives daemon session = not (session.lossy && same_name session.daemon daemon)

  other-outlives : (daemon to : Name) → same_name to daemon ≡ false → (session : HeldSession) → same_name session.daemon to ≡ true → outlives daemon session ≡ true
  other-outlives daemon to apart session passes =
      let off : same_name session.daemon daemon ≡ false = ap (λ (d : Name). same_name d daemon) (same_name_is session.daemon to passes) ∙ apart in
      ap (λ (t : Bool). not (session.lossy && t)) off ∙ by_lossy session.lossy
    where
      by_lossy : (lossy : Bool) → not (lossy && false) ≡ true
      by_lossy true = refl
      by_lossy false = refl

  -- a link to another daemon is of the session that it was of
  of-other : (daemon : Name) (stage : CallStage) → same_name (callee_of stage).daemon daemon ≡ false → IsOfSession c.own.sessions stage → IsOfSession (filter (outlives daemon) c.own.sessions) stage
  of-other daemon (call.AwaitsReconnect s callee cookie) apart h = λ session found.
      h session (sym (find-kept (λ (x : HeldSession). same_name x.daemon callee.daemon) (outlives daemon) (other-outlives daemon callee.daemon apart) c.own.sessions) ∙ found)
  of-other daemon (call.Open s callee cookie) apart h = λ session found.
      h session (sym (find-kept (λ (x : HeldSession). same_name x.daemon callee.daemon) (outlives daemon) (other-outlives daemon callee.daemon apart) c.own.sessions) ∙ found)
  of-other daemon (call.AwaitsBanner called) apart h = tt
  of-other daemon (call.AwaitsHello called) apart h = tt
  of-other daemon (call.AwaitsChallenge callee p) apart h = tt
  of-other daemon (call.AwaitsDone callee answered) apart h = tt
  of-other daemon (call.AwaitsSignature s callee) apart h = tt
  of-other daemon (call.AwaitsIdent s callee cookie) apart h = tt

  goes-kept : (link : Link ClientStage) → link_of link.number c.links ≡ Some link → (stage : ClientStage) → link.stage ≡ stage
      → AllByRecursion SessionFits (own_behind_gone c.own stage).sessions × AreKept (own_behind_gone c.own stage).sessions (without_link link.number c.links)
  goes-kept link is (ToMonitor stage) of = (known.sessions, (without-kept link.number).kept)
  goes-kept link is (ToDaemon stage) of =
      let daemon : Name = (callee_of stage).daemon in (
        all-filter SessionFits (outlives daemon) c.own.sessions known.sessions,
        all-both (LinkKept c.own.sessions) (λ (l : Link ClientStage). to_where daemon l ≡ false) (LinkKept (filter (outlives daemon) c.own.sessions))
            (λ l h apart. by_stage daemon l.number l.stage h apart) (without_link link.number c.links) (without-kept link.number).kept
            (others-apart c.links c.own.dials link daemon is (ap (is_to daemon) of ∙ same_name_self daemon) known.single),
      )
    where
      by_stage : (daemon : Name) (number : ℕ) (st : ClientStage) → StageKept c.own.sessions number st → is_to daemon st ≡ false → StageKept (filter (outlives daemon) c.own.sessions) number st
      by_stage daemon number (ToMonitor st) h apart = tt
      by_stage daemon number (ToDaemon st) h apart = (h.0, of-other daemon st apart h.1, h.2, h.3)

  own-dials : (stage : ClientStage) → (own_behind_gone c.own stage).dials ≡ c.own.dials
  own-dials (ToMonitor stage) = refl
  own-dials (ToDaemon stage) = refl

  goes-behind : (number : ℕ) (link : Link ClientStage) → link_of number c.links ≡ Some link → Behind (loses c (Some link))
  goes-behind number link is =
      let k = goes-kept link (numbered number link is) link.stage refl in
      still-behind (loses c (Some link)) refl (record {
        single = subst (λ (ds : List Dial). IsSingle (without_link link.number c.links) ds) (sym (own-dials link.stage)) (without-kept link.number).single;
        sessions = k.0;
        links = k.1;
        ends = by_open (is_open link.stage);
      })
    where
      by_open : (open_ : Bool) → NoEnds (if open_ then [] else refused_entry (me c.own) link.number reason.Lost ∷ [])
      by_open true = tt
      by_open false = (tt, tt)

  -- ---- any event

  -- where those keep it that say something on a link to a daemon
  pub each-behind : ((number : ℕ) (link : Link ClientStage) (stage : CallStage) → link_of number c.links ≡ Some link → link.stage ≡ ToDaemon stage → Behind (call_turn c reading draw link stage))
      → ((daemon : Name) (session : HeldSession) (operation : Operation) (seq : ℕ) → input ≡ Submit (command.Send daemon operation) → session_with daemon c.own.sessions ≡ Some session
      → push_reply session.queue ≡ Ok seq → Behind (sent_in c reading draw session operation seq None))
      → ((daemon : Name) (session : HeldSession) (operation : Operation) (seq : ℕ) (link : Link ClientStage) (s : Secured) (callee : Callee) (cookie : ℕ) → input ≡ Submit (command.Send daemon operation)
      → session_with daemon c.own.sessions ≡ Some session → push_reply session.queue ≡ Ok seq → first_call session.daemon c.links ≡ Some (link, (s, (callee, cookie)))
      → Behind (sent_in c reading draw session operation seq (Some (link, (s, (callee, cookie))))))
      → EachStep c reading draw input Behind
  each-behind presents later there = record {
    idle = idle-behind;
    comes = comes-behind;
    asks = λ number link stage is of. asks-behind link stage;
    presents = presents;
    refuses = λ why told. refuses-behind why;
    begins = begins-behind;
    reaches_none = unreached-behind;
    goes = goes-behind;
    logs = logs-behind;
    renews_there = λ services link s requests is. renewed-behind services link s requests;
    dials = λ daemon lossy held is of. calls-behind daemon lossy held is;
    sends_later = later;
    sends_there = there;
    restarts = restarts-behind;
  }

  -- so a step of the client keeps it
  pub step-behind : EachStep c reading draw input Behind → Behind (whole_client_rule c input reading draw)
  step-behind each = each-step c reading draw Behind input each
