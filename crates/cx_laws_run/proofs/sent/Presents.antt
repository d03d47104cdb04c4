-- A turn of a client's link to a daemon: all that is known of what was said, and of the client, behind it.
use Rattle.std.proofs.Common.{◌≡◌, ℕ, ◌==◌, ◌++◌, nat_lt, arith, false, List, [], ◌∷◌, Option, Some, None, inl, inr, ◌⊎◌, refl, sym, ap, ◌∙◌, subst}
use Rattle.std.proofs.lemmas.List.Elements.{Contains-push_cases}
use Rattle.std.specs.Prelude.{Contains}
use Rattle.std.specs.List.{AllByRecursion}
use Rattle.cx_laws_sessions.specs.cx_authorize.specs.Client.{reply_in}
use Rattle.cx_base.proofs.Names.{same_name_is}
use Rattle.cx_base.specs.Names.{Name, same_name}
use Rattle.cx_base.specs.declared.kinds.EntityType.{EntityType}
use Rattle.cx_base.specs.declared.nodes.NodeName.{NodeName}
use Rattle.cx_base.specs.declared.nodes.NodeName.TheVariants as node
use Rattle.cx_dice.specs.Draws.{challenge_of}
use Rattle.cx_journal.specs.declared.entries.Admitted.{Admitted}
use Rattle.cx_journal.specs.declared.entries.Entry.{Entry}
use Rattle.cx_journal.specs.declared.entries.Entry.TheVariants as journal
use Rattle.cx_laws_run.specs.cx_laws_keys.proofs.keys.Journal.{entered}
use Rattle.cx_laws_run.specs.cx_laws_keys.proofs.keys.Known.{HasReply, Within}
use Rattle.cx_laws_run.specs.cx_laws_keys.proofs.keys.Lists.{all-map}
use Rattle.cx_laws_run.specs.cx_laws_keys.proofs.keys.Premises.{AreGranted}
use Rattle.cx_laws_run.specs.cx_laws_keys.proofs.keys.Uses.{Login, Means, Ticketed, Uses, WholeRun}
use Rattle.cx_laws_run.specs.cx_laws_tickets.proofs.calling.CallSeals.{reply-ties}
use Rattle.cx_laws_run.specs.cx_laws_tickets.proofs.calling.Sessions.{CallKeys, ClientStageOk, HeldOk, IsSession, found-ticket, same-entity}
use Rattle.cx_laws_run.specs.cx_laws_keys.proofs.login.MonClientTurns as mon_client_turns
use Rattle.cx_laws_run.specs.cx_laws_keys.proofs.login.MonClientRows.{NeverExcepted}
use Rattle.cx_laws_run.specs.cx_laws_keys.proofs.login.Entering.{within-all}
use Rattle.cx_laws_sessions.proofs.queues.Calls.{Held, OpensFor, call-held}
use Rattle.cx_laws_sessions.proofs.queues.Sessions.{HeldIs, all-filter, with-all}
use Rattle.cx_laws_sessions.proofs.session.Lists.{found-all, found-passes, found-some}
use Rattle.cx_laws_sessions.proofs.session.Runs.{other-way}
use Rattle.cx_laws_sessions.specs.cx_login.specs.Held.{Held as Ticket}
use Rattle.cx_laws_sessions.specs.cx_rules.specs.Holdings.{MonClient}
use Rattle.cx_laws_sessions.specs.cx_rules.specs.Links.{Link, link_of}
use Rattle.cx_laws_sessions.specs.cx_rules.specs.Rows.{Outcome, Turned, Waits, Refuses, Handles, turns}
use Rattle.cx_laws_sessions.specs.cx_rules_session.specs.ClientRule.{ClientStage, ToDaemon, WholeClientNode, caller_to, with_caller}
use Rattle.cx_laws_sessions.specs.cx_rules_session.specs.Kinds.{arrival_in, turn_of_kind}
use Rattle.cx_laws_sessions.specs.cx_rules_session.specs.Presenter as call
use Rattle.cx_laws_sessions.specs.cx_rules_session.specs.Presenter.{Caller, CallArrival, CallRow, CallStage, callee_of, presented, presented_by}
use Rattle.cx_laws_sessions.specs.cx_rules_session.specs.Sessions.{Called, Callee, HeldSession, acknowledged_up_to, session_with, ticket_for, with_session}
use Rattle.cx_laws_sessions.specs.cx_run.proofs.CallKeeps.{IsCallEntry, Leaves, call-takes}
use Rattle.cx_laws_sessions.specs.cx_run.proofs.Outcomes.{call_turn, on_link}
use Rattle.cx_laws_sessions.specs.cx_run.proofs.Taking.{EachRow}
use Rattle.cx_laws_sessions.specs.cx_sealed.specs.declared.authorize_reply.AuthorizeReply.{AuthorizeReply}
use Rattle.cx_steps.specs.Onto.{SomeOf}
use Rattle.cx_steps.specs.declared.seals.Logged.{Logged}
use Rattle.cx_steps.specs.declared.seals.SealEntry.{SealEntry}
use Rattle.cx_laws_links.proofs.links.Alone.{RowKeeps, row-keeps}
use Rattle.cx_laws_links.proofs.links.CallTells.{quiet-none}
use Rattle.cx_laws_links.proofs.links.CallTold.{same-nonces}
use Rattle.cx_laws_links.proofs.links.CallTurned.{TurnIs}
use Rattle.cx_laws_links.proofs.links.CallWords.{AreQuiet, HeldAt, IsHeldHere}
use Rattle.cx_laws_links.proofs.links.Known.{IsOfSession, StageTold, Told}
use Rattle.cx_laws_links.proofs.links.Lifting.{told-stays}
use Rattle.cx_laws_links.proofs.links.Moving.{Quiets}
use Rattle.cx_laws_links.proofs.links.Spoken.{is_connectors}
use Rattle.cx_laws_links.proofs.links.Written.{IsLinkKey}
use Rattle.cx_laws_links.specs.cx_laws_keys.proofs.series.Contents.{contents_by}
use Rattle.cx_journal.specs.declared.faults.BytesFault.{BytesFault}
use Rattle.cx_base.specs.declared.operations.Operation.{Operation}
use Rattle.cx_laws_run.proofs.sent.Before.{ClientBefore}
use Rattle.cx_laws_links.proofs.answers.Given.{is_acceptors}
use Rattle.cx_laws_run.proofs.sent.CallBehind.{RowKnown}
use Rattle.cx_laws_run.proofs.sent.CallFits.{CookieFits}
use Rattle.cx_laws_run.proofs.sent.CallTurns.{StageKnown, turn-is}
use Rattle.cx_laws_run.proofs.sent.ClientLinks.{with-other, with-own}
use Rattle.cx_laws_run.proofs.sent.ClientNode.{LeftIs, left-known, quiet-known}
use Rattle.cx_laws_run.proofs.sent.Shown.{OrderFits, SentFits, ShowsNone, ShowsRow, all-from, left-from, was-at, without-from}
use Rattle.cx_laws_run.proofs.sent.State.{CallFits, ClientBehind, SessionFits, StageFits}
use Rattle.cx_laws_run.proofs.sent.Waiting.{held-here}

-- ---- no session is admitted

abbrev pub IsNoSession : Entry → Type 0
IsNoSession (journal.Admitted session) = ⊥
IsNoSession e = Unit {0}

pub none-admitted : (J es : List Entry) → AllByRecursion IsNoSession es → (session : Admitted) → Contains (entered J es) (journal.Admitted session) → Contains J (journal.Admitted session)
none-admitted J [] h session has = has
none-admitted J (e ∷ es) h session has = by_place (Contains-push_cases J e (journal.Admitted session) (none-admitted (J ++ e ∷ []) es h.1 session has))
  where
    by_place : Contains J (journal.Admitted session) ⊎ (e ≡ journal.Admitted session) → Contains J (journal.Admitted session)
    by_place (inl was) = was
    by_place (inr now) = absurd (subst IsNoSession now h.0)

call-no_session : (mon_client : MonClient) (e : Entry) → IsCallEntry mon_client e → IsNoSession e
call-no_session mon_client (journal.Admitted session) h = h
call-no_session mon_client _ h = tt

-- ---- a session, as it is with this daemon

-- it has a spelling, and is with this daemon
abbrev pub FitsWith : Name → HeldSession → Type 0
FitsWith daemon session = SessionFits session × (session.daemon ≡ daemon)

again-fits : (daemon : Name) (count : ℕ) (s : HeldSession) → FitsWith daemon s → FitsWith daemon (record s { connect_seq = count })
again-fits daemon count s h = (record { cookie = h.0.cookie; last = h.0.last; waiting = h.0.waiting }, h.1)

acknowledged-fits : (daemon : Name) (seq : ℕ) (s : HeldSession) → FitsWith daemon s → FitsWith daemon (acknowledged_up_to seq s)
acknowledged-fits daemon seq s h =
    (record { cookie = h.0.cookie; last = h.0.last; waiting = all-filter OrderFits (λ (order : ℕ × Operation). nat_lt seq order.0) s.queue.waiting h.0.waiting }, h.1)

opens-fits : (stage : CallStage) → CallFits stage → OpensFor (FitsWith (callee_of stage).daemon) stage
opens-fits (call.AwaitsIdent s callee cookie) fits = λ server. (record { cookie = fits; last = omega arith; waiting = tt }, refl)
opens-fits (call.AwaitsBanner called) fits = tt
opens-fits (call.AwaitsHello called) fits = tt
opens-fits (call.AwaitsChallenge callee p) fits = tt
opens-fits (call.AwaitsDone callee answered) fits = tt
opens-fits (call.AwaitsSignature s callee) fits = tt
opens-fits (call.AwaitsReconnect s callee cookie) fits = tt
opens-fits (call.Open s callee cookie) fits = tt

held-map : (P Q : HeldSession → Type 0) → ((s : HeldSession) → P s → Q s) → (session : Option HeldSession) → HeldIs P session → HeldIs Q session
held-map P Q f None h = tt
held-map P Q f (Some s) h = f s h

-- the session with a daemon is with it
with-daemon : (sessions : List HeldSession) (daemon : Name) → AllByRecursion SessionFits sessions → HeldIs (FitsWith daemon) (session_with daemon sessions)
with-daemon sessions daemon fits = by_found (session_with daemon sessions) refl
  where
    by_found : (found : Option HeldSession) → session_with daemon sessions ≡ found → HeldIs (FitsWith daemon) found
    by_found None is = tt
    by_found (Some s) is =
        (found-all SessionFits (λ (t : HeldSession). same_name t.daemon daemon) sessions s fits is, same_name_is s.daemon daemon (found-passes (λ (t : HeldSession). same_name t.daemon daemon) sessions s is))

-- ---- whose session a link is for

held-at : (sessions : List HeldSession) (stage : CallStage) → IsOfSession sessions stage → (session : Option HeldSession) → session_with (callee_of stage).daemon sessions ≡ session → HeldAt session stage
held-at sessions stage h None is = tt
held-at sessions (call.AwaitsReconnect s callee cookie) h (Some session) is = h session is
held-at sessions (call.Open s callee cookie) h (Some session) is = h session is
held-at sessions (call.AwaitsBanner called) h (Some session) is = tt
held-at sessions (call.AwaitsHello called) h (Some session) is = tt
held-at sessions (call.AwaitsChallenge callee p) h (Some session) is = tt
held-at sessions (call.AwaitsDone callee answered) h (Some session) is = tt
held-at sessions (call.AwaitsSignature s callee) h (Some session) is = tt
held-at sessions (call.AwaitsIdent s callee cookie) h (Some session) is = tt

module _ (sessions : List HeldSession) (daemon : Name) (put : Option HeldSession) (with_it : HeldIs (λ (s : HeldSession). s.daemon ≡ daemon) put) where
  -- of a link to another daemon
  other-session : (stage : CallStage) → same_name (callee_of stage).daemon daemon ≡ false → IsOfSession sessions stage → IsOfSession (with_session daemon put sessions) stage
  other-session (call.AwaitsReconnect s callee cookie) apart h =
      λ session found. h session (sym (with-other daemon callee.daemon (other-way daemon callee.daemon apart) put sessions with_it) ∙ found)
  other-session (call.Open s callee cookie) apart h =
      λ session found. h session (sym (with-other daemon callee.daemon (other-way daemon callee.daemon apart) put sessions with_it) ∙ found)
  other-session (call.AwaitsBanner called) apart h = tt
  other-session (call.AwaitsHello called) apart h = tt
  other-session (call.AwaitsChallenge callee p) apart h = tt
  other-session (call.AwaitsDone callee answered) apart h = tt
  other-session (call.AwaitsSignature s callee) apart h = tt
  other-session (call.AwaitsIdent s callee cookie) apart h = tt

  found-own : (whom : Name) → whom ≡ daemon → (session : HeldSession) → session_with whom (with_session daemon put sessions) ≡ Some session → put ≡ Some session
  found-own whom same session found =
      with-own daemon put sessions with_it session (subst (λ (d : Name). session_with d (with_session daemon put sessions) ≡ Some session) same found)

  -- of the link itself
  own-session : (stage : CallStage) → (callee_of stage).daemon ≡ daemon → HeldAt put stage → IsOfSession (with_session daemon put sessions) stage
  own-session (call.AwaitsReconnect s callee cookie) same h =
      λ session found. subst (λ (o : Option HeldSession). HeldAt o (call.AwaitsReconnect s callee cookie)) (found-own callee.daemon same session found) h
  own-session (call.Open s callee cookie) same h = λ session found. subst (λ (o : Option HeldSession). HeldAt o (call.Open s callee cookie)) (found-own callee.daemon same session found) h
  own-session (call.AwaitsBanner called) same h = tt
  own-session (call.AwaitsHello called) same h = tt
  own-session (call.AwaitsChallenge callee p) same h = tt
  own-session (call.AwaitsDone callee answered) same h = tt
  own-session (call.AwaitsSignature s callee) same h = tt
  own-session (call.AwaitsIdent s callee cookie) same h = tt

-- ---- a turn

module _ (run : WholeRun) (whole : List Logged) (us vs : Uses) (told : Told) (log : List Logged) (J : List Entry) (line : ℕ) (c : WholeClientNode) (reading : ℕ) (draw : List ℕ)
    (b : ClientBefore run whole us vs told log J c.own.mon_client.name c draw) (link : Link ClientStage) (stage : CallStage) (there : SomeOf (λ (l : Link ClientStage). l ≡ link) c.links)
    (is : link.stage ≡ ToDaemon stage) (stands : StageTold us told log c.own link.number (ToDaemon stage)) (ok : ClientStageOk run us (node.Entity c.own.mon_client.name) (ToDaemon stage))
    (fit : CallFits stage) where
  abbrev name : Name
  name = c.own.mon_client.name

  abbrev n : NodeName
  n = node.Entity c.own.mon_client.name

  abbrev daemon : Name
  daemon = (callee_of stage).daemon

  abbrev a : CallArrival
  a = arrival_in (on_link c reading draw link) (caller_to daemon c.own) stage

  held-fits : HeldIs (FitsWith daemon) (session_with daemon c.own.sessions)
  held-fits = with-daemon c.own.sessions daemon b.known.sessions

  held-cookie : HeldIs CookieFits (session_with daemon c.own.sessions)
  held-cookie = held-map (FitsWith daemon) CookieFits (λ s h. h.0.cookie) (session_with daemon c.own.sessions) held-fits

  -- ---- what is known of the link

  is-own : (key : List ℕ) → IsSession us n key → Means vs key (Login name) ⊎ ((service : EntityType) × Means vs key (Ticketed name service))
  is-own key h = by_use h.means
    where
      same : h.name ≡ name
      same = same-entity n h.name name h.own refl

      by_use : Means us key (Login h.name) ⊎ ((service : EntityType) × Means us key (Ticketed h.name service)) → Means vs key (Login name) ⊎ ((service : EntityType) × Means vs key (Ticketed name service))
      by_use (inl m) = inl (b.grows.means key (Login name) (subst (λ (whose : Name). Means us key (Login whose)) same m))
      by_use (inr (service, m)) = inr (service, b.grows.means key (Ticketed name service) (subst (λ (whose : Name). Means us key (Ticketed whose service)) same m))

  never : NeverExcepted run whole n us name
  never = mon_client_turns.mon_client-free run whole n line us log J J c.own.mon_client refl b.inv (record { known = b.ok.known; quiet = λ s has. has; count = refl })

  replies : (key : List ℕ) → IsSession us n key → (bytes : List ℕ) (x : AuthorizeReply) → (reply_in key bytes).value ≡ Some x
      → AreGranted run.leaked whole n line log (reply_in key bytes).seals → HasReply us name x
  replies key h bytes x e g =
      subst (λ (whose : Name). HasReply us whose x) (same-entity n h.name name h.own refl) (reply-ties run whole n line us log J name never refl b.inv key bytes x h g e)

  shown-session : (called : Called) (found : Option Ticket) → HeldOk us n called.callee.daemon.kind found → IsSession us n called.held.session → IsSession us n (presented_by called c.own.mon_client found (challenge_of draw)).held.session
  shown-session called None held before = before
  shown-session called (Some held) of before = of.0

  module _ (K : List Entry) (w : Within J K) (none : (session : Admitted) → Contains K (journal.Admitted session) → Contains J (journal.Admitted session)) where
    abbrev Knows : CallStage → Type 0
    Knows st = StageKnown run whole us vs told log J K n line b.inv.one b.one b.grows w b.inv none b.all_told b.spelled name a b.challenge b.cookie held-cookie st

    here-held : (callee : Callee) (cookie : ℕ) → ((session : HeldSession) → session_with callee.daemon c.own.sessions ≡ Some session → session.client_cookie ≡ cookie)
        → IsHeldHere (SentFits K name) (Some cookie) (session_with callee.daemon c.own.sessions)
    here-held callee cookie of = held-here J K name c.own.sessions callee.daemon cookie w b.queues.queued b.known.sessions of

    stage-known : (st : CallStage) → st ≡ stage → CallKeys us n st → IsOfSession c.own.sessions st → Knows st
    stage-known (call.AwaitsBanner called) same keys of = tt
    stage-known (call.AwaitsHello called) same keys of =
        is-own _ (shown-session called (ticket_for called.callee.daemon.kind c.own.mon_client.holdings) (found-ticket us n c.own.mon_client.holdings called.callee.daemon.kind b.ok.holds) keys.0)
    stage-known (call.AwaitsChallenge callee p) same keys of = is-own p.held.session keys.0
    stage-known (call.AwaitsDone callee answered) same keys of = λ bytes x e g. replies answered.session keys bytes x e g
    stage-known (call.AwaitsSignature s callee) same keys of = tt
    stage-known (call.AwaitsIdent s callee cookie) same keys of = tt
    stage-known (call.AwaitsReconnect s callee cookie) same keys of =
        subst (λ (d : Name). IsHeldHere (SentFits K name) (Some cookie) (session_with d c.own.sessions)) (ap (λ (x : CallStage). (callee_of x).daemon) same) (here-held callee cookie of)
    stage-known (call.Open s callee cookie) same keys of =
        subst (λ (d : Name). IsHeldHere (SentFits K name) (Some cookie) (session_with d c.own.sessions)) (ap (λ (x : CallStage). (callee_of x).daemon) same) (here-held callee cookie of)

    turned-is : TurnIs (λ row. AreGranted run.leaked whole n line log row.seals → RowKnown run us vs told log K n line name link.number a stage row) (call.turned_at a stage)
    turned-is = turn-is run whole us vs told log J K n line b.inv.one b.one b.grows w b.inv none b.all_told b.spelled name a b.challenge b.cookie held-cookie stage stands.0 fit
        (stage-known stage refl ok.0 stands.1)

  -- ---- what it comes to

  abbrev outcome : Turned Caller CallStage → Outcome WholeClientNode
  outcome t = turns c (on_link c reading draw link) (turn_of_kind (with_caller daemon c.own) ToDaemon t)

  no-session : (t : Turned Caller CallStage) → EachRow (Leaves c.own.mon_client) t → AllByRecursion IsNoSession (outcome t).out.entries
  no-session Waits l = tt
  no-session (Refuses why opened) l = (tt, tt)
  no-session (Handles row) l = all-map (IsCallEntry c.own.mon_client) IsNoSession (call-no_session c.own.mon_client) row.entries l.enters

  abbrev Comes : Turned Caller CallStage → Type 0
  Comes t = ClientBehind run us vs told log line (entered J (outcome t).out.entries) name c (outcome t)

  abbrev RowsAt : List Entry → CallRow → Type 0
  RowsAt K row = AreGranted run.leaked whole n line log row.seals → RowKnown run us vs told log K n line name link.number a stage row

  waits-comes : Comes Waits
  waits-comes = record {
    next = told;
    number = link.number;
    moved = Quiets told.nonces (same-nonces told name link.number) (λ other whose tie its. refl);
    known_of = told-stays run whole us vs told log J J n line [] b.one b.grows (within-all J []) b.inv (λ other whose tie its. refl) (λ session has. has) b.all_told;
    spelled = b.spelled;
    client = quiet-known us vs b.inv.one b.grows told log n line [] name c refl b.known c.own refl refl b.known.sessions (λ other whose tie its. refl) (λ st any h. h);
    gives_none = λ other whose tie its. refl;
    shows = ShowsNone refl (all-from c.links) tt;
  }

  refuses-comes : (why : BytesFault) (opened : List SealEntry) → AreQuiet opened → Comes (Refuses why opened)
  refuses-comes why opened quiet = record {
    next = told;
    number = link.number;
    moved = Quiets told.nonces (same-nonces told name link.number) none;
    known_of = told-stays run whole us vs told log J (entered J (outcome (Refuses why opened)).out.entries) n line opened b.one b.grows (within-all J (outcome (Refuses why opened)).out.entries) b.inv none
        (none-admitted J (outcome (Refuses why opened)).out.entries (tt, tt)) b.all_told;
    spelled = b.spelled;
    client = left-known us vs b.inv.one b.grows told log n line opened name c refl b.known c.own refl refl b.known.sessions link stage there is told
        (Quiets told.nonces (same-nonces told name link.number) none) (λ st apart h. h) None (λ l e. absurd cc) [];
    gives_none = λ other whose tie its. quiet-none other is_acceptors opened quiet;
    shows = ShowsNone refl (without-from c.links link.number) (tt, tt);
  }
    where
      none : (other : List ℕ) (whose : Name) (tie : ℕ) → IsLinkKey vs other whose tie → contents_by other is_connectors opened ≡ []
      none other whose tie its = quiet-none other is_connectors opened quiet

  handles-comes : (row : CallRow) → Leaves c.own.mon_client row → Held (FitsWith daemon) row → RowKeeps link.number (callee_of stage) row
      → RowKnown run us vs told log (entered J row.entries) n line name link.number a stage row → Comes (Handles row)
  handles-comes row leaves held keeps known = record {
    next = known.behind.next;
    number = link.number;
    moved = known.behind.moved;
    known_of = known.behind.known;
    spelled = known.behind.spelled;
    client = left-known us vs b.inv.one b.grows told log n line row.seals name c refl b.known (with_caller daemon c.own row.own) still refl
        (with-all SessionFits daemon row.own.session (held-map (FitsWith daemon) SessionFits (λ s h. h.0) row.own.session held.0) c.own.sessions b.known.sessions) link stage there is known.behind.next known.behind.moved
        (other-session c.own.sessions daemon row.own.session with_it) row.link left row.sends;
    gives_none = known.behind.gives_none;
    shows = ShowsRow a stage row (was-at c.links link (ToDaemon stage) there is) refl refl refl refl known.shown known.behind.grown (left-from c.links link.number row.link row.sends (λ it e. (known.behind.link it e).0));
  }
    where
      still : row.own.mon_client.name ≡ name
      still = ap (λ (x : MonClient). x.name) leaves.still.1

      with_it : HeldIs (λ (s : HeldSession). s.daemon ≡ daemon) row.own.session
      with_it = held-map (FitsWith daemon) (λ (s : HeldSession). s.daemon ≡ daemon) (λ s h. h.1) row.own.session held.0

      left : (l : Link CallStage) → row.link ≡ Some l
          → LeftIs us vs b.inv.one b.grows told log n line row.seals name c refl b.known (with_caller daemon c.own row.own) still refl
          (with-all SessionFits daemon row.own.session (held-map (FitsWith daemon) SessionFits (λ s h. h.0) row.own.session held.0) c.own.sessions b.known.sessions) link stage there is known.behind.next known.behind.moved
          (other-session c.own.sessions daemon row.own.session with_it) l
      left l e = let k = keeps.link l e in let h = known.behind.link l e in record {
        number = h.0;
        call_told = h.1;
        cookie_fits = h.2;
        calls = k.1;
        session = own-session c.own.sessions daemon row.own.session with_it l.stage (ap (λ (x : Callee). x.daemon) k.1) k.2;
      }

  turned-comes : (t : Turned Caller CallStage) → EachRow (Leaves c.own.mon_client) t → EachRow (Held (FitsWith daemon)) t → EachRow (RowKeeps link.number (callee_of stage)) t
      → TurnIs (RowsAt (entered J (outcome t).out.entries)) t → AreGranted run.leaked whole n line log (outcome t).out.seals → Comes t
  turned-comes Waits leaves held keeps turned g = waits-comes
  turned-comes (Refuses why opened) leaves held keeps quiet g = refuses-comes why opened quiet
  turned-comes (Handles row) leaves held keeps turned g = handles-comes row leaves held keeps (turned g)

  turn-comes : AreGranted run.leaked whole n line log (call_turn c reading draw link stage).out.seals → Comes (call.turned_at a stage)
  turn-comes g =
      let t : Turned Caller CallStage = call.turned_at a stage in
      let leaves = (call-takes a stage).leaves in
      turned-comes t leaves
      (call-held (FitsWith daemon) (again-fits daemon) (acknowledged-fits daemon) a stage (opens-fits stage fit) held-fits)
      (row-keeps a stage (held-at c.own.sessions stage stands.1 (session_with daemon c.own.sessions) refl))
      (turned-is (entered J (outcome t).out.entries) (within-all J (outcome t).out.entries) (none-admitted J (outcome t).out.entries (no-session t leaves))) g

-- a turn of a link to a daemon
pub presents-behind : (run : WholeRun) (whole : List Logged) (us vs : Uses) (told : Told) (log : List Logged) (J : List Entry) (line : ℕ) (name : Name) (c : WholeClientNode) (reading : ℕ) (draw : List ℕ)
    → ClientBefore run whole us vs told log J name c draw → (number : ℕ) (link : Link ClientStage) (stage : CallStage) → link_of number c.links ≡ Some link → link.stage ≡ ToDaemon stage
    → AreGranted run.leaked whole (node.Entity name) line log (call_turn c reading draw link stage).out.seals
    → ClientBehind run us vs told log line (entered J (call_turn c reading draw link stage).out.entries) name c (call_turn c reading draw link stage)
presents-behind run whole us vs told log J line whose c reading draw b number link stage found is g =
    subst (λ (m : Name). ClientBefore run whole us vs told log J m c draw → AreGranted run.leaked whole (node.Entity m) line log (call_turn c reading draw link stage).out.seals
    → ClientBehind run us vs told log line (entered J (call_turn c reading draw link stage).out.entries) m c (call_turn c reading draw link stage)) b.named itself b g
  where
    itself : ClientBefore run whole us vs told log J c.own.mon_client.name c draw → AreGranted run.leaked whole (node.Entity c.own.mon_client.name) line log (call_turn c reading draw link stage).out.seals
        → ClientBehind run us vs told log line (entered J (call_turn c reading draw link stage).out.entries) c.own.mon_client.name c (call_turn c reading draw link stage)
    itself h granted =
        turn-comes run whole us vs told log J line c reading draw h link stage
        (found-some (λ (l : Link ClientStage). l ≡ link) (λ (l : Link ClientStage). l.number == number) c.links link found refl) is
        (subst (λ (st : ClientStage). StageTold us told log c.own link.number st) is
        (found-all (λ (l : Link ClientStage). StageTold us told log c.own l.number l.stage) (λ (l : Link ClientStage). l.number == number) c.links link h.known.links.links found))
        (subst (λ (st : ClientStage). ClientStageOk run us (node.Entity c.own.mon_client.name) st) is
        (found-all (λ (l : Link ClientStage). ClientStageOk run us (node.Entity c.own.mon_client.name) l.stage) (λ (l : Link ClientStage). l.number == number) c.links link h.ok.links found))
        (subst StageFits is (found-all (λ (l : Link ClientStage). StageFits l.stage) (λ (l : Link ClientStage). l.number == number) c.links link h.known.stages found)) granted
