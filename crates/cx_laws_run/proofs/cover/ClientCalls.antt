-- A client's step on a link to a daemon: a turn of it, or an operation that is sent there. What it logs is harmless, and it fetches nothing.
use Rattle.std.proofs.Common.{◌≡◌, ◌==◌, ℕ, Bool, true, false, List, [], ◌∷◌, ◌++◌, take, Option, Some, None, Result, Ok, Err, inl, inr, ◌⊎◌, refl, sym, ap, ◌∙◌, subst}
use Rattle.std.specs.Option.{option_map}
use Rattle.std.specs.Prelude.{IfSome, if◌then◌else◌}
use Rattle.std.specs.List.{AllByRecursion}
use Rattle.cx_base.specs.Names.{Name, is_daemon_type, same_name}
use Rattle.cx_base.specs.declared.kinds.EntityType.{EntityType}
use Rattle.cx_base.specs.declared.nodes.NodeName.{NodeName}
use Rattle.cx_base.specs.declared.nodes.NodeName.TheVariants as node
use Rattle.cx_base.specs.declared.operations.Operation.{Operation}
use Rattle.cx_dice.specs.Draws.{challenge_of}
use Rattle.cx_journal.specs.declared.entries.Entry.{Entry}
use Rattle.cx_journal.specs.declared.entries.Entry.TheVariants as journal
use Rattle.cx_journal.specs.declared.faults.BytesFault.{BytesFault}
use Rattle.cx_laws_run.specs.cx_laws_tickets.proofs.calling.Between.{ClientOk}
use Rattle.cx_laws_run.specs.cx_laws_tickets.proofs.calling.CallSeals.{reply-ties}
use Rattle.cx_laws_run.specs.cx_laws_tickets.proofs.calling.Sessions.{CallKeys, ClientStageOk, HeldOk, IsSession, IsShownFor, found-ticket}
use Rattle.cx_laws_run.proofs.cover.MonClientBehind.{MonClientReady}
use Rattle.cx_laws_run.proofs.cover.CallKnown.{AreHarmless, CallKnown, IsOfDaemon, call-grows, daemon-grows, daemon-retied, harmless-grows}
use Rattle.cx_laws_run.proofs.cover.CallOpen.{FramesKnown, frame-known}
use Rattle.cx_laws_run.proofs.cover.CallOpening.{IsTicketKey, LinkKnown, RowKnown}
use Rattle.cx_laws_run.proofs.cover.CallTurned.{CallShows, TurnKnown, call-turn}
use Rattle.cx_laws_run.proofs.cover.ClientAsks.{ClientStageAsks, IsNoFetch}
use Rattle.cx_laws_run.proofs.cover.ClientLinks.{ClientMoved, LinkBefore, LinkBehind}
use Rattle.cx_laws_run.proofs.cover.OtherLinks.{behind-others}
use Rattle.cx_laws_run.proofs.cover.State.{ClientStageHas}
use Rattle.cx_laws_run.specs.cx_laws_tickets.proofs.fetch.AllTold.{WasAsked, WasDrawn}
use Rattle.cx_laws_run.specs.cx_laws_tickets.proofs.fetch.AskedKnown.{Told}
use Rattle.cx_laws_run.specs.cx_laws_tickets.proofs.fetch.ClientTells.{ClientLinkTold}
use Rattle.cx_laws_run.specs.cx_laws_tickets.proofs.fetch.PointEvents.{events_of}
use Rattle.cx_laws_run.specs.cx_laws_tickets.proofs.fetch.Retied.{Handed, means-retied, retied}
use Rattle.cx_laws_run.specs.cx_laws_keys.proofs.keys.Known.{Inv}
use Rattle.cx_laws_run.specs.cx_laws_keys.proofs.keys.Lists.{all-map, found_all}
use Rattle.cx_laws_run.specs.cx_laws_keys.proofs.keys.Premises.{AreGranted, behind, granted-first}
use Rattle.cx_laws_run.specs.cx_laws_keys.proofs.keys.Uses.{Login, Means, Ticketed, Uses, WholeRun}
use Rattle.cx_laws_run.specs.cx_laws_keys.proofs.login.MonClientRows.{NeverExcepted}
use Rattle.cx_laws_run.specs.cx_login.specs.Held.{Held}
use Rattle.cx_laws_run.specs.cx_rules.specs.Holdings.{MonClient}
use Rattle.cx_laws_run.specs.cx_rules.specs.Links.{Link, link_of}
use Rattle.cx_laws_run.specs.cx_rules.specs.Rows.{Outcome, Row, Turned, Waits, Refuses, Handles, arrival, carried_out, idles, refuses_bytes, secure_sent, turns}
use Rattle.cx_laws_run.specs.cx_rules.specs.Secured.{SealedFrame, Secured, secure_frame, under}
use Rattle.cx_laws_run.specs.cx_rules_session.specs.ClientRule.{ClientStage, ToDaemon, ToMonitor, WholeClient, WholeClientNode, call_open, call_or, caller_to, first_call, having_session, me, sent_entry, with_caller}
use Rattle.cx_laws_run.specs.cx_rules_session.specs.Kinds.{arrival_in, entered_before, of_kind, row_of_kind, turn_of_kind}
use Rattle.cx_laws_run.specs.cx_rules_session.specs.Presenter as call
use Rattle.cx_laws_run.specs.cx_rules_session.specs.Presenter.{CallArrival, CallRow, CallStage, Caller, callee_of, presented, presented_by}
use Rattle.cx_laws_run.specs.cx_rules_session.specs.Sessions.{Called, Callee, HeldSession, operation_message, ticket_for}
use Rattle.cx_session.specs.Queue.{pushed}
use Rattle.cx_steps.specs.declared.seals.Logged.{Logged}
use Rattle.cx_steps.specs.declared.seals.SealEntry.{SealEntry}
use Rattle.cx_laws_run.specs.cx_run.proofs.CallKeeps.{IsCallEntry, Leaves, call-takes}
use Rattle.cx_laws_run.specs.cx_run.proofs.Outcomes.{call_turn, on_link, sent_in}
use Rattle.cx_laws_run.specs.cx_run.proofs.Taking.{EachRow}
use Rattle.cx_laws_run.specs.cx_run.specs.Points.{Point, stepped_at}
use Rattle.cx_laws_run.proofs.cover.ClientRests as rests

-- ---- what a link to a daemon enters

-- a call enters refusals and answers
call-no_fetch : (mon_client : MonClient) (e : Entry) → IsCallEntry mon_client e → IsNoFetch e
call-no_fetch mon_client (journal.Refused x) h = tt
call-no_fetch mon_client (journal.Answered x) h = tt
call-no_fetch mon_client (journal.Fetched x) h = h
call-no_fetch mon_client (journal.Saved x) h = tt
call-no_fetch mon_client (journal.Issued x) h = tt
call-no_fetch mon_client (journal.Looked x) h = tt
call-no_fetch mon_client (journal.Admitted x) h = tt
call-no_fetch mon_client (journal.Resumed x) h = tt
call-no_fetch mon_client (journal.Sent x) h = tt
call-no_fetch mon_client (journal.Handled x) h = tt
call-no_fetch mon_client (journal.Ended x) h = tt
call-no_fetch mon_client (journal.Restarted x) h = tt
call-no_fetch mon_client (journal.Broken x) h = tt
call-no_fetch mon_client (journal.Leaked x) h = tt

calls-no_fetch : (mon_client : MonClient) (turned : Turned Caller CallStage) → EachRow (Leaves mon_client) turned → EachRow (λ (row : CallRow). AllByRecursion IsNoFetch row.entries) turned
calls-no_fetch mon_client Waits h = tt
calls-no_fetch mon_client (Refuses why opened) h = tt
calls-no_fetch mon_client (Handles row) h = all-map (IsCallEntry mon_client) IsNoFetch (call-no_fetch mon_client) row.entries h.enters

-- ---- the first link to a daemon that is open

-- what is found is one of the links, and open with these keys
found-call : (P : Link ClientStage → Type 0) (daemon : Name) (links : List (Link ClientStage)) (link : Link ClientStage) (s : Secured) (callee : Callee) (cookie : ℕ)
    → first_call daemon links ≡ Some (link, (s, (callee, cookie))) → AllByRecursion P links → P link × (link.stage ≡ ToDaemon (call.Open s callee cookie))
found-call P daemon [] link s callee cookie is h = absurd cc
found-call P daemon (l ∷ links) link s callee cookie is h = by_kept (call_open daemon l.stage) refl is (λ later. found-call P daemon links link s callee cookie later h.1)
  where
    open-stage : (stage : ClientStage) (kept : Secured × (Callee × ℕ)) → call_open daemon stage ≡ Some kept → stage ≡ ToDaemon (call.Open kept.0 kept.1.0 kept.1.1)
    open-stage (ToMonitor stage) kept e = absurd cc
    open-stage (ToDaemon (call.AwaitsBanner called)) kept e = absurd cc
    open-stage (ToDaemon (call.AwaitsHello called)) kept e = absurd cc
    open-stage (ToDaemon (call.AwaitsChallenge to shown)) kept e = absurd cc
    open-stage (ToDaemon (call.AwaitsDone to answered)) kept e = absurd cc
    open-stage (ToDaemon (call.AwaitsSignature t to)) kept e = absurd cc
    open-stage (ToDaemon (call.AwaitsIdent t to number)) kept e = absurd cc
    open-stage (ToDaemon (call.AwaitsReconnect t to number)) kept e = absurd cc
    open-stage (ToDaemon (call.Open t to number)) kept e = by_test (same_name to.daemon daemon) e
      where
        by_test : (same : Bool) → (let found : Option (Secured × (Callee × ℕ)) = (if same then Some (t, (to, number)) else None) in found ≡ Some kept)
            → ToDaemon (call.Open t to number) ≡ ToDaemon (call.Open kept.0 kept.1.0 kept.1.1)
        by_test true e = let same : (t, (to, number)) ≡ kept = cc in ap (λ (x : Secured × (Callee × ℕ)). ToDaemon (call.Open x.0 x.1.0 x.1.1)) same
        by_test false e = absurd cc

    by_kept : (kept : Option (Secured × (Callee × ℕ))) → call_open daemon l.stage ≡ kept → call_or l kept (first_call daemon links) ≡ Some (link, (s, (callee, cookie)))
        → (first_call daemon links ≡ Some (link, (s, (callee, cookie))) → P link × (link.stage ≡ ToDaemon (call.Open s callee cookie)))
        → P link × (link.stage ≡ ToDaemon (call.Open s callee cookie))
    by_kept None keeps found rest = rest found
    by_kept (Some kept) keeps found rest =
        let both : (l, kept) ≡ (link, (s, (callee, cookie))) = cc in
        let same : l ≡ link = ap (λ (x : Link ClientStage × (Secured × (Callee × ℕ))). x.0) both in
        let what : kept ≡ (s, (callee, cookie)) = ap (λ (x : Link ClientStage × (Secured × (Callee × ℕ))). x.1) both in (
          subst P same h.0,
          ap (λ (m : Link ClientStage). m.stage) (sym same) ∙ open-stage l.stage kept keeps ∙ ap (λ (x : Secured × (Callee × ℕ)). ToDaemon (call.Open x.0 x.1.0 x.1.1)) what,
        )

module _ (run : WholeRun) (whole : List Logged) (us vs : Uses) (logins : List Handed) (told : Told) (past : List Point) (p : Point) (log : List Logged) (J : List Entry) (c : WholeClientNode)
    (r : MonClientReady run whole (retied logins us) vs logins told past p c.own.mon_client.name log J) (inv : Inv run whole us log J) (free : NeverExcepted run whole (node.Entity c.own.mon_client.name) us c.own.mon_client.name)
    (ok : ClientOk run us c) (client : is_daemon_type c.own.mon_client.name.kind ≡ false)
    (tells : AllByRecursion (ClientLinkTold (WasDrawn past c.own.mon_client.name) (WasAsked past c.own.mon_client.name)) c.links)
    (before : AllByRecursion (LinkBefore run whole (retied logins us) vs logins told past p log J c.own.mon_client.name r) c.links) where
  abbrev name : Name
  name = c.own.mon_client.name

  abbrev n : NodeName
  n = node.Entity name

  abbrev line : ℕ
  line = p.happening.line

  abbrev ws : Uses
  ws = retied logins us

  abbrev reading : ℕ
  reading = p.happening.reading

  abbrev draw : List ℕ
  draw = p.happening.draw

  abbrev Granted : List SealEntry → Type 0
  Granted es = AreGranted run.leaked whole n line log es

  abbrev Moved_ : Outcome WholeClientNode → Type 0
  Moved_ o = ClientMoved run whole ws vs logins told past p log J name r o

  -- where the step comes to this outcome, and what it logs is granted
  abbrev pub Moves : Outcome WholeClientNode → Type 0
  Moves o = (stepped_at p).out ≡ o.out → Granted o.out.seals → Moved_ o

  abbrev Before : Link ClientStage → Type 0
  Before l = LinkBefore run whole ws vs logins told past p log J name r l

  abbrev Behind : List SealEntry → Link ClientStage → Type 0
  Behind es l = LinkBehind run whole ws vs logins told past p log J name r told (behind n line es log) l

  -- ---- a turn of a link to a daemon

  ticket-key : (key : List ℕ) → IsSession us n key → IsTicketKey ws key
  ticket-key key h = record { name = h.name; means = by_use h.means }
    where
      by_use : Means us key (Login h.name) ⊎ ((service : EntityType) × Means us key (Ticketed h.name service)) → Means ws key (Login h.name) ⊎ ((service : EntityType) × Means ws key (Ticketed h.name service))
      by_use (inl m) = inl (means-retied logins us key (Login h.name) m)
      by_use (inr (service, m)) = inr (service, means-retied logins us key (Ticketed h.name service) m)

  module _ (number : ℕ) (link : Link ClientStage) (stage : CallStage) (is : link_of number c.links ≡ Some link) (of : link.stage ≡ ToDaemon stage) where
    abbrev daemon : Name
    daemon = (callee_of stage).daemon

    abbrev b : CallArrival
    b = arrival_in (on_link c reading draw link) (caller_to daemon c.own) stage

    known : CallKnown ws link.received link.taken stage
    known =
        (subst (λ (s : ClientStage). ClientStageHas (events_of past) ws logins told log name link.number link.received link.taken link.sent s × ClientStageAsks s) of
        (found_all Before (λ (l : Link ClientStage). l.number == number) c.links link before is)).0

    keys : CallKeys us n stage
    keys = (subst (λ (s : ClientStage). ClientStageOk run us n s) of (found_all (λ (l : Link ClientStage). ClientStageOk run us n l.stage) (λ (l : Link ClientStage). l.number == number) c.links link ok.links is)).0

    -- the ticket that is shown is one that is held, or was
    shown-key : (called : Called) (nonce : ℕ) → IsShownFor us n called.callee called.held → IsSession us n (presented called c.own.mon_client nonce).held.session
    shown-key called nonce was = by_ticket (ticket_for called.callee.daemon.kind c.own.mon_client.holdings) (found-ticket us n c.own.mon_client.holdings called.callee.daemon.kind ok.holds)
      where
        by_ticket : (t : Option Held) → HeldOk us n called.callee.daemon.kind t → IsSession us n (presented_by called c.own.mon_client t nonce).held.session
        by_ticket (Some held) h = h.0
        by_ticket None h = was.0

    shows : (at_stage : CallStage) → CallKeys us n at_stage → CallShows ws Granted (λ xs ys g. granted-first run.leaked whole n line log xs ys g) b at_stage
    shows (call.AwaitsBanner called) k = tt
    shows (call.AwaitsHello called) k = ticket-key _ (shown-key called (challenge_of draw) k)
    shows (call.AwaitsChallenge callee shown) k = ticket-key shown.held.session k.0
    shows (call.AwaitsDone callee answered) k = λ bytes x e g.
        let h = reply-ties run whole n line us log J name free refl inv answered.session bytes x k g e in
        daemon-retied logins us (take 16 x.secret)
        (record { name = k.name; tie = x.nonce_plus_one; is = record { acceptor = h.acceptor; number = h.number; service = h.service; means = h.means } })
    shows (call.AwaitsSignature s callee) k = tt
    shows (call.AwaitsIdent s callee cookie) k = tt
    shows (call.AwaitsReconnect s callee cookie) k = tt
    shows (call.Open s callee cookie) k = tt

    -- the link that a row leaves
    call-left : (es : List SealEntry) (bytes : List ℕ) (left : Option (Link CallStage)) → LinkKnown ws link.number left
        → IfSome (option_map (of_kind ToDaemon) left) (λ (l : Link ClientStage). (l.number ≡ link.number) × Behind es (record l { sent = l.sent ++ bytes }))
    call-left es bytes None h = tt
    call-left es bytes (Some l) h = (h.0, (call-grows ws vs l.received l.taken l.stage r.grows h.1, tt))

    call-moves : (t : Turned Caller CallStage) → TurnKnown ws (λ (row : CallRow). Granted row.seals → RowKnown ws link.number row) t → EachRow (λ (row : CallRow). AllByRecursion IsNoFetch row.entries) t
        → Moves (turns c (on_link c reading draw link) (turn_of_kind (with_caller daemon c.own) ToDaemon t))
    call-moves Waits h none = λ at g. rests.still run whole us vs logins told past p log J c r before (idles c) tt refl tt
    call-moves (Refuses why opened) h none = λ at g.
        rests.shut run whole us vs logins told past p log J c r before (carried_out c link.number false (refuses_bytes (on_link c reading draw link) why opened)) link.number (harmless-grows ws vs r.grows opened h) refl (tt, tt)
    call-moves (Handles row) h none = λ at g.
        let known_row = h g in
        let harmless : AreHarmless vs row.seals = harmless-grows ws vs r.grows row.seals known_row.harmless in
        rests.moves run whole us vs logins told past p log J c r before (carried_out c link.number true (row_of_kind (with_caller daemon c.own) ToDaemon row)) harmless
        (behind-others Before (Behind row.seals) link.number (λ l apart k. rests.stays run whole us vs logins told past p log J c r before row.seals harmless l k) c.links row.sends (option_map (of_kind ToDaemon) row.link)
        (call-left row.seals row.sends row.link known_row.link) before) none

    pub presents-moves : Moves (call_turn c reading draw link stage)
    presents-moves =
        call-moves (call.turned_at b stage) (call-turn ws Granted (λ xs ys g. granted-first run.leaked whole n line log xs ys g) b stage known (shows stage keys))
        (calls-no_fetch b.own.mon_client (call.turned_at b stage) (call-takes b stage).leaves)

  -- ---- an operation that is sent

  pub later-moves : (session : HeldSession) (operation : Operation) (seq : ℕ) → Moves (sent_in c reading draw session operation seq None)
  later-moves session operation seq = λ at g. rests.still run whole us vs logins told past p log J c r before (sent_in c reading draw session operation seq None) tt refl (tt, tt)

  module _ (session : HeldSession) (operation : Operation) (seq : ℕ) (link : Link ClientStage) (s : Secured) (callee : Callee) (cookie : ℕ)
      (found : first_call session.daemon c.links ≡ Some (link, (s, (callee, cookie)))) where
    abbrev m : WholeClientNode
    m = having_session c (record session { queue = pushed session.queue operation })

    abbrev sends_row : Result SealedFrame BytesFault → Row WholeClient ClientStage
    sends_row made = entered_before (sent_entry c.own session seq operation) (secure_sent (arrival (me m.own) m.own link reading draw) s (λ t. ToDaemon (call.Open t callee cookie)) [] made)

    abbrev sends_out : Result SealedFrame BytesFault → Outcome WholeClientNode
    sends_out made = carried_out m link.number false (sends_row made)

    open-key : IsOfDaemon ws s.keys.key
    open-key =
        let f = found-call Before session.daemon c.links link s callee cookie found before in
        (subst (λ (stage : ClientStage). ClientStageHas (events_of past) ws logins told log name link.number link.received link.taken link.sent stage × ClientStageAsks stage) f.1 f.0).0

    by_made : (made : Result SealedFrame BytesFault) → FramesKnown ws made → Moves (sends_out made)
    by_made (Err why) h = λ at g. rests.shut run whole us vs logins told past p log J c r before (sends_out (Err why)) link.number tt refl (tt, (tt, tt))
    by_made (Ok sealed) h = λ at g.
        let harmless : AreHarmless vs sealed.seals = harmless-grows ws vs r.grows sealed.seals h.0 in
        rests.moves run whole us vs logins told past p log J c r before (sends_out (Ok sealed)) harmless
        (behind-others Before (Behind sealed.seals) link.number (λ l apart k. rests.stays run whole us vs logins told past p log J c r before sealed.seals harmless l k) c.links sealed.bytes
        (Some (record link { stage = ToDaemon (call.Open (under s sealed.keys) callee cookie) })) (refl, (daemon-grows ws vs sealed.keys.key r.grows h.1, tt)) before) (tt, tt)

    pub sends-moves : Moves (sent_in c reading draw session operation seq (Some (link, (s, (callee, cookie)))))
    sends-moves = by_made (secure_frame s.keys (operation_message (seq, operation))) (frame-known ws s.keys (operation_message (seq, operation)) open-key)
