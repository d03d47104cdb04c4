-- An operation that a client sends: it is entered as sent, and is spoken on the open link to its daemon, or waits for the next one.
use Rattle.std.proofs.Common.{◌≡◌, ℕ, ◌==◌, ◌+◌, ◌-◌, ◌<◌, ◌^◌, Bool, true, false, List, [], ◌∷◌, ◌++◌, length, Option, Some, None, Result, Ok, Err, inl, inr, refl, sym, ap, ◌∙◌, subst, arith, append-nil}
use Rattle.std.proofs.lemmas.Bool.Decides.{nat_tests}
use Rattle.std.proofs.lemmas.List.Elements.{Contains-push}
use Rattle.std.specs.Prelude.{Contains, nat_le, if◌then◌else◌}
use Rattle.std.specs.List.{AllByRecursion}
use Rattle.cx_base.proofs.Names.{same_name_is}
use Rattle.cx_base.specs.Names.{Name, same_name}
use Rattle.cx_base.specs.declared.nodes.NodeName.{NodeName}
use Rattle.cx_base.specs.declared.nodes.NodeName.TheVariants as node
use Rattle.cx_base.specs.declared.operations.Operation.{Operation}
use Rattle.cx_journal.specs.declared.entries.Entry.{Entry}
use Rattle.cx_journal.specs.declared.entries.Entry.TheVariants as journal
use Rattle.cx_journal.specs.declared.faults.BytesFault.{BytesFault}
use Rattle.cx_journal.specs.declared.outcomes.Reason.TheVariants as reason
use Rattle.cx_laws_run.specs.cx_laws_keys.proofs.keys.Journal.{entered}
use Rattle.cx_laws_run.specs.cx_laws_keys.proofs.keys.Lists.{all-append}
use Rattle.cx_laws_run.specs.cx_laws_keys.proofs.keys.Premises.{AreGranted}
use Rattle.cx_laws_run.specs.cx_laws_keys.proofs.keys.Uses.{Uses, WholeRun}
use Rattle.cx_laws_run.specs.cx_laws_keys.proofs.login.Entering.{within-all}
use Rattle.cx_laws_links.specs.cx_laws_keys.proofs.series.Frames.{frame-sealed}
use Rattle.cx_laws_sessions.proofs.queues.Clients.{with-its}
use Rattle.cx_laws_sessions.proofs.queues.Sessions.{with-all}
use Rattle.cx_laws_sessions.proofs.session.Lists.{found-all, some-of}
use Rattle.cx_laws_sessions.specs.cx_rules.specs.Links.{Link}
use Rattle.cx_laws_sessions.specs.cx_rules.specs.Messages.{sealed_behind, sealed_then, secure_frames}
use Rattle.cx_laws_sessions.specs.cx_rules.specs.Rows.{Outcome, arrival, carried_out, refused_entry, secure_sent}
use Rattle.cx_laws_sessions.specs.cx_rules.specs.Secured.{SealedFrame, Secured, sealed_under, secure_frame}
use Rattle.cx_laws_sessions.specs.cx_rules_session.specs.ClientRule.{ClientStage, ToDaemon, WholeClient, WholeClientNode, call_open, call_or, first_call, having_session, me, sent_entry}
use Rattle.cx_laws_sessions.specs.cx_rules_session.specs.Kinds.{entered_before, in_stage}
use Rattle.cx_laws_sessions.specs.cx_rules_session.specs.Presenter as call
use Rattle.cx_laws_sessions.specs.cx_rules_session.specs.Presenter.{CallRow, CallStage}
use Rattle.cx_laws_sessions.specs.cx_rules_session.specs.Sessions.{Callee, HeldSession, operation_message, put_session, session_with}
use Rattle.cx_laws_sessions.specs.cx_run.proofs.Outcomes.{sent_in}
use Rattle.cx_session.specs.Queue.{Queue, push_reply, pushed}
use Rattle.cx_session.specs.declared.outbox.QueueFault.{QueueFault}
use Rattle.cx_session.specs.declared.outbox.QueueFault.TheVariants as queue
use Rattle.cx_steps.specs.Onto.{SomeOf}
use Rattle.cx_steps.specs.declared.seals.Logged.{Logged}
use Rattle.cx_laws_sessions.specs.cx_wire.specs.Operations.{operation_layout}
use Rattle.cx_laws_links.proofs.links.CallTold.{same-nonces}
use Rattle.cx_laws_links.proofs.links.CallWords.{KeyedStage, Opened, Says, SomeOrders, pending_of}
use Rattle.cx_laws_links.proofs.links.Known.{IsKeyed, IsOfSession, StageTold, Told}
use Rattle.cx_laws_links.proofs.links.Lifting.{told-stays}
use Rattle.cx_laws_links.proofs.links.Moving.{Quiets}
use Rattle.cx_laws_links.proofs.links.Spoken.{Orders, Spoken, tagged}
use Rattle.cx_laws_run.proofs.sent.Before.{ClientBefore}
use Rattle.cx_laws_run.proofs.sent.CallBehind.{RowBehind, keyed-row}
use Rattle.cx_laws_run.proofs.sent.Shown.{OrderFits, SentFits, ShowsNone, ShowsOrder, all-from, left-from, was-at, without-from}
use Rattle.cx_laws_run.proofs.sent.ClientLinks.{with-other, with-own}
use Rattle.cx_laws_run.proofs.sent.ClientNode.{LeftIs, left-known, quiet-known}
use Rattle.cx_laws_run.proofs.sent.Presents.{none-admitted}
use Rattle.cx_laws_run.proofs.sent.State.{ClientBehind, SessionFits, StageFits}

-- ---- the open link to a daemon

-- the link that is found, and what it keeps
pub found-call : (daemon : Name) (links : List (Link ClientStage)) (link : Link ClientStage) (kept : Secured × (Callee × ℕ)) → first_call daemon links ≡ Some (link, kept)
    → SomeOf (λ (l : Link ClientStage). l ≡ link) links × (call_open daemon link.stage ≡ Some kept)
found-call daemon [] link kept e = absurd cc
found-call daemon (l ∷ links) link kept e = by_open (call_open daemon l.stage) refl e (λ later. found-call daemon links link kept later)
  where
    by_open : (o : Option (Secured × (Callee × ℕ))) → call_open daemon l.stage ≡ o → call_or l o (first_call daemon links) ≡ Some (link, kept)
        → (first_call daemon links ≡ Some (link, kept) → SomeOf (λ (m : Link ClientStage). m ≡ link) links × (call_open daemon link.stage ≡ Some kept))
        → SomeOf (λ (m : Link ClientStage). m ≡ link) (l ∷ links) × (call_open daemon link.stage ≡ Some kept)
    by_open None is found rest = let later = rest found in (inr later.0, later.1)
    by_open (Some k) is found rest =
        let same : (l, k) ≡ (link, kept) = cc in
        let here : l ≡ link = ap (λ (p : Link ClientStage × (Secured × (Callee × ℕ))). p.0) same in
        let keeps : k ≡ kept = ap (λ (p : Link ClientStage × (Secured × (Callee × ℕ))). p.1) same in
        (inl here, ap (λ (m : Link ClientStage). call_open daemon m.stage) (sym here) ∙ is ∙ ap (λ (x : Secured × (Callee × ℕ)). Some x) keeps)

-- it is open, to this daemon
pub open-stage : (daemon : Name) (stage : ClientStage) (kept : Secured × (Callee × ℕ)) → call_open daemon stage ≡ Some kept
    → (stage ≡ ToDaemon (call.Open kept.0 kept.1.0 kept.1.1)) × (kept.1.0.daemon ≡ daemon)
open-stage daemon (ToDaemon (call.Open s callee cookie)) kept e = by_test (same_name callee.daemon daemon) refl e
  where
    by_test : (t : Bool) → same_name callee.daemon daemon ≡ t → (if t then Some (s, (callee, cookie)) else (let o : Option (Secured × (Callee × ℕ)) = None in o)) ≡ Some kept
        → (ToDaemon (call.Open s callee cookie) ≡ ToDaemon (call.Open kept.0 kept.1.0 kept.1.1)) × (kept.1.0.daemon ≡ daemon)
    by_test false is found = absurd cc
    by_test true is found =
        let same : (s, (callee, cookie)) ≡ kept = cc in (
          ap (λ (k : Secured × (Callee × ℕ)). ToDaemon (call.Open k.0 k.1.0 k.1.1)) same,
          sym (ap (λ (k : Secured × (Callee × ℕ)). k.1.0.daemon) same) ∙ same_name_is callee.daemon daemon is,
        )
open-stage daemon _ kept e = absurd cc

-- ---- the session

-- a number is left, and its seq is the next
push-next : (last seq : ℕ) (full spent : Bool) → (last == 2 ^ 64 - 1) ≡ spent → last < 2 ^ 64
    → (let r : Result ℕ QueueFault = (if full then Err (queue.QueueFull 1024) else (if spent then Err queue.Spent else Ok (last + 1))) in r) ≡ Ok seq → (seq ≡ last + 1) × (seq < 2 ^ 64)
push-next last seq true spent test low is = absurd cc
push-next last seq false true test low is = absurd cc
push-next last seq false false test low is =
    let same : last + 1 ≡ seq = cc in
    let apart : last < 2 ^ 64 - 1 = grind (arith, nat_tests) in
    (sym same, omega (arith, same, apart))

pushed-fits : (session : HeldSession) (operation : Operation) (seq : ℕ) → SessionFits session → seq ≡ session.queue.last + 1 → seq < 2 ^ 64 → operation_layout.form.Fits operation
    → SessionFits (record session { queue = pushed session.queue operation })
pushed-fits session operation seq fits next low spelled =
    let more : session.queue.last + 1 < 2 ^ 64 = omega (arith, next, low) in
    record { cookie = fits.cookie; last = more; waiting = all-append OrderFits session.queue.waiting ((session.queue.last + 1, operation) ∷ []) fits.waiting ((more, spelled), tt) }

-- a session in place of the older one of its cookie leaves each link to be that of its session
put-still : (sessions : List HeldSession) (session : HeldSession) (q : Queue) → session_with session.daemon sessions ≡ Some session → (whom : Name) (cookie : ℕ)
    → ((x : HeldSession) → session_with whom sessions ≡ Some x → x.client_cookie ≡ cookie)
    → (x : HeldSession) → session_with whom (put_session (record session { queue = q }) sessions) ≡ Some x → x.client_cookie ≡ cookie
put-still sessions session q there whom cookie h x found = by_test (same_name session.daemon whom) refl
  where
    new : HeldSession
    new = record session { queue = q }

    by_test : (t : Bool) → same_name session.daemon whom ≡ t → x.client_cookie ≡ cookie
    by_test false apart = h x (sym (with-other session.daemon whom apart (Some (record session { queue = q })) sessions refl) ∙ found)
    by_test true same =
        let one : session.daemon ≡ whom = same_name_is session.daemon whom same in
        let put : Some (record session { queue = q }) ≡ Some x =
        with-own session.daemon (Some (record session { queue = q })) sessions refl x (subst (λ (d : Name). session_with d (put_session (record session { queue = q }) sessions) ≡ Some x) (sym one) found) in
        let is : record session { queue = q } ≡ x = cc in
        sym (ap (λ (y : HeldSession). y.client_cookie) is) ∙ h session (subst (λ (d : Name). session_with d sessions ≡ Some session) one there)

still-of : (sessions : List HeldSession) (session : HeldSession) (q : Queue) → session_with session.daemon sessions ≡ Some session → (stage : CallStage) → IsOfSession sessions stage
    → IsOfSession (put_session (record session { queue = q }) sessions) stage
still-of sessions session q there (call.AwaitsReconnect s callee cookie) h = put-still sessions session q there callee.daemon cookie h
still-of sessions session q there (call.Open s callee cookie) h = put-still sessions session q there callee.daemon cookie h
still-of sessions session q there (call.AwaitsBanner called) h = tt
still-of sessions session q there (call.AwaitsHello called) h = tt
still-of sessions session q there (call.AwaitsChallenge callee p) h = tt
still-of sessions session q there (call.AwaitsDone callee answered) h = tt
still-of sessions session q there (call.AwaitsSignature s callee) h = tt
still-of sessions session q there (call.AwaitsIdent s callee cookie) h = tt

-- ---- a step

module _ (run : WholeRun) (whole : List Logged) (us vs : Uses) (told : Told) (log : List Logged) (J : List Entry) (line : ℕ) (c : WholeClientNode) (reading : ℕ) (draw : List ℕ)
    (b : ClientBefore run whole us vs told log J c.own.mon_client.name c draw) (session : HeldSession) (held : session_with session.daemon c.own.sessions ≡ Some session) (operation : Operation) (seq : ℕ)
    (next_seq : seq ≡ session.queue.last + 1) (low : seq < 2 ^ 64) (spelled : operation_layout.form.Fits operation) where
  abbrev name : Name
  name = c.own.mon_client.name

  abbrev n : NodeName
  n = node.Entity c.own.mon_client.name

  abbrev sent : Entry
  sent = sent_entry c.own session seq operation

  abbrev sent_as : ℕ → Entry
  sent_as cookie = journal.Sent (record { client = c.own.mon_client.name; daemon = session.daemon; cookie = cookie; seq = seq; operation = operation })

  abbrev own : WholeClient
  own = record c.own { sessions = put_session (record session { queue = pushed session.queue operation }) c.own.sessions }

  fits : AllByRecursion SessionFits own.sessions
  fits = with-all SessionFits session.daemon (Some (record session { queue = pushed session.queue operation }))
      (pushed-fits session operation seq (found-all SessionFits (λ (s : HeldSession). same_name s.daemon session.daemon) c.own.sessions session b.known.sessions held) next_seq low spelled)
      c.own.sessions b.known.sessions

  abbrev Comes : Outcome WholeClientNode → Type 0
  Comes o = ClientBehind run us vs told log line (entered J o.out.entries) name c o

  -- ---- no link is open

  later-comes : Comes (sent_in c reading draw session operation seq None)
  later-comes = record {
    next = told;
    number = 0;
    moved = Quiets told.nonces (same-nonces told name 0) (λ other whose tie its. refl);
    known_of = told-stays run whole us vs told log J (entered J (sent ∷ [])) n line [] b.one b.grows (within-all J (sent ∷ [])) b.inv (λ other whose tie its. refl)
        (none-admitted J (sent ∷ []) (tt, tt)) b.all_told;
    spelled = b.spelled;
    client = quiet-known us vs b.inv.one b.grows told log n line [] name c refl b.known own refl refl fits (λ other whose tie its. refl)
        (λ st any h. still-of c.own.sessions session (pushed session.queue operation) held st h);
    gives_none = λ other whose tie its. refl;
    shows = ShowsNone refl (all-from c.links) (tt, tt);
  }

  -- ---- on an open link

  module _ (link : Link ClientStage) (s : Secured) (callee : Callee) (cookie : ℕ) (there : SomeOf (λ (l : Link ClientStage). l ≡ link) c.links) (is : link.stage ≡ ToDaemon (call.Open s callee cookie))
      (to : callee.daemon ≡ session.daemon) (k : IsKeyed us told log name link.number s (Some cookie))
      (of : (x : HeldSession) → session_with callee.daemon c.own.sessions ≡ Some x → x.client_cookie ≡ cookie) (fit : cookie < 2 ^ 64) where
    abbrev order : ℕ × Operation
    order = (seq, operation)

    -- the session is that of the link
    same-cookie : session.client_cookie ≡ cookie
    same-cookie = of session (subst (λ (d : Name). session_with d c.own.sessions ≡ Some session) (sym to) held)

    abbrev outcome : Result SealedFrame BytesFault → Outcome WholeClientNode
    outcome made = carried_out (having_session c (record session { queue = pushed session.queue operation })) link.number false (entered_before sent
        (secure_sent (arrival (me c.own) own link reading draw) s (λ behind. ToDaemon (call.Open behind callee cookie)) [] made))

    still : (st : CallStage) → same_name (call.callee_of st).daemon callee.daemon ≡ false → IsOfSession c.own.sessions st → IsOfSession own.sessions st
    still st apart h = still-of c.own.sessions session (pushed session.queue operation) held st h

    refused-comes : (why : BytesFault) → Comes (outcome (Err why))
    refused-comes why =
        let es : List Entry = sent ∷ refused_entry (me c.own) link.number (reason.Bytes why) ∷ [] in
        record {
          next = told;
          number = link.number;
          moved = Quiets told.nonces (same-nonces told name link.number) (λ other whose tie its. refl);
          known_of = told-stays run whole us vs told log J (entered J es) n line [] b.one b.grows (within-all J es) b.inv (λ other whose tie its. refl) (none-admitted J es (tt, (tt, tt))) b.all_told;
          spelled = b.spelled;
          client = left-known us vs b.inv.one b.grows told log n line [] name c refl b.known own refl refl fits link (call.Open s callee cookie) there is told
              (Quiets told.nonces (same-nonces told name link.number) (λ other whose tie its. refl)) still None (λ l e. absurd cc) [];
          gives_none = λ other whose tie its. refl;
          shows = ShowsNone refl (without-from c.links link.number) (tt, (tt, tt));
        }

    module _ (one : SealedFrame) (made : secure_frame s.keys (operation_message order) ≡ Ok one) where
      abbrev behind_it : Secured
      behind_it = record s { keys = one.keys }

      abbrev left : Link CallStage
      left = in_stage link (call.Open behind_it callee cookie)

      -- what is spoken, as a row of a link to a daemon
      abbrev row : CallRow
      row = record { own = record { mon_client = c.own.mon_client; session = None }; link = Some left; sends = one.bytes; save = None; entries = []; seals = one.seals }

      was : Contains (J ++ sent ∷ []) (sent_as cookie)
      was = subst (λ (m : ℕ). Contains (J ++ sent ∷ []) (sent_as m)) same-cookie (Contains-push J sent)

      abbrev says : Says (SentFits (J ++ sent ∷ []) name) link.number callee s (Some cookie) row
      says = record {
        words = Orders order ∷ [];
        quiet = [];
        silent = tt;
        sealed = record { bytes = one.bytes ++ []; seals = one.seals ++ []; keys = one.keys };
        made = ap (λ (r : Result SealedFrame BytesFault). sealed_then r (λ first. sealed_behind first (secure_frames first.keys []))) made;
        seals = sym (append-nil one.seals);
        link = λ l e.
            let it : left ≡ l = cc in
            (behind_it, subst (λ (m : Link CallStage). KeyedStage m.stage behind_it (Some cookie)) it (Opened behind_it callee cookie), refl, ap (λ (m : Link CallStage). m.number) (sym it));
        calls = λ l e. let it : left ≡ l = cc in subst (λ (m : Link CallStage). call.callee_of m.stage ≡ callee) it refl;
        held = λ l e. tt;
        waits = λ l e. let it : left ≡ l = cc in subst (λ (m : Link CallStage). [] ≡ pending_of m.stage) it refl;
        said = SomeOrders cookie (order ∷ []) refl (((session.daemon, was), (low, spelled)), tt);
      }

      abbrev more : List (List ℕ × Spoken)
      more = tagged s.keys.key (Orders order ∷ [])

      spoken : AreGranted run.leaked whole n line log one.seals → RowBehind run us vs told log (J ++ sent ∷ []) n line name link.number more row
      spoken g = keyed-row run whole us vs told log J (J ++ sent ∷ []) n line b.inv.one b.one b.grows (within-all J (sent ∷ [])) b.inv (none-admitted J (sent ∷ []) (tt, tt)) b.all_told b.spelled name
          link.number callee s (Some cookie) k row says fit g

      -- the link is as before, under the keys behind it
      left-is : (r : RowBehind run us vs told log (J ++ sent ∷ []) n line name link.number more row) (l : Link CallStage) → Some left ≡ Some l
          → LeftIs us vs b.inv.one b.grows told log n line one.seals name c refl b.known own refl refl fits link (call.Open s callee cookie) there is r.next r.moved still l
      left-is r l e =
          let it : left ≡ l = cc in
          let h = r.link left refl in
          subst (λ (m : Link CallStage). LeftIs us vs b.inv.one b.grows told log n line one.seals name c refl b.known own refl refl fits link (call.Open s callee cookie) there is r.next r.moved still m) it (record {
            number = refl;
            call_told = h.1;
            cookie_fits = h.2;
            calls = refl;
            session = put-still c.own.sessions session (pushed session.queue operation) held callee.daemon cookie of;
          })

      spoken-comes : AreGranted run.leaked whole n line log one.seals → Comes (outcome (Ok one))
      spoken-comes g = let r = spoken g in record {
        next = r.next;
        number = link.number;
        moved = r.moved;
        known_of = r.known;
        spelled = r.spelled;
        client = left-known us vs b.inv.one b.grows told log n line one.seals name c refl b.known own refl refl fits link (call.Open s callee cookie) there is r.next r.moved still (Some left)
            (left-is r) one.bytes;
        gives_none = r.gives_none;
        shows = ShowsOrder s behind_it callee cookie order left (was-at c.links link (ToDaemon (call.Open s callee cookie)) there is) refl
            (ap (λ (x : SealedFrame). x.keys.key) made-so) (ap (λ (x : SealedFrame). x.keys.into) made-so) (r.grown left refl)
            (left-from c.links link.number (Some left) one.bytes (λ it e. numbered it e)) (tt, tt);
      }
        where
          made-so : one ≡ sealed_under s.keys (operation_message order)
          made-so = (frame-sealed s.keys (operation_message order) one made).0

          numbered : (it : Link CallStage) → Some left ≡ Some it → it.number ≡ link.number
          numbered it e = let same : left ≡ it = cc in ap (λ (l : Link CallStage). l.number) (sym same)

    sealed-comes : (made : Result SealedFrame BytesFault) → secure_frame s.keys (operation_message order) ≡ made → AreGranted run.leaked whole n line log (outcome made).out.seals → Comes (outcome made)
    sealed-comes (Err why) e g = refused-comes why
    sealed-comes (Ok one) e g = spoken-comes one e g

    there-comes : AreGranted run.leaked whole n line log (sent_in c reading draw session operation seq (Some (link, (s, (callee, cookie))))).out.seals
        → Comes (sent_in c reading draw session operation seq (Some (link, (s, (callee, cookie)))))
    there-comes g = sealed-comes (secure_frame s.keys (operation_message order)) refl g

-- ---- as a client

module _ (run : WholeRun) (whole : List Logged) (us vs : Uses) (told : Told) (log : List Logged) (J : List Entry) (line : ℕ) (c : WholeClientNode) (reading : ℕ) (draw : List ℕ)
    (b : ClientBefore run whole us vs told log J c.own.mon_client.name c draw) (daemon : Name) (session : HeldSession) (operation : Operation) (seq : ℕ)
    (held : session_with daemon c.own.sessions ≡ Some session) (pushes : push_reply session.queue ≡ Ok seq) (spelled : operation_layout.form.Fits operation) where
  own-held : session_with session.daemon c.own.sessions ≡ Some session
  own-held = with-its c.own.sessions daemon session held

  session-fits : SessionFits session
  session-fits = found-all SessionFits (λ (s : HeldSession). same_name s.daemon daemon) c.own.sessions session b.known.sessions held

  next-of : (seq ≡ session.queue.last + 1) × (seq < 2 ^ 64)
  next-of = push-next session.queue.last seq (nat_le 1024 (length session.queue.waiting)) (session.queue.last == 2 ^ 64 - 1) refl session-fits.last pushes

  abbrev Behind : Option (Link ClientStage × (Secured × (Callee × ℕ))) → Type 0
  Behind found = ClientBehind run us vs told log line (entered J (sent_in c reading draw session operation seq found).out.entries) c.own.mon_client.name c (sent_in c reading draw session operation seq found)

  pub sent-later : Behind None
  sent-later = later-comes run whole us vs told log J line c reading draw b session own-held operation seq next-of.0 next-of.1 spelled

  pub sent-there : (link : Link ClientStage) (s : Secured) (callee : Callee) (cookie : ℕ) → first_call session.daemon c.links ≡ Some (link, (s, (callee, cookie)))
      → AreGranted run.leaked whole (node.Entity c.own.mon_client.name) line log (sent_in c reading draw session operation seq (Some (link, (s, (callee, cookie))))).out.seals
      → Behind (Some (link, (s, (callee, cookie))))
  sent-there link s callee cookie found g =
      let there = found-call session.daemon c.links link (s, (callee, cookie)) found in
      let stands = open-stage session.daemon link.stage (s, (callee, cookie)) there.1 in
      let told_of : StageTold us told log c.own link.number (ToDaemon (call.Open s callee cookie)) =
      subst (λ (st : ClientStage). StageTold us told log c.own link.number st) stands.0 (of-link (λ (l : Link ClientStage). StageTold us told log c.own l.number l.stage) link there.0 b.known.links.links) in
      let fit : cookie < 2 ^ 64 = subst StageFits stands.0 (of-link (λ (l : Link ClientStage). StageFits l.stage) link there.0 b.known.stages) in
      there-comes run whole us vs told log J line c reading draw b session own-held operation seq next-of.0 next-of.1 spelled link s callee cookie there.0 stands.0 stands.1 told_of.0 told_of.1 fit g
    where
      of-link : (P : Link ClientStage → Type 0) (l : Link ClientStage) → SomeOf (λ (m : Link ClientStage). m ≡ l) c.links → AllByRecursion P c.links → P l
      of-link P l there all = some-of (λ (m : Link ClientStage). m ≡ l) P (P l) (λ m same p. subst P same p) c.links there all

-- an operation that is sent
pub sends-behind : (run : WholeRun) (whole : List Logged) (us vs : Uses) (told : Told) (log : List Logged) (J : List Entry) (line : ℕ) (name : Name) (c : WholeClientNode) (reading : ℕ) (draw : List ℕ)
    → ClientBefore run whole us vs told log J name c draw → (daemon : Name) (session : HeldSession) (operation : Operation) (seq : ℕ) → session_with daemon c.own.sessions ≡ Some session
    → push_reply session.queue ≡ Ok seq → operation_layout.form.Fits operation → (link : Link ClientStage) (s : Secured) (callee : Callee) (cookie : ℕ)
    → first_call session.daemon c.links ≡ Some (link, (s, (callee, cookie)))
    → AreGranted run.leaked whole (node.Entity name) line log (sent_in c reading draw session operation seq (Some (link, (s, (callee, cookie))))).out.seals
    → ClientBehind run us vs told log line (entered J (sent_in c reading draw session operation seq (Some (link, (s, (callee, cookie))))).out.entries) name c
    (sent_in c reading draw session operation seq (Some (link, (s, (callee, cookie)))))
sends-behind run whole us vs told log J line whose c reading draw b daemon session operation seq held pushes spelled link s callee cookie found g =
    subst (λ (m : Name). ClientBefore run whole us vs told log J m c draw
    → AreGranted run.leaked whole (node.Entity m) line log (sent_in c reading draw session operation seq (Some (link, (s, (callee, cookie))))).out.seals
    → ClientBehind run us vs told log line (entered J (sent_in c reading draw session operation seq (Some (link, (s, (callee, cookie))))).out.entries) m c
    (sent_in c reading draw session operation seq (Some (link, (s, (callee, cookie)))))) b.named
    (λ h granted. sent-there run whole us vs told log J line c reading draw h daemon session operation seq held pushes spelled link s callee cookie found granted) b g

-- or one that only waits
pub waits-behind : (run : WholeRun) (whole : List Logged) (us vs : Uses) (told : Told) (log : List Logged) (J : List Entry) (line : ℕ) (name : Name) (c : WholeClientNode) (reading : ℕ) (draw : List ℕ)
    → ClientBefore run whole us vs told log J name c draw → (daemon : Name) (session : HeldSession) (operation : Operation) (seq : ℕ) → session_with daemon c.own.sessions ≡ Some session
    → push_reply session.queue ≡ Ok seq → operation_layout.form.Fits operation
    → ClientBehind run us vs told log line (entered J (sent_in c reading draw session operation seq None).out.entries) name c (sent_in c reading draw session operation seq None)
waits-behind run whole us vs told log J line whose c reading draw b daemon session operation seq held pushes spelled =
    subst (λ (m : Name). ClientBefore run whole us vs told log J m c draw
    → ClientBehind run us vs told log line (entered J (sent_in c reading draw session operation seq None).out.entries) m c (sent_in c reading draw session operation seq None)) b.named
    (λ h. sent-later run whole us vs told log J line c reading draw h daemon session operation seq held pushes spelled) b
