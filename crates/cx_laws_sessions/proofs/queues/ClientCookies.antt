-- What each step of a client makes of the places of its cookies, whatever comes to it, where draws are fresh: what it sends has the number behind those that
-- it sent under its cookie.
use Rattle.std.proofs.Common.{◌≡◌, ◌+◌, ◌==◌, ℕ, Bool, true, false, not, List, [], ◌∷◌, ◌++◌, length, Option, Some, None, Result, Ok, Err, eq-eqb, eqb-true, length-append, refl, sym, ap, ◌∙◌, subst}
use Rattle.std.proofs.lemmas.List.{append-nil}
use Rattle.std.specs.List.{AllByRecursion}
use Rattle.std.specs.Option.{option_map}
use Rattle.std.specs.Prelude.{◌&&◌, if◌then◌else◌}
use Rattle.cx_base.proofs.Names.{same_name_self}
use Rattle.cx_base.specs.Names.{Name, same_name}
use Rattle.cx_base.specs.declared.operations.Operation.{Operation}
use Rattle.cx_journal.specs.Behind.{EachBehind}
use Rattle.cx_journal.specs.declared.entries.Entry.{Entry}
use Rattle.cx_journal.specs.declared.entries.Entry.TheVariants as entry
use Rattle.cx_journal.specs.declared.entries.Sent.{Sent}
use Rattle.cx_journal.specs.declared.faults.BytesFault.{BytesFault}
use Rattle.cx_journal.specs.declared.outcomes.Reason.{Reason}
use Rattle.cx_journal.specs.declared.outcomes.Reason.TheVariants as reason
use Rattle.cx_laws_sessions.proofs.queues.Calls.{AsksDrawn, Held, IsDrawnIn, OpensFor, awaited, call-held}
use Rattle.cx_laws_sessions.proofs.queues.Clients.{IsPushed, with-its}
use Rattle.cx_laws_sessions.proofs.queues.Drawing.{Draws}
use Rattle.cx_laws_sessions.proofs.queues.Entries.{IsPlain, IsSilent, Untouched, call-plain, plain-silent, plain-untouched, quiet-plain}
use Rattle.cx_laws_sessions.proofs.queues.Numbers.{IsNextUnder, all-none-under, all_under, silent-next, under-push, under-still}
use Rattle.cx_laws_sessions.proofs.queues.Places.{AtLink, InSession, IsAwaitedAt, IsFreeFor, LinkPlaced, Nowhere, Place, Placed, Places, PlacesBut, SessionPlaced, Told, at_with, awaited_on, but-moves, but-of, but-put, but-without, new-nowhere, place-with, places-on, places-put, places-without, session-on, told-on}
use Rattle.cx_laws_sessions.proofs.queues.Sessions.{AreApart, HeldIs, all-filter, held-all, put-all, with-all}
use Rattle.cx_laws_sessions.proofs.session.MonClients.{EntersNone, mon_client-enters}
use Rattle.cx_laws_sessions.proofs.session.Lists.{all-map, found-all}
use Rattle.cx_laws_sessions.proofs.session.Moves.{IsQuiet}
use Rattle.cx_laws_sessions.specs.cx_rules.specs.Connector as connector
use Rattle.cx_laws_sessions.specs.cx_rules.specs.Greetings.{own_banner}
use Rattle.cx_laws_sessions.specs.cx_rules.specs.Holdings.{MonClient}
use Rattle.cx_laws_sessions.specs.cx_rules.specs.Inputs.{Input}
use Rattle.cx_laws_sessions.specs.cx_rules.specs.Links.{Link, put_link, without_link}
use Rattle.cx_laws_sessions.specs.cx_rules.specs.Requests.{Requests, behind_request, sealed_request, sends_request}
use Rattle.cx_laws_sessions.specs.cx_rules.specs.Rows.{Outcome, Turned, Waits, Refuses, Handles, arrival, carried_out, fed, idles, lifted, links_behind, new_link, refused_entry, secure_sent, turns}
use Rattle.cx_laws_sessions.specs.cx_rules.specs.Secured.{SealedFrame, Secured, secure_frame, under}
use Rattle.cx_laws_sessions.specs.cx_rules.specs.declared.requests.Want.TheVariants.{Tickets}
use Rattle.cx_laws_sessions.specs.cx_rules_session.specs.ClientRule.{ClientStage, ToMonitor, ToDaemon, Dial, ForLogin, ForCall, WholeClientNode, caller_to, calls, first_stage, having_session, is_open, is_to_monitor, logs_in, loses, me, open_to_ask, opens_dialled, own_behind_gone, refuses_command, restarted, sent_entry, unreached, whole_client_rule, with_mon_client, with_caller}
use Rattle.cx_laws_sessions.specs.cx_rules_session.specs.Kinds.{arrival_in, entered_before, in_stage, of_kind, turn_of_kind}
use Rattle.cx_laws_sessions.specs.cx_rules_session.specs.Presenter as call
use Rattle.cx_laws_sessions.specs.cx_rules_session.specs.Presenter.{CallStage, Caller, callee_of}
use Rattle.cx_laws_sessions.specs.cx_rules_session.specs.Sessions.{Callee, HeldSession, held_gid, operation_message, put_session, session_with, with_session}
use Rattle.cx_laws_sessions.specs.cx_run.proofs.CallKeeps.{IsCallEntry, Leaves, call-takes}
use Rattle.cx_laws_sessions.specs.cx_run.proofs.Outcomes.{EachOutcome, mon_client_turn, call_turn, on_link, renewed, sent_in, step-keeps}
use Rattle.cx_laws_sessions.specs.cx_run.proofs.Taking.{EachRow, Takes, TurnTakes}
use Rattle.cx_session.specs.Queue.{pushed}
use Rattle.cx_laws_sessions.specs.cx_steps.specs.declared.events.Peer.{Peer}
use Rattle.cx_laws_sessions.specs.cx_steps.specs.declared.seals.SealEntry.{SealEntry}
use Rattle.cx_laws_sessions.specs.cx_wire.specs.declared.bodies.Request.TheVariants as asked

-- a link that goes on has its number
abbrev IsNumber : {Stage : Type 0} → ℕ → Option (Link Stage) → Type 0
IsNumber number None = Unit {0}
IsNumber number (Some link) = link.number ≡ number

-- a link behind what was sent on it, in a stage
abbrev going_on : Link ClientStage → ClientStage → List ℕ → Link ClientStage
going_on link stage bytes = record link { sent = link.sent ++ bytes; stage = stage }

in_one : (a b : Name) → InSession a ≡ InSession b → a ≡ b
in_one a b e = cc

module _ (was is : ℕ → Type 0) (J : List Entry) (c : WholeClientNode) (at : ℕ → Place) (apart : AreApart c.own.sessions) (p : Places was c.own.mon_client.name J c.links c.own.sessions at) where
  abbrev client : Name
  client = c.own.mon_client.name

  -- what a step leaves
  pub record Moved (o : Outcome WholeClientNode) : Type 0 where
    pub next : EachBehind IsNextUnder J o.out.entries
    pub placed : Placed is client (J ++ o.out.entries) o.state.links o.state.own.sessions

  -- so it is where what is sent has the next number of its session, and what is drawn is new
  abbrev Moves : Outcome WholeClientNode → Type 0
  Moves o = AllByRecursion (IsPushed c.own.sessions) o.out.entries → Draws was is o.out.seals → Moved o

  -- ---- where nothing is sent

  plain-moved : (o : Outcome WholeClientNode) → AllByRecursion IsPlain o.out.entries → Placed is client J o.state.links o.state.own.sessions → Moved o
  plain-moved o plain placed = record {
    next = silent-next o.out.entries J (all-map IsPlain IsSilent plain-silent o.out.entries plain);
    placed = (
      placed.0,
      places-on is is client J (J ++ o.out.entries) o.state.links o.state.own.sessions placed.0 (λ cookie h. h)
          (λ cookie. under-still client cookie J o.out.entries (all-map IsPlain (Untouched client) (plain-untouched client) o.out.entries plain)) placed.1,
    );
  }

  still-moved : (o : Outcome WholeClientNode) → AllByRecursion IsPlain o.out.entries → Draws was is o.out.seals → Places was client J o.state.links o.state.own.sessions at → Moved o
  still-moved o plain d now =
      plain-moved o plain (at, places-on was is client J J o.state.links o.state.own.sessions at d.grows (λ cookie. refl) now)

  without : (number : ℕ) → Places was client J (without_link number c.links) c.own.sessions at
  without number = places-without was client J c.links c.own.sessions at p number

  put : (new : Link ClientStage) → LinkPlaced at new → Places was client J (put_link new c.links) c.own.sessions at
  put new placed = places-put was client J c.links c.own.sessions at p new placed

  quiet-all : (es : List Entry) → AllByRecursion IsQuiet es → AllByRecursion IsPlain es
  quiet-all es quiet = all-map IsQuiet IsPlain quiet-plain es quiet

  -- ---- a link to a daemon

  -- Behind a row of it a session has the cookie under which it was asked for: that one moves from the link into the session. All else is as before, but for
  -- that link.
  record Opening (number : ℕ) (stage : CallStage) : Type 0 where
    later : ℕ → Place
    but : PlacesBut was client J number c.links c.own.sessions later
    opens : OpensFor (SessionPlaced later client J) stage

  opening : (number : ℕ) (stage : CallStage) → IsAwaitedAt at number (awaited stage) → Opening number stage
  opening number (call.AwaitsIdent s callee cookie) here =
      let free : IsFreeFor number (at cookie) = subst (IsFreeFor number) (sym here) refl in
      let told : Told was client J cookie (AtLink number) = subst (Told was client J cookie) here (p.told cookie) in
      record {
        later = at_with at cookie (InSession callee.daemon);
        but = but-moves at cookie number (InSession callee.daemon) free was client J c.links c.own.sessions told.0 (but-of was client J number c.links c.own.sessions at p);
        opens = λ server. record { place = place-with at cookie (InSession callee.daemon); count = ap length told.1 };
      }
  opening number _ here = record { later = at; but = but-of was client J number c.links c.own.sessions at p; opens = tt }

  -- and a cookie that is drawn is at the link, where a session is asked for under it
  record Asking (number : ℕ) (sessions : List HeldSession) (o : Option ℕ) : Type 0 where
    latest : ℕ → Place
    but : PlacesBut is client J number c.links sessions latest
    awaits : IsAwaitedAt latest number o

  asking : (number : ℕ) (sessions : List HeldSession) (later : ℕ → Place) → PlacesBut was client J number c.links sessions later → (seals : List SealEntry) → Draws was is seals
      → (o : Option ℕ) → IsDrawnIn seals o → Asking number sessions o
  asking number sessions later b seals d o drawn = by_asked o drawn (places-on was is client J J [] sessions later d.grows (λ cookie. refl) (record { told = b.told; waits = tt; held = b.held }))
    where
      by_asked : (o : Option ℕ) → IsDrawnIn seals o → Places is client J [] sessions later → Asking number sessions o
      by_asked None drawn grown = record { latest = later; but = record { told = grown.told; others = b.others; held = grown.held }; awaits = tt }
      by_asked (Some cookie) drawn grown =
          let nowhere : later cookie ≡ Nowhere = new-nowhere was client J cookie (later cookie) (b.told cookie) (λ before. d.new cookie drawn before) in
          let free : IsFreeFor number (later cookie) = subst (IsFreeFor number) (sym nowhere) tt in
          record {
            latest = at_with later cookie (AtLink number);
            but = but-moves later cookie number (AtLink number) free is client J c.links sessions (d.drawn cookie drawn) (record { told = grown.told; others = b.others; held = grown.held });
            awaits = place-with later cookie (AtLink number);
          }

  call-placed : (number : ℕ) (stage : CallStage) (b : Opening number stage) (daemon : Name) (session : Option HeldSession) → HeldIs (SessionPlaced b.later client J) session
      → (seals : List SealEntry) → Draws was is seals → (bytes : List ℕ) (left : Option (Link CallStage)) → IsNumber number left → AsksDrawn seals left
      → Placed is client J (links_behind c.links number bytes (option_map (of_kind ToDaemon) left)) (with_session daemon session c.own.sessions)
  call-placed number stage b daemon session held seals d bytes left has asks = by_left left has asks
    where
      sessions : List HeldSession
      sessions = with_session daemon session c.own.sessions

      behind : PlacesBut was client J number c.links sessions b.later
      behind = record { told = b.but.told; others = b.but.others; held = with-all (SessionPlaced b.later client J) daemon session held c.own.sessions b.but.held }

      by_left : (left : Option (Link CallStage)) → IsNumber number left → AsksDrawn seals left
          → Placed is client J (links_behind c.links number bytes (option_map (of_kind ToDaemon) left)) sessions
      by_left None has asks =
          let k : Asking number sessions None = asking number sessions b.later behind seals d None tt in
          (k.latest, but-without is client J number c.links sessions k.latest k.but)
      by_left (Some link) has asks =
          let k : Asking number sessions (awaited link.stage) = asking number sessions b.later behind seals d (awaited link.stage) asks in
          let new : Link ClientStage = going_on (of_kind ToDaemon link) (ToDaemon link.stage) bytes in (
            k.latest,
            but-put is client J number c.links sessions k.latest k.but new has (subst (λ (n : ℕ). IsAwaitedAt k.latest n (awaited link.stage)) (sym has) k.awaits),
          )

  -- ---- an operation is sent

  module _ (session : HeldSession) (operation : Operation) (seq : ℕ) (there : session_with session.daemon c.own.sessions ≡ Some session) where
    abbrev sent : Sent
    sent = record { client = client; daemon = session.daemon; cookie = session.client_cookie; seq = seq; operation = operation }

    here : SessionPlaced at client J session
    here = found-all (SessionPlaced at client J) (λ (s : HeldSession). same_name s.daemon session.daemon) c.own.sessions session p.held there

    module _ (rest : List Entry) (plain : AllByRecursion IsPlain rest) where
      abbrev K : List Entry
      K = J ++ entry.Sent sent ∷ rest

      none-rest : (cookie : ℕ) → all_under client cookie rest ≡ []
      none-rest cookie = all-none-under client cookie rest (all-map IsPlain (Untouched client) (plain-untouched client) rest plain)

      under-now : all_under client session.client_cookie K ≡ all_under client session.client_cookie J ++ (seq, operation) ∷ []
      under-now =
          let its : ((session.client_cookie == session.client_cookie) && same_name client client) ≡ true =
          rw (eq-eqb session.client_cookie session.client_cookie refl, same_name_self client) refl in
          under-push client session.client_cookie J rest sent true its (none-rest session.client_cookie)

      under-else : (cookie : ℕ) → (session.client_cookie == cookie) ≡ false → all_under client cookie K ≡ all_under client cookie J
      under-else cookie off =
          under-push client cookie J rest sent false (ap (λ (t : Bool). t && same_name client client) off) (none-rest cookie) ∙ append-nil (all_under client cookie J)

      -- the cookies of other sessions are others
      other-cookie : (s : HeldSession) → same_name s.daemon session.daemon ≡ false → SessionPlaced at client J s → (session.client_cookie == s.client_cookie) ≡ false
      other-cookie s off h = by_test (session.client_cookie == s.client_cookie) refl
        where
          by_test : (t : Bool) → (session.client_cookie == s.client_cookie) ≡ t → t ≡ false
          by_test true same =
              let one : s.daemon ≡ session.daemon = in_one s.daemon session.daemon (sym h.place ∙ sym (ap at (eqb-true session.client_cookie s.client_cookie same)) ∙ here.place) in
              let itself : same_name s.daemon session.daemon ≡ true = ap (λ (n : Name). same_name n session.daemon) one ∙ same_name_self session.daemon in
              sym itself ∙ off
          by_test false other = refl

      told-behind : ((cookie : ℕ) → was cookie → is cookie) → (cookie : ℕ) → Told is client K cookie (at cookie)
      told-behind grows cookie = by_test (session.client_cookie == cookie) refl
        where
          by_test : (t : Bool) → (session.client_cookie == cookie) ≡ t → Told is client K cookie (at cookie)
          by_test true same =
              let place : at cookie ≡ InSession session.daemon = sym (ap at (eqb-true session.client_cookie cookie same)) ∙ here.place in
              let drawn : was cookie = subst (Told was client J cookie) place (p.told cookie) in
              subst (Told is client K cookie) (sym place) (grows cookie drawn)
          by_test false off = told-on was is client J K cookie (grows cookie) (under-else cookie off) (at cookie) (p.told cookie)

      abbrev new : HeldSession
      new = record session { queue = pushed session.queue operation }

      sent-moved : (o : Outcome WholeClientNode) → o.out.entries ≡ entry.Sent sent ∷ rest → seq ≡ session.queue.last + 1 → Draws was is o.out.seals
          → AllByRecursion (LinkPlaced at) o.state.links → o.state.own.sessions ≡ put_session new c.own.sessions → Moved o
      sent-moved o entries next d waits sessions =
          let now : SessionPlaced at client K new = record {
            place = here.place;
            count = ap length under-now ∙ length-append (all_under client session.client_cookie J) ((seq, operation) ∷ []) ∙ ap (λ (n : ℕ). n + 1) here.count;
          } in
          let behind : Places is client K o.state.links (put_session new c.own.sessions) at = record {
            told = told-behind d.grows;
            waits = waits;
            held = put-all (SessionPlaced at client J) (SessionPlaced at client K) new now (λ s off h. session-on at client J K s (under-else s.client_cookie (other-cookie s off h)) h)
                c.own.sessions apart p.held;
          } in
          record {
            next = subst (EachBehind IsNextUnder J) (sym entries)
                (next ∙ ap (λ (n : ℕ). n + 1) (sym here.count), silent-next rest (J ++ entry.Sent sent ∷ []) (all-map IsPlain IsSilent plain-silent rest plain));
            placed = subst (λ (l : List Entry). Placed is client (J ++ l) o.state.links o.state.own.sessions) (sym entries)
                (subst (λ (l : List HeldSession). Placed is client K o.state.links l) (sym sessions) (at, behind));
          }

  -- ---- outcomes

  module _ (reading : ℕ) (draw : List ℕ) where
    asks-moved : (link : Link ClientStage) (stage : connector.Stage) → Moves (mon_client_turn c reading draw link stage)
    asks-moved link stage =
        let a = arrival_in (on_link c reading draw link) c.own.mon_client stage in by_turned (connector.turned_at a stage) (mon_client-enters a stage)
      where
        links-placed : (bytes : List ℕ) (left : Option (Link connector.Stage))
            → Places was client J (links_behind c.links link.number bytes (option_map (of_kind ToMonitor) left)) c.own.sessions at
        links-placed bytes None = without link.number
        links-placed bytes (Some l) = put (going_on (of_kind ToMonitor l) (ToMonitor l.stage) bytes) tt

        by_turned : (t : Turned MonClient connector.Stage) → EachRow EntersNone t → Moves (turns c (on_link c reading draw link) (turn_of_kind (with_mon_client c.own) ToMonitor t))
        by_turned Waits quiet = λ numbered d. still-moved (idles c) tt d p
        by_turned (Refuses why opened) quiet = λ numbered d. still-moved (turns c (on_link c reading draw link) (Refuses why opened)) (tt, tt) d (without link.number)
        by_turned (Handles row) quiet = λ numbered d.
            still-moved (turns c (on_link c reading draw link) (turn_of_kind (with_mon_client c.own) ToMonitor (Handles row))) (quiet-all row.entries quiet) d (links-placed row.sends row.link)

    presents-moved : (link : Link ClientStage) (stage : CallStage) → IsAwaitedAt at link.number (awaited stage) → Moves (call_turn c reading draw link stage)
    presents-moved link stage awaits =
        let daemon : Name = (callee_of stage).daemon in
        let a = arrival_in (on_link c reading draw link) (caller_to daemon c.own) stage in
        let b : Opening link.number stage = opening link.number stage awaits in
        let Q : HeldSession → Type 0 = SessionPlaced b.later client J in
        by_turned b daemon (call.turned_at a stage) (call-takes a stage).takes (call-takes a stage).leaves
        (call-held Q (λ count s h. record { place = h.place; count = h.count }) (λ seq s h. record { place = h.place; count = h.count }) a stage b.opens
        (held-all Q daemon c.own.sessions b.but.held))
      where
        has-number : (left : Option (Link CallStage)) → Takes (in_stage link stage) left → IsNumber link.number left
        has-number None takes = tt
        has-number (Some l) takes = takes.0

        by_turned : (b : Opening link.number stage) (daemon : Name) (t : Turned Caller CallStage) → TurnTakes (in_stage link stage) t → EachRow (Leaves c.own.mon_client) t
            → EachRow (Held (SessionPlaced b.later client J)) t → Moves (turns c (on_link c reading draw link) (turn_of_kind (with_caller daemon c.own) ToDaemon t))
        by_turned b daemon Waits takes l held = λ numbered d. still-moved (idles c) tt d p
        by_turned b daemon (Refuses why opened) takes l held = λ numbered d. still-moved (turns c (on_link c reading draw link) (Refuses why opened)) (tt, tt) d (without link.number)
        by_turned b daemon (Handles row) takes l held = λ numbered d.
            plain-moved (turns c (on_link c reading draw link) (turn_of_kind (with_caller daemon c.own) ToDaemon (Handles row)))
            (all-map (IsCallEntry c.own.mon_client) IsPlain (call-plain c.own.mon_client) row.entries l.enters)
            (call-placed link.number stage b daemon row.own.session held.0 row.seals d row.sends row.link (has-number row.link takes) held.1)

    lost-plain : (link : Link ClientStage) (open_ : Bool) → AllByRecursion IsPlain (if open_ then [] else refused_entry (me c.own) link.number reason.Lost ∷ [])
    lost-plain link true = tt
    lost-plain link false = (tt, tt)

    goes-moved : (link : Link ClientStage) → Moves (loses c (Some link))
    goes-moved link = λ numbered d. still-moved (loses c (Some link)) (lost-plain link (is_open link.stage)) d (by_stage link.stage)
      where
        by_stage : (stage : ClientStage) → Places was client J (without_link link.number c.links) (own_behind_gone c.own stage).sessions at
        by_stage (ToMonitor stage) = without link.number
        by_stage (ToDaemon stage) =
            let left : Places was client J (without_link link.number c.links) c.own.sessions at = without link.number in
            record {
              told = left.told;
              waits = left.waits;
              held = all-filter (SessionPlaced at client J) (λ (s : HeldSession). not (s.lossy && same_name s.daemon (callee_of stage).daemon)) c.own.sessions left.held;
            }

    begins-moved : (number : ℕ) (peer : Peer) (dial : Dial) → Moves (opens_dialled c reading draw number peer (Some dial))
    begins-moved number peer dial = λ numbered d.
        still-moved (opens_dialled c reading draw number peer (Some dial)) tt d (put (going_on (new_link number (first_stage dial)) (first_stage dial) own_banner) (by_dial dial))
      where
        by_dial : (dial : Dial) → IsAwaitedAt at number (awaited_on (first_stage dial))
        by_dial (ForLogin services) = tt
        by_dial (ForCall called) = tt

    renews-moved : (services : ℕ) (link : Link ClientStage) (s : Secured) (requests : Requests) → Moves (renewed c reading draw services link s requests)
    renews-moved services link s requests = by_sealed (sealed_request s.keys requests (asked.Tickets services))
      where
        renewed_by : Result SealedFrame Reason → Outcome WholeClientNode
        renewed_by made = carried_out c link.number false (lifted (with_mon_client c.own) (sends_request open_to_ask (arrival (me c.own) c.own.mon_client link reading draw) s requests Tickets made))

        by_sealed : (made : Result SealedFrame Reason) → Moves (renewed_by made)
        by_sealed (Ok sealed) = λ numbered d.
            still-moved (renewed_by (Ok sealed)) tt d (put (going_on link (open_to_ask (under s sealed.keys) (behind_request requests Tickets)) sealed.bytes) tt)
        by_sealed (Err why) = λ numbered d. still-moved (renewed_by (Err why)) (tt, tt) d (without link.number)

    sends-moved : (session : HeldSession) (operation : Operation) (seq : ℕ) → session_with session.daemon c.own.sessions ≡ Some session → (link : Link ClientStage) (s : Secured) (callee : Callee) (cookie : ℕ)
        → Moves (sent_in c reading draw session operation seq (Some (link, (s, (callee, cookie)))))
    sends-moved session operation seq there link s callee cookie = by_sent (secure_frame s.keys (operation_message (seq, operation)))
      where
        m : WholeClientNode
        m = having_session c (record session { queue = pushed session.queue operation })

        sent_by : Result SealedFrame BytesFault → Outcome WholeClientNode
        sent_by made = carried_out m link.number false (entered_before (sent_entry c.own session seq operation)
            (secure_sent (arrival (me m.own) m.own link reading draw) s (λ behind. ToDaemon (call.Open behind callee cookie)) [] made))

        by_sent : (made : Result SealedFrame BytesFault) → Moves (sent_by made)
        by_sent (Ok sealed) = λ numbered d.
            let links = put (going_on link (ToDaemon (call.Open (record s { keys = sealed.keys }) callee cookie)) sealed.bytes) tt in
            sent-moved session operation seq there [] tt (sent_by (Ok sealed)) refl (numbered.0 session there) d links.waits refl
        by_sent (Err why) = λ numbered d.
            sent-moved session operation seq there (refused_entry (me m.own) link.number (reason.Bytes why) ∷ []) (tt, tt) (sent_by (Err why)) refl (numbered.0 session there) d
            (without link.number).waits refl

    each-moves : (input : Input) → EachOutcome c reading draw input Moves
    each-moves input = record {
      idle = λ numbered d. still-moved (idles c) tt d p;
      comes = λ number link bytes found. λ numbered d.
          still-moved (fed c bytes (Some link)) tt d (put (record link { received = link.received ++ bytes }) (found-all (LinkPlaced at) (λ (l : Link ClientStage). l.number == number) c.links link p.waits found));
      asks = λ number link stage found of. asks-moved link stage;
      presents = λ number link stage found of.
          presents-moved link stage (subst (λ (s : ClientStage). IsAwaitedAt at link.number (awaited_on s)) of (found-all (LinkPlaced at) (λ (l : Link ClientStage). l.number == number) c.links link p.waits found));
      refuses = λ why told. λ numbered d. still-moved (refuses_command c why) (tt, tt) d p;
      begins = λ number peer dial found. begins-moved number peer dial;
      reaches_none = λ peer. λ numbered d. still-moved (unreached c peer) (tt, tt) d p;
      goes = λ number link found. goes-moved link;
      logs = λ services. λ numbered d.
          still-moved (logs_in c services) tt d (record {
            told = p.told;
            waits = all-filter (LinkPlaced at) (λ (l : Link ClientStage). not (is_to_monitor l.stage)) c.links p.waits;
            held = p.held;
          });
      renews_there = λ services link s requests found. renews-moved services link s requests;
      dials = λ daemon lossy held of found. λ numbered d.
          still-moved (calls c (record { callee = record { daemon = daemon; lossy = lossy }; held = held; gid = held_gid c.own.mon_client.holdings })) tt d p;
      sends_later = λ daemon session operation seq found. λ numbered d.
          let there : session_with session.daemon c.own.sessions ≡ Some session = with-its c.own.sessions daemon session found in
          sent-moved session operation seq there [] tt (sent_in c reading draw session operation seq None) refl (numbered.0 session there) d p.waits refl;
      sends_there = λ daemon session operation seq link s callee cookie found open_.
          sends-moved session operation seq (with-its c.own.sessions daemon session found) link s callee cookie;
      restarts = λ numbered d. still-moved (restarted c) (tt, tt) d (record { told = p.told; waits = tt; held = tt });
    }

    pub client-moved : (input : Input) → Moves (whole_client_rule c input reading draw)
    client-moved input = step-keeps c reading draw Moves input (each-moves input)
