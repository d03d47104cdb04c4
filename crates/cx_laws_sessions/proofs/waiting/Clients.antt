-- What each step of a client makes of its session with each daemon, whatever comes to it.
use Rattle.std.proofs.Common.{◌≡◌, ℕ, ◌==◌, ◌+◌, ◌-◌, ◌^◌, Bool, true, false, List, [], ◌∷◌, length, Option, Some, None, Result, Ok, Err, arith, refl, sym, ap, ◌∙◌, subst}
use Rattle.std.specs.List.{AllByRecursion, cons_option, list_any}
use Rattle.std.specs.Prelude.{◌&&◌, nat_le, if◌then◌else◌}
use Rattle.cx_base.proofs.Names.{same_name_is, same_name_self}
use Rattle.cx_base.specs.Names.{Name, same_name}
use Rattle.cx_base.specs.declared.operations.Operation.{Operation}
use Rattle.cx_journal.specs.declared.entries.Entry.{Entry}
use Rattle.cx_journal.specs.declared.faults.BytesFault.{BytesFault}
use Rattle.cx_journal.specs.declared.outcomes.Reason.{Reason}
use Rattle.cx_journal.specs.declared.outcomes.Reason.TheVariants as reason
use Rattle.cx_laws_sessions.proofs.queues.Clients.{with-its}
use Rattle.cx_laws_sessions.proofs.queues.Entries.{IsPlain, sent_where}
use Rattle.cx_laws_sessions.proofs.queues.Sessions.{AreApart}
use Rattle.cx_laws_sessions.specs.queues.Sending.{all_sent_to}
use Rattle.cx_laws_sessions.proofs.session.MonClients.{fetch-enters}
use Rattle.cx_laws_sessions.specs.cx_rules.specs.Holdings.{MonClient}
use Rattle.cx_laws_sessions.specs.cx_rules.specs.Inputs.{Input, Opened, NoLink, Bytes, Turn, Gone, Look, Tick, Submit, Restart}
use Rattle.cx_laws_sessions.specs.cx_rules.specs.Links.{Link, link_of}
use Rattle.cx_laws_sessions.specs.cx_rules.specs.Requests.{Requests, first_open, sealed_request, sends_request}
use Rattle.cx_laws_sessions.specs.cx_rules.specs.Rows.{Arrival, Outcome, arrival, carried_out, idles, refused_entry, secure_sent}
use Rattle.cx_laws_sessions.specs.cx_rules.specs.Secured.{SealedFrame, Secured, secure_frame}
use Rattle.cx_laws_sessions.specs.cx_rules.specs.declared.requests.Want.TheVariants.{Tickets}
use Rattle.cx_laws_sessions.specs.cx_rules_session.specs.ClientRule.{ClientStage, ToDaemon, WholeClientNode, asking_open, calls, calls_with, connects, first_call, having_session, is_to, logs_in, me, open_to_ask, pushes, queue_reason, refuses_command, renews, renews_on, sends, sends_in, sends_on, sent_entry, submits, unreached, whole_client_rule}
use Rattle.cx_laws_sessions.specs.cx_rules_session.specs.Kinds.{entered_before}
use Rattle.cx_laws_sessions.specs.cx_rules_session.specs.Presenter as call
use Rattle.cx_laws_sessions.specs.cx_rules_session.specs.Presenter.{CallStage, Caller, callee_of}
use Rattle.cx_laws_sessions.specs.cx_rules_session.specs.Sessions.{Callee, HeldSession, held_gid, operation_message, put_session, session_with, ticket_for}
use Rattle.cx_laws_sessions.proofs.waiting.Finding.{other-found, own-found}
use Rattle.cx_laws_sessions.proofs.waiting.Going.{IsInOrder, same-becomes}
use Rattle.cx_laws_sessions.specs.waiting.Heard.{Word, Silent, heard_by}
use Rattle.cx_laws_sessions.specs.waiting.Keeping.{Becomes}
use Rattle.cx_laws_sessions.specs.waiting.Linked.{IsLinkedBy}
use Rattle.cx_run.specs.cx_login.specs.Held.{Held as Ticket}
use Rattle.cx_session.specs.Queue.{pushed, push_reply}
use Rattle.cx_session.specs.declared.outbox.QueueFault.{QueueFault}
use Rattle.cx_session.specs.declared.outbox.QueueFault.TheVariants as queue
use Rattle.cx_steps.specs.declared.events.Command.{Command}
use Rattle.cx_steps.specs.declared.events.Command.TheVariants as command
use Rattle.cx_wire.specs.declared.bodies.Request.TheVariants as asked
use Rattle.cx_laws_sessions.proofs.waiting.Hearing.{fed-step, loses-step, opens-step, plain-unsent, quiet-all, still, turn-step}

-- what a push answers is the next number
abbrev reply_by : ℕ → Bool → Bool → Result ℕ QueueFault
reply_by last full spent = if full then Err (queue.QueueFull 1024) else (if spent then Err queue.Spent else Ok (last + 1))

push-next : (last seq : ℕ) (full spent : Bool) → reply_by last full spent ≡ Ok seq → seq ≡ last + 1
push-next last seq true spent is = absurd cc
push-next last seq false true is = absurd cc
push-next last seq false false is = let same : last + 1 ≡ seq = cc in sym same

module _ (c : WholeClientNode) (apart : AreApart c.own.sessions) (runs : AllByRecursion IsInOrder c.own.sessions) (linked : AllByRecursion (λ (l : Link ClientStage). IsLinkedBy c.own.sessions l.stage) c.links)
    (daemon : Name) where
  abbrev client : Name
  client = c.own.mon_client.name

  abbrev was : Option HeldSession
  was = session_with daemon c.own.sessions

  abbrev Step : Word → Outcome WholeClientNode → Type 0
  Step word o = Becomes word (all_sent_to client daemon o.out.entries) was (session_with daemon o.state.own.sessions)

  module _ (reading : ℕ) (draw : List ℕ) where
    -- ---- commands

    refuses-step : (why : Reason) → Step Silent (refuses_command c why)
    refuses-step why = still c apart runs linked daemon (refuses_command c why) (tt, tt) refl

    renews-step : (services : ℕ) → Step Silent (renews c services reading draw)
    renews-step services = by_open (first_open asking_open c.links)
      where
        by_open : (found : Option (Link ClientStage × (Secured × Requests))) → Step Silent (renews_on c services reading draw found)
        by_open None = refuses-step reason.NoSession
        by_open (Some (link, (s, requests))) =
            let a : Arrival MonClient ClientStage = arrival (me c.own) c.own.mon_client link reading draw in
            let sealed = sealed_request s.keys requests (asked.Tickets services) in
            still c apart runs linked daemon (renews_on c services reading draw (Some (link, (s, requests))))
            (quiet-all c apart runs linked daemon (sends_request open_to_ask a s requests Tickets sealed).entries (fetch-enters open_to_ask a s requests Tickets sealed)) refl

    connects-step : (to : Name) (lossy : Bool) → Step Silent (connects c to lossy)
    connects-step to lossy = by_busy (list_any (λ link. is_to to link.stage) c.links)
      where
        by_count : (held : Ticket) (spent : Bool) → Step Silent (if spent then refuses_command c reason.Spent
            else calls c (record { callee = record { daemon = to; lossy = lossy }; held = held; gid = held_gid c.own.mon_client.holdings }))
        by_count held true = refuses-step reason.Spent
        by_count held false = still c apart runs linked daemon (calls c (record { callee = record { daemon = to; lossy = lossy }; held = held; gid = held_gid c.own.mon_client.holdings })) tt refl

        by_ticket : (found : Option Ticket) → Step Silent (calls_with c (record { daemon = to; lossy = lossy }) found)
        by_ticket None = refuses-step (reason.NoTicket to.kind)
        by_ticket (Some held) = by_count held (c.own.mon_client.global_seq == 2 ^ 64 - 1)

        by_busy : (busy : Bool) → Step Silent (if busy then refuses_command c reason.Busy else calls_with c (record { daemon = to; lossy = lossy }) (ticket_for to.kind c.own.mon_client.holdings))
        by_busy true = refuses-step reason.Busy
        by_busy false = by_ticket (ticket_for to.kind c.own.mon_client.holdings)

    -- ---- an operation is sent in a session

    module _ (session : HeldSession) (there : session_with session.daemon c.own.sessions ≡ Some session) (operation : Operation) where
      abbrev number : ℕ
      number = session.queue.last + 1

      abbrev new : HeldSession
      new = record session { queue = pushed session.queue operation }

      abbrev sent : Entry
      sent = sent_entry c.own session number operation

      abbrev here : Bool
      here = same_name client client && same_name session.daemon daemon

      -- it waits behind the others
      own-pushed : session.daemon ≡ daemon → Becomes Silent ((session.client_cookie, (number, operation)) ∷ []) was (session_with daemon (put_session new c.own.sessions))
      own-pushed same =
          subst (λ (w : Option HeldSession). Becomes Silent ((session.client_cookie, (number, operation)) ∷ []) w (session_with daemon (put_session new c.own.sessions)))
          (sym (subst (λ (n : Name). session_with n c.own.sessions ≡ Some session) same there))
          (subst (Becomes Silent ((session.client_cookie, (number, operation)) ∷ []) (Some session)) (sym (own-found daemon (Some new) c.own.sessions same)) (record {
            daemon = refl;
            client_cookie = refl;
            server_cookie = refl;
            lossy = refl;
            left = session.queue.waiting;
            stays = refl;
            now = (number, operation) ∷ [];
            told = refl;
            waits = refl;
            last = refl;
            numbered = (omega arith, tt);
          }))

      other-pushed : same_name session.daemon daemon ≡ false → Becomes Silent [] was (session_with daemon (put_session new c.own.sessions))
      other-pushed off = subst (Becomes Silent [] was) (sym (other-found session.daemon daemon off (Some new) c.own.sessions refl)) (same-becomes was)

      -- of this daemon's session or of another one
      pushed-step : (o : Outcome WholeClientNode) (rest : List Entry) → AllByRecursion IsPlain rest → o.out.entries ≡ sent ∷ rest → o.state.own.sessions ≡ put_session new c.own.sessions
          → Step Silent o
      pushed-step o rest plain entries sessions =
          subst (λ (l : List HeldSession). Becomes Silent (all_sent_to client daemon o.out.entries) was (session_with daemon l)) (sym sessions)
          (subst (λ (es : List (ℕ × (ℕ × Operation))). Becomes Silent es was (session_with daemon (put_session new c.own.sessions))) (sym told) (by_test (same_name session.daemon daemon) refl))
        where
          told : all_sent_to client daemon o.out.entries ≡ cons_option (sent_where here (session.client_cookie, (number, operation))) []
          told = ap (all_sent_to client daemon) entries
              ∙ ap (λ (l : List (ℕ × (ℕ × Operation))). cons_option (sent_where here (session.client_cookie, (number, operation))) l) (plain-unsent client daemon rest plain)

          by_test : (t : Bool) → same_name session.daemon daemon ≡ t
              → Becomes Silent (cons_option (sent_where here (session.client_cookie, (number, operation))) []) was (session_with daemon (put_session new c.own.sessions))
          by_test true is =
              let yes : here ≡ true = rw (same_name_self client, is) refl in
              subst (λ (t : Bool). Becomes Silent (cons_option (sent_where t (session.client_cookie, (number, operation))) []) was (session_with daemon (put_session new c.own.sessions))) (sym yes)
              (own-pushed (same_name_is session.daemon daemon is))
          by_test false is =
              let no_ : here ≡ false = rw (same_name_self client, is) refl in
              subst (λ (t : Bool). Becomes Silent (cons_option (sent_where t (session.client_cookie, (number, operation))) []) was (session_with daemon (put_session new c.own.sessions))) (sym no_)
              (other-pushed is)

      abbrev new_node : WholeClientNode
      new_node = having_session c new

      abbrev sent_by : Link ClientStage → Secured → Callee → ℕ → Result SealedFrame BytesFault → Outcome WholeClientNode
      sent_by link s callee cookie made = carried_out new_node link.number false (entered_before sent
          (secure_sent (arrival (me new_node.own) new_node.own link reading draw) s (λ behind. ToDaemon (call.Open behind callee cookie)) [] made))

      sends-on-step : (found : Option (Link ClientStage × (Secured × (Callee × ℕ)))) → Step Silent (sends_on new_node sent (number, operation) reading draw found)
      sends-on-step None = pushed-step (sends_on new_node sent (number, operation) reading draw None) [] tt refl refl
      sends-on-step (Some (link, (s, (callee, cookie)))) = by_sent (secure_frame s.keys (operation_message (number, operation)))
        where
          by_sent : (made : Result SealedFrame BytesFault) → Step Silent (sent_by link s callee cookie made)
          by_sent (Ok sealed) = pushed-step (sent_by link s callee cookie (Ok sealed)) [] tt refl refl
          by_sent (Err why) = pushed-step (sent_by link s callee cookie (Err why)) (refused_entry (me new_node.own) link.number (reason.Bytes why) ∷ []) (tt, tt) refl refl

      pushes-step : (r : Result ℕ QueueFault) → push_reply session.queue ≡ r → Step Silent (pushes c session operation reading draw r)
      pushes-step (Err why) is = refuses-step (queue_reason why)
      pushes-step (Ok seq) is =
          let next : seq ≡ number = push-next session.queue.last seq (nat_le 1024 (length session.queue.waiting)) (session.queue.last == 2 ^ 64 - 1) is in
          subst (λ (n : ℕ). Step Silent (sends_on new_node (sent_entry c.own session n operation) (n, operation) reading draw (first_call session.daemon c.links))) (sym next)
          (sends-on-step (first_call session.daemon c.links))

    sends-step : (to : Name) (operation : Operation) → Step Silent (sends c to operation reading draw)
    sends-step to operation = by_session (session_with to c.own.sessions) refl
      where
        by_session : (found : Option HeldSession) → session_with to c.own.sessions ≡ found → Step Silent (sends_in c operation reading draw found)
        by_session None is = refuses-step reason.NoSession
        by_session (Some session) is = pushes-step session (with-its c.own.sessions to session is) operation (push_reply session.queue) refl

    submits-step : (said : Command) → Step Silent (submits c reading draw said)
    submits-step (command.Login services) = still c apart runs linked daemon (logs_in c services) tt refl
    submits-step (command.Renew services) = renews-step services
    submits-step (command.Connect to lossy) = connects-step to lossy
    submits-step (command.Send to operation) = sends-step to operation
    submits-step command.Fetch = still c apart runs linked daemon (idles c) tt refl
    submits-step (command.Drop session) = still c apart runs linked daemon (idles c) tt refl

    -- ---- a step

    pub client-becomes : (input : Input) → Step (heard_by c daemon input) (whole_client_rule c input reading draw)
    client-becomes (Opened number to) = opens-step c apart runs linked daemon reading draw number to
    client-becomes (NoLink to) = still c apart runs linked daemon (unreached c to) (tt, tt) refl
    client-becomes (Bytes number bytes) = fed-step c apart runs linked daemon reading draw bytes (link_of number c.links)
    client-becomes (Turn number) = turn-step c apart runs linked daemon reading draw number (link_of number c.links) refl
    client-becomes (Gone number) = loses-step c apart runs linked daemon reading draw (link_of number c.links)
    client-becomes (Submit said) = submits-step said
    client-becomes Restart = (refl, refl)
    client-becomes (Look view) = still c apart runs linked daemon (idles c) tt refl
    client-becomes Tick = still c apart runs linked daemon (idles c) tt refl
