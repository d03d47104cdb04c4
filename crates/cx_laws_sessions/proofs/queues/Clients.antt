-- What each step of a client keeps of its queues, whatever comes to it: what it sends is the next one of its session, and what waits is the end of what was sent.
use Rattle.std.proofs.Common.{◌≡◌, ℕ, ◌==◌, ◌+◌, ◌-◌, ◌^◌, Bool, true, false, List, [], ◌∷◌, ◌++◌, find, length, Option, Some, None, Result, Ok, Err, refl, sym, ap, ◌∙◌, subst}
use Rattle.std.specs.List.{AllByRecursion, list_any}
use Rattle.std.specs.Prelude.{◌&&◌, nat_le, not, if◌then◌else◌}
use Rattle.cx_base.proofs.Names.{same_name_is, same_name_self}
use Rattle.cx_base.specs.Names.{Name, same_name}
use Rattle.cx_base.specs.declared.operations.Operation.{Operation}
use Rattle.cx_journal.specs.Behind.{EachBehind}
use Rattle.cx_journal.specs.declared.entries.Entry.{Entry}
use Rattle.cx_journal.specs.declared.entries.Entry.TheVariants as entry
use Rattle.cx_journal.specs.declared.faults.BytesFault.{BytesFault}
use Rattle.cx_journal.specs.declared.outcomes.Reason.{Reason}
use Rattle.cx_journal.specs.declared.outcomes.Reason.TheVariants as reason
use Rattle.cx_laws_sessions.proofs.queues.Calls.{Held, call-held, opens-each}
use Rattle.cx_laws_sessions.proofs.queues.Entries.{IsInOrderBy, IsPlain, Untouched, all-unsent, call-plain, plain-ordered, plain-untouched, quiet-plain, sent-still, sent_where, unsent-still}
use Rattle.cx_laws_sessions.proofs.queues.Queues.{acknowledged-queued, again-queued, new-queued, next-sent, pushed-queued, sent_now, still-queued}
use Rattle.cx_laws_sessions.proofs.queues.Sessions.{AreApart, HeldIs, all-filter, apart-filter, apart-put, apart-with, held-all, put-all, with-all}
use Rattle.cx_laws_sessions.specs.queues.Sending.{all_sent_to, sent_to}
use Rattle.cx_laws_sessions.specs.queues.Waiting.{IsQueued}
use Rattle.cx_laws_sessions.proofs.session.MonClients.{mon_client-enters, EntersNone, fetch-enters}
use Rattle.cx_laws_sessions.proofs.session.Lists.{all-map, found-passes}
use Rattle.cx_laws_sessions.proofs.session.Moves.{IsQuiet}
use Rattle.cx_laws_sessions.proofs.session.Runs.{other-way}
use Rattle.cx_laws_sessions.specs.cx_login.specs.Held.{Held as Ticket}
use Rattle.cx_laws_sessions.specs.cx_rules.specs.Connector as connector
use Rattle.cx_laws_sessions.specs.cx_rules.specs.Holdings.{MonClient}
use Rattle.cx_laws_sessions.specs.cx_rules.specs.Inputs.{Input, Opened, NoLink, Bytes, Turn, Gone, Look, Tick, Submit, Restart}
use Rattle.cx_laws_sessions.specs.cx_rules.specs.Links.{Link, link_of}
use Rattle.cx_laws_sessions.specs.cx_rules.specs.Requests.{Requests, first_open, sealed_request, sends_request}
use Rattle.cx_laws_sessions.specs.cx_rules.specs.Rows.{Arrival, Outcome, Turned, Waits, Refuses, Handles, arrival, carried_out, fed, idles, refused_entry, secure_sent, turns}
use Rattle.cx_laws_sessions.specs.cx_rules.specs.Secured.{SealedFrame, Secured, secure_frame}
use Rattle.cx_laws_sessions.specs.cx_rules.specs.declared.requests.Want.TheVariants.{Tickets}
use Rattle.cx_laws_sessions.specs.cx_rules_session.specs.ClientRule.{ClientStage, ToMonitor, ToDaemon, Dial, WholeClient, WholeClientNode, asking_open, caller_to, calls, calls_with, connects, dial_of, first_call, having_session, is_open, is_to, logs_in, loses, me, open_to_ask, opens, opens_dialled, own_behind_gone, pushes, queue_reason, refuses_command, renews, renews_on, restarted, sends, sends_in, sends_on, sent_entry, submits, turn, turned_at, unreached, whole_client_rule, with_mon_client, with_caller}
use Rattle.cx_laws_sessions.specs.cx_rules_session.specs.Kinds.{arrival_in, entered_before, turn_of_kind}
use Rattle.cx_laws_sessions.specs.cx_rules_session.specs.Presenter as call
use Rattle.cx_laws_sessions.specs.cx_rules_session.specs.Presenter.{CallStage, Caller, callee_of}
use Rattle.cx_laws_sessions.specs.cx_rules_session.specs.Sessions.{Callee, HeldSession, held_gid, operation_message, put_session, session_with, ticket_for}
use Rattle.cx_laws_sessions.specs.cx_run.proofs.CallKeeps.{IsCallEntry, Leaves, call-takes}
use Rattle.cx_laws_sessions.specs.cx_run.proofs.Taking.{EachRow}
use Rattle.cx_session.specs.Queue.{pushed, push_reply}
use Rattle.cx_session.specs.declared.outbox.QueueFault.{QueueFault}
use Rattle.cx_session.specs.declared.outbox.QueueFault.TheVariants as queue
use Rattle.cx_laws_sessions.specs.cx_steps.specs.declared.events.Command.{Command}
use Rattle.cx_laws_sessions.specs.cx_steps.specs.declared.events.Command.TheVariants as command
use Rattle.cx_laws_sessions.specs.cx_steps.specs.declared.events.Peer.{Peer}
use Rattle.cx_laws_sessions.specs.cx_wire.specs.declared.bodies.Request.TheVariants as asked

-- what is so of a client's sessions behind this journal
pub record ClientQueues (J : List Entry) (client : Name) (sessions : List HeldSession) : Type 0 where
  pub queued : AllByRecursion (IsQueued J client) sessions
  pub apart : AreApart sessions

-- entries of which the client sends none
pub queues-still : (J es : List Entry) (client : Name) (sessions : List HeldSession) → AllByRecursion (Untouched client) es → ClientQueues J client sessions → ClientQueues (J ++ es) client sessions
queues-still J es client sessions left h = record {
  queued = all-map (IsQueued J client) (IsQueued (J ++ es) client) (λ s q. still-queued J client (J ++ es) s (sent-still client s.daemon J es left) q) sessions h.queued;
  apart = h.apart;
}

-- an operation that is sent has the next number of its session
abbrev pub IsPushed : List HeldSession → Entry → Type 0
IsPushed sessions (entry.Sent s) = (session : HeldSession) → session_with s.daemon sessions ≡ Some session → s.seq ≡ session.queue.last + 1
IsPushed sessions _ = Unit {0}

plain-pushed : (sessions : List HeldSession) (e : Entry) → IsPlain e → IsPushed sessions e
plain-pushed sessions (entry.Sent x) h = absurd h
plain-pushed sessions _ h = tt

some-session : (a b : HeldSession) → Some a ≡ Some b → a ≡ b
some-session a b e = cc

-- the session with a daemon is the one with its daemon
pub with-its : (sessions : List HeldSession) (daemon : Name) (session : HeldSession) → session_with daemon sessions ≡ Some session → session_with session.daemon sessions ≡ Some session
with-its sessions daemon session is =
    ap (λ (n : Name). session_with n sessions) (same_name_is session.daemon daemon (found-passes (λ (s : HeldSession). same_name s.daemon daemon) sessions session is)) ∙ is

-- what a push answers is the next number
abbrev reply_by : ℕ → Bool → Bool → Result ℕ QueueFault
reply_by last full spent = if full then Err (queue.QueueFull 1024) else (if spent then Err queue.Spent else Ok (last + 1))

push-next : (last seq : ℕ) (full spent : Bool) → reply_by last full spent ≡ Ok seq → seq ≡ last + 1
push-next last seq true spent is = absurd cc
push-next last seq false true is = absurd cc
push-next last seq false false is = let same : last + 1 ≡ seq = cc in sym same

module _ (J : List Entry) (c : WholeClientNode) (h : ClientQueues J c.own.mon_client.name c.own.sessions) where
  abbrev client : Name
  client = c.own.mon_client.name

  -- what a step keeps
  pub record Kept (o : Outcome WholeClientNode) : Type 0 where
    pub ordered : EachBehind IsInOrderBy J o.out.entries
    pub queues : ClientQueues (J ++ o.out.entries) client o.state.own.sessions
    pub numbered : AllByRecursion (IsPushed c.own.sessions) o.out.entries

  still-kept : (o : Outcome WholeClientNode) → AllByRecursion IsPlain o.out.entries → ClientQueues J client o.state.own.sessions → Kept o
  still-kept o plain now = record {
    ordered = plain-ordered o.out.entries J plain;
    queues = queues-still J o.out.entries client o.state.own.sessions (all-map IsPlain (Untouched client) (plain-untouched client) o.out.entries plain) now;
    numbered = all-map IsPlain (IsPushed c.own.sessions) (plain-pushed c.own.sessions) o.out.entries plain;
  }

  idle-kept : Kept (idles c)
  idle-kept = still-kept (idles c) tt h

  quiet-all : (es : List Entry) → AllByRecursion IsQuiet es → AllByRecursion IsPlain es
  quiet-all es quiet = all-map IsQuiet IsPlain quiet-plain es quiet

  module _ (reading : ℕ) (draw : List ℕ) where
    abbrev on_link : Link ClientStage → Arrival WholeClient ClientStage
    on_link link = arrival (me c.own) c.own link reading draw

    -- ---- turns

    asks-kept : (link : Link ClientStage) (stage : connector.Stage)
        → Kept (turns c (on_link link) (turn_of_kind (with_mon_client c.own) ToMonitor (connector.turned_at (arrival_in (on_link link) c.own.mon_client stage) stage)))
    asks-kept link stage = let a = arrival_in (on_link link) c.own.mon_client stage in by_turned (connector.turned_at a stage) (mon_client-enters a stage)
      where
        by_turned : (t : Turned MonClient connector.Stage) → EachRow EntersNone t → Kept (turns c (on_link link) (turn_of_kind (with_mon_client c.own) ToMonitor t))
        by_turned Waits quiet = idle-kept
        by_turned (Refuses why opened) quiet = still-kept (turns c (on_link link) (Refuses why opened)) (tt, tt) h
        by_turned (Handles row) quiet = still-kept (turns c (on_link link) (turn_of_kind (with_mon_client c.own) ToMonitor (Handles row))) (quiet-all row.entries quiet) h

    presents-kept : (link : Link ClientStage) (stage : CallStage) → let daemon = (callee_of stage).daemon in
        Kept (turns c (on_link link) (turn_of_kind (with_caller daemon c.own) ToDaemon (call.turned_at (arrival_in (on_link link) (caller_to daemon c.own) stage) stage)))
    presents-kept link stage =
        let daemon : Name = (callee_of stage).daemon in
        let a = arrival_in (on_link link) (caller_to daemon c.own) stage in
        let Q : HeldSession → Type 0 = IsQueued J client in
        by_turned daemon (call.turned_at a stage) (call-takes a stage).leaves
        (call-held Q (λ count s q. again-queued J client count s q) (λ seq s q. acknowledged-queued J client seq s q) a stage
        (opens-each Q (λ callee own server. new-queued J client callee own server) stage) (held-all Q daemon c.own.sessions h.queued))
      where
        by_turned : (daemon : Name) (t : Turned Caller CallStage) → EachRow (Leaves c.own.mon_client) t → EachRow (Held (IsQueued J client)) t
            → Kept (turns c (on_link link) (turn_of_kind (with_caller daemon c.own) ToDaemon t))
        by_turned daemon Waits l held = idle-kept
        by_turned daemon (Refuses why opened) l held = still-kept (turns c (on_link link) (Refuses why opened)) (tt, tt) h
        by_turned daemon (Handles row) l held =
            still-kept (turns c (on_link link) (turn_of_kind (with_caller daemon c.own) ToDaemon (Handles row))) (all-map (IsCallEntry c.own.mon_client) IsPlain (call-plain c.own.mon_client) row.entries l.enters)
            (record { queued = with-all (IsQueued J client) daemon row.own.session held.0 c.own.sessions h.queued; apart = apart-with daemon row.own.session c.own.sessions h.apart })

    turn-kept : (found : Option (Link ClientStage)) → Kept (turn c reading draw found)
    turn-kept None = idle-kept
    turn-kept (Some link) = by_stage link.stage
      where
        by_stage : (stage : ClientStage) → Kept (turns c (on_link link) (turned_at (on_link link) stage))
        by_stage (ToMonitor stage) = asks-kept link stage
        by_stage (ToDaemon stage) = presents-kept link stage

    -- ---- bytes, links that open and go

    fed-kept : (bytes : List ℕ) (found : Option (Link ClientStage)) → Kept (fed c bytes found)
    fed-kept bytes None = idle-kept
    fed-kept bytes (Some link) = still-kept (fed c bytes (Some link)) tt h

    opens-kept : (number : ℕ) (to : Option Peer) → Kept (opens c reading draw number to)
    opens-kept number None = idle-kept
    opens-kept number (Some peer) = by_dial (find (dial_of peer) c.own.dials)
      where
        by_dial : (found : Option Dial) → Kept (opens_dialled c reading draw number peer found)
        by_dial None = idle-kept
        by_dial (Some dial) = still-kept (opens_dialled c reading draw number peer (Some dial)) tt h

    lost-plain : (link : Link ClientStage) (open_ : Bool) → AllByRecursion IsPlain (if open_ then [] else refused_entry (me c.own) link.number reason.Lost ∷ [])
    lost-plain link true = tt
    lost-plain link false = (tt, tt)

    loses-kept : (found : Option (Link ClientStage)) → Kept (loses c found)
    loses-kept None = idle-kept
    loses-kept (Some link) = still-kept (loses c (Some link)) (lost-plain link (is_open link.stage)) (by_stage link.stage)
      where
        by_stage : (stage : ClientStage) → ClientQueues J client (own_behind_gone c.own stage).sessions
        by_stage (ToMonitor stage) = h
        by_stage (ToDaemon stage) =
            let test : HeldSession → Bool = λ session. not (session.lossy && same_name session.daemon (callee_of stage).daemon) in
            record { queued = all-filter (IsQueued J client) test c.own.sessions h.queued; apart = apart-filter test c.own.sessions h.apart }

    -- ---- commands

    refuses-kept : (why : Reason) → Kept (refuses_command c why)
    refuses-kept why = still-kept (refuses_command c why) (tt, tt) h

    renews-kept : (services : ℕ) → Kept (renews c services reading draw)
    renews-kept services = by_open (first_open asking_open c.links)
      where
        by_open : (found : Option (Link ClientStage × (Secured × Requests))) → Kept (renews_on c services reading draw found)
        by_open None = refuses-kept reason.NoSession
        by_open (Some (link, (s, requests))) =
            let a : Arrival MonClient ClientStage = arrival (me c.own) c.own.mon_client link reading draw in
            let sealed = sealed_request s.keys requests (asked.Tickets services) in
            still-kept (renews_on c services reading draw (Some (link, (s, requests)))) (quiet-all (sends_request open_to_ask a s requests Tickets sealed).entries (fetch-enters open_to_ask a s requests Tickets sealed)) h

    connects-kept : (daemon : Name) (lossy : Bool) → Kept (connects c daemon lossy)
    connects-kept daemon lossy = by_busy (list_any (λ link. is_to daemon link.stage) c.links)
      where
        by_count : (held : Ticket) (spent : Bool) → Kept (if spent then refuses_command c reason.Spent
            else calls c (record { callee = record { daemon = daemon; lossy = lossy }; held = held; gid = held_gid c.own.mon_client.holdings }))
        by_count held true = refuses-kept reason.Spent
        by_count held false = still-kept (calls c (record { callee = record { daemon = daemon; lossy = lossy }; held = held; gid = held_gid c.own.mon_client.holdings })) tt h

        by_ticket : (found : Option Ticket) → Kept (calls_with c (record { daemon = daemon; lossy = lossy }) found)
        by_ticket None = refuses-kept (reason.NoTicket daemon.kind)
        by_ticket (Some held) = by_count held (c.own.mon_client.global_seq == 2 ^ 64 - 1)

        by_busy : (busy : Bool) → Kept (if busy then refuses_command c reason.Busy else calls_with c (record { daemon = daemon; lossy = lossy }) (ticket_for daemon.kind c.own.mon_client.holdings))
        by_busy true = refuses-kept reason.Busy
        by_busy false = by_ticket (ticket_for daemon.kind c.own.mon_client.holdings)

    -- an operation is sent, which is entered first; what is entered behind it is plain
    module _ (session : HeldSession) (q : IsQueued J client session) (there : session_with session.daemon c.own.sessions ≡ Some session) (operation : Operation) where
      sent-kept : (o : Outcome WholeClientNode) (rest : List Entry) → AllByRecursion IsPlain rest → o.out.entries ≡ entry.Sent (sent_now J client session operation q) ∷ rest
          → o.state.own.sessions ≡ put_session (record session { queue = pushed session.queue operation }) c.own.sessions → Kept o
      sent-kept o rest plain entries sessions =
          let e : Entry = entry.Sent (sent_now J client session operation q) in
          let new : HeldSession = record session { queue = pushed session.queue operation } in
          let K : List Entry = J ++ e ∷ rest in
          record {
            ordered = subst (EachBehind IsInOrderBy J) (sym entries) ((next-sent J client session operation q, tt), plain-ordered rest (J ++ e ∷ []) plain);
            queues = subst (λ (l : List Entry). ClientQueues (J ++ l) client o.state.own.sessions) (sym entries) (subst (ClientQueues K client) (sym sessions) (record {
              queued = put-all (IsQueued J client) (IsQueued K client) new (pushed-queued J client session operation q rest (all-map IsPlain (Untouched client) (plain-untouched client) rest plain))
                  (λ s off was. still-queued J client K s (others s off) was) c.own.sessions h.apart h.queued;
              apart = apart-put new c.own.sessions h.apart;
            }));
            numbered = subst (AllByRecursion (IsPushed c.own.sessions)) (sym entries) (
              (λ other is. ap (λ (s : HeldSession). s.queue.last + 1) (some-session session other (sym there ∙ is))),
              all-map IsPlain (IsPushed c.own.sessions) (plain-pushed c.own.sessions) rest plain,
            );
          }
        where
          to-others : (s : HeldSession) → same_name s.daemon session.daemon ≡ false → sent_to client s.daemon (entry.Sent (sent_now J client session operation q)) ≡ None
          to-others s off =
              let apart : (same_name client client && same_name session.daemon s.daemon) ≡ false = rw (same_name_self client, other-way session.daemon s.daemon off) refl in
              ap (λ (t : Bool). sent_where t (session.client_cookie, (session.queue.last + 1, operation))) apart

          others : (s : HeldSession) → same_name s.daemon session.daemon ≡ false
              → all_sent_to client s.daemon (J ++ entry.Sent (sent_now J client session operation q) ∷ rest) ≡ all_sent_to client s.daemon J
          others s off = unsent-still client s.daemon J (entry.Sent (sent_now J client session operation q) ∷ rest)
              (to-others s off, all-unsent client s.daemon rest (all-map IsPlain (Untouched client) (plain-untouched client) rest plain))

      abbrev new_node : WholeClientNode
      new_node = having_session c (record session { queue = pushed session.queue operation })

      abbrev sent_by : Link ClientStage → Secured → Callee → ℕ → Result SealedFrame BytesFault → Outcome WholeClientNode
      sent_by link s callee cookie made = carried_out new_node link.number false (entered_before (sent_entry c.own session (session.queue.last + 1) operation)
          (secure_sent (arrival (me new_node.own) new_node.own link reading draw) s (λ behind. ToDaemon (call.Open behind callee cookie)) [] made))

      -- on an open link to its daemon, or with the next one that is
      sends-on-kept : (found : Option (Link ClientStage × (Secured × (Callee × ℕ))))
          → Kept (sends_on new_node (sent_entry c.own session (session.queue.last + 1) operation) (session.queue.last + 1, operation) reading draw found)
      sends-on-kept None =
          sent-kept (sends_on new_node (sent_entry c.own session (session.queue.last + 1) operation) (session.queue.last + 1, operation) reading draw None) [] tt refl refl
      sends-on-kept (Some (link, (s, (callee, cookie)))) = by_sent (secure_frame s.keys (operation_message (session.queue.last + 1, operation)))
        where
          by_sent : (made : Result SealedFrame BytesFault) → Kept (sent_by link s callee cookie made)
          by_sent (Ok sealed) = sent-kept (sent_by link s callee cookie (Ok sealed)) [] tt refl refl
          by_sent (Err why) = sent-kept (sent_by link s callee cookie (Err why)) (refused_entry (me new_node.own) link.number (reason.Bytes why) ∷ []) (tt, tt) refl refl

      pushes-kept : (r : Result ℕ QueueFault) → push_reply session.queue ≡ r → Kept (pushes c session operation reading draw r)
      pushes-kept (Err why) is = refuses-kept (queue_reason why)
      pushes-kept (Ok seq) is =
          let next : seq ≡ session.queue.last + 1 = push-next session.queue.last seq (nat_le 1024 (length session.queue.waiting)) (session.queue.last == 2 ^ 64 - 1) is in
          subst (λ (n : ℕ). Kept (sends_on new_node (sent_entry c.own session n operation) (n, operation) reading draw (first_call session.daemon c.links))) (sym next)
          (sends-on-kept (first_call session.daemon c.links))

    sends-kept : (daemon : Name) (operation : Operation) → Kept (sends c daemon operation reading draw)
    sends-kept daemon operation = by_session (session_with daemon c.own.sessions) refl (held-all (IsQueued J client) daemon c.own.sessions h.queued)
      where
        by_session : (found : Option HeldSession) → session_with daemon c.own.sessions ≡ found → HeldIs (IsQueued J client) found → Kept (sends_in c operation reading draw found)
        by_session None is q = refuses-kept reason.NoSession
        by_session (Some session) is q = pushes-kept session q (with-its c.own.sessions daemon session is) operation (push_reply session.queue) refl

    submits-kept : (said : Command) → Kept (submits c reading draw said)
    submits-kept (command.Login services) = still-kept (logs_in c services) tt h
    submits-kept (command.Renew services) = renews-kept services
    submits-kept (command.Connect daemon lossy) = connects-kept daemon lossy
    submits-kept (command.Send daemon operation) = sends-kept daemon operation
    submits-kept command.Fetch = idle-kept
    submits-kept (command.Drop session) = idle-kept

    -- ---- a step

    pub client-kept : (input : Input) → Kept (whole_client_rule c input reading draw)
    client-kept (Opened number to) = opens-kept number to
    client-kept (NoLink to) = still-kept (unreached c to) (tt, tt) h
    client-kept (Bytes number bytes) = fed-kept bytes (link_of number c.links)
    client-kept (Turn number) = turn-kept (link_of number c.links)
    client-kept (Gone number) = loses-kept (link_of number c.links)
    client-kept (Submit said) = submits-kept said
    client-kept Restart = still-kept (restarted c) (tt, tt) (record { queued = tt; apart = tt })
    client-kept (Look view) = idle-kept
    client-kept Tick = idle-kept
