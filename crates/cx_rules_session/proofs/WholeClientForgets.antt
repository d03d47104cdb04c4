-- What a client may forget of its links makes no difference to what it does.
use Rattle.std.proofs.Common.{◌≡◌, ℕ, ◌-◌, ◌^◌, ◌==◌, ◌++◌, Bool, true, false, List, [], ◌∷◌, map, Option, Some, None, Result, Ok, Err, refl, sym, ap, subst, ◌∙◌, arith}
use Rattle.std.specs.Prelude.{IfSome, filter, find, not, if◌then◌else◌}
use Rattle.std.specs.List.{AllByRecursion, list_any}
use Rattle.std.specs.Option.{option_map}
use Rattle.cx_session.specs.cx_base.specs.Names.{Name, same_name}
use Rattle.cx_session.specs.cx_base.specs.declared.operations.Operation.{Operation}
use Rattle.cx_authorize.specs.cx_journal.specs.declared.entries.Entry.{Entry}
use Rattle.cx_authorize.specs.cx_journal.specs.declared.outcomes.Reason.{Reason}
use Rattle.cx_authorize.specs.cx_journal.specs.declared.outcomes.Reason.TheVariants as reason
use Rattle.cx_rules.specs.cx_login.specs.Held.{Held}
use Rattle.cx_session.specs.Queue.{push_reply, pushed}
use Rattle.cx_session.specs.declared.outbox.QueueFault.{QueueFault}
use Rattle.cx_rules.specs.cx_steps.specs.declared.effects.Effects.{Effects}
use Rattle.cx_rules.specs.cx_steps.specs.declared.events.Command.{Command}
use Rattle.cx_rules.specs.cx_steps.specs.declared.events.Command.TheVariants as command
use Rattle.cx_rules.specs.cx_steps.specs.declared.events.Peer.{Peer}
use Rattle.cx_authorize.specs.cx_wire.specs.declared.bodies.Request.TheVariants as asked
use Rattle.cx_rules.specs.Abridged.{IsWithin, abridged_mon_client_link, unsigned}
use Rattle.cx_rules.specs.Connector as connector
use Rattle.cx_rules.specs.Greetings.{own_banner}
use Rattle.cx_rules.specs.Holdings.{MonClient}
use Rattle.cx_rules.specs.Inputs.{Input, Opened, NoLink, Bytes, Turn, Gone, Look, Tick, Submit, Restart}
use Rattle.cx_rules.specs.Links.{Link, link_of}
use Rattle.cx_rules.specs.Requests.{Requests, asks_tickets, first_open, sealed_request}
use Rattle.cx_rules.specs.Rows.{Arrival, Outcome, Row, Turned, arrival, at, carried_out, forgotten, goes_on, idles, lifted, new_link, sends_secure}
use Rattle.cx_rules.specs.Secured.{Secured, secure_frame}
use Rattle.cx_rules.specs.declared.requests.Want.TheVariants.{Tickets}
use Rattle.cx_rules.proofs.Abridging.{Agree, Forgets, carried-alike, fed-agree, found-within, gone-held, gone-stands, idles-agree, link_of_map, node-twice, without-within}
use Rattle.cx_rules.proofs.AlikeRows.{SameAhead, SameTurn, secure-alike, turns-agree}
use Rattle.cx_rules.proofs.MonClientForgets.{mon_client-forgets, turned-alike}
use Rattle.cx_rules_session.specs.ClientRule.{ClientStage, ToMonitor, ToDaemon, Dial, WholeClient, WholeClientNode, asking_open, call_open, call_or, caller_to, calls, calls_with, connects, dial_of, first_call, first_stage, having_session, is_at_rest, is_idle, is_to, is_to_monitor, logs_in, loses, me, open_to_ask, opening_whole_client, opens, opens_dialled, own_behind_gone, pushes, refuses_command, renews, renews_on, sends_in, sends_on, sent_entry, submits, turn, turned_at, undialled, unreached, whole_client_rule, with_mon_client, with_caller}
use Rattle.cx_rules_session.specs.Forgets.{WholeClientStandsFor, abridged_call_link, abridged_client_at, abridged_client_link, abridged_whole_client}
use Rattle.cx_rules_session.specs.Kinds.{entered_before, in_stage, turn_of_kind}
use Rattle.cx_rules_session.specs.Presenter as call
use Rattle.cx_rules_session.specs.Presenter.{CallStage, Caller, callee_of}
use Rattle.cx_rules_session.specs.Sessions.{Callee, HeldSession, held_gid, operation_message, session_with, ticket_for}
use Rattle.cx_rules_session.proofs.CallForgets.{call-forgets, call-turned-alike, callee-same}
use Rattle.cx_rules_session.proofs.KindsAlike.{comes-of-kind, cut_found, cut_kept, entered-before-alike, first-open-cut, first-open-within, left-within, lifted-alike, links-left, list_all-map, list_any-map, number-of-kind, numbers-picked, request-alike, sends-of-kind, turn-of-kind-alike, twice-of-kind}

-- ---- a link

number-of : (l : Link ClientStage) (stage : ClientStage) → (abridged_client_at l stage).number ≡ l.number
number-of l (ToMonitor stage) = number-of-kind ToMonitor abridged_mon_client_link abridged_client_link mon_client-forgets (λ k. refl) (in_stage l stage)
number-of l (ToDaemon stage) = number-of-kind ToDaemon abridged_call_link abridged_client_link call-forgets (λ k. refl) (in_stage l stage)

twice-of : (l : Link ClientStage) (stage : ClientStage)
    → (let k : Link ClientStage = record l { stage = stage } in abridged_client_link (abridged_client_link k)) ≡ abridged_client_link (record l { stage = stage })
twice-of l (ToMonitor stage) = twice-of-kind ToMonitor abridged_mon_client_link abridged_client_link mon_client-forgets (λ k. refl) (in_stage l stage)
twice-of l (ToDaemon stage) = twice-of-kind ToDaemon abridged_call_link abridged_client_link call-forgets (λ k. refl) (in_stage l stage)

sends-of : (l : Link ClientStage) (stage : ClientStage) (bytes : List ℕ)
    → (let k : Link ClientStage = abridged_client_link (record l { stage = stage }) in abridged_client_link (record k { sent = k.sent ++ bytes }))
    ≡ abridged_client_link (record l { sent = l.sent ++ bytes; stage = stage })
sends-of l (ToMonitor stage) bytes = sends-of-kind ToMonitor abridged_mon_client_link abridged_client_link mon_client-forgets (λ k. refl) (in_stage l stage) bytes
sends-of l (ToDaemon stage) bytes = sends-of-kind ToDaemon abridged_call_link abridged_client_link call-forgets (λ k. refl) (in_stage l stage) bytes

comes-of : (l : Link ClientStage) (stage : ClientStage) (bytes : List ℕ) → IsWithin l
    → (let k : Link ClientStage = abridged_client_link (record l { stage = stage }) in abridged_client_link (record k { received = k.received ++ bytes }))
    ≡ abridged_client_link (record l { received = l.received ++ bytes; stage = stage })
comes-of l (ToMonitor stage) bytes w = comes-of-kind ToMonitor abridged_mon_client_link abridged_client_link mon_client-forgets (λ k. refl) (in_stage l stage) bytes w
comes-of l (ToDaemon stage) bytes w = comes-of-kind ToDaemon abridged_call_link abridged_client_link call-forgets (λ k. refl) (in_stage l stage) bytes w

pub client-forgets-links : Forgets abridged_client_link
client-forgets-links = record {
  number = λ l. number-of l l.stage;
  twice = λ l. twice-of l l.stage;
  sends = λ l bytes. sends-of l l.stage bytes;
  comes = λ l bytes w. comes-of l l.stage bytes w;
}

-- ---- what stays of a stage

same-ahead : (l : Link ClientStage) (stage : ClientStage) → (let k : Link ClientStage = record l { stage = stage } in SameAhead (abridged_client_link k) k)
same-ahead l (ToMonitor (connector.AwaitsBanner services)) = record { number = refl; ahead = refl }
same-ahead l (ToMonitor (connector.AwaitsHello services)) = record { number = refl; ahead = refl }
same-ahead l (ToMonitor (connector.AwaitsChallenge services)) = record { number = refl; ahead = refl }
same-ahead l (ToMonitor connector.AwaitsDone) = record { number = refl; ahead = refl }
same-ahead l (ToMonitor (connector.AwaitsSignature s login)) = record { number = refl; ahead = refl }
same-ahead l (ToMonitor (connector.AwaitsIdent s session)) = record { number = refl; ahead = refl }
same-ahead l (ToMonitor (connector.Open s requests)) = record { number = refl; ahead = refl }
same-ahead l (ToDaemon (call.AwaitsBanner called)) = record { number = refl; ahead = refl }
same-ahead l (ToDaemon (call.AwaitsHello called)) = record { number = refl; ahead = refl }
same-ahead l (ToDaemon (call.AwaitsChallenge callee p)) = record { number = refl; ahead = refl }
same-ahead l (ToDaemon (call.AwaitsDone callee answered)) = record { number = refl; ahead = refl }
same-ahead l (ToDaemon (call.AwaitsSignature s callee)) = record { number = refl; ahead = refl }
same-ahead l (ToDaemon (call.AwaitsIdent s callee cookie)) = record { number = refl; ahead = refl }
same-ahead l (ToDaemon (call.AwaitsReconnect s callee cookie)) = record { number = refl; ahead = refl }
same-ahead l (ToDaemon (call.Open s callee cookie)) = record { number = refl; ahead = refl }

to-monitor-same : (l : Link ClientStage) (stage : ClientStage) → is_to_monitor (abridged_client_at l stage).stage ≡ is_to_monitor stage
to-monitor-same l (ToMonitor stage) = refl
to-monitor-same l (ToDaemon stage) = refl

to-same : (daemon : Name) (l : Link ClientStage) (stage : ClientStage) → is_to daemon (abridged_client_at l stage).stage ≡ is_to daemon stage
to-same daemon l (ToMonitor stage) = refl
to-same daemon l (ToDaemon stage) = let same : Callee → Bool = λ callee. same_name callee.daemon daemon in ap same (callee-same (in_stage l stage) stage)

kept-same : (l : Link ClientStage) (stage : ClientStage) → asking_open (abridged_client_at l stage).stage ≡ option_map cut_kept (asking_open stage)
kept-same l (ToMonitor (connector.AwaitsBanner services)) = refl
kept-same l (ToMonitor (connector.AwaitsHello services)) = refl
kept-same l (ToMonitor (connector.AwaitsChallenge services)) = refl
kept-same l (ToMonitor connector.AwaitsDone) = refl
kept-same l (ToMonitor (connector.AwaitsSignature s login)) = refl
kept-same l (ToMonitor (connector.AwaitsIdent s session)) = refl
kept-same l (ToMonitor (connector.Open s requests)) = refl
kept-same l (ToDaemon stage) = refl

-- what is kept of an open link to a daemon, abridged; and with the link
abbrev pub cut_call : Secured × (Callee × ℕ) → Secured × (Callee × ℕ)
cut_call (s, (callee, cookie)) = (unsigned s, (callee, cookie))

abbrev pub cut_called : Link ClientStage × (Secured × (Callee × ℕ)) → Link ClientStage × (Secured × (Callee × ℕ))
cut_called (link, (s, (callee, cookie))) = (abridged_client_link link, (unsigned s, (callee, cookie)))

call-same : (daemon : Name) (l : Link ClientStage) (stage : ClientStage) → call_open daemon (abridged_client_at l stage).stage ≡ option_map cut_call (call_open daemon stage)
call-same daemon l (ToMonitor stage) = refl
call-same daemon l (ToDaemon (call.AwaitsBanner called)) = refl
call-same daemon l (ToDaemon (call.AwaitsHello called)) = refl
call-same daemon l (ToDaemon (call.AwaitsChallenge callee p)) = refl
call-same daemon l (ToDaemon (call.AwaitsDone callee answered)) = refl
call-same daemon l (ToDaemon (call.AwaitsSignature s callee)) = refl
call-same daemon l (ToDaemon (call.AwaitsIdent s callee cookie)) = refl
call-same daemon l (ToDaemon (call.AwaitsReconnect s callee cookie)) = refl
call-same daemon l (ToDaemon (call.Open s callee cookie)) = by_test (same_name callee.daemon daemon)
  where
    by_test : (its : Bool) → (if its then Some (unsigned s, (callee, cookie)) else None) ≡ option_map cut_call (if its then Some (s, (callee, cookie)) else None)
    by_test true = refl
    by_test false = refl

first-call-cut : (daemon : Name) (links : List (Link ClientStage)) → first_call daemon (map abridged_client_link links) ≡ option_map cut_called (first_call daemon links)
first-call-cut daemon [] = refl
first-call-cut daemon (l ∷ links) =
    let found : Option (Secured × (Callee × ℕ)) → Option (Link ClientStage × (Secured × (Callee × ℕ))) = λ kept.
    call_or (abridged_client_link l) kept (first_call daemon (map abridged_client_link links))
    in
    ap found (call-same daemon l l.stage) ∙ by_kept (call_open daemon l.stage) (first-call-cut daemon links)
  where
    by_kept : (kept : Option (Secured × (Callee × ℕ))) → first_call daemon (map abridged_client_link links) ≡ option_map cut_called (first_call daemon links)
        → call_or (abridged_client_link l) (option_map cut_call kept) (first_call daemon (map abridged_client_link links)) ≡ option_map cut_called (call_or l kept (first_call daemon links))
    by_kept None later = later
    by_kept (Some (s, (callee, cookie))) later = refl

first-call-within : (daemon : Name) (links : List (Link ClientStage)) → AllByRecursion IsWithin links
    → IfSome (first_call daemon links) (λ (found : Link ClientStage × (Secured × (Callee × ℕ))). IsWithin found.0)
first-call-within daemon [] h = tt
first-call-within daemon (l ∷ links) h = by_kept (call_open daemon l.stage) (first-call-within daemon links h.1)
  where
    by_kept : (kept : Option (Secured × (Callee × ℕ))) → IfSome (first_call daemon links) (λ (found : Link ClientStage × (Secured × (Callee × ℕ))). IsWithin found.0)
        → IfSome (call_or l kept (first_call daemon links)) (λ (found : Link ClientStage × (Secured × (Callee × ℕ))). IsWithin found.0)
    by_kept (Some pair) later = h.0
    by_kept None later = later

-- ---- outcomes

-- two outcomes of a client of which it keeps the same
abbrev pub ClientsAgree : Outcome WholeClientNode → Outcome WholeClientNode → Type 0
ClientsAgree o p = Agree abridged_client_link o p

idles-same : (c : WholeClientNode) → AllByRecursion IsWithin c.links → ClientsAgree (idles (abridged_whole_client c)) (idles c)
idles-same c h = idles-agree abridged_client_link client-forgets-links c h

-- ---- a turn

-- on a link in this stage
abbrev pub TurnsAlike : WholeClientNode → ℕ → List ℕ → Link ClientStage → ClientStage → Type 0
TurnsAlike c reading draw link stage =
    let k : Link ClientStage = record link { stage = stage } in
    let l : Link ClientStage = abridged_client_link k in
    SameTurn abridged_client_link (turned_at (arrival (me c.own) c.own l reading draw) l.stage) (turned_at (arrival (me c.own) c.own k reading draw) stage)

turned-same : (c : WholeClientNode) (reading : ℕ) (draw : List ℕ) (link : Link ClientStage) (stage : ClientStage) → IsWithin link → TurnsAlike c reading draw link stage
turned-same c reading draw link (ToMonitor stage) w =
    let g : Link connector.Stage = in_stage link stage in
    let b : Arrival MonClient connector.Stage = arrival (me c.own) c.own.mon_client g reading draw in
    let cut : Link connector.Stage = abridged_mon_client_link g in
    turn-of-kind-alike (with_mon_client c.own) ToMonitor abridged_mon_client_link abridged_client_link (λ x. refl) (connector.turned_at (at b cut) cut.stage) (connector.turned_at b stage) (turned-alike b stage w)
turned-same c reading draw link (ToDaemon stage) w =
    let g : Link CallStage = in_stage link stage in
    let cut : Link CallStage = abridged_call_link g in
    let arrives : Name → Link CallStage → Arrival Caller CallStage = λ daemon l. arrival (me c.own) (caller_to daemon c.own) l reading draw in
    let turned : Name → Link CallStage → Turned WholeClient ClientStage = λ daemon l. turn_of_kind (with_caller daemon c.own) ToDaemon (call.turned_at (arrives daemon l) l.stage) in
    let daemon : Name = (callee_of stage).daemon in
    let same : SameTurn abridged_client_link (turned daemon cut) (turned daemon g) =
    turn-of-kind-alike (with_caller daemon c.own) ToDaemon abridged_call_link abridged_client_link (λ x. refl) (call.turned_at (arrives daemon cut) cut.stage) (call.turned_at (arrives daemon g) stage)
    (call-turned-alike (arrives daemon g) stage w)
    in
    subst (λ (callee : Callee). SameTurn abridged_client_link (turned callee.daemon cut) (turned daemon g)) (sym (callee-same g stage)) same

turn-agrees : (c : WholeClientNode) (reading : ℕ) (draw : List ℕ) (found : Option (Link ClientStage)) → AllByRecursion IsWithin c.links → IfSome found IsWithin
    → ClientsAgree (turn (abridged_whole_client c) reading draw (option_map abridged_client_link found)) (turn c reading draw found)
turn-agrees c reading draw None h w = idles-same c h
turn-agrees c reading draw (Some link) h w =
    let a : Arrival WholeClient ClientStage = arrival (me c.own) c.own link reading draw in
    let l : Link ClientStage = abridged_client_link link in
    turns-agree abridged_client_link client-forgets-links c a l (turned_at (at a l) l.stage) (turned_at a link.stage) (client-forgets-links.number link) h
    (turned-same c reading draw link link.stage w)

-- ---- commands that change what a client has of its own alone

-- another own, and these effects
with-own : (c : WholeClientNode) (own : WholeClient) (out : Effects) → AllByRecursion IsWithin c.links
    → ClientsAgree (record { state = record (abridged_whole_client c) { own = own }; out = out }) (record { state = record c { own = own }; out = out })
with-own c own out h = record { out = refl; state = record { held = node-twice abridged_client_link client-forgets-links (record c { own = own }); within = h } }

refuses-agree : (c : WholeClientNode) (why : Reason) → AllByRecursion IsWithin c.links → ClientsAgree (refuses_command (abridged_whole_client c) why) (refuses_command c why)
refuses-agree c why h = with-own c c.own (refuses_command c why).out h

-- ---- Login, Renew

logs_in-agree : (c : WholeClientNode) (services : ℕ) → AllByRecursion IsWithin c.links → ClientsAgree (logs_in (abridged_whole_client c) services) (logs_in c services)
logs_in-agree c services h =
    let shutting : List ℕ → Effects = λ numbers. record (logs_in c services).out { shuts = numbers } in
    let picks : Link ClientStage → Bool = λ l. is_to_monitor l.stage in
    let same : (l : Link ClientStage) → picks (abridged_client_link l) ≡ picks l = λ l. to-monitor-same l l.stage in
    let with : List (Link ClientStage) → WholeClientNode = λ links. record (logs_in c services).state { links = links } in
    let left : List (Link ClientStage) = filter (λ l. not (picks l)) c.links in
    record {
      out = ap shutting (numbers-picked abridged_client_link client-forgets-links.number picks same c.links);
      state = record {
        held = ap (λ links. abridged_whole_client (with links)) (links-left abridged_client_link client-forgets-links.number picks same c.links)
            ∙ node-twice abridged_client_link client-forgets-links (with left);
        within = left-within (λ l. not (picks l)) c.links h;
      };
    }

renews-found : (c : WholeClientNode) (services reading : ℕ) (draw : List ℕ) (found : Option (Link ClientStage × (Secured × Requests))) → AllByRecursion IsWithin c.links
    → IfSome found (λ (f : Link ClientStage × (Secured × Requests)). IsWithin f.0)
    → ClientsAgree (renews_on (abridged_whole_client c) services reading draw (option_map (cut_found abridged_client_link) found)) (renews_on c services reading draw found)
renews-found c services reading draw None h w = refuses-agree c reason.NoSession h
renews-found c services reading draw (Some (link, (s, requests))) h w =
    let a : Arrival MonClient ClientStage = arrival (me c.own) c.own.mon_client link reading draw in
    let l : Link ClientStage = abridged_client_link link in
    let same : SameAhead l link = same-ahead link link.stage in
    let cut_row : Row MonClient ClientStage = asks_tickets open_to_ask (at a l) (unsigned s) requests services in
    let row : Row MonClient ClientStage = asks_tickets open_to_ask a s requests services in
    let alike = request-alike abridged_client_link open_to_ask (λ t r k. refl) a l s requests Tickets (sealed_request s.keys requests (asked.Tickets services)) same w in
    let after : ℕ → Type 0 = λ n.
    ClientsAgree (carried_out (abridged_whole_client c) l.number false (lifted (with_mon_client c.own) cut_row)) (carried_out c n false (lifted (with_mon_client c.own) row))
    in
    subst after same.number
    (carried-alike abridged_client_link client-forgets-links c l.number false (lifted (with_mon_client c.own) cut_row) (lifted (with_mon_client c.own) row) h
    (lifted-alike abridged_client_link (with_mon_client c.own) cut_row row alike))

renews-agree : (c : WholeClientNode) (services reading : ℕ) (draw : List ℕ) → AllByRecursion IsWithin c.links
    → ClientsAgree (renews (abridged_whole_client c) services reading draw) (renews c services reading draw)
renews-agree c services reading draw h =
    subst (λ (found : Option (Link ClientStage × (Secured × Requests))). ClientsAgree (renews_on (abridged_whole_client c) services reading draw found) (renews c services reading draw))
    (sym (first-open-cut asking_open abridged_client_link (λ l. kept-same l l.stage) c.links))
    (renews-found c services reading draw (first_open asking_open c.links) h (first-open-within asking_open c.links h))

-- ---- Connect

calls_with-agree : (c : WholeClientNode) (callee : Callee) (held : Option Held) → AllByRecursion IsWithin c.links
    → ClientsAgree (calls_with (abridged_whole_client c) callee held) (calls_with c callee held)
calls_with-agree c callee None h = refuses-agree c (reason.NoTicket callee.daemon.kind) h
calls_with-agree c callee (Some held) h = by_test (c.own.mon_client.global_seq == 2 ^ 64 - 1)
  where
    by_test : (last : Bool) → ClientsAgree
        (if last then refuses_command (abridged_whole_client c) reason.Spent else calls (abridged_whole_client c) (record { callee = callee; held = held; gid = held_gid c.own.mon_client.holdings }))
        (if last then refuses_command c reason.Spent else calls c (record { callee = callee; held = held; gid = held_gid c.own.mon_client.holdings }))
    by_test true = refuses-agree c reason.Spent h
    by_test false =
        let o = calls c (record { callee = callee; held = held; gid = held_gid c.own.mon_client.holdings }) in with-own c o.state.own o.out h

connects-agree : (c : WholeClientNode) (daemon : Name) (lossy : Bool) → AllByRecursion IsWithin c.links
    → ClientsAgree (connects (abridged_whole_client c) daemon lossy) (connects c daemon lossy)
connects-agree c daemon lossy h =
    let callee : Callee = record { daemon = daemon; lossy = lossy } in
    let held : Option Held = ticket_for daemon.kind c.own.mon_client.holdings in
    let connects_where : Bool → Outcome WholeClientNode = λ busy.
    if busy then refuses_command (abridged_whole_client c) reason.Busy else calls_with (abridged_whole_client c) callee held
    in
    subst (λ (o : Outcome WholeClientNode). ClientsAgree o (connects c daemon lossy))
    (ap connects_where (sym (list_any-map (λ l. is_to daemon l.stage) abridged_client_link (λ l. to-same daemon l l.stage) c.links)))
    (by_test (list_any (λ l. is_to daemon l.stage) c.links))
  where
    by_test : (busy : Bool) → ClientsAgree
        (if busy then refuses_command (abridged_whole_client c) reason.Busy
        else calls_with (abridged_whole_client c) (record { daemon = daemon; lossy = lossy }) (ticket_for daemon.kind c.own.mon_client.holdings))
        (if busy then refuses_command c reason.Busy else calls_with c (record { daemon = daemon; lossy = lossy }) (ticket_for daemon.kind c.own.mon_client.holdings))
    by_test true = refuses-agree c reason.Busy h
    by_test false = calls_with-agree c (record { daemon = daemon; lossy = lossy }) (ticket_for daemon.kind c.own.mon_client.holdings) h

-- ---- Send

sends-found : (c : WholeClientNode) (sent : Entry) (ask : ℕ × Operation) (reading : ℕ) (draw : List ℕ) (found : Option (Link ClientStage × (Secured × (Callee × ℕ)))) → AllByRecursion IsWithin c.links
    → IfSome found (λ (f : Link ClientStage × (Secured × (Callee × ℕ))). IsWithin f.0)
    → ClientsAgree (sends_on (abridged_whole_client c) sent ask reading draw (option_map cut_called found)) (sends_on c sent ask reading draw found)
sends-found c sent ask reading draw None h w = with-own c c.own (sends_on c sent ask reading draw None).out h
sends-found c sent ask reading draw (Some (link, (s, (callee, cookie)))) h w =
    let a : Arrival WholeClient ClientStage = arrival (me c.own) c.own link reading draw in
    let l : Link ClientStage = abridged_client_link link in
    let same : SameAhead l link = same-ahead link link.stage in
    let stage : Secured → ClientStage = λ behind. ToDaemon (call.Open behind callee cookie) in
    let cut_row : Row WholeClient ClientStage = sends_secure (at a l) (unsigned s) stage [] (operation_message ask) in
    let row : Row WholeClient ClientStage = sends_secure a s stage [] (operation_message ask) in
    let alike = secure-alike abridged_client_link a l (unsigned s) s stage [] (secure_frame s.keys (operation_message ask)) same w (λ x k. refl) in
    let after : ℕ → Type 0 = λ n.
    ClientsAgree (carried_out (abridged_whole_client c) l.number false (entered_before sent cut_row)) (carried_out c n false (entered_before sent row))
    in
    subst after same.number
    (carried-alike abridged_client_link client-forgets-links c l.number false (entered_before sent cut_row) (entered_before sent row) h
    (entered-before-alike abridged_client_link sent cut_row row alike))

pushes-agree : (c : WholeClientNode) (session : HeldSession) (operation : Operation) (reading : ℕ) (draw : List ℕ) (pushing : Result ℕ QueueFault) → AllByRecursion IsWithin c.links
    → ClientsAgree (pushes (abridged_whole_client c) session operation reading draw pushing) (pushes c session operation reading draw pushing)
pushes-agree c session operation reading draw (Err why) h = refuses-agree c _ h
pushes-agree c session operation reading draw (Ok seq) h =
    let behind : WholeClientNode = having_session c (record session { queue = pushed session.queue operation }) in
    let sent : Entry = sent_entry c.own session seq operation in
    subst (λ (found : Option (Link ClientStage × (Secured × (Callee × ℕ)))).
    ClientsAgree (sends_on (abridged_whole_client behind) sent (seq, operation) reading draw found) (sends_on behind sent (seq, operation) reading draw (first_call session.daemon c.links)))
    (sym (first-call-cut session.daemon c.links))
    (sends-found behind sent (seq, operation) reading draw (first_call session.daemon c.links) h (first-call-within session.daemon c.links h))

sends_in-agree : (c : WholeClientNode) (operation : Operation) (reading : ℕ) (draw : List ℕ) (session : Option HeldSession) → AllByRecursion IsWithin c.links
    → ClientsAgree (sends_in (abridged_whole_client c) operation reading draw session) (sends_in c operation reading draw session)
sends_in-agree c operation reading draw None h = refuses-agree c reason.NoSession h
sends_in-agree c operation reading draw (Some session) h = pushes-agree c session operation reading draw (push_reply session.queue) h

submits-agree : (c : WholeClientNode) (reading : ℕ) (draw : List ℕ) (command : Command) → AllByRecursion IsWithin c.links
    → ClientsAgree (submits (abridged_whole_client c) reading draw command) (submits c reading draw command)
submits-agree c reading draw (command.Login services) h = logs_in-agree c services h
submits-agree c reading draw (command.Renew services) h = renews-agree c services reading draw h
submits-agree c reading draw (command.Connect daemon lossy) h = connects-agree c daemon lossy h
submits-agree c reading draw (command.Send daemon operation) h = sends_in-agree c operation reading draw (session_with daemon c.own.sessions) h
submits-agree c reading draw command.Fetch h = idles-same c h
submits-agree c reading draw (command.Drop session) h = idles-same c h

-- ---- links that open, and that are gone

opens_to-agree : (c : WholeClientNode) (reading : ℕ) (draw : List ℕ) (n : ℕ) (p : Peer) (dial : Option Dial) → AllByRecursion IsWithin c.links
    → ClientsAgree (opens_dialled (abridged_whole_client c) reading draw n p dial) (opens_dialled c reading draw n p dial)
opens_to-agree c reading draw n p None h = idles-same c h
opens_to-agree c reading draw n p (Some dial) h =
    let d : WholeClientNode = undialled c p in
    let row : Row WholeClient ClientStage = goes_on (arrival (me c.own) d.own (new_link n (first_stage dial)) reading draw) (first_stage dial) own_banner [] in
    carried-alike abridged_client_link client-forgets-links d n false row row h (record { kept = refl; within = omega arith })

opens-agree : (c : WholeClientNode) (reading : ℕ) (draw : List ℕ) (n : ℕ) (p : Option Peer) → AllByRecursion IsWithin c.links
    → ClientsAgree (opens (abridged_whole_client c) reading draw n p) (opens c reading draw n p)
opens-agree c reading draw n None h = idles-same c h
opens-agree c reading draw n (Some p) h = opens_to-agree c reading draw n p (find (dial_of p) c.own.dials) h

-- a link that is gone, with this left of what the client has of its own
gone-agree : (c : WholeClientNode) (own : WholeClient) (n : ℕ) (out : Effects) → AllByRecursion IsWithin c.links
    → ClientsAgree (record { state = record (forgotten (abridged_whole_client c) n) { own = own }; out = out }) (record { state = record (forgotten c n) { own = own }; out = out })
gone-agree c own n out h =
    let d : WholeClientNode = record c { own = own } in
    record {
      out = refl;
      state = record {
        held = ap abridged_whole_client (gone-held abridged_client_link client-forgets-links d n) ∙ node-twice abridged_client_link client-forgets-links (forgotten d n);
        within = without-within n c.links h;
      };
    }

-- of a link in this stage
loses-in : (c : WholeClientNode) (l : Link ClientStage) (stage : ClientStage) → AllByRecursion IsWithin c.links
    → (let k : Link ClientStage = record l { stage = stage } in ClientsAgree (loses (abridged_whole_client c) (Some (abridged_client_link k))) (loses c (Some k)))
loses-in c l (ToMonitor (connector.AwaitsBanner services)) h = gone-agree c c.own l.number _ h
loses-in c l (ToMonitor (connector.AwaitsHello services)) h = gone-agree c c.own l.number _ h
loses-in c l (ToMonitor (connector.AwaitsChallenge services)) h = gone-agree c c.own l.number _ h
loses-in c l (ToMonitor connector.AwaitsDone) h = gone-agree c c.own l.number _ h
loses-in c l (ToMonitor (connector.AwaitsSignature s login)) h = gone-agree c c.own l.number _ h
loses-in c l (ToMonitor (connector.AwaitsIdent s session)) h = gone-agree c c.own l.number _ h
loses-in c l (ToMonitor (connector.Open s requests)) h = gone-agree c c.own l.number _ h
loses-in c l (ToDaemon (call.AwaitsBanner called)) h = gone-agree c (own_behind_gone c.own (ToDaemon (call.AwaitsBanner called))) l.number _ h
loses-in c l (ToDaemon (call.AwaitsHello called)) h = gone-agree c (own_behind_gone c.own (ToDaemon (call.AwaitsHello called))) l.number _ h
loses-in c l (ToDaemon (call.AwaitsChallenge callee p)) h = gone-agree c (own_behind_gone c.own (ToDaemon (call.AwaitsChallenge callee p))) l.number _ h
loses-in c l (ToDaemon (call.AwaitsDone callee answered)) h = gone-agree c (own_behind_gone c.own (ToDaemon (call.AwaitsDone callee answered))) l.number _ h
loses-in c l (ToDaemon (call.AwaitsSignature s callee)) h = gone-agree c (own_behind_gone c.own (ToDaemon (call.AwaitsSignature s callee))) l.number _ h
loses-in c l (ToDaemon (call.AwaitsIdent s callee cookie)) h = gone-agree c (own_behind_gone c.own (ToDaemon (call.AwaitsIdent s callee cookie))) l.number _ h
loses-in c l (ToDaemon (call.AwaitsReconnect s callee cookie)) h = gone-agree c (own_behind_gone c.own (ToDaemon (call.AwaitsReconnect s callee cookie))) l.number _ h
loses-in c l (ToDaemon (call.Open s callee cookie)) h = gone-agree c (own_behind_gone c.own (ToDaemon (call.Open s callee cookie))) l.number _ h

loses-agree : (c : WholeClientNode) (found : Option (Link ClientStage)) → AllByRecursion IsWithin c.links
    → ClientsAgree (loses (abridged_whole_client c) (option_map abridged_client_link found)) (loses c found)
loses-agree c None h = idles-same c h
loses-agree c (Some l) h = loses-in c l l.stage h

-- ---- events

client-agrees : (c : WholeClientNode) (input : Input) (reading : ℕ) (draw : List ℕ) → AllByRecursion IsWithin c.links
    → ClientsAgree (whole_client_rule (abridged_whole_client c) input reading draw) (whole_client_rule c input reading draw)
client-agrees c (Opened n p) reading draw h = opens-agree c reading draw n p h
client-agrees c (NoLink p) reading draw h = with-own c (undialled c p).own (unreached c p).out h
client-agrees c (Bytes n bytes) reading draw h =
    let fed-at = fed-agree abridged_client_link client-forgets-links c bytes (link_of n c.links) h (found-within n c.links h) in
    rw (link_of_map abridged_client_link client-forgets-links.number n c.links) fed-at
client-agrees c (Turn n) reading draw h =
    subst (λ (found : Option (Link ClientStage)). ClientsAgree (turn (abridged_whole_client c) reading draw found) (turn c reading draw (link_of n c.links)))
    (sym (link_of_map abridged_client_link client-forgets-links.number n c.links))
    (turn-agrees c reading draw (link_of n c.links) h (found-within n c.links h))
client-agrees c (Gone n) reading draw h =
    subst (λ (found : Option (Link ClientStage)). ClientsAgree (loses (abridged_whole_client c) found) (loses c (link_of n c.links)))
    (sym (link_of_map abridged_client_link client-forgets-links.number n c.links))
    (loses-agree c (link_of n c.links) h)
client-agrees c (Submit command) reading draw h = submits-agree c reading draw command h
client-agrees c Restart reading draw h = record { out = refl; state = record { held = refl; within = tt } }
client-agrees c (Look view) reading draw h = idles-same c h
client-agrees c Tick reading draw h = idles-same c h

-- what a client does from what it holds is what it does from all that the rules hold
pub client-forgets : (c s : WholeClientNode) (input : Input) (reading : ℕ) (draw : List ℕ) → WholeClientStandsFor c s
    → ((whole_client_rule c input reading draw).out ≡ (whole_client_rule s input reading draw).out)
    × WholeClientStandsFor (abridged_whole_client (whole_client_rule c input reading draw).state) (whole_client_rule s input reading draw).state
client-forgets c s input reading draw stands =
    let both : ClientsAgree (whole_client_rule c input reading draw) (whole_client_rule s input reading draw) =
    subst (λ (n : WholeClientNode). ClientsAgree (whole_client_rule n input reading draw) (whole_client_rule s input reading draw)) (sym stands.held)
    (client-agrees s input reading draw stands.within)
    in
    (both.out, both.state)

rest-same : (sessions : List HeldSession) (l : Link ClientStage) (stage : ClientStage) → is_at_rest sessions (abridged_client_at l stage).stage ≡ is_at_rest sessions stage
rest-same sessions l (ToMonitor (connector.AwaitsBanner services)) = refl
rest-same sessions l (ToMonitor (connector.AwaitsHello services)) = refl
rest-same sessions l (ToMonitor (connector.AwaitsChallenge services)) = refl
rest-same sessions l (ToMonitor connector.AwaitsDone) = refl
rest-same sessions l (ToMonitor (connector.AwaitsSignature s login)) = refl
rest-same sessions l (ToMonitor (connector.AwaitsIdent s session)) = refl
rest-same sessions l (ToMonitor (connector.Open s requests)) = refl
rest-same sessions l (ToDaemon (call.AwaitsBanner called)) = refl
rest-same sessions l (ToDaemon (call.AwaitsHello called)) = refl
rest-same sessions l (ToDaemon (call.AwaitsChallenge callee p)) = refl
rest-same sessions l (ToDaemon (call.AwaitsDone callee answered)) = refl
rest-same sessions l (ToDaemon (call.AwaitsSignature s callee)) = refl
rest-same sessions l (ToDaemon (call.AwaitsIdent s callee cookie)) = refl
rest-same sessions l (ToDaemon (call.AwaitsReconnect s callee cookie)) = refl
rest-same sessions l (ToDaemon (call.Open s callee cookie)) = refl

pub client-idle : (c s : WholeClientNode) → WholeClientStandsFor c s → is_idle c ≡ is_idle s
client-idle c s stands =
    ap is_idle stands.held ∙ list_all-map (λ l. is_at_rest s.own.sessions l.stage) abridged_client_link (λ l. rest-same s.own.sessions l l.stage) s.links

pub client-lost : (c s : WholeClientNode) (n : ℕ) → WholeClientStandsFor c s → WholeClientStandsFor (forgotten c n) (forgotten s n)
client-lost c s n stands = gone-stands abridged_client_link client-forgets-links c s n stands

pub client-undialled : (c s : WholeClientNode) (p : Peer) → WholeClientStandsFor c s → WholeClientStandsFor (undialled c p) (undialled s p)
client-undialled c s p stands = record { held = ap (λ n. undialled n p) stands.held; within = stands.within }

pub client-opening : (mon_client : MonClient) → WholeClientStandsFor (opening_whole_client mon_client) (opening_whole_client mon_client)
client-opening mon_client = record { held = refl; within = tt }

pub client-twice : (c : WholeClientNode) → abridged_whole_client (abridged_whole_client c) ≡ abridged_whole_client c
client-twice c = node-twice abridged_client_link client-forgets-links c
