-- That a daemon asks for generations again once they are outdated, and takes the reply.
use Rattle.std.proofs.Common.{◌≡◌, ℕ, ◌+◌, ◌-◌, ◌^◌, ◌==◌, Bool, true, false, List, [], ◌∷◌, Option, Some, None, Result, Ok, Err, refl, sym, ap, subst, ◌∙◌}
use Rattle.std.specs.Prelude.{is_none, if◌then◌else◌}
use Rattle.std.proofs.lemmas.Bool.{eq-eqb, le-ltb}
use Rattle.cx_authorize.specs.cx_control.specs.Upkeep.{keepalive2_layout, keepalive2_ack_layout}
use Rattle.cx_desk.specs.Handlers.{Handlers}
use Rattle.cx_rules.specs.cx_frame.specs.declared.frame.Frame.{Frame}
use Rattle.cx_authorize.specs.cx_journal.specs.declared.faults.BytesFault.TheVariants.{Unexpected}
use Rattle.cx_authorize.specs.cx_journal.specs.declared.outcomes.Reason.{Reason}
use Rattle.cx_authorize.specs.cx_journal.specs.declared.outcomes.Reason.TheVariants as reason
use Rattle.cx_authorize.specs.cx_journal.specs.declared.premises.KeyKind.TheVariants.{Principal}
use Rattle.cx_rules.specs.cx_keyserver.specs.Issuing.{current_at}
use Rattle.cx_rules.specs.cx_login.specs.Unlocking.{Unlocked, unlocked}
use Rattle.cx_rules.specs.cx_rotate.specs.declared.generations.Generation.{Generation}
use Rattle.cx_authorize.specs.cx_sealed.specs.Records.{rotating_reply_layout}
use Rattle.cx_authorize.specs.cx_sealed.specs.declared.rotating_reply.RotatingReply.{RotatingReply}
use Rattle.cx_rules.specs.cx_steps.specs.declared.events.Peer.TheVariants.{Monitor}
use Rattle.cx_rules.specs.cx_steps.specs.declared.seals.SealEntry.{SealEntry}
use Rattle.cx_authorize.specs.cx_wire.specs.Bodies.{reply_layout}
use Rattle.cx_authorize.specs.cx_wire.specs.declared.bodies.Reply.TheVariants as given
use Rattle.cx_authorize.specs.cx_wire.specs.declared.bodies.Request.TheVariants as asked
use Rattle.cx_rules.specs.Connector as connector
use Rattle.cx_rules.specs.Fronts.{Front, keys_behind, secure_next, taking}
use Rattle.cx_rules.specs.Holdings.{MonClient}
use Rattle.cx_rules.specs.Inputs.{Turn, Tick}
use Rattle.cx_rules.specs.Links.{Link}
use Rattle.cx_rules.specs.Messages.{Message, body_as, message_in}
use Rattle.cx_rules.specs.Payloads.{payload}
use Rattle.cx_rules.specs.Requests.{Requests, body_taken, first_open, message_taken, on_open, on_reply, request_message, rotating_taken, sealed_request, sends_request, taken, takes, unless_unsealed, waiting_taken}
use Rattle.cx_rules.specs.Rows.{Arrival, Handles, Outcome, Row, Turned, arrival, at, carried_out, idles, lifted, turned_by, turns, with_opened}
use Rattle.cx_rules.specs.Secured.{Keys, SealedFrame, Secured, sealed_under, secure_frame, under}
use Rattle.cx_rules.specs.Upkeep.{on_keepalive, on_keepalive_ack}
use Rattle.cx_rules.specs.declared.messages.Body.TheVariants.{Spelled}
use Rattle.cx_rules.specs.declared.requests.Taken.{Taken}
use Rattle.cx_rules.specs.declared.requests.Taken.TheVariants.{Refuses, Views}
use Rattle.cx_rules.specs.declared.requests.Waiting.{Waiting}
use Rattle.cx_rules.specs.declared.requests.Want.TheVariants.{Rotating}
use Rattle.cx_rules_session.specs.Asks.{with_book}
use Rattle.cx_rules_session.specs.Complete.{HasOpenLink, IsBehind, IsFetchDue, IsFetched, IsFetchReply, SaysAndStays, sealed_bytes}
use Rattle.cx_rules_session.specs.DaemonRule.{Daemon, DaemonNode, DaemonStage, AsConnector, DaemonState, asking_open, book_after, book_reply, daemon_step, fetches, fetches_on, is_fetching, me, open_to_ask, state_behind, ticks, turn, with_mon_client}
use Rattle.cx_rules_session.specs.Kinds.{of_kind, turn_of_kind}
use Rattle.cx_rules_session.proofs.Sealable.{frame-sealed, short-request}
use Rattle.cx_rules_session.proofs.Serving.{unequal}

-- ---- a fetch that is due

outdated : (reading : ℕ) (generations : List Generation) → IsBehind reading generations → is_none (current_at reading generations) ≡ true
outdated reading [] h = refl
outdated reading (first ∷ []) h = absurd h
outdated reading (first ∷ second ∷ []) h = absurd h
outdated reading (first ∷ second ∷ third ∷ []) h =
    let by_test : Bool → Bool = λ lives. is_none (if lives then Some second else None) in ap by_test (le-ltb reading second.expires h)
outdated reading (first ∷ second ∷ third ∷ fourth ∷ more) h = absurd h

-- at a tick
fetched-at : (d : DaemonState) (reading : ℕ) (draw : List ℕ) → IsFetchDue d reading → ticks d.node reading draw ≡ fetches_on d.node reading draw (first_open asking_open d.node.links)
fetched-at d reading draw due =
    let by_age : Bool → Outcome DaemonNode = λ old. if old then fetches d.node reading draw else idles d.node in
    let by_way : Bool → Outcome DaemonNode = λ under_way. if under_way then idles d.node else fetches_on d.node reading draw (first_open asking_open d.node.links) in
    ap by_age (outdated reading d.node.own.mon_client.view.generations due.behind) ∙ ap by_way due.none

pub asks_for_link : (handlers : Handlers) (d : DaemonState) (reading : ℕ) (draw : List ℕ) → IsFetchDue d reading → first_open asking_open d.node.links ≡ None
    → ((daemon_step handlers d Tick reading draw).out.opens ≡ Monitor ∷ []) × (is_fetching (daemon_step handlers d Tick reading draw).state.node ≡ true)
asks_for_link handlers d reading draw due none =
    let found : Option (Link DaemonStage × (Secured × Requests)) → Outcome DaemonNode = λ o. fetches_on d.node reading draw o in
    subst (λ (o : Outcome DaemonNode). (o.out.opens ≡ Monitor ∷ []) × (is_fetching o.state ≡ true)) (sym (fetched-at d reading draw due ∙ ap found none)) (refl, refl)

pub asks_again : (handlers : Handlers) (d : DaemonState) (reading : ℕ) (draw : List ℕ) (link : Link DaemonStage) (s : Secured) (requests : Requests) → IsFetchDue d reading
    → HasOpenLink d link s requests
    → SaysAndStays link.number (sealed_bytes s.keys (request_message (requests.count + 1) asked.Rotating)) [] (daemon_step handlers d Tick reading draw).out
asks_again handlers d reading draw link s requests due has =
    let f : Frame = request_message (requests.count + 1) asked.Rotating in
    let a : Arrival MonClient DaemonStage = arrival (me d.node.own) d.node.own.mon_client link reading draw in
    let found : Option (Link DaemonStage × (Secured × Requests)) → Outcome DaemonNode = λ o. fetches_on d.node reading draw o in
    let carried : Result SealedFrame Reason → Outcome DaemonNode = λ r.
    carried_out d.node link.number false (lifted (with_mon_client d.node.own) (sends_request open_to_ask a s requests (Rotating reading) r))
    in
    let by_count : Bool → Result SealedFrame Reason = λ spent. if spent then Err reason.Spent else unless_unsealed (secure_frame s.keys f) in
    let sealing : sealed_request s.keys requests asked.Rotating ≡ Ok (sealed_under s.keys f) =
    ap by_count (unequal requests.count (2 ^ 64 - 1) has.numbered) ∙ ap unless_unsealed (frame-sealed s.keys f has.counters (short-request (requests.count + 1)))
    in
    subst (λ (o : Outcome DaemonNode). SaysAndStays link.number (sealed_bytes s.keys f) [] o.out) (sym (fetched-at d reading draw due ∙ ap found has.open_ ∙ ap carried sealing))
    (record { says = record { sends = refl; entered = refl }; shuts = refl })

-- ---- the reply

told : (secret : List ℕ) (requests : Requests) (f : Frame) (message : Message) (sealed : List ℕ) (later : List Waiting) (reading : ℕ) (reply : RotatingReply) → message_in f ≡ Ok message
    → message.header.type_ ≡ 18 → body_as reply_layout.form message.body ≡ Spelled (given.Rotating sealed)
    → requests.waiting ≡ record { tid = message.header.tid; want = Rotating reading } ∷ later → (unlocked rotating_reply_layout.form Principal secret sealed).value ≡ Some reply
    → taken secret requests f ≡ Views reading reply.generations (unlocked rotating_reply_layout.form Principal secret sealed).seals
told secret requests f message sealed later reading reply reads type_ body waits opens =
    let tid : ℕ = message.header.tid in
    let by_type : ℕ → Taken = λ t. if t == 18 then body_taken secret requests tid (body_as reply_layout.form message.body) else Refuses (reason.Bytes (Unexpected 17)) [] in
    let waiting : List Waiting → Taken = λ ws. waiting_taken secret requests.session ws tid (given.Rotating sealed) in
    let opened : Unlocked RotatingReply = unlocked rotating_reply_layout.form Principal secret sealed in
    let by_tid : Bool → Taken = λ same. if same then rotating_taken reading opened.seals opened.value else Refuses reason.BadReply [] in
    ap (message_taken secret requests) reads ∙ ap by_type type_ ∙ ap (body_taken secret requests tid) body ∙ ap waiting waits ∙ ap by_tid (eq-eqb tid tid refl)
    ∙ ap (rotating_taken reading opened.seals) opens

pub fetches_once : (handlers : Handlers) (d : DaemonState) (reading : ℕ) (draw : List ℕ) (link : Link connector.Stage) (s : Secured) (requests : Requests) (asked : ℕ) (reply : RotatingReply)
    → IsFetchReply d link s requests asked reply → IsFetched d asked reply.generations (daemon_step handlers d (Turn link.number) reading draw)
fetches_once handlers d reading draw link s requests asked reply due =
    let stage : connector.Stage = connector.Open s requests in
    let k : Link connector.Stage = record link { stage = stage } in
    let node : DaemonNode = d.node in
    let f : Frame = due.frame in
    let keys : Keys = keys_behind s.keys f in
    let a : Arrival Daemon DaemonStage = arrival (me node.own) node.own (of_kind AsConnector k) reading draw in
    let b : Arrival MonClient connector.Stage = arrival (me node.own) node.own.mon_client k reading draw in
    let c : Arrival MonClient connector.Stage = at b (taking k due.stands.size) in
    let t : Secured = under s keys in
    let opened : List SealEntry = due.stands.opened in
    let Holds : Outcome DaemonNode → Type 0 = λ o.
    IsFetched d asked reply.generations (state_behind (Turn link.number) (o, d.book))
    in
    let Turns : Turned MonClient connector.Stage → Type 0 = λ u. Holds (turns node a (turn_of_kind (with_mon_client node.own) AsConnector u)) in
    let Front_is : Front (Link connector.Stage × Frame × Keys) → Type 0 = λ front.
    Turns (turned_by (λ (l, g, behind) seals. with_opened seals (on_open connector.Open (at b l) (under s behind) requests g)) front)
    in
    let Row_is : Row MonClient connector.Stage → Type 0 = λ row. Turns (Handles (with_opened opened row)) in
    let by_tag : ℕ → Row MonClient connector.Stage = λ n.
    if n == 18 then on_keepalive c t (λ behind. connector.Open behind requests) (payload keepalive2_layout.form f)
    else if n == 19 then on_keepalive_ack c t (λ behind. connector.Open behind requests) (payload keepalive2_ack_layout.form f)
    else on_reply connector.Open c t requests f
    in
    let seals : List SealEntry = (unlocked rotating_reply_layout.form Principal node.own.mon_client.secret due.sealed).seals in
    let is_row : on_open connector.Open c t requests f ≡ takes connector.Open c t requests (Views asked reply.generations seals) =
    ap by_tag due.tag
    ∙ ap (takes connector.Open c t requests) (told node.own.mon_client.secret requests f due.message due.sealed due.later asked reply due.reads due.type_ due.body due.waits due.opens)
    in
    let row : Row_is (takes connector.Open c t requests (Views asked reply.generations seals)) = record { entered = refl; view = refl; shuts = refl } in
    let front : Front_is (secure_next s.keys k) = subst Front_is (sym due.stands.next) (subst Row_is (sym is_row) row) in
    subst (λ (found : Option (Link DaemonStage)). IsFetched d asked reply.generations (state_behind (Turn link.number) (with_book book_reply book_after d.book (turn handlers node reading draw found))))
    (sym due.own) front
