-- What a client sends, wherever it is due, and that it holds a login.
use Rattle.std.proofs.Common.{◌≡◌, ℕ, ◌+◌, ◌-◌, ◌^◌, ◌==◌, ◌<◌, Bool, false, List, [], ◌∷◌, length, Option, Some, None, Result, Ok, Err, refl, sym, ap, subst, ◌∙◌}
use Rattle.std.specs.Prelude.{if◌then◌else◌}
use Rattle.std.proofs.lemmas.Bool.{lt-leb}
use Rattle.cx_session.specs.cx_base.specs.Names.{Name}
use Rattle.cx_session.specs.cx_base.specs.declared.operations.Operation.{Operation}
use Rattle.cx_authorize.specs.cx_control.specs.Auth.{auth_signature_layout}
use Rattle.cx_authorize.specs.cx_control.specs.declared.auth.AuthSignature.{AuthSignature}
use Rattle.cx_rules.specs.cx_dice.specs.Draws.{cookie_of}
use Rattle.cx_rules.specs.cx_frame.specs.declared.frame.Frame.{Frame}
use Rattle.cx_authorize.specs.cx_journal.specs.declared.entries.Entry.{Entry}
use Rattle.cx_authorize.specs.cx_journal.specs.declared.faults.BytesFault.{BytesFault}
use Rattle.cx_authorize.specs.cx_journal.specs.declared.faults.LoginFault.TheVariants.{SignatureWrong}
use Rattle.cx_authorize.specs.cx_journal.specs.declared.outcomes.Reason.TheVariants as reason
use Rattle.cx_session.specs.Queue.{Queue, push_reply, pushed}
use Rattle.cx_session.specs.declared.outbox.QueueFault.{QueueFault}
use Rattle.cx_session.specs.declared.outbox.QueueFault.TheVariants as queue
use Rattle.cx_rules.specs.cx_steps.specs.declared.events.Command.TheVariants.{Send}
use Rattle.cx_rules.specs.cx_steps.specs.declared.seals.DrawMark.TheVariants as draw
use Rattle.cx_rules.specs.cx_steps.specs.declared.seals.SealEntry.{SealEntry}
use Rattle.cx_rules.specs.cx_steps.specs.declared.seals.SealEntry.TheVariants.{Drawn}
use Rattle.cx_rules.specs.Connector as connector
use Rattle.cx_rules.specs.Connector.{Login, client_ident, holding, identifies}
use Rattle.cx_rules.specs.Fronts.{Front, keys_behind, secure_next, taking}
use Rattle.cx_rules.specs.Holdings.{MonClient, held_login}
use Rattle.cx_rules.specs.Inputs.{Submit, Turn}
use Rattle.cx_rules.specs.Links.{Link}
use Rattle.cx_rules.specs.Payloads.{due}
use Rattle.cx_rules.specs.Rows.{Arrival, Handles, Outcome, Row, Turned, arrival, at, carried_out, refuses, secure_sent, turned_by, turns, with_opened}
use Rattle.cx_rules.specs.Secured.{Keys, SealedFrame, Secured, secure_frame, signature_found, under}
use Rattle.cx_rules_session.specs.ClientRule.{ClientStage, ToMonitor, ToDaemon, WholeClient, WholeClientNode, first_call, having_session, me, pushes, sends_in, sends_on, sent_entry, turn, whole_client_rule, with_mon_client}
use Rattle.cx_rules_session.specs.Complete.{EntersFirst, HasOpenCall, IsSendable, IsSizedOperation, IsSigned, SaysAndStays, sealed_bytes}
use Rattle.cx_rules_session.specs.Kinds.{entered_before, of_kind, turn_of_kind}
use Rattle.cx_rules_session.specs.Presenter as call
use Rattle.cx_rules_session.specs.Sessions.{Callee, HeldSession, operation_message}
use Rattle.cx_rules_session.proofs.Sealable.{frame-sealed, short-operation}
use Rattle.cx_rules_session.proofs.Serving.{unequal}

-- ---- Send

pushed-reply : (q : Queue) → length q.waiting < 1024 → q.last < 2 ^ 64 - 1 → push_reply q ≡ Ok (q.last + 1)
pushed-reply q few numbered =
    let by_count : Bool → Result ℕ QueueFault = λ full. if full then Err (queue.QueueFull 1024) else (if q.last == 2 ^ 64 - 1 then Err queue.Spent else Ok (q.last + 1)) in
    let by_last : Bool → Result ℕ QueueFault = λ spent. if spent then Err queue.Spent else Ok (q.last + 1) in
    ap by_count (lt-leb 1024 (length q.waiting) few) ∙ ap by_last (unequal q.last (2 ^ 64 - 1) numbered)

-- the operation waits in its session, and goes out on the link that is open
sent-on : (c : WholeClientNode) (daemon : Name) (operation : Operation) (session : HeldSession) (reading : ℕ) (draw : List ℕ) → IsSendable c daemon session
    → whole_client_rule c (Submit (Send daemon operation)) reading draw
    ≡ sends_on (having_session c (record session { queue = pushed session.queue operation })) (sent_entry c.own session (session.queue.last + 1) operation)
    (session.queue.last + 1, operation) reading draw (first_call session.daemon c.links)
sent-on c daemon operation session reading draw due =
    let in_session : Option HeldSession → Outcome WholeClientNode = λ s. sends_in c operation reading draw s in
    let pushing : Result ℕ QueueFault → Outcome WholeClientNode = λ r. pushes c session operation reading draw r in
    ap in_session due.held ∙ ap pushing (pushed-reply session.queue due.few due.numbered)

pub sends : (c : WholeClientNode) (daemon : Name) (operation : Operation) (session : HeldSession) (link : Link ClientStage) (s : Secured) (callee : Callee) (cookie reading : ℕ) (draw : List ℕ)
    → IsSendable c daemon session → IsSizedOperation operation → HasOpenCall c session link s callee cookie
    → SaysAndStays link.number (sealed_bytes s.keys (operation_message (session.queue.last + 1, operation))) (sent_entry c.own session (session.queue.last + 1) operation ∷ [])
    (whole_client_rule c (Submit (Send daemon operation)) reading draw).out
sends c daemon operation session link s callee cookie reading draw due short has =
    let seq : ℕ = session.queue.last + 1 in
    let f : Frame = operation_message (seq, operation) in
    let sent : Entry = sent_entry c.own session seq operation in
    let behind : WholeClientNode = having_session c (record session { queue = pushed session.queue operation }) in
    let on_link : Option (Link ClientStage × (Secured × (Callee × ℕ))) → Outcome WholeClientNode = λ found. sends_on behind sent (seq, operation) reading draw found in
    let carried : Result SealedFrame BytesFault → Outcome WholeClientNode = λ r.
    carried_out behind link.number false (entered_before sent (secure_sent (arrival (me behind.own) behind.own link reading draw) s (λ t. ToDaemon (call.Open t callee cookie)) [] r))
    in
    subst (λ (o : Outcome WholeClientNode). SaysAndStays link.number (sealed_bytes s.keys f) (sent ∷ []) o.out)
    (sym (sent-on c daemon operation session reading draw due ∙ ap on_link has.open_ ∙ ap carried (frame-sealed s.keys f has.counters (short-operation seq operation short))))
    (record { says = record { sends = refl; entered = refl }; shuts = refl })

-- it is entered as sent first of all, whether or not a link is open, and the message can be sealed
sent-first : (c : WholeClientNode) (sent : Entry) (ask : ℕ × Operation) (reading : ℕ) (draw : List ℕ) (found : Option (Link ClientStage × (Secured × (Callee × ℕ))))
    → EntersFirst sent (sends_on c sent ask reading draw found).out
sent-first c sent ask reading draw None = ([], refl)
sent-first c sent ask reading draw (Some (link, (s, (callee, cookie)))) = by_sealing (secure_frame s.keys (operation_message ask))
  where
    by_sealing : (r : Result SealedFrame BytesFault)
        → EntersFirst sent (carried_out c link.number false
        (entered_before sent (secure_sent (arrival (me c.own) c.own link reading draw) s (λ t. ToDaemon (call.Open t callee cookie)) [] r))).out
    by_sealing (Ok sealed) = ([], refl)
    by_sealing (Err why) = (_, refl)

pub sends_first : (c : WholeClientNode) (daemon : Name) (operation : Operation) (session : HeldSession) (reading : ℕ) (draw : List ℕ) → IsSendable c daemon session
    → EntersFirst (sent_entry c.own session (session.queue.last + 1) operation) (whole_client_rule c (Submit (Send daemon operation)) reading draw).out
sends_first c daemon operation session reading draw due =
    let sent : Entry = sent_entry c.own session (session.queue.last + 1) operation in
    let behind : WholeClientNode = having_session c (record session { queue = pushed session.queue operation }) in
    subst (λ (o : Outcome WholeClientNode). EntersFirst sent o.out) (sym (sent-on c daemon operation session reading draw due))
    (sent-first behind sent (session.queue.last + 1, operation) reading draw (first_call session.daemon c.links))

-- ---- a login that is held

-- behind a right signature, whether or not CLIENT_IDENT can be sealed
held-by : (a : connector.MonClientArrival) (s : Secured) (login : Login) (r : Result SealedFrame BytesFault)
    → (let b = holding a (held_login a.own.holdings login.gid login.opened) in
    let cookie = cookie_of a.draw in
    let row : Row MonClient connector.Stage = secure_sent b s (λ behind. connector.AwaitsIdent behind login.opened.auth.session) (signature_found s ∷ Drawn (draw.Cookie cookie) ∷ []) r in
    row.own.holdings ≡ held_login a.own.holdings login.gid login.opened)
held-by a s login (Ok sealed) = refl
held-by a s login (Err why) = refl

pub holds : (c : WholeClientNode) (link : Link connector.Stage) (s : Secured) (login : Login) (reading : ℕ) (draw : List ℕ) → IsSigned c link s login
    → (whole_client_rule c (Turn link.number) reading draw).state.own.mon_client.holdings ≡ held_login c.own.mon_client.holdings login.gid login.opened
holds c link s login reading draw signed =
    let stage : connector.Stage = connector.AwaitsSignature s login in
    let k : Link connector.Stage = record link { stage = stage } in
    let f : Frame = signed.frame in
    let keys : Keys = keys_behind s.keys f in
    let a : Arrival WholeClient ClientStage = arrival (me c.own) c.own (of_kind ToMonitor k) reading draw in
    let b : connector.MonClientArrival = arrival (me c.own) c.own.mon_client k reading draw in
    let e : connector.MonClientArrival = at b (taking k signed.stands.size) in
    let t : Secured = under s keys in
    let opened : List SealEntry = signed.stands.opened in
    let held = held_login c.own.mon_client.holdings login.gid login.opened in
    let Turns : Turned MonClient connector.Stage → Type 0 = λ u. (turns c a (turn_of_kind (with_mon_client c.own) ToMonitor u)).state.own.mon_client.holdings ≡ held in
    let Front_is : Front (Link connector.Stage × Frame × Keys) → Type 0 = λ front.
    Turns (turned_by (λ (l, g, behind) seals. with_opened seals (connector.on_signature (at b l) (under s behind) login (due 7 auth_signature_layout.form g))) front)
    in
    let Row_is : Row MonClient connector.Stage → Type 0 = λ row. Turns (Handles (with_opened opened row)) in
    let by_read : Result AuthSignature BytesFault → Row MonClient connector.Stage = λ r. connector.on_signature e t login r in
    let by_test : Bool → Row MonClient connector.Stage = λ right. if right then identifies e t login else refuses e (reason.Login SignatureWrong) [] in
    let row : Row_is (identifies e t login) =
    held-by e t login (secure_frame t.keys (client_ident e.own login.gid 1 (cookie_of draw)))
    in
    let front : Front_is (secure_next s.keys k) = subst Front_is (sym signed.stands.next) (subst Row_is (sym (ap by_read signed.reads ∙ ap by_test signed.right)) row) in
    subst (λ (found : Option (Link ClientStage)). (turn c reading draw found).state.own.mon_client.holdings ≡ held) (sym signed.own) front
