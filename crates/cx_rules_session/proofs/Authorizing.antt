-- An authorizer that passes is answered.
use Rattle.std.proofs.Common.{◌≡◌, ℕ, ◌==◌, ◌+◌, ◌≤◌, ◌++◌, Bool, true, List, [], ◌∷◌, length, take, Option, Some, None, Result, Ok, Err, refl, sym, ap, subst, ◌∙◌, arith}
use Rattle.std.specs.Prelude.{not, if◌then◌else◌}
use Rattle.std.specs.List.{list_any}
use Rattle.cx_authorize.specs.Daemon.{Awaited}
use Rattle.cx_authorize.specs.Agreement.{IsWelcome}
use Rattle.cx_authorize.specs.Judging.{first_terms, judged, judged_first, judged_second, second_terms}
use Rattle.cx_authorize.proofs.Agreeing.{accepted}
use Rattle.cx_authorize.proofs.Chain.{the_verdict}
use Rattle.cx_session.specs.cx_base.specs.declared.kinds.EntityType.{EntityType}
use Rattle.cx_rules.specs.cx_rotate.specs.declared.views.View.{View}
use Rattle.cx_authorize.specs.declared.refusals.AuthRefusal.{AuthRefusal}
use Rattle.cx_authorize.specs.cx_cbc.specs.Envelope.{sealed}
use Rattle.cx_authorize.specs.cx_control.specs.Auth.{auth_done_layout, auth_reply_more_layout, auth_request_layout, auth_request_more_layout, auth_signature_layout}
use Rattle.cx_authorize.specs.cx_control.specs.declared.auth.AuthRequest.{AuthRequest}
use Rattle.cx_authorize.specs.cx_control.specs.declared.auth.AuthRequestMore.{AuthRequestMore}
use Rattle.cx_desk.specs.Handlers.{Handlers}
use Rattle.cx_rules.specs.cx_dice.specs.Draws.{challenge_of, connection_of}
use Rattle.cx_rules.specs.cx_digest.specs.Code.{hmac}
use Rattle.cx_authorize.specs.cx_enc.specs.Forms.{little}
use Rattle.cx_authorize.specs.cx_enc.specs.Values.{sized_form}
use Rattle.cx_rules.specs.cx_frame.specs.Frames.{frame_text, total}
use Rattle.cx_rules.specs.cx_frame.specs.declared.frame.Frame.{Frame}
use Rattle.cx_authorize.specs.cx_journal.specs.declared.entries.Entry.{Entry}
use Rattle.cx_authorize.specs.cx_journal.specs.declared.faults.BytesFault.{BytesFault}
use Rattle.cx_authorize.specs.cx_journal.specs.declared.faults.LoginFault.TheVariants.{Method, Mode}
use Rattle.cx_authorize.specs.cx_sealed.specs.declared.service_ticket.ServiceTicket.{ServiceTicket}
use Rattle.cx_rules.specs.cx_steps.specs.declared.seals.DrawMark.TheVariants as mark
use Rattle.cx_rules.specs.cx_steps.specs.declared.seals.SealEntry.{SealEntry}
use Rattle.cx_rules.specs.cx_steps.specs.declared.seals.SealEntry.TheVariants.{Drawn}
use Rattle.cx_authorize.specs.cx_wire.specs.Logins as payload
use Rattle.cx_rules.specs.Acceptor.{AwaitsProof, AwaitsRequest, Finished, denies, finished, joined, on_auth_request}
use Rattle.cx_rules.specs.Fronts.{Front, plain_next, taking}
use Rattle.cx_rules.specs.Inputs.{Turn}
use Rattle.cx_rules.specs.Holdings.{MonClient}
use Rattle.cx_rules.specs.Links.{Link}
use Rattle.cx_rules.specs.Payloads.{due}
use Rattle.cx_rules.specs.Rows.{Arrival, Handles, Outcome as Stepped, Turned, arrival, at, goes_on, piece, turned_by, unless_refused}
use Rattle.cx_rules.specs.Secured.{Keys, SealedFrame, acceptor_keys, sealed_under, secure_frame, signature, signing}
use Rattle.cx_rules_session.specs.Asks.{asks_map}
use Rattle.cx_rules_session.specs.Complete.{IsFirstPassed, IsGood, IsSecondPassed, SaysAndStays, covered_bytes, incoming_arrival, in_incoming_stage, judged_by, sealed_bytes, signature_frame}
use Rattle.cx_rules_session.specs.DaemonRule.{Daemon, DaemonNode, DaemonStage, AsAcceptor, DaemonState, daemon_step, hosts, me, turn}
use Rattle.cx_rules_session.specs.Envelopes.{authorize_challenge_content, authorize_reply_content, session_sealed}
use Rattle.cx_rules_session.specs.IncomingLinks as incoming
use Rattle.cx_rules_session.specs.IncomingLinks.{IncomingArrival, IncomingRow, IncomingStage, authority_of, authorized_frame, sealed_challenge_frame, challenges, done_sent, looked_entry, on_auth_request_more, on_first, unless_turned_away}
use Rattle.cx_rules_session.specs.Hosting.{Deciding, no_session_moves}
use Rattle.cx_rules_session.specs.Kinds.{entered_before, of_kind}
use Rattle.cx_rules.proofs.Sizes.{length-code, length-sealed, plain-sent}
use Rattle.cx_rules_session.proofs.Lengths.{counts-from-0, length-connection}
use Rattle.cx_rules_session.proofs.Sealable.{frame-sealed}
use Rattle.cx_rules.proofs.Carrying.{total-control}
use Rattle.cx_rules_session.proofs.Serving.{Steps}

-- ---- frames

short-challenge : (session : List ℕ) (challenge : ℕ) → total (sealed_challenge_frame session challenge) ≤ 65536
unfolding little
short-challenge session challenge =
    let bytes : List ℕ = sealed session (authorize_challenge_content challenge) in
    let shown : List ℕ = payload.authorize_challenge_layout.form.text (record { sealed = bytes }) in
    let content : length (authorize_challenge_content challenge) ≡ 9 = refl in
    omega (arith, total-control 4 auth_reply_more_layout.form (record { payload = shown }), length-sealed session (authorize_challenge_content challenge), content)

length-reply : (nonce : ℕ) (secret : List ℕ) → length (authorize_reply_content nonce secret) ≡ 13 + length secret
unfolding little sized_form
length-reply nonce secret = omega arith

short-done : (ticket : ServiceTicket) (nonce : ℕ) (draw : List ℕ) → total (authorized_frame ticket nonce (connection_of draw)) ≤ 65536
unfolding little
short-done ticket nonce draw =
    let content : List ℕ = authorize_reply_content nonce (connection_of draw) in
    let bytes : List ℕ = sealed ticket.session content in
    let shown : List ℕ = payload.authorize_reply_layout.form.text (record { sealed = bytes }) in
    omega (
      arith,
      total-control 6 auth_done_layout.form (record { gid = ticket.gid; mode = 2; payload = shown }),
      length-sealed ticket.session content,
      length-reply nonce (connection_of draw),
      length-connection draw,
    )

short-signature : (session received : List ℕ) → total (signature_frame session received) ≤ 1048576
short-signature session received =
    omega (arith, total-control 7 auth_signature_layout.form (record { signature = hmac session received }), length-code session received)

-- ---- what passes

passes-on : {X Y : Type 0} (a : IncomingArrival) (opened : List SealEntry) (part : X → Y) (value : Result X AuthRefusal) (shown : Y) (next : Y → IncomingRow) → judged_by part value ≡ Ok shown
    → unless_turned_away a opened value (λ x. next (part x)) ≡ next shown
passes-on {X} {Y} a opened part (Ok x) shown next passes =
    let or_shown : Result Y AuthRefusal → Y = λ r. either r in ap (λ r. next (or_shown r)) passes
  where
    either : Result Y AuthRefusal → Y
    either (Ok y) = y
    either (Err why) = shown
passes-on a opened part (Err why) shown next passes = absurd cc

-- ---- the first authorizer

request-read : (a : IncomingArrival) (f : Frame) (request : AuthRequest) → due 2 auth_request_layout.form f ≡ Ok request → request.method ≡ 2
    → list_any (λ mode. mode == 2) request.modes ≡ true → on_auth_request on_first a (due 2 auth_request_layout.form f) ≡ on_first a request.payload
request-read a f request reads method secure =
    let by_method : ℕ → IncomingRow = λ m.
    if not (m == 2) then denies a 95 Method [] else if not (list_any (λ mode. mode == 2) request.modes) then denies a 95 Mode [] else on_first a request.payload
    in
    let by_mode : Bool → IncomingRow = λ s. if not s then denies a 95 Mode [] else on_first a request.payload in
    ap (on_auth_request on_first a) reads ∙ ap by_method method ∙ ap by_mode secure

pub welcomes : (handlers : Handlers) (d : DaemonState) (reading : ℕ) (draw : List ℕ) (link : Link IncomingStage) (ticket : ServiceTicket) → IsFirstPassed d link reading ticket
    → SaysAndStays link.number (frame_text (sealed_challenge_frame ticket.session (challenge_of draw))) (looked_entry (incoming_arrival d link AwaitsRequest reading draw) ∷ [])
    (daemon_step handlers d (Turn link.number) reading draw).out
welcomes handlers d reading draw link ticket passed =
    let k : Link IncomingStage = in_incoming_stage link AwaitsRequest in
    let node : DaemonNode = d.node in
    let a : Arrival Daemon DaemonStage = arrival (me node.own) node.own (of_kind AsAcceptor k) reading draw in
    let b : IncomingArrival = incoming_arrival d link AwaitsRequest reading draw in
    let f : Frame = passed.frame in
    let c : IncomingArrival = at b (taking k passed.stands.size) in
    let challenge : ℕ = challenge_of draw in
    let g : Frame = sealed_challenge_frame ticket.session challenge in
    let looked : Entry = looked_entry b in
    let Holds : Stepped DaemonState → Type 0 = λ o. SaysAndStays link.number (frame_text g) (looked ∷ []) o.out in
    let Turns : Turned MonClient IncomingStage → Type 0 = λ u. Steps d link Holds (asks_map (hosts node a) (no_session_moves u)) in
    let Row_is : IncomingRow → Type 0 = λ row. Turns (Handles row) in
    let Front_is : Front (Link IncomingStage × Frame) → Type 0 = λ front. Turns (turned_by (λ (l, h) _. on_auth_request on_first (at b l) (due 2 auth_request_layout.form h)) front) in
    let judged = judged_first node.own.mon_client.name.kind node.own.mon_client.view reading passed.request.payload in
    let before : List SealEntry = judged.seals ++ Drawn (mark.Challenge challenge) ∷ [] in
    let held : List SealEntry = session_sealed ticket.session (authorize_challenge_content challenge) ∷ [] in
    let sent_by : Result (List ℕ) BytesFault → IncomingRow = λ r.
    entered_before looked (unless_refused c before r (λ bytes. goes_on c (AwaitsProof (record { service = node.own.mon_client.name.kind; challenge = challenge })) bytes (before ++ held)))
    in
    let next : ServiceTicket → IncomingRow = λ t. challenges c judged.seals t in
    let is_row : on_auth_request on_first c (due 2 auth_request_layout.form f) ≡ sent_by (Ok (frame_text g)) =
    request-read c f passed.request passed.reads passed.method passed.secure
    ∙ ap (λ row. entered_before looked row) (passes-on c judged.seals (λ shown. shown.ticket) judged.value ticket next passed.passes)
    ∙ ap sent_by (plain-sent g (short-challenge ticket.session challenge))
    in
    let sent : Row_is (sent_by (Ok (frame_text g))) = record { says = record { sends = refl; entered = refl }; shuts = refl } in
    let front : Front_is (plain_next k) = subst Front_is (sym passed.stands.next) (subst Row_is (sym is_row) sent) in
    let found : Option (Link DaemonStage) → Deciding (Stepped DaemonNode) = λ l. turn handlers node reading draw l in
    subst (Steps d link Holds) (sym (ap found passed.incoming)) front

-- ---- the second authorizer

-- AUTH_DONE and AUTH_SIGNATURE, whose counter begins at 0
both-sent : (link : Link IncomingStage) (ticket : ServiceTicket) (nonce : ℕ) (draw : List ℕ) → length draw ≡ 384
    → (done : Finished) × (finished link ticket.session (connection_of draw) (authorized_frame ticket nonce (connection_of draw)) ≡ Ok done)
    × (done.bytes ≡ frame_text (authorized_frame ticket nonce (connection_of draw))
    ++ sealed_bytes (acceptor_keys (connection_of draw)) (signature_frame ticket.session (take link.taken link.received)))
both-sent link ticket nonce draw size =
    let secret : List ℕ = connection_of draw in
    let session : List ℕ = ticket.session in
    let received : List ℕ = take link.taken link.received in
    let f : Frame = authorized_frame ticket nonce secret in
    let g : Frame = signature_frame session received in
    let keys : Keys = acceptor_keys secret in
    let signed : SealedFrame = sealed_under keys g in
    let by_plain : Result (List ℕ) BytesFault → Result Finished BytesFault = λ r. joined session link.sent r (signing session received (secure_frame keys g)) in
    let by_sealed : Result SealedFrame BytesFault → Result Finished BytesFault = λ r. joined session link.sent (Ok (frame_text f)) (signing session received r) in (
      record {
        bytes = frame_text f ++ signed.bytes;
        seals = signature session received ∷ signed.seals;
        secured = record { keys = signed.keys; session = session; covered = link.sent ++ frame_text f };
      },
      ap by_plain (plain-sent f (short-done ticket nonce draw)) ∙ ap by_sealed (frame-sealed keys g (omega (arith, counts-from-0 draw size)) (short-signature session received)),
      refl,
    )

pub authorizes : (handlers : Handlers) (d : DaemonState) (reading : ℕ) (draw : List ℕ) (link : Link IncomingStage) (awaited : Awaited) (ticket : ServiceTicket) (nonce : ℕ)
    → (passed : IsSecondPassed d link awaited reading ticket nonce) → length draw ≡ 384
    → SaysAndStays link.number
    (frame_text (authorized_frame ticket nonce (connection_of draw))
    ++ sealed_bytes (acceptor_keys (connection_of draw)) (signature_frame ticket.session (covered_bytes link passed.stands.size)))
    (looked_entry (incoming_arrival d link (AwaitsProof awaited) reading draw) ∷ []) (daemon_step handlers d (Turn link.number) reading draw).out
authorizes handlers d reading draw link awaited ticket nonce passed size =
    let k : Link IncomingStage = in_incoming_stage link (AwaitsProof awaited) in
    let node : DaemonNode = d.node in
    let a : Arrival Daemon DaemonStage = arrival (me node.own) node.own (of_kind AsAcceptor k) reading draw in
    let b : IncomingArrival = incoming_arrival d link (AwaitsProof awaited) reading draw in
    let f : Frame = passed.frame in
    let n : ℕ = passed.stands.size in
    let c : IncomingArrival = at b (taking k n) in
    let secret : List ℕ = connection_of draw in
    let looked : Entry = looked_entry b in
    let bytes : List ℕ = frame_text (authorized_frame ticket nonce secret) ++ sealed_bytes (acceptor_keys secret) (signature_frame ticket.session (covered_bytes link n)) in
    let Holds : Stepped DaemonState → Type 0 = λ o. SaysAndStays link.number bytes (looked ∷ []) o.out in
    let Turns : Turned MonClient IncomingStage → Type 0 = λ u. Steps d link Holds (asks_map (hosts node a) (no_session_moves u)) in
    let Row_is : IncomingRow → Type 0 = λ row. Turns (Handles row) in
    let Front_is : Front (Link IncomingStage × Frame) → Type 0 = λ front. Turns (turned_by (λ (l, h) _. on_auth_request_more (at b l) awaited (due 5 auth_request_more_layout.form h)) front) in
    let judged = judged_second awaited node.own.mon_client.view reading passed.more.payload in
    let before : List SealEntry = judged.seals ++ Drawn (mark.Connection secret ticket.name) ∷ [] in
    let held : List SealEntry = session_sealed ticket.session (authorize_reply_content nonce secret) ∷ [] in
    let sent_by : Result Finished BytesFault → IncomingRow = λ r. entered_before looked (done_sent c before held (authority_of c ticket) r) in
    let next : ServiceTicket × ℕ → IncomingRow = λ (t, m). incoming.authorizes c judged.seals t m in
    let both = both-sent (taking k n) ticket nonce draw size in
    let read : Result AuthRequestMore BytesFault → IncomingRow = λ r. on_auth_request_more c awaited r in
    let is_row : on_auth_request_more c awaited (due 5 auth_request_more_layout.form f) ≡ sent_by (Ok both.0) =
    ap read passed.reads
    ∙ ap (λ row. entered_before looked row) (passes-on {Y = ServiceTicket × ℕ} c judged.seals (λ shown. (shown.ticket, shown.authorize.nonce)) judged.value (ticket, nonce) next passed.passes)
    ∙ ap sent_by both.1
    in
    let sent : Row_is (sent_by (Ok both.0)) = record { says = record { sends = ap (piece link.number) both.2; entered = refl }; shuts = refl } in
    let front : Front_is (plain_next k) = subst Front_is (sym passed.stands.next) (subst Row_is (sym is_row) sent) in
    let found : Option (Link DaemonStage) → Deciding (Stepped DaemonNode) = λ l. turn handlers node reading draw l in
    subst (Steps d link Holds) (sym (ap found passed.incoming)) front

-- ---- a good ticket passes

pub passes_first : (kind : EntityType) (view : View) (reading : ℕ) (ticket : ServiceTicket) (nonce : ℕ) (bytes : List ℕ) → IsGood kind view reading None ticket nonce bytes
    → judged_by (λ shown. shown.ticket) (judged_first kind view reading bytes).value ≡ Ok ticket
passes_first kind view reading ticket nonce bytes good =
    let terms = first_terms kind view reading in
    let value = (judged terms bytes).value in
    let is = (the_verdict terms bytes value good.octets good.blocks).1 refl in
    let welcome : IsWelcome good.held ticket good.key terms = record { served = good.served; known = good.known; live = good.live } in
    ap (λ r. judged_by (λ shown. shown.ticket) r) (accepted good.held ticket good.key terms nonce bytes value good.holds welcome good.shown is)

pub passes_second : (awaited : Awaited) (view : View) (reading : ℕ) (ticket : ServiceTicket) (nonce : ℕ) (bytes : List ℕ)
    → IsGood awaited.service view reading (Some awaited.challenge) ticket nonce bytes
    → judged_by {Y = ServiceTicket × ℕ} (λ shown. (shown.ticket, shown.authorize.nonce)) (judged_second awaited view reading bytes).value ≡ Ok (ticket, nonce)
passes_second awaited view reading ticket nonce bytes good =
    let terms = second_terms awaited view reading in
    let value = (judged terms bytes).value in
    let is = (the_verdict terms bytes value good.octets good.blocks).1 refl in
    let welcome : IsWelcome good.held ticket good.key terms = record { served = good.served; known = good.known; live = good.live } in
    ap (λ r. judged_by {Y = ServiceTicket × ℕ} (λ shown. (shown.ticket, shown.authorize.nonce)) r) (accepted good.held ticket good.key terms nonce bytes value good.holds welcome good.shown is)
