-- What a daemon seals and signs at a turn of an incoming link, whatever its book replies, has nothing to do with logins: it is under the session key of a ticket for its
-- own service, or under the key of that very link.
use Rattle.cx_laws_run.specs.cx_authorize.specs.Daemon.{Authority, Awaited}
use Rattle.cx_laws_run.specs.cx_authorize.specs.Judging.{judged_first, judged_second}
use Rattle.cx_laws_run.specs.cx_authorize.specs.declared.refusals.AuthRefusal.TheVariants as refusal
use Rattle.cx_laws_run.specs.cx_authorize.specs.declared.refusals.AuthRefusal.{AuthRefusal}
use Rattle.cx_base.specs.Names.{Name, is_daemon_type}
use Rattle.cx_base.specs.declared.nodes.NodeName.{NodeName}
use Rattle.cx_control.specs.Auth.{auth_request_layout, auth_request_more_layout, auth_signature_layout}
use Rattle.cx_control.specs.Hello.{hello_layout}
use Rattle.cx_control.specs.declared.auth.AuthRequest.{AuthRequest}
use Rattle.cx_control.specs.declared.auth.AuthRequestMore.{AuthRequestMore}
use Rattle.cx_control.specs.declared.hello.Hello.{Hello}
use Rattle.cx_desk.specs.Handlers.{Handlers}
use Rattle.cx_dice.specs.Draws.{challenge_of, connection_of}
use Rattle.cx_frame.specs.Banners.{banner_at}
use Rattle.cx_frame.specs.declared.banner.Banner.{Banner}
use Rattle.cx_frame.specs.declared.frame.Frame.{Frame}
use Rattle.cx_frame.specs.declared.refusals.BannerRefusal.{BannerRefusal}
use Rattle.cx_frame.specs.declared.refusals.FrameRefusal.{FrameRefusal}
use Rattle.cx_journal.specs.declared.entries.Entry.{Entry}
use Rattle.cx_journal.specs.declared.faults.BytesFault.{BytesFault}
use Rattle.cx_journal.specs.declared.faults.LoginFault.TheVariants.{Method, Mode}
use Rattle.cx_laws_run.specs.cx_laws_tickets.proofs.authorize.Backing.{opened-issued}
use Rattle.cx_laws_run.specs.cx_laws_tickets.proofs.authorize.Keys.{HostKeys, LinkKeys, StageKeys}
use Rattle.cx_laws_run.specs.cx_laws_tickets.proofs.authorize.Opened.{IsOpening, ShowsTicket, first-all, first-opened, second-all, second-opened}
use Rattle.cx_laws_run.proofs.cover.Elsewhere.{ArePutElsewhere, IsPutElsewhere, IsUsedElsewhere, opened-elsewhere, parts-elsewhere}
use Rattle.cx_laws_run.proofs.cover.IncomingElsewhere.{PutsTurned, StaysPut, ident-puts, open-puts, openings-elsewhere, session-elsewhere, signature-puts}
use Rattle.cx_laws_run.specs.cx_laws_keys.proofs.keys.Known.{Inv}
use Rattle.cx_laws_run.specs.cx_laws_keys.proofs.keys.Lists.{all-append}
use Rattle.cx_laws_run.specs.cx_laws_keys.proofs.keys.Premises.{AreGranted, granted-first}
use Rattle.cx_laws_run.specs.cx_laws_keys.proofs.keys.Uses.{AreGenerated, AtDaemon, Connected, Grows, Uses, WholeRun, session_use}
use Rattle.cx_laws_run.specs.cx_laws_keys.proofs.series.Frames.{frame-sealed}
use Rattle.cx_laws_run.specs.cx_rules.specs.Acceptor.{AwaitsBanner, AwaitsHello, AwaitsRequest, AwaitsProof, AwaitsSignature, AwaitsIdent, Open, Finished, denies, finished, joined, on_auth_request, on_banner, on_hello, on_signature}
use Rattle.cx_laws_run.specs.cx_rules.specs.Fronts.{ahead_of, banner_read, keys_behind, opened_parts, plain_read, sealed_ahead, secure_read, taking}
use Rattle.cx_laws_run.specs.cx_rules.specs.Greetings.{own_hello}
use Rattle.cx_laws_run.specs.cx_rules.specs.Holdings.{MonClient}
use Rattle.cx_laws_run.specs.cx_rules.specs.Links.{Link}
use Rattle.cx_laws_run.specs.cx_rules.specs.Payloads.{due}
use Rattle.cx_laws_run.specs.cx_rules.specs.Rows.{Turned, Waits, Refuses, Handles, at, goes_on, plain_sent, turned_by, unless_refused, with_opened}
use Rattle.cx_laws_run.specs.cx_rules.specs.Secured.{Keys, SealedFrame, Secured, acceptor_keys, plain_frame, secure_frame, signing, under}
use Rattle.cx_laws_run.specs.cx_rules_session.specs.Complete.{judged_by}
use Rattle.cx_laws_run.specs.cx_rules_session.specs.Envelopes.{authorize_challenge_content, authorize_reply_content, session_sealed}
use Rattle.cx_laws_run.specs.cx_rules_session.specs.IncomingLinks.{IncomingArrival, IncomingRow, IncomingStage, authority_of, authorized_frame, authorizes, challenges, done_sent, on_auth_request_more, on_first, sealed_challenge_frame, turns_away, unless_turned_away}
use Rattle.cx_laws_run.specs.cx_rules_session.specs.Hosting.{Deciding, Hosted, decided_by, incoming_turned, hosted_behind, no_session_moves, on_ident, on_open, turned_behind}
use Rattle.cx_laws_run.specs.cx_run.proofs.Always.{Always, always-map, always-weaker}
use Rattle.cx_laws_run.specs.cx_sealed.specs.declared.service_ticket.ServiceTicket.{ServiceTicket}
use Rattle.cx_secure.specs.Plains.{plains}
use Rattle.cx_secure.specs.declared.refusals.SecureRefusal.{SecureRefusal}
use Rattle.cx_steps.specs.declared.seals.DrawMark.TheVariants as draw
use Rattle.cx_steps.specs.declared.seals.Logged.{Logged}
use Rattle.cx_steps.specs.declared.seals.SealEntry.TheVariants as seal
use Rattle.cx_steps.specs.declared.seals.SealEntry.{SealEntry}
use Rattle.cx_laws_run.specs.cx_stream.specs.PlainStreams.{plain_frame_at}
use Rattle.cx_laws_run.specs.cx_stream.specs.SecureStreams.{secure_frame_at}
use Rattle.std.proofs.Common.{◌≡◌, ◌==◌, ℕ, Bool, true, false, List, [], ◌∷◌, ◌++◌, take, Option, Some, None, Result, Ok, Err, inl, inr, ◌⊎◌, refl, sym, ap, subst}
use Rattle.std.specs.List.{AllByRecursion, list_any}
use Rattle.std.specs.Prelude.{not, if◌then◌else◌}

-- ---- until authentication

module _ (run : WholeRun) (whole : List Logged) (n : NodeName) (line : ℕ) (us vs : Uses) (log : List Logged) (J : List Entry) (i : Inv run whole us log J) (f : Grows us vs) where
  abbrev Granted : List SealEntry → Type 0
  Granted es = AreGranted run.leaked whole n line log es

  -- a row, where what it logs is granted, and the key of its link is known behind it
  abbrev pub RowPuts : IncomingRow → Type 0
  RowPuts row = AreGranted run.leaked whole n line log row.seals → LinkKeys vs n row.link → ArePutElsewhere vs row.seals

  abbrev pub TurnedPuts : Turned MonClient IncomingStage → Type 0
  TurnedPuts Waits = Unit {0}
  TurnedPuts (Refuses why opened) = ArePutElsewhere vs opened
  TurnedPuts (Handles row) = RowPuts row

  -- whatever is known of the link behind it; or where no session moves, and the key of the link is known behind it
  abbrev pub HostedPuts : Hosted → Type 0
  HostedPuts hosted = PutsTurned vs hosted.turned ⊎ ((hosted.moved ≡ None) × TurnedPuts hosted.turned)

  module _ (b : IncomingArrival) (of : is_daemon_type b.own.name.kind ≡ true) (generated : AreGenerated us b.own.name.kind b.own.view.generations) where
    -- the session key of a ticket that opened
    ticket-used : (ticket : ServiceTicket) (opened : List SealEntry) → Granted opened → ShowsTicket b.own.view ticket opened → IsUsedElsewhere vs ticket.session
    ticket-used ticket opened g shown =
        let means = (opened-issued run whole n line us log J b.own.name.kind b.own.view ticket opened i generated g shown).1 in
        (session_use ticket.name b.own.name.kind, f.means ticket.session (session_use ticket.name b.own.name.kind) means, session-elsewhere ticket.name b.own.name.kind of)

    banner-puts : RowPuts (on_banner b.own.name.kind b)
    banner-puts = by_sent (plain_frame (own_hello b.own.name.kind))
      where
        by_sent : (r : Result (List ℕ) BytesFault) → RowPuts (plain_sent b AwaitsHello [] r)
        by_sent (Ok bytes) = λ g keys. tt
        by_sent (Err why) = λ g keys. tt

    hello-puts : (read : Result Hello BytesFault) → RowPuts (on_hello b read)
    hello-puts (Ok hello) = λ g keys. tt
    hello-puts (Err why) = λ g keys. tt

    -- one that is turned away
    away-puts : (opened : List SealEntry) (why : AuthRefusal) → ArePutElsewhere vs opened → RowPuts (turns_away b opened why)
    away-puts opened (refusal.Malformed place) h = λ g keys. h
    away-puts opened (refusal.WrongService kept got) h = λ g keys. h
    away-puts opened (refusal.Ticket why blob) h = λ g keys. h
    away-puts opened refusal.OutOfMemory h = λ g keys. h

    judged-puts : {X : Type 0} (opened : List SealEntry) (value : Result X AuthRefusal) (part : X → ServiceTicket) (next : X → IncomingRow) → AllByRecursion IsOpening opened
        → ((ticket : ServiceTicket) → judged_by part value ≡ Ok ticket → ShowsTicket b.own.view ticket opened) → ((x : X) → ShowsTicket b.own.view (part x) opened → RowPuts (next x))
        → RowPuts (unless_turned_away b opened value next)
    judged-puts opened (Ok x) part next all shows each = each x (shows (part x) refl)
    judged-puts opened (Err why) part next all shows each = away-puts opened why (openings-elsewhere vs opened all)

    -- ---- the first authorizer

    challenges-puts : (opened : List SealEntry) (ticket : ServiceTicket) → AllByRecursion IsOpening opened → ShowsTicket b.own.view ticket opened → RowPuts (challenges b opened ticket)
    challenges-puts opened ticket all shown = by_sent (plain_frame (sealed_challenge_frame ticket.session (challenge_of b.draw)))
      where
        before-puts : ArePutElsewhere vs (opened ++ seal.Drawn (draw.Challenge (challenge_of b.draw)) ∷ [])
        before-puts = all-append (IsPutElsewhere vs) opened (seal.Drawn (draw.Challenge (challenge_of b.draw)) ∷ []) (openings-elsewhere vs opened all) (tt, tt)

        by_sent : (r : Result (List ℕ) BytesFault) → RowPuts (unless_refused b (opened ++ seal.Drawn (draw.Challenge (challenge_of b.draw)) ∷ []) r
            (λ bytes. goes_on b (AwaitsProof (record { service = b.own.name.kind; challenge = challenge_of b.draw })) bytes
            ((opened ++ seal.Drawn (draw.Challenge (challenge_of b.draw)) ∷ []) ++ session_sealed ticket.session (authorize_challenge_content (challenge_of b.draw)) ∷ [])))
        by_sent (Ok bytes) = λ g keys.
            let first = granted-first run.leaked whole n line log opened (seal.Drawn (draw.Challenge (challenge_of b.draw)) ∷ [])
            (granted-first run.leaked whole n line log (opened ++ seal.Drawn (draw.Challenge (challenge_of b.draw)) ∷ []) (session_sealed ticket.session (authorize_challenge_content (challenge_of b.draw)) ∷ []) g) in
            all-append (IsPutElsewhere vs) (opened ++ seal.Drawn (draw.Challenge (challenge_of b.draw)) ∷ []) (session_sealed ticket.session (authorize_challenge_content (challenge_of b.draw)) ∷ [])
            before-puts (ticket-used ticket opened first shown, tt)
        by_sent (Err why) = λ g keys. before-puts

    first-puts : (bytes : List ℕ) → RowPuts (on_first b bytes)
    first-puts bytes =
        let j = judged_first b.own.name.kind b.own.view b.reading bytes in
        let all = first-all b.own.name.kind b.own.view b.reading bytes in
        judged-puts j.seals j.value (λ shown. shown.ticket) (λ shown. challenges b j.seals shown.ticket) all (first-opened b.own.name.kind b.own.view b.reading bytes)
        (λ shown shows. challenges-puts j.seals shown.ticket all shows)

    request-puts : (request : Result AuthRequest BytesFault) → RowPuts (on_auth_request on_first b request)
    request-puts (Err why) = λ g keys. tt
    request-puts (Ok request) = by_tests (not (request.method == 2)) (not (list_any (λ mode. mode == 2) request.modes))
      where
        by_tests : (other plain : Bool) → RowPuts (if other then denies b 95 Method [] else if plain then denies b 95 Mode [] else on_first b request.payload)
        by_tests true plain = λ g keys. tt
        by_tests false true = λ g keys. tt
        by_tests false false = first-puts request.payload

    -- ---- the second authorizer

    -- the key of an incoming link is no key of a link to the monitor
    host-used : (number : ℕ) (keys : Keys) (name : Name) → HostKeys vs n number keys name → IsUsedElsewhere vs keys.key
    host-used number keys name h = (Connected n number name (AtDaemon h.service h.tie), h.means, tt)

    module _ (opened : List SealEntry) (ticket : ServiceTicket) (nonce : ℕ) (all : AllByRecursion IsOpening opened) (shown : ShowsTicket b.own.view ticket opened) where
      abbrev secret : List ℕ
      secret = connection_of b.draw

      abbrev before : List SealEntry
      before = opened ++ seal.Drawn (draw.Connection secret ticket.name) ∷ []

      abbrev held : List SealEntry
      held = session_sealed ticket.session (authorize_reply_content nonce secret) ∷ []

      before-put : ArePutElsewhere vs before
      before-put = all-append (IsPutElsewhere vs) opened (seal.Drawn (draw.Connection secret ticket.name) ∷ []) (openings-elsewhere vs opened all) (tt, tt)

      -- what is signed and sealed last, where the keys of the ticket and of the link are elsewhere
      abbrev FinishedPuts : Result Finished BytesFault → Type 0
      FinishedPuts (Ok done) = IsUsedElsewhere vs ticket.session → IsUsedElsewhere vs done.secured.keys.key → ArePutElsewhere vs done.seals
      FinishedPuts (Err why) = Unit {0}

      joined-puts : (keys : Keys) (received sent : List ℕ) (made : Result (List ℕ) BytesFault) (g : Frame) (r : Result SealedFrame BytesFault) → secure_frame keys g ≡ r
          → FinishedPuts (joined ticket.session sent made (signing ticket.session received r))
      joined-puts keys received sent (Err why) g r is = tt
      joined-puts keys received sent (Ok bytes) g (Err why) is = tt
      joined-puts keys received sent (Ok bytes) g (Ok sealed) is = λ session linked.
          let made_so = frame-sealed keys g sealed is in (
            session,
            subst (ArePutElsewhere vs) (sym (ap (λ (x : SealedFrame). x.seals) made_so.0))
                (parts-elsewhere vs keys.key keys.out.fixed keys.out.counter (plains g) (subst (IsUsedElsewhere vs) (ap (λ (x : SealedFrame). x.keys.key) made_so.0) linked)),
          )

      done-puts : (r : Result Finished BytesFault) → FinishedPuts r → RowPuts (done_sent b before held (authority_of b ticket) r)
      done-puts (Err why) fin = λ g keys. before-put
      done-puts (Ok done) fin = λ g keys.
          let first = granted-first run.leaked whole n line log opened (seal.Drawn (draw.Connection secret ticket.name) ∷ [])
          (granted-first run.leaked whole n line log before (held ++ done.seals) g) in
          let session : IsUsedElsewhere vs ticket.session = ticket-used ticket opened first shown in
          all-append (IsPutElsewhere vs) before (held ++ done.seals) before-put
          (all-append (IsPutElsewhere vs) held done.seals (session, tt) (fin session (host-used b.link.number done.secured.keys ticket.name keys)))

      authorizes-puts : RowPuts (authorizes b opened ticket nonce)
      authorizes-puts =
          done-puts (finished b.link ticket.session secret (authorized_frame ticket nonce secret))
          (joined-puts (acceptor_keys secret) (take b.link.taken b.link.received) b.link.sent (plain_frame (authorized_frame ticket nonce secret)) _ (secure_frame (acceptor_keys secret) _) refl)

    more-puts : (awaited : Awaited) (more : Result AuthRequestMore BytesFault) → RowPuts (on_auth_request_more b awaited more)
    more-puts awaited (Err why) = λ g keys. tt
    more-puts awaited (Ok more) =
        let j = judged_second awaited b.own.view b.reading more.payload in
        let all = second-all awaited b.own.view b.reading more.payload in
        judged-puts j.seals j.value (λ shown. shown.ticket) (λ shown. authorizes b j.seals shown.ticket shown.authorize.nonce) all (second-opened awaited b.own.view b.reading more.payload)
        (λ shown shows. authorizes-puts j.seals shown.ticket shown.authorize.nonce all shows)

  -- ---- a turn

  module _ (a : IncomingArrival) (of : is_daemon_type a.own.name.kind ≡ true) (generated : AreGenerated us a.own.name.kind a.own.view.generations) where
    abbrev Puts_ : Deciding Hosted → Type 0
    Puts_ d = Always HostedPuts d

    banner-turn : (r : Result (Option (Banner × ℕ)) BannerRefusal) → Puts_ (no_session_moves (turned_by (λ link _. on_banner a.own.name.kind (at a link)) (banner_read a.link r)))
    banner-turn (Ok None) = inr (refl, tt)
    banner-turn (Ok (Some (x, m))) = inr (refl, banner-puts (at a (taking a.link m)) of generated)
    banner-turn (Err e) = inr (refl, tt)

    hello-turn : (r : Result (Option (Frame × ℕ)) FrameRefusal) → Puts_ (no_session_moves (turned_by (λ (link, x) _. on_hello (at a link) (due 1 hello_layout.form x)) (plain_read a.link r)))
    hello-turn (Ok None) = inr (refl, tt)
    hello-turn (Ok (Some (x, m))) = inr (refl, hello-puts (at a (taking a.link m)) of generated (due 1 hello_layout.form x))
    hello-turn (Err e) = inr (refl, tt)

    request-turn : (r : Result (Option (Frame × ℕ)) FrameRefusal)
        → Puts_ (no_session_moves (turned_by (λ (link, x) _. on_auth_request on_first (at a link) (due 2 auth_request_layout.form x)) (plain_read a.link r)))
    request-turn (Ok None) = inr (refl, tt)
    request-turn (Ok (Some (x, m))) = inr (refl, request-puts (at a (taking a.link m)) of generated (due 2 auth_request_layout.form x))
    request-turn (Err e) = inr (refl, tt)

    more-turn : (awaited : Awaited) (r : Result (Option (Frame × ℕ)) FrameRefusal)
        → Puts_ (no_session_moves (turned_by (λ (link, x) _. on_auth_request_more (at a link) awaited (due 5 auth_request_more_layout.form x)) (plain_read a.link r)))
    more-turn awaited (Ok None) = inr (refl, tt)
    more-turn awaited (Ok (Some (x, m))) = inr (refl, more-puts (at a (taking a.link m)) of generated awaited (due 5 auth_request_more_layout.form x))
    more-turn awaited (Err e) = inr (refl, tt)

    -- behind what opened
    hosted-puts : (opened : List SealEntry) → ArePutElsewhere vs opened → (hosted : Hosted) → PutsTurned vs hosted.turned → HostedPuts (hosted_behind opened hosted)
    hosted-puts opened first hosted h = inl (by_turned hosted.turned h)
      where
        by_turned : (turned : Turned MonClient IncomingStage) → PutsTurned vs turned → PutsTurned vs (turned_behind opened turned)
        by_turned Waits h = tt
        by_turned (Refuses why broken) h = h
        by_turned (Handles row) h = all-append (IsPutElsewhere vs) opened row.seals first h

    signature-turn : (s : Secured) (owner : Authority) (opened : List SealEntry) (r : Result (Option (Frame × ℕ)) SecureRefusal) → IsUsedElsewhere vs s.keys.key → ArePutElsewhere vs opened
        → Puts_ (no_session_moves (turned_by (λ (link, x, keys) before. with_opened before (on_signature (at a link) (under s keys) owner (due 7 auth_signature_layout.form x)))
        (secure_read s.keys a.link opened r)))
    signature-turn s owner opened (Ok None) used first = inl tt
    signature-turn s owner opened (Ok (Some (x, m))) used first =
        let row : IncomingRow = on_signature (at a (taking a.link m)) (under s (keys_behind s.keys x)) owner (due 7 auth_signature_layout.form x) in
        inl (all-append (IsPutElsewhere vs) opened row.seals first (signature-puts vs (at a (taking a.link m)) (under s (keys_behind s.keys x)) used owner (due 7 auth_signature_layout.form x)))
    signature-turn s owner opened (Err e) used first = inl first

    decided-turn : (s : Secured) (opened : List SealEntry) (rule : Link IncomingStage → Frame → Keys → Deciding Hosted) → ((x : Frame) (m : ℕ) → StaysPut vs (rule (taking a.link m) x (keys_behind s.keys x)))
        → ArePutElsewhere vs opened → (r : Result (Option (Frame × ℕ)) SecureRefusal) → Puts_ (decided_by (λ (link, x, keys). rule link x keys) (secure_read s.keys a.link opened r))
    decided-turn s opened rule each first (Ok None) = inl tt
    decided-turn s opened rule each first (Ok (Some (x, m))) =
        let decided : Deciding Hosted = rule (taking a.link m) x (keys_behind s.keys x) in
        always-map HostedPuts (hosted_behind opened) decided
        (always-weaker (λ (h : Hosted). PutsTurned vs h.turned) (λ (h : Hosted). HostedPuts (hosted_behind opened h)) (hosted-puts opened first) decided (each x m))
    decided-turn s opened rule each first (Err e) = inl first

    pub incoming-puts : (handlers : Handlers) (stage : IncomingStage) → StageKeys vs n a.link.number stage → Always HostedPuts (incoming_turned handlers a stage)
    incoming-puts handlers AwaitsBanner st = banner-turn (banner_at (ahead_of a.link))
    incoming-puts handlers AwaitsHello st = hello-turn (plain_frame_at (ahead_of a.link))
    incoming-puts handlers AwaitsRequest st = request-turn (plain_frame_at (ahead_of a.link))
    incoming-puts handlers (AwaitsProof awaited) st = more-turn awaited (plain_frame_at (ahead_of a.link))
    incoming-puts handlers (AwaitsSignature s owner) st =
        signature-turn s owner (opened_parts (sealed_ahead s.keys a.link)) (secure_frame_at (sealed_ahead s.keys a.link)) (host-used a of generated a.link.number s.keys owner.ticket.name st)
        (opened-elsewhere vs (sealed_ahead s.keys a.link))
    incoming-puts handlers (AwaitsIdent s owner) st =
        decided-turn s (opened_parts (sealed_ahead s.keys a.link)) (λ link x keys. on_ident (at a link) (under s keys) owner x)
        (λ x m. ident-puts vs (at a (taking a.link m)) (under s (keys_behind s.keys x)) (host-used a of generated a.link.number s.keys owner.ticket.name st) owner x)
        (opened-elsewhere vs (sealed_ahead s.keys a.link)) (secure_frame_at (sealed_ahead s.keys a.link))
    incoming-puts handlers (Open s served) st =
        decided-turn s (opened_parts (sealed_ahead s.keys a.link)) (λ link x keys. on_open handlers (at a link) (under s keys) served x)
        (λ x m. open-puts vs (at a (taking a.link m)) (under s (keys_behind s.keys x)) (host-used a of generated a.link.number s.keys st.0 st.1) handlers served x)
        (opened-elsewhere vs (sealed_ahead s.keys a.link)) (secure_frame_at (sealed_ahead s.keys a.link))
