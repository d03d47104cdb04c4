-- What each stage of an incoming link says of what was read on it until the daemon signs: all that was taken is a banner and these frames; and what a turn until then
-- signs are bytes in which the daemon heard an authorizer for its own service.
use Rattle.std.proofs.Common.{◌≡◌, ℕ, ◌+◌, ◌==◌, Bool, true, false, List, [], ◌∷◌, ◌++◌, drop, Option, Some, None, Result, Ok, Err, refl, sym, ◌∙◌, subst, arith}
use Rattle.std.specs.Prelude.{if◌then◌else◌, not}
use Rattle.std.specs.List.{list_any}
use Rattle.cx_laws_links.specs.cx_authorize.specs.Daemon.{Awaited}
use Rattle.cx_laws_links.specs.cx_authorize.specs.Judging.{judged_first, judged_second}
use Rattle.cx_laws_links.specs.cx_authorize.specs.declared.judging.Shown.{Shown}
use Rattle.cx_laws_links.specs.cx_authorize.specs.declared.refusals.AuthRefusal.{AuthRefusal}
use Rattle.cx_laws_links.specs.cx_authorize.specs.declared.refusals.AuthRefusal.TheVariants as refusal
use Rattle.cx_base.specs.declared.kinds.EntityType.{EntityType}
use Rattle.cx_control.specs.Auth.{auth_request_layout, auth_request_more_layout}
use Rattle.cx_control.specs.Hello.{hello_layout}
use Rattle.cx_control.specs.declared.auth.AuthRequest.{AuthRequest}
use Rattle.cx_control.specs.declared.auth.AuthRequestMore.{AuthRequestMore}
use Rattle.cx_control.specs.declared.hello.Hello.{Hello}
use Rattle.cx_desk.specs.Handlers.{Handlers}
use Rattle.cx_dice.specs.Draws.{challenge_of, connection_of}
use Rattle.cx_enc.specs.Forms.{Form}
use Rattle.cx_frame.specs.Banners.{banner_at}
use Rattle.cx_frame.specs.declared.banner.Banner.{Banner}
use Rattle.cx_frame.specs.declared.frame.Frame.{Frame}
use Rattle.cx_frame.specs.declared.refusals.BannerRefusal.{BannerRefusal}
use Rattle.cx_frame.specs.declared.refusals.FrameRefusal.{FrameRefusal}
use Rattle.cx_journal.specs.declared.faults.BytesFault.{BytesFault}
use Rattle.cx_journal.specs.declared.faults.BytesFault.TheVariants.{Unexpected}
use Rattle.cx_journal.specs.declared.faults.LoginFault.TheVariants.{Method, Mode}
use Rattle.cx_laws_tickets.proofs.authorize.Opened.{first-all}
use Rattle.cx_laws_tickets.proofs.fetch.Banners.{IsRead, read-banner, read-frame, read-grows}
use Rattle.cx_laws_links.specs.cx_laws_keys.proofs.keys.Lists.{all-append}
use Rattle.cx_laws_links.specs.cx_rules.specs.Acceptor.{AwaitsBanner, AwaitsHello, AwaitsRequest, AwaitsProof, AwaitsSignature, AwaitsIdent, Open, Finished, denies, finished, on_auth_request, on_banner, on_hello}
use Rattle.cx_laws_links.specs.cx_rules.specs.Fronts.{ahead_of, banner_next, banner_read, plain_next, plain_read, taking}
use Rattle.cx_laws_links.specs.cx_rules.specs.Greetings.{own_hello}
use Rattle.cx_laws_links.specs.cx_rules.specs.Holdings.{MonClient}
use Rattle.cx_laws_links.specs.cx_rules.specs.Links.{Link}
use Rattle.cx_laws_links.specs.cx_rules.specs.Payloads.{due, payload}
use Rattle.cx_laws_links.specs.cx_rules.specs.Rows.{Turned, Waits, Refuses, Handles, at, goes_on, plain_sent, refuses_bytes, turned_by, unless_refused}
use Rattle.cx_laws_links.specs.cx_rules.specs.Secured.{plain_frame}
use Rattle.cx_laws_links.specs.cx_rules_session.specs.Envelopes.{authorize_challenge_content, authorize_reply_content, session_sealed}
use Rattle.cx_laws_links.specs.cx_rules_session.specs.IncomingLinks.{IncomingArrival, IncomingRow, IncomingStage, authority_of, authorized_frame, authorizes, challenges, done_sent, looked_entry, on_auth_request_more, on_first, on_second, sealed_challenge_frame, turns_away, unless_turned_away}
use Rattle.cx_laws_links.specs.cx_rules_session.specs.Hosting.{Hosted, incoming_turned}
use Rattle.cx_laws_links.specs.cx_rules_session.specs.Kinds.{entered_before}
use Rattle.cx_laws_links.specs.cx_run.proofs.Always.{Always}
use Rattle.cx_laws_links.specs.cx_sealed.specs.declared.service_ticket.ServiceTicket.{ServiceTicket}
use Rattle.cx_steps.specs.declared.seals.DrawMark.TheVariants as draw
use Rattle.cx_steps.specs.declared.seals.SealEntry.{SealEntry}
use Rattle.cx_steps.specs.declared.seals.SealEntry.TheVariants as entry
use Rattle.cx_laws_links.specs.cx_stream.specs.PlainStreams.{plain_frame_at}
use Rattle.cx_laws_links.proofs.answers.IncomingFirst.{IsEarly}
use Rattle.cx_laws_links.proofs.answers.IncomingHeard.{Signs, SignsHeard, opening-signs, second-signs}

-- all that was taken so far
abbrev pub IncomingRead : EntityType → List ℕ → ℕ → IncomingStage → Type 0
IncomingRead kind received taken AwaitsBanner = taken ≡ 0
IncomingRead kind received taken AwaitsHello = IsRead received [] taken
IncomingRead kind received taken AwaitsRequest = (hello : Frame) × IsRead received (hello ∷ []) taken
IncomingRead kind received taken (AwaitsProof awaited) = (hello : Frame) × (first : Frame) × IsRead received (hello ∷ first ∷ []) taken × (awaited.service ≡ kind)
IncomingRead kind received taken _ = Unit {0}

-- what was read stays read, whatever comes
pub incoming_read-grows : (kind : EntityType) (received more : List ℕ) (taken : ℕ) (stage : IncomingStage) → IncomingRead kind received taken stage → IncomingRead kind (received ++ more) taken stage
incoming_read-grows kind received more taken AwaitsBanner h = h
incoming_read-grows kind received more taken AwaitsHello h = read-grows received more [] taken h
incoming_read-grows kind received more taken AwaitsRequest h = (h.0, read-grows received more (h.0 ∷ []) taken h.1)
incoming_read-grows kind received more taken (AwaitsProof awaited) h = (h.0, h.1, read-grows received more (h.0 ∷ h.1 ∷ []) taken h.2, h.3)
incoming_read-grows kind received more taken (AwaitsSignature s owner) h = tt
incoming_read-grows kind received more taken (AwaitsIdent s owner) h = tt
incoming_read-grows kind received more taken (Open s served) h = tt

due-payload : {X : Type 0} (tag : ℕ) (form : Form X) (f : Frame) (x : X) → due tag form f ≡ Ok x → payload form f ≡ Ok x
due-payload {X} tag form f x is = by_test (f.tag == tag) is
  where
    by_test : (t : Bool) → (let r : Result X BytesFault = (if t then payload form f else Err (Unexpected f.tag)) in r ≡ Ok x) → payload form f ≡ Ok x
    by_test true read = read
    by_test false read = absurd cc

module _ (a : IncomingArrival) where
  abbrev kind : EntityType
  kind = a.own.name.kind

  -- what is so behind a row: the link that goes on has read what its stage says; and what is signed tells an authorizer for this service
  pub record RowReads (row : IncomingRow) : Type 0 where
    pub link : (link : Link IncomingStage) → row.link ≡ Some link → IncomingRead a.own.name.kind link.received link.taken link.stage
    pub signs : Signs a.own.name.kind row.seals

  shut-reads : (row : IncomingRow) → Signs a.own.name.kind row.seals → row.link ≡ None → RowReads row
  shut-reads row signs none = record { link = λ link is. none-there link (sym none ∙ is); signs = signs }
    where
      none-there : (link : Link IncomingStage) → (let o : Option (Link IncomingStage) = None in o ≡ Some link) → IncomingRead a.own.name.kind link.received link.taken link.stage
      none-there link e = absurd cc

  module _ (m : ℕ) where
    abbrev b : IncomingArrival
    b = at a (taking a.link m)

    goes-reads : (stage : IncomingStage) (bytes : List ℕ) (seals : List SealEntry) → IncomingRead a.own.name.kind a.link.received (a.link.taken + m) stage → Signs a.own.name.kind seals
        → RowReads (goes_on b stage bytes seals)
    goes-reads stage bytes seals read signs = record {
      link = λ link is.
          let it : record b.link { stage = stage } ≡ link = cc in
          subst (λ (l : Link IncomingStage). IncomingRead a.own.name.kind l.received l.taken l.stage) it read;
      signs = signs;
    }

    banner-reads : IsRead a.link.received [] (a.link.taken + m) → RowReads (on_banner a.own.name.kind b)
    banner-reads read = by_sent (plain_frame (own_hello a.own.name.kind))
      where
        by_sent : (r : Result (List ℕ) BytesFault) → RowReads (plain_sent b AwaitsHello [] r)
        by_sent (Ok bytes) = goes-reads AwaitsHello bytes [] read tt
        by_sent (Err why) = shut-reads (refuses_bytes b why []) tt refl

    hello-reads : (f : Frame) → IsRead a.link.received (f ∷ []) (a.link.taken + m) → (read : Result Hello BytesFault) → RowReads (on_hello b read)
    hello-reads f was (Ok hello) = goes-reads AwaitsRequest [] [] (f, was) tt
    hello-reads f was (Err why) = shut-reads (refuses_bytes b why []) tt refl

    first-reads : (hello f : Frame) → IsRead a.link.received (hello ∷ f ∷ []) (a.link.taken + m) → (bytes : List ℕ) → RowReads (on_first b bytes)
    first-reads hello f was bytes = by_value (judged_first a.own.name.kind a.own.view a.reading bytes).value
      where
        quiet : Signs a.own.name.kind (judged_first a.own.name.kind a.own.view a.reading bytes).seals
        quiet = opening-signs a.own.name.kind (judged_first a.own.name.kind a.own.view a.reading bytes).seals (first-all a.own.name.kind a.own.view a.reading bytes)

        before-signs : Signs a.own.name.kind ((judged_first a.own.name.kind a.own.view a.reading bytes).seals ++ entry.Drawn (draw.Challenge (challenge_of a.draw)) ∷ [])
        before-signs = all-append (SignsHeard a.own.name.kind) (judged_first a.own.name.kind a.own.view a.reading bytes).seals (entry.Drawn (draw.Challenge (challenge_of a.draw)) ∷ []) quiet (tt, tt)

        by_sent : (ticket : ServiceTicket) (r : Result (List ℕ) BytesFault) → RowReads (entered_before (looked_entry b)
            (unless_refused b ((judged_first a.own.name.kind a.own.view a.reading bytes).seals ++ entry.Drawn (draw.Challenge (challenge_of a.draw)) ∷ []) r
            (λ sent. goes_on b (AwaitsProof (record { service = a.own.name.kind; challenge = challenge_of a.draw })) sent
            (((judged_first a.own.name.kind a.own.view a.reading bytes).seals ++ entry.Drawn (draw.Challenge (challenge_of a.draw)) ∷ [])
            ++ session_sealed ticket.session (authorize_challenge_content (challenge_of a.draw)) ∷ []))))
        by_sent ticket (Err why) = record { link = λ link is. absurd cc; signs = before-signs }
        by_sent ticket (Ok sent) =
            let g = goes-reads (AwaitsProof (record { service = a.own.name.kind; challenge = challenge_of a.draw })) sent
            (((judged_first a.own.name.kind a.own.view a.reading bytes).seals ++ entry.Drawn (draw.Challenge (challenge_of a.draw)) ∷ [])
            ++ session_sealed ticket.session (authorize_challenge_content (challenge_of a.draw)) ∷ [])
            (hello, f, was, refl)
            (all-append (SignsHeard a.own.name.kind) ((judged_first a.own.name.kind a.own.view a.reading bytes).seals ++ entry.Drawn (draw.Challenge (challenge_of a.draw)) ∷ [])
            (session_sealed ticket.session (authorize_challenge_content (challenge_of a.draw)) ∷ []) before-signs (tt, tt)) in
            record { link = g.link; signs = g.signs }

        by_away : (why : AuthRefusal) → RowReads (entered_before (looked_entry b) (turns_away b (judged_first a.own.name.kind a.own.view a.reading bytes).seals why))
        by_away (refusal.Malformed place) = record { link = λ link is. absurd cc; signs = quiet }
        by_away (refusal.WrongService kept got) = record { link = λ link is. absurd cc; signs = quiet }
        by_away (refusal.Ticket why blob) = record { link = λ link is. absurd cc; signs = quiet }
        by_away refusal.OutOfMemory = record { link = λ link is. absurd cc; signs = quiet }

        by_value : (r : Result Shown AuthRefusal) → RowReads (entered_before (looked_entry b) (unless_turned_away b (judged_first a.own.name.kind a.own.view a.reading bytes).seals r
            (λ shown. challenges b (judged_first a.own.name.kind a.own.view a.reading bytes).seals shown.ticket)))
        by_value (Err why) = by_away why
        by_value (Ok shown) = by_sent shown.ticket (plain_frame (sealed_challenge_frame shown.ticket.session (challenge_of a.draw)))

    request-reads : (hello f : Frame) → IsRead a.link.received (hello ∷ f ∷ []) (a.link.taken + m) → (read : Result AuthRequest BytesFault) → RowReads (on_auth_request on_first b read)
    request-reads hello f was (Err why) = shut-reads (refuses_bytes b why []) tt refl
    request-reads hello f was (Ok request) = by_method (not (request.method == 2)) (not (list_any (λ mode. mode == 2) request.modes))
      where
        by_method : (other plain : Bool) → RowReads (if other then denies b 95 Method [] else if plain then denies b 95 Mode [] else on_first b request.payload)
        by_method true plain = shut-reads (denies b 95 Method []) tt refl
        by_method false true = shut-reads (denies b 95 Mode []) tt refl
        by_method false false = first-reads hello f was request.payload

    -- behind a second authorizer nothing more is said of what is read
    second-link : (awaited : Awaited) (bytes : List ℕ) (link : Link IncomingStage) → (on_second b awaited bytes).link ≡ Some link → IncomingRead a.own.name.kind link.received link.taken link.stage
    second-link awaited bytes link = by_value (judged_second awaited a.own.view a.reading bytes).value
      where
        by_done : (x : Shown) (r : Result Finished BytesFault)
            → (done_sent b ((judged_second awaited a.own.view a.reading bytes).seals ++ entry.Drawn (draw.Connection (connection_of a.draw) x.ticket.name) ∷ [])
            (session_sealed x.ticket.session (authorize_reply_content x.authorize.nonce (connection_of a.draw)) ∷ []) (authority_of b x.ticket) r).link ≡ Some link
            → IncomingRead a.own.name.kind link.received link.taken link.stage
        by_done x (Err why) is = absurd cc
        by_done x (Ok done) is =
            let it : record b.link { stage = AwaitsSignature done.secured (authority_of b x.ticket) } ≡ link = cc in
            subst (λ (l : Link IncomingStage). IncomingRead a.own.name.kind l.received l.taken l.stage) it tt

        by_away : (why : AuthRefusal) → (turns_away b (judged_second awaited a.own.view a.reading bytes).seals why).link ≡ Some link → IncomingRead a.own.name.kind link.received link.taken link.stage
        by_away (refusal.Malformed place) is = absurd cc
        by_away (refusal.WrongService kept got) is = absurd cc
        by_away (refusal.Ticket why blob) is = absurd cc
        by_away refusal.OutOfMemory is = absurd cc

        by_value : (r : Result Shown AuthRefusal) → (unless_turned_away b (judged_second awaited a.own.view a.reading bytes).seals r
            (λ shown. authorizes b (judged_second awaited a.own.view a.reading bytes).seals shown.ticket shown.authorize.nonce)).link ≡ Some link
            → IncomingRead a.own.name.kind link.received link.taken link.stage
        by_value (Err why) is = by_away why is
        by_value (Ok shown) is =
            by_done shown (finished b.link shown.ticket.session (connection_of a.draw) (authorized_frame shown.ticket shown.authorize.nonce (connection_of a.draw))) is

    more-reads : (awaited : Awaited) (hello first f : Frame) → awaited.service ≡ a.own.name.kind → IsRead a.link.received (hello ∷ first ∷ f ∷ []) (a.link.taken + m)
        → (read : Result AuthRequestMore BytesFault) → due 5 auth_request_more_layout.form f ≡ read → RowReads (on_auth_request_more b awaited read)
    more-reads awaited hello first f own was (Err why) is = shut-reads (refuses_bytes b why []) tt refl
    more-reads awaited hello first f own was (Ok more) is = record {
      link = λ link at. second-link awaited more.payload link at;
      signs = second-signs b a.own.name.kind awaited hello first f more own was (due-payload 5 auth_request_more_layout.form f more is);
    }

  -- ---- a turn

  abbrev pub EachReads : Turned MonClient IncomingStage → Type 0
  EachReads Waits = Unit {0}
  EachReads (Refuses why opened) = Signs a.own.name.kind opened
  EachReads (Handles row) = RowReads row

  banner-each : (row : Link IncomingStage → List SealEntry → IncomingRow) → ((x : Banner) (m : ℕ) → banner_at (ahead_of a.link) ≡ Ok (Some (x, m)) → RowReads (row (taking a.link m) []))
      → EachReads (turned_by row (banner_next a.link))
  banner-each row each = by_read (banner_at (ahead_of a.link)) refl
    where
      by_read : (r : Result (Option (Banner × ℕ)) BannerRefusal) → banner_at (ahead_of a.link) ≡ r → EachReads (turned_by row (banner_read a.link r))
      by_read (Ok None) e = tt
      by_read (Ok (Some (x, m))) e = each x m e
      by_read (Err why) e = tt

  plain-each : (row : Link IncomingStage × Frame → List SealEntry → IncomingRow) → ((f : Frame) (m : ℕ) → plain_frame_at (ahead_of a.link) ≡ Ok (Some (f, m)) → RowReads (row (taking a.link m, f) []))
      → EachReads (turned_by row (plain_next a.link))
  plain-each row each = by_read (plain_frame_at (ahead_of a.link)) refl
    where
      by_read : (r : Result (Option (Frame × ℕ)) FrameRefusal) → plain_frame_at (ahead_of a.link) ≡ r → EachReads (turned_by row (plain_read a.link r))
      by_read (Ok None) e = tt
      by_read (Ok (Some (f, m))) e = each f m e
      by_read (Err why) e = tt

  first-banner : (x : Banner) (m : ℕ) → a.link.taken ≡ 0 → banner_at (ahead_of a.link) ≡ Ok (Some (x, m)) → IsRead a.link.received [] (a.link.taken + m)
  first-banner x m none is =
      let all : a.link.taken + m ≡ m = omega (arith, none) in
      subst (λ (t : ℕ). IsRead a.link.received [] t) (sym all)
      (read-banner a.link.received x m (subst (λ (t : ℕ). banner_at (drop t a.link.received) ≡ Ok (Some (x, m))) none is))

  pub incoming-reads : (handlers : Handlers) (stage : IncomingStage) → IsEarly stage → IncomingRead a.own.name.kind a.link.received a.link.taken stage
      → Always (λ (hosted : Hosted). EachReads hosted.turned) (incoming_turned handlers a stage)
  incoming-reads handlers AwaitsBanner early h = banner-each (λ link _. on_banner a.own.name.kind (at a link)) (λ x m e. banner-reads m (first-banner x m h e))
  incoming-reads handlers AwaitsHello early h =
      plain-each (λ (link, fr) _. on_hello (at a link) (due 1 hello_layout.form fr))
      (λ f m e. hello-reads m f (read-frame a.link.received [] a.link.taken f m h e) (due 1 hello_layout.form f))
  incoming-reads handlers AwaitsRequest early h =
      plain-each (λ (link, fr) _. on_auth_request on_first (at a link) (due 2 auth_request_layout.form fr))
      (λ f m e. request-reads m h.0 f (read-frame a.link.received (h.0 ∷ []) a.link.taken f m h.1 e) (due 2 auth_request_layout.form f))
  incoming-reads handlers (AwaitsProof awaited) early h =
      plain-each (λ (link, fr) _. on_auth_request_more (at a link) awaited (due 5 auth_request_more_layout.form fr))
      (λ f m e. more-reads m awaited h.0 h.1 f h.3 (read-frame a.link.received (h.0 ∷ h.1 ∷ []) a.link.taken f m h.2 e) (due 5 auth_request_more_layout.form f) refl)
  incoming-reads handlers (AwaitsSignature s owner) early h = absurd early
  incoming-reads handlers (AwaitsIdent s owner) early h = absurd early
  incoming-reads handlers (Open s served) early h = absurd early
