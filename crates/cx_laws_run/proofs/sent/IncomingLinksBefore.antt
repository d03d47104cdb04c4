-- What a row of a daemon's link to a client does before authentication: nothing is sealed under a link's key as by its connector, no session is admitted, and
-- where the second authorizer passes, the link begins with a key that is new, of which nothing was taken.
use Rattle.std.proofs.Common.{◌≡◌, ℕ, ◌==◌, Bool, true, false, List, [], ◌∷◌, ◌++◌, length, take, Option, Some, None, Result, Ok, Err, inl, refl, ap, subst}
use Rattle.std.proofs.lemmas.Slice.Eq.{bytes_eq-Decides}
use Rattle.std.specs.Prelude.{◌&&◌, not, if◌then◌else◌}
use Rattle.std.specs.List.{AllByRecursion, cons_option, list_any}
use Rattle.std.specs.Str.{bytes_eq}
use Rattle.cx_laws_sessions.specs.cx_authorize.specs.Daemon.{Awaited}
use Rattle.cx_laws_sessions.specs.cx_authorize.specs.Judging.{judged_first, judged_second}
use Rattle.cx_laws_sessions.specs.cx_authorize.specs.Verdict.{raised}
use Rattle.cx_laws_sessions.specs.cx_authorize.specs.declared.refusals.AuthRefusal.{AuthRefusal}
use Rattle.cx_laws_sessions.specs.cx_authorize.specs.declared.refusals.AuthRefusal.TheVariants as refusal
use Rattle.cx_base.specs.Names.{Name}
use Rattle.cx_base.specs.declared.kinds.EntityType.{EntityType}
use Rattle.cx_base.specs.declared.kinds.EntityType.TheVariants.{Mon, Mds, Osd, Client, Mgr, Auth}
use Rattle.cx_base.specs.declared.nodes.NodeName.{NodeName}
use Rattle.cx_control.specs.Auth.{auth_request_layout, auth_request_more_layout}
use Rattle.cx_control.specs.Hello.{hello_layout}
use Rattle.cx_control.specs.declared.auth.AuthRequest.{AuthRequest}
use Rattle.cx_control.specs.declared.auth.AuthRequestMore.{AuthRequestMore}
use Rattle.cx_control.specs.declared.hello.Hello.{Hello}
use Rattle.cx_desk.specs.Handlers.{Handlers}
use Rattle.cx_dice.specs.Draws.{challenge_of, connection_of}
use Rattle.cx_frame.specs.Banners.{banner_at}
use Rattle.cx_frame.specs.declared.banner.Banner.{Banner}
use Rattle.cx_frame.specs.declared.frame.Frame.{Frame}
use Rattle.cx_frame.specs.declared.refusals.BannerRefusal.{BannerRefusal}
use Rattle.cx_frame.specs.declared.refusals.FrameRefusal.{FrameRefusal}
use Rattle.cx_journal.specs.declared.entries.Entry.{Entry}
use Rattle.cx_journal.specs.declared.faults.BytesFault.{BytesFault}
use Rattle.cx_journal.specs.declared.faults.LoginFault.TheVariants.{Method, Mode}
use Rattle.cx_laws_run.specs.cx_laws_tickets.proofs.authorize.Backing.{opened-issued}
use Rattle.cx_laws_run.specs.cx_laws_tickets.proofs.authorize.Keys.{LinkKeys}
use Rattle.cx_laws_run.specs.cx_laws_tickets.proofs.authorize.Opened.{IsOpening, ShowsTicket, first-all, first-opened, second-all, second-opened}
use Rattle.cx_laws_run.specs.cx_laws_keys.proofs.keys.Known.{Inv}
use Rattle.cx_laws_run.specs.cx_laws_keys.proofs.keys.Lists.{all-map}
use Rattle.cx_laws_run.specs.cx_laws_keys.proofs.keys.Premises.{AreGranted, granted-first}
use Rattle.cx_laws_run.specs.cx_laws_keys.proofs.keys.Uses.{AreGenerated, AtDaemon, Connected, Grows, Means, Tie, Use, Uses, WholeRun, session_use, with_key}
use Rattle.cx_laws_links.specs.cx_laws_keys.proofs.series.Contents.{content_where, contents_by}
use Rattle.cx_laws_sessions.specs.cx_rules.specs.Acceptor.{AwaitsBanner, AwaitsHello, AwaitsRequest, AwaitsProof, AwaitsSignature, AwaitsIdent, Open, Finished, denies, finished, on_auth_request, on_banner, on_hello}
use Rattle.cx_laws_sessions.specs.cx_rules.specs.Fronts.{ahead_of, banner_read, plain_read, taking}
use Rattle.cx_laws_sessions.specs.cx_rules.specs.Greetings.{own_hello}
use Rattle.cx_laws_sessions.specs.cx_rules.specs.Holdings.{MonClient}
use Rattle.cx_laws_sessions.specs.cx_rules.specs.Links.{Link}
use Rattle.cx_laws_sessions.specs.cx_rules.specs.Payloads.{due}
use Rattle.cx_laws_sessions.specs.cx_rules.specs.Rows.{Turned, Waits, Refuses, Handles, at, goes_on, plain_sent, refuses_bytes, turned_by, unless_refused}
use Rattle.cx_laws_sessions.specs.cx_rules.specs.Secured.{plain_frame}
use Rattle.cx_laws_sessions.specs.cx_rules_session.specs.Complete.{judged_by}
use Rattle.cx_laws_sessions.specs.cx_rules_session.specs.DaemonRule.{AsAcceptor}
use Rattle.cx_laws_sessions.specs.cx_rules_session.specs.Envelopes.{authorize_challenge_content, authorize_reply_content, session_sealed}
use Rattle.cx_laws_sessions.specs.cx_rules_session.specs.IncomingLinks.{IncomingArrival, IncomingRow, IncomingStage, authority_of, authorized_frame, authorizes, challenges, done_sent, looked_entry, on_auth_request_more, on_first, sealed_challenge_frame, turns_away, unless_turned_away}
use Rattle.cx_laws_sessions.specs.cx_rules_session.specs.Hosting.{Hosted, incoming_turned, no_session_moves}
use Rattle.cx_laws_sessions.specs.cx_rules_session.specs.Kinds.{entered_before}
use Rattle.cx_laws_sessions.specs.cx_run.proofs.Always.{Always}
use Rattle.cx_laws_sessions.specs.cx_sealed.specs.declared.service_ticket.ServiceTicket.{ServiceTicket}
use Rattle.cx_steps.specs.declared.seals.DrawMark.TheVariants as draw
use Rattle.cx_steps.specs.declared.seals.Logged.{Logged}
use Rattle.cx_steps.specs.declared.seals.SealEntry.{SealEntry}
use Rattle.cx_steps.specs.declared.seals.SealEntry.TheVariants as entry
use Rattle.cx_laws_sessions.specs.cx_stream.specs.PlainStreams.{plain_frame_at}
use Rattle.cx_laws_links.proofs.links.CallTells.{by-append, quiet-none}
use Rattle.cx_laws_links.proofs.links.CallWords.{AreQuiet, IsQuiet, quiet-append}
use Rattle.cx_laws_links.proofs.links.IncomingBegins.{authorizes-begins, authorizes-quiet}
use Rattle.cx_laws_links.proofs.links.IncomingNodes.{HostKnown}
use Rattle.cx_laws_links.proofs.links.IncomingTakes.{LinkHeard}
use Rattle.cx_laws_links.proofs.links.Known.{AreTold, Told}
use Rattle.cx_laws_links.proofs.links.Spoken.{is_connectors}
use Rattle.cx_laws_links.proofs.links.Written.{IsLinkKey}
use Rattle.cx_laws_run.proofs.sent.DaemonKnown.{IsOne, IsSilent, IsStill}

-- ---- session keys are no keys of links

opening-quiet : (e : SealEntry) → IsOpening e → IsQuiet e
opening-quiet (entry.Opened mark) h = tt
opening-quiet (entry.Sealed mark) h = absurd h
opening-quiet (entry.Signed mark) h = absurd h
opening-quiet (entry.Checked mark) h = absurd h
opening-quiet (entry.Drawn mark) h = absurd h

openings-quiet : (es : List SealEntry) → AllByRecursion IsOpening es → AreQuiet es
openings-quiet es h = all-map IsOpening IsQuiet opening-quiet es h

session-other : (name : Name) (service : EntityType) (acceptor : NodeName) (number : ℕ) (other : Name) (tie : Tie) → session_use name service ≡ Connected acceptor number other tie → ⊥
session-other name Auth acceptor number other tie e = absurd cc
session-other name Mon acceptor number other tie e = absurd cc
session-other name Mds acceptor number other tie e = absurd cc
session-other name Osd acceptor number other tie e = absurd cc
session-other name Client acceptor number other tie e = absurd cc
session-other name Mgr acceptor number other tie e = absurd cc

session-apart : (us vs : Uses) (session key : List ℕ) (name : Name) (service : EntityType) (other : Name) (tie : ℕ) → Grows us vs → IsOne vs → Means us session (session_use name service)
    → IsLinkKey vs key other tie → bytes_eq session key ≡ false
session-apart us vs session key name service other tie f one means is = by_test (bytes_eq session key) refl
  where
    by_test : (same : Bool) → bytes_eq session key ≡ same → bytes_eq session key ≡ false
    by_test false e = e
    by_test true e =
        let there : Means vs key (session_use name service) =
        subst (λ (k : List ℕ). Means vs k (session_use name service)) ((bytes_eq-Decides session key).0 e) (f.means session (session_use name service) means) in
        absurd (session-other name service is.acceptor is.number other (AtDaemon is.service tie)
        (one key (session_use name service) (Connected is.acceptor is.number other (AtDaemon is.service tie)) there is.means))

-- ---- rows

module _ (run : WholeRun) (whole : List Logged) (vs : Uses) (told : Told) (log : List Logged) (n : NodeName) (line : ℕ) (daemon : Name) where
  abbrev Granted : List SealEntry → Type 0
  Granted es = AreGranted run.leaked whole n line log es

  -- a link that goes on so is known, whatever is entered
  abbrev pub LinkBegins : Option (Link IncomingStage) → Type 0
  LinkBegins (Some link) = (K : List Entry) → HostKnown run vs told K daemon n link.number (AsAcceptor link.stage)
  LinkBegins None = Unit {0}

  -- a link is before authentication
  abbrev pub IsBefore : IncomingStage → Type 0
  IsBefore (AwaitsSignature s owner) = ⊥
  IsBefore (AwaitsIdent s owner) = ⊥
  IsBefore (Open s served) = ⊥
  IsBefore _ = Unit {0}

  -- whichever end of a link, it could have said nothing that these are
  abbrev pub SaysNone : List SealEntry → Type 0
  SaysNone es = (test : List ℕ → Bool) (key : List ℕ) (name : Name) (tie : ℕ) → IsLinkKey vs key name tie → contents_by key test es ≡ []

  -- a link has no key yet
  abbrev pub IsKeyless : Option (Link IncomingStage) → Type 0
  IsKeyless (Some link) = IsBefore link.stage
  IsKeyless None = Unit {0}

  -- a row seals nothing that an end of a link could have said, and its link has no key yet; or a second authorizer passes
  pub data RowFirst (row : IncomingRow) : Type 0 where
    SaysNothing : (AreGranted run.leaked whole n line log row.seals → IsOne vs → SaysNone row.seals) → IsKeyless row.link → RowFirst row
    Authorizes : (b : IncomingArrival) (opened : List SealEntry) (ticket : ServiceTicket) (nonce : ℕ) → b.own.name ≡ daemon → length b.draw ≡ 384 → AreQuiet opened
        → (AreGranted run.leaked whole n line log opened → IsOne vs → (key : List ℕ) (name : Name) (tie : ℕ) → IsLinkKey vs key name tie → bytes_eq ticket.session key ≡ false)
        → row.seals ≡ (authorizes b opened ticket nonce).seals → row.link ≡ (authorizes b opened ticket nonce).link → RowFirst row

  -- a row that seals nothing as a connector, admits no session, and whose link is known where its key is
  pub record RowBegins (row : IncomingRow) : Type 0 where
    pub seals : AreGranted run.leaked whole n line log row.seals → IsOne vs → IsSilent vs row.seals
    pub entries : AllByRecursion IsStill row.entries
    pub link : AreGranted run.leaked whole n line log row.seals → LinkKeys vs n row.link → LinkBegins row.link
    pub first : RowFirst row

  quiet-silent : (es : List SealEntry) → AreQuiet es → IsSilent vs es
  quiet-silent es quiet key name tie is = quiet-none key is_connectors es quiet

  quiet-says : (es : List SealEntry) → AreQuiet es → SaysNone es
  quiet-says es quiet test key name tie is = quiet-none key test es quiet

  begins-entered : (e : Entry) (row : IncomingRow) → IsStill e → RowBegins row → RowBegins (entered_before e row)
  begins-entered e row unheard h = record { seals = h.seals; entries = (unheard, h.entries); link = h.link; first = by_first h.first }
    where
      by_first : RowFirst row → RowFirst (entered_before e row)
      by_first (SaysNothing none keyless) = SaysNothing none keyless
      by_first (Authorizes b opened ticket nonce own drawn quiet apart seals link) = Authorizes b opened ticket nonce own drawn quiet apart seals link

  begins-refuses : (b : IncomingArrival) (why : BytesFault) (seals : List SealEntry) → AreQuiet seals → RowBegins (refuses_bytes b why seals)
  begins-refuses b why seals quiet = record { seals = λ g one. quiet-silent seals quiet; entries = (tt, tt); link = λ g keys. tt; first = SaysNothing (λ g one. quiet-says seals quiet) tt }

  begins-away : (b : IncomingArrival) (opened : List SealEntry) (why : AuthRefusal) → AreQuiet opened → RowBegins (turns_away b opened why)
  begins-away b opened (refusal.Malformed place) quiet = record { seals = λ g one. quiet-silent opened quiet; entries = (tt, tt); link = λ g keys. tt; first = SaysNothing (λ g one. quiet-says opened quiet) tt }
  begins-away b opened (refusal.WrongService kept got) quiet = record { seals = λ g one. quiet-silent opened quiet; entries = (tt, tt); link = λ g keys. tt; first = SaysNothing (λ g one. quiet-says opened quiet) tt }
  begins-away b opened (refusal.Ticket why blob) quiet = record { seals = λ g one. quiet-silent opened quiet; entries = (tt, tt); link = λ g keys. tt; first = SaysNothing (λ g one. quiet-says opened quiet) tt }
  begins-away b opened refusal.OutOfMemory quiet = record { seals = λ g one. quiet-silent opened quiet; entries = (tt, tt); link = λ g keys. tt; first = SaysNothing (λ g one. quiet-says opened quiet) tt }

  begins-banner : (b : IncomingArrival) (kind : EntityType) → RowBegins (on_banner kind b)
  begins-banner b kind = by_sent (plain_frame (own_hello kind))
    where
      by_sent : (r : Result (List ℕ) BytesFault) → RowBegins (plain_sent b AwaitsHello [] r)
      by_sent (Ok bytes) = record { seals = λ g one key name tie is. refl; entries = tt; link = λ g keys K. (tt, tt); first = SaysNothing (λ g one test key name tie is. refl) tt }
      by_sent (Err why) = begins-refuses b why [] tt

  begins-hello : (b : IncomingArrival) (read : Result Hello BytesFault) → RowBegins (on_hello b read)
  begins-hello b (Ok hello) = record { seals = λ g one key name tie is. refl; entries = tt; link = λ g keys K. (tt, tt); first = SaysNothing (λ g one test key name tie is. refl) tt }
  begins-hello b (Err why) = begins-refuses b why [] tt

  -- ---- authorizers

  module _ (us : Uses) (J : List Entry) (i : Inv run whole us log J) (f : Grows us vs) (b : IncomingArrival) (generated : AreGenerated us b.own.name.kind b.own.view.generations) (own : b.own.name ≡ daemon) where
    -- a ticket that opened has a session key that is no key of a link
    ticket-apart : (ticket : ServiceTicket) (opened : List SealEntry) → Granted opened → ShowsTicket b.own.view ticket opened → IsOne vs → (key : List ℕ) (name : Name) (tie : ℕ) → IsLinkKey vs key name tie
        → bytes_eq ticket.session key ≡ false
    ticket-apart ticket opened g shown one key name tie is =
        session-apart us vs ticket.session key ticket.name b.own.name.kind name tie f one (opened-issued run whole n line us log J b.own.name.kind b.own.view ticket opened i generated g shown).1 is

    begins-challenges : (opened : List SealEntry) (ticket : ServiceTicket) → AllByRecursion IsOpening opened → ShowsTicket b.own.view ticket opened → RowBegins (challenges b opened ticket)
    begins-challenges opened ticket all shown = by_sent (plain_frame (sealed_challenge_frame ticket.session (challenge_of b.draw)))
      where
        before : List SealEntry
        before = opened ++ entry.Drawn (draw.Challenge (challenge_of b.draw)) ∷ []

        silent : AreQuiet (opened ++ entry.Drawn (draw.Challenge (challenge_of b.draw)) ∷ [])
        silent = quiet-append opened (entry.Drawn (draw.Challenge (challenge_of b.draw)) ∷ []) (openings-quiet opened all) (tt, tt)

        held : List SealEntry
        held = session_sealed ticket.session (authorize_challenge_content (challenge_of b.draw)) ∷ []

        held-none : (test : List ℕ → Bool) (key : List ℕ) → bytes_eq ticket.session key ≡ false
            → contents_by key test (session_sealed ticket.session (authorize_challenge_content (challenge_of b.draw)) ∷ []) ≡ []
        held-none test key apart =
            let content : List ℕ = authorize_challenge_content (challenge_of b.draw) in
            ap (λ (here : Bool). cons_option (content_where (here && test content) content) []) apart

        sent-says : Granted (before ++ held) → IsOne vs → SaysNone (before ++ held)
        sent-says g one test key name tie is =
            let opens = granted-first run.leaked whole n line log opened (entry.Drawn (draw.Challenge (challenge_of b.draw)) ∷ []) (granted-first run.leaked whole n line log before held g) in
            by-append key test before held (quiet-none key test before silent) (held-none test key (ticket-apart ticket opened opens shown one key name tie is))

        by_sent : (r : Result (List ℕ) BytesFault) → RowBegins (unless_refused b (opened ++ entry.Drawn (draw.Challenge (challenge_of b.draw)) ∷ []) r
            (λ bytes. goes_on b (AwaitsProof (record { service = b.own.name.kind; challenge = challenge_of b.draw })) bytes
            ((opened ++ entry.Drawn (draw.Challenge (challenge_of b.draw)) ∷ []) ++ session_sealed ticket.session (authorize_challenge_content (challenge_of b.draw)) ∷ [])))
        by_sent (Ok bytes) = record { seals = λ g one. sent-says g one is_connectors; entries = tt; link = λ g keys K. (tt, tt); first = SaysNothing sent-says tt }
        by_sent (Err why) = begins-refuses b why before silent

    judged-begins : {X : Type 0} (opened : List SealEntry) (value : Result X AuthRefusal) (part : X → ServiceTicket) (next : X → IncomingRow) → AllByRecursion IsOpening opened
        → ((ticket : ServiceTicket) → judged_by part value ≡ Ok ticket → ShowsTicket b.own.view ticket opened) → ((x : X) → ShowsTicket b.own.view (part x) opened → RowBegins (next x))
        → RowBegins (unless_turned_away b opened value next)
    judged-begins opened (Ok x) part next all shows each = each x (shows (part x) refl)
    judged-begins opened (Err why) part next all shows each = begins-away b opened why (openings-quiet opened all)

    begins-first : (payload : List ℕ) → RowBegins (on_first b payload)
    begins-first payload =
        let j = judged_first b.own.name.kind b.own.view b.reading payload in
        let all = first-all b.own.name.kind b.own.view b.reading payload in
        begins-entered (looked_entry b) (unless_turned_away b j.seals j.value (λ shown. challenges b j.seals shown.ticket)) tt
        (judged-begins j.seals j.value (λ shown. shown.ticket) (λ shown. challenges b j.seals shown.ticket) all (first-opened b.own.name.kind b.own.view b.reading payload)
        (λ shown shows. begins-challenges j.seals shown.ticket all shows))

    begins-request : (request : Result AuthRequest BytesFault) → RowBegins (on_auth_request on_first b request)
    begins-request (Err why) = begins-refuses b why [] tt
    begins-request (Ok request) = by_tests (not (request.method == 2)) (not (list_any (λ mode. mode == 2) request.modes))
      where
        by_tests : (other plain : Bool) → RowBegins (if other then denies b 95 Method [] else if plain then denies b 95 Mode [] else on_first b request.payload)
        by_tests true plain = record { seals = λ g one key name tie is. refl; entries = (tt, tt); link = λ g keys. tt; first = SaysNothing (λ g one test key name tie is. refl) tt }
        by_tests false true = record { seals = λ g one key name tie is. refl; entries = (tt, tt); link = λ g keys. tt; first = SaysNothing (λ g one test key name tie is. refl) tt }
        by_tests false false = begins-first request.payload

    -- ---- the second authorizer

    module _ (t : AreTold run us told log J) (drawn : length b.draw ≡ 384) where
      module _ (opened : List SealEntry) (ticket : ServiceTicket) (nonce : ℕ) (all : AllByRecursion IsOpening opened) (shown : ShowsTicket b.own.view ticket opened) where
        abbrev secret : List ℕ
        secret = connection_of b.draw

        abbrev before : List SealEntry
        before = opened ++ entry.Drawn (draw.Connection secret ticket.name) ∷ []

        abbrev held : List SealEntry
        held = session_sealed ticket.session (authorize_reply_content nonce secret) ∷ []

        abbrev ends : Result Finished BytesFault
        ends = finished b.link ticket.session secret (authorized_frame ticket nonce secret)

        -- what its key is for, and that alone, beside what was known
        abbrev purpose : Use
        purpose = Connected n b.link.number ticket.name (AtDaemon b.own.name.kind (raised nonce))

        abbrev ws : Uses
        ws = with_key us (take 16 secret) purpose

        opens : (r : Result Finished BytesFault) → Granted (done_sent b before held (authority_of b ticket) r).seals → Granted opened
        opens (Err why) g = granted-first run.leaked whole n line log opened (entry.Drawn (draw.Connection secret ticket.name) ∷ []) g
        opens (Ok done) g =
            granted-first run.leaked whole n line log opened (entry.Drawn (draw.Connection secret ticket.name) ∷ []) (granted-first run.leaked whole n line log before (held ++ done.seals) g)

        enters : (r : Result Finished BytesFault) → AllByRecursion IsStill (done_sent b before held (authority_of b ticket) r).entries
        enters (Err why) = (tt, tt)
        enters (Ok done) = tt

        -- its key is that of the link in what is known behind the step
        begins : (r : Result Finished BytesFault) → LinkHeard run ws told n (done_sent b before held (authority_of b ticket) r).link
            → LinkKeys vs n (done_sent b before held (authority_of b ticket) r).link → LinkBegins (done_sent b before held (authority_of b ticket) r).link
        begins (Err why) h keys = tt
        begins (Ok done) h keys = λ K. (
          (record { service = keys.service; tie = keys.tie; means = keys.means; connector = h.0.connector; four = h.0.four }, h.1, h.2),
          tt,
        )

        begins-authorizes : RowBegins (authorizes b opened ticket nonce)
        begins-authorizes = record {
          seals = λ g one key name tie is.
              authorizes-quiet run whole us told log J i t n line b drawn opened (openings-quiet opened all) ticket nonce key (ticket-apart ticket opened (opens ends g) shown one key name tie is);
          entries = enters ends;
          link = λ g keys.
              begins ends (authorizes-begins run whole us told log J i t n line b drawn opened (openings-quiet opened all) ticket nonce ws (inl (refl, refl)) g) keys;
          first = Authorizes b opened ticket nonce own drawn (openings-quiet opened all) (λ g one key name tie is. ticket-apart ticket opened g shown one key name tie is) refl refl;
        }

      begins-more : (awaited : Awaited) (more : Result AuthRequestMore BytesFault) → RowBegins (on_auth_request_more b awaited more)
      begins-more awaited (Err why) = begins-refuses b why [] tt
      begins-more awaited (Ok more) =
          let j = judged_second awaited b.own.view b.reading more.payload in
          let all = second-all awaited b.own.view b.reading more.payload in
          begins-entered (looked_entry b) (unless_turned_away b j.seals j.value (λ shown. authorizes b j.seals shown.ticket shown.authorize.nonce)) tt
          (judged-begins j.seals j.value (λ shown. shown.ticket) (λ shown. authorizes b j.seals shown.ticket shown.authorize.nonce) all (second-opened awaited b.own.view b.reading more.payload)
          (λ shown shows. begins-authorizes j.seals shown.ticket shown.authorize.nonce all shows))

  -- ---- a turn

  abbrev pub TurnedBegins : Turned MonClient IncomingStage → Type 0
  TurnedBegins Waits = Unit {0}
  TurnedBegins (Refuses why opened) = opened ≡ []
  TurnedBegins (Handles row) = RowBegins row

  -- no session moves
  abbrev pub HostedBegins : Hosted → Type 0
  HostedBegins hosted = (hosted.moved ≡ None) × TurnedBegins hosted.turned

  module _ (us : Uses) (J : List Entry) (i : Inv run whole us log J) (f : Grows us vs) (t : AreTold run us told log J) (a : IncomingArrival)
      (generated : AreGenerated us a.own.name.kind a.own.view.generations) (drawn : length a.draw ≡ 384) (own : a.own.name ≡ daemon) where
    banner-begins : (r : Result (Option (Banner × ℕ)) BannerRefusal) → Always HostedBegins (no_session_moves (turned_by (λ link _. on_banner a.own.name.kind (at a link)) (banner_read a.link r)))
    banner-begins (Ok None) = (refl, tt)
    banner-begins (Ok (Some (x, m))) = (refl, begins-banner (at a (taking a.link m)) a.own.name.kind)
    banner-begins (Err e) = (refl, refl)

    hello-begins : (r : Result (Option (Frame × ℕ)) FrameRefusal)
        → Always HostedBegins (no_session_moves (turned_by (λ (link, x) _. on_hello (at a link) (due 1 hello_layout.form x)) (plain_read a.link r)))
    hello-begins (Ok None) = (refl, tt)
    hello-begins (Ok (Some (x, m))) = (refl, begins-hello (at a (taking a.link m)) (due 1 hello_layout.form x))
    hello-begins (Err e) = (refl, refl)

    request-begins : (r : Result (Option (Frame × ℕ)) FrameRefusal)
        → Always HostedBegins (no_session_moves (turned_by (λ (link, x) _. on_auth_request on_first (at a link) (due 2 auth_request_layout.form x)) (plain_read a.link r)))
    request-begins (Ok None) = (refl, tt)
    request-begins (Ok (Some (x, m))) = (refl, begins-request us J i f (at a (taking a.link m)) generated own (due 2 auth_request_layout.form x))
    request-begins (Err e) = (refl, refl)

    more-begins : (awaited : Awaited) (r : Result (Option (Frame × ℕ)) FrameRefusal)
        → Always HostedBegins (no_session_moves (turned_by (λ (link, x) _. on_auth_request_more (at a link) awaited (due 5 auth_request_more_layout.form x)) (plain_read a.link r)))
    more-begins awaited (Ok None) = (refl, tt)
    more-begins awaited (Ok (Some (x, m))) = (refl, begins-more us J i f (at a (taking a.link m)) generated own t drawn awaited (due 5 auth_request_more_layout.form x))
    more-begins awaited (Err e) = (refl, refl)

    pub before-begins : (handlers : Handlers) (stage : IncomingStage) → IsBefore stage → Always HostedBegins (incoming_turned handlers a stage)
    before-begins handlers AwaitsBanner is = banner-begins (banner_at (ahead_of a.link))
    before-begins handlers AwaitsHello is = hello-begins (plain_frame_at (ahead_of a.link))
    before-begins handlers AwaitsRequest is = request-begins (plain_frame_at (ahead_of a.link))
    before-begins handlers (AwaitsProof awaited) is = more-begins awaited (plain_frame_at (ahead_of a.link))
    before-begins handlers (AwaitsSignature s owner) is = absurd is
    before-begins handlers (AwaitsIdent s owner) is = absurd is
    before-begins handlers (Open s served) is = absurd is
