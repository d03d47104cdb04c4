-- One walk over the rows of an incoming link at a daemon, whatever its book replies: what closes a property of them gives it of each turn.
use Rattle.std.proofs.Common.{◌≡◌, ℕ, ◌<◌, ◌≤◌, ◌==◌, Bool, true, false, List, [], ◌∷◌, ◌++◌, length, Option, Some, None, Result, Ok, Err, refl, sym, ◌∙◌, arith}
use Rattle.std.proofs.lemmas.Bool.{eqb-true}
use Rattle.std.specs.Prelude.{not, if◌then◌else◌}
use Rattle.std.specs.List.{list_any}
use Rattle.cx_rules_session.specs.cx_journal.specs.declared.outcomes.Outcome.{Outcome}
use Rattle.cx_rules_session.specs.Envelopes.{authorize_challenge_content, authorize_reply_content, session_sealed}
use Rattle.cx_rules_session.specs.IncomingLinks.{looked_entry, ticket_fault, IncomingArrival, IncomingRow, IncomingStage, Served, authority_of, authorized_frame, challenges, done_sent, on_auth_request_more, on_first, sealed_challenge_frame, authorizes, turns_away, unless_turned_away}
use Rattle.cx_rules_session.specs.Hosting.{admission_of, admits, handled_entry, handles, no_session_moves, resumes, served_as, turned_behind, Deciding, Hosted, Instruction, asks_admission, comes_to, cookie_drawn, decided_by, incoming_turned, hosted_behind, instruction_of, on_admission, on_checked, on_client_ident, on_ident, on_message, on_open, on_reconnect, on_resumption, on_taken, on_untaken, outcome_of, session_retry, session_retry_global}
use Rattle.cx_rules_session.specs.Kinds.{entered_before}
use Rattle.cx_rules_session.specs.Lossy.{is_lossy}
use Rattle.cx_rules_session.specs.cx_authorize.specs.Daemon.{Authority, Awaited}
use Rattle.cx_rules_session.specs.cx_authorize.specs.Judging.{judged_first, judged_second}
use Rattle.cx_rules_session.specs.cx_authorize.specs.declared.refusals.AuthRefusal.{AuthRefusal}
use Rattle.cx_rules_session.specs.cx_authorize.specs.declared.refusals.AuthRefusal.TheVariants as refusal
use Rattle.cx_rules_session.specs.cx_control.specs.Auth.{auth_request_layout, auth_request_more_layout, auth_signature_layout}
use Rattle.cx_rules_session.specs.cx_control.specs.Hello.{hello_layout}
use Rattle.cx_rules_session.specs.cx_control.specs.Idents.{client_ident_layout}
use Rattle.cx_rules_session.specs.cx_control.specs.Reconnects.{session_reconnect_layout}
use Rattle.cx_rules_session.specs.cx_control.specs.Upkeep.{keepalive2_layout, keepalive2_ack_layout}
use Rattle.cx_rules_session.specs.cx_control.specs.declared.auth.AuthRequest.{AuthRequest}
use Rattle.cx_rules_session.specs.cx_control.specs.declared.auth.AuthRequestMore.{AuthRequestMore}
use Rattle.cx_rules_session.specs.cx_control.specs.declared.auth.AuthSignature.{AuthSignature}
use Rattle.cx_rules_session.specs.cx_control.specs.declared.hello.Hello.{Hello}
use Rattle.cx_rules_session.specs.cx_control.specs.declared.idents.ClientIdent.{ClientIdent}
use Rattle.cx_rules_session.specs.cx_control.specs.declared.reconnects.SessionReconnect.{SessionReconnect}
use Rattle.cx_rules_session.specs.cx_control.specs.declared.upkeep.Keepalive2.{Keepalive2}
use Rattle.cx_rules_session.specs.cx_control.specs.declared.upkeep.Keepalive2Ack.{Keepalive2Ack}
use Rattle.cx_rules_session.specs.cx_desk.specs.Handlers.{Handlers}
use Rattle.cx_rules_session.specs.cx_dice.specs.Draws.{challenge_of, connection_of}
use Rattle.cx_rules_session.specs.cx_frame.specs.Banners.{banner_at}
use Rattle.cx_rules_session.specs.cx_frame.specs.declared.banner.Banner.{Banner}
use Rattle.cx_rules_session.specs.cx_frame.specs.declared.frame.Frame.{Frame}
use Rattle.cx_rules_session.specs.cx_frame.specs.declared.refusals.BannerRefusal.{BannerRefusal}
use Rattle.cx_rules_session.specs.cx_frame.specs.declared.refusals.FrameRefusal.{FrameRefusal}
use Rattle.cx_rules_session.specs.cx_journal.specs.declared.entries.Entry.{Entry}
use Rattle.cx_rules_session.specs.cx_journal.specs.declared.entries.Entry.TheVariants as entry
use Rattle.cx_rules_session.specs.cx_journal.specs.declared.faults.BytesFault.{BytesFault}
use Rattle.cx_rules_session.specs.cx_journal.specs.declared.faults.BytesFault.TheVariants.{Features, Malformed, Unexpected}
use Rattle.cx_rules_session.specs.cx_journal.specs.declared.faults.LoginFault.TheVariants.{Method, Mode, SignatureWrong}
use Rattle.cx_rules_session.specs.cx_journal.specs.declared.faults.SessionFault.{SessionFault}
use Rattle.cx_rules_session.specs.cx_journal.specs.declared.faults.SessionFault.TheVariants as session
use Rattle.cx_rules_session.specs.cx_journal.specs.declared.outcomes.Reason.{Reason}
use Rattle.cx_rules_session.specs.cx_journal.specs.declared.outcomes.Reason.TheVariants as reason
use Rattle.cx_rules_session.specs.cx_rules.proofs.Fitting.{Fits, secure-fits, banner-fits, plain-fits}
use Rattle.cx_rules_session.specs.cx_rules.specs.Acceptor.{AwaitsBanner, AwaitsHello, AwaitsRequest, AwaitsProof, AwaitsSignature, AwaitsIdent, Open, Finished as Done, denies, denies_for, finished, missing_told, misses, on_auth_request, on_banner, on_hello, on_signature}
use Rattle.cx_rules_session.specs.cx_rules.specs.Fronts.{ahead_of, keys_behind, opened_parts, sealed_ahead, secure_read, taking, banner_read, plain_read}
use Rattle.cx_rules_session.specs.cx_rules.specs.Greetings.{own_hello}
use Rattle.cx_rules_session.specs.cx_rules.specs.Holdings.{MonClient}
use Rattle.cx_rules_session.specs.cx_rules.specs.Links.{Link}
use Rattle.cx_rules_session.specs.cx_rules.specs.Messages.{acknowledgement, message_in, message_of}
use Rattle.cx_rules_session.specs.cx_rules.specs.MonitorRule.{session_reset}
use Rattle.cx_rules_session.specs.cx_rules.specs.Payloads.{control, due, payload}
use Rattle.cx_rules_session.specs.cx_rules.specs.Rows.{Turned, Waits, Refuses, Handles, at, goes_on, plain_sent, refuses, refuses_bytes, secure_sent, unless_refused, with_opened, turned_by, refused_entry, sends_secure}
use Rattle.cx_rules_session.specs.cx_rules.specs.Secured.{Keys, SealedFrame, Secured, is_signed, plain_frame, secure_frame, signature_found, under}
use Rattle.cx_rules_session.specs.cx_rules.specs.Upkeep.{on_keepalive, on_keepalive_ack}
use Rattle.cx_rules_session.specs.cx_sealed.specs.declared.service_ticket.ServiceTicket.{ServiceTicket}
use Rattle.cx_rules_session.specs.cx_secure.specs.declared.refusals.SecureRefusal.{SecureRefusal}
use Rattle.cx_rules_session.specs.cx_session.specs.declared.call.BookFault.TheVariants as fault
use Rattle.cx_rules_session.specs.cx_session.specs.declared.call.BookReply.{BookReply}
use Rattle.cx_rules_session.specs.cx_session.specs.declared.call.BookReply.TheVariants as reply
use Rattle.cx_rules_session.specs.cx_steps.specs.declared.seals.DrawMark.TheVariants as draw
use Rattle.cx_rules_session.specs.cx_steps.specs.declared.seals.SealEntry.{SealEntry}
use Rattle.cx_rules_session.specs.cx_steps.specs.declared.seals.SealEntry.TheVariants.{Drawn}
use Rattle.cx_rules_session.specs.cx_stream.specs.PlainStreams.{plain_frame_at}
use Rattle.cx_rules_session.specs.cx_stream.specs.SecureStreams.{secure_frame_at}
use Rattle.cx_run.proofs.Always.{Always, Anything, TurnOf, always-map, always-weaker, turn-weaker}
use Rattle.cx_run.proofs.Taking.{EachRow, HasBytes, each-row, banner-has, plain-has, secure-has}

-- ---- before the keys of a link are known

-- what closes a property of the rows up to the daemon's signature
pub record ClosesEarly (P : IncomingArrival → IncomingRow → Type 0) : Type 0 where
  pub shut : (a : IncomingArrival) (why : Reason) (seals : List SealEntry) → P a (refuses a why seals)
  pub denied : (a : IncomingArrival) (code : ℕ) (why : Reason) (seals : List SealEntry) → P a (denies_for a code why seals)
  pub greeted : (a : IncomingArrival) (bytes : List ℕ) → P a (goes_on a AwaitsHello bytes [])
  pub heard : (a : IncomingArrival) → P a (goes_on a AwaitsRequest [] [])
  pub challenged : (a : IncomingArrival) (awaited : Awaited) (bytes : List ℕ) (seals : List SealEntry) → P a (goes_on a (AwaitsProof awaited) bytes seals)
  pub authorized : (a : IncomingArrival) (s : Secured) (owner : Authority) (bytes : List ℕ) (seals : List SealEntry)
      → P a (goes_on a (AwaitsSignature s owner) bytes seals)
  pub looked : (a : IncomingArrival) (row : IncomingRow) → P a row → P a (entered_before (looked_entry a) row)

module _ (P : IncomingArrival → IncomingRow → Type 0) (c : ClosesEarly P) where
  pub banner-so : (a : IncomingArrival) → P a (on_banner a.own.name.kind a)
  banner-so a = by_sent (plain_frame (own_hello a.own.name.kind))
    where
      by_sent : (r : Result (List ℕ) BytesFault) → P a (plain_sent a AwaitsHello [] r)
      by_sent (Ok bytes) = c.greeted a bytes
      by_sent (Err why) = c.shut a (reason.Bytes why) []

  pub hello-so : (a : IncomingArrival) (hello : Result Hello BytesFault) → P a (on_hello a hello)
  hello-so a (Ok hello) = c.heard a
  hello-so a (Err why) = c.shut a (reason.Bytes why) []

  away-so : (a : IncomingArrival) (opened : List SealEntry) (why : AuthRefusal) → P a (turns_away a opened why)
  away-so a opened (refusal.Malformed place) = c.shut a (reason.Bytes (Malformed place)) opened
  away-so a opened (refusal.WrongService kept got) = c.denied a 13 (reason.WrongService kept got) opened
  away-so a opened (refusal.Ticket why blob) = c.denied a 13 (reason.Ticket (ticket_fault why) blob) opened
  away-so a opened refusal.OutOfMemory = c.shut a (reason.Bytes (Malformed 0)) opened

  judged-so : {X : Type 0} (a : IncomingArrival) (opened : List SealEntry) (value : Result X AuthRefusal) (next : X → IncomingRow) → ((x : X) → P a (next x))
      → P a (entered_before (looked_entry a) (unless_turned_away a opened value next))
  judged-so a opened (Ok x) next each = c.looked a (next x) (each x)
  judged-so a opened (Err why) next each = c.looked a (turns_away a opened why) (away-so a opened why)

  challenges-so : (a : IncomingArrival) (opened : List SealEntry) (ticket : ServiceTicket) → P a (challenges a opened ticket)
  challenges-so a opened ticket = by_sent (plain_frame (sealed_challenge_frame ticket.session (challenge_of a.draw)))
    where
      by_sent : (r : Result (List ℕ) BytesFault) → P a (unless_refused a (opened ++ Drawn (draw.Challenge (challenge_of a.draw)) ∷ []) r
          (λ bytes. goes_on a (AwaitsProof (record { service = a.own.name.kind; challenge = challenge_of a.draw })) bytes
          ((opened ++ Drawn (draw.Challenge (challenge_of a.draw)) ∷ []) ++ session_sealed ticket.session (authorize_challenge_content (challenge_of a.draw)) ∷ [])))
      by_sent (Ok bytes) = c.challenged a _ bytes _
      by_sent (Err why) = c.shut a (reason.Bytes why) _

  pub request-so : (a : IncomingArrival) (request : Result AuthRequest BytesFault) → P a (on_auth_request on_first a request)
  request-so a (Err why) = c.shut a (reason.Bytes why) []
  request-so a (Ok request) = by_tests (not (request.method == 2)) (not (list_any (λ mode. mode == 2) request.modes))
    where
      by_tests : (other plain : Bool) → P a (if other then denies a 95 Method [] else if plain then denies a 95 Mode [] else on_first a request.payload)
      by_tests true plain = c.denied a 95 (reason.Login Method) []
      by_tests false true = c.denied a 95 (reason.Login Mode) []
      by_tests false false =
          let j = judged_first a.own.name.kind a.own.view a.reading request.payload in
          judged-so a j.seals j.value (λ shown. challenges a j.seals shown.ticket) (λ shown. challenges-so a j.seals shown.ticket)

  done-so : (a : IncomingArrival) (before held : List SealEntry) (owner : Authority) (r : Result Done BytesFault) → P a (done_sent a before held owner r)
  done-so a before held owner (Err why) = c.shut a (reason.Bytes why) before
  done-so a before held owner (Ok done) = c.authorized a done.secured owner done.bytes (before ++ (held ++ done.seals))

  authorizes-so : (a : IncomingArrival) (opened : List SealEntry) (ticket : ServiceTicket) (nonce : ℕ) → P a (authorizes a opened ticket nonce)
  authorizes-so a opened ticket nonce =
      let secret : List ℕ = connection_of a.draw in
      done-so a (opened ++ Drawn (draw.Connection secret ticket.name) ∷ []) (session_sealed ticket.session (authorize_reply_content nonce secret) ∷ [])
      (authority_of a ticket) (finished a.link ticket.session secret (authorized_frame ticket nonce secret))

  pub more-so : (a : IncomingArrival) (awaited : Awaited) (more : Result AuthRequestMore BytesFault) → P a (on_auth_request_more a awaited more)
  more-so a awaited (Err why) = c.shut a (reason.Bytes why) []
  more-so a awaited (Ok more) =
      let j = judged_second awaited a.own.view a.reading more.payload in
      judged-so a j.seals j.value (λ shown. authorizes a j.seals shown.ticket shown.authorize.nonce)
      (λ shown. authorizes-so a j.seals shown.ticket shown.authorize.nonce)

-- ---- the frame of a link that waits for the signature

-- why it is shut there
pub data ShutsUnsigned : Reason → Type 0 where
  Unread : (why : BytesFault) → ShutsUnsigned (reason.Bytes why)
  Unsigned : ShutsUnsigned (reason.Login SignatureWrong)

pub record ClosesSignature (a : IncomingArrival) (s : Secured) (owner : Authority) (f : Frame) (P : IncomingRow → Type 0) : Type 0 where
  pub shut : (why : Reason) → ShutsUnsigned why → P (refuses a why [])
  pub waits : f.tag ≡ 7 → P (goes_on a (AwaitsIdent s owner) [] (signature_found s ∷ []))

pub signature-so : (a : IncomingArrival) (s : Secured) (owner : Authority) (f : Frame) (P : IncomingRow → Type 0) → ClosesSignature a s owner f P
    → P (on_signature a s owner (due 7 auth_signature_layout.form f))
signature-so a s owner f P c = by_tag (f.tag == 7) refl
  where
    by_test : f.tag ≡ 7 → (right : Bool)
        → P (if right then goes_on a (AwaitsIdent s owner) [] (signature_found s ∷ []) else refuses a (reason.Login SignatureWrong) [])
    by_test tag true = c.waits tag
    by_test tag false = c.shut (reason.Login SignatureWrong) Unsigned

    by_read : f.tag ≡ 7 → (read : Result AuthSignature BytesFault) → P (on_signature a s owner read)
    by_read tag (Err why) = c.shut (reason.Bytes why) (Unread why)
    by_read tag (Ok found) = by_test tag (is_signed s found.signature)

    by_tag : (due_now : Bool) → (f.tag == 7) ≡ due_now
        → P (on_signature a s owner (if due_now then payload auth_signature_layout.form f else Err (Unexpected f.tag)))
    by_tag true e = by_read (eqb-true f.tag 7 e) (payload auth_signature_layout.form f)
    by_tag false e = c.shut (reason.Bytes (Unexpected f.tag)) (Unread (Unexpected f.tag))

-- ---- a frame of a link that waits for an ident

-- a reason that the book gives
pub data OfBook : Reason → Type 0 where
  OfSession : (why : SessionFault) → OfBook (reason.Session why)
  OfSpent : OfBook reason.Spent

-- why the link is shut, and what is logged there
pub data ShutsIdent (a : IncomingArrival) : Reason → List SealEntry → Type 0 where
  UnreadIdent : (why : BytesFault) → ShutsIdent a (reason.Bytes why) []
  Unadmitted : (why : Reason) → OfBook why → ShutsIdent a why (cookie_drawn a ∷ [])

-- why no session is resumed, and the frame that tells it
pub data TellsWhy : Reason → Frame → Type 0 where
  TellsReset : (why : Reason) → OfBook why → TellsWhy why session_reset
  TellsRetry : (kept : ℕ) → TellsWhy (reason.Session (session.StaleConnect kept)) (session_retry kept)
  TellsRetryGlobal : (kept : ℕ) → TellsWhy (reason.Session (session.StaleGlobal kept)) (session_retry_global kept)

pub record ClosesIdent (a : IncomingArrival) (s : Secured) (owner : Authority) (f : Frame) (P : IncomingRow → Type 0) : Type 0 where
  pub shut : (why : Reason) (seals : List SealEntry) → ShutsIdent a why seals → P (refuses a why seals)
  pub missed : (features : ℕ) → P (misses a s features)
  pub admitted : (ident : ClientIdent) → f.tag ≡ 8 → payload client_ident_layout.form f ≡ Ok ident → (number epoch : ℕ)
      → P (admits a s owner ident number epoch)
  pub resumed : (again : SessionReconnect) → f.tag ≡ 11 → payload session_reconnect_layout.form f ≡ Ok again → (number epoch last : ℕ) (lossy : Bool)
      → P (resumes a s owner again number epoch last lossy)
  pub told : (again : SessionReconnect) → f.tag ≡ 11 → payload session_reconnect_layout.form f ≡ Ok again → (why : Reason) (x : Frame) → TellsWhy why x
      → P (entered_before (refused_entry a.me a.link.number why) (sends_secure a s (λ behind. AwaitsIdent behind owner) [] x))

module _ (a : IncomingArrival) (s : Secured) (owner : Authority) (f : Frame) (R : List SealEntry → Type 0) (P : IncomingRow → Type 0)
    (c : ClosesIdent a s owner f P) where
  abbrev IdentSo : Deciding Hosted → Type 0
  IdentSo rule = Always (λ (h : Hosted). TurnOf R P h.turned) rule

  unread-so : (why : BytesFault) → P (refuses_bytes a why [])
  unread-so why = c.shut (reason.Bytes why) [] (UnreadIdent why)

  unadmitted-so : (why : Reason) → OfBook why → P (refuses a why (cookie_drawn a ∷ []))
  unadmitted-so why of = c.shut why (cookie_drawn a ∷ []) (Unadmitted why of)

  admission-so : (ident : ClientIdent) → f.tag ≡ 8 → payload client_ident_layout.form f ≡ Ok ident → (r : BookReply)
      → IdentSo (on_admission a s owner ident r)
  admission-so ident tag is (reply.Admitted number epoch) = c.admitted ident tag is number epoch
  admission-so ident tag is (reply.Refused (fault.CookieInUse number)) = unadmitted-so (reason.Session (session.CookieInUse number)) (OfSession _)
  admission-so ident tag is (reply.Refused (fault.BookFull limit)) = unadmitted-so (reason.Session session.BookFull) (OfSession _)
  admission-so ident tag is (reply.Refused fault.Spent) = unadmitted-so reason.Spent OfSpent
  admission-so ident tag is (reply.Refused _) = tt
  admission-so ident tag is _ = tt

  client-so : f.tag ≡ 8 → (read : Result ClientIdent BytesFault) → payload client_ident_layout.form f ≡ read → IdentSo (on_client_ident a s owner read)
  client-so tag (Err why) is = unread-so why
  client-so tag (Ok ident) is = by_test (ident.required == 0)
    where
      by_test : (plain : Bool) → IdentSo (if plain then asks_admission a s owner ident else comes_to (misses a s ident.required))
      by_test true = λ r. admission-so ident tag is r
      by_test false = c.missed ident.required

  resumption-so : (again : SessionReconnect) → f.tag ≡ 11 → payload session_reconnect_layout.form f ≡ Ok again → (r : BookReply)
      → IdentSo (on_resumption a s owner again r)
  resumption-so again tag is (reply.Resumed number epoch last lossy) = c.resumed again tag is number epoch last lossy
  resumption-so again tag is (reply.Refused fault.Unknown) = c.told again tag is _ _ (TellsReset (reason.Session session.UnknownSession) (OfSession _))
  resumption-so again tag is (reply.Refused (fault.OwnerDiffers entity gid)) =
      c.told again tag is _ _ (TellsReset (reason.Session (session.OwnerDiffers entity gid)) (OfSession _))
  resumption-so again tag is (reply.Refused fault.Spent) = c.told again tag is _ _ (TellsReset reason.Spent OfSpent)
  resumption-so again tag is (reply.Refused (fault.StaleConnect kept)) = c.told again tag is _ _ (TellsRetry kept)
  resumption-so again tag is (reply.Refused (fault.StaleGlobal kept)) = c.told again tag is _ _ (TellsRetryGlobal kept)
  resumption-so again tag is (reply.Refused _) = tt
  resumption-so again tag is _ = tt

  again-so : f.tag ≡ 11 → (read : Result SessionReconnect BytesFault) → payload session_reconnect_layout.form f ≡ read
      → IdentSo (on_reconnect a s owner read)
  again-so tag (Err why) is = unread-so why
  again-so tag (Ok again) is = λ r. resumption-so again tag is r

  pub ident-so : Always (λ (h : Hosted). TurnOf R P h.turned) (on_ident a s owner f)
  ident-so = by_tests (f.tag == 8) (f.tag == 11) refl refl
    where
      by_tests : (client again : Bool) → (f.tag == 8) ≡ client → (f.tag == 11) ≡ again → IdentSo (if client then on_client_ident a s owner (payload client_ident_layout.form f)
          else if again then on_reconnect a s owner (payload session_reconnect_layout.form f) else comes_to (refuses_bytes a (Unexpected f.tag) []))
      by_tests true again e d = client-so (eqb-true f.tag 8 e) (payload client_ident_layout.form f) refl
      by_tests false true e d = again-so (eqb-true f.tag 11 d) (payload session_reconnect_layout.form f) refl
      by_tests false false e d = unread-so (Unexpected f.tag)

-- ---- a frame of an open link

-- why the link is shut
pub data ShutsOpen : Reason → Type 0 where
  UnreadMessage : (why : BytesFault) → ShutsOpen (reason.Bytes why)
  Untaken : (why : SessionFault) → ShutsOpen (reason.Session why)

-- what keeps the link up is sent
pub data IsUpkeep : Frame → Type 0 where
  Acknowledges : (last : ℕ) → IsUpkeep (acknowledgement last)
  SendsBack : (ack : Keepalive2Ack) → IsUpkeep (control 19 keepalive2_ack_layout.form ack)

-- what is no ident leaves the session
abbrev pub IsNoIdent : Frame → Type 0
IsNoIdent f = (f.tag ≡ 8 → ⊥) × (f.tag ≡ 11 → ⊥)

pub record ClosesOpen (handlers : Handlers) (a : IncomingArrival) (s : Secured) (served : Served) (f : Frame) (P : IncomingRow → Type 0) : Type 0 where
  pub shut : (why : Reason) → ShutsOpen why → P (refuses a why [])
  pub kept_up : IsNoIdent f → (x : Frame) → IsUpkeep x → P (sends_secure a s (λ behind. Open behind served) [] x)
  pub idled : IsNoIdent f → P (goes_on a (Open s served) [] [])
  pub handled : f.tag ≡ 17 → (i : Instruction) → instruction_of (message_in f) ≡ Ok i
      → P (handles a s served i (outcome_of handlers served.caps i.operation))

module _ (handlers : Handlers) (a : IncomingArrival) (s : Secured) (served : Served) (f : Frame) (R : List SealEntry → Type 0) (P : IncomingRow → Type 0)
    (c : ClosesOpen handlers a s served f P) where
  abbrev OpenSo : Deciding Hosted → Type 0
  OpenSo rule = Always (λ (h : Hosted). TurnOf R P h.turned) rule

  no-ident : (n : ℕ) → f.tag ≡ n → (n ≡ 8 → ⊥) → (n ≡ 11 → ⊥) → IsNoIdent f
  no-ident n is other another = (λ e. other (sym is ∙ e), λ e. another (sym is ∙ e))

  untaken-so : f.tag ≡ 17 → (r : BookReply) → OpenSo (on_untaken a s served r)
  untaken-so tag (reply.Refused (fault.Repeat last)) =
      c.kept_up (no-ident 17 tag (λ e. omega (arith, e)) (λ e. omega (arith, e))) (acknowledgement last) (Acknowledges last)
  untaken-so tag (reply.Refused (fault.Gap expected)) = c.shut (reason.Session (session.Gap expected)) (Untaken _)
  untaken-so tag (reply.Refused (fault.Stale epoch)) = c.shut (reason.Session (session.Stale epoch)) (Untaken _)
  untaken-so tag (reply.Refused _) = tt
  untaken-so tag _ = tt

  taken-so : f.tag ≡ 17 → (i : Instruction) → instruction_of (message_in f) ≡ Ok i → (r : BookReply) → OpenSo (on_taken handlers a s served i r)
  taken-so tag i is reply.Fine = c.handled tag i is
  taken-so tag i is (reply.Refused why) = untaken-so tag (reply.Refused why)
  taken-so tag i is _ = tt

  checked-so : f.tag ≡ 17 → (i : Instruction) → instruction_of (message_in f) ≡ Ok i → (r : BookReply) → OpenSo (on_checked handlers a s served i r)
  checked-so tag i is reply.Fine = λ r. taken-so tag i is r
  checked-so tag i is (reply.Refused why) = untaken-so tag (reply.Refused why)
  checked-so tag i is _ = tt

  -- a message stands in a frame of tag 17
  message-tag : (i : Instruction) → instruction_of (message_in f) ≡ Ok i → f.tag ≡ 17
  message-tag i = by_test (f.tag == 17) refl
    where
      by_test : (message : Bool) → (f.tag == 17) ≡ message → instruction_of (if message then message_of f.segments else Err (Unexpected f.tag)) ≡ Ok i
          → f.tag ≡ 17
      by_test true e is = eqb-true f.tag 17 e
      by_test false e is = absurd cc

  message-so : (read : Result Instruction BytesFault) → instruction_of (message_in f) ≡ read → OpenSo (on_message handlers a s served read)
  message-so (Err why) is = c.shut (reason.Bytes why) (UnreadMessage why)
  message-so (Ok i) is = λ r. checked-so (message-tag i is) i is r

  keepalive-so : IsNoIdent f → (read : Result Keepalive2 BytesFault) → P (on_keepalive a s (λ behind. Open behind served) read)
  keepalive-so other (Err why) = c.shut (reason.Bytes why) (UnreadMessage why)
  keepalive-so other (Ok keepalive) = c.kept_up other (control 19 keepalive2_ack_layout.form (record { time = keepalive.time })) (SendsBack _)

  ack-so : IsNoIdent f → (read : Result Keepalive2Ack BytesFault) → P (on_keepalive_ack a s (λ behind. Open behind served) read)
  ack-so other (Err why) = c.shut (reason.Bytes why) (UnreadMessage why)
  ack-so other (Ok ack) = c.idled other

  pub open-so : Always (λ (h : Hosted). TurnOf R P h.turned) (on_open handlers a s served f)
  open-so = by_tests (f.tag == 18) (f.tag == 19) refl refl
    where
      by_tests : (ask ack : Bool) → (f.tag == 18) ≡ ask → (f.tag == 19) ≡ ack
          → OpenSo (if ask then comes_to (on_keepalive a s (λ behind. Open behind served) (payload keepalive2_layout.form f))
          else if ack then comes_to (on_keepalive_ack a s (λ behind. Open behind served) (payload keepalive2_ack_layout.form f))
          else on_message handlers a s served (instruction_of (message_in f)))
      by_tests true ack e d =
          keepalive-so (no-ident 18 (eqb-true f.tag 18 e) (λ x. omega (arith, x)) (λ x. omega (arith, x))) (payload keepalive2_layout.form f)
      by_tests false true e d =
          ack-so (no-ident 19 (eqb-true f.tag 19 d) (λ x. omega (arith, x)) (λ x. omega (arith, x))) (payload keepalive2_ack_layout.form f)
      by_tests false false e d = message-so (instruction_of (message_in f)) refl

-- ---- a turn

-- so many bytes are ahead on a link, and some
pub record IsAhead {Stage : Type 0} (link : Link Stage) (n : ℕ) : Type 0 where
  pub some : 0 < n
  pub within : n ≤ length (ahead_of link)

-- a frame of so many bytes opens there
pub record OpensAhead {Stage : Type 0} (keys : Keys) (link : Link Stage) (f : Frame) (n : ℕ) : Type 0 where
  pub ahead : IsAhead link n
  pub read : secure_frame_at (sealed_ahead keys link) ≡ Ok (Some (f, n))

-- what is to be so of the row of a turn in this stage
abbrev pub ClosesTurn : Handlers → (a : IncomingArrival) → (List SealEntry → Type 0) → (IncomingRow → Type 0) → IncomingStage → Type 0
ClosesTurn handlers a R P AwaitsBanner = (n : ℕ) → IsAhead a.link n → P (on_banner a.own.name.kind (at a (taking a.link n)))
ClosesTurn handlers a R P AwaitsHello = (f : Frame) (n : ℕ) → IsAhead a.link n → P (on_hello (at a (taking a.link n)) (due 1 hello_layout.form f))
ClosesTurn handlers a R P AwaitsRequest =
    (f : Frame) (n : ℕ) → IsAhead a.link n → P (on_auth_request on_first (at a (taking a.link n)) (due 2 auth_request_layout.form f))
ClosesTurn handlers a R P (AwaitsProof awaited) =
    (f : Frame) (n : ℕ) → IsAhead a.link n → P (on_auth_request_more (at a (taking a.link n)) awaited (due 5 auth_request_more_layout.form f))
ClosesTurn handlers a R P (AwaitsSignature s owner) =
    (f : Frame) (n : ℕ) → OpensAhead s.keys a.link f n → P (with_opened (opened_parts (sealed_ahead s.keys a.link))
    (on_signature (at a (taking a.link n)) (under s (keys_behind s.keys f)) owner (due 7 auth_signature_layout.form f)))
ClosesTurn handlers a R P (AwaitsIdent s owner) =
    (f : Frame) (n : ℕ) → OpensAhead s.keys a.link f n
    → Always (λ (h : Hosted). TurnOf R (λ (row : IncomingRow). P (with_opened (opened_parts (sealed_ahead s.keys a.link)) row)) h.turned)
    (on_ident (at a (taking a.link n)) (under s (keys_behind s.keys f)) owner f)
ClosesTurn handlers a R P (Open s served) =
    (f : Frame) (n : ℕ) → OpensAhead s.keys a.link f n
    → Always (λ (h : Hosted). TurnOf R (λ (row : IncomingRow). P (with_opened (opened_parts (sealed_ahead s.keys a.link)) row)) h.turned)
    (on_open handlers (at a (taking a.link n)) (under s (keys_behind s.keys f)) served f)

module _ (handlers : Handlers) (a : IncomingArrival) (R : List SealEntry → Type 0) (P : IncomingRow → Type 0)
    (none : R []) (opened : (keys : Keys) → R (opened_parts (sealed_ahead keys a.link))) where
  abbrev TurnSo : Deciding Hosted → Type 0
  TurnSo rule = Always (λ (h : Hosted). TurnOf R P h.turned) rule

  by_banner : (row : Link IncomingStage → List SealEntry → IncomingRow) → ((n : ℕ) → IsAhead a.link n → P (row (taking a.link n) []))
      → (r : Result (Option (Banner × ℕ)) BannerRefusal) → HasBytes r → Fits (length (ahead_of a.link)) r
      → TurnSo (no_session_moves (turned_by row (banner_read a.link r)))
  by_banner row each (Ok None) some le = tt
  by_banner row each (Ok (Some (b, n))) some le = each n (record { some = some; within = le })
  by_banner row each (Err why) some le = none

  by_plain : (row : Link IncomingStage × Frame → List SealEntry → IncomingRow) → ((f : Frame) (n : ℕ) → IsAhead a.link n → P (row (taking a.link n, f) []))
      → (r : Result (Option (Frame × ℕ)) FrameRefusal) → HasBytes r → Fits (length (ahead_of a.link)) r
      → TurnSo (no_session_moves (turned_by row (plain_read a.link r)))
  by_plain row each (Ok None) some le = tt
  by_plain row each (Ok (Some (f, n))) some le = each f n (record { some = some; within = le })
  by_plain row each (Err why) some le = none

  behind-so : (parts : List SealEntry) (h : Hosted) → TurnOf R (λ (row : IncomingRow). P (with_opened parts row)) h.turned
      → TurnOf R P (hosted_behind parts h).turned
  behind-so parts h = by_turned h.turned
    where
      by_turned : (turned : Turned MonClient IncomingStage) → TurnOf R (λ (row : IncomingRow). P (with_opened parts row)) turned → TurnOf R P (turned_behind parts turned)
      by_turned Waits k = tt
      by_turned (Refuses why broken) k = k
      by_turned (Handles row) k = k

  by_secure : (keys : Keys) (decide : Link IncomingStage × Frame × Keys → Deciding Hosted)
      → ((f : Frame) (n : ℕ) → OpensAhead keys a.link f n
      → Always (λ (h : Hosted). TurnOf R (λ (row : IncomingRow). P (with_opened (opened_parts (sealed_ahead keys a.link)) row)) h.turned)
      (decide (taking a.link n, f, keys_behind keys f)))
      → (r : Result (Option (Frame × ℕ)) SecureRefusal) → secure_frame_at (sealed_ahead keys a.link) ≡ r → HasBytes r → Fits (length (ahead_of a.link)) r
      → TurnSo (decided_by decide (secure_read keys a.link (opened_parts (sealed_ahead keys a.link)) r))
  by_secure keys decide each (Ok None) is some le = tt
  by_secure keys decide each (Ok (Some (f, n))) is some le =
      let parts : List SealEntry = opened_parts (sealed_ahead keys a.link) in
      let rule : Deciding Hosted = decide (taking a.link n, f, keys_behind keys f) in
      always-map (λ (h : Hosted). TurnOf R P h.turned) (hosted_behind parts) rule
      (always-weaker (λ (h : Hosted). TurnOf R (λ (row : IncomingRow). P (with_opened parts row)) h.turned) (λ (h : Hosted). TurnOf R P (hosted_behind parts h).turned)
      (behind-so parts) rule (each f n (record { ahead = record { some = some; within = le }; read = is })))
  by_secure keys decide each (Err why) is some le = opened keys

  by_signed : (s : Secured) (owner : Authority) → ClosesTurn handlers a R P (AwaitsSignature s owner)
      → (r : Result (Option (Frame × ℕ)) SecureRefusal) → secure_frame_at (sealed_ahead s.keys a.link) ≡ r → HasBytes r → Fits (length (ahead_of a.link)) r
      → TurnSo (no_session_moves (turned_by
      (λ (link, f, keys) parts. with_opened parts (on_signature (at a link) (under s keys) owner (due 7 auth_signature_layout.form f)))
      (secure_read s.keys a.link (opened_parts (sealed_ahead s.keys a.link)) r)))
  by_signed s owner each (Ok None) is some le = tt
  by_signed s owner each (Ok (Some (f, n))) is some le = each f n (record { ahead = record { some = some; within = le }; read = is })
  by_signed s owner each (Err why) is some le = opened s.keys

  pub incoming-turn : (stage : IncomingStage) → ClosesTurn handlers a R P stage → Always (λ (h : Hosted). TurnOf R P h.turned) (incoming_turned handlers a stage)
  incoming-turn AwaitsBanner each =
      let at_front = ahead_of a.link in
      by_banner (λ link _. on_banner a.own.name.kind (at a link)) each (banner_at at_front) (banner-has at_front) (banner-fits at_front)
  incoming-turn AwaitsHello each =
      by_plain (λ (link, f) _. on_hello (at a link) (due 1 hello_layout.form f)) each
      (plain_frame_at (ahead_of a.link)) (plain-has (ahead_of a.link)) (plain-fits (ahead_of a.link))
  incoming-turn AwaitsRequest each =
      by_plain (λ (link, f) _. on_auth_request on_first (at a link) (due 2 auth_request_layout.form f)) each
      (plain_frame_at (ahead_of a.link)) (plain-has (ahead_of a.link)) (plain-fits (ahead_of a.link))
  incoming-turn (AwaitsProof awaited) each =
      by_plain (λ (link, f) _. on_auth_request_more (at a link) awaited (due 5 auth_request_more_layout.form f)) each
      (plain_frame_at (ahead_of a.link)) (plain-has (ahead_of a.link)) (plain-fits (ahead_of a.link))
  incoming-turn (AwaitsSignature s owner) each =
      by_signed s owner each (secure_frame_at (sealed_ahead s.keys a.link)) refl (secure-has (sealed_ahead s.keys a.link)) (secure-fits (sealed_ahead s.keys a.link))
  incoming-turn (AwaitsIdent s owner) each =
      by_secure s.keys (λ (link, f, keys). on_ident (at a link) (under s keys) owner f) each
      (secure_frame_at (sealed_ahead s.keys a.link)) refl (secure-has (sealed_ahead s.keys a.link)) (secure-fits (sealed_ahead s.keys a.link))
  incoming-turn (Open s served) each =
      by_secure s.keys (λ (link, f, keys). on_open handlers (at a link) (under s keys) served f) each
      (secure_frame_at (sealed_ahead s.keys a.link)) refl (secure-has (sealed_ahead s.keys a.link)) (secure-fits (sealed_ahead s.keys a.link))

-- ---- a property of every row

-- what a row enters beside why its link is refused
pub data Enters (a : IncomingArrival) : Entry → Type 0 where
  EntersLook : Enters a (looked_entry a)
  EntersWhy : (why : Reason) → Enters a (refused_entry a.me a.link.number why)
  EntersAdmitted : (owner : Authority) (number epoch cookie : ℕ) → Enters a (entry.Admitted (admission_of a owner number epoch cookie))
  EntersResumed : (owner : Authority) (number epoch cookie : ℕ) → Enters a (entry.Resumed (admission_of a owner number epoch cookie))
  EntersHandled : (f : Frame) (served : Served) (i : Instruction) (outcome : Outcome) → instruction_of (message_in f) ≡ Ok i
      → Enters a (handled_entry a served i outcome)

-- what closes a property of all rows, whatever the stage of the link
pub record ClosesIncoming (P : IncomingArrival → IncomingRow → Type 0) : Type 0 where
  pub shut : (a : IncomingArrival) (why : Reason) (seals : List SealEntry) → P a (refuses a why seals)
  pub sent : (a : IncomingArrival) (row : IncomingRow) (bytes : List ℕ) → P a row → P a (record row { sends = bytes })
  pub went : (a : IncomingArrival) (stage : IncomingStage) (bytes : List ℕ) (seals : List SealEntry) → P a (goes_on a stage bytes seals)
  pub wrote : (a : IncomingArrival) (e : Entry) (row : IncomingRow) → Enters a e → P a row → P a (entered_before e row)
  pub opened : (a : IncomingArrival) (parts : List SealEntry) (row : IncomingRow) → P a row → P a (with_opened parts row)

module _ (P : IncomingArrival → IncomingRow → Type 0) (c : ClosesIncoming P) where
  closes-early : ClosesEarly P
  closes-early = record {
    shut = c.shut;
    denied = λ a code why seals. c.sent a (refuses a why seals) _ (c.shut a why seals);
    greeted = λ a bytes. c.went a AwaitsHello bytes [];
    heard = λ a. c.went a AwaitsRequest [] [];
    challenged = λ a awaited bytes seals. c.went a (AwaitsProof awaited) bytes seals;
    authorized = λ a s owner bytes seals. c.went a (AwaitsSignature s owner) bytes seals;
    looked = λ a row h. c.wrote a (looked_entry a) row EntersLook h;
  }

  secure-so : (a : IncomingArrival) (s : Secured) (stage : Secured → IncomingStage) (seals : List SealEntry) (r : Result SealedFrame BytesFault)
      → P a (secure_sent a s stage seals r)
  secure-so a s stage seals (Ok sealed) = c.went a _ sealed.bytes _
  secure-so a s stage seals (Err why) = c.shut a (reason.Bytes why) seals

  missing-so : (a : IncomingArrival) (features : ℕ) (r : Result SealedFrame BytesFault) → P a (missing_told a features r)
  missing-so a features (Err why) = c.shut a (reason.Bytes why) []
  missing-so a features (Ok sealed) =
      c.sent a (refuses_bytes a (Features features) sealed.seals) sealed.bytes (c.shut a (reason.Bytes (Features features)) sealed.seals)

  closes-ident : (a : IncomingArrival) (s : Secured) (owner : Authority) (f : Frame) (parts : List SealEntry)
      → ClosesIdent a s owner f (λ (row : IncomingRow). P a (with_opened parts row))
  closes-ident a s owner f parts = record {
    shut = λ why seals by. c.opened a parts (refuses a why seals) (c.shut a why seals);
    missed = λ features. c.opened a parts (misses a s features) (missing-so a features _);
    admitted = λ ident tag is number epoch. c.opened a parts (admits a s owner ident number epoch)
        (c.wrote a _ _ (EntersAdmitted owner number epoch ident.cookie) (secure-so a s (λ behind. Open behind (served_as owner number epoch ident.cookie (is_lossy ident.flags))) (cookie_drawn a ∷ []) _));
    resumed = λ again tag is number epoch last lossy. c.opened a parts (resumes a s owner again number epoch last lossy)
        (c.wrote a _ _ (EntersResumed owner number epoch again.client_cookie) (secure-so a s (λ behind. Open behind (served_as owner number epoch again.client_cookie lossy)) [] _));
    told = λ again tag is why x by. c.opened a parts
        (entered_before (refused_entry a.me a.link.number why) (sends_secure a s (λ behind. AwaitsIdent behind owner) [] x))
        (c.wrote a _ _ (EntersWhy why) (secure-so a s (λ behind. AwaitsIdent behind owner) [] (secure_frame s.keys x)));
  }

  closes-open : (handlers : Handlers) (a : IncomingArrival) (s : Secured) (served : Served) (f : Frame) (parts : List SealEntry)
      → ClosesOpen handlers a s served f (λ (row : IncomingRow). P a (with_opened parts row))
  closes-open handlers a s served f parts = record {
    shut = λ why by. c.opened a parts (refuses a why []) (c.shut a why []);
    kept_up = λ other x by. c.opened a parts (sends_secure a s (λ behind. Open behind served) [] x)
        (secure-so a s (λ behind. Open behind served) [] (secure_frame s.keys x));
    idled = λ other. c.opened a parts (goes_on a (Open s served) [] []) (c.went a (Open s served) [] []);
    handled = λ tag i is. c.opened a parts (handles a s served i (outcome_of handlers served.caps i.operation))
        (c.wrote a _ _ (EntersHandled f served i (outcome_of handlers served.caps i.operation) is) (secure-so a s (λ behind. Open behind served) [] _));
  }

  -- behind what was taken it is another one
  pub incoming-rows : (handlers : Handlers) (a : IncomingArrival) (Q : IncomingRow → Type 0)
      → ((n : ℕ) → IsAhead a.link n → (row : IncomingRow) → P (at a (taking a.link n)) row → Q row)
      → (stage : IncomingStage) → Always (λ (h : Hosted). EachRow Q h.turned) (incoming_turned handlers a stage)
  incoming-rows handlers a Q took stage =
      always-weaker (λ (h : Hosted). TurnOf Anything Q h.turned) (λ (h : Hosted). EachRow Q h.turned) (λ h. each-row Q h.turned) (incoming_turned handlers a stage)
      (incoming-turn handlers a Anything Q tt (λ keys. tt) stage (by_stage stage))
    where
      each-took : (n : ℕ) → IsAhead a.link n → (parts : List SealEntry) (rule : Deciding Hosted)
          → Always (λ (h : Hosted). TurnOf Anything (λ (row : IncomingRow). P (at a (taking a.link n)) (with_opened parts row)) h.turned) rule
          → Always (λ (h : Hosted). TurnOf Anything (λ (row : IncomingRow). Q (with_opened parts row)) h.turned) rule
      each-took n ahead parts rule =
          always-weaker (λ (h : Hosted). TurnOf Anything (λ (row : IncomingRow). P (at a (taking a.link n)) (with_opened parts row)) h.turned)
          (λ (h : Hosted). TurnOf Anything (λ (row : IncomingRow). Q (with_opened parts row)) h.turned)
          (λ h. turn-weaker Anything (λ (row : IncomingRow). P (at a (taking a.link n)) (with_opened parts row)) (λ (row : IncomingRow). Q (with_opened parts row))
          (λ row. took n ahead (with_opened parts row)) h.turned) rule

      by_stage : (st : IncomingStage) → ClosesTurn handlers a Anything Q st
      by_stage AwaitsBanner = λ n ahead. took n ahead _ (banner-so P closes-early (at a (taking a.link n)))
      by_stage AwaitsHello = λ f n ahead. took n ahead _ (hello-so P closes-early (at a (taking a.link n)) (due 1 hello_layout.form f))
      by_stage AwaitsRequest = λ f n ahead. took n ahead _ (request-so P closes-early (at a (taking a.link n)) (due 2 auth_request_layout.form f))
      by_stage (AwaitsProof awaited) = λ f n ahead. took n ahead _ (more-so P closes-early (at a (taking a.link n)) awaited (due 5 auth_request_more_layout.form f))
      by_stage (AwaitsSignature s owner) = λ f n is.
          let b : IncomingArrival = at a (taking a.link n) in
          let k : Secured = under s (keys_behind s.keys f) in
          let parts : List SealEntry = opened_parts (sealed_ahead s.keys a.link) in
          took n is.ahead _ (signature-so b k owner f (λ (row : IncomingRow). P b (with_opened parts row)) (record {
            shut = λ why by. c.opened b parts (refuses b why []) (c.shut b why []);
            waits = λ tag. c.opened b parts (goes_on b (AwaitsIdent k owner) [] (signature_found k ∷ [])) (c.went b (AwaitsIdent k owner) [] (signature_found k ∷ []));
          }))
      by_stage (AwaitsIdent s owner) = λ f n is.
          let b : IncomingArrival = at a (taking a.link n) in
          let k : Secured = under s (keys_behind s.keys f) in
          let parts : List SealEntry = opened_parts (sealed_ahead s.keys a.link) in
          each-took n is.ahead parts (on_ident b k owner f)
          (ident-so b k owner f Anything (λ (row : IncomingRow). P b (with_opened parts row)) (closes-ident b k owner f parts))
      by_stage (Open s served) = λ f n is.
          let b : IncomingArrival = at a (taking a.link n) in
          let k : Secured = under s (keys_behind s.keys f) in
          let parts : List SealEntry = opened_parts (sealed_ahead s.keys a.link) in
          each-took n is.ahead parts (on_open handlers b k served f)
          (open-so handlers b k served f Anything (λ (row : IncomingRow). P b (with_opened parts row)) (closes-open handlers b k served f parts))
