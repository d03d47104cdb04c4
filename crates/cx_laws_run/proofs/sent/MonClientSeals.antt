-- What one that logs in seals on its link to the monitor: each row seals nothing, or under the key with which its link goes on. That is no key of a link to a
-- daemon, so nothing that the connector of such a link could have said is sealed by it.
use Rattle.std.proofs.Common.{◌≡◌, ℕ, ◌+◌, ◌-◌, ◌^◌, ◌==◌, Bool, true, false, nat_lt, List, [], ◌∷◌, length, take, Option, Some, None, Result, Ok, Err, refl, ap, ◌∙◌, subst}
use Rattle.std.proofs.lemmas.Bool.{false_from_ne_true}
use Rattle.std.proofs.lemmas.Slice.Eq.{bytes_eq-Decides}
use Rattle.std.specs.Prelude.{◌&&◌, not, if◌then◌else◌}
use Rattle.std.specs.List.{AllByRecursion, cons_option}
use Rattle.std.specs.Str.{bytes_eq}
use Rattle.cx_base.specs.Names.{Name, is_daemon_type}
use Rattle.cx_base.specs.declared.nodes.NodeName.{NodeName}
use Rattle.cx_base.specs.declared.nodes.NodeName.TheVariants as node
use Rattle.cx_control.specs.Auth.{auth_done_layout, auth_reply_more_layout, auth_signature_layout}
use Rattle.cx_control.specs.BadMethod.{bad_method_layout}
use Rattle.cx_control.specs.Hello.{hello_layout}
use Rattle.cx_control.specs.Idents.{ident_missing_features_layout, server_ident_layout}
use Rattle.cx_control.specs.Upkeep.{keepalive2_layout, keepalive2_ack_layout}
use Rattle.cx_control.specs.declared.auth.AuthDone.{AuthDone}
use Rattle.cx_control.specs.declared.auth.AuthReplyMore.{AuthReplyMore}
use Rattle.cx_control.specs.declared.auth.AuthSignature.{AuthSignature}
use Rattle.cx_control.specs.declared.hello.Hello.{Hello}
use Rattle.cx_control.specs.declared.idents.IdentMissingFeatures.{IdentMissingFeatures}
use Rattle.cx_control.specs.declared.idents.ServerIdent.{ServerIdent}
use Rattle.cx_control.specs.declared.upkeep.Keepalive2.{Keepalive2}
use Rattle.cx_control.specs.declared.upkeep.Keepalive2Ack.{Keepalive2Ack}
use Rattle.cx_dice.specs.Draws.{cookie_of}
use Rattle.cx_enc.specs.Forms.{Form}
use Rattle.cx_frame.specs.Banners.{banner_at}
use Rattle.cx_frame.specs.Frames.{total}
use Rattle.cx_frame.specs.declared.banner.Banner.{Banner}
use Rattle.cx_frame.specs.declared.frame.Frame.{Frame}
use Rattle.cx_frame.specs.declared.refusals.BannerRefusal.{BannerRefusal}
use Rattle.cx_frame.specs.declared.refusals.FrameRefusal.{FrameRefusal}
use Rattle.cx_journal.specs.declared.faults.BytesFault.{BytesFault}
use Rattle.cx_journal.specs.declared.faults.BytesFault.TheVariants.{CounterSpent, TooLong, Unexpected}
use Rattle.cx_journal.specs.declared.faults.LoginFault.TheVariants.{Mode, SignatureWrong}
use Rattle.cx_journal.specs.declared.outcomes.Reason.TheVariants as reason
use Rattle.cx_journal.specs.declared.premises.KeyKind.{KeyKind}
use Rattle.cx_journal.specs.declared.premises.KeyKind.TheVariants as kind
use Rattle.cx_laws_sessions.specs.cx_login.specs.Held.{Held, held_as}
use Rattle.cx_laws_sessions.specs.cx_login.specs.Unlocking.{Unlocked, ◌>>=◌, going_on, login_in, login_of_parts, made, told, told_each, unlocked, unlocked_as}
use Rattle.cx_laws_sessions.specs.cx_login.specs.declared.client.LoggedIn.{LoggedIn}
use Rattle.cx_laws_sessions.specs.cx_rules.specs.Connector.{MonClientArrival, MonClientRow, Login as Opening, Stage, AwaitsBanner, AwaitsHello, AwaitsChallenge, AwaitsDone, AwaitsSignature, AwaitsIdent, Open, client_ident, holding, identifies, on_bad_method, on_banner, on_challenge, on_done, on_hello, on_login_done, on_missing_features, on_opened, on_reply_more, on_signature, proves, signs, turned_at, while_challenged, while_identified, while_proved}
use Rattle.cx_laws_sessions.specs.cx_rules.specs.Fronts.{ahead_of, banner_next, banner_read, keys_behind, opened_parts, plain_next, plain_read, sealed_ahead, secure_next, secure_read, taking}
use Rattle.cx_laws_sessions.specs.cx_rules.specs.Holdings.{MonClient, held_login}
use Rattle.cx_laws_sessions.specs.cx_rules.specs.Links.{Link}
use Rattle.cx_laws_sessions.specs.cx_rules.specs.Messages.{Message, body_as, message_in}
use Rattle.cx_laws_sessions.specs.cx_rules.specs.Payloads.{due, payload, whole}
use Rattle.cx_laws_sessions.specs.cx_rules.specs.Requests.{Requests, asks_rotating, behind_request, body_taken, message_taken, no_requests, on_open, on_reply, on_server_ident, reply_taken, rotating_taken, sealed_request, request_message, sends_request, takes, tickets_taken, unless_unsealed, waiting_taken}
use Rattle.cx_laws_sessions.specs.cx_rules.specs.Rows.{Arrival, Row, Turned, Waits, Refuses, Handles, at, goes_on, plain_sent, refuses, secure_sent, sends_secure, turned_by, with_opened}
use Rattle.cx_laws_sessions.specs.cx_rules.specs.Secured.{Keys, SealedFrame, Secured, connector_keys, is_signed, part_seals, sealed_under, secure_frame, signature_found, signed_frame, signing, under}
use Rattle.cx_laws_sessions.specs.cx_rules.specs.Upkeep.{on_keepalive, on_keepalive_ack}
use Rattle.cx_laws_sessions.specs.cx_rules.specs.declared.messages.Body.{Body}
use Rattle.cx_laws_sessions.specs.cx_rules.specs.declared.messages.Body.TheVariants as body
use Rattle.cx_laws_sessions.specs.cx_rules.specs.declared.requests.Taken.{Taken}
use Rattle.cx_laws_sessions.specs.cx_rules.specs.declared.requests.Taken.TheVariants as taken
use Rattle.cx_laws_sessions.specs.cx_rules.specs.declared.requests.Waiting.{Waiting}
use Rattle.cx_laws_sessions.specs.cx_rules.specs.declared.requests.Want.{Want}
use Rattle.cx_laws_sessions.specs.cx_rules.specs.declared.requests.Want.TheVariants as want
use Rattle.cx_laws_sessions.specs.cx_sealed.specs.Records.{connection_secret_layout, rotating_reply_layout, ticket_info_layout}
use Rattle.cx_laws_sessions.specs.cx_sealed.specs.Unsealing.{unsealed}
use Rattle.cx_laws_sessions.specs.cx_sealed.specs.declared.rotating_reply.RotatingReply.{RotatingReply}
use Rattle.cx_laws_sessions.specs.cx_sealed.specs.declared.unsealed.Unsealed.{Unsealed}
use Rattle.cx_laws_links.specs.cx_secure.specs.Plains.{plains}
use Rattle.cx_laws_links.specs.cx_secure.specs.declared.refusals.SecureRefusal.{SecureRefusal}
use Rattle.cx_steps.specs.declared.seals.DrawMark.TheVariants as draw
use Rattle.cx_steps.specs.declared.seals.SealEntry.{SealEntry}
use Rattle.cx_steps.specs.declared.seals.SealEntry.TheVariants as entry
use Rattle.cx_laws_sessions.specs.cx_stream.specs.PlainStreams.{plain_frame_at}
use Rattle.cx_laws_sessions.specs.cx_stream.specs.SecureStreams.{secure_frame_at}
use Rattle.cx_laws_sessions.specs.cx_wire.specs.Bodies.{reply_layout}
use Rattle.cx_laws_sessions.specs.cx_wire.specs.Logins.{login_done_layout}
use Rattle.cx_laws_sessions.specs.cx_wire.specs.declared.bodies.Reply.{Reply}
use Rattle.cx_laws_sessions.specs.cx_wire.specs.declared.bodies.Reply.TheVariants as given
use Rattle.cx_laws_sessions.specs.cx_wire.specs.declared.bodies.Request.{Request}
use Rattle.cx_laws_sessions.specs.cx_wire.specs.declared.bodies.Request.TheVariants as asked
use Rattle.cx_laws_sessions.specs.cx_wire.specs.declared.logins.LoginDone.{LoginDone}
use Rattle.cx_laws_sessions.specs.cx_wire.specs.declared.logins.ServerChallenge.{ServerChallenge}
use Rattle.cx_laws_sessions.specs.cx_wire.specs.declared.tickets.TicketPart.{TicketPart}
use Rattle.cx_laws_run.specs.cx_laws_keys.proofs.keys.Lists.{all-append}
use Rattle.cx_laws_run.specs.cx_laws_keys.proofs.keys.Uses.{AtDaemon, AtMonitor, Connected, Means, Use, Uses}
use Rattle.cx_laws_run.specs.cx_laws_keys.proofs.login.Facts.{MonClientStageOk, HasMonitorKey}
use Rattle.cx_laws_links.specs.cx_laws_keys.proofs.series.Contents.{content_where, contents_by}
use Rattle.cx_laws_links.proofs.links.CallTells.{quiet-none}
use Rattle.cx_laws_links.proofs.links.CallTurn.{quiet-opened}
use Rattle.cx_laws_links.proofs.links.CallWords.{AreQuiet, quiet-append}
use Rattle.cx_laws_links.proofs.links.Written.{IsLinkKey}

-- ---- sealed under one key

-- what is sealed is so under this key
abbrev pub IsUnder : List ℕ → SealEntry → Type 0
IsUnder key (entry.Sealed mark) = mark.key ≡ key
IsUnder key (entry.Signed mark) = Unit {0}
IsUnder key (entry.Opened mark) = Unit {0}
IsUnder key (entry.Checked mark) = Unit {0}
IsUnder key (entry.Drawn mark) = Unit {0}

abbrev pub AreUnder : List ℕ → List SealEntry → Type 0
AreUnder key es = AllByRecursion (IsUnder key) es

quiet-under : (key : List ℕ) (es : List SealEntry) → AreQuiet es → AreUnder key es
quiet-under key [] h = tt
quiet-under key (entry.Sealed mark ∷ es) h = absurd h.0
quiet-under key (entry.Signed mark ∷ es) h = (tt, quiet-under key es h.1)
quiet-under key (entry.Opened mark ∷ es) h = (tt, quiet-under key es h.1)
quiet-under key (entry.Checked mark ∷ es) h = (tt, quiet-under key es h.1)
quiet-under key (entry.Drawn mark ∷ es) h = (tt, quiet-under key es h.1)

parts-under : (key fixed : List ℕ) (counter : ℕ) (texts : List (List ℕ)) → AreUnder key (part_seals key fixed counter texts)
parts-under key fixed counter [] = tt
parts-under key fixed counter (text ∷ texts) = (refl, parts-under key fixed (counter + 1) texts)

-- so are the parts of a frame, and the keys behind it have that key
abbrev FrameUnder : Keys → Result SealedFrame BytesFault → Type 0
FrameUnder keys (Ok sealed) = AreUnder keys.key sealed.seals × (sealed.keys.key ≡ keys.key)
FrameUnder keys (Err why) = Unit {0}

frame-under : (keys : Keys) (f : Frame) → FrameUnder keys (secure_frame keys f)
frame-under keys f = by_tests (nat_lt (2 ^ 64 - 1) (keys.out.counter + length (plains f))) (nat_lt 1048576 (total f))
  where
    by_tests : (spent long : Bool) → FrameUnder keys (if spent then Err CounterSpent else if long then Err TooLong else Ok (sealed_under keys f))
    by_tests true long = tt
    by_tests false true = tt
    by_tests false false = (parts-under keys.key keys.out.fixed keys.out.counter (plains f), refl)

signed-under : (keys : Keys) (session received : List ℕ) (r : Result SealedFrame BytesFault) → FrameUnder keys r → FrameUnder keys (signing session received r)
signed-under keys session received (Ok sealed) h = ((tt, h.0), h.1)
signed-under keys session received (Err why) h = tt

-- ---- rows

-- the key of a link to the monitor behind authentication
abbrev pub HasKey : Stage → List ℕ → Type 0
HasKey (AwaitsSignature s login) key = s.keys.key ≡ key
HasKey (AwaitsIdent s session) key = s.keys.key ≡ key
HasKey (Open s requests) key = s.keys.key ≡ key
HasKey _ key = ⊥

-- a row seals nothing, or under the key with which its link goes on
pub data SealsOwn {Own S : Type 0} (kept : S → List ℕ → Type 0) (row : Row Own S) : Type 0 where
  SealsNone : AreQuiet row.seals → SealsOwn kept row
  SealsUnder : (key : List ℕ) (link : Link S) → row.link ≡ Some link → kept link.stage key → AreUnder key row.seals → SealsOwn kept row

module _ {Own S : Type 0} (kept : S → List ℕ → Type 0) (a : Arrival Own S) where
  plain-seals : (stage : S) (seals : List SealEntry) (r : Result (List ℕ) BytesFault) → AreQuiet seals → SealsOwn kept (plain_sent a stage seals r)
  plain-seals stage seals (Ok bytes) quiet = SealsNone quiet
  plain-seals stage seals (Err why) quiet = SealsNone quiet

  secure-seals : (s : Secured) (stage : Secured → S) (seals : List SealEntry) (f : Frame) → AreQuiet seals → ((t : Secured) → kept (stage t) t.keys.key)
      → SealsOwn kept (sends_secure a s stage seals f)
  secure-seals s stage seals f quiet keyed = by_sent (secure_frame s.keys f) (frame-under s.keys f)
    where
      by_sent : (r : Result SealedFrame BytesFault) → FrameUnder s.keys r → SealsOwn kept (secure_sent a s stage seals r)
      by_sent (Ok sealed) h =
          let t : Secured = record s { keys = sealed.keys } in
          SealsUnder s.keys.key (record a.link { stage = stage t }) refl (subst (λ (key : List ℕ). kept (stage t) key) h.1 (keyed t))
          (all-append (IsUnder s.keys.key) seals sealed.seals (quiet-under s.keys.key seals quiet) h.0)
      by_sent (Err why) h = SealsNone quiet

behind-seals : {Own S : Type 0} (kept : S → List ℕ → Type 0) (opened : List SealEntry) (row : Row Own S) → AreQuiet opened → SealsOwn kept row → SealsOwn kept (with_opened opened row)
behind-seals kept opened row quiet (SealsNone h) = SealsNone (quiet-append opened row.seals quiet h)
behind-seals kept opened row quiet (SealsUnder key link is keyed h) =
    SealsUnder key link is keyed (all-append (IsUnder key) opened row.seals (quiet-under key opened quiet) h)

-- a request is sent, however the open stage is called
module _ {S : Type 0} (kept : S → List ℕ → Type 0) (open_with : Secured → Requests → S) (keyed : (t : Secured) (r : Requests) → kept (open_with t r) t.keys.key) where
  pub request-seals : (a : Arrival MonClient S) (s : Secured) (requests : Requests) (asked : Want) (request : Request)
      → SealsOwn kept (sends_request open_with a s requests asked (sealed_request s.keys requests request))
  request-seals a s requests asked request = by_count (requests.count == 2 ^ 64 - 1)
    where
      by_sent : (r : Result SealedFrame BytesFault) → FrameUnder s.keys r → SealsOwn kept (sends_request open_with a s requests asked (unless_unsealed r))
      by_sent (Ok sealed) h =
          let t : Secured = under s sealed.keys in
          let next : Requests = behind_request requests asked in
          SealsUnder s.keys.key (record a.link { stage = open_with t next }) refl (subst (λ (key : List ℕ). kept (open_with t next) key) h.1 (keyed t next)) h.0
      by_sent (Err why) h = SealsNone tt

      by_count : (spent : Bool) → SealsOwn kept (sends_request open_with a s requests asked
          (if spent then Err reason.Spent else unless_unsealed (secure_frame s.keys (request_message (requests.count + 1) request))))
      by_count true = SealsNone tt
      by_count false = by_sent (secure_frame s.keys (request_message (requests.count + 1) request)) (frame-under s.keys (request_message (requests.count + 1) request))

-- ---- what a login opens

unlocked-quiet : {X : Type 0} (form : Form X) (k : KeyKind) (key bytes : List ℕ) → AreQuiet (unlocked form k key bytes).seals
unlocked-quiet {X} form k key bytes = by_opened (unsealed form key bytes)
  where
    by_opened : (found : Option (Unsealed X)) → AreQuiet (unlocked_as k key found).seals
    by_opened None = tt
    by_opened (Some u) = (tt, tt)

quiet-then : {A B : Type 0} (first : Unlocked A) (next : A → Unlocked B) → AreQuiet first.seals → ((a : A) → AreQuiet (next a).seals) → AreQuiet (first >>= next).seals
quiet-then {A} {B} first next quiet more = by_value first.value
  where
    by_value : (v : Option A) → AreQuiet (going_on first.seals v next).seals
    by_value None = quiet
    by_value (Some a) = quiet-append first.seals (next a).seals quiet (more a)

told-quiet : (k : KeyKind) (key : List ℕ) (part : TicketPart) → AreQuiet (told k key part).seals
told-quiet k key part = quiet-then (unlocked ticket_info_layout.form k key part.info) (λ info. made (held_as part info)) (unlocked-quiet ticket_info_layout.form k key part.info) (λ info. tt)

each-quiet : (key : List ℕ) (parts : List TicketPart) → AreQuiet (told_each key parts).seals
each-quiet key [] = tt
each-quiet key (part ∷ parts) =
    quiet-then (told kind.Session key part) (λ held. told_each key parts >>= λ rest. made (held ∷ rest)) (told-quiet kind.Session key part)
    (λ held. quiet-then (told_each key parts) (λ rest. made (held ∷ rest)) (each-quiet key parts) (λ rest. tt))

login-quiet : (secret : List ℕ) (parts : List TicketPart) (connection : List ℕ) → AreQuiet (login_of_parts secret parts connection).seals
login-quiet secret [] connection = tt
login-quiet secret (first ∷ parts) connection =
    quiet-then (told kind.Principal secret first)
    (λ auth. told_each auth.session parts >>= λ tickets. unlocked connection_secret_layout.form kind.Session auth.session connection >>= λ opened. made (record { auth = auth; tickets = tickets; secret = opened.secret }))
    (told-quiet kind.Principal secret first)
    (λ auth. quiet-then (told_each auth.session parts)
    (λ tickets. unlocked connection_secret_layout.form kind.Session auth.session connection >>= λ opened. made (record { auth = auth; tickets = tickets; secret = opened.secret }))
    (each-quiet auth.session parts)
    (λ tickets. quiet-then (unlocked connection_secret_layout.form kind.Session auth.session connection) (λ opened. made (record { auth = auth; tickets = tickets; secret = opened.secret }))
    (unlocked-quiet connection_secret_layout.form kind.Session auth.session connection) (λ opened. tt)))

-- ---- what a reply is taken for

abbrev QuietlyTaken : Taken → Type 0
QuietlyTaken (taken.Refuses why opened) = AreQuiet opened
QuietlyTaken (taken.Holds held opened) = AreQuiet opened
QuietlyTaken (taken.Views reading generations opened) = AreQuiet opened

tickets-quiet : (opened : List SealEntry) (value : Option (List Held)) → AreQuiet opened → QuietlyTaken (tickets_taken opened value)
tickets-quiet opened None quiet = quiet
tickets-quiet opened (Some held) quiet = quiet

rotating-quiet : (reading : ℕ) (opened : List SealEntry) (value : Option RotatingReply) → AreQuiet opened → QuietlyTaken (rotating_taken reading opened value)
rotating-quiet reading opened None quiet = quiet
rotating-quiet reading opened (Some reply) quiet = quiet

module _ (secret : List ℕ) where
  reply-quiet : (session : List ℕ) (asked : Want) (reply : Reply) → QuietlyTaken (reply_taken secret session asked reply)
  reply-quiet session want.Tickets (given.Tickets parts) = tickets-quiet (told_each session parts).seals (told_each session parts).value (each-quiet session parts)
  reply-quiet session want.Tickets (given.Rotating sealed) = tt
  reply-quiet session (want.Rotating reading) (given.Rotating sealed) =
      let opened = unlocked rotating_reply_layout.form kind.Principal secret sealed in
      rotating-quiet reading opened.seals opened.value (unlocked-quiet rotating_reply_layout.form kind.Principal secret sealed)
  reply-quiet session (want.Rotating reading) (given.Tickets parts) = tt

  waiting-quiet : (session : List ℕ) (waiting : List Waiting) (tid : ℕ) (reply : Reply) → QuietlyTaken (waiting_taken secret session waiting tid reply)
  waiting-quiet session [] tid reply = tt
  waiting-quiet session (first ∷ rest) tid reply = by_test (tid == first.tid)
    where
      by_test : (t : Bool) → QuietlyTaken (if t then reply_taken secret session first.want reply else taken.Refuses reason.BadReply [])
      by_test true = reply-quiet session first.want reply
      by_test false = tt

  body-quiet : (requests : Requests) (tid : ℕ) (b : Body Reply) → QuietlyTaken (body_taken secret requests tid b)
  body-quiet requests tid (body.Spelled reply) = waiting-quiet requests.session requests.waiting tid reply
  body-quiet requests tid body.OtherCode = tt
  body-quiet requests tid (body.Misspelled why) = tt

  message-quiet : (requests : Requests) (m : Result Message BytesFault) → QuietlyTaken (message_taken secret requests m)
  message-quiet requests (Err why) = tt
  message-quiet requests (Ok m) = by_test (m.header.type_ == 18)
    where
      by_test : (t : Bool) → QuietlyTaken (if t then body_taken secret requests m.header.tid (body_as reply_layout.form m.body) else taken.Refuses (reason.Bytes (Unexpected 17)) [])
      by_test true = body-quiet requests m.header.tid (body_as reply_layout.form m.body)
      by_test false = tt

-- ---- rows of a link to the monitor

abbrev pub MonClientSeals : MonClientRow → Type 0
MonClientSeals row = SealsOwn HasKey row

module _ (a : MonClientArrival) where
  hello-seals : (asked : ℕ) (read : Result Hello BytesFault) → MonClientSeals (on_hello a asked read)
  hello-seals asked (Err why) = SealsNone tt
  hello-seals asked (Ok hello) = plain-seals HasKey a (AwaitsChallenge asked) [] _ tt

  proves-seals : (server : ℕ) (r : Result (List ℕ) BytesFault) → MonClientSeals (proves a server r)
  proves-seals server (Err why) = SealsNone (tt, tt)
  proves-seals server (Ok bytes) = SealsNone (tt, (tt, tt))

  challenge-seals : (asked : ℕ) (read : Result ServerChallenge BytesFault) → MonClientSeals (on_challenge a asked read)
  challenge-seals asked (Err why) = SealsNone tt
  challenge-seals asked (Ok server) = proves-seals server.challenge _

  reply_more-seals : (asked : ℕ) (read : Result AuthReplyMore BytesFault) → MonClientSeals (on_reply_more a asked read)
  reply_more-seals asked (Err why) = SealsNone tt
  reply_more-seals asked (Ok more) = challenge-seals asked _

  bad_method-seals : (read : Result (ℕ × (ℕ × (List ℕ × List ℕ))) BytesFault) → MonClientSeals (on_bad_method a read)
  bad_method-seals (Err why) = SealsNone tt
  bad_method-seals (Ok fields) = SealsNone tt

  challenged-seals : (asked : ℕ) (f : Frame) → MonClientSeals (while_challenged a asked f)
  challenged-seals asked f = by_test (f.tag == 3)
    where
      by_test : (denied : Bool) → MonClientSeals (if denied then on_bad_method a (payload bad_method_layout.form f) else on_reply_more a asked (due 4 auth_reply_more_layout.form f))
      by_test true = bad_method-seals (payload bad_method_layout.form f)
      by_test false = reply_more-seals asked (due 4 auth_reply_more_layout.form f)

  signs-seals : (login : Opening) (opened : List SealEntry) (keys : Keys) (r : Result SealedFrame BytesFault) → AreQuiet opened → FrameUnder keys r → MonClientSeals (signs a login opened r)
  signs-seals login opened keys (Err why) quiet h = SealsNone quiet
  signs-seals login opened keys (Ok sealed) quiet h =
      let s : Secured = record { keys = sealed.keys; session = login.opened.auth.session; covered = a.link.sent } in
      SealsUnder keys.key (record a.link { stage = AwaitsSignature s login }) refl h.1
      (all-append (IsUnder keys.key) opened sealed.seals (quiet-under keys.key opened quiet) h.0)

  opened-seals : (gid : ℕ) (opened : List SealEntry) (value : Option LoggedIn) → AreQuiet opened → MonClientSeals (on_opened a gid opened value)
  opened-seals gid opened None quiet = SealsNone quiet
  opened-seals gid opened (Some x) quiet =
      let keys : Keys = connector_keys x.secret in
      let received : List ℕ = take a.link.taken a.link.received in
      signs-seals (record { gid = gid; opened = x }) opened keys (signed_frame keys x.auth.session received) quiet
      (signed-under keys x.auth.session received (secure_frame keys _) (frame-under keys _))

  login_done-seals : (gid : ℕ) (read : Result LoginDone BytesFault) → MonClientSeals (on_login_done a gid read)
  login_done-seals gid (Err why) = SealsNone tt
  login_done-seals gid (Ok done) =
      let u : Unlocked LoggedIn = login_in a.own.secret done in opened-seals gid u.seals u.value (login-quiet a.own.secret done.tickets done.connection_secret)

  done-seals : (read : Result AuthDone BytesFault) → MonClientSeals (on_done a read)
  done-seals (Err why) = SealsNone tt
  done-seals (Ok done) = by_test (not (done.mode == 2))
    where
      by_test : (t : Bool) → MonClientSeals (if t then refuses a (reason.Login Mode) [] else on_login_done a done.gid (whole login_done_layout.form done.payload))
      by_test true = SealsNone tt
      by_test false = login_done-seals done.gid (whole login_done_layout.form done.payload)

  proved-seals : (f : Frame) → MonClientSeals (while_proved a f)
  proved-seals f = by_test (f.tag == 3)
    where
      by_test : (denied : Bool) → MonClientSeals (if denied then on_bad_method a (payload bad_method_layout.form f) else on_done a (due 6 auth_done_layout.form f))
      by_test true = bad_method-seals (payload bad_method_layout.form f)
      by_test false = done-seals (due 6 auth_done_layout.form f)

  signature-seals : (s : Secured) (login : Opening) (read : Result AuthSignature BytesFault) → MonClientSeals (on_signature a s login read)
  signature-seals s login (Err why) = SealsNone tt
  signature-seals s login (Ok found) = by_test (is_signed s found.signature)
    where
      by_test : (right : Bool) → MonClientSeals (if right then identifies a s login else refuses a (reason.Login SignatureWrong) [])
      by_test true =
          secure-seals HasKey (holding a (held_login a.own.holdings login.gid login.opened)) s (λ behind. AwaitsIdent behind login.opened.auth.session)
          (signature_found s ∷ entry.Drawn (draw.Cookie (cookie_of a.draw)) ∷ []) (client_ident a.own login.gid 1 (cookie_of a.draw)) (tt, (tt, tt)) (λ t. refl)
      by_test false = SealsNone tt

  server_ident-seals : (s : Secured) (session : List ℕ) (read : Result ServerIdent BytesFault) → MonClientSeals (on_server_ident Open a s session read)
  server_ident-seals s session (Err why) = SealsNone tt
  server_ident-seals s session (Ok ident) = by_test (is_daemon_type a.own.name.kind)
    where
      by_test : (daemon : Bool) → MonClientSeals (if daemon then asks_rotating Open a s (no_requests session) else goes_on a (Open s (no_requests session)) [] [])
      by_test true = request-seals HasKey Open (λ t r. refl) a s (no_requests session) (want.Rotating a.reading) asked.Rotating
      by_test false = SealsNone tt

  missing-seals : (read : Result IdentMissingFeatures BytesFault) → MonClientSeals (on_missing_features a read)
  missing-seals (Err why) = SealsNone tt
  missing-seals (Ok missing) = SealsNone tt

  identified-seals : (s : Secured) (session : List ℕ) (f : Frame) → MonClientSeals (while_identified a s session f)
  identified-seals s session f = by_test (f.tag == 10)
    where
      by_test : (lacks : Bool) → MonClientSeals (if lacks then on_missing_features a (payload ident_missing_features_layout.form f)
          else on_server_ident Open a s session (due 9 server_ident_layout.form f))
      by_test true = missing-seals (payload ident_missing_features_layout.form f)
      by_test false = server_ident-seals s session (due 9 server_ident_layout.form f)

  keepalive-seals : (s : Secured) (requests : Requests) (read : Result Keepalive2 BytesFault) → MonClientSeals (on_keepalive a s (λ behind. Open behind requests) read)
  keepalive-seals s requests (Err why) = SealsNone tt
  keepalive-seals s requests (Ok keepalive) = secure-seals HasKey a s (λ behind. Open behind requests) [] _ tt (λ t. refl)

  keepalive_ack-seals : (s : Secured) (requests : Requests) (read : Result Keepalive2Ack BytesFault) → MonClientSeals (on_keepalive_ack a s (λ behind. Open behind requests) read)
  keepalive_ack-seals s requests (Err why) = SealsNone tt
  keepalive_ack-seals s requests (Ok ack) = SealsNone tt

  takes-seals : (s : Secured) (requests : Requests) (t : Taken) → QuietlyTaken t → MonClientSeals (takes Open a s requests t)
  takes-seals s requests (taken.Refuses why opened) quiet = SealsNone quiet
  takes-seals s requests (taken.Holds held opened) quiet = SealsNone quiet
  takes-seals s requests (taken.Views reading generations opened) quiet = SealsNone quiet

  open-seals : (s : Secured) (requests : Requests) (f : Frame) → MonClientSeals (on_open Open a s requests f)
  open-seals s requests f = by_tests (f.tag == 18) (f.tag == 19)
    where
      by_tests : (ask ack : Bool) → MonClientSeals (if ask then on_keepalive a s (λ behind. Open behind requests) (payload keepalive2_layout.form f)
          else if ack then on_keepalive_ack a s (λ behind. Open behind requests) (payload keepalive2_ack_layout.form f) else on_reply Open a s requests f)
      by_tests true ack = keepalive-seals s requests (payload keepalive2_layout.form f)
      by_tests false true = keepalive_ack-seals s requests (payload keepalive2_ack_layout.form f)
      by_tests false false = takes-seals s requests (message_taken a.own.secret requests (message_in f)) (message-quiet a.own.secret requests (message_in f))

-- ---- a turn

-- what is so of a turn: where it refuses, only what opened is told; and its row
abbrev pub TurnSeals : {Own S : Type 0} → (Row Own S → Type 0) → Turned Own S → Type 0
TurnSeals P Waits = Unit {0}
TurnSeals P (Refuses why opened) = AreQuiet opened
TurnSeals P (Handles row) = P row

module _ {Own S : Type 0} (P : Row Own S → Type 0) (link : Link S) where
  banner-turn : (row : Link S → List SealEntry → Row Own S) → ((n : ℕ) → P (row (taking link n) [])) → TurnSeals P (turned_by row (banner_next link))
  banner-turn row each = by_read (banner_at (ahead_of link))
    where
      by_read : (r : Result (Option (Banner × ℕ)) BannerRefusal) → TurnSeals P (turned_by row (banner_read link r))
      by_read (Ok None) = tt
      by_read (Ok (Some (b, n))) = each n
      by_read (Err e) = tt

  plain-turn : (row : Link S × Frame → List SealEntry → Row Own S) → ((f : Frame) (n : ℕ) → P (row (taking link n, f) [])) → TurnSeals P (turned_by row (plain_next link))
  plain-turn row each = by_read (plain_frame_at (ahead_of link))
    where
      by_read : (r : Result (Option (Frame × ℕ)) FrameRefusal) → TurnSeals P (turned_by row (plain_read link r))
      by_read (Ok None) = tt
      by_read (Ok (Some (f, n))) = each f n
      by_read (Err e) = tt

  secure-turn : (keys : Keys) (row : Link S × Frame × Keys → List SealEntry → Row Own S)
      → ((f : Frame) (n : ℕ) → P (row (taking link n, f, keys_behind keys f) (opened_parts (sealed_ahead keys link)))) → TurnSeals P (turned_by row (secure_next keys link))
  secure-turn keys row each = by_read (secure_frame_at (sealed_ahead keys link))
    where
      by_read : (r : Result (Option (Frame × ℕ)) SecureRefusal) → TurnSeals P (turned_by row (secure_read keys link (opened_parts (sealed_ahead keys link)) r))
      by_read (Ok None) = tt
      by_read (Ok (Some (f, n))) = each f n
      by_read (Err e) = quiet-opened (sealed_ahead keys link)

pub mon_client-seals : (a : MonClientArrival) (stage : Stage) → TurnSeals MonClientSeals (turned_at a stage)
mon_client-seals a (AwaitsBanner asked) = banner-turn MonClientSeals a.link (λ link _. on_banner (at a link) asked) (λ n. plain-seals HasKey (at a (taking a.link n)) (AwaitsHello asked) [] _ tt)
mon_client-seals a (AwaitsHello asked) =
    plain-turn MonClientSeals a.link (λ (link, f) _. on_hello (at a link) asked (due 1 hello_layout.form f)) (λ f n. hello-seals (at a (taking a.link n)) asked (due 1 hello_layout.form f))
mon_client-seals a (AwaitsChallenge asked) = plain-turn MonClientSeals a.link (λ (link, f) _. while_challenged (at a link) asked f) (λ f n. challenged-seals (at a (taking a.link n)) asked f)
mon_client-seals a AwaitsDone = plain-turn MonClientSeals a.link (λ (link, f) _. while_proved (at a link) f) (λ f n. proved-seals (at a (taking a.link n)) f)
mon_client-seals a (AwaitsSignature s login) =
    secure-turn MonClientSeals a.link s.keys (λ (link, f, keys) opened. with_opened opened (on_signature (at a link) (under s keys) login (due 7 auth_signature_layout.form f)))
    (λ f n. behind-seals HasKey (opened_parts (sealed_ahead s.keys a.link)) _ (quiet-opened (sealed_ahead s.keys a.link))
    (signature-seals (at a (taking a.link n)) (under s (keys_behind s.keys f)) login (due 7 auth_signature_layout.form f)))
mon_client-seals a (AwaitsIdent s session) =
    secure-turn MonClientSeals a.link s.keys (λ (link, f, keys) opened. with_opened opened (while_identified (at a link) (under s keys) session f))
    (λ f n. behind-seals HasKey (opened_parts (sealed_ahead s.keys a.link)) _ (quiet-opened (sealed_ahead s.keys a.link))
    (identified-seals (at a (taking a.link n)) (under s (keys_behind s.keys f)) session f))
mon_client-seals a (Open s requests) =
    secure-turn MonClientSeals a.link s.keys (λ (link, f, keys) opened. with_opened opened (on_open Open (at a link) (under s keys) requests f))
    (λ f n. behind-seals HasKey (opened_parts (sealed_ahead s.keys a.link)) _ (quiet-opened (sealed_ahead s.keys a.link))
    (open-seals (at a (taking a.link n)) (under s (keys_behind s.keys f)) requests f))

-- ---- under which key of a link to a daemon nothing is sealed

-- the key of a stage that is known is one that the monitor made
pub monitor_key-of : (vs : Uses) (n : NodeName) (stage : Stage) (key : List ℕ) → MonClientStageOk vs n stage → HasKey stage key → HasMonitorKey vs n key
monitor_key-of vs n (AwaitsSignature s login) key h same = subst (λ (k : List ℕ). HasMonitorKey vs n k) same h
monitor_key-of vs n (AwaitsIdent s session) key h same = subst (λ (k : List ℕ). HasMonitorKey vs n k) same h
monitor_key-of vs n (Open s requests) key h same = subst (λ (k : List ℕ). HasMonitorKey vs n k) same h
monitor_key-of vs n (AwaitsBanner asked) key h same = absurd same
monitor_key-of vs n (AwaitsHello asked) key h same = absurd same
monitor_key-of vs n (AwaitsChallenge asked) key h same = absurd same
monitor_key-of vs n AwaitsDone key h same = absurd same

module _ (vs : Uses) (n : NodeName) (one : (k : List ℕ) (u v : Use) → Means vs k u → Means vs k v → u ≡ v) (other : List ℕ) (whose : Name) (tie : ℕ) (is : IsLinkKey vs other whose tie) where
  -- such a key is that of no link to a daemon
  pub monitor-apart : (key : List ℕ) → HasMonitorKey vs n key → bytes_eq key other ≡ false
  monitor-apart key h = false_from_ne_true (bytes_eq key other) (λ e. ties-apart (uses ((bytes_eq-Decides key other).0 e)))
    where
      ties-apart : Connected node.Monitor h.login.number h.name (AtMonitor h.login.challenge) ≡ Connected is.acceptor is.number whose (AtDaemon is.service tie) → ⊥
      ties-apart e = cc

      uses : key ≡ other → Connected node.Monitor h.login.number h.name (AtMonitor h.login.challenge) ≡ Connected is.acceptor is.number whose (AtDaemon is.service tie)
      uses same =
          one other (Connected node.Monitor h.login.number h.name (AtMonitor h.login.challenge)) (Connected is.acceptor is.number whose (AtDaemon is.service tie))
          (subst (λ (k : List ℕ). Means vs k (Connected node.Monitor h.login.number h.name (AtMonitor h.login.challenge))) same h.login.means) is.means

  -- what is sealed under another key is nothing there
  under-none : (test : List ℕ → Bool) (key : List ℕ) → bytes_eq key other ≡ false → (es : List SealEntry) → AreUnder key es → contents_by other test es ≡ []
  under-none test key apart [] h = refl
  under-none test key apart (entry.Sealed mark ∷ es) h =
      let off : bytes_eq mark.key other ≡ false = ap (λ (k : List ℕ). bytes_eq k other) h.0 ∙ apart in
      ap (λ (t : Bool). cons_option (content_where (t && test mark.content) mark.content) (contents_by other test es)) off ∙ under-none test key apart es h.1
  under-none test key apart (entry.Signed mark ∷ es) h = under-none test key apart es h.1
  under-none test key apart (entry.Opened mark ∷ es) h = under-none test key apart es h.1
  under-none test key apart (entry.Checked mark ∷ es) h = under-none test key apart es h.1
  under-none test key apart (entry.Drawn mark ∷ es) h = under-none test key apart es h.1

  -- a row whose link goes on with a key that the monitor made
  pub row-none : (test : List ℕ → Bool) {Own S : Type 0} (kept : S → List ℕ → Type 0) (row : Row Own S) → SealsOwn kept row
      → ((link : Link S) (key : List ℕ) → row.link ≡ Some link → kept link.stage key → HasMonitorKey vs n key) → contents_by other test row.seals ≡ []
  row-none test kept row (SealsNone quiet) known = quiet-none other test row.seals quiet
  row-none test kept row (SealsUnder key link goes keyed h) known = under-none test key (monitor-apart key (known link key goes keyed)) row.seals h
