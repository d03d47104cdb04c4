-- What each link of the monitor heard, until its entity's signature: a banner, and the frames of a login.
use Rattle.std.proofs.Common.{◌≡◌, ◌+◌, ◌==◌, ℕ, Bool, true, false, List, [], ◌∷◌, ◌++◌, drop, length, Option, Some, None, Result, Ok, Err, refl, sym, subst, arith}
use Rattle.std.specs.Prelude.{IfSome, find, nat_le, not, if◌then◌else◌}
use Rattle.std.specs.List.{AllByRecursion, list_any}
use Rattle.cx_base.specs.Names.{Name}
use Rattle.cx_base.specs.declared.kinds.EntityType.TheVariants.{Mon}
use Rattle.cx_base.specs.declared.nodes.NodeName.{NodeName}
use Rattle.cx_base.specs.declared.nodes.NodeName.TheVariants as node
use Rattle.cx_control.specs.Auth.{auth_request_layout, auth_request_more_layout, auth_signature_layout}
use Rattle.cx_control.specs.Hello.{hello_layout}
use Rattle.cx_control.specs.Idents.{client_ident_layout}
use Rattle.cx_control.specs.Reconnects.{session_reconnect_layout}
use Rattle.cx_control.specs.Upkeep.{keepalive2_ack_layout, keepalive2_layout}
use Rattle.cx_control.specs.declared.auth.AuthRequest.{AuthRequest}
use Rattle.cx_control.specs.declared.auth.AuthRequestMore.{AuthRequestMore}
use Rattle.cx_control.specs.declared.auth.AuthSignature.{AuthSignature}
use Rattle.cx_control.specs.declared.hello.Hello.{Hello}
use Rattle.cx_control.specs.declared.idents.ClientIdent.{ClientIdent}
use Rattle.cx_control.specs.declared.reconnects.SessionReconnect.{SessionReconnect}
use Rattle.cx_control.specs.declared.upkeep.Keepalive2.{Keepalive2}
use Rattle.cx_control.specs.declared.upkeep.Keepalive2Ack.{Keepalive2Ack}
use Rattle.cx_dice.specs.Draws.{challenge_of}
use Rattle.cx_frame.specs.Banners.{banner_at}
use Rattle.cx_frame.specs.declared.banner.Banner.{Banner}
use Rattle.cx_frame.specs.declared.frame.Frame.{Frame}
use Rattle.cx_journal.specs.declared.faults.BytesFault.{BytesFault}
use Rattle.cx_journal.specs.declared.faults.BytesFault.TheVariants.{Unexpected}
use Rattle.cx_journal.specs.declared.faults.LoginFault.TheVariants.{Method, Mode, SignatureWrong}
use Rattle.cx_journal.specs.declared.outcomes.Reason.{Reason}
use Rattle.cx_journal.specs.declared.outcomes.Reason.TheVariants.{LinksFull, Login}
use Rattle.cx_keyring.specs.Entries.{is_named}
use Rattle.cx_keyring.specs.declared.entries.Entry.{Entry as Principal}
use Rattle.cx_rotate.specs.declared.states.KeptState.{KeptState}
use Rattle.cx_laws_tickets.specs.cx_rules_session.specs.cx_rules.specs.Acceptor.{AwaitsBanner, AwaitsHello, AwaitsRequest, AwaitsProof, AwaitsSignature, AwaitsIdent, Open, Finished, denies, finished, missing_told, misses, on_auth_request, on_banner, on_hello, on_signature, server_ident}
use Rattle.cx_laws_tickets.specs.cx_rules_session.specs.cx_rules.specs.Fronts.{keys_behind, taking}
use Rattle.cx_laws_tickets.specs.cx_rules_session.specs.cx_rules.specs.Greetings.{own_banner, own_hello}
use Rattle.cx_laws_tickets.specs.cx_rules_session.specs.cx_rules.specs.Inputs.{Input, Opened, NoLink, Bytes, Turn, Gone, Look, Tick, Submit, Restart}
use Rattle.cx_laws_tickets.specs.cx_rules_session.specs.cx_rules.specs.Links.{Link, link_of}
use Rattle.cx_laws_tickets.specs.cx_rules_session.specs.cx_rules.specs.Monitor.{Monitor, MonitorArrival, MonitorNode, MonitorRow, MonitorStage, Offered}
use Rattle.cx_laws_tickets.specs.cx_rules_session.specs.cx_rules.specs.MonitorLogin.{challenges, done_frame, hands_over, occasion, on_authenticate, on_login_hello, proves, row_by, with_server}
use Rattle.cx_laws_tickets.specs.cx_rules_session.specs.cx_rules.specs.MonitorRequests.{heard, on_demand, on_message, on_open, request_occasion, responds, sends_reply, serving}
use Rattle.cx_laws_tickets.specs.cx_rules_session.specs.cx_rules.specs.MonitorRule.{monitor_rule, noted, on_auth_request_more, on_client_ident, on_ident, on_request_payload, on_session_reconnect, opens, turn, turned_at}
use Rattle.cx_laws_tickets.specs.cx_rules_session.specs.cx_rules.specs.Payloads.{due, payload, whole}
use Rattle.cx_laws_tickets.specs.cx_rules_session.specs.cx_rules.specs.Replies.{Responded, answers}
use Rattle.cx_laws_tickets.specs.cx_rules_session.specs.cx_rules.specs.Rows.{Outcome, Turned, Waits, Refuses, Handles, arrival, at, carried_out, fed, goes_on, new_link, plain_sent, refuses, refuses_bytes, secure_sent, sends_secure, turns, with_opened}
use Rattle.cx_laws_tickets.specs.cx_rules_session.specs.cx_rules.specs.Secured.{SealedFrame, Secured, is_signed, plain_frame, signature_found, under}
use Rattle.cx_laws_tickets.specs.cx_rules_session.specs.cx_rules.specs.Upkeep.{on_keepalive, on_keepalive_ack}
use Rattle.cx_laws_tickets.specs.cx_rules_session.specs.cx_rules.specs.Verdicts.{Decided, rotates}
use Rattle.cx_laws_tickets.specs.cx_rules_session.specs.cx_rules.specs.declared.responses.Bearer.{Bearer}
use Rattle.cx_laws_tickets.specs.cx_rules_session.specs.cx_rules.specs.declared.responses.Demand.{Demand}
use Rattle.cx_laws_tickets.specs.cx_rules_session.specs.cx_rules.specs.declared.responses.ReplyMade.{ReplyMade}
use Rattle.cx_laws_tickets.specs.cx_rules_session.specs.cx_rules.specs.declared.responses.Response.{Response}
use Rattle.cx_laws_tickets.specs.cx_rules_session.specs.cx_rules.specs.declared.responses.Response.TheVariants as response
use Rattle.cx_laws_tickets.specs.cx_rules_session.specs.cx_rules.specs.declared.verdicts.HandedOut.{HandedOut}
use Rattle.cx_laws_tickets.specs.cx_rules_session.specs.cx_rules.specs.declared.verdicts.Verdict.{Verdict}
use Rattle.cx_laws_tickets.specs.cx_rules_session.specs.cx_rules.specs.declared.verdicts.Verdict.TheVariants.{Denied, Granted}
use Rattle.cx_laws_tickets.specs.cx_rules_session.specs.cx_rules.specs.cx_login.specs.Monitor.{Proven, proving}
use Rattle.cx_laws_tickets.specs.cx_rules_session.specs.cx_rules.specs.cx_login.specs.declared.refusals.WrongProof.{WrongProof}
use Rattle.cx_laws_tickets.specs.cx_rules_session.specs.cx_rules.specs.cx_steps.specs.declared.seals.SealEntry.{SealEntry}
use Rattle.cx_wire.specs.Logins.{authenticate_layout, login_hello_layout}
use Rattle.cx_wire.specs.declared.logins.Authenticate.{Authenticate}
use Rattle.cx_wire.specs.declared.logins.LoginHello.{LoginHello}
use Rattle.cx_words.specs.declared.choices.LeftState.{LeftState}
use Rattle.cx_words.specs.declared.choices.LeftState.TheVariants as left
use Rattle.cx_laws_tickets.specs.cx_run.proofs.Taking.{EachRow}
use Rattle.cx_laws_tickets.specs.cx_run.specs.Happenings.{EntityNode, Happening, Nodes, entity_of, entity_steps, monitor_steps, steps_of}
use Rattle.cx_laws_tickets.specs.cx_laws_keys.proofs.keys.Lists.{found_all}
use Rattle.cx_laws_tickets.proofs.fetch.Banners.{IsRead, read-banner, read-frame, read-grows}
use Rattle.cx_laws_tickets.proofs.fetch.Turns.{banner-each, behind-row, left_out, placed, plain-each, secure-each}

-- ---- the frames of a login

-- a HELLO
abbrev pub IsHello : Frame → Type 0
IsHello f = (hello : Hello) × (due 1 hello_layout.form f ≡ Ok hello)

-- an AUTH_REQUEST with a LoginHello of this name and this global id
pub record IsRequest (name : Name) (gid : ℕ) (f : Frame) : Type 0 where
  pub request : AuthRequest
  pub read : due 2 auth_request_layout.form f ≡ Ok request
  pub hello : LoginHello
  pub told : whole login_hello_layout.form request.payload ≡ Ok hello
  pub name_is : hello.name ≡ name
  pub gid_is : hello.gid ≡ gid

-- an AUTH_REQUEST_MORE with an Authenticate of this challenge
pub record IsAnswer (challenge : ℕ) (f : Frame) : Type 0 where
  pub more : AuthRequestMore
  pub read : due 5 auth_request_more_layout.form f ≡ Ok more
  pub ask : Authenticate
  pub told : whole authenticate_layout.form more.payload ≡ Ok ask
  pub challenge_is : ask.client_challenge ≡ challenge

-- ---- a link

-- a HELLO and the AUTH_REQUEST of an entity that was sent a challenge for it were read, in so many bytes
pub record HeardRequest (received : List ℕ) (taken : ℕ) (offered : Offered) : Type 0 where
  pub hello : Frame
  pub request : Frame
  pub read : IsRead received (hello ∷ request ∷ []) taken
  pub first : IsHello hello
  pub second : IsRequest offered.offer.name offered.gid request

-- and then its answer
pub record HeardAnswer (received : List ℕ) (taken : ℕ) : Type 0 where
  pub hello : Frame
  pub request : Frame
  pub answer : Frame
  pub read : IsRead received (hello ∷ request ∷ answer ∷ []) taken
  pub first : IsHello hello
  pub offered : Offered
  pub second : IsRequest offered.offer.name offered.gid request
  pub challenge : ℕ
  pub third : IsAnswer challenge answer

-- what was heard, by the stage, until the signature
abbrev pub StageHeard : List ℕ → ℕ → MonitorStage → Type 0
StageHeard received taken AwaitsBanner = taken ≡ 0
StageHeard received taken AwaitsHello = IsRead received [] taken
StageHeard received taken AwaitsRequest = (hello : Frame) × IsHello hello × IsRead received (hello ∷ []) taken
StageHeard received taken (AwaitsProof offered) = HeardRequest received taken offered
StageHeard received taken (AwaitsSignature s bearer) = HeardAnswer received taken
StageHeard received taken (AwaitsIdent s bearer) = Unit {0}
StageHeard received taken (Open s bearer) = Unit {0}

abbrev pub LinkHeard : Link MonitorStage → Type 0
LinkHeard l = StageHeard l.received l.taken l.stage

-- what was heard stays so, whatever comes
heard-grows : (received more : List ℕ) (taken : ℕ) (stage : MonitorStage) → StageHeard received taken stage → StageHeard (received ++ more) taken stage
heard-grows received more taken AwaitsBanner h = h
heard-grows received more taken AwaitsHello h = read-grows received more [] taken h
heard-grows received more taken AwaitsRequest (hello, is, h) = (hello, is, read-grows received more (hello ∷ []) taken h)
heard-grows received more taken (AwaitsProof offered) h = record {
  hello = h.hello;
  request = h.request;
  read = read-grows received more (h.hello ∷ h.request ∷ []) taken h.read;
  first = h.first;
  second = h.second;
}
heard-grows received more taken (AwaitsSignature s bearer) h = record {
  hello = h.hello;
  request = h.request;
  answer = h.answer;
  read = read-grows received more (h.hello ∷ h.request ∷ h.answer ∷ []) taken h.read;
  first = h.first;
  offered = h.offered;
  second = h.second;
  challenge = h.challenge;
  third = h.third;
}
heard-grows received more taken (AwaitsIdent s bearer) h = tt
heard-grows received more taken (Open s bearer) h = tt

-- ---- the rows

-- the link that a row leaves heard so
abbrev RowHeard : MonitorRow → Type 0
RowHeard row = IfSome row.link (λ (l : Link MonitorStage). LinkHeard l)

module _ (a : MonitorArrival) where
  plain-heard : (stage : MonitorStage) (seals : List SealEntry) (r : Result (List ℕ) BytesFault) → StageHeard a.link.received a.link.taken stage
      → RowHeard (plain_sent a stage seals r)
  plain-heard stage seals (Ok bytes) h = h
  plain-heard stage seals (Err why) h = tt

  secure-heard : (s : Secured) (stage : Secured → MonitorStage) (seals : List SealEntry) (r : Result SealedFrame BytesFault)
      → ((t : Secured) → StageHeard a.link.received a.link.taken (stage t)) → RowHeard (secure_sent a s stage seals r)
  secure-heard s stage seals (Ok sealed) h = h (record s { keys = sealed.keys })
  secure-heard s stage seals (Err why) h = tt

  -- HELLO, AUTH_REQUEST
  hello-heard : (f : Frame) (r : Result Hello BytesFault) → due 1 hello_layout.form f ≡ r → IsRead a.link.received (f ∷ []) a.link.taken → RowHeard (on_hello a r)
  hello-heard f (Ok hello) is read = (f, (hello, is), read)
  hello-heard f (Err why) is read = tt

  challenges-heard : (hello : LoginHello) (found : Option Principal) → ((offered : Offered) → offered.offer.name ≡ hello.name → offered.gid ≡ hello.gid
      → HeardRequest a.link.received a.link.taken offered) → RowHeard (challenges a hello found)
  challenges-heard hello None h = tt
  challenges-heard hello (Some principal) h =
      plain-heard (AwaitsProof (record { offer = record { name = hello.name; secret = principal.key.secret; challenge = challenge_of a.draw }; gid = hello.gid })) _ _
      (h (record { offer = record { name = hello.name; secret = principal.key.secret; challenge = challenge_of a.draw }; gid = hello.gid }) refl refl)

  module _ (hello f : Frame) (first : IsHello hello) (read : IsRead a.link.received (hello ∷ f ∷ []) a.link.taken) where
    login_hello-heard : (request : AuthRequest) → due 2 auth_request_layout.form f ≡ Ok request → (r : Result LoginHello BytesFault)
        → whole login_hello_layout.form request.payload ≡ r → RowHeard (on_login_hello a r)
    login_hello-heard request is (Err why) told = tt
    login_hello-heard request is (Ok said) told =
        challenges-heard said (find (is_named said.name) a.own.server.ring) (λ offered name gid. record {
          hello = hello;
          request = f;
          read = read;
          first = first;
          second = record { request = request; read = is; hello = said; told = told; name_is = sym name; gid_is = sym gid };
        })

    request-heard : (r : Result AuthRequest BytesFault) → due 2 auth_request_layout.form f ≡ r → RowHeard (on_auth_request on_request_payload a r)
    request-heard (Err why) is = tt
    request-heard (Ok request) is = by_tests (not (request.method == 2)) (not (list_any (λ mode. mode == 2) request.modes))
      where
        by_tests : (other plain : Bool) → RowHeard (if other then denies a 95 Method [] else if plain then denies a 95 Mode [] else on_request_payload a request.payload)
        by_tests true plain = tt
        by_tests false true = tt
        by_tests false false = login_hello-heard request is (whole login_hello_layout.form request.payload) refl

  -- AUTH_REQUEST_MORE
  module _ (heard_so : HeardAnswer a.link.received a.link.taken) where
    hands_over-heard : (server : MonitorArrival) → server.link ≡ a.link → (h : HandedOut) (done : Result Finished BytesFault) → RowHeard (hands_over server h done)
    hands_over-heard server same h (Err why) = tt
    hands_over-heard server same h (Ok done) = subst (λ (l : Link MonitorStage). HeardAnswer l.received l.taken) (sym same) heard_so

    verdict-heard : (server : MonitorArrival) → server.link ≡ a.link → (v : Verdict) → RowHeard (row_by server v)
    verdict-heard server same (Denied why seals) = tt
    verdict-heard server same (Granted h) = hands_over-heard server same h (finished server.link h.session h.secret (done_frame h.payload))

    proves-heard : (gid : ℕ) (r : Result Proven WrongProof) → RowHeard (proves a gid r)
    proves-heard gid (Err wrong) = tt
    proves-heard gid (Ok proven) =
        let d : Decided = rotates (occasion a) a.own.server gid proven in
        verdict-heard (with_server a d.server) refl d.verdict

  module _ (offered : Offered) (f : Frame) (h : (challenge : ℕ) → IsAnswer challenge f → HeardAnswer a.link.received a.link.taken) where
    authenticate-heard : (more : AuthRequestMore) → due 5 auth_request_more_layout.form f ≡ Ok more → (r : Result Authenticate BytesFault)
        → whole authenticate_layout.form more.payload ≡ r → RowHeard (on_authenticate a offered r)
    authenticate-heard more is (Err why) told = tt
    authenticate-heard more is (Ok ask) told =
        proves-heard (h ask.client_challenge (record { more = more; read = is; ask = ask; told = told; challenge_is = refl })) offered.gid (proving offered.offer ask)

    request_more-heard : (r : Result AuthRequestMore BytesFault) → due 5 auth_request_more_layout.form f ≡ r → RowHeard (on_auth_request_more a offered r)
    request_more-heard (Err why) is = tt
    request_more-heard (Ok more) is = authenticate-heard more is (whole authenticate_layout.form more.payload) refl

  -- AUTH_SIGNATURE, CLIENT_IDENT, SESSION_RECONNECT, messages: nothing more is said
  signature-heard : (s : Secured) (bearer : Bearer) (found : Result AuthSignature BytesFault) → RowHeard (on_signature a s bearer found)
  signature-heard s bearer (Err why) = tt
  signature-heard s bearer (Ok found) = by_test (is_signed s found.signature)
    where
      by_test : (right : Bool) → RowHeard (if right then goes_on a (AwaitsIdent s bearer) [] (signature_found s ∷ []) else refuses a (Login SignatureWrong) [])
      by_test true = tt
      by_test false = tt

  missing-heard : (features : ℕ) (sealed : Result SealedFrame BytesFault) → RowHeard (missing_told a features sealed)
  missing-heard features (Err why) = tt
  missing-heard features (Ok sealed) = tt

  client_ident-heard : (s : Secured) (bearer : Bearer) (ident : Result ClientIdent BytesFault) → RowHeard (on_client_ident a s bearer ident)
  client_ident-heard s bearer (Err why) = tt
  client_ident-heard s bearer (Ok ident) = by_test (ident.required == 0)
    where
      by_test : (plain : Bool) → RowHeard (if plain then sends_secure a s (λ behind. Open behind bearer) [] (server_ident a.own.address 1 0) else misses a s ident.required)
      by_test true = secure-heard s (λ behind. Open behind bearer) [] _ (λ t. tt)
      by_test false = missing-heard ident.required _

  reconnect-heard : (s : Secured) (bearer : Bearer) (reconnect : Result SessionReconnect BytesFault) → RowHeard (on_session_reconnect a s bearer reconnect)
  reconnect-heard s bearer (Err why) = tt
  reconnect-heard s bearer (Ok reconnect) = secure-heard s (λ behind. AwaitsIdent behind bearer) [] _ (λ t. tt)

  ident-heard : (s : Secured) (bearer : Bearer) (f : Frame) → RowHeard (on_ident a s bearer f)
  ident-heard s bearer f = by_tests (f.tag == 8) (f.tag == 11)
    where
      by_tests : (client reconnect : Bool) → RowHeard (if client then on_client_ident a s bearer (payload client_ident_layout.form f)
          else if reconnect then on_session_reconnect a s bearer (payload session_reconnect_layout.form f) else refuses_bytes a (Unexpected f.tag) [])
      by_tests true reconnect = client_ident-heard s bearer (payload client_ident_layout.form f)
      by_tests false true = reconnect-heard s bearer (payload session_reconnect_layout.form f)
      by_tests false false = tt

  reply-heard : (server : MonitorArrival) (s : Secured) (bearer : Bearer) (seq : ℕ) (made : ReplyMade) (sealing : Result SealedFrame BytesFault)
      → RowHeard (sends_reply Open server s bearer seq made sealing)
  reply-heard server s bearer seq made (Err why) = tt
  reply-heard server s bearer seq made (Ok sent) = tt

  responds-heard : (server : MonitorArrival) (s : Secured) (bearer : Bearer) (demand : Demand) (r : Response) → RowHeard (responds Open server s bearer demand r)
  responds-heard server s bearer demand (response.Refuses why drawn) = tt
  responds-heard server s bearer demand (response.Replies made) = reply-heard server s bearer demand.seq made _

  demand-heard : (s : Secured) (bearer : Bearer) (found : Result Demand Reason) → RowHeard (on_demand Open a s bearer found)
  demand-heard s bearer (Err why) = tt
  demand-heard s bearer (Ok demand) =
      let r : Responded = answers (request_occasion a) a.own.server bearer demand.request in responds-heard (serving a r.server) s bearer demand r.response

  keepalive-heard : (s : Secured) (bearer : Bearer) (read : Result Keepalive2 BytesFault) → RowHeard (on_keepalive a s (λ behind. Open behind bearer) read)
  keepalive-heard s bearer (Err why) = tt
  keepalive-heard s bearer (Ok keepalive) = secure-heard s (λ behind. Open behind bearer) [] _ (λ t. tt)

  keepalive_ack-heard : (s : Secured) (bearer : Bearer) (read : Result Keepalive2Ack BytesFault) → RowHeard (on_keepalive_ack a s (λ behind. Open behind bearer) read)
  keepalive_ack-heard s bearer (Err why) = tt
  keepalive_ack-heard s bearer (Ok ack) = tt

  open-heard : (s : Secured) (bearer : Bearer) (f : Frame) → RowHeard (on_open Open a s bearer f)
  open-heard s bearer f = by_tests (f.tag == 18) (f.tag == 19)
    where
      by_tests : (ask ack : Bool) → RowHeard (if ask then on_keepalive a s (λ behind. Open behind bearer) (payload keepalive2_layout.form f)
          else if ack then on_keepalive_ack a s (λ behind. Open behind bearer) (payload keepalive2_ack_layout.form f) else on_message Open a s bearer f)
      by_tests true ack = keepalive-heard s bearer (payload keepalive2_layout.form f)
      by_tests false true = keepalive_ack-heard s bearer (payload keepalive2_ack_layout.form f)
      by_tests false false = demand-heard s bearer (heard bearer f)

-- ---- a turn

turned-heard : (a : MonitorArrival) (stage : MonitorStage) → StageHeard a.link.received a.link.taken stage → EachRow RowHeard (turned_at a stage)
turned-heard a AwaitsBanner start = banner-each RowHeard a.link (λ link _. on_banner Mon (at a link)) (λ b n read. by_read b n read)
  where
    by_read : (b : Banner) (n : ℕ) → banner_at (drop a.link.taken a.link.received) ≡ Ok (Some (b, n)) → RowHeard (on_banner Mon (at a (taking a.link n)))
    by_read b n read =
        let here : banner_at a.link.received ≡ Ok (Some (b, n)) = subst (λ (k : ℕ). banner_at (drop k a.link.received) ≡ Ok (Some (b, n))) start read in
        let none : a.link.taken ≡ 0 = start in
        let size : n ≡ a.link.taken + n = omega arith in
        plain-heard (at a (taking a.link n)) AwaitsHello [] (plain_frame (own_hello Mon)) (subst (λ (k : ℕ). IsRead a.link.received [] k) size (read-banner a.link.received b n here))
turned-heard a AwaitsHello h =
    plain-each RowHeard a.link (λ (link, f) _. on_hello (at a link) (due 1 hello_layout.form f)) (λ f n read.
    hello-heard (at a (taking a.link n)) f (due 1 hello_layout.form f) refl (read-frame a.link.received [] a.link.taken f n h read))
turned-heard a AwaitsRequest (hello, is, h) =
    plain-each RowHeard a.link (λ (link, f) _. on_auth_request on_request_payload (at a link) (due 2 auth_request_layout.form f)) (λ f n read.
    request-heard (at a (taking a.link n)) hello f is (read-frame a.link.received (hello ∷ []) a.link.taken f n h read) (due 2 auth_request_layout.form f) refl)
turned-heard a (AwaitsProof offered) h =
    plain-each RowHeard a.link (λ (link, f) _. on_auth_request_more (at a link) offered (due 5 auth_request_more_layout.form f)) (λ f n read.
    request_more-heard (at a (taking a.link n)) offered f (λ challenge third. record {
      hello = h.hello;
      request = h.request;
      answer = f;
      read = read-frame a.link.received (h.hello ∷ h.request ∷ []) a.link.taken f n h.read read;
      first = h.first;
      offered = offered;
      second = h.second;
      challenge = challenge;
      third = third;
    }) (due 5 auth_request_more_layout.form f) refl)
turned-heard a (AwaitsSignature s bearer) h =
    secure-each RowHeard s.keys a.link (λ (link, f, keys) opened. with_opened opened (on_signature (at a link) (under s keys) bearer (due 7 auth_signature_layout.form f)))
    (λ f n opened. signature-heard (at a (taking a.link n)) (under s (keys_behind s.keys f)) bearer (due 7 auth_signature_layout.form f))
turned-heard a (AwaitsIdent s bearer) h =
    secure-each RowHeard s.keys a.link (λ (link, f, keys) opened. with_opened opened (on_ident (at a link) (under s keys) bearer f))
    (λ f n opened. ident-heard (at a (taking a.link n)) (under s (keys_behind s.keys f)) bearer f)
turned-heard a (Open s bearer) h =
    secure-each RowHeard s.keys a.link (λ (link, f, keys) opened. with_opened opened (on_open Open (at a link) (under s keys) bearer f))
    (λ f n opened. open-heard (at a (taking a.link n)) (under s (keys_behind s.keys f)) bearer f)

-- ---- any event of the monitor

-- so heard each of these links
abbrev pub AllHeard : List (Link MonitorStage) → Type 0
AllHeard links = AllByRecursion LinkHeard links

module _ (m : MonitorNode) (ok : AllHeard m.links) where
  turns-heard : (a : MonitorArrival) (turned : Turned Monitor MonitorStage) → EachRow RowHeard turned → AllHeard (turns m a turned).state.links
  turns-heard a Waits h = ok
  turns-heard a (Refuses why opened) h = left_out LinkHeard a.link.number m.links ok
  turns-heard a (Handles row) h = behind-row LinkHeard m.links a.link.number row.sends row.link (by_link row.link h) ok
    where
      by_link : (left : Option (Link MonitorStage)) → IfSome left (λ (l : Link MonitorStage). LinkHeard l)
          → IfSome left (λ (l : Link MonitorStage). LinkHeard (record l { sent = l.sent ++ row.sends }))
      by_link None k = tt
      by_link (Some l) k = k

  turn-heard : (number reading : ℕ) (draw : List ℕ) (found : Option (Link MonitorStage)) → link_of number m.links ≡ found → AllHeard (turn m reading draw found).state.links
  turn-heard number reading draw None is = ok
  turn-heard number reading draw (Some link) is =
      let a : MonitorArrival = arrival node.Monitor m.own link reading draw in
      let here : LinkHeard link = found_all LinkHeard (λ (l : Link MonitorStage). l.number == number) m.links link ok is in
      turns-heard a (turned_at a link.stage) (turned-heard a link.stage here)

  opens-heard : (number reading : ℕ) (draw : List ℕ) → AllHeard (opens m reading draw (new_link number AwaitsBanner)).state.links
  opens-heard number reading draw = by_test (nat_le 1024 (length m.links))
    where
      by_test : (full : Bool) → AllHeard (carried_out m number false
          (if full then refuses (arrival node.Monitor m.own (new_link number AwaitsBanner) reading draw) LinksFull []
          else goes_on (arrival node.Monitor m.own (new_link number AwaitsBanner) reading draw) AwaitsBanner own_banner [])).state.links
      by_test true = left_out LinkHeard number m.links ok
      by_test false = placed LinkHeard (record { number = number; received = []; taken = 0; sent = [] ++ own_banner; stage = AwaitsBanner }) m.links refl ok

  fed-heard : (number : ℕ) (bytes : List ℕ) (found : Option (Link MonitorStage)) → link_of number m.links ≡ found → AllHeard (fed m bytes found).state.links
  fed-heard number bytes None is = ok
  fed-heard number bytes (Some link) is =
      placed LinkHeard (record link { received = link.received ++ bytes }) m.links
      (heard-grows link.received bytes link.taken link.stage (found_all LinkHeard (λ (l : Link MonitorStage). l.number == number) m.links link ok is)) ok

-- what was noted of the state changes no link
rule-heard : (m : MonitorNode) (input : Input) (reading : ℕ) (draw : List ℕ) → AllHeard m.links → AllHeard (monitor_rule m input reading draw).state.links
rule-heard m (Opened number to) reading draw ok = opens-heard (noted m) ok number reading draw
rule-heard m (Bytes number bytes) reading draw ok = fed-heard (noted m) ok number bytes (link_of number m.links) refl
rule-heard m (Turn number) reading draw ok = turn-heard (noted m) ok number reading draw (link_of number m.links) refl
rule-heard m (Gone number) reading draw ok = left_out LinkHeard number m.links ok
rule-heard m Restart reading draw ok = tt
rule-heard m (NoLink to) reading draw ok = ok
rule-heard m (Look view) reading draw ok = ok
rule-heard m Tick reading draw ok = ok
rule-heard m (Submit said) reading draw ok = ok

-- ---- every list of events

-- whether a save fails or not, the links are the same
saved-links : (nodes : Nodes) (o : Outcome MonitorNode) (l : Option LeftState) (saved : Option KeptState) → (monitor_steps nodes o l saved).nodes.monitor.links ≡ o.state.links
saved-links nodes o (Some left.Old) (Some saved) = refl
saved-links nodes o (Some left.New) (Some saved) = refl
saved-links nodes o None saved = refl
saved-links nodes o (Some l) None = refl

entity-heard : (nodes : Nodes) (h : Happening) (name : Name) (found : Option EntityNode) → AllHeard nodes.monitor.links → AllHeard (entity_steps nodes h name found).nodes.monitor.links
entity-heard nodes h name None ok = ok
entity-heard nodes h name (Some entity) ok = ok

pub node-heard : (nodes : Nodes) (h : Happening) (n : NodeName) → AllHeard nodes.monitor.links → AllHeard (steps_of nodes h n).nodes.monitor.links
node-heard nodes h node.Monitor ok =
    let o : Outcome MonitorNode = monitor_rule nodes.monitor h.input h.reading h.draw in
    subst AllHeard (sym (saved-links nodes o h.left o.out.save)) (rule-heard nodes.monitor h.input h.reading h.draw ok)
node-heard nodes h (node.Entity name) ok = entity-heard nodes h name (entity_of name nodes) ok
