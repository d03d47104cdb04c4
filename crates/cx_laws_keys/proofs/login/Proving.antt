-- A ticket is issued only at a turn of a link that waits for a proof, to the entity that was offered the challenge, behind that proof, or at a turn of an
-- open link, to the entity whose link that is; whatever came, and whatever is forged.
use Rattle.std.proofs.Common.{◌≡◌, ◌⊎◌, ℕ, ◌+◌, ◌-◌, ◌^◌, ◌==◌, Bool, true, false, List, [], ◌∷◌, ◌++◌, length, map, Option, Some, None, Result, Ok, Err, inl, inr, refl, sym, ap, subst, arith}
use Rattle.std.specs.Prelude.{Contains, find, nat_le, not, if◌then◌else◌}
use Rattle.std.specs.List.{AllByRecursion, list_any}
use Rattle.std.proofs.lemmas.List.Elements.{Contains-append_cases, Contains-push_cases}
use Rattle.cx_base.specs.Names.{Name}
use Rattle.cx_base.specs.declared.kinds.EntityType.{EntityType}
use Rattle.cx_base.specs.declared.kinds.EntityType.TheVariants.{Mds, Osd, Mgr, Auth, Mon}
use Rattle.cx_base.specs.declared.nodes.NodeName.TheVariants as node
use Rattle.cx_rules.specs.cx_control.specs.Auth.{auth_reply_more_layout, auth_request_layout, auth_request_more_layout, auth_signature_layout}
use Rattle.cx_rules.specs.cx_control.specs.Hello.{hello_layout}
use Rattle.cx_rules.specs.cx_control.specs.Idents.{client_ident_layout, ident_missing_features_layout}
use Rattle.cx_rules.specs.cx_control.specs.Reconnects.{session_reconnect_layout}
use Rattle.cx_rules.specs.cx_control.specs.Upkeep.{keepalive2_layout, keepalive2_ack_layout}
use Rattle.cx_rules.specs.cx_control.specs.declared.auth.AuthRequest.{AuthRequest}
use Rattle.cx_rules.specs.cx_control.specs.declared.auth.AuthRequestMore.{AuthRequestMore}
use Rattle.cx_rules.specs.cx_control.specs.declared.auth.AuthSignature.{AuthSignature}
use Rattle.cx_rules.specs.cx_control.specs.declared.hello.Hello.{Hello}
use Rattle.cx_rules.specs.cx_control.specs.declared.idents.ClientIdent.{ClientIdent}
use Rattle.cx_rules.specs.cx_control.specs.declared.reconnects.SessionReconnect.{SessionReconnect}
use Rattle.cx_rules.specs.cx_control.specs.declared.upkeep.Keepalive2.{Keepalive2}
use Rattle.cx_rules.specs.cx_control.specs.declared.upkeep.Keepalive2Ack.{Keepalive2Ack}
use Rattle.cx_rules.specs.cx_dice.specs.Draws.{challenge_of, connection_of, session_of}
use Rattle.cx_laws_keys.specs.cx_enc.specs.declared.keys.Key.{Key}
use Rattle.cx_rules.specs.cx_frame.specs.declared.frame.Frame.{Frame}
use Rattle.cx_laws_keys.specs.cx_journal.specs.declared.entries.Entry.{Entry}
use Rattle.cx_laws_keys.specs.cx_journal.specs.declared.entries.Entry.TheVariants as journal
use Rattle.cx_laws_keys.specs.cx_journal.specs.declared.entries.Issued.{Issued}
use Rattle.cx_laws_keys.specs.cx_journal.specs.declared.faults.BytesFault.{BytesFault}
use Rattle.cx_laws_keys.specs.cx_journal.specs.declared.faults.BytesFault.TheVariants.{Unexpected}
use Rattle.cx_laws_keys.specs.cx_journal.specs.declared.faults.LoginFault.{LoginFault}
use Rattle.cx_laws_keys.specs.cx_journal.specs.declared.faults.LoginFault.TheVariants.{Method, Mode, SignatureWrong}
use Rattle.cx_laws_keys.specs.cx_journal.specs.declared.faults.LoginFault.TheVariants as login
use Rattle.cx_laws_keys.specs.cx_journal.specs.declared.outcomes.Reason.{Reason}
use Rattle.cx_laws_keys.specs.cx_journal.specs.declared.outcomes.Reason.TheVariants.{LinksFull, Login}
use Rattle.cx_rules.specs.cx_keyring.specs.Entries.{is_named}
use Rattle.cx_rules.specs.cx_keyring.specs.declared.entries.Entry.{Entry as Principal}
use Rattle.cx_rules.specs.cx_keyserver.specs.Servers.{Server, rotated_server, secrets_of}
use Rattle.cx_rules.specs.cx_keyserver.specs.declared.refusals.NotADaemon.{NotADaemon}
use Rattle.cx_rules.specs.cx_keyserver.specs.declared.tickets.Ticket.{Ticket}
use Rattle.cx_rules.specs.cx_login.specs.Monitor.{Offer, Proven, kept_gid, proof_found, proving, reclaimed}
use Rattle.cx_rules.specs.cx_login.specs.Proving.{due_proof}
use Rattle.cx_rules.specs.cx_login.specs.Unlocking.{old_ticket}
use Rattle.cx_rules.specs.cx_login.specs.declared.monitor.Reclaim.{Reclaim}
use Rattle.cx_rules.specs.cx_login.specs.declared.monitor.Reclaim.TheVariants as reclaim
use Rattle.cx_rules.specs.cx_rotate.specs.declared.generations.Generation.{Generation}
use Rattle.cx_rules.specs.cx_rotate.specs.declared.states.KeptState.{KeptState}
use Rattle.cx_rules.specs.Acceptor.{AwaitsBanner, AwaitsHello, AwaitsRequest, AwaitsProof, AwaitsSignature, AwaitsIdent, Open, Finished, denies, finished, misses, missing_told, on_auth_request, on_banner, on_hello, on_signature, server_ident}
use Rattle.cx_rules.specs.Fronts.{Front, NotYet, Broken, Next, banner_next, plain_next, secure_next}
use Rattle.cx_rules.specs.Greetings.{own_banner, own_hello}
use Rattle.cx_rules.specs.Inputs.{Input, Opened, NoLink, Bytes, Turn, Gone, Look, Tick, Submit, Restart}
use Rattle.cx_rules.specs.KeptStates.{changed}
use Rattle.cx_rules.specs.Links.{Link, link_of}
use Rattle.cx_rules.specs.Monitor.{Monitor, MonitorArrival, MonitorNode, MonitorRow, MonitorStage, Offered}
use Rattle.cx_rules.specs.MonitorLogin.{challenges, done_frame, hands_over, occasion, on_authenticate, on_login_hello, proves, row_of, with_server}
use Rattle.cx_rules.specs.MonitorRequests.{heard, on_demand, on_message, on_open, reply_message, request_occasion, responds, sends_reply, serving}
use Rattle.cx_rules.specs.MonitorRule.{monitor_step, on_auth_request_more, on_client_ident, on_ident, on_request_payload, on_session_reconnect, opens, session_reset, turn, turned_at}
use Rattle.cx_rules.specs.Payloads.{control, due, payload, whole}
use Rattle.cx_rules.specs.Replies.{Responded, answers, answers_by, asking_of, issues_tickets, others_for, tells_generations, tells_tickets}
use Rattle.cx_rules.specs.Rows.{Outcome, Row, Turned, Waits, Refuses, Handles, arrival, at, carried_out, fed, goes_on, new_link, plain_sent, refuses, refuses_bytes, secure_sent, sends_secure, turned_by, turns, with_opened}
use Rattle.cx_rules.specs.Secured.{Keys, SealedFrame, Secured, is_signed, plain_frame, secure_frame, signature_found, under}
use Rattle.cx_rules.specs.Tickets.{is_asked, issued_entry, issued_for, rotation_drawn, services_for}
use Rattle.cx_rules.specs.Upkeep.{on_keepalive, on_keepalive_ack}
use Rattle.cx_rules.specs.Verdicts.{Entrant, Occasion, Numbered, asking_for, entrant, handed_out, issues, issues_to, key_of, login_entries, numbered, numbers, rotates}
use Rattle.cx_rules.specs.declared.responses.Bearer.{Bearer}
use Rattle.cx_rules.specs.declared.responses.Demand.{Demand}
use Rattle.cx_rules.specs.declared.responses.ReplyMade.{ReplyMade}
use Rattle.cx_rules.specs.declared.responses.Response.{Response}
use Rattle.cx_rules.specs.declared.responses.Response.TheVariants as response
use Rattle.cx_rules.specs.cx_steps.specs.declared.seals.DrawMark.TheVariants as draw
use Rattle.cx_rules.specs.cx_steps.specs.declared.seals.SealEntry.{SealEntry}
use Rattle.cx_rules.specs.cx_steps.specs.declared.seals.SealEntry.TheVariants.{Drawn}
use Rattle.cx_rules.specs.cx_wire.specs.Logins.{authenticate_layout, login_hello_layout, server_challenge_layout}
use Rattle.cx_rules.specs.cx_wire.specs.declared.bodies.Request.{Request}
use Rattle.cx_rules.specs.cx_wire.specs.declared.bodies.Request.TheVariants as asked
use Rattle.cx_rules.specs.cx_wire.specs.declared.logins.Authenticate.{Authenticate}
use Rattle.cx_rules.specs.cx_wire.specs.declared.logins.LoginHello.{LoginHello}
use Rattle.cx_laws_keys.proofs.keys.Journal.{IsNotIssued, issued_is}
use Rattle.cx_laws_keys.proofs.login.Entering.{issued_of}
use Rattle.cx_laws_keys.proofs.login.Hearing.{HearsPart, hears-more, next-heard}
use Rattle.cx_laws_keys.proofs.login.Issuing.{AreIssued, AreOthers, IsOther, all-issued, others-issued}
use Rattle.cx_laws_keys.proofs.login.Rows.{all-filter}
use Rattle.cx_rules.proofs.RowWalk.{EachRow, each-turned}

-- ---- entries

-- the first of some entries, or one of the others
pub contains-cons : (e x : Entry) (js : List Entry) → Contains (e ∷ js) x → (e ≡ x) ⊎ Contains js x
contains-cons e x js h = by_place (Contains-append_cases (e ∷ []) js x h)
  where
    by_one : Contains {X = Entry} [] x ⊎ (e ≡ x) → (e ≡ x) ⊎ Contains js x
    by_one (inl (k, below, is)) = absurd (omega arith)
    by_one (inr same) = inl same

    by_place : Contains (e ∷ []) x ⊎ Contains js x → (e ≡ x) ⊎ Contains js x
    by_place (inl here) = by_one (Contains-push_cases [] e x here)
    by_place (inr later) = inr later

pub none-issued : (js : List Entry) → AllByRecursion IsNotIssued js → (t : Issued) → Contains js (journal.Issued t) → ⊥
none-issued [] q t (k, below, is) = omega arith
none-issued (j ∷ js) q t h = by_place (contains-cons j (journal.Issued t) js h) (none-issued js q.1 t)
  where
    by_place : (j ≡ journal.Issued t) ⊎ Contains js (journal.Issued t) → (Contains js (journal.Issued t) → ⊥) → ⊥
    by_place (inl same) rest = subst IsNotIssued same q.0
    by_place (inr later) rest = rest later

-- what is so of each of these tickets is so of each that is entered
module _ (P : Issued → Type 0) where
  of-tickets : (ts : List Ticket) → AllByRecursion (λ (k : Ticket). P (issued_of k)) ts → (t : Issued) → Contains (map issued_entry ts) (journal.Issued t) → P t
  of-tickets [] h t (k, below, is) = absurd (omega arith)
  of-tickets (k ∷ ts) h t has = by_place (contains-cons (issued_entry k) (journal.Issued t) (map issued_entry ts) has) (of-tickets ts h.1 t)
    where
      by_place : (issued_entry k ≡ journal.Issued t) ⊎ Contains (map issued_entry ts) (journal.Issued t) → (Contains (map issued_entry ts) (journal.Issued t) → P t) → P t
      by_place (inl same) rest = subst P (issued_is (issued_of k) t same) h.0
      by_place (inr later) rest = rest later

  pub of-login : (save : Option KeptState) (ts : List Ticket) → AllByRecursion (λ (k : Ticket). P (issued_of k)) ts → (t : Issued)
      → Contains (login_entries save ts) (journal.Issued t) → P t
  of-login None ts h t has = of-tickets ts h t has
  of-login (Some state) ts h t has = by_place (contains-cons (journal.Saved state.next_gid) (journal.Issued t) (map issued_entry ts) has)
    where
      by_place : (journal.Saved state.next_gid ≡ journal.Issued t) ⊎ Contains (map issued_entry ts) (journal.Issued t) → P t
      by_place (inl same) = absurd (subst IsNotIssued same tt)
      by_place (inr later) = of-tickets ts h t later

of-others : (name : Name) (gid reading : ℕ) (block : List ℕ) (ts : List Ticket) → AllByRecursion (IsOther name gid reading block) ts → AllByRecursion (λ (k : Ticket). k.entity ≡ name) ts
of-others name gid reading block [] h = tt
of-others name gid reading block (t ∷ ts) h = (h.0.0.entity, of-others name gid reading block ts h.1)

-- ---- rows

-- a link that waits, in this stage, for the proof of the entity of this name, and the proof, which is the first of these entries
pub record IsBehindProof (stage : MonitorStage) (name : Name) (seals : List SealEntry) : Type 0 where
  pub offered : Offered
  pub stage_is : stage ≡ AwaitsProof offered
  pub named : offered.offer.name ≡ name
  pub client_challenge : ℕ
  pub rest : List SealEntry
  pub checked : seals ≡ proof_found offered.offer client_challenge ∷ rest

-- a ticket for the bearer, under its global id, for another service than AUTH
pub record IsOfBearer (bearer : Bearer) (t : Issued) : Type 0 where
  pub named : t.entity ≡ bearer.name
  pub gid : t.gid ≡ bearer.gid
  pub service : t.service ≡ Auth → ⊥

-- a link that is open, in this stage, for whose bearer the ticket is
record IsForOpen (stage : MonitorStage) (t : Issued) : Type 0 where
  secured : Secured
  bearer : Bearer
  stage_is : stage ≡ Open secured bearer
  of : IsOfBearer bearer t

-- so it is, and a part that came on this link opened, which is the first of these entries
pub record IsBehindReply (stage : MonitorStage) (t : Issued) (seals : List SealEntry) : Type 0 where
  pub secured : Secured
  pub bearer : Bearer
  pub stage_is : stage ≡ Open secured bearer
  pub of : IsOfBearer bearer t
  pub heard : HearsPart secured.keys seals

-- one of the two
abbrev pub IsBehind : MonitorStage → Issued → List SealEntry → Type 0
IsBehind stage t seals = IsBehindProof stage t.entity seals ⊎ IsBehindReply stage t seals

-- the entity to which a challenge was offered is one of the keyring, with that secret
pub record IsRinged (ring : List Principal) (offered : Offered) : Type 0 where
  pub principal : Principal
  pub found : find (is_named offered.offer.name) ring ≡ Some principal
  pub secret : principal.key.secret ≡ offered.offer.secret

-- the two are one, but for the number of the last message
pub record IsSameBearer (a b : Bearer) : Type 0 where
  pub name : a.name ≡ b.name
  pub gid : a.gid ≡ b.gid
  pub session : a.session ≡ b.session

same-bearer : (bearer : Bearer) → IsSameBearer bearer bearer
same-bearer bearer = record { name = refl; gid = refl; session = refl }

-- a link in this stage is this bearer's
abbrev pub Bears : MonitorStage → Bearer → Type 0
Bears (AwaitsSignature s b) bearer = IsSameBearer b bearer
Bears (AwaitsIdent s b) bearer = IsSameBearer b bearer
Bears (Open s b) bearer = IsSameBearer b bearer
Bears _ bearer = ⊥

-- a link that was in the stage `before`, of which these entries were made, goes on in another: with an entity of the keyring to which a challenge is
-- offered; with one that proved itself just now; or with the bearer of before
abbrev pub StageTells : List Principal → MonitorStage → List SealEntry → MonitorStage → Type 0
StageTells ring before seals AwaitsBanner = Unit {0}
StageTells ring before seals AwaitsHello = Unit {0}
StageTells ring before seals AwaitsRequest = Unit {0}
StageTells ring before seals (AwaitsProof offered) = IsRinged ring offered
StageTells ring before seals (AwaitsSignature s bearer) = IsBehindProof before bearer.name seals
StageTells ring before seals (AwaitsIdent s bearer) = Bears before bearer
StageTells ring before seals (Open s bearer) = Bears before bearer

abbrev pub LinkTells : List Principal → MonitorStage → List SealEntry → Option (Link MonitorStage) → Type 0
LinkTells ring before seals (Some link) = StageTells ring before seals link.stage
LinkTells ring before seals None = Unit {0}

-- whatever came, a row of a link in this stage issues a ticket only behind a proof or for the bearer of an open link, leaves the keyring as it is, and
-- goes on as it may
pub record RowTells (ring : List Principal) (stage : MonitorStage) (row : MonitorRow) : Type 0 where
  pub asked : (t : Issued) → Contains row.entries (journal.Issued t) → IsBehind stage t row.seals
  pub ring_stays : row.own.server.ring ≡ ring
  pub link : LinkTells ring stage row.seals row.link

module _ (before : MonitorStage) where
  -- a row that issues no ticket but for the bearer of an open link, and goes on behind no proof
  record Proofless (ring : List Principal) (row : MonitorRow) : Type 0 where
    asked : (t : Issued) → Contains row.entries (journal.Issued t) → IsForOpen before t
    ring_stays : row.own.server.ring ≡ ring
    link : (seals : List SealEntry) → LinkTells ring before seals row.link

  -- where the link is open, a part that came on it opened first
  abbrev HearsFirst : List SealEntry → Type 0
  HearsFirst seals = (s : Secured) (bearer : Bearer) → before ≡ Open s bearer → HearsPart s.keys seals

  proofless-tells : (ring : List Principal) (row : MonitorRow) → HearsFirst row.seals → Proofless ring row → RowTells ring before row
  proofless-tells ring row heard h = record { asked = λ t has. inr (by_open (h.asked t has)); ring_stays = h.ring_stays; link = h.link row.seals }
    where
      by_open : {t : Issued} → IsForOpen before t → IsBehindReply before t row.seals
      by_open o = record { secured = o.secured; bearer = o.bearer; stage_is = o.stage_is; of = o.of; heard = heard o.secured o.bearer o.stage_is }

  abbrev IsProofless : MonitorArrival → MonitorRow → Type 0
  IsProofless a row = Proofless a.own.server.ring row

  proofless-goes_on : (a : MonitorArrival) (stage : MonitorStage) (bytes : List ℕ) (seals : List SealEntry)
      → ((logged : List SealEntry) → StageTells a.own.server.ring before logged stage) → IsProofless a (goes_on a stage bytes seals)
  proofless-goes_on a stage bytes seals h = record { asked = λ t has. absurd (none-issued [] tt t has); ring_stays = refl; link = h }

  proofless-refuses : (a : MonitorArrival) (why : Reason) (seals : List SealEntry) → IsProofless a (refuses a why seals)
  proofless-refuses a why seals =
      record { asked = λ t has. absurd (none-issued (refuses a why seals).entries (tt, tt) t has); ring_stays = refl; link = λ logged. tt }

  proofless-refuses_bytes : (a : MonitorArrival) (why : BytesFault) (seals : List SealEntry) → IsProofless a (refuses_bytes a why seals)
  proofless-refuses_bytes a why seals =
      record { asked = λ t has. absurd (none-issued (refuses_bytes a why seals).entries (tt, tt) t has); ring_stays = refl; link = λ logged. tt }

  proofless-denies : (a : MonitorArrival) (code : ℕ) (why : LoginFault) (seals : List SealEntry) → IsProofless a (denies a code why seals)
  proofless-denies a code why seals =
      record { asked = λ t has. absurd (none-issued (denies a code why seals).entries (tt, tt) t has); ring_stays = refl; link = λ logged. tt }

  proofless-plain : (a : MonitorArrival) (stage : MonitorStage) (seals : List SealEntry) (r : Result (List ℕ) BytesFault)
      → ((logged : List SealEntry) → StageTells a.own.server.ring before logged stage) → IsProofless a (plain_sent a stage seals r)
  proofless-plain a stage seals (Ok bytes) h = proofless-goes_on a stage bytes seals h
  proofless-plain a stage seals (Err why) h = proofless-refuses_bytes a why seals

  proofless-secure : (a : MonitorArrival) (s : Secured) (stage : Secured → MonitorStage) (seals : List SealEntry) (r : Result SealedFrame BytesFault)
      → ((t : Secured) (logged : List SealEntry) → StageTells a.own.server.ring before logged (stage t)) → IsProofless a (secure_sent a s stage seals r)
  proofless-secure a s stage seals (Ok sealed) h =
      proofless-goes_on a (stage (record s { keys = sealed.keys })) sealed.bytes (seals ++ sealed.seals) (h (record s { keys = sealed.keys }))
  proofless-secure a s stage seals (Err why) h = proofless-refuses_bytes a why seals

  proofless-opened : (a : MonitorArrival) (opened : List SealEntry) (row : MonitorRow) → IsProofless a row → IsProofless a (with_opened opened row)
  proofless-opened a opened row h = record { asked = h.asked; ring_stays = h.ring_stays; link = h.link }

-- ---- LoginHello, and all rows but those of a proof and of a request

module _ (before : MonitorStage) where
  proofless-challenges : (a : MonitorArrival) (hello : LoginHello) (principal : Option Principal) → find (is_named hello.name) a.own.server.ring ≡ principal
      → IsProofless before a (challenges a hello principal)
  proofless-challenges a hello None is = proofless-denies before a 13 login.UnknownEntity []
  proofless-challenges a hello (Some principal) is =
      let challenge = challenge_of a.draw in
      let offer : Offer = record { name = hello.name; secret = principal.key.secret; challenge = challenge } in
      proofless-plain before a (AwaitsProof (record { offer = offer; gid = hello.gid })) (Drawn (draw.Challenge challenge) ∷ [])
      (plain_frame (control 4 auth_reply_more_layout.form (record { payload = server_challenge_layout.form.text (record { challenge = challenge }) })))
      (λ logged. record { principal = principal; found = is; secret = refl })

  proofless-login_hello : (a : MonitorArrival) (hello : Result LoginHello BytesFault) → IsProofless before a (on_login_hello a hello)
  proofless-login_hello a (Err why) = proofless-refuses_bytes before a why []
  proofless-login_hello a (Ok hello) = proofless-challenges a hello (find (is_named hello.name) a.own.server.ring) refl

  proofless-hello : (a : MonitorArrival) (hello : Result Hello BytesFault) → IsProofless before a (on_hello a hello)
  proofless-hello a (Ok hello) = proofless-goes_on before a AwaitsRequest [] [] (λ logged. tt)
  proofless-hello a (Err why) = proofless-refuses_bytes before a why []

  proofless-request : (a : MonitorArrival) (request : Result AuthRequest BytesFault) → IsProofless before a (on_auth_request on_request_payload a request)
  proofless-request a (Err why) = proofless-refuses_bytes before a why []
  proofless-request a (Ok request) = by_tests (not (request.method == 2)) (not (list_any (λ mode. mode == 2) request.modes))
    where
      by_tests : (other plain : Bool) → IsProofless before a (if other then denies a 95 Method [] else if plain then denies a 95 Mode [] else on_request_payload a request.payload)
      by_tests true plain = proofless-denies before a 95 Method []
      by_tests false true = proofless-denies before a 95 Mode []
      by_tests false false = proofless-login_hello a (whole login_hello_layout.form request.payload)

-- on a link that is this bearer's
module _ (before : MonitorStage) (bearer : Bearer) (borne : Bears before bearer) where
  proofless-signature : (a : MonitorArrival) (s : Secured) (found : Result AuthSignature BytesFault) → IsProofless before a (on_signature a s bearer found)
  proofless-signature a s (Err why) = proofless-refuses_bytes before a why []
  proofless-signature a s (Ok found) = by_test (is_signed s found.signature)
    where
      by_test : (right : Bool) → IsProofless before a (if right then goes_on a (AwaitsIdent s bearer) [] (signature_found s ∷ []) else refuses a (Login SignatureWrong) [])
      by_test true = proofless-goes_on before a (AwaitsIdent s bearer) [] (signature_found s ∷ []) (λ logged. borne)
      by_test false = proofless-refuses before a (Login SignatureWrong) []

  proofless-missing : (a : MonitorArrival) (features : ℕ) (sealed : Result SealedFrame BytesFault) → IsProofless before a (missing_told a features sealed)
  proofless-missing a features (Err why) = proofless-refuses_bytes before a why []
  proofless-missing a features (Ok sealed) =
      record { asked = λ t has. absurd (none-issued (missing_told a features (Ok sealed)).entries (tt, tt) t has); ring_stays = refl; link = λ logged. tt }

  proofless-client_ident : (a : MonitorArrival) (s : Secured) (ident : Result ClientIdent BytesFault) → IsProofless before a (on_client_ident a s bearer ident)
  proofless-client_ident a s (Err why) = proofless-refuses_bytes before a why []
  proofless-client_ident a s (Ok ident) = by_test (ident.required == 0)
    where
      by_test : (plain : Bool) → IsProofless before a (if plain then sends_secure a s (λ behind. Open behind bearer) [] (server_ident a.own.address 1 0) else misses a s ident.required)
      by_test true = proofless-secure before a s (λ behind. Open behind bearer) [] (secure_frame s.keys (server_ident a.own.address 1 0)) (λ t logged. borne)
      by_test false = proofless-missing a ident.required (secure_frame s.keys (control 10 ident_missing_features_layout.form (record { features = ident.required })))

  proofless-reconnect : (a : MonitorArrival) (s : Secured) (reconnect : Result SessionReconnect BytesFault) → IsProofless before a (on_session_reconnect a s bearer reconnect)
  proofless-reconnect a s (Err why) = proofless-refuses_bytes before a why []
  proofless-reconnect a s (Ok reconnect) = proofless-secure before a s (λ behind. AwaitsIdent behind bearer) [] (secure_frame s.keys session_reset) (λ t logged. borne)

  proofless-ident : (a : MonitorArrival) (s : Secured) (f : Frame) → IsProofless before a (on_ident a s bearer f)
  proofless-ident a s f = by_tests (f.tag == 8) (f.tag == 11)
    where
      by_tests : (client reconnect : Bool) → IsProofless before a (if client then on_client_ident a s bearer (payload client_ident_layout.form f)
          else if reconnect then on_session_reconnect a s bearer (payload session_reconnect_layout.form f) else refuses_bytes a (Unexpected f.tag) [])
      by_tests true reconnect = proofless-client_ident a s (payload client_ident_layout.form f)
      by_tests false true = proofless-reconnect a s (payload session_reconnect_layout.form f)
      by_tests false false = proofless-refuses_bytes before a (Unexpected f.tag) []

  proofless-keepalive : (a : MonitorArrival) (s : Secured) (keepalive : Result Keepalive2 BytesFault)
      → IsProofless before a (on_keepalive a s (λ behind. Open behind bearer) keepalive)
  proofless-keepalive a s (Err why) = proofless-refuses_bytes before a why []
  proofless-keepalive a s (Ok keepalive) =
      proofless-secure before a s (λ behind. Open behind bearer) [] (secure_frame s.keys (control 19 keepalive2_ack_layout.form (record { time = keepalive.time }))) (λ t logged. borne)

  proofless-keepalive_ack : (a : MonitorArrival) (s : Secured) (ack : Result Keepalive2Ack BytesFault) → IsProofless before a (on_keepalive_ack a s (λ behind. Open behind bearer) ack)
  proofless-keepalive_ack a s (Err why) = proofless-refuses_bytes before a why []
  proofless-keepalive_ack a s (Ok ack) = proofless-goes_on before a (Open s bearer) [] [] (λ logged. borne)

-- ---- the row of a request

-- what is replied issues tickets for this bearer alone
abbrev IsForBearer : Bearer → Response → Type 0
IsForBearer bearer (response.Refuses why drawn) = Unit {0}
IsForBearer bearer (response.Replies made) = (t : Issued) → Contains made.entries (journal.Issued t) → IsOfBearer bearer t

-- so it is, and the key server has the keyring of before
record RespondsTo (ring : List Principal) (bearer : Bearer) (r : Responded) : Type 0 where
  ring_stays : r.server.ring ≡ ring
  response : IsForBearer bearer r.response

all-of-bearer : (bearer : Bearer) (reading : ℕ) (block : List ℕ) (ts : List Ticket) → AllByRecursion (IsOther bearer.name bearer.gid reading block) ts
    → AllByRecursion (λ (k : Ticket). IsOfBearer bearer (issued_of k)) ts
all-of-bearer bearer reading block [] h = tt
all-of-bearer bearer reading block (k ∷ ts) h =
    (record { named = h.0.0.entity; gid = h.0.0.gid_is; service = h.0.1 }, all-of-bearer bearer reading block ts h.1)

-- no reply holds a ticket for AUTH
others-apart : (keys : ℕ) → AllByRecursion (λ (service : EntityType). service ≡ Auth → ⊥) (others_for keys)
others-apart keys =
    all-filter (λ (service : EntityType). service ≡ Auth → ⊥) (is_asked keys) (Mds ∷ Osd ∷ Mgr ∷ []) ((λ e. cc), ((λ e. cc), ((λ e. cc), tt)))

tickets-respond : (at : Occasion) (server : Server) (bearer : Bearer) (drawn : List SealEntry) (own : List ℕ) (tickets : Result (List Ticket) LoginFault)
    → AreOthers server bearer.name bearer.gid bearer.session at.reading at.draw tickets → RespondsTo server.ring bearer (tells_tickets at server bearer drawn own tickets)
tickets-respond at server bearer drawn own (Err why) h = record { ring_stays = refl; response = tt }
tickets-respond at server bearer drawn own (Ok tickets) h = record {
  ring_stays = refl;
  response = of-login (IsOfBearer bearer) (changed at.saved server.state) tickets (all-of-bearer bearer at.reading at.draw tickets h);
}

issues-respond : (at : Occasion) (server : Server) (bearer : Bearer) (drawn : List SealEntry) (keys : ℕ) (own : Option Key)
    → RespondsTo server.ring bearer (issues_tickets at server bearer drawn keys own)
issues-respond at server bearer drawn keys None = record { ring_stays = refl; response = tt }
issues-respond at server bearer drawn keys (Some own) =
    tickets-respond at server bearer drawn own.secret (issued_for server (asking_of at bearer) (others_for keys))
    (others-issued server bearer.name bearer.gid bearer.session at.reading at.draw (others_for keys) (others-apart keys))

generations-respond : (at : Occasion) (server : Server) (bearer : Bearer) (drawn : List SealEntry) (own : Option Key) (found : Result (List Generation) NotADaemon)
    → RespondsTo server.ring bearer (tells_generations at server bearer drawn own found)
generations-respond at server bearer drawn (Some own) (Ok generations) = record {
  ring_stays = refl;
  response = of-login (IsOfBearer bearer) (changed at.saved server.state) [] tt;
}
generations-respond at server bearer drawn (Some own) (Err why) = record { ring_stays = refl; response = tt }
generations-respond at server bearer drawn None (Ok generations) = record { ring_stays = refl; response = tt }
generations-respond at server bearer drawn None (Err why) = record { ring_stays = refl; response = tt }

request-responds : (at : Occasion) (server : Server) (bearer : Bearer) (drawn : List SealEntry) (request : Option Request)
    → RespondsTo server.ring bearer (answers_by at server bearer drawn request)
request-responds at server bearer drawn (Some (asked.Tickets keys)) = issues-respond at server bearer drawn keys (key_of server bearer.name)
request-responds at server bearer drawn (Some asked.Rotating) =
    generations-respond at server bearer drawn (key_of server bearer.name) (secrets_of server bearer.name)
request-responds at server bearer drawn None = record { ring_stays = refl; response = tt }

answers-respond : (at : Occasion) (server : Server) (bearer : Bearer) (request : Option Request) → RespondsTo server.ring bearer (answers at server bearer request)
answers-respond at server bearer request =
    request-responds at (rotated_server at.reading at.draw server) bearer (rotation_drawn at.reading at.draw server.state) request

-- on a link that is open
module _ (secured : Secured) (bearer : Bearer) where
  abbrev open_before : MonitorStage
  open_before = Open secured bearer

  reply-tells : (a : MonitorArrival) (s : Secured) (seq : ℕ) (made : ReplyMade) (sealing : Result SealedFrame BytesFault) → IsForBearer bearer (response.Replies made)
      → IsProofless open_before a (sends_reply Open a s bearer seq made sealing)
  reply-tells a s seq made (Err why) h = proofless-refuses_bytes open_before a why made.seals
  reply-tells a s seq made (Ok sent) h = record {
    asked = λ t has. record { secured = secured; bearer = bearer; stage_is = refl; of = h t has };
    ring_stays = refl;
    link = λ logged. record { name = refl; gid = refl; session = refl };
  }

  responds-tells : (a : MonitorArrival) (s : Secured) (demand : Demand) (r : Response) → IsForBearer bearer r → IsProofless open_before a (responds Open a s bearer demand r)
  responds-tells a s demand (response.Refuses why drawn) h = proofless-refuses open_before a why drawn
  responds-tells a s demand (response.Replies made) h = reply-tells a s demand.seq made (secure_frame s.keys (reply_message demand.tid made.body)) h

  demand-tells : (a : MonitorArrival) (s : Secured) (found : Result Demand Reason) → IsProofless open_before a (on_demand Open a s bearer found)
  demand-tells a s (Err why) = proofless-refuses open_before a why []
  demand-tells a s (Ok demand) =
      let r : Responded = answers (request_occasion a) a.own.server bearer demand.request in
      let h : RespondsTo a.own.server.ring bearer r = answers-respond (request_occasion a) a.own.server bearer demand.request in
      let row : MonitorRow = responds Open (serving a r.server) s bearer demand r.response in
      subst (λ (ring : List Principal). Proofless open_before ring row) h.ring_stays (responds-tells (serving a r.server) s demand r.response h.response)

  open-tells : (a : MonitorArrival) (s : Secured) (f : Frame) → IsProofless open_before a (on_open Open a s bearer f)
  open-tells a s f = by_tests (f.tag == 18) (f.tag == 19)
    where
      by_tests : (ask ack : Bool) → IsProofless open_before a (if ask then on_keepalive a s (λ behind. Open behind bearer) (payload keepalive2_layout.form f)
          else if ack then on_keepalive_ack a s (λ behind. Open behind bearer) (payload keepalive2_ack_layout.form f) else on_message Open a s bearer f)
      by_tests true ack = proofless-keepalive open_before bearer (same-bearer bearer) a s (payload keepalive2_layout.form f)
      by_tests false true = proofless-keepalive_ack open_before bearer (same-bearer bearer) a s (payload keepalive2_ack_layout.form f)
      by_tests false false = demand-tells a s (heard bearer f)

-- ---- the row of a proof

-- the proof of an offer is the first of these entries
abbrev HasProof : Offer → ℕ → List SealEntry → Type 0
HasProof offer client seals = (rest : List SealEntry) × (seals ≡ proof_found offer client ∷ rest)

-- a key server behind the choice of a global id has the keyring of before
abbrev KeepsRing : List Principal → Result Numbered LoginFault → Type 0
KeepsRing ring (Ok n) = n.server.ring ≡ ring
KeepsRing ring (Err why) = Unit {0}

numbered-keeps : (server : Server) (choice : Reclaim) → KeepsRing server.ring (numbered server choice)
numbered-keeps server (reclaim.Kept gid) = refl
numbered-keeps server reclaim.Fresh = by_test (server.state.next_gid == 2 ^ 64 - 1)
  where
    by_test : (spent : Bool) → KeepsRing server.ring (if spent then Err login.GidsSpent
        else Ok (record { server = record server { state = record server.state { next_gid = server.state.next_gid + 1 } }; gid = server.state.next_gid }))
    by_test true = tt
    by_test false = refl
numbered-keeps server (reclaim.Denied gid) = tt

module _ (offered : Offered) (client : ℕ) where
  abbrev OfferTells : MonitorArrival → MonitorRow → Type 0
  OfferTells a row = RowTells a.own.server.ring (AwaitsProof offered) row

  denied : (a : MonitorArrival) (why : LoginFault) (seals : List SealEntry) → OfferTells a (denies a 13 why seals)
  denied a why seals = proofless-tells (AwaitsProof offered) a.own.server.ring (denies a 13 why seals) (λ s bearer is. absurd cc) (proofless-denies (AwaitsProof offered) a 13 why seals)

  handed-tells : (a : MonitorArrival) (e : Entrant) (own : List ℕ) (tickets : List Ticket) (r : Result Finished BytesFault) → e.name ≡ offered.offer.name
      → AllByRecursion (λ (k : Ticket). k.entity ≡ offered.offer.name) tickets → HasProof offered.offer client e.seals
      → OfferTells a (hands_over a (handed_out (occasion a) a.own.server e own tickets) r)
  handed-tells a e own tickets (Err why) same h proof =
      proofless-tells (AwaitsProof offered) a.own.server.ring (refuses_bytes a why e.seals) (λ s bearer is. absurd cc) (proofless-refuses_bytes (AwaitsProof offered) a why e.seals)
  handed-tells a e own tickets (Ok done) same h proof =
      let sealed : List SealEntry = (handed_out (occasion a) a.own.server e own tickets).sealed in
      record {
        asked = λ t has. inl (by_proof sealed t.entity
            (sym (of-login (λ (i : Issued). i.entity ≡ offered.offer.name) (changed a.own.saved a.own.server.state) tickets h t has)));
        ring_stays = refl;
        link = by_proof sealed e.name (sym same);
      }
    where
      by_proof : (sealed : List SealEntry) (name : Name) → offered.offer.name ≡ name → IsBehindProof (AwaitsProof offered) name (e.seals ++ (sealed ++ done.seals))
      by_proof sealed name named = record {
        offered = offered;
        stage_is = refl;
        named = named;
        client_challenge = client;
        rest = proof.0 ++ (sealed ++ done.seals);
        checked = ap (λ (es : List SealEntry). es ++ (sealed ++ done.seals)) proof.1;
      }

  issued-tells : (a : MonitorArrival) (e : Entrant) (own : List ℕ) (tickets : Result (List Ticket) LoginFault) → e.name ≡ offered.offer.name
      → AreIssued a.own.server e.name e.gid (session_of Auth a.draw) a.reading a.draw tickets → HasProof offered.offer client e.seals
      → OfferTells a (row_of a (issues (occasion a) a.own.server e own tickets))
  issued-tells a e own (Err why) same ok proof = denied a why e.seals
  issued-tells a e own (Ok []) same ok proof = absurd ok
  issued-tells a e own (Ok (t ∷ ts)) same ok proof =
      let all : AllByRecursion (λ (k : Ticket). k.entity ≡ e.name) (t ∷ ts) = (ok.first.entity, of-others e.name e.gid a.reading a.draw ts ok.others) in
      let named : AllByRecursion (λ (k : Ticket). k.entity ≡ offered.offer.name) (t ∷ ts) =
      subst (λ (name : Name). AllByRecursion (λ (k : Ticket). k.entity ≡ name) (t ∷ ts)) same all in
      handed-tells a e own (t ∷ ts)
      (finished a.link (session_of Auth a.draw) (connection_of a.draw) (done_frame (handed_out (occasion a) a.own.server e own (t ∷ ts)).payload)) same named proof

  issues_to-tells : (a : MonitorArrival) (e : Entrant) (own : Option Key) → e.name ≡ offered.offer.name → HasProof offered.offer client e.seals
      → OfferTells a (row_of a (issues_to (occasion a) a.own.server e own))
  issues_to-tells a e None same proof = denied a _ e.seals
  issues_to-tells a e (Some own) same proof =
      issued-tells a e own.secret (issued_for a.own.server (asking_for (occasion a) e.name e.gid) (services_for e.asked)) same
      (all-issued a.own.server e.name e.gid (session_of Auth a.draw) a.reading a.draw e.asked) proof

  numbers-tells : (a : MonitorArrival) (proven : Proven) (seals : List SealEntry) (n : Result Numbered LoginFault) → proven.offer ≡ offered.offer → HasProof offered.offer client seals
      → KeepsRing a.own.server.ring n → OfferTells a (row_of a (numbers (occasion a) a.own.server proven seals n))
  numbers-tells a proven seals (Err why) same proof keeps = denied a why seals
  numbers-tells a proven seals (Ok n) same proof keeps =
      let row : MonitorRow = row_of a (numbers (occasion a) a.own.server proven seals (Ok n)) in
      let told : RowTells n.server.ring (AwaitsProof offered) row =
      issues_to-tells (with_server a n.server) (entrant proven.offer.name n.gid proven.ask.other_keys seals) (key_of n.server proven.offer.name)
      (ap (λ (o : Offer). o.name) same) proof in
      subst (λ (ring : List Principal). RowTells ring (AwaitsProof offered) row) keeps told

rotates-tells : (a : MonitorArrival) (offered : Offered) (ask : Authenticate) → RowTells a.own.server.ring (AwaitsProof offered)
    (row_of a (rotates (occasion a) a.own.server offered.gid (record { offer = offered.offer; ask = ask })))
rotates-tells a offered ask =
    let proven : Proven = record { offer = offered.offer; ask = ask } in
    let server = rotated_server a.reading a.draw a.own.server in
    let old = old_ticket server.state.auth ask.old_ticket in
    let seals : List SealEntry = proof_found offered.offer ask.client_challenge ∷ rotation_drawn a.reading a.draw a.own.server.state in
    let choice : Reclaim = reclaimed offered.gid ask.version (kept_gid offered.offer.name a.reading old.value) in
    numbers-tells offered ask.client_challenge (with_server a server) proven (seals ++ old.seals) (numbered server choice) refl
    (rotation_drawn a.reading a.draw a.own.server.state ++ old.seals, refl) (numbered-keeps server choice)

proves-tells : (a : MonitorArrival) (offered : Offered) (ask : Authenticate) → RowTells a.own.server.ring (AwaitsProof offered) (proves a offered.gid (proving offered.offer ask))
proves-tells a offered ask = by_test (due_proof offered.offer.secret offered.offer.challenge ask.client_challenge == ask.key)
  where
    by_test : (t : Bool) → RowTells a.own.server.ring (AwaitsProof offered) (proves a offered.gid
        (if t then Ok (record { offer = offered.offer; ask = ask }) else Err (record { expected = due_proof offered.offer.secret offered.offer.challenge ask.client_challenge; got = ask.key })))
    by_test true = rotates-tells a offered ask
    by_test false = denied offered 0 a _ []

authenticate-tells : (a : MonitorArrival) (offered : Offered) (ask : Result Authenticate BytesFault) → RowTells a.own.server.ring (AwaitsProof offered) (on_authenticate a offered ask)
authenticate-tells a offered (Err why) = proofless-tells (AwaitsProof offered) a.own.server.ring (refuses_bytes a why []) (λ s bearer is. absurd cc) (proofless-refuses_bytes (AwaitsProof offered) a why [])
authenticate-tells a offered (Ok ask) = proves-tells a offered ask

more-tells : (a : MonitorArrival) (offered : Offered) (more : Result AuthRequestMore BytesFault) → RowTells a.own.server.ring (AwaitsProof offered) (on_auth_request_more a offered more)
more-tells a offered (Err why) = proofless-tells (AwaitsProof offered) a.own.server.ring (refuses_bytes a why []) (λ s bearer is. absurd cc) (proofless-refuses_bytes (AwaitsProof offered) a why [])
more-tells a offered (Ok more) = authenticate-tells a offered (whole authenticate_layout.form more.payload)

-- ---- turns

-- what is said of the row of a turn, if there is one
abbrev pub RowOf : {Own Stage : Type 0} → (Row Own Stage → Type 0) → Turned Own Stage → Type 0
RowOf P turned = EachRow P turned

-- a row that issues no ticket behind a proof, behind what opened
opened-tells : (stage : MonitorStage) (a : MonitorArrival) (opened : List SealEntry) (row : MonitorRow) → HearsFirst stage opened → IsProofless stage a row
    → RowTells a.own.server.ring stage (with_opened opened row)
opened-tells stage a opened row heard h =
    proofless-tells stage a.own.server.ring (with_opened opened row) (λ s bearer is. hears-more s.keys opened row.seals (heard s bearer is)) (proofless-opened stage a opened row h)

-- the rows of a link that is open
open-front : (a : MonitorArrival) (s : Secured) (bearer : Bearer) (front : Front (Link MonitorStage × Frame × Keys)) → secure_next s.keys a.link ≡ front
    → RowOf (RowTells a.own.server.ring (Open s bearer)) (turned_by (λ (link, f, keys) opened. with_opened opened (on_open Open (at a link) (under s keys) bearer f)) front)
open-front a s bearer NotYet next = tt
open-front a s bearer (Broken why opened) next = tt
open-front a s bearer (Next (link, f, keys) opened) next =
    opened-tells (Open s bearer) (at a link) opened (on_open Open (at a link) (under s keys) bearer f) heard (open-tells s bearer (at a link) (under s keys) f)
  where
    heard : HearsFirst (Open s bearer) opened
    heard t b is = let same : s ≡ t = cc in subst (λ (x : Secured). HearsPart x.keys opened) same (next-heard s.keys a.link (link, f, keys) opened next)

pub turned-tells : (a : MonitorArrival) (stage : MonitorStage) → RowOf (RowTells a.own.server.ring stage) (turned_at a stage)
turned-tells a AwaitsBanner =
    each-turned (RowTells a.own.server.ring AwaitsBanner) (λ link _. on_banner Mon (at a link))
    (λ link opened. proofless-tells AwaitsBanner a.own.server.ring (on_banner Mon (at a link)) (λ s bearer is. absurd cc)
    (proofless-plain AwaitsBanner (at a link) AwaitsHello [] (plain_frame (own_hello Mon)) (λ logged. tt))) (banner_next a.link)
turned-tells a AwaitsHello =
    each-turned (RowTells a.own.server.ring AwaitsHello) (λ (link, f) _. on_hello (at a link) (due 1 hello_layout.form f))
    (λ (link, f) opened. proofless-tells AwaitsHello a.own.server.ring (on_hello (at a link) (due 1 hello_layout.form f)) (λ s bearer is. absurd cc)
    (proofless-hello AwaitsHello (at a link) (due 1 hello_layout.form f))) (plain_next a.link)
turned-tells a AwaitsRequest =
    each-turned (RowTells a.own.server.ring AwaitsRequest) (λ (link, f) _. on_auth_request on_request_payload (at a link) (due 2 auth_request_layout.form f))
    (λ (link, f) opened. proofless-tells AwaitsRequest a.own.server.ring (on_auth_request on_request_payload (at a link) (due 2 auth_request_layout.form f)) (λ s bearer is. absurd cc)
    (proofless-request AwaitsRequest (at a link) (due 2 auth_request_layout.form f))) (plain_next a.link)
turned-tells a (AwaitsProof offered) =
    each-turned (RowTells a.own.server.ring (AwaitsProof offered)) (λ (link, f) _. on_auth_request_more (at a link) offered (due 5 auth_request_more_layout.form f))
    (λ (link, f) opened. more-tells (at a link) offered (due 5 auth_request_more_layout.form f)) (plain_next a.link)
turned-tells a (AwaitsSignature s bearer) =
    each-turned (RowTells a.own.server.ring (AwaitsSignature s bearer))
    (λ (link, f, keys) opened. with_opened opened (on_signature (at a link) (under s keys) bearer (due 7 auth_signature_layout.form f)))
    (λ (link, f, keys) opened. opened-tells (AwaitsSignature s bearer) (at a link) opened (on_signature (at a link) (under s keys) bearer (due 7 auth_signature_layout.form f)) (λ t b is. absurd cc)
    (proofless-signature (AwaitsSignature s bearer) bearer (same-bearer bearer) (at a link) (under s keys) (due 7 auth_signature_layout.form f))) (secure_next s.keys a.link)
turned-tells a (AwaitsIdent s bearer) =
    each-turned (RowTells a.own.server.ring (AwaitsIdent s bearer)) (λ (link, f, keys) opened. with_opened opened (on_ident (at a link) (under s keys) bearer f))
    (λ (link, f, keys) opened. opened-tells (AwaitsIdent s bearer) (at a link) opened (on_ident (at a link) (under s keys) bearer f) (λ t b is. absurd cc)
    (proofless-ident (AwaitsIdent s bearer) bearer (same-bearer bearer) (at a link) (under s keys) f)) (secure_next s.keys a.link)
turned-tells a (Open s bearer) = open-front a s bearer (secure_next s.keys a.link) refl

-- ---- steps

-- a turn of a link of the monitor, at which the ticket is issued
pub record IsOfTurn (m : MonitorNode) (input : Input) (t : Issued) (seals : List SealEntry) : Type 0 where
  pub number : ℕ
  pub turn_is : input ≡ Turn number
  pub link : Link MonitorStage
  pub found : link_of number m.links ≡ Some link
  pub behind : IsBehind link.stage t seals

abbrev StepTells : MonitorNode → Input → Outcome MonitorNode → Type 0
StepTells m input o = (t : Issued) → Contains o.out.entries (journal.Issued t) → IsOfTurn m input t o.out.seals

quiet-step : (m : MonitorNode) (input : Input) (o : Outcome MonitorNode) → AllByRecursion IsNotIssued o.out.entries → StepTells m input o
quiet-step m input o q t has = absurd (none-issued o.out.entries q t has)

turn-tells : (m : MonitorNode) (number reading : ℕ) (block : List ℕ) (link : Option (Link MonitorStage)) → link_of number m.links ≡ link → StepTells m (Turn number) (turn m reading block link)
turn-tells m number reading block None is = λ t has. absurd (none-issued [] tt t has)
turn-tells m number reading block (Some link) is =
    let a : MonitorArrival = arrival node.Monitor m.own link reading block in
    by_turned a (turned_at a link.stage) (turned-tells a link.stage)
  where
    by_turned : (a : MonitorArrival) (turned : Turned Monitor MonitorStage) → RowOf (RowTells a.own.server.ring link.stage) turned → StepTells m (Turn number) (turns m a turned)
    by_turned a Waits h = λ t has. absurd (none-issued [] tt t has)
    by_turned a (Refuses why opened) h = λ t has. absurd (none-issued (turns m a (Refuses why opened)).out.entries (tt, tt) t has)
    by_turned a (Handles row) h = λ t has. record { number = number; turn_is = refl; link = link; found = is; behind = h.asked t has }

opens-none : (m : MonitorNode) (reading : ℕ) (block : List ℕ) (link : Link MonitorStage) → AllByRecursion IsNotIssued (opens m reading block link).out.entries
opens-none m reading block link = by_test (nat_le 1024 (length m.links))
  where
    by_test : (full : Bool) → AllByRecursion IsNotIssued (carried_out m link.number false
        (if full then refuses (arrival node.Monitor m.own link reading block) LinksFull [] else goes_on (arrival node.Monitor m.own link reading block) AwaitsBanner own_banner [])).out.entries
    by_test true = (tt, tt)
    by_test false = tt

fed-none : (m : MonitorNode) (bytes : List ℕ) (link : Option (Link MonitorStage)) → AllByRecursion IsNotIssued (fed m bytes link).out.entries
fed-none m bytes None = tt
fed-none m bytes (Some link) = tt

pub step-tells : (m : MonitorNode) (input : Input) (reading : ℕ) (block : List ℕ) → StepTells m input (monitor_step m input reading block)
step-tells m (Opened number peer) reading block = quiet-step m (Opened number peer) (monitor_step m (Opened number peer) reading block) (opens-none m reading block (new_link number AwaitsBanner))
step-tells m (Bytes number bytes) reading block = quiet-step m (Bytes number bytes) (monitor_step m (Bytes number bytes) reading block) (fed-none m bytes (link_of number m.links))
step-tells m (Turn number) reading block = turn-tells m number reading block (link_of number m.links) refl
step-tells m (Gone number) reading block = quiet-step m (Gone number) (monitor_step m (Gone number) reading block) tt
step-tells m Restart reading block = quiet-step m Restart (monitor_step m Restart reading block) (tt, tt)
step-tells m (NoLink peer) reading block = quiet-step m (NoLink peer) (monitor_step m (NoLink peer) reading block) (tt, tt)
step-tells m (Look view) reading block = quiet-step m (Look view) (monitor_step m (Look view) reading block) tt
step-tells m Tick reading block = quiet-step m Tick (monitor_step m Tick reading block) tt
step-tells m (Submit command) reading block = quiet-step m (Submit command) (monitor_step m (Submit command) reading block) tt
