-- What each row of the monitor does to the generations: they stay, or they are rotated; and what it issues is under those that it saves.
use Rattle.std.proofs.Common.{◌≡◌, ◌⊎◌, ℕ, ◌+◌, ◌-◌, ◌^◌, ◌==◌, Bool, true, false, List, [], ◌∷◌, ◌++◌, Option, Some, None, Result, Ok, Err, inl, inr, refl, sym, ap, ◌∙◌, subst}
use Rattle.std.specs.Prelude.{Contains, find, not, if◌then◌else◌}
use Rattle.std.specs.List.{AllByRecursion, list_any}
use Rattle.cx_base.specs.declared.kinds.EntityType.{EntityType}
use Rattle.cx_base.specs.declared.kinds.EntityType.TheVariants.{Mon, Mds, Osd, Client, Mgr, Auth}
use Rattle.cx_laws_tickets.specs.cx_control.specs.Auth.{auth_reply_more_layout, auth_request_layout, auth_request_more_layout, auth_signature_layout}
use Rattle.cx_laws_tickets.specs.cx_control.specs.Hello.{hello_layout}
use Rattle.cx_laws_tickets.specs.cx_control.specs.Idents.{client_ident_layout, ident_missing_features_layout}
use Rattle.cx_laws_tickets.specs.cx_control.specs.Reconnects.{session_reconnect_layout}
use Rattle.cx_laws_tickets.specs.cx_control.specs.Upkeep.{keepalive2_layout, keepalive2_ack_layout}
use Rattle.cx_laws_tickets.specs.cx_control.specs.declared.auth.AuthRequest.{AuthRequest}
use Rattle.cx_laws_tickets.specs.cx_control.specs.declared.auth.AuthRequestMore.{AuthRequestMore}
use Rattle.cx_laws_tickets.specs.cx_control.specs.declared.auth.AuthSignature.{AuthSignature}
use Rattle.cx_laws_tickets.specs.cx_control.specs.declared.hello.Hello.{Hello}
use Rattle.cx_laws_tickets.specs.cx_control.specs.declared.idents.ClientIdent.{ClientIdent}
use Rattle.cx_laws_tickets.specs.cx_control.specs.declared.reconnects.SessionReconnect.{SessionReconnect}
use Rattle.cx_laws_tickets.specs.cx_control.specs.declared.upkeep.Keepalive2.{Keepalive2}
use Rattle.cx_laws_tickets.specs.cx_control.specs.declared.upkeep.Keepalive2Ack.{Keepalive2Ack}
use Rattle.cx_dice.specs.Draws.{challenge_of, connection_of, session_of}
use Rattle.cx_enc.specs.declared.keys.Key.{Key}
use Rattle.cx_frame.specs.declared.frame.Frame.{Frame}
use Rattle.cx_laws_tickets.specs.cx_journal.specs.declared.entries.Entry.{Entry}
use Rattle.cx_laws_tickets.specs.cx_journal.specs.declared.entries.Entry.TheVariants as journal
use Rattle.cx_laws_tickets.specs.cx_journal.specs.declared.entries.Issued.{Issued}
use Rattle.cx_laws_tickets.specs.cx_journal.specs.declared.faults.BytesFault.{BytesFault}
use Rattle.cx_laws_tickets.specs.cx_journal.specs.declared.faults.BytesFault.TheVariants.{Unexpected}
use Rattle.cx_laws_tickets.specs.cx_journal.specs.declared.faults.LoginFault.{LoginFault}
use Rattle.cx_laws_tickets.specs.cx_journal.specs.declared.faults.LoginFault.TheVariants.{Method, Mode, SignatureWrong}
use Rattle.cx_laws_tickets.specs.cx_journal.specs.declared.faults.LoginFault.TheVariants as login
use Rattle.cx_laws_tickets.specs.cx_journal.specs.declared.outcomes.Reason.{Reason}
use Rattle.cx_laws_tickets.specs.cx_journal.specs.declared.outcomes.Reason.TheVariants.{Login}
use Rattle.cx_laws_tickets.specs.cx_keyring.specs.Entries.{is_named}
use Rattle.cx_laws_tickets.specs.cx_keyring.specs.declared.entries.Entry.{Entry as Principal}
use Rattle.cx_laws_tickets.specs.cx_keyserver.specs.Servers.{Server, generations_of, life_of, rotated_of, rotated_server, rotated_state, secrets_of}
use Rattle.cx_laws_tickets.specs.cx_keyserver.specs.declared.refusals.NotADaemon.{NotADaemon}
use Rattle.cx_laws_tickets.specs.cx_keyserver.specs.declared.tickets.Ticket.{Ticket}
use Rattle.cx_laws_tickets.specs.cx_login.specs.Monitor.{Offer, Proven, kept_gid, proof_found, proving, reclaimed}
use Rattle.cx_laws_tickets.specs.cx_login.specs.Proving.{due_proof}
use Rattle.cx_laws_tickets.specs.cx_login.specs.Unlocking.{old_ticket}
use Rattle.cx_laws_tickets.specs.cx_login.specs.declared.monitor.Reclaim.{Reclaim}
use Rattle.cx_laws_tickets.specs.cx_login.specs.declared.monitor.Reclaim.TheVariants as reclaim
use Rattle.cx_rotate.specs.declared.generations.Generation.{Generation}
use Rattle.cx_rotate.specs.declared.states.KeptState.{KeptState}
use Rattle.cx_laws_tickets.specs.cx_rules.proofs.Granting.{saved-changed}
use Rattle.cx_laws_tickets.specs.cx_rules.specs.Acceptor.{AwaitsBanner, AwaitsHello, AwaitsRequest, AwaitsProof, AwaitsSignature, AwaitsIdent, Open, Finished, denies, finished, misses, missing_told, on_auth_request, on_banner, on_hello, on_signature, server_ident}
use Rattle.cx_laws_tickets.specs.cx_rules.specs.Fronts.{banner_next, plain_next, secure_next}
use Rattle.cx_laws_tickets.specs.cx_rules.specs.Greetings.{own_hello}
use Rattle.cx_laws_tickets.specs.cx_rules.specs.KeptStates.{changed, saved_behind}
use Rattle.cx_laws_tickets.specs.cx_rules.specs.Monitor.{Monitor, MonitorArrival, MonitorRow, MonitorStage, Offered}
use Rattle.cx_laws_tickets.specs.cx_rules.specs.MonitorLogin.{challenges, done_frame, hands_over, occasion, on_authenticate, on_login_hello, proves, row_of, with_server}
use Rattle.cx_laws_tickets.specs.cx_rules.specs.MonitorRequests.{heard, on_demand, on_message, on_open, reply_message, request_occasion, responds, sends_reply, serving}
use Rattle.cx_laws_tickets.specs.cx_rules.specs.MonitorRule.{on_auth_request_more, on_client_ident, on_ident, on_request_payload, on_session_reconnect, session_reset, turned_at}
use Rattle.cx_laws_tickets.specs.cx_rules.specs.Payloads.{control, due, payload, whole}
use Rattle.cx_laws_tickets.specs.cx_rules.specs.Replies.{Responded, answers, answers_by, asking_of, issues_tickets, others_for, tells_generations, tells_tickets}
use Rattle.cx_laws_tickets.specs.cx_rules.specs.Rows.{at, goes_on, plain_sent, refuses, refuses_bytes, secure_sent, sends_secure, with_opened}
use Rattle.cx_laws_tickets.specs.cx_rules.specs.Secured.{SealedFrame, Secured, is_signed, plain_frame, secure_frame, signature_found, under}
use Rattle.cx_laws_tickets.specs.cx_rules.specs.Tickets.{issued_for, rotation_drawn, services_for}
use Rattle.cx_laws_tickets.specs.cx_rules.specs.Upkeep.{on_keepalive, on_keepalive_ack}
use Rattle.cx_laws_tickets.specs.cx_rules.specs.Verdicts.{Entrant, Numbered, asking_for, entrant, handed_out, issues, issues_to, key_of, login_entries, numbered, numbers, rotates}
use Rattle.cx_laws_tickets.specs.cx_rules.specs.declared.responses.Bearer.{Bearer}
use Rattle.cx_laws_tickets.specs.cx_rules.specs.declared.responses.Demand.{Demand}
use Rattle.cx_laws_tickets.specs.cx_rules.specs.declared.responses.ReplyMade.{ReplyMade}
use Rattle.cx_laws_tickets.specs.cx_rules.specs.declared.responses.Response.{Response}
use Rattle.cx_laws_tickets.specs.cx_rules.specs.declared.responses.Response.TheVariants as response
use Rattle.cx_laws_tickets.specs.cx_steps.specs.declared.seals.DrawMark.TheVariants as draw
use Rattle.cx_laws_tickets.specs.cx_steps.specs.declared.seals.SealEntry.{SealEntry}
use Rattle.cx_laws_tickets.specs.cx_steps.specs.declared.seals.SealEntry.TheVariants.{Drawn}
use Rattle.cx_laws_tickets.specs.cx_wire.specs.Logins.{authenticate_layout, login_hello_layout, server_challenge_layout}
use Rattle.cx_laws_tickets.specs.cx_wire.specs.declared.bodies.Request.{Request}
use Rattle.cx_laws_tickets.specs.cx_wire.specs.declared.bodies.Request.TheVariants as asked
use Rattle.cx_laws_tickets.specs.cx_wire.specs.declared.logins.Authenticate.{Authenticate}
use Rattle.cx_laws_tickets.specs.cx_wire.specs.declared.logins.LoginHello.{LoginHello}
use Rattle.cx_laws_tickets.specs.chain.Chain.{IsMadeUnder}
use Rattle.cx_laws_tickets.specs.cx_laws_keys.proofs.keys.Journal.{IsNotIssued}
use Rattle.cx_laws_tickets.specs.cx_laws_keys.proofs.login.Entering.{issued_of}
use Rattle.cx_laws_tickets.specs.cx_laws_keys.proofs.login.Proving.{RowOf, of-login}
use Rattle.cx_laws_tickets.specs.cx_laws_keys.proofs.login.Under.{AreOfCurrent, IsOfCurrent, all-under}
use Rattle.cx_laws_tickets.specs.cx_run.proofs.Taking.{each-turned}

-- ---- states

-- the second state has the generations of the first, rotated or as they were, and the lives of the first
pub record StateGoesOn (reading : ℕ) (draw : List ℕ) (old new : KeptState) : Type 0 where
  pub life : new.life ≡ old.life
  pub auth_life : new.auth_life ≡ old.auth_life
  pub generations : ((s : EntityType) → generations_of new s ≡ generations_of old s) ⊎ ((s : EntityType) → generations_of new s ≡ rotated_of reading draw old s)

-- it has them rotated
record IsRotated (reading : ℕ) (draw : List ℕ) (old new : KeptState) : Type 0 where
  life : new.life ≡ old.life
  auth_life : new.auth_life ≡ old.auth_life
  generations : (s : EntityType) → generations_of new s ≡ rotated_of reading draw old s

rotated-goes_on : (reading : ℕ) (draw : List ℕ) (old new : KeptState) → IsRotated reading draw old new → StateGoesOn reading draw old new
rotated-goes_on reading draw old new h = record { life = h.life; auth_life = h.auth_life; generations = inr h.generations }

rotated-is : (reading : ℕ) (draw : List ℕ) (old : KeptState) → IsRotated reading draw old (rotated_state reading draw old)
rotated-is reading draw old = record { life = refl; auth_life = refl; generations = by_service }
  where
    by_service : (s : EntityType) → generations_of (rotated_state reading draw old) s ≡ rotated_of reading draw old s
    by_service Mds = refl
    by_service Osd = refl
    by_service Mgr = refl
    by_service Auth = refl
    by_service Mon = refl
    by_service Client = refl

-- ---- rows

-- each ticket of these entries is under the current generation of its service in this server, and is made by its keyring at this reading, with this draw
abbrev pub AreUnder : ℕ → List ℕ → Server → List Entry → Type 0
AreUnder reading draw server entries =
    (t : Issued) → Contains entries (journal.Issued t) → IsMadeUnder (life_of server.state t.service) (generations_of server.state t.service) server.ring reading draw t

-- from the one to the other, where these entries are made: nothing is saved and nothing issued, or what there is then is saved, and the tickets are
-- under it
pub record GoesOn (reading : ℕ) (draw : List ℕ) (before behind : Monitor) (entries : List Entry) : Type 0 where
  pub state : StateGoesOn reading draw before.server.state behind.server.state
  pub ring : behind.server.ring ≡ before.server.ring
  pub before_is : behind.saved_before ≡ before.saved_before
  pub saves : ((behind.saved ≡ before.saved) × AllByRecursion IsNotIssued entries) ⊎ ((behind.saved ≡ behind.server.state) × AreUnder reading draw behind.server entries)

abbrev pub RowGoesOn : MonitorArrival → MonitorRow → Type 0
RowGoesOn a row = GoesOn a.reading a.draw a.own row.own row.entries

-- the monitor's own is what it was, and no ticket is issued and no view told
abbrev IsStill : MonitorArrival → MonitorRow → Type 0
IsStill a row = (row.own ≡ a.own) × AllByRecursion IsNotIssued row.entries

pub still-goes_on : (reading : ℕ) (draw : List ℕ) (before behind : Monitor) (entries : List Entry) → behind ≡ before → AllByRecursion IsNotIssued entries
    → GoesOn reading draw before behind entries
still-goes_on reading draw before behind entries same none = record {
  state = record {
    life = ap (λ (m : Monitor). m.server.state.life) same;
    auth_life = ap (λ (m : Monitor). m.server.state.auth_life) same;
    generations = inl (λ s. ap (λ (m : Monitor). generations_of m.server.state s) same);
  };
  ring = ap (λ (m : Monitor). m.server.ring) same;
  before_is = ap (λ (m : Monitor). m.saved_before) same;
  saves = inl (ap (λ (m : Monitor). m.saved) same, none);
}

still-row : (a : MonitorArrival) (row : MonitorRow) → IsStill a row → RowGoesOn a row
still-row a row h = still-goes_on a.reading a.draw a.own row.own row.entries h.0 h.1

still-plain : (a : MonitorArrival) (stage : MonitorStage) (seals : List SealEntry) (r : Result (List ℕ) BytesFault) → IsStill a (plain_sent a stage seals r)
still-plain a stage seals (Ok bytes) = (refl, tt)
still-plain a stage seals (Err why) = (refl, (tt, tt))

still-secure : (a : MonitorArrival) (s : Secured) (stage : Secured → MonitorStage) (seals : List SealEntry) (r : Result SealedFrame BytesFault)
    → IsStill a (secure_sent a s stage seals r)
still-secure a s stage seals (Ok sealed) = (refl, tt)
still-secure a s stage seals (Err why) = (refl, (tt, tt))

-- ---- rows that draw no generation and issue nothing

still-challenges : (a : MonitorArrival) (hello : LoginHello) (principal : Option Principal) → IsStill a (challenges a hello principal)
still-challenges a hello None = (refl, (tt, tt))
still-challenges a hello (Some principal) =
    let offer : Offer = record { name = hello.name; secret = principal.key.secret; challenge = challenge_of a.draw } in
    still-plain a (AwaitsProof (record { offer = offer; gid = hello.gid })) (Drawn (draw.Challenge (challenge_of a.draw)) ∷ [])
    (plain_frame (control 4 auth_reply_more_layout.form (record { payload = server_challenge_layout.form.text (record { challenge = challenge_of a.draw }) })))

still-login_hello : (a : MonitorArrival) (hello : Result LoginHello BytesFault) → IsStill a (on_login_hello a hello)
still-login_hello a (Err why) = (refl, (tt, tt))
still-login_hello a (Ok hello) = still-challenges a hello (find (is_named hello.name) a.own.server.ring)

still-hello : (a : MonitorArrival) (hello : Result Hello BytesFault) → IsStill a (on_hello a hello)
still-hello a (Ok hello) = (refl, tt)
still-hello a (Err why) = (refl, (tt, tt))

still-request : (a : MonitorArrival) (request : Result AuthRequest BytesFault) → IsStill a (on_auth_request on_request_payload a request)
still-request a (Err why) = (refl, (tt, tt))
still-request a (Ok request) = by_tests (not (request.method == 2)) (not (list_any (λ mode. mode == 2) request.modes))
  where
    by_tests : (other plain : Bool) → IsStill a (if other then denies a 95 Method [] else if plain then denies a 95 Mode [] else on_request_payload a request.payload)
    by_tests true plain = (refl, (tt, tt))
    by_tests false true = (refl, (tt, tt))
    by_tests false false = still-login_hello a (whole login_hello_layout.form request.payload)

module _ (bearer : Bearer) (a : MonitorArrival) (s : Secured) where
  still-signature : (found : Result AuthSignature BytesFault) → IsStill a (on_signature a s bearer found)
  still-signature (Err why) = (refl, (tt, tt))
  still-signature (Ok found) = by_test (is_signed s found.signature)
    where
      by_test : (right : Bool) → IsStill a (if right then goes_on a (AwaitsIdent s bearer) [] (signature_found s ∷ []) else refuses a (Login SignatureWrong) [])
      by_test true = (refl, tt)
      by_test false = (refl, (tt, tt))

  still-missing : (features : ℕ) (sealed : Result SealedFrame BytesFault) → IsStill a (missing_told a features sealed)
  still-missing features (Err why) = (refl, (tt, tt))
  still-missing features (Ok sealed) = (refl, (tt, tt))

  still-client_ident : (ident : Result ClientIdent BytesFault) → IsStill a (on_client_ident a s bearer ident)
  still-client_ident (Err why) = (refl, (tt, tt))
  still-client_ident (Ok ident) = by_test (ident.required == 0)
    where
      by_test : (plain : Bool) → IsStill a (if plain then sends_secure a s (λ behind. Open behind bearer) [] (server_ident a.own.address 1 0) else misses a s ident.required)
      by_test true = still-secure a s (λ behind. Open behind bearer) [] (secure_frame s.keys (server_ident a.own.address 1 0))
      by_test false = still-missing ident.required (secure_frame s.keys (control 10 ident_missing_features_layout.form (record { features = ident.required })))

  still-reconnect : (reconnect : Result SessionReconnect BytesFault) → IsStill a (on_session_reconnect a s bearer reconnect)
  still-reconnect (Err why) = (refl, (tt, tt))
  still-reconnect (Ok reconnect) = still-secure a s (λ behind. AwaitsIdent behind bearer) [] (secure_frame s.keys session_reset)

  still-ident : (f : Frame) → IsStill a (on_ident a s bearer f)
  still-ident f = by_tests (f.tag == 8) (f.tag == 11)
    where
      by_tests : (client reconnect : Bool) → IsStill a (if client then on_client_ident a s bearer (payload client_ident_layout.form f)
          else if reconnect then on_session_reconnect a s bearer (payload session_reconnect_layout.form f) else refuses_bytes a (Unexpected f.tag) [])
      by_tests true reconnect = still-client_ident (payload client_ident_layout.form f)
      by_tests false true = still-reconnect (payload session_reconnect_layout.form f)
      by_tests false false = (refl, (tt, tt))

  still-keepalive : (keepalive : Result Keepalive2 BytesFault) → IsStill a (on_keepalive a s (λ behind. Open behind bearer) keepalive)
  still-keepalive (Err why) = (refl, (tt, tt))
  still-keepalive (Ok keepalive) =
      still-secure a s (λ behind. Open behind bearer) [] (secure_frame s.keys (control 19 keepalive2_ack_layout.form (record { time = keepalive.time })))

  still-keepalive_ack : (ack : Result Keepalive2Ack BytesFault) → IsStill a (on_keepalive_ack a s (λ behind. Open behind bearer) ack)
  still-keepalive_ack (Err why) = (refl, (tt, tt))
  still-keepalive_ack (Ok ack) = (refl, tt)

-- ---- tickets

-- what was issued of the current generations is under them
module _ (reading : ℕ) (draw : List ℕ) (server : Server) where
  current-under : (ts : List Ticket) → AllByRecursion (IsOfCurrent server reading draw) ts
      → AllByRecursion (λ (k : Ticket). IsMadeUnder (life_of server.state (issued_of k).service) (generations_of server.state (issued_of k).service) server.ring reading draw (issued_of k)) ts
  current-under [] h = tt
  current-under (t ∷ ts) h =
      let is : IsOfCurrent server reading draw t = h.0 in (
        (
          record { of = is.of; current = is.current; under = record { id = is.id; session = t.session; blob = is.blob }; expires = is.expires },
          record { created = is.created; keyed = is.keyed; session_is = is.session; principal = is.principal; named = is.named; caps = is.caps },
        ),
        current-under ts h.1,
      )

  entered-under : (save : Option KeptState) (ts : List Ticket) → AllByRecursion (IsOfCurrent server reading draw) ts → AreUnder reading draw server (login_entries save ts)
  entered-under save ts h t has =
      of-login (λ (i : Issued). IsMadeUnder (life_of server.state i.service) (generations_of server.state i.service) server.ring reading draw i) save ts (current-under ts h) t has

-- ---- rows behind a rotation

-- where the monitor's key server has another state, which is the rotated one
module _ (a : MonitorArrival) where
  -- of rows by another key server, with the same keyring
  abbrev Rotates : Server → Type 0
  Rotates server = IsRotated a.reading a.draw a.own.server.state server.state × (server.ring ≡ a.own.server.ring)

  -- nothing is saved
  unsaved-row : (server : Server) (row : MonitorRow) → Rotates server → row.own ≡ record a.own { server = server } → AllByRecursion IsNotIssued row.entries → RowGoesOn a row
  unsaved-row server row h same none = subst (λ (m : Monitor). GoesOn a.reading a.draw a.own m row.entries) (sym same) (record {
    state = rotated-goes_on a.reading a.draw a.own.server.state server.state h.0;
    ring = h.1;
    before_is = refl;
    saves = inl (refl, none);
  })

  -- what there is now is saved
  saved-goes_on : (server : Server) (saved : KeptState) (entries : List Entry) → Rotates server → saved ≡ server.state → AreUnder a.reading a.draw server entries
      → GoesOn a.reading a.draw a.own (record a.own { server = server; saved = saved }) entries
  saved-goes_on server saved entries h same tickets = record {
    state = rotated-goes_on a.reading a.draw a.own.server.state server.state h.0;
    ring = h.1;
    before_is = refl;
    saves = inr (same, tickets);
  }

-- ---- the row of a proof

module _ (a : MonitorArrival) where
  handed-row : (server : Server) (e : Entrant) (own : List ℕ) (ts : List Ticket) (r : Result Finished BytesFault) → Rotates a server → AllByRecursion (IsOfCurrent server a.reading a.draw) ts
      → RowGoesOn a (hands_over (with_server a server) (handed_out (occasion a) server e own ts) r)
  handed-row server e own ts (Err why) h tickets =
      unsaved-row a server (refuses_bytes (with_server a server) why (handed_out (occasion a) server e own ts).seals) h refl (tt, tt)
  handed-row server e own ts (Ok done) h tickets =
      saved-goes_on a server _ (login_entries (changed a.own.saved server.state) ts) h (saved-changed a.own.saved server.state) (entered-under a.reading a.draw server (changed a.own.saved server.state) ts tickets)

  issued-row : (server : Server) (e : Entrant) (own : List ℕ) (tickets : Result (List Ticket) LoginFault) → Rotates a server → AreOfCurrent server a.reading a.draw tickets
      → RowGoesOn a (row_of a (issues (occasion a) server e own tickets))
  issued-row server e own (Err why) h current = unsaved-row a server (denies (with_server a server) 13 why e.seals) h refl (tt, tt)
  issued-row server e own (Ok ts) h current =
      handed-row server e own ts
      (finished a.link (session_of Auth a.draw) (connection_of a.draw) (done_frame (handed_out (occasion a) server e own ts).payload)) h current

  issues_to-row : (server : Server) (e : Entrant) (own : Option Key) → Rotates a server → RowGoesOn a (row_of a (issues_to (occasion a) server e own))
  issues_to-row server e None h = unsaved-row a server (denies (with_server a server) 13 login.UnknownEntity e.seals) h refl (tt, tt)
  issues_to-row server e (Some own) h =
      issued-row server e own.secret (issued_for server (asking_for (occasion a) e.name e.gid) (services_for e.asked)) h
      (all-under server a.reading a.draw (asking_for (occasion a) e.name e.gid) (λ s. (refl, refl)) (services_for e.asked))

  -- a key server behind the choice of a global id is as good
  abbrev KeepsRotated : Result Numbered LoginFault → Type 0
  KeepsRotated (Ok n) = Rotates a n.server
  KeepsRotated (Err why) = Unit {0}

  numbered-rotated : (server : Server) (choice : Reclaim) → Rotates a server → KeepsRotated (numbered server choice)
  numbered-rotated server (reclaim.Kept gid) h = h
  numbered-rotated server reclaim.Fresh h = by_test (server.state.next_gid == 2 ^ 64 - 1)
    where
      same : (s : EntityType) → generations_of (record server.state { next_gid = server.state.next_gid + 1 }) s ≡ generations_of server.state s
      same Mds = refl
      same Osd = refl
      same Mgr = refl
      same Auth = refl
      same Mon = refl
      same Client = refl

      by_test : (spent : Bool) → KeepsRotated (if spent then Err login.GidsSpent
          else Ok (record { server = record server { state = record server.state { next_gid = server.state.next_gid + 1 } }; gid = server.state.next_gid }))
      by_test true = tt
      by_test false = (record { life = h.0.life; auth_life = h.0.auth_life; generations = λ s. same s ∙ h.0.generations s }, h.1)
  numbered-rotated server (reclaim.Denied gid) h = tt

  numbers-row : (server : Server) (proven : Proven) (seals : List SealEntry) (n : Result Numbered LoginFault) → Rotates a server → KeepsRotated n
      → RowGoesOn a (row_of a (numbers (occasion a) server proven seals n))
  numbers-row server proven seals (Err why) h keeps = unsaved-row a server (denies (with_server a server) 13 why seals) h refl (tt, tt)
  numbers-row server proven seals (Ok n) h keeps =
      issues_to-row n.server (entrant proven.offer.name n.gid proven.ask.other_keys seals) (key_of n.server proven.offer.name) keeps

  rotates-row : (hello_gid : ℕ) (proven : Proven) → RowGoesOn a (row_of a (rotates (occasion a) a.own.server hello_gid proven))
  rotates-row hello_gid proven =
      let server : Server = rotated_server a.reading a.draw a.own.server in
      let old = old_ticket server.state.auth proven.ask.old_ticket in
      let choice : Reclaim = reclaimed hello_gid proven.ask.version (kept_gid proven.offer.name a.reading old.value) in
      let h : Rotates a server = (rotated-is a.reading a.draw a.own.server.state, refl) in
      numbers-row server proven ((proof_found proven.offer proven.ask.client_challenge ∷ rotation_drawn a.reading a.draw a.own.server.state) ++ old.seals)
      (numbered server choice) h (numbered-rotated server choice h)

  proves-row : (hello_gid : ℕ) (offer : Offer) (ask : Authenticate) → RowGoesOn a (proves a hello_gid (proving offer ask))
  proves-row hello_gid offer ask = by_test (due_proof offer.secret offer.challenge ask.client_challenge == ask.key)
    where
      by_test : (t : Bool) → RowGoesOn a (proves a hello_gid
          (if t then Ok (record { offer = offer; ask = ask }) else Err (record { expected = due_proof offer.secret offer.challenge ask.client_challenge; got = ask.key })))
      by_test true = rotates-row hello_gid (record { offer = offer; ask = ask })
      by_test false = still-row a (denies a 13 login.WrongProof []) (refl, (tt, tt))

  authenticate-row : (offered : Offered) (ask : Result Authenticate BytesFault) → RowGoesOn a (on_authenticate a offered ask)
  authenticate-row offered (Err why) = still-row a (refuses_bytes a why []) (refl, (tt, tt))
  authenticate-row offered (Ok ask) = proves-row offered.gid offered.offer ask

  more-row : (offered : Offered) (more : Result AuthRequestMore BytesFault) → RowGoesOn a (on_auth_request_more a offered more)
  more-row offered (Err why) = still-row a (refuses_bytes a why []) (refl, (tt, tt))
  more-row offered (Ok more) = authenticate-row offered (whole authenticate_layout.form more.payload)

-- ---- the row of a request

module _ (a : MonitorArrival) (s : Secured) (bearer : Bearer) where
  -- a reply saves what there is, and its tickets are under it
  record RepliesUnder (server : Server) (made : ReplyMade) : Type 0 where
    save : made.save ≡ changed a.own.saved server.state
    tickets : AreUnder a.reading a.draw server made.entries

  abbrev AnswersUnder : Server → Response → Type 0
  AnswersUnder server (response.Refuses why drawn) = Unit {0}
  AnswersUnder server (response.Replies made) = RepliesUnder server made

  abbrev RespondsUnder : Server → Responded → Type 0
  RespondsUnder server r = (r.server ≡ server) × AnswersUnder server r.response

  tickets-answer : (server : Server) (drawn : List SealEntry) (own : List ℕ) (tickets : Result (List Ticket) LoginFault) → AreOfCurrent server a.reading a.draw tickets
      → RespondsUnder server (tells_tickets (request_occasion a) server bearer drawn own tickets)
  tickets-answer server drawn own (Err why) h = (refl, tt)
  tickets-answer server drawn own (Ok ts) h = (refl, record { save = refl; tickets = entered-under a.reading a.draw server (changed a.own.saved server.state) ts h })

  issues-answer : (server : Server) (drawn : List SealEntry) (keys : ℕ) (own : Option Key)
      → RespondsUnder server (issues_tickets (request_occasion a) server bearer drawn keys own)
  issues-answer server drawn keys None = (refl, tt)
  issues-answer server drawn keys (Some own) =
      tickets-answer server drawn own.secret (issued_for server (asking_of (request_occasion a) bearer) (others_for keys))
      (all-under server a.reading a.draw (asking_of (request_occasion a) bearer) (λ s. (refl, refl)) (others_for keys))

  generations-answer : (server : Server) (drawn : List SealEntry) (own : Option Key) (found : Result (List Generation) NotADaemon)
      → RespondsUnder server (tells_generations (request_occasion a) server bearer drawn own found)
  generations-answer server drawn (Some own) (Ok generations) =
      (refl, record { save = refl; tickets = entered-under a.reading a.draw server (changed a.own.saved server.state) [] tt })
  generations-answer server drawn (Some own) (Err why) = (refl, tt)
  generations-answer server drawn None (Ok generations) = (refl, tt)
  generations-answer server drawn None (Err why) = (refl, tt)

  request-answer : (server : Server) (drawn : List SealEntry) (request : Option Request) → RespondsUnder server (answers_by (request_occasion a) server bearer drawn request)
  request-answer server drawn (Some (asked.Tickets keys)) = issues-answer server drawn keys (key_of server bearer.name)
  request-answer server drawn (Some asked.Rotating) = generations-answer server drawn (key_of server bearer.name) (secrets_of server bearer.name)
  request-answer server drawn None = (refl, tt)

  reply-row : (server : Server) (seq : ℕ) (made : ReplyMade) (sealing : Result SealedFrame BytesFault) → Rotates a server → RepliesUnder server made
      → RowGoesOn a (sends_reply Open (serving a server) s bearer seq made sealing)
  reply-row server seq made (Err why) h reply = unsaved-row a server (refuses_bytes (serving a server) why made.seals) h refl (tt, tt)
  reply-row server seq made (Ok sent) h reply =
      saved-goes_on a server _ made.entries h (subst (λ (save : Option KeptState). saved_behind a.own.saved save ≡ server.state) (sym reply.save) (saved-changed a.own.saved server.state)) reply.tickets

  responds-row : (server : Server) (demand : Demand) (r : Response) → Rotates a server → AnswersUnder server r → RowGoesOn a (responds Open (serving a server) s bearer demand r)
  responds-row server demand (response.Refuses why drawn) h under = unsaved-row a server (refuses (serving a server) why drawn) h refl (tt, tt)
  responds-row server demand (response.Replies made) h under = reply-row server demand.seq made (secure_frame s.keys (reply_message demand.tid made.body)) h under

  demand-row : (found : Result Demand Reason) → RowGoesOn a (on_demand Open a s bearer found)
  demand-row (Err why) = still-row a (refuses a why []) (refl, (tt, tt))
  demand-row (Ok demand) =
      let server : Server = rotated_server a.reading a.draw a.own.server in
      let r : Responded = answers (request_occasion a) a.own.server bearer demand.request in
      let h : RespondsUnder server r = request-answer server (rotation_drawn a.reading a.draw a.own.server.state) demand.request in
      subst (λ (behind : Server). RowGoesOn a (responds Open (serving a behind) s bearer demand r.response)) (sym h.0)
      (responds-row server demand r.response (rotated-is a.reading a.draw a.own.server.state, refl) h.1)

  open-row : (f : Frame) → RowGoesOn a (on_open Open a s bearer f)
  open-row f = by_tests (f.tag == 18) (f.tag == 19)
    where
      by_tests : (ask ack : Bool) → RowGoesOn a (if ask then on_keepalive a s (λ behind. Open behind bearer) (payload keepalive2_layout.form f)
          else if ack then on_keepalive_ack a s (λ behind. Open behind bearer) (payload keepalive2_ack_layout.form f) else on_message Open a s bearer f)
      by_tests true ack = still-row a (on_keepalive a s (λ behind. Open behind bearer) (payload keepalive2_layout.form f)) (still-keepalive bearer a s (payload keepalive2_layout.form f))
      by_tests false true =
          still-row a (on_keepalive_ack a s (λ behind. Open behind bearer) (payload keepalive2_ack_layout.form f)) (still-keepalive_ack bearer a s (payload keepalive2_ack_layout.form f))
      by_tests false false = demand-row (heard bearer f)

-- ---- turns

opened-row : (a : MonitorArrival) (opened : List SealEntry) (row : MonitorRow) → RowGoesOn a row → RowGoesOn a (with_opened opened row)
opened-row a opened row h = record { state = h.state; ring = h.ring; before_is = h.before_is; saves = h.saves }

pub turned-row : (a : MonitorArrival) (stage : MonitorStage) → RowOf (RowGoesOn a) (turned_at a stage)
turned-row a AwaitsBanner =
    each-turned (RowGoesOn a) (λ link _. on_banner Mon (at a link))
    (λ link opened. still-row a (on_banner Mon (at a link)) (still-plain (at a link) AwaitsHello [] (plain_frame (own_hello Mon)))) (banner_next a.link)
turned-row a AwaitsHello =
    each-turned (RowGoesOn a) (λ (link, f) _. on_hello (at a link) (due 1 hello_layout.form f))
    (λ (link, f) opened. still-row a (on_hello (at a link) (due 1 hello_layout.form f)) (still-hello (at a link) (due 1 hello_layout.form f))) (plain_next a.link)
turned-row a AwaitsRequest =
    each-turned (RowGoesOn a) (λ (link, f) _. on_auth_request on_request_payload (at a link) (due 2 auth_request_layout.form f))
    (λ (link, f) opened. still-row a (on_auth_request on_request_payload (at a link) (due 2 auth_request_layout.form f)) (still-request (at a link) (due 2 auth_request_layout.form f))) (plain_next a.link)
turned-row a (AwaitsProof offered) =
    each-turned (RowGoesOn a) (λ (link, f) _. on_auth_request_more (at a link) offered (due 5 auth_request_more_layout.form f))
    (λ (link, f) opened. more-row (at a link) offered (due 5 auth_request_more_layout.form f)) (plain_next a.link)
turned-row a (AwaitsSignature s bearer) =
    each-turned (RowGoesOn a) (λ (link, f, keys) opened. with_opened opened (on_signature (at a link) (under s keys) bearer (due 7 auth_signature_layout.form f)))
    (λ (link, f, keys) opened. opened-row a opened (on_signature (at a link) (under s keys) bearer (due 7 auth_signature_layout.form f))
    (still-row a (on_signature (at a link) (under s keys) bearer (due 7 auth_signature_layout.form f)) (still-signature bearer (at a link) (under s keys) (due 7 auth_signature_layout.form f)))) (secure_next s.keys a.link)
turned-row a (AwaitsIdent s bearer) =
    each-turned (RowGoesOn a) (λ (link, f, keys) opened. with_opened opened (on_ident (at a link) (under s keys) bearer f))
    (λ (link, f, keys) opened. opened-row a opened (on_ident (at a link) (under s keys) bearer f)
    (still-row a (on_ident (at a link) (under s keys) bearer f) (still-ident bearer (at a link) (under s keys) f))) (secure_next s.keys a.link)
turned-row a (Open s bearer) =
    each-turned (RowGoesOn a) (λ (link, f, keys) opened. with_opened opened (on_open Open (at a link) (under s keys) bearer f))
    (λ (link, f, keys) opened. opened-row a opened (on_open Open (at a link) (under s keys) bearer f) (open-row (at a link) (under s keys) bearer f)) (secure_next s.keys a.link)
