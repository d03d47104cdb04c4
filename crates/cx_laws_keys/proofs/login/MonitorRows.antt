-- Each row of the monitor but that of a proof: it draws no key and issues nothing.
use Rattle.std.proofs.Common.{◌≡◌, ℕ, ◌==◌, Bool, true, false, List, [], ◌∷◌, Option, Some, None, Result, Ok, Err, inr, refl}
use Rattle.std.specs.Prelude.{find, not, if◌then◌else◌}
use Rattle.std.specs.List.{list_any}
use Rattle.cx_base.specs.declared.kinds.EntityType.TheVariants.{Mon}
use Rattle.cx_rules.specs.cx_control.specs.Auth.{auth_reply_more_layout}
use Rattle.cx_rules.specs.cx_control.specs.Idents.{client_ident_layout, ident_missing_features_layout}
use Rattle.cx_rules.specs.cx_control.specs.Reconnects.{session_reconnect_layout}
use Rattle.cx_rules.specs.cx_control.specs.Upkeep.{keepalive2_ack_layout}
use Rattle.cx_rules.specs.cx_control.specs.declared.auth.AuthRequest.{AuthRequest}
use Rattle.cx_rules.specs.cx_control.specs.declared.auth.AuthSignature.{AuthSignature}
use Rattle.cx_rules.specs.cx_control.specs.declared.hello.Hello.{Hello}
use Rattle.cx_rules.specs.cx_control.specs.declared.idents.ClientIdent.{ClientIdent}
use Rattle.cx_rules.specs.cx_control.specs.declared.reconnects.SessionReconnect.{SessionReconnect}
use Rattle.cx_rules.specs.cx_control.specs.declared.upkeep.Keepalive2.{Keepalive2}
use Rattle.cx_rules.specs.cx_control.specs.declared.upkeep.Keepalive2Ack.{Keepalive2Ack}
use Rattle.cx_rules.specs.cx_dice.specs.Draws.{challenge_of}
use Rattle.cx_laws_keys.specs.cx_enc.specs.Values.{name_form}
use Rattle.cx_rules.specs.cx_frame.specs.declared.frame.Frame.{Frame}
use Rattle.cx_laws_keys.specs.cx_journal.specs.declared.entries.Entry.{Entry}
use Rattle.cx_laws_keys.specs.cx_journal.specs.declared.faults.BytesFault.{BytesFault}
use Rattle.cx_laws_keys.specs.cx_journal.specs.declared.faults.BytesFault.TheVariants.{Unexpected}
use Rattle.cx_laws_keys.specs.cx_journal.specs.declared.faults.LoginFault.{LoginFault}
use Rattle.cx_laws_keys.specs.cx_journal.specs.declared.faults.LoginFault.TheVariants.{Method, Mode, SignatureWrong}
use Rattle.cx_laws_keys.specs.cx_journal.specs.declared.faults.LoginFault.TheVariants as login
use Rattle.cx_base.specs.declared.nodes.NodeName.{NodeName}
use Rattle.cx_laws_keys.specs.cx_journal.specs.declared.outcomes.Reason.TheVariants.{Login}
use Rattle.cx_rules.specs.cx_keyring.specs.Entries.{is_named}
use Rattle.cx_rules.specs.cx_keyring.specs.declared.entries.Entry.{Entry as Principal}
use Rattle.cx_rules.specs.cx_login.specs.Monitor.{Offer}
use Rattle.cx_rules.specs.cx_rotate.specs.declared.states.KeptState.{KeptState}
use Rattle.cx_rules.specs.Acceptor.{AwaitsHello, AwaitsRequest, AwaitsProof, AwaitsIdent, Open, denies, misses, missing_told, on_auth_request, on_banner, on_hello, on_signature, server_ident}
use Rattle.cx_rules.specs.Greetings.{own_hello}
use Rattle.cx_rules.specs.Monitor.{Monitor, MonitorArrival, MonitorRow, MonitorStage}
use Rattle.cx_rules.specs.MonitorLogin.{challenges, on_login_hello}
use Rattle.cx_rules.specs.MonitorRule.{on_client_ident, on_ident, on_request_payload, on_session_reconnect, session_reset}
use Rattle.cx_rules.specs.Payloads.{control, payload, whole}
use Rattle.cx_rules.specs.Rows.{goes_on, refuses, refuses_bytes, sends_secure}
use Rattle.cx_rules.specs.Secured.{Keys, SealedFrame, Secured, is_signed, secure_frame, signature_found}
use Rattle.cx_rules.specs.Upkeep.{on_keepalive, on_keepalive_ack}
use Rattle.cx_rules.specs.cx_steps.specs.declared.seals.DrawMark.TheVariants as draw
use Rattle.cx_rules.specs.cx_steps.specs.declared.seals.SealEntry.{SealEntry}
use Rattle.cx_rules.specs.cx_steps.specs.declared.seals.SealEntry.TheVariants.{Drawn}
use Rattle.cx_rules.specs.cx_wire.specs.Logins.{login_hello_layout, server_challenge_layout}
use Rattle.cx_rules.specs.cx_wire.specs.declared.logins.LoginHello.{LoginHello}
use Rattle.cx_laws_keys.proofs.keys.Uses.{Means, Secret, Uses}
use Rattle.cx_laws_keys.proofs.login.Facts.{acceptor-seals, BearerOk, MaySeal, Owner, OwnOk, StageOk, bearer-moves, own-entered, stage-grows}
use Rattle.cx_laws_keys.proofs.login.Named.{found_secret, hello_named}
use Rattle.cx_laws_keys.proofs.login.Rows.{Allowed, FrameOk, Saying, Simple, frame-ok, simple-goes_on, simple-plain, simple-refuses, simple-refuses_bytes, simple-secure}
use Rattle.cx_rules.specs.declared.responses.Bearer.{Bearer}

-- what is said of the monitor, where `before` is the state that was saved last before the step
abbrev pub monitor_says : KeptState → Owner → Saying Monitor MonitorStage
monitor_says before owner = record { Owns = OwnOk before owner; Stands = StageOk owner; own_enters = own-entered before owner; stage_grows = stage-grows owner }

module _ (before : KeptState) (owner : Owner) (us : Uses) (J : List Entry) (n : NodeName) where
  abbrev pub IsSimple : MonitorRow → Type 0
  IsSimple row = Simple (monitor_says before owner) us J n row

  abbrev Owns : MonitorArrival → Type 0
  Owns a = OwnOk before owner us J a.own

  pub simple-denies : (a : MonitorArrival) (code : ℕ) (why : LoginFault) (seals : List SealEntry) → Owns a → Allowed us J n seals → IsSimple (denies a code why seals)
  simple-denies a code why seals own al = record { seals = al; entries = ((tt, tt), tt); own = own; link = tt }

  -- ---- LoginHello

  challenges-simple : (a : MonitorArrival) (hello : LoginHello) (principal : Option Principal) → Owns a → name_form.Fits hello.name
      → ((p : Principal) → principal ≡ Some p → Means us p.key.secret (Secret hello.name)) → IsSimple (challenges a hello principal)
  challenges-simple a hello None own named secret = simple-denies a 13 login.UnknownEntity [] own tt
  challenges-simple a hello (Some principal) own named secret =
      let challenge = challenge_of a.draw in
      let offer : Offer = record { name = hello.name; secret = principal.key.secret; challenge = challenge } in
      simple-plain (monitor_says before owner) us J n a (AwaitsProof (record { offer = offer; gid = hello.gid })) (Drawn (draw.Challenge challenge) ∷ [])
      (control 4 auth_reply_more_layout.form (record { payload = server_challenge_layout.form.text (record { challenge = challenge }) })) own
      (record { named = named; secret = secret principal refl }) (tt, tt)

  login_hello-simple : (a : MonitorArrival) (hello : Result LoginHello BytesFault) → Owns a → ((h : LoginHello) → hello ≡ Ok h → name_form.Fits h.name) → IsSimple (on_login_hello a hello)
  login_hello-simple a (Err why) own named = simple-refuses_bytes (monitor_says before owner) us J n a why [] own tt
  login_hello-simple a (Ok hello) own named =
      challenges-simple a hello (find (is_named hello.name) a.own.server.ring) own (named hello refl)
      (λ p found. found_secret us hello.name a.own.server.ring p own.ring found)

  -- ---- the other rows

  pub banner-simple : (a : MonitorArrival) → Owns a → IsSimple (on_banner Mon a)
  banner-simple a own = simple-plain (monitor_says before owner) us J n a AwaitsHello [] (own_hello Mon) own tt tt

  pub hello-simple : (a : MonitorArrival) (hello : Result Hello BytesFault) → Owns a → IsSimple (on_hello a hello)
  hello-simple a (Ok hello) own = simple-goes_on (monitor_says before owner) us J n a AwaitsRequest [] [] own tt tt
  hello-simple a (Err why) own = simple-refuses_bytes (monitor_says before owner) us J n a why [] own tt

  pub request-simple : (a : MonitorArrival) (request : Result AuthRequest BytesFault) → Owns a → IsSimple (on_auth_request on_request_payload a request)
  request-simple a (Err why) own = simple-refuses_bytes (monitor_says before owner) us J n a why [] own tt
  request-simple a (Ok request) own = by_tests (not (request.method == 2)) (not (list_any (λ mode. mode == 2) request.modes))
    where
      by_tests : (other plain : Bool) → IsSimple (if other then denies a 95 Method [] else if plain then denies a 95 Mode [] else on_request_payload a request.payload)
      by_tests true plain = simple-denies a 95 Method [] own tt
      by_tests false true = simple-denies a 95 Mode [] own tt
      by_tests false false = login_hello-simple a (whole login_hello_layout.form request.payload) own (λ h is. hello_named request.payload h is)

  pub signature-simple : (a : MonitorArrival) (s : Secured) (bearer : Bearer) (found : Result AuthSignature BytesFault) → Owns a → BearerOk owner us s.keys bearer
      → IsSimple (on_signature a s bearer found)
  signature-simple a s bearer (Err why) own key = simple-refuses_bytes (monitor_says before owner) us J n a why [] own tt
  signature-simple a s bearer (Ok found) own key = by_test (is_signed s found.signature)
    where
      by_test : (right : Bool) → IsSimple (if right then goes_on a (AwaitsIdent s bearer) [] (signature_found s ∷ []) else refuses a (Login SignatureWrong) [])
      by_test true = simple-goes_on (monitor_says before owner) us J n a (AwaitsIdent s bearer) [] (signature_found s ∷ []) own key (tt, tt)
      by_test false = simple-refuses (monitor_says before owner) us J n a (Login SignatureWrong) [] tt own tt

  missing-simple : (a : MonitorArrival) (features : ℕ) (keys : Keys) (sealed : Result SealedFrame BytesFault) → Owns a → FrameOk us J n keys sealed
      → IsSimple (missing_told a features sealed)
  missing-simple a features keys (Err why) own ok = simple-refuses_bytes (monitor_says before owner) us J n a why [] own tt
  missing-simple a features keys (Ok sealed) own ok = record { seals = ok.0; entries = ((tt, tt), tt); own = own; link = tt }

  -- on its link the monitor may seal: it sends with the nonce of an acceptor
  abbrev pub connected : (s : Secured) (bearer : Bearer) → BearerOk owner us s.keys bearer → MaySeal us n s.keys
  connected s bearer h = acceptor-seals us n s.keys bearer.name h.login h.out

  client_ident-simple : (a : MonitorArrival) (s : Secured) (bearer : Bearer) (ident : Result ClientIdent BytesFault) → Owns a → BearerOk owner us s.keys bearer
      → IsSimple (on_client_ident a s bearer ident)
  client_ident-simple a s bearer (Err why) own key = simple-refuses_bytes (monitor_says before owner) us J n a why [] own tt
  client_ident-simple a s bearer (Ok ident) own key = by_test (ident.required == 0)
    where
      by_test : (plain : Bool) → IsSimple (if plain then sends_secure a s (λ behind. Open behind bearer) [] (server_ident a.own.address 1 0) else misses a s ident.required)
      by_test true =
          simple-secure (monitor_says before owner) us J n a s (λ behind. Open behind bearer) [] (server_ident a.own.address 1 0) own (connected s bearer key)
          (λ t same. bearer-moves owner us t.keys s.keys bearer same key) tt
      by_test false =
          let f = control 10 ident_missing_features_layout.form (record { features = ident.required }) in
          missing-simple a ident.required s.keys (secure_frame s.keys f) own (frame-ok us J n s.keys f (connected s bearer key))

  reconnect-simple : (a : MonitorArrival) (s : Secured) (bearer : Bearer) (reconnect : Result SessionReconnect BytesFault) → Owns a → BearerOk owner us s.keys bearer
      → IsSimple (on_session_reconnect a s bearer reconnect)
  reconnect-simple a s bearer (Err why) own key = simple-refuses_bytes (monitor_says before owner) us J n a why [] own tt
  reconnect-simple a s bearer (Ok reconnect) own key =
      simple-secure (monitor_says before owner) us J n a s (λ behind. AwaitsIdent behind bearer) [] session_reset own (connected s bearer key)
      (λ t same. bearer-moves owner us t.keys s.keys bearer same key) tt

  pub ident-simple : (a : MonitorArrival) (s : Secured) (bearer : Bearer) (f : Frame) → Owns a → BearerOk owner us s.keys bearer → IsSimple (on_ident a s bearer f)
  ident-simple a s bearer f own key = by_tests (f.tag == 8) (f.tag == 11)
    where
      by_tests : (client reconnect : Bool) → IsSimple (if client then on_client_ident a s bearer (payload client_ident_layout.form f)
          else if reconnect then on_session_reconnect a s bearer (payload session_reconnect_layout.form f) else refuses_bytes a (Unexpected f.tag) [])
      by_tests true reconnect = client_ident-simple a s bearer (payload client_ident_layout.form f) own key
      by_tests false true = reconnect-simple a s bearer (payload session_reconnect_layout.form f) own key
      by_tests false false = simple-refuses_bytes (monitor_says before owner) us J n a (Unexpected f.tag) [] own tt

  pub keepalive-simple : (a : MonitorArrival) (s : Secured) (bearer : Bearer) (keepalive : Result Keepalive2 BytesFault) → Owns a → BearerOk owner us s.keys bearer
      → IsSimple (on_keepalive a s (λ behind. Open behind bearer) keepalive)
  keepalive-simple a s bearer (Err why) own key = simple-refuses_bytes (monitor_says before owner) us J n a why [] own tt
  keepalive-simple a s bearer (Ok keepalive) own key =
      simple-secure (monitor_says before owner) us J n a s (λ behind. Open behind bearer) [] (control 19 keepalive2_ack_layout.form (record { time = keepalive.time })) own
      (connected s bearer key) (λ t same. bearer-moves owner us t.keys s.keys bearer same key) tt

  pub keepalive_ack-simple : (a : MonitorArrival) (s : Secured) (bearer : Bearer) (ack : Result Keepalive2Ack BytesFault) → Owns a → BearerOk owner us s.keys bearer
      → IsSimple (on_keepalive_ack a s (λ behind. Open behind bearer) ack)
  keepalive_ack-simple a s bearer (Err why) own key = simple-refuses_bytes (monitor_says before owner) us J n a why [] own tt
  keepalive_ack-simple a s bearer (Ok ack) own key = simple-goes_on (monitor_says before owner) us J n a (Open s bearer) [] [] own key tt
