-- What every acceptor does, the monitor and a daemon ("msgr2 protocol": banner, HELLO, authentication, session): the rows in which they
-- don't differ, in the order of a connection.
use Rattle.std.specs.Prelude.{ℕ, ◌==◌, not, List, [], ◌∷◌, ◌++◌, take, Result, Ok, Err, if◌then◌else◌}
use Rattle.std.specs.List.{list_any}
use Rattle.cx_base.specs.declared.kinds.EntityType.{EntityType}
use Rattle.cx_base.specs.declared.addresses.Addr.{Addr}
use Rattle.cx_login.specs.cx_control.specs.BadMethod.{bad_method_layout, written_method}
use Rattle.cx_login.specs.cx_control.specs.Idents.{ident_missing_features_layout, server_ident_layout}
use Rattle.cx_login.specs.cx_control.specs.declared.auth.AuthRequest.{AuthRequest}
use Rattle.cx_login.specs.cx_control.specs.declared.auth.AuthSignature.{AuthSignature}
use Rattle.cx_login.specs.cx_control.specs.declared.hello.Hello.{Hello}
use Rattle.cx_stream.specs.cx_frame.specs.Frames.{frame_text}
use Rattle.cx_stream.specs.cx_frame.specs.declared.frame.Frame.{Frame}
use Rattle.cx_login.specs.cx_journal.specs.declared.faults.BytesFault.{BytesFault}
use Rattle.cx_login.specs.cx_journal.specs.declared.faults.BytesFault.TheVariants.{Features}
use Rattle.cx_login.specs.cx_journal.specs.declared.faults.LoginFault.{LoginFault}
use Rattle.cx_login.specs.cx_journal.specs.declared.faults.LoginFault.TheVariants.{Method, Mode}
use Rattle.cx_login.specs.cx_journal.specs.declared.outcomes.Reason.{Reason}
use Rattle.cx_login.specs.cx_journal.specs.declared.outcomes.Reason.TheVariants.{Login}
use Rattle.cx_login.specs.cx_steps.specs.declared.seals.SealEntry.{SealEntry}
use Rattle.cx_rules.specs.Links.{Link}
use Rattle.cx_rules.specs.Payloads.{control}
use Rattle.cx_rules.specs.Rows.{Arrival, Row, goes_on, refuses, refuses_bytes, sends_plain, unless_refused}
use Rattle.cx_rules.specs.Secured.{SealedFrame, Secured, acceptor_keys, plain_frame, secure_frame, signature_found, signed_frame}
use Rattle.cx_rules.specs.Signatures.{unless_unsigned}
use Rattle.cx_rules.specs.Greetings.{own_hello}

-- how far a link has come: what it waits for. Of a role are `Pending`, what it knows of a peer that has still to prove itself,
-- `Proven`, what it knows of one that has, and `Peer`, of one whose link is open
pub data Stage (Pending Proven Peer : Type 0) : Type 0 where
  AwaitsBanner : Stage Pending Proven Peer
  AwaitsHello : Stage Pending Proven Peer
  AwaitsRequest : Stage Pending Proven Peer
  AwaitsProof : Pending → Stage Pending Proven Peer
  AwaitsSignature : Secured → Proven → Stage Pending Proven Peer
  AwaitsIdent : Secured → Proven → Stage Pending Proven Peer
  Open : Secured → Peer → Stage Pending Proven Peer

-- AUTH_BAD_METHOD with a code: the method is cephx
abbrev pub bad_method : ℕ → Frame
bad_method code = control 3 bad_method_layout.form (written_method (record { method = 2; result = code }))

module _ {Own Pending Proven Peer : Type 0} where
  -- AUTH_BAD_METHOD is sent, with a code; the link is shut, and why is entered
  abbrev pub denies_for : Arrival Own (Stage Pending Proven Peer) → ℕ → Reason → List SealEntry → Row Own (Stage Pending Proven Peer)
  denies_for a code why seals = record (refuses a why seals) { sends = frame_text (bad_method code) }

  -- the same for what is wrong with a login
  abbrev pub denies : Arrival Own (Stage Pending Proven Peer) → ℕ → LoginFault → List SealEntry → Row Own (Stage Pending Proven Peer)
  denies a code why seals = denies_for a code (Login why) seals

  -- ---- banner, HELLO, AUTH_REQUEST

  -- the peer's banner: HELLO is sent
  abbrev pub on_banner : EntityType → Arrival Own (Stage Pending Proven Peer) → Row Own (Stage Pending Proven Peer)
  on_banner kind a = sends_plain a AwaitsHello [] (own_hello kind)

  abbrev pub on_hello : Arrival Own (Stage Pending Proven Peer) → Result Hello BytesFault → Row Own (Stage Pending Proven Peer)
  on_hello a read = unless_refused a [] read (λ hello. goes_on a AwaitsRequest [] [])

  -- AUTH_REQUEST: the method has to be 2, cephx, and 2, the secure mode, among the modes; what follows is for the role
  abbrev pub on_auth_request : (Arrival Own (Stage Pending Proven Peer) → List ℕ → Row Own (Stage Pending Proven Peer))
      → Arrival Own (Stage Pending Proven Peer) → Result AuthRequest BytesFault → Row Own (Stage Pending Proven Peer)
  on_auth_request by_role a read = unless_refused a [] read (λ request.
      if not (request.method == 2) then denies a 95 Method []
      else if not (list_any (λ mode. mode == 2) request.modes) then denies a 95 Mode []
      else by_role a request.payload)

  -- ---- AUTH_SIGNATURE, CLIENT_IDENT

  -- behind the peer's signature CLIENT_IDENT is waited for
  abbrev pub on_signature : Arrival Own (Stage Pending Proven Peer) → Secured → Proven → Result AuthSignature BytesFault → Row Own (Stage Pending Proven Peer)
  on_signature a s peer read = unless_unsigned a s read (goes_on a (AwaitsIdent s peer) [] (signature_found s ∷ []))

  -- a peer that requires features is told that they are missing, and refused for them
  abbrev pub missing_told : Arrival Own (Stage Pending Proven Peer) → ℕ → Result SealedFrame BytesFault → Row Own (Stage Pending Proven Peer)
  missing_told a features made = unless_refused a [] made (λ sealed. record (refuses_bytes a (Features features) sealed.seals) { sends = sealed.bytes })

  abbrev pub misses : Arrival Own (Stage Pending Proven Peer) → Secured → ℕ → Row Own (Stage Pending Proven Peer)
  misses a s features = missing_told a features (secure_frame s.keys (control 10 ident_missing_features_layout.form (record { features = features })))

-- SERVER_IDENT of an acceptor at this address: flags (1 for a lossy session) and a cookie are the role's
abbrev pub server_ident : Addr → ℕ → ℕ → Frame
server_ident address flags cookie = control 9 server_ident_layout.form (record {
  addr = address;
  gid = 0;
  global_seq = 0;
  supported = 0;
  required = 0;
  flags = flags;
  cookie = cookie;
})

-- ---- AUTH_DONE

-- AUTH_DONE, and AUTH_SIGNATURE behind it: both in bytes, what is logged of the latter, and the link behind them
pub record Finished : Type 0 where
  pub bytes : List ℕ
  pub seals : List SealEntry
  pub secured : Secured

abbrev pub joined : List ℕ → List ℕ → Result (List ℕ) BytesFault → Result SealedFrame BytesFault → Result Finished BytesFault
joined session sent (Err why) signed = Err why
joined session sent (Ok done) (Err why) = Err why
joined session sent (Ok done) (Ok signed) = Ok (record {
  bytes = done ++ signed.bytes;
  seals = signed.seals;
  secured = record { keys = signed.keys; session = session; covered = sent ++ done };
})

-- authentication is finished with a session key and a connection secret: the signature covers all that was received, and the peer's has to
-- cover all that was sent, AUTH_DONE too
abbrev pub finished : {S : Type 0} → Link S → List ℕ → List ℕ → Frame → Result Finished BytesFault
finished link session secret done =
    joined session link.sent (plain_frame done) (signed_frame (acceptor_keys secret) session (take link.taken link.received))
