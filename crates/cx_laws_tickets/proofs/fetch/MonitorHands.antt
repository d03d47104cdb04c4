-- The monitor's row of an Authenticate: it seals and signs nothing, and shuts the link; or it hands over: beside tickets, a connection secret of its draw, under the
-- session key of its draw, which signs what it took.
use Rattle.std.proofs.Common.{◌≡◌, ◌==◌, ℕ, Bool, true, false, nat_lt, List, [], ◌∷◌, ◌++◌, length, map, take, Option, Some, None, Result, Ok, Err, inl, inr, ◌⊎◌, refl}
use Rattle.std.specs.Prelude.{if◌then◌else◌}
use Rattle.std.specs.List.{AllByRecursion, flat_map}
use Rattle.cx_base.specs.Names.{Name}
use Rattle.cx_base.specs.declared.kinds.EntityType.{EntityType}
use Rattle.cx_base.specs.declared.kinds.EntityType.TheVariants.{Mds, Osd, Mgr, Auth}
use Rattle.cx_control.specs.Auth.{auth_signature_layout}
use Rattle.cx_control.specs.declared.auth.AuthRequestMore.{AuthRequestMore}
use Rattle.cx_dice.specs.Draws.{connection_of, rotation_of, session_of}
use Rattle.cx_enc.specs.declared.keys.Key.{Key}
use Rattle.cx_frame.specs.declared.frame.Frame.{Frame}
use Rattle.cx_journal.specs.declared.faults.BytesFault.{BytesFault}
use Rattle.cx_journal.specs.declared.faults.LoginFault.{LoginFault}
use Rattle.cx_journal.specs.declared.premises.KeyKind.TheVariants as kind
use Rattle.cx_laws_tickets.specs.cx_keyserver.specs.Issuing.{current_at, ticket_info_of}
use Rattle.cx_laws_tickets.specs.cx_keyserver.specs.Servers.{Server, generations_of, life_of, rotated_server}
use Rattle.cx_laws_tickets.specs.cx_keyserver.specs.declared.tickets.Ticket.{Ticket}
use Rattle.cx_laws_tickets.specs.cx_laws_keys.proofs.keys.Lists.{all-append}
use Rattle.cx_laws_tickets.specs.cx_laws_keys.proofs.keys.Reading.{info_no_connection}
use Rattle.cx_laws_tickets.specs.cx_laws_keys.proofs.keys.Uses.{AreGenerated, Generated, Uses}
use Rattle.cx_laws_tickets.specs.cx_login.specs.Monitor.{Offer, Proven, kept_gid, proof_found, proving, reclaimed}
use Rattle.cx_laws_tickets.specs.cx_login.specs.Opening.{generation_key}
use Rattle.cx_laws_tickets.specs.cx_login.specs.Proving.{due_proof}
use Rattle.cx_laws_tickets.specs.cx_login.specs.Unlocking.{old_ticket, old_under, unlocked_as}
use Rattle.cx_rotate.specs.Rotation.{additions}
use Rattle.cx_rotate.specs.declared.generations.Generation.{Generation}
use Rattle.cx_rotate.specs.declared.states.KeptState.{KeptState}
use Rattle.cx_laws_keys.specs.cx_rules.proofs.Sizes.{length-code}
use Rattle.cx_laws_keys.specs.cx_rules.specs.Acceptor.{AwaitsSignature, joined}
use Rattle.cx_laws_keys.specs.cx_rules.specs.Monitor.{MonitorArrival, MonitorRow, Offered}
use Rattle.cx_laws_keys.specs.cx_rules.specs.MonitorLogin.{done_frame, hands_over, occasion, on_authenticate, proves, row_of, with_server}
use Rattle.cx_laws_keys.specs.cx_rules.specs.MonitorRule.{on_auth_request_more}
use Rattle.cx_laws_keys.specs.cx_rules.specs.Payloads.{control, whole}
use Rattle.cx_laws_keys.specs.cx_rules.specs.Secured.{SealedFrame, Secured, acceptor_keys, plain_frame, secure_frame, signature, signing}
use Rattle.cx_laws_keys.specs.cx_rules.specs.Tickets.{blob_sealed, drawn_for, issued_for, rotation_drawn, services_for, ticket_seals}
use Rattle.cx_laws_keys.specs.cx_rules.specs.Verdicts.{Entrant, Numbered, asking_for, entrant, handed_out, issues, issues_to, key_of, numbered, numbers, rotates, secret_seals}
use Rattle.cx_laws_keys.specs.cx_rules.specs.declared.responses.Bearer.{Bearer}
use Rattle.cx_laws_keys.specs.cx_rules.specs.declared.verdicts.HandedOut.{HandedOut}
use Rattle.cx_laws_tickets.specs.cx_sealed.specs.Records.{service_ticket_layout}
use Rattle.cx_laws_tickets.specs.cx_sealed.specs.Unsealing.{unsealed}
use Rattle.cx_laws_tickets.specs.cx_sealed.specs.declared.service_ticket.ServiceTicket.{ServiceTicket}
use Rattle.cx_laws_tickets.specs.cx_sealed.specs.declared.unsealed.Unsealed.{Unsealed}
use Rattle.cx_steps.specs.declared.seals.DrawMark.TheVariants as draw
use Rattle.cx_steps.specs.declared.seals.SealEntry.{SealEntry}
use Rattle.cx_steps.specs.declared.seals.SealEntry.TheVariants as entry
use Rattle.cx_wire.specs.Logins.{authenticate_layout}
use Rattle.cx_wire.specs.declared.logins.Authenticate.{Authenticate}
use Rattle.cx_laws_tickets.proofs.fetch.Handed.{IsNoLogin, IsPlain}

-- ---- what neither seals nor signs

abbrev pub IsSilent : SealEntry → Type 0
IsSilent (entry.Opened mark) = Unit {0}
IsSilent (entry.Checked mark) = Unit {0}
IsSilent (entry.Drawn mark) = Unit {0}
IsSilent (entry.Sealed mark) = ⊥
IsSilent (entry.Signed mark) = ⊥

abbrev pub AreSilent : List SealEntry → Type 0
AreSilent es = AllByRecursion IsSilent es

pub silent-plain : (us : Uses) (es : List SealEntry) → AreSilent es → AllByRecursion (IsPlain us) es
silent-plain us [] h = tt
silent-plain us (entry.Opened mark ∷ es) h = (tt, silent-plain us es h.1)
silent-plain us (entry.Checked mark ∷ es) h = (tt, silent-plain us es h.1)
silent-plain us (entry.Drawn mark ∷ es) h = (tt, silent-plain us es h.1)
silent-plain us (entry.Sealed mark ∷ es) h = absurd h.0
silent-plain us (entry.Signed mark ∷ es) h = absurd h.0

drawn-silent : (keys : List (List ℕ)) → AreSilent (map (λ (key : List ℕ). entry.Drawn (draw.Rotation key)) keys)
drawn-silent [] = tt
drawn-silent (key ∷ keys) = (tt, drawn-silent keys)

pub rotation-silent : (reading : ℕ) (block : List ℕ) (state : KeptState) → AreSilent (rotation_drawn reading block state)
rotation-silent reading block state = over (Mds ∷ Osd ∷ Mgr ∷ Auth ∷ [])
  where
    over : (services : List EntityType) → AreSilent (flat_map (drawn_for reading block state) services)
    over [] = tt
    over (service ∷ services) =
        all-append IsSilent (drawn_for reading block state service) (flat_map (drawn_for reading block state) services)
        (drawn-silent (take (additions reading (life_of state service) (rotation_of service block) (generations_of state service)) (rotation_of service block))) (over services)

old-silent : (key : Option (List ℕ)) (blob : List ℕ) → AreSilent (old_under key blob).seals
old-silent None blob = tt
old-silent (Some key) blob = by_opened (unsealed service_ticket_layout.form key blob)
  where
    by_opened : (found : Option (Unsealed ServiceTicket)) → AreSilent (unlocked_as kind.Auth key found).seals
    by_opened None = tt
    by_opened (Some u) = (tt, tt)

-- ---- tickets

module _ (us : Uses) (server : Server) (own session : List ℕ) (generated : (service : EntityType) → AreGenerated us service (generations_of server.state service)) where
  no-login : (service : EntityType) (id : ℕ) → IsNoLogin (Generated service id)
  no-login service id name e = cc

  blob-plain : (t : Ticket) (now : ℕ) (gs : List Generation) → AreGenerated us t.service gs → AllByRecursion (IsPlain us) (blob_sealed (current_at now gs) t)
  blob-plain t now [] h = tt
  blob-plain t now (a ∷ []) h = tt
  blob-plain t now (a ∷ b ∷ []) h = tt
  blob-plain t now (a ∷ b ∷ c ∷ []) h = by_test (nat_lt now b.expires)
    where
      by_test : (unexpired : Bool) → AllByRecursion (IsPlain us) (blob_sealed (if unexpired then Some b else None) t)
      by_test true = (inl (Generated t.service b.id, h.1.0, no-login t.service b.id), tt)
      by_test false = tt
  blob-plain t now (a ∷ b ∷ c ∷ d ∷ gs) h = tt

  -- what is told of a ticket is no connection secret, and its blob is sealed under a generation
  pub ticket-plain : (t : Ticket) → AllByRecursion (IsPlain us) (ticket_seals server own session t)
  ticket-plain t =
      let blobs : List SealEntry = blob_sealed (current_at t.created (generations_of server.state t.service)) t in (
        tt,
        all-append (IsPlain us) blobs _ (blob-plain t t.created (generations_of server.state t.service) (generated t.service)) (inr (info_no_connection (ticket_info_of t)), tt),
      )

  pub tickets-plain : (ts : List Ticket) → AllByRecursion (IsPlain us) (flat_map (ticket_seals server own session) ts)
  tickets-plain [] = tt
  tickets-plain (t ∷ ts) = all-append (IsPlain us) (ticket_seals server own session t) (flat_map (ticket_seals server own session) ts) (ticket-plain t) (tickets-plain ts)

-- ---- the row

-- what the row hands over, and with what the link goes on
pub record HandsOver (a : MonitorArrival) (row : MonitorRow) : Type 0 where
  pub server : Server
  pub server_is : row.own.server ≡ server
  pub name : Name
  pub own : Key
  pub own_is : key_of server name ≡ Some own
  pub tickets : List Ticket
  pub quiet : List SealEntry
  pub silent : AreSilent quiet
  pub code : List ℕ
  pub long : length code ≡ 32
  pub sealed : SealedFrame
  pub made : secure_frame (acceptor_keys (connection_of a.draw)) (control 7 auth_signature_layout.form (record { signature = code })) ≡ Ok sealed
  pub seals : row.seals ≡ quiet ++ ((flat_map (ticket_seals server own.secret (session_of Auth a.draw)) tickets ++ secret_seals name (session_of Auth a.draw) (connection_of a.draw))
      ++ (signature (session_of Auth a.draw) (take a.link.taken a.link.received) ∷ sealed.seals))
  pub secured : Secured
  pub bearer : Bearer
  pub goes : row.link ≡ Some (record a.link { stage = AwaitsSignature secured bearer })
  pub keys_are : secured.keys ≡ sealed.keys
  pub named : bearer.name ≡ name
  pub session_is : bearer.session ≡ session_of Auth a.draw

-- nothing is handed over, and the link is shut
pub record HandsNothing (row : MonitorRow) : Type 0 where
  pub silent : AreSilent row.seals
  pub none : row.link ≡ None

abbrev pub Hands : MonitorArrival → MonitorRow → Type 0
Hands a row = HandsNothing row ⊎ HandsOver a row

module _ (a : MonitorArrival) where
  -- where AUTH_DONE and AUTH_SIGNATURE can be sent
  finished-hands : (server : Server) (e : Entrant) (own : Key) → key_of server e.name ≡ Some own → (tickets : List Ticket) → AreSilent e.seals → (code : List ℕ) → length code ≡ 32
      → (let h : HandedOut = handed_out (occasion a) server e own.secret tickets in
      Hands a (hands_over (with_server a server) h (joined h.session a.link.sent (plain_frame (done_frame h.payload))
      (signing h.session (take a.link.taken a.link.received) (secure_frame (acceptor_keys h.secret) (control 7 auth_signature_layout.form (record { signature = code })))))))
  finished-hands server e own own_is tickets silent code long = by_done (plain_frame (done_frame h.payload)) (secure_frame (acceptor_keys h.secret) f) refl
    where
      h : HandedOut
      h = handed_out (occasion a) server e own.secret tickets

      f : Frame
      f = control 7 auth_signature_layout.form (record { signature = code })

      by_done : (done : Result (List ℕ) BytesFault) (r : Result SealedFrame BytesFault) → secure_frame (acceptor_keys h.secret) f ≡ r
          → Hands a (hands_over (with_server a server) h (joined h.session a.link.sent done (signing h.session (take a.link.taken a.link.received) r)))
      by_done (Err why) r made = inl (record { silent = silent; none = refl })
      by_done (Ok done) (Err why) made = inl (record { silent = silent; none = refl })
      by_done (Ok done) (Ok sealed) made = inr (record {
        server = server;
        server_is = refl;
        name = e.name;
        own = own;
        own_is = own_is;
        tickets = tickets;
        quiet = e.seals;
        silent = silent;
        code = code;
        long = long;
        sealed = sealed;
        made = made;
        seals = refl;
        secured = record { keys = sealed.keys; session = h.session; covered = a.link.sent ++ done };
        bearer = record { name = e.name; gid = e.gid; session = h.session; last = 0 };
        goes = refl;
        keys_are = refl;
        named = refl;
        session_is = refl;
      })

  issued-hands : (server : Server) (e : Entrant) (own : Key) → key_of server e.name ≡ Some own → (tickets : Result (List Ticket) LoginFault) → AreSilent e.seals
      → Hands a (row_of a (issues (occasion a) server e own.secret tickets))
  issued-hands server e own own_is (Err why) silent = inl (record { silent = silent; none = refl })
  issued-hands server e own own_is (Ok tickets) silent =
      finished-hands server e own own_is tickets silent _ (length-code (session_of Auth a.draw) (take a.link.taken a.link.received))

  issues-hands : (server : Server) (e : Entrant) (own : Option Key) → key_of server e.name ≡ own → AreSilent e.seals → Hands a (row_of a (issues_to (occasion a) server e own))
  issues-hands server e None own_is silent = inl (record { silent = silent; none = refl })
  issues-hands server e (Some own) own_is silent = issued-hands server e own own_is (issued_for server (asking_for (occasion a) e.name e.gid) (services_for e.asked)) silent

  numbers-hands : (server : Server) (proven : Proven) (seals : List SealEntry) (r : Result Numbered LoginFault) → AreSilent seals → Hands a (row_of a (numbers (occasion a) server proven seals r))
  numbers-hands server proven seals (Err why) silent = inl (record { silent = silent; none = refl })
  numbers-hands server proven seals (Ok n) silent =
      issues-hands n.server (entrant proven.offer.name n.gid proven.ask.other_keys seals) (key_of n.server proven.offer.name) refl silent

  proven-hands : (hello_gid : ℕ) (proven : Proven) → Hands a (row_of a (rotates (occasion a) a.own.server hello_gid proven))
  proven-hands hello_gid proven =
      let rotated : Server = rotated_server a.reading a.draw a.own.server in
      let old = old_ticket rotated.state.auth proven.ask.old_ticket in
      let first : List SealEntry = proof_found proven.offer proven.ask.client_challenge ∷ rotation_drawn a.reading a.draw a.own.server.state in
      numbers-hands rotated proven (first ++ old.seals) (numbered rotated (reclaimed hello_gid proven.ask.version (kept_gid proven.offer.name a.reading old.value)))
      (all-append IsSilent first old.seals (tt, rotation-silent a.reading a.draw a.own.server.state)
      (old-silent (generation_key rotated.state.auth proven.ask.old_ticket.generation) proven.ask.old_ticket.blob))

  proves-hands : (hello_gid : ℕ) (offer : Offer) (ask : Authenticate) → Hands a (proves a hello_gid (proving offer ask))
  proves-hands hello_gid offer ask = by_test (due_proof offer.secret offer.challenge ask.client_challenge == ask.key)
    where
      by_test : (right : Bool) → Hands a (proves a hello_gid (if right then Ok (record { offer = offer; ask = ask })
          else Err (record { expected = due_proof offer.secret offer.challenge ask.client_challenge; got = ask.key })))
      by_test true = proven-hands hello_gid (record { offer = offer; ask = ask })
      by_test false = inl (record { silent = tt; none = refl })

  authenticate-hands : (offered : Offered) (read : Result Authenticate BytesFault) → Hands a (on_authenticate a offered read)
  authenticate-hands offered (Err why) = inl (record { silent = tt; none = refl })
  authenticate-hands offered (Ok ask) = proves-hands offered.gid offered.offer ask

  -- so whatever is read
  pub more-hands : (offered : Offered) (read : Result AuthRequestMore BytesFault) → Hands a (on_auth_request_more a offered read)
  more-hands offered (Err why) = inl (record { silent = tt; none = refl })
  more-hands offered (Ok more) = authenticate-hands offered (whole authenticate_layout.form more.payload)
