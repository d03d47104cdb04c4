-- An entity of the keyring is sent a challenge, and a login that is due is answered by AUTH_DONE and AUTH_SIGNATURE.
use Rattle.std.proofs.Common.{◌≡◌, ℕ, ◌==◌, ◌+◌, ◌≤◌, inl, inr, Bool, true, false, List, [], ◌∷◌, ◌++◌, length, drop, take, Option, Some, None, Result, Ok, refl, sym, ap, subst, ◌∙◌, append_assoc, arith, length-append}
use Rattle.std.specs.Prelude.{◌≢◌, ◌⊎◌, ◌-◌, ◌^◌, ◌&&◌, slice_index, IsSome, IsTrue, find, if◌then◌else◌}
use Rattle.std.specs.List.{AllByRecursion, list_any}
use Rattle.std.specs.Option.{option_map}
use Rattle.std.proofs.lemmas.Bool.{eq-eqb, ne_eqb}
use Rattle.std.proofs.lemmas.List.{get_or-append_right, length-drop, length-take}
use Rattle.cx_base.specs.declared.kinds.EntityType.{EntityType}
use Rattle.cx_base.specs.declared.kinds.EntityType.TheVariants.{Mon, Mds, Osd, Client, Mgr, Auth}
use Rattle.cx_base.specs.declared.nodes.NodeName.TheVariants as node
use Rattle.cx_keyserver.specs.cx_cbc.specs.Envelope.{sealed}
use Rattle.cx_login.specs.cx_control.specs.Auth.{auth_request_layout, auth_request_more_layout, auth_signature_layout}
use Rattle.cx_login.specs.cx_control.specs.declared.auth.AuthRequest.{AuthRequest}
use Rattle.cx_keyserver.specs.cx_dice.specs.Draws.{challenge_of, connection_of, counter_0, nonce_start, part, session_of}
use Rattle.cx_stream.specs.cx_digest.specs.Code.{hmac}
use Rattle.cx_stream.specs.cx_frame.specs.Banners.{number64}
use Rattle.cx_stream.specs.cx_frame.specs.Frames.{frame_text, total}
use Rattle.cx_stream.specs.cx_frame.specs.declared.frame.Frame.{Frame}
use Rattle.cx_login.specs.cx_journal.specs.declared.faults.BytesFault.{BytesFault}
use Rattle.cx_keyserver.specs.cx_keyring.specs.Entries.{is_named}
use Rattle.cx_keyserver.specs.cx_keyring.specs.declared.entries.Entry.{Entry as Principal}
use Rattle.cx_keyserver.specs.Servers.{Server, generations_of, rotated_server}
use Rattle.cx_keyserver.specs.declared.tickets.Ticket.{Ticket}
use Rattle.cx_login.specs.Monitor.{Offer, Proven, IsProved, proof_found, proving, reclaimed}
use Rattle.cx_login.specs.Unlocking.{old_ticket}
use Rattle.cx_login.specs.declared.monitor.Reclaim.{Reclaim}
use Rattle.cx_login.specs.declared.monitor.Reclaim.TheVariants as reclaim
use Rattle.cx_rotate.specs.Rotation.{is_current}
use Rattle.cx_rotate.specs.declared.generations.Generation.{Generation}
use Rattle.cx_login.specs.cx_steps.specs.declared.seals.DrawMark.TheVariants.{Challenge}
use Rattle.cx_login.specs.cx_steps.specs.declared.seals.SealEntry.{SealEntry}
use Rattle.cx_login.specs.cx_steps.specs.declared.seals.SealEntry.TheVariants.{Drawn}
use Rattle.cx_login.specs.cx_wire.specs.Logins.{login_hello_layout}
use Rattle.cx_login.specs.cx_wire.specs.declared.logins.Authenticate.{Authenticate}
use Rattle.cx_login.specs.cx_wire.specs.declared.logins.LoginHello.{LoginHello}
use Rattle.cx_rules.specs.Acceptor.{AwaitsProof, AwaitsSignature, Finished, finished, joined, on_auth_request}
use Rattle.cx_rules.specs.Answering.{AreCurrent, GivesChallenge, GivesLogin, HearsHello, HearsProof, IsDue, challenge_frame, gid_kept, login_frame, login_signature, services_granted}
use Rattle.cx_rules.specs.Inputs.{Turn}
use Rattle.cx_rules.specs.Links.{Link}
use Rattle.cx_rules.specs.Monitor.{MonitorArrival, MonitorNode, MonitorRow, MonitorStage, Offered}
use Rattle.cx_rules.specs.MonitorLogin.{challenges, done_frame, hands_over, occasion, on_authenticate, on_login_hello, proves, row_of, with_server}
use Rattle.cx_rules.specs.MonitorRule.{monitor_rule, noted, on_auth_request_more, on_request_payload, turned_at}
use Rattle.cx_rules.specs.Payloads.{control, due, whole}
use Rattle.cx_rules.specs.Rows.{Handles, arrival, at, carried_out, goes_on, plain_sent, turned_by}
use Rattle.cx_rules.specs.Secured.{Keys, SealedFrame, acceptor_keys, plain_frame, signature, signed_frame, signing}
use Rattle.cx_rules.specs.Tickets.{issued_for, rotation_drawn, services_for}
use Rattle.cx_rules.specs.Verdicts.{Entrant, Occasion, asking_for, decided, entrant, handed_out, issues, issues_to, numbered, numbers, rotates, secret_content}
use Rattle.cx_rules.specs.declared.verdicts.HandedOut.{HandedOut}
use Rattle.cx_rules.specs.declared.verdicts.Verdict.TheVariants.{Granted}
use Rattle.cx_rules.proofs.Affording.{affords, login-listed, ticket-entered, services-few, services-have}
use Rattle.cx_rules.proofs.Carrying.{carried-on}
use Rattle.cx_rules.proofs.Handling.{found-number, plain-number, turn-handles}
use Rattle.cx_rules.proofs.Pieces.{plain-alone, plain-piece}
use Rattle.cx_rules.proofs.Sizes.{IsShort, challenge-short, few-parts, length-code, length-connection_secret, length-done, length-sealed, plain-sent, secure-sent}

-- ---- the connection secret

-- eight zeros behind twenty bytes are the number 0
zero-behind : (front rest : List ℕ) → length front ≡ 20 → number64 (front ++ (counter_0 ++ rest)) 20 ≡ 0
zero-behind front rest len =
    let is : (i : ℕ) → 20 ≤ i → slice_index (front ++ (counter_0 ++ rest)) i ≡ slice_index (counter_0 ++ rest) (i - 20) =
    λ i le. get_or-append_right front (counter_0 ++ rest) 20 i 0 len le in
    let e0 = is 20 (omega arith) in
    let e1 = is 21 (omega arith) in
    let e2 = is 22 (omega arith) in
    let e3 = is 23 (omega arith) in
    let e4 = is 24 (omega arith) in
    let e5 = is 25 (omega arith) in
    let e6 = is 26 (omega arith) in
    let e7 = is 27 (omega arith) in
    rw (e0, e1, e2, e3, e4, e5, e6, e7) refl

-- the acceptor begins with counter 0
counter-begins : (draw : List ℕ) → length draw ≡ 384 → (acceptor_keys (connection_of draw)).out.counter ≡ 0
counter-begins draw len =
    let key : List ℕ = part 16 16 draw in
    let start : List ℕ = nonce_start 0 32 draw in
    let rest : List ℕ = nonce_start 128 44 draw ++ (counter_0 ++ part 56 24 draw) in
    let twenty : length (key ++ start) ≡ 20 =
    omega (arith, length-append key start, length-take 16 (drop 16 draw), length-drop 16 draw, length-take 3 (drop 33 draw), length-drop 33 draw) in
    ap (λ bytes. number64 bytes 20) (sym (append_assoc key start (counter_0 ++ rest))) ∙ zero-behind (key ++ start) rest twenty

connection-short : (draw : List ℕ) → length (connection_of draw) ≤ 64
connection-short draw =
    let a : List ℕ = part 16 16 draw in
    let b : List ℕ = part 33 3 draw in
    let c : List ℕ = part 45 3 draw in
    let d : List ℕ = part 56 24 draw in
    let last : List ℕ = nonce_start 128 44 draw ++ (counter_0 ++ d) in
    let middle : List ℕ = nonce_start 0 32 draw ++ (counter_0 ++ last) in
    omega (
      arith,
      length-append a middle,
      length-append b (counter_0 ++ last),
      length-append c (counter_0 ++ d),
      length-take 16 (drop 16 draw),
      length-take 3 (drop 33 draw),
      length-take 3 (drop 45 draw),
      length-take 24 (drop 56 draw),
    )

-- ---- AUTH_DONE and AUTH_SIGNATURE

-- AUTH_DONE isn't too long
done-short : (gid : ℕ) (tickets : List Ticket) (draw : List ℕ) → AllByRecursion IsShort tickets → length tickets ≤ 4 → total (login_frame gid tickets draw) ≤ 65536
done-short gid tickets draw short few =
    let content : List ℕ = secret_content (connection_of draw) in
    let secret : List ℕ = sealed (session_of Auth draw) content in
    omega (arith, length-done gid tickets secret short, length-sealed (session_of Auth draw) content, length-connection_secret (connection_of draw), connection-short draw)

-- what authentication is finished with
abbrev finish : {S : Type 0} → Link S → List ℕ → Frame → Finished
finish link draw f =
    let signed : SealedFrame = login_signature draw (take link.taken link.received) in
    record {
      bytes = frame_text f ++ signed.bytes;
      seals = signature (session_of Auth draw) (take link.taken link.received) ∷ signed.seals;
      secured = record { keys = signed.keys; session = session_of Auth draw; covered = link.sent ++ frame_text f };
    }

finishes : {S : Type 0} (link : Link S) (draw : List ℕ) (f : Frame) → length draw ≡ 384 → total f ≤ 65536 → finished link (session_of Auth draw) (connection_of draw) f ≡ Ok (finish link draw f)
finishes link draw f len short =
    let session : List ℕ = session_of Auth draw in
    let received : List ℕ = take link.taken link.received in
    let keys : Keys = acceptor_keys (connection_of draw) in
    let s : Frame = control 7 auth_signature_layout.form (record { signature = hmac session received }) in
    ap (λ (done : Result (List ℕ) BytesFault). joined session link.sent done (signed_frame keys session received)) (plain-sent f short)
    ∙ ap (λ (r : Result SealedFrame BytesFault). joined session link.sent (Ok (frame_text f)) (signing session received r))
    (secure-sent keys s (omega (arith, few-parts s, counter-begins draw len)) (omega (arith, length-code session received)))

-- ---- the global id

-- there is a global id, and the key server behind it has the ring and the generations of before
pub record Numbers (server : Server) (by : Reclaim) : Type 0 where
  pub gid : ℕ
  pub behind : Server
  pub is : numbered server by ≡ Ok (record { server = behind; gid = gid })
  pub ring : behind.ring ≡ server.ring
  pub same : (service : EntityType) → generations_of behind.state service ≡ generations_of server.state service

numbers-next : (server : Server) → server.state.next_gid ≢ 2 ^ 64 - 1 → Numbers server reclaim.Fresh
numbers-next server left = record {
  gid = server.state.next_gid;
  behind = record server { state = record server.state { next_gid = server.state.next_gid + 1 } };
  is = rw (ne_eqb server.state.next_gid (2 ^ 64 - 1) left) refl;
  ring = refl;
  same = as_before;
}
  where
    as_before : (service : EntityType) → generations_of (record server.state { next_gid = server.state.next_gid + 1 }) service ≡ generations_of server.state service
    as_before Mds = refl
    as_before Osd = refl
    as_before Mgr = refl
    as_before Auth = refl
    as_before Mon = refl
    as_before Client = refl

fresh-gid : (hello version : ℕ) → (version ≢ 3) ⊎ (hello ≡ 0) → reclaimed hello version None ≡ reclaim.Fresh
fresh-gid hello version (inl other) = rw (ne_eqb version 3 other) refl
fresh-gid hello version (inr zero) = ap (λ h. reclaimed h version None) zero ∙ by_test (version == 3)
  where
    by_test : (t : Bool) → (if t && false then reclaim.Denied 0 else reclaim.Fresh) ≡ reclaim.Fresh
    by_test true = refl
    by_test false = refl

numbers-due : (server : Server) (offered : Offered) (ask : Authenticate) (kept : Option ℕ)
    → ((server.state.next_gid ≢ 2 ^ 64 - 1) × ((ask.version ≢ 3) ⊎ (offered.gid ≡ 0))) ⊎ IsSome kept → Numbers server (reclaimed offered.gid ask.version kept)
numbers-due server offered ask (Some gid) left = record { gid = gid; behind = server; is = refl; ring = refl; same = λ service. refl }
numbers-due server offered ask None (inl left) = subst (Numbers server) (sym (fresh-gid offered.gid ask.version left.1)) (numbers-next server left.0)
numbers-due server offered ask None (inr none) = absurd cc

current-behind : (reading : ℕ) (server behind : Server) → ((service : EntityType) → generations_of behind.state service ≡ generations_of server.state service)
    → (services : List EntityType) → AreCurrent reading server services → AreCurrent reading behind services
current-behind reading server behind same [] current = tt
current-behind reading server behind same (service ∷ services) current =
    (subst (λ (gs : List Generation). IsTrue (is_current reading gs)) (sym (same service)) current.0, current-behind reading server behind same services current.1)

-- ---- the verdict

-- a proof that is the one that is due is found so
proof-found : (offer : Offer) (ask : Authenticate) → IsProved offer ask → proving offer ask ≡ Ok (record { offer = offer; ask = ask })
proof-found offer ask proved = rw (eq-eqb _ _ proved) refl

-- what is logged until an entity has its global id
abbrev seals_until : Occasion → Server → Proven → List SealEntry
seals_until now server proven =
    (proof_found proven.offer proven.ask.client_challenge ∷ rotation_drawn now.reading now.draw server.state)
    ++ (old_ticket (rotated_server now.reading now.draw server).state.auth proven.ask.old_ticket).seals

-- tickets that are issued are handed out
tickets-granted : (now : Occasion) (server : Server) (offered : Offered) (ask : Authenticate) (principal : Principal) (tickets : List Ticket)
    → (n : Numbers (rotated_server now.reading now.draw server) (reclaimed offered.gid ask.version (gid_kept (rotated_server now.reading now.draw server) offered ask now.reading)))
    → find (is_named offered.offer.name) server.ring ≡ Some principal
    → issued_for n.behind (asking_for now offered.offer.name n.gid) (services_for ask.other_keys) ≡ Ok tickets
    → rotates now server offered.gid (record { offer = offered.offer; ask = ask })
    ≡ decided n.behind (Granted (handed_out now n.behind (entrant offered.offer.name n.gid ask.other_keys (seals_until now server (record { offer = offered.offer; ask = ask }))) principal.key.secret tickets))
tickets-granted now server offered ask principal tickets n known made =
    let rotated : Server = rotated_server now.reading now.draw server in
    let proven : Proven = record { offer = offered.offer; ask = ask } in
    let seals : List SealEntry = seals_until now server proven in
    let e : Entrant = entrant offered.offer.name n.gid ask.other_keys seals in
    let here : find (is_named offered.offer.name) n.behind.ring ≡ Some principal = ap (find (is_named offered.offer.name)) n.ring ∙ known in
    ap (numbers now rotated proven seals) n.is
    ∙ ap (λ (found : Option Principal). issues_to now n.behind e (option_map (λ (entry : Principal). entry.key) found)) here
    ∙ ap (issues now n.behind e principal.key.secret) made

-- ---- the step

-- the row of a login that is due
abbrev login_row : MonitorArrival → Server → HandedOut → MonitorRow
login_row a server h = hands_over (with_server a server) h (Ok (finish a.link a.draw (done_frame h.payload)))

login-rowed : (a : MonitorArrival) (offered : Offered) (ask : Authenticate) (server : Server) (h : HandedOut) → IsProved offered.offer ask
    → rotates (occasion a) a.own.server offered.gid (record { offer = offered.offer; ask = ask }) ≡ decided server (Granted h)
    → finished a.link h.session h.secret (done_frame h.payload) ≡ Ok (finish a.link a.draw (done_frame h.payload))
    → on_authenticate a offered (Ok ask) ≡ login_row a server h
login-rowed a offered ask server h proved granted finishing =
    ap (proves a offered.gid) (proof-found offered.offer ask proved) ∙ ap (row_of a) granted ∙ ap (hands_over (with_server a server) h) finishing

-- a login that is due is given
pub login-given : (m : MonitorNode) (number : ℕ) (offered : Offered) (ask : Authenticate) (reading : ℕ) (draw : List ℕ) (h : HearsProof m number offered ask) (is_due : IsDue m offered ask reading draw)
    → GivesLogin m number offered ask reading draw is_due.principal h.behind (monitor_rule m (Turn number) reading draw)
login-given m number offered ask reading draw h is_due =
    let a : MonitorArrival = arrival node.Monitor (noted m).own h.link reading draw in
    let b : MonitorArrival = at a h.behind in
    let now : Occasion = record { saved = m.own.saved; reading = reading; draw = draw } in
    let rotated : Server = rotated_server reading draw m.own.server in
    let name = offered.offer.name in
    let n : Numbers rotated (reclaimed offered.gid ask.version (gid_kept rotated offered ask reading)) = numbers-due rotated offered ask (gid_kept rotated offered ask reading) is_due.gid in
    let known : find (is_named name) n.behind.ring ≡ Some is_due.principal = ap (find (is_named name)) n.ring ∙ is_due.known in
    let granted : List EntityType = services_granted is_due.principal (services_for ask.other_keys) in
    let t = affords n.behind is_due.principal name n.gid (session_of Auth draw) reading draw (services_for ask.other_keys) known is_due.named is_due.caps (services-have ask.other_keys)
    (current-behind reading rotated n.behind n.same granted is_due.current) in
    let few : length t.tickets ≤ length (services_for ask.other_keys) = t.few in
    let f : Frame = login_frame n.gid t.tickets draw in
    let handed : HandedOut = handed_out now n.behind (entrant name n.gid ask.other_keys (seals_until now m.own.server (record { offer = offered.offer; ask = ask }))) is_due.principal.key.secret t.tickets in
    let row : MonitorRow = login_row b n.behind handed in
    let is_row : on_authenticate b offered (Ok ask) ≡ row =
    login-rowed b offered ask n.behind handed is_due.proved (tickets-granted now m.own.server offered ask is_due.principal t.tickets n is_due.known t.made)
    (finishes h.behind draw f is_due.draws (done-short n.gid t.tickets draw t.short (omega (arith, few, services-few ask.other_keys)))) in
    let handled : turned_at a h.link.stage ≡ Handles row =
    ap (turned_at a) h.stage
    ∙ ap (turned_by (λ ((link, g) : Link MonitorStage × Frame) _. on_auth_request_more (at a link) offered (due 5 auth_request_more_layout.form g))) h.next
    ∙ ap (λ (r : MonitorRow). Handles r) (ap (on_auth_request_more b offered) h.payload ∙ ap (on_authenticate b offered) h.read ∙ is_row) in
    let is : monitor_rule m (Turn number) reading draw ≡ carried_out (noted m) number true row = turn-handles m number reading draw h.link row h.found handled in
    let done : Finished = finish h.behind draw f in
    let stage : MonitorStage = AwaitsSignature done.secured (record { name = name; gid = n.gid; session = session_of Auth draw; last = 0 }) in
    let gives : GivesLogin m number offered ask reading draw is_due.principal h.behind (carried_out (noted m) number true row) = record {
      gid = n.gid;
      numbers = n.is;
      tickets = t.tickets;
      issued = t.each;
      sends = plain-piece number f (login_signature draw (take h.behind.taken h.behind.received)).bytes;
      entered = λ service caps wanted has. ticket-entered name n.gid service caps handed.save t.tickets (t.tells service caps (login-listed ask.other_keys service wanted) has);
      carries = carried-on (noted m) number h.behind stage done.bytes row.entries row (plain-number h.link h.behind h.frame h.next ∙ found-number number m.links h.link h.found) refl refl refl;
    } in
    subst (GivesLogin m number offered ask reading draw is_due.principal h.behind) (sym is) gives

-- ---- a challenge

challenge-sent : (draw : List ℕ) → plain_frame (challenge_frame draw) ≡ Ok (frame_text (challenge_frame draw))
challenge-sent draw = plain-sent (challenge_frame draw) (challenge-short draw)

hello-challenged : (a : MonitorArrival) (request : AuthRequest) (hello : LoginHello) (principal : Principal) → request.method ≡ 2 → IsTrue (list_any (λ mode. mode == 2) request.modes)
    → whole login_hello_layout.form request.payload ≡ Ok hello → find (is_named hello.name) a.own.server.ring ≡ Some principal
    → on_auth_request on_request_payload a (Ok request) ≡ challenges a hello (Some principal)
hello-challenged a request hello principal method modes read known =
    rw (eq-eqb request.method 2 method, modes) (ap (on_login_hello a) read ∙ ap (challenges a hello) known)

-- an entity of the keyring is sent a challenge
pub challenge-given : (m : MonitorNode) (number : ℕ) (hello : LoginHello) (reading : ℕ) (draw : List ℕ) (h : HearsHello m number hello) (principal : Principal)
    → find (is_named hello.name) m.own.server.ring ≡ Some principal → GivesChallenge m number hello draw principal h.behind (monitor_rule m (Turn number) reading draw)
challenge-given m number hello reading draw h principal known =
    let a : MonitorArrival = arrival node.Monitor (noted m).own h.link reading draw in
    let b : MonitorArrival = at a h.behind in
    let f : Frame = challenge_frame draw in
    let offered : Offered = record { offer = record { name = hello.name; secret = principal.key.secret; challenge = challenge_of draw }; gid = hello.gid } in
    let drawn : List SealEntry = Drawn (Challenge (challenge_of draw)) ∷ [] in
    let row : MonitorRow = goes_on b (AwaitsProof offered) (frame_text f) drawn in
    let is_row : on_auth_request on_request_payload b (Ok h.request) ≡ row =
    hello-challenged b h.request hello principal h.method h.modes h.read known ∙ ap (plain_sent b (AwaitsProof offered) drawn) (challenge-sent draw) in
    let handled : turned_at a h.link.stage ≡ Handles row =
    ap (turned_at a) h.stage
    ∙ ap (turned_by (λ ((link, g) : Link MonitorStage × Frame) _. on_auth_request on_request_payload (at a link) (due 2 auth_request_layout.form g))) h.next
    ∙ ap (λ (r : MonitorRow). Handles r) (ap (on_auth_request on_request_payload b) h.payload ∙ is_row) in
    let is : monitor_rule m (Turn number) reading draw ≡ carried_out (noted m) number true row = turn-handles m number reading draw h.link row h.found handled in
    let gives : GivesChallenge m number hello draw principal h.behind (carried_out (noted m) number true row) = record {
      sends = plain-alone number f;
      own = refl;
      carries = carried-on (noted m) number h.behind (AwaitsProof offered) (frame_text f) [] row (plain-number h.link h.behind h.frame h.next ∙ found-number number m.links h.link h.found) refl refl refl;
    } in
    subst (GivesChallenge m number hello draw principal h.behind) (sym is) gives
