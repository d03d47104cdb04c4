-- What one that logs in says on its link to the monitor behind the monitor's signature: at most one word a row; a request under the next number, made at the
-- reading of the event; and of the requests that wait the others wait on, or the oldest is answered.
use Rattle.std.proofs.Common.{◌≡◌, ◌<◌, ◌==◌, ◌+◌, ◌-◌, ◌^◌, ℕ, Bool, true, false, List, [], ◌∷◌, ◌++◌, Option, Some, None, Result, Ok, Err, inl, inr, ◌⊎◌, refl, sym, ap, ◌∙◌, arith, nat_lt, ◌≤◌, eq-eqb, ltb-true, ltb-false}
use Rattle.std.specs.Prelude.{if◌then◌else◌}
use Rattle.cx_base.specs.Names.{is_daemon_type}
use Rattle.cx_control.specs.Idents.{ident_missing_features_layout, server_ident_layout}
use Rattle.cx_control.specs.Upkeep.{keepalive2_ack_layout, keepalive2_layout}
use Rattle.cx_control.specs.declared.auth.AuthSignature.{AuthSignature}
use Rattle.cx_control.specs.declared.idents.IdentMissingFeatures.{IdentMissingFeatures}
use Rattle.cx_control.specs.declared.idents.ServerIdent.{ServerIdent}
use Rattle.cx_control.specs.declared.upkeep.Keepalive2.{Keepalive2}
use Rattle.cx_control.specs.declared.upkeep.Keepalive2Ack.{Keepalive2Ack}
use Rattle.cx_dice.specs.Draws.{cookie_of}
use Rattle.cx_frame.specs.declared.frame.Frame.{Frame}
use Rattle.cx_journal.specs.declared.faults.BytesFault.{BytesFault}
use Rattle.cx_journal.specs.declared.faults.BytesFault.TheVariants.{Features}
use Rattle.cx_journal.specs.declared.faults.LoginFault.TheVariants.{SignatureWrong}
use Rattle.cx_journal.specs.declared.outcomes.Reason.{Reason}
use Rattle.cx_journal.specs.declared.outcomes.Reason.TheVariants as reason
use Rattle.cx_laws_tickets.specs.cx_login.specs.Unlocking.{made, told}
use Rattle.cx_laws_keys.specs.cx_rules.specs.Connector.{MonClientArrival, MonClientRow, Stage, AwaitsIdent, Login, Open, holding, identifies, on_missing_features, on_signature, while_identified}
use Rattle.cx_laws_keys.specs.cx_rules.specs.Holdings.{MonClient, held_login}
use Rattle.cx_laws_keys.specs.cx_rules.specs.Links.{Link}
use Rattle.cx_laws_keys.specs.cx_rules.specs.Payloads.{due, payload}
use Rattle.cx_laws_keys.specs.cx_rules.specs.Requests.{Requests, asks_rotating, asks_tickets, behind_reply, behind_request, later, no_requests, on_open, on_reply, on_server_ident, request_message, sealed_request, sends_request, taken, takes, unless_unsealed}
use Rattle.cx_laws_keys.specs.cx_rules.specs.Rows.{Arrival, Row, goes_on, refuses}
use Rattle.cx_laws_keys.specs.cx_rules.specs.Secured.{Keys, SealedFrame, Secured, is_signed, secure_frame, signature_found}
use Rattle.cx_laws_keys.specs.cx_rules.specs.Upkeep.{on_keepalive, on_keepalive_ack}
use Rattle.cx_laws_keys.specs.cx_rules.specs.declared.requests.Taken.{Taken}
use Rattle.cx_laws_keys.specs.cx_rules.specs.declared.requests.Taken.TheVariants as reply
use Rattle.cx_laws_keys.specs.cx_rules.specs.declared.requests.Want.{Want}
use Rattle.cx_laws_keys.specs.cx_rules.specs.declared.requests.Want.TheVariants.{Tickets, Rotating}
use Rattle.cx_steps.specs.declared.seals.DrawMark.TheVariants as draw
use Rattle.cx_steps.specs.declared.seals.SealEntry.TheVariants as entry
use Rattle.cx_wire.specs.declared.bodies.Request.{Request}
use Rattle.cx_wire.specs.declared.bodies.Request.TheVariants as asked
use Rattle.cx_laws_tickets.proofs.fetch.AskedWords.{Acknowledges, Asked, Asks, Idents, asked_frame}
use Rattle.cx_laws_tickets.proofs.fetch.RowWords.{AreQuiet, IsQuiet, RowSays, goes-says, quiet-still, refuses-says, secure-says}
use Rattle.cx_laws_tickets.proofs.fetch.Opens.{opened-all, seals_of, taken-opened}

-- ---- what is kept

-- what waits for this request
abbrev pub WaitsFor : ℕ → ℕ → Request → Want → Type 0
WaitsFor number reading request Tickets = Unit {0}
WaitsFor number reading request (Rotating asked_at) = (asked_at ≡ reading) × (request ≡ asked.Rotating)

-- behind a word: a request that is said waits last, under the next number; else all wait on, or all but the oldest
abbrev pub KeepsRequests : Requests → Option Asked → Requests → Type 0
KeepsRequests r None q = (q.count ≡ r.count) × ((q.waiting ≡ r.waiting) ⊎ (q.waiting ≡ later r.waiting))
KeepsRequests r (Some (Asks number reading request)) q =
    (q.count ≡ number) × (want : Want) × (q.waiting ≡ r.waiting ++ record { tid = number; want = want } ∷ []) × WaitsFor number reading request want
KeepsRequests r (Some (Acknowledges ack)) q = (q.count ≡ r.count) × (q.waiting ≡ r.waiting)
KeepsRequests r (Some (Idents mon_client gid cookie)) q = ⊥

-- a request is made at the reading of the event, under the next number behind this one
abbrev pub IsSaidAt : ℕ → ℕ → Asked → Type 0
IsSaidAt now count (Asks number reading request) = (reading ≡ now) × (number ≡ count + 1) × (count < 2 ^ 64 → number < 2 ^ 64)
IsSaidAt now count (Acknowledges ack) = Unit {0}
IsSaidAt now count (Idents mon_client gid cookie) = Unit {0}

-- ---- rows of an open link, by the name of the open stage

-- the link stays open
abbrev pub KeepsOpen : {S : Type 0} → (Secured → Requests → S) → ℕ → Requests → Option Asked → Secured → Link S → Type 0
KeepsOpen open_with number r word s link = (link.number ≡ number) × (q : Requests) × (link.stage ≡ open_with s q) × KeepsRequests r word q

-- a request that is sealed
sealed-is : (keys : Keys) (r : Requests) (request : Request) (sealed : SealedFrame) → sealed_request keys r request ≡ Ok sealed
    → ((r.count == 2 ^ 64 - 1) ≡ false) × (secure_frame keys (request_message (r.count + 1) request) ≡ Ok sealed)
sealed-is keys r request sealed is = by_test (r.count == 2 ^ 64 - 1) refl is
  where
    by_made : (made : Result SealedFrame BytesFault) → unless_unsealed made ≡ Ok sealed → made ≡ Ok sealed
    by_made (Ok x) e = let same : x ≡ sealed = cc in ap (λ (y : SealedFrame). let q : Result SealedFrame BytesFault = Ok y in q) same
    by_made (Err why) e = absurd cc

    by_test : (spent : Bool) → (r.count == 2 ^ 64 - 1) ≡ spent
        → (let q : Result SealedFrame Reason = (if spent then Err reason.Spent else unless_unsealed (secure_frame keys (request_message (r.count + 1) request))) in q ≡ Ok sealed)
        → ((r.count == 2 ^ 64 - 1) ≡ false) × (secure_frame keys (request_message (r.count + 1) request) ≡ Ok sealed)
    by_test true e bad = absurd cc
    by_test false e ok = (e, by_made (secure_frame keys (request_message (r.count + 1) request)) ok)

next-low : (count : ℕ) → (count == 2 ^ 64 - 1) ≡ false → count < 2 ^ 64 → count + 1 < 2 ^ 64
next-low count test low = by_test (nat_lt (count + 1) (2 ^ 64)) refl
  where
    by_test : (t : Bool) → nat_lt (count + 1) (2 ^ 64) ≡ t → count + 1 < 2 ^ 64
    by_test true less = ltb-true (count + 1) (2 ^ 64) less
    by_test false more =
        let above : 2 ^ 64 ≤ count + 1 = ltb-false (count + 1) (2 ^ 64) more in
        let last : count ≡ 2 ^ 64 - 1 = omega (arith, above, low) in
        let differ : true ≡ false = sym (eq-eqb count (2 ^ 64 - 1) last) ∙ test in
        absurd cc

module _ {S : Type 0} (open_with : Secured → Requests → S) (P : List ℕ → Type 0) (a : Arrival MonClient S) (s : Secured) (r : Requests) where
  abbrev Kept : Option Asked → Secured → Link S → Type 0
  Kept word t link = KeepsOpen open_with a.link.number r word t link

  abbrev Tells : Asked → Type 0
  Tells = IsSaidAt a.reading r.count

  abbrev pub AsksOn : Row MonClient S → Type 0
  AsksOn row = RowSays asked_frame P Kept Tells s row

  -- a request, wherever it is made
  pub request-says : (want : Want) (request : Request) → WaitsFor (r.count + 1) a.reading request want → AsksOn (sends_request open_with a s r want (sealed_request s.keys r request))
  request-says want request waits = by_made (sealed_request s.keys r request) refl
    where
      by_made : (made : Result SealedFrame Reason) → sealed_request s.keys r request ≡ made → AsksOn (sends_request open_with a s r want made)
      by_made (Err why) e = refuses-says asked_frame P Kept Tells a s why [] (λ key test p. refl)
      by_made (Ok sealed) e =
          let is = sealed-is s.keys r request sealed e in
          inr (record {
            word = Asks (r.count + 1) a.reading request;
            told = (refl, refl, (λ low. next-low r.count is.0 low));
            before = [];
            still = λ key test p. refl;
            sealed = sealed;
            made = is.1;
            seals = refl;
            link = (refl, behind_request r want, refl, (refl, want, refl, waits));
          })

  pub tickets-says : (services : ℕ) → AsksOn (asks_tickets open_with a s r services)
  tickets-says services = request-says Tickets (asked.Tickets services) tt

  pub rotating-says : AsksOn (asks_rotating open_with a s r)
  rotating-says = request-says (Rotating a.reading) asked.Rotating (refl, refl)

  keepalive-says : (read : Result Keepalive2 BytesFault) → AsksOn (on_keepalive a s (λ behind. open_with behind r) read)
  keepalive-says (Err why) = refuses-says asked_frame P Kept Tells a s (reason.Bytes why) [] (λ key test p. refl)
  keepalive-says (Ok keepalive) =
      secure-says asked_frame P Kept Tells a s (λ behind. open_with behind r) [] (Acknowledges (record { time = keepalive.time })) (λ key test p. refl) tt
      (λ t. (refl, r, refl, (refl, refl)))

  keepalive_ack-says : (read : Result Keepalive2Ack BytesFault) → AsksOn (on_keepalive_ack a s (λ behind. open_with behind r) read)
  keepalive_ack-says (Err why) = refuses-says asked_frame P Kept Tells a s (reason.Bytes why) [] (λ key test p. refl)
  keepalive_ack-says (Ok ack) = goes-says asked_frame P Kept Tells a s (open_with s r) (refl, r, refl, (refl, inl refl))

  takes-says : (t : Taken) → AreQuiet (seals_of t) → AsksOn (takes open_with a s r t)
  takes-says (reply.Refuses why opened) quiet = refuses-says asked_frame P Kept Tells a s why opened (quiet-still P opened quiet)
  takes-says (reply.Holds held opened) quiet = inl (record { still = quiet-still P opened quiet; link = (refl, behind_reply r, refl, (refl, inr refl)) })
  takes-says (reply.Views reading generations opened) quiet = inl (record { still = quiet-still P opened quiet; link = (refl, behind_reply r, refl, (refl, inr refl)) })

  -- whatever was read on an open link
  pub open-says : (f : Frame) → AsksOn (on_open open_with a s r f)
  open-says f = by_tests (f.tag == 18) (f.tag == 19)
    where
      by_tests : (ask ack : Bool) → AsksOn (if ask then on_keepalive a s (λ behind. open_with behind r) (payload keepalive2_layout.form f)
          else if ack then on_keepalive_ack a s (λ behind. open_with behind r) (payload keepalive2_ack_layout.form f) else on_reply open_with a s r f)
      by_tests true ack = keepalive-says (payload keepalive2_layout.form f)
      by_tests false true = keepalive_ack-says (payload keepalive2_ack_layout.form f)
      by_tests false false = takes-says (taken a.own.secret r f) (opened-all IsQuiet (λ mark. tt) (seals_of (taken a.own.secret r f)) (taken-opened a.own.secret r f))

-- ---- AUTH_SIGNATURE, SERVER_IDENT

-- the link waits for SERVER_IDENT
abbrev pub KeepsIdent : ℕ → Option Asked → Secured → Link Stage → Type 0
KeepsIdent number (Some (Idents mon_client gid cookie)) s link = (link.number ≡ number) × (session : List ℕ) × (link.stage ≡ AwaitsIdent s session)
KeepsIdent number (Some (Asks n reading request)) s link = ⊥
KeepsIdent number (Some (Acknowledges ack)) s link = ⊥
KeepsIdent number None s link = ⊥

module _ (P : List ℕ → Type 0) (a : MonClientArrival) (s : Secured) where
  abbrev pub Identifies : MonClientRow → Type 0
  Identifies row = RowSays asked_frame P (KeepsIdent a.link.number) (IsSaidAt a.reading 0) s row

  identifies-says : (login : Login) → Identifies (identifies a s login)
  identifies-says login =
      secure-says asked_frame P (KeepsIdent a.link.number) (IsSaidAt a.reading 0) (holding a (held_login a.own.holdings login.gid login.opened)) s
      (λ behind. AwaitsIdent behind login.opened.auth.session) (signature_found s ∷ entry.Drawn (draw.Cookie (cookie_of a.draw)) ∷ []) (Idents a.own login.gid (cookie_of a.draw))
      (quiet-still P (signature_found s ∷ entry.Drawn (draw.Cookie (cookie_of a.draw)) ∷ []) (tt, (tt, tt))) tt (λ t. (refl, login.opened.auth.session, refl))

  -- behind the monitor's signature CLIENT_IDENT is said
  pub signature-says : (login : Login) (read : Result AuthSignature BytesFault) → Identifies (on_signature a s login read)
  signature-says login (Err why) = refuses-says asked_frame P (KeepsIdent a.link.number) (IsSaidAt a.reading 0) a s (reason.Bytes why) [] (λ key test p. refl)
  signature-says login (Ok found) = by_test (is_signed s found.signature)
    where
      by_test : (right : Bool) → Identifies (if right then identifies a s login else refuses a (reason.Login SignatureWrong) [])
      by_test true = identifies-says login
      by_test false = refuses-says asked_frame P (KeepsIdent a.link.number) (IsSaidAt a.reading 0) a s (reason.Login SignatureWrong) [] (λ key test p. refl)

  -- a link that opens has no requests before
  abbrev pub Opens : List ℕ → MonClientRow → Type 0
  Opens session row = AsksOn Open P a s (no_requests session) row

  ident-says : (session : List ℕ) (read : Result ServerIdent BytesFault) → Opens session (on_server_ident Open a s session read)
  ident-says session (Err why) =
      refuses-says asked_frame P (KeepsOpen Open a.link.number (no_requests session)) (IsSaidAt a.reading 0) a s (reason.Bytes why) [] (λ key test p. refl)
  ident-says session (Ok ident) = by_test (is_daemon_type a.own.name.kind)
    where
      r : Requests
      r = no_requests session

      by_test : (daemon : Bool) → Opens session (if daemon then asks_rotating Open a s r else goes_on a (Open s r) [] [])
      by_test true = rotating-says Open P a s r
      by_test false = goes-says asked_frame P (KeepsOpen Open a.link.number r) (IsSaidAt a.reading 0) a s (Open s r) (refl, r, refl, (refl, inl refl))

  pub identified-says : (session : List ℕ) (f : Frame) → Opens session (while_identified a s session f)
  identified-says session f = by_test (f.tag == 10)
    where
      missing : (read : Result IdentMissingFeatures BytesFault) → Opens session (on_missing_features a read)
      missing (Err why) = refuses-says asked_frame P (KeepsOpen Open a.link.number (no_requests session)) (IsSaidAt a.reading 0) a s (reason.Bytes why) [] (λ key test p. refl)
      missing (Ok told) = refuses-says asked_frame P (KeepsOpen Open a.link.number (no_requests session)) (IsSaidAt a.reading 0) a s (reason.Bytes (Features told.features)) [] (λ key test p. refl)

      by_test : (lacks : Bool) → Opens session (if lacks then on_missing_features a (payload ident_missing_features_layout.form f)
          else on_server_ident Open a s session (due 9 server_ident_layout.form f))
      by_test true = missing (payload ident_missing_features_layout.form f)
      by_test false = ident-says session (due 9 server_ident_layout.form f)
