-- What a link of the monitor logs behind AUTH_DONE has nothing to do with logins: frames are sealed under the link's key, and what a reply tells is no connection secret.
use Rattle.std.proofs.Common.{◌≡◌, ◌==◌, ℕ, Bool, true, false, List, [], ◌∷◌, ◌++◌, map, Option, Some, None, Result, Ok, Err, inl, refl, sym, ap, subst}
use Rattle.std.specs.Prelude.{if◌then◌else◌}
use Rattle.std.specs.List.{AllByRecursion}
use Rattle.cx_base.specs.Names.{Name}
use Rattle.cx_base.specs.declared.kinds.EntityType.{EntityType}
use Rattle.cx_control.specs.Idents.{client_ident_layout, ident_missing_features_layout}
use Rattle.cx_control.specs.Reconnects.{session_reconnect_layout}
use Rattle.cx_control.specs.Upkeep.{keepalive2_ack_layout, keepalive2_layout}
use Rattle.cx_control.specs.declared.idents.ClientIdent.{ClientIdent}
use Rattle.cx_control.specs.declared.reconnects.SessionReconnect.{SessionReconnect}
use Rattle.cx_control.specs.declared.upkeep.Keepalive2.{Keepalive2}
use Rattle.cx_control.specs.declared.upkeep.Keepalive2Ack.{Keepalive2Ack}
use Rattle.cx_enc.specs.declared.keys.Key.{Key}
use Rattle.cx_frame.specs.declared.frame.Frame.{Frame}
use Rattle.cx_journal.specs.declared.faults.BytesFault.{BytesFault}
use Rattle.cx_journal.specs.declared.faults.BytesFault.TheVariants.{Unexpected}
use Rattle.cx_journal.specs.declared.faults.LoginFault.{LoginFault}
use Rattle.cx_journal.specs.declared.outcomes.Reason.{Reason}
use Rattle.cx_journal.specs.declared.premises.KeyKind.TheVariants as kind
use Rattle.cx_laws_tickets.specs.cx_keyserver.specs.Servers.{Server, generations_of, secrets_of}
use Rattle.cx_laws_tickets.specs.cx_keyserver.specs.declared.tickets.Ticket.{Ticket}
use Rattle.cx_laws_tickets.specs.cx_laws_keys.proofs.keys.Lists.{all-append}
use Rattle.cx_laws_tickets.specs.cx_laws_keys.proofs.keys.Uses.{AreGenerated, Means, Secret, Use, Uses}
use Rattle.cx_laws_keys.proofs.series.Frames.{frame-sealed}
use Rattle.cx_rotate.specs.declared.generations.Generation.{Generation}
use Rattle.cx_laws_keys.specs.cx_rules.specs.Acceptor.{AwaitsIdent, Open, missing_told, misses, server_ident}
use Rattle.cx_laws_keys.specs.cx_rules.specs.Fronts.{opened_parts}
use Rattle.cx_laws_keys.specs.cx_rules.specs.Monitor.{MonitorArrival, MonitorRow}
use Rattle.cx_laws_keys.specs.cx_rules.specs.MonitorRequests.{heard, on_demand, on_message, on_open, reply_message, request_occasion, responds, sends_reply, serving}
use Rattle.cx_laws_keys.specs.cx_rules.specs.MonitorRule.{on_client_ident, on_ident, on_session_reconnect, session_reset}
use Rattle.cx_laws_keys.specs.cx_rules.specs.Payloads.{control, payload}
use Rattle.cx_laws_keys.specs.cx_rules.specs.Rows.{Arrival, refuses_bytes, secure_sent, sends_secure}
use Rattle.cx_laws_keys.specs.cx_rules.specs.Secured.{SealedFrame, Secured, secure_frame}
use Rattle.cx_laws_keys.specs.cx_rules.specs.Upkeep.{on_keepalive, on_keepalive_ack}
use Rattle.cx_laws_keys.specs.cx_rules.specs.declared.responses.Bearer.{Bearer}
use Rattle.cx_laws_keys.specs.cx_rules.specs.declared.responses.Demand.{Demand}
use Rattle.cx_laws_keys.specs.cx_rules.specs.declared.responses.ReplyMade.{ReplyMade}
use Rattle.cx_laws_keys.specs.cx_rules.specs.declared.responses.Response.{Response}
use Rattle.cx_laws_keys.specs.cx_rules.specs.declared.responses.Response.TheVariants as response
use Rattle.cx_secure.specs.Plains.{plains}
use Rattle.cx_steps.specs.declared.seals.SealEntry.{SealEntry}
use Rattle.cx_steps.specs.declared.seals.SealEntry.TheVariants as entry
use Rattle.cx_laws_keys.specs.cx_stream.specs.Openings.{front_contents}
use Rattle.cx_laws_keys.specs.cx_stream.specs.SecureStreams.{Ahead}
use Rattle.cx_laws_tickets.specs.cx_keyserver.specs.declared.refusals.NotADaemon.{NotADaemon}
use Rattle.cx_laws_keys.specs.cx_rules.specs.Replies.{answers, answers_by, asking_of, issues_tickets, on_rotating, on_tickets, others_for, tells_generations, tells_tickets}
use Rattle.cx_laws_keys.specs.cx_rules.specs.Tickets.{issued_for, rotation_drawn}
use Rattle.cx_laws_keys.specs.cx_rules.specs.Verdicts.{Occasion, key_of}
use Rattle.cx_wire.specs.declared.bodies.Request.{Request}
use Rattle.cx_wire.specs.declared.bodies.Request.TheVariants as asked
use Rattle.cx_laws_tickets.proofs.fetch.Handed.{IsNoLogin, IsPlain}
use Rattle.cx_laws_tickets.proofs.fetch.HandedLogin.{parts-plain}
use Rattle.cx_laws_tickets.proofs.fetch.MonitorGives.{IsResponse, response-is, server_at}
use Rattle.cx_laws_tickets.proofs.fetch.MonitorHands.{rotation-silent, silent-plain, tickets-plain}

-- what opens is plain
pub opened-plain : (us : Uses) (ahead : Ahead) → AllByRecursion (IsPlain us) (opened_parts ahead)
opened-plain us ahead = over (front_contents ahead)
  where
    over : (contents : List (List ℕ)) → AllByRecursion (IsPlain us) (map (λ (content : List ℕ). entry.Opened (record { key = ahead.key; kind = kind.Connection; content = content })) contents)
    over [] = tt
    over (content ∷ contents) = (tt, over contents)

-- ---- what a reply tells

module _ (us : Uses) (at : Occasion) (server : Server) (bearer : Bearer) (drawn : List SealEntry) (generated : (service : EntityType) → AreGenerated us service (generations_of server.state service))
    (secret : (own : Key) → key_of server bearer.name ≡ Some own → Means us own.secret (Secret bearer.name)) where
  abbrev TellsPlain : Response → Type 0
  TellsPlain (response.Refuses why seals) = Unit {0}
  TellsPlain (response.Replies made) = AllByRecursion (IsPlain us) made.sealed

  no-login : (name : Name) → IsNoLogin (Secret name)
  no-login name other e = cc

  tickets-response : (keys : ℕ) → TellsPlain (on_tickets at server bearer drawn keys).response
  tickets-response keys = by_key (key_of server bearer.name)
    where
      by_tickets : (own : List ℕ) (r : Result (List Ticket) LoginFault) → TellsPlain (tells_tickets at server bearer drawn own r).response
      by_tickets own (Err why) = tt
      by_tickets own (Ok tickets) = tickets-plain us server own bearer.session generated tickets

      by_key : (key : Option Key) → TellsPlain (issues_tickets at server bearer drawn keys key).response
      by_key None = tt
      by_key (Some own) = by_tickets own.secret (issued_for server (asking_of at bearer) (others_for keys))

  rotating-response : TellsPlain (on_rotating at server bearer drawn).response
  rotating-response = by_both (key_of server bearer.name) (secrets_of server bearer.name) refl
    where
      by_both : (key : Option Key) (gens : Result (List Generation) NotADaemon) → key_of server bearer.name ≡ key → TellsPlain (tells_generations at server bearer drawn key gens).response
      by_both (Some own) (Ok gs) is = (inl (Secret bearer.name, secret own is, no-login bearer.name), tt)
      by_both (Some own) (Err why) is = tt
      by_both None (Ok gs) is = tt
      by_both None (Err why) is = tt

  pub response-plain : (request : Option Request) → TellsPlain (answers_by at server bearer drawn request).response
  response-plain (Some (asked.Tickets keys)) = tickets-response keys
  response-plain (Some asked.Rotating) = rotating-response
  response-plain None = tt

-- ---- rows

module _ (us : Uses) (s : Secured) (linked : Use) (means : Means us s.keys.key linked) (none : IsNoLogin linked) where
  abbrev AllPlain : List SealEntry → Type 0
  AllPlain es = AllByRecursion (IsPlain us) es

  pub frame-plain : (f : Frame) (sealed : SealedFrame) → secure_frame s.keys f ≡ Ok sealed → AllPlain sealed.seals
  frame-plain f sealed made =
      subst AllPlain (sym (ap (λ (x : SealedFrame). x.seals) (frame-sealed s.keys f sealed made).0))
      (parts-plain us s.keys.key s.keys.out.fixed s.keys.out.counter (plains f) linked means none)

  pub secure-plain : {Own Stage : Type 0} (a : Arrival Own Stage) (stage : Secured → Stage) (before : List SealEntry) (f : Frame) → AllPlain before
      → AllPlain (sends_secure a s stage before f).seals
  secure-plain {Own} {Stage} a stage before f plain = by_sealed (secure_frame s.keys f) refl
    where
      by_sealed : (r : Result SealedFrame BytesFault) → secure_frame s.keys f ≡ r → AllPlain (secure_sent a s stage before r).seals
      by_sealed (Err why) made = plain
      by_sealed (Ok sealed) made = all-append (IsPlain us) before sealed.seals plain (frame-plain f sealed made)

  module _ (a : MonitorArrival) (bearer : Bearer) where
    -- an ident
    misses-plain : (features : ℕ) → AllPlain (misses a s features).seals
    misses-plain features = by_sealed (secure_frame s.keys (control 10 ident_missing_features_layout.form (record { features = features }))) refl
      where
        by_sealed : (r : Result SealedFrame BytesFault) → secure_frame s.keys (control 10 ident_missing_features_layout.form (record { features = features })) ≡ r
            → AllPlain (missing_told a features r).seals
        by_sealed (Err why) made = tt
        by_sealed (Ok sealed) made = frame-plain (control 10 ident_missing_features_layout.form (record { features = features })) sealed made

    client-plain : (read : Result ClientIdent BytesFault) → AllPlain (on_client_ident a s bearer read).seals
    client-plain (Err why) = tt
    client-plain (Ok ident) = by_test (ident.required == 0)
      where
        by_test : (t : Bool) → AllPlain (let row : MonitorRow = (if t then sends_secure a s (λ behind. Open behind bearer) [] (server_ident a.own.address 1 0) else misses a s ident.required) in row.seals)
        by_test true = secure-plain a (λ behind. Open behind bearer) [] (server_ident a.own.address 1 0) tt
        by_test false = misses-plain ident.required

    reconnect-plain : (read : Result SessionReconnect BytesFault) → AllPlain (on_session_reconnect a s bearer read).seals
    reconnect-plain (Err why) = tt
    reconnect-plain (Ok again) = secure-plain a (λ behind. AwaitsIdent behind bearer) [] session_reset tt

    pub ident-plain : (f : Frame) → AllPlain (on_ident a s bearer f).seals
    ident-plain f = by_tests (f.tag == 8) (f.tag == 11)
      where
        by_tests : (ident again : Bool) → AllPlain (let row : MonitorRow = (if ident then on_client_ident a s bearer (payload client_ident_layout.form f)
            else if again then on_session_reconnect a s bearer (payload session_reconnect_layout.form f) else refuses_bytes a (Unexpected f.tag) []) in row.seals)
        by_tests true again = client-plain (payload client_ident_layout.form f)
        by_tests false true = reconnect-plain (payload session_reconnect_layout.form f)
        by_tests false false = tt

    -- a frame on an open link
    keepalive-plain : (read : Result Keepalive2 BytesFault) → AllPlain (on_keepalive a s (λ behind. Open behind bearer) read).seals
    keepalive-plain (Err why) = tt
    keepalive-plain (Ok keepalive) = secure-plain a (λ behind. Open behind bearer) [] _ tt

    keepalive_ack-plain : (read : Result Keepalive2Ack BytesFault) → AllPlain (on_keepalive_ack a s (λ behind. Open behind bearer) read).seals
    keepalive_ack-plain (Err why) = tt
    keepalive_ack-plain (Ok ack) = tt

    module _ (f : Frame) (uses : (demand : Demand) → heard bearer f ≡ Ok demand → ((service : EntityType) → AreGenerated us service (generations_of (server_at a).state service))
        × ((own : Key) → key_of (server_at a) bearer.name ≡ Some own → Means us own.secret (Secret bearer.name))) where
      abbrev drawn : List SealEntry
      drawn = rotation_drawn a.reading a.draw a.own.server.state

      drawn-plain : (seals : List SealEntry) → seals ≡ drawn → AllPlain seals
      drawn-plain seals same = subst AllPlain (sym same) (silent-plain us drawn (rotation-silent a.reading a.draw a.own.server.state))

      reply-plain : (server : Server) (seq : ℕ) (made : ReplyMade) (g : Frame) → AllPlain made.seals → AllPlain made.sealed
          → AllPlain (sends_reply Open (serving a server) s bearer seq made (secure_frame s.keys g)).seals
      reply-plain server seq made g first told = by_sealed (secure_frame s.keys g) refl
        where
          by_sealed : (r : Result SealedFrame BytesFault) → secure_frame s.keys g ≡ r → AllPlain (sends_reply Open (serving a server) s bearer seq made r).seals
          by_sealed (Err why) is = first
          by_sealed (Ok sent) is = all-append (IsPlain us) made.seals (made.sealed ++ sent.seals) first (all-append (IsPlain us) made.sealed sent.seals told (frame-plain g sent is))

      response-row : (server : Server) (demand : Demand) (is : heard bearer f ≡ Ok demand) (r : Response) → IsResponse (server_at a) bearer drawn demand.request r
          → TellsPlain us (request_occasion a) (server_at a) bearer drawn (uses demand is).0 (uses demand is).1 r → AllPlain (responds Open (serving a server) s bearer demand r).seals
      response-row server demand heard_as (response.Refuses why seals) is told = drawn-plain seals is
      response-row server demand heard_as (response.Replies made) is told = reply-plain server demand.seq made (reply_message demand.tid made.body) (drawn-plain made.seals is.drawn_is) told

      demand-plain : (found : Result Demand Reason) → heard bearer f ≡ found → AllPlain (on_demand Open a s bearer found).seals
      demand-plain (Err why) is = tt
      demand-plain (Ok demand) is =
          response-row (answers (request_occasion a) a.own.server bearer demand.request).server demand is (answers (request_occasion a) a.own.server bearer demand.request).response
          (response-is (request_occasion a) (server_at a) bearer drawn demand.request)
          (response-plain us (request_occasion a) (server_at a) bearer drawn (uses demand is).0 (uses demand is).1 demand.request)

      pub open-plain : AllPlain (on_open Open a s bearer f).seals
      open-plain = by_tests (f.tag == 18) (f.tag == 19)
        where
          by_tests : (ask ack : Bool) → AllPlain (let row : MonitorRow = (if ask then on_keepalive a s (λ behind. Open behind bearer) (payload keepalive2_layout.form f)
              else if ack then on_keepalive_ack a s (λ behind. Open behind bearer) (payload keepalive2_ack_layout.form f) else on_message Open a s bearer f) in row.seals)
          by_tests true ack = keepalive-plain (payload keepalive2_layout.form f)
          by_tests false true = keepalive_ack-plain (payload keepalive2_ack_layout.form f)
          by_tests false false = demand-plain (heard bearer f) refl
