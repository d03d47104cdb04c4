-- A daemon's rows on its incoming links: from a link of which a part is forgotten they ask the book alike, and a machine keeps the same.
use Rattle.std.proofs.Common.{◌≡◌, ℕ, ◌==◌, ◌++◌, Bool, true, false, List, [], ◌∷◌, length, Option, Some, None, Result, Ok, Err, refl, sym, ◌∙◌}
use Rattle.std.specs.Prelude.{if◌then◌else◌}
use Rattle.std.proofs.lemmas.List.{drop-drop}
use Rattle.cx_authorize.specs.Daemon.{Authority, Awaited}
use Rattle.cx_authorize.specs.Judging.{Judged, judged_first, judged_second}
use Rattle.cx_authorize.specs.declared.refusals.AuthRefusal.{AuthRefusal}
use Rattle.cx_authorize.specs.declared.refusals.AuthRefusal.TheVariants as refusal
use Rattle.cx_authorize.specs.cx_control.specs.Auth.{auth_request_layout, auth_request_more_layout, auth_signature_layout}
use Rattle.cx_authorize.specs.cx_control.specs.Hello.{hello_layout}
use Rattle.cx_authorize.specs.cx_control.specs.Idents.{client_ident_layout}
use Rattle.cx_authorize.specs.cx_control.specs.Reconnects.{session_reconnect_layout}
use Rattle.cx_authorize.specs.cx_control.specs.Upkeep.{keepalive2_layout, keepalive2_ack_layout}
use Rattle.cx_authorize.specs.cx_control.specs.declared.auth.AuthRequestMore.{AuthRequestMore}
use Rattle.cx_authorize.specs.cx_control.specs.declared.idents.ClientIdent.{ClientIdent}
use Rattle.cx_authorize.specs.cx_control.specs.declared.reconnects.SessionReconnect.{SessionReconnect}
use Rattle.cx_authorize.specs.cx_control.specs.declared.upkeep.Keepalive2.{Keepalive2}
use Rattle.cx_authorize.specs.cx_control.specs.declared.upkeep.Keepalive2Ack.{Keepalive2Ack}
use Rattle.cx_desk.specs.Handlers.{Handlers}
use Rattle.cx_rules.specs.cx_frame.specs.declared.frame.Frame.{Frame}
use Rattle.cx_authorize.specs.cx_journal.specs.declared.entries.Entry.TheVariants as entry
use Rattle.cx_authorize.specs.cx_journal.specs.declared.faults.BytesFault.{BytesFault}
use Rattle.cx_authorize.specs.cx_journal.specs.declared.faults.BytesFault.TheVariants.{Unexpected}
use Rattle.cx_authorize.specs.cx_journal.specs.declared.faults.SessionFault.TheVariants as session
use Rattle.cx_authorize.specs.cx_journal.specs.declared.outcomes.Outcome.{Outcome}
use Rattle.cx_authorize.specs.cx_journal.specs.declared.outcomes.Reason.{Reason}
use Rattle.cx_authorize.specs.cx_journal.specs.declared.outcomes.Reason.TheVariants as reason
use Rattle.cx_rules.specs.cx_secure.specs.declared.refusals.SecureRefusal.{SecureRefusal}
use Rattle.cx_session.specs.declared.call.BookFault.TheVariants as fault
use Rattle.cx_session.specs.declared.call.BookReply.{BookReply}
use Rattle.cx_session.specs.declared.call.BookReply.TheVariants as reply
use Rattle.cx_rules.specs.cx_steps.specs.declared.seals.SealEntry.{SealEntry}
use Rattle.cx_rules.specs.cx_stream.specs.SecureStreams.{secure_frame_at}
use Rattle.cx_rules.specs.Abridged.{IsWithin, abridged_link, cut, unsigned}
use Rattle.cx_rules.specs.Acceptor.{AwaitsBanner, AwaitsHello, AwaitsRequest, AwaitsProof, AwaitsSignature, AwaitsIdent, Open, Finished as Done, finished, misses, on_auth_request, on_banner, on_hello, on_signature, server_ident}
use Rattle.cx_rules.specs.Fronts.{ahead_of, keys_behind, opened_parts, sealed_ahead, secure_next, secure_read, taking}
use Rattle.cx_rules.specs.Greetings.{own_hello}
use Rattle.cx_rules.specs.Holdings.{MonClient}
use Rattle.cx_rules.specs.Links.{Link}
use Rattle.cx_rules.specs.Messages.{acknowledgement, message_in, secure_frames}
use Rattle.cx_rules.specs.MonitorRule.{session_reset}
use Rattle.cx_rules.specs.Payloads.{due, payload}
use Rattle.cx_rules.specs.Rows.{Arrival, Turned, Waits, Refuses, Handles, at, goes_on, refuses, refuses_bytes, secure_sent, sends_secure, unless_refused}
use Rattle.cx_rules.specs.Secured.{Keys, Secured, plain_frame, secure_frame, under}
use Rattle.cx_rules.specs.Upkeep.{on_keepalive, on_keepalive_ack}
use Rattle.cx_rules.proofs.Abridging.{Alike}
use Rattle.cx_rules.proofs.AcceptorForgets.{hello-within, misses-alike, request-within, signature-alike}
use Rattle.cx_rules.proofs.AlikeRows.{RowWithin, SameAhead, SameTurn, banner-turn, goes-alike, opened-alike, plain-turn, plain_sent-within, refuses-alike, same-turn, secure-alike, secure-turn, taken-within}
use Rattle.cx_rules.proofs.Fitting.{Fits, secure-fits}
use Rattle.cx_rules_session.specs.Envelopes.{authorize_challenge_content, authorize_reply_content, sends_holding, session_sealed}
use Rattle.cx_rules_session.specs.Forgets.{AskAlike}
use Rattle.cx_rules_session.specs.IncomingLinks.{IncomingArrival, IncomingRow, IncomingStage, Served, authority_of, authorized_frame, authorizes, sealed_challenge_frame, challenges, done_sent, on_judged, on_auth_request_more, on_first, on_second, turns_away, unless_turned_away}
use Rattle.cx_rules_session.specs.Hosting.{Deciding, Hosted, Instruction, admission_of, admits, answer_message, asks_admission, cookie_drawn, comes_to, decided_by, incoming_turned, handles, handled_entry, hosted_behind, instruction_of, on_admission, on_checked, on_client_ident, on_ident, on_message, on_open, on_reconnect, on_resumption, on_taken, on_untaken, outcome_of, reconnect_ok, served_as, session_retry, session_retry_global, tells_why, turned_behind, unless_unread}
use Rattle.cx_rules_session.specs.Lossy.{is_lossy, lossy_flags}
use Rattle.cx_rules.specs.cx_dice.specs.Draws.{challenge_of, connection_of, cookie_of}
use Rattle.cx_authorize.specs.cx_sealed.specs.declared.service_ticket.ServiceTicket.{ServiceTicket}
use Rattle.cx_rules.specs.cx_steps.specs.declared.seals.DrawMark.TheVariants as draw
use Rattle.cx_rules.specs.cx_steps.specs.declared.seals.SealEntry.TheVariants.{Drawn}
use Rattle.cx_rules_session.proofs.AskingAlike.{asks_map-alike}
use Rattle.cx_rules_session.proofs.KindsAlike.{entered-before-alike, refused-before-alike}

-- ---- rows with plain frames: their links are whole

pub holding-within : {Own Stage : Type 0} (a : Arrival Own Stage) (stage : Stage) (before held : List SealEntry) (f : Frame) → IsWithin a.link → RowWithin (sends_holding a stage before held f)
holding-within a stage before held f w = by_frame (plain_frame f)
  where
    by_frame : (made : Result (List ℕ) BytesFault) → RowWithin (unless_refused a before made (λ bytes. goes_on a stage bytes (before ++ held)))
    by_frame (Ok bytes) = w
    by_frame (Err why) = tt

away-within : (a : IncomingArrival) (opened : List SealEntry) (why : AuthRefusal) → RowWithin (turns_away a opened why)
away-within a opened (refusal.Malformed place) = tt
away-within a opened (refusal.WrongService kept got) = tt
away-within a opened (refusal.Ticket why blob) = tt
away-within a opened refusal.OutOfMemory = tt

judging-within : {X : Type 0} (a : IncomingArrival) (judged : Judged AuthRefusal X) (next : X → IncomingRow) → ((shown : X) → RowWithin (next shown)) → RowWithin (on_judged a judged next)
judging-within {X} a judged next each = by_value judged.value
  where
    by_value : (value : Result X AuthRefusal) → RowWithin (unless_turned_away a judged.seals value next)
    by_value (Ok shown) = each shown
    by_value (Err why) = away-within a judged.seals why

challenges-within : (a : IncomingArrival) (opened : List SealEntry) (ticket : ServiceTicket) → IsWithin a.link → RowWithin (challenges a opened ticket)
challenges-within a opened ticket w =
    let challenge = challenge_of a.draw in
    holding-within a (AwaitsProof (record { service = a.own.name.kind; challenge = challenge })) (opened ++ Drawn (draw.Challenge challenge) ∷ [])
    (session_sealed ticket.session (authorize_challenge_content challenge) ∷ []) (sealed_challenge_frame ticket.session challenge) w

first-within : (a : IncomingArrival) (bytes : List ℕ) → IsWithin a.link → RowWithin (on_first a bytes)
first-within a bytes w =
    let judged = judged_first a.own.name.kind a.own.view a.reading bytes in
    judging-within a judged (λ shown. challenges a judged.seals shown.ticket) (λ shown. challenges-within a judged.seals shown.ticket w)

done-within : (a : IncomingArrival) (before held : List SealEntry) (authority : Authority) (finishing : Result Done BytesFault) → IsWithin a.link
    → RowWithin (done_sent a before held authority finishing)
done-within a before held authority (Ok done) w = w
done-within a before held authority (Err why) w = tt

authorizes-within : (a : IncomingArrival) (opened : List SealEntry) (ticket : ServiceTicket) (nonce : ℕ) → IsWithin a.link → RowWithin (authorizes a opened ticket nonce)
authorizes-within a opened ticket nonce w =
    let secret = connection_of a.draw in
    done-within a (opened ++ Drawn (draw.Connection secret ticket.name) ∷ []) (session_sealed ticket.session (authorize_reply_content nonce secret) ∷ [])
    (authority_of a ticket) (finished a.link ticket.session secret (authorized_frame ticket nonce secret)) w

second-within : (a : IncomingArrival) (awaited : Awaited) (bytes : List ℕ) → IsWithin a.link → RowWithin (on_second a awaited bytes)
second-within a awaited bytes w =
    let judged = judged_second awaited a.own.view a.reading bytes in
    judging-within a judged (λ shown. authorizes a judged.seals shown.ticket shown.authorize.nonce) (λ shown. authorizes-within a judged.seals shown.ticket shown.authorize.nonce w)

request_more-within : (a : IncomingArrival) (awaited : Awaited) (more : Result AuthRequestMore BytesFault) → IsWithin a.link → RowWithin (on_auth_request_more a awaited more)
request_more-within a awaited (Ok more) w = second-within a awaited more.payload w
request_more-within a awaited (Err why) w = tt

-- ---- rows that may ask the book

-- what comes of a turn is kept alike, and the same session moved
abbrev pub AreSameHosted : Hosted → Hosted → Type 0
AreSameHosted x y = SameTurn abridged_link x.turned y.turned × (x.moved ≡ y.moved)

decided-alike : (r s : IncomingRow) → Alike abridged_link r s → AskAlike AreSameHosted (comes_to r) (comes_to s)
decided-alike r s alike = (alike, refl)

module _ (a : IncomingArrival) (l : Link IncomingStage) (s : Secured) (e : SameAhead l a.link) (w : IsWithin a.link) where
  refused-alike : (why : Reason) (seals : List SealEntry) → AskAlike AreSameHosted (comes_to (refuses (at a l) why seals)) (comes_to (refuses a why seals))
  refused-alike why seals = decided-alike (refuses (at a l) why seals) (refuses a why seals) (refuses-alike abridged_link a l why seals e.number)

  unread-alike : {X : Type 0} (read : Result X BytesFault) (cut_next next : X → Deciding Hosted) → ((x : X) → AskAlike AreSameHosted (cut_next x) (next x))
      → AskAlike AreSameHosted (unless_unread (at a l) read cut_next) (unless_unread a read next)
  unread-alike (Ok x) cut_next next each = each x
  unread-alike (Err why) cut_next next each = refused-alike (reason.Bytes why) []

  -- a secure frame
  sent-alike : (stage : Secured → IncomingStage) (seals : List SealEntry) (f : Frame) → ((x : Secured) (k : Link IncomingStage) → abridged_link (record k { stage = stage x }) ≡ cut k (stage (unsigned x)))
      → Alike abridged_link (sends_secure (at a l) (unsigned s) stage seals f) (sends_secure a s stage seals f)
  sent-alike stage seals f cuts = secure-alike abridged_link a l (unsigned s) s stage seals (secure_frame s.keys f) e w cuts

  -- ---- CLIENT_IDENT

  admission-alike : (owner : Authority) (ident : ClientIdent) (r : BookReply)
      → AskAlike AreSameHosted (on_admission (at a l) (unsigned s) owner ident r) (on_admission a s owner ident r)
  admission-alike owner ident (reply.Admitted number epoch) =
      let stage : Secured → IncomingStage = λ behind. Open behind (served_as owner number epoch ident.cookie (is_lossy ident.flags)) in
      let f : Frame = server_ident a.own.address (lossy_flags (is_lossy ident.flags)) (cookie_of a.draw) in
      decided-alike (admits (at a l) (unsigned s) owner ident number epoch) (admits a s owner ident number epoch)
      (entered-before-alike abridged_link (entry.Admitted (admission_of a owner number epoch ident.cookie))
      (sends_secure (at a l) (unsigned s) stage (cookie_drawn a ∷ []) f) (sends_secure a s stage (cookie_drawn a ∷ []) f)
      (sent-alike stage (cookie_drawn a ∷ []) f (λ x k. refl)))
  admission-alike owner ident (reply.Refused (fault.CookieInUse number)) = refused-alike (reason.Session (session.CookieInUse number)) (cookie_drawn a ∷ [])
  admission-alike owner ident (reply.Refused (fault.BookFull limit)) = refused-alike (reason.Session session.BookFull) (cookie_drawn a ∷ [])
  admission-alike owner ident (reply.Refused fault.Spent) = refused-alike reason.Spent (cookie_drawn a ∷ [])
  admission-alike owner ident _ = (tt, refl)

  client_ident-alike : (owner : Authority) (read : Result ClientIdent BytesFault)
      → AskAlike AreSameHosted (on_client_ident (at a l) (unsigned s) owner read) (on_client_ident a s owner read)
  client_ident-alike owner read = unread-alike read _ _ (λ ident. by_test ident (ident.required == 0))
    where
      by_test : (ident : ClientIdent) (none : Bool) → AskAlike AreSameHosted
          (if none then asks_admission (at a l) (unsigned s) owner ident else comes_to (misses (at a l) (unsigned s) ident.required))
          (if none then asks_admission a s owner ident else comes_to (misses a s ident.required))
      by_test ident true = (refl, admission-alike owner ident)
      by_test ident false = decided-alike (misses (at a l) (unsigned s) ident.required) (misses a s ident.required) (misses-alike a l s ident.required e)

  -- ---- SESSION_RECONNECT

  why-alike : (owner : Authority) (why : Reason) (f : Frame) → AskAlike AreSameHosted (tells_why (at a l) (unsigned s) owner why f) (tells_why a s owner why f)
  why-alike owner why f =
      let stage : Secured → IncomingStage = λ behind. AwaitsIdent behind owner in (
        refused-before-alike abridged_link a.me l.number a.link.number why (sends_secure (at a l) (unsigned s) stage [] f) (sends_secure a s stage [] f) e.number
            (sent-alike stage [] f (λ x k. refl)),
        refl,
      )

  resumption-alike : (owner : Authority) (reconnect : SessionReconnect) (r : BookReply)
      → AskAlike AreSameHosted (on_resumption (at a l) (unsigned s) owner reconnect r) (on_resumption a s owner reconnect r)
  resumption-alike owner reconnect (reply.Resumed number epoch last lossy) =
      let stage : Secured → IncomingStage = λ behind. Open behind (served_as owner number epoch reconnect.client_cookie lossy) in (
        entered-before-alike abridged_link (entry.Resumed (admission_of a owner number epoch reconnect.client_cookie))
            (sends_secure (at a l) (unsigned s) stage [] (reconnect_ok last)) (sends_secure a s stage [] (reconnect_ok last))
            (sent-alike stage [] (reconnect_ok last) (λ x k. refl)),
        refl,
      )
  resumption-alike owner reconnect (reply.Refused fault.Unknown) = why-alike owner (reason.Session session.UnknownSession) session_reset
  resumption-alike owner reconnect (reply.Refused (fault.OwnerDiffers entity gid)) = why-alike owner (reason.Session (session.OwnerDiffers entity gid)) session_reset
  resumption-alike owner reconnect (reply.Refused fault.Spent) = why-alike owner reason.Spent session_reset
  resumption-alike owner reconnect (reply.Refused (fault.StaleConnect kept)) = why-alike owner (reason.Session (session.StaleConnect kept)) (session_retry kept)
  resumption-alike owner reconnect (reply.Refused (fault.StaleGlobal kept)) = why-alike owner (reason.Session (session.StaleGlobal kept)) (session_retry_global kept)
  resumption-alike owner reconnect _ = (tt, refl)

  reconnect-alike : (owner : Authority) (read : Result SessionReconnect BytesFault)
      → AskAlike AreSameHosted (on_reconnect (at a l) (unsigned s) owner read) (on_reconnect a s owner read)
  reconnect-alike owner read = unread-alike read _ _ (λ reconnect. (refl, resumption-alike owner reconnect))

  ident-alike : (owner : Authority) (f : Frame) → AskAlike AreSameHosted (on_ident (at a l) (unsigned s) owner f) (on_ident a s owner f)
  ident-alike owner f = by_tests (f.tag == 8) (f.tag == 11)
    where
      by_tests : (client reconnect : Bool) → AskAlike AreSameHosted
          (if client then on_client_ident (at a l) (unsigned s) owner (payload client_ident_layout.form f)
          else if reconnect then on_reconnect (at a l) (unsigned s) owner (payload session_reconnect_layout.form f)
          else comes_to (refuses_bytes (at a l) (Unexpected f.tag) []))
          (if client then on_client_ident a s owner (payload client_ident_layout.form f)
          else if reconnect then on_reconnect a s owner (payload session_reconnect_layout.form f)
          else comes_to (refuses_bytes a (Unexpected f.tag) []))
      by_tests true reconnect = client_ident-alike owner (payload client_ident_layout.form f)
      by_tests false true = reconnect-alike owner (payload session_reconnect_layout.form f)
      by_tests false false = refused-alike (reason.Bytes (Unexpected f.tag)) []

  -- ---- messages

  handles-alike : (served : Served) (i : Instruction) (outcome : Outcome) → Alike abridged_link (handles (at a l) (unsigned s) served i outcome) (handles a s served i outcome)
  handles-alike served i outcome =
      let stage : Secured → IncomingStage = λ behind. Open behind served in
      let made = secure_frames s.keys (answer_message i outcome ∷ acknowledgement i.seq ∷ []) in
      entered-before-alike abridged_link (handled_entry a served i outcome) (secure_sent (at a l) (unsigned s) stage [] made) (secure_sent a s stage [] made)
      (secure-alike abridged_link a l (unsigned s) s stage [] made e w (λ x k. refl))

  untaken-alike : (served : Served) (r : BookReply) → AskAlike AreSameHosted (on_untaken (at a l) (unsigned s) served r) (on_untaken a s served r)
  untaken-alike served (reply.Refused (fault.Repeat last)) =
      let stage : Secured → IncomingStage = λ behind. Open behind served in (sent-alike stage [] (acknowledgement last) (λ x k. refl), refl)
  untaken-alike served (reply.Refused (fault.Gap expected)) = refused-alike (reason.Session (session.Gap expected)) []
  untaken-alike served (reply.Refused (fault.Stale epoch)) = refused-alike (reason.Session (session.Stale epoch)) []
  untaken-alike served _ = (tt, refl)

  taken-alike : (handlers : Handlers) (served : Served) (i : Instruction) (r : BookReply)
      → AskAlike AreSameHosted (on_taken handlers (at a l) (unsigned s) served i r) (on_taken handlers a s served i r)
  taken-alike handlers served i reply.Fine = (handles-alike served i (outcome_of handlers served.caps i.operation), refl)
  taken-alike handlers served i (reply.Refused why) = untaken-alike served (reply.Refused why)
  taken-alike handlers served i _ = (tt, refl)

  checked-alike : (handlers : Handlers) (served : Served) (i : Instruction) (r : BookReply)
      → AskAlike AreSameHosted (on_checked handlers (at a l) (unsigned s) served i r) (on_checked handlers a s served i r)
  checked-alike handlers served i reply.Fine = (refl, taken-alike handlers served i)
  checked-alike handlers served i (reply.Refused why) = untaken-alike served (reply.Refused why)
  checked-alike handlers served i _ = (tt, refl)

  message-alike : (handlers : Handlers) (served : Served) (read : Result Instruction BytesFault)
      → AskAlike AreSameHosted (on_message handlers (at a l) (unsigned s) served read) (on_message handlers a s served read)
  message-alike handlers served read = unread-alike read _ _ (λ i. (refl, checked-alike handlers served i))

  keepalive-alike : (served : Served) (keepalive : Result Keepalive2 BytesFault)
      → Alike abridged_link (on_keepalive (at a l) (unsigned s) (λ behind. Open behind served) keepalive) (on_keepalive a s (λ behind. Open behind served) keepalive)
  keepalive-alike served (Ok keepalive) = sent-alike (λ behind. Open behind served) [] _ (λ x k. refl)
  keepalive-alike served (Err why) = refuses-alike abridged_link a l (reason.Bytes why) [] e.number

  keepalive_ack-alike : (served : Served) (ack : Result Keepalive2Ack BytesFault)
      → Alike abridged_link (on_keepalive_ack (at a l) (unsigned s) (λ behind. Open behind served) ack) (on_keepalive_ack a s (λ behind. Open behind served) ack)
  keepalive_ack-alike served (Ok ack) = goes-alike abridged_link a l (Open (unsigned s) served) (Open s served) (Open (unsigned s) served) [] [] e w (λ k. refl) (λ k. refl)
  keepalive_ack-alike served (Err why) = refuses-alike abridged_link a l (reason.Bytes why) [] e.number

  open-alike : (handlers : Handlers) (served : Served) (f : Frame) → AskAlike AreSameHosted (on_open handlers (at a l) (unsigned s) served f) (on_open handlers a s served f)
  open-alike handlers served f = by_tests (f.tag == 18) (f.tag == 19)
    where
      by_tests : (ask ack : Bool) → AskAlike AreSameHosted
          (if ask then comes_to (on_keepalive (at a l) (unsigned s) (λ behind. Open behind served) (payload keepalive2_layout.form f))
          else if ack then comes_to (on_keepalive_ack (at a l) (unsigned s) (λ behind. Open behind served) (payload keepalive2_ack_layout.form f))
          else on_message handlers (at a l) (unsigned s) served (instruction_of (message_in f)))
          (if ask then comes_to (on_keepalive a s (λ behind. Open behind served) (payload keepalive2_layout.form f))
          else if ack then comes_to (on_keepalive_ack a s (λ behind. Open behind served) (payload keepalive2_ack_layout.form f))
          else on_message handlers a s served (instruction_of (message_in f)))
      by_tests true ack = (keepalive-alike served (payload keepalive2_layout.form f), refl)
      by_tests false true = (keepalive_ack-alike served (payload keepalive2_ack_layout.form f), refl)
      by_tests false false = message-alike handlers served (instruction_of (message_in f))

-- ---- a turn

behind-alike : (opened : List SealEntry) (x y : Hosted) → AreSameHosted x y → AreSameHosted (hosted_behind opened x) (hosted_behind opened y)
behind-alike opened x y same = (by_turns x.turned y.turned same.0, same.1)
  where
    by_turns : (t u : Turned MonClient IncomingStage) → SameTurn abridged_link t u → SameTurn abridged_link (turned_behind opened t) (turned_behind opened u)
    by_turns Waits Waits h = tt
    by_turns (Refuses why broken) (Refuses cause found) h = h
    by_turns (Handles r) (Handles s) h = opened-alike abridged_link opened r s h
    by_turns Waits (Refuses why broken) h = absurd h
    by_turns Waits (Handles s) h = absurd h
    by_turns (Refuses why broken) Waits h = absurd h
    by_turns (Refuses why broken) (Handles s) h = absurd h
    by_turns (Handles r) Waits h = absurd h
    by_turns (Handles r) (Refuses why broken) h = absurd h

-- a frame is taken alike of a link that is cut
cut-taken : (link : Link IncomingStage) (stage : IncomingStage) (n : ℕ) → SameAhead (taking (cut link stage) n) (taking link n)
cut-taken link stage n = record { number = refl; ahead = sym (drop-drop n 0 (ahead_of link)) ∙ drop-drop n link.taken link.received }

-- what comes on a link that was cut, where the book may be asked
decided-turn : (a : IncomingArrival) (stage : IncomingStage) (keys : Keys) (cut_row row : IncomingArrival → Keys → Frame → Deciding Hosted) → IsWithin a.link
    → ((l k : Link IncomingStage) (behind : Keys) (f : Frame) → SameAhead l k → IsWithin k → AskAlike AreSameHosted (cut_row (at a l) behind f) (row (at a k) behind f))
    → AskAlike AreSameHosted
    (decided_by (λ (link, f, behind). cut_row (at a link) behind f) (secure_next keys (cut a.link stage)))
    (decided_by (λ (link, f, behind). row (at a link) behind f) (secure_next keys a.link))
decided-turn a stage keys cut_row row w each =
    by_cases (opened_parts (sealed_ahead keys a.link)) (secure_frame_at (sealed_ahead keys a.link)) (secure-fits (sealed_ahead keys a.link))
  where
    by_cases : (opened : List SealEntry) (r : Result (Option (Frame × ℕ)) SecureRefusal) → Fits (length (ahead_of a.link)) r
        → AskAlike AreSameHosted
        (decided_by (λ (link, f, behind). cut_row (at a link) behind f) (secure_read keys (cut a.link stage) opened r))
        (decided_by (λ (link, f, behind). row (at a link) behind f) (secure_read keys a.link opened r))
    by_cases opened (Ok None) le = (tt, refl)
    by_cases opened (Ok (Some (f, n))) le =
        let l : Link IncomingStage = taking (cut a.link stage) n in
        let k : Link IncomingStage = taking a.link n in
        let behind : Keys = keys_behind keys f in
        asks_map-alike AreSameHosted AreSameHosted (hosted_behind opened) (hosted_behind opened) (behind-alike opened) (cut_row (at a l) behind f) (row (at a k) behind f)
        (each l k behind f (cut-taken a.link stage n) (taken-within a.link n le w))
    by_cases opened (Err why) le = ((refl, refl), refl)

-- of a link in this stage
abbrev pub IncomingTurnsAlike : Handlers → IncomingArrival → IncomingStage → Type 0
IncomingTurnsAlike handlers a stage =
    let k : Link IncomingStage = record a.link { stage = stage } in
    let l : Link IncomingStage = abridged_link k in
    AskAlike AreSameHosted (incoming_turned handlers (at a l) l.stage) (incoming_turned handlers (at a k) stage)

pub incoming-turned-alike : (handlers : Handlers) (a : IncomingArrival) (stage : IncomingStage) → IsWithin a.link → IncomingTurnsAlike handlers a stage
incoming-turned-alike handlers a AwaitsBanner w =
    let k : Link IncomingStage = record a.link { stage = AwaitsBanner } in
    let kind = a.own.name.kind in
    (same-turn abridged_link _ (banner-turn (at a k) (on_banner kind) w (λ l v. plain_sent-within (at a l) AwaitsHello [] (plain_frame (own_hello kind)) v)), refl)
incoming-turned-alike handlers a AwaitsHello w =
    let k : Link IncomingStage = record a.link { stage = AwaitsHello } in
    (same-turn abridged_link _ (plain-turn (at a k) (λ b f. on_hello b (due 1 hello_layout.form f)) w (λ l f v. hello-within (at a l) (due 1 hello_layout.form f) v)), refl)
incoming-turned-alike handlers a AwaitsRequest w =
    let k : Link IncomingStage = record a.link { stage = AwaitsRequest } in (
      same-turn abridged_link _ (plain-turn (at a k) (λ b f. on_auth_request on_first b (due 2 auth_request_layout.form f)) w
          (λ l f v. request-within on_first (at a l) (due 2 auth_request_layout.form f) (λ bytes. first-within (at a l) bytes v))),
      refl,
    )
incoming-turned-alike handlers a (AwaitsProof awaited) w =
    let k : Link IncomingStage = record a.link { stage = AwaitsProof awaited } in (
      same-turn abridged_link _ (plain-turn (at a k) (λ b f. on_auth_request_more b awaited (due 5 auth_request_more_layout.form f)) w
          (λ l f v. request_more-within (at a l) awaited (due 5 auth_request_more_layout.form f) v)),
      refl,
    )
incoming-turned-alike handlers a (AwaitsSignature s owner) w =
    let k : Link IncomingStage = record a.link { stage = AwaitsSignature s owner } in
    let row : IncomingArrival → Keys → Frame → IncomingRow = λ b keys f. on_signature b (under s keys) owner (due 7 auth_signature_layout.form f) in (
      secure-turn abridged_link (at a k) (AwaitsSignature s owner) s.keys row row w
          (λ l n keys f e v. signature-alike (at a n) l (under s keys) owner (due 7 auth_signature_layout.form f) e v),
      refl,
    )
incoming-turned-alike handlers a (AwaitsIdent s owner) w =
    let k : Link IncomingStage = record a.link { stage = AwaitsIdent s owner } in
    let row : Secured → IncomingArrival → Keys → Frame → Deciding Hosted = λ t b keys f. on_ident b (under t keys) owner f in
    decided-turn (at a k) (AwaitsIdent (unsigned s) owner) s.keys (row (unsigned s)) (row s) w
    (λ l n keys f e v. ident-alike (at a n) l (under s keys) e v owner f)
incoming-turned-alike handlers a (Open s served) w =
    let k : Link IncomingStage = record a.link { stage = Open s served } in
    let row : Secured → IncomingArrival → Keys → Frame → Deciding Hosted = λ t b keys f. on_open handlers b (under t keys) served f in
    decided-turn (at a k) (Open (unsigned s) served) s.keys (row (unsigned s)) (row s) w
    (λ l n keys f e v. open-alike (at a n) l (under s keys) e v handlers served f)
