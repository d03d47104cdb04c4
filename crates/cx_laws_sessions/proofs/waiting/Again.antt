-- Where SESSION_RECONNECT_OK is opened on a client's link, all that waits behind it in the session goes out again on that link.
use Rattle.std.proofs.Common.{◌≡◌, ◌⊎◌, ℕ, ◌==◌, true, List, [], ◌∷◌, map, Option, Some, None, Result, Ok, Err, inl, inr, eqb-true, refl, sym, ap, ◌∙◌, subst}
use Rattle.std.specs.Option.{option_map}
use Rattle.std.specs.Prelude.{if◌then◌else◌}
use Rattle.cx_base.specs.Names.{Name}
use Rattle.cx_base.specs.declared.nodes.NodeName.{NodeName}
use Rattle.cx_base.specs.declared.operations.Operation.{Operation}
use Rattle.cx_control.specs.Reconnects.{session_reconnect_ok_layout, session_reset_layout, session_retry_layout, session_retry_global_layout}
use Rattle.cx_control.specs.declared.reconnects.SessionReconnectOk.{SessionReconnectOk}
use Rattle.cx_frame.specs.declared.frame.Frame.{Frame}
use Rattle.cx_journal.specs.declared.faults.BytesFault.{BytesFault}
use Rattle.cx_journal.specs.declared.faults.BytesFault.TheVariants.{Unexpected}
use Rattle.cx_laws_sessions.proofs.queues.Sessions.{HeldIs}
use Rattle.cx_laws_sessions.proofs.session.Lists.{found-passes}
use Rattle.cx_laws_sessions.specs.cx_rules.specs.Fronts.{Front}
use Rattle.cx_laws_sessions.specs.cx_rules.specs.Inputs.{Input}
use Rattle.cx_laws_sessions.specs.cx_rules.specs.Links.{Link}
use Rattle.cx_laws_sessions.specs.cx_rules.specs.Messages.{sealed_behind, sealed_then, secure_frames}
use Rattle.cx_laws_sessions.specs.cx_rules.specs.Payloads.{payload}
use Rattle.cx_laws_sessions.specs.cx_rules.specs.Rows.{Arrival, Outcome, arrival, at, carried_out, piece, refuses_bytes, secure_sent, shuts, turned_by, turns, with_opened}
use Rattle.cx_laws_sessions.specs.cx_rules.specs.Secured.{Keys, SealedFrame, Secured, secure_frame, under}
use Rattle.cx_laws_sessions.specs.cx_rules_session.specs.ClientRule.{ClientStage, ToDaemon, WholeClient, WholeClientNode, caller_to, me, turn, turned_at, whole_client_rule, with_caller}
use Rattle.cx_laws_sessions.specs.cx_rules_session.specs.Kinds.{arrival_in, of_kind, row_of_kind, turn_of_kind}
use Rattle.cx_laws_sessions.specs.cx_rules_session.specs.Presenter.{CallArrival, CallRow, CallStage, Caller, AwaitsReconnect, Open, holding_session, on_reconnect_ok, on_reset, on_retry, on_retry_global, taken_up, while_reconnecting}
use Rattle.cx_laws_sessions.specs.cx_rules_session.specs.Sessions.{Callee, HeldSession, acknowledged_up_to, operation_message, session_with, waiting_messages}
use Rattle.cx_laws_sessions.specs.cx_run.proofs.Taking.{secure_sent-own}
use Rattle.cx_laws_sessions.specs.cx_run.specs.Happenings.{EntityNode, OfClient, Happening, Stepped, entity_steps, steps_of}
use Rattle.cx_laws_sessions.specs.cx_run.specs.Points.{Point, nodes_past, stepped_at}
use Rattle.cx_laws_sessions.proofs.waiting.Finding.{own-entity, own-found, with-own}
use Rattle.cx_laws_sessions.specs.waiting.Again.{AreSealed, CantBeSealed, GoOut, IsTakenUp, asked_again}
use Rattle.cx_laws_sessions.specs.waiting.Heard.{session_at, session_in}
use Rattle.cx_steps.specs.declared.effects.Effects.{Effects}

-- ---- frames

-- what is sealed of frames in their order, or why they aren't
abbrev SealedAs : Keys → List Frame → Result SealedFrame BytesFault → Type 0
SealedAs keys frames (Ok sealed) = AreSealed keys frames sealed.bytes
SealedAs keys frames (Err why) = CantBeSealed keys frames why

sealed-as : (frames : List Frame) (keys : Keys) → SealedAs keys frames (secure_frames keys frames)
sealed-as [] keys = refl
sealed-as (f ∷ frames) keys = by_first (secure_frame keys f) refl (λ later. sealed-as frames later)
  where
    by_rest : (one : SealedFrame) → secure_frame keys f ≡ Ok one → (r : Result SealedFrame BytesFault) → SealedAs one.keys frames r → SealedAs keys (f ∷ frames) (sealed_behind one r)
    by_rest one is (Ok s) rest = (one, s.bytes, is, refl, rest)
    by_rest one is (Err why) rest = inr (one, is, rest)

    by_first : (r : Result SealedFrame BytesFault) → secure_frame keys f ≡ r → ((later : Keys) → SealedAs later frames (secure_frames later frames))
        → SealedAs keys (f ∷ frames) (sealed_then r (λ one. sealed_behind one (secure_frames one.keys frames)))
    by_first (Ok one) is rest = by_rest one is (secure_frames one.keys frames) (rest one.keys)
    by_first (Err why) is rest = inl is

same-messages : (asks : List (ℕ × Operation)) → map operation_message asks ≡ map asked_again asks
same-messages [] = refl
same-messages ((number, operation) ∷ asks) = ap (λ (l : List Frame). asked_again (number, operation) ∷ l) (same-messages asks)

-- ---- the row

-- all of these frames are sent, and the link goes on; or none is, and it is shut
abbrev RowGoes : Keys → List Frame → CallRow → Type 0
RowGoes keys frames row = (AreSealed keys frames row.sends × (link : Link CallStage) × (row.link ≡ Some link))
    ⊎ ((why : BytesFault) × CantBeSealed keys frames why × (row.sends ≡ []) × (row.link ≡ None))

sent-goes : (a : CallArrival) (s : Secured) (stage : Secured → CallStage) (frames : List Frame) (r : Result SealedFrame BytesFault) → SealedAs s.keys frames r
    → RowGoes s.keys frames (secure_sent a s stage [] r)
sent-goes a s stage frames (Ok sealed) h = inl (h, record a.link { stage = stage (record s { keys = sealed.keys }) }, refl)
sent-goes a s stage frames (Err why) h = inr (why, h, refl, refl)

some-session : (x y : HeldSession) → Some x ≡ Some y → x ≡ y
some-session x y e = cc

taken_up-goes : (a : CallArrival) (s : Secured) (callee : Callee) (cookie last : ℕ) (found : Option HeldSession) → a.own.session ≡ found → (session : HeldSession)
    → (taken_up a s callee cookie last found).own.session ≡ Some session → RowGoes s.keys (map asked_again session.queue.waiting) (taken_up a s callee cookie last found)
taken_up-goes a s callee cookie last None held session is = absurd (let e : None ≡ Some session = sym held ∙ is in cc)
taken_up-goes a s callee cookie last (Some was) held session is =
    let now : HeldSession = acknowledged_up_to last was in
    let own : (taken_up a s callee cookie last (Some was)).own ≡ (holding_session a (Some now)).own =
    secure_sent-own (holding_session a (Some now)) s (λ behind. Open behind callee cookie) [] (secure_frames s.keys (waiting_messages now)) in
    let same : now ≡ session = some-session now session (sym (ap (λ (o : Caller). o.session) own) ∙ is) in
    subst (λ (x : HeldSession). RowGoes s.keys (map asked_again x.queue.waiting) (taken_up a s callee cookie last (Some was))) same
    (subst (λ (frames : List Frame). RowGoes s.keys frames (taken_up a s callee cookie last (Some was))) (same-messages now.queue.waiting)
    (sent-goes (holding_session a (Some now)) s (λ behind. Open behind callee cookie) (waiting_messages now) (secure_frames s.keys (waiting_messages now))
    (sealed-as (waiting_messages now) s.keys)))

-- ---- the step

module _ (p : Point) (client : Name) (callee : Callee) (number : ℕ) (keys : Keys) (t : IsTakenUp p client callee number keys) where
  abbrev h : Happening
  h = p.happening

  abbrev c : WholeClientNode
  c = t.c

  abbrev x : Arrival WholeClient ClientStage
  x = arrival (me c.own) c.own t.link h.reading h.draw

  abbrev a : CallArrival
  a = arrival_in x (caller_to callee.daemon c.own) (AwaitsReconnect t.s callee t.cookie)

  abbrev found : Option HeldSession
  found = session_with callee.daemon c.own.sessions

  abbrev row : CallRow
  row = taken_up (at a t.behind) (under t.s keys) callee t.cookie t.told.seq found

  -- a row of the link, carried out
  abbrev by : CallRow → Outcome WholeClientNode
  by r = carried_out c t.link.number true (row_of_kind (with_caller callee.daemon c.own) ToDaemon (with_opened t.opened r))

  rule-is : whole_client_rule c h.input h.reading h.draw ≡ by row
  rule-is =
      ap (λ (i : Input). whole_client_rule c i h.reading h.draw) t.turn
      ∙ ap (λ (o : Option (Link ClientStage)). turn c h.reading h.draw o) t.lives
      ∙ ap (λ (stage : ClientStage). turns c x (turned_at x stage)) t.stage
      ∙ ap (λ (front : Front (Link CallStage × Frame × Keys)). turns c x (turn_of_kind (with_caller callee.daemon c.own) ToDaemon
      (turned_by (λ (link, f, behind) opened. with_opened opened (while_reconnecting (at a link) (under t.s behind) callee t.cookie f)) front))) t.next
      ∙ ap (λ (n : ℕ). by (if n == 15 then on_reconnect_ok (at a t.behind) (under t.s keys) callee t.cookie (payload session_reconnect_ok_layout.form t.frame)
      else if n == 12 then on_reset (at a t.behind) (under t.s keys) callee (payload session_reset_layout.form t.frame)
      else if n == 13 then on_retry (at a t.behind) (under t.s keys) callee (payload session_retry_layout.form t.frame)
      else if n == 14 then on_retry_global (at a t.behind) (under t.s keys) callee (payload session_retry_global_layout.form t.frame)
      else refuses_bytes (at a t.behind) (Unexpected n) [])) t.tag
      ∙ ap (λ (read : Result SessionReconnectOk BytesFault). by (on_reconnect_ok (at a t.behind) (under t.s keys) callee t.cookie read)) t.reads

  stepped-is : stepped_at p ≡ entity_steps p.nodes h client (Some (OfClient c))
  stepped-is = ap (λ (n : NodeName). steps_of p.nodes h n) t.of ∙ ap (λ (o : Option EntityNode). entity_steps p.nodes h client o) t.found

  out-is : (stepped_at p).out ≡ (by row).out
  out-is = ap (λ (s : Stepped). s.out) stepped-is ∙ ap (λ (o : Outcome WholeClientNode). o.out) rule-is

  -- the session of the row is the one behind the step
  row-with : HeldIs (λ (s : HeldSession). s.daemon ≡ callee.daemon) row.own.session
  row-with = by_found found refl
    where
      by_found : (o : Option HeldSession) → found ≡ o
          → HeldIs (λ (s : HeldSession). s.daemon ≡ callee.daemon) (taken_up (at a t.behind) (under t.s keys) callee t.cookie t.told.seq o).own.session
      by_found None is = subst (HeldIs (λ (s : HeldSession). s.daemon ≡ callee.daemon)) (sym is) tt
      by_found (Some was) is =
          let now : HeldSession = acknowledged_up_to t.told.seq was in
          let own : (taken_up (at a t.behind) (under t.s keys) callee t.cookie t.told.seq (Some was)).own ≡ (holding_session (at a t.behind) (Some now)).own =
          secure_sent-own (holding_session (at a t.behind) (Some now)) (under t.s keys) (λ behind. Open behind callee t.cookie) [] (secure_frames keys (waiting_messages now)) in
          subst (λ (o : Caller). HeldIs (λ (s : HeldSession). s.daemon ≡ callee.daemon) o.session) (sym own) (with-own callee.daemon c.own.sessions was is)

  session-is : session_at (nodes_past p) client callee.daemon ≡ row.own.session
  session-is =
      ap (λ (s : Stepped). session_at s.nodes client callee.daemon) stepped-is
      ∙ ap (session_in callee.daemon) (own-entity p.nodes h client (OfClient c) t.found)
      ∙ ap (λ (o : Outcome WholeClientNode). session_with callee.daemon o.state.own.sessions) rule-is
      ∙ own-found callee.daemon row.own.session c.own.sessions row-with

  number-is : t.link.number ≡ number
  number-is = eqb-true t.link.number number (found-passes (λ (l : Link ClientStage). l.number == number) c.links t.link t.lives)

  row-out : (frames : List Frame) → RowGoes keys frames row → GoOut t.link.number keys frames (by row).out
  row-out frames (inl (sealed, link, is)) =
      inl (row.sends, sealed, refl, ap (λ (o : Option (Link CallStage)). shuts t.link.number (option_map (of_kind ToDaemon) o)) is)
  row-out frames (inr (why, cant, none, shut)) = inr (
    why,
    cant,
    ap (piece t.link.number) none,
    ap (λ (o : Option (Link CallStage)). shuts t.link.number (option_map (of_kind ToDaemon) o)) shut,
  )

  pub sends-again : (session : HeldSession) → session_at (nodes_past p) client callee.daemon ≡ Some session
      → GoOut number keys (map asked_again session.queue.waiting) (stepped_at p).out
  sends-again session is =
      subst (λ (out : Effects). GoOut number keys (map asked_again session.queue.waiting) out) (sym out-is)
      (subst (λ (n : ℕ). GoOut n keys (map asked_again session.queue.waiting) (by row).out) number-is
      (row-out (map asked_again session.queue.waiting) (taken_up-goes (at a t.behind) (under t.s keys) callee t.cookie t.told.seq found refl session (sym session-is ∙ is))))
