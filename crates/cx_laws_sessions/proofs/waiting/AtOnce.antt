-- An operation that a client sends goes out on the open link to its daemon.
use Rattle.std.proofs.Common.{◌≡◌, ℕ, Bool, true, false, List, [], ◌∷◌, Option, Some, None, Result, Ok, Err, inl, inr, append-nil, refl, sym, ap, ◌∙◌, subst}
use Rattle.std.specs.List.{cons_option}
use Rattle.std.specs.Prelude.{◌&&◌}
use Rattle.cx_base.specs.Names.{Name, same_name}
use Rattle.cx_base.specs.declared.nodes.NodeName.{NodeName}
use Rattle.cx_base.specs.declared.operations.Operation.{Operation}
use Rattle.cx_journal.specs.declared.faults.BytesFault.{BytesFault}
use Rattle.cx_laws_sessions.proofs.queues.Entries.{sent_where}
use Rattle.cx_laws_sessions.specs.queues.Sending.{all_sent_to, under_cookie}
use Rattle.cx_laws_sessions.specs.cx_rules.specs.Inputs.{Input}
use Rattle.cx_laws_sessions.specs.cx_rules.specs.Links.{Link}
use Rattle.cx_laws_sessions.specs.cx_rules.specs.Rows.{Outcome, arrival, carried_out, secure_sent}
use Rattle.cx_laws_sessions.specs.cx_rules.specs.Secured.{SealedFrame, Secured, secure_frame}
use Rattle.cx_laws_sessions.specs.cx_rules_session.specs.ClientRule.{ClientStage, ToDaemon, WholeClientNode, first_call, having_session, me, pushes, sends, sends_in, sends_on, sent_entry, whole_client_rule}
use Rattle.cx_laws_sessions.specs.cx_rules_session.specs.Kinds.{entered_before}
use Rattle.cx_laws_sessions.specs.cx_rules_session.specs.Presenter as call
use Rattle.cx_laws_sessions.specs.cx_rules_session.specs.Sessions.{Callee, HeldSession, operation_message, session_with}
use Rattle.cx_laws_sessions.specs.cx_run.specs.Happenings.{EntityNode, OfClient, Happening, Stepped, entity_steps, steps_of}
use Rattle.cx_laws_sessions.specs.cx_run.specs.Points.{Point, stepped_at}
use Rattle.cx_laws_sessions.proofs.waiting.Finding.{with-own}
use Rattle.cx_laws_sessions.specs.waiting.Again.{GoOut, asked_again}
use Rattle.cx_laws_sessions.specs.waiting.AtOnce.{IsSent}
use Rattle.cx_session.specs.Queue.{push_reply, pushed}
use Rattle.cx_session.specs.declared.outbox.QueueFault.{QueueFault}
use Rattle.cx_steps.specs.declared.effects.Effects.{Effects}

module _ (c : WholeClientNode) (reading : ℕ) (draw : List ℕ) (client daemon : Name) (link : Link ClientStage) (s : Secured) (callee : Callee) (cookie under : ℕ) (ask : ℕ × Operation)
    (open_one : first_call daemon c.links ≡ Some (link, (s, (callee, cookie)))) where
  -- where the journal says that it was sent, it goes out
  abbrev Goes : Outcome WholeClientNode → Type 0
  Goes o = all_sent_to client daemon o.out.entries ≡ under_cookie under (ask ∷ []) → GoOut link.number s.keys (asked_again ask ∷ []) o.out

  none-sent : {X : Type 0} → [] ≡ under_cookie under (ask ∷ []) → X
  none-sent e = absurd cc

  -- what was entered is what was asked for
  ask-is : (k seq : ℕ) (operation : Operation) (here : Bool) → cons_option (sent_where here (k, (seq, operation))) [] ≡ under_cookie under (ask ∷ []) → (seq, operation) ≡ ask
  ask-is k seq operation true e = let both : (k, (seq, operation)) ≡ (under, ask) = cc in ap (λ (x : ℕ × (ℕ × Operation)). x.1) both
  ask-is k seq operation false e = none-sent e

  module _ (session : HeldSession) (operation : Operation) (seq : ℕ) where
    abbrev node_behind : WholeClientNode
    node_behind = having_session c (record session { queue = pushed session.queue operation })

    abbrev here : Bool
    here = same_name c.own.mon_client.name client && same_name session.daemon daemon

    abbrev made_by : Result SealedFrame BytesFault → Outcome WholeClientNode
    made_by made = carried_out node_behind link.number false (entered_before (sent_entry c.own session seq operation)
        (secure_sent (arrival (me node_behind.own) node_behind.own link reading draw) s (λ behind. ToDaemon (call.Open behind callee cookie)) [] made))

    made-goes : (made : Result SealedFrame BytesFault) → secure_frame s.keys (asked_again (seq, operation)) ≡ made → Goes (made_by made)
    made-goes (Ok sealed) is e =
        subst (λ (a : ℕ × Operation). GoOut link.number s.keys (asked_again a ∷ []) (made_by (Ok sealed)).out) (ask-is session.client_cookie seq operation here e)
        (inl (sealed.bytes, (sealed, [], is, sym (append-nil sealed.bytes), refl), refl, refl))
    made-goes (Err why) is e =
        subst (λ (a : ℕ × Operation). GoOut link.number s.keys (asked_again a ∷ []) (made_by (Err why)).out) (ask-is session.client_cookie seq operation here e) (inr (why, inl is, refl, refl))

    on-link : session.daemon ≡ daemon → Goes (sends_on node_behind (sent_entry c.own session seq operation) (seq, operation) reading draw (first_call session.daemon c.links))
    on-link same =
        subst (λ (o : Option (Link ClientStage × (Secured × (Callee × ℕ)))). Goes (sends_on node_behind (sent_entry c.own session seq operation) (seq, operation) reading draw o))
        (sym (ap (λ (n : Name). first_call n c.links) same ∙ open_one)) (made-goes (secure_frame s.keys (operation_message (seq, operation))) refl)

  sends-goes : (operation : Operation) → Goes (sends c daemon operation reading draw)
  sends-goes operation = by_session (session_with daemon c.own.sessions) refl
    where
      by_push : (session : HeldSession) → session.daemon ≡ daemon → (r : Result ℕ QueueFault) → Goes (pushes c session operation reading draw r)
      by_push session same (Err why) = λ e. none-sent e
      by_push session same (Ok seq) = on-link session operation seq same

      by_session : (found : Option HeldSession) → session_with daemon c.own.sessions ≡ found → Goes (sends_in c operation reading draw found)
      by_session None is = λ e. none-sent e
      by_session (Some session) is = by_push session (with-own daemon c.own.sessions session is) (push_reply session.queue)

module _ (p : Point) (client : Name) (link : Link ClientStage) (s : Secured) (ask : ℕ × Operation) (t : IsSent p client link s ask) where
  abbrev h : Happening
  h = p.happening

  stepped-is : stepped_at p ≡ entity_steps p.nodes h client (Some (OfClient t.c))
  stepped-is = ap (λ (n : NodeName). steps_of p.nodes h n) t.of ∙ ap (λ (o : Option EntityNode). entity_steps p.nodes h client o) t.found

  out-is : (stepped_at p).out ≡ (sends t.c t.daemon ask.1 h.reading h.draw).out
  out-is = ap (λ (x : Stepped). x.out) stepped-is ∙ ap (λ (i : Input). (whole_client_rule t.c i h.reading h.draw).out) t.told

  pub sends-at-once : GoOut link.number s.keys (asked_again ask ∷ []) (stepped_at p).out
  sends-at-once =
      subst (λ (out : Effects). GoOut link.number s.keys (asked_again ask ∷ []) out) (sym out-is)
      (sends-goes t.c h.reading h.draw client t.daemon link s t.callee t.cookie t.under ask t.open_one ask.1
      (subst (λ (out : Effects). all_sent_to client t.daemon out.entries ≡ under_cookie t.under (ask ∷ [])) out-is t.sent))
