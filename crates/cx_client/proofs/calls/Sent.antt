-- An operation that is sent, over plain values: the step is that of the rules, abridged, and the links are held behind it as before.
use Rattle.std.proofs.Common.{◌≡◌, ◌∙◌, ℕ, ◌==◌, ◌+◌, ◌≤◌, Bool, true, false, cond, List, [], ◌∷◌, Option, Some, None, Result, Ok, Err, IfOk, arith, refl, sym, ap, subst}
use Rattle.std.specs.Prelude.{IfSome, OnErr}
use Rattle.std.specs.Option.{option_map}
use Rattle.std.proofs.lemmas.Bool.{eq-eqb, ne_eqb}
use Rattle.cx_base.specs.Names.{Name, same_name}
use Rattle.cx_base.proofs.Names.{same_name_is}
use Rattle.cx_base.specs.declared.operations.Operation.{Operation}
use Rattle.cx_client_session.specs.operations.Frames.{IsAheadOn, IsSent, behind_sent, kept_open, row_ahead}
use Rattle.cx_client_session.specs.calling.Sent.{IsRowAt}
use Rattle.cx_journal.specs.declared.entries.Entry.{Entry}
use Rattle.cx_journal.specs.declared.faults.BytesFault.{BytesFault}
use Rattle.cx_client_events.specs.cx_node.specs.kinds.Made.{made_of_kind}
use Rattle.cx_client_events.specs.cx_node.proofs.kinds.OfKinds.{made_due}
use Rattle.cx_node.specs.Made.{as_row}
use Rattle.cx_node.specs.Tables.{Table, with_number}
use Rattle.cx_node.specs.declared.rows.Row.{Row as Made}
use Rattle.cx_client_session.specs.cx_client_connect.specs.presenting.Rows.{arrived, caller}
use Rattle.cx_client_session.specs.cx_client_connect.specs.presenting.Stages.{CallLink}
use Rattle.cx_node.specs.cx_rules.specs.Holdings.{MonClient}
use Rattle.cx_node.specs.cx_rules.specs.Links.{Link}
use Rattle.cx_node.specs.cx_rules.specs.Rows.{Outcome, Row, arrival, secure_sent, sends_secure}
use Rattle.cx_node.specs.cx_rules.specs.Secured.{SealedFrame, Secured, secure_frame}
use Rattle.cx_node.specs.cx_rules.specs.cx_secure.specs.declared.sealing.SealedAhead.{SealedAhead}
use Rattle.cx_client_session.specs.cx_rules_session.specs.ClientRule.{ClientStage, ToDaemon, WholeClient, WholeClientNode, call_open, call_or, first_call, me, pushes, sends, sends_in, sends_on, sent_entry}
use Rattle.cx_client_session.specs.cx_rules_session.specs.Forgets.{abridged_call_link, abridged_client_link}
use Rattle.cx_client_session.specs.cx_rules_session.specs.Kinds.{entered_before, of_kind, row_of_kind}
use Rattle.cx_client_session.specs.cx_rules_session.specs.Presenter as call
use Rattle.cx_client_session.specs.cx_rules_session.specs.Presenter.{CallArrival, CallRow, CallStage, Caller, callee_of, is_open}
use Rattle.cx_client_session.specs.cx_rules_session.specs.Sessions.{Callee, HeldSession, operation_message, put_session, session_with}
use Rattle.cx_client_session.specs.cx_rules_session.proofs.WholeClientForgets.{client-forgets-links}
use Rattle.cx_client_events.specs.cx_client_connect.specs.session.Table.{having_pushed, in_session}
use Rattle.cx_session.specs.Queue.{push_reply, pushed}
use Rattle.cx_session.specs.declared.outbox.QueueFault.{QueueFault}
use Rattle.cx_steps.specs.declared.effects.Effects.{Effects}
use Rattle.cx_node.specs.steps.Making.{row_due}
use Rattle.cx_node.specs.steps.Stages.{AreRising}
use Rattle.cx_node.specs.steps.Steps.{node_of}
use Rattle.cx_node.specs.steps.Turns.{IsCarried}
use Rattle.cx_node.specs.declared.moments.Moment.{Moment}
use Rattle.cx_node.proofs.steps.Steps as steps
use Rattle.cx_client_events.specs.linking.Kinds.{ClientLink}
use Rattle.cx_client_events.specs.linking.Scans.{IsFirstCall}
use Rattle.cx_client_events.proofs.linking.Calling.{opened_keeps}
use Rattle.cx_client_events.proofs.linking.OfKinds.{daemon_follows}
use Rattle.cx_client_events.specs.Machine.{AreHeld, ClientRow, IsStep}
use Rattle.cx_client_events.proofs.Kept.{found_passes}
use Rattle.cx_client.specs.calls.Ahead.{IsAheadAt, IsStanding, link_ahead, row_on}
use Rattle.cx_client.specs.calls.Sending.{IsSentRow, numbered, numbered_in, operation_sent, with_pushed}

-- ---- what an open link keeps

opens_as : (daemon : Name) (stage : CallStage) → is_open stage ≡ true → same_name (callee_of stage).daemon daemon ≡ true → call_open daemon (ToDaemon stage) ≡ kept_open stage
opens_as daemon (call.AwaitsBanner called) is to = absurd (cc)
opens_as daemon (call.AwaitsHello called) is to = absurd (cc)
opens_as daemon (call.AwaitsChallenge callee presented) is to = absurd (cc)
opens_as daemon (call.AwaitsDone callee answered) is to = absurd (cc)
opens_as daemon (call.AwaitsSignature s callee) is to = absurd (cc)
opens_as daemon (call.AwaitsIdent s callee cookie) is to = absurd (cc)
opens_as daemon (call.AwaitsReconnect s callee cookie) is to = absurd (cc)
opens_as daemon (call.Open s callee cookie) is to = rw to refl

keeps_some : (stage : CallStage) → is_open stage ≡ true → kept_open stage ≡ None → ⊥
keeps_some (call.AwaitsBanner called) is none = cc
keeps_some (call.AwaitsHello called) is none = cc
keeps_some (call.AwaitsChallenge callee presented) is none = cc
keeps_some (call.AwaitsDone callee answered) is none = cc
keeps_some (call.AwaitsSignature s callee) is none = cc
keeps_some (call.AwaitsIdent s callee cookie) is none = cc
keeps_some (call.AwaitsReconnect s callee cookie) is none = cc
keeps_some (call.Open s callee cookie) is none = cc

-- ---- the number of an operation

abbrev Kept : Type 0
Kept = Secured × (Callee × ℕ)

module _ (own : WholeClient) (all : List ClientLink) (daemon : Name) (operation : Operation) (reading : ℕ) (draw : List ℕ) where
  -- what the rules have of one that waits under a number
  abbrev due_of : Entry → ℕ → Outcome WholeClientNode
  due_of sent seq = sends_on (node_of (with_pushed daemon operation own) all) sent (seq, operation) reading draw (first_call daemon all)

  numbered_by : (session : HeldSession) (reply : Result ℕ QueueFault) (seq : ℕ) (sent : Entry) → session_with daemon own.sessions ≡ Some session → push_reply session.queue ≡ reply
      → numbered_in own session operation reply ≡ Ok (seq, sent) → pushes (node_of own all) session operation reading draw reply ≡ due_of sent seq
  numbered_by session (Err fault) seq sent found is e = absurd (cc)
  numbered_by session (Ok n) seq sent found is e =
      let entry : Entry = sent_entry own session n operation in
      let more : HeldSession = record session { queue = pushed session.queue operation } in
      let pair : (let p : ℕ × Entry = (n, sent_entry own session n operation) in p) ≡ (seq, sent) = cc in
      let number : n ≡ seq = ap (λ (p : ℕ × Entry). p.0) pair in
      let entered : sent_entry own session n operation ≡ sent = ap (λ (p : ℕ × Entry). p.1) pair in
      let passes = rw found at (found_passes daemon own.sessions) in
      let named : session.daemon ≡ daemon = same_name_is session.daemon daemon passes in
      let put : in_session daemon (having_pushed operation) own.sessions ≡ put_session more own.sessions = rw (found, is) refl in
      let goes : List HeldSession → Entry → ℕ → Name → Outcome WholeClientNode = λ ss en k d.
      sends_on (node_of (record own { sessions = ss }) all) en (k, operation) reading draw (first_call d all)
      in
      ap (λ d. goes (put_session more own.sessions) entry n d) named
      ∙ ap (λ k. goes (put_session more own.sessions) entry k daemon) number
      ∙ ap (λ en. goes (put_session more own.sessions) en seq daemon) entered
      ∙ ap (λ ss. goes ss sent seq daemon) (sym put)

  numbered_of : (o : Option HeldSession) (seq : ℕ) (sent : Entry) → session_with daemon own.sessions ≡ o → numbered own operation o ≡ Ok (seq, sent)
      → sends_in (node_of own all) operation reading draw o ≡ due_of sent seq
  numbered_of None seq sent found e = absurd (cc)
  numbered_of (Some session) seq sent found e = numbered_by session (push_reply session.queue) seq sent found refl e

  -- it waits under a number
  pub pushed_step : {E : Type 0} (new : WholeClient) (links : List ClientLink) (seq : ℕ) (sent : Entry) (r : Result Effects E)
      → Ok (seq, sent) ≡ numbered own operation (session_with daemon own.sessions) → IfOk r (IsStep (node_of new links) (due_of sent seq))
      → IfOk r (IsStep (node_of new links) (sends (node_of own all) daemon operation reading draw))
  pushed_step new links seq sent r e s = rw (numbered_of (session_with daemon own.sessions) seq sent refl (sym e)) s

-- ---- the row by which it is sent

-- by what the link goes on by, it is one of the client or of the call alike
on_link : (link : CallLink) (o : Option SealedAhead) → option_map (link_ahead (of_kind ToDaemon link)) o ≡ option_map (of_kind ToDaemon) (option_map (behind_sent link) o)
on_link link None = refl
on_link link (Some a) = refl

ahead_as : (link : CallLink) (o : Option SealedAhead) → IfSome o (IsAheadOn link) → IfSome o (IsAheadAt (ToDaemon link.stage))
ahead_as link None ahead = tt
ahead_as link (Some a) ahead = ahead

module _ (at : Moment) (link : CallLink) (ask : ℕ × Operation) where
  -- the same row as one of the client
  lifted : (new : WholeClient) (s : Secured) (callee : Callee) (cookie : ℕ) (made : Result SealedFrame BytesFault)
      → row_of_kind (λ (c : Caller). new) ToDaemon (secure_sent (arrived (caller new.mon_client None) at link) s (λ behind. call.Open behind callee cookie) [] made)
      ≡ secure_sent (arrival (me new) new (of_kind ToDaemon link) at.reading at.draw.now.bytes) s (λ behind. ToDaemon (call.Open behind callee cookie)) [] made
  lifted new s callee cookie (Ok sealed) = refl
  lifted new s callee cookie (Err why) = refl

  -- the row of an operation that is sent on a link that keeps this
  abbrev sends_on_it : Secured → Callee → ℕ → CallArrival → CallRow
  sends_on_it s callee cookie a = sends_secure a s (λ behind. call.Open behind callee cookie) [] (operation_message ask)

  row_by : (new : WholeClient) (row : Made CallLink) (sent : Entry) (s : Secured) (callee : Callee) (cookie : ℕ) → IsRowAt (caller new.mon_client None) at link (sends_on_it s callee cookie) row
      → as_row new (record (made_of_kind ToDaemon row) { entries = sent ∷ row.entries })
      ≡ row_due abridged_client_link (entered_before sent (operation_sent new at.reading at.draw.now.bytes ask link s callee cookie))
  row_by new row sent s callee cookie is =
      let whole = made_due (λ (c : Caller). new) ToDaemon abridged_call_link abridged_client_link daemon_follows (caller new.mon_client None) row
      (sends_on_it s callee cookie (arrived (caller new.mon_client None) at link)) is.row in
      let due : ClientRow → ClientRow = λ r. row_due abridged_client_link r in
      let behind : ClientRow → ClientRow = λ r. entered_before sent r in
      ap behind (whole ∙ ap due (lifted new s callee cookie (secure_frame s.keys (operation_message ask))))

  -- the same by what the link goes on by
  row_ahead_by : (new : WholeClient) (row : Made SealedAhead) (sent : Entry) (s : Secured) (callee : Callee) (cookie : ℕ)
      → IsRowAt (caller new.mon_client None) at link (sends_on_it s callee cookie) (row_ahead link row)
      → as_row new (row_on (of_kind ToDaemon link) (record row { entries = sent ∷ row.entries }))
      ≡ row_due abridged_client_link (entered_before sent (operation_sent new at.reading at.draw.now.bytes ask link s callee cookie))
  row_ahead_by new row sent s callee cookie is =
      let with_link : Option ClientLink → Row WholeClient ClientStage =
      λ l. record { own = new; link = l; sends = row.sends; save = row.save; entries = sent ∷ row.entries; seals = row.seals }
      in
      ap with_link (on_link link row.link) ∙ row_by new (row_ahead link row) sent s callee cookie is

  module _ {E : Type 0} (own : WholeClient) (mon_client : MonClient) (row : Made SealedAhead) (sent : Entry) (a : mon_client ≡ own.mon_client) (is : IsSent mon_client at link ask row) where
    pub row_sent : (r : Result (Made SealedAhead) E) → IfOk r (λ behind. behind ≡ record row { entries = sent ∷ row.entries })
        → IfOk r (IsSentRow own at.reading at.draw.now.bytes sent ask link)
    row_sent (Err e) b = tt
    row_sent (Ok behind) b =
        let made : WholeClient → Made SealedAhead → Row WholeClient ClientStage = λ new m. as_row new (row_on (of_kind ToDaemon link) m) in
        let IsAhead : Made SealedAhead → Type 0 = λ m. IfSome m.link (IsAheadAt (ToDaemon link.stage)) in
        let entered : Made SealedAhead = record row { entries = sent ∷ row.entries } in
        let ahead : IsAhead entered = ahead_as link row.link is.1 in (
          (λ new s callee cookie same keeps.
              let IsMade : MonClient → Type 0 = λ x. IsRowAt (caller x None) at link (sends_on_it s callee cookie) (row_ahead link row) in
              let on = rw keeps at (is.0 None) in
              ap (made new) b ∙ row_ahead_by new row sent s callee cookie (subst IsMade (a ∙ sym same) on)),
          subst IsAhead (sym b) ahead,
        )

-- ---- the link on which it is sent

-- it is found by its number, where the numbers rise
abbrev IsThere : ℕ → List ClientLink → ClientLink → Type 0
IsThere low links l = (low ≤ l.number) × (with_number (λ (x : ClientLink). x.number) l.number links ≡ Some l)

first_found : (daemon : Name) (low : ℕ) (links : List ClientLink) (l : ClientLink) (k : Kept) → AreRising low links → first_call daemon links ≡ Some (l, k) → IsThere low links l
first_found daemon low [] l k rising e = absurd (cc)
first_found daemon low (x ∷ xs) l k rising e = by_kept (call_open daemon x.stage) e (first_found daemon (x.number + 1) xs l k rising.1)
  where
    of_pair : Option (ClientLink × Kept) → ClientLink
    of_pair (Some p) = p.0
    of_pair None = x

    here : x ≡ l → IsThere low (x ∷ xs) l
    here same = subst (IsThere low (x ∷ xs)) same (rising.0, by_test (x.number == x.number) (eq-eqb x.number x.number refl))
      where
        by_test : (t : Bool) → t ≡ true → cond t (Some x) (with_number (λ (y : ClientLink). y.number) x.number xs) ≡ Some x
        by_test true is = refl
        by_test false is = absurd cc

    later : IsThere (x.number + 1) xs l → IsThere low (x ∷ xs) l
    later h =
        let low_x : low ≤ x.number = rising.0 in
        let above : x.number + 1 ≤ l.number = h.0 in
        (omega arith, by_test (x.number == l.number) (ne_eqb x.number l.number (λ same. omega arith)))
      where
        by_test : (t : Bool) → t ≡ false → cond t (Some x) (with_number (λ (y : ClientLink). y.number) l.number xs) ≡ Some l
        by_test false is = h.1
        by_test true is = absurd cc

    by_kept : (o : Option Kept) → call_or x o (first_call daemon xs) ≡ Some (l, k) → (first_call daemon xs ≡ Some (l, k) → IsThere (x.number + 1) xs l) → IsThere low (x ∷ xs) l
    by_kept (Some kept) is more = here (ap of_pair is)
    by_kept None is more = later (more is)

module _ (daemon : Name) (all : List ClientLink) (link : Link CallStage) (h : AreHeld all) (first : IsFirstCall daemon all link) where
  found_by : (o : Option Kept) → call_open daemon (ToDaemon link.stage) ≡ o → with_number (λ (x : ClientLink). x.number) link.number all ≡ Some (of_kind ToDaemon link)
  found_by None keeps = absurd (opened_keeps daemon link.stage first.opened first.called keeps)
  found_by (Some kept) keeps = let one = rw keeps at first.first in (first_found daemon 0 all (of_kind ToDaemon link) kept h.rising one).1

  pub call_found : with_number (λ (x : ClientLink). x.number) link.number all ≡ Some (of_kind ToDaemon link)
  call_found = found_by (call_open daemon (ToDaemon link.stage)) refl

  -- the operation was sealed ahead on it
  pub standing : (o : Option SealedAhead) → IfSome o (IsAheadAt (ToDaemon link.stage)) → IfSome o (IsStanding link.number all)
  standing None ahead = tt
  standing (Some a) ahead = record { link = of_kind ToDaemon link; found = call_found; ahead = ahead }

-- ---- it waits, and is sent

-- the same table has the same links
pub links_same : {E : Type 0} (old new : Table ClientLink) (r : Result Effects E) → OnErr r (new ≡ old) → OnErr r (new.links ≡ old.links)
links_same old new (Ok out) t = tt
links_same old new (Err e) t = let links_of : Table ClientLink → List ClientLink = λ table. table.links in ap links_of t

module _ (own new : WholeClient) (all : List ClientLink) (daemon : Name) (operation : Operation) (seq : ℕ) (sent : Entry) (reading : ℕ) (draw : List ℕ) (h : AreHeld all) where
  abbrev due_to : Outcome WholeClientNode
  due_to = sends_on (node_of (with_pushed daemon operation own) all) sent (seq, operation) reading draw (first_call daemon all)

  module _ (links : List ClientLink) (link : Link CallStage) (row : Made SealedAhead) (first : IsFirstCall daemon all link)
      (is : IsSentRow own reading draw sent (seq, operation) link row) where
    abbrev made_row : Made ClientLink
    made_row = row_on (of_kind ToDaemon link) row

    keeps_as : (o : Option Kept) → call_open daemon (ToDaemon link.stage) ≡ o → kept_open link.stage ≡ o
    keeps_as o keeps = sym (opens_as daemon link.stage first.opened first.called) ∙ keeps

    abbrev row_of : Secured → Callee → ℕ → ClientRow
    row_of s callee cookie = entered_before sent (operation_sent (with_pushed daemon operation own) reading draw (seq, operation) link s callee cookie)

    out_by : (out : Effects) (o : Option Kept) → call_open daemon (ToDaemon link.stage) ≡ o → IsCarried (λ (l : ClientLink). l.number) link.number false made_row all links out
        → new ≡ with_pushed daemon operation own → IsStep (node_of new links) due_to out × AreHeld links
    out_by out None keeps c n = absurd (opened_keeps daemon link.stage first.opened first.called keeps)
    out_by out (Some (s, (callee, cookie))) keeps c n =
        let one = rw keeps at first.first in
        let made = is.0 (with_pushed daemon operation own) s callee cookie refl (keeps_as (Some (s, (callee, cookie))) keeps) in
        let step = steps.row_step abridged_client_link client-forgets-links (with_pushed daemon operation own) (with_pushed daemon operation own) link.number false all links made_row
        (row_of s callee cookie) out made h c in
        let held = steps.row_held abridged_client_link client-forgets-links (with_pushed daemon operation own) link.number false all links made_row (row_of s callee cookie) out made h c in
        (rw (one, n) step, held)

    pub out_step : {E : Type 0} (r : Result Effects E) → IfOk r (λ out. IsCarried (λ (l : ClientLink). l.number) link.number false made_row all links out)
        → IfOk r (λ _. new ≡ with_pushed daemon operation own) → IfOk r (IsStep (node_of new links) due_to)
    out_step (Err e) c n = tt
    out_step (Ok out) c n = (out_by out (call_open daemon (ToDaemon link.stage)) refl c n).0

    pub out_held : {E : Type 0} (r : Result Effects E) → IfOk r (λ out. IsCarried (λ (l : ClientLink). l.number) link.number false made_row all links out)
        → IfOk r (λ _. new ≡ with_pushed daemon operation own) → OnErr r (links ≡ all) → AreHeld links
    out_held (Err e) c n t = rw t h
    out_held (Ok out) c n t = (out_by out (call_open daemon (ToDaemon link.stage)) refl c n).1
