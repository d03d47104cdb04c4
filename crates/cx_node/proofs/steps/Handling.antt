-- What stands ahead on a link is handled by a row of the rules, as it was made.
use Rattle.std.proofs.Common.{◌≡◌, ◌∙◌, ℕ, ◌+◌, List, [], drop, Result, Ok, Err, IfOk, sym, ap, arith}
use Rattle.cx_frame.specs.declared.frame.Frame.{Frame}
use Rattle.cx_link.specs.Turning.{TakesBanner, TakesPlain, TakesSecure}
use Rattle.cx_link.specs.Wires.{SecureWire, Wire, secure_ahead, secured_link, wired}
use Rattle.cx_node.specs.cx_rules.specs.Fronts.{banner_next, keys_behind, opened_parts, plain_next, secure_next}
use Rattle.cx_node.specs.cx_rules.specs.Links.{Link}
use Rattle.cx_node.specs.cx_rules.specs.Rows.{Arrival, Handles, Row, Turned, at, turned_by, with_opened}
use Rattle.cx_node.specs.cx_rules.specs.Secured.{Keys}
use Rattle.cx_steps.specs.declared.seals.SealEntry.{SealEntry}
use Rattle.cx_node.specs.steps.Making.{IsHandled, IsRowOf, Makes, row_due}
use Rattle.cx_node.specs.steps.Steps.{IsTurn}
use Rattle.cx_node.specs.declared.came.Came.{Came}
use Rattle.cx_node.specs.declared.came.Came.TheVariants as came
use Rattle.cx_node.specs.declared.steps_rows.NoRow.{NoRow}
use Rattle.cx_node.specs.declared.steps_rows.NodeRow.{NodeRow}
use Rattle.cx_node.proofs.steps.MadeRows.{behind_due}

-- an arrival on a secured link of this number, on which these bytes came, and of which so many were taken; and another stage
pub record Coming (Own Stage : Type 0) : Type 0 where
  pub a : Arrival Own Stage
  pub number : ℕ
  pub came : List ℕ
  pub n : ℕ
  pub stage : Stage
  pub next : Stage

module _ {Own Stage : Type 0} where
  abbrev pub taken : Coming Own Stage → Arrival Own Stage
  taken h = at h.a (record { number = h.number; received = h.came; taken = h.n; sent = []; stage = h.stage })

  -- the same on the link that holds what is left, in the other stage
  abbrev pub left : Coming Own Stage → Arrival Own Stage
  left h = at h.a (record { number = h.number; received = drop h.n h.came; taken = 0; sent = []; stage = h.next })

  -- what a row says hangs on the bytes that are left alone
  abbrev pub Same : (Link Stage → Link Stage) → Coming Own Stage → (Arrival Own Stage → Row Own Stage) → Type 0
  Same abridged h row = row_due abridged (row (taken h)) ≡ row_due abridged (row (left h))

module _ {Own Stage Change : Type 0} (abridged : Link Stage → Link Stage) (changed : Own → Change → Own) (a : Arrival Own Stage) (number : ℕ) where
  abbrev handled : Row Own Stage → Turned Own Stage
  handled row = Handles row

  abbrev Made : Type 0
  Made = Result (NodeRow (Link Stage) Change) NoRow

  -- a turn that is handled comes to what its row does
  handles_so : (link : Link Stage) (due : Turned Own Stage) (opened : List SealEntry) (made : Made) (come : Came (Link Stage) Change) → IsHandled a.me number opened made come
      → ((row : NodeRow (Link Stage) Change) → IsRowOf a.me number opened made row → IsTurn abridged changed a.own link due (came.Handles row))
      → IsTurn abridged changed a.own link due come
  handles_so link due opened made (came.Waits new) h so = absurd h
  handles_so link due opened made (came.Refuses why seals) h so = absurd h
  handles_so link due opened made (came.Handles row) h so = so row h

  all_so : {E : Type 0} (link : Link Stage) (due : Turned Own Stage) (opened : List SealEntry) (made : Made) (r : Result (Came (Link Stage) Change) E)
      → IfOk r (IsHandled a.me number opened made)
      → ((row : NodeRow (Link Stage) Change) → IsRowOf a.me number opened made row → IsTurn abridged changed a.own link due (came.Handles row))
      → IfOk r (IsTurn abridged changed a.own link due)
  all_so link due opened made (Ok come) h so = handles_so link due opened made come h so
  all_so link due opened made (Err e) h so = tt

  -- the peer's banner
  banner_handled : (old new : Wire) (stage : Stage) (rule : Arrival Own Stage → Row Own Stage) (made : Made) (row : NodeRow (Link Stage) Change)
      → TakesBanner old new → Makes abridged changed (at a (wired number new stage)) (rule (at a (wired number new stage))) made → IsRowOf a.me number [] made row
      → IsTurn abridged changed a.own (wired number old stage)
      (turned_by (λ link _. rule (at (at a (wired number old stage)) link)) (banner_next (wired number old stage))) (came.Handles row)
  banner_handled old new stage rule made row t m is =
      let whole = behind_due abridged changed (at a (wired number new stage)) [] (rule (at a (wired number new stage))) made row m is in
      let k = rw t.behind at whole.row in
      record { made = rw t.front (ap handled k); stays = tt; number_is = whole.number_is }

  -- a plain frame
  plain_handled : (old new : Wire) (stage : Stage) (f : Frame) (rule : Arrival Own Stage → Frame → Row Own Stage) (made : Made)
      (row : NodeRow (Link Stage) Change) → TakesPlain old new f
      → Makes abridged changed (at a (wired number new stage)) (rule (at a (wired number new stage)) f) made → IsRowOf a.me number [] made row
      → IsTurn abridged changed a.own (wired number old stage)
      (turned_by (λ (link, g) _. rule (at (at a (wired number old stage)) link) g) (plain_next (wired number old stage))) (came.Handles row)
  plain_handled old new stage f rule made row t m is =
      let whole = behind_due abridged changed (at a (wired number new stage)) [] (rule (at a (wired number new stage)) f) made row m is in
      let k = rw t.behind at whole.row in
      record { made = rw t.front (ap handled k); stays = tt; number_is = whole.number_is }

  -- a secure frame: the row is made on the link that holds what is left of the bytes, in the stage with the keys behind it
  secure_handled : (old new : SecureWire) (stage next : Stage) (f : Frame) (opened : List SealEntry) (rule : Arrival Own Stage → Frame → Keys → Row Own Stage)
      (made : Made) (row : NodeRow (Link Stage) Change) → TakesSecure old new f [] opened
      → ((n : ℕ) → Same abridged (record { a = a; number = number; came = old.ahead; n = n; stage = stage; next = next }) (λ b. rule b f (keys_behind old.keys f)))
      → Makes abridged changed (at a (secured_link number new.ahead next)) (rule (at a (secured_link number new.ahead next)) f new.keys) made
      → IsRowOf a.me number opened made row
      → IsTurn abridged changed a.own (secured_link number old.ahead stage)
      (turned_by (λ (link, g, keys) opened. with_opened opened (rule (at (at a (secured_link number old.ahead stage)) link) g keys))
      (secure_next old.keys (secured_link number old.ahead stage))) (came.Handles row)
  secure_handled old new stage next f opened rule made row t same m is =
      let b : Arrival Own Stage = at a (secured_link number new.ahead next) in
      let whole = behind_due abridged changed b opened (rule b f new.keys) made row m is in
      let k = rw (t.behind, t.opened) at whole.row in
      let none : 0 + t.len ≡ t.len = omega arith in
      let behind : Row Own Stage → Row Own Stage = λ r. with_opened (opened_parts (secure_ahead old)) r in
      record { made = rw (t.front, none) (ap handled (k ∙ sym (ap behind (same t.len)))); stays = tt; number_is = whole.number_is }

  -- ---- the turns that come to these

  pub banner_turn : {E : Type 0} (old new : Wire) (stage : Stage) (rule : Arrival Own Stage → Row Own Stage) (made : Made) (r : Result (Came (Link Stage) Change) E)
      → TakesBanner old new → Makes abridged changed (at a (wired number new stage)) (rule (at a (wired number new stage))) made
      → IfOk r (IsHandled a.me number [] made)
      → IfOk r (IsTurn abridged changed a.own (wired number old stage)
      (turned_by (λ link _. rule (at (at a (wired number old stage)) link)) (banner_next (wired number old stage))))
  banner_turn old new stage rule made r t m h =
      all_so (wired number old stage) (turned_by (λ link _. rule (at (at a (wired number old stage)) link)) (banner_next (wired number old stage))) [] made r h
      (λ row is. banner_handled old new stage rule made row t m is)

  pub plain_turn : {E : Type 0} (old new : Wire) (stage : Stage) (f : Frame) (rule : Arrival Own Stage → Frame → Row Own Stage) (made : Made)
      (r : Result (Came (Link Stage) Change) E) → TakesPlain old new f
      → Makes abridged changed (at a (wired number new stage)) (rule (at a (wired number new stage)) f) made → IfOk r (IsHandled a.me number [] made)
      → IfOk r (IsTurn abridged changed a.own (wired number old stage)
      (turned_by (λ (link, g) _. rule (at (at a (wired number old stage)) link) g) (plain_next (wired number old stage))))
  plain_turn old new stage f rule made r t m h =
      all_so (wired number old stage) (turned_by (λ (link, g) _. rule (at (at a (wired number old stage)) link) g) (plain_next (wired number old stage))) [] made r h
      (λ row is. plain_handled old new stage f rule made row t m is)

  pub secure_turn : {E : Type 0} (old new : SecureWire) (stage next : Stage) (f : Frame) (opened : List SealEntry)
      (rule : Arrival Own Stage → Frame → Keys → Row Own Stage) (made : Made) (r : Result (Came (Link Stage) Change) E) → TakesSecure old new f [] opened
      → ((n : ℕ) → Same abridged (record { a = a; number = number; came = old.ahead; n = n; stage = stage; next = next }) (λ b. rule b f (keys_behind old.keys f)))
      → Makes abridged changed (at a (secured_link number new.ahead next)) (rule (at a (secured_link number new.ahead next)) f new.keys) made
      → IfOk r (IsHandled a.me number opened made)
      → IfOk r (IsTurn abridged changed a.own (secured_link number old.ahead stage)
      (turned_by (λ (link, g, keys) opened. with_opened opened (rule (at (at a (secured_link number old.ahead stage)) link) g keys))
      (secure_next old.keys (secured_link number old.ahead stage))))
  secure_turn old new stage next f opened rule made r t same m h =
      all_so (secured_link number old.ahead stage)
      (turned_by (λ (link, g, keys) opened. with_opened opened (rule (at (at a (secured_link number old.ahead stage)) link) g keys))
      (secure_next old.keys (secured_link number old.ahead stage))) opened made r h
      (λ row is. secure_handled old new stage next f opened rule made row t same m is)
