-- What stands ahead on a secured incoming link is decided as the rule has it, from the link that holds what is left of the bytes.
use Rattle.std.proofs.Common.{◌≡◌, ◌∙◌, ℕ, ◌+◌, List, [], drop, Option, Some, None, Result, Ok, Err, refl, sym, ap, subst, arith}
use Rattle.cx_verifying.specs.cx_frame.specs.declared.frame.Frame.{Frame}
use Rattle.cx_verifying.specs.cx_link.specs.Turning.{TakesSecure}
use Rattle.cx_verifying.specs.cx_link.specs.Wires.{SecureWire, secure_ahead, secured_link}
use Rattle.cx_verifying.specs.cx_rules.specs.Fronts.{keys_behind, opened_parts, secure_next}
use Rattle.cx_verifying.specs.cx_rules.specs.Holdings.{MonClient}
use Rattle.cx_verifying.specs.cx_rules.specs.Rows.{at}
use Rattle.cx_verifying.specs.cx_rules.specs.Secured.{Keys}
use Rattle.cx_verifying.specs.cx_rules_session.specs.Asks.{Asks, Finished, Asking}
use Rattle.cx_verifying.specs.cx_rules_session.specs.Forgets.{AskAlike}
use Rattle.cx_verifying.specs.cx_rules_session.specs.IncomingLinks.{IncomingArrival, IncomingStage}
use Rattle.cx_verifying.specs.cx_rules_session.specs.Hosting.{Deciding, Hosted, decided_by}
use Rattle.cx_steps.specs.declared.seals.SealEntry.{SealEntry}
use Rattle.cx_verifying.specs.cx_node.proofs.steps.Handling.{Coming, left, taken}
use Rattle.cx_daemon_session.specs.coming.Hosted.{AreOne, asks_due, due_behind}

-- ---- two that are one

pub one-trans : (a b c : Deciding Hosted) → AreOne a b → AreOne b c → AreOne a c
one-trans (Finished x) (Finished y) (Finished z) h k = h ∙ k
one-trans (Asking first next) (Asking second after) (Asking third last) h k = (h.0 ∙ k.0, λ reply. one-trans (next reply) (after reply) (last reply) (h.1 reply) (k.1 reply))
one-trans (Finished x) (Asking second after) c h k = absurd h
one-trans (Asking first next) (Finished y) c h k = absurd h
one-trans (Finished x) (Finished y) (Asking third last) h k = absurd k
one-trans (Asking first next) (Asking second after) (Finished z) h k = absurd k

pub one-refl : (a : Deciding Hosted) → AreOne a a
one-refl (Finished x) = refl
one-refl (Asking call next) = (refl, λ reply. one-refl (next reply))

pub one-from : (a b : Deciding Hosted) → a ≡ b → AreOne a b
one-from a b e = subst (λ (x : Deciding Hosted). AreOne a x) e (one-refl a)

-- ---- a secure frame

abbrev pub IncomingComing : Type 0
IncomingComing = Coming MonClient IncomingStage

-- what is decided hangs on the bytes that are left alone
abbrev pub SameDecided : IncomingComing → (IncomingArrival → Deciding Hosted) → Type 0
SameDecided h decide = (opened : List SealEntry) → AreOne (due_behind opened (decide (left h))) (due_behind opened (decide (taken h)))

pub secure_decided : (a : IncomingArrival) (number : ℕ) (old new : SecureWire) (stage next : IncomingStage) (f : Frame) (opened : List SealEntry)
    (decide : IncomingArrival → Frame → Keys → Deciding Hosted) (made : Deciding Hosted) → TakesSecure old new f [] opened
    → ((n : ℕ) → SameDecided (record { a = a; number = number; came = old.ahead; n = n; stage = stage; next = next }) (λ b. decide b f (keys_behind old.keys f)))
    → AreOne made (due_behind opened (decide (at a (secured_link number new.ahead next)) f new.keys))
    → AreOne made (asks_due (decided_by (λ (link, g, keys). decide (at (at a (secured_link number old.ahead stage)) link) g keys)
    (secure_next old.keys (secured_link number old.ahead stage))))
secure_decided a number old new stage next f opened decide made t same m =
    let h : IncomingComing = record { a = a; number = number; came = old.ahead; n = t.len; stage = stage; next = next } in
    let keys : Keys = keys_behind old.keys f in
    let k = rw (t.behind, t.opened) at m in
    let none : 0 + t.len ≡ t.len = omega arith in
    rw (t.front, none) (one-trans made (due_behind (opened_parts (secure_ahead old)) (decide (left h) f keys)) (due_behind (opened_parts (secure_ahead old)) (decide (taken h) f keys)) k
    (same t.len (opened_parts (secure_ahead old))))
