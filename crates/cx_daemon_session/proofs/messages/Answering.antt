-- The frames behind an operation can be announced, and how long an answer is.
use Rattle.std.proofs.Common.{◌≡◌, ℕ, ◌+◌, ◌<◌, ◌≤◌, ◌^◌, List, [], ◌∷◌, length, refl, sym, subst, arith}
use Rattle.std.proofs.lemmas.List.Elements.{All-cons, All-nil}
use Rattle.cx_control.specs.Upkeep.{ack_layout}
use Rattle.cx_enc.specs.Forms.{little}
use Rattle.cx_frame.specs.Frames.{IsAnnounceable}
use Rattle.cx_frame.specs.declared.frame.Frame.{Frame}
use Rattle.cx_frame.specs.declared.frame.Segment.{Segment}
use Rattle.cx_journal.specs.declared.outcomes.Outcome.{Outcome}
use Rattle.cx_node.specs.cx_rules.specs.Messages.{acknowledgement, segment}
use Rattle.cx_daemon_session.specs.cx_rules_session.specs.Hosting.{outcome_number}
use Rattle.cx_wire.specs.Operations.{answer_layout}

length-ack : (seq : ℕ) → length (ack_layout.form.text (record { seq = seq })) ≡ 8
unfolding little
length-ack seq = refl

ack_announced : (seq : ℕ) → IsAnnounceable (acknowledgement seq)
ack_announced seq =
    let one : Segment = segment (ack_layout.form.text (record { seq = seq })) in
    record {
      tag_low = omega arith;
      tag_high = omega arith;
      count_low = omega arith;
      count_high = omega arith;
      each = All-cons (λ (s : Segment). length s.bytes < 2 ^ 32) one [] (omega (arith, length-ack seq)) (All-nil (λ (s : Segment). length s.bytes < 2 ^ 32));
    }

pub control_announced : (f : Frame) (seq : ℕ) → f ≡ acknowledgement seq → IsAnnounceable f
control_announced f seq is = subst IsAnnounceable (sym is) (ack_announced seq)

length-answer : (outcome : ℕ) (answer : List ℕ) → length (answer_layout.form.text (record { outcome = outcome; bytes = answer })) ≡ 5 + length answer
unfolding little
length-answer outcome answer = omega arith

pub answer_short : (body : List ℕ) (outcome : Outcome) (answer : List ℕ) → body ≡ answer_layout.form.text (record { outcome = outcome_number outcome; bytes = answer })
    → length answer ≤ 65536 → length body < 2 ^ 32
answer_short body outcome answer is short =
    subst (λ (b : List ℕ). length b < 2 ^ 32) (sym is) (omega (arith, length-answer (outcome_number outcome) answer))
