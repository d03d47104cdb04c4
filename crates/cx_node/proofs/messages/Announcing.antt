-- The frame of a message can be announced.
use Rattle.std.proofs.Common.{◌≡◌, ℕ, ◌<◌, ◌^◌, List, [], ◌∷◌, length, sym, subst, arith}
use Rattle.std.proofs.lemmas.List.Elements.{All-cons, All-nil}
use Rattle.cx_control.specs.cx_enc.specs.Forms.{little}
use Rattle.cx_frame.specs.Frames.{IsAnnounceable}
use Rattle.cx_frame.specs.declared.frame.Frame.{Frame}
use Rattle.cx_frame.specs.declared.frame.Segment.{Segment}
use Rattle.cx_node.specs.cx_rules.specs.Messages.{message, segment}
use Rattle.cx_wire.specs.Headers.{header_layout, written_header}
use Rattle.cx_wire.specs.declared.headers.Header.{Header}

length-header : (header : Header) → length (header_layout.form.text (written_header header)) ≡ 41
unfolding little
length-header header = omega arith

message_announced : (header : Header) (body : List ℕ) → length body < 2 ^ 32 → IsAnnounceable (message header body)
message_announced header body short =
    let first : Segment = segment (header_layout.form.text (written_header header)) in
    record {
      tag_low = omega arith;
      tag_high = omega arith;
      count_low = omega arith;
      count_high = omega arith;
      each = All-cons (λ (s : Segment). length s.bytes < 2 ^ 32) first (segment body ∷ []) (omega (arith, length-header header))
          (All-cons (λ (s : Segment). length s.bytes < 2 ^ 32) (segment body) [] short (All-nil (λ (s : Segment). length s.bytes < 2 ^ 32)));
    }

pub announced : (f : Frame) (header : Header) (body : List ℕ) → f ≡ message header body → length body < 2 ^ 32 → IsAnnounceable f
announced f header body is short = subst IsAnnounceable (sym is) (message_announced header body short)
