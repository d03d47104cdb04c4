-- AUTH_BAD_METHOD is short.
use Rattle.std.proofs.Common.{ℕ, ◌≡◌, ◌<◌, ◌^◌, List, [], length, refl, arith}
use Rattle.std.proofs.lemmas.List.Elements.{All-cons, All-nil}
use Rattle.cx_control.specs.BadMethod.{bad_method_layout, written_method}
use Rattle.cx_enc.specs.Forms.{little}
use Rattle.cx_frame.specs.Frames.{IsAnnounceable, IsAboveLimit}
use Rattle.cx_frame.specs.declared.frame.Frame.{Frame}
use Rattle.cx_frame.specs.declared.frame.Segment.{Segment}
use Rattle.cx_frame.specs.declared.refusals.FrameRefusal.TheVariants.{TooLong}
use Rattle.cx_rules.specs.Acceptor.{bad_method}

abbrev denial : ℕ → List ℕ
denial code = bad_method_layout.form.text (written_method (record { method = 2; result = code }))

length-denial : (code : ℕ) → length (denial code) ≡ 24
unfolding little
length-denial code = refl

pub announced : (f : Frame) (code : ℕ) → f ≡ bad_method code → IsAnnounceable f
announced f code is =
    let short = length-denial code in
    rw is (record {
      tag_low = omega arith;
      tag_high = omega arith;
      count_low = omega arith;
      count_high = omega arith;
      each = All-cons (λ (s : Segment). length s.bytes < 2 ^ 32) (record { align = 8; bytes = denial code }) [] (omega (arith, short)) (All-nil (λ (s : Segment). length s.bytes < 2 ^ 32));
    })

pub not_long : (f : Frame) (code n : ℕ) → f ≡ bad_method code → IsAboveLimit 65536 f (TooLong n) → ⊥
not_long f code n is above =
    let short = length-denial code in
    let long : IsAboveLimit 65536 (bad_method code) (TooLong n) = rw is at above in
    omega (arith, short, long.0, long.1)
