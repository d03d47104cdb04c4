use Rattle.std.proofs.Common.{◌≡◌, List, ℕ, Result, Err, length, take, drop, slice_index, subst, ap, ◌∙◌}
use Rattle.cx_frame.specs.declared.frame.Segment.{Segment}
use Rattle.cx_frame.specs.declared.refusals.FrameRefusal.{FrameRefusal}
use Rattle.cx_frame.specs.Frames.{Agrees, first_at, first_len, rest_at}
use Rattle.cx_frame.proofs.Cutting.{first_large, first_refused}
use Rattle.cx_frame.proofs.reading.rest_at.Goals as goal

pub first_at-requires : goal.first_at-requires
first_at-requires c = λ some.
    let e : length c.split_at.result.0.now ≡ first_len (slice_index c.args.head.now.lengths 0) = c.split_at.ensures.front_len ∙ c.first_len.ensures.value in
    rw e (first_large (slice_index c.args.head.now.lengths 0) (λ z. some (e ∙ z)))

pub returns-in-Err : goal.returns-in-Err
unfolding rest_at
returns-in-Err c =
    let n : ℕ = first_len (slice_index c.args.head.now.lengths 0) in
    let align : ℕ = slice_index c.args.head.now.aligns 0 in
    let answer : Result Segment FrameRefusal = Err c.in-Err.refusal in
    let e : c.split_at.result.0.now ≡ take n c.args.bytes.now = c.split_at.ensures.front ∙ ap (λ k. take k c.args.bytes.now) c.first_len.ensures.value in
    first_refused c.args.head.now (drop n c.args.bytes.now) c.in-Err.refusal (first_at align (take n c.args.bytes.now)) (subst (λ (b : List ℕ). Agrees answer (first_at align b)) e c.in-Err.ensures)
