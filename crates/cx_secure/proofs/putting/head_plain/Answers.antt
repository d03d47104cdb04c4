use Rattle.std.proofs.Common.{◌≡◌, ◌-◌, ◌++◌, List, ℕ, length, take, ap, ◌∙◌}
use Rattle.std.specs.Prelude.{replicate}
use Rattle.cx_secure.specs.Plains.{filled, inline_of}
use Rattle.cx_secure.proofs.Lists.{take_min, zeros_left}
use Rattle.cx_secure.proofs.putting.head_plain.Goals as goal

pub returns : goal.returns
unfolding inline_of filled
returns c =
    let preamble : List ℕ = c.args.preamble.now in
    let inline : List ℕ = c.split_at.result.0.now in
    let kept : inline ≡ take 48 c.args.first.now = c.split_at.ensures.front ∙ ap (λ k. take k c.args.first.now) c.min.ensures ∙ take_min 48 c.args.first.now in
    let zeros : c.split_at_mut-filled.result.1.now ≡ replicate (48 - length inline) 0 =
    c.split_at_mut-filled.ensures.back ∙ zeros_left (length inline) c.split_at_mut-front.result.1.now c.split_at_mut-front.ensures.back in
    ap (λ p. p ++ (c.copy_from_slice-2.new.self ++ c.split_at_mut-filled.result.1.now)) c.copy_from_slice.ensures.after
    ∙ ap (λ t. preamble ++ (t ++ c.split_at_mut-filled.result.1.now)) c.copy_from_slice-2.ensures.after
    ∙ ap (λ z. preamble ++ (inline ++ z)) zeros ∙ ap (λ t. preamble ++ (t ++ replicate (48 - length t) 0)) kept
