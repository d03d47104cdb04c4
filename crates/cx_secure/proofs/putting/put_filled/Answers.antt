use Rattle.std.proofs.Common.{◌-◌, ◌++◌, length, take, ap, ◌∙◌, arith, append_assoc}
use Rattle.std.specs.Prelude.{replicate}
use Rattle.cx_secure.specs.Plains.{filled}
use Rattle.cx_secure.proofs.Lists.{zeros_taken}
use Rattle.cx_secure.proofs.putting.put_filled.Goals as goal

pub returns : goal.returns
unfolding filled
returns c =
    let into = c.args.into.now.items in
    let bytes = c.args.bytes.now in
    c.in_ok-extend_from_slice-2.ensures.items ∙ ap (λ t. t ++ c.split_at.result.0.now) c.in_ok-extend_from_slice.ensures.items
    ∙ append_assoc into bytes c.split_at.result.0.now
    ∙ ap (λ z. into ++ (bytes ++ z)) (c.split_at.ensures.front ∙ ap (λ k. take k (replicate 64 0)) c.saturating_sub.ensures ∙ zeros_taken (c.args.room - length bytes) 64 (omega (arith, c.requires)))
