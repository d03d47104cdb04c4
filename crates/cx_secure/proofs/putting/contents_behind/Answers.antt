use Rattle.std.proofs.Common.{ℕ, List, [], ◌∷◌, ◌+◌, ◌++◌, ap, ◌∙◌}
use Rattle.cx_secure.specs.Parts.{nonce_at}
use Rattle.cx_secure.specs.Plains.{one_if}
use Rattle.cx_secure.proofs.PlainLaws.{three_contents}
use Rattle.cx_secure.proofs.putting.contents_behind.Goals as goal

pub returns : goal.returns
returns c =
    let fixed : List ℕ = c.args.fixed.now in
    let counter : ℕ = c.args.counter in
    three_contents fixed counter (counter + 1 + c.one_if.result) c.args.preamble.now c.args.first.now c.args.others.now c.hand_out.new.contents c.hand_out_second.new.contents c.hand_out_last.new.contents
    (c.in_ok-hand_out.ensures.ok ∙ ap (λ (cs : List (List ℕ)). cs ++ (c.nonce_at.result ++ c.head_plain-head.result) ∷ []) c.new-contents.ensures
    ∙ ap (λ n. (n ++ c.head_plain-head.result) ∷ []) c.nonce_at.ensures.value ∙ ap (λ t. (nonce_at fixed counter ++ t) ∷ []) c.head_plain-head.ensures)
    c.in_ok-hand_out_second.ensures c.in_ok-hand_out_last.ensures
    (ap (λ n. counter + 1 + n) (c.one_if.ensures.value ∙ ap (λ n. one_if n) c.saturating_sub.ensures))
