use Rattle.std.proofs.Common.{◌≡◌, ◌++◌, ◌-◌, ◌%◌, length, take, replicate, length-append, refl, ap, ◌∙◌, arith}
use Rattle.cx_cbc.specs.Envelope.{head, enveloped}
use Rattle.cx_cbc.proofs.Padding.{padded_by}
use Rattle.cx_cbc.proofs.envelope.enveloped.Goals as goal

pub returns : goal.returns
unfolding enveloped
returns c =
    let front : c.extend_from_slice-2.new.self.items ≡ head ++ c.args.content.now =
    c.in_ok-extend_from_slice-2.ensures.items
    ∙ ap (λ xs. xs ++ c.args.content.now) (c.in_ok-extend_from_slice.ensures.items ∙ ap (λ xs. xs ++ head) c.in_ok-plain.ensures.items) in
    let count : c.len.result ≡ length c.extend_from_slice-2.new.self.items =
    (let nine : length head ≡ 9 = refl in
    omega (arith, c.len.ensures, c.in_ok-extend_from_slice-2.ensures.len, c.in_ok-extend_from_slice.ensures.len, c.in_ok-plain.ensures.len, ap length front, length-append head c.args.content.now)) in
    c.in_ok-extend_from_slice-3.ensures.items
    ∙ ap (λ n. c.extend_from_slice-2.new.self.items ++ take (16 - n % 16) (replicate 16 (16 - n % 16))) count
    ∙ ap (λ xs. xs ++ take (16 - length xs % 16) (replicate 16 (16 - length xs % 16))) front ∙ padded_by (head ++ c.args.content.now)
