use Rattle.std.proofs.Common.{ℕ, List, ◌+◌, ◌++◌, length, ap, ◌∙◌, arith, length-append}
use Rattle.cx_gcm.specs.GcmKeyOf.{gcm_key_of}
use Rattle.cx_secure.specs.Parts.{nonce_at, part, sealed_parts}
use Rattle.cx_secure.specs.Plains.{inline_of, nonempty, one_if}
use Rattle.cx_secure.proofs.PlainLaws.{inline_len, last_short, second_short, three_sealed}
use Rattle.cx_secure.proofs.putting.sealed_behind.Goals as goal

pub seal_part-requires : goal.seal_part-requires
seal_part-requires c =
    let first = c.args.first.now in
    omega (arith, ap length c.head_plain-head.ensures, length-append c.args.preamble.now (inline_of first), inline_len first, c.requires.preamble)

pub seal_some-requires : goal.seal_some-requires
seal_some-requires c = omega (arith, ap length (c.deref_mut.ensures.value ∙ c.in_ok-second.ensures), second_short c.args.first.now c.requires.first)

pub seal_some-requires-2 : goal.seal_some-requires-2
seal_some-requires-2 c = omega (arith, ap length (c.deref_mut-2.ensures.value ∙ c.in_ok-last.ensures), last_short c.args.others.now c.requires.others c.requires.few)

pub returns : goal.returns
returns c =
    let key : List ℕ = gcm_key_of c.args.key.now in
    let fixed : List ℕ = c.args.way.now.fixed in
    let counter : ℕ = c.args.way.now.counter in
    three_sealed key fixed counter (counter + 1 + c.one_if.result) c.args.preamble.now c.args.first.now c.args.others.now c.seal_part.new.into c.seal_some.new.into c.seal_some-2.new.into
    (c.in_ok-seal_part.ensures ∙ ap (λ t. t ++ part key c.nonce_at.result c.head_plain-head.result) c.in_ok-text.ensures ∙ ap (λ n. part key n c.head_plain-head.result) c.nonce_at.ensures.value
    ∙ ap (part key (nonce_at fixed counter)) c.head_plain-head.ensures)
    (c.in_ok-seal_some.ensures ∙ ap (λ t. c.seal_part.new.into ++ sealed_parts key fixed (counter + 1) (nonempty t)) (c.deref_mut.ensures.value ∙ c.in_ok-second.ensures))
    (c.in_ok-seal_some-2.ensures ∙ ap (λ t. c.seal_some.new.into ++ sealed_parts key fixed (counter + 1 + c.one_if.result) (nonempty t)) (c.deref_mut-2.ensures.value ∙ c.in_ok-last.ensures))
    (ap (λ n. counter + 1 + n) (c.one_if.ensures.value ∙ ap (λ n. one_if n) c.saturating_sub.ensures))
