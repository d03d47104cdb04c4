use Rattle.std.proofs.Common.{◌≡◌, refl, sym, ap, ◌∙◌, List, ℕ, [], ◌++◌, ◌+◌, ◌/◌, length, arith, get_or, drop}
use Rattle.std.specs.List.{concat, flat_map}
use Rattle.std.proofs.lemmas.List.Concat.{concat_is}
use Rattle.std.specs.Simd.{first_chunks}
use Rattle.cx_aes.specs.KeyOf.{key_of}
use Rattle.cx_cbc.specs.Chain.{uncbc}
use Rattle.cx_cbc.specs.Envelope.{initial_vector}
use Rattle.cx_cbc.proofs.Blocks.{fours-and-rest}
use Rattle.cx_cbc.proofs.Chaining.{fours_more, fours_all, uncbc_more, uncbc_all}
use Rattle.cx_cbc.proofs.chain.unchained.Goals as goal

pub loop-four-init : goal.loop-four-init
loop-four-init c =
    let blocks : List (List ℕ) = c.as_chunks.result.0.now in
    let all : flat_map (λ x. x) c.as_chunks-2.result.0.now ++ c.as_chunks-2.result.1.now ≡ blocks =
    ap (λ fours. flat_map (λ x. x) fours ++ c.as_chunks-2.result.1.now) c.as_chunks-2.ensures.front
    ∙ ap (λ rest. flat_map (λ x. x) (first_chunks 4 (length blocks / 4) blocks) ++ rest) c.as_chunks-2.ensures.back
    ∙ fours-and-rest (length blocks / 4) blocks (omega arith) in
    ap (λ plain. plain ++ concat (uncbc (key_of c.args.key.now) initial_vector (flat_map (λ x. x) c.as_chunks-2.result.0.now ++ c.as_chunks-2.result.1.now)))
    c.in_ok-plain.ensures.items
    ∙ ap (λ left. concat (uncbc (key_of c.args.key.now) initial_vector left)) (all ∙ c.as_chunks.ensures.front)

pub loop-four-preserved : goal.loop-four-preserved
loop-four-preserved c =
    let fours : List (List (List ℕ)) = c.as_chunks-2.result.0.now in
    let four : List (List ℕ) = get_or fours c.loop-four.four-index [] in
    let more = fours_more c.loop-four.plain.items (key_of c.args.key.now) c.loop-four.before fours c.as_chunks-2.result.1.now c.loop-four.four-index (omega arith)
    four refl c.four_unchained-sums.ensures.len in
    let made : c.extend_from_slice.new.self.items ≡ c.loop-four.plain.items ++ concat (uncbc (key_of c.args.key.now) c.loop-four.before four) =
    c.in_ok-extend_from_slice.ensures.items ∙ ap (λ xs. c.loop-four.plain.items ++ xs)
    (c.as_flattened.ensures.value ∙ sym (concat_is c.four_unchained-sums.result) ∙ ap concat c.four_unchained-sums.ensures.sums) in
    ap (λ out. out ++ concat (uncbc (key_of c.args.key.now) (get_or four 3 []) (flat_map (λ x. x) (drop (c.loop-four.four-index + 1) fours) ++ c.as_chunks-2.result.1.now))) made
    ∙ more ∙ c.loop-four.invariant

pub loop-block-init : goal.loop-block-init
loop-block-init c =
    sym (fours_all c.loop-four.plain.items (key_of c.args.key.now) c.loop-four.before c.as_chunks-2.result.0.now c.as_chunks-2.result.1.now c.loop-four.four-index (omega arith))
    ∙ c.loop-four.invariant

pub loop-block-preserved : goal.loop-block-preserved
loop-block-preserved c =
    let rest : List (List ℕ) = c.as_chunks-2.result.1.now in
    let more = uncbc_more c.loop-block.plain.items (key_of c.args.key.now) c.loop-block.before rest c.loop-block.block-index (omega arith)
    (get_or rest c.loop-block.block-index []) refl in
    cc (more, c.add-sum.ensures, c.decrypt.ensures.value, c.in_ok-extend_from_slice-2.ensures.items, c.loop-block.invariant)

pub returns : goal.returns
returns c =
    sym (uncbc_all c.loop-block.plain.items (key_of c.args.key.now) c.loop-block.before c.as_chunks-2.result.1.now c.loop-block.block-index (omega arith))
    ∙ c.loop-block.invariant
