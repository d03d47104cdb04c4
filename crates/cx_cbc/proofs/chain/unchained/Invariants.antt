use Rattle.std.proofs.Common.{◌≡◌, ◌++◌, drop}
use Rattle.std.specs.List.{concat, flat_map}
use Rattle.cx_aes.specs.KeyOf.{key_of}
use Rattle.cx_cbc.specs.Chain.{blocks_of, uncbc}
use Rattle.cx_cbc.specs.Envelope.{initial_vector}
use Rattle.cx_cbc.proofs.chain.unchained.Given as goal

abbrev pub invariant-loop-four : goal.invariant-loop-four
invariant-loop-four l =
    l.plain.items ++ concat (uncbc (key_of l.key) l.before (flat_map (λ x. x) (drop l.four-index l.fours) ++ l.rest))
    ≡ concat (uncbc (key_of l.key) initial_vector (blocks_of l.sealed))

abbrev pub invariant-loop-block : goal.invariant-loop-block
invariant-loop-block l =
    l.plain.items ++ concat (uncbc (key_of l.key) l.before (drop l.block-index l.rest)) ≡ concat (uncbc (key_of l.key) initial_vector (blocks_of l.sealed))
