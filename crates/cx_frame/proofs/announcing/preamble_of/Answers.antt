use Rattle.std.proofs.Common.{subst}
use Rattle.cx_frame.proofs.Cutting.{allowed_frame, AreFields, made_fields}
use Rattle.cx_frame.proofs.announcing.preamble_of.Goals as goal

pub returns-clause-allowed : goal.returns-clause-allowed
returns-clause-allowed c = λ limit within.
    allowed_frame limit c.args.frame.now c.requires
    (subst AreFields c.all-segments.ensures
    (made_fields c.all-segments.result.now _ _ _ _ _ _ _ _ c.length_at.ensures c.length_at-2.ensures c.length_at-3.ensures c.length_at-4.ensures
    c.align_at.ensures c.align_at-2.ensures c.align_at-3.ensures c.align_at-4.ensures
    c.length_at.type_inv c.length_at-2.type_inv c.length_at-3.type_inv c.length_at-4.type_inv c.align_at.type_inv c.align_at-2.type_inv c.align_at-3.type_inv c.align_at-4.type_inv))
    within
