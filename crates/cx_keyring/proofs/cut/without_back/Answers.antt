use Rattle.std.proofs.Common.{◌∙◌, sym}
use Rattle.cx_keyring.proofs.Blanks.{dropped_last, kept_last}
use Rattle.cx_keyring.proofs.cut.without_back.Goals as goal

pub returns-then-not-is_blank : goal.returns-then-not-is_blank
returns-then-not-is_blank c =
    sym (kept_last c.loop-rest.rest.now c.in-len1-up.len_at_least (sym c.is_blank.ensures ∙ c.if-not-is_blank.true)) ∙ c.loop-rest.invariant

pub loop-rest-preserved : goal.loop-rest-preserved
loop-rest-preserved c =
    dropped_last c.loop-rest.rest.now c.in-len1-up.len_at_least (sym c.is_blank.ensures ∙ c.if-not-is_blank.false) ∙ c.loop-rest.invariant
