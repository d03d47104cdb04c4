use Rattle.std.proofs.Common.{false, refl, sym, ap, ◌∙◌}
use Rattle.cx_caps.specs.Grammar.{words_of}
use Rattle.cx_caps.specs.Reading.{conditions_from}
use Rattle.cx_caps.proofs.Judged.{judged, judged_first, judged_next}
use Rattle.cx_caps.proofs.conditions.conditions_allow.Goals as goal

pub conditions-init : goal.conditions-init
conditions-init c =
    judged_first (record { pool = false; namespace = false; object_prefix = false }) c.args.ask.now
    (conditions_from false (words_of c.args.words.now)) refl refl refl

pub conditions-preserved : goal.conditions-preserved
conditions-preserved c =
    c.conditions.invariant
    ∙ ap (λ words. judged c.conditions.seen c.args.ask.now (conditions_from false words)) c.in-Some.ensures.cut
    ∙ ap (judged c.conditions.seen c.args.ask.now) c.in-Some-first_condition.ensures.some
    ∙ judged_next c.conditions.seen c.add.new.self c.args.ask.now
    (record { kind = c.in-Some-first_condition.kind; value = c.in-Some-first_condition.value.now })
    (conditions_from false (words_of c.in-Some-first_condition.after.now))
    (sym c.has.ensures ∙ c.if-has.false) (sym c.is_met_by.ensures ∙ c.if-not-is_met_by.false) c.add.ensures
