use Rattle.std.proofs.Common.{◌-◌, ap, length, sym, ◌∙◌, arith}
use Rattle.cx_frame.specs.declared.frame.Segment.{Segment}
use Rattle.cx_secure.specs.Plains.{one_if}
use Rattle.cx_secure.proofs.PlainLaws.{parts_counted}
use Rattle.cx_secure.proofs.putting.parts_of.Goals as goal

pub returns-clause-value : goal.returns-clause-value
returns-clause-value c =
    parts_counted c.args.frame.now c.all-segments.result.now c.index-segments-0.result c.one_if.result c.one_if-2.result c.all-segments.ensures
    (omega (arith, c.requires.count_low, ap length c.all-segments.ensures)) c.index-segments-0.is
    (c.one_if.ensures.value ∙ ap (λ n. one_if n) (c.saturating_sub.ensures ∙ ap (λ b. length b - 48) (c.bytes-first.ensures ∙ ap (λ (s : Segment). s.bytes) (sym c.index-segments-0.is))))
    c.one_if-2.ensures.value
