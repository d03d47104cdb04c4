use Rattle.std.proofs.Common.{◌+◌, ap, sym, ◌∙◌}
use Rattle.cx_shared.specs.declared.looks.Look.{Look}
use Rattle.cx_shared.proofs.Renews.{publishes, published_one, settled_after, known_after}
use Rattle.cx_shared.proofs.writer.show.Goals as goal

pub publish_as-requires : goal.publish_as-requires
publish_as-requires g c next is =
    let same = published_one c.args.writer.desk.shown.value c.args.look.now next _ c.requires.waiting is in
    publishes _ _ _ _ c.requires.shown.1 (ap (λ (l : Look). l.count) same ∙ (c.requires.next ∙ ap (λ n. n + 1) (sym c.requires.shown.1)))

pub returns-clause-settled : goal.returns-clause-settled
returns-clause-settled g c = settled_after c.publish_as.result.1 _ _ c.args.writer.desk.shown.value c.args.look.now _ _ _ _ _ (c.publish_as.ensures.succeeds tt) c.requires.waiting c.publish_as.ensures.values c.publish_as.ensures.rule c.requires.next

pub returns-clause-known : goal.returns-clause-known
returns-clause-known g c = known_after c.publish_as.result.1 _ _ c.args.writer.desk.shown.value c.args.look.now _ _ _ _ _ (c.publish_as.ensures.succeeds tt) c.requires.waiting c.publish_as.ensures.values c.publish_as.ensures.rule
