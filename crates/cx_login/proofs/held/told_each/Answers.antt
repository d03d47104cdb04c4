use Rattle.std.proofs.Common.{drop, ◌+◌, sym, ap, ◌∙◌}
use Rattle.cx_steps.specs.cx_journal.specs.declared.premises.KeyKind.TheVariants as kind
use Rattle.cx_login.specs.Unlocking.{told, told_each}
use Rattle.cx_login.proofs.Unlocking.{ahead, told_each_at, ahead_more, ahead_none, ahead_all}
use Rattle.cx_login.proofs.held.told_each.Goals as goal

pub returns-in_default : goal.returns-in_default
returns-in_default c =
    ahead_none (told kind.Session c.args.key.now c.part-item.result) (told_each c.args.key.now (drop (c.loop-part.part-index + 1) c.args.parts.now)) (told_each c.args.key.now c.args.parts.now)
    c.loop-part.held c.args.seals.now c.loop-part.seals c.told.new.seals (rw c.in_default.is at c.in_ok-ticket.ensures)
    (sym (ap (ahead c.loop-part.seals c.loop-part.held) (told_each_at c.args.key.now c.args.parts.now c.loop-part.part-index c.part-item.result c.loop-part-test.true (cc))) ∙ c.loop-part.invariant)

pub loop-part-preserved : goal.loop-part-preserved
loop-part-preserved c =
    ahead_more (told kind.Session c.args.key.now c.part-item.result) (told_each c.args.key.now (drop (c.loop-part.part-index + 1) c.args.parts.now)) c.in-Some.ticket
    c.loop-part.held c.push.new.self c.loop-part.seals c.told.new.seals (rw c.in-Some.is at c.in_ok-ticket.ensures) c.in_ok-push.ensures.ok
    ∙ sym (ap (ahead c.loop-part.seals c.loop-part.held) (told_each_at c.args.key.now c.args.parts.now c.loop-part.part-index c.part-item.result c.loop-part-test.true (cc))) ∙ c.loop-part.invariant

pub returns : goal.returns
returns c =
    ahead_all c.args.key.now c.args.parts.now c.loop-part.part-index (told_each c.args.key.now c.args.parts.now) c.loop-part.held c.args.seals.now c.loop-part.seals c.loop-part-test.false c.loop-part.invariant
