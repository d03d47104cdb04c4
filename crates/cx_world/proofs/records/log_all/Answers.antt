use Rattle.cx_world.proofs.Logging.{logs_one_more}
use Rattle.cx_world.proofs.records.log_all.Goals as goal

pub loop-entry-preserved : goal.loop-entry-preserved
loop-entry-preserved c =
    λ leaked log k.
    logs_one_more c.enter.new.self leaked log c.args.entries.now c.loop-entry.entry-index c.entry-item.result c.loop-entry-test.true c.entry-item.is
    (c.in_ok-enter.ensures.ok leaked _ (c.loop-entry.invariant leaked log k))
