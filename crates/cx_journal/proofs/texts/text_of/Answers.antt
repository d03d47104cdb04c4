-- No more tickets are issued than there are entries.
use Rattle.std.proofs.Common.{take, arith, length-take}
use Rattle.cx_journal.specs.Places.{blob_of}
use Rattle.cx_journal.proofs.CountsLemmas.{no_more}
use Rattle.cx_journal.proofs.texts.text_of.Goals as goal

pub put_line-requires : goal.put_line-requires
put_line-requires c =
    let few = no_more blob_of (take c.loop-entry.entry-index c.args.entries.now) in
    let count = c.loop-entry.invariant.counts.tickets.count in
    omega (arith, length-take c.loop-entry.entry-index c.args.entries.now)
