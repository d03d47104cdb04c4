use Rattle.std.proofs.Common.{◌≡◌, take, get_or, arith, rules}
use Rattle.cx_audit.proofs.ruled.Knowing.{all_leaks, leaks_more}
use Rattle.cx_audit.proofs.ruled.Walks.{one_more}
use Rattle.cx_audit.proofs.known.leaked.Goals as goal

pub loop-place-preserved : goal.loop-place-preserved
loop-place-preserved c =
    let whole = c.args.entries.now in
    let place = c.loop-place.place in
    let e = c.index-entries-place.result in
    let same : get_or whole place e ≡ e = search rules in
    let more = one_more whole place e (omega arith) same in
    rw more (leaks_more (take place whole) e c.loop-place.leaks c.note_leak.new.index c.loop-place.invariant c.in_ok-note_leak.ensures)

pub returns : goal.returns
returns c = all_leaks c.args.entries.now c.loop-place.place c.loop-place.leaks (omega arith) c.loop-place.invariant
