use Rattle.std.proofs.Common.{◌≡◌, take, get_or, Some, None, arith, rules}
use Rattle.cx_audit.specs.ruled.Tests.{broken_by}
use Rattle.cx_audit.proofs.ruled.Knowing.{knows_more, knows_none}
use Rattle.cx_audit.proofs.ruled.Walks.{all_legal, first_is, kept_more, one_more, step_found}
use Rattle.cx_audit.proofs.finding.first_breach.Goals as goal

pub loop-place-init : goal.loop-place-init
loop-place-init c = record {
  knows = knows_none c.args.entries.now c.in_ok-leaks.leaks c.new-known.result c.in_ok-leaks.ensures c.new-known.ensures;
  kept = tt;
}

pub returns-in-Some : goal.returns-in-Some
returns-in-Some c =
    let whole = c.args.entries.now in
    let place = c.loop-place.place in
    let e = c.index-entries-place.result in
    let same : get_or whole place e ≡ e = search rules in
    let is : Some c.in-Some.rule ≡ broken_by c.loop-place.known e = search rules in
    first_is whole place e c.in-Some.rule (omega arith) same c.loop-place.invariant.kept
    (step_found whole place c.loop-place.known e (Some c.in-Some.rule) c.loop-place.invariant.knows c.loop-place.invariant.kept is)

pub loop-place-preserved : goal.loop-place-preserved
loop-place-preserved c =
    let whole = c.args.entries.now in
    let place = c.loop-place.place in
    let e = c.index-entries-place.result in
    let same : get_or whole place e ≡ e = search rules in
    let is : None ≡ broken_by c.loop-place.known e = search rules in
    let more = one_more whole place e (omega arith) same in
    record {
      knows = rw more (knows_more whole (take place whole) c.loop-place.known c.note.new.self e c.loop-place.invariant.knows (record {
        leaks = c.in_ok-note.ensures.leaks;
        owners = c.in_ok-note.ensures.owners;
        tickets = c.in_ok-note.ensures.tickets;
        blobs = c.in_ok-note.ensures.blobs;
        looks = c.in_ok-note.ensures.looks;
        sent = c.in_ok-note.ensures.sent;
        handled = c.in_ok-note.ensures.handled;
        restarts = c.in_ok-note.ensures.restarts;
        turns = c.in_ok-note.ensures.turns;
      }));
      kept = rw more (kept_more whole (take place whole) e c.loop-place.invariant.kept (step_found whole place c.loop-place.known e None c.loop-place.invariant.knows c.loop-place.invariant.kept is));
    }

pub returns : goal.returns
returns c = all_legal c.args.entries.now c.loop-place.place (omega arith) c.loop-place.invariant.kept
