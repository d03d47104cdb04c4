use Rattle.std.proofs.Common.{◌∙◌, ℕ, List, [], ◌∷◌, ◌++◌, cond, sym, ap}
use Rattle.cx_daemon_events.specs.Shutting.{is_shut_by}
use Rattle.cx_daemon_events.proofs.Scanning.{picked_more}
use Rattle.cx_daemon_events.proofs.scans.numbers_in.Goals as goal

pub loop-place-preserved : goal.loop-place-preserved
loop-place-preserved c =
    let behind : List ℕ → List ℕ = λ ns. ns ++ cond (is_shut_by c.args.session c.args.but c.in-Some.link.now) (c.in-Some.link.now.number ∷ []) [] in
    c.in_ok-adds.ensures ∙ ap behind c.loop-place.invariant
    ∙ sym (picked_more (is_shut_by c.args.session c.args.but) c.args.links.now.links c.loop-place.place c.in-Some.link.now c.in-Some.ensures)
