use Rattle.std.proofs.Common.{◌∙◌, ℕ, List, [], ◌∷◌, ◌++◌, cond, sym, ap}
use Rattle.cx_node.proofs.kinds.Scanning.{picked_more}
use Rattle.cx_node.specs.cx_rules_session.specs.ClientRule.{is_to_monitor}
use Rattle.cx_client_events.specs.linking.Kinds.{ClientLink}
use Rattle.cx_client_events.proofs.scans.numbers_to_monitor.Goals as goal

pub loop-place-preserved : goal.loop-place-preserved
loop-place-preserved c =
    let behind : List ℕ → List ℕ = λ ns. ns ++ cond (is_to_monitor c.in-Some.link.now.stage) (c.in-Some.link.now.number ∷ []) [] in
    c.in_ok-adds.ensures ∙ ap behind c.loop-place.invariant
    ∙ sym (picked_more (λ (l : ClientLink). is_to_monitor l.stage) c.args.links.now.links c.loop-place.place c.in-Some.link.now c.in-Some.ensures)
