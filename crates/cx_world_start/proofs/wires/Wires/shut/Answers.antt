use Rattle.std.proofs.Common.{List, get_or, sym, ap, ◌∙◌}
use Rattle.cx_run.specs.Wires.{Wire, wire_of}
use Rattle.cx_run.specs.Worlds.{shuts_link}
use Rattle.cx_world_start.proofs.links.Sending.{shuts_more}
use Rattle.cx_world_start.proofs.wires.Wires.shut.Goals as goal

pub loop-number-preserved : goal.loop-number-preserved
loop-number-preserved c =
    let number = get_or c.args.numbers.now c.loop-number.number-index 0 in
    c.in_ok-shut_link.ensures.ok
    ∙ ap (λ (wires : List Wire). shuts_link c.args.who.now wires (wire_of number wires)) c.loop-number.invariant
    ∙ sym (shuts_more c.args.who.now c.args.self.now c.args.numbers.now c.loop-number.number-index 0 c.loop-number-test.true)
